use Rattle.std.proofs.Common.{◌≡◌, ◌^◌, ◌<◌, [], Some, None, Ok, sym, ap, ◌∙◌, refl, subst, arith}
use Rattle.vbr_list.specs.declared.cursor.Cursor.{Cursor}
use Rattle.vbr_set.specs.calls.AtSets.{caller_at}
use Rattle.vbr_set.proofs.many_keys.Listing.{GathersAs, answered_as, at_set, gone_over, goes_over, later_bucket}
use Rattle.vbr_set.proofs.many_keys.Listing.{gathered_later, gathered_on, lists_none, nearer, nearer_later}
use Rattle.vbr_set.proofs.many_keys.Listing.{stands_short, stood, stood_not}
use Rattle.vbr_set.proofs.at_set.AtSet.go_over.Given as given
use Rattle.vbr_set.proofs.at_set.AtSet.go_over.Goals as goal

pub loop-key-init : goal.loop-key-init
loop-key-init g c =
    let P : Cursor → Type 0 =
    λ d. GathersAs g.G.Gathered.of (caller_at c.args.self.now) (caller_at c.args.self.now) d c.args.budget
    c.args.gathered × (d.from < 2 ^ 64) in
    let begun = subst P (sym c.first-cursor.ensures) (
      record {
        entries = [];
        lists = lists_none c.args.self.now.set.now c.args.self.now.pass.now c.args.budget c.law.ensures
            c.args.self.now.empty_hand;
        are = c.requires.none;
      },
      omega arith,
    ) in (begun.0, begun.1, refl, refl)

pub loop-key-smaller-else-not-add : goal.loop-key-smaller-else-not-add
loop-key-smaller-else-not-add g c =
    let whole : c.next_where-next.result ≡ Ok (Some (c.in-Ok-Some.key, c.in-Ok-Some.value)) =
    c.in-Ok-Some.is ∙ ap Ok (rw c.in-Ok-Some.is at c.in-Ok-Some.field-0-is) in
    let told = at_set (ap (λ s. s.now) c.loop-key.invariant.3) c.next_where-next.ensures.told in
    let gives = (answered_as whole told).iterates.gives.0 in
    nearer c.loop-key.self.pass.now.trace.start c.loop-key.cursor c.next_where-next.new.cursor c.in-Ok-Some.key
    c.loop-key.invariant.1 (omega arith) (omega arith) gives.0.was.0 gives.1

pub loop-key-preserved-else-not-add : goal.loop-key-preserved-else-not-add
loop-key-preserved-else-not-add g c =
    let whole : c.next_where-next.result ≡ Ok (Some (c.in-Ok-Some.key, c.in-Ok-Some.value)) =
    c.in-Ok-Some.is ∙ ap Ok (rw c.in-Ok-Some.is at c.in-Ok-Some.field-0-is) in (
      gathered_on _ c.args.budget c.loop-key.invariant.0 c.in-Ok-Some.key c.in-Ok-Some.value
          (answered_as whole (at_set (ap (λ s. s.now) c.loop-key.invariant.3) c.next_where-next.ensures.told))
          (c.add.ensures.added _ c.loop-key.invariant.0.are c.if-not-add.false),
      omega arith,
      c.next_where-next.ensures.same.pass ∙ c.loop-key.invariant.2,
      c.next_where-next.ensures.same.set ∙ c.loop-key.invariant.3,
    )

pub returns-then-not-add-clause-same : goal.returns-then-not-add-clause-same
returns-then-not-add-clause-same g c = record {
  pass = c.next_where-next.ensures.same.pass ∙ c.loop-key.invariant.2;
  set = c.next_where-next.ensures.same.set ∙ c.loop-key.invariant.3;
}

pub returns-then-not-add-clause-told : goal.returns-then-not-add-clause-told
returns-then-not-add-clause-told g c =
    goes_over _ c.args.budget c.loop-key.invariant.0.lists _
    (at_set (ap (λ s. s.now) c.loop-key.invariant.3) c.next_where-next.ensures.told) tt
    (c.add.ensures.lacks c.if-not-add.true)

pub returns-in-Ok-None-clause-same : goal.returns-in-Ok-None-clause-same
returns-in-Ok-None-clause-same g c = record {
  pass = c.next_where-next.ensures.same.pass ∙ c.loop-key.invariant.2;
  set = c.next_where-next.ensures.same.set ∙ c.loop-key.invariant.3;
}

pub returns-in-Ok-None-clause-told : goal.returns-in-Ok-None-clause-told
returns-in-Ok-None-clause-told g c =
    let whole : c.next_where-next.result ≡ Ok None =
    c.in-Ok-None.is ∙ ap Ok (rw c.in-Ok-None.is at c.in-Ok-None.field-0-is) in
    let y = answered_as whole (at_set (ap (λ s. s.now) c.loop-key.invariant.3) c.next_where-next.ensures.told) in
    let x = c.loop-key.invariant.0 in
    let over = gone_over _ c.args.budget x.lists c.law.ensures.start y in
    goes_over _ c.args.budget x.lists (Ok c.loop-key.gathered) y
    (record { entries = x.entries; over = over; are = x.are }) tt

pub returns-then-eq-clause-same : goal.returns-then-eq-clause-same
returns-then-eq-clause-same g c = record {
  pass = c.next_where-next.ensures.same.pass ∙ c.loop-key.invariant.2;
  set = c.next_where-next.ensures.same.set ∙ c.loop-key.invariant.3;
}

pub returns-then-eq-clause-told : goal.returns-then-eq-clause-told
returns-then-eq-clause-told g c =
    let y = answered_as c.in-Err.is (at_set (ap (λ s. s.now) c.loop-key.invariant.3) c.next_where-next.ensures.told) in
    let x = c.loop-key.invariant.0 in
    goes_over _ c.args.budget x.lists _ y tt (stands_short _ c.args.budget x.lists c.in-Err.refusal c.law.ensures y
    (stood c.loop-key.cursor c.next_where-next.new.cursor (sym c.eq.ensures ∙ c.if-eq.true)))

-- after a refusal with which it goes on, the cursor stands elsewhere
elsewhere : (g : given.Over) (c : goal.Else-eq g) → c.next_where-next.new.cursor ≡ c.loop-key.cursor → ⊥
elsewhere g c = stood_not c.loop-key.cursor c.next_where-next.new.cursor (sym c.eq.ensures ∙ c.if-eq.false)

pub loop-key-smaller : goal.loop-key-smaller
loop-key-smaller g c =
    let y = answered_as c.in-Err.is (at_set (ap (λ s. s.now) c.loop-key.invariant.3) c.next_where-next.ensures.told) in
    let later = later_bucket y.iterates.refused.moved (elsewhere g c) in
    nearer_later c.loop-key.cursor c.next_where-next.new.cursor c.loop-key.invariant.1 (omega arith) (omega arith) later

pub loop-key-preserved : goal.loop-key-preserved
loop-key-preserved g c =
    let y = answered_as c.in-Err.is (at_set (ap (λ s. s.now) c.loop-key.invariant.3) c.next_where-next.ensures.told) in
    let later = later_bucket y.iterates.refused.moved (elsewhere g c) in (
      gathered_later _ c.args.budget c.loop-key.invariant.0 c.in-Err.refusal y later,
      omega arith,
      c.next_where-next.ensures.same.pass ∙ c.loop-key.invariant.2,
      c.next_where-next.ensures.same.set ∙ c.loop-key.invariant.3,
    )
