use Rattle.vbr_list.proofs.Names.{◌≡◌, ◌≤◌, ℕ, ◌+◌, Option, Some, None, sym, ap, ◌∙◌, subst, arith, false, IsSome}
use Rattle.vbr_list.proofs.Names.{refl, Beyond, bucket_of, HasKey, Held, held_kept, IsHeld, IsKeyRead, IsNext}
use Rattle.vbr_list.proofs.Names.{IsNextRead, IsSlot, keeps_on, knows, link_of, LooksOn, MeetsBehind, met_place}
use Rattle.vbr_list.proofs.Names.{next_steps, PassView, reads_on, ReadsIn, ReadsNext, said, said_if, Smaller, Start}
use Rattle.vbr_list.proofs.Names.{steps_met, stood_before, Trace, Visited, Visits}
use Rattle.vbr_list.proofs.traversals.Disturbing.{moves_epoch}
use Rattle.vbr_list.proofs.pieces.Going.{goes_on, goes_read}
use Rattle.vbr_list.proofs.pieces.Observing.{reads_observe}
use Rattle.vbr_list.proofs.traversals.Reaching.{next_inside, node_unmarked, slot_same}
use Rattle.vbr_list.proofs.inserts.Sufficing.{any_error}
use Rattle.vbr_list.proofs.pieces.WideWords.{layout_at}
use Rattle.vbr_list.proofs.visiting.visit_at.Goals as goal

in_three : {p q : PassView} (next : Option ℕ) → IsSome next → ReadsIn p q (next_steps next) → ReadsIn p q 3
in_three None some x = absurd (cc)
in_three (Some s) some x = x

-- its key is read too
looks_five : {p q r : PassView} (a : ℕ) (here : Held) → IsSome (link_of here.word).slot →
    ReadsIn p q (next_steps (link_of here.word).slot) → ReadsIn q r 2 → LooksOn p r a (a + 3 + 2)
looks_five a here some x y =
    record {
      goes = goes_on (goes_read a (in_three (link_of here.word).slot some x)) (goes_read (a + 3) y);
      observes = reads_observe (reads_on x y);
    }

-- what was read of the node
read_next : {p q : Trace} {here node : Held} → IsNext p q here (Some node) → ReadsNext p q here node
read_next n = record { slot = n.0; named = n.1; place = n.2; stood = n.3.stood }

-- ---- a marked node

pub returns-in-Some-of-clause-met : goal.returns-in-Some-of-clause-met
returns-in-Some-of-clause-met g c =
    let x = c.in_ok-node.ensures in
    let n = rw c.in-Some.is at x.next.read in
    let fresh = rw c.in-Some.is at x.next.fresh in
    let is = rw (layout_at c.layout.ensures.layout c.next-node.ensures.table) at c.in-Some-of.ensures.0 in
    let p = c.args.at.now.stepper.now in
    let q = c.next-node.new.at.stepper.now.trace in
    let P : Held → Type 0 = λ h. ReadsNext p.trace q (said c.args.at.now.slots.now c.args.here.now) h in
    let s : n.0 ≡ c.in-Some-of.marked.slot =
    slot_same c.in-Some-of.marked.slot n.0 (ap (λ (h : Held). h.at) is ∙ n.2) in
    record {
      keeps = x.next.keeps;
      visits = (
        let H : Held → Type 0 = IsHeld (knows q) in
            record {
              held = subst H (sym is) n.3.known;
              mark = rw (layout_at c.layout.ensures.layout c.next-node.ensures.table) at
                  c.in-Some-of.ensures.1;
            },
        n.1 ∙ ap Some s,
      );
      reads = subst P (sym is) (read_next n);
      fresh = fresh;
      count = omega arith;
    }

-- ---- a node whose key is read

pub returns-in_err-key-clause-looks : goal.returns-in_err-key-clause-looks
returns-in_err-key-clause-looks g c =
    looks_five c.args.used.now (said c.args.at.now.slots.now c.args.here.now) c.requires.some
    c.next-node.ensures.reads c.key_of-read.ensures.reads

pub returns-in_err-key-clause-moved : goal.returns-in_err-key-clause-moved
returns-in_err-key-clause-moved g c =
    let x = c.in_ok-node.ensures in
    let y = c.in_err-key.ensures in
    let m = moves_epoch _ y.moved in
    any_error c.from_residual-in_err-key.result
    (λ rollback. record { other = λ e. m.other (e ∙ sym x.next.keeps.epoch); fresh = m.fresh })

pub returns-then-key-number-clause-looks : goal.returns-then-key-number-clause-looks
returns-then-key-number-clause-looks g c =
    looks_five c.args.used.now (said c.args.at.now.slots.now c.args.here.now) c.requires.some
    c.next-node.ensures.reads c.key_of-read.ensures.reads

pub returns-else-key-number-clause-looks : goal.returns-else-key-number-clause-looks
returns-else-key-number-clause-looks g c =
    looks_five c.args.used.now (said c.args.at.now.slots.now c.args.here.now) c.requires.some
    c.next-node.ensures.reads c.key_of-read.ensures.reads

module _ {p q r : PassView} {m n : ℕ} (x : ReadsIn p q m) (y : ReadsIn q r n) (here : Held)
    (held : IsHeld (knows p.trace) here) {found : Option Held} (next : IsNextRead p q here found) (node : Held)
    (is : found ≡ Some node) {key : ℕ} (k : IsKeyRead q r node.at key)
    (plain : IsSlot node.at → (link_of node.word).mark ≡ false) where
  named : IsNext p.trace q.trace here (Some node)
  named = let P : Option Held → Type 0 = IsNext p.trace q.trace here in subst P is next.read

  has_key : HasKey p.trace r.trace here node key
  has_key = record {
    held = held_kept node k.keeps named.3.known;
    unmarked = node_unmarked here node named plain;
    keyed = k.key;
    of_bucket = λ bucket inside.
        ap (λ (start : Start). bucket_of start.shape key) y.quiet.same.start
        ∙ k.bucket bucket
        (next_inside bucket here node (record { held = held; inside = inside }) next.keeps (read_next named));
  }

  -- so it was met, in five steps, by what its key tells of it
  meets_key : (number before since : ℕ) (met : Visited) → met_place met ≡ node → since ≡ before + steps_met met →
      Visits p.trace r.trace here number met → MeetsBehind p.trace r.trace before since here number met
  meets_key number before since met place count visits =
      let P : Held → Type 0 = ReadsNext p.trace r.trace here in
      record {
        keeps = keeps_on next.keeps k.keeps;
        visits = visits;
        reads = subst P (sym place) (record {
          slot = named.0;
          named = named.1;
          place = named.2;
          stood = stood_before named.3.stood y.quiet;
        });
        fresh = k.fresh;
        count = count;
      }

pub returns-then-key-number-clause-met : goal.returns-then-key-number-clause-met
returns-then-key-number-clause-met g c =
    let x = c.in_ok-node.ensures in
    let y = c.in_ok-key.ensures in
    let node = said c.args.at.now.slots.now c.in-Some.node in
    let there = ap (said_if c.args.at.now.slots.now) c.in-Some.is in
    let plain = rw (layout_at c.layout.ensures.layout c.next-node.ensures.table) at c.in_default-of.ensures in
    meets_key x.reads y.reads (said c.args.at.now.slots.now c.args.here.now) c.requires.held x.next node there y.key
    plain
    c.args.number c.args.used.now _ (Smaller node) refl (omega arith) (record {
      key = c.in_ok-key.key;
      has = has_key x.reads y.reads (said c.args.at.now.slots.now c.args.here.now) c.requires.held x.next node there
          y.key plain;
      low = c.if-key-number.true;
    })

pub returns-else-key-number-clause-met : goal.returns-else-key-number-clause-met
returns-else-key-number-clause-met g c =
    let x = c.in_ok-node.ensures in
    let y = c.in_ok-key.ensures in
    let node = said c.args.at.now.slots.now c.in-Some.node in
    let there = ap (said_if c.args.at.now.slots.now) c.in-Some.is in
    let plain = rw (layout_at c.layout.ensures.layout c.next-node.ensures.table) at c.in_default-of.ensures in
    let high : c.args.number ≤ c.in_ok-key.key = let f = c.if-key-number.false in omega (arith, f) in
    meets_key x.reads y.reads (said c.args.at.now.slots.now c.args.here.now) c.requires.held x.next node there y.key
    plain
    c.args.number c.args.used.now _ (Beyond node c.in_ok-key.key) refl (omega arith) (
      has_key x.reads y.reads (said c.args.at.now.slots.now c.args.here.now) c.requires.held x.next node there y.key
          plain,
      high,
    )
