use Rattle.vbr_list.proofs.Names.{◌≡◌, ℕ, ◌<◌, ◌≤◌, Option, Some, None, refl, sym, ap, ◌∙◌, subst, Cursor, Dimensions}
use Rattle.vbr_list.proofs.Names.{NextNode, Sought, Start}
use Rattle.vbr_list.proofs.iterations.ComingBy.{HasComeBy, come_none, come_on, come_short, come_to, come_to_end}
use Rattle.vbr_list.proofs.iterating.iterate.Goals as goal

pub loop-now-init : goal.loop-now-init
loop-now-init g c =
    (record { pass = refl; slots = refl }, come_none c.args.at.now.stepper.now c.args.cursor c.args.budget)

pub seek_in-found-requires-clause-within : goal.seek_in-found-requires-clause-within
seek_in-found-requires-clause-within g c = c.loop-now.invariant.1.within

pub returns-in-None-clause-iterates : goal.returns-in-None-clause-iterates
returns-in-None-clause-iterates g c =
    let shape : c.shape.result ≡ c.args.at.now.stepper.now.trace.start.shape =
    c.shape.ensures.shape ∙ ap (λ (s : Start). s.shape) (sym c.args.at.now.own.1) in
    let P : ℕ → Type 0 = λ n. c.loop-now.now.bucket < n in
    let here = subst P (c.buckets-buckets.ensures.buckets ∙ ap (λ (d : Dimensions). d.buckets) shape)
    c.loop-now-test.true in
    come_short c.seek_in-found.new.at.stepper.now c.law.ensures c.args.cursor c.loop-now.now c.loop-now.used
    c.seek_in-found.result.1 c.args.budget c.loop-now.invariant.1 here
    (rw c.in-None.is at c.seek_in-found.ensures.sought)

pub returns-in-Some-Some-clause-iterates : goal.returns-in-Some-Some-clause-iterates
returns-in-Some-Some-clause-iterates g c =
    let whole : c.seek_in-found.result.0 ≡ Some (Some c.in-Some-Some.node) =
    c.in-Some-Some.is ∙ ap Some (rw c.in-Some-Some.is at c.in-Some-Some.field-0-is) in
    let P : Option (Option NextNode) → Type 0 =
    Sought c.loop-now.at.stepper.now c.seek_in-found.new.at.stepper.now c.loop-now.now.bucket c.loop-now.now.from
    c.loop-now.used c.seek_in-found.result.1 c.args.budget in
    come_to c.seek_in-found.new.at.stepper.now c.law.ensures c.args.cursor c.loop-now.now c.loop-now.used
    c.seek_in-found.result.1 c.args.budget c.loop-now.invariant.1 c.past.result c.in-Some-Some.node
    (subst P whole c.seek_in-found.ensures.sought) c.past.ensures.last c.past.ensures.more

pub returns-clause-iterates : goal.returns-clause-iterates
returns-clause-iterates g c =
    let shape : c.shape.result ≡ c.args.at.now.stepper.now.trace.start.shape =
    c.shape.ensures.shape ∙ ap (λ (s : Start). s.shape) (sym c.args.at.now.own.1) in
    let P : ℕ → Type 0 = λ n. n ≤ c.loop-now.now.bucket in
    come_to_end c.args.cursor c.loop-now.now c.loop-now.used c.args.budget c.loop-now.invariant.1
    (subst P (c.buckets-buckets.ensures.buckets ∙ ap (λ (d : Dimensions). d.buckets) shape) c.loop-now-test.false)

pub loop-now-preserved : goal.loop-now-preserved
loop-now-preserved g c =
    let same = c.loop-now.invariant.0 in
    let whole : c.seek_in-found.result.0 ≡ Some None =
    c.in-Some-None.is ∙ ap Some (rw c.in-Some-None.is at c.in-Some-None.field-0-is) in
    let S : Option (Option NextNode) → Type 0 =
    Sought c.loop-now.at.stepper.now c.seek_in-found.new.at.stepper.now c.loop-now.now.bucket c.loop-now.now.from
    c.loop-now.used c.seek_in-found.result.1 c.args.budget in
    let on = come_on c.seek_in-found.new.at.stepper.now c.law.ensures c.args.cursor c.loop-now.now c.loop-now.used
    c.seek_in-found.result.1 c.args.budget c.loop-now.invariant.1 (subst S whole c.seek_in-found.ensures.sought) in
    let P : Cursor → Type 0 =
    λ d. HasComeBy c.args.at.now.stepper.now c.seek_in-found.new.at.stepper.now c.args.cursor d c.seek_in-found.result.1
    c.args.budget in (
      record {
        pass = c.seek_in-found.ensures.table.pass ∙ same.pass;
        slots = c.seek_in-found.ensures.table.slots ∙ same.slots;
      },
      subst P (sym c.next_bucket-now.ensures) on,
    )
