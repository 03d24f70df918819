-- What is held stays held through the answered calls of a test.
-- A key stands behind the head of the one bucket.
use Rattle.std.proofs.Common.{◌≡◌, ℕ, refl, sym, subst, arith}
use Rattle.std.specs.Prelude.{Bool, true, false, Result, Ok, Err, IfOk, IfErr}
use Rattle.vbr_machine.specs.Start.{Start}
use Rattle.vbr_words.specs.declared.place.At.{At}
use Rattle.vbr_words.specs.declared.place.At.TheVariants.{Head}
use Rattle.vbr_words.specs.Buckets.{bucket_of}
use Rattle.vbr_words.proofs.Lemmas.{bucket_of-lt}
use Rattle.vbr_machine.specs.Knowledge.{Know}
use Rattle.vbr_machine.specs.Membership.{StandsBehind}
use Rattle.vbr_slots.specs.views.Views.{IsOf, TableView, Trace, knows}
use Rattle.vbr_at_table.specs.answers.Answering.{IsPresent}
use Rattle.vbr_at_table.specs.answers.Exchanges.{LosesExchange}
use Rattle.vbr_at_table.specs.reads.Held.{IsHeld, said_marked, said_rollback}
use Rattle.vbr_at_table.specs.reads.KeptKnowledge.{Keeps}
use Rattle.vbr_at_table.specs.answers.Values.{IsValued, MarksEntry, ValueAt}
use Rattle.vbr_at_table.specs.declared.held.Held.{Held}
use Rattle.vbr_at_table.specs.declared.held.Marked.{Marked}
use Rattle.vbr_at_table.specs.declared.rollback.Rollback.{Rollback}
use Rattle.vbr_at_table.proofs.Lemmas.{held_kept, key_on}
use Rattle.vbr_list.proofs.Lemmas.{of_on}

-- what was held before a call that answered is held after it
pub held_through : {T E : Type 0} {P : T → Type 0} {know later : Know} (held : Held) (r : Result T E) (x : T) →
    r ≡ Ok x → IfOk r P → ((y : T) → P y → Keeps know later) → IsHeld know held → IsHeld later held
held_through {T} {E} {P} held r x is told keeps h =
    let Q : Result T E → Type 0 = λ r. IfOk r P in
    held_kept held (keeps x (subst Q is told)) h

-- where there is one bucket, each key stands behind its head
in_bucket : (start : Start) (key : ℕ) → start.shape.buckets ≡ 1 → bucket_of start.shape key ≡ 0
in_bucket start key one = let low = bucket_of-lt start.shape key (omega (arith, one)) in omega (arith, low, one)

pub behind_head : (start : Start) (know : Know) (place : At) (key : ℕ) → place ≡ Head 0 → start.shape.buckets ≡ 1 →
    StandsBehind start know place key
behind_head start know place key head one =
    let P : At → Type 0 = λ place. StandsBehind start know place key in subst P (sym head) (in_bucket start key one)

-- ---- a node whose value was read, where nodes have values

-- what is known where a flag is up is known of some number
of_some : (P : ℕ → Type 0) (flag : Bool) → (flag ≡ true → (value : ℕ) × P value) → (value : ℕ) × (flag ≡ true → P value)
of_some P true known = let one = known refl in (one.0, λ _. one.1)
of_some P false known = (0, λ is. absurd (let z : false ≡ true = is in cc))

-- a present node stays present
pub present_kept : {know later : Know} (node : Held) → Keeps know later → IsPresent know node → IsPresent later node
present_kept node keeps is =
    record {
      held = held_kept node keeps is.held;
      key = (is.key.0, key_on node.at is.key.0 keeps is.key.1);
      unmarked = is.unmarked;
    }

-- a pass is its table's once it has marked the node, or has lost that
pub own_marked : (p q : Trace) {t : TableView} (node : Held) (r : Result Marked Rollback) →
    IfOk r (λ marked. MarksEntry p q node (said_marked t marked)) →
    IfErr r (λ why. LosesExchange p q node (said_rollback t why)) → IsPresent (knows p) node → IsValued p node.at →
    IsOf p t → IsOf q t
own_marked p q node (Ok marked) removed lost is valued own =
    let P : ℕ → Type 0 = λ value. ValueAt (knows p) node.at value in
    let value = of_some P p.start.shape.values valued in
    of_on (removed.made is.key.0 value.0 is.key.1 value.1).same own
own_marked p q node (Err rollback) removed lost is valued own = of_on lost.quiet.same own
