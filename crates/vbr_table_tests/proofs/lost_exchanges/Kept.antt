-- What a pass has in hand and is part of stays so through the calls of these tests.
use Rattle.std.proofs.Common.{◌≡◌, ◌∙◌, ap, ℕ, subst, true}
use Rattle.std.specs.Prelude.{Bool, ◌+◌, Result, Ok, Err, IfOk, IfErr, OnOk, Option}
use Rattle.vbr_machine.specs.Learning.{birth_in_hand}
use Rattle.vbr_machine.specs.declared.history.Op.TheVariants.{Get}
use Rattle.vbr_machine.specs.declared.knowledge.Holding.{Holding}
use Rattle.vbr_slots.specs.steps.Calls.{Took}
use Rattle.vbr_slots.specs.views.Views.{IsOf, PassView, TableView, Trace}
use Rattle.vbr_at_table.specs.answers.Answering.{FindsAnother}
use Rattle.vbr_at_table.specs.answers.Exchanges.{GivesBack, StoresIn}
use Rattle.vbr_at_table.specs.hands.Hands.{HandView, IsHandOf}
use Rattle.vbr_at_table.specs.reads.Held.{said_marked, said_rollback}
use Rattle.vbr_at_table.specs.reads.KeptKnowledge.{KeepsOwn}
use Rattle.vbr_at_table.specs.answers.Replacing.{IsReplaceable, ReplacesHeld}
use Rattle.vbr_at_table.specs.answers.Values.{AnswersEntry, steps_to_update, steps_to_value}
use Rattle.vbr_at_table.specs.declared.held.Held.{Held}
use Rattle.vbr_at_table.specs.declared.held.Marked.{Marked}
use Rattle.vbr_at_table.specs.declared.rollback.Rollback.{Rollback}
use Rattle.vbr_list.proofs.Lemmas.{of_on}

-- what is in hand stays there
pub hand_kept : {p q : PassView} (hand : HandView) → KeepsOwn p q → IsHandOf p hand → IsHandOf q hand
hand_kept hand keeps is =
    record {
      slot = keeps.hand ∙ is.slot;
      birth = ap (λ (h : Option Holding). birth_in_hand h) (keeps.in_hand hand.slot is.slot) ∙ is.birth;
    }

-- where nodes have values, a store of an item takes four steps
pub four : {p q : PassView} → p.trace.start.shape.values ≡ true → StoresIn p q (steps_to_update p.trace.start) →
    Took p.trace q.trace 4
four {p} {q} has stores =
    let T : Bool → Type 0 = λ values. Took p.trace q.trace (1 + steps_to_value values + 1 + 1) in
    subst T has stores.took

-- a pass is its table's once it has replaced a node or has lost that
pub own_replaced : (p q : PassView) {t : TableView} (hand : HandView) (value : ℕ) (node : Held)
    (r : Result Marked (HandView × Rollback)) →
    IfOk r (λ marked. ReplacesHeld p q node 7 value (said_marked t marked)) →
    IfErr r (λ back. GivesBack p q node hand (back.0, said_rollback t back.1)) → IsReplaceable p.trace node 7 0 →
    IsOf p.trace t → IsOf q.trace t
own_replaced p q hand value node (Ok marked) replaced lost is own =
    let old = is.valued is.has_values in
    of_on (replaced.made old.0 old.1).same own
own_replaced p q hand value node (Err back) replaced lost is own = of_on lost.exchange.quiet.same own

-- and once it has answered a get by it, or has lost that
pub own_told : (p q : Trace) {t : TableView} (node : Held) (r : Result (Unit {0}) Rollback) →
    OnOk r (AnswersEntry p q Get node) → IfErr r (λ why. FindsAnother p q node (said_rollback t why)) →
    IsReplaceable p node 7 0 → IsOf p t → IsOf q t
own_told p q node (Ok done) answers lost is own =
    let old = is.valued is.has_values in
    of_on (answers.answers 7 old.0 is.key_is (λ _. old.1)).made.same own
own_told p q node (Err rollback) answers lost is own = of_on lost.quiet.same own
