-- What a call leaves of its pass, of a set or of a map, whichever it is.
use Rattle.std.proofs.Common.{◌≡◌, ℕ, List, Result, Ok, Err, refl, inl, inr}
use Rattle.std.specs.Prelude.{◌⊎◌, IfErr, IfOk}
use Rattle.vbr_machine.specs.Runs.{Begins}
use Rattle.vbr_machine.specs.declared.history.Call.{Call}
use Rattle.vbr_machine.specs.declared.history.Op.{Op}
use Rattle.vbr_machine.specs.declared.history.Op.TheVariants.{Get, Has, Insert, Remove}
use Rattle.vbr_slots.specs.steps.Calls.{Quiet}
use Rattle.vbr_slots.specs.views.Views.{PassView, Trace}
use Rattle.vbr_at_table.specs.costs.Advances.{AdvancesWhereNeeded}
use Rattle.vbr_at_table.specs.hands.KeptSlots.{KeepsSlots, TakesNoSlot, WinsInNeed}
use Rattle.vbr_at_table.specs.declared.refusal.Refusal.{Refusal}
use Rattle.vbr_list.specs.look_ups.Cursors.{SeesMore}
use Rattle.vbr_set.specs.histories.Answers.{AnswersAll}
use Rattle.vbr_set.specs.calls.MapCalls.{IsCall, IsMapCall, IsSetCall, MapAnswersAll}
use Rattle.vbr_set.specs.calls.Members.{CallerView, CallsBy, MemberView}
use Rattle.vbr_set.specs.progress.Stretches.{inserts_begun}

-- an insert or a store may take a slot
pub record MayTakeSlot (op : Op) (p q : PassView) : Type 0 where
  pub inserts : inserts_begun op ≡ 1
  pub kept : KeepsSlots p q
  pub wins : WinsInNeed p q
  pub advances : AdvancesWhereNeeded p q

pub record LeavesPass (op : Op) (p q : PassView) : Type 0 where
  pub sees : SeesMore p.trace q.trace
  pub slots : TakesNoSlot p q ⊎ MayTakeSlot op p q

pub set_all : (calls : List Call) (p q : Trace) → AnswersAll calls p q → AnswersAll calls p q
set_all calls p q a = a

pub map_all : (calls : List Call) (p q : Trace) → MapAnswersAll calls p q → AnswersAll calls p q
map_all calls p q a = a.answers

module _ {A : Type 0} {Leave : List Call → Trace → Trace → Type 0} {told : A → List Call}
    {BoundsSo : Result A Refusal → Type 0} {m n : CallerView} {budget : ℕ}
    (all : (calls : List Call) (p q : Trace) → Leave calls p q → AnswersAll calls p q) where
  -- an answered call has seen more, and a refused one too
  sees_called : (answer : Result A Refusal) → CallsBy Leave told BoundsSo m n budget answer →
      SeesMore m.pass.trace n.pass.trace
  sees_called answer c =
      record { same = c.same; begins = begins answer c.answers c.quiet; is_run = c.safe.is_run }
    where
      begins : (answer : Result A Refusal) → IfOk answer (λ reply. Leave (told reply) m.pass.trace n.pass.trace) →
          IfErr answer (λ refusal. Quiet m.pass.trace n.pass.trace) → Begins m.pass.trace.seen n.pass.trace.seen
      begins (Ok reply) left quiet = (all (told reply) m.pass.trace n.pass.trace left).begins
      begins (Err refusal) left quiet = quiet.seen

  takes_none : {op : Op} (answer : Result A Refusal) → CallsBy Leave told BoundsSo m n budget answer →
      TakesNoSlot m.pass n.pass → LeavesPass op m.pass n.pass
  takes_none answer c none = record { sees = sees_called answer c; slots = inl none }

  may_take : (answer : Result A Refusal) → CallsBy Leave told BoundsSo m n budget answer →
      KeepsSlots m.pass n.pass → WinsInNeed m.pass n.pass → AdvancesWhereNeeded m.pass n.pass →
      LeavesPass Insert m.pass n.pass
  may_take answer c kept wins advances = record {
    sees = sees_called answer c;
    slots = inr (record { inserts = refl; kept = kept; wins = wins; advances = advances });
  }

set_leaves : (op : Op) (m n : MemberView) → IsSetCall op m n → LeavesPass op m.pass n.pass
set_leaves Insert m n (key, budget, answer, c) =
    may_take set_all answer c c.bounds.kept c.bounds.wins c.bounds.advances
set_leaves Get m n (key, budget, answer, c) = absurd c.bounds
set_leaves _ m n (key, budget, answer, c) = takes_none set_all answer c c.bounds.takes_no_slot

map_leaves : (op : Op) (m n : MemberView) → IsMapCall op m n → LeavesPass op m.pass n.pass
map_leaves Insert m n (inl (key, value, budget, answer, c)) =
    may_take map_all answer c c.bounds.kept c.bounds.wins c.bounds.advances
map_leaves Insert m n (inr (key, value, wanted, budget, answer, c)) =
    may_take map_all answer c c.bounds.0 c.bounds.1.wins c.bounds.1.advances
map_leaves Remove m n (inl (key, budget, answer, c)) = takes_none map_all answer c c.bounds.takes_no_slot
map_leaves Remove m n (inr (key, expected, budget, answer, c)) = takes_none map_all answer c c.bounds.takes_no_slot
map_leaves Has m n call = set_leaves Has m n call
map_leaves Get m n (key, budget, answer, c) = takes_none map_all answer c c.bounds.takes_no_slot

pub call_leaves : (op : Op) (m n : MemberView) → IsCall op m n → LeavesPass op m.pass n.pass
call_leaves op m n (inl call) = set_leaves op m n call
call_leaves op m n (inr call) = map_leaves op m n call
