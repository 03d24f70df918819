-- Removed nodes that are still in their lists, by the caller that removed them: each is of a call under way, or of a call that ended without room to unlink its node.
use Rattle.std.specs.Prelude.{◌≡◌, ℕ, ◌+◌, ◌*◌, ◌<◌, ◌≤◌, Bool, Option, Result}
use Rattle.vbr_machine.specs.MarkedBy.{marked_by}
use Rattle.vbr_machine.specs.Nodes.{marked_after}
use Rattle.vbr_machine.specs.Runs.{Begins, BeginsFor}
use Rattle.vbr_machine.specs.Unretired.{removes}
use Rattle.vbr_machine.specs.Whereabouts.{Unstamped, number_at, sum_of}
use Rattle.vbr_machine.specs.declared.history.Op.{Op}
use Rattle.vbr_machine.specs.declared.history.Op.TheVariants.{Remove}
use Rattle.vbr_slots.specs.steps.Calls.{made_by}
use Rattle.vbr_slots.specs.views.Views.{PassView, TableView, Trace, new_trace}
use Rattle.vbr_at_table.specs.pools.Refusals.{LeavesRoom}
use Rattle.vbr_list.specs.look_ups.Cursors.{SeesMore}
use Rattle.vbr_list.specs.declared.wanted.Wanted.{Wanted}
use Rattle.vbr_at_table.specs.declared.refusal.Refusal.{Refusal}
use Rattle.vbr_set.specs.calls.MapCalls.{IsCall, RemovesEntry, RemovesIf, StoresEntry}
use Rattle.vbr_set.specs.calls.Members.{Called, MemberView}
use Rattle.vbr_set.specs.progress.Progressing.{SeesRun, most_unanswered}

-- how many of the nodes that the pass has marked are still in their lists
abbrev pub left_by : Trace → ℕ
left_by p = marked_by p.start p.seen p.who

-- a member went on without leaving a further node of its own: no remove of it was answered yes; or it made a remove or a store with room in the budget for one more piece, by which its node is unlinked
pub data LeavesNone (m n : MemberView) : Type 0 where
  none_removed : SeesMore m.pass.trace n.pass.trace → removes (made_by n.pass.trace) ≡ removes (made_by m.pass.trace) → LeavesNone m n
  removed : (key budget : ℕ) → (answer : Result Bool Refusal) → LeavesRoom m.pass n.pass budget → Called Remove m n key budget answer → LeavesNone m n
  removed_entry : (key budget : ℕ) → (answer : Result (Option ℕ) Refusal) → LeavesRoom m.pass n.pass budget → RemovesEntry m n key budget answer → LeavesNone m n
  removed_if : (key expected budget : ℕ) → (answer : Result (Option ℕ) Refusal) → LeavesRoom m.pass n.pass budget → RemovesIf m n key expected budget answer → LeavesNone m n
  stored : (key value : ℕ) → (wanted : Wanted) → (budget : ℕ) → (answer : Result (Option ℕ) Refusal) → LeavesRoom m.pass n.pass budget → StoresEntry m n key value wanted budget answer → LeavesNone m n

-- a pass that has seen nothing left none; it leaves no further one in this way, and at most one more by each call on a set or a map
pub record CallsLeaveNone : Type 0 where
  pub opened : (set : TableView) (who : ℕ) → left_by (new_trace set who) ≡ 0
  pub called : (m n : MemberView) → SeesRun m.pass.trace → LeavesNone m n → left_by n.pass.trace ≤ left_by m.pass.trace
  pub one : (op : Op) (m n : MemberView) → SeesRun m.pass.trace → IsCall op m n → left_by n.pass.trace ≤ left_by m.pass.trace + 1

-- a view is of the pass of this number, at the table of another
pub record IsViewOf (p : Trace) (who : ℕ) (view : PassView) : Type 0 where
  pub sees : SeesRun view.trace
  pub is : view.trace.who ≡ who
  pub start : view.trace.start ≡ p.start
  pub passes : view.trace.passes ≡ p.passes

-- at a moment a pass has left at most so many: as many as when it came back, if it made no step since; or one more, while its next call is under way
pub data LeavesAtMost (p : Trace) (who most : ℕ) : Type 0 where
  rests : (view : PassView) → IsViewOf p who view → BeginsFor who view.trace.seen p.seen → left_by view.trace ≤ most → LeavesAtMost p who most
  under_way : (op : Op) → (m n : MemberView) → IsViewOf p who m.pass → IsCall op m n → Begins m.pass.trace.seen p.seen → Begins p.seen n.pass.trace.seen → left_by m.pass.trace + 1 ≤ most → LeavesAtMost p who most

-- the marked nodes are at most those that each pass has left
abbrev pub MarksAreLeft : Type 0
MarksAreLeft = (p : PassView) (most : ℕ → ℕ) → SeesRun p.trace → ((who : ℕ) → who < p.trace.passes → LeavesAtMost p.trace who (most who))
    → marked_after p.trace.start p.trace.seen ≤ sum_of p.trace.passes most

-- so, if each pass also has at most one slot unlinked and not stamped, a pass can be disturbed at most twice for each that is left, once for each pass, and once more, while no update is answered yes
abbrev pub FewLeft : Type 0
FewLeft = (p : PassView) (most : ℕ → ℕ) → SeesRun p.trace → ((who : ℕ) → who < p.trace.passes → LeavesAtMost p.trace who (most who))
    → ((who : ℕ) → who < p.trace.passes → number_at p.trace.start p.trace.seen (Unstamped who) ≤ 1)
    → most_unanswered p.trace ≤ 2 * sum_of p.trace.passes most + p.trace.passes + 1
