-- Progress of walks: a call of a walk with budget enough brings its cursor on, or another pass is answered meanwhile.
use Rattle.std.specs.Prelude.{ℕ, zero, suc, ◌+◌, ◌-◌, ◌*◌, ◌<◌, ◌≤◌, ◌⊎◌, List, [], ◌∷◌, length, Option, Some, None, Ok, Err, Result}
use Rattle.vbr_machine.specs.Runs.{Begins}
use Rattle.vbr_slots.specs.steps.Calls.{Quiet}
use Rattle.vbr_slots.specs.steps.PassLaw.{PassLaw}
use Rattle.vbr_slots.specs.views.Views.{PassView, Trace}
use Rattle.vbr_list.specs.calls.Budgets.{nodes_listed_in}
use Rattle.vbr_list.specs.look_ups.Cursors.{IteratesKeys, enough_to_come_among}
use Rattle.vbr_list.specs.traversals.Disturbed.{enough_among, most_disturbed}
use Rattle.vbr_list.specs.declared.cursor.Cursor.{Cursor}
use Rattle.vbr_at_table.specs.declared.refusal.Refusal.{Refusal}
use Rattle.vbr_set.specs.progress.Callers.{CallsOn, CallsOrRests, CallsThrough, MakesFew, SomebodyIsAnswered}
use Rattle.vbr_set.specs.calls.Iterating.{CallsNext, CallsNextEntry, StandsShort}
use Rattle.vbr_set.specs.calls.Members.{MemberView, caller}
use Rattle.vbr_set.specs.progress.Progressing.{AnotherIsAnswered, Proceeds, SeesRun, most_unanswered}
use Rattle.vbr_set.specs.progress.Stretches.{Stretch, most_disturbed_by}

-- ---- calls of walks

-- the answer of a call for the next entry, as one for the next key
abbrev pub key_told : Result (Option (ℕ × ℕ)) Refusal → Result (Option ℕ) Refusal
key_told (Ok (Some entry)) = Ok (Some entry.0)
key_told (Ok None) = Ok None
key_told (Err refusal) = Err refusal

-- a call of a walk brings its cursor on: it gives a key, comes to the end, or is refused in a later bucket
abbrev pub BringsOn : Cursor → Cursor → Result (Option ℕ) Refusal → Type 0
BringsOn c d (Ok given) = Unit {0}
BringsOn c d (Err refusal) = c.bucket < d.bucket

-- each call of a walk by a member, of a set or of a map, is one for the next key by its pass: so the laws of walks speak of it
pub record MembersWalk : Type 0 where
  pub next_key : (m n : MemberView) (c d : Cursor) (budget : ℕ) (answer : Result (Option ℕ) Refusal) → CallsNext m n c d budget answer → IteratesKeys m.pass n.pass c d budget answer
  pub next_entry : (m n : MemberView) (c d : Cursor) (budget : ℕ) (answer : Result (Option (ℕ × ℕ)) Refusal) → CallsNextEntry m n c d budget answer → IteratesKeys m.pass n.pass c d budget (key_told answer)

-- ---- what is enough

-- what is enough to seek in a bucket while no update is answered yes
abbrev pub enough_unanswered : Trace → ℕ → ℕ
enough_unanswered p bucket = enough_among (nodes_listed_in p bucket) (most_unanswered p)

-- and in each of so many buckets, from one on
abbrev pub enough_unanswered_over : Trace → ℕ → ℕ → ℕ
enough_unanswered_over p bucket zero = 0
enough_unanswered_over p bucket (suc more) = enough_unanswered_over p bucket more + enough_unanswered p (bucket + more)

-- ---- laws of calls

-- a call of a walk that is refused for want of steps had a budget below what is enough to come to the bucket of its cursor, and to seek there, with as many disturbances in each bucket as advances, updates and marked nodes make; in a stretch, as inserts begun, updates and marked nodes make
pub record WalksMakeProgress : Type 0 where
  pub call : (p q : PassView) (c d : Cursor) (budget : ℕ) (refusal : Refusal) → PassLaw p → IteratesKeys p q c d budget (Err refusal)
      → budget < enough_to_come_among p.trace (λ bucket. most_disturbed p.trace q.trace) c.bucket d.bucket
  pub stretch : (p q : PassView) (inserts : ℕ → ℕ) (c d : Cursor) (budget : ℕ) (refusal : Refusal) → PassLaw p → Stretch p.trace q.trace inserts → IteratesKeys p q c d budget (Err refusal)
      → budget < enough_to_come_among p.trace (λ bucket. most_disturbed_by inserts p.trace q.trace) c.bucket d.bucket

-- ---- laws of the whole set

-- if a budget is enough while no update is answered yes, a walk goes on, or another pass was answered yes meanwhile
-- If it is enough in the bucket of its cursor, a call brings the cursor on. If it is enough for the buckets that it goes over and the one where it then stands, or for all from its cursor's on, a call isn't refused. If it is enough in each bucket, a list or a count of all keys isn't refused.
pub record WalksShowAnswers : Type 0 where
  pub on : (p q : PassView) (c d : Cursor) (budget : ℕ) (answer : Result (Option ℕ) Refusal) → SeesRun p.trace → Proceeds p.trace q.trace → IteratesKeys p q c d budget answer
      → enough_unanswered p.trace c.bucket ≤ budget → BringsOn c d answer ⊎ AnotherIsAnswered p.trace q.trace
  pub over : (p q : PassView) (c d : Cursor) (budget : ℕ) (refusal : Refusal) → SeesRun p.trace → Proceeds p.trace q.trace → IteratesKeys p q c d budget (Err refusal)
      → enough_to_come_among p.trace (λ bucket. most_unanswered p.trace) c.bucket d.bucket ≤ budget → AnotherIsAnswered p.trace q.trace
  pub to_end : (p q : PassView) (c d : Cursor) (budget : ℕ) (refusal : Refusal) → SeesRun p.trace → Proceeds p.trace q.trace → IteratesKeys p q c d budget (Err refusal)
      → enough_unanswered_over p.trace c.bucket (p.trace.start.shape.buckets - c.bucket) ≤ budget → AnotherIsAnswered p.trace q.trace
  pub all : (m n : MemberView) (budget : ℕ) (refusal : Refusal) → SeesRun m.pass.trace → Proceeds m.pass.trace n.pass.trace → Quiet m.pass.trace n.pass.trace → StandsShort (caller m) (caller n) budget refusal
      → ((bucket : ℕ) → bucket < m.pass.trace.start.shape.buckets → enough_unanswered m.pass.trace bucket ≤ budget) → AnotherIsAnswered m.pass.trace n.pass.trace

-- whatever a pass has seen, the shape of the table gives what is enough in a bucket
abbrev pub ShapesTellEnoughToWalk : Type 0
ShapesTellEnoughToWalk = (p : PassView) (bucket : ℕ) → enough_unanswered p.trace bucket ≤ enough_among p.trace.start.shape.slots (2 * p.trace.start.shape.slots + 1)

-- ---- callers that walk, too

-- a pass made a call of a walk, answered or refused, with a budget that is enough in the bucket of its cursor while no update is answered yes
pub record WalkedAmply (p q : PassView) (budget : ℕ) : Type 0 where
  pub from : Cursor
  pub to : Cursor
  pub answer : Result (Option ℕ) Refusal
  pub enough : enough_unanswered p.trace from.bucket ≤ budget
  pub call : IteratesKeys p q from to budget answer

-- a pass rests, or makes a call with budget enough, or such a call of a walk, with a budget of no more than so many steps
pub data CallsRestsOrWalks (most : ℕ) (p q : PassView) : Type 0 where
  called : CallsOrRests most p q → CallsRestsOrWalks most p q
  walked : (budget : ℕ) → budget ≤ most → WalkedAmply p q budget → CallsRestsOrWalks most p q

-- what it does is a call of a walk that brings its cursor on
abbrev pub WalksOn : {most : ℕ} {p q : PassView} → CallsRestsOrWalks most p q → Type 0
WalksOn (called other) = ⊥
WalksOn (walked budget low walk) = BringsOn walk.from walk.to walk.answer

-- one of the things that a pass does from view to view lies in a stretch, and is such a call
abbrev pub WalksOnWithin : (p q : Trace) → (most : ℕ) → (v : PassView) → (views : List PassView) → CallsOn (CallsRestsOrWalks most) v views → Type 0
WalksOnWithin p q most v [] does = ⊥
WalksOnWithin p q most v (w ∷ views) does = (Begins p.seen v.trace.seen × Begins w.trace.seen q.seen × WalksOn does.1) ⊎ WalksOnWithin p q most w views does.2

-- what a pass does in a stretch: few steps, or one such thing after another
pub data DoesInStretch (p q : Trace) (most who : ℕ) : Type 0 where
  makes_few : MakesFew p q (2 * most) who → DoesInStretch p q most who
  comes_through : CallsThrough (CallsRestsOrWalks most) p q who → DoesInStretch p q most who

-- a call of a walk in the stretch brings its cursor on
abbrev pub BringsAWalkOn : {p q : Trace} {most who : ℕ} → DoesInStretch p q most who → Type 0
BringsAWalkOn (makes_few few) = ⊥
BringsAWalkOn {p} {q} {most} (comes_through through) = WalksOnWithin p q most through.first through.views through.calls

-- somebody goes on in the stretch: somebody is answered, or one of these calls of walks brings its cursor on
abbrev pub SomebodyGoesOn : (p q : Trace) → (most : ℕ) → ((who : ℕ) → who < p.passes → DoesInStretch p q most who) → Type 0
SomebodyGoesOn p q most does = SomebodyIsAnswered p q ⊎ ((who : ℕ) × (low : who < p.passes) × BringsAWalkOn (does who low))

-- each pass makes one call after another, of walks too, or few steps; then in any stretch in which all of them make more steps than twice that budget for each pass somebody goes on
abbrev pub StepsOrWalksAreAnswered : Type 0
StepsOrWalksAreAnswered =
    (p q : PassView) (most : ℕ) → SeesRun p.trace → Proceeds p.trace q.trace
    → (does : (who : ℕ) → who < p.trace.passes → DoesInStretch p.trace q.trace most who)
    → length p.trace.seen + 2 * most * p.trace.passes < length q.trace.seen
    → SomebodyGoesOn p.trace q.trace most does
