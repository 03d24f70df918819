-- What calls that were answered leave: one legal history, in which they stand.
use Rattle.std.specs.Prelude.{◌≡◌, List, [], ◌∷◌, ◌++◌}
use Rattle.vbr_machine.specs.Opened.{opening_keys}
use Rattle.vbr_machine.specs.History.{IsLegal, set_after}
use Rattle.vbr_machine.specs.Runs.{IsRun, Begins}
use Rattle.vbr_machine.specs.Safety.{IsSafe}
use Rattle.vbr_machine.specs.declared.history.Call.{Call}
use Rattle.vbr_slots.specs.steps.Calls.{IsSame, made_by}
use Rattle.vbr_slots.specs.views.Views.{Trace}
use Rattle.vbr_set.specs.histories.Histories.{calls_of, ExchangesAreRight, ReadsAreRight}

-- in a history these calls stand next to each other, after all of the first ones
pub record Follows (first calls history : List Call) : Type 0 where
  pub between : List Call
  pub more : List Call
  pub stands : history ≡ (first ++ between) ++ (calls ++ more)

-- the pass has then seen a run that begins with all that it had seen, in which these calls stand
-- The calls of this run, of all passes, are a legal history of a set that opened with the keys of its start.
-- The pass's own calls in it are those that it had made, and then these, which stand next to each other, after all calls that it had seen.
-- Each exchange of a link that was won in it, and each checked read, was of the incarnations that the pass held, and none of an earlier one of their slots.
pub record AnswersAll (calls : List Call) (p q : Trace) : Type 0 where
  pub same : IsSame p q
  pub begins : Begins p.seen q.seen
  pub is_run : IsRun q.start q.passes q.seen
  pub legal : IsLegal (opening_keys q.start) (calls_of q.start q.seen)
  pub once : made_by q ≡ made_by p ++ calls
  pub together : Follows (calls_of p.start p.seen) calls (calls_of q.start q.seen)
  pub exchanges : ExchangesAreRight q.start q.seen
  pub reads : ReadsAreRight q.start q.seen
  pub safe : IsSafe q.start q.seen

-- the same for one call
abbrev pub Answers : Call → Trace → Trace → Type 0
Answers call = AnswersAll (call ∷ [])

-- on a table with one pass the replies are what a plain set answers which opened with the keys of its start, perhaps none, and was given the calls of the pass before, and no others
abbrev pub AnswerAlone : Trace → List Call → Type 0
AnswerAlone p calls = p.passes ≡ 1 → IsLegal (set_after (opening_keys p.start) (made_by p)) calls
