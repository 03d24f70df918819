-- What a token of what was seen holds, and what a pass has that caught up with one.
use Rattle.std.specs.Prelude.{◌≡◌, List, [], ◌∷◌, ◌++◌}
use Rattle.vbr_machine.specs.Opened.{opening_keys}
use Rattle.vbr_machine.specs.Calls.{own_calls}
use Rattle.vbr_machine.specs.History.{IsLegal}
use Rattle.vbr_machine.specs.Runs.{Begins}
use Rattle.vbr_machine.specs.declared.history.Call.{Call}
use Rattle.vbr_slots.specs.steps.Calls.{IsSame, Quiet, made_by}
use Rattle.vbr_slots.specs.Tokens.{SeenView, Since}
use Rattle.vbr_slots.specs.views.Views.{IsOf, KeepsPool, PassView, TableView, Trace}
use Rattle.vbr_at_table.specs.Soundness.{HasSafeRun}
use Rattle.vbr_set.specs.histories.Answers.{AnswersAll, Follows}
use Rattle.vbr_set.specs.histories.Histories.{calls_of, ExchangesAreRight, ReadsAreRight}

-- ---- histories

-- a history begins with these calls
abbrev pub BeginsWith : List Call → List Call → Type 0
BeginsWith first calls = (more : List Call) × (calls ≡ first ++ more)

-- the calls of one answer stand in a history before the calls of another
pub record Precedes (ones others history : List Call) : Type 0 where
  pub first : List Call
  pub between : List Call
  pub more : List Call
  pub stands : history ≡ first ++ (ones ++ (between ++ (others ++ more)))

-- ---- tokens

-- the token is of the set and holds all that the pass has seen, which is of the same set; so the pass's calls in the history that it holds are exactly those that it has made
pub record IsTokenOf (set : TableView) (p : Trace) (token : SeenView) : Type 0 where
  pub pass : IsOf p set
  pub table : token.table ≡ set.table
  pub seen : token.seen ≡ p.seen
  pub own : own_calls p.start token.seen p.who ≡ made_by p

-- what the pass is answered from now on stands after all of these, in the legal history that it then has
abbrev pub EachFollows : List Call → Trace → Type 0
EachFollows first q = (calls : List Call) (r s : Trace) → IsSame q r → Begins q.seen r.seen → AnswersAll calls r s → Follows first calls (calls_of s.start s.seen)

-- the pass has taken in what the token holds: what it has then seen is a safe run that begins with that
-- It is of the set, and made no step and no call. It has seen what others did since, and knows and keeps what it knew and kept.
-- The calls of the run are legal from the opening keys, and begin with those that the token holds.
-- Each call that the pass is answered from now on stands after all of these.
pub record CatchesUp (set : TableView) (p : PassView) (token : SeenView) (q : PassView) : Type 0 where
  pub pass : IsOf q.trace set
  pub since : Since p.trace q.trace
  pub quiet : Quiet p.trace q.trace
  pub pool : KeepsPool p q
  pub begins : Begins token.seen q.trace.seen
  pub legal : IsLegal (opening_keys q.trace.start) (calls_of q.trace.start q.trace.seen)
  pub told : BeginsWith (calls_of q.trace.start token.seen) (calls_of q.trace.start q.trace.seen)
  pub later : EachFollows (calls_of q.trace.start token.seen) q.trace
  pub exchanges : ExchangesAreRight q.trace.start q.trace.seen
  pub reads : ReadsAreRight q.trace.start q.trace.seen
  pub safe : HasSafeRun q.trace

-- ---- chains

-- each token after the first was made by a caller that had by then seen all that the one before it holds
abbrev pub IsChain : SeenView → List SeenView → Type 0
IsChain first [] = Unit {0}
IsChain first (next ∷ tokens) = (next.table ≡ first.table) × Begins first.seen next.seen × IsChain next tokens

-- the last token of a chain
abbrev pub end_of : SeenView → List SeenView → SeenView
end_of first [] = first
end_of first (next ∷ tokens) = end_of next tokens
