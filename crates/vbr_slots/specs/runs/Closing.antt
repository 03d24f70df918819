-- How a table ends, and what an error of closing gives back.
use Rattle.std.specs.Prelude.{◌≡◌, ℕ, List, [], ◌∷◌}
use Rattle.vbr_machine.specs.Runs.{IsRun, world_after, BeginsFor}
use Rattle.vbr_machine.specs.Safety.{IsSafe}
use Rattle.vbr_machine.specs.declared.event.Event.{Event}
use Rattle.vbr_slots.specs.declared.close_error.CloseError.{CloseError}
use Rattle.vbr_slots.specs.declared.close_error.CloseError.TheVariants.{Missing, Memory}
use Rattle.vbr_slots.specs.views.Views.{PassView, TableView, IsOf}
use Rattle.vbr_slots.specs.words.Words.{AreWordsOf}

-- all came from the opening of the table
abbrev pub AllOf : TableView → List PassView → Type 0
AllOf t [] = Unit {0}
AllOf t (p ∷ ps) = IsOf p.trace t × AllOf t ps

-- the run begins with what each pass has seen, and has no other event of it
abbrev pub EachSeen : List Event → List PassView → Type 0
EachSeen run [] = Unit {0}
EachSeen run (p ∷ ps) = BeginsFor p.trace.who p.trace.seen run × EachSeen run ps

-- the words are those of a run, whose chronicle is lawful and whose image they are; it begins with what each pass has seen, and has no other event of it
pub record Ends (t : TableView) (passes : List PassView) (words : List ℕ) : Type 0 where
  pub run : List Event
  pub is_run : IsRun t.start t.passes run
  pub safe : IsSafe t.start run
  pub are : AreWordsOf t.start (world_after t.start run) words
  pub begins : EachSeen run passes

module _ {T : Type 0} where
  -- the table and the passes come back as they were
  abbrev pub HandsBack : CloseError T → T → List PassView → Type 0
  HandsBack (Missing t ps) table passes = (t ≡ table) × (ps.items ≡ passes)
  HandsBack (Memory t ps) table passes = (t ≡ table) × (ps.items ≡ passes)

  -- passes are missing; the other error is that there is no memory
  abbrev pub IsMissing : CloseError T → Type 0
  IsMissing (Missing t ps) = Unit {0}
  IsMissing (Memory t ps) = ⊥
