-- What the player does with a reader and a writer.
use Rattle.std.specs.Prelude.{◌≡◌, ℕ, List, [], Option, Some, None, Result, Ok, Err}
use Rattle.std.specs.Io.KnownBytes.{Keeps, Appends}
use Rattle.vbr_words.specs.Dimensions.{Dimensions}
use Rattle.vbr_machine.specs.Start.{Start, set_start}
use Rattle.vbr_machine.specs.Maps.{map_start}
use Rattle.vbr_script.specs.Scripts.{first_fault, phases_of, renewals_of, script_of}
use Rattle.vbr_script.specs.declared.script.Kind.{Kind}
use Rattle.vbr_script.specs.declared.script.Kind.TheVariants.{Set, Map}
use Rattle.vbr_transcript.specs.Reading.{IsInput}
use Rattle.vbr_transcript.specs.Runs.{IsScriptRun}
use Rattle.vbr_transcript.specs.Layout.{layout_of}
use Rattle.vbr_transcript.specs.Totals.{TotalsOf}
use Rattle.vbr_transcript.specs.Writing.{AppendsSome}
use Rattle.vbr_player.specs.Calling.{ArePlayed}
use Rattle.vbr_transcript.specs.declared.reply.Reply.{Reply}
use Rattle.vbr_transcript.specs.declared.error.RunError.{RunError}
use Rattle.vbr_transcript.specs.declared.error.RunError.TheVariants as error
use Rattle.vbr_settings.specs.Settings.{Settings}

-- what a set, or a map, starts with that a script is played on: it is empty
abbrev pub start_for : Kind → Dimensions → Start
start_for Set shape = set_start shape []
start_for Map shape = map_start shape []

-- the text is a script of this kind for the workers, and the output is the layout of a run of it with these totals, which they played with the budget
abbrev pub Prints : (kind : Kind) → Settings → List ℕ → TotalsOf kind → List ℕ → Type 0
Prints kind settings text totals output =
    (replies : List Reply) × (first_fault kind settings.workers text ≡ None)
    × IsScriptRun kind (ArePlayed kind settings.workers settings.budget) (start_for kind settings.shape) settings.workers (phases_of kind settings.workers text) (renewals_of kind settings.workers text) (script_of kind settings.workers text) replies totals
    × (output ≡ layout_of kind settings.epoch replies totals)

-- want of memory, or of a thread for a worker
abbrev pub IsWant : RunError → Type 0
IsWant error.Memory = Unit {0}
IsWant error.Worker = Unit {0}
IsWant _ = ⊥

-- The player's answer to a script of this kind, by the bytes that the reader had left and those that the writer held before and after, and by what the totals of the answer are.
-- Done: the layout of a run of the script that was read is appended. A script fault is the first of the text.
-- A write fault leaves a beginning of a run's layout, and any other fault leaves the writer as it was.
abbrev pub PlaysBy : (kind : Kind) {T : Type 0} → (T → TotalsOf kind) → Settings → Option (List ℕ) → Option (List ℕ) → Option (List ℕ) → Result T RunError → Type 0
PlaysBy kind totals_are settings left old new (Ok totals) = (text : List ℕ) × IsInput left text × (output : List ℕ) × Prints kind settings text (totals_are totals) output × Appends old new output
PlaysBy kind totals_are settings left old new (Err error.Write) = (text : List ℕ) × IsInput left text × (totals : TotalsOf kind) × (output : List ℕ) × Prints kind settings text totals output × AppendsSome old new output
PlaysBy kind totals_are settings left old new (Err (error.Script line fault)) = (text : List ℕ) × IsInput left text × (first_fault kind settings.workers text ≡ Some (line, fault)) × Keeps old new
PlaysBy kind totals_are settings left old new (Err error.Read) = Keeps old new
PlaysBy kind totals_are settings left old new (Err error.Memory) = Keeps old new
PlaysBy kind totals_are settings left old new (Err error.Worker) = Keeps old new

-- it is answered with the totals themselves
abbrev pub Plays : (kind : Kind) → Settings → Option (List ℕ) → Option (List ℕ) → Option (List ℕ) → Result (TotalsOf kind) RunError → Type 0
Plays kind = PlaysBy kind (λ totals. totals)
