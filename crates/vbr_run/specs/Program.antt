-- How the program ends.
use Rattle.std.specs.Prelude.{◌≡◌, ◌≢◌, ℕ, Bool, true, List, [], ◌∷◌, ◌++◌, ◌⊎◌, Option, Some, None, Result, Ok, Err, codes, decimal}
use Rattle.std.specs.List.{list_any}
use Rattle.std.specs.Str.{bytes_eq}
use Rattle.std.specs.Io.KnownBytes.{Appends, Keeps}
use Rattle.std.specs.IoError.{error_kind}
use Rattle.std.specs.declared.io.Error.{Error}
use Rattle.std.specs.declared.io.ErrorKind.{ErrorKind as IoErrorKind}
use Rattle.std.specs.declared.io.ErrorKind.TheVariants.{NotFound, PermissionDenied}
use Rattle.clap.specs.Words.{IsAmong, Text}
use Rattle.clap.specs.declared.error.kind.ErrorKind.{ErrorKind}
use Rattle.clap.specs.declared.error.kind.ErrorKind.TheVariants as asked
use Rattle.vbr_words.specs.declared.shape.ShapeError.{ShapeError}
use Rattle.vbr_words.specs.declared.shape.ShapeError.TheVariants as shape
use Rattle.vbr_script.specs.Grammar.{fault_number}
use Rattle.vbr_script.specs.declared.script.Kind.{Kind}
use Rattle.vbr_script.specs.declared.script.Kind.TheVariants.{Set, Map}
use Rattle.vbr_settings.specs.Options.{AreOptions, faults, settings_of, asks_map, file_of, explained_of, shape_fault}
use Rattle.vbr_settings.specs.Settings.{Settings}
use Rattle.vbr_transcript.specs.Layout.{line}
use Rattle.vbr_transcript.specs.Totals.{TotalsOf}
use Rattle.vbr_transcript.specs.Writing.{AppendsSome}
use Rattle.vbr_player.specs.Playing.{Plays}
use Rattle.vbr_transcript.specs.declared.error.RunError.{RunError}
use Rattle.vbr_transcript.specs.declared.error.RunError.TheVariants as error
use Rattle.vbr_run.specs.declared.program.TheConstants.{DONE, USAGE, SCRIPT_FAULT, DEVICE_FAULT, NO_RESOURCES}

-- the exit status after an error
abbrev pub error_status : RunError → ℕ
error_status (error.Script number kind) = SCRIPT_FAULT
error_status error.Read = DEVICE_FAULT
error_status error.Write = DEVICE_FAULT
error_status error.Memory = NO_RESOURCES
error_status error.Worker = NO_RESOURCES

-- the line on standard error after an error
abbrev pub error_line : RunError → List ℕ
error_line (error.Script number kind) = line (codes "vbr_run: script fault " ++ decimal (fault_number kind) ++ codes " at line " ++ decimal number)
error_line error.Read = line (codes "vbr_run: read fault")
error_line error.Write = line (codes "vbr_run: write fault")
error_line error.Memory = line (codes "vbr_run: no memory")
error_line error.Worker = line (codes "vbr_run: no worker")

-- the number of what is wrong with a shape, in the order of the tests
abbrev pub shape_fault_number : ShapeError → ℕ
shape_fault_number shape.Slots = 1
shape_fault_number shape.Buckets = 2
shape_fault_number shape.LastEpoch = 3

-- the line on standard error if there is no such shape
abbrev pub shape_line : ShapeError → List ℕ
shape_line error = line (codes "vbr_run: shape fault " ++ decimal (shape_fault_number error))

-- the line on standard error of a file that isn't played, and why
abbrev pub file_line : List ℕ → Text → List ℕ
file_line why name = line (codes "vbr_run: file fault: " ++ why ++ codes ": " ++ name)

-- why a file couldn't be opened, by the kind of the error
abbrev pub unopened : IoErrorKind → List ℕ
unopened NotFound = codes "no such file"
unopened PermissionDenied = codes "permission denied"
unopened _ = codes "can't be opened"

-- the line on standard error after an error of a run, which may have its script in a file: a file that couldn't be read is named
abbrev pub fault_line : Option Text → RunError → List ℕ
fault_line (Some name) error.Read = file_line (codes "can't be read") name
fault_line file e = error_line e

-- The status and the standard error show the player's answer: nothing is written of a run that was done, and else as much of the error's line as could be written.
abbrev pub TellsOutcome : {T : Type 0} → Option Text → Result T RunError → Option (List ℕ) → Option (List ℕ) → ℕ → Type 0
TellsOutcome file (Ok totals) old new status = (status ≡ DONE) × Keeps old new
TellsOutcome file (Err e) old new status = (status ≡ error_status e) × AppendsSome old new (fault_line file e)

-- what a run of the program leaves: what the writer and standard error held before and hold after, and the exit status
pub record ProgramRun : Type 0 where
  pub output_before : Option (List ℕ)
  pub output : Option (List ℕ)
  pub errors_before : Option (List ℕ)
  pub errors : Option (List ℕ)
  pub status : ℕ

-- the kind of script that is played, by whether a map is asked for
abbrev pub kind_asked : Bool → Kind
kind_asked true = Map
kind_asked _ = Set

-- a script of this kind that was left to read, in a file if one is named, was played with these settings, and that is written
abbrev pub IsPlayed : Kind → Settings → Option Text → Option (List ℕ) → ProgramRun → Type 0
IsPlayed kind settings file input run = (answer : Result (TotalsOf kind) RunError) × Plays kind settings input run.output_before run.output answer × TellsOutcome file answer run.errors_before run.errors run.status

-- a file couldn't be opened: nothing is written to standard output, and that is written
abbrev pub IsUnopened : IoErrorKind → Text → ProgramRun → Type 0
IsUnopened kind name run = (run.status ≡ DEVICE_FAULT) × Keeps run.output_before run.output × AppendsSome run.errors_before run.errors (file_line (unopened kind) name)

-- what opening gave: what the file has left, or the kind of the error
abbrev pub opened_as : {F : Type 0} → (F → Option (List ℕ)) → Result F Error → Result (Option (List ℕ)) IoErrorKind
opened_as remaining (Ok file) = Ok (remaining file)
opened_as remaining (Err e) = Err (error_kind e)

-- what may be given when a file of a name is opened
abbrev pub Opening : Type 1
Opening = Text → Result (Option (List ℕ)) IoErrorKind → Type 0

-- what a way of opening files by their names may give
abbrev pub MayOpenAs : {F : Type 0} → (F → Option (List ℕ)) → (Text → Result F Error → Type 0) → Opening
MayOpenAs {F} remaining opens name given = (opened : Result F Error) × opens name opened × (given ≡ opened_as remaining opened)

-- a file that was opened is played, and else that is written
abbrev pub IsFilePlayed : Kind → Settings → Text → Result (Option (List ℕ)) IoErrorKind → ProgramRun → Type 0
IsFilePlayed kind settings name (Ok left) run = IsPlayed kind settings (Some name) left run
IsFilePlayed kind settings name (Err error) run = IsUnopened error name run

-- there is no such shape: nothing is written to standard output, and that is written
abbrev pub IsUnshaped : ShapeError → ProgramRun → Type 0
IsUnshaped error run = (run.status ≡ USAGE) × Keeps run.output_before run.output × AppendsSome run.errors_before run.errors (shape_line error)

-- no memory for the options: nothing is written to standard output, and that is written
abbrev pub LacksMemory : ProgramRun → Type 0
LacksMemory run = (run.status ≡ error_status error.Memory) × Keeps run.output_before run.output × AppendsSome run.errors_before run.errors (error_line error.Memory)

-- a text was asked for, and is on standard output whole
abbrev pub IsShown : ProgramRun → Type 0
IsShown run = (run.status ≡ DONE) × Keeps run.errors_before run.errors × ((text : List ℕ) × Appends run.output_before run.output text)

-- a text was asked for, and as much of it is on standard output as could be written, which is reported
abbrev pub IsCutShort : ProgramRun → Type 0
IsCutShort run = (run.status ≡ DEVICE_FAULT) × AppendsSome run.errors_before run.errors (error_line error.Write) × ((text : List ℕ) × AppendsSome run.output_before run.output text)

-- a fault in the options: nothing is written to standard output, and as much of the fault's text to standard error as could be
abbrev pub IsFault : ProgramRun → Type 0
IsFault run = (run.status ≡ USAGE) × Keeps run.output_before run.output × ((text : List ℕ) × AppendsSome run.errors_before run.errors text)

-- what `clap` has for a command line is written: the help and the version if they were asked for, and all else as a fault
abbrev pub TellsOptions : ErrorKind → ProgramRun → Type 0
TellsOptions asked.DisplayHelp run = IsShown run ⊎ IsCutShort run
TellsOptions asked.DisplayVersion run = IsShown run ⊎ IsCutShort run
TellsOptions other run = IsFault run

-- the names of the faults and refusals that are explained
abbrev pub explained_names : List Text
explained_names =
    codes "shape-1" ∷ codes "shape-2" ∷ codes "shape-3"
    ∷ codes "script-1" ∷ codes "script-2" ∷ codes "script-3" ∷ codes "script-4" ∷ codes "script-5" ∷ codes "script-6"
    ∷ codes "read" ∷ codes "file" ∷ codes "write" ∷ codes "memory" ∷ codes "worker"
    ∷ codes "tired" ∷ codes "full" ∷ codes "spent"
    ∷ []

-- whether a name is explained
unfoldable pub is_explained : Text → Bool
is_explained name = list_any (λ known. bytes_eq name known) explained_names

-- what is known by a name is written on standard output, and an unknown name is a fault
abbrev pub ExplainsName : Bool → ProgramRun → Type 0
ExplainsName true run = IsShown run ⊎ IsCutShort run
ExplainsName _ run = IsFault run

-- what a command line without a fault asks for is done
-- It may want something explained, name a shape that there isn't, or name a file; else the script is on standard input. The kind is its script's.
-- So something is explained, or it is written that there is no such shape, or the script is played.
abbrev pub IsDone : Option Text → Option ShapeError → Option Text → Kind → Settings → Option (List ℕ) → Opening → ProgramRun → Type 0
IsDone (Some name) shape file kind settings input opens run = ExplainsName (is_explained name) run
IsDone None (Some error) file kind settings input opens run = IsUnshaped error run
IsDone None None None kind settings input opens run = IsPlayed kind settings None input run
IsDone None None (Some name) kind settings input opens run = (given : Result (Option (List ℕ)) IoErrorKind) × opens name given × IsFilePlayed kind settings name given run

-- what a command line asks for is done
abbrev pub DoesAsked : List Text → Option (List ℕ) → Opening → ProgramRun → Type 0
DoesAsked arguments input opens run = IsDone (explained_of arguments) (shape_fault (settings_of arguments)) (file_of arguments) (kind_asked (asks_map arguments)) (settings_of arguments) input opens run

-- one of the faults of a command line is written
abbrev pub TellsFault : List (List ℕ) → ProgramRun → Type 0
TellsFault arguments run = (kind : ErrorKind) × IsAmong kind (faults arguments) × TellsOptions kind run

-- how a run of the program ends, by its arguments: what those that the command takes ask for is done; and of all others, what the command has for them is written; or else want of memory is, which a run that plays standard input reports itself
pub record AnswersCommand (arguments : List Text) (input : Option (List ℕ)) (opens : Opening) (run : ProgramRun) : Type 0 where
  pub taken : AreOptions arguments → DoesAsked arguments input opens run ⊎ LacksMemory run
  pub answered : ((faults arguments ≡ []) × DoesAsked arguments input opens run) ⊎ (TellsFault arguments run ⊎ LacksMemory run)

-- a command line by which standard input isn't read: it is faulty, gives no shape, wants something explained, or names a file
abbrev pub ReadsNoInput : List Text → Type 0
ReadsNoInput arguments = (faults arguments ≢ []) ⊎ (((error : ShapeError) × (shape_fault (settings_of arguments) ≡ Some error)) ⊎ (((name : Text) × (explained_of arguments ≡ Some name)) ⊎ ((name : Text) × (file_of arguments ≡ Some name))))

-- what `clap` answers in place of options is written, or want of memory, and for want of memory that alone
pub record ShowsError (kind : ErrorKind) (run : ProgramRun) : Type 0 where
  pub memory : kind ≡ asked.OutOfMemory → LacksMemory run
  pub told : TellsOptions kind run ⊎ LacksMemory run
