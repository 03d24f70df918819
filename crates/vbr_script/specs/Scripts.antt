-- The script that a text of bytes is, and its first fault.
use Rattle.std.specs.Prelude.{◌≡◌, ◌≢◌, ℕ, ◌+◌, ◌<◌, ◌≤◌, Bool, true, false, nat_lt, List, [], ◌∷◌, length, map, All, count_by, Option, Some, None, if◌then◌else◌, Result, IfOk, IsErrOf}
use Rattle.vbr_machine.specs.declared.history.Op.{Op}
use Rattle.vbr_machine.specs.declared.history.Op.TheVariants.{Insert, Get}
use Rattle.vbr_script.specs.declared.script.Kind.{Kind}
use Rattle.vbr_script.specs.declared.script.Kind.TheVariants.{Set, Map}
use Rattle.vbr_script.specs.declared.script.Line.{Line}
use Rattle.vbr_script.specs.declared.script.Script.{Script}
use Rattle.vbr_script.specs.declared.script.ScriptError.{ScriptError}
use Rattle.vbr_script.specs.declared.script.ScriptError.TheVariants as refused
use Rattle.vbr_script.specs.declared.script.ScriptFault.{ScriptFault}
use Rattle.vbr_script.specs.declared.script.ScriptFault.TheVariants.{TooMany}
use Rattle.vbr_script.specs.declared.script.Meaning.{Meaning}
use Rattle.vbr_script.specs.declared.script.Meaning.TheVariants.{Blank, Sync, Renew, Asks, Faulty}
use Rattle.vbr_script.specs.declared.script.TheConstants.{MAX_OPERATIONS, MAX_SYNCS}
use Rattle.vbr_script.specs.Text.{lines_of, tokens_of}
use Rattle.vbr_script.specs.Grammar.{meaning_of}

-- what a line means after so many operations and lines that end a phase: one more of either than a script may have is faulty
abbrev pub limited : ℕ → ℕ → Meaning → Meaning
limited operations syncs (Asks worker op key value) = if nat_lt operations MAX_OPERATIONS then Asks worker op key value else Faulty TooMany
limited operations syncs Sync = if nat_lt syncs MAX_SYNCS then Sync else Faulty TooMany
limited operations syncs Renew = if nat_lt syncs MAX_SYNCS then Renew else Faulty TooMany
limited operations syncs line = line

-- what lines mean after so many operations and lines that end a phase
abbrev pub all_limited : ℕ → ℕ → List Meaning → List Meaning
all_limited operations syncs [] = []
all_limited operations syncs (Asks worker op key value ∷ lines) = limited operations syncs (Asks worker op key value) ∷ all_limited (operations + 1) syncs lines
all_limited operations syncs (Sync ∷ lines) = limited operations syncs Sync ∷ all_limited operations (syncs + 1) lines
all_limited operations syncs (Renew ∷ lines) = limited operations syncs Renew ∷ all_limited operations (syncs + 1) lines
all_limited operations syncs (line ∷ lines) = line ∷ all_limited operations syncs lines

-- what each line of a text means after so many operations and lines that end a phase, in order
abbrev pub meanings_behind : Kind → ℕ → ℕ → ℕ → List ℕ → List Meaning
meanings_behind kind operations syncs workers text = all_limited operations syncs (map (λ line. meaning_of kind workers (tokens_of line)) (lines_of text))

-- what each line of a text means, in order
abbrev pub meanings_of : Kind → ℕ → List ℕ → List Meaning
meanings_of kind workers text = meanings_behind kind 0 0 workers text

-- the operations that lines ask for, in order, up to the first faulty line; the phase of each is the number of lines before it that end a phase, counted on from a number
abbrev pub operations_from : ℕ → List Meaning → List Line
operations_from phase [] = []
operations_from phase (Blank ∷ lines) = operations_from phase lines
operations_from phase (Sync ∷ lines) = operations_from (phase + 1) lines
operations_from phase (Renew ∷ lines) = operations_from (phase + 1) lines
operations_from phase (Asks worker op key value ∷ lines) = record { phase = phase; worker = worker; op = op; key = key; value = value } ∷ operations_from phase lines
operations_from phase (Faulty fault ∷ lines) = []

-- the phases that end with `renew`, in order, up to the first faulty line; phases are counted on from a number
abbrev pub renewals_from : ℕ → List Meaning → List ℕ
renewals_from phase [] = []
renewals_from phase (Blank ∷ lines) = renewals_from phase lines
renewals_from phase (Sync ∷ lines) = renewals_from (phase + 1) lines
renewals_from phase (Renew ∷ lines) = phase ∷ renewals_from (phase + 1) lines
renewals_from phase (Asks worker op key value ∷ lines) = renewals_from phase lines
renewals_from phase (Faulty fault ∷ lines) = []

-- the first faulty line, with lines counted on from a number, and its fault
abbrev pub first_fault_from : ℕ → List Meaning → Option (ℕ × ScriptFault)
first_fault_from number [] = None
first_fault_from number (Faulty fault ∷ lines) = Some (number, fault)
first_fault_from number (_ ∷ lines) = first_fault_from (number + 1) lines

-- whether a line ends a phase
abbrev pub ends_phase : Meaning → Bool
ends_phase Sync = true
ends_phase Renew = true
ends_phase _ = false

-- the operations of a text
abbrev pub script_of : Kind → ℕ → List ℕ → List Line
script_of kind workers text = operations_from 0 (meanings_of kind workers text)

-- the phases of a text that end with `renew`
abbrev pub renewals_of : Kind → ℕ → List ℕ → List ℕ
renewals_of kind workers text = renewals_from 0 (meanings_of kind workers text)

-- how many phases a text has: one more than it has lines that end a phase
abbrev pub phases_of : Kind → ℕ → List ℕ → ℕ
phases_of kind workers text = count_by ends_phase (meanings_of kind workers text) + 1

-- the first fault of a text: the number of its line, from 1, and what is wrong with it
abbrev pub first_fault : Kind → ℕ → List ℕ → Option (ℕ × ScriptFault)
first_fault kind workers text = first_fault_from 1 (meanings_of kind workers text)

-- phases never fall along operations, from a phase on
abbrev pub AscendFrom : ℕ → List Line → Type 0
AscendFrom phase [] = Unit {0}
AscendFrom phase (line ∷ lines) = (phase ≤ line.phase) × AscendFrom line.phase lines

-- what a script of this kind may ask: a set is asked for no get, and only an insert in a map has a value
abbrev pub MayAsk : Kind → Op → ℕ → Type 0
MayAsk Set op value = (op ≢ Get) × (value ≡ 0)
MayAsk Map op value = op ≢ Insert → value ≡ 0

-- operations of a script of this kind for so many workers, in so many phases, one after the other
pub record ArePhased (kind : Kind) (workers phases : ℕ) (lines : List Line) : Type 0 where
  pub workers_below : All (λ line. line.worker < workers) lines
  pub phases_below : All (λ line. line.phase < phases) lines
  pub ascend : AscendFrom 0 lines
  pub may_ask : All (λ line. MayAsk kind line.op line.value) lines

-- these phases, each after the one before and not the last of so many, from a phase on
abbrev pub AreRenewalsFrom : ℕ → ℕ → List ℕ → Type 0
AreRenewalsFrom phase phases [] = Unit {0}
AreRenewalsFrom phase phases (renewal ∷ renewals) = (phase ≤ renewal) × (renewal + 1 < phases) × AreRenewalsFrom (renewal + 1) phases renewals

-- the script of this kind of a text without a fault, for so many workers: its operations, phases and renewals are those of the text, in order and within the limits
pub record IsScriptOf (kind : Kind) (workers : ℕ) (text : List ℕ) (script : Script) : Type 0 where
  pub faultless : first_fault kind workers text ≡ None
  pub lines : script.lines.items ≡ script_of kind workers text
  pub phases : script.phases ≡ phases_of kind workers text
  pub renewals : script.renewals.items ≡ renewals_of kind workers text
  pub phased : ArePhased kind workers script.phases script.lines.items
  pub renewed : AreRenewalsFrom 0 script.phases script.renewals.items
  pub limits : (length script.lines.items ≤ MAX_OPERATIONS) × (script.phases ≤ MAX_SYNCS + 1)

-- a text has an operation or a renewal before its first fault
abbrev pub HasSome : Kind → ℕ → List ℕ → Type 0
HasSome kind workers text = 0 < length (script_of kind workers text) + length (renewals_of kind workers text)

-- what is read of a text: the script that it is, or its first fault; if there is no memory, it has an operation or a renewal before that
pub record ReadsScript (kind : Kind) (workers : ℕ) (text : List ℕ) (result : Result Script ScriptError) : Type 0 where
  pub script : IfOk result (IsScriptOf kind workers text)
  pub fault : (line : ℕ) (fault : ScriptFault) → IsErrOf result (refused.Fault line fault) →
      first_fault kind workers text ≡ Some (line, fault)
  pub memory_only_for_a_line : IsErrOf result refused.Memory → HasSome kind workers text
