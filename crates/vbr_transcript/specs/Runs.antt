-- A run of a script: a reply for each of its operations, and totals, that the calls of one run of the machine for each of its sets explain.
use Rattle.std.specs.Prelude.{◌≡◌, ℕ, ◌+◌, ◌-◌, Bool, true, false, ◌&&◌, List, [], ◌∷◌, ◌++◌, length, zip, All, count_by}
use Rattle.vbr_machine.specs.Start.{Start}
use Rattle.vbr_machine.specs.History.{calls_by}
use Rattle.vbr_machine.specs.Runs as machine
use Rattle.vbr_machine.specs.Runs.{world_after}
use Rattle.vbr_machine.specs.Safety.{IsSafe}
use Rattle.vbr_machine.specs.declared.event.Event.{Event}
use Rattle.vbr_machine.specs.declared.history.Call.{Call}
use Rattle.vbr_machine.specs.declared.history.Op.{Op}
use Rattle.vbr_machine.specs.declared.history.Op.TheVariants.{Insert, Remove, Has, Get}
use Rattle.vbr_script.specs.declared.script.Kind.{Kind}
use Rattle.vbr_script.specs.declared.script.Kind.TheVariants.{Map}
use Rattle.vbr_transcript.specs.Contents.{Contents, Item, IsLegalFrom, AreContents, contents_after, opened_with, opening_contents}
use Rattle.vbr_transcript.specs.Totals.{TotalsOf, listed_in, epoch_in, tally_in}
use Rattle.vbr_transcript.specs.Calls.{Outcome, answered_calls, outcomes_up_to, outcomes_past}
use Rattle.vbr_script.specs.declared.script.Line.{Line}
use Rattle.vbr_transcript.specs.declared.reply.Reply.{Reply}
use Rattle.vbr_transcript.specs.declared.reply.Reply.TheVariants.{Yes, Value, No, Full, Spent}
use Rattle.vbr_transcript.specs.declared.totals.Tally.{Tally}

-- ---- the history

-- a phase ends within a history: what stands before its end is just the answered operations of the phases up to it, those of each worker in script order
pub record EndsIn (kind : Kind) (history : List Call) (outcomes : List Outcome) (phase : ℕ) : Type 0 where
  pub before : List Call
  pub after : List Call
  pub whole : history ≡ before ++ after
  pub own_order : (who : ℕ) → calls_by who before ≡ calls_by who (answered_calls kind (outcomes_up_to phase outcomes))

-- a history explains outcomes, from what a set or a map opens with: it is legal from there, it has just the answered operations as its calls, those of each worker in script order, and each phase ends before the next
pub record Explains (kind : Kind) (opening : Contents kind) (history : List Call) (outcomes : List Outcome) : Type 0 where
  pub legal : IsLegalFrom kind opening history
  pub own_order : (who : ℕ) → calls_by who history ≡ calls_by who (answered_calls kind outcomes)
  pub phases : (phase : ℕ) → EndsIn kind history outcomes phase

-- ---- refusals

-- whether an operation that is answered yes gives a value: a remove and a get in a map do
abbrev pub gives_value : Kind → Op → Bool
gives_value Map Remove = true
gives_value Map Get = true
gives_value _ op = false

-- an operation may be answered so by a set or a map of this last epoch that has come to an epoch: yes comes with a value just if the operation gives one; and an insert alone finds the set full or its epochs spent, and they are spent only at the last
abbrev pub MayBeAnswered : Kind → ℕ → ℕ → Op → Reply → Type 0
MayBeAnswered kind last epoch op Yes = gives_value kind op ≡ false
MayBeAnswered kind last epoch op (Value value) = gives_value kind op ≡ true
MayBeAnswered kind last epoch op Full = op ≡ Insert
MayBeAnswered kind last epoch op Spent = (op ≡ Insert) × (epoch ≡ last)
MayBeAnswered kind last epoch op _ = Unit {0}

-- ---- the totals

-- whether two operations are the same
abbrev pub same_op : Op → Op → Bool
same_op Insert Insert = true
same_op Remove Remove = true
same_op Has Has = true
same_op Get Get = true
same_op a b = false

-- whether a reply is yes
abbrev pub is_yes_reply : Reply → Bool
is_yes_reply Yes = true
is_yes_reply (Value value) = true
is_yes_reply _ = false

-- whether a reply is a refusal
abbrev pub is_refusal : Reply → Bool
is_refusal Yes = false
is_refusal (Value value) = false
is_refusal No = false
is_refusal _ = true

-- whether it is this operation that was answered, and with yes
abbrev pub is_yes_to : Op → Outcome → Bool
is_yes_to op outcome = is_yes_reply outcome.1 && same_op op outcome.0.op

-- whether an operation is a look-up
abbrev pub is_look_up : Op → Bool
is_look_up Has = true
is_look_up Get = true
is_look_up _ = false

-- whether it is a look-up that was answered, and with yes
abbrev pub was_found : Outcome → Bool
was_found outcome = is_yes_reply outcome.1 && is_look_up outcome.0.op

-- whether an operation was refused
abbrev pub was_refused : Outcome → Bool
was_refused outcome = is_refusal outcome.1

-- the inserts, removes and look-ups that were answered yes are counted, and the operations that were refused
pub record Counts (tally : Tally) (outcomes : List Outcome) : Type 0 where
  pub inserted : tally.inserted ≡ count_by (is_yes_to Insert) outcomes
  pub removed : tally.removed ≡ count_by (is_yes_to Remove) outcomes
  pub found : tally.found ≡ count_by was_found outcomes
  pub refused : tally.refused ≡ count_by was_refused outcomes

-- ---- the sets

-- what is claimed besides of how the workers of a set play, which their player says: by what the set starts with, how many phases are played on it, the outcomes and the run
abbrev pub Manner : Type 1
Manner = Start → ℕ → List Outcome → List Event → Type 0

-- these outcomes are those of one set or map: a safe run of the machine, whose passes are the workers, has the calls that explain them, none is a reply that one at the run's epoch doesn't give to its operation, and the workers played in the manner that is claimed
pub record IsSetRun (kind : Kind) (manner : Manner) (start : Start) (workers phases : ℕ) (outcomes : List Outcome) (run : List Event) : Type 0 where
  pub is_run : machine.IsRun start workers run
  pub safe : IsSafe start run
  pub explains : Explains kind (opening_contents kind start) (world_after start run).calls outcomes
  pub refusals : All (λ outcome. MayBeAnswered kind start.shape.last_epoch (world_after start run).epoch outcome.0.op outcome.1) outcomes
  pub played : manner start phases outcomes run

-- outcomes are those of sets, one after the other, on which the phases from one on and up to another, which isn't among them, are played: after the phase of each renewal the set is closed, and the next is opened with what its calls left. The history is the calls of all sets in their order, and the epoch is the last set's
abbrev pub AreOfSets : Kind → Manner → Start → ℕ → ℕ → ℕ → List ℕ → List Outcome → List Call → ℕ → Type 0
AreOfSets kind manner start workers from phases [] outcomes history epoch =
    (run : List Event) × IsSetRun kind manner start workers (phases - from) outcomes run × (history ≡ (world_after start run).calls) × (epoch ≡ (world_after start run).epoch)
AreOfSets kind manner start workers from phases (renewal ∷ renewals) outcomes history epoch =
    (run : List Event) × IsSetRun kind manner start workers (renewal + 1 - from) (outcomes_up_to renewal outcomes) run
    × (listed : List (Item kind)) × AreContents kind listed (contents_after kind (opening_contents kind start) (world_after start run).calls)
    × (later : List Call) × AreOfSets kind manner (opened_with kind start listed) workers (renewal + 1) phases renewals (outcomes_past renewal outcomes) later epoch
    × (history ≡ (world_after start run).calls ++ later)

-- sets give these outcomes: one history of all of them explains the outcomes, from what the first opens with; what it leaves, and the epoch of the last set, are these; and a lone worker has the answers of a plain set or map, since the history is just its answered operations
pub record AreExplained (kind : Kind) (manner : Manner) (start : Start) (workers from phases : ℕ) (renewals : List ℕ) (outcomes : List Outcome) (listed : List (Item kind)) (epoch : ℕ) : Type 0 where
  pub history : List Call
  pub sets : AreOfSets kind manner start workers from phases renewals outcomes history epoch
  pub explains : Explains kind (opening_contents kind start) history outcomes
  pub contents : AreContents kind listed (contents_after kind (opening_contents kind start) history)
  pub plain : workers ≡ 1 → history ≡ answered_calls kind outcomes

-- ---- the run

-- replies and totals of a run of a script, with so many workers, in so many phases, on a set or a map that starts so and is renewed after these of them: each line has a reply; sets give these outcomes, with what is listed and the epoch of the totals, which count the outcomes
pub record IsScriptRun (kind : Kind) (manner : Manner) (start : Start) (workers phases : ℕ) (renewals : List ℕ) (lines : List Line) (replies : List Reply) (totals : TotalsOf kind) : Type 0 where
  pub one_each : length replies ≡ length lines
  pub explained : AreExplained kind manner start workers 0 phases renewals (zip lines replies) (listed_in kind totals) (epoch_in kind totals)
  pub counts : Counts (tally_in kind totals) (zip lines replies)
