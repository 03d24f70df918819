-- What the operations of a script were answered, and the calls that they are.
use Rattle.std.specs.Prelude.{ℕ, Bool, true, false, ◌==◌, nat_le, nat_lt, List, [], ◌∷◌, filter, flat_map, Option, Some, None}
use Rattle.vbr_machine.specs.declared.history.Op.{Op}
use Rattle.vbr_machine.specs.declared.history.Op.TheVariants.{Insert}
use Rattle.vbr_machine.specs.declared.history.Call.{Call}
use Rattle.vbr_script.specs.declared.script.Kind.{Kind}
use Rattle.vbr_script.specs.declared.script.Kind.TheVariants.{Map}
use Rattle.vbr_script.specs.declared.script.Line.{Line}
use Rattle.vbr_transcript.specs.declared.reply.Reply.{Reply}
use Rattle.vbr_transcript.specs.declared.reply.Reply.TheVariants.{Yes, Value, No}

-- an operation with its reply
abbrev pub Outcome : Type 0
Outcome = Line × Reply

-- an operation as a call that was answered so, with this value
abbrev pub call_of_line : Line → Bool → Option ℕ → Call
call_of_line line answer value = record { who = line.worker; op = line.op; key = line.key; reply = answer; value = value }

-- the value that an operation stores if it is answered yes: an insert in a map stores its own, and all else none
abbrev pub value_stored : Kind → Op → ℕ → Option ℕ
value_stored Map Insert value = Some value
value_stored _ op value = None

-- the call that an operation is if its reply answers it, and none if it was refused
abbrev pub answer_of : Kind → Line → Reply → List Call
answer_of kind line Yes = call_of_line line true (value_stored kind line.op line.value) ∷ []
answer_of kind line (Value value) = call_of_line line true (Some value) ∷ []
answer_of kind line No = call_of_line line false None ∷ []
answer_of kind line _ = []

-- the answered operations as calls, in their order
abbrev pub answered_calls : Kind → List Outcome → List Call
answered_calls kind outcomes = flat_map (λ outcome. answer_of kind outcome.0 outcome.1) outcomes

-- the lines of one worker, in their order
abbrev pub lines_by : ℕ → List Line → List Line
lines_by who lines = filter (λ line. line.worker == who) lines

-- the lines of the phases up to one, in their order
abbrev pub lines_up_to : ℕ → List Line → List Line
lines_up_to phase lines = filter (λ line. nat_le line.phase phase) lines

-- the outcomes of one worker, in their order
abbrev pub outcomes_by : ℕ → List Outcome → List Outcome
outcomes_by who outcomes = filter (λ outcome. outcome.0.worker == who) outcomes

-- the outcomes of the phases up to one, in their order
abbrev pub outcomes_up_to : ℕ → List Outcome → List Outcome
outcomes_up_to phase outcomes = filter (λ outcome. nat_le outcome.0.phase phase) outcomes

-- the outcomes of the phases after one, in their order
abbrev pub outcomes_past : ℕ → List Outcome → List Outcome
outcomes_past phase outcomes = filter (λ outcome. nat_lt phase outcome.0.phase) outcomes
