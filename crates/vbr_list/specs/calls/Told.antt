-- The call that an answer stands for: an insert that is answered yes stores a value, a remove and a get that are answered yes give one, and a table whose nodes have none keeps none.
use Rattle.std.specs.Prelude.{ℕ, Bool, true, false, Option, Some, None, Result, Ok, Err, is_some, if◌then◌else◌}
use Rattle.vbr_machine.specs.Start.{Start}
use Rattle.vbr_machine.specs.Opened.{payload_kept}
use Rattle.vbr_machine.specs.declared.history.Call.{Call}
use Rattle.vbr_machine.specs.declared.history.Op.{Op}
use Rattle.vbr_machine.specs.declared.history.Op.TheVariants.{Insert, Has, Get}
use Rattle.vbr_slots.specs.views.Views.{Trace}

-- an insert of an entry with this reply
abbrev pub stored_call : ℕ → ℕ → ℕ → Bool → Call
stored_call who key value reply = record { who = who; op = Insert; key = key; reply = reply; value = if reply then Some value else None }

-- what a call gives that is answered so: a look-up gives no value
abbrev pub given_by : Op → Option ℕ → Option ℕ
given_by Has answer = None
given_by op answer = answer

-- a call that is answered with yes and a value, or with no
abbrev pub given_call : ℕ → Op → ℕ → Option ℕ → Call
given_call who op key answer = record { who = who; op = op; key = key; reply = is_some answer; value = given_by op answer }

-- a call as a table keeps it: with its value if nodes have values
abbrev pub kept_call : Start → Call → Call
kept_call start call = record { who = call.who; op = call.op; key = call.key; reply = call.reply; value = payload_kept start call.value }

-- an insert with this reply, and a call with this answer, as the table of a pass keeps them
abbrev pub stored_in : Trace → ℕ → ℕ → Bool → Call
stored_in p key value reply = kept_call p.start (stored_call p.who key value reply)

abbrev pub given_in : Trace → Op → ℕ → Option ℕ → Call
given_in p op key answer = kept_call p.start (given_call p.who op key answer)

-- the look-up, with or without the value
abbrev pub look_up_op : Bool → Op
look_up_op true = Get
look_up_op false = Has

-- whether an answer is yes
abbrev pub is_yes : {A E : Type 0} → Result (Option A) E → Result Bool E
is_yes (Ok given) = Ok (is_some given)
is_yes (Err error) = Err error
