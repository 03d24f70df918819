-- The number of each answer: 1 is yes, 0 is no or done, and refusals are negative.
use Rattle.std.specs.Prelude.{ℕ, ◌==◌, if◌then◌else◌, ℤ, pos, negsuc, Bool, true, false, Option, None, Some, Result, Ok, Err}
use Rattle.vbr_at_table.specs.declared.refusal.Refusal.{Refusal}
use Rattle.vbr_at_table.specs.declared.refusal.Refusal.TheVariants.{OutOfSteps, NoSlot, EpochSpent}
use Rattle.vbr_set.specs.declared.record_refusals.HeldRefusal.{HeldRefusal}
use Rattle.vbr_set.specs.declared.record_refusals.HeldRefusal.TheVariants as held
use Rattle.vbr_set.specs.declared.record_refusals.HoldRefusal.{HoldRefusal}
use Rattle.vbr_set.specs.declared.record_refusals.HoldRefusal.TheVariants as holding
use Rattle.vbr_handles.specs.declared.closing.CloseRefusal.{CloseRefusal}
use Rattle.vbr_handles.specs.declared.closing.CloseRefusal.TheVariants as closing
use Rattle.vbr_handles.specs.declared.closing_all.CloseAllRefusal.{CloseAllRefusal}
use Rattle.vbr_handles.specs.declared.closing_all.CloseAllRefusal.TheVariants as closing_all
use Rattle.vbr_handles.specs.declared.opening.OpenRefusal.{OpenRefusal}
use Rattle.vbr_handles.specs.declared.opening.OpenRefusal.TheVariants as opening
use Rattle.vbr_handles.specs.declared.renewing_all.RenewAllRefusal.{RenewAllRefusal}
use Rattle.vbr_handles.specs.declared.renewing_all.RenewAllRefusal.TheVariants as renewing

-- for a call: 1 yes, 0 no, -1 out of steps, -2 no slot, -3 the epoch is spent
abbrev pub call_code : Result Bool Refusal → ℤ
call_code (Ok true) = pos 1
call_code (Ok false) = pos 0
call_code (Err (OutOfSteps used)) = negsuc 0
call_code (Err NoSlot) = negsuc 1
call_code (Err (EpochSpent epoch)) = negsuc 2

-- for a call that goes by the expected value: 1 it was there, 2 another was there, 0 the key was absent; its refusals are the same as for a call
abbrev pub exchange_code : ℕ → Result (Option ℕ) Refusal → ℤ
exchange_code expected (Ok (Some there)) = if there == expected then pos 1 else pos 2
exchange_code expected (Ok None) = pos 0
exchange_code expected (Err refusal) = call_code (Err refusal)

-- for an empty handle: -4
abbrev pub empty_code : ℤ
empty_code = negsuc 3

-- for a slot in hand: -14 one is held and the call would take another, or none is and the call asks for one
abbrev pub held_code : ℤ
held_code = negsuc 13

-- for a walk that began on another opening: -15
abbrev pub reshaped_code : ℤ
reshaped_code = negsuc 14

-- for a hold: 1 a slot is held; otherwise one was held before, or it is the refusal of a call
abbrev pub hold_code : Result ℕ HoldRefusal → ℤ
hold_code (Ok slot) = pos 1
hold_code (Err holding.Held) = held_code
hold_code (Err (holding.Refused refusal)) = call_code (Err refusal)

-- for letting go, by whether a slot was held: 1 put back; otherwise none was held
abbrev pub let_go_code : Bool → ℤ
let_go_code true = pos 1
let_go_code false = held_code

-- for a call by a held slot: 1 yes, 0 no, -1 out of steps; otherwise none is held, or the own pool is full
abbrev pub held_call_code : Result Bool HeldRefusal → ℤ
held_call_code (Ok true) = pos 1
held_call_code (Ok false) = pos 0
held_call_code (Err (held.OutOfSteps used)) = negsuc 0
held_call_code (Err held.NotHeld) = held_code
held_call_code (Err held.Full) = held_code

-- for an opening: 0 done, -5 a handle is in use, -6 a bad shape, -7 a bad count, -8 no memory, -10 bad keys
abbrev pub open_code : Result (Unit {0}) OpenRefusal → ℤ
open_code (Ok done) = pos 0
open_code (Err opening.InUse) = negsuc 4
open_code (Err opening.Shape) = negsuc 5
open_code (Err opening.Passes) = negsuc 6
open_code (Err opening.Memory) = negsuc 7
open_code (Err opening.Keys) = negsuc 9

-- for a close: 0 given back, 1 ended, -4 empty, -8 no memory, -9 a pass was lost, -11 no room
abbrev pub close_code : {R : Type 0} → Result (Option R) (CloseRefusal R) → ℤ
close_code (Ok None) = pos 0
close_code (Ok (Some report)) = pos 1
close_code (Err closing.Empty) = negsuc 3
close_code (Err closing.Memory) = negsuc 7
close_code (Err closing.Lost) = negsuc 8
close_code (Err (closing.Room report)) = negsuc 10

-- for a report or a close by all: 1 returned, -4 one is empty, -8 no memory, -11 no room, -12 some are missing, -13 they are of several sets
abbrev pub close_all_code : {R : Type 0} → Result R (CloseAllRefusal R) → ℤ
close_all_code (Ok report) = pos 1
close_all_code (Err closing_all.Empty) = negsuc 3
close_all_code (Err closing_all.Memory) = negsuc 7
close_all_code (Err (closing_all.Room report)) = negsuc 10
close_all_code (Err closing_all.Missing) = negsuc 11
close_all_code (Err closing_all.Mixed) = negsuc 12

-- for a renewal of all: 0 done, -4 one is empty, -6 a bad shape, -8 no memory, -11 fewer slots than keys, -12 some are missing, -13 they are of several sets
abbrev pub renew_all_code : Result (Unit {0}) RenewAllRefusal → ℤ
renew_all_code (Ok done) = pos 0
renew_all_code (Err renewing.Empty) = negsuc 3
renew_all_code (Err renewing.Shape) = negsuc 5
renew_all_code (Err renewing.Memory) = negsuc 7
renew_all_code (Err renewing.Room) = negsuc 10
renew_all_code (Err renewing.Missing) = negsuc 11
renew_all_code (Err renewing.Mixed) = negsuc 12
