-- What has to be there for a store to change the map.
use Rattle.std.specs.Prelude.{ℕ, ◌==◌, Bool, true, false, Option, Some, None}
use Rattle.vbr_slots.specs.views.Views.{Trace}
use Rattle.vbr_at_table.specs.reads.Moments.{WasEntry, WasSo}
use Rattle.vbr_at_table.specs.declared.refusal.Refusal.{Refusal}
use Rattle.vbr_at_table.specs.declared.refusal.Refusal.TheVariants.{OutOfSteps, NoSlot, EpochSpent}
use Rattle.vbr_list.specs.declared.wanted.Wanted.{Wanted}
use Rattle.vbr_list.specs.declared.wanted.Wanted.TheVariants.{Absent, Present, Anything, Value}

-- whether this is as wanted: the value that a key has, or none if it is absent
abbrev pub wants : Wanted → Option ℕ → Bool
wants Absent None = true
wants Absent (Some old) = false
wants Present None = false
wants Present (Some old) = true
wants Anything there = true
wants (Value value) None = false
wants (Value value) (Some old) = value == old

-- at a moment of what the pass did, the key was in the wanted state, or wasn't
abbrev pub WasWanted : Wanted → Trace → Trace → ℕ → Type 0
WasWanted Absent p q key = WasSo p q key false
WasWanted Present p q key = WasSo p q key true
WasWanted Anything p q key = Unit {0}
WasWanted (Value value) p q key = WasEntry p q key value

-- a refusal that isn't for want of steps comes only if it was
abbrev pub WasWantedFor : Wanted → Trace → Trace → ℕ → Refusal → Type 0
WasWantedFor wanted p q key (OutOfSteps used) = Unit {0}
WasWantedFor wanted p q key NoSlot = WasWanted wanted p q key
WasWantedFor wanted p q key (EpochSpent epoch) = WasWanted wanted p q key

-- the steps of reading a value before a slot is taken: two if one value is wanted, otherwise none
abbrev pub steps_to_compare : Wanted → ℕ
steps_to_compare (Value value) = 2
steps_to_compare wanted = 0
