-- Each refusal of the machine, computed once, with one pass, one slot, one bucket and one epoch.
use Rattle.std.proofs.Common.{◌≡◌, [], ◌∷◌, take, None, refl, rules, tests, false}
use Rattle.vbr_machine.specs.Start.{Start, empty_start}
use Rattle.vbr_words.specs.Flags.{has_flag, first_bits, flag_word}
use Rattle.vbr_words.specs.Words.{word_of, link_of}
use Rattle.vbr_words.specs.Buckets.{bucket_of}
use Rattle.vbr_machine.specs.Machine.{opening}
use Rattle.vbr_machine.specs.Runs.{IsRun, Refuses, world_after}
use Rattle.vbr_machine.specs.declared.event.Step.TheVariants.{ReadEpoch, Advance, TakeFlag, StoreBirth, StoreKey}
use Rattle.vbr_machine.specs.declared.event.Step.TheVariants.{LoadKey}
use Rattle.vbr_machine.specs.declared.event.Effect.TheVariants.{Won, Lost}
use Rattle.vbr_machine.specs.declared.event.CoreRefusal.TheVariants.{NoSuchPass, NotOwned, NotHeld, OutOfRange}
use Rattle.vbr_machine.specs.declared.event.CoreRefusal.TheVariants.{EpochLast}
use Rattle.vbr_machine.proofs.worked.WorkedLists.{by, shape_of_three, reborn_slot, effects_from}

abbrev one_of_each : Start
one_of_each = empty_start (record { slots = 1; buckets = 1; spread = None; last_epoch = 1; values = false })

-- at the opening: to a pass that isn't there; of a key in a slot that isn't owned; of a key of a slot that isn't
-- held; of a slot outside; of the epoch 0; and of the last epoch
pub refused_at_opening : Refuses one_of_each 1 (opening one_of_each) (by 1 ReadEpoch) NoSuchPass
    × Refuses one_of_each 1 (opening one_of_each) (by 0 (StoreKey 0 5)) NotOwned
    × Refuses one_of_each 1 (opening one_of_each) (by 0 (LoadKey 0)) NotHeld
    × Refuses one_of_each 1 (opening one_of_each) (by 0 (TakeFlag 1)) OutOfRange
    × Refuses one_of_each 1 (opening one_of_each) (by 0 (Advance 0)) OutOfRange
    × Refuses one_of_each 1 (opening one_of_each) (by 0 (Advance 1)) EpochLast
unfolding bucket_of link_of word_of has_flag first_bits flag_word
refused_at_opening = (
  search (rules, tests),
  search (rules, tests),
  search (rules, tests),
  search (rules, tests),
  search (rules, tests),
  search (rules, tests),
)

pub birth_above_the_epoch : Refuses one_of_each 1 (world_after one_of_each (by 0 (TakeFlag 0) ∷ []))
    (by 0 (StoreBirth 0 2)) OutOfRange
unfolding bucket_of link_of word_of has_flag first_bits flag_word
birth_above_the_epoch = search (rules, tests)

pub birth_at_the_stamp : Refuses shape_of_three 2 (world_after shape_of_three (take 32 reborn_slot))
    (by 0 (StoreBirth 1 1)) OutOfRange
unfolding bucket_of link_of word_of has_flag first_bits flag_word
birth_at_the_stamp = search (rules, tests)

pub flag_taken_twice : IsRun one_of_each 1 (by 0 (TakeFlag 0) ∷ by 0 (TakeFlag 0) ∷ [])
unfolding bucket_of link_of word_of has_flag first_bits flag_word
flag_taken_twice = search (rules, tests)

pub flag_taken_twice_effects : effects_from one_of_each (opening one_of_each)
    (by 0 (TakeFlag 0) ∷ by 0 (TakeFlag 0) ∷ []) ≡ Won ∷ Lost 0 ∷ []
unfolding bucket_of link_of word_of has_flag first_bits flag_word
flag_taken_twice_effects = refl
