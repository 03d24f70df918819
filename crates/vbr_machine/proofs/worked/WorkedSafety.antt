-- The worked runs are runs, of shapes: so the theorem speaks of them.
use Rattle.std.proofs.Common.{ℕ, ◌<◌, ◌≤◌, false, None, arith}
use Rattle.vbr_words.proofs.Lemmas.{room_with_fewer}
use Rattle.vbr_machine.specs.Start.{IsStart, empty_start}
use Rattle.vbr_machine.specs.Safety.{IsSafe}
use Rattle.vbr_machine.proofs.runs.SafeRuns.{every_run}
use Rattle.vbr_machine.proofs.worked.WorkedLists.{shape_of_three, shape_of_one, reborn_slot, same_word, two_helpers}
use Rattle.vbr_machine.proofs.worked.WorkedLists.{worked_plays}

-- a few slots are a shape
few_are_shape : (slots : ℕ) → 0 < slots → slots ≤ 3 →
    IsStart (empty_start (record { slots = slots; buckets = 1; spread = None; last_epoch = 10; values = false }))
few_are_shape slots some low =
    record {
      shape =
          record {
            some_slot = some;
            slots = omega (arith, low);
            some_bucket = omega arith;
            buckets = omega arith;
            some_epoch = omega arith;
            last_epoch = omega arith;
            room = room_with_fewer slots 2 10 (omega (arith, low)) (omega arith) (omega arith);
          };
      ascending = λ k low. absurd (omega arith);
      few = omega arith;
      paired = omega arith;
    }

three_is_shape : IsStart shape_of_three
three_is_shape = few_are_shape 3 (omega arith) (omega arith)

one_is_shape : IsStart shape_of_one
one_is_shape = few_are_shape 1 (omega arith) (omega arith)

pub reborn_slot_safe : IsSafe shape_of_three reborn_slot
reborn_slot_safe = every_run shape_of_three 2 reborn_slot three_is_shape worked_plays.0.0

pub same_word_safe : IsSafe shape_of_three same_word
same_word_safe = every_run shape_of_three 2 same_word three_is_shape worked_plays.1.0

pub two_helpers_safe : IsSafe shape_of_one two_helpers
two_helpers_safe = every_run shape_of_one 2 two_helpers one_is_shape worked_plays.2.0
