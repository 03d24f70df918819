use Rattle.std.proofs.Common.{◌≡◌, length}
use Rattle.std.specs.List.{AllByRecursion}
use Rattle.vbr_world.specs.KeptOpenings.{IsNewPass}
use Rattle.vbr_world.proofs.world.opening.new_passes.Given as goal

abbrev pub invariant-loop : goal.invariant-loop
invariant-loop l = record {
  count : length l.made.items ≡ l.counter;
  new : AllByRecursion (IsNewPass l.slots) l.made.items;
}
