-- What others did leaves the slot that the pass tried last.
use Rattle.std.proofs.Common.{rules}
use Rattle.vbr_slots.proofs.steps.Tried.{since_tried}
use Rattle.vbr_slots.proofs.slots.Slots.catch_up.Goals as goal

pub invariant_of-pass-inside : goal.invariant_of-pass-inside
invariant_of-pass-inside g c = record {
  start = search rules;
  pool = search rules;
  tried = since_tried c.catch_up_as.ensures.since c.pass-inside.invariant.tried;
  low = search rules;
}
