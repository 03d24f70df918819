-- What contracts see of a stepper, and its invariant.
use Rattle.std.specs.Prelude.{◌≡◌, ◌<◌}
use Rattle.vbr_machine.specs.Start.{IsStart}
use Rattle.vbr_slots.specs.declared.stepper.Stepper.TheInside.{Inside}
use Rattle.vbr_slots.specs.pools.Pools.{OwnPool}
use Rattle.vbr_slots.specs.pools.Tried.{last_tried}
use Rattle.vbr_slots.specs.views.Views.{PassView, knows}

-- what contracts see: the pass whose steps it makes
abbrev pub view_of : Inside → PassView
view_of p = record { trace = p.runner; pool = p.pool.items; hand = p.hand }

-- its start is one, its pool and its hand are as it knows its slots, and it keeps the slot that it tried last, which is one of the shape
pub record IsWell (p : Inside) : Type 0 where
  pub start : IsStart p.runner.start
  pub pool : OwnPool p.runner.start (knows p.runner) p.pool.items p.hand
  pub tried : p.tried ≡ last_tried p.runner
  pub low : p.tried < p.runner.start.shape.slots
