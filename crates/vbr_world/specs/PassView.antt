-- What contracts see of what the world keeps of a pass.
use Rattle.vbr_world.specs.declared.world.passes.PassState.TheInside.{Inside}
use Rattle.vbr_world.specs.WorldInLists.{KeptPass}

-- what contracts see
abbrev pub kept_pass_in : Inside → KeptPass
kept_pass_in p = record { epoch = p.epoch; pending = p.pending.items; checked = p.checked.items; own = p.own.items }
