use Rattle.vbr_list.proofs.Names.{◌+◌, ◌-◌, steps_to_answer}
use Rattle.vbr_list.proofs.look_ups.LostLooks.{HasLooked}
use Rattle.vbr_list.proofs.looking_up.look_up.Given as goal

abbrev pub invariant-loop-sight : goal.invariant-loop-sight
invariant-loop-sight g l = HasLooked (3 + steps_to_answer l.fn.gives) l.initial.call l.call

abbrev pub decreases-loop-sight : goal.decreases-loop-sight
decreases-loop-sight g l = l.call.budget - l.call.used
