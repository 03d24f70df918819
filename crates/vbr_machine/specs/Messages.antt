-- What a refusal prints.
use Rattle.std.specs.Prelude.{ℕ, List, codes}
use Rattle.vbr_machine.specs.declared.event.CoreRefusal.{CoreRefusal}
use Rattle.vbr_machine.specs.declared.event.CoreRefusal.TheVariants.{NoSuchPass, NotOwned, NotHeld, OutOfRange, EpochLast}
use Rattle.vbr_machine.specs.declared.event.CoreRefusal.TheVariants.{NoMemory as no_memory_for_step}

-- of a step
abbrev pub step_text : CoreRefusal → List ℕ
step_text NoSuchPass = codes "there is no pass of that number"
step_text NotOwned = codes "the pass doesn't own the slot so"
step_text NotHeld = codes "the pass hasn't checked a read that the step asks for"
step_text OutOfRange = codes "a number of the step is out of range"
step_text EpochLast = codes "the epoch is the last one"
step_text no_memory_for_step = codes "there is no memory for the step"
