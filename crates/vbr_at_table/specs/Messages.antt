-- What an error prints.
use Rattle.std.specs.Prelude.{ℕ, List, ◌++◌, codes, decimal}
use Rattle.vbr_at_table.specs.declared.refusal.Refusal.{Refusal}
use Rattle.vbr_at_table.specs.declared.refusal.Refusal.TheVariants.{OutOfSteps, NoSlot, EpochSpent}
use Rattle.vbr_at_table.specs.declared.rollback.Rollback.{Rollback}
use Rattle.vbr_at_table.specs.declared.rollback.Rollback.TheVariants.{EpochMoved, LostExchange}

-- what is printed of a refusal to take
abbrev pub refusal_text : Refusal → List ℕ
refusal_text (OutOfSteps used) = codes "the budget has no room after " ++ decimal used ++ codes " steps"
refusal_text NoSlot = codes "there is no slot in the pools"
refusal_text (EpochSpent epoch) = codes "the last epoch, " ++ decimal epoch ++ codes ", is spent"

-- what is printed of a rollback
abbrev pub rollback_text : Rollback → List ℕ
rollback_text (EpochMoved now) = codes "the epoch has moved to " ++ decimal now
rollback_text (LostExchange found) = codes "another word stood there: " ++ decimal found
