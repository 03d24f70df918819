-- When a call rolls back, and what it leaves.
use Rattle.std.specs.Prelude.{◌≡◌, ◌≢◌, []}
use Rattle.vbr_slots.specs.steps.Alone.{IsFresh}
use Rattle.vbr_slots.specs.views.Views.{Trace, knows}
use Rattle.vbr_at_table.specs.reads.KeptKnowledge.{Keeps}
use Rattle.vbr_at_table.specs.reads.Moments.{WasFound}
use Rattle.vbr_at_table.specs.declared.held.Held.{Held}
use Rattle.vbr_at_table.specs.declared.rollback.Rollback.{Rollback}
use Rattle.vbr_at_table.specs.declared.rollback.Rollback.TheVariants.{EpochMoved, LostExchange}

-- the epoch has moved: it is another one than the pass had, which has that one now and knows nothing else
abbrev pub IsMoved : Trace → Trace → Rollback → Type 0
IsMoved p q (EpochMoved now) = (now ≢ (knows p).epoch) × ((knows q).epoch ≡ now) × ((knows q).pending ≡ []) × ((knows q).checked ≡ [])
IsMoved p q (LostExchange found) = ⊥

-- another word than what is held stood at its place, and what the pass knew it knows
abbrev pub IsLost : Trace → Trace → Held → Rollback → Type 0
IsLost p q held (EpochMoved now) = ⊥
IsLost p q held (LostExchange found) = (found ≢ held.word) × WasFound p q held.at found × Keeps (knows p) (knows q)

-- the one or the other
abbrev pub IsMovedOrLost : Trace → Trace → Held → Rollback → Type 0
IsMovedOrLost p q held (EpochMoved now) = IsMoved p q (EpochMoved now)
IsMovedOrLost p q held (LostExchange found) = IsLost p q held (LostExchange found)

-- if the epoch has moved, none has followed it in what the pass has seen
abbrev pub FreshIfMoved : Trace → Rollback → Type 0
FreshIfMoved q (EpochMoved now) = IsFresh q
FreshIfMoved q (LostExchange found) = Unit {0}
