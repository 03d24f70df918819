-- Where each slot is: in exactly one place, which fits its last incarnation.
use Rattle.std.specs.Prelude.{◌≡◌, ℕ, ◌<◌, Option, Some, None, ◌⊎◌}
use Rattle.vbr_machine.specs.Start.{Start}
use Rattle.vbr_words.specs.Buckets.{bucket_of}
use Rattle.vbr_machine.specs.Machine.{World}
use Rattle.vbr_machine.specs.Incarnations.{Incarnations}
use Rattle.vbr_machine.specs.Incarnations as state
use Rattle.vbr_machine.specs.Chronicles.{IsLastDead}
use Rattle.vbr_machine.specs.Sound.{IsListed}
use Rattle.vbr_machine.specs.declared.knowledge.SlotPlace.{SlotPlace}
use Rattle.vbr_machine.specs.declared.knowledge.SlotPlace.TheVariants.{Shared, Own, Hand, Listed}

-- ---- the last incarnation of a slot

-- it was unlinked by the pass, and is not stamped yet
abbrev pub WasUnlinkedBy : Incarnations → ℕ → Option ℕ → Type 0
WasUnlinkedBy a pass None = ⊥
WasUnlinkedBy a pass (Some c) = (unlinked : ℕ) × (a.state c ≡ state.Unlinked pass unlinked)

-- it is in hand of the pass
abbrev pub LiesInHand : Incarnations → ℕ → Option ℕ → Type 0
LiesInHand a pass None = ⊥
LiesInHand a pass (Some c) = a.state c ≡ state.InHand pass

-- it is linked or marked, and has a key of the bucket
abbrev pub IsOfList : Start → Incarnations → ℕ → Option ℕ → Type 0
IsOfList start a bucket None = ⊥
IsOfList start a bucket (Some c) = IsListed (a.state c) × (bucket_of start.shape (a.key c) ≡ bucket)

-- ---- places

-- a slot is reached from the head of a bucket: the head's link names it, or the link of a slot that is reached does
pub data IsReachedFrom (w : World) (bucket : ℕ) : ℕ → Type 0 where
  at_once : (s : ℕ) → (w.head bucket).slot ≡ Some s → IsReachedFrom w bucket s
  onward : (s : ℕ) → (t : ℕ) → IsReachedFrom w bucket s → (w.link s).slot ≡ Some t → IsReachedFrom w bucket t

-- what a place asks of a slot. In the shared pool: nothing was born in it, or its last incarnation is stamped or given up. Own, of one of so many passes: the same, or that pass unlinked its last incarnation. In hand, of one of them: so is its last incarnation. Listed, in one of the buckets: its last incarnation is linked or marked there, and the slot is reached from that bucket's head
abbrev pub FitsPlace : Start → ℕ → World → Incarnations → ℕ → SlotPlace → Type 0
FitsPlace start passes w a s Shared = IsLastDead a (a.last s)
FitsPlace start passes w a s (Own pass) = (pass < passes) × (IsLastDead a (a.last s) ⊎ WasUnlinkedBy a pass (a.last s))
FitsPlace start passes w a s (Hand pass) = (pass < passes) × LiesInHand a pass (a.last s)
FitsPlace start passes w a s (Listed bucket) = (bucket < start.shape.buckets) × IsOfList start a bucket (a.last s) × IsReachedFrom w bucket s

-- each slot is in just one place, the one where the world has it; and what is reached from a bucket's head is listed in that bucket
pub record ArePlaced (start : Start) (passes : ℕ) (w : World) (a : Incarnations) : Type 0 where
  pub each : (s : ℕ) → FitsPlace start passes w a s (w.place s)
  pub reached : (bucket s : ℕ) → IsReachedFrom w bucket s → w.place s ≡ Listed bucket
