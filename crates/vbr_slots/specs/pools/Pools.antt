-- The own pool of a pass, and the slot in its hand.
use Rattle.std.specs.Prelude.{◌≡◌, ◌≢◌, ℕ, ◌<◌, ◌==◌, not, List, All, AllPairs, Contains, filter, Option, Some, None, if◌then◌else◌}
use Rattle.vbr_machine.specs.Start.{Start}
use Rattle.vbr_machine.specs.Acceptance.{MayBear, IsInHand}
use Rattle.vbr_machine.specs.Knowledge.{Know}

-- the slots of an own pool, the oldest first
pub record PoolView : Type 0 where
  pub items : List ℕ

-- the slot is one of the shape, and the pass may give birth in it: it is free, or was given back in hand
abbrev pub IsPooled : Start → Know → ℕ → Type 0
IsPooled start know s = (s < start.shape.slots) × MayBear (know.own s)

-- the slot in hand, if there is one, is one of the shape that was born by the pass and not published, and isn't in the pool
abbrev pub HandFits : Start → Know → List ℕ → Option ℕ → Type 0
HandFits start know pool None = Unit {0}
HandFits start know pool (Some s) = (s < start.shape.slots) × IsInHand (know.own s) × ¬ (Contains pool s)

-- a pool and a hand against what the pass knows: each slot of the pool may be born in, none stands there twice, and the slot in hand is another
pub record OwnPool (start : Start) (know : Know) (pool : List ℕ) (hand : Option ℕ) : Type 0 where
  pub pooled : All (IsPooled start know) pool
  pub apart : AllPairs ◌≢◌ pool
  pub in_hand : HandFits start know pool hand

-- a pool without a slot
abbrev pub without : ℕ → List ℕ → List ℕ
without slot pool = filter (λ s. not (s == slot)) pool

-- a hand that a slot may come into: an empty one, or one that has this slot
abbrev pub HasRoomFor : Option ℕ → ℕ → Type 0
HasRoomFor None slot = Unit {0}
HasRoomFor (Some s) slot = s ≡ slot

-- a hand once a slot was given back, if it was in this hand
abbrev pub hand_without : ℕ → Option ℕ → Option ℕ
hand_without slot None = None
hand_without slot (Some s) = if s == slot then None else Some s
