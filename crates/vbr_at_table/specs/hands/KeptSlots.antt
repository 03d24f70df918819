-- What a call keeps of the slots of its pass.
use Rattle.std.specs.Prelude.{◌≡◌, ◌≢◌, ℕ, ◌+◌, ◌≤◌, Bool, true, List, ◌++◌, [], length, Result, Ok, Some, Contains, ◌⊎◌}
use Rattle.vbr_machine.specs.Acceptance.{IsInHand, IsUnlinked, MayBear}
use Rattle.vbr_machine.specs.Knowledge.{Know}
use Rattle.vbr_machine.specs.Whereabouts.{UnlinksInTurn}
use Rattle.vbr_slots.specs.declared.pass.TheConstants.{POOL}
use Rattle.vbr_slots.specs.views.Views.{Trace, PassView, knows}
use Rattle.vbr_at_table.specs.costs.FlagsInNeed.{WinsNoFlag, flags_won, times_beyond}
use Rattle.vbr_at_table.specs.costs.StepKinds.{advances, births_in, flags_raised, flags_tried}

-- a slot in the own pool of the pass, or in its hand
abbrev pub HasSlot : PassView → ℕ → Type 0
HasSlot pass slot = Contains pass.pool slot ⊎ (pass.hand ≡ Some slot)

-- each slot that the pass had, in its own pool or in its hand, it has still
abbrev pub HasStill : PassView → PassView → Type 0
HasStill p q = (slot : ℕ) → HasSlot p slot → HasSlot q slot

-- each slot that the pass had it has still, but for one
abbrev pub HasAllButOne : PassView → PassView → Type 0
HasAllButOne p q = (one : ℕ) × ((slot : ℕ) → HasSlot p slot → slot ≢ one → HasSlot q slot)

-- each slot that the pass had it has still, but for the one that it published, if the key was added
abbrev pub HasUnpublished : {E : Type 0} → PassView → PassView → Result Bool E → Type 0
HasUnpublished p q (Ok true) = HasAllButOne p q
HasUnpublished p q answer = HasStill p q

-- a slot that the pass could take at a moment of a call, by what it knows then: it may give birth there, and did not keep the slot outside its pool when the call began
abbrev pub CouldTake : PassView → Know → ℕ → Type 0
CouldTake p know slot = MayBear (know.own slot) × (MayBear ((knows p.trace).own slot) → HasSlot p slot)

-- each slot that the pass could take then is in its own pool or in its hand
abbrev pub HasFree : PassView → PassView → Type 0
HasFree p q = (slot : ℕ) → CouldTake p (knows q.trace) slot → HasSlot q slot

-- a slot that the pass has put aside: in hand by what it knows, and neither in its own pool nor the one in its hand
abbrev pub IsAside : PassView → ℕ → Type 0
IsAside p slot = IsInHand ((knows p.trace).own slot) × ¬ (HasSlot p slot)

-- the slot is aside as it was: the pass knows the same of it, and gave no birth there meanwhile
pub record StaysAside (p q : PassView) (slot : ℕ) : Type 0 where
  pub known : (knows q.trace).own slot ≡ (knows p.trace).own slot
  pub outside : ¬ (HasSlot q slot)
  pub births : births_in slot q.trace ≡ births_in slot p.trace

-- each slot that the pass had put aside stays so
abbrev pub KeepsAside : PassView → PassView → Type 0
KeepsAside p q = (slot : ℕ) → IsAside p slot → StaysAside p q slot

-- whatever the pass unlinked since, it has stamped: each slot that it has unlinked and not stamped then, it had so before
abbrev pub StampsUnlinked : Trace → Trace → Type 0
StampsUnlinked p q = (slot : ℕ) → IsUnlinked ((knows q).own slot) → IsUnlinked ((knows p).own slot)

-- the pass has stamped each slot that it unlinked
abbrev pub HasStampedAll : Trace → Type 0
HasStampedAll p = (slot : ℕ) → ¬ (IsUnlinked ((knows p).own slot))

-- whenever the pass unlinked a slot in what it has seen, or tried to, it had stamped each that it had unlinked before
abbrev pub UnlinkedInTurn : Trace → Type 0
UnlinkedInTurn p = UnlinksInTurn p.start p.seen p.who

-- a pass that had unlinked in turn has done so since
abbrev pub StaysInTurn : Trace → Trace → Type 0
StaysInTurn p q = UnlinkedInTurn p → UnlinkedInTurn q

-- it has, if it had stamped each slot that it had unlinked
abbrev pub GoesInTurn : Trace → Trace → Type 0
GoesInTurn p q = HasStampedAll p → StaysInTurn p q

-- no slot of the pass is lost: what it unlinked since it has stamped, one slot before it unlinked the next, each slot that it could take then is in its own pool or in its hand, and each that it had put aside is aside still
pub record KeepsSlots (p q : PassView) : Type 0 where
  pub free : HasFree p q
  pub stamped : StampsUnlinked p.trace q.trace
  pub turn : GoesInTurn p.trace q.trace
  pub aside : KeepsAside p q

-- the own pool has what it had, and perhaps more at its end
abbrev pub PoolGrows : PassView → PassView → Type 0
PoolGrows p q = (more : List ℕ) × (q.pool ≡ p.pool ++ more)

-- the pass put no slot into the shared pool, or its own pool has no more than so many places left
abbrev pub SharesWhereFull : ℕ → PassView → PassView → Type 0
SharesWhereFull left p q = (flags_raised q.trace ≡ flags_raised p.trace) ⊎ (POOL ≤ length q.pool + left)

-- the pass tried to take no flag, so no slot of the shared pool
abbrev pub TriesNoFlag : PassView → PassView → Type 0
TriesNoFlag p q = flags_tried q.trace ≡ flags_tried p.trace

-- it tried to take one only if its own pool was empty and this holds
abbrev pub TriesOnlyWhere : Type 0 → PassView → PassView → Type 0
TriesOnlyWhere Holds p q = TriesNoFlag p q ⊎ ((p.pool ≡ []) × Holds)

-- it tried to take one only if its own pool was empty
abbrev pub TriesWhereEmpty : PassView → PassView → Type 0
TriesWhereEmpty = TriesOnlyWhere (Unit {0})

-- each slot that the pass may give birth in is in its own pool or in its hand
abbrev pub HasAllFree : PassView → Type 0
HasAllFree p = (slot : ℕ) → MayBear ((knows p.trace).own slot) → HasSlot p slot

-- the pass won one flag at most, and raised none beyond its need; and if it had all its free slots at first, it won that flag when it had no slot
pub record WinsInNeed (p q : PassView) : Type 0 where
  pub one : flags_won q.trace ≤ flags_won p.trace + 1
  pub raised : times_beyond q.trace + flags_won p.trace ≤ times_beyond p.trace + flags_won q.trace
  pub needed : HasAllFree p → times_beyond q.trace ≡ times_beyond p.trace

-- the pass made no step that would advance the epoch; no slot of it is lost; its own pool grew, if it changed; it put none into the shared pool, unless its own pool has just the place left that is for a hand; it tried to take none out of the shared pool, and put none there that was its last
pub record TakesNoSlot (p q : PassView) : Type 0 where
  pub count : advances q.trace ≡ advances p.trace
  pub kept : KeepsSlots p q
  pub grows : PoolGrows p q
  pub shared : SharesWhereFull 1 p q
  pub tries : TriesNoFlag p q
  pub wins : WinsNoFlag p.trace q.trace
