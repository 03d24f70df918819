-- Where the slots of a set are when an insert finds none, and how many the other passes have.
use Rattle.std.specs.Prelude.{◌≡◌, ◌≢◌, ◌⊎◌, ℕ, ◌+◌, ◌<◌, ◌==◌, List, length, Option, Some, None, if◌then◌else◌}
use Rattle.vbr_machine.specs.Acceptance.{IsUnlinked, MayBear}
use Rattle.vbr_machine.specs.Keys.{AreKeysOf}
use Rattle.vbr_machine.specs.History.{set_after}
use Rattle.vbr_machine.specs.Nodes.{marked_after}
use Rattle.vbr_machine.specs.Opened.{opening_keys}
use Rattle.vbr_machine.specs.Runs.{BeginsFor}
use Rattle.vbr_machine.specs.Whereabouts.{number_had, sum_of}
use Rattle.vbr_slots.specs.steps.PassLaw.{PassLaw}
use Rattle.vbr_slots.specs.views.Views.{PassView, Trace, knows}
use Rattle.vbr_at_table.specs.hands.KeptSlots.{HasSlot}
use Rattle.vbr_at_table.specs.declared.aside.Aside.{Aside}
use Rattle.vbr_set.specs.histories.Histories.{calls_of}
use Rattle.vbr_set.specs.calls.RecordCalls.{slot_aside}

-- each slot that the pass may give birth in is in its own pool or its hand, and it has stamped each that it unlinked
pub record HasAllSlots (p : PassView) : Type 0 where
  pub free : (slot : ℕ) → MayBear ((knows p.trace).own slot) → HasSlot p slot
  pub stamped : (slot : ℕ) → ¬ (IsUnlinked ((knows p.trace).own slot))

-- each slot that the pass may give birth in is in its own pool or its hand, or is the one that is put aside; and it has stamped each that it unlinked
pub record HasAllWith (aside : Option Aside) (p : PassView) : Type 0 where
  pub free : (slot : ℕ) → MayBear ((knows p.trace).own slot) → HasSlot p slot ⊎ (slot_aside aside ≡ Some slot)
  pub stamped : (slot : ℕ) → ¬ (IsUnlinked ((knows p.trace).own slot))

-- how many slots the other passes have, in their own pools, in their hands and unstamped, after what the pass has seen
abbrev pub had_by_others : Trace → ℕ
had_by_others p = sum_of p.passes (λ pass. if pass == p.who then 0 else number_had p.start p.seen pass)

-- all slots are taken up, after what the pass has seen: by one for each key of the set, by the marked ones, and by what the other passes have
abbrev pub AreTakenUp : Trace → Type 0
AreTakenUp p = (keys : List ℕ) → AreKeysOf keys (set_after (opening_keys p.start) (calls_of p.start p.seen)) → p.start.shape.slots ≡ length keys + marked_after p.start p.seen + had_by_others p

-- a pass stands between two calls, after what another has seen, which is all that it did: it has all its slots, with the one that it holds, if any, and none in its hand
pub record IsBetweenCalls (aside : Option Aside) (p : PassView) (q : Trace) : Type 0 where
  pub law : PassLaw p
  pub start : p.trace.start ≡ q.start
  pub seen : BeginsFor p.trace.who p.trace.seen q.seen
  pub has_all : HasAllWith aside p
  pub empty_hand : p.hand ≡ None

-- each other pass of the set stands between two calls, and holds this slot, or none
abbrev pub OthersAreBetweenCalls : (ℕ → Option Aside) → Trace → Type 0
OthersAreBetweenCalls aside q = (who : ℕ) → who < q.passes → who ≢ q.who → (p : PassView) × (p.trace.who ≡ who) × IsBetweenCalls (aside who) p q

-- how many slots the other passes hold: at most one each
abbrev pub number_aside : Option Aside → ℕ
number_aside None = 0
number_aside (Some aside) = 1

abbrev pub held_by_others : (ℕ → Option Aside) → Trace → ℕ
held_by_others aside q = sum_of q.passes (λ pass. if pass == q.who then 0 else number_aside (aside pass))
