-- What a pass that is kept in lists learns.
use Rattle.std.specs.Prelude.{◌≡◌, ◌<◌, ◌≤◌, ◌^◌, ℕ, false, List, [], ◌∷◌, ◌++◌, Some, None, length, slice_index_or}
use Rattle.std.specs.List.{AllByRecursion}
use Rattle.vbr_words.specs.declared.link.Link.{Link}
use Rattle.vbr_words.specs.declared.place.At.{At}
use Rattle.vbr_words.specs.declared.place.At.TheVariants.{Slot}
use Rattle.vbr_words.specs.declared.place.Place.{Place}
use Rattle.vbr_words.specs.declared.place.Place.TheVariants.{Key, Value}
use Rattle.vbr_words.specs.declared.link.TheConstants.{MAX_VERSION}
use Rattle.vbr_machine.specs.Knowledge.{Know}
use Rattle.vbr_machine.specs.Learning.{birth_in_hand, key_in_hand, link_in_hand, link_written, reads_won, reread, value_in_hand, value_read, with_checked, with_own}
use Rattle.vbr_machine.specs.Put.{put}
use Rattle.vbr_machine.specs.declared.knowledge.Read.TheVariants.{LinkAt, BirthOf, KeyOf}
use Rattle.vbr_machine.specs.declared.knowledge.Holding.TheVariants.{Unlinked}
use Rattle.vbr_machine.specs.declared.event.Step.{Step}
use Rattle.vbr_machine.specs.declared.event.Step.TheVariants.{ReadEpoch, LoadBirth, LoadKey, LoadValue, Publish, Mark, Replace, Unlink}
use Rattle.vbr_world.specs.WorldInLists.{KeptPass, know_of, opening_pass}

-- what a pass knows is changed so, and it has as many slots in its list
pub record Learns (old new : KeptPass) (change : Know → Know) : Type 0 where
  pub knows : know_of new ≡ change (know_of old)
  pub slots : length new.own ≡ length old.own

-- the epoch has not moved: what was pending is checked
abbrev pub with_all_checked : Know → Know
with_all_checked know = record know { pending = []; checked = know.checked ++ know.pending }

-- the epoch is now this one: nothing that was read counts any more
abbrev pub with_epoch : ℕ → Know → Know
with_epoch epoch know = record know { epoch = epoch; pending = []; checked = [] }

-- each slot that the pass unlinked may be stamped
abbrev pub with_all_reread : Know → Know
with_all_reread know = record know { own = λ s. reread (know.own s) }

-- a slot in hand was linked at a place, by this link: both links and what was stored in the slot are checked, and the slot is no longer the pass's
abbrev pub with_linked : At → Link → ℕ → Know → Know
with_linked place link s know =
    with_own (with_checked know (LinkAt place link ∷ BirthOf s (birth_in_hand (know.own s)) ∷ KeyOf s (key_in_hand (know.own s)) ∷ LinkAt (Slot s) (link_in_hand (know.own s)) ∷ value_read s (value_in_hand (know.own s)))) s None

-- an exchange of a link has succeeded: what the pass has checked by it, and the slot that it no longer has, or has now
abbrev pub know_with_won : Step → Know → Know
know_with_won (Publish pred expected s) know = with_linked pred (link_written know (Publish pred expected s)) s know
know_with_won (Mark s expected) know = with_checked know (reads_won know (Mark s expected))
know_with_won (Replace s expected t) know = with_linked (Slot s) (link_written know (Replace s expected t)) t know
know_with_won (Unlink pred expected s) know = with_own (with_checked know (reads_won know (Unlink pred expected s))) s (Some (Unlinked false))
know_with_won _ know = know

-- each pass has so many slots in its list
abbrev pub HaveSlots : ℕ → List KeptPass → Type 0
HaveSlots slots passes = AllByRecursion (λ pass. length pass.own ≡ slots) passes

-- what the pass with a number knows
abbrev pub known_by : List KeptPass → ℕ → Know
known_by passes p = know_of (slice_index_or passes p opening_pass)

-- what a place has is a link word, or a key or a value of 64 bits, or else no matter
pub record FitsAt (place : Place) (found : ℕ) : Type 0 where
  pub low : found < 2 ^ 95
  pub key : (s : ℕ) → place ≡ Key s → found < 2 ^ 64
  pub value : (s : ℕ) → place ≡ Value s → found < 2 ^ 64

-- what a step finds is the number of a link word, and a key or a value that it loads has 64 bits
pub record FitsFound (step : Step) (found : ℕ) : Type 0 where
  pub low : found < 2 ^ 95
  pub key : (s : ℕ) → step ≡ LoadKey s → found < 2 ^ 64
  pub value : (s : ℕ) → step ≡ LoadValue s → found < 2 ^ 64

-- an epoch and a birth that are found have room in words, and what else is found in a number
pub record HasRoomInWords (step : Step) (found : ℕ) : Type 0 where
  pub is_found : FitsFound step found
  pub epoch : step ≡ ReadEpoch → found ≤ MAX_VERSION
  pub birth : (s : ℕ) → step ≡ LoadBirth s → found ≤ MAX_VERSION

-- what the pass with a number knows is changed so, and no other's; and each has as many slots as before
pub record LearnsAt (old new : List KeptPass) (p : ℕ) (change : Know → Know) : Type 0 where
  pub knows : ◌≡◌ {A = ℕ → Know} (known_by new) (put (known_by old) p (change (known_by old p)))
  pub count : length new ≡ length old
