-- One slot is in the set for each key.
use Rattle.std.proofs.Common.{◌≡◌, ℕ, zero, suc, Bool, true, false, List, [], ◌∷◌, ◌++◌, length, length-append, refl}
use Rattle.std.proofs.Common.{arith, sym, ◌∙◌, get_or}
use Rattle.std.specs.Prelude.{if◌then◌else◌, nat_eq}
use Rattle.std.specs.List.{IsDistinct}
use Rattle.std.specs.List.Sorted.{IsStrictlyIncreasing}
use Rattle.std.proofs.lemmas.Bool.{ne_eqb}
use Rattle.std.proofs.lemmas.Cmp.{nat_eq_equiv}
use Rattle.std.proofs.lemmas.List.Kept.{AllPairs-from_increasing}
use Rattle.std.proofs.lemmas.Map.Keys.{IsDistinct-from_apart}
use Rattle.std.proofs.lemmas.Map.Made.{length-from_same_keys}
use Rattle.vbr_machine.specs.Start.{Start}
use Rattle.vbr_machine.specs.Agreement.{Fits}
use Rattle.vbr_machine.specs.History.{set_after}
use Rattle.vbr_machine.specs.Incarnations.{Incarnations}
use Rattle.vbr_machine.specs.Keys.{AreKeysOf}
use Rattle.vbr_machine.specs.Nodes.{count_below, is_linked, key_in_slot, state_in}
use Rattle.vbr_machine.specs.Opened.{opening_keys}
use Rattle.vbr_machine.specs.Sound.{Sound, Tells}
use Rattle.vbr_set.proofs.reports.LinkedKeys.{distinct, linked_keys, set_is}

-- there are as many keys of linked nodes as linked nodes
pub length_linked : (a : Incarnations) (n : ℕ) →
    length (linked_keys a n) ≡ count_below (λ s. is_linked (state_in a s)) n
length_linked a zero = refl
length_linked a (suc n) = go (is_linked (state_in a n)) (length_linked a n)
  where
    go : (b : Bool) → length (linked_keys a n) ≡ count_below (λ s. is_linked (state_in a s)) n →
        length (if b then linked_keys a n ++ key_in_slot a n ∷ [] else linked_keys a n)
        ≡ (if b then suc (count_below (λ s. is_linked (state_in a s)) n)
        else count_below (λ s. is_linked (state_in a s)) n)
    go true e = let one = length-append (linked_keys a n) (key_in_slot a n ∷ []) in omega arith
    go false e = e

pub ascending_distinct : (keys : List ℕ) → IsStrictlyIncreasing keys → IsDistinct nat_eq keys
ascending_distinct keys up =
    IsDistinct-from_apart nat_eq keys
    (λ i j d l low.
    ne_eqb (get_or keys i d) (get_or keys j d)
    (λ e. (let less = AllPairs-from_increasing keys up i j d l low in omega arith)))

pub counted_keys : {start : Start} {a : Incarnations} → Sound start a → Fits start a → Tells start a → (keys : List ℕ) →
    AreKeysOf keys (set_after (opening_keys start) a.calls) →
    length keys ≡ count_below (λ s. is_linked (state_in a s)) start.shape.slots
counted_keys {start} {a} sound fits tells keys are =
    length-from_same_keys nat_eq_equiv keys (linked_keys a start.shape.slots) (ascending_distinct keys are.ascending)
    (distinct sound start.shape.slots) (λ key. are.same key ∙ sym (set_is sound fits tells key))
    ∙ length_linked a start.shape.slots
