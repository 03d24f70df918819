-- A value that is read, or stored since a birth, if there is one.
use Rattle.std.proofs.Common.{◌≡◌, ℕ, Bool, true, false, Option, Some, None, refl, sym, ap, ◌∙◌}
use Rattle.std.specs.Prelude.{List, ◌∷◌, IsSome, unwrap_or, if◌then◌else◌}
use Rattle.std.specs.List.{AllByRecursion}
use Rattle.vbr_machine.specs.Acceptance.{HasValue}
use Rattle.vbr_machine.specs.Agreement.{IsStored}
use Rattle.vbr_machine.specs.Learning.{value_read, birth_in_hand, key_in_hand, value_in_hand, link_in_hand}
use Rattle.vbr_words.specs.declared.place.At.TheVariants.{Slot}
use Rattle.vbr_machine.specs.declared.knowledge.Holding.{Holding}
use Rattle.vbr_machine.specs.declared.knowledge.Read.{Read}
use Rattle.vbr_machine.specs.declared.knowledge.Read.TheVariants.{LinkAt, BirthOf, KeyOf, ValueOf}

-- the reads of a filled slot: its birth, its key, its link and its value, if there is one
abbrev pub filled_reads : ℕ → Option Holding → List Read
filled_reads s holding =
    BirthOf s (birth_in_hand holding) ∷ KeyOf s (key_in_hand holding) ∷ LinkAt (Slot s) (link_in_hand holding)
    ∷ value_read s (value_in_hand holding)

-- what is so of the read of a value, if there is one
of_value : (P : Read → Type 0) (s : ℕ) (v : Option ℕ) → ((x : ℕ) → v ≡ Some x → P (ValueOf s x)) →
    AllByRecursion P (value_read s v)
of_value P s None h = tt
of_value P s (Some x) h = (h x refl, tt)

-- what is so of each read of a filled slot
pub of_filled : (P : Read → Type 0) (s : ℕ) (holding : Option Holding) → P (BirthOf s (birth_in_hand holding)) →
    P (KeyOf s (key_in_hand holding)) → P (LinkAt (Slot s) (link_in_hand holding)) →
    ((x : ℕ) → value_in_hand holding ≡ Some x → P (ValueOf s x)) → AllByRecursion P (filled_reads s holding)
of_filled P s holding birth key link value = (birth, (key, (link, of_value P s (value_in_hand holding) value)))

-- a value that was stored is the one that is known
pub stored_is : (b : Bool) (value : ℕ) (known : Option ℕ) → IsStored b value known → (x : ℕ) → known ≡ Some x →
    value ≡ x
stored_is b value None s x e = absurd (cc)
stored_is b value (Some y) s x e = let f : y ≡ x = cc in s.1 ∙ f

-- where nodes have values, one that is known was stored
pub stored_there : (t b : Bool) (value : ℕ) (known : Option ℕ) → HasValue t known → IsStored b value known → t ≡ true →
    b ≡ true
stored_there true b value (Some x) h s e = s.0
stored_there true b value None h s e = absurd (cc)
stored_there false b value known h s e = absurd (cc)

-- and it is that of the incarnation
pub stored_kept : (t b : Bool) (value : ℕ) (known : Option ℕ) → HasValue t known → IsStored b value known →
    (if t then known else None) ≡ (if t then Some value else None)
stored_kept true b value (Some x) h s = ap Some (sym s.1)
stored_kept true b value None h s = absurd (cc)
stored_kept false b value known h s = refl

-- a value that is there, by what it is
pub some_value : (known : Option ℕ) (x : ℕ) → IsSome known → unwrap_or known 0 ≡ x → known ≡ Some x
some_value None x h e = absurd (cc)
some_value (Some y) x h e = ap Some e

-- one that is there serves where nodes have values
pub has_value : (t : Bool) (known : Option ℕ) → IsSome known → HasValue t known
has_value true known h = h
has_value false known h = tt

-- where nodes have values, the one that is known
pub known_kept : (t : Bool) (known : Option ℕ) (x : ℕ) → HasValue t known → (IsSome known → unwrap_or known 0 ≡ x) →
    (if t then known else None) ≡ (if t then Some x else None)
known_kept true known x h e = some_value known x h (e h)
known_kept false known x h e = refl
