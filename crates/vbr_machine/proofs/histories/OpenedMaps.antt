-- The map that a shape opens with, where its keys and values are those of a list of entries.
use Rattle.std.proofs.Common.{◌≡◌, ℕ, suc, Bool, true, false, List, [], ◌∷◌, length, Option, Some, None, nat_eq, nat_lt}
use Rattle.std.proofs.Common.{refl, ap, ◌∙◌, arith}
use Rattle.std.proofs.lemmas.Bool.Decides.{nat_tests}
use Rattle.std.specs.List.{list_any}
use Rattle.std.specs.Prelude.{◌==◌, ◌||◌, slice_index_or, if◌then◌else◌}
use Rattle.vbr_words.specs.Dimensions.{Dimensions}
use Rattle.vbr_machine.specs.Maps.{entries_in, keys_listed, values_listed, map_start, opening_entries}
use Rattle.vbr_machine.specs.Opened.{number_in}

-- the value with the number of a key
abbrev value_found : List (ℕ × ℕ) → ℕ → ℕ
value_found es number =
    if nat_lt number (length (keys_listed es)) then slice_index_or (values_listed es) number 0 else 0

first_found : (e : ℕ × ℕ) (es : List (ℕ × ℕ)) → value_found (e ∷ es) 0 ≡ e.1
first_found e es = ap (λ b. if b then e.1 else 0) (low (length (keys_listed es)))
  where
    low : (m : ℕ) → nat_lt 0 (suc m) ≡ true
    low m = grind (arith, nat_tests)

later_found : (e : ℕ × ℕ) (es : List (ℕ × ℕ)) (n : ℕ) → value_found (e ∷ es) (suc n) ≡ value_found es n
later_found e es n = ap (λ b. if b then slice_index_or (values_listed es) n 0 else 0) (less n (length (keys_listed es)))
  where
    less : (n m : ℕ) → nat_lt (suc n) (suc m) ≡ nat_lt n m
    less n m = grind (arith, nat_tests)

-- what is found for a key by its number
abbrev found_in : List (ℕ × ℕ) → ℕ → Option (Option ℕ)
found_in es key = if list_any (nat_eq key) (keys_listed es)
    then Some (Some (value_found es (number_in (keys_listed es) key))) else None

found_is : (es : List (ℕ × ℕ)) (key : ℕ) → found_in es key ≡ entries_in es key
found_is [] key = refl
found_is (e ∷ es) key = go (nat_eq key e.0) (e.0 == key) (turned key e.0) (found_is es key)
  where
    turned : (a b : ℕ) → nat_eq a b ≡ (b == a)
    turned a b = grind (arith, nat_tests)

    go : (a b : Bool) → a ≡ b → found_in es key ≡ entries_in es key
        → (if a || list_any (nat_eq key) (keys_listed es)
        then Some (Some (value_found (e ∷ es) (if b then 0 else suc (number_in (keys_listed es) key)))) else None)
        ≡ (if a then Some (Some e.1) else entries_in es key)
    go true true same rest = ap (λ v. Some (Some v)) (first_found e es)
    go false false same rest =
        ap (λ v. if list_any (nat_eq key) (keys_listed es) then Some (Some v) else None)
        (later_found e es (number_in (keys_listed es) key)) ∙ rest
    go true false same rest = absurd (cc)
    go false true same rest = absurd (cc)

-- where keys and values are those of entries, the map is theirs
pub opens_with_entries : (shape : Dimensions) (es : List (ℕ × ℕ)) (key : ℕ) →
    opening_entries (map_start shape es) key ≡ entries_in es key
opens_with_entries shape es key = found_is es key
