-- A number read digit by digit: what the digits still to come make of the value so far.
use Rattle.std.proofs.Common.{◌≡◌, ℕ, suc, ◌+◌, ◌-◌, ◌*◌, ◌<◌, ◌≤◌, Bool, true, false, ◌&&◌, nat_lt, List, [], ◌∷◌}
use Rattle.std.proofs.Common.{length, drop, get_or, Option, Some, None, if◌then◌else◌, refl, arith, drop-cons}
use Rattle.std.proofs.lemmas.Bool.Decides.{nat_tests}
use Rattle.std.proofs.lemmas.List.{drop_all}
use Rattle.std.specs.Char.{is_ascii_digit, digit_value}
use Rattle.std.specs.Str.{all_ascii_digits}
use Rattle.std.specs.Str.Parse.{digits_value_after}

-- the number that a value and the digits after it spell, where that is a number below the limit
abbrev pub number_after : ℕ → ℕ → List ℕ → Option ℕ
number_after limit value digits = if all_ascii_digits digits && nat_lt (digits_value_after 10 value digits) limit
    then Some (digits_value_after 10 value digits) else None

-- digits make a value no smaller
digits-ge : (value : ℕ) (digits : List ℕ) → value ≤ digits_value_after 10 value digits
digits-ge value [] = omega arith
digits-ge value (digit ∷ digits) = omega (arith, digits-ge (value * 10 + digit_value digit) digits)

-- a digit has the value of its place after 0
digit_value-is : (byte : ℕ) → is_ascii_digit byte ≡ true → digit_value byte ≡ byte - 48
digit_value-is byte is = grind (arith, nat_tests)

-- a value at the limit or above it is not below it, whatever else is tested
and-false : (digits : Bool) (value limit : ℕ) → limit ≤ value → (digits && nat_lt value limit) ≡ false
and-false digits value limit large = grind (arith, nat_tests)

-- where a digit takes the value to the limit, there is no number
large : (limit value byte : ℕ) (bytes : List ℕ) → is_ascii_digit byte ≡ true → limit ≤ value * 10 + (byte - 48) →
    number_after limit value (byte ∷ bytes) ≡ None
large limit value byte bytes is reached =
    rw (
      is,
      digit_value-is byte is,
      and-false (all_ascii_digits bytes) (digits_value_after 10 (value * 10 + (byte - 48)) bytes) limit
          (omega (arith, digits-ge (value * 10 + (byte - 48)) bytes)),
    ) refl

-- the same of the bytes of a token from an index on
pub number_after-large : (limit value : ℕ) (token : List ℕ) (i : ℕ) → i < length token →
    is_ascii_digit (get_or token i 0) ≡ true → limit ≤ value * 10 + (get_or token i 0 - 48) →
    number_after limit value (drop i token) ≡ None
number_after-large limit value token i inside is reached =
    rw (drop-cons token i 0) (large limit value (get_or token i 0) (drop (suc i) token) is reached)

-- after the last digit the number is the value
pub number_after-end : (limit value : ℕ) (token : List ℕ) (i : ℕ) → length token ≤ i → value < limit →
    number_after limit value (drop i token) ≡ Some value
number_after-end limit value token i past small = rw (drop_all i token past) (grind (arith, nat_tests))
