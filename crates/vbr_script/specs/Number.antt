-- A number in decimal digits.
use Rattle.std.specs.Prelude.{ℕ, Bool, ◌&&◌, nat_lt, List, length, Option, Some, None, if◌then◌else◌}
use Rattle.std.specs.Str.{all_ascii_digits}
use Rattle.std.specs.Str.Parse.{digits_value}

-- one or more digits and nothing else
abbrev pub is_numeral : List ℕ → Bool
is_numeral token = nat_lt 0 (length token) && all_ascii_digits token

-- the number that a token spells, if that is a number below the limit
abbrev pub number_below : ℕ → List ℕ → Option ℕ
number_below limit token = if is_numeral token && nat_lt (digits_value 10 token) limit then Some (digits_value 10 token) else None
