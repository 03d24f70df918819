-- Which opening handles are of, by a number: an opening and a renewal give all of them another one.
use Rattle.std.specs.Prelude.{◌≡◌, ◌≢◌, ℕ, zero, suc, ◌+◌, ◌-◌, ◌^◌, ◌<◌, max, nat_lt, if◌then◌else◌, All, List, [], ◌∷◌, map, Result, Ok, Err}

-- the number after this one; after the greatest of 32 bits comes 1, so it is never 0
abbrev pub next_opening : ℕ → ℕ
next_opening number = if nat_lt (number + 1) (2 ^ 32) then number + 1 else 1

-- the number after so many more
abbrev pub after_openings : ℕ → ℕ → ℕ
after_openings zero number = number
after_openings (suc count) number = next_opening (after_openings count number)

-- a number comes again after 2^32 - 1 more, and not before; and none is 0
pub record OpeningsDiffer : Type 0 where
  pub another : (count number : ℕ) → 0 < number → number < 2 ^ 32 → 0 < count → count < 2 ^ 32 - 1 → after_openings count number ≢ number
  pub none_is_0 : (count number : ℕ) → 0 < number → number < 2 ^ 32 → 0 < after_openings count number

-- the greatest of these numbers, or 0 if there are none
abbrev pub greatest_of : List ℕ → ℕ
greatest_of [] = 0
greatest_of (n ∷ ns) = max n (greatest_of ns)

module _ {H : Type 0} (opening : H → ℕ) where
  -- the number of a fresh opening of these handles: the one after the greatest that one of them has
  abbrev pub fresh_opening : List H → ℕ
  fresh_opening handles = next_opening (greatest_of (map opening handles))

  -- each handle has this number
  abbrev pub AreOfOpening : ℕ → List H → Type 0
  AreOfOpening number handles = All (λ h. opening h ≡ number) handles

  -- if it is done, each handle has the number of a fresh opening; otherwise each has the one that it had
  abbrev pub BeginAnew : {E : Type 0} → List H → List H → Result (Unit {0}) E → Type 0
  BeginAnew before after (Ok done) = AreOfOpening (fresh_opening before) after
  BeginAnew before after (Err refusal) = map opening after ≡ map opening before
