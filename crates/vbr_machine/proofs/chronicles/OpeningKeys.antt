-- The lists that opening keys make: which key is the first of a bucket, and which stands behind another.
use Rattle.std.proofs.Common.{◌≡◌, ◌≢◌, ℕ, zero, suc, ◌+◌, ◌-◌, ◌<◌, ◌≤◌, Bool, true, false, List, [], ◌∷◌, length}
use Rattle.std.proofs.Common.{get_or, Option, Some, None, refl, arith, sym, subst, ap, ◌∙◌, inl, inr}
use Rattle.std.specs.Prelude.{◌⊎◌, ◌==◌, nat_eq}
use Rattle.std.specs.List.{list_any}
use Rattle.std.specs.List.Sorted.{IsStrictlyIncreasing}
use Rattle.std.proofs.lemmas.Bool.{cases_Bool, cases_eq, cases_lt, eqb-true, eq-eqb, lt-ltb, le-ltb, ne_eqb, cond-true}
use Rattle.std.proofs.lemmas.Bool.{cond-false}
use Rattle.std.proofs.lemmas.List.Folds.{list_any_at}
use Rattle.vbr_machine.specs.Start.{Start}
use Rattle.vbr_words.specs.Buckets.{bucket_of}
use Rattle.vbr_machine.specs.Opened.{key_count, has_opening_key, key_number, first_number, is_key_of, first_key}
use Rattle.vbr_machine.specs.Opened.{key_behind, number_in}

-- ---- the first number that passes a test

-- it is from one number on, and below another, passes the test, and none before it does
pub record IsFirst (test : ℕ → Bool) (from limit m : ℕ) : Type 0 where
  pub low : from ≤ m
  pub high : m < limit
  pub passes : test m ≡ true
  pub none : (j : ℕ) → from ≤ j → j < m → test j ≡ false

-- there is a first, or none passes
abbrev pub FirstOrNone : (ℕ → Bool) → ℕ → ℕ → Option ℕ → Type 0
FirstOrNone test from limit (Some m) = IsFirst test from limit m
FirstOrNone test from limit None = (j : ℕ) → from ≤ j → j < limit → test j ≡ false

pub first_or_none : (test : ℕ → Bool) (from more : ℕ) →
    FirstOrNone test from (from + more) (first_number test from more)
first_or_none test from zero = λ j low high. absurd (omega arith)
first_or_none test from (suc more) = go (cases_Bool (test from)) (first_or_none test (suc from) more)
  where
    later : (first : Option ℕ) → test from ≡ false → FirstOrNone test (suc from) (suc from + more) first →
        FirstOrNone test from (from + suc more) first
    later (Some m) f is = record {
      low = let low = is.low in omega (arith, low);
      high = let high = is.high in omega (arith, high);
      passes = is.passes;
      none = λ j low high. by_case j high (cases_eq j from) low;
    }
      where
        by_case : (j : ℕ) → j < m → (j ≡ from) ⊎ (j ≢ from) → from ≤ j → test j ≡ false
        by_case j high (inl e) low = ap test e ∙ f
        by_case j high (inr ne) low = is.none j (omega arith) high
    later None f is = λ j low high. by_case j low high (cases_eq j from)
      where
        by_case : (j : ℕ) → from ≤ j → j < from + suc more → (j ≡ from) ⊎ (j ≢ from) → test j ≡ false
        by_case j low high (inl e) = ap test e ∙ f
        by_case j low high (inr ne) = is j (omega arith) (omega arith)

    go : (test from ≡ true) ⊎ (test from ≡ false) →
        FirstOrNone test (suc from) (suc from + more) (first_number test (suc from) more) →
        FirstOrNone test from (from + suc more) (first_number test from (suc more))
    go (inl t) rest =
        rw t (record { low = omega arith; high = omega arith; passes = t; none = λ j low high. absurd (omega arith) })
    go (inr f) rest = rw f (later (first_number test (suc from) more) f rest)

-- where one passes, the first is no later
first_up_to : (test : ℕ → Bool) (from limit d : ℕ) (first : Option ℕ) → FirstOrNone test from limit first → from ≤ d →
    d < limit → test d ≡ true → (m : ℕ) × (first ≡ Some m) × (m ≤ d)
first_up_to test from limit d None none low high t = absurd (let f = none d low high in cc)
first_up_to test from limit d (Some m) is low high t = (m, refl, go (cases_lt d m))
  where
    go : (d < m) ⊎ (m ≤ d) → m ≤ d
    go (inl before) = absurd (let f = is.none d low before in cc)
    go (inr le) = le

first_is : (test : ℕ → Bool) (from limit m : ℕ) (first : Option ℕ) → FirstOrNone test from limit first →
    first ≡ Some m → IsFirst test from limit m
first_is test from limit m None none e = absurd (cc)
first_is test from limit m (Some n) is e = let same : n ≡ m = cc in rw same at is

-- ---- opening keys

-- a number is that of a key, or of none
pub opens_with_one_or_none : (start : Start) (c : ℕ) →
    ((c < key_count start) × (has_opening_key start c ≡ true)) ⊎
    ((key_count start ≤ c) × (has_opening_key start c ≡ false))
opens_with_one_or_none start c = go (cases_lt c (key_count start))
  where
    go : (c < key_count start) ⊎ (key_count start ≤ c) →
        ((c < key_count start) × (has_opening_key start c ≡ true)) ⊎
        ((key_count start ≤ c) × (has_opening_key start c ≡ false))
    go (inl low) = inl (low, lt-ltb c (key_count start) low)
    go (inr high) = inr (high, le-ltb c (key_count start) high)

-- a later number of a strictly ascending list is greater
pub rises : (xs : List ℕ) → IsStrictlyIncreasing xs → (i j : ℕ) → i < j → j < length xs → get_or xs i 0 < get_or xs j 0
rises xs up i zero less low = absurd (omega arith)
rises xs up i (suc j) less low = go (cases_eq i j) (rises xs up i j)
  where
    one : get_or xs j 0 < get_or xs (suc j) 0
    one =
        let e : j + 1 ≡ suc j = omega arith in
        let P : ℕ → Type 0 = λ k. get_or xs j 0 < get_or xs k 0 in
        subst P e (up j (omega arith))

    go : (i ≡ j) ⊎ (i ≢ j) → (i < j → j < length xs → get_or xs i 0 < get_or xs j 0) →
        get_or xs i 0 < get_or xs (suc j) 0
    go (inl e) before = rw e one
    go (inr ne) before = let u = before (omega arith) (omega arith) in omega (arith, u, one)

-- the first key of a bucket is one, and of the bucket
pub first_key_is : (start : Start) (b m : ℕ) → first_key start b ≡ Some m →
    (m < key_count start) × (bucket_of start.shape (key_number start m) ≡ b)
first_key_is start b m e =
    let is = first_is (is_key_of start b) 0 (0 + (key_count start - 0)) m (first_key start b)
    (first_or_none (is_key_of start b) 0 (key_count start - 0)) e in
    let high = is.high in
    (omega (arith, high), eqb-true _ _ is.passes)

-- and it is no later than any of the bucket
pub first_key_up_to : (start : Start) (d : ℕ) → d < key_count start →
    (m : ℕ) × (first_key start (bucket_of start.shape (key_number start d)) ≡ Some m) × (m ≤ d)
first_key_up_to start d low =
    let b = bucket_of start.shape (key_number start d) in
    first_up_to (is_key_of start b) 0 (0 + (key_count start - 0)) d (first_key start b)
    (first_or_none (is_key_of start b) 0 (key_count start - 0)) (omega arith) (omega arith) (eq-eqb b b refl)

behind_first : (start : Start) (c : ℕ) →
    FirstOrNone (is_key_of start (bucket_of start.shape (key_number start c))) (suc c)
    (suc c + (key_count start - suc c)) (key_behind start c)
behind_first start c =
    first_or_none (is_key_of start (bucket_of start.shape (key_number start c))) (suc c) (key_count start - suc c)

-- the key behind a key is a later one, of the same bucket
pub key_behind_is : (start : Start) (c m : ℕ) → key_behind start c ≡ Some m →
    (c < m) × (m < key_count start) ×
    (bucket_of start.shape (key_number start m) ≡ bucket_of start.shape (key_number start c))
key_behind_is start c m e =
    let is = first_is (is_key_of start (bucket_of start.shape (key_number start c))) (suc c)
    (suc c + (key_count start - suc c)) m (key_behind start c) (behind_first start c) e in
    let low = is.low in
    let high = is.high in
    (omega (arith, low), omega (arith, low, high), eqb-true _ _ is.passes)

-- and it is no later than any other later one of the bucket
pub key_behind_up_to : (start : Start) (c d : ℕ) → c < d → d < key_count start →
    bucket_of start.shape (key_number start d) ≡ bucket_of start.shape (key_number start c) →
    (m : ℕ) × (key_behind start c ≡ Some m) × (m ≤ d)
key_behind_up_to start c d less low e =
    first_up_to (is_key_of start (bucket_of start.shape (key_number start c))) (suc c)
    (suc c + (key_count start - suc c)) d (key_behind start c) (behind_first start c) (omega arith) (omega arith)
    (eq-eqb _ _ e)

-- each key is in the set
pub key_in_set : (start : Start) (c : ℕ) → c < key_count start →
    list_any (nat_eq (key_number start c)) start.keys ≡ true
key_in_set start c low =
    list_any_at (nat_eq (key_number start c)) start.keys c 0 low (eq-eqb (key_number start c) (key_number start c) refl)

-- and the set has no others
pub number_of : (key : ℕ) (xs : List ℕ) → list_any (nat_eq key) xs ≡ true →
    (c : ℕ) × (c < length xs) × (get_or xs c 0 ≡ key)
number_of key [] e = absurd (cc)
number_of key (x ∷ xs) e = go (cases_Bool (nat_eq key x)) (number_of key xs)
  where
    go : (nat_eq key x ≡ true) ⊎ (nat_eq key x ≡ false) →
        (list_any (nat_eq key) xs ≡ true → (c : ℕ) × (c < length xs) × (get_or xs c 0 ≡ key)) →
        (c : ℕ) × (c < length (x ∷ xs)) × (get_or (x ∷ xs) c 0 ≡ key)
    go (inl t) rest = (0, omega arith, sym (eqb-true key x t))
    go (inr f) rest = let later = rest (rw f at e) in (suc later.0, (let low = later.1 in omega (arith, low)), later.2)

-- ---- the number of a key

-- the number of a key in a list is where it is first
first_is_number : (xs : List ℕ) (c key : ℕ) → c < length xs → get_or xs c 0 ≡ key →
    ((j : ℕ) → j < c → get_or xs j 0 ≢ key) → number_in xs key ≡ c
first_is_number [] c key low e ne = absurd (omega arith)
first_is_number (x ∷ xs) zero key low e ne = cond-true (x == key) 0 (suc (number_in xs key)) (eq-eqb x key e)
first_is_number (x ∷ xs) (suc c) key low e ne =
    cond-false (x == key) 0 (suc (number_in xs key)) (ne_eqb x key (ne 0 (omega arith)))
    ∙ ap suc (first_is_number xs c key (omega (arith, low)) e (λ j less. ne (suc j) (omega (arith, less))))

-- of ascending keys each has its own
pub number_is : (xs : List ℕ) → IsStrictlyIncreasing xs → (c : ℕ) → c < length xs → number_in xs (get_or xs c 0) ≡ c
number_is xs up c low =
    first_is_number xs c (get_or xs c 0) low refl
    (λ j less e. (let u = rises xs up j c less low in omega (arith, u, e)))
