-- The numbers of slots that are somewhere add up to the number of slots.
use Rattle.std.proofs.Common.{◌≡◌, ◌≢◌, ℕ, zero, suc, ◌+◌, ◌<◌, ◌≤◌, Bool, true, false, List, refl, arith, ap, ◌∙◌, inl}
use Rattle.std.proofs.Common.{inr}
use Rattle.std.specs.Prelude.{◌⊎◌, if◌then◌else◌}
use Rattle.std.proofs.lemmas.Bool.{cases_Bool, cases_eq, cases_order}
use Rattle.vbr_machine.specs.Start.{Start}
use Rattle.vbr_machine.specs.Nodes.{count_below}
use Rattle.vbr_machine.specs.Whereabouts.{Whereabouts, InSharedPool, WithPass, InSet, MarkedInList, Unstamped, is_at}
use Rattle.vbr_machine.specs.Whereabouts.{IsOfPasses, IsSomewhere, number_at, number_had, sum_of}
use Rattle.vbr_machine.specs.declared.event.Event.{Event}

-- ---- sums

-- a test, counted
abbrev one : Bool → ℕ
one true = 1
one false = 0

count_more : (test : ℕ → Bool) (n : ℕ) → count_below test (suc n) ≡ count_below test n + one (test n)
count_more test n = go (test n) (count_below test n)
  where
    go : (b : Bool) (m : ℕ) → (if b then suc m else m) ≡ m + one b
    go true m = omega arith
    go false m = omega arith

-- where no pass has a number, the sum is 0
pub sum_none : (passes : ℕ) (number : ℕ → ℕ) → ((p : ℕ) → number p ≡ 0) → sum_of passes number ≡ 0
sum_none zero number z = refl
sum_none (suc p) number z = let before = sum_none p number z in let now = z p in omega arith

-- where one pass alone has a number, that is the sum
sum_just : (passes : ℕ) (number : ℕ → ℕ) (q : ℕ) → q < passes → ((p : ℕ) → p ≢ q → number p ≡ 0) →
    sum_of passes number ≡ number q
sum_just zero number q low z = absurd (omega arith)
sum_just (suc p) number q low z = go (cases_eq p q) (λ l. sum_just p number q l z)
  where
    others : (n : ℕ) → n ≤ q → sum_of n number ≡ 0
    others zero l = refl
    others (suc n) l = let before = others n (omega arith) in let now = z n (λ (e : n ≡ q). omega arith) in omega arith

    go : (p ≡ q) ⊎ (p ≢ q) → (q < p → sum_of p number ≡ number q) → sum_of (suc p) number ≡ number q
    go (inl e) on = let before = others p (omega arith) in let same = ap number e in omega arith
    go (inr ne) on = let now = z p ne in let before = on (lower ne) in omega arith
      where
        lower : p ≢ q → q < p
        lower ne = elim (cases_order p q) [
          | inl e ↦ absurd (ne e)
          | inr x ↦ elim x [ inl l ↦ absurd (omega arith) | inr l ↦ l ]
        ]

-- the sum of what each has and of one more for each is the sum of both
sum_both : (passes : ℕ) (f g h : ℕ → ℕ) → ((p : ℕ) → h p ≡ f p + g p) →
    sum_of passes h ≡ sum_of passes f + sum_of passes g
sum_both zero f g h e = refl
sum_both (suc p) f g h e = let before = sum_both p f g h e in let now = e p in omega arith

-- ---- all slots

module _ (start : Start) (passes : ℕ) (run : List Event) (each : (s : ℕ) → IsSomewhere start passes run s) where
  -- a slot counted where it is tested
  abbrev here : Whereabouts → ℕ → ℕ
  here whereabouts s = one (is_at start run whereabouts s)

  -- how many of the slots below a number are there
  abbrev below : Whereabouts → ℕ → ℕ
  below whereabouts n = count_below (is_at start run whereabouts) n

  not_here : (s : ℕ) (v other : Whereabouts) → (each s).whereabouts ≡ v → other ≢ v → here other s ≡ 0
  not_here s v other e ne = go (cases_Bool (is_at start run other s))
    where
      go : (is_at start run other s ≡ true) ⊎ (is_at start run other s ≡ false) → here other s ≡ 0
      go (inl t) = absurd (ne ((each s).only other t ∙ e))
      go (inr f) = ap one f

  -- what a pass has of a slot
  abbrev had : ℕ → ℕ → ℕ
  had s p = here (WithPass p) s + here (Unstamped p) s

  none_had : (s : ℕ) (v : Whereabouts) → (each s).whereabouts ≡ v → ((p : ℕ) → WithPass p ≢ v) →
      ((p : ℕ) → Unstamped p ≢ v) → sum_of passes (had s) ≡ 0
  none_had s v e x y =
      sum_none passes (had s)
      (λ p. let a = not_here s v (WithPass p) e (x p) in let b = not_here s v (Unstamped p) e (y p) in omega arith)

  -- a slot that a pass has is in no other count
  not_elsewhere : (s : ℕ) (v : Whereabouts) → (each s).whereabouts ≡ v → InSharedPool ≢ v → InSet ≢ v →
      MarkedInList ≢ v → here InSharedPool s + here InSet s + here MarkedInList s ≡ 0
  not_elsewhere s v e x y z =
      let a = not_here s v InSharedPool e x in
      let b = not_here s v InSet e y in
      let c = not_here s v MarkedInList e z in
      omega arith

  -- a slot is counted once
  once : (s : ℕ) (v : Whereabouts) → (each s).whereabouts ≡ v → IsOfPasses passes v → here v s ≡ 1 →
      1 ≡ here InSharedPool s + sum_of passes (had s) + here InSet s + here MarkedInList s
  once s InSharedPool e low y =
      let a = none_had s InSharedPool e (λ p n. cc) (λ p n. cc) in
      let b = not_here s InSharedPool InSet e (λ n. cc) in
      let c = not_here s InSharedPool MarkedInList e (λ n. cc) in
      omega arith
  once s InSet e low y =
      let a = none_had s InSet e (λ p n. cc) (λ p n. cc) in
      let b = not_here s InSet InSharedPool e (λ n. cc) in
      let c = not_here s InSet MarkedInList e (λ n. cc) in
      omega arith
  once s MarkedInList e low y =
      let a = none_had s MarkedInList e (λ p n. cc) (λ p n. cc) in
      let b = not_here s MarkedInList InSharedPool e (λ n. cc) in
      let c = not_here s MarkedInList InSet e (λ n. cc) in
      omega arith
  once s (WithPass q) e low y =
      let others =
      sum_just passes (had s) q low
      (λ p ne. let a = not_here s (WithPass q) (WithPass p) e (λ n. ne (cc)) in
      let b = not_here s (WithPass q) (Unstamped p) e (λ n. cc) in
      omega arith) in
      let a = not_here s (WithPass q) (Unstamped q) e (λ n. cc) in
      let b = not_elsewhere s (WithPass q) e (λ n. cc) (λ n. cc) (λ n. cc) in
      omega arith
  once s (Unstamped q) e low y =
      let others =
      sum_just passes (had s) q low
      (λ p ne. let a = not_here s (Unstamped q) (WithPass p) e (λ n. cc) in
      let b = not_here s (Unstamped q) (Unstamped p) e (λ n. ne (cc)) in
      omega arith) in
      let a = not_here s (Unstamped q) (WithPass q) e (λ n. cc) in
      let b = not_elsewhere s (Unstamped q) e (λ n. cc) (λ n. cc) (λ n. cc) in
      omega arith

  adds_one : (s : ℕ) → 1 ≡ here InSharedPool s + sum_of passes (had s) + here InSet s + here MarkedInList s
  adds_one s = once s (each s).whereabouts refl (each s).low (ap one (each s).there)

  -- the slots below a number
  up_to : (n : ℕ) →
      n ≡ below InSharedPool n + sum_of passes (λ p. below (WithPass p) n + below (Unstamped p) n) + below InSet n
      + below MarkedInList n
  up_to zero = let none = sum_none passes (λ p. 0) (λ p. refl) in omega arith
  up_to (suc n) =
      let before = up_to n in
      let one_more = adds_one n in
      let a = count_more (is_at start run InSharedPool) n in
      let b = count_more (is_at start run InSet) n in
      let c = count_more (is_at start run MarkedInList) n in
      let d = sum_both passes (λ p. below (WithPass p) n + below (Unstamped p) n) (had n)
      (λ p. below (WithPass p) (suc n) + below (Unstamped p) (suc n))
      (λ p. let e = count_more (is_at start run (WithPass p)) n in
      let f = count_more (is_at start run (Unstamped p)) n in
      omega arith) in
      omega arith

  -- all slots
  pub add_up : start.shape.slots
      ≡ number_at start run InSharedPool + sum_of passes (number_had start run) + number_at start run InSet
      + number_at start run MarkedInList
  add_up = up_to start.shape.slots
