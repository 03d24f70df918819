-- A removed node that is not retired is marked, or it is unlinked and unstamped with one of the passes.
use Rattle.std.proofs.Common.{◌≡◌, ℕ, zero, suc, ◌+◌, ◌<◌, ◌≤◌, Bool, true, false, List, refl, sym, ap, subst, inl, inr}
use Rattle.std.proofs.Common.{arith}
use Rattle.std.specs.Prelude.{◌⊎◌, if◌then◌else◌}
use Rattle.std.proofs.lemmas.Bool.{cases_Bool, cases_order, false≢true}
use Rattle.vbr_machine.specs.Start.{Start, IsStart}
use Rattle.vbr_machine.specs.Accounts.{incarnations_after}
use Rattle.vbr_machine.specs.Disturbances.{one_if}
use Rattle.vbr_machine.specs.Incarnations.{State, Unborn, InHand, GivenUp, Linked, Marked, Unlinked, Stamped}
use Rattle.vbr_machine.specs.Nodes.{count_below, is_marked, marked_after, state_in}
use Rattle.vbr_machine.specs.Runs.{IsRun}
use Rattle.vbr_machine.specs.Unretired.{is_unretired, unretired_after}
use Rattle.vbr_machine.specs.Whereabouts.{IsOfPasses, Unstamped, Whereabouts, is_at, number_at, sum_of}
use Rattle.vbr_machine.specs.declared.event.Event.{Event}
use Rattle.vbr_machine.proofs.runs.SafeRuns.{every_run}
use Rattle.vbr_machine.proofs.whereabouts.Whereabouts.{somewhere, unlinked_there}

-- ---- sums

pub count_one : (test : ℕ → Bool) (n : ℕ) → count_below test (suc n) ≡ count_below test n + one_if (test n)
count_one test n = go (test n) (count_below test n)
  where
    go : (b : Bool) (m : ℕ) → (if b then suc m else m) ≡ m + one_if b
    go true m = omega arith
    go false m = omega arith

pub sum_on : (passes : ℕ) (f g h : ℕ → ℕ) → ((p : ℕ) → h p ≡ f p + g p) →
    sum_of passes h ≡ sum_of passes f + sum_of passes g
sum_on zero f g h e = refl
sum_on (suc p) f g h e = let before = sum_on p f g h e in let now = e p in omega (arith, before, now)

pub in_sum : (passes who : ℕ) (f : ℕ → ℕ) → who < passes → f who ≤ sum_of passes f
in_sum zero who f low = omega (arith, low)
in_sum (suc i) who f low = go (cases_order i who) (λ l. in_sum i who f l)
  where
    go : (i ≡ who) ⊎ ((i < who) ⊎ (who < i)) → (who < i → f who ≤ sum_of i f) → f who ≤ sum_of i f + f i
    go (inl e) on = subst (λ (k : ℕ). f k ≤ sum_of i f + f i) e (omega arith)
    go (inr (inl l)) on = omega (arith, low, l)
    go (inr (inr l)) on = let before = on l in omega (arith, before)

each_one : (passes : ℕ) (f : ℕ → ℕ) → ((p : ℕ) → p < passes → f p ≤ 1) → sum_of passes f ≤ passes
each_one zero f low = omega arith
each_one (suc p) f low =
    let before = each_one p f (λ q l. low q (omega (arith, l))) in
    let now = low p (omega arith) in
    omega (arith, before, now)

-- ---- one slot

-- what is removed and not retired is marked, or unlinked by a pass
which : (st : State) → is_unretired st ≡ true →
    (is_marked st ≡ true) ⊎ ((pass : ℕ) × (unlinked : ℕ) × (st ≡ Unlinked pass unlinked))
which Marked e = inl refl
which (Unlinked pass unlinked) e = inr (pass, unlinked, refl)
which Unborn e = absurd (false≢true e)
which (InHand pass) e = absurd (false≢true e)
which GivenUp e = absurd (false≢true e)
which Linked e = absurd (false≢true e)
which (Stamped unlinked stamp) e = absurd (false≢true e)

module _ (start : Start) (passes : ℕ) (run : List Event) (is : IsStart start) (ok : IsRun start passes run) where
  abbrev there : ℕ → State
  there s = state_in (incarnations_after start run) s

  abbrev with_passes : ℕ → ℕ
  with_passes s = sum_of passes (λ pass. one_if (is_at start run (Unstamped pass) s))

  -- it is with one of the passes
  unlinked_with : (s pass unlinked : ℕ) → there s ≡ Unlinked pass unlinked → 1 ≤ with_passes s
  unlinked_with s pass unlinked e =
      let safe = every_run start passes run is ok in
      let here = unlinked_there start passes run safe ok pass unlinked s e in
      let all = somewhere start passes run safe ok s in
      let P : Whereabouts → Type 0 = IsOfPasses passes in
      let low : pass < passes = subst P (sym (all.only (Unstamped pass) here)) all.low in
      let its = in_sum passes pass (λ p. one_if (is_at start run (Unstamped p) s)) low in
      let one : one_if (is_at start run (Unstamped pass) s) ≡ 1 = ap one_if here in
      omega (arith, its, one)

  slot_counted : (s : ℕ) → one_if (is_unretired (there s)) ≤ one_if (is_marked (there s)) + with_passes s
  slot_counted s = go (cases_Bool (is_unretired (there s)))
    where
      go : (is_unretired (there s) ≡ true) ⊎ (is_unretired (there s) ≡ false) →
          one_if (is_unretired (there s)) ≤ one_if (is_marked (there s)) + with_passes s
      go (inr other) = let none : one_if (is_unretired (there s)) ≡ 0 = ap one_if other in omega (arith, none)
      go (inl found) = by (which (there s) found)
        where
          one : one_if (is_unretired (there s)) ≡ 1
          one = ap one_if found

          by : (is_marked (there s) ≡ true) ⊎ ((pass : ℕ) × (unlinked : ℕ) × (there s ≡ Unlinked pass unlinked)) →
              one_if (is_unretired (there s)) ≤ one_if (is_marked (there s)) + with_passes s
          by (inl marked) = let m : one_if (is_marked (there s)) ≡ 1 = ap one_if marked in omega (arith, one, m)
          by (inr u) = let w = unlinked_with s u.0 u.1 u.2 in omega (arith, one, w)

  -- ---- all slots

  up_to : (n : ℕ) → count_below (λ s. is_unretired (there s)) n
      ≤ count_below (λ s. is_marked (there s)) n
      + sum_of passes (λ pass. count_below (is_at start run (Unstamped pass)) n)
  up_to zero = omega arith
  up_to (suc n) =
      let before = up_to n in
      let now = slot_counted n in
      let a = count_one (λ s. is_unretired (there s)) n in
      let b = count_one (λ s. is_marked (there s)) n in
      let c = sum_on passes (λ pass. count_below (is_at start run (Unstamped pass)) n)
      (λ pass. one_if (is_at start run (Unstamped pass) n))
      (λ pass. count_below (is_at start run (Unstamped pass)) (suc n))
      (λ pass. count_one (is_at start run (Unstamped pass)) n) in
      omega (arith, before, now, a, b, c)

  -- a law: they are no more than the marked ones, and one for each pass that has no more than one unstamped
  pub unretired_few : ((pass : ℕ) → pass < passes → number_at start run (Unstamped pass) ≤ 1) →
      unretired_after start run ≤ marked_after start run + passes
  unretired_few one =
      let all = up_to start.shape.slots in
      let each = each_one passes (λ pass. number_at start run (Unstamped pass)) one in
      omega (arith, all, each)
