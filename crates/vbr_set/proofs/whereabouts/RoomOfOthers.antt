-- Between calls the passes of a set have no more slots than their own pools have room for.
-- Sums over all passes but one say how many.
use Rattle.std.proofs.Common.{◌≡◌, ◌≢◌, ℕ, zero, suc, ◌+◌, ◌-◌, ◌*◌, ◌<◌, ◌≤◌, ◌==◌, ◌&&◌, Bool, true, false, List, []}
use Rattle.std.proofs.Common.{◌∷◌, length, Option, Some, None, refl, arith, sym, subst, ap, ◌∙◌, eq-eqb, inl, inr}
use Rattle.std.specs.Prelude.{◌⊎◌, Contains, if◌then◌else◌, not}
use Rattle.std.proofs.lemmas.Bool.{and_parts, cases_Bool, cases_eq, cases_order, ne_eqb}
use Rattle.std.proofs.Math.Nat.{mul-suc}
use Rattle.std.proofs.Math.Bool.{and-true}
use Rattle.vbr_machine.specs.Start.{Start}
use Rattle.vbr_machine.specs.Nodes.{count_below}
use Rattle.vbr_machine.specs.Runs.{know_after}
use Rattle.vbr_machine.specs.Knowledge.{Know}
use Rattle.vbr_machine.specs.Whereabouts.{WithPass, is_at, is_unstamped, may_bear, number_at, number_had, sum_of}
use Rattle.vbr_machine.proofs.Lemmas.{begins_for_know}
use Rattle.vbr_slots.specs.declared.pass.TheConstants.{POOL}
use Rattle.vbr_slots.specs.views.Views.{PassView, Trace, knows}
use Rattle.vbr_at_table.specs.hands.KeptSlots.{HasSlot}
use Rattle.vbr_at_table.specs.declared.aside.Aside.{Aside}
use Rattle.vbr_set.specs.calls.RecordCalls.{slot_aside}
use Rattle.vbr_set.specs.whereabouts.Room.{HasAllWith, IsBetweenCalls, number_aside}
use Rattle.vbr_set.proofs.sums.PassSums.{sum_at_most, sum_both, sum_no_more, sum_same}
use Rattle.vbr_set.proofs.whereabouts.RoomLeft.{bears, none_unstamped}

-- ---- sums over passes but one

-- a number of each pass but one
abbrev but : ℕ → (ℕ → ℕ) → ℕ → ℕ
but who f i = if i == who then 0 else f i

but_here : (who : ℕ) (f : ℕ → ℕ) (i : ℕ) → i ≡ who → but who f i ≡ 0
but_here who f i e = ap (λ (b : Bool). if b then 0 else f i) (eq-eqb i who e)

but_other : (who : ℕ) (f : ℕ → ℕ) (i : ℕ) → i ≢ who → but who f i ≡ f i
but_other who f i ne = ap (λ (b : Bool). if b then 0 else f i) (ne_eqb i who ne)

-- a pass that has nothing may be left out
pub sum_but_none : (passes who : ℕ) (f : ℕ → ℕ) → f who ≡ 0 → sum_of passes f ≡ sum_of passes (but who f)
sum_but_none passes who f none = sum_same passes f (but who f) (λ i. elim (cases_eq i who) [
  | inl e ↦ ap f e ∙ none ∙ sym (but_here who f i e)
  | inr ne ↦ sym (but_other who f i ne)
])

pub sum_but_at_most : (passes who most : ℕ) (f : ℕ → ℕ) → who < passes → ((i : ℕ) → i < passes → i ≢ who → f i ≤ most) →
    sum_of passes (but who f) ≤ most * (passes - 1)
sum_but_at_most zero who most f low h = absurd (omega arith)
sum_but_at_most (suc m) who most f low h =
    subst (λ (n : ℕ). sum_of (suc m) (but who f) ≤ most * n) same
    (go (cases_order m who) (λ l. sum_but_at_most m who most f l (λ i j. h i (omega arith))))
  where
    same : m ≡ suc m - 1
    same = omega arith

    each : (i : ℕ) → i < suc m → but who f i ≤ most
    each i l = elim (cases_eq i who) [
      | inl e ↦ let x = but_here who f i e in omega arith
      | inr ne ↦ let x = but_other who f i ne in let y = h i l ne in omega arith
    ]

    go : (m ≡ who) ⊎ ((m < who) ⊎ (who < m)) → (who < m → sum_of m (but who f) ≤ most * (m - 1)) →
        sum_of (suc m) (but who f) ≤ most * m
    go (inl e) on =
        let before = sum_at_most m most (but who f) (λ i l. each i (omega arith)) in
        let here = but_here who f m e in
        omega arith
    go (inr (inl l)) on = absurd (omega arith)
    go (inr (inr l)) on = more m (on l) l
      where
        more : (k : ℕ) → sum_of k (but who f) ≤ most * (k - 1) → who < k → sum_of k (but who f) + but who f m ≤ most * k
        more zero before l = absurd (omega arith)
        more (suc k) before l =
            let less : sum_of (suc k) (but who f) ≤ most * k =
            (let e : suc k - 1 ≡ k = omega arith in rw e at before) in
            let now = each m (omega arith) in
            let product = mul-suc most k in
            omega arith

-- so it is where each may have some more
pub sum_but_within : (passes who most : ℕ) (f more : ℕ → ℕ) → who < passes →
    ((i : ℕ) → i < passes → i ≢ who → f i ≤ most + more i) →
    sum_of passes (but who f) ≤ most * (passes - 1) + sum_of passes (but who more)
sum_but_within passes who most f more low each =
    let flat : ℕ → ℕ = λ i. most in
    let parts = sum_no_more passes (but who f) (λ i. but who flat i + but who more i)
    (λ i l. elim (cases_eq i who) [
      | inl e ↦ let none = but_here who f i e in omega (arith, none)
      | inr ne ↦
          let here = but_other who f i ne in
          let all = but_other who flat i ne in
          let rest = but_other who more i ne in
          let few = each i l ne in
          omega (arith, here, all, rest, few)
    ]) in
    let both = sum_both passes (but who flat) (but who more) in
    let few = sum_but_at_most passes who most flat low (λ i l ne. omega arith) in
    omega (arith, parts, both, few)

-- ---- what is in a list

-- whether a test passes at another number than this
abbrev test_but : (ℕ → Bool) → ℕ → ℕ → Bool
test_but test x s = test s && not (s == x)

but_same : (test : ℕ → Bool) (x s : ℕ) → s ≢ x → test_but test x s ≡ test s
but_same test x s ne = ap (λ (b : Bool). test s && not b) (ne_eqb s x ne) ∙ and-true (test s)

same_below : (test : ℕ → Bool) (x n : ℕ) → n ≤ x → count_below test n ≡ count_below (test_but test x) n
same_below test x zero l = refl
same_below test x (suc n) l =
    let before = same_below test x n (omega arith) in
    let is = but_same test x n (λ (e : n ≡ x). omega arith) in
    (λ i. if sym is i then suc (before i) else before i)

-- left out at one number, a test passes at one less at most
count_but : (test : ℕ → Bool) (x n : ℕ) → count_below test n ≤ suc (count_below (test_but test x) n)
count_but test x zero = omega arith
count_but test x (suc n) = elim (cases_eq n x) [
  | inl e ↦ let below = same_below test x n (omega arith) in
      let a = with_one (test n) (count_below test n) (count_below (test_but test x) n) (omega arith) in
      let b = without_one (test_but test x n) (count_below (test_but test x) n) in
      omega arith
  | inr ne ↦
      rw (but_same test x n ne)
      (both (test n) (count_below test n) (count_below (test_but test x) n) (count_but test x n))
]
  where
    with_one : (b : Bool) (m k : ℕ) → m ≤ k → (if b then suc m else m) ≤ suc k
    with_one true m k l = omega arith
    with_one false m k l = omega arith

    without_one : (b : Bool) (m : ℕ) → m ≤ (if b then suc m else m)
    without_one true m = omega arith
    without_one false m = omega arith

    both : (b : Bool) (m k : ℕ) → m ≤ suc k → (if b then suc m else m) ≤ suc (if b then suc k else k)
    both true m k l = omega arith
    both false m k l = omega arith

none_in : (test : ℕ → Bool) (n : ℕ) → ((s : ℕ) → test s ≡ true → ⊥) → count_below test n ≡ 0
none_in test zero h = refl
none_in test (suc n) h = elim (cases_Bool (test n)) [
  | inl t ↦ absurd (h n t)
  | inr f ↦ rw f (none_in test n h)
]

-- what a list has that passes a test is no more than the list
count_in_list : (xs : List ℕ) (test : ℕ → Bool) (n : ℕ) → ((s : ℕ) → test s ≡ true → Contains xs s) →
    count_below test n ≤ length xs
count_in_list [] test n h = let e = none_in test n (λ s t. (let l = (h s t).1 in omega arith)) in omega arith
count_in_list (x ∷ xs) test n h =
    let rest = count_in_list xs (test_but test x) n
    (λ s t. behind s (other s t) (h s (and_parts (test s) (not (s == x)) t).0)) in
    let one = count_but test x n in
    omega arith
  where
    not_both : (b : Bool) → b ≡ true → not b ≡ true → ⊥
    not_both true e f = absurd (cc)
    not_both false e f = absurd (cc)

    other : (s : ℕ) → test_but test x s ≡ true → s ≢ x
    other s t e = not_both (s == x) (eq-eqb s x e) (and_parts (test s) (not (s == x)) t).1

    behind : (s : ℕ) → s ≢ x → Contains (x ∷ xs) s → Contains xs s
    behind s ne (zero, low, is) = absurd (ne (sym is))
    behind s ne (suc k, low, is) = (k, omega arith, is)

-- ---- between calls

-- a pass that has all its slots, none of them in its hand, has as many as its pool, and the one that it holds
pub had_in_pool : (aside : Option Aside) (p : PassView) → HasAllWith aside p → p.hand ≡ None →
    number_had p.trace.start p.trace.seen p.trace.who ≤ length p.pool + number_aside aside
had_in_pool aside p all no_hand =
    let a = counted aside all in
    let b = none_unstamped p all.stamped in
    omega (arith, a, b)
  where
    in_pool : (s : ℕ) → HasSlot p s → Contains p.pool s
    in_pool s (inl there) = there
    in_pool s (inr there) = absurd (let x : None ≡ Some s = sym no_hand ∙ there in cc)

    none_aside : (s : ℕ) → HasSlot p s ⊎ (slot_aside None ≡ Some s) → Contains p.pool s
    none_aside s (inl has) = in_pool s has
    none_aside s (inr is) = absurd (let x : None ≡ Some s = is in cc)

    or_aside : (aside : Aside) (s : ℕ) → HasSlot p s ⊎ (slot_aside (Some aside) ≡ Some s) →
        Contains (aside.slot ∷ p.pool) s
    or_aside aside s (inl has) = let x = in_pool s has in (suc x.0, let l = x.1 in omega (arith, l), x.2)
    or_aside aside s (inr is) = (0, omega arith, let x : Some aside.slot ≡ Some s = is in cc)

    counted : (aside : Option Aside) → HasAllWith aside p →
        number_at p.trace.start p.trace.seen (WithPass p.trace.who) ≤ length p.pool + number_aside aside
    counted None all =
        let few = count_in_list p.pool (is_at p.trace.start p.trace.seen (WithPass p.trace.who))
        p.trace.start.shape.slots
        (λ s e. none_aside s (all.free s (bears ((knows p.trace).own s) e))) in
        omega (arith, few)
    counted (Some aside) all =
        let few = count_in_list (aside.slot ∷ p.pool) (is_at p.trace.start p.trace.seen (WithPass p.trace.who))
        p.trace.start.shape.slots
        (λ s e. or_aside aside s (all.free s (bears ((knows p.trace).own s) e))) in
        omega (arith, few)

-- and so has it after what another pass has seen
pub had_between : (aside : Option Aside) (p : PassView) (q : Trace) → IsBetweenCalls aside p q →
    number_had q.start q.seen p.trace.who ≤ POOL + number_aside aside
had_between aside p q b =
    let room = b.law.room in
    let own = had_in_pool aside p b.has_all b.empty_hand in
    let same : number_had q.start q.seen p.trace.who ≡ number_had p.trace.start p.trace.seen p.trace.who =
    (λ i. number_had_by (sym b.start i) (known i)) in
    omega arith
  where
    number_had_by : Start → Know → ℕ
    number_had_by start know = count_below (λ s. may_bear (know.own s)) start.shape.slots
        + count_below (λ s. is_unstamped (know.own s)) start.shape.slots

    known : know_after q.start q.seen p.trace.who ≡ know_after p.trace.start p.trace.seen p.trace.who
    known = ap (λ (d : Start). know_after d q.seen p.trace.who) (sym b.start)
        ∙ begins_for_know p.trace.start p.trace.who p.trace.seen q.seen b.seen
