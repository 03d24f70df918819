-- Lists of slots, without one of them.
use Rattle.std.proofs.Common.{◌≡◌, ◌≢◌, ℕ, zero, suc, ◌<◌, ◌≤◌, ◌==◌, Bool, true, false, not, List, [], ◌∷◌, length}
use Rattle.std.proofs.Common.{cond, refl, sym, ap, ◌∙◌, subst, eq-eqb, inl, inr, arith}
use Rattle.std.specs.Prelude.{◌⊎◌, AllPairs, Contains}
use Rattle.std.proofs.lemmas.Bool.{cases_eq, ne_eqb}
use Rattle.std.proofs.lemmas.List.Elements.{All-contains, All-contains_itself, All-filter}
use Rattle.std.proofs.lemmas.List.Sums.{length-filter, count_by-le-length}
use Rattle.vbr_slots.specs.pools.Pools.{without}

-- a pool that hasn't the slot stays
without_other : (slot : ℕ) (pool : List ℕ) → ¬ (Contains pool slot) → without slot pool ≡ pool
without_other slot [] out = refl
without_other slot (x ∷ xs) out =
    ap (λ (b : Bool). cond (not b) (x ∷ without slot xs) (without slot xs))
    (ne_eqb x slot (λ e. out (0, omega arith, e)))
    ∙ ap (λ (l : List ℕ). x ∷ l) (without_other slot xs (λ c. out (suc c.0, (let l = c.1 in omega arith), c.2)))

-- a pool that has it gets shorter
pub without_shorter : (slot : ℕ) (pool : List ℕ) → Contains pool slot → length (without slot pool) < length pool
without_shorter slot [] (k, low, is) = absurd (omega arith)
without_shorter slot (x ∷ xs) (zero, low, is) =
    let most : length (without slot xs) ≤ length xs =
    rw (length-filter (λ (y : ℕ). not (y == slot)) xs) (count_by-le-length (λ (y : ℕ). not (y == slot)) xs) in
    subst (λ (b : Bool). length (cond (not b) (x ∷ without slot xs) (without slot xs)) < suc (length xs))
    (sym (eq-eqb x slot is)) (omega arith)
without_shorter slot (x ∷ xs) (suc k, low, is) =
    let less = without_shorter slot xs (k, omega arith, is) in either (x == slot) less
  where
    either : (b : Bool) → length (without slot xs) < length xs →
        length (cond (not b) (x ∷ without slot xs) (without slot xs)) < suc (length xs)
    either true less = omega arith
    either false less = omega arith

-- and loses no more than that one slot, if each stands there once
pub without_one : (slot : ℕ) (pool : List ℕ) → AllPairs ◌≢◌ pool → length pool ≤ suc (length (without slot pool))
without_one slot [] apart = omega arith
without_one slot (x ∷ xs) apart =
    either (cases_eq x slot)
    (without_one slot xs (λ i j d less low. apart (suc i) (suc j) d (omega arith) (omega arith)))
  where
    out : x ≡ slot → ¬ (Contains xs slot)
    out is (k, low, at_index) = apart 0 (suc k) slot (omega arith) (omega arith) (is ∙ sym at_index)

    either : (x ≡ slot) ⊎ (x ≢ slot) → length xs ≤ suc (length (without slot xs)) →
        length (x ∷ xs) ≤ suc (length (without slot (x ∷ xs)))
    either (inl is) less =
        let stays : length (without slot xs) ≡ length xs = ap length (without_other slot xs (out is)) in
        subst (λ (b : Bool). suc (length xs) ≤ suc (length (cond (not b) (x ∷ without slot xs) (without slot xs))))
        (sym (eq-eqb x slot is)) (omega arith)
    either (inr other) less =
        subst (λ (b : Bool). suc (length xs) ≤ suc (length (cond (not b) (x ∷ without slot xs) (without slot xs))))
        (sym (ne_eqb x slot other)) (omega arith)

-- a pool keeps its other slots
pub stays_in : (slot : ℕ) (pool : List ℕ) (s : ℕ) → s ≢ slot → Contains pool s → Contains (without slot pool) s
stays_in slot [] s other (k, low, is) = absurd (omega arith)
stays_in slot (x ∷ xs) s other (zero, low, is) =
    subst (λ (b : Bool). Contains (cond (not b) (x ∷ without slot xs) (without slot xs)) s)
    (sym (ne_eqb x slot (λ e. other (sym is ∙ e)))) (0, omega arith, is)
stays_in slot (x ∷ xs) s other (suc k, low, is) = either (x == slot) (stays_in slot xs s other (k, omega arith, is))
  where
    either : (b : Bool) → Contains (without slot xs) s →
        Contains (cond (not b) (x ∷ without slot xs) (without slot xs)) s
    either true c = c
    either false c = (suc c.0, (let l = c.1 in omega arith), c.2)

-- and has no others
pub left_in : (slot : ℕ) (pool : List ℕ) (s : ℕ) → Contains (without slot pool) s → Contains pool s
left_in slot pool s c =
    All-contains (Contains pool) (without slot pool) s
    (All-filter (λ (x : ℕ). not (x == slot)) (Contains pool) pool (All-contains_itself pool)) c
