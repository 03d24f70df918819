-- A slot that leaves its pool by its place.
use Rattle.std.proofs.Common.{◌≡◌, ◌≢◌, ℕ, zero, suc, ◌+◌, ◌<◌, ◌==◌, Bool, true, false, not, List, [], ◌∷◌, length}
use Rattle.std.proofs.Common.{get_or, Option, Some, None, cond, refl, sym, ap, ◌∙◌, subst, eq-eqb, ⊎_elim, arith}
use Rattle.std.specs.Prelude.{AllPairs, slice_index_or}
use Rattle.std.specs.List.{remove, position_from}
use Rattle.std.proofs.lemmas.Bool.{cases_eq, ne_eqb, true≢false}
use Rattle.vbr_slots.specs.pools.Pools.{without}

abbrev there : Option ℕ → Bool
there None = false
there (Some n) = true

abbrev value : ℕ → Option ℕ → ℕ
value d None = d
value d (Some n) = n

absent : (slot : ℕ) (xs : List ℕ) → ((k d : ℕ) → k < length xs → slice_index_or xs k d ≢ slot) → without slot xs ≡ xs
absent slot [] h = refl
absent slot (x ∷ xs) h =
    (λ i. cond (not (ne_eqb x slot (h 0 0 (omega arith)) i)) (x ∷ without slot xs) (without slot xs))
    ∙ ap (λ ys. x ∷ ys) (absent slot xs (λ k d low. h (suc k) d (omega (arith, low))))

later : (x : ℕ) (xs : List ℕ) → AllPairs ◌≢◌ (x ∷ xs) → AllPairs ◌≢◌ xs
later x xs apart = λ i j d less low. apart (suc i) (suc j) d (omega (arith, less)) (omega (arith, low))

pub not_found : (slot : ℕ) (xs : List ℕ) (k : ℕ) → position_from (λ x. x == slot) k xs ≡ None → without slot xs ≡ xs
not_found slot [] k e = refl
not_found slot (x ∷ xs) k e =
    ⊎_elim
    (λ same. let t = eq-eqb x slot same in
    absurd (true≢false
    (ap there (sym (ap (λ (b : Bool). cond b (Some k) (position_from (λ y. y == slot) (k + 1) xs)) t) ∙ e))))
    (λ other. let f = ne_eqb x slot other in
    ap (λ (b : Bool). cond (not b) (x ∷ without slot xs) (without slot xs)) f
    ∙ ap (λ ys. x ∷ ys)
    (not_found slot xs (k + 1)
    (sym (ap (λ (b : Bool). cond b (Some k) (position_from (λ y. y == slot) (k + 1) xs)) f) ∙ e)))
    (cases_eq x slot)

pub found_at : (slot : ℕ) (xs : List ℕ) (k i : ℕ) → AllPairs ◌≢◌ xs → position_from (λ x. x == slot) k xs ≡ Some i →
    (j : ℕ) × (i ≡ k + j) × (j < length xs) × (remove xs j ≡ without slot xs)
found_at slot [] k i apart e = absurd (true≢false (sym (ap there e)))
found_at slot (x ∷ xs) k i apart e =
    ⊎_elim
    (λ same.
    let t = eq-eqb x slot same in
    let here : k ≡ i =
    ap (value k) (sym (ap (λ (b : Bool). cond b (Some k) (position_from (λ y. y == slot) (k + 1) xs)) t) ∙ e) in (
      0,
      omega (arith, here),
      omega arith,
      sym (ap (λ (b : Bool). cond (not b) (x ∷ without slot xs) (without slot xs)) t
          ∙ absent slot xs (λ j d low is. apart 0 (suc j) d (omega arith) (omega (arith, low)) (same ∙ sym is))),
    ))
    (λ other.
    let f = ne_eqb x slot other in
    let rest = found_at slot xs (k + 1) i (later x xs apart)
    (sym (ap (λ (b : Bool). cond b (Some k) (position_from (λ y. y == slot) (k + 1) xs)) f) ∙ e) in
    let on = rest.1 in
    let low = rest.2 in (
      suc rest.0,
      omega (arith, on),
      omega (arith, low),
      ap (λ ys. x ∷ ys) rest.3 ∙ sym (ap (λ (b : Bool). cond (not b) (x ∷ without slot xs) (without slot xs)) f),
    ))
    (cases_eq x slot)

-- where the place was found, it is in the pool, and the slot is what leaves there
pub left : (slot index : ℕ) (pool seen : List ℕ) (place : Option ℕ) → AllPairs ◌≢◌ pool → seen ≡ pool →
    place ≡ position_from (λ x. x == slot) 0 seen → place ≡ Some index →
    (index < length pool) × (remove pool index ≡ without slot pool)
left slot index pool seen place apart is found some =
    let f = found_at slot pool 0 index apart (ap (position_from (λ x. x == slot) 0) (sym is) ∙ sym found ∙ some) in
    let on = f.1 in
    let low = f.2 in
    let here : f.0 ≡ index = omega (arith, on) in
    (omega (arith, on, low), subst (λ (n : ℕ). remove pool n ≡ without slot pool) here f.3)

-- where none was found, the slot isn't there
pub stays : (slot : ℕ) (pool seen : List ℕ) (place : Option ℕ) → seen ≡ pool →
    place ≡ position_from (λ x. x == slot) 0 seen → place ≡ None → pool ≡ without slot pool
stays slot pool seen place is found none =
    sym (not_found slot pool 0 (ap (position_from (λ x. x == slot) 0) (sym is) ∙ sym found ∙ none))

-- the slot at a place of a pool is all that leaves there
pub at_place : (slot : ℕ) (pool : List ℕ) (index : ℕ) → AllPairs ◌≢◌ pool → index < length pool →
    get_or pool index 0 ≡ slot → remove pool index ≡ without slot pool
at_place slot [] index apart low is = absurd (omega (arith, low))
at_place slot (x ∷ xs) zero apart low is =
    let t = eq-eqb x slot is in
    sym (ap (λ (b : Bool). cond (not b) (x ∷ without slot xs) (without slot xs)) t
    ∙ absent slot xs (λ j d less same. apart 0 (suc j) d (omega arith) (omega (arith, less)) (is ∙ sym same)))
at_place slot (x ∷ xs) (suc index) apart low is =
    let below : index < length xs = omega (arith, low) in
    let other : x ≢ slot = λ same. apart 0 (suc index) 0 (omega arith) (omega (arith, low)) (same ∙ sym is) in
    ap (λ ys. x ∷ ys) (at_place slot xs index (later x xs apart) below is)
    ∙ sym (ap (λ (b : Bool). cond (not b) (x ∷ without slot xs) (without slot xs)) (ne_eqb x slot other))
