-- The nodes of a list now are no more than those of it before and what disturbed the pass since.
use Rattle.vbr_list.proofs.Names.{if◌then◌else◌, and_from, and_parts, cases_Bool, cases_eq, ne_eqb, ◌≡◌, ◌≢◌, ℕ, zero}
use Rattle.vbr_list.proofs.Names.{suc, ◌+◌, ◌*◌, ◌<◌, ◌≤◌, Bool, true, false, not, Option, Some, None, refl, sym, ap}
use Rattle.vbr_list.proofs.Names.{◌∙◌, subst, arith, inl, inr, ◌⊎◌, ◌==◌, ◌&&◌, eq-eqb, mul-le, begins_refl, behind}
use Rattle.vbr_list.proofs.Names.{bucket_of, count_below, disturbed_in, enough_among, has_left, Head, in_list_from}
use Rattle.vbr_list.proofs.Names.{Incarnations, incarnations_after, InList, is_behind, is_inserted, is_met, IsListed}
use Rattle.vbr_list.proofs.Names.{met, met_in, nodes_listed_in, PassLaw, PassView, Quiet, quiet_on, run_agrees}
use Rattle.vbr_list.proofs.Names.{slot_is_one, Sound, Start, State, Trace}
use Rattle.vbr_list.proofs.traversals.Disturbing.{disturbed_there, grown_disturbed, grows_disturbed, met_after}
use Rattle.vbr_list.proofs.traversals.Disturbing.{met_unanswered, run_of}

-- ---- counts

-- a test but at one number
abbrev but : (ℕ → Bool) → ℕ → ℕ → Bool
but g k s = g s && not (s == k)

-- one more number adds no more to the one than to the other, where it passes the one only with the other
both_on : (x y : Bool) (i j : ℕ) → (x ≡ true → y ≡ true) → i ≤ j →
    (if x then suc i else i) ≤ (if y then suc j else j)
both_on true true i j h l = omega (arith, l)
both_on false true i j h l = omega (arith, l)
both_on false false i j h l = l
both_on true false i j h l = absurd (let z : false ≡ true = h refl in cc)

-- a number that passes neither, or that passes both
same_on : (x y : Bool) (i j : ℕ) → x ≡ y → suc i ≤ j → suc (if x then suc i else i) ≤ (if y then suc j else j)
same_on true true i j e l = omega (arith, l)
same_on false false i j e l = l
same_on true false i j e l = absurd (cc)
same_on false true i j e l = absurd (cc)

last_on : (x y : Bool) (i j : ℕ) → x ≡ false → y ≡ true → i ≤ j →
    suc (if x then suc i else i) ≤ (if y then suc j else j)
last_on false true i j e f l = omega (arith, l)
last_on true y i j e f l = absurd (cc)
last_on false false i j e f l = absurd (cc)

no_more : (x : Bool) (i j : ℕ) → x ≡ false → i ≤ j → (if x then suc i else i) ≤ j
no_more false i j e l = l
no_more true i j e l = absurd (cc)

one_more : (x : Bool) (i j : ℕ) → suc i ≤ j → (if x then suc i else i) ≤ j
one_more true i j l = l
one_more false i j l = omega (arith, l)

passes_still : (b : Bool) {t : Bool} → t ≡ false → (b && not t) ≡ b
passes_still true e = ap not e
passes_still false e = refl

passes_not : (b : Bool) {t : Bool} → t ≡ true → (b && not t) ≡ false
passes_not true e = ap not e
passes_not false e = refl

fewer : (g : ℕ → Bool) (k n : ℕ) → count_below (but g k) n ≤ count_below g n
fewer g k zero = omega arith
fewer g k (suc n) =
    both_on (but g k n) (g n) (count_below (but g k) n) (count_below g n) (λ t. (and_parts (g n) (not (n == k)) t).0)
    (fewer g k n)

-- it passes less often where that number passes
without_one : (g : ℕ → Bool) (k n : ℕ) → k < n → g k ≡ true → suc (count_below (but g k) n) ≤ count_below g n
without_one g k zero low passes = absurd (omega (arith, low))
without_one g k (suc n) low passes = go (cases_eq n k) (λ l. without_one g k n l passes)
  where
    go : (n ≡ k) ⊎ (n ≢ k) → (k < n → suc (count_below (but g k) n) ≤ count_below g n) →
        suc (count_below (but g k) (suc n)) ≤ count_below g (suc n)
    go (inl is) before =
        last_on (but g k n) (g n) (count_below (but g k) n) (count_below g n)
        (passes_not (g n) (eq-eqb n k is)) (ap g is ∙ passes) (fewer g k n)
    go (inr ne) before =
        same_on (but g k n) (g n) (count_below (but g k) n) (count_below g n)
        (passes_still (g n) (ne_eqb n k ne)) (before (omega (arith, low, ne)))

-- what is taken to different numbers that pass a test is no more than they are
taken : (f g : ℕ → Bool) (h : ℕ → ℕ) (m n : ℕ) → ((c : ℕ) → c < m → f c ≡ true → (h c < n) × (g (h c) ≡ true)) →
    ((c d : ℕ) → c < m → d < m → f c ≡ true → f d ≡ true → h c ≡ h d → c ≡ d) → count_below f m ≤ count_below g n
taken f g h zero n into one = omega arith
taken f g h (suc m) n into one = go (cases_Bool (f m)) (λ t i o. taken f t h m n i o)
  where
    go : (f m ≡ true) ⊎ (f m ≡ false) →
        ((t : ℕ → Bool) → ((c : ℕ) → c < m → f c ≡ true → (h c < n) × (t (h c) ≡ true)) →
        ((c d : ℕ) → c < m → d < m → f c ≡ true → f d ≡ true → h c ≡ h d → c ≡ d) →
        count_below f m ≤ count_below t n) → count_below f (suc m) ≤ count_below g n
    go (inr fails) on =
        no_more (f m) (count_below f m) (count_below g n) fails
        (on g (λ c l. into c (omega (arith, l)))
        (λ c d l k. one c d (omega (arith, l)) (omega (arith, k))))
    go (inl passes) on =
        let here = into m (omega arith) passes in
        let less = without_one g (h m) n here.0 here.1 in
        let rest = on (but g (h m))
        (λ c l t. (let there = into c (omega (arith, l)) t in (
          there.0,
          and_from (g (h c)) (not (h c == h m)) there.1
              (ap not (ne_eqb (h c) (h m)
              (λ q. (let w = one c m (omega (arith, l)) (omega arith) t passes q in omega (arith, w, l))))),
        ))) (λ c d l k. one c d (omega (arith, l)) (omega (arith, k))) in
        one_more (f m) (count_below f m) (count_below g n) (omega (arith, less, rest))

-- ---- nodes

-- the incarnation in a slot, or any where there is none
abbrev in_slot : Option ℕ → ℕ
in_slot None = 0
in_slot (Some c) = c

-- what is in a list was inserted, and has not left
listed_test : (st : State) → IsListed st → (is_inserted st && not (has_left st)) ≡ true
listed_test st l = grind arith

-- each node of a list can be met
listed_met : {start : Start} {a : Incarnations} → Sound start a → (bucket h : ℕ) →
    behind start a bucket (Head h) ≤ met start a a bucket
listed_met {start} {a} s bucket h =
    taken (is_behind start a bucket (Head h)) (is_met start a a bucket) (λ t. in_slot (a.last t)) start.shape.slots
    a.count into one
  where
    there : (t : ℕ) → is_behind start a bucket (Head h) t ≡ true → (d : ℕ) × InList start a bucket t d
    there t e = in_list_from start a bucket t (and_parts _ _ e).0

    into : (t : ℕ) → t < start.shape.slots → is_behind start a bucket (Head h) t ≡ true →
        (in_slot (a.last t) < a.count) × (is_met start a a bucket (in_slot (a.last t)) ≡ true)
    into t l e =
        let node = there t e in
        let d = node.0 in
        let is : in_slot (a.last t) ≡ d = ap in_slot node.1.stands.last in
        let P : ℕ → Type 0 = λ n. (n < a.count) × (is_met start a a bucket n ≡ true) in
        subst P (sym is) (
          (s.slots.last_born t d node.1.stands.last).0,
          and_from (is_inserted (a.state d) && not (has_left (a.state d))) (bucket_of start.shape (a.key d) == bucket)
              (listed_test (a.state d) node.1.stands.listed)
              (eq-eqb (bucket_of start.shape (a.key d)) bucket node.1.of_bucket),
        )

    one : (t u : ℕ) → t < start.shape.slots → u < start.shape.slots → is_behind start a bucket (Head h) t ≡ true →
        is_behind start a bucket (Head h) u ≡ true → in_slot (a.last t) ≡ in_slot (a.last u) → t ≡ u
    one t u l k e f same =
        let x = there t e in
        let y = there u f in
        let d : y.0 ≡ x.0 = ap in_slot (sym y.1.stands.last) ∙ sym same ∙ ap in_slot x.1.stands.last in
        slot_is_one s t u x.0 x.1.stands
        (record {
          last = y.1.stands.last ∙ ap Some d;
          listed = (let Q : ℕ → Type 0 = λ n. IsListed (a.state n) in subst Q d y.1.stands.listed);
        })

-- ---- a pass that made no call

-- so there are no more nodes in a list than were before, and than the pass was disturbed since
pub listed_later : {p : PassView} {q : Trace} → PassLaw p → Quiet p.trace q → (bucket : ℕ) →
    nodes_listed_in q bucket ≤ nodes_listed_in p.trace bucket + disturbed_in p.trace q bucket
listed_later {p} {q} law quiet bucket =
    let ok = run_of law quiet in
    let now = listed_met {a = incarnations_after p.trace.start q.seen}
    (run_agrees p.trace.start p.trace.passes q.seen law.start ok).sound bucket bucket in
    let same : nodes_listed_in q bucket ≡ behind p.trace.start (incarnations_after p.trace.start q.seen) bucket
    (Head bucket) =
    ap (λ (start : Start). behind start (incarnations_after start q.seen) bucket (Head bucket)) quiet.same.start in
    let here : met_in q q bucket ≡ met p.trace.start (incarnations_after p.trace.start q.seen)
    (incarnations_after p.trace.start q.seen) bucket =
    ap (λ (start : Start). met start (incarnations_after start q.seen) (incarnations_after start q.seen) bucket)
    quiet.same.start in
    let later = met_after p.trace q law.start ok bucket q quiet.same quiet.seen (begins_refl q.seen) in
    let few = met_unanswered p.trace q law.start ok bucket quiet in
    omega (arith, now, same, here, later, few)

-- and what was enough to seek there later is no more than was enough before
pub enough_later : {p : PassView} {q r : Trace} → PassLaw p → Quiet p.trace q → Quiet q r → (bucket : ℕ) →
    enough_among (nodes_listed_in q bucket) (disturbed_in q r bucket)
    ≤ enough_among (nodes_listed_in p.trace bucket) (disturbed_in p.trace r bucket)
enough_later {p} {q} {r} law first last bucket =
    let nodes = listed_later law first bucket in
    let whole = quiet_on first last in
    let here = disturbed_there p.trace q bucket q.seen first.same in
    let there = disturbed_there p.trace q bucket r.seen first.same in
    let grows = grown_disturbed law first bucket in
    let more = grows_disturbed p.trace r law.start (run_of law whole) bucket q.seen last.seen in
    let times : disturbed_in q r bucket ≤ disturbed_in p.trace r bucket = omega (arith, here, there, grows) in
    let all : nodes_listed_in q bucket + disturbed_in q r bucket
    ≤ nodes_listed_in p.trace bucket + disturbed_in p.trace r bucket =
    omega (arith, nodes, here, there, grows, more) in
    mul-le (disturbed_in q r bucket + 1) (5 * (nodes_listed_in q bucket + disturbed_in q r bucket) + 11)
    (disturbed_in p.trace r bucket + 1)
    (5 * (nodes_listed_in p.trace bucket + disturbed_in p.trace r bucket) + 11) (omega (arith, times))
    (omega (arith, all))
