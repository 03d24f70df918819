-- Behind a place of a list stands one node more than behind its successor, counted by slots.
use Rattle.std.proofs.Common.{◌≡◌, ◌≢◌, ℕ, zero, suc, ◌<◌, ◌≤◌, Bool, true, false, Option, Some, None, refl, sym, ap}
use Rattle.std.proofs.Common.{◌∙◌, subst, inl, inr, arith}
use Rattle.std.specs.Prelude.{◌==◌, ◌&&◌, ◌⊎◌, if◌then◌else◌}
use Rattle.std.proofs.lemmas.Bool.{and_parts, and_from, and_left, cases_Bool, cases_eq, cases_lt, cases_order, eq-eqb}
use Rattle.std.proofs.lemmas.Bool.{eqb-true, le-ltb, lt-ltb, ne_eqb}
use Rattle.vbr_machine.specs.Start.{Start}
use Rattle.vbr_words.specs.declared.place.At.{At}
use Rattle.vbr_words.specs.declared.place.At.TheVariants.{Head, Slot}
use Rattle.vbr_words.specs.Buckets.{bucket_of}
use Rattle.vbr_words.specs.declared.link.Link.{Link}
use Rattle.vbr_machine.specs.Agreement.{Fits, IsPair, IsGoodLink}
use Rattle.vbr_machine.specs.Images.{key_shown, link_in_state, link_shown, link_shown_at}
use Rattle.vbr_machine.specs.Incarnations.{State, Unborn, InHand, GivenUp, Linked, Marked, Unlinked, Stamped}
use Rattle.vbr_machine.specs.Incarnations.{Incarnations}
use Rattle.vbr_machine.specs.Put.{put}
use Rattle.vbr_machine.specs.Keys.{Keys}
use Rattle.vbr_machine.specs.Chronicles.{Before, GivesUp, Bears, Stamps, Unlinks, Allowed, IsDead, MayBeBornIn}
use Rattle.vbr_machine.specs.Chronicles.{MayStamp, becomes, unlinked_at}
use Rattle.vbr_machine.specs.Notes.{before_at}
use Rattle.vbr_machine.specs.declared.knowledge.SlotPlace.{SlotPlace}
use Rattle.vbr_machine.specs.declared.knowledge.SlotPlace.TheVariants.{Shared, Own, Hand, Listed}
use Rattle.vbr_machine.specs.Nodes.{state_shown, state_in, is_listed, key_in_slot, rank_shown, rank_in_slot, is_lower}
use Rattle.vbr_machine.specs.Nodes.{is_in_list, is_above, is_behind, count_below, behind}
use Rattle.vbr_machine.specs.Sound.{IsListed, IsOrderedBefore, IsApart, IsFrom, Sound}
use Rattle.vbr_machine.proofs.words.Puts.{put_here, put_other}
use Rattle.vbr_machine.proofs.chronicles.Lists.{next_listed, places_differ}
use Rattle.vbr_machine.proofs.reads.HeldReads.{same_pair}
use Rattle.vbr_machine.proofs.chronicles.Slots.{late_born, listed_late, listed_last, one_late}

-- the last incarnation of a slot is this one, and it is in a list
pub record Stands (a : Incarnations) (s c : ℕ) : Type 0 where
  pub last : a.last s ≡ Some c
  pub listed : IsListed (a.state c)

-- whether a place is in a list: a head is, and a slot whose last incarnation is
abbrev pub is_there : Incarnations → At → Bool
is_there a (Head b) = true
is_there a (Slot s) = is_listed (state_in a s)

-- the node of a slot is in the list of a bucket
pub record InList (start : Start) (a : Incarnations) (bucket s c : ℕ) : Type 0 where
  pub stands : Stands a s c
  pub of_bucket : bucket_of start.shape (a.key c) ≡ bucket

-- ---- counts

if_same : (b c : Bool) (m n : ℕ) → b ≡ c → m ≡ n → (if b then suc m else m) ≡ (if c then suc n else n)
if_same b c m n e r = (λ i. if e i then suc (r i) else r i)

pub count_same : (f g : ℕ → Bool) (n : ℕ) → ((s : ℕ) → s < n → f s ≡ g s) → count_below f n ≡ count_below g n
count_same f g zero e = refl
count_same f g (suc n) e =
    if_same (f n) (g n) (count_below f n) (count_below g n) (e n (omega arith))
    (count_same f g n (λ s l. e s (omega arith)))

both_fall : (b : Bool) (m n : ℕ) → m ≡ suc n → (if b then suc m else m) ≡ suc (if b then suc n else n)
both_fall true m n r = ap suc r
both_fall false m n r = r

-- a test that fails on one slot more passes one fewer
pub count_falls : (f g : ℕ → Bool) (n k : ℕ) → k < n → f k ≡ true → g k ≡ false →
    ((s : ℕ) → s < n → s ≢ k → f s ≡ g s) → count_below f n ≡ suc (count_below g n)
count_falls f g zero k l t u e = absurd (omega arith)
count_falls f g (suc n) k l t u e =
    go (cases_Bool (k == n)) (λ m. count_falls f g n k m t u (λ s m w. e s (omega arith) w))
  where
    go : ((k == n) ≡ true) ⊎ ((k == n) ≡ false) → (k < n → count_below f n ≡ suc (count_below g n)) →
        count_below f (suc n) ≡ suc (count_below g (suc n))
    go (inl q) rec =
        let is : k ≡ n = eqb-true k n q in
        let r : count_below f n ≡ count_below g n = count_same f g n (λ s m. e s (omega arith) (λ w. omega arith)) in
        let tn : f n ≡ true = ap f (sym is) ∙ t in
        let un : g n ≡ false = ap g (sym is) ∙ u in
        rw (tn, un) (ap suc r)
    go (inr q) rec =
        let ne : k ≢ n = (λ w. let z : (k == n) ≡ true = eq-eqb k n w in grind arith) in
        ap (λ (b : Bool). if b then suc (count_below f n) else count_below f n) (e n (omega arith) (λ w. ne (sym w)))
        ∙ both_fall (g n) (count_below f n) (count_below g n) (rec (omega arith))

-- ---- nodes

listed_from : (st : State) → is_listed st ≡ true → IsListed st
listed_from st e = grind arith

pub listed_is : (st : State) → IsListed st → is_listed st ≡ true
listed_is st l = grind arith

pub stands_in : (a : Incarnations) (s : ℕ) → is_listed (state_in a s) ≡ true → (c : ℕ) × Stands a s c
stands_in a s e = go (a.last s) refl e
  where
    go : (last : Option ℕ) → a.last s ≡ last → is_listed (state_shown a last) ≡ true → (c : ℕ) × Stands a s c
    go None is e = absurd (listed_from Unborn e)
    go (Some c) is e = (c, record { last = is; listed = listed_from (a.state c) e })

pub stands_listed : {a : Incarnations} {s c : ℕ} → Stands a s c → is_listed (state_in a s) ≡ true
stands_listed {a} {s} {c} n = ap (λ l. is_listed (state_shown a l)) n.last ∙ listed_is (a.state c) n.listed

pub stands_key : {a : Incarnations} {s c : ℕ} → Stands a s c → key_in_slot a s ≡ a.key c
stands_key {a} n = ap (key_shown a) n.last

pub stands_rank : {a : Incarnations} {s c : ℕ} → Stands a s c → rank_in_slot a s ≡ a.rank c
stands_rank {a} n = ap (rank_shown a) n.last

-- a node in a list stands in its slot
pub stands_there : {start : Start} {a : Incarnations} → Sound start a → Fits start a → (n : ℕ) → IsListed (a.state n) →
    (a.slot n < start.shape.slots) × Stands a (a.slot n) n
stands_there {start} {a} sound fits n l = (
  fits.slot n (late_born sound.slots n 0 (listed_late (a.state n) 0 l)),
  record { last = listed_last sound.slots n l; listed = l },
)

pub in_list_from : (start : Start) (a : Incarnations) (bucket s : ℕ) → is_in_list start a bucket s ≡ true →
    (c : ℕ) × InList start a bucket s c
in_list_from start a bucket s e =
    let parts = and_parts _ _ e in
    let node = stands_in a s parts.0 in (
      node.0,
      record {
        stands = node.1;
        of_bucket = ap (bucket_of start.shape) (sym (stands_key node.1)) ∙ eqb-true _ _ parts.1;
      },
    )

pub in_list_is : {start : Start} {a : Incarnations} {bucket s c : ℕ} → InList start a bucket s c →
    is_in_list start a bucket s ≡ true
in_list_is {start} n =
    and_from _ _ (stands_listed n.stands) (eq-eqb _ _ (ap (bucket_of start.shape) (stands_key n.stands) ∙ n.of_bucket))

-- a node stands in one slot
pub slot_is_one : {start : Start} {a : Incarnations} → Sound start a → (s t c : ℕ) → Stands a s c → Stands a t c → s ≡ t
slot_is_one sound s t c here there =
    sym ((sound.slots.last_born s c here.last).1) ∙ (sound.slots.last_born t c there.last).1

-- ---- from a place to its successor

-- the place is the head of the bucket, or its slot's last incarnation has a key of the bucket
abbrev pub IsPlaceOf : Start → Incarnations → At → ℕ → Type 0
IsPlaceOf start a (Head b) bucket = b ≡ bucket
IsPlaceOf start a (Slot t) bucket = bucket_of start.shape (key_in_slot a t) ≡ bucket

-- a node is the next behind a place: it stands ahead of each other node of the list that stands behind the place
pub record IsNextOf (start : Start) (a : Incarnations) (bucket : ℕ) (place : At) (n : ℕ) : Type 0 where
  pub listed : IsListed (a.state n)
  pub of_bucket : bucket_of start.shape (a.key n) ≡ bucket
  pub above : is_above a place (a.key n) (a.rank n) ≡ true
  pub others : (d : ℕ) → IsListed (a.state d) → bucket_of start.shape (a.key d) ≡ bucket → d ≢ n →
      is_above a place (a.key d) (a.rank d) ≡ is_lower (a.key n) (a.rank n) (a.key d) (a.rank d)

-- an incarnation doesn't stand ahead of another
abbrev pub NotOrderedBefore : (ℕ → ℕ) → (ℕ → ℕ) → ℕ → ℕ → Type 0
NotOrderedBefore key rank c d = (key d < key c) ⊎ ((key d ≡ key c) × (rank d ≤ rank c))

-- the test tells whether it does
pub lower_is : (key rank : ℕ → ℕ) (c d : ℕ) → IsOrderedBefore key rank c d →
    is_lower (key c) (rank c) (key d) (rank d) ≡ true
lower_is key rank c d (inl l) = rw (lt-ltb (key c) (key d) l) refl
lower_is key rank c d (inr l) =
    rw (le-ltb (key c) (key d) (let e = l.0 in omega arith), eq-eqb (key c) (key d) l.0, lt-ltb (rank c) (rank d) l.1)
    refl

pub lower_not : (key rank : ℕ → ℕ) (c d : ℕ) → NotOrderedBefore key rank c d →
    is_lower (key c) (rank c) (key d) (rank d) ≡ false
lower_not key rank c d (inl l) =
    rw (le-ltb (key c) (key d) (omega arith), ne_eqb (key c) (key d) (λ e. omega arith)) refl
lower_not key rank c d (inr l) =
    rw (
      le-ltb (key c) (key d) (let e = l.0 in omega arith),
      eq-eqb (key c) (key d) (sym l.0),
      le-ltb (rank c) (rank d) l.1,
    ) refl

ahead_or_not : (key rank : ℕ → ℕ) (c d : ℕ) → IsOrderedBefore key rank c d ⊎ NotOrderedBefore key rank c d
ahead_or_not key rank c d = go (cases_order (key c) (key d)) (cases_lt (rank c) (rank d))
  where
    go : (key c ≡ key d) ⊎ ((key c < key d) ⊎ (key d < key c)) → (rank c < rank d) ⊎ (rank d ≤ rank c) →
        IsOrderedBefore key rank c d ⊎ NotOrderedBefore key rank c d
    go (inl e) (inl l) = inl (inr (e, l))
    go (inl e) (inr l) = inr (inr (sym e, l))
    go (inr (inl l)) r = inl (inl l)
    go (inr (inr l)) r = inr (inl l)

-- and where it does, the one is ordered before the other
pub lower_from : (key rank : ℕ → ℕ) (c d : ℕ) → is_lower (key c) (rank c) (key d) (rank d) ≡ true →
    IsOrderedBefore key rank c d
lower_from key rank c d e = go (ahead_or_not key rank c d)
  where
    go : IsOrderedBefore key rank c d ⊎ NotOrderedBefore key rank c d → IsOrderedBefore key rank c d
    go (inl o) = o
    go (inr n) = absurd (let z : true ≡ false = sym e ∙ lower_not key rank c d n in cc)

-- against a listed node and its successor, another is behind the one where it is behind the other
others_above : (key rank : ℕ → ℕ) (c n d : ℕ) (next : Option ℕ) → next ≡ Some n → IsOrderedBefore key rank c n →
    (key n ≡ key d → rank n ≡ rank d → ⊥) → IsApart key rank c next d →
    is_lower (key c) (rank c) (key d) (rank d) ≡ is_lower (key n) (rank n) (key d) (rank d)
others_above key rank c n d next q up ne apart = go (ahead_or_not key rank n d)
  where
    on : IsOrderedBefore key rank n d → IsOrderedBefore key rank c d
    on (inl l) = inl (grind arith)
    on (inr l) = elim up [
      | inl x ↦ inl (let e = l.0 in omega arith)
      | inr x ↦ inr (x.0 ∙ l.0, (let y = x.1 in let z = l.1 in omega arith))
    ]

    back : NotOrderedBefore key rank n d → IsApart key rank c next d → NotOrderedBefore key rank c d
    back h (inl e) = inr (ap key e, (let r : rank d ≡ rank c = ap rank e in omega arith))
    back h (inr (inl (inl l))) = inl l
    back h (inr (inl (inr l))) = inr (l.0, (let z = l.1 in omega arith))
    back h (inr (inr (m, e, from))) = absurd (let is : m ≡ n = (let z = e in cc) in same (rw is at from) h)
      where
        same : (key n < key d) ⊎ ((key n ≡ key d) × (rank n ≤ rank d)) → NotOrderedBefore key rank n d → ⊥
        same u v = grind arith

    go : IsOrderedBefore key rank n d ⊎ NotOrderedBefore key rank n d →
        is_lower (key c) (rank c) (key d) (rank d) ≡ is_lower (key n) (rank n) (key d) (rank d)
    go (inl h) = lower_is key rank c d (on h) ∙ sym (lower_is key rank n d h)
    go (inr h) = lower_not key rank c d (back h apart) ∙ sym (lower_not key rank n d h)

none_before : (key rank : ℕ → ℕ) (n d : ℕ) (first : Option ℕ) → first ≡ Some n → (key n ≡ key d → rank n ≡ rank d → ⊥) →
    IsFrom key rank first d → true ≡ is_lower (key n) (rank n) (key d) (rank d)
none_before key rank n d first q ne (m, e, from) =
    let is : m ≡ n = cc in sym (lower_is key rank n d (ahead (rw is at from)))
  where
    ahead : (key n < key d) ⊎ ((key n ≡ key d) × (rank n ≤ rank d)) → IsOrderedBefore key rank n d
    ahead (inl l) = inl l
    ahead (inr l) = inr (l.0, (let u = l.1 in let v = ne l.0 in grind arith))

-- this incarnation is in a list, the last of the slot at the place, and has that successor; at a head, that one is
-- the first of the bucket
abbrev pub IsFollowed : Incarnations → At → Option ℕ → Option ℕ → Type 0
IsFollowed a (Head b) of next = (of ≡ None) × (a.first b ≡ next)
IsFollowed a (Slot s) of next = (c : ℕ) × (of ≡ Some c) × (a.last s ≡ Some c) × IsListed (a.state c) × (a.next c ≡ next)

pub pair_followed : (a : Incarnations) (place : At) (of next : Option ℕ) → IsPair a place of next →
    IsFollowed a place of next
pair_followed a (Head b) of next p = p
pair_followed a (Slot s) of next p = (p.0, p.1, p.2, rw p.3 tt, p.4)

version_of_listed : (a : Incarnations) (c : ℕ) (st : State) → IsListed st → a.birth c ≤ (link_in_state a c st).version
version_of_listed a c Linked l = omega arith
version_of_listed a c Marked l = omega arith
version_of_listed a c Unborn l = absurd l
version_of_listed a c (InHand p) l = absurd l
version_of_listed a c GivenUp l = absurd l
version_of_listed a c (Unlinked p u) l = absurd l
version_of_listed a c (Stamped u r) l = absurd l

-- a checked link that stands there again, of a node that is in a list, stands for what it was checked with
pub same_followed : {start : Start} {a : Incarnations} → Sound start a →
    (e : ℕ) (place : At) (link : Link) (of names : Option ℕ) → IsGoodLink a e place link of names →
    (link.mark ≡ false) ⊎ (is_there a place ≡ true) → link_shown_at a place ≡ link → IsFollowed a place of names
same_followed {start} {a} sound e place link of names g (inl unmarked) shown =
    pair_followed a place of names (same_pair sound e place link of names g unmarked shown)
same_followed {start} {a} sound e place link of names g (inr there) shown = either (cases_Bool link.mark)
  where
    marked_one : (place : At) (of : Option ℕ) → IsGoodLink a e place link of names → is_there a place ≡ true →
        link_shown_at a place ≡ link → link.mark ≡ true → IsFollowed a place of names
    marked_one (Head b) None g there shown m = absurd (g.frozen m)
    marked_one (Head b) (Some c) g there shown m = absurd g.place
    marked_one (Slot v) None g there shown m = absurd g.place
    marked_one (Slot v) (Some c) g there shown m =
        let node = stands_in a v there in
        let d = node.0 in
        let low : a.birth d ≤ e = (
        let is : link_in_state a d (a.state d) ≡ link = sym (ap (link_shown a) node.1.last) ∙ shown in
        let x = version_of_listed a d (a.state d) node.1.listed in
        let y = ap (λ (l : Link). l.version) is in
        let z = g.version in
        omega (arith, x, y, z)) in
        let same : d ≡ c =
        one_late sound.slots d c e ((sound.slots.last_born v d node.1.last).1 ∙ sym g.place.slot)
        (listed_late (a.state d) e node.1.listed) g.place.late low g.place.birth in
        let P : ℕ → Type 0 = λ n. IsListed (a.state n) in
        (c, refl, node.1.last ∙ ap Some same, subst P same node.1.listed, (g.frozen m).1)

    either : (link.mark ≡ true) ⊎ (link.mark ≡ false) → IsFollowed a place of names
    either (inl m) = marked_one place of g there shown m
    either (inr unmarked) = pair_followed a place of names (same_pair sound e place link of names g unmarked shown)

pub next_of_followed : {start : Start} {a : Incarnations} → Sound start a →
    (bucket : ℕ) (place : At) (of : Option ℕ) (n : ℕ) → IsFollowed a place of (Some n) →
    IsPlaceOf start a place bucket →
    IsNextOf start a bucket place n
next_of_followed {start} {a} sound bucket (Head b) of n p is =
    let f = sound.lists.first_in b n p.1 in
    record {
      listed = f.0;
      of_bucket = f.1 ∙ is;
      above = refl;
      others = λ d l e ne.
          none_before a.key a.rank n d (a.first b) p.1 (λ w r. ne (sym (places_differ sound n d f.0 l w r)))
          (let P : ℕ → Type 0 = λ v. IsFrom a.key a.rank (a.first v) d in
          subst P (e ∙ sym is) (sound.lists.behind_head d l));
    }
next_of_followed {start} {a} sound bucket (Slot t) of n p is =
    let c = p.0 in
    let k : key_in_slot a t ≡ a.key c = ap (key_shown a) p.2 in
    let r : rank_in_slot a t ≡ a.rank c = ap (rank_shown a) p.2 in
    let lc : IsListed (a.state c) = p.3 in
    let ln : IsListed (a.state n) = next_listed sound c n p.4 lc in
    let o = sound.lists.ordered c n p.4 in
    let bc : bucket_of start.shape (a.key c) ≡ bucket = ap (bucket_of start.shape) (sym k) ∙ is in
    record {
      listed = ln;
      of_bucket = sym o.0 ∙ bc;
      above = (λ i. is_lower (k i) (r i) (a.key n) (a.rank n)) ∙ lower_is a.key a.rank c n o.1;
      others = λ d l e ne. (λ i. is_lower (k i) (r i) (a.key d) (a.rank d))
          ∙ others_above a.key a.rank c n d (a.next c) p.4 o.1 (λ w r. ne (sym (places_differ sound n d ln l w r)))
          (sound.lists.apart c d lc l (bc ∙ sym e));
    }

not_below_itself : (k r : ℕ) → is_lower k r k r ≡ false
not_below_itself k r = lower_not (λ s. k) (λ s. r) 0 0 (inr (refl, omega arith))

-- behind the next there is one node fewer
pub one_fewer : {start : Start} {a : Incarnations} → Sound start a → Fits start a → (bucket : ℕ) (place : At) (n : ℕ) →
    IsNextOf start a bucket place n → behind start a bucket place ≡ suc (behind start a bucket (Slot (a.slot n)))
one_fewer {start} {a} sound fits bucket place n next =
    let there = stands_there sound fits n next.listed in
    count_falls (is_behind start a bucket place) (is_behind start a bucket (Slot (a.slot n))) start.shape.slots
    (a.slot n)
    there.0 (passes there.1) (fails there.1) (λ s l ne. others s ne there.1)
  where
    passes : Stands a (a.slot n) n → is_behind start a bucket place (a.slot n) ≡ true
    passes st = and_from _ _ (in_list_is {start = start} (record { stands = st; of_bucket = next.of_bucket }))
        ((λ i. is_above a place (stands_key st i) (stands_rank st i)) ∙ next.above)

    fails : Stands a (a.slot n) n → is_behind start a bucket (Slot (a.slot n)) (a.slot n) ≡ false
    fails st = ap (λ b. is_in_list start a bucket (a.slot n) && b)
        (not_below_itself (key_in_slot a (a.slot n)) (rank_in_slot a (a.slot n)))
        ∙ right (is_in_list start a bucket (a.slot n))
      where
        right : (b : Bool) → (b && false) ≡ false
        right true = refl
        right false = refl

    others : (s : ℕ) → s ≢ a.slot n → Stands a (a.slot n) n →
        is_behind start a bucket place s ≡ is_behind start a bucket (Slot (a.slot n)) s
    others s ne st = go (cases_Bool (is_in_list start a bucket s))
      where
        go : (is_in_list start a bucket s ≡ true) ⊎ (is_in_list start a bucket s ≡ false) →
            is_behind start a bucket place s ≡ is_behind start a bucket (Slot (a.slot n)) s
        go (inr outside) = and_left _ _ outside ∙ sym (and_left _ _ outside)
        go (inl inside) =
            let node = in_list_from start a bucket s inside in
            let other : node.0 ≢ n =
            λ e. ne (slot_is_one sound s (a.slot n) n (subst (λ (d : ℕ). Stands a s d) e node.1.stands) st) in
            ap (λ b. is_in_list start a bucket s && b)
            ((λ i. is_above a place (stands_key node.1.stands i) (stands_rank node.1.stands i))
            ∙ next.others node.0 node.1.stands.listed node.1.of_bucket other
            ∙ (λ i. is_lower (sym (stands_key st) i) (sym (stands_rank st) i) (sym (stands_key node.1.stands) i)
            (sym (stands_rank node.1.stands) i)))

-- ---- where a node is unlinked, and where none is

-- nodes that are in lists as before stand behind a place as before
pub behind_same : (start : Start) (a b : Incarnations) (bucket : ℕ) (place : At) →
    ((s : ℕ) → is_listed (state_in b s) ≡ is_listed (state_in a s)) → b.key ≡ a.key → b.rank ≡ a.rank →
    b.last ≡ a.last → behind start b bucket place ≡ behind start a bucket place
behind_same start a b bucket place listed key rank last =
    count_same (is_behind start b bucket place) (is_behind start a bucket place) start.shape.slots (λ s l. same s)
  where
    keys : (s : ℕ) → key_in_slot b s ≡ key_in_slot a s
    keys s = (λ i. key_shown (record a { key = key i }) (last i s))

    ranks : (s : ℕ) → rank_in_slot b s ≡ rank_in_slot a s
    ranks s = (λ i. rank_shown (record a { rank = rank i }) (last i s))

    above : (place : At) (key low : ℕ) → is_above b place key low ≡ is_above a place key low
    above (Head h) key low = refl
    above (Slot t) key low = (λ i. is_lower (keys t i) (ranks t i) key low)

    same : (s : ℕ) → is_behind start b bucket place s ≡ is_behind start a bucket place s
    same s = (λ i. (listed s i && (bucket_of start.shape (keys s i) == bucket))
        && is_above b place (keys s i) (ranks s i))
        ∙ ap (λ c. is_in_list start a bucket s && c) (above place (key_in_slot a s) (rank_in_slot a s))

-- one that is in no list comes into another state in which it is in none
put_unlisted : (state : ℕ → State) (c : ℕ) (st : State) (j : ℕ) → is_listed (state c) ≡ false → is_listed st ≡ false →
    is_listed (put state c st j) ≡ is_listed (state j)
put_unlisted state c st j x y = go (cases_eq j c)
  where
    go : (j ≡ c) ⊎ (j ≢ c) → is_listed (put state c st j) ≡ is_listed (state j)
    go (inl e) = rw (e, put_here state c st) (y ∙ sym x)
    go (inr ne) = ap is_listed (put_other state c st j ne)

unlisted_shown : (a b : Incarnations) (c : ℕ) (st : State) (l : Option ℕ) → b.state ≡ put a.state c st →
    is_listed (a.state c) ≡ false → is_listed st ≡ false → is_listed (state_shown b l) ≡ is_listed (state_shown a l)
unlisted_shown a b c st None e x y = refl
unlisted_shown a b c st (Some d) e x y = ap (λ f. is_listed (f d)) e ∙ put_unlisted a.state c st d x y

-- a stamping leaves the lists as they were
pub stamps_none : (start : Start) (keys : Keys) (a : Incarnations) (pass c stamp bucket : ℕ) (place : At) →
    Allowed start keys a pass (Stamps c stamp) →
    behind start (becomes start a pass (Stamps c stamp)) bucket place ≡ behind start a bucket place
stamps_none start keys a pass c stamp bucket place h =
    let b = becomes start a pass (Stamps c stamp) in
    behind_same start a b bucket place
    (λ s. unlisted_shown a b c (Stamped (unlinked_at (a.state c)) stamp) (a.last s) refl (not_listed (a.state c) h)
    refl) refl refl refl
  where
    not_listed : (st : State) → MayStamp st pass stamp a.epoch → is_listed st ≡ false
    not_listed st h = grind arith

-- behind each place that a node lies behind one node fewer stands once it is unlinked
pub unlinks_one : {start : Start} {a : Incarnations} → Sound start a → Fits start a →
    (pass bucket c : ℕ) (place from : At) (of : Option ℕ) → IsFollowed a place of (Some c) →
    IsPlaceOf start a place bucket →
    is_above a from (a.key c) (a.rank c) ≡ true →
    behind start a bucket from ≡ suc (behind start (becomes start a pass (Unlinks c (before_at a place))) bucket from)
unlinks_one {start} {a} sound fits pass bucket c place from of followed is higher =
    let next = next_of_followed sound bucket place of c followed is in
    let there = stands_there sound fits c next.listed in
    count_falls (is_behind start a bucket from) (is_behind start b bucket from) start.shape.slots (a.slot c) there.0
    (and_from _ _ (in_list_is {start = start} (record { stands = there.1; of_bucket = next.of_bucket }))
    ((λ i. is_above a from (stands_key there.1 i) (stands_rank there.1 i)) ∙ higher))
    (fails there.1)
    (λ s l ne. sym (others s ne))
  where
    b : Incarnations
    b = becomes start a pass (Unlinks c (before_at a place))

    fails : Stands a (a.slot c) c → is_behind start b bucket from (a.slot c) ≡ false
    fails st = and_left _ _
        (and_left _ _
        (ap (λ l. is_listed (state_shown b l)) st.last ∙ ap is_listed (put_here a.state c (Unlinked pass a.epoch))))

    others : (s : ℕ) → s ≢ a.slot c → is_behind start b bucket from s ≡ is_behind start a bucket from s
    others s ne =
        ap (λ x. (is_listed x && (bucket_of start.shape (key_in_slot a s) == bucket))
        && is_above a from (key_in_slot a s) (rank_in_slot a s)) (go (a.last s) refl)
      where
        go : (l : Option ℕ) → a.last s ≡ l → state_shown b l ≡ state_shown a l
        go None e = refl
        go (Some d) e =
            put_other a.state c (Unlinked pass a.epoch) d (λ x. ne (sym (sound.slots.last_born s d e).1 ∙ ap a.slot x))

-- ---- no more than before

pub count_le : (f g : ℕ → Bool) (n : ℕ) → ((s : ℕ) → f s ≡ true → g s ≡ true) → count_below f n ≤ count_below g n
count_le f g zero h = omega arith
count_le f g (suc n) h = le_if (f n) (g n) (count_below f n) (count_below g n) (h n) (count_le f g n h)
  where
    le_if : (b c : Bool) (m n : ℕ) → (b ≡ true → c ≡ true) → m ≤ n → (if b then suc m else m) ≤ (if c then suc n else n)
    le_if true true m n h l = omega arith
    le_if true false m n h l = absurd (let z = h refl in cc)
    le_if false true m n h l = omega arith
    le_if false false m n h l = l

-- an unlinking adds none to what stands behind a place
pub unlinks_add_none : (start : Start) (a : Incarnations) (pass bucket c : ℕ) (before : Before) (place : At) →
    behind start (becomes start a pass (Unlinks c before)) bucket place ≤ behind start a bucket place
unlinks_add_none start a pass bucket c before place =
    count_le (is_behind start b bucket place) (is_behind start a bucket place) start.shape.slots was
  where
    b : Incarnations
    b = becomes start a pass (Unlinks c before)

    still : (l : Option ℕ) → is_listed (state_shown b l) ≡ true → is_listed (state_shown a l) ≡ true
    still None e = e
    still (Some d) e = go (cases_eq d c)
      where
        go : (d ≡ c) ⊎ (d ≢ c) → is_listed (a.state d) ≡ true
        go (inl is) =
            absurd (let z : is_listed (Unlinked pass a.epoch) ≡ true =
            rw (is, put_here a.state c (Unlinked pass a.epoch)) at e in cc)
        go (inr ne) = ap is_listed (sym (put_other a.state c (Unlinked pass a.epoch) d ne)) ∙ e

    was : (s : ℕ) → is_behind start b bucket place s ≡ true → is_behind start a bucket place s ≡ true
    was s e =
        let x = and_parts _ _ e in
        let y = and_parts _ _ x.0 in
        and_from _ _ (and_from _ _ (still (a.last s) y.0) y.1) (same place (key_in_slot a s) (rank_in_slot a s) x.1)
      where
        same : (at2 : At) (key rank : ℕ) → is_above b at2 key rank ≡ true → is_above a at2 key rank ≡ true
        same (Head h) key rank e = e
        same (Slot t) key rank e = e

-- ---- links

-- a stamping leaves the links that are shown
pub stamps_links : (start : Start) (keys : Keys) (a : Incarnations) (pass c stamp : ℕ) (place : At) →
    Allowed start keys a pass (Stamps c stamp) →
    link_shown_at (becomes start a pass (Stamps c stamp)) place ≡ link_shown_at a place
stamps_links start keys a pass c stamp (Head h) al = refl
stamps_links start keys a pass c stamp (Slot s) al = shown (a.last s)
  where
    stamped_link : (st : State) (x y : ℕ) → MayStamp st pass stamp a.epoch →
        link_in_state a c (Stamped x y) ≡ link_in_state a c st
    stamped_link (Unlinked by unlinked) x y m = refl
    stamped_link Unborn x y m = absurd m
    stamped_link (InHand by) x y m = absurd m
    stamped_link GivenUp x y m = absurd m
    stamped_link Linked x y m = absurd m
    stamped_link Marked x y m = absurd m
    stamped_link (Stamped unlinked by) x y m = absurd m

    shown : (l : Option ℕ) → link_shown (becomes start a pass (Stamps c stamp)) l ≡ link_shown a l
    shown None = refl
    shown (Some d) = go (cases_eq d c)
      where
        go : (d ≡ c) ⊎ (d ≢ c) →
            link_in_state a d (put a.state c (Stamped (unlinked_at (a.state c)) stamp) d)
            ≡ link_in_state a d (a.state d)
        go (inl e) =
            rw (e, put_here a.state c (Stamped (unlinked_at (a.state c)) stamp))
            (stamped_link (a.state c) (unlinked_at (a.state c)) stamp al)
        go (inr ne) = ap (link_in_state a d) (put_other a.state c (Stamped (unlinked_at (a.state c)) stamp) d ne)

-- and so does the giving up of an incarnation
pub gives_up_links : (start : Start) (keys : Keys) (a : Incarnations) (pass c : ℕ) (place : At) →
    Allowed start keys a pass (GivesUp c) → link_shown_at (becomes start a pass (GivesUp c)) place
    ≡ link_shown_at a place
gives_up_links start keys a pass c (Head h) al = refl
gives_up_links start keys a pass c (Slot s) al = shown (a.last s)
  where
    shown : (l : Option ℕ) → link_shown (becomes start a pass (GivesUp c)) l ≡ link_shown a l
    shown None = refl
    shown (Some d) = go (cases_eq d c)
      where
        go : (d ≡ c) ⊎ (d ≢ c) → link_in_state a d (put a.state c GivenUp d) ≡ link_in_state a d (a.state d)
        go (inl e) = rw (e, put_here a.state c GivenUp, al) refl
        go (inr ne) = ap (link_in_state a d) (put_other a.state c GivenUp d ne)

-- ---- what a birth leaves

-- an incarnation that is given up was in no list
pub gives_up_none : (start : Start) (keys : Keys) (a : Incarnations) (pass c bucket : ℕ) (place : At) →
    Allowed start keys a pass (GivesUp c) →
    behind start (becomes start a pass (GivesUp c)) bucket place ≡ behind start a bucket place
gives_up_none start keys a pass c bucket place h =
    let b = becomes start a pass (GivesUp c) in
    behind_same start a b bucket place (λ s. unlisted_shown a b c GivenUp (a.last s) refl (ap is_listed h) refl) refl
    refl
    refl

-- a slot that may be born in shows no node of a list
free_unlisted : (a : Incarnations) (pass s : ℕ) (place : SlotPlace) (l : Option ℕ) → a.last s ≡ l →
    MayBeBornIn a pass s place → is_listed (state_shown a l) ≡ false
free_unlisted a pass s (Own p) None e m = refl
free_unlisted a pass s (Own p) (Some c) e m = dead (a.state c) (rw e at m.1)
  where
    dead : (st : State) → IsDead st → is_listed st ≡ false
    dead st h = grind arith
free_unlisted a pass s (Hand p) None e m = refl
free_unlisted a pass s (Hand p) (Some c) e m = let z : a.state c ≡ GivenUp = rw e at m.1 in ap is_listed z
free_unlisted a pass s Shared l e m = absurd m
free_unlisted a pass s (Listed h) l e m = absurd m

-- a birth adds no node to a list, and takes none away
pub bears_none : (start : Start) (keys : Keys) (a : Incarnations) (pass s birth bucket h : ℕ) → Sound start a →
    Allowed start keys a pass (Bears s birth) →
    behind start (becomes start a pass (Bears s birth)) bucket (Head h) ≡ behind start a bucket (Head h)
bears_none start keys a pass s birth bucket h sound al =
    count_same (is_behind start b bucket (Head h)) (is_behind start a bucket (Head h)) start.shape.slots (λ t l. same t)
  where
    b : Incarnations
    b = becomes start a pass (Bears s birth)

    other : (t : ℕ) (l : Option ℕ) → a.last t ≡ l →
        (is_listed (state_shown b l) ≡ is_listed (state_shown a l)) × (key_shown b l ≡ key_shown a l)
    other t None e = (refl, refl)
    other t (Some d) e =
        let low = (sound.slots.last_born t d e).0 in
        let ne : d ≢ a.count = (λ q. omega arith) in (
          ap is_listed (put_other a.state a.count (InHand pass) d ne),
          put_other a.key a.count (key_shown a (a.last s)) d ne,
        )

    listed_key : (x y : Bool) (k j : ℕ) → x ≡ y → k ≡ j →
        ((x && (bucket_of start.shape k == bucket)) && true) ≡ ((y && (bucket_of start.shape j == bucket)) && true)
    listed_key x y k j e f = (λ i. (e i && (bucket_of start.shape (f i) == bucket)) && true)

    none : (x y : Bool) (k j : ℕ) → x ≡ false → y ≡ false →
        ((x && (bucket_of start.shape k == bucket)) && true) ≡ ((y && (bucket_of start.shape j == bucket)) && true)
    none x y k j e f = and_left _ _ (and_left _ _ e) ∙ sym (and_left _ _ (and_left _ _ f))

    same : (t : ℕ) → is_behind start b bucket (Head h) t ≡ is_behind start a bucket (Head h) t
    same t = go (cases_eq t s)
      where
        go : (t ≡ s) ⊎ (t ≢ s) → is_behind start b bucket (Head h) t ≡ is_behind start a bucket (Head h) t
        go (inl e) = none (is_listed (state_in b t)) (is_listed (state_in a t)) (key_in_slot b t) (key_in_slot a t)
            (ap (λ l. is_listed (state_shown b l))
            (ap (put a.last s (Some a.count)) e ∙ put_here a.last s (Some a.count))
            ∙ ap is_listed (put_here a.state a.count (InHand pass)))
            (ap (λ v. is_listed (state_in a v)) e ∙ free_unlisted a pass s (a.place s) (a.last s) refl al.0)
        go (inr ne) =
            let l = put_other a.last s (Some a.count) t ne in
            let o = other t (a.last t) refl in
            listed_key (is_listed (state_in b t)) (is_listed (state_in a t)) (key_in_slot b t) (key_in_slot a t)
            (ap (λ m. is_listed (state_shown b m)) l ∙ o.0) (ap (key_shown b) l ∙ o.1)
