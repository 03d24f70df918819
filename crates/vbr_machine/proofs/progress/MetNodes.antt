-- The nodes that a walk can meet were in the bucket's list when it began, or have come since.
-- So were their successors, and so the number of them is bounded.
use Rattle.std.proofs.Common.{◌≡◌, ◌≢◌, ℕ, zero, suc, ◌+◌, ◌<◌, ◌≤◌, Bool, true, false, not, List, [], ◌∷◌, Option}
use Rattle.std.proofs.Common.{Some, None, refl, sym, ap, ◌∙◌, subst, inl, inr, eq-eqb, arith}
use Rattle.std.specs.Prelude.{◌==◌, ◌&&◌, ◌⊎◌, if◌then◌else◌}
use Rattle.std.specs.List.{AllByRecursion}
use Rattle.std.proofs.lemmas.Bool.{and_parts, and_from, cases_Bool, cases_eq, eqb-true, ne_eqb}
use Rattle.vbr_words.specs.Buckets.{bucket_of}
use Rattle.vbr_words.specs.declared.place.At.TheVariants.{Head}
use Rattle.vbr_machine.specs.Start.{Start}
use Rattle.vbr_machine.specs.Put.{put}
use Rattle.vbr_machine.specs.Keys.{Keys}
use Rattle.vbr_machine.specs.Agreement.{Fits}
use Rattle.vbr_machine.specs.Images.{key_shown}
use Rattle.vbr_machine.specs.Incarnations.{State, Unborn, InHand, GivenUp, Linked, Marked, Unlinked, Stamped}
use Rattle.vbr_machine.specs.Incarnations.{Incarnations}
use Rattle.vbr_machine.specs.Chronicles.{Happening, Advances, Gains, Probes, Raises, GivesUp, Bears, Keyed, Valued}
use Rattle.vbr_machine.specs.Chronicles.{Aims, Inserts, Removes, Replaces, Unlinks, Stamps, Confirms, AtHead, AtNode}
use Rattle.vbr_machine.specs.Chronicles.{Entry, Allowed, MayStamp, becomes, incarnations_from, IsLawful, unlinked_at}
use Rattle.vbr_machine.specs.Disturbances.{changes, one_if, disturbances_in, is_inserted, has_left, is_met, met}
use Rattle.vbr_machine.specs.Nodes.{count_below, behind, is_behind, is_lower}
use Rattle.vbr_machine.specs.Removals.{HasLeft}
use Rattle.vbr_machine.specs.Sound.{IsInserted, IsListed, IsOrderedBefore, Sound, Grows}
use Rattle.vbr_machine.proofs.chronicles.Growth.{inserted_stays}
use Rattle.vbr_machine.proofs.progress.ListedNodes.{count_falls, in_list_is, lower_from, lower_is, lower_not}
use Rattle.vbr_machine.proofs.progress.ListedNodes.{stands_there}
use Rattle.vbr_machine.proofs.chronicles.Lists.{next_listed}
use Rattle.vbr_machine.proofs.words.Puts.{put_here, put_other}
use Rattle.vbr_machine.proofs.moments.Removals.{left_stays}
use Rattle.vbr_machine.proofs.chronicles.Slots.{inserted_late, late_born}
use Rattle.vbr_machine.proofs.chronicles.SoundAfter.{sound_kept}

-- and how many of them are ordered before a key with a rank
abbrev pub is_met_below : Start → Incarnations → Incarnations → ℕ → ℕ → ℕ → ℕ → Bool
is_met_below start before now bucket key rank c =
    is_met start before now bucket c && is_lower (now.key c) (now.rank c) key rank

abbrev pub met_below : Start → Incarnations → Incarnations → ℕ → ℕ → ℕ → ℕ
met_below start before now bucket key rank = count_below (is_met_below start before now bucket key rank) now.count

-- ---- states

listed_or_left : (st : State) → IsInserted st → (HasLeft st → ⊥) → IsListed st
listed_or_left st i n = grind arith

left_or_listed : (st : State) → IsInserted st → (IsListed st → ⊥) → HasLeft st
left_or_listed st i n = grind arith

pub listed_not_left : (st : State) → IsListed st → HasLeft st → ⊥
listed_not_left st l h = grind arith

inserted_from : (st : State) → is_inserted st ≡ true → IsInserted st
inserted_from st e = grind arith

inserted_is : (st : State) → IsInserted st → is_inserted st ≡ true
inserted_is st i = grind arith

left_from : (st : State) → not (has_left st) ≡ true → HasLeft st → ⊥
left_from st e h = grind arith

left_is : (st : State) → (HasLeft st → ⊥) → not (has_left st) ≡ true
left_is st n = grind arith

-- ---- the successors of nodes that were there

-- what had left at first has left, and only what had left stands before it
pub record StaysOut (a b : Incarnations) : Type 0 where
  pub out : (c : ℕ) → HasLeft (a.state c) → HasLeft (b.state c)
  pub closed : (c d : ℕ) → b.next c ≡ Some d → HasLeft (a.state d) → HasLeft (a.state c)

out_at_first : {start : Start} {a : Incarnations} → Sound start a → StaysOut a a
out_at_first {start} {a} s = record {
  out = λ c h. h;
  closed = λ c d e h.
      left_or_listed (a.state c) (s.lists.inserted c d e).0
      (λ l. listed_not_left (a.state d) (next_listed s c d e l) h);
}

-- a node in hand that is put between a linked one and its successor leaves that so
spliced : (first a : Incarnations) (pass p v : ℕ) → StaysOut first a → a.state p ≡ Linked → a.state v ≡ InHand pass →
    (c d : ℕ) → put (put a.next v (a.next p)) p (Some v) c ≡ Some d → HasLeft (first.state d) → HasLeft (first.state c)
spliced first a pass p v x linked held c d e l = go (cases_eq c p)
  where
    P : State → Type 0
    P = HasLeft

    inner : ℕ → Option ℕ
    inner = put a.next v (a.next p)

    behind_new : (c ≡ v) ⊎ (c ≢ v) → inner c ≡ Some d → HasLeft (first.state c)
    behind_new (inl is) q =
        let y : a.next p ≡ Some d = sym (ap inner is ∙ put_here a.next v (a.next p)) ∙ q in
        let z : HasLeft Linked = subst P linked (x.out p (x.closed p d y l)) in
        absurd z
    behind_new (inr ne) q = x.closed c d (sym (put_other a.next v (a.next p) c ne) ∙ q) l

    go : (c ≡ p) ⊎ (c ≢ p) → HasLeft (first.state c)
    go (inl is) =
        let y : Some v ≡ Some d = sym (ap (put inner p (Some v)) is ∙ put_here inner p (Some v)) ∙ e in
        let w : v ≡ d = cc in
        let z : HasLeft (InHand pass) = subst P (ap a.state (sym w) ∙ held) (x.out d l) in
        absurd z
    go (inr ne) = behind_new (cases_eq c v) (sym (put_other inner p (Some v) c ne) ∙ e)

closed_kept : (start : Start) (keys : Keys) (first a : Incarnations) (pass : ℕ) (what : Happening) → Sound start a →
    Allowed start keys a pass what → StaysOut first a → (c d : ℕ) → (becomes start a pass what).next c ≡ Some d →
    HasLeft (first.state d) → HasLeft (first.state c)
closed_kept start keys first a pass (Bears v birth) s h x c d e l = go (cases_eq c a.count)
  where
    go : (c ≡ a.count) ⊎ (c ≢ a.count) → HasLeft (first.state c)
    go (inl is) =
        absurd (let z : None ≡ Some d = sym (ap (put a.next a.count None) is ∙ put_here a.next a.count None) ∙ e in cc)
    go (inr ne) = x.closed c d (sym (put_other a.next a.count None c ne) ∙ e) l
closed_kept start keys first a pass (Inserts v (AtHead b)) s h x c d e l = go (cases_eq c v)
  where
    go : (c ≡ v) ⊎ (c ≢ v) → HasLeft (first.state c)
    go (inl is) =
        absurd (listed_not_left (a.state d)
        (s.lists.first_in b d (sym (ap (put a.next v (a.first b)) is ∙ put_here a.next v (a.first b)) ∙ e)).0
        (x.out d l))
    go (inr ne) = x.closed c d (sym (put_other a.next v (a.first b) c ne) ∙ e) l
closed_kept start keys first a pass (Inserts v (AtNode p)) s h x c d e l =
    spliced first a pass p v x h.is_open h.in_hand c d e l
closed_kept start keys first a pass (Replaces old v) s h x c d e l =
    spliced first a pass old v x h.linked h.in_hand c d e l
closed_kept start keys first a pass (Unlinks v (AtNode p)) s h x c d e l = go (cases_eq c p)
  where
    P : State → Type 0
    P = HasLeft

    go : (c ≡ p) ⊎ (c ≢ p) → HasLeft (first.state c)
    go (inl is) =
        let y : a.next v ≡ Some d = sym (ap (put a.next p (a.next v)) is ∙ put_here a.next p (a.next v)) ∙ e in
        let z : HasLeft Marked = subst P h.0 (x.out v (x.closed v d y l)) in
        absurd z
    go (inr ne) = x.closed c d (sym (put_other a.next p (a.next v) c ne) ∙ e) l
closed_kept start keys first a pass _ s h x c d e l = x.closed c d e l

out_from : (start : Start) (keys : Keys) (first a : Incarnations) (entries : List Entry) → Sound start a →
    IsLawful start keys a entries → StaysOut first a → StaysOut first (incarnations_from start a entries)
out_from start keys first a [] s l x = x
out_from start keys first a (entry ∷ entries) s l x =
    out_from start keys first (becomes start a entry.pass entry.what) entries
    (sound_kept start keys a entry.pass entry.what s l.0) l.1 (record {
      out = λ c h. left_stays start keys a entry.pass entry.what s l.0 c (x.out c h);
      closed = closed_kept start keys first a entry.pass entry.what s l.0 x;
    })

-- a law of chronicles: what follows a node that was in a list since an earlier moment was too
pub stays_out : (start : Start) (keys : Keys) (a : Incarnations) (entries : List Entry) → Sound start a →
    IsLawful start keys a entries → StaysOut a (incarnations_from start a entries)
stays_out start keys a entries s l = out_from start keys a a entries s l (out_at_first s)

-- ---- counts

-- a test that passes no more passes no more often
count_fewer : (f g : ℕ → Bool) (m n : ℕ) → m ≤ n → ((s : ℕ) → s < m → f s ≡ true → g s ≡ true) →
    count_below f m ≤ count_below g n
count_fewer f g zero zero le e = omega arith
count_fewer f g zero (suc n) le e = omega arith
count_fewer f g (suc m) zero le e = absurd (omega arith)
count_fewer f g (suc m) (suc n) le e =
    go (cases_eq m n) (λ l h. count_fewer f g m n l h) (λ l. count_fewer f g (suc m) n l e)
  where
    step : (x y : Bool) (j k : ℕ) → (x ≡ true → y ≡ true) → j ≤ k → (if x then suc j else j) ≤ (if y then suc k else k)
    step true true j k h l = omega arith
    step false true j k h l = omega arith
    step false false j k h l = l
    step true false j k h l = absurd (let z : false ≡ true = h refl in cc)

    up : (y : Bool) (k : ℕ) → k ≤ (if y then suc k else k)
    up true k = omega arith
    up false k = omega arith

    go : (m ≡ n) ⊎ (m ≢ n) → (m ≤ n → ((s : ℕ) → s < m → f s ≡ true → g s ≡ true) → count_below f m ≤ count_below g n) →
        (suc m ≤ n → count_below f (suc m) ≤ count_below g n) → count_below f (suc m) ≤ count_below g (suc n)
    go (inl is) both one =
        step (f m) (g n) (count_below f m) (count_below g n) (λ h. ap g (sym is) ∙ e m (omega arith) h)
        (both (omega arith) (λ s l. e s (omega arith)))
    go (inr ne) both one = let x = one (omega arith) in let y = up (g n) (count_below g n) in omega (arith, x, y)

-- a test but where another passes: it fails there, and is as it was elsewhere
pub gone : (b : Bool) {t : Bool} → t ≡ true → (b && not t) ≡ false
gone true {t} e = ap not e
gone false {t} e = refl

pub still : (b : Bool) {t : Bool} → t ≡ false → (b && not t) ≡ b
still true {t} e = ap not e
still false {t} e = refl

-- one that passes at one more place passes at least once more
count_less : (f g : ℕ → Bool) (n k : ℕ) → k < n → f k ≡ false → g k ≡ true →
    ((s : ℕ) → s < n → f s ≡ true → g s ≡ true) → count_below f n < count_below g n
count_less f g n k low fails passes e =
    let h : ℕ → Bool = λ s. g s && not (s == k) in
    let x = count_fewer f h n n (omega arith) (λ s l t. and_from (g s) (not (s == k)) (e s l t) (elsewhere s t)) in
    let y : count_below g n ≡ suc (count_below h n) =
    count_falls g h n k low passes (gone (g k) (eq-eqb k k refl)) (λ s l ne. sym (still (g s) (ne_eqb s k ne))) in
    omega (arith, x, y)
  where
    elsewhere : (s : ℕ) → f s ≡ true → not (s == k) ≡ true
    elsewhere s t = ap not (ne_eqb s k (λ q. (let z : true ≡ false = sym t ∙ ap f q ∙ fails in cc)))

-- a test that passes at one more place at the most passes no more than once more
count_one_more : (f g : ℕ → Bool) (n k : ℕ) → ((s : ℕ) → s < n → s ≢ k → g s ≡ true → f s ≡ true) →
    count_below g n ≤ suc (count_below f n)
count_one_more f g zero k e = omega arith
count_one_more f g (suc n) k e = go (cases_eq n k) (count_one_more f g n k (λ s l. e s (omega arith)))
  where
    same : (x y : Bool) (i j : ℕ) → (x ≡ true → y ≡ true) → i ≤ suc j →
        (if x then suc i else i) ≤ suc (if y then suc j else j)
    same true true i j h l = omega arith
    same false true i j h l = omega arith
    same false false i j h l = l
    same true false i j h l = absurd (let z : false ≡ true = h refl in cc)

    here : (x y : Bool) (i j : ℕ) → i ≤ j → (if x then suc i else i) ≤ suc (if y then suc j else j)
    here true true i j l = omega arith
    here false true i j l = omega arith
    here false false i j l = omega arith
    here true false i j l = omega arith

    go : (n ≡ k) ⊎ (n ≢ k) → count_below g n ≤ suc (count_below f n) →
        count_below g (suc n) ≤ suc (count_below f (suc n))
    go (inl is) on =
        here (g n) (f n) (count_below g n) (count_below f n)
        (count_fewer g f n n (omega arith) (λ s l t. e s (omega arith) (λ (q : s ≡ k). omega (arith, is, q, l)) t))
    go (inr ne) on = same (g n) (f n) (count_below g n) (count_below f n) (e n (omega arith) ne) on

-- what is taken to different places that pass a test is no more than they are
pub count_taken : (f g : ℕ → Bool) (h : ℕ → ℕ) (m n : ℕ) →
    ((c : ℕ) → c < m → f c ≡ true → (h c < n) × (g (h c) ≡ true)) →
    ((c d : ℕ) → c < m → d < m → f c ≡ true → f d ≡ true → h c ≡ h d → c ≡ d) → count_below f m ≤ count_below g n
count_taken f g h zero n into one = omega arith
count_taken f g h (suc m) n into one = go (cases_Bool (f m)) (λ t i o. count_taken f t h m n i o)
  where
    less : (x : Bool) (j k : ℕ) → x ≡ false → j ≤ k → (if x then suc j else j) ≤ k
    less true j k e l = absurd (cc)
    less false j k e l = l

    more : (x : Bool) (j k : ℕ) → j < k → (if x then suc j else j) ≤ k
    more true j k l = omega arith
    more false j k l = omega arith

    but : ℕ → Bool
    but s = g s && not (s == h m)

    go : (f m ≡ true) ⊎ (f m ≡ false) →
        ((t : ℕ → Bool) → ((c : ℕ) → c < m → f c ≡ true → (h c < n) × (t (h c) ≡ true)) →
        ((c d : ℕ) → c < m → d < m → f c ≡ true → f d ≡ true → h c ≡ h d → c ≡ d) → count_below f m ≤ count_below t n) →
        count_below f (suc m) ≤ count_below g n
    go (inr fails) on =
        less (f m) (count_below f m) (count_below g n) fails
        (on g (λ c l. into c (omega arith)) (λ c d l k. one c d (omega arith) (omega arith)))
    go (inl passes) on =
        let here = into m (omega arith) passes in
        let y : count_below g n ≡ suc (count_below but n) =
        count_falls g but n (h m) here.0 here.1 (gone (g (h m)) (eq-eqb (h m) (h m) refl))
        (λ s l ne. sym (still (g s) (ne_eqb s (h m) ne))) in
        let x = on but
        (λ c l t. (let there = into c (omega arith) t in (
          there.0,
          and_from (g (h c)) (not (h c == h m)) there.1
              (ap not (ne_eqb (h c) (h m)
              (λ q. (let w = one c m (omega arith) (omega arith) t passes q in omega (arith, w, l))))),
        ))) (λ c d l k. one c d (omega arith) (omega arith)) in
        more (f m) (count_below f m) (count_below g n) (omega (arith, x, y))

-- ---- nodes that were there

-- an incarnation of the bucket was inserted, and hadn't left at first
pub record IsMet (start : Start) (first a : Incarnations) (bucket c : ℕ) : Type 0 where
  pub inserted : IsInserted (a.state c)
  pub since : HasLeft (first.state c) → ⊥
  pub of_bucket : bucket_of start.shape (a.key c) ≡ bucket

pub met_from : (start : Start) (first a : Incarnations) (bucket c : ℕ) → is_met start first a bucket c ≡ true →
    IsMet start first a bucket c
met_from start first a bucket c e =
    let x = and_parts (is_inserted (a.state c) && not (has_left (first.state c)))
    (bucket_of start.shape (a.key c) == bucket) e in
    let y = and_parts (is_inserted (a.state c)) (not (has_left (first.state c))) x.0 in
    record {
      inserted = inserted_from (a.state c) y.0;
      since = left_from (first.state c) y.1;
      of_bucket = eqb-true (bucket_of start.shape (a.key c)) bucket x.1;
    }

pub met_is : (start : Start) (first a : Incarnations) (bucket c : ℕ) → IsMet start first a bucket c →
    is_met start first a bucket c ≡ true
met_is start first a bucket c x =
    and_from (is_inserted (a.state c) && not (has_left (first.state c))) (bucket_of start.shape (a.key c) == bucket)
    (and_from (is_inserted (a.state c)) (not (has_left (first.state c))) (inserted_is (a.state c) x.inserted)
    (left_is (first.state c) x.since)) (eq-eqb (bucket_of start.shape (a.key c)) bucket x.of_bucket)

below_itself : (b : Bool) (key rank : ℕ → ℕ) (c : ℕ) → (b && is_lower (key c) (rank c) (key c) (rank c)) ≡ false
below_itself b key rank c =
    fails b (is_lower (key c) (rank c) (key c) (rank c)) (lower_not key rank c c (inr (refl, omega arith)))
  where
    fails : (p q : Bool) → q ≡ false → (p && q) ≡ false
    fails true q e = e
    fails false q e = refl

-- the order of lists is transitive
ordered_on : (key rank : ℕ → ℕ) (b c d : ℕ) → IsOrderedBefore key rank b c → IsOrderedBefore key rank c d →
    IsOrderedBefore key rank b d
ordered_on key rank b c d x y = grind arith

module _ (start : Start) (first a : Incarnations) (bucket : ℕ) where
  -- a node that was there, and those that are ordered before it, are fewer than those that are ordered before a
  -- later one
  pub one_more_below : (c d : ℕ) → c < a.count → IsMet start first a bucket c → IsOrderedBefore a.key a.rank c d →
      met_below start first a bucket (a.key c) (a.rank c) < met_below start first a bucket (a.key d) (a.rank d)
  one_more_below c d low x less =
      count_less (is_met_below start first a bucket (a.key c) (a.rank c))
      (is_met_below start first a bucket (a.key d) (a.rank d)) a.count c low
      (below_itself (is_met start first a bucket c) a.key a.rank c)
      (and_from (is_met start first a bucket c) (is_lower (a.key c) (a.rank c) (a.key d) (a.rank d))
      (met_is start first a bucket c x) (lower_is a.key a.rank c d less))
      (λ s l t.
      (let parts = and_parts (is_met start first a bucket s) (is_lower (a.key s) (a.rank s) (a.key c) (a.rank c)) t in
      and_from (is_met start first a bucket s) (is_lower (a.key s) (a.rank s) (a.key d) (a.rank d)) parts.0
      (lower_is a.key a.rank s d (ordered_on a.key a.rank s c d (lower_from a.key a.rank s c parts.1) less))))

  -- and fewer than all
  pub one_more_of_all : (c : ℕ) → c < a.count → IsMet start first a bucket c →
      met_below start first a bucket (a.key c) (a.rank c) < met start first a bucket
  one_more_of_all c low x =
      count_less (is_met_below start first a bucket (a.key c) (a.rank c)) (is_met start first a bucket) a.count c low
      (below_itself (is_met start first a bucket c) a.key a.rank c)
      (met_is start first a bucket c x)
      (λ s l t. (and_parts (is_met start first a bucket s) (is_lower (a.key s) (a.rank s) (a.key c) (a.rank c)) t).0)

  module _ {b : Incarnations} (g : Grows a b) where
    stays_met : (c : ℕ) → IsMet start first a bucket c → IsMet start first b bucket c
    stays_met c x =
        record {
          inserted = inserted_stays g c x.inserted;
          since = x.since;
          of_bucket = ap (bucket_of start.shape) (g.key c x.inserted) ∙ x.of_bucket;
        }

    -- as more happens, they don't become fewer
    pub met_below_grows : (key rank : ℕ) →
        met_below start first a bucket key rank ≤ met_below start first b bucket key rank
    met_below_grows key rank =
        count_fewer (is_met_below start first a bucket key rank) (is_met_below start first b bucket key rank) a.count
        b.count g.count (λ c l t.
        (let parts = and_parts (is_met start first a bucket c) (is_lower (a.key c) (a.rank c) key rank) t in
        let x = met_from start first a bucket c parts.0 in
        and_from (is_met start first b bucket c) (is_lower (b.key c) (b.rank c) key rank)
        (met_is start first b bucket c (stays_met c x))
        ((λ i. is_lower (g.key c x.inserted i) (g.rank c x.inserted i) key rank) ∙ parts.1)))

    pub met_grows : met start first a bucket ≤ met start first b bucket
    met_grows = count_fewer (is_met start first a bucket) (is_met start first b bucket) a.count b.count g.count
        (λ c l t. met_is start first b bucket c (stays_met c (met_from start first a bucket c t)))

-- those of an earlier moment are no fewer
pub met_earlier : (start : Start) (first later a : Incarnations) (bucket : ℕ) →
    ((c : ℕ) → HasLeft (first.state c) → HasLeft (later.state c)) → met start later a bucket ≤ met start first a bucket
met_earlier start first later a bucket out =
    count_fewer (is_met start later a bucket) (is_met start first a bucket) a.count a.count (omega arith) (λ c l t.
    (let x = met_from start later a bucket c t in
    met_is start first a bucket c
    (record { inserted = x.inserted; since = λ h. x.since (out c h); of_bucket = x.of_bucket })))

-- ---- how many they are

-- at first they are those of the list
pub met_at_first : {start : Start} {a : Incarnations} → Sound start a → Fits start a → (bucket h : ℕ) →
    met start a a bucket ≤ behind start a bucket (Head h)
met_at_first {start} {a} s fits bucket h =
    count_taken (is_met start a a bucket) (is_behind start a bucket (Head h)) a.slot a.count start.shape.slots into one
  where
    listed : (c : ℕ) → is_met start a a bucket c ≡ true → IsListed (a.state c)
    listed c t = let x = met_from start a a bucket c t in listed_or_left (a.state c) x.inserted x.since

    into : (c : ℕ) → c < a.count → is_met start a a bucket c ≡ true →
        (a.slot c < start.shape.slots) × (is_behind start a bucket (Head h) (a.slot c) ≡ true)
    into c l t =
        let x = met_from start a a bucket c t in
        let there = stands_there s fits c (listed c t) in (
          there.0,
          and_from _ _
              (in_list_is {start = start} {a = a} {bucket = bucket} {c = c}
              (record { stands = there.1; of_bucket = x.of_bucket })) refl,
        )

    same : (c d : ℕ) (o : Option ℕ) → o ≡ Some c → o ≡ Some d → c ≡ d
    same c d o p q = let z : Some c ≡ Some d = sym p ∙ q in cc

    one : (c d : ℕ) → c < a.count → d < a.count → is_met start a a bucket c ≡ true → is_met start a a bucket d ≡ true →
        a.slot c ≡ a.slot d → c ≡ d
    one c d l k t u e =
        same c d (a.last (a.slot c)) (stands_there s fits c (listed c t)).1.last
        (ap a.last e ∙ (stands_there s fits d (listed d u)).1.last)

inserted_put : (state : ℕ → State) (d : ℕ) (st : State) (c : ℕ) → (IsInserted st → IsInserted (state d)) →
    IsInserted (put state d st c) → IsInserted (state c)
inserted_put state d st c was i = go (cases_eq c d)
  where
    P : State → Type 0
    P = IsInserted

    go : (c ≡ d) ⊎ (c ≢ d) → IsInserted (state c)
    go (inl is) = subst P (ap state (sym is)) (was (subst P (ap (put state d st) is ∙ put_here state d st) i))
    go (inr ne) = subst P (put_other state d st c ne) i

stamped_inserted : (st : State) (pass stamp epoch : ℕ) → MayStamp st pass stamp epoch → IsInserted st
stamped_inserted (Unlinked p u) pass stamp epoch m = tt
stamped_inserted Unborn pass stamp epoch m = absurd m
stamped_inserted (InHand p) pass stamp epoch m = absurd m
stamped_inserted GivenUp pass stamp epoch m = absurd m
stamped_inserted Linked pass stamp epoch m = absurd m
stamped_inserted Marked pass stamp epoch m = absurd m
stamped_inserted (Stamped u r) pass stamp epoch m = absurd m

other_bucket : (x bucket : ℕ) → (x == bucket) ≡ false → x ≢ bucket
other_bucket x bucket f e = let t : (x == bucket) ≡ true = eq-eqb x bucket e in absurd (cc)

-- one more node of a bucket comes into its list by an insert or a replacement alone
pub comes : Start → Incarnations → ℕ → Happening → Bool
comes start a bucket (Inserts c behind) = bucket_of start.shape (a.key c) == bucket
comes start a bucket (Replaces old c) = bucket_of start.shape (a.key c) == bucket
comes start a bucket _ = false

-- whether an event links a node: an insert does, and a replacement
abbrev pub is_insert : Happening → Bool
is_insert (Inserts c behind) = true
is_insert (Replaces old c) = true
is_insert _ = false

module _ (start : Start) (keys : Keys) (first a : Incarnations) (bucket : ℕ) (s : Sound start a) where
  -- where each node that was there then was there before, they aren't more
  fewer : (b : Incarnations) → ((c : ℕ) → IsMet start first b bucket c → IsMet start first a bucket c) →
      met start first b bucket ≤ met start first a bucket
  fewer b was = count_taken (is_met start first b bucket) (is_met start first a bucket) (λ c. c) b.count a.count
      (λ c l t. (let x = was c (met_from start first b bucket c t) in
      (late_born s.slots c 0 (inserted_late (a.state c) x.inserted), met_is start first a bucket c x)))
      (λ c d l k t u e. e)

  by_state : (b : Incarnations) (d : ℕ) (st : State) → b.state ≡ put a.state d st → b.key ≡ a.key →
      (IsInserted st → IsInserted (a.state d)) → met start first b bucket ≤ met start first a bucket
  by_state b d st es ek was = fewer b (λ c x. record {
    inserted = inserted_put a.state d st c was
        (let P : State → Type 0 = IsInserted in subst P (ap (λ (f : ℕ → State). f c) es) x.inserted);
    since = x.since;
    of_bucket = ap (λ (f : ℕ → ℕ). bucket_of start.shape (f c)) (sym ek) ∙ x.of_bucket;
  })

  same_all : (b : Incarnations) → b.state ≡ a.state → b.key ≡ a.key →
      met start first b bucket ≤ met start first a bucket
  same_all b es ek = fewer b (λ c x. record {
    inserted = (let P : State → Type 0 = IsInserted in subst P (ap (λ (f : ℕ → State). f c) es) x.inserted);
    since = x.since;
    of_bucket = ap (λ (f : ℕ → ℕ). bucket_of start.shape (f c)) (sym ek) ∙ x.of_bucket;
  })

  at_most : (m n k : ℕ) → m ≤ n → m ≤ k + n
  at_most m n k l = omega (arith, l)

  -- where each but one that was there then was there before, they are one more at the most, and none where that one
  -- is of another bucket
  with_one : (b : Incarnations) (c : ℕ) → b.count ≡ a.count → b.key ≡ a.key →
      ((d : ℕ) → d ≢ c → IsMet start first b bucket d → IsMet start first a bucket d) →
      met start first b bucket ≤ one_if (bucket_of start.shape (a.key c) == bucket) + met start first a bucket
  with_one b c same keys_same was = go (cases_Bool (bucket_of start.shape (a.key c) == bucket))
    where
      go : ((bucket_of start.shape (a.key c) == bucket) ≡ true) ⊎
          ((bucket_of start.shape (a.key c) == bucket) ≡ false) →
          met start first b bucket ≤ one_if (bucket_of start.shape (a.key c) == bucket) + met start first a bucket
      go (inl t) =
          let x = count_one_more (is_met start first a bucket) (is_met start first b bucket) a.count c
          (λ d l ne t. met_is start first a bucket d (was d ne (met_from start first b bucket d t))) in
          let y = ap one_if t in
          let z = ap (count_below (is_met start first b bucket)) same in
          omega (arith, x, y, z)
      go (inr f) =
          let apart = other_bucket (bucket_of start.shape (a.key c)) bucket f in
          let x = fewer b
          (λ d x. was d
          (λ q. apart (ap (λ i. bucket_of start.shape (a.key i)) (sym q)
          ∙ ap (λ (k : ℕ → ℕ). bucket_of start.shape (k d)) (sym keys_same) ∙ x.of_bucket)) x) in
          omega (arith, x)

  pub met_with : (pass : ℕ) (what : Happening) → Allowed start keys a pass what →
      met start first (becomes start a pass what) bucket ≤ one_if (comes start a bucket what) + met start first a bucket
  unfolding comes
  met_with pass Advances h =
      at_most (met start first (becomes start a pass Advances) bucket) (met start first a bucket) 0
      (same_all (becomes start a pass Advances) refl refl)
  met_with pass (Gains v) h =
      at_most (met start first (becomes start a pass (Gains v)) bucket) (met start first a bucket) 0
      (same_all (becomes start a pass (Gains v)) refl refl)
  met_with pass (Probes v) h = at_most (met start first a bucket) (met start first a bucket) 0 (same_all a refl refl)
  met_with pass (Raises v) h =
      at_most (met start first (becomes start a pass (Raises v)) bucket) (met start first a bucket) 0
      (same_all (becomes start a pass (Raises v)) refl refl)
  met_with pass (Valued c value) h =
      at_most (met start first (becomes start a pass (Valued c value)) bucket) (met start first a bucket) 0
      (same_all (becomes start a pass (Valued c value)) refl refl)
  met_with pass (Aims c link) h =
      at_most (met start first (becomes start a pass (Aims c link)) bucket) (met start first a bucket) 0
      (same_all (becomes start a pass (Aims c link)) refl refl)
  met_with pass (Confirms call) h =
      at_most (met start first (becomes start a pass (Confirms call)) bucket) (met start first a bucket) 0
      (same_all (becomes start a pass (Confirms call)) refl refl)
  met_with pass (GivesUp c) h =
      at_most (met start first (becomes start a pass (GivesUp c)) bucket) (met start first a bucket) 0
      (by_state (becomes start a pass (GivesUp c)) c GivenUp refl refl (λ i. absurd i))
  met_with pass (Stamps c stamp) h =
      at_most (met start first (becomes start a pass (Stamps c stamp)) bucket) (met start first a bucket) 0
      (by_state (becomes start a pass (Stamps c stamp)) c (Stamped (unlinked_at (a.state c)) stamp) refl refl
      (λ i. stamped_inserted (a.state c) pass stamp a.epoch h))
  met_with pass (Removes c) h =
      at_most (met start first (becomes start a pass (Removes c)) bucket) (met start first a bucket) (0)
      (by_state (becomes start a pass (Removes c)) c Marked refl refl (λ i. rw h tt))
  met_with pass (Unlinks c behind) h =
      at_most (met start first (becomes start a pass (Unlinks c behind)) bucket) (met start first a bucket) (0)
      (by_state (becomes start a pass (Unlinks c behind)) c (Unlinked pass a.epoch) refl refl (λ i. rw h.0 tt))
  met_with pass (Keyed c key) h =
      at_most (met start first (becomes start a pass (Keyed c key)) bucket) (met start first a bucket) 0
      (fewer (becomes start a pass (Keyed c key)) (λ d x. record {
        inserted = x.inserted;
        since = x.since;
        of_bucket = (let P : State → Type 0 = IsInserted in
            let ne : d ≢ c =
            (λ q. (let z : IsInserted (InHand pass) = subst P (ap a.state q ∙ h) x.inserted in absurd z)) in
            ap (bucket_of start.shape) (sym (put_other a.key c key d ne)) ∙ x.of_bucket);
      }))
  met_with pass (Bears v birth) h =
      at_most (met start first (becomes start a pass (Bears v birth)) bucket) (met start first a bucket) 0
      (fewer (becomes start a pass (Bears v birth)) (λ d x.
      let P : State → Type 0 = IsInserted in
      let ne : d ≢ a.count =
      (λ q. (let z : IsInserted (InHand pass) =
      subst P (ap (put a.state a.count (InHand pass)) q ∙ put_here a.state a.count (InHand pass)) x.inserted in
      absurd z)) in
      record {
        inserted = subst P (put_other a.state a.count (InHand pass) d ne) x.inserted;
        since = x.since;
        of_bucket = ap (bucket_of start.shape) (sym (put_other a.key a.count (key_shown a (a.last v)) d ne))
            ∙ x.of_bucket;
      }))
  met_with pass (Inserts c behind) h =
      with_one (becomes start a pass (Inserts c behind)) c refl refl (λ d ne x. record {
        inserted = (let P : State → Type 0 = IsInserted in subst P (put_other a.state c Linked d ne) x.inserted);
        since = x.since;
        of_bucket = x.of_bucket;
      })
  met_with pass (Replaces old c) h = with_one (becomes start a pass (Replaces old c)) c refl refl (λ d ne x. record {
    inserted = (let P : State → Type 0 = IsInserted in
        inserted_put a.state old Marked d (λ i. rw h.linked tt)
        (subst P (put_other (put a.state old Marked) c Linked d ne) x.inserted));
    since = x.since;
    of_bucket = x.of_bucket;
  })

-- what is of another pass counts
of_another : (who pass : ℕ) (q : Bool) → (pass ≡ who → ⊥) → one_if q ≤ one_if (not (pass == who) && q)
of_another who pass q ne = other (pass == who) q (ne_eqb pass who ne)
  where
    other : (p q : Bool) → p ≡ false → one_if q ≤ one_if (not p && q)
    other true q e = absurd (cc)
    other false q e = omega arith

-- where another pass does it, it disturbs; and the pass itself links none
pub comes_less : (start : Start) (a : Incarnations) (bucket who pass : ℕ) (what : Happening) →
    (pass ≡ who → is_insert what ≡ false) →
    one_if (comes start a bucket what) ≤ one_if (not (pass == who) && changes start a bucket what)
unfolding comes
comes_less start a bucket who pass (Inserts c behind) none =
    of_another who pass (bucket_of start.shape (a.key c) == bucket) (λ is. (let z : true ≡ false = none is in cc))
comes_less start a bucket who pass (Replaces old c) none =
    of_another who pass (bucket_of start.shape (a.key c) == bucket) (λ is. (let z : true ≡ false = none is in cc))
comes_less start a bucket who pass Advances none = omega arith
comes_less start a bucket who pass (Gains v) none = omega arith
comes_less start a bucket who pass (Probes v) none = omega arith
comes_less start a bucket who pass (Raises v) none = omega arith
comes_less start a bucket who pass (GivesUp c) none = omega arith
comes_less start a bucket who pass (Bears v birth) none = omega arith
comes_less start a bucket who pass (Keyed c key) none = omega arith
comes_less start a bucket who pass (Valued c value) none = omega arith
comes_less start a bucket who pass (Aims c link) none = omega arith
comes_less start a bucket who pass (Removes c) none = omega arith
comes_less start a bucket who pass (Unlinks c behind) none = omega arith
comes_less start a bucket who pass (Stamps c stamp) none = omega arith
comes_less start a bucket who pass (Confirms call) none = omega arith

-- a pass links nothing by these events
abbrev pub InsertsNone : ℕ → List Entry → Type 0
InsertsNone who entries = AllByRecursion (λ (entry : Entry). entry.pass ≡ who → is_insert entry.what ≡ false) entries

-- a law of chronicles: each node that comes to be met is an event that disturbs a pass which links none itself
pub met_since : (start : Start) (keys : Keys) (first a : Incarnations) (who bucket : ℕ) (entries : List Entry) →
    Sound start a → IsLawful start keys a entries → InsertsNone who entries →
    met start first (incarnations_from start a entries) bucket
    ≤ met start first a bucket + disturbances_in start who bucket a entries
met_since start keys first a who bucket [] s l none = omega arith
met_since start keys first a who bucket (entry ∷ entries) s l none =
    let b = becomes start a entry.pass entry.what in
    let rest = met_since start keys first b who bucket entries (sound_kept start keys a entry.pass entry.what s l.0) l.1
    none.1 in
    let one = met_with start keys first a bucket s entry.pass entry.what l.0 in
    let less = comes_less start a bucket who entry.pass entry.what none.0 in
    omega (arith, rest, one, less)
