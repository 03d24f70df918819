-- In the list of a bucket the keys of linked nodes differ, and none lies between neighbours.
-- What follows a listed incarnation is listed, and no two stand before the same one.
use Rattle.std.proofs.Common.{◌≡◌, ◌≢◌, ℕ, ◌+◌, ◌<◌, ◌≤◌, Option, Some, arith, sym, ap, ◌∙◌, inl, inr}
use Rattle.std.specs.Prelude.{◌⊎◌}
use Rattle.vbr_machine.specs.Start.{Start}
use Rattle.vbr_machine.specs.Put.{put}
use Rattle.vbr_words.specs.Buckets.{bucket_of}
use Rattle.vbr_machine.specs.Incarnations.{State, Linked, Marked, Incarnations}
use Rattle.vbr_machine.specs.Chronicles.{Before, AtHead, AtNode, IsOpen, BelongsBehind, BelongsBefore, next_of}
use Rattle.vbr_machine.specs.Sound.{IsListed, IsOrderedBefore, IsFrom, IsApart, Sound}
use Rattle.vbr_machine.proofs.words.Puts.{put_other}
use Rattle.vbr_machine.proofs.chronicles.Slots.{late_ahead, listed_late}

-- another than the one whose state is set stays listed or not, as it was
pub listed_other : (state : ℕ → State) (c : ℕ) (st : State) (j : ℕ) → j ≢ c → IsListed (put state c st j) →
    IsListed (state j)
listed_other state c st j ne l = rw (put_other state c st j ne) at l

-- the successor of a listed one is listed
pub next_listed : {start : Start} {a : Incarnations} → Sound start a → (c n : ℕ) → a.next c ≡ Some n →
    IsListed (a.state c) → IsListed (a.state n)
next_listed {start} {a} s c n q l =
    late_ahead (a.state n) (a.birth n) a.epoch (s.slots.times n)
    (s.lists.handed c n (a.epoch + 1) q (listed_late (a.state c) (a.epoch + 1) l))

-- no two listed incarnations have the same successor
pub only_before : {start : Start} {a : Incarnations} → Sound start a → (p q c : ℕ) → IsListed (a.state p) →
    IsListed (a.state q) → a.next p ≡ Some c → a.next q ≡ Some c → p ≡ q
only_before {start} {a} s p q c lp lq ep eq =
    let x = s.lists.ordered p c ep in
    let y = s.lists.ordered q c eq in
    let u = s.lists.apart p q lp lq (x.0 ∙ sym y.0) in
    let v = s.lists.apart q p lq lp (y.0 ∙ sym x.0) in
    only (λ j. a.key j) (λ j. a.rank j) p q c (a.next p) (a.next q) ep eq x.1 y.1 u v
  where
    only : (key rank : ℕ → ℕ) (p q c : ℕ) (np nq : Option ℕ) → np ≡ Some c → nq ≡ Some c →
        IsOrderedBefore key rank p c → IsOrderedBefore key rank q c → IsApart key rank p np q →
        IsApart key rank q nq p → p ≡ q
    only key rank p q c np nq ep eq x y u v = grind arith

-- the first of a bucket follows no listed incarnation
pub not_first : {start : Start} {a : Incarnations} → Sound start a → (b q c : ℕ) → IsListed (a.state q) →
    a.first b ≡ Some c → a.next q ≡ Some c → ⊥
not_first {start} {a} s b q c lq ef eq =
    let x = s.lists.ordered q c eq in
    let y = s.lists.first_in b c ef in
    let u = s.lists.behind_head q lq in
    no (a.first (bucket_of start.shape (a.key q))) u.0 u.1 u.2 (ap a.first (x.0 ∙ y.1) ∙ ef) x.1
  where
    no : (f : Option ℕ) (n : ℕ) → f ≡ Some n → (a.key n < a.key q) ⊎ ((a.key n ≡ a.key q) × (a.rank n ≤ a.rank q)) →
        f ≡ Some c → IsOrderedBefore a.key a.rank q c → ⊥
    no f n e le g lt = grind arith

-- against a linked one, another listed one of its key has a smaller rank
pub lower_rank : {start : Start} {a : Incarnations} → Sound start a → (c d : ℕ) → a.state c ≡ Linked →
    IsListed (a.state d) → a.key c ≡ a.key d → (d ≡ c) ⊎ (a.rank d < a.rank c)
lower_rank {start} {a} s c d h ld e =
    lower (a.next c) (s.lists.apart c d (rw h tt) ld (ap (bucket_of start.shape) e)) (λ n q. s.lists.strict c n q h)
  where
    lower : (n : Option ℕ) → IsApart a.key a.rank c n d → ((m : ℕ) → n ≡ Some m → a.key c < a.key m) →
        (d ≡ c) ⊎ (a.rank d < a.rank c)
    lower n u v = grind arith

-- two linked incarnations have different keys
pub keys_differ : {start : Start} {a : Incarnations} → Sound start a → (c d : ℕ) → a.state c ≡ Linked →
    a.state d ≡ Linked → a.key c ≡ a.key d → c ≡ d
keys_differ {start} {a} s c d h k e = same (lower_rank s c d h (rw k tt) e) (lower_rank s d c k (rw h tt) (sym e))
  where
    same : (d ≡ c) ⊎ (a.rank d < a.rank c) → (c ≡ d) ⊎ (a.rank c < a.rank d) → c ≡ d
    same u v = grind arith

-- two listed ones of the same key and rank are one
pub places_differ : {start : Start} {a : Incarnations} → Sound start a → (c d : ℕ) → IsListed (a.state c) →
    IsListed (a.state d) → a.key c ≡ a.key d → a.rank c ≡ a.rank d → c ≡ d
places_differ {start} {a} s c d lc ld e r =
    same (a.next c) (s.lists.apart c d lc ld (ap (bucket_of start.shape) e)) (λ n q. (s.lists.ordered c n q).1)
  where
    same : (n : Option ℕ) → IsApart a.key a.rank c n d → ((m : ℕ) → n ≡ Some m → IsOrderedBefore a.key a.rank c m) →
        c ≡ d
    same n u v = grind arith

-- a marked one whose key a linked one has was replaced: its successor has the key too
pub next_has_key : {start : Start} {a : Incarnations} → Sound start a → (c d : ℕ) → a.state c ≡ Linked →
    a.state d ≡ Marked → a.key d ≡ a.key c → (n : ℕ) × (a.next d ≡ Some n) × (a.key n ≡ a.key c)
next_has_key {start} {a} s c d h m e =
    go (s.lists.apart d c (rw m tt) (rw h tt) (ap (bucket_of start.shape) e)) (lower_rank s c d h (rw m tt) (sym e))
  where
    up_to : (n : ℕ) → IsOrderedBefore a.key a.rank d n →
        (a.key n < a.key c) ⊎ ((a.key n ≡ a.key c) × (a.rank n ≤ a.rank c)) → a.key n ≡ a.key c
    up_to n o le = grind arith

    go : IsApart a.key a.rank d (a.next d) c → (d ≡ c) ⊎ (a.rank d < a.rank c) →
        (n : ℕ) × (a.next d ≡ Some n) × (a.key n ≡ a.key c)
    go u (inl is) = absurd (let x : Marked ≡ Linked = sym m ∙ ap a.state is ∙ h in cc)
    go (inl is) (inr low) = absurd (let x : Marked ≡ Linked = sym m ∙ ap a.state (sym is) ∙ h in cc)
    go (inr (inl ahead)) (inr low) = absurd (grind arith)
    go (inr (inr (n, q, le))) (inr low) = (n, q, up_to n (s.lists.ordered d n q).1 le)

-- what stands behind an open place doesn't stand ahead of what follows it
pub up_to_next : {start : Start} {a : Incarnations} → Sound start a → (behind : Before) (d : ℕ) → IsOpen a behind →
    BelongsBehind start a behind (a.key d) → IsListed (a.state d) → IsFrom a.key a.rank (next_of a behind) d
up_to_next {start} {a} s (AtHead b) d o f l = let u = s.lists.behind_head d l in (u.0, ap a.first (sym f) ∙ u.1, u.2)
up_to_next {start} {a} s (AtNode p) d o f l = go (s.lists.apart p d (rw o tt) l (sym f.0))
  where
    go : IsApart a.key a.rank p (a.next p) d → IsFrom a.key a.rank (a.next p) d
    go (inl e) = absurd (let u = f.1 in let v : a.key d ≡ a.key p = ap a.key e in omega arith)
    go (inr (inl ahead)) = absurd (let u = f.1 in grind arith)
    go (inr (inr u)) = u

-- between an open place and what follows it there is no key
pub no_key_between : {start : Start} {a : Incarnations} → Sound start a → (behind : Before) (key : ℕ) →
    IsOpen a behind → BelongsBehind start a behind key → BelongsBefore a key (next_of a behind) → (d : ℕ) →
    IsListed (a.state d) → a.key d ≡ key → ⊥
no_key_between {start} {a} s (AtHead b) key o f g d l e =
    let u = s.lists.behind_head d l in
    no (a.first (bucket_of start.shape (a.key d))) u.0 u.1 u.2
    (rw (ap (λ x. a.first (bucket_of start.shape x)) e ∙ ap a.first f) g)
  where
    no : (n : Option ℕ) (m : ℕ) → n ≡ Some m → (a.key m < a.key d) ⊎ ((a.key m ≡ a.key d) × (a.rank m ≤ a.rank d)) →
        BelongsBefore a key n → ⊥
    no n m q le h = grind arith
no_key_between {start} {a} s (AtNode p) key o f g d l e =
    let u = s.lists.apart p d (rw o tt) l (sym f.0 ∙ ap (bucket_of start.shape) (sym e)) in no (a.next p) f.1 g u
  where
    no : (n : Option ℕ) → a.key p < key → BelongsBefore a key n → IsApart a.key a.rank p n d → ⊥
    no n lt b u = grind arith
