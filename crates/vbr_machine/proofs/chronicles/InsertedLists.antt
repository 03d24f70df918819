-- An insert keeps what holds of the lists: behind a head, and behind a linked incarnation.
use Rattle.std.proofs.Common.{◌≡◌, ◌≢◌, ℕ, ◌<◌, ◌≤◌, Option, Some, arith, sym, ap, ◌∙◌, inl, inr}
use Rattle.std.specs.Prelude.{◌⊎◌}
use Rattle.std.proofs.lemmas.Bool.Decides.{nat_tests}
use Rattle.std.proofs.lemmas.Bool.{cases_eq}
use Rattle.vbr_machine.specs.Start.{Start}
use Rattle.vbr_machine.specs.Put.{put}
use Rattle.vbr_words.specs.Buckets.{bucket_of}
use Rattle.vbr_machine.specs.Incarnations.{Linked, Incarnations}
use Rattle.vbr_machine.specs.Chronicles.{Inserts, AtHead, AtNode, BelongsBefore, MayInsert, becomes}
use Rattle.vbr_machine.specs.Sound.{IsListed, IsFrom, IsApart, ListsSound, Sound}
use Rattle.vbr_machine.proofs.words.Puts.{put_here, put_other}
use Rattle.vbr_machine.proofs.chronicles.Slots.{listed_late}
use Rattle.vbr_machine.proofs.chronicles.Lists.{listed_other}

module _ (start : Start) (a : Incarnations) (pass c b : ℕ) (s : Sound start a)
    (h : MayInsert start a pass c (AtHead b)) where
  -- what is from the former first of the bucket is from the new one
  from_new : (d n : ℕ) → a.first b ≡ Some n → (a.key n < a.key d) ⊎ ((a.key n ≡ a.key d) × (a.rank n ≤ a.rank d)) →
      a.key c < a.key d
  from_new d n e le = let below = h.below in grind arith

  apart_at_head : (i d : ℕ) → IsListed (put a.state c Linked i) → IsListed (put a.state c Linked d) →
      bucket_of start.shape (a.key i) ≡ bucket_of start.shape (a.key d) →
      IsApart a.key a.rank i (put a.next c (a.first b) i) d
  apart_at_head i d li ld q = go (cases_eq i c) (cases_eq d c)
    where
      go : (i ≡ c) ⊎ (i ≢ c) → (d ≡ c) ⊎ (d ≢ c) → IsApart a.key a.rank i (put a.next c (a.first b) i) d
      go (inl ic) (inl dc) = inl (dc ∙ sym ic)
      go (inl ic) (inr dn) =
          let in_b : bucket_of start.shape (a.key d) ≡ b =
          sym q ∙ ap (λ k. bucket_of start.shape (a.key k)) ic ∙ h.above in
          let u = s.lists.behind_head d (listed_other a.state c Linked d dn ld) in
          rw (ic, put_here a.next c (a.first b)) (inr (inr (u.0, ap a.first (sym in_b) ∙ u.1, u.2)))
      go (inr ni) (inl dc) =
          let in_b : bucket_of start.shape (a.key i) ≡ b = q ∙ ap (λ k. bucket_of start.shape (a.key k)) dc ∙ h.above in
          let u = s.lists.behind_head i (listed_other a.state c Linked i ni li) in
          rw dc (inr (inl (inl (from_new i u.0 (ap a.first (sym in_b) ∙ u.1) u.2))))
      go (inr ni) (inr dn) =
          rw (put_other a.next c (a.first b) i ni)
          (s.lists.apart i d (listed_other a.state c Linked i ni li) (listed_other a.state c Linked d dn ld) q)

  behind_new_head : (d : ℕ) → IsListed (put a.state c Linked d) →
      IsFrom a.key a.rank (put a.first b (Some c) (bucket_of start.shape (a.key d))) d
  behind_new_head d ld = go (cases_eq d c) (cases_eq (bucket_of start.shape (a.key d)) b)
    where
      go : (d ≡ c) ⊎ (d ≢ c) → (bucket_of start.shape (a.key d) ≡ b) ⊎ (bucket_of start.shape (a.key d) ≢ b) →
          IsFrom a.key a.rank (put a.first b (Some c) (bucket_of start.shape (a.key d))) d
      go (inl dc) k = (
        c,
        ap (λ j. put a.first b (Some c) (bucket_of start.shape (a.key j))) dc
            ∙ ap (put a.first b (Some c)) h.above ∙ put_here a.first b (Some c),
        inr (ap a.key (sym dc), rw dc (omega arith)),
      )
      go (inr dn) (inl k) =
          let u = s.lists.behind_head d (listed_other a.state c Linked d dn ld) in (
            c,
            ap (put a.first b (Some c)) k ∙ put_here a.first b (Some c),
            inl (from_new d u.0 (ap a.first (sym k) ∙ u.1) u.2),
          )
      go (inr dn) (inr k) =
          let u = s.lists.behind_head d (listed_other a.state c Linked d dn ld) in
          (u.0, put_other a.first b (Some c) (bucket_of start.shape (a.key d)) k ∙ u.1, u.2)

pub lists_inserts_at_head : (start : Start) (a : Incarnations) (pass c b : ℕ) → Sound start a →
    MayInsert start a pass c (AtHead b) → ListsSound start (becomes start a pass (Inserts c (AtHead b)))
lists_inserts_at_head start a pass c b s h =
    let below = h.below in
    record {
      handed = λ i n e q l.
          let u = s.lists.handed i n e in
          let x = s.lists.first_in b n in
          let y = listed_late (a.state n) e in
          grind (arith, nat_tests);
      inserted = λ i n q. let u = s.lists.inserted i n in let x = s.lists.first_in b n in grind (arith, nat_tests);
      ordered = λ i n q. let u = s.lists.ordered i n in let x = s.lists.first_in b n in grind (arith, nat_tests);
      strict = λ i n q l. let u = s.lists.strict i n in grind (arith, nat_tests);
      first_in = λ k n q. let u = s.lists.first_in k n in grind (arith, nat_tests);
      apart = λ i d li ld q. apart_at_head start a pass c b s h i d li ld q;
      behind_head = λ d ld. behind_new_head start a pass c b s h d ld;
    }

-- the new one, put between p and what followed p, splits what p split
splits_new : (key rank : ℕ → ℕ) (c p d : ℕ) (n : Option ℕ) → key p < key c → IsApart key rank p n d →
    IsApart key rank c n d
splits_new key rank c p d n lt x = grind arith

splits_before : (key rank : ℕ → ℕ) (c p d : ℕ) (n : Option ℕ) → ((m : ℕ) → n ≡ Some m → key c < key m) →
    IsApart key rank p n d → IsApart key rank p (Some c) d
splits_before key rank c p d n lt x = grind arith

splits_other : (key rank : ℕ → ℕ) (c p i : ℕ) (n m : Option ℕ) → i ≢ p → key p < key c →
    ((m : ℕ) → n ≡ Some m → key c < key m) → IsApart key rank i m p → IsApart key rank p n i → IsApart key rank i m c
splits_other key rank c p i n m ne lt b x y = grind arith

below_at : (a : Incarnations) (key : ℕ) (n : Option ℕ) → BelongsBefore a key n → (m : ℕ) → n ≡ Some m → key < a.key m
below_at a key n h m e = grind arith

apart_inserted : (start : Start) (a : Incarnations) (pass c p : ℕ) → Sound start a →
    MayInsert start a pass c (AtNode p) → (i d : ℕ) → IsListed (put a.state c Linked i) →
    IsListed (put a.state c Linked d) → bucket_of start.shape (a.key i) ≡ bucket_of start.shape (a.key d) →
    IsApart a.key a.rank i (put (put a.next c (a.next p)) p (Some c) i) d
apart_inserted start a pass c p s h i d li ld q = go (cases_eq i p) (cases_eq i c) (cases_eq d c)
  where
    below : (m : ℕ) → a.next p ≡ Some m → a.key c < a.key m
    below = below_at a (a.key c) (a.next p) h.below

    lp : IsListed (a.state p)
    lp = rw h.is_open tt

    same : (j : ℕ) → j ≡ c → bucket_of start.shape (a.key p) ≡ bucket_of start.shape (a.key j)
    same j e = rw e (sym h.above.0)

    go : (i ≡ p) ⊎ (i ≢ p) → (i ≡ c) ⊎ (i ≢ c) → (d ≡ c) ⊎ (d ≢ c) →
        IsApart a.key a.rank i (put (put a.next c (a.next p)) p (Some c) i) d
    go (inl ip) ic (inl dc) =
        let e = put_here (put a.next c (a.next p)) p (Some c) in
        let e2 = ap (put (put a.next c (a.next p)) p (Some c)) ip in
        inr (inr (c, e2 ∙ e, inr (ap a.key (sym dc), rw dc (omega arith))))
    go (inl ip) ic (inr dn) =
        rw (ip, put_here (put a.next c (a.next p)) p (Some c))
        (splits_before a.key a.rank c p d (a.next p) below
        (s.lists.apart p d lp (listed_other a.state c Linked d dn ld)
        (ap (λ k. bucket_of start.shape (a.key k)) (sym ip) ∙ q)))
    go (inr ip) (inl ic) (inl dc) = inl (dc ∙ sym ic)
    go (inr ip) (inl ic) (inr dn) =
        rw (put_other (put a.next c (a.next p)) p (Some c) i ip, ic, put_here a.next c (a.next p))
        (splits_new a.key a.rank c p d (a.next p) h.above.1
        (s.lists.apart p d lp (listed_other a.state c Linked d dn ld) (same i ic ∙ q)))
    go (inr ip) (inr ic) (inl dc) =
        rw (put_other (put a.next c (a.next p)) p (Some c) i ip, put_other a.next c (a.next p) i ic, dc)
        (let li2 = listed_other a.state c Linked i ic li in
        splits_other a.key a.rank c p i (a.next p) (a.next i) ip h.above.1 below
        (s.lists.apart i p li2 lp (q ∙ sym (same d dc))) (s.lists.apart p i lp li2 (same d dc ∙ sym q)))
    go (inr ip) (inr ic) (inr dn) =
        rw (put_other (put a.next c (a.next p)) p (Some c) i ip, put_other a.next c (a.next p) i ic)
        (s.lists.apart i d (listed_other a.state c Linked i ic li) (listed_other a.state c Linked d dn ld) q)

behind_same_head : (start : Start) (a : Incarnations) (pass c p : ℕ) → Sound start a →
    MayInsert start a pass c (AtNode p) → (d : ℕ) → IsListed (put a.state c Linked d) →
    IsFrom a.key a.rank (a.first (bucket_of start.shape (a.key d))) d
behind_same_head start a pass c p s h d ld = go (cases_eq d c)
  where
    above : (n : ℕ) → (a.key n < a.key p) ⊎ ((a.key n ≡ a.key p) × (a.rank n ≤ a.rank p)) → a.key n < a.key c
    above n le = let up = h.above.1 in grind arith

    go : (d ≡ c) ⊎ (d ≢ c) → IsFrom a.key a.rank (a.first (bucket_of start.shape (a.key d))) d
    go (inl dc) =
        let u = s.lists.behind_head p (rw h.is_open tt) in rw dc (u.0, ap a.first h.above.0 ∙ u.1, inl (above u.0 u.2))
    go (inr dn) = s.lists.behind_head d (listed_other a.state c Linked d dn ld)

pub lists_inserts_at_node : (start : Start) (a : Incarnations) (pass c p : ℕ) → Sound start a →
    MayInsert start a pass c (AtNode p) → ListsSound start (becomes start a pass (Inserts c (AtNode p)))
lists_inserts_at_node start a pass c p s h =
    let held = h.in_hand in
    let before = h.is_open in
    let above = h.above in
    let below = h.below in
    record {
      handed = λ i n e q l. let u = s.lists.handed i n e in let x = s.lists.handed p n e in grind (arith, nat_tests);
      inserted = λ i n q. let u = s.lists.inserted i n in let x = s.lists.inserted p n in grind (arith, nat_tests);
      ordered = λ i n q.
          let u = s.lists.ordered i n in
          let x = s.lists.ordered p n in
          let y = below_at a (a.key c) (a.next p) h.below n in
          grind (arith, nat_tests);
      strict = λ i n q l.
          let u = s.lists.strict i n in let y = below_at a (a.key c) (a.next p) h.below n in grind (arith, nat_tests);
      first_in = λ k n q. let u = s.lists.first_in k n in grind (arith, nat_tests);
      apart = λ i d li ld q. apart_inserted start a pass c p s h i d li ld q;
      behind_head = λ d ld. behind_same_head start a pass c p s h d ld;
    }
