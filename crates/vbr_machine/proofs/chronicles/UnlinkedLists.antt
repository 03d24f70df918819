-- An unlinking keeps what holds of the lists: behind a head, and behind a linked incarnation.
use Rattle.std.proofs.Common.{◌≡◌, ◌≢◌, ℕ, ◌<◌, ◌≤◌, Option, Some, arith, sym, ap, ◌∙◌, inl, inr}
use Rattle.std.specs.Prelude.{◌⊎◌}
use Rattle.std.proofs.lemmas.Bool.Decides.{nat_tests}
use Rattle.std.proofs.lemmas.Bool.{cases_eq}
use Rattle.vbr_machine.specs.Start.{Start}
use Rattle.vbr_machine.specs.Put.{put}
use Rattle.vbr_machine.specs.Keys.{Keys}
use Rattle.vbr_words.specs.Buckets.{bucket_of}
use Rattle.vbr_machine.specs.Incarnations.{Unlinked, Incarnations}
use Rattle.vbr_machine.specs.Chronicles.{Unlinks, AtHead, AtNode, Allowed, becomes}
use Rattle.vbr_machine.specs.Sound.{IsListed, IsOrderedBefore, IsFrom, IsApart, ListsSound, Sound}
use Rattle.vbr_machine.proofs.words.Puts.{put_here, put_other}
use Rattle.vbr_machine.proofs.chronicles.ListsAfter.{listed_still}
use Rattle.vbr_machine.proofs.chronicles.Lists.{listed_other, next_listed, only_before, not_first}

-- with the first of a bucket gone, what stood behind it stands behind its successor
behind_next : (start : Start) (keys : Keys) (a : Incarnations) (pass c b : ℕ) → Sound start a →
    Allowed start keys a pass (Unlinks c (AtHead b)) → (d : ℕ) → IsListed (put a.state c (Unlinked pass a.epoch) d) →
    IsFrom a.key a.rank (put a.first b (a.next c) (bucket_of start.shape (a.key d))) d
behind_next start keys a pass c b s h d ld = go (cases_eq (bucket_of start.shape (a.key d)) b)
  where
    was : IsListed (a.state d)
    was = listed_still a.state c (Unlinked pass a.epoch) d (λ z. z) ld

    other : d ≢ c
    other e =
        let gone : IsListed (Unlinked pass a.epoch) = rw (e, put_here a.state c (Unlinked pass a.epoch)) at ld in gone

    past : IsApart a.key a.rank c (a.next c) d → (n : ℕ) → n ≡ c →
        (a.key n < a.key d) ⊎ ((a.key n ≡ a.key d) × (a.rank n ≤ a.rank d)) → IsFrom a.key a.rank (a.next c) d
    past (inl e) n is le = absurd (other e)
    past (inr (inl ahead)) n is le = absurd (grind arith)
    past (inr (inr from)) n is le = from

    go : (bucket_of start.shape (a.key d) ≡ b) ⊎ (bucket_of start.shape (a.key d) ≢ b) →
        IsFrom a.key a.rank (put a.first b (a.next c) (bucket_of start.shape (a.key d))) d
    go (inl k) =
        let u = s.lists.behind_head d was in
        let is : Some u.0 ≡ Some c = sym u.1 ∙ ap a.first k ∙ h.2 in
        let f = s.lists.first_in b c h.2 in
        rw (k, put_here a.first b (a.next c)) (past (s.lists.apart c d f.0 was (f.1 ∙ sym k)) u.0 (cc) u.2)
    go (inr k) =
        let u = s.lists.behind_head d was in
        (u.0, put_other a.first b (a.next c) (bucket_of start.shape (a.key d)) k ∙ u.1, u.2)

pub lists_unlinks_at_head : (start : Start) (keys : Keys) (a : Incarnations) (pass c b : ℕ) → Sound start a →
    Allowed start keys a pass (Unlinks c (AtHead b)) → ListsSound start (becomes start a pass (Unlinks c (AtHead b)))
lists_unlinks_at_head start keys a pass c b s h =
    let marked = h.0 in
    let alone = λ (q : ℕ) (lq : IsListed (a.state q)). not_first s b q c lq h.2 in
    record {
      handed = λ i n e q l.
          let u = s.lists.handed i n e in let x = s.slots.times i in let y = alone i in grind (arith, nat_tests);
      inserted = λ i n q. let u = s.lists.inserted i n in grind (arith, nat_tests);
      ordered = s.lists.ordered;
      strict = λ i n q l. let u = s.lists.strict i n q in grind (arith, nat_tests);
      first_in = λ k n q.
          let u = s.lists.first_in k n in
          let x = next_listed s c n in
          let y = s.lists.ordered c n in
          let z = s.lists.first_in b c h.2 in
          let zz = s.lists.first_in k c in
          grind (arith, nat_tests);
      apart = λ i d li ld q.
          s.lists.apart i d (listed_still a.state c (Unlinked pass a.epoch) i (λ z. z) li)
          (listed_still a.state c (Unlinked pass a.epoch) d (λ z. z) ld) q;
      behind_head = λ d ld. behind_next start keys a pass c b s h d ld;
    }

-- with c gone from behind p, what p and c split is split by p alone
splits_gone : (key rank : ℕ → ℕ) (c p d : ℕ) (n : Option ℕ) → d ≢ c → IsOrderedBefore key rank p c →
    IsApart key rank p (Some c) d → IsApart key rank c n d → IsApart key rank p n d
splits_gone key rank c p d n ne lt x y = grind arith

apart_unlinked : (start : Start) (keys : Keys) (a : Incarnations) (pass c p : ℕ) → Sound start a →
    Allowed start keys a pass (Unlinks c (AtNode p)) → (i d : ℕ) → IsListed (put a.state c (Unlinked pass a.epoch) i) →
    IsListed (put a.state c (Unlinked pass a.epoch) d) →
    bucket_of start.shape (a.key i) ≡ bucket_of start.shape (a.key d) →
    IsApart a.key a.rank i (put a.next p (a.next c) i) d
apart_unlinked start keys a pass c p s h i d li ld q = go (cases_eq i p) (cases_eq i c) (cases_eq d c)
  where
    lp : IsListed (a.state p)
    lp = rw h.1 tt

    lc : IsListed (a.state c)
    lc = rw h.0 tt

    o : (bucket_of start.shape (a.key p) ≡ bucket_of start.shape (a.key c)) × IsOrderedBefore a.key a.rank p c
    o = s.lists.ordered p c h.2

    gone : (j : ℕ) → j ≡ c → IsListed (put a.state c (Unlinked pass a.epoch) j) → ⊥
    gone j e l = rw (e, put_here a.state c (Unlinked pass a.epoch)) at l

    go : (i ≡ p) ⊎ (i ≢ p) → (i ≡ c) ⊎ (i ≢ c) → (d ≡ c) ⊎ (d ≢ c) →
        IsApart a.key a.rank i (put a.next p (a.next c) i) d
    go ip (inl ic) dc = absurd (gone i ic li)
    go ip (inr ic) (inl dc) = absurd (gone d dc ld)
    go (inl ip) (inr ic) (inr dn) =
        let ld2 = listed_other a.state c (Unlinked pass a.epoch) d dn ld in
        let qp : bucket_of start.shape (a.key p) ≡ bucket_of start.shape (a.key d) =
        ap (λ k. bucket_of start.shape (a.key k)) (sym ip) ∙ q in
        rw (ip, put_here a.next p (a.next c))
        (splits_gone a.key a.rank c p d (a.next c) dn o.1 (rw h.2 at (s.lists.apart p d lp ld2 qp))
        (s.lists.apart c d lc ld2 (sym o.0 ∙ qp)))
    go (inr ip) (inr ic) (inr dn) = rw (put_other a.next p (a.next c) i ip)
        (s.lists.apart i d (listed_other a.state c (Unlinked pass a.epoch) i ic li)
        (listed_other a.state c (Unlinked pass a.epoch) d dn ld) q)

pub lists_unlinks_at_node : (start : Start) (keys : Keys) (a : Incarnations) (pass c p : ℕ) → Sound start a →
    Allowed start keys a pass (Unlinks c (AtNode p)) → ListsSound start (becomes start a pass (Unlinks c (AtNode p)))
lists_unlinks_at_node start keys a pass c p s h =
    let marked = h.0 in
    let before = h.1 in
    let alone = λ (q : ℕ) (lq : IsListed (a.state q)). only_before s p q c (rw h.1 tt) lq h.2 in
    record {
      handed = λ i n e q l.
          let u = s.lists.handed i n e in
          let x = s.slots.times i in
          let y = alone i in
          let z = s.lists.handed c n e in
          grind (arith, nat_tests);
      inserted = λ i n q. let u = s.lists.inserted i n in let x = s.lists.inserted c n in grind (arith, nat_tests);
      ordered = λ i n q.
          let u = s.lists.ordered i n in
          let x = s.lists.ordered c n in
          let y = s.lists.ordered p c h.2 in
          grind (arith, nat_tests);
      strict = λ i n q l.
          let u = s.lists.strict i n in
          let x = s.lists.ordered c n in
          let y = s.lists.strict p c h.2 h.1 in
          grind (arith, nat_tests);
      first_in = λ k n q.
          let u = s.lists.first_in k n in let x = not_first s k p c (rw h.1 tt) in grind (arith, nat_tests);
      apart = λ i d li ld q. apart_unlinked start keys a pass c p s h i d li ld q;
      behind_head = λ d ld.
          let u = s.lists.behind_head d in
          let x = not_first s (bucket_of start.shape (a.key d)) p c (rw h.1 tt) in
          grind (arith, nat_tests);
    }
