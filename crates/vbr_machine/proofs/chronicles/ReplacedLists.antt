-- A replacement keeps what holds of the lists.
use Rattle.std.proofs.Common.{◌≡◌, ◌≢◌, ℕ, ◌+◌, ◌<◌, Option, Some, refl, arith, sym, ap, ◌∙◌, inl, inr}
use Rattle.std.specs.Prelude.{◌⊎◌}
use Rattle.std.proofs.lemmas.Bool.Decides.{nat_tests}
use Rattle.std.proofs.lemmas.Bool.{cases_eq}
use Rattle.vbr_machine.specs.Start.{Start}
use Rattle.vbr_machine.specs.Put.{put}
use Rattle.vbr_words.specs.Buckets.{bucket_of}
use Rattle.vbr_machine.specs.Incarnations.{State, Linked, Marked, Incarnations}
use Rattle.vbr_machine.specs.Chronicles.{Replaces, MayTakePlace, becomes}
use Rattle.vbr_machine.specs.Sound.{IsListed, IsApart, ListsSound, Sound}
use Rattle.vbr_machine.proofs.words.Puts.{put_here, put_other}
use Rattle.vbr_machine.proofs.chronicles.Lists.{next_listed}

-- what is listed once c stands in place of old is c, or was listed before
listed_before : (state : ℕ → State) (old c j : ℕ) → state old ≡ Linked → j ≢ c →
    IsListed (put (put state old Marked) c Linked j) → IsListed (state j)
listed_before state old c j h ne l = grind (arith, nat_tests)

-- what stands in place of old is apart from each other one as old was
splits_new : (key rank : ℕ → ℕ) (old c d : ℕ) (n : Option ℕ) → key c ≡ key old → rank c ≡ rank old + 1 →
    ((m : ℕ) → n ≡ Some m → key old < key m) → d ≢ old → IsApart key rank old n d → IsApart key rank c n d
splits_new key rank old c d n e r up ne x = grind arith

-- old is apart from each other one, with the new one as its successor
splits_old : (key rank : ℕ → ℕ) (old c d : ℕ) (n : Option ℕ) → key c ≡ key old → rank c ≡ rank old + 1 →
    ((m : ℕ) → n ≡ Some m → key old < key m) → IsApart key rank old n d → IsApart key rank old (Some c) d
splits_old key rank old c d n e r up x = grind arith

-- and each other one is apart from the new one as from old
splits_other : (key rank : ℕ → ℕ) (old c i : ℕ) (n m : Option ℕ) → key c ≡ key old → rank c ≡ rank old + 1 →
    ((k : ℕ) → n ≡ Some k → key old < key k) → i ≢ old → IsApart key rank i m old → IsApart key rank old n i →
    IsApart key rank i m c
splits_other key rank old c i n m e r up ne x y = grind arith

-- a rank that changes nowhere here leaves two apart
apart_put : (key rank : ℕ → ℕ) (c r i d : ℕ) (n : Option ℕ) → i ≢ c → d ≢ c → ((m : ℕ) → n ≡ Some m → m ≢ c) →
    IsApart key rank i n d → IsApart key (put rank c r) i n d
apart_put key rank c r i d n ni nd nm (inl e) = inl e
apart_put key rank c r i d n ni nd nm (inr (inl x)) =
    inr (inl (rw (put_other rank c r i ni, put_other rank c r d nd) x))
apart_put key rank c r i d n ni nd nm (inr (inr (m, e, x))) =
    inr (inr (m, e, rw (put_other rank c r m (nm m e), put_other rank c r d nd) x))

module _ (start : Start) (a : Incarnations) (pass old c : ℕ) (s : Sound start a)
    (h : MayTakePlace start a pass old c) where
  -- the ranks, the successors and the states after the replacement
  abbrev rank : ℕ → ℕ
  rank = (becomes start a pass (Replaces old c)).rank

  abbrev next : ℕ → Option ℕ
  next = (becomes start a pass (Replaces old c)).next

  abbrev state : ℕ → State
  state = (becomes start a pass (Replaces old c)).state

  -- the new one isn't the old one
  other : old ≢ c
  other e = let x = h.in_hand in let y = h.linked in let z : a.state old ≡ a.state c = ap a.state e in cc

  -- the new one has the rank next to the old one's
  next_rank : rank c ≡ rank old + 1
  next_rank = let o : old ≢ c = other in rw (put_here, put_other) (omega arith)

  apart_new : (i d : ℕ) → IsListed (state i) → IsListed (state d) →
      bucket_of start.shape (a.key i) ≡ bucket_of start.shape (a.key d) → IsApart a.key rank i (next i) d
  apart_new i d li ld q = go (cases_eq i old) (cases_eq i c) (cases_eq d c) (cases_eq d old)
    where
      lo : IsListed (a.state old)
      lo = rw h.linked tt

      up : (m : ℕ) → a.next old ≡ Some m → a.key old < a.key m
      up m e = s.lists.strict old m e h.linked

      not_c : (j : ℕ) → IsListed (a.state j) → j ≢ c
      not_c j l e = let x = h.in_hand in let y : IsListed (a.state c) = rw e at l in grind arith

      was : (j : ℕ) → j ≢ c → IsListed (state j) → IsListed (a.state j)
      was j ne l = listed_before a.state old c j h.linked ne l

      -- two that were listed are apart as they were
      kept : (j k : ℕ) → IsListed (a.state j) → IsListed (a.state k) →
          bucket_of start.shape (a.key j) ≡ bucket_of start.shape (a.key k) → IsApart a.key rank j (a.next j) k
      kept j k lj lk b =
          apart_put a.key a.rank c _ j k (a.next j) (not_c j lj) (not_c k lk) (λ m e. not_c m (next_listed s j m e lj))
          (s.lists.apart j k lj lk b)

      -- the successor of another is as it was
      same_next : (j : ℕ) → j ≢ old → j ≢ c → put (put a.next c (a.next old)) old (Some c) j ≡ a.next j
      same_next j jo nc = put_other (put a.next c (a.next old)) old (Some c) j jo ∙ put_other a.next c (a.next old) j nc

      new_next : put (put a.next c (a.next old)) old (Some c) c ≡ a.next old
      new_next = put_other (put a.next c (a.next old)) old (Some c) c (λ e. other (sym e))
          ∙ put_here a.next c (a.next old)

      of_old : (j : ℕ) → j ≡ c → bucket_of start.shape (a.key j) ≡ bucket_of start.shape (a.key old)
      of_old j e = ap (λ k. bucket_of start.shape (a.key k)) e ∙ ap (bucket_of start.shape) h.same

      go : (i ≡ old) ⊎ (i ≢ old) → (i ≡ c) ⊎ (i ≢ c) → (d ≡ c) ⊎ (d ≢ c) → (d ≡ old) ⊎ (d ≢ old) →
          IsApart a.key rank i (next i) d
      go (inl io) ic (inl dc) od =
          rw (io, put_here (put a.next c (a.next old)) old (Some c))
          (inr (inr (c, refl, rw dc (inr (refl, omega arith)))))
      go (inl io) ic (inr dn) od =
          rw (io, put_here (put a.next c (a.next old)) old (Some c))
          (splits_old a.key rank old c d (a.next old) h.same next_rank up
          (kept old d lo (was d dn ld) (ap (λ k. bucket_of start.shape (a.key k)) (sym io) ∙ q)))
      go (inr io) (inl ic) (inl dc) od = inl (dc ∙ sym ic)
      go (inr io) (inl ic) (inr dn) (inl od) = inr (inl (rw (od, ic) (inr (sym h.same, omega (arith, next_rank)))))
      go (inr io) (inl ic) (inr dn) (inr dm) =
          rw (ic, new_next)
          (splits_new a.key rank old c d (a.next old) h.same next_rank up dm
          (kept old d lo (was d dn ld) (sym (of_old i ic) ∙ q)))
      go (inr io) (inr ic) (inl dc) od =
          let li2 = was i ic li in
          rw (same_next i io ic, dc)
          (splits_other a.key rank old c i (a.next old) (a.next i) h.same next_rank up io
          (kept i old li2 lo (q ∙ of_old d dc)) (kept old i lo li2 (sym (of_old d dc) ∙ sym q)))
      go (inr io) (inr ic) (inr dn) od = rw (same_next i io ic) (kept i d (was i ic li) (was d dn ld) q)

  pub lists_replaces : ListsSound start (becomes start a pass (Replaces old c))
  lists_replaces =
      let held = h.in_hand in
      let linked = h.linked in
      let key = h.same in
      record {
        handed = λ i n e q l.
            let u = s.lists.handed i n e in let x = s.lists.handed old n e in grind (arith, nat_tests);
        inserted = λ i n q. let u = s.lists.inserted i n in let x = s.lists.inserted old n in grind (arith, nat_tests);
        ordered = λ i n q.
            let u = s.lists.ordered i n in
            let v = s.lists.inserted i n in
            let x = s.lists.ordered old n in
            let y = s.lists.strict old n in
            let z = s.lists.inserted old n in
            grind (arith, nat_tests, next_rank);
        strict = λ i n q l. let u = s.lists.strict i n in let y = s.lists.strict old n in grind (arith, nat_tests);
        first_in = λ b n q. let u = s.lists.first_in b n q in grind (arith, nat_tests);
        apart = λ i d li ld q. apart_new i d li ld q;
        behind_head = λ d ld.
            let u = s.lists.behind_head d in
            let x = s.lists.behind_head old in
            let y = s.lists.first_in (bucket_of start.shape (a.key d)) in
            grind (arith, nat_tests);
      }
