-- The balances of handles are added up from the last one on.
use Rattle.vbr_handles.proofs.Names.{◌≡◌, ℕ, zero, suc, ◌+◌, ◌-◌, ◌%◌, ◌^◌, ◌<◌, ◌≤◌, List, drop, length, arith, sym}
use Rattle.vbr_handles.proofs.Names.{ap, ◌∙◌, subst, ℤ, IsSome, Option, None, Some, slice_index_or, w64, false≢true}
use Rattle.vbr_handles.proofs.Names.{added_balances, AreFull, joined, members_by, balance_shown, Fits, drop-cons, to_z}
use Rattle.vbr_handles.proofs.Names.{of_z, Member}
use Rattle.vbr_set.proofs.Lemmas.{one_added}

-- the balance of the member of a handle is added to those of others
balance_added : (shown : Option Member) (members : List Member) (bits : ℕ) (balance : ℤ) → bits < 2 ^ 64 →
    IsSome shown → balance ≡ balance_shown shown → to_z w64 bits ≡ added_balances members →
    to_z w64 ((bits + of_z w64 balance) % 2 ^ 64) ≡ added_balances (joined shown members)
balance_added None members bits balance low some is so_far = absurd (false≢true some)
balance_added (Some m) members bits balance low some is so_far = one_added m members bits balance low is so_far

module _ {H : Type 0} (member : H → Option Member) (handles now : List H) (full : AreFull member handles)
    (same : now ≡ handles) where
  -- a handle that is read is full
  pub read_full : (i : ℕ) (d : H) → 0 < i → i ≤ length handles → IsSome (member (slice_index_or now (i - 1) d))
  read_full i d some within =
      subst (λ (hs : List H). IsSome (member (slice_index_or hs (i - 1) d))) (sym same)
      (full (i - 1) d (omega (arith, some, within)))

  pub added_from : (i : ℕ) (d : H) (bits : ℕ) (balance : ℤ) → 0 < i → i ≤ length handles → Fits w64 bits →
      balance ≡ balance_shown (member (slice_index_or now (i - 1) d)) →
      to_z w64 bits ≡ added_balances (members_by member (drop i handles)) →
      to_z w64 ((bits + of_z w64 balance) % 2 ^ 64) ≡ added_balances (members_by member (drop (i - 1) handles))
  added_from zero d bits balance some within low is so_far = absurd (omega arith)
  added_from (suc k) d bits balance some within low is so_far =
      let before : suc k - 1 ≡ k = omega arith in
      let inside : k < length handles = omega arith in
      let here : H = slice_index_or handles k d in
      let read : slice_index_or now (suc k - 1) d ≡ here = λ i. slice_index_or (same i) (before i) d in
      balance_added (member here) (members_by member (drop (suc k) handles)) bits balance (omega arith)
      (full k d inside) (is ∙ ap (λ (h : H). balance_shown (member h)) read) so_far
      ∙ ap (λ (hs : List H). added_balances (members_by member hs)) (sym (drop-cons handles k d inside))
      ∙ ap (λ (n : ℕ). added_balances (members_by member (drop n handles))) (sym before)
