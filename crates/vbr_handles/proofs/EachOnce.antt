-- Passes are counted among handles, by their numbers, part for part.
use Rattle.vbr_handles.proofs.Names.{◌≡◌, ◌≢◌, ℕ, ◌+◌, ◌/◌, ◌%◌, ◌<◌, ◌≤◌, Bool, true, false, cond, List, [], ◌∷◌}
use Rattle.vbr_handles.proofs.Names.{length, refl, sym, ap, ◌∙◌, subst, arith, ◌⊎◌, inl, inr, take, IsSome, Option}
use Rattle.vbr_handles.proofs.Names.{None, Some, slice_index_or, slice_set, eqb-true, false≢true, ltb-false, ltb-true}
use Rattle.vbr_handles.proofs.Names.{set-get_or, All-head, All-tail, AreFull, joined, members_by, HasTwice}
use Rattle.vbr_handles.proofs.Names.{number_shown, borne, ◌==◌, count_by, cases_Bool, eq-eqb, Member}
use Rattle.std.proofs.Math.Dec.{ltb}
use Rattle.std.proofs.lemmas.List.Sums.{count_by_more_no, count_by_more_yes, sum_by-cons, sum_by-take-le}

unequal : (a b : ℕ) → a ≢ b → (a == b) ≡ false
unequal a b differ = go (cases_Bool (a == b))
  where
    go : ((a == b) ≡ true) ⊎ ((a == b) ≡ false) → (a == b) ≡ false
    go (inl same) = absurd (differ (eqb-true a b same))
    go (inr is) = is

module _ {H : Type 0} (member : H → Option Member) where
  -- full handles have a pass as often as their members
  pub same_times : (handles : List H) (who : ℕ) → AreFull member handles →
      borne member handles who ≡ count_by (λ m. m.pass.trace.who == who) (members_by member handles)
  same_times [] who full = refl
  same_times (h ∷ hs) who full =
      go (same_times hs who (All-tail (λ (h : H). IsSome (member h)) h hs full)) (member h) refl
      (All-head (λ (h : H). IsSome (member h)) h hs full)
    where
      own : Member → ℕ
      own m = cond (m.pass.trace.who == who) 1 0

      go : borne member hs who ≡ count_by (λ m. m.pass.trace.who == who) (members_by member hs) →
          (o : Option Member) → member h ≡ o → IsSome o →
          borne member (h ∷ hs) who ≡ count_by (λ m. m.pass.trace.who == who) (members_by member (h ∷ hs))
      go rest None is some = absurd (false≢true some)
      go rest (Some m) is some =
          sum_by-cons (λ (x : H). cond (number_shown (member x) == who) 1 0) h hs
          ∙ ap (λ (o : Option Member). cond (number_shown o == who) 1 0 + borne member hs who) is
          ∙ ap (λ (n : ℕ). cond (m.pass.trace.who == who) 1 0 + n) rest
          ∙ sym (sum_by-cons (λ (x : Member). cond (x.pass.trace.who == who) 1 0) m (members_by member hs))
          ∙ sym (ap (λ (o : Option Member). count_by (λ x. x.pass.trace.who == who) (joined o (members_by member hs)))
          is)

  module _ (handles : List H) where
    -- a handle that is read comes back as it was
    pub same_again : (now : List H) (i : ℕ) (d h : H) → now ≡ handles → h ≡ slice_index_or now i d →
        slice_set now i h ≡ handles
    same_again now i d h same is = ap (slice_set now i) is ∙ set-get_or now i d ∙ same

    -- the first k handles have the passes of a part once where they are marked, and else not
    abbrev pub Marks : ℕ → List Bool → ℕ → Type 0
    Marks part seen k =
        (who : ℕ) → who / 4096 ≡ part →
        borne member (take k handles) who ≡ cond (slice_index_or seen (who % 4096) false) 1 0

    module _ (now : List H) (same : now ≡ handles) (i : ℕ) (d : H) (n : ℕ) (low : i < length now)
        (shown : n ≡ number_shown (member (slice_index_or now i d))) where
      within : i < length handles
      within = subst (λ (hs : List H). i < length hs) same low

      -- its number is that of the handle at its place
      is : number_shown (member (slice_index_or handles i d)) ≡ n
      is = sym (shown ∙ ap (λ (hs : List H). number_shown (member (slice_index_or hs i d))) same)

      more : borne member (take (i + 1) handles) n ≡ borne member (take i handles) n + 1
      more = count_by_more_yes (λ (h : H). number_shown (member h) == n) handles i d within (eq-eqb _ n is)

      no_more : (who : ℕ) → n ≢ who → borne member (take (i + 1) handles) who ≡ borne member (take i handles) who
      no_more who differ =
          count_by_more_no (λ (h : H). number_shown (member h) == who) handles i d within
          (unequal _ who (λ alike. differ (sym is ∙ alike)))

      -- a number that is greater than those so far, and than this one, is still that of none
      pub still_none : (who : ℕ) → n < who → borne member (take i handles) who ≡ 0 →
          borne member (take (i + 1) handles) who ≡ 0
      still_none who above none = no_more who (λ alike. absurd (omega arith)) ∙ none

      -- one that is marked comes twice
      pub comes_twice : (part : ℕ) (seen : List Bool) → AreFull member handles → Marks part seen i → n / 4096 ≡ part →
          slice_index_or seen (n % 4096) false ≡ true → HasTwice (members_by member handles)
      comes_twice part seen full marks here marked =
          let before : borne member (take i handles) n ≡ 1 = marks n here ∙ ap (λ (b : Bool). cond b 1 0) marked in
          let after = more in
          let all : borne member (take (i + 1) handles) n ≤ borne member handles n =
          sum_by-take-le (λ (h : H). cond (number_shown (member h) == n) 1 0) handles (i + 1) in
          let times = same_times handles n full in
          (n, omega (arith, before, after, all, times))

    -- no pass comes twice, where none of a part does that comes at all
    pub none_twice : (greatest : ℕ) → AreFull member handles →
        ((who : ℕ) → greatest < who → borne member handles who ≡ 0) →
        ((who : ℕ) → who / 4096 < greatest / 4096 + 1 → borne member handles who ≤ 1) →
        ¬ (HasTwice (members_by member handles))
    none_twice greatest full none once twice =
        go twice.0 (subst (λ (n : ℕ). 1 < n) (sym (same_times handles twice.0 full)) twice.1)
        (cases_Bool (ltb (twice.0 / 4096) (greatest / 4096 + 1)))
      where
        go : (who : ℕ) → 1 < borne member handles who →
            (ltb (who / 4096) (greatest / 4096 + 1) ≡ true) ⊎ (ltb (who / 4096) (greatest / 4096 + 1) ≡ false) → ⊥
        go who often (inl low) =
            let few = once who (ltb-true _ _ low) in omega (arith, often, few)
        go who often (inr high) =
            let above = ltb-false _ _ high in
            let none_there = none who (omega (arith, above)) in
            omega (arith, often, none_there)
