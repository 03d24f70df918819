-- A search along the checked marked links, turn by turn.
use Rattle.std.proofs.Common.{◌≡◌, ℕ, zero, suc, ◌+◌, ◌<◌, ◌≤◌, true, List, Option, Some, None, refl, arith, sym, subst}
use Rattle.std.proofs.Common.{ap, ◌∙◌, inl, inr}
use Rattle.std.specs.Prelude.{◌⊎◌, nat_eq}
use Rattle.std.specs.Option.{option_eq}
use Rattle.std.proofs.lemmas.Bool.{cases_lt, eqb-true}
use Rattle.vbr_machine.specs.Acceptance.{past_marked, after_turns}
use Rattle.vbr_machine.specs.declared.knowledge.Read.{Read}

-- what compares as equal is equal
pub same_slot : (a b : Option ℕ) → option_eq nat_eq a b ≡ true → a ≡ b
same_slot None None e = refl
same_slot None (Some t) e = absurd (cc)
same_slot (Some s) None e = absurd (cc)
same_slot (Some s) (Some t) e = ap Some (eqb-true s t e)

-- the premise: the search has come here in so many turns
module _ (P : Option ℕ → Type 0) (reads : List Read) (next here : Option ℕ) (n : ℕ)
    (come : here ≡ after_turns reads n next) where
  -- what is asked for is here
  pub reached : (most : ℕ) → n ≤ most → P here → (turns : ℕ) × (turns ≤ most) × P (after_turns reads turns next)
  reached most le h = (n, le, subst P come h)

  -- it is here, if it is reached in no more turns, and in no fewer
  pub reached_here : ((turns : ℕ) → turns < n → ¬ (P (after_turns reads turns next))) → (turns : ℕ) → turns ≤ n →
      P (after_turns reads turns next) → P here
  reached_here none turns le h = go (cases_lt turns n)
    where
      go : (turns < n) ⊎ (n ≤ turns) → P here
      go (inl lt) = absurd (none turns lt h)
      go (inr ge) =
          let e : turns ≡ n = omega arith in
          let Q : ℕ → Type 0 = λ i. P (after_turns reads i next) in
          subst P (sym come) (subst Q e h)

  -- it isn't here, nor was it before
  pub none_yet : ¬ (P here) → ((turns : ℕ) → turns < n → ¬ (P (after_turns reads turns next))) → (turns : ℕ) →
      turns < n + 1 → ¬ (P (after_turns reads turns next))
  none_yet not none turns lt h = not (reached_here none turns (omega arith) h)

  -- one turn more
  pub one_turn : past_marked reads here ≡ after_turns reads (n + 1) next
  one_turn = let e : n + 1 ≡ suc n = omega arith in rw e (ap (past_marked reads) come)

  -- ---- where a turn leads nowhere else, no later turn does
  module _ (still : past_marked reads here ≡ here) where
    stays_on : (turns : ℕ) → (n ≤ turns → after_turns reads turns next ≡ here) → (turns < n) ⊎ (n ≤ turns) →
        n ≤ suc turns → after_turns reads (suc turns) next ≡ here
    stays_on turns before (inl lt) le =
        let e : n ≡ suc turns = omega arith in
        let Q : ℕ → Type 0 = λ i. here ≡ after_turns reads i next in
        sym (subst Q e come)
    stays_on turns before (inr ge) le = ap (past_marked reads) (before ge) ∙ still

    stays : (turns : ℕ) → n ≤ turns → after_turns reads turns next ≡ here
    stays zero le =
        let e : n ≡ 0 = omega arith in let Q : ℕ → Type 0 = λ i. here ≡ after_turns reads i next in sym (subst Q e come)
    stays (suc turns) le = stays_on turns (stays turns) (cases_lt turns n) le

    -- so what was never reached isn't reached later
    pub never : ¬ (P here) → ((turns : ℕ) → turns < n → ¬ (P (after_turns reads turns next))) → (turns : ℕ) →
        ¬ (P (after_turns reads turns next))
    never not none turns h = go (cases_lt turns n)
      where
        go : (turns < n) ⊎ (n ≤ turns) → ⊥
        go (inl lt) = none turns lt h
        go (inr ge) = not (subst P (stays turns ge) h)
