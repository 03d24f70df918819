-- Look-ups in turn by a member leave what it has put aside.
use Rattle.std.proofs.Common.{◌≡◌, ℕ, List, [], ◌∷◌, ap, ◌∙◌}
use Rattle.vbr_set.specs.calls.Batches.{InTurn}
use Rattle.vbr_set.specs.calls.Members.{MemberView}

module _ {A : Type 0} (Calls : MemberView → MemberView → ℕ → A → Type 0) where
  -- each is such a call, and leaves it
  abbrev pub CallsAside : MemberView → MemberView → ℕ → A → Type 0
  CallsAside m n key answer = Calls m n key answer × (n.aside ≡ m.aside)

  pub calls_in_turn : (m n : MemberView) (keys : List ℕ) (answers : List A) → InTurn CallsAside m n keys answers →
      InTurn Calls m n keys answers
  calls_in_turn m n (key ∷ keys) (answer ∷ answers) (between, call, rest) =
      (between, call.0, calls_in_turn between n keys answers rest)
  calls_in_turn m n [] [] x = x
  calls_in_turn m n _ _ x = x

  pub aside_in_turn : (m n : MemberView) (keys : List ℕ) (answers : List A) → InTurn CallsAside m n keys answers →
      n.aside ≡ m.aside
  aside_in_turn m n [] [] same = ap (λ (m : MemberView). m.aside) same
  aside_in_turn m n (key ∷ keys) (answer ∷ answers) (between, call, rest) =
      aside_in_turn between n keys answers rest ∙ call.1
  aside_in_turn m n _ _ x = absurd x
