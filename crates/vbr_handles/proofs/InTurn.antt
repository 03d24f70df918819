-- What holds of owners in turn holds of their members.
use Rattle.vbr_handles.proofs.Names.{ℕ, List, [], ◌∷◌, ap}
use Rattle.vbr_set.specs.calls.Batches.{InTurn}

module _ {M N A : Type 0} (of : M → N) (Calls : N → N → ℕ → A → Type 0) where
  pub seen_in_turn : (m n : M) (keys : List ℕ) (answers : List A) →
      InTurn (λ (p : M) (q : M) (key : ℕ) (answer : A). Calls (of p) (of q) key answer) m n keys answers →
      InTurn Calls (of m) (of n) keys answers
  seen_in_turn m n [] [] is = ap of is
  seen_in_turn m n [] (answer ∷ answers) is = absurd is
  seen_in_turn m n (key ∷ keys) [] is = absurd is
  seen_in_turn m n (key ∷ keys) (answer ∷ answers) is = (of is.0, is.1, seen_in_turn is.0 n keys answers is.2)
