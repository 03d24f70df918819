-- Look-ups in batches: each key is looked up in turn, as it would be alone.
use Rattle.std.specs.Prelude.{◌≡◌, ℕ, Bool, List, [], ◌∷◌, Option, Result}
use Rattle.vbr_machine.specs.declared.history.Op.TheVariants.{Has}
use Rattle.vbr_at_table.specs.declared.refusal.Refusal.{Refusal}
use Rattle.vbr_set.specs.calls.MapCalls.{GetsEntry}
use Rattle.vbr_set.specs.calls.Members.{Called, MemberView}

-- each key in turn has a call of its own, which begins with what the calls before it left; there are as many answers as keys, and each answers the call of the key at its place
abbrev pub InTurn : {M A : Type 0} → (M → M → ℕ → A → Type 0) → M → M → List ℕ → List A → Type 0
InTurn Calls m n [] [] = n ≡ m
InTurn Calls m n [] (answer ∷ answers) = ⊥
InTurn Calls m n (key ∷ keys) [] = ⊥
InTurn {M} Calls m n (key ∷ keys) (answer ∷ answers) = (between : M) × Calls m between key answer × InTurn Calls between n keys answers

-- the same for look-ups, each with this budget
abbrev pub HasAll : MemberView → MemberView → List ℕ → ℕ → List (Result Bool Refusal) → Type 0
HasAll m n keys budget answers = InTurn (λ m n key answer. Called Has m n key budget answer) m n keys answers

-- and for gets
abbrev pub GetsAll : MemberView → MemberView → List ℕ → ℕ → List (Result (Option ℕ) Refusal) → Type 0
GetsAll m n keys budget answers = InTurn (λ m n key answer. GetsEntry m n key budget answer) m n keys answers
