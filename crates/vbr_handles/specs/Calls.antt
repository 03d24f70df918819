-- What a call through a handle answers.
use Rattle.std.specs.Prelude.{◌≡◌, ℕ, ℤ, Bool, Option, None, Some, Result}
use Rattle.vbr_machine.specs.declared.history.Op.{Op}
use Rattle.vbr_machine.specs.declared.history.Op.TheVariants.{Insert}
use Rattle.vbr_at_table.specs.declared.aside.Aside.{Aside}
use Rattle.vbr_at_table.specs.declared.refusal.Refusal.{Refusal}
use Rattle.vbr_set.specs.calls.MapCalls.{InsertsEntry}
use Rattle.vbr_set.specs.calls.Members.{Called}
use Rattle.vbr_set.specs.calls.Members.{MemberView as Member}
use Rattle.vbr_handles.specs.EmptyOrFull.{EmptyOrFull}
use Rattle.vbr_handles.specs.Codes.{call_code, empty_code, held_code}
use Rattle.vbr_handles.specs.ToppingUp.{CallsBySteps, has_added}

-- for a call that would take a slot: the one if a slot is held, otherwise the other
abbrev pub UnlessHeld : Option Aside → Type 0 → Type 0 → Type 0
UnlessHeld None told else_told = else_told
UnlessHeld (Some aside) told else_told = told

-- while a slot is held nothing is done, and the code says so
abbrev pub RefusesHeld : Member → Member → ℤ → Type 0
RefusesHeld m n code = (n ≡ m) × (code ≡ held_code)

module _ (Calls : Member → Member → Result Bool Refusal → Type 0) where
  -- the member made the call, the code is the code of the answer, and a slot that it holds it still holds
  pub record TellsAnswer (m n : Member) (code : ℤ) : Type 0 where
    pub answer : Result Bool Refusal
    pub is : code ≡ call_code answer
    pub called : Calls m n answer
    pub aside : n.aside ≡ m.aside

  -- an empty handle stays so, and has a code of its own; a full one stays full, and its member made the call
  abbrev pub TellsBy : Option Member → Option Member → ℤ → Type 0
  TellsBy m n code = EmptyOrFull (code ≡ empty_code) (λ m n. TellsAnswer m n code) m n

  -- the same for a call that would take a slot, unless the member holds one
  abbrev pub TellsUnlessHeld : Option Member → Option Member → ℤ → Type 0
  TellsUnlessHeld m n code = EmptyOrFull (code ≡ empty_code) (λ m n. UnlessHeld m.aside (RefusesHeld m n code) (TellsAnswer m n code)) m n

-- the same for a remove of a set, and for a look-up of either
abbrev pub TellsCall : Op → Option Member → Option Member → ℕ → ℕ → ℤ → Type 0
TellsCall op m n key budget code = TellsBy (λ m n answer. Called op m n key budget answer) m n code

-- for an insert of a key, which is refused while a slot is held, and after which a full handle tops its reserve up
abbrev pub TellsInsert : Option Member → Option Member → ℕ → ℕ → ℤ → Type 0
TellsInsert m n key steps code = TellsUnlessHeld (CallsBySteps (λ budget m n answer. Called Insert m n key budget answer) has_added steps) m n code

-- and for an insert of an entry
abbrev pub TellsInsertEntry : Option Member → Option Member → ℕ → ℕ → ℕ → ℤ → Type 0
TellsInsertEntry m n key value steps code = TellsUnlessHeld (CallsBySteps (λ budget m n answer. InsertsEntry m n key value budget answer) has_added steps) m n code
