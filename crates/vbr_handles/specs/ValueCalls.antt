-- What a call that gives something, a value, a key or an entry, answers through a handle.
use Rattle.std.specs.Prelude.{◌≡◌, ℕ, ℤ, Option, None, Some, Result, Ok, Err}
use Rattle.vbr_list.specs.calls.Told.{is_yes}
use Rattle.vbr_at_table.specs.declared.refusal.Refusal.{Refusal}
use Rattle.vbr_set.specs.calls.MapCalls.{AddsEntry, ExchangesEntry, GetsEntry, GetsOrInsertsEntry, PutsEntry, RemovesEntry, RemovesIf, ReplacesEntry}
use Rattle.vbr_set.specs.calls.Members.{MemberView as Member}
use Rattle.vbr_handles.specs.EmptyOrFull.{EmptyOrFull}
use Rattle.vbr_handles.specs.AmpleBudgets.{budget_of}
use Rattle.vbr_handles.specs.Codes.{call_code, empty_code, exchange_code}
use Rattle.vbr_handles.specs.Calls.{RefusesHeld, UnlessHeld}
use Rattle.vbr_handles.specs.ToppingUp.{CallsBySteps, has_stored_new}

-- what is given is written if the answer is yes, otherwise nothing is written
abbrev pub WritesGiven : {A E : Type 0} → Result (Option A) E → A → A → Type 0
WritesGiven (Ok (Some given)) old new = new ≡ given
WritesGiven (Ok None) old new = new ≡ old
WritesGiven (Err refusal) old new = new ≡ old

module _ {A : Type 0} (Calls : Member → Member → Result (Option A) Refusal → Type 0) (coded : Result (Option A) Refusal → ℤ) where
  -- the member made the call, the code is the code of the answer, what it gives is written, and a slot that it holds it still holds
  pub record GivesAnswer (m n : Member) (old new : A) (code : ℤ) : Type 0 where
    pub answer : Result (Option A) Refusal
    pub is : code ≡ coded answer
    pub called : Calls m n answer
    pub aside : n.aside ≡ m.aside
    pub writes : WritesGiven answer old new

  -- an empty handle stays so, has a code of its own, and nothing is written; a full one stays full, and its member made the call
  abbrev pub GivesAs : Option Member → Option Member → A → A → ℤ → Type 0
  GivesAs m n old new code = EmptyOrFull ((code ≡ empty_code) × (new ≡ old)) (λ m n. GivesAnswer m n old new code) m n

  -- the same for a call that would take a slot, unless the member holds one; then nothing is written either
  abbrev pub GivesUnlessHeld : Option Member → Option Member → A → A → ℤ → Type 0
  GivesUnlessHeld m n old new code = EmptyOrFull ((code ≡ empty_code) × (new ≡ old)) (λ m n. UnlessHeld m.aside (RefusesHeld m n code × (new ≡ old)) (GivesAnswer m n old new code)) m n

-- the same if the code says whether something is given
abbrev pub GivesBy : {A : Type 0} → (Member → Member → Result (Option A) Refusal → Type 0) → Option Member → Option Member → A → A → ℤ → Type 0
GivesBy Calls m n old new code = GivesAs Calls (λ answer. call_code (is_yes answer)) m n old new code

-- the same for a remove
abbrev pub TellsRemoveEntry : Option Member → Option Member → ℕ → ℕ → ℕ → ℕ → ℤ → Type 0
TellsRemoveEntry m n key budget old new code = GivesBy (λ m n answer. RemovesEntry m n key budget answer) m n old new code

-- and for a get
abbrev pub TellsGetEntry : Option Member → Option Member → ℕ → ℕ → ℕ → ℕ → ℤ → Type 0
TellsGetEntry m n key budget old new code = GivesBy (λ m n answer. GetsEntry m n key budget answer) m n old new code

-- ---- stores

-- the same for a store, which is refused while a slot is held
abbrev pub StoresBy : {A : Type 0} → (Member → Member → Result (Option A) Refusal → Type 0) → Option Member → Option Member → A → A → ℤ → Type 0
StoresBy Calls m n old new code = GivesUnlessHeld Calls (λ answer. call_code (is_yes answer)) m n old new code

-- for a replacement: what was there is given
abbrev pub TellsReplace : Option Member → Option Member → ℕ → ℕ → ℕ → ℕ → ℕ → ℤ → Type 0
TellsReplace m n key value steps old new code = StoresBy (λ m n answer. ReplacesEntry m n key value (budget_of m steps) answer) m n old new code

-- the same for a put, for a fetch-and-add and for a get that inserts, after which a full handle tops its reserve up
abbrev pub TellsPut : Option Member → Option Member → ℕ → ℕ → ℕ → ℕ → ℕ → ℤ → Type 0
TellsPut m n key value steps old new code = StoresBy (CallsBySteps (λ budget m n answer. PutsEntry m n key value budget answer) has_stored_new steps) m n old new code

abbrev pub TellsFetchAdd : Option Member → Option Member → ℕ → ℕ → ℕ → ℕ → ℕ → ℤ → Type 0
TellsFetchAdd m n key delta steps old new code = StoresBy (CallsBySteps (λ budget m n answer. AddsEntry m n key delta budget answer) has_stored_new steps) m n old new code

abbrev pub TellsGetOrInsert : Option Member → Option Member → ℕ → ℕ → ℕ → ℕ → ℕ → ℤ → Type 0
TellsGetOrInsert m n key value steps old new code = StoresBy (CallsBySteps (λ budget m n answer. GetsOrInsertsEntry m n key value budget answer) has_stored_new steps) m n old new code

-- and for an exchange and a remove that go by the expected value, whose code says whether it was there
abbrev pub TellsExchange : Option Member → Option Member → ℕ → ℕ → ℕ → ℕ → ℕ → ℕ → ℤ → Type 0
TellsExchange m n key expected value steps old new code = GivesUnlessHeld (λ m n answer. ExchangesEntry m n key expected value (budget_of m steps) answer) (exchange_code expected) m n old new code

abbrev pub TellsRemoveIf : Option Member → Option Member → ℕ → ℕ → ℕ → ℕ → ℕ → ℤ → Type 0
TellsRemoveIf m n key expected budget old new code = GivesAs (λ m n answer. RemovesIf m n key expected budget answer) (exchange_code expected) m n old new code
