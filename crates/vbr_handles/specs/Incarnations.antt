-- What a call that names an entry by where it stands answers through a handle.
use Rattle.std.specs.Prelude.{◌≡◌, ℕ, ℤ, Bool, Option, Result, Ok}
use Rattle.vbr_at_table.specs.declared.refusal.Refusal.{Refusal}
use Rattle.vbr_list.specs.calls.Told.{is_yes}
use Rattle.vbr_list.specs.declared.entries.Entry.{Entry}
use Rattle.vbr_set.specs.calls.Members.{MemberView as Member}
use Rattle.vbr_set.specs.calls.RecordCalls.{AsksStill, FindsEntry, FindsKey}
use Rattle.vbr_set.specs.calls.RemovingExactly.{TakesExactly, TakesKeyExactly}
use Rattle.vbr_handles.specs.EmptyOrFull.{EmptyOrFull}
use Rattle.vbr_handles.specs.Calls.{TellsBy}
use Rattle.vbr_handles.specs.Codes.{call_code, empty_code}
use Rattle.vbr_handles.specs.ValueCalls.{GivesBy}
use Rattle.vbr_handles.specs.declared.incarnation.Incarnation.{Incarnation}

-- the entry that stands there
abbrev pub entry_named : Incarnation → Entry
entry_named at = record { slot = at.slot; birth = at.birth; value = at.value }

-- a get returns the entry, which is written if the key is there
abbrev pub TellsGetNamed : Option Member → Option Member → ℕ → ℕ → Entry → Entry → ℤ → Type 0
TellsGetNamed m n key budget old new code = GivesBy (λ m n answer. FindsEntry m n key budget answer) m n old new code

-- and the same for a look-up of a set
abbrev pub TellsHasNamed : Option Member → Option Member → ℕ → ℕ → Entry → Entry → ℤ → Type 0
TellsHasNamed m n key budget old new code = GivesBy (λ m n answer. FindsKey m n key budget answer) m n old new code

-- a remove of one entry of a set returns whether it took it out
abbrev pub TellsRemoveKeyNamed : Option Member → Option Member → ℕ → Entry → ℕ → ℤ → Type 0
TellsRemoveKeyNamed m n key entry budget code = TellsBy (λ m n answer. TakesKeyExactly m n key entry budget answer) m n code

-- for a map: the member took the entry out or didn't, the code is the code of the answer, and a slot that it holds it still holds
pub record TakesNamed (m n : Member) (key : ℕ) (entry : Entry) (budget : ℕ) (code : ℤ) : Type 0 where
  pub answer : Result (Option ℕ) Refusal
  pub is : code ≡ call_code (is_yes answer)
  pub takes : TakesExactly m n key entry budget answer
  pub aside : n.aside ≡ m.aside

-- the same for a full handle; an empty one stays so, and has a code of its own
abbrev pub TellsRemoveNamed : Option Member → Option Member → ℕ → Entry → ℕ → ℤ → Type 0
TellsRemoveNamed m n key entry budget code = EmptyOrFull (code ≡ empty_code) (λ m n. TakesNamed m n key entry budget code) m n

-- the member asked whether the slot of an entry still shows its birth, and a slot that it holds it still holds
pub record TellsWhetherStill (m n : Member) (entry : Entry) (code : ℤ) : Type 0 where
  pub answer : Bool
  pub is : code ≡ call_code (Ok answer)
  pub asks : AsksStill m n entry answer
  pub aside : n.aside ≡ m.aside

-- the same for a full handle; an empty one stays so, and has a code of its own
abbrev pub TellsIfStill : Option Member → Option Member → Entry → ℤ → Type 0
TellsIfStill m n entry code = EmptyOrFull (code ≡ empty_code) (λ m n. TellsWhetherStill m n entry code) m n
