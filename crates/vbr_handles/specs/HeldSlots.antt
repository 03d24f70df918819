-- What a handle answers whose member holds a slot, or is to hold one.
use Rattle.std.specs.Prelude.{◌≡◌, ◌<◌, ◌≤◌, ◌&&◌, ◌⊎◌, ℕ, ℤ, Bool, true, false, length, is_some, Option, None, Some, Result, Ok, Err, IfOk}
use Rattle.vbr_slots.specs.declared.pass.TheConstants.{POOL}
use Rattle.vbr_at_table.specs.pools.GivingSlotsBack.{GivesSlotsBack}
use Rattle.vbr_at_table.specs.costs.WithinBudget.{TookWithin}
use Rattle.vbr_list.specs.calls.Told.{is_yes}
use Rattle.vbr_list.specs.declared.entries.Entry.{Entry}
use Rattle.vbr_set.specs.histories.Answers.{AnswersAll}
use Rattle.vbr_set.specs.calls.HeldStores.{PutsHeldBy, ReplacesHeldBy}
use Rattle.vbr_set.specs.members.LettingGo.{LetsGo}
use Rattle.vbr_set.specs.calls.MapCalls.{MapAnswersAll}
use Rattle.vbr_set.specs.calls.Members.{MemberView as Member}
use Rattle.vbr_set.specs.calls.RecordCalls.{TakesAside, InsertsHeldBy, insert_told, store_told}
use Rattle.vbr_set.specs.declared.record_refusals.HeldRefusal.{HeldRefusal}
use Rattle.vbr_set.specs.declared.record_refusals.HoldRefusal.{HoldRefusal}
use Rattle.vbr_handles.specs.EmptyOrFull.{EmptyOrFull}
use Rattle.vbr_handles.specs.AmpleBudgets.{budget_of}
use Rattle.vbr_handles.specs.Codes.{empty_code, hold_code, held_call_code, let_go_code}
use Rattle.vbr_handles.specs.ToppingUp.{TopsUpWhere, lacks_slots}
use Rattle.vbr_handles.specs.ValueCalls.{WritesGiven}

-- ---- a hold

-- the slot is written if one was taken, otherwise nothing is
abbrev pub WritesSlot : Result ℕ HoldRefusal → ℕ → ℕ → Type 0
WritesSlot (Ok slot) old new = new ≡ slot
WritesSlot (Err refusal) old new = new ≡ old

-- the member took a slot to hold or didn't, the code is the code of the answer, and the slot is written
pub record HoldsAndWrites (m n : Member) (budget old new : ℕ) (code : ℤ) : Type 0 where
  pub answer : Result ℕ HoldRefusal
  pub is : code ≡ hold_code answer
  pub set : n.set ≡ m.set
  pub holds : TakesAside m n budget answer
  pub writes : WritesSlot answer old new

-- the same for a full handle; an empty one stays so, has a code of its own, and nothing is written
abbrev pub TellsHold : Option Member → Option Member → ℕ → ℕ → ℕ → ℤ → Type 0
TellsHold m n steps old new code = EmptyOrFull ((code ≡ empty_code) × (new ≡ old)) (λ m n. HoldsAndWrites m n (budget_of m steps) old new code) m n

-- ---- letting go

-- the member let go of what it held, and the code says whether that was a slot
pub record LetsSlotGo (m n : Member) (code : ℤ) : Type 0 where
  pub is : code ≡ let_go_code (is_some m.aside)
  pub set : n.set ≡ m.set
  pub lets_go : LetsGo m.aside m.pass n.pass
  pub none : n.aside ≡ None

-- the same for a full handle; an empty one stays so, and has a code of its own
abbrev pub TellsLetGo : Option Member → Option Member → ℤ → Type 0
TellsLetGo m n code = EmptyOrFull (code ≡ empty_code) (λ m n. LetsSlotGo m n code) m n

-- ---- calls by a slot that is held

-- the pass gave the slots of its own pool back
pub record GivesAllBack (m n : Member) : Type 0 where
  pub set : n.set ≡ m.set
  pub aside : n.aside ≡ m.aside
  pub count : ℕ
  pub gives : GivesSlotsBack m.pass n.pass count

-- it did so if that pool was full, otherwise the member is as it was
abbrev pub MakesRoom : Member → Member → Type 0
MakesRoom m n = ((length m.pass.pool < POOL) × (n ≡ m)) ⊎ ((POOL ≤ length m.pass.pool) × GivesAllBack m n)

-- whether the answer of an insert says that a key was added
abbrev pub has_added_held : Result Bool HeldRefusal → Bool
has_added_held (Ok added) = added
has_added_held (Err refusal) = false

-- and the same for a put, which gives what was there
abbrev pub has_put_new : Result (Option ℕ) HeldRefusal → Bool
has_put_new (Ok None) = true
has_put_new (Ok (Some old)) = false
has_put_new (Err refusal) = false

module _ {A : Type 0} (Does : Member → Member → Result A HeldRefusal → Type 0) (adds : Result A HeldRefusal → Bool) (budget : ℕ) where
  -- the member made room in its own pool, if that was full, and then the call; if it added a key and then lacked slots of its reserve, it topped its own pool up; and if it is answered, both together took no more steps than the budget
  pub record DoesWithRoom (m n : Member) (answer : Result A HeldRefusal) : Type 0 where
    pub first : Member
    pub room : MakesRoom m first
    pub between : Member
    pub does : Does first between answer
    pub tops_up : TopsUpWhere (adds answer && lacks_slots between) budget first.pass.trace between n
    pub steps : IfOk answer (λ reply. TookWithin first.pass.trace n.pass.trace budget)

module _ (Does : Member → Member → Result Bool HeldRefusal → Type 0) where
  -- the member did this, and the code is the code of the answer
  pub record TellsHeldAnswer (m n : Member) (code : ℤ) : Type 0 where
    pub answer : Result Bool HeldRefusal
    pub is : code ≡ held_call_code answer
    pub does : Does m n answer

  -- the same for a full handle; an empty one stays so, and has a code of its own
  abbrev pub TellsHeldBy : Option Member → Option Member → ℤ → Type 0
  TellsHeldBy m n code = EmptyOrFull (code ≡ empty_code) (λ m n. TellsHeldAnswer m n code) m n

-- for an insert of a key
abbrev pub TellsInsertHeld : Option Member → Option Member → ℕ → ℕ → ℤ → Type 0
TellsInsertHeld m n key budget code = TellsHeldBy (DoesWithRoom (λ m n answer. InsertsHeldBy AnswersAll (insert_told key) m n key 0 budget answer) has_added_held budget) m n code

-- for an insert of an entry
abbrev pub TellsInsertEntryHeld : Option Member → Option Member → ℕ → ℕ → ℕ → ℤ → Type 0
TellsInsertEntryHeld m n key value budget code = TellsHeldBy (DoesWithRoom (λ m n answer. InsertsHeldBy MapAnswersAll (store_told key value) m n key value budget answer) has_added_held budget) m n code

-- and for a replacement of one entry, which adds no key
abbrev pub TellsReplaceHeld : Option Member → Option Member → ℕ → Entry → ℕ → ℕ → ℤ → Type 0
TellsReplaceHeld m n key entry value budget code = TellsHeldBy (DoesWithRoom (λ m n answer. ReplacesHeldBy m n key value budget entry answer) (λ answer. false) budget) m n code

-- ---- a put by a slot that is held

-- the member put, the code is the code of the answer, and what was there is written
pub record PutsAndWrites (m n : Member) (key value budget old new : ℕ) (code : ℤ) : Type 0 where
  pub answer : Result (Option ℕ) HeldRefusal
  pub is : code ≡ held_call_code (is_yes answer)
  pub does : DoesWithRoom (λ m n answer. PutsHeldBy m n key value budget answer) has_put_new budget m n answer
  pub writes : WritesGiven answer old new

-- the same for a full handle; an empty one stays so, has a code of its own, and nothing is written
abbrev pub TellsPutHeld : Option Member → Option Member → ℕ → ℕ → ℕ → ℕ → ℕ → ℤ → Type 0
TellsPutHeld m n key value budget old new code = EmptyOrFull ((code ≡ empty_code) × (new ≡ old)) (λ m n. PutsAndWrites m n key value budget old new code) m n
