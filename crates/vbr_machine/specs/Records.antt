-- Records that a program keeps beside the slots, one for each: whose record a slot's is, and which acts of a program leave it.
use Rattle.std.specs.Prelude.{◌≡◌, ◌≢◌, ℕ, List, [], ◌∷◌, ◌++◌, Some, None}
use Rattle.vbr_machine.specs.Start.{Start}
use Rattle.vbr_machine.specs.Put.{put}
use Rattle.vbr_machine.specs.Acceptance.{IsInHand}
use Rattle.vbr_machine.specs.Incarnations.{InHand, Linked}
use Rattle.vbr_machine.specs.Accounts.{incarnations_after}
use Rattle.vbr_machine.specs.Runs.{know_after, world_after}
use Rattle.vbr_machine.specs.Sound.{IsInserted}
use Rattle.vbr_machine.specs.declared.event.Event.{Event}
use Rattle.vbr_machine.specs.declared.event.Step.{Step}
use Rattle.vbr_machine.specs.declared.event.Step.TheVariants.{StoreBirth, TakeFlag}
use Rattle.vbr_machine.specs.declared.knowledge.SlotPlace.TheVariants.{Hand}

-- ---- entries

-- an incarnation was inserted, and is the last of its slot
pub record IsLastInserted (start : Start) (run : List Event) (s node : ℕ) : Type 0 where
  pub last : (incarnations_after start run).last s ≡ Some node
  pub inserted : IsInserted ((incarnations_after start run).state node)

-- an entry is in the set: the last incarnation of a slot is linked, and has this birth and this key
pub record IsEntry (start : Start) (run : List Event) (s birth key node : ℕ) : Type 0 where
  pub last : (incarnations_after start run).last s ≡ Some node
  pub linked : (incarnations_after start run).state node ≡ Linked
  pub birth_is : (incarnations_after start run).birth node ≡ birth
  pub key_is : (incarnations_after start run).key node ≡ key

-- ---- who has a slot in hand

-- no pass has the slot in hand
abbrev pub IsInNoHand : Start → List Event → ℕ → Type 0
IsInNoHand start run s = (pass : ℕ) → ¬ (IsInHand ((know_after start run pass).own s))

-- the slot is in hand of one pass alone, as the incarnation that was born there last, with this birth: no other pass owns it, and no entry that there ever was in it has the birth that it shows
pub record IsInHandAlone (start : Start) (run : List Event) (pass s birth : ℕ) : Type 0 where
  pub place : (world_after start run).place s ≡ Hand pass
  pub others : (other : ℕ) → other ≢ pass → (know_after start run other).own s ≡ None
  pub shown : (world_after start run).birth s ≡ birth
  pub node : ℕ
  pub last : (incarnations_after start run).last s ≡ Some node
  pub state : (incarnations_after start run).state node ≡ InHand pass
  pub birth_is : (incarnations_after start run).birth node ≡ birth

-- a step that would take a slot out of the shared pool
abbrev pub IsTry : Step → Type 0
IsTry (TakeFlag s) = Unit {0}
IsTry _ = ⊥

-- by these events the pass takes none from there
abbrev pub NoneTries : ℕ → List Event → Type 0
NoneTries pass [] = Unit {0}
NoneTries pass (event ∷ events) = (event.pass ≡ pass → ¬ (IsTry event.step)) × NoneTries pass events

-- a step that gives birth in this slot
abbrev pub IsBirthIn : ℕ → Step → Type 0
IsBirthIn s (StoreBirth t birth) = t ≡ s
IsBirthIn s _ = ⊥

-- by these events the pass gives birth to none there
abbrev pub NoneBears : ℕ → ℕ → List Event → Type 0
NoneBears pass s [] = Unit {0}
NoneBears pass s (event ∷ events) = (event.pass ≡ pass → ¬ (IsBirthIn s event.step)) × NoneBears pass s events

-- ---- a program beside the machine

-- an act of a program: an event of the machine, or a pass writes a value into a word of the record of a slot
pub data Act (A : Type 0) : Type 0 where
  MakesEvent : (event : Event) → Act A
  WritesWord : (pass slot word : ℕ) → (value : A) → Act A

-- the events among the acts, in their order
abbrev pub events_of : {A : Type 0} → List (Act A) → List Event
events_of [] = []
events_of (MakesEvent event ∷ acts) = event ∷ events_of acts
events_of (WritesWord pass slot word value ∷ acts) = events_of acts

-- the words of all records after the acts
abbrev pub records_after : {A : Type 0} → (ℕ → ℕ → A) → List (Act A) → ℕ → ℕ → A
records_after records [] = records
records_after records (MakesEvent event ∷ acts) = records_after records acts
records_after records (WritesWord pass slot word value ∷ acts) = records_after (put records slot (put (records slot) word value)) acts

-- the rule of such a program: a pass writes the record of a slot only while it has the slot in hand
abbrev pub WritesInHand : {A : Type 0} → Start → List Event → List (Act A) → Type 0
WritesInHand start before [] = Unit {0}
WritesInHand start before (MakesEvent event ∷ acts) = WritesInHand start (before ++ event ∷ []) acts
WritesInHand start before (WritesWord pass slot word value ∷ acts) = IsInHand ((know_after start before pass).own slot) × WritesInHand start before acts

-- only this pass writes the record of the slot
abbrev pub OnlyWrites : {A : Type 0} → ℕ → ℕ → List (Act A) → Type 0
OnlyWrites by s [] = Unit {0}
OnlyWrites by s (MakesEvent event ∷ acts) = OnlyWrites by s acts
OnlyWrites by s (WritesWord pass slot word value ∷ acts) = (slot ≡ s → pass ≡ by) × OnlyWrites by s acts
