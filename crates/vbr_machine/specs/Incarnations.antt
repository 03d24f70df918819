-- The incarnations of the slots: what a chronicle has made so far.
use Rattle.std.specs.Prelude.{ℕ, ◌≤◌, Bool, List, [], Option, Some, None, unwrap_or, if◌then◌else◌}
use Rattle.vbr_machine.specs.Start.{Start}
use Rattle.vbr_words.specs.declared.link.Link.{Link}
use Rattle.vbr_machine.specs.Links.{opening_link}
use Rattle.vbr_machine.specs.Opened.{key_count, has_opening_key, key_number, value_number, payload_kept, opening_birth, first_key, key_behind, opening_place}
use Rattle.vbr_machine.specs.declared.history.Call.{Call}
use Rattle.vbr_machine.specs.declared.knowledge.SlotPlace.{SlotPlace}

-- what has become of an incarnation: it is not born yet, in hand of a pass, given up, linked, marked, unlinked by a pass at an epoch, or stamped after it was unlinked at an epoch
pub data State : Type 0 where
  Unborn : State
  InHand : (pass : ℕ) → State
  GivenUp : State
  Linked : State
  Marked : State
  Unlinked : (pass : ℕ) → (unlinked : ℕ) → State
  Stamped : (unlinked : ℕ) → (stamp : ℕ) → State

-- all incarnations so far. Each has a number, which is never given twice; an incarnation has at first the key, the value and the link that its slot showed before its birth
pub record Incarnations : Type 0 where
  pub epoch : ℕ
  pub count : ℕ  -- how many were born: they are those below
  pub slot : ℕ → ℕ  -- of an incarnation, as are those down to its state
  pub birth : ℕ → ℕ
  pub key : ℕ → ℕ
  pub is_keyed : ℕ → Bool  -- whether its key was stored since its birth
  pub value : ℕ → ℕ
  pub is_valued : ℕ → Bool  -- whether its value was stored since its birth
  pub link : ℕ → Link  -- its link until it is linked
  pub is_aimed : ℕ → Bool  -- whether its link was stored since its birth
  pub next : ℕ → Option ℕ  -- its successor
  pub rank : ℕ → ℕ  -- how many incarnations of its key were replaced, one after the other, before it
  pub state : ℕ → State
  pub first : ℕ → Option ℕ  -- the first incarnation in the list of a bucket
  pub last : ℕ → Option ℕ  -- the last incarnation that was born in a slot
  pub place : ℕ → SlotPlace  -- of a slot
  pub stamp : ℕ → ℕ  -- of a slot
  pub calls : List Call

-- what has become of an incarnation at opening: it is linked if it is of an opening key, and else unborn
abbrev pub opening_state : Start → ℕ → State
opening_state start c = if has_opening_key start c then Linked else Unborn

-- the incarnation of a slot at opening, if it has one
abbrev pub opening_last : Start → ℕ → Option ℕ
opening_last start s = if has_opening_key start s then Some s else None

-- the incarnations at opening: one of each opening key, with its number, in the slot of that number
abbrev pub at_opening : Start → Incarnations
at_opening start =
    record {
      epoch = 1;
      count = key_count start;
      slot = λ c. c;
      birth = opening_birth start;
      key = key_number start;
      is_keyed = has_opening_key start;
      value = value_number start;
      is_valued = has_opening_key start;
      link = λ c. opening_link;
      is_aimed = has_opening_key start;
      next = key_behind start;
      rank = λ c. 0;
      state = opening_state start;
      first = first_key start;
      last = opening_last start;
      place = opening_place start;
      stamp = λ s. 0;
      calls = [];
    }

-- the value of an incarnation if nodes have values, and otherwise none
abbrev pub payload_of : Start → Incarnations → ℕ → Option ℕ
payload_of start a c = payload_kept start (Some (a.value c))

-- an incarnation is late for an epoch while it is linked or marked, and also after, if it was unlinked at this epoch or later
abbrev pub IsLate : State → ℕ → Type 0
IsLate Linked epoch = Unit {0}
IsLate Marked epoch = Unit {0}
IsLate (Unlinked pass unlinked) epoch = epoch ≤ unlinked
IsLate (Stamped unlinked stamp) epoch = epoch ≤ unlinked
IsLate _ epoch = ⊥

-- the last incarnation of a slot; 0 if none was born there
abbrev pub last_in : Incarnations → ℕ → ℕ
last_in a s = unwrap_or (a.last s) 0
