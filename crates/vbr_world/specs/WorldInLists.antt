-- The world as a program keeps it, in lists and words, and the world that it stands for.
use Rattle.std.specs.Prelude.{◌≡◌, ℕ, ◌≤◌, List, [], length, Option, Some, None, IfSome, slice_index_or}
use Rattle.std.specs.List.{AllByRecursion}
use Rattle.vbr_machine.specs.Start.{Start, IsStart}
use Rattle.vbr_words.specs.Words.{IsLink, link_of}
use Rattle.vbr_words.specs.declared.link.TheConstants.{MARK, MAX_VERSION}
use Rattle.vbr_machine.specs.Knowledge.{Know}
use Rattle.vbr_machine.specs.Machine.{World}
use Rattle.vbr_machine.specs.declared.history.Call.{Call}
use Rattle.vbr_machine.specs.declared.knowledge.Read.{Read}
use Rattle.vbr_machine.specs.declared.knowledge.Read.TheVariants.{LinkAt, BirthOf, KeyOf, ValueOf}
use Rattle.vbr_machine.specs.declared.knowledge.Holding.{Holding}
use Rattle.vbr_machine.specs.declared.knowledge.Holding.TheVariants.{InHand}
use Rattle.vbr_machine.specs.declared.knowledge.SlotPlace.{SlotPlace}
use Rattle.vbr_machine.specs.declared.knowledge.SlotPlace.TheVariants.{Shared}

-- what a pass knows, with its slots in a list
pub record KeptPass : Type 0 where
  pub epoch : ℕ
  pub pending : List Read
  pub checked : List Read
  pub own : List (Option Holding)

-- what a pass knows
abbrev pub know_of : KeptPass → Know
know_of kept = record { epoch = kept.epoch; pending = kept.pending; checked = kept.checked; own = λ s. slice_index_or kept.own s None }

-- a pass that was just opened
abbrev pub opening_pass : KeptPass
opening_pass = record { epoch = 1; pending = []; checked = []; own = [] }

-- a read whose link or birth has room in a word
abbrev pub FitsRead : Read → Type 0
FitsRead (LinkAt place link) = IsLink link
FitsRead (BirthOf s birth) = birth ≤ MAX_VERSION
FitsRead (KeyOf s key) = Unit {0}
FitsRead (ValueOf s value) = Unit {0}

-- what is known of an own slot has room in words
abbrev pub FitsHolding : Option Holding → Type 0
FitsHolding (Some (InHand known)) = (known.birth ≤ MAX_VERSION) × IfSome known.link IsLink
FitsHolding _ = Unit {0}

-- all that a pass knows has room in words
pub record FitsPass (kept : KeptPass) : Type 0 where
  pub epoch : kept.epoch ≤ MAX_VERSION
  pub pending : AllByRecursion FitsRead kept.pending
  pub checked : AllByRecursion FitsRead kept.checked
  pub own : AllByRecursion FitsHolding kept.own

-- the words, places, passes and calls in lists
pub record KeptWorld : Type 0 where
  pub start : Start
  pub epoch : ℕ
  pub heads : List ℕ
  pub links : List ℕ
  pub birth : List ℕ
  pub stamps : List ℕ
  pub keys : List ℕ
  pub values : List ℕ
  pub places : List SlotPlace
  pub passes : List KeptPass
  pub births : ℕ
  pub calls : List Call

-- the world that lists stand for
abbrev pub world_of : KeptWorld → World
world_of kept =
    record {
      epoch = kept.epoch;
      head = λ b. link_of (slice_index_or kept.heads b 0);
      link = λ s. link_of (slice_index_or kept.links s MARK);
      birth = λ s. slice_index_or kept.birth s 0;
      stamp = λ s. slice_index_or kept.stamps s 0;
      key = λ s. slice_index_or kept.keys s 0;
      value = λ s. slice_index_or kept.values s 0;
      place = λ s. slice_index_or kept.places s Shared;
      know = λ p. know_of (slice_index_or kept.passes p opening_pass);
      births = kept.births;
      calls = kept.calls;
    }

-- the lists are as long as the shape says, and all numbers have room in words
pub record IsWhole (kept : KeptWorld) : Type 0 where
  pub start : IsStart kept.start
  pub epoch : kept.epoch ≤ kept.start.shape.last_epoch
  pub heads : length kept.heads ≡ kept.start.shape.buckets
  pub links : length kept.links ≡ kept.start.shape.slots
  pub birth : length kept.birth ≡ kept.start.shape.slots
  pub stamps : length kept.stamps ≡ kept.start.shape.slots
  pub keys : length kept.keys ≡ kept.start.shape.slots
  pub values : length kept.values ≡ kept.start.shape.slots
  pub places : length kept.places ≡ kept.start.shape.slots
  pub owns : AllByRecursion (λ pass. length pass.own ≡ kept.start.shape.slots) kept.passes
  pub fits : AllByRecursion (λ birth. birth ≤ MAX_VERSION) kept.birth
