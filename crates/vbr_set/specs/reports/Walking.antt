-- Walking the lists of a closed table by its words. Only contracts of private functions cite this.
use Rattle.std.specs.Prelude.{◌≡◌, ℕ, zero, suc, ◌<◌, ◌||◌, Bool, false, List, [], ◌∷◌, ◌++◌, slice_index, slice_index_or, if◌then◌else◌}
use Rattle.vbr_words.specs.Dimensions.{Dimensions}
use Rattle.vbr_words.specs.Packing.{slot_bits, unpacked}
use Rattle.vbr_words.specs.Places.{index_of}
use Rattle.vbr_words.specs.Words.{link_of}
use Rattle.vbr_words.specs.declared.link.Link.{Link}
use Rattle.vbr_words.specs.declared.place.Place.{Place}
use Rattle.vbr_machine.specs.Start.{Start, IsStart}
use Rattle.vbr_machine.specs.Incarnations.{Incarnations}
use Rattle.vbr_machine.specs.Runs.{IsRun, world_after}
use Rattle.vbr_machine.specs.declared.event.Event.{Event}
use Rattle.vbr_slots.specs.words.Words.{AreWordsOf}
use Rattle.vbr_machine.specs.Nodes.{state_in, is_linked, is_listed, is_in_list}

-- the words are the words of the world after a run from a start
pub record AreAfter (start : Start) (words : List ℕ) (run : List Event) : Type 0 where
  pub passes : ℕ
  pub is_start : IsStart start
  pub is_run : IsRun start passes run
  pub are : AreWordsOf start (world_after start run) words

-- the link that the words keep at a place
abbrev pub link_in : Dimensions → List ℕ → Place → Link
link_in shape words place = link_of (unpacked (slot_bits shape.slots) (slice_index words (index_of shape place)))

-- whether a slot was noted
abbrev pub is_noted : List Bool → ℕ → Bool
is_noted notes s = slice_index_or notes s false

-- the slots whose nodes are in the list of a bucket were noted, and no others
abbrev pub NotesList : Start → Incarnations → ℕ → List Bool → List Bool → Type 0
NotesList start a bucket before now = (s : ℕ) → s < start.shape.slots → is_noted now s ≡ (is_noted before s || is_in_list start a bucket s)

-- the slots whose nodes are in lists are noted, and no others
abbrev pub NotesLists : Start → Incarnations → List Bool → Type 0
NotesLists start a notes = (s : ℕ) → s < start.shape.slots → is_noted notes s ≡ is_listed (state_in a s)

module _ {T : Type 0} where
  -- what is reported of the linked nodes in the slots below a number, slot by slot
  abbrev pub linked_of : (ℕ → T) → Incarnations → ℕ → List T
  linked_of tell a zero = []
  linked_of tell a (suc s) = if is_linked (state_in a s) then linked_of tell a s ++ tell s ∷ [] else linked_of tell a s
