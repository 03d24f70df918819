-- The nodes of lists, counted by slots: each slot has at most one, its last incarnation.
use Rattle.std.specs.Prelude.{ℕ, zero, suc, Bool, true, false, ◌==◌, ◌&&◌, ◌||◌, Option, Some, None, nat_lt, List, if◌then◌else◌}
use Rattle.vbr_machine.specs.Start.{Start}
use Rattle.vbr_words.specs.declared.place.At.{At}
use Rattle.vbr_words.specs.declared.place.At.TheVariants.{Head, Slot}
use Rattle.vbr_words.specs.Buckets.{bucket_of}
use Rattle.vbr_machine.specs.Accounts.{incarnations_after}
use Rattle.vbr_machine.specs.Images.{key_shown}
use Rattle.vbr_machine.specs.Incarnations.{State, Unborn, Linked, Marked, Incarnations}
use Rattle.vbr_machine.specs.declared.event.Event.{Event}

-- what has become of an incarnation; none is not born
abbrev pub state_shown : Incarnations → Option ℕ → State
state_shown a None = Unborn
state_shown a (Some c) = a.state c

-- what has become of the last incarnation of a slot
abbrev pub state_in : Incarnations → ℕ → State
state_in a s = state_shown a (a.last s)

-- whether an incarnation is in a list, and unmarked
abbrev pub is_linked : State → Bool
is_linked Linked = true
is_linked _ = false

-- whether an incarnation is in a list, and marked
abbrev pub is_marked : State → Bool
is_marked Marked = true
is_marked _ = false

-- whether an incarnation is in a list
abbrev pub is_listed : State → Bool
is_listed Linked = true
is_listed Marked = true
is_listed _ = false

-- the rank of an incarnation, 0 for none
abbrev pub rank_shown : Incarnations → Option ℕ → ℕ
rank_shown a None = 0
rank_shown a (Some c) = a.rank c

-- the key of the last incarnation of a slot
abbrev pub key_in_slot : Incarnations → ℕ → ℕ
key_in_slot a s = key_shown a (a.last s)

-- whether the node of a slot is in the list of a bucket
abbrev pub is_in_list : Start → Incarnations → ℕ → ℕ → Bool
is_in_list start a bucket s = is_listed (state_in a s) && (bucket_of start.shape (key_in_slot a s) == bucket)

-- how many of the slots below a number pass a test
abbrev pub count_below : (ℕ → Bool) → ℕ → ℕ
count_below test zero = 0
count_below test (suc s) = if test s then suc (count_below test s) else count_below test s

-- the rank of the last incarnation of a slot
abbrev pub rank_in_slot : Incarnations → ℕ → ℕ
rank_in_slot a s = rank_shown a (a.last s)

-- whether a key and a rank are below others: the key is, or it is the same and the rank is
abbrev pub is_lower : ℕ → ℕ → ℕ → ℕ → Bool
is_lower key rank other_key other_rank = nat_lt key other_key || (key == other_key && nat_lt rank other_rank)

-- whether a key with a rank lies behind a place: behind a head each does, and behind a slot one that is above the key and rank of its last incarnation
abbrev pub is_above : Incarnations → At → ℕ → ℕ → Bool
is_above a (Head b) key rank = true
is_above a (Slot t) key rank = is_lower (key_in_slot a t) (rank_in_slot a t) key rank

-- whether the node of a slot stands in the list of a bucket, behind a place
abbrev pub is_behind : Start → Incarnations → ℕ → At → ℕ → Bool
is_behind start a bucket place s = is_in_list start a bucket s && is_above a place (key_in_slot a s) (rank_in_slot a s)

-- how many nodes, linked or marked, stand in the list of a bucket behind a place
abbrev pub behind : Start → Incarnations → ℕ → At → ℕ
behind start a bucket place = count_below (is_behind start a bucket place) start.shape.slots

-- how many nodes are linked after a run
abbrev pub linked_after : Start → List Event → ℕ
linked_after start run = count_below (λ s. is_linked (state_in (incarnations_after start run) s)) start.shape.slots

-- how many are marked, and still in a list
abbrev pub marked_after : Start → List Event → ℕ
marked_after start run = count_below (λ s. is_marked (state_in (incarnations_after start run) s)) start.shape.slots
