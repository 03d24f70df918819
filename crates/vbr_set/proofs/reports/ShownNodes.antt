-- The nodes that the words of a closed table show are the last incarnations of their slots.
use Rattle.std.proofs.Common.{◌≡◌, ℕ, ◌<◌, List, Option, refl, sym, ap, ◌∙◌}
use Rattle.std.specs.Prelude.{slice_index}
use Rattle.vbr_machine.specs.Start.{Start}
use Rattle.vbr_words.specs.Places.{IsIn, index_of, place_of}
use Rattle.vbr_words.specs.Packing.{packed, slot_bits, unpacked}
use Rattle.vbr_words.specs.Words.{link_of, word_of}
use Rattle.vbr_words.specs.declared.place.At.{At}
use Rattle.vbr_words.specs.declared.place.At.TheVariants.{Head, Slot}
use Rattle.vbr_words.specs.declared.place.Place.TheVariants as place
use Rattle.vbr_words.proofs.Lemmas.{is_link, link_of-word_of, unpacked-packed}
use Rattle.vbr_machine.specs.Accounts.{incarnations_after, notes_after}
use Rattle.vbr_machine.specs.Agreement.{Agrees}
use Rattle.vbr_machine.specs.Images.{slot_shown, link_in_state, link_shown, link_shown_at, value_shown}
use Rattle.vbr_machine.specs.Incarnations.{State, Linked, Marked}
use Rattle.vbr_machine.specs.Incarnations.{Incarnations}
use Rattle.vbr_machine.specs.Runs.{world_after}
use Rattle.vbr_machine.specs.Safety.{IsSafe}
use Rattle.vbr_machine.specs.Sound.{IsListed}
use Rattle.vbr_machine.specs.declared.event.Event.{Event}
use Rattle.vbr_machine.specs.Machine.{World, link_at}
use Rattle.vbr_machine.proofs.Lemmas.{Stands, every_run, run_agrees, standing_room}
use Rattle.vbr_machine.specs.Nodes.{state_shown, state_in, is_marked, key_in_slot}
use Rattle.vbr_set.specs.reports.Walking.{AreAfter, link_in}

-- ---- words

pub agrees : {start : Start} {words : List ℕ} {run : List Event} → AreAfter start words run →
    Agrees start (world_after start run) (incarnations_after start run) (notes_after start run)
agrees {start} {words} {run} x = run_agrees start x.passes run x.is_start x.is_run

pub safe : {start : Start} {words : List ℕ} {run : List Event} → AreAfter start words run → IsSafe start run
safe {start} {words} {run} x = every_run start x.passes run x.is_start x.is_run

-- the link of a word is the one that the incarnations show there
pub link_read : {start : Start} {words : List ℕ} {run : List Event} → AreAfter start words run → (holder : At) →
    IsIn start.shape (place_of holder) →
    link_in start.shape words (place_of holder)
    ≡ link_shown_at (incarnations_after start run) holder
link_read {start} {words} {run} x holder is =
    ap (λ (n : ℕ). link_of (unpacked bits n)) (at holder is)
    ∙ ap link_of (unpacked-packed bits (word_of (link_at w holder)) (standing_room start w _ _ (agrees x) holder))
    ∙ link_of-word_of (link_at w holder) (is_link x.is_start.shape ((safe x).links holder))
    ∙ image holder
  where
    bits : ℕ
    bits = slot_bits start.shape.slots

    w : World
    w = world_after start run

    at : (holder : At) → IsIn start.shape (place_of holder) →
        slice_index words (index_of start.shape (place_of holder)) ≡ packed bits (word_of (link_at w holder))
    at (Head b) is = x.are.each (place.Head b) is
    at (Slot s) is = x.are.each (place.LinkOf s) is

    image : (holder : At) → link_at w holder ≡ link_shown_at (incarnations_after start run) holder
    image (Head b) = (agrees x).image.head b
    image (Slot s) = (agrees x).image.link s

pub key_read : {start : Start} {words : List ℕ} {run : List Event} → AreAfter start words run → (s : ℕ) →
    s < start.shape.slots →
    slice_index words (index_of start.shape (place.Key s)) ≡ key_in_slot (incarnations_after start run) s
key_read x s is = x.are.each (place.Key s) is ∙ (agrees x).image.key s

pub value_read : {start : Start} {words : List ℕ} {run : List Event} → AreAfter start words run → (s : ℕ) →
    IsIn start.shape (place.Value s) →
    slice_index words (index_of start.shape (place.Value s))
    ≡ value_shown (incarnations_after start run) ((incarnations_after start run).last s)
value_read x s is = x.are.each (place.Value s) is ∙ (agrees x).image.value s

-- ---- nodes in lists

pub stands_state : {a : Incarnations} {s c : ℕ} → Stands a s c → state_in a s ≡ a.state c
stands_state {a} n = ap (state_shown a) n.last

-- its link names the slot of its successor, and has the mark once the node is marked
link_named : (a : Incarnations) (c : ℕ) (st : State) → IsListed st →
    ((link_in_state a c st).slot ≡ slot_shown a (a.next c)) × ((link_in_state a c st).mark ≡ is_marked st)
link_named a c Linked l = (refl, refl)
link_named a c Marked l = (refl, refl)
link_named a c _ l = absurd l

pub next_of_node : {a : Incarnations} {s c : ℕ} → Stands a s c →
    (link_shown a (a.last s)).slot ≡ slot_shown a (a.next c)
next_of_node {a} {s} {c} n =
    ap (λ (l : Option ℕ). (link_shown a l).slot) n.last ∙ (link_named a c (a.state c) n.listed).0

pub mark_of_node : {a : Incarnations} {s c : ℕ} → Stands a s c →
    (link_shown a (a.last s)).mark ≡ is_marked (state_in a s)
mark_of_node {a} {s} {c} n = ap (λ (l : Option ℕ). (link_shown a l).mark) n.last
    ∙ (link_named a c (a.state c) n.listed).1 ∙ sym (ap is_marked (stands_state n))
