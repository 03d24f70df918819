-- What the machine accepts of a pass, by what it holds.
use Rattle.std.proofs.Common.{◌≡◌, ◌≢◌, ℕ, ◌<◌, Option, Some, None, refl, true, false, subst}
use Rattle.std.specs.Prelude.{IsTrue}
use Rattle.vbr_machine.specs.Start.{Start}
use Rattle.vbr_words.specs.Words.{link_of}
use Rattle.vbr_words.specs.declared.link.Link.{Link}
use Rattle.vbr_words.specs.declared.place.At.{At}
use Rattle.vbr_words.specs.declared.place.At.TheVariants.{Slot}
use Rattle.vbr_machine.specs.Knowledge.{Know, holds}
use Rattle.vbr_machine.specs.Acceptance.{IsNextIn, IsAtIn, HasChecked, IsInRange, Accepts}
use Rattle.vbr_machine.specs.Learning.{link_written}
use Rattle.vbr_machine.specs.Membership.{Knows, IsHeldSlot, IsHeldPlace, KeyAt, StandsBehind, StandsBeforeOn}
use Rattle.vbr_machine.specs.Membership.{IsUnlinkLink}
use Rattle.vbr_machine.specs.declared.event.Step.{Step}
use Rattle.vbr_machine.specs.declared.event.Step.TheVariants.{LoadBirth, Mark, Unlink, ConfirmPresent, ConfirmAbsent}
use Rattle.vbr_machine.specs.declared.history.Op.{Op}
use Rattle.vbr_machine.specs.declared.history.Op.TheVariants.{Insert, Remove, Get}
use Rattle.vbr_machine.specs.declared.knowledge.Read.TheVariants.{LinkAt, KeyOf}
use Rattle.vbr_machine.proofs.Lemmas.{known_accepts, link_held, written_is}
use Rattle.vbr_slots.specs.steps.Asked.{IsChecked}
use Rattle.vbr_slots.specs.views.Views.{PassView, TableView, Trace, IsOf, knows}
use Rattle.vbr_at_table.specs.reads.Held.{IsHeld, Names}
use Rattle.vbr_slots.specs.steps.PassLaw.{PassLaw}
use Rattle.vbr_at_table.specs.declared.held.Held.{Held}
use Rattle.vbr_at_table.specs.answers.Values.{IsAsked, IsValued}
use Rattle.vbr_at_table.proofs.answers.NoValues.{op_asked, value_known, value_known_for}
use Rattle.vbr_at_table.proofs.reads.PlacesInShape.{link_in, held_in}

-- a step that the machine accepts of a pass is checked for its table
pub accepted_checked : {t : TableView} {p : Trace} {step : Step} → IsOf p t → Accepts p.start (knows p) step →
    IsChecked t p step
accepted_checked {t} {p} {step} own ok = record {
  held = subst (λ (start : Start). HasChecked start (knows p) step) own.1 ok.held;
  in_range = subst (λ (start : Start). IsInRange start (knows p) step) own.1 ok.in_range;
}

-- the slot that the link of what is held names is held
pub named_slot : {know : Know} (held : Held) (s : ℕ) → IsHeld know held → Names held s → IsHeldSlot know s
named_slot held s h names = record { place = held.at; link = link_of held.word; known = h.link; names = names }

module _ (p : PassView) (sound : PassLaw p) where
  -- the place of what is held is one of the shape, and is held
  pub place_in : (held : Held) → IsHeld (knows p.trace) held → IsAtIn p.trace.start held.at
  place_in held h =
      link_in p.trace.start p.trace.passes p.trace.seen sound.start sound.is_run p.trace.who held.at (link_of held.word)
      h.link

  pub place_held : (held : Held) → IsHeld (knows p.trace) held → IsHeldPlace (knows p.trace) held.at
  place_held held h =
      link_held p.trace.start p.trace.passes p.trace.seen sound.start sound.is_run p.trace.who held.at
      (link_of held.word) h.link

  -- a held slot is one of the shape
  pub slot_in : (s : ℕ) → IsHeldSlot (knows p.trace) s → s < p.trace.start.shape.slots
  slot_in s h = held_in p.trace.start p.trace.passes p.trace.seen sound.start sound.is_run p.trace.who s h

  -- and is held by searches
  pub slot_found : (s : ℕ) → IsHeldSlot (knows p.trace) s → IsTrue (holds (knows p.trace).checked s)
  slot_found s h =
      (known_accepts p.trace.start p.trace.passes p.trace.seen sound.start sound.is_run p.trace.who (LoadBirth s)
      (record { in_shape = slot_in s h; owned = tt; known = h; in_range = tt; below_last = tt })).held

  -- so it is of the slot that a link names, and of the slot of a node
  pub named_in : {t : TableView} (held : Held) (s : ℕ) → IsOf p.trace t → IsHeld (knows p.trace) held → Names held s →
      s < t.start.shape.slots
  named_in held s own h names =
      subst (λ (start : Start). s < start.shape.slots) own.1 (slot_in s (named_slot held s h names))

  pub next_in : (held : Held) → IsHeld (knows p.trace) held → IsNextIn p.trace.start (link_of held.word).slot
  next_in held h = go (link_of held.word).slot (λ s names. slot_in s (named_slot held s h names))
    where
      go : (next : Option ℕ) → ((s : ℕ) → next ≡ Some s → s < p.trace.start.shape.slots) → IsNextIn p.trace.start next
      go None low = tt
      go (Some s) low = low s refl

  pub named_found : (held : Held) (s : ℕ) → IsHeld (knows p.trace) held → Names held s →
      IsTrue (holds (knows p.trace).checked s)
  named_found held s h names = slot_found s (named_slot held s h names)

  pub node_in : {t : TableView} (held : Held) (s : ℕ) → IsOf p.trace t → IsHeld (knows p.trace) held →
      held.at ≡ Slot s → s < t.start.shape.slots
  node_in held s own h place_is =
      let Q : At → Type 0 = IsAtIn p.trace.start in
      subst (λ (start : Start). s < start.shape.slots) own.1 (subst Q place_is (place_in held h))

  pub node_found : (held : Held) (s : ℕ) → IsHeld (knows p.trace) held → held.at ≡ Slot s →
      IsTrue (holds (knows p.trace).checked s)
  node_found held s h place_is =
      let Q : At → Type 0 = IsHeldPlace (knows p.trace) in slot_found s (subst Q place_is (place_held held h))

  -- a node is one of the shape, its link is known, and its key
  node : (held : Held) (s : ℕ) → IsHeld (knows p.trace) held → held.at ≡ Slot s →
      ((key : ℕ) × KeyAt (knows p.trace) held.at key) →
      (s < p.trace.start.shape.slots) × Knows (knows p.trace) (LinkAt (Slot s) (link_of held.word)) ×
      ((key : ℕ) × Knows (knows p.trace) (KeyOf s key))
  node held s h place_is k =
      let P : At → Type 0 = IsAtIn p.trace.start in
      let Q : At → Type 0 = λ i. Knows (knows p.trace) (LinkAt i (link_of held.word)) in
      let R : At → Type 0 = λ i. KeyAt (knows p.trace) i k.0 in
      (subst P place_is (place_in held h), subst Q place_is h.link, (k.0, subst R place_is k.1))

  pub mark_accepted : (held : Held) (s : ℕ) → IsHeld (knows p.trace) held → held.at ≡ Slot s →
      ((key : ℕ) × KeyAt (knows p.trace) held.at key) → (link_of held.word).mark ≡ false → IsValued p.trace held.at →
      Accepts p.trace.start (knows p.trace) (Mark s held.word)
  mark_accepted held s h place_is k unmarked valued =
      let n = node held s h place_is k in
      let V : At → Type 0 = IsValued p.trace in
      known_accepts p.trace.start p.trace.passes p.trace.seen sound.start sound.is_run p.trace.who (Mark s held.word)
      (record {
        in_shape = n.0;
        owned = tt;
        known = (n.1, n.2, value_known p.trace.start.shape.values (knows p.trace) s (subst V place_is valued));
        in_range = unmarked;
        below_last = tt;
      })

  pub present_accepted : (op : Op) (held : Held) (s : ℕ) → IsHeld (knows p.trace) held → held.at ≡ Slot s →
      ((key : ℕ) × KeyAt (knows p.trace) held.at key) → (link_of held.word).mark ≡ false → op ≢ Remove →
      IsAsked p.trace op held.at → Accepts p.trace.start (knows p.trace) (ConfirmPresent op s held.word)
  present_accepted op held s h place_is k unmarked not asked =
      let n = node held s h place_is k in
      let V : At → Type 0 = IsAsked p.trace op in
      let asks = subst V place_is asked in
      known_accepts p.trace.start p.trace.passes p.trace.seen sound.start sound.is_run p.trace.who
      (ConfirmPresent op s held.word) (record {
        in_shape = (n.0, op_asked p.trace.start op (λ get. (asks get).0));
        owned = tt;
        known = (n.1, n.2, value_known_for op (knows p.trace) s (λ get. (asks get).1));
        in_range = (unmarked, not);
        below_last = tt;
      })

  pub absent_accepted : (op : Op) (key : ℕ) (pred : Held) → IsHeld (knows p.trace) pred →
      StandsBehind p.trace.start (knows p.trace) pred.at key → StandsBeforeOn (knows p.trace) key (link_of pred.word) →
      (link_of pred.word).mark ≡ false → op ≢ Insert → (op ≡ Get → p.trace.start.shape.values ≡ true) →
      Accepts p.trace.start (knows p.trace) (ConfirmAbsent op key pred.at pred.word)
  absent_accepted op key pred h i j unmarked not asked =
      known_accepts p.trace.start p.trace.passes p.trace.seen sound.start sound.is_run p.trace.who
      (ConfirmAbsent op key pred.at pred.word) (record {
        in_shape = (place_in pred h, op_asked p.trace.start op asked);
        owned = tt;
        known = h.link;
        in_range = (unmarked, not, i, j);
        below_last = tt;
      })

  -- an unlinking behind a place of a marked node that the place's link names
  pub unlink_accepted : (pred : Held) (s : ℕ) (new : Link) → IsHeld (knows p.trace) pred →
      (link_of pred.word).mark ≡ false → Names pred s → IsUnlinkLink (knows p.trace) pred.at s new →
      Accepts p.trace.start (knows p.trace) (Unlink pred.at pred.word s)
  unlink_accepted pred s new h unmarked names is =
      known_accepts p.trace.start p.trace.passes p.trace.seen sound.start sound.is_run p.trace.who
      (Unlink pred.at pred.word s) (record {
        in_shape = (place_in pred h, slot_in s (named_slot pred s h names));
        owned = tt;
        known = (h.link, (new, is));
        in_range = (unmarked, names);
        below_last = tt;
      })

  -- and the word that it writes
  pub unlink_writes : (pred : Held) (s : ℕ) (new : Link) → IsUnlinkLink (knows p.trace) pred.at s new →
      link_written (knows p.trace) (Unlink pred.at pred.word s) ≡ new
  unlink_writes pred s new is =
      written_is p.trace.start p.trace.passes p.trace.seen sound.start sound.is_run p.trace.who
      (Unlink pred.at pred.word s) new is
