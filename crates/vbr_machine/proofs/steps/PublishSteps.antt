-- The step that inserts a node adds what is lawful.
use Rattle.std.proofs.Common.{◌≡◌, ◌≢◌, ℕ, ◌≤◌, max, false, Option, Some, None, refl, arith, sym, ap, ◌∙◌}
use Rattle.std.specs.Prelude.{List, IsSome, unwrap_or}
use Rattle.std.specs.List.{AllByRecursion}
use Rattle.vbr_machine.specs.Start.{Start}
use Rattle.vbr_machine.specs.Links.{link_to}
use Rattle.vbr_machine.specs.Knowledge.{birth_of}
use Rattle.vbr_machine.specs.declared.knowledge.Read.{Read}
use Rattle.vbr_words.specs.Words.{link_of}
use Rattle.vbr_words.specs.declared.place.At.{At}
use Rattle.vbr_words.specs.declared.place.At.TheVariants.{Head, Slot}
use Rattle.vbr_machine.specs.Acceptance.{Accepts}
use Rattle.vbr_machine.specs.Learning.{link_written}
use Rattle.vbr_machine.specs.Machine.{World}
use Rattle.vbr_machine.specs.Incarnations.{Linked, Incarnations, last_in}
use Rattle.vbr_machine.specs.Images.{birth_shown, slot_shown, link_to_next, link_shown_at}
use Rattle.vbr_machine.specs.Chronicles.{Inserts, MayInsert, next_of, becomes}
use Rattle.vbr_machine.specs.Sound.{SlotsSound}
use Rattle.vbr_machine.specs.Notes.{before_at}
use Rattle.vbr_machine.specs.Agreement.{IsHeldIncarnation, IsHeldAt, IsHeldNext, IsGood, reads_of, Agrees}
use Rattle.vbr_machine.specs.Notes.{Note, Notes}
use Rattle.vbr_machine.specs.declared.event.Step.TheVariants.{Publish}
use Rattle.vbr_machine.proofs.words.Puts.{put_here}
use Rattle.vbr_machine.proofs.reads.Searches.{birth_of_is}
use Rattle.vbr_machine.proofs.reads.StandingLinks.{LinkStands, node_at, birth_there}
use Rattle.vbr_machine.proofs.steps.Exchanges.{ReadyFacts, ready_facts, inserted_there, inserted_here}

pub slot_of_is : (a : Incarnations) (e : ℕ) (v n : Option ℕ) → IsHeldNext a e v n → v ≡ slot_shown a n
slot_of_is a e None None h = refl
slot_of_is a e None (Some c) h = absurd h
slot_of_is a e (Some s) None h = absurd h
slot_of_is a e (Some s) (Some c) h = ap Some (sym h.slot)

pub birth_there_low : (a : Incarnations) (e : ℕ) (place : At) → IsHeldAt a e place (node_at a place) →
    birth_there a place ≤ e
birth_there_low a e (Head b) h = omega arith
birth_there_low a e (Slot q) h = h.birth

pub next_low : (a : Incarnations) (e : ℕ) (v n : Option ℕ) → IsHeldNext a e v n → birth_shown a n ≤ e
next_low a e None None h = omega arith
next_low a e None (Some n) h = absurd h
next_low a e (Some v) None h = absurd h
next_low a e (Some v) (Some n) h = h.birth

-- a link that names a slot by its checked birth is the one to the incarnation that is held there
pub aims_at : {start : Start} {a : Incarnations} → SlotsSound start a →
    (e : ℕ) (notes : List Note) (reads : List Read) (c : ℕ) (v n : Option ℕ) → reads ≡ reads_of notes →
    AllByRecursion (IsGood a e) notes → IsHeldNext a e v n → IsSome (birth_of reads v) →
    a.link c ≡ link_to v (a.birth c) (unwrap_or (birth_of reads v) 0) → a.link c ≡ link_to_next a (a.birth c) n
aims_at {start} {a} snd e notes reads c v n q al h known is =
    let sl = slot_of_is a e v n h in
    let nb = birth_of_is snd e notes reads v n q al h known in
    is ∙ (λ i. record { slot = sl i; mark = false; version = max (a.birth c) (nb i) })

module _ (start : Start) (w : World) (a : Incarnations) (notes : ℕ → Notes) (p : ℕ) (pred : At) (expected s : ℕ)
    (g : Agrees start w a notes) (ok : Accepts start (w.know p) (Publish pred expected s))
    (m : LinkStands start a (w.know p).epoch (w.know p).checked pred (link_of expected)) where
  pub ready : ReadyFacts start a p s (w.know p).epoch (w.know p).checked pred (link_of expected) ((w.know p).own s)
  ready = ready_facts start a p s (w.know p).epoch (w.know p).checked pred (link_of expected) ((w.know p).own s)
      (g.owns p s) ok.in_range.1

  -- the link in hand is the one that the incarnation must have
  own_link : a.link (last_in a s) ≡ link_to_next a (a.birth (last_in a s)) (next_of a (before_at a pred))
  own_link = aims_at g.sound.slots (w.know p).epoch (notes p).checked (w.know p).checked (last_in a s)
      (link_of expected).slot (next_of a (before_at a pred)) (g.knows p).checked_reads (g.knows p).checked m.next
      ok.held.2.0 ready.link_ready

  -- what the step adds to the chronicle is allowed
  pub may_insert : MayInsert start a p (last_in a s) (before_at a pred)
  may_insert = record {
    in_hand = ready.state;
    keyed = ready.keyed;
    aimed = ready.aimed;
    is_open = m.is_open;
    link = own_link;
    above = m.behind (a.key (last_in a s)) ok.held.1.1 ready.behind;
    below = m.before (a.key (last_in a s)) ok.held.2.1 ready.before;
    valued = ready.valued;
  }

  pub slot_is : a.slot (last_in a s) ≡ s
  slot_is = (g.sound.slots.last_born s (last_in a s) ready.last).1

  -- the link that the step writes is that of the image after it
  pub new_link : link_shown_at (becomes start a p (Inserts (last_in a s) (before_at a pred))) pred
      ≡ link_written (w.know p) (Publish pred expected s)
  new_link =
      let pb = m.birth ok.held.1.0 in
      let ob = ready.birth_is in
      inserted_here p (last_in a s) pred m.last may_insert
      ∙ (λ i. record { slot = Some (slot_is i); mark = false; version = max (sym pb i) (sym ob i) })

  -- and elsewhere no link changes
  pub old_links : (place : At) → place ≢ pred →
      link_shown_at (becomes start a p (Inserts (last_in a s) (before_at a pred))) place ≡ link_shown_at a place
  old_links = inserted_there g.sound p (last_in a s) pred m.last may_insert

  pub held_new : IsHeldIncarnation (becomes start a p (Inserts (last_in a s) (before_at a pred))) (w.know p).epoch s
      (last_in a s)
  held_new = record { slot = slot_is; birth = ready.born; late = rw (put_here a.state (last_in a s) Linked) tt }
