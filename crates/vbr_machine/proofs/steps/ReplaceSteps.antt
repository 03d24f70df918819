-- The step that replaces a node, and the links of the image after it.
use Rattle.std.proofs.Common.{◌≡◌, ◌≢◌, ℕ, max, true, Option, Some, refl, sym, ap, ◌∙◌}
use Rattle.std.specs.Prelude.{List, unwrap_or}
use Rattle.vbr_machine.specs.Start.{Start}
use Rattle.vbr_words.specs.Words.{link_of}
use Rattle.vbr_words.specs.declared.link.Link.{Link}
use Rattle.vbr_words.specs.declared.place.At.{At}
use Rattle.vbr_words.specs.declared.place.At.TheVariants.{Head, Slot}
use Rattle.vbr_machine.specs.Put.{put}
use Rattle.vbr_machine.specs.Links.{link_to, marked}
use Rattle.vbr_machine.specs.Opened.{payload_kept}
use Rattle.vbr_machine.specs.Knowledge.{key_in, value_in, birth_of}
use Rattle.vbr_machine.specs.Acceptance.{MayReplace, Accepts}
use Rattle.vbr_machine.specs.Learning.{link_written}
use Rattle.vbr_machine.specs.Machine.{World}
use Rattle.vbr_machine.specs.Incarnations.{Linked, Marked, Incarnations, last_in, payload_of}
use Rattle.vbr_machine.specs.Images.{link_to_next, link_in_state, link_shown, link_shown_at}
use Rattle.vbr_machine.specs.Chronicles.{Replaces, MayTakePlace, becomes}
use Rattle.vbr_machine.specs.Sound.{Sound}
use Rattle.vbr_machine.specs.Notes.{Notes}
use Rattle.vbr_machine.specs.Agreement.{IsHeldIncarnation, OwnFits, Agrees}
use Rattle.vbr_machine.specs.declared.event.Step.TheVariants.{Replace}
use Rattle.vbr_machine.specs.declared.knowledge.Read.{Read}
use Rattle.vbr_machine.specs.declared.knowledge.Holding.{Holding}
use Rattle.vbr_machine.specs.declared.knowledge.Holding.TheVariants.{InHand}
use Rattle.vbr_machine.proofs.words.Puts.{put_here, put_other}
use Rattle.vbr_machine.proofs.reads.OwnSlots.{lasts_differ}
use Rattle.vbr_machine.proofs.steps.Exchanges.{FilledFacts, filled_facts, shown_as_before}
use Rattle.vbr_machine.proofs.reads.Searches.{key_is, value_is}
use Rattle.vbr_machine.proofs.chronicles.Shown.{to_next_same, link_kept}
use Rattle.vbr_machine.proofs.reads.StandingLinks.{LinkStands}
use Rattle.vbr_machine.proofs.steps.PublishSteps.{aims_at}
use Rattle.vbr_machine.proofs.reads.ValueReads.{known_kept, has_value}

-- ---- the links after a replacement

-- a linked incarnation isn't the one in hand
not_in_hand : {start : Start} {a : Incarnations} {p old c : ℕ} → MayTakePlace start a p old c → old ≢ c
not_in_hand {start} {a} {p} {old} {c} m e =
    let x = m.in_hand in let y : a.state c ≡ Linked = ap a.state (sym e) ∙ m.linked in cc

-- the links elsewhere once c stands in place of the last incarnation of a slot
replaced_there : {start : Start} {a : Incarnations} → Sound start a → (p c s : ℕ) → a.last s ≡ Some (last_in a s) →
    MayTakePlace start a p (last_in a s) c → (place : At) → place ≢ Slot s →
    link_shown_at (becomes start a p (Replaces (last_in a s) c)) place ≡ link_shown_at a place
replaced_there {start} {a} snd p c s lq m (Head v) ne =
    to_next_same a (becomes start a p (Replaces (last_in a s) c)) refl refl 0 (a.first v)
replaced_there {start} {a} snd p c s lq m (Slot v) ne =
    shown_as_before a (becomes start a p (Replaces (last_in a s) c)) c v (λ d _ r. here d r) kept
  where
    here : (d : ℕ) → d ≡ c →
        link_in_state (becomes start a p (Replaces (last_in a s) c)) d
        (put (put a.state (last_in a s) Marked) c Linked d) ≡ link_in_state a d (a.state d)
    here d e = rw (e, put_here (put a.state (last_in a s) Marked) c Linked, m.in_hand)
        (rw m.link (to_next_same a (becomes start a p (Replaces (last_in a s) c)) refl refl (a.birth c)
        (put (put a.next c (a.next (last_in a s))) (last_in a s) (Some c) c)
        ∙ ap (link_to_next a (a.birth c))
        (put_other (put a.next c (a.next (last_in a s))) (last_in a s) (Some c) c (λ z. not_in_hand m (sym z))
        ∙ put_here a.next c (a.next (last_in a s)))))

    kept : (d : ℕ) → a.last v ≡ Some d → d ≢ c →
        link_shown (becomes start a p (Replaces (last_in a s) c)) (Some d) ≡ link_shown a (Some d)
    kept d e r =
        let dk : d ≢ last_in a s = lasts_differ snd.slots v s (last_in a s) d (λ z. ne (ap Slot z)) lq e in
        link_kept a (becomes start a p (Replaces (last_in a s) c)) refl refl (Some d) (λ i q. let z : i ≡ d = cc in (
          put_other (put a.state (last_in a s) Marked) c Linked i (λ y. r (sym z ∙ y))
              ∙ put_other a.state (last_in a s) Marked i (λ y. dk (sym z ∙ y)),
          refl,
          put_other (put a.next c (a.next (last_in a s))) (last_in a s) (Some c) i (λ y. dk (sym z ∙ y))
              ∙ put_other a.next c (a.next (last_in a s)) i (λ y. r (sym z ∙ y)),
        ))

-- the state of what was replaced
pub old_marked : {start : Start} {a : Incarnations} {p old c : ℕ} → MayTakePlace start a p old c →
    (becomes start a p (Replaces old c)).state old ≡ Marked
old_marked {start} {a} {p} {old} {c} m =
    put_other (put a.state old Marked) c Linked old (not_in_hand m) ∙ put_here a.state old Marked

-- its successor, and that of what replaced it
pub old_next : (start : Start) (a : Incarnations) (p old c : ℕ) → (becomes start a p (Replaces old c)).next old ≡ Some c
old_next start a p old c = put_here (put a.next c (a.next old)) old (Some c)

pub new_next : {start : Start} {a : Incarnations} {p old c : ℕ} → MayTakePlace start a p old c →
    (becomes start a p (Replaces old c)).next c ≡ a.next old
new_next {start} {a} {p} {old} {c} m =
    put_other (put a.next c (a.next old)) old (Some c) c (λ z. not_in_hand m (sym z)) ∙ put_here a.next c (a.next old)

-- the link at the slot itself
replaced_here : {start : Start} {a : Incarnations} → (p c s : ℕ) → a.last s ≡ Some (last_in a s) →
    MayTakePlace start a p (last_in a s) c →
    link_shown_at (becomes start a p (Replaces (last_in a s) c)) (Slot s)
    ≡ marked (link_to (Some (a.slot c)) (a.birth (last_in a s)) (a.birth c))
replaced_here {start} {a} p c s lq m =
    let old = last_in a s in
    let b = becomes start a p (Replaces old c) in
    ap (link_shown b) lq ∙ ap (link_in_state b old) (old_marked m)
    ∙ ap (λ n. marked (link_to_next b (a.birth old) n)) (old_next start a p old c)

-- ---- a slot in hand that is ready to take the place of a node

-- it is filled with the key of the node
abbrev InPlaceFacts : Start → Incarnations → ℕ → ℕ → ℕ → List Read → ℕ → Link → Option Holding → Type 0
InPlaceFacts start a p t e reads s expected holding =
    FilledFacts start a p t e (unwrap_or (key_in reads s) 0) expected.slot (unwrap_or (birth_of reads expected.slot) 0)
    holding

in_place_facts : (start : Start) (a : Incarnations) (p t e : ℕ) (reads : List Read) (s : ℕ) (expected : Link)
    (holding : Option Holding) → OwnFits a p e holding (a.place t) (a.last t) (a.stamp t) →
    MayReplace start reads s expected holding → InPlaceFacts start a p t e reads s expected holding
in_place_facts start a p t e reads s expected (Some (InHand known)) h r =
    filled_facts start a p t e (unwrap_or (key_in reads s) 0) expected.slot (unwrap_or (birth_of reads expected.slot) 0)
    known h r.key_is r.link_is r.valued
in_place_facts start a p t e reads s expected _ h r = absurd r

-- ---- the step

module _ (start : Start) (w : World) (a : Incarnations) (notes : ℕ → Notes) (p s expected t : ℕ)
    (g : Agrees start w a notes) (ok : Accepts start (w.know p) (Replace s expected t))
    (m : LinkStands start a (w.know p).epoch (w.know p).checked (Slot s) (link_of expected)) where
  pub ready : InPlaceFacts start a p t (w.know p).epoch (w.know p).checked s (link_of expected) ((w.know p).own t)
  ready = in_place_facts start a p t (w.know p).epoch (w.know p).checked s (link_of expected) ((w.know p).own t)
      (g.owns p t) ok.in_range.1

  -- the key of the node that is replaced
  pub old_key : unwrap_or (key_in (w.know p).checked s) 0 ≡ a.key (last_in a s)
  old_key = key_is g.sound.slots (w.know p).epoch (notes p).checked (w.know p).checked s (last_in a s)
      (g.knows p).checked_reads (g.knows p).checked m.held ok.held.1.1

  -- and its value
  pub old_value : payload_kept start (value_in (w.know p).checked s) ≡ payload_of start a (last_in a s)
  old_value = known_kept start.shape.values (value_in (w.know p).checked s) (a.value (last_in a s))
      (has_value start.shape.values (value_in (w.know p).checked s) ok.held.1.2)
      (value_is g.sound.slots (w.know p).epoch (notes p).checked (w.know p).checked s (last_in a s)
      (g.knows p).checked_reads (g.knows p).checked m.held)

  -- the link in hand is the one that the incarnation must have
  own_link : a.link (last_in a t) ≡ link_to_next a (a.birth (last_in a t)) (a.next (last_in a s))
  own_link = aims_at g.sound.slots (w.know p).epoch (notes p).checked (w.know p).checked (last_in a t)
      (link_of expected).slot (a.next (last_in a s)) (g.knows p).checked_reads (g.knows p).checked m.next ok.held.2
      ready.link_ready

  -- what the step adds to the chronicle is allowed
  pub may_take : MayTakePlace start a p (last_in a s) (last_in a t)
  may_take = record {
    in_hand = ready.state;
    keyed = ready.keyed;
    aimed = ready.aimed;
    linked = m.is_open;
    link = own_link;
    same = ready.key_ready ∙ old_key;
    valued = ready.valued;
  }

  pub slot_is : a.slot (last_in a t) ≡ t
  slot_is = (g.sound.slots.last_born t (last_in a t) ready.last).1

  -- the link that the step writes is that of the image after it
  pub new_link : link_shown_at (becomes start a p (Replaces (last_in a s) (last_in a t))) (Slot s)
      ≡ link_written (w.know p) (Replace s expected t)
  new_link =
      let pb = m.birth ok.held.1.0 in
      let ob = ready.birth_is in
      replaced_here p (last_in a t) s m.last may_take
      ∙ (λ i. record { slot = Some (slot_is i); mark = true; version = max (sym pb i) (sym ob i) })

  -- and elsewhere no link changes
  pub old_links : (place : At) → place ≢ Slot s →
      link_shown_at (becomes start a p (Replaces (last_in a s) (last_in a t))) place ≡ link_shown_at a place
  old_links = replaced_there g.sound p (last_in a t) s m.last may_take

  pub held_new : IsHeldIncarnation (becomes start a p (Replaces (last_in a s) (last_in a t))) (w.know p).epoch t
      (last_in a t)
  held_new = record {
    slot = slot_is;
    birth = ready.born;
    late = rw (put_here (put a.state (last_in a s) Marked) (last_in a t) Linked) tt;
  }
