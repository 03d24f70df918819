-- The marked node that an unlinking takes out, and the links of the image after it.
use Rattle.std.proofs.Common.{◌≡◌, ◌≢◌, ℕ, max, false, List, Option, Some, None, refl, arith, sym, ap, ◌∙◌}
use Rattle.std.specs.Prelude.{IsSome}
use Rattle.std.specs.List.{AllByRecursion}
use Rattle.vbr_machine.specs.Start.{Start}
use Rattle.vbr_words.specs.Words.{link_of}
use Rattle.vbr_words.specs.declared.link.Link.{Link}
use Rattle.vbr_words.specs.declared.place.At.{At}
use Rattle.vbr_words.specs.declared.place.At.TheVariants.{Head, Slot}
use Rattle.vbr_machine.specs.Put.{put}
use Rattle.vbr_machine.specs.Opened.{opening_keys}
use Rattle.vbr_machine.specs.Links.{marked}
use Rattle.vbr_machine.specs.Knowledge.{marked_in}
use Rattle.vbr_machine.specs.Acceptance.{next_of_marked, Accepts}
use Rattle.vbr_machine.specs.Learning.{link_written}
use Rattle.vbr_machine.specs.Machine.{World}
use Rattle.vbr_machine.specs.Incarnations.{State, Linked, Marked, Unlinked, Incarnations, last_in}
use Rattle.vbr_machine.specs.Images.{link_to_next, link_in_state, link_shown, link_shown_at}
use Rattle.vbr_machine.specs.Chronicles.{Unlinks, AtHead, AtNode, IsOpen, Allowed, next_of, becomes}
use Rattle.vbr_machine.specs.Sound.{IsListed, IsRemoved, Sound, Grows}
use Rattle.vbr_machine.specs.Notes.{Note, Notes, before_at, last_at}
use Rattle.vbr_machine.specs.Agreement.{IsHeldIncarnation, IsHeldAt, IsHeldNext, IsFrozen, IsGood, reads_of, Agrees}
use Rattle.vbr_machine.specs.declared.event.Step.TheVariants.{Unlink}
use Rattle.vbr_machine.specs.declared.knowledge.Read.{Read}
use Rattle.vbr_machine.proofs.words.Puts.{put_here, put_other}
use Rattle.vbr_machine.proofs.chronicles.Slots.{one_late, listed_last}
use Rattle.vbr_machine.proofs.chronicles.Growth.{grows}
use Rattle.vbr_machine.proofs.reads.OwnSlots.{lasts_differ}
use Rattle.vbr_machine.proofs.steps.Exchanges.{shown_as_before}
use Rattle.vbr_machine.proofs.chronicles.Shown.{to_next_same, linked_same, link_kept}
use Rattle.vbr_machine.proofs.reads.Searches.{marked_found, birth_of_is}
use Rattle.vbr_machine.proofs.reads.StandingLinks.{LinkStands, node_at, birth_there}
use Rattle.vbr_machine.proofs.steps.PublishSteps.{slot_of_is}

-- ---- the links after an unlinking

-- the links elsewhere once c was unlinked behind the place
unlinked_there : {start : Start} {a : Incarnations} → Sound start a → (p c : ℕ) (pred : At) →
    last_at a pred ≡ node_at a pred → a.state c ≡ Marked → (place : At) → place ≢ pred →
    link_shown_at (becomes start a p (Unlinks c (before_at a pred))) place ≡ link_shown_at a place
unlinked_there {start} {a} snd p c (Head h) lq m (Head v) ne =
    to_next_same a (becomes start a p (Unlinks c (AtHead h))) refl refl 0 (put a.first h (a.next c) v)
    ∙ ap (link_to_next a 0) (put_other a.first h (a.next c) v (λ e. ne (ap Head e)))
unlinked_there {start} {a} snd p c (Slot q) lq m (Head v) ne =
    to_next_same a (becomes start a p (Unlinks c (AtNode (last_in a q)))) refl refl 0 (a.first v)
unlinked_there {start} {a} snd p c (Head h) lq m (Slot v) ne =
    let b = becomes start a p (Unlinks c (AtHead h)) in
    shown_as_before a b c v
    (λ d _ r. rw (r, put_here a.state c (Unlinked p a.epoch), m) (ap marked (linked_same a b refl refl c refl)))
    (λ d _ r. link_kept a b refl refl (Some d)
    (λ i s. let z : i ≡ d = cc in (put_other a.state c (Unlinked p a.epoch) i (λ y. r (sym z ∙ y)), refl, refl)))
unlinked_there {start} {a} snd p c (Slot q) lq m (Slot v) ne =
    let k = last_in a q in
    let b = becomes start a p (Unlinks c (AtNode k)) in
    let dk : (d : ℕ) → a.last v ≡ Some d → d ≢ k = λ d e. lasts_differ snd.slots v q k d (λ z. ne (ap Slot z)) lq e in
    shown_as_before a b c v
    (λ d e r. rw (r, put_here a.state c (Unlinked p a.epoch), m)
    (ap marked (linked_same a b refl refl c (put_other a.next k (a.next c) c (λ y. dk d e (r ∙ y))))))
    (λ d e r. link_kept a b refl refl (Some d)
    (λ i s. let z : i ≡ d = cc in (
      put_other a.state c (Unlinked p a.epoch) i (λ y. r (sym z ∙ y)),
      refl,
      put_other a.next k (a.next c) i (λ y. dk d e (sym z ∙ y)),
    )))

-- the link at the place itself
unlinked_here : (start : Start) (a : Incarnations) (p c : ℕ) (pred : At) → last_at a pred ≡ node_at a pred →
    IsOpen a (before_at a pred) → a.state c ≡ Marked →
    link_shown_at (becomes start a p (Unlinks c (before_at a pred))) pred
    ≡ link_to_next a (birth_there a pred) (a.next c)
unlinked_here start a p c (Head h) lq o m =
    let b = becomes start a p (Unlinks c (AtHead h)) in
    ap (link_to_next b 0) (put_here a.first h (a.next c)) ∙ to_next_same a b refl refl 0 (a.next c)
unlinked_here start a p c (Slot q) lq o m =
    let k = last_in a q in
    let b = becomes start a p (Unlinks c (AtNode k)) in
    let kc : k ≢ c = λ e. let y : a.state c ≡ Linked = rw e at o in cc in
    ap (link_shown b) lq ∙ ap (link_in_state b k) (put_other a.state c (Unlinked p a.epoch) k kc ∙ o)
    ∙ ap (link_to_next b (a.birth k)) (put_here a.next k (a.next c)) ∙ to_next_same a b refl refl (a.birth k) (a.next c)

-- the incarnation at the place is as before
pub last_behind : (start : Start) (a : Incarnations) (p c : ℕ) (place : At) → last_at a place ≡ node_at a place →
    last_at (becomes start a p (Unlinks c (before_at a place))) place ≡ node_at a place
last_behind start a p c (Head h) l = refl
last_behind start a p c (Slot q) l = l

-- and what followed c now follows the place
pub next_behind : (start : Start) (a : Incarnations) (p c : ℕ) (place : At) →
    next_of (becomes start a p (Unlinks c (before_at a place)))
    (before_at (becomes start a p (Unlinks c (before_at a place))) place) ≡ a.next c
next_behind start a p c (Head h) = put_here a.first h (a.next c)
next_behind start a p c (Slot q) = put_here a.next (last_in a q) (a.next c)

-- ---- the node that is taken out

-- the last incarnation of a slot is held and marked, and the marked link that was checked there names its successor
pub record MarkedFacts (a : Incarnations) (s e : ℕ) (known : Option Link) : Type 0 where
  pub held : IsHeldIncarnation a e s (last_in a s)
  pub last : a.last s ≡ Some (last_in a s)
  pub state : a.state (last_in a s) ≡ Marked
  pub next : IsHeldNext a e (next_of_marked known) (a.next (last_in a s))

-- so it is where the link that stands at a place names the slot, and then this incarnation follows the place
marked_facts : {start : Start} {a : Incarnations} → Sound start a →
    (e : ℕ) (notes : List Note) (reads : List Read) (s : ℕ) (place : At) (link : Link) → reads ≡ reads_of notes →
    AllByRecursion (IsGood a e) notes → LinkStands start a e reads place link → link.slot ≡ Some s →
    IsSome (marked_in reads s) →
    MarkedFacts a s e (marked_in reads s) × (next_of a (before_at a place) ≡ Some (last_in a s))
marked_facts {start} {a} snd e notes reads s place link q al m sl k = go (marked_in reads s) refl k
  where
    named : (n : Option ℕ) → next_of a (before_at a place) ≡ n → IsHeldNext a e (Some s) n →
        (c : ℕ) × (next_of a (before_at a place) ≡ Some c) × IsHeldIncarnation a e s c
    named None r h = absurd h
    named (Some c) r h = (c, r, h)

    removed : (of n : Option ℕ) → IsHeldAt a e (Slot s) of → IsFrozen a of n →
        (c : ℕ) × IsHeldIncarnation a e s c × IsRemoved (a.state c) × (a.next c ≡ n)
    removed None n h f = absurd h
    removed (Some c) n h f = (c, h, f.0, f.1)

    both : (st : State) → IsListed st → IsRemoved st → st ≡ Marked
    both st i j = grind arith

    go : (known : Option Link) → marked_in reads s ≡ known → IsSome known →
        MarkedFacts a s e known × (next_of a (before_at a place) ≡ Some (last_in a s))
    go None r k = absurd (cc)
    go (Some y) r k =
        let f = marked_found a e notes s y (rw q at r) al in
        let d = removed f.0 f.1 f.2.place (f.2.frozen f.3) in
        let n = named (next_of a (before_at a place)) refl (rw sl at m.next) in
        let li = m.listed n.0 n.1 in
        let same : d.0 ≡ n.0 =
        one_late snd.slots d.0 n.0 e (d.1.slot ∙ sym n.2.slot) d.1.late n.2.late d.1.birth n.2.birth in
        let la : a.last s ≡ Some n.0 = rw n.2.slot at (listed_last snd.slots n.0 li) in
        let c : last_in a s ≡ n.0 = rw la refl in (
          record {
            held = rw c n.2;
            last = la ∙ ap Some (sym c);
            state = rw c (both (a.state n.0) li (rw same at d.2));
            next = rw (c, ← same, d.3) f.2.next;
          },
          n.1 ∙ ap Some (sym c),
        )

module _ (start : Start) (w : World) (a : Incarnations) (notes : ℕ → Notes) (p : ℕ) (pred : At) (expected s : ℕ)
    (g : Agrees start w a notes) (ok : Accepts start (w.know p) (Unlink pred expected s))
    (m : LinkStands start a (w.know p).epoch (w.know p).checked pred (link_of expected)) where
  taken : MarkedFacts a s (w.know p).epoch (marked_in (w.know p).checked s) ×
      (next_of a (before_at a pred) ≡ Some (last_in a s))
  taken = marked_facts g.sound (w.know p).epoch (notes p).checked (w.know p).checked s pred (link_of expected)
      (g.knows p).checked_reads (g.knows p).checked m ok.in_range.1 ok.held.1

  pub facts : MarkedFacts a s (w.know p).epoch (marked_in (w.know p).checked s)
  facts = taken.0

  -- what the step adds to the chronicle is allowed
  pub may_unlink : Allowed start (opening_keys start) a p (Unlinks (last_in a s) (before_at a pred))
  may_unlink = (facts.state, m.is_open, taken.1)

  -- the link that the step writes, in the incarnations' terms
  pub link_is : link_written (w.know p) (Unlink pred expected s)
      ≡ link_to_next a (birth_there a pred) (a.next (last_in a s))
  link_is =
      let v = next_of_marked (marked_in (w.know p).checked s) in
      let sl = slot_of_is a (w.know p).epoch v (a.next (last_in a s)) facts.next in
      let pb = m.birth ok.held.2 in
      let nb = birth_of_is g.sound.slots (w.know p).epoch (notes p).checked (w.know p).checked v (a.next (last_in a s))
      (g.knows p).checked_reads (g.knows p).checked facts.next ok.held.3 in
      λ i. record { slot = sl i; mark = false; version = max (pb i) (nb i) }

  -- it is that of the image after it
  pub new_link : link_shown_at (becomes start a p (Unlinks (last_in a s) (before_at a pred))) pred
      ≡ link_written (w.know p) (Unlink pred expected s)
  new_link = unlinked_here start a p (last_in a s) pred m.last m.is_open facts.state ∙ sym link_is

  -- and elsewhere no link changes
  pub old_links : (place : At) → place ≢ pred →
      link_shown_at (becomes start a p (Unlinks (last_in a s) (before_at a pred))) place ≡ link_shown_at a place
  old_links = unlinked_there g.sound p (last_in a s) pred m.last facts.state

  pub gr : Grows a (becomes start a p (Unlinks (last_in a s) (before_at a pred)))
  gr = grows start (opening_keys start) a p (Unlinks (last_in a s) (before_at a pred)) g.sound may_unlink
