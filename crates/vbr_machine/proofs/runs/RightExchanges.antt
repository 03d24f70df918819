-- A won exchange of a link is right.
-- It names the last incarnations of their slots, and what it adds is lawful.
use Rattle.std.proofs.Common.{◌≡◌, ◌≢◌, ℕ, Bool, true, false, cond, List, [], ◌∷◌, Option, Some, None, refl, sym, ap}
use Rattle.std.proofs.Common.{◌∙◌, inl, inr}
use Rattle.std.specs.Prelude.{◌==◌, ◌&&◌}
use Rattle.std.proofs.lemmas.Bool.{cases_Bool, eq-eqb, eqb-true, and_parts}
use Rattle.vbr_machine.specs.Start.{Start}
use Rattle.vbr_words.specs.Words.{word_of, link_of}
use Rattle.vbr_words.specs.declared.link.Link.{Link}
use Rattle.vbr_words.specs.declared.place.At.{At}
use Rattle.vbr_words.specs.declared.place.At.TheVariants.{Head, Slot}
use Rattle.vbr_machine.specs.Put.{put}
use Rattle.vbr_machine.specs.Links.{same_link}
use Rattle.vbr_machine.specs.Knowledge.{same_at, knows_link, names, holds}
use Rattle.vbr_machine.specs.Acceptance.{Accepts}
use Rattle.vbr_machine.specs.Learning.{effect_of}
use Rattle.vbr_machine.specs.Opened.{opening_keys}
use Rattle.vbr_machine.specs.Machine as machine
use Rattle.vbr_machine.specs.Machine.{World, found}
use Rattle.vbr_machine.specs.Incarnations.{Incarnations, last_in}
use Rattle.vbr_machine.specs.Incarnations as state
use Rattle.vbr_machine.specs.Chronicles.{IsLawful, next_of}
use Rattle.vbr_machine.specs.Notes.{Notes, before_at, HoldsLast, HoldsLastAt, HoldsLastNext, HoldsNext}
use Rattle.vbr_machine.specs.Accounts.{TakesHeldNext, IsRightExchange, happens_if_found}
use Rattle.vbr_machine.specs.Agreement.{IsHeldIncarnation, IsHeldNext, Agrees}
use Rattle.vbr_machine.specs.Safety.{ExchangesLink}
use Rattle.vbr_machine.specs.declared.event.Effect.TheVariants.{Won, Lost}
use Rattle.vbr_machine.specs.declared.event.Step.{Step}
use Rattle.vbr_machine.specs.declared.event.Step.TheVariants.{Publish, Mark, Replace, Unlink}
use Rattle.vbr_machine.specs.declared.knowledge.Read.{Read}
use Rattle.vbr_machine.specs.declared.knowledge.Read.TheVariants.{LinkAt, BirthOf, KeyOf, ValueOf}
use Rattle.vbr_machine.proofs.words.Puts.{put_here, put_other}
use Rattle.vbr_machine.proofs.chronicles.Slots.{listed_last}
use Rattle.vbr_machine.proofs.reads.FoundReads.{same_link_true}
use Rattle.vbr_machine.proofs.reads.StandingLinks.{LinkStands, link_stands}
use Rattle.vbr_machine.proofs.runs.EveryRun.{step_agrees}
use Rattle.vbr_machine.proofs.reads.HeldSlots.{ReadsHeldPlaces, link_held}
use Rattle.vbr_machine.proofs.reads.RightReads.{holds_just}

won : (b : Bool) (n : ℕ) → cond b Won (Lost n) ≡ Won → b ≡ true
won true n e = refl
won false n e = absurd (cc)

-- what a checked link names is held
link_names : (reads : List Read) (place : At) (link : Link) (t : ℕ) → knows_link reads place link ≡ true →
    link.slot ≡ Some t → holds reads t ≡ true
link_names [] place link t h e = absurd (cc)
link_names (BirthOf v b ∷ reads) place link t h e = link_names reads place link t h e
link_names (KeyOf v b ∷ reads) place link t h e = link_names reads place link t h e
link_names (ValueOf v b ∷ reads) place link t h e = link_names reads place link t h e
link_names (LinkAt here seen ∷ reads) place link t h e = elim (cases_Bool (names seen.slot t)) [
  | inl k ↦ rw k refl
  | inr k ↦ rw k (elim (cases_Bool (same_at here place && same_link seen link)) [
    | inl z ↦
        let u = and_parts (same_at here place) (same_link seen link) z in
        let q : seen.slot ≡ Some t = ap (λ (l : Link). l.slot) (same_link_true seen link u.1) ∙ e in
        absurd (let y : names (Some t) t ≡ false = rw q at k in let x : (t == t) ≡ true = eq-eqb t t refl in cc)
    | inr z ↦ link_names reads place link t (rw z at h) e
  ])
]

module _ (start : Start) (w : World) (a : Incarnations) (notes : ℕ → Notes) (p : ℕ) (g : Agrees start w a notes)
    (r : ReadsHeldPlaces (w.know p)) where
  -- the incarnation that the pass holds at a slot is the slot's last
  holds_last : (s : ℕ) → holds (w.know p).checked s ≡ true → IsHeldIncarnation a (w.know p).epoch s (last_in a s) →
      a.last s ≡ Some (last_in a s) → HoldsLast a (notes p).checked s
  holds_last s q h l = (
    last_in a s,
    holds_just g.sound (w.know p).epoch (notes p).checked (g.knows p).checked s (last_in a s)
        (rw (g.knows p).checked_reads at q) h,
    l,
  )

  -- behind which the exchange is made
  last_behind : (place : At) (link : Link) → knows_link (w.know p).checked place link ≡ true →
      LinkStands start a (w.know p).epoch (w.know p).checked place link → HoldsLastAt a (notes p).checked place
  last_behind (Head b) link k m = tt
  last_behind (Slot s) link k m =
      holds_last s (link_held (w.know p).checked (w.know p).checked (Slot s) link r.checked k) m.held m.last

  -- and which the link names
  last_named : (place : At) (link : Link) → knows_link (w.know p).checked place link ≡ true →
      LinkStands start a (w.know p).epoch (w.know p).checked place link → HoldsLastNext a (notes p).checked link.slot
  last_named place link k m = go link.slot refl (next_of a (before_at a place)) refl m.next
    where
      go : (o : Option ℕ) → link.slot ≡ o → (n : Option ℕ) → next_of a (before_at a place) ≡ n →
          IsHeldNext a (w.know p).epoch o n → HoldsLastNext a (notes p).checked o
      go None e n f h = tt
      go (Some t) e None f h = absurd h
      go (Some t) e (Some c) f h =
          let l : a.last t ≡ Some c = rw h.slot at (listed_last g.sound.slots c (m.listed c f)) in
          let d : last_in a t ≡ c = rw l refl in
          holds_last t (link_names (w.know p).checked place link t k e) (rw d h) (l ∙ ap Some (sym d))

  -- what the link names is the successor
  next_held : (place : At) (link : Link) → knows_link (w.know p).checked place link ≡ true →
      LinkStands start a (w.know p).epoch (w.know p).checked place link →
      HoldsNext (notes p).checked link.slot (next_of a (before_at a place))
  next_held place link k m = go link.slot refl (next_of a (before_at a place)) m.next
    where
      go : (o : Option ℕ) → link.slot ≡ o → (n : Option ℕ) → IsHeldNext a (w.know p).epoch o n →
          HoldsNext (notes p).checked o n
      go None e None h = refl
      go None e (Some c) h = absurd h
      go (Some t) e None h = absurd h
      go (Some t) e (Some c) h = (
        c,
        holds_just g.sound (w.know p).epoch (notes p).checked (g.knows p).checked t c
            (rw (g.knows p).checked_reads at (link_names (w.know p).checked place link t k e)) h,
        refl,
      )

  -- which a publication gives its incarnation
  publication_next : (pred : At) (expected s : ℕ) → knows_link (w.know p).checked pred (link_of expected) ≡ true →
      LinkStands start a (w.know p).epoch (w.know p).checked pred (link_of expected) →
      a.state (last_in a s) ≡ state.InHand p → TakesHeldNext start w a (notes p) p (Publish pred expected s)
  publication_next (Head b) expected s k m i =
      rw (put_here a.next (last_in a s) (a.first b)) (next_held (Head b) (link_of expected) k m)
  publication_next (Slot q) expected s k m i =
      let ne : last_in a s ≢ last_in a q =
      λ e. (let x : state.InHand p ≡ state.Linked = sym i ∙ ap a.state e ∙ m.is_open in cc) in
      rw (put_other (put a.next (last_in a s) (a.next (last_in a q))) (last_in a q) (Some (last_in a s)) (last_in a s)
      ne ∙ put_here a.next (last_in a s) (a.next (last_in a q))) (next_held (Slot q) (link_of expected) k m)

  -- and so does a replacement
  replacement_next : (s expected t : ℕ) → knows_link (w.know p).checked (Slot s) (link_of expected) ≡ true →
      LinkStands start a (w.know p).epoch (w.know p).checked (Slot s) (link_of expected) →
      a.state (last_in a t) ≡ state.InHand p → TakesHeldNext start w a (notes p) p (Replace s expected t)
  replacement_next s expected t k m i =
      let ne : last_in a t ≢ last_in a s =
      λ e. (let x : state.InHand p ≡ state.Linked = sym i ∙ ap a.state e ∙ m.is_open in cc) in
      rw (put_other (put a.next (last_in a t) (a.next (last_in a s))) (last_in a s) (Some (last_in a t)) (last_in a t)
      ne ∙ put_here a.next (last_in a t) (a.next (last_in a s))) (next_held (Slot s) (link_of expected) k m)

  -- a publication that finds its word is right
  won_publication : (pred : At) (expected s : ℕ) (ok : Accepts start (w.know p) (Publish pred expected s)) →
      word_of (machine.link_at w pred) ≡ expected →
      IsLawful start (opening_keys start) a (happens_if_found start w a p (Publish pred expected s)) →
      IsRightExchange start w a (notes p) p (Publish pred expected s)
  won_publication pred expected s ok stands lawful =
      let m = link_stands start w a notes p g pred expected ok.held.0 ok.in_range.0 stands in
      record {
        names = (last_behind pred (link_of expected) ok.held.0 m, last_named pred (link_of expected) ok.held.0 m);
        lawful = lawful;
        successor = publication_next pred expected s ok.held.0 m lawful.0.in_hand;
      }

  pub right_exchange : (step : Step) → Accepts start (w.know p) step → ExchangesLink step →
      effect_of step (found start w step) ≡ Won → IsRightExchange start w a (notes p) p step
  right_exchange (Publish (Head b) expected s) ok x e =
      let t = won (word_of (w.head b) == expected) _ e in
      let l = (step_agrees start w a notes p (Publish (Head b) expected s) g ok).0 in
      won_publication (Head b) expected s ok (eqb-true (word_of (w.head b)) expected t) (rw t at l)
  right_exchange (Publish (Slot q) expected s) ok x e =
      let t = won (word_of (w.link q) == expected) _ e in
      let l = (step_agrees start w a notes p (Publish (Slot q) expected s) g ok).0 in
      won_publication (Slot q) expected s ok (eqb-true (word_of (w.link q)) expected t) (rw t at l)
  right_exchange (Mark s expected) ok x e =
      let t = won (word_of (w.link s) == expected) _ e in
      let m = link_stands start w a notes p g (Slot s) expected ok.held.0 ok.in_range
      (eqb-true (word_of (w.link s)) expected t) in
      let l = (step_agrees start w a notes p (Mark s expected) g ok).0 in
      record { names = last_behind (Slot s) (link_of expected) ok.held.0 m; lawful = rw t at l; successor = tt }
  right_exchange (Replace s expected t) ok x e =
      let y = won (word_of (w.link s) == expected) _ e in
      let m = link_stands start w a notes p g (Slot s) expected ok.held.0 ok.in_range.0
      (eqb-true (word_of (w.link s)) expected y) in
      let l = (step_agrees start w a notes p (Replace s expected t) g ok).0 in
      let lawful = (rw y at l) in
      record {
        names =
            (last_behind (Slot s) (link_of expected) ok.held.0 m, last_named (Slot s) (link_of expected) ok.held.0 m);
        lawful = lawful;
        successor = replacement_next s expected t ok.held.0 m lawful.0.in_hand;
      }
  right_exchange (Unlink (Head b) expected s) ok x e =
      let t = won (word_of (w.head b) == expected) _ e in
      let m = link_stands start w a notes p g (Head b) expected ok.held.0 ok.in_range.0
      (eqb-true (word_of (w.head b)) expected t) in
      let l = (step_agrees start w a notes p (Unlink (Head b) expected s) g ok).0 in
      record { names = (tt, last_named (Head b) (link_of expected) ok.held.0 m); lawful = rw t at l; successor = tt }
  right_exchange (Unlink (Slot q) expected s) ok x e =
      let t = won (word_of (w.link q) == expected) _ e in
      let m = link_stands start w a notes p g (Slot q) expected ok.held.0 ok.in_range.0
      (eqb-true (word_of (w.link q)) expected t) in
      let l = (step_agrees start w a notes p (Unlink (Slot q) expected s) g ok).0 in
      record {
        names =
            (last_behind (Slot q) (link_of expected) ok.held.0 m, last_named (Slot q) (link_of expected) ok.held.0 m);
        lawful = rw t at l;
        successor = tt;
      }
  right_exchange step ok x e = absurd x
