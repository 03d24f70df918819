-- The step that marks a node keeps the agreement.
use Rattle.std.proofs.Common.{◌≡◌, ℕ, true, false, [], ◌∷◌, ◌++◌, Option, Some, refl, arith, sym, ap, ◌∙◌, inl, inr}
use Rattle.std.specs.Prelude.{◌⊎◌, ◌==◌, unwrap_or}
use Rattle.std.proofs.lemmas.Bool.{cases_Bool, eqb-true}
use Rattle.vbr_machine.specs.Start.{Start}
use Rattle.vbr_words.specs.Words.{word_of, link_of}
use Rattle.vbr_words.specs.declared.link.Link.{Link}
use Rattle.vbr_words.specs.declared.place.At.{At}
use Rattle.vbr_words.specs.declared.place.At.TheVariants.{Slot}
use Rattle.vbr_machine.specs.Put.{put}
use Rattle.vbr_machine.specs.Opened.{opening_keys, payload_kept}
use Rattle.vbr_machine.specs.Links.{marked}
use Rattle.vbr_machine.specs.Knowledge.{key_in, value_in}
use Rattle.vbr_machine.specs.Acceptance.{Accepts}
use Rattle.vbr_machine.specs.Learning.{with_checked}
use Rattle.vbr_machine.specs.Machine.{World}
use Rattle.vbr_machine.specs.Incarnations.{State, Linked, Marked, Incarnations, last_in, payload_of}
use Rattle.vbr_machine.specs.Images.{link_to_next, link_in_state, link_shown, link_shown_at}
use Rattle.vbr_machine.specs.Chronicles.{Removes, becomes}
use Rattle.vbr_machine.specs.Sound.{IsListed, PlaceFits}
use Rattle.vbr_machine.specs.Notes.{Notes, with_won}
use Rattle.vbr_machine.specs.Agreement.{IsNotOf, IsGoodLink, Agrees}
use Rattle.vbr_machine.specs.declared.history.Op.TheVariants.{Remove}
use Rattle.vbr_machine.specs.declared.event.Step.TheVariants.{Mark}
use Rattle.vbr_machine.specs.declared.knowledge.Read.TheVariants.{LinkAt}
use Rattle.vbr_machine.specs.declared.knowledge.SlotPlace.{SlotPlace}
use Rattle.vbr_machine.specs.declared.knowledge.SlotPlace.TheVariants.{Shared, Own, Hand, Listed}
use Rattle.vbr_machine.proofs.words.Puts.{put_here, put_other}
use Rattle.vbr_machine.proofs.chronicles.Growth.{grows}
use Rattle.vbr_machine.proofs.reads.HeldReads.{stays_held, stays_next}
use Rattle.vbr_machine.proofs.reads.Searches.{key_is, value_is}
use Rattle.vbr_machine.proofs.steps.LoadSteps.{link_read}
use Rattle.vbr_machine.proofs.reads.Noted.{knows_on, knows_put, noted_checked}
use Rattle.vbr_machine.proofs.reads.OwnSlots.{not_owned, owns_changed, lasts_differ, untouched_in}
use Rattle.vbr_machine.proofs.chronicles.Shown.{fits_kept, to_next_same, linked_same, link_kept, key_kept, value_kept}
use Rattle.vbr_machine.proofs.chronicles.Shown.{birth_kept}
use Rattle.vbr_machine.proofs.reads.ValueReads.{known_kept}
use Rattle.vbr_machine.proofs.reads.StandingLinks.{LinkStands, link_stands}
use Rattle.vbr_machine.proofs.steps.Steps.{StepAgrees, agrees_next, agrees_still, at_put}

-- the slot of a listed incarnation is no pass's
pub listed_not_of : (start : Start) (place : SlotPlace) (st : State) (key : ℕ) → PlaceFits start place st key →
    IsListed st → (q : ℕ) → IsNotOf q place
listed_not_of start Shared st key f l q = tt
listed_not_of start (Listed b) st key f l q = tt
listed_not_of start (Own p) st key f l q = absurd (grind arith)
listed_not_of start (Hand p) st key f l q = absurd (grind arith)

-- the same link, of the same incarnation by another name
pub of_as : (a : Incarnations) (place : At) (e : ℕ) (l : Link) (of off names : Option ℕ) → of ≡ off →
    IsGoodLink a e place l off names → IsGoodLink a e place l of names
of_as a place e l of off names o h = rw o h

pub step_mark : (start : Start) (w : World) (a : Incarnations) (notes : ℕ → Notes) (p s expected : ℕ) →
    Agrees start w a notes → Accepts start (w.know p) (Mark s expected) → StepAgrees start w a notes p (Mark s expected)
step_mark start w a notes p s expected g ok = go (cases_Bool (word_of (w.link s) == expected))
  where
    won : (link : Link) → LinkStands start a (w.know p).epoch (w.know p).checked (Slot s) link →
        link_shown_at a (Slot s) ≡ link → (key : ℕ) → key ≡ a.key (last_in a s) → (value : Option ℕ) →
        value ≡ payload_of start a (last_in a s) →
        Agrees start
        (record w {
          know = put w.know p (with_checked (w.know p) (LinkAt (Slot s) (marked link) ∷ []));
          link = put w.link s (marked link);
          calls = w.calls ++ record { who = p; op = Remove; key = key; reply = true; value = value } ∷ [];
        })
        (becomes start a p (Removes (last_in a s)))
        (put notes p
        (with_won (becomes start a p (Removes (last_in a s))) (notes p) (LinkAt (Slot s) (marked link) ∷ [])))
    won link m e key k value l =
        let c = last_in a s in
        let b = becomes start a p (Removes c) in
        let i = g.image in
        let reads = LinkAt (Slot s) (marked link) ∷ [] in
        let x = with_checked (w.know p) reads in
        let v = record w {
          know = put w.know p x;
          link = put w.link s (marked link);
          calls = w.calls ++ record { who = p; op = Remove; key = key; reply = true; value = value } ∷ [];
        } in
        let al : a.state c ≡ Linked = m.is_open in
        let last : a.last s ≡ Some c = m.last in
        let shown : link ≡ link_to_next a (a.birth c) (a.next c) =
        sym e ∙ ap (link_shown a) last ∙ ap (link_in_state a c) al in
        let new : marked link ≡ link_shown b (a.last s) =
        ap marked (shown ∙ sym (linked_same a b refl refl c refl))
        ∙ ap (link_in_state b c) (sym (put_here a.state c Marked)) ∙ ap (link_shown b) (sym last) in
        let gr = grows start (opening_keys start) a p (Removes c) g.sound al in
        let le = (g.knows p).epoch in
        let away = listed_not_of start (a.place s) (a.state c) (a.key c) (g.sound.slots.placed c s last) (rw al tt) in
        let kn = knows_on g.sound gr w.know notes g.knows in
        agrees_next start w v a notes (put notes p (with_won b (notes p) reads)) p (Removes c) g al
        (fits_kept a b refl refl refl refl g.fits)
        (record {
          epoch = i.epoch;
          head = λ j. i.head j ∙ sym (to_next_same a b refl refl 0 (a.first j));
          link = at_put (λ j y. y ≡ link_shown b (a.last j)) w.link s (marked link) new
              (λ j ne. i.link j
              ∙ sym (link_kept a b refl refl (a.last j)
              (λ d f. (put_other a.state c Marked d (lasts_differ g.sound.slots j s c d ne last f), refl, refl))));
          birth = λ j. i.birth j ∙ sym (birth_kept a b (a.last j) (λ d _. refl));
          key = λ j. i.key j ∙ sym (key_kept a b (a.last j) (λ d _. refl));
          value = λ j. i.value j ∙ sym (value_kept a b (a.last j) (λ d _. refl));
          stamp = i.stamp;
          place = i.place;
        })
        (knows_put b w.know notes p x (with_won b (notes p) reads) kn
        (noted_checked b (w.know p) (notes p) reads (kn p) (ap (LinkAt (Slot s)) new, tt) (
          of_as b (Slot s) (w.know p).epoch (marked link) (a.last s) (Some c) (a.next c) last (record {
            version = m.version;
            place = stays_held g.sound gr (w.know p).epoch s c le m.held;
            next = stays_next g.sound gr (w.know p).epoch link.slot (a.next c) le m.next;
            frozen = λ z. (rw (put_here a.state c Marked) tt, refl);
          }),
          tt,
        )))
        (owns_changed a b w.know p s x refl (λ j ne. refl) (λ q ne. away q) (λ q ne. away q)
        (λ j ne. record {
          place = refl;
          last = refl;
          stamp = refl;
          untouched = untouched_in a b
              (λ d f. put_other a.state c Marked d (lasts_differ g.sound.slots j s c d ne last f));
        })
        (rw (not_owned a p (w.know p).epoch ((w.know p).own s) (a.place s) (a.last s) (a.stamp s) (g.owns p s) (away p))
        (away p))
        g.owns)
        (ap (λ calls. calls ++ record { who = p; op = Remove; key = key; reply = true; value = value } ∷ []) g.calls
        ∙ (λ i. a.calls ++ record { who = p; op = Remove; key = k i; reply = true; value = l i } ∷ []))
        g.births

    go : ((word_of (w.link s) == expected) ≡ true) ⊎ ((word_of (w.link s) == expected) ≡ false) →
        StepAgrees start w a notes p (Mark s expected)
    go (inr f) = rw f (tt, agrees_still start w a notes p g)
    go (inl t) =
        let e = eqb-true (word_of (w.link s)) expected t in
        let m = link_stands start w a notes p g (Slot s) expected ok.held.0 ok.in_range e in
        let k : unwrap_or (key_in (w.know p).checked s) 0 ≡ a.key (last_in a s) =
        key_is g.sound.slots (w.know p).epoch (notes p).checked (w.know p).checked s (last_in a s)
        (g.knows p).checked_reads (g.knows p).checked m.held ok.held.1 in
        let l : payload_kept start (value_in (w.know p).checked s) ≡ payload_of start a (last_in a s) =
        known_kept start.shape.values (value_in (w.know p).checked s) (a.value (last_in a s)) ok.held.2
        (value_is g.sound.slots (w.know p).epoch (notes p).checked (w.know p).checked s (last_in a s)
        (g.knows p).checked_reads (g.knows p).checked m.held) in
        rw t (
          (m.is_open, tt),
          won (link_of expected) m (sym (link_read g (Slot s)) ∙ ap link_of e)
              (unwrap_or (key_in (w.know p).checked s) 0) k (payload_kept start (value_in (w.know p).checked s)) l,
        )
