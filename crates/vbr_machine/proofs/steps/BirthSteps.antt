-- The steps that stamp a slot or give birth in one.
use Rattle.std.proofs.Common.{◌≡◌, ◌≢◌, ℕ, ◌+◌, ◌<◌, ◌≤◌, false, Option, Some, None, refl, arith, sym, ap, ◌∙◌}
use Rattle.vbr_machine.specs.Start.{Start}
use Rattle.vbr_words.specs.Links.{IsLinkOf}
use Rattle.vbr_machine.specs.Put.{put}
use Rattle.vbr_machine.specs.Opened.{opening_keys}
use Rattle.vbr_machine.specs.Links.{marked}
use Rattle.vbr_machine.specs.Acceptance.{Accepts, MayBear, stamp_in}
use Rattle.vbr_machine.specs.Learning.{with_own, newborn}
use Rattle.vbr_machine.specs.Machine.{World, after, counted}
use Rattle.vbr_machine.specs.Incarnations.{State, Unborn, Linked, Marked, GivenUp, Stamped, Incarnations, IsLate}
use Rattle.vbr_machine.specs.Incarnations.{last_in}
use Rattle.vbr_machine.specs.Incarnations as state
use Rattle.vbr_machine.specs.Images.{birth_shown, key_shown, value_shown, link_shown, link_in_state, link_to_next}
use Rattle.vbr_machine.specs.Chronicles.{Allowed, GivesUp, Bears, Stamps, becomes, unlinked_at}
use Rattle.vbr_machine.specs.Notes.{Notes}
use Rattle.vbr_machine.specs.Agreement.{OwnFits, Agrees}
use Rattle.vbr_words.specs.declared.place.At.TheVariants.{Slot}
use Rattle.vbr_machine.specs.declared.event.Step.TheVariants.{StoreStamp, StoreBirth}
use Rattle.vbr_machine.specs.declared.knowledge.Holding.{Holding}
use Rattle.vbr_machine.specs.declared.knowledge.Holding.TheVariants.{Free, Unlinked, InHand}
use Rattle.vbr_machine.specs.declared.knowledge.SlotPlace.TheVariants.{Hand}
use Rattle.vbr_machine.proofs.words.Puts.{put_here, put_other}
use Rattle.vbr_machine.proofs.chronicles.Slots.{late_born, listed_late}
use Rattle.vbr_machine.proofs.chronicles.SoundAfter.{sound_kept}
use Rattle.vbr_machine.proofs.chronicles.ToldCalls.{tells_kept}
use Rattle.vbr_machine.proofs.chronicles.Growth.{grows}
use Rattle.vbr_machine.proofs.reads.Noted.{knows_on, knows_own}
use Rattle.vbr_machine.proofs.steps.GivingUp.{AgreesAway, moved_link, free_away, given_up}
use Rattle.vbr_machine.proofs.reads.OwnSlots.{owns_moved, owns_changed, lasts_differ, untouched_in}
use Rattle.vbr_machine.proofs.chronicles.Shown.{image_words, fits_kept, key_kept, value_kept, birth_kept, image_fits}
use Rattle.vbr_machine.proofs.steps.Steps.{StepAgrees, agrees_owned, puts_same, at_put, hand_facts, unlinked_facts}
use Rattle.vbr_machine.proofs.steps.Steps.{own_not_of, hand_not_of}

pub step_store_stamp : (start : Start) (w : World) (a : Incarnations) (notes : ℕ → Notes) (p s stamp : ℕ) →
    Agrees start w a notes → Accepts start (w.know p) (StoreStamp s stamp) →
    StepAgrees start w a notes p (StoreStamp s stamp)
step_store_stamp start w a notes p s stamp g ok =
    let x = unlinked_facts a p s (w.know p).epoch ((w.know p).own s) (g.owns p s) ok.owned in
    let c = last_in a s in
    let b = becomes start a p (Stamps c stamp) in
    let v = after start w p (StoreStamp s stamp) in
    let slot : a.slot c ≡ s = (g.sound.slots.last_born s c x.last).1 in
    let al : Allowed start (opening_keys start) a p (Stamps c stamp) =
    rw x.state (
      refl,
      (let y = x.seen ok.in_range.0 in let z = ok.in_range.1 in omega arith),
      (let y = (g.knows p).epoch in let z = ok.in_range.1 in omega arith),
    ) in (
      (al, tt),
      agrees_owned start w v a notes p (Stamps c stamp) s (Some (Free stamp)) g al
          (fits_kept a b refl refl refl refl g.fits)
          (image_words w v a b g.image refl refl refl refl refl refl refl refl refl refl
          (λ k. g.image.link k
          ∙ moved_link a b c s refl refl refl refl refl
          (λ d ne. put_other a.state c (Stamped (unlinked_at (a.state c)) stamp) d ne) x.last
          (λ y d ne e. lasts_differ g.sound.slots y s c d ne x.last e)
          (ap (link_in_state b c) (put_here a.state c (Stamped (unlinked_at (a.state c)) stamp))
          ∙ ap (link_in_state b c) (sym x.state)) k)
          (λ k. g.image.key k ∙ sym (key_kept a b (a.last k) (λ d _. refl)))
          (λ k. g.image.value k ∙ sym (value_kept a b (a.last k) (λ d _. refl)))
          (λ k. rw slot (puts_same w.stamp a.stamp s stamp g.image.stamp k))) refl
          (owns_changed a b w.know p s (with_own (w.know p) s (Some (Free stamp))) refl
          (λ k ne. put_other (w.know p).own s (Some (Free stamp)) k ne) (own_not_of p (a.place s) x.place)
          (own_not_of p (a.place s) x.place)
          (λ k ne. record {
            place = refl;
            last = refl;
            stamp = put_other a.stamp (a.slot c) stamp k (λ e. ne (e ∙ slot));
            untouched = untouched_in a b
                (λ d e. put_other a.state c (Stamped (unlinked_at (a.state c)) stamp) d
                (lasts_differ g.sound.slots k s c d ne x.last e));
          })
          (rw (put_here (w.know p).own s (Some (Free stamp))) (
            x.place,
            rw x.last (rw (put_here a.state c (Stamped (unlinked_at (a.state c)) stamp)) tt),
            rw slot (put_here a.stamp s stamp),
          ))
          g.owns)
          g.calls g.births,
    )

-- ---- births

-- the world once a birth was stored
abbrev born_world : World → ℕ → ℕ → ℕ → ℕ → World
born_world w p s birth stamp =
    record w {
      know = put w.know p (with_own (w.know p) s (Some (InHand (newborn stamp birth))));
      birth = put w.birth s birth;
      place = put w.place s (Hand p);
      births = counted w.births;
    }

born : (start : Start) (w : World) (a : Incarnations) (notes : ℕ → Notes) (p s birth stamp : ℕ) →
    AgreesAway start w a notes p s → birth ≤ (w.know p).epoch → s < start.shape.slots → a.stamp s ≡ stamp →
    Allowed start (opening_keys start) a p (Bears s birth) →
    Agrees start (born_world w p s birth stamp) (becomes start a p (Bears s birth)) (put notes p (notes p))
born start w a notes p s birth stamp g le in_shape es al =
    let z = becomes start a p (Bears s birth) in
    let c = a.count in
    let i = g.image in
    let own = Some (InHand (newborn stamp birth)) in
    record {
      sound = sound_kept start (opening_keys start) a p (Bears s birth) g.sound al;
      tells = tells_kept start a p (Bears s birth) g.sound g.tells al;
      fits = record {
        is_start = g.fits.is_start;
        epoch = g.fits.epoch;
        slot = at_put (λ d y. d < a.count + 1 → y < start.shape.slots) a.slot c s (λ _. in_shape)
            (λ d ne lt. g.fits.slot d (grind arith));
        link = at_put (λ d y. IsLinkOf start.shape y) a.link c (link_shown a (a.last s))
            (image_fits g.sound g.fits (Slot s))
            (λ d ne. g.fits.link d);
      };
      image = record {
        epoch = i.epoch;
        head = λ k. i.head k ∙ sym (to_same 0 (a.first k) (first_old k));
        link = at_put (λ k l. w.link k ≡ link_shown z l) a.last s (Some c)
            (i.link s ∙ sym (put_here a.link c (link_shown a (a.last s)))
            ∙ ap (link_in_state z c) (sym (put_here a.state c (state.InHand p))))
            (λ k ne. i.link k ∙ sym (of_old (a.last k) (old k)));
        birth = at_put (λ k l. put w.birth s birth k ≡ birth_shown z l) a.last s (Some c)
            (put_here w.birth s birth ∙ sym (put_here a.birth c birth))
            (λ k ne. put_other w.birth s birth k ne ∙ i.birth k
            ∙ sym (birth_kept a z (a.last k) (λ d e. put_other a.birth c birth d (old k d e))));
        key = at_put (λ k l. w.key k ≡ key_shown z l) a.last s (Some c)
            (i.key s ∙ sym (put_here a.key c (key_shown a (a.last s))))
            (λ k ne. i.key k
            ∙ sym (key_kept a z (a.last k) (λ d e. put_other a.key c (key_shown a (a.last s)) d (old k d e))));
        value = at_put (λ k l. w.value k ≡ value_shown z l) a.last s (Some c)
            (i.value s ∙ sym (put_here a.value c (value_shown a (a.last s))))
            (λ k ne. i.value k
            ∙ sym (value_kept a z (a.last k) (λ d e. put_other a.value c (value_shown a (a.last s)) d (old k d e))));
        stamp = i.stamp;
        place = puts_same w.place a.place s (Hand p) i.place;
      };
      knows = knows_own z w.know notes p s own
          (knows_on g.sound (grows start (opening_keys start) a p (Bears s birth) g.sound al) w.know notes g.knows);
      owns = owns_moved a z w.know p s (with_own (w.know p) s own) refl (λ k ne. put_other (w.know p).own s own k ne)
          g.others
          (hand_not_of p (put a.place s (Hand p) s) (put_here a.place s (Hand p)))
          (λ k ne. record {
            place = put_other a.place s (Hand p) k ne;
            last = put_other a.last s (Some c) k ne;
            stamp = refl;
            untouched = λ d e. let nd = old k d e in record {
              state = put_other a.state c (state.InHand p) d nd;
              birth = put_other a.birth c birth d nd;
              key = put_other a.key c (key_shown a (a.last s)) d nd;
              is_keyed = put_other a.is_keyed c false d nd;
              value = put_other a.value c (value_shown a (a.last s)) d nd;
              is_valued = put_other a.is_valued c false d nd;
              link = put_other a.link c (link_shown a (a.last s)) d nd;
              is_aimed = put_other a.is_aimed c false d nd;
            };
          })
          (rw (put_here (w.know p).own s own) (
            put_here a.place s (Hand p),
            record {
              node = c;
              last_is = put_here a.last s (Some c);
              state = put_here a.state c (state.InHand p);
              born = rw (put_here a.birth c birth) le;
              birth_is = put_here a.birth c birth;
              keyed = put_here a.is_keyed c false;
              valued = put_here a.is_valued c false;
              aimed = put_here a.is_aimed c false;
            },
            es,
          ))
          g.away;
      calls = g.calls;
      births = let u = g.births in omega arith;
    }
  where
    old : (v d : ℕ) → a.last v ≡ Some d → d ≢ a.count
    old v d e q = let x = (g.sound.slots.last_born v d e).0 in omega arith

    first_old : (v m : ℕ) → a.first v ≡ Some m → m ≢ a.count
    first_old v m e q =
        let x = late_born g.sound.slots m 0 (listed_late (a.state m) 0 (g.sound.lists.first_in v m e).0) in omega arith

    next_old : (d : ℕ) → IsLate (a.state d) 0 → (m : ℕ) → a.next d ≡ Some m → m ≢ a.count
    next_old d l m e q = let x = late_born g.sound.slots m 0 (g.sound.lists.handed d m 0 e l) in omega arith

    to_same : (h : ℕ) (o : Option ℕ) → ((m : ℕ) → o ≡ Some m → m ≢ a.count) →
        link_to_next (becomes start a p (Bears s birth)) h o ≡ link_to_next a h o
    to_same h None k = refl
    to_same h (Some m) k =
        rw (put_other a.slot a.count s m (k m refl), put_other a.birth a.count birth m (k m refl)) refl

    shown : (d : ℕ) → d ≢ a.count → IsLate (a.state d) 0 →
        link_to_next (becomes start a p (Bears s birth)) ((becomes start a p (Bears s birth)).birth d)
        ((becomes start a p (Bears s birth)).next d) ≡ link_to_next a (a.birth d) (a.next d)
    shown d ne l =
        ap (λ o. link_to_next (becomes start a p (Bears s birth)) ((becomes start a p (Bears s birth)).birth d) o)
        (put_other a.next a.count None d ne)
        ∙ to_same ((becomes start a p (Bears s birth)).birth d) (a.next d) (next_old d l)
        ∙ ap (λ h. link_to_next a h (a.next d)) (put_other a.birth a.count birth d ne)

    link_old : (d : ℕ) → d ≢ a.count → (st : State) → a.state d ≡ st →
        link_in_state (becomes start a p (Bears s birth)) d st ≡ link_in_state a d st
    link_old d ne Linked e = shown d ne (rw e tt)
    link_old d ne Marked e = ap marked (shown d ne (rw e tt))
    link_old d ne (state.Unlinked q u) e = ap marked (shown d ne (rw e (omega arith)))
    link_old d ne (Stamped u r) e = ap marked (shown d ne (rw e (omega arith)))
    link_old d ne Unborn e = put_other a.link a.count (link_shown a (a.last s)) d ne
    link_old d ne (state.InHand q) e = put_other a.link a.count (link_shown a (a.last s)) d ne
    link_old d ne GivenUp e = put_other a.link a.count (link_shown a (a.last s)) d ne

    of_old : (l : Option ℕ) → ((d : ℕ) → l ≡ Some d → d ≢ a.count) →
        link_shown (becomes start a p (Bears s birth)) l ≡ link_shown a l
    of_old None k = refl
    of_old (Some d) k =
        ap (link_in_state (becomes start a p (Bears s birth)) d)
        (put_other a.state a.count (state.InHand p) d (k d refl)) ∙ link_old d (k d refl) (a.state d) refl

pub step_store_birth : (start : Start) (w : World) (a : Incarnations) (notes : ℕ → Notes) (p s birth : ℕ) →
    Agrees start w a notes → Accepts start (w.know p) (StoreBirth s birth) →
    StepAgrees start w a notes p (StoreBirth s birth)
step_store_birth start w a notes p s birth g ok = go ((w.know p).own s) refl ok.owned (g.owns p s) ok.in_range.1
  where
    low : birth ≤ (w.know p).epoch
    low = let y = ok.in_range.0 in omega arith

    below : birth ≤ a.epoch
    below = let x = (g.knows p).epoch in let y = ok.in_range.0 in omega arith

    go : (holding : Option Holding) → (w.know p).own s ≡ holding → MayBear holding →
        OwnFits a p (w.know p).epoch holding (a.place s) (a.last s) (a.stamp s) → stamp_in holding < birth →
        StepAgrees start w a notes p (StoreBirth s birth)
    go None e o h lt = absurd o
    go (Some (Unlinked seen)) e o h lt = absurd o
    go (Some (Free stamp)) e o h lt =
        let al : Allowed start (opening_keys start) a p (Bears s birth) =
        (rw h.0 (refl, h.1), (let u = h.2 in omega arith), below) in
        rw e (
          (al, tt),
          born start w a notes p s birth stamp (free_away start w a notes p s g h.0) low ok.in_shape h.2 al,
        )
    go (Some (InHand known)) e o h lt =
        let x = hand_facts a p s (w.know p).epoch (Some (InHand known)) h tt in
        let y = given_up start w a notes p s g x.last x.state x.place in
        let al : Allowed start (opening_keys start) (becomes start a p (GivesUp (last_in a s))) p (Bears s birth) =
        (rw (x.place, x.last) (refl, put_here a.state (last_in a s) GivenUp), (let u = h.2 in omega arith), below) in
        rw e (
          (x.state, (al, tt)),
          born start w (becomes start a p (GivesUp (last_in a s))) notes p s birth known.stamp y low ok.in_shape h.2 al,
        )
