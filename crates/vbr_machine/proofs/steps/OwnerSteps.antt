-- The steps on a slot that its pass owns, and the taking of a flag, but for stamps and births.
use Rattle.std.proofs.Common.{◌≡◌, ◌≢◌, ℕ, ◌<◌, ◌≤◌, true, Option, Some, None, refl, arith, sym, ap, ◌∙◌}
use Rattle.std.specs.Prelude.{unwrap_or}
use Rattle.vbr_machine.specs.Start.{Start}
use Rattle.vbr_words.specs.Links.{IsLinkOf}
use Rattle.vbr_machine.specs.Put.{put}
use Rattle.vbr_machine.specs.Opened.{opening_keys}
use Rattle.vbr_machine.specs.Links.{link_to}
use Rattle.vbr_machine.specs.Knowledge.{Know, birth_of}
use Rattle.vbr_machine.specs.Acceptance.{Accepts, IsNextIn, MayBear}
use Rattle.vbr_machine.specs.Learning.{with_own, with_key, with_value, with_link, link_written, birth_in_hand}
use Rattle.vbr_machine.specs.Machine.{World, after}
use Rattle.vbr_machine.specs.Incarnations.{State, GivenUp, Incarnations, last_in}
use Rattle.vbr_machine.specs.Images.{key_shown, value_shown, link_shown}
use Rattle.vbr_machine.specs.Chronicles.{IsLastDead, IsDead, Allowed, Gains, Raises, GivesUp, Keyed, Valued, Aims}
use Rattle.vbr_machine.specs.Chronicles.{becomes}
use Rattle.vbr_machine.specs.Sound.{PlaceFits, SlotsSound}
use Rattle.vbr_machine.specs.Notes.{Notes}
use Rattle.vbr_machine.specs.Agreement.{FitsNotes, IsStored, OwnFits, Owns, Fits, Agrees}
use Rattle.vbr_machine.specs.declared.event.Step.TheVariants.{Raise, TakeFlag, StoreKey, StoreValue, StoreLink}
use Rattle.vbr_machine.specs.declared.knowledge.Holding.{Holding}
use Rattle.vbr_machine.specs.declared.knowledge.Holding.TheVariants.{Free, Unlinked, InHand}
use Rattle.vbr_machine.specs.declared.knowledge.Unpublished.{Unpublished}
use Rattle.vbr_machine.specs.declared.knowledge.SlotPlace.{SlotPlace}
use Rattle.vbr_machine.specs.declared.knowledge.SlotPlace.TheVariants.{Shared, Own, Hand, Listed}
use Rattle.vbr_machine.proofs.words.Puts.{put_here, put_other}
use Rattle.vbr_machine.proofs.words.SlotFlags.{flag_told}
use Rattle.vbr_machine.proofs.reads.Searches.{birth_low}
use Rattle.vbr_machine.proofs.chronicles.SoundAfter.{sound_kept}
use Rattle.vbr_machine.proofs.chronicles.ToldCalls.{tells_kept}
use Rattle.vbr_machine.proofs.chronicles.Growth.{grows}
use Rattle.vbr_machine.proofs.reads.Noted.{knows_on, knows_own}
use Rattle.vbr_machine.proofs.steps.GivingUp.{AgreesAway, free_away, given_up}
use Rattle.vbr_machine.proofs.reads.OwnSlots.{IsSlotKept, owns_changed, owns_moved, lasts_differ, untouched_in}
use Rattle.vbr_machine.proofs.chronicles.Shown.{image_kept, image_words, fits_kept, link_kept, key_kept, value_kept}
use Rattle.vbr_machine.proofs.steps.Steps.{StepAgrees, agrees_owned, agrees_still, puts_same, at_put, hand_facts}
use Rattle.vbr_machine.proofs.steps.Steps.{HandFacts, own_not_of, hand_not_of}

-- another slot where only the place of one has changed
moved_beside : (a : Incarnations) (s v : ℕ) (place : SlotPlace) → v ≢ s →
    IsSlotKept a (record a { place = put a.place s place }) v
moved_beside a s v place ne =
    record {
      place = put_other a.place s place v ne;
      last = refl;
      stamp = refl;
      untouched = untouched_in a (record a { place = put a.place s place }) (λ c _. refl);
    }

-- the world once a slot was raised
abbrev raised_world : World → ℕ → ℕ → World
raised_world w p s = record w { know = put w.know p (with_own (w.know p) s None); place = put w.place s Shared }

raised : (start : Start) (w : World) (a : Incarnations) (notes : ℕ → Notes) (p s : ℕ) → AgreesAway start w a notes p s →
    Allowed start (opening_keys start) a p (Raises s) →
    Agrees start (raised_world w p s) (becomes start a p (Raises s)) (put notes p (notes p))
raised start w a notes p s g al =
    let b = becomes start a p (Raises s) in
    record {
      sound = sound_kept start (opening_keys start) a p (Raises s) g.sound al;
      tells = tells_kept start a p (Raises s) g.sound g.tells al;
      fits = fits_kept a b refl refl refl refl g.fits;
      image = image_kept (raised_world w p s) w a b g.image.epoch refl refl refl refl refl refl
          (puts_same w.place a.place s Shared g.image.place) refl refl refl refl refl refl refl refl refl refl g.image;
      knows = knows_own b w.know notes p s None
          (knows_on g.sound (grows start (opening_keys start) a p (Raises s) g.sound al) w.know notes g.knows);
      owns = owns_moved a b w.know p s (with_own (w.know p) s None) refl (λ i ne. put_other (w.know p).own s None i ne)
          g.others (λ q ne. rw (put_here a.place s Shared) tt)
          (λ i ne. moved_beside a s i Shared ne) (rw (put_here (w.know p).own s None, put_here a.place s Shared) tt)
          g.away;
      calls = g.calls;
      births = g.births;
    }

pub step_raise : (start : Start) (w : World) (a : Incarnations) (notes : ℕ → Notes) (p s : ℕ) → Agrees start w a notes →
    Accepts start (w.know p) (Raise s) → StepAgrees start w a notes p (Raise s)
step_raise start w a notes p s g ok = go ((w.know p).own s) refl ok.owned (g.owns p s)
  where
    go : (holding : Option Holding) → (w.know p).own s ≡ holding → MayBear holding → OwnFits a p (w.know p).epoch holding (a.place s) (a.last s) (a.stamp s) → StepAgrees start w a notes p (Raise s)
    go None e o h = absurd o
    go (Some (Unlinked seen)) e o h = absurd o
    go (Some (Free stamp)) e o h =
        let al : Allowed start (opening_keys start) a p (Raises s) = rw h.0 (refl, h.1) in
        rw e ((al, tt), raised start w a notes p s (free_away start w a notes p s g h.0) al)
    go (Some (InHand known)) e o h =
        let x = hand_facts a p s (w.know p).epoch (Some (InHand known)) h tt in
        let b = becomes start a p (GivesUp (last_in a s)) in
        let al : Allowed start (opening_keys start) b p (Raises s) =
        rw (x.place, x.last) (refl, put_here a.state (last_in a s) GivenUp) in
        rw e (
          (x.state, (al, tt)),
          raised start w b notes p s (given_up start w a notes p s g x.last x.state x.place) al,
        )

-- the last incarnation of a slot in the shared pool is dead
shared_dead : {start : Start} {a : Incarnations} → SlotsSound start a → (s : ℕ) → a.place s ≡ Shared →
    IsLastDead a (a.last s)
shared_dead {start} {a} g s e = go (a.last s) refl
  where
    dead : (st : State) (k : ℕ) → PlaceFits start Shared st k → IsDead st
    dead st k h = grind arith

    go : (l : Option ℕ) → a.last s ≡ l → IsLastDead a l
    go None q = tt
    go (Some c) q = dead (a.state c) (a.key c) (rw e at (g.placed c s q))

-- what is dead stays so where only a place changes
dead_beside : (a : Incarnations) (s : ℕ) (place : SlotPlace) (l : Option ℕ) → IsLastDead a l →
    IsLastDead (record a { place = put a.place s place }) l
dead_beside a s place None h = h
dead_beside a s place (Some c) h = h

pub step_take_flag : (start : Start) (w : World) (a : Incarnations) (notes : ℕ → Notes) (p s : ℕ) →
    Agrees start w a notes → s < start.shape.slots → StepAgrees start w a notes p (TakeFlag s)
step_take_flag start w a notes p s g low = go (w.place s) refl
  where
    won : (al : a.place s ≡ Shared) →
        Agrees start
        (record w {
          know = put w.know p (with_own (w.know p) s (Some (Free (w.stamp s))));
          place = put w.place s (Own p);
        }) (becomes start a p (Gains s)) (put notes p (notes p))
    won al =
        let b = becomes start a p (Gains s) in
        let x = with_own (w.know p) s (Some (Free (w.stamp s))) in
        let v = record w { know = put w.know p x; place = put w.place s (Own p) } in
        agrees_owned start w v a notes p (Gains s) s (Some (Free (w.stamp s))) g al
        (fits_kept a b refl refl refl refl g.fits)
        (image_kept v w a b g.image.epoch refl refl refl refl refl refl
        (puts_same w.place a.place s (Own p) g.image.place) refl refl refl refl refl refl refl refl refl refl g.image)
        refl
        (owns_changed a b w.know p s x refl (λ i ne. put_other (w.know p).own s (Some (Free (w.stamp s))) i ne)
        (λ q ne. rw al tt) (own_not_of p (put a.place s (Own p) s) (put_here a.place s (Own p)))
        (λ i ne. moved_beside a s i (Own p) ne)
        (rw (put_here (w.know p).own s (Some (Free (w.stamp s)))) (
          put_here a.place s (Own p),
          dead_beside a s (Own p) (a.last s) (shared_dead g.sound.slots s al),
          sym (g.image.stamp s),
        ))
        g.owns)
        g.calls g.births

    place_shown : (place : SlotPlace) → w.place s ≡ place → a.place s ≡ place
    place_shown place e = sym (g.image.place s) ∙ e

    go : (place : SlotPlace) → w.place s ≡ place → StepAgrees start w a notes p (TakeFlag s)
    go Shared e = rw (flag_told start w s Shared low e) ((place_shown Shared e, tt), won (place_shown Shared e))
    go (Own q) e =
        rw (flag_told start w s (Own q) low e)
        ((λ z. let y = place_shown (Own q) e in cc, tt), agrees_still start w a notes p g)
    go (Hand q) e =
        rw (flag_told start w s (Hand q) low e)
        ((λ z. let y = place_shown (Hand q) e in cc, tt), agrees_still start w a notes p g)
    go (Listed q) e =
        rw (flag_told start w s (Listed q) low e)
        ((λ z. let y = place_shown (Listed q) e in cc, tt), agrees_still start w a notes p g)

-- a slot that stays in hand of its pass holds something else
owns_in_hand : (a b : Incarnations) (know : ℕ → Know) (p s : ℕ) (own : Option Holding) → a.place s ≡ Hand p →
    b.place ≡ a.place → ((v : ℕ) → v ≢ s → IsSlotKept a b v) →
    OwnFits b p (know p).epoch (put (know p).own s own s) (b.place s) (b.last s) (b.stamp s) → Owns a know →
    Owns b (put know p (with_own (know p) s own))
owns_in_hand a b know p s own place same kept fits o =
    owns_changed a b know p s (with_own (know p) s own) refl (λ k ne. put_other (know p).own s own k ne)
    (hand_not_of p (a.place s) place) (hand_not_of p (b.place s) (ap (λ f. f s) same ∙ place)) kept fits o

-- b with the places, the last incarnations, the stamps, the states and the births of a
abbrev stored_in : Incarnations → Incarnations → Incarnations
stored_in a b = record b { place = a.place; last = a.last; stamp = a.stamp; state = a.state; birth = a.birth }

-- a pass that stores of the incarnation in its hand knows k of it then, and owns the other slots as before
owns_stored : {start : Start} {a : Incarnations} → SlotsSound start a → (b : Incarnations) (know : ℕ → Know) (p s : ℕ)
    (own : Option Holding) (k : Unpublished) (x : HandFacts a p s (know p).epoch ((know p).own s)) →
    own ≡ Some (InHand k) → k.stamp ≡ x.known.stamp → k.birth ≡ x.known.birth →
    ((d : ℕ) → d ≢ last_in a s → ((b.is_keyed d ≡ a.is_keyed d) × (b.key d ≡ a.key d)) ×
    ((b.is_valued d ≡ a.is_valued d) × (b.value d ≡ a.value d)) ×
    ((b.is_aimed d ≡ a.is_aimed d) × (b.link d ≡ a.link d))) →
    IsStored (b.is_keyed (last_in a s)) (b.key (last_in a s)) k.key →
    IsStored (b.is_valued (last_in a s)) (b.value (last_in a s)) k.value →
    IsStored (b.is_aimed (last_in a s)) (b.link (last_in a s)) k.link → Owns a know →
    Owns (stored_in a b) (put know p (with_own (know p) s own))
owns_stored {start} {a} sound b know p s own k x is stamp birth beside keyed valued aimed o =
    owns_in_hand a (stored_in a b) know p s own x.place refl
    (λ v ne. record {
      place = refl;
      last = refl;
      stamp = refl;
      untouched = λ d e.
          let kept = beside d (lasts_differ sound v s (last_in a s) d ne x.last e) in
          record {
            state = refl;
            birth = refl;
            key = kept.0.1;
            is_keyed = kept.0.0;
            value = kept.1.1;
            is_valued = kept.1.0;
            link = kept.2.1;
            is_aimed = kept.2.0;
          };
    })
    (rw (put_here (know p).own s own, is) (
      x.place,
      record {
        node = last_in a s;
        last_is = x.last;
        state = x.state;
        born = x.born;
        birth_is = x.birth_is ∙ sym birth;
        keyed = keyed;
        valued = valued;
        aimed = aimed;
      },
      x.stamp_is ∙ sym stamp,
    ))
    o

pub step_store_key : (start : Start) (w : World) (a : Incarnations) (notes : ℕ → Notes) (p s key : ℕ) →
    Agrees start w a notes → Accepts start (w.know p) (StoreKey s key) → StepAgrees start w a notes p (StoreKey s key)
step_store_key start w a notes p s key g ok =
    let x = hand_facts a p s (w.know p).epoch ((w.know p).own s) (g.owns p s) ok.owned in
    let c = last_in a s in
    let b = becomes start a p (Keyed c key) in
    let own = with_key ((w.know p).own s) key in
    let v = after start w p (StoreKey s key) in (
      (x.state, tt),
      agrees_owned start w v a notes p (Keyed c key) s own g x.state (fits_kept a b refl refl refl refl g.fits)
          (image_words w v a b g.image refl refl refl refl refl refl refl refl refl refl
          (λ k. g.image.link k ∙ sym (link_kept a b refl refl (a.last k) (λ d _. (refl, refl, refl))))
          (at_put (λ k y. y ≡ key_shown b (a.last k)) w.key s key (rw x.last (sym (put_here a.key c key)))
          (λ k ne. g.image.key k
          ∙ sym (key_kept a b (a.last k)
          (λ d e. put_other a.key c key d (lasts_differ g.sound.slots k s c d ne x.last e)))))
          (λ k. g.image.value k ∙ sym (value_kept a b (a.last k) (λ d _. refl))) g.image.stamp) refl
          (owns_stored g.sound.slots b w.know p s own (record x.known { key = Some key }) x
          (ap (λ h. with_key h key) x.holding_is) refl refl
          (λ d ne. ((put_other a.is_keyed c true d ne, put_other a.key c key d ne), (refl, refl), (refl, refl)))
          (put_here a.is_keyed c true, put_here a.key c key) x.valued x.aimed g.owns)
          g.calls g.births,
    )

pub step_store_value : (start : Start) (w : World) (a : Incarnations) (notes : ℕ → Notes) (p s value : ℕ) →
    Agrees start w a notes → Accepts start (w.know p) (StoreValue s value) →
    StepAgrees start w a notes p (StoreValue s value)
step_store_value start w a notes p s value g ok =
    let own = with_value ((w.know p).own s) value in
    let x = hand_facts a p s (w.know p).epoch ((w.know p).own s) (g.owns p s) ok.owned in
    let c = last_in a s in
    let b = becomes start a p (Valued c value) in
    let v = after start w p (StoreValue s value) in (
      ((x.state, ok.in_shape.1), tt),
      agrees_owned start w v a notes p (Valued c value) s own g (x.state, ok.in_shape.1)
          (fits_kept a b refl refl refl refl g.fits)
          (image_words w v a b g.image refl refl refl refl refl refl refl refl refl refl
          (λ k. g.image.link k ∙ sym (link_kept a b refl refl (a.last k) (λ d _. (refl, refl, refl))))
          (λ k. g.image.key k ∙ sym (key_kept a b (a.last k) (λ d _. refl)))
          (at_put (λ k y. y ≡ value_shown b (a.last k)) w.value s value (rw x.last (sym (put_here a.value c value)))
          (λ k ne. g.image.value k
          ∙ sym (value_kept a b (a.last k)
          (λ d e. put_other a.value c value d (lasts_differ g.sound.slots k s c d ne x.last e))))) g.image.stamp) refl
          (owns_stored g.sound.slots b w.know p s own (record x.known { value = Some value }) x
          (ap (λ h. with_value h value) x.holding_is) refl refl
          (λ d ne. ((refl, refl), (put_other a.is_valued c true d ne, put_other a.value c value d ne), (refl, refl)))
          x.keyed (put_here a.is_valued c true, put_here a.value c value) x.aimed g.owns)
          g.calls g.births,
    )

-- the link that a pass stores is one of the shape
pub aimed_fits : {start : Start} {a : Incarnations} → Fits start a →
    (know : Know) (notes : Notes) (next : Option ℕ) (birth : ℕ) → FitsNotes a know notes → birth ≤ know.epoch →
    IsNextIn start next → IsLinkOf start.shape (link_to next birth (unwrap_or (birth_of know.checked next) 0))
aimed_fits f know notes None birth k le h =
    record {
      slot = tt;
      version = let u = f.epoch in
          let w = k.epoch in
          omega arith;
    }
aimed_fits {start} {a} f know notes (Some s) birth k le h = record {
  slot = h;
  version =
      let u = f.epoch in
      let w = k.epoch in
      let x = birth_low a know.epoch notes.checked know.checked s k.checked_reads k.checked in
      omega arith;
}

pub step_store_link : (start : Start) (w : World) (a : Incarnations) (notes : ℕ → Notes) (p s : ℕ) (next : Option ℕ) →
    Agrees start w a notes → Accepts start (w.know p) (StoreLink s next) →
    StepAgrees start w a notes p (StoreLink s next)
step_store_link start w a notes p s next g ok =
    let x = hand_facts a p s (w.know p).epoch ((w.know p).own s) (g.owns p s) ok.owned in
    let c = last_in a s in
    let link = link_written (w.know p) (StoreLink s next) in
    let birth : birth_in_hand ((w.know p).own s) ≡ a.birth c = ap birth_in_hand x.holding_is ∙ sym x.birth_is in
    let al : Allowed start (opening_keys start) a p (Aims c link) = (x.state, refl, (let z = birth in omega arith)) in
    let b = becomes start a p (Aims c link) in
    let own = with_link ((w.know p).own s) link in
    let v = after start w p (StoreLink s next) in (
      (al, tt),
      agrees_owned start w v a notes p (Aims c link) s own g al (record {
        is_start = g.fits.is_start;
        epoch = g.fits.epoch;
        slot = g.fits.slot;
        link = at_put (λ d y. IsLinkOf start.shape y) a.link c link
            (aimed_fits g.fits (w.know p) (notes p) next (birth_in_hand ((w.know p).own s)) (g.knows p)
            (let z = birth in let y = x.born in omega arith) ok.in_shape.1) (λ d ne. g.fits.link d);
      })
          (image_words w v a b g.image refl refl refl refl refl refl refl refl refl refl
          (at_put (λ k y. y ≡ link_shown b (a.last k)) w.link s link
          (rw (x.last, x.state) (sym (put_here a.link c link)))
          (λ k ne. g.image.link k
          ∙ sym (link_kept a b refl refl (a.last k)
          (λ d e. (refl, put_other a.link c link d (lasts_differ g.sound.slots k s c d ne x.last e), refl)))))
          (λ k. g.image.key k ∙ sym (key_kept a b (a.last k) (λ d _. refl)))
          (λ k. g.image.value k ∙ sym (value_kept a b (a.last k) (λ d _. refl))) g.image.stamp) refl
          (owns_stored g.sound.slots b w.know p s own (record x.known { link = Some link }) x
          (ap (λ h. with_link h link) x.holding_is) refl refl
          (λ d ne. ((refl, refl), (refl, refl), (put_other a.is_aimed c true d ne, put_other a.link c link d ne)))
          x.keyed x.valued (put_here a.is_aimed c true, put_here a.link c link) g.owns)
          g.calls g.births,
    )
