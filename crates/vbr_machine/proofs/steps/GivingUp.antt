-- What agrees away from a slot, as once the incarnation in hand there is given up.
use Rattle.std.proofs.Common.{◌≡◌, ◌≢◌, ℕ, ◌-◌, ◌^◌, min, Option, Some, None, refl, arith, sym, ap, ◌∙◌, inl, inr}
use Rattle.std.specs.Prelude.{◌⊎◌}
use Rattle.std.proofs.lemmas.Bool.{cases_eq}
use Rattle.vbr_machine.specs.Start.{Start}
use Rattle.vbr_machine.specs.Opened.{opening_keys}
use Rattle.vbr_machine.specs.Machine.{World}
use Rattle.vbr_machine.specs.Incarnations.{GivenUp, Incarnations}
use Rattle.vbr_machine.specs.Incarnations.{last_in}
use Rattle.vbr_machine.specs.Incarnations as state
use Rattle.vbr_machine.specs.Images.{link_shown, link_in_state, link_shown_at, IsImage}
use Rattle.vbr_machine.specs.Chronicles.{GivesUp, becomes}
use Rattle.vbr_machine.specs.Sound.{Sound, Tells}
use Rattle.vbr_machine.specs.Notes.{Notes}
use Rattle.vbr_machine.specs.Agreement.{OwnFits, AllKnowRight, Fits, Agrees}
use Rattle.vbr_words.specs.declared.place.At.TheVariants.{Slot}
use Rattle.vbr_machine.specs.declared.knowledge.SlotPlace.TheVariants.{Own, Hand}
use Rattle.vbr_machine.proofs.words.Puts.{put_here, put_other}
use Rattle.vbr_machine.proofs.chronicles.SoundAfter.{sound_kept}
use Rattle.vbr_machine.proofs.chronicles.ToldCalls.{tells_kept}
use Rattle.vbr_machine.proofs.chronicles.Growth.{grows}
use Rattle.vbr_machine.proofs.reads.Noted.{knows_on}
use Rattle.vbr_machine.proofs.reads.OwnSlots.{slot_kept, not_owned, lasts_differ, untouched_in}
use Rattle.vbr_machine.proofs.chronicles.Shown.{fits_kept, to_next_same, in_state_same, link_kept, key_kept, value_kept}
use Rattle.vbr_machine.proofs.chronicles.Shown.{birth_kept}
use Rattle.vbr_machine.proofs.steps.Steps.{own_not_of, hand_not_of}

-- one state changes, and no link that is shown
pub moved_link : (a b : Incarnations) (c s : ℕ) → b.slot ≡ a.slot → b.birth ≡ a.birth → b.link ≡ a.link →
    b.next ≡ a.next → b.last ≡ a.last → ((d : ℕ) → d ≢ c → b.state d ≡ a.state d) → a.last s ≡ Some c →
    ((v d : ℕ) → v ≢ s → a.last v ≡ Some d → d ≢ c) → link_in_state b c (b.state c) ≡ link_in_state b c (a.state c) →
    (v : ℕ) → link_shown_at a (Slot v) ≡ link_shown_at b (Slot v)
moved_link a b c s es eb ew en el st l df q v = go (cases_eq v s)
  where
    there : (x : Option ℕ) → ((d : ℕ) → x ≡ Some d → d ≢ c) → link_shown a x ≡ link_shown b x
    there x h = sym (link_kept a b es eb x (λ d e. (st d (h d e), ap (λ f. f d) ew, ap (λ f. f d) en)))

    here : link_shown a (Some c) ≡ link_shown b (Some c)
    here = sym (q ∙ in_state_same a b es eb c (a.state c) (ap (λ f. f c) ew) (ap (λ f. f c) en))

    go : (v ≡ s) ⊎ (v ≢ s) → link_shown_at a (Slot v) ≡ link_shown_at b (Slot v)
    go (inl e) = ap (λ i. link_shown a (a.last i)) e ∙ ap (link_shown a) l ∙ here ∙ ap (link_shown b) (sym l)
        ∙ ap (λ i. link_shown b (a.last i)) (sym e) ∙ ap (λ f. link_shown b (f v)) (sym el)
    go (inr ne) = there (a.last v) (λ d e. df v d ne e) ∙ ap (λ f. link_shown b (f v)) (sym el)

-- all that agrees but what is known of one slot
pub record AgreesAway (start : Start) (w : World) (a : Incarnations) (notes : ℕ → Notes) (p s : ℕ) : Type 0 where
  pub sound : Sound start a
  pub tells : Tells start a
  pub fits : Fits start a
  pub image : IsImage w a
  pub knows : AllKnowRight a w.know notes
  pub away : (q v : ℕ) → v ≢ s → OwnFits a q (w.know q).epoch ((w.know q).own v) (a.place v) (a.last v) (a.stamp v)
  pub others : (q : ℕ) → q ≢ p → (w.know q).own s ≡ None
  pub calls : w.calls ≡ a.calls
  pub births : w.births ≡ min a.count (2 ^ 64 - 1)

-- it agrees where the slot is the pass's own
pub free_away : (start : Start) (w : World) (a : Incarnations) (notes : ℕ → Notes) (p s : ℕ) → Agrees start w a notes →
    a.place s ≡ Own p → AgreesAway start w a notes p s
free_away start w a notes p s g place = record {
  sound = g.sound;
  tells = g.tells;
  fits = g.fits;
  image = g.image;
  knows = g.knows;
  away = λ q v _. g.owns q v;
  others = λ q ne.
      not_owned a q (w.know q).epoch ((w.know q).own s) (a.place s) (a.last s) (a.stamp s) (g.owns q s)
      (own_not_of p (a.place s) place q ne);
  calls = g.calls;
  births = g.births;
}

-- what agrees once the incarnation in hand is given up
pub given_up : (start : Start) (w : World) (a : Incarnations) (notes : ℕ → Notes) (p s : ℕ) → Agrees start w a notes →
    a.last s ≡ Some (last_in a s) → a.state (last_in a s) ≡ state.InHand p → a.place s ≡ Hand p →
    AgreesAway start w (becomes start a p (GivesUp (last_in a s))) notes p s
given_up start w a notes p s g last st place =
    let c = last_in a s in
    let b = becomes start a p (GivesUp c) in
    let i = g.image in
    record {
      sound = sound_kept start (opening_keys start) a p (GivesUp c) g.sound st;
      tells = tells_kept start a p (GivesUp c) g.sound g.tells st;
      fits = fits_kept a b refl refl refl refl g.fits;
      image = record {
        epoch = i.epoch;
        head = λ k. i.head k ∙ sym (to_next_same a b refl refl 0 (a.first k));
        link = λ k. i.link k
            ∙ moved_link a b c s refl refl refl refl refl (λ d ne. put_other a.state c GivenUp d ne) last
            (λ y d ne e. lasts_differ g.sound.slots y s c d ne last e)
            (ap (link_in_state b c) (put_here a.state c GivenUp) ∙ ap (link_in_state b c) (sym st)) k;
        birth = λ k. i.birth k ∙ sym (birth_kept a b (a.last k) (λ d _. refl));
        key = λ k. i.key k ∙ sym (key_kept a b (a.last k) (λ d _. refl));
        value = λ k. i.value k ∙ sym (value_kept a b (a.last k) (λ d _. refl));
        stamp = i.stamp;
        place = i.place;
      };
      knows = knows_on g.sound (grows start (opening_keys start) a p (GivesUp c) g.sound st) w.know notes g.knows;
      away = λ q v ne. slot_kept a b q (w.know q).epoch (w.know q).epoch v ((w.know q).own v) (omega arith)
          (record {
            place = refl;
            last = refl;
            stamp = refl;
            untouched = untouched_in a b
                (λ d e. put_other a.state c GivenUp d (lasts_differ g.sound.slots v s c d ne last e));
          })
          (g.owns q v);
      others = λ q ne.
          not_owned a q (w.know q).epoch ((w.know q).own s) (a.place s) (a.last s) (a.stamp s) (g.owns q s)
          (hand_not_of p (a.place s) place q ne);
      calls = g.calls;
      births = g.births;
    }
