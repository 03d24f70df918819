-- The steps that read or advance the epoch, or load a stamp.
use Rattle.std.proofs.Common.{◌≡◌, ◌≢◌, ℕ, ◌+◌, ◌<◌, ◌≤◌, true, false, Option, Some, None, refl, arith, sym, ap, ◌∙◌}
use Rattle.std.proofs.Common.{inl, inr}
use Rattle.std.specs.Prelude.{◌⊎◌, ◌==◌}
use Rattle.std.proofs.lemmas.Bool.{cases_eq, cases_Bool, eqb-true}
use Rattle.vbr_machine.specs.Start.{Start}
use Rattle.vbr_machine.specs.Put.{put}
use Rattle.vbr_machine.specs.Opened.{opening_keys}
use Rattle.vbr_machine.specs.Knowledge.{Know}
use Rattle.vbr_machine.specs.Acceptance.{Accepts}
use Rattle.vbr_machine.specs.Learning.{read_epoch, reread}
use Rattle.vbr_machine.specs.Machine.{World, after}
use Rattle.vbr_machine.specs.Incarnations.{Incarnations}
use Rattle.vbr_machine.specs.Chronicles.{Advances, becomes}
use Rattle.vbr_machine.specs.Sound.{SlotsSound}
use Rattle.vbr_machine.specs.Notes.{Notes, confirmed_notes}
use Rattle.vbr_machine.specs.Agreement.{OwnFits, Owns, Agrees}
use Rattle.vbr_machine.specs.declared.event.Step.TheVariants.{ReadEpoch, Advance, LoadStamp, PeekBirth}
use Rattle.vbr_machine.specs.declared.knowledge.Holding.{Holding}
use Rattle.vbr_machine.specs.declared.knowledge.Holding.TheVariants.{Free, Unlinked, InHand}
use Rattle.vbr_machine.specs.declared.knowledge.SlotPlace.{SlotPlace}
use Rattle.vbr_machine.proofs.words.Puts.{put_here, put_other}
use Rattle.vbr_machine.proofs.chronicles.Growth.{grows}
use Rattle.vbr_machine.proofs.reads.Noted.{knows_on, knows_put, knows_same, noted_read}
use Rattle.vbr_machine.proofs.reads.OwnSlots.{unlinked_so, own_kept, owns_same, untouched_in}
use Rattle.vbr_machine.proofs.chronicles.Shown.{image_kept}
use Rattle.vbr_machine.proofs.steps.Steps.{StepAgrees, agrees_next, agrees_still}

-- what is known of a slot once its pass has read the epoch
reread_fits : {start : Start} {a : Incarnations} → SlotsSound start a →
    (p e f : ℕ) (holding : Option Holding) (place : SlotPlace) (last : Option ℕ) (stamp : ℕ) → f ≡ a.epoch → e ≤ f →
    OwnFits a p e holding place last stamp → OwnFits a p f (reread holding) place last stamp
reread_fits s p e f None place last stamp q le h = h
reread_fits s p e f (Some (Free known)) place last stamp q le h = h
reread_fits {start} {a} s p e f (Some (InHand known)) place last stamp q le h =
    own_kept a a p e f (Some (InHand known)) place last stamp le (untouched_in a a (λ c _. refl)) h
reread_fits {start} {a} s p e f (Some (Unlinked seen)) place last stamp q le h =
    let x = h.1 in
    (h.0, unlinked_so a f true x refl (λ t. let u = rw x.state at (s.times x.node) in let v = u.1 in omega arith))

owns_read : {start : Start} {a : Incarnations} → SlotsSound start a → (know : ℕ → Know) (p epoch : ℕ) →
    epoch ≡ a.epoch → (know p).epoch ≤ a.epoch → Owns a know → Owns a (put know p (read_epoch (know p) epoch))
owns_read {start} {a} s know p epoch e le o = λ q v. go q v (cases_eq q p)
  where
    own : (v : ℕ) → ((epoch == (know p).epoch) ≡ true) ⊎ ((epoch == (know p).epoch) ≡ false) →
        OwnFits a p (read_epoch (know p) epoch).epoch ((read_epoch (know p) epoch).own v) (a.place v) (a.last v)
        (a.stamp v)
    own v (inl t) =
        rw t (reread_fits s p (know p).epoch (know p).epoch ((know p).own v) (a.place v) (a.last v) (a.stamp v)
        (sym (eqb-true epoch (know p).epoch t) ∙ e) (omega arith) (o p v))
    own v (inr f) =
        rw f (reread_fits s p (know p).epoch epoch ((know p).own v) (a.place v) (a.last v) (a.stamp v) e (omega arith)
        (o p v))

    go : (q v : ℕ) → (q ≡ p) ⊎ (q ≢ p) →
        OwnFits a q (put know p (read_epoch (know p) epoch) q).epoch ((put know p (read_epoch (know p) epoch) q).own v)
        (a.place v) (a.last v) (a.stamp v)
    go q v (inl i) = rw (i, put_here know p (read_epoch (know p) epoch)) (own v (cases_Bool (epoch == (know p).epoch)))
    go q v (inr ne) = rw (put_other know p (read_epoch (know p) epoch) q ne) (o q v)

pub step_read_epoch : (start : Start) (w : World) (a : Incarnations) (notes : ℕ → Notes) (p : ℕ) →
    Agrees start w a notes → StepAgrees start w a notes p ReadEpoch
step_read_epoch start w a notes p g = (
  tt,
  record {
    sound = g.sound;
    tells = g.tells;
    fits = g.fits;
    image = image_kept (after start w p ReadEpoch) w a a g.image.epoch refl refl refl refl refl refl g.image.place refl
        refl refl refl refl refl refl refl refl refl g.image;
    knows = knows_put a w.know notes p (read_epoch (w.know p) w.epoch)
        (confirmed_notes (notes p) (w.epoch == (w.know p).epoch)) g.knows
        (noted_read a (w.know p) (notes p) w.epoch g.image.epoch (g.knows p));
    owns = owns_read g.sound.slots w.know p w.epoch g.image.epoch (g.knows p).epoch g.owns;
    calls = g.calls;
    births = g.births;
  },
)

pub step_advance : (start : Start) (w : World) (a : Incarnations) (notes : ℕ → Notes) (p from : ℕ) →
    Agrees start w a notes → Accepts start (w.know p) (Advance from) → StepAgrees start w a notes p (Advance from)
step_advance start w a notes p from g ok = go (cases_Bool (w.epoch == from))
  where
    go : ((w.epoch == from) ≡ true) ⊎ ((w.epoch == from) ≡ false) → StepAgrees start w a notes p (Advance from)
    go (inr f) = rw f (tt, agrees_still start w a notes p g)
    go (inl t) =
        let al : a.epoch < start.shape.last_epoch = let x = ok.below_last in
        let y = eqb-true w.epoch from t in
        let z = g.image.epoch in
        omega arith in
        let b = becomes start a p Advances in
        rw t (
          (al, tt),
          agrees_next start w (record w { epoch = w.epoch + 1 }) a notes (put notes p (notes p)) p Advances g al
              (record { is_start = g.fits.is_start; epoch = omega arith; slot = g.fits.slot; link = g.fits.link })
              (image_kept (record w { epoch = w.epoch + 1 }) w a b (ap (λ e. e + 1) g.image.epoch) refl refl refl refl
              refl refl g.image.place refl refl refl refl refl refl refl refl refl refl g.image)
              (knows_same b w.know notes p
              (knows_on g.sound (grows start (opening_keys start) a p Advances g.sound al) w.know notes g.knows))
              (owns_same a b w.know g.owns) g.calls g.births,
        )

pub step_load_stamp : (start : Start) (w : World) (a : Incarnations) (notes : ℕ → Notes) (p s : ℕ) →
    Agrees start w a notes → StepAgrees start w a notes p (LoadStamp s)
step_load_stamp start w a notes p s g = (tt, agrees_still start w a notes p g)

pub step_peek_birth : (start : Start) (w : World) (a : Incarnations) (notes : ℕ → Notes) (p s : ℕ) →
    Agrees start w a notes → StepAgrees start w a notes p (PeekBirth s)
step_peek_birth start w a notes p s g = (tt, agrees_still start w a notes p g)
