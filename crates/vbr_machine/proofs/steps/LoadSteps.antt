-- The loads of links, births and keys keep the agreement.
use Rattle.std.proofs.Common.{◌≡◌, ℕ, true, ◌∷◌, [], ◌++◌, Option, Some, None, refl, sym, subst, ap, ◌∙◌}
use Rattle.vbr_machine.specs.Start.{Start}
use Rattle.vbr_words.specs.Words.{word_of, link_of}
use Rattle.vbr_words.specs.declared.link.Link.{Link}
use Rattle.vbr_words.specs.declared.place.At.{At}
use Rattle.vbr_words.specs.declared.place.At.TheVariants.{Head, Slot}
use Rattle.vbr_words.proofs.Lemmas.{is_link, link_of-word_of}
use Rattle.vbr_machine.specs.Put.{put}
use Rattle.vbr_machine.specs.Knowledge.{holds}
use Rattle.vbr_machine.specs.Acceptance.{Accepts}
use Rattle.vbr_machine.specs.Learning.{with_pending}
use Rattle.vbr_machine.specs.Machine.{World}
use Rattle.vbr_machine.specs.Machine as machine
use Rattle.vbr_machine.specs.Incarnations.{Incarnations, last_in}
use Rattle.vbr_machine.specs.Images.{birth_shown, key_shown, value_shown, link_shown_at}
use Rattle.vbr_machine.specs.Notes.{Notes, note_of, shown_at}
use Rattle.vbr_machine.specs.Agreement.{IsHeldIncarnation, IsGoodLink, IsOfHeldOne, IsGood, Agrees}
use Rattle.vbr_machine.specs.declared.event.Step.TheVariants.{LoadLink, LoadBirth, LoadKey, LoadValue}
use Rattle.vbr_machine.specs.declared.knowledge.Read.{Read}
use Rattle.vbr_machine.specs.declared.knowledge.Read.TheVariants.{LinkAt, BirthOf, KeyOf, ValueOf}
use Rattle.vbr_machine.proofs.reads.HeldReads.{held_last, load_head, load_slot}
use Rattle.vbr_machine.proofs.reads.Searches.{held_found}
use Rattle.vbr_machine.proofs.reads.Noted.{knows_put, noted_pending}
use Rattle.vbr_machine.proofs.reads.OwnSlots.{owns_beside}
use Rattle.vbr_machine.proofs.chronicles.Shown.{image_kept, image_fits, stands}
use Rattle.vbr_machine.proofs.steps.Steps.{StepAgrees}

-- a read of what the incarnations show
loaded : (start : Start) (w : World) (a : Incarnations) (notes : ℕ → Notes) (p : ℕ) (read : Read) →
    Agrees start w a notes → read ≡ shown_at a read →
    (a.epoch ≡ (w.know p).epoch → IsGood a (w.know p).epoch (note_of a read)) →
    Agrees start (record w { know = put w.know p (with_pending (w.know p) read) }) a
    (put notes p (record (notes p) { pending = (notes p).pending ++ note_of a read ∷ [] }))
loaded start w a notes p read g is good = record {
  sound = g.sound;
  tells = g.tells;
  fits = g.fits;
  image = image_kept (record w { know = put w.know p (with_pending (w.know p) read) }) w a a g.image.epoch refl refl
      refl refl refl refl g.image.place refl refl refl refl refl refl refl refl refl refl g.image;
  knows = knows_put a w.know notes p (with_pending (w.know p) read)
      (record (notes p) { pending = (notes p).pending ++ note_of a read ∷ [] }) g.knows
      (noted_pending a (w.know p) (notes p) (note_of a read) (g.knows p) is good);
  owns = owns_beside a w.know p (with_pending (w.know p) read) refl (λ v. refl) g.owns;
  calls = g.calls;
  births = g.births;
}

held_at_epoch : (a : Incarnations) (e f s c : ℕ) → e ≡ f → IsHeldIncarnation a e s c → IsHeldIncarnation a f s c
held_at_epoch a e f s c q h = let P : ℕ → Type 0 = λ i. IsHeldIncarnation a i s c in subst P q h

-- the last incarnation of a slot that a pass holds is the one it holds, where the epoch is its own
held_now : (start : Start) (w : World) (a : Incarnations) (notes : ℕ → Notes) (p s : ℕ) → Agrees start w a notes →
    holds (w.know p).checked s ≡ true → a.epoch ≡ (w.know p).epoch →
    IsHeldIncarnation a a.epoch s (last_in a s) × (a.last s ≡ Some (last_in a s))
held_now start w a notes p s g h e =
    let x = held_found a (w.know p).epoch (notes p).checked s (rw ((g.knows p).checked_reads) at h)
    (g.knows p).checked in
    let y : IsHeldIncarnation a a.epoch s x.0 = held_at_epoch a (w.know p).epoch a.epoch s x.0 (sym e) x.1 in
    let l = held_last g.sound s x.0 y in
    let c : last_in a s ≡ x.0 = rw l refl in
    (rw c y, l ∙ ap Some (sym c))

good_as : (a : Incarnations) (place : At) (e f : ℕ) (l m : Link) (of off names : Option ℕ) → e ≡ f → l ≡ m → of ≡ off →
    IsGoodLink a f place m off names → IsGoodLink a e place l of names
good_as a place e f l m of off names q r o h = rw (q, r, o) h

one_as : (a : Incarnations) (s e f : ℕ) (values : ℕ → ℕ) (value c : ℕ) (of : Option ℕ) → e ≡ f → of ≡ Some c →
    IsHeldIncarnation a f s c → values c ≡ value → IsOfHeldOne a e s values value of
one_as a s e f values value c of q o h v = rw (q, o) (h, v)

-- the loads of the birth, the key and the value of a slot that the pass holds
pub step_loads : (start : Start) (w : World) (a : Incarnations) (notes : ℕ → Notes) (p s : ℕ) → Agrees start w a notes →
    holds (w.know p).checked s ≡ true →
    StepAgrees start w a notes p (LoadBirth s) × StepAgrees start w a notes p (LoadKey s) ×
    StepAgrees start w a notes p (LoadValue s)
step_loads start w a notes p s g held =
    let birth = g.image.birth s in
    let key = g.image.key s in
    let value = g.image.value s in (
      (
        tt,
        loaded start w a notes p (BirthOf s (w.birth s)) g (ap (BirthOf s) birth) (good a.birth birth_shown birth refl),
      ),
      (tt, loaded start w a notes p (KeyOf s (w.key s)) g (ap (KeyOf s) key) (good a.key key_shown key refl)),
      (
        tt,
        loaded start w a notes p (ValueOf s (w.value s)) g (ap (ValueOf s) value) (good a.value value_shown value refl),
      ),
    )
  where
    good : (values : ℕ → ℕ) (shown : Incarnations → Option ℕ → ℕ) {value : ℕ} → value ≡ shown a (a.last s) →
        shown a (Some (last_in a s)) ≡ values (last_in a s) → a.epoch ≡ (w.know p).epoch →
        IsOfHeldOne a (w.know p).epoch s values value (a.last s)
    good values shown {value} is at e =
        let h = held_now start w a notes p s g held e in
        one_as a s (w.know p).epoch a.epoch values value (last_in a s) (a.last s) (sym e) h.1 h.0
        (sym (is ∙ ap (shown a) h.1 ∙ at))

-- the link of the word that stands at a place is that of the image
pub link_read : {start : Start} {w : World} {a : Incarnations} {notes : ℕ → Notes} → Agrees start w a notes →
    (place : At) → link_of (word_of (machine.link_at w place)) ≡ link_shown_at a place
link_read {start} {w} {a} g place = ap (λ l. link_of (word_of l)) (stands w a place g.image)
    ∙ link_of-word_of (link_shown_at a place) (is_link g.fits.is_start.shape (image_fits g.sound g.fits place))

pub step_load_link : (start : Start) (w : World) (a : Incarnations) (notes : ℕ → Notes) (p : ℕ) (place : At) →
    Agrees start w a notes → Accepts start (w.know p) (LoadLink place) → StepAgrees start w a notes p (LoadLink place)
step_load_link start w a notes p (Head b) g ok = (
  tt,
  loaded start w a notes p (LinkAt (Head b) (link_of (word_of (w.head b)))) g
      (ap (LinkAt (Head b)) (link_read g (Head b)))
      (λ e. good_as a (Head b) (w.know p).epoch a.epoch (link_of (word_of (w.head b))) (link_shown_at a (Head b)) None
      None (a.first b) (sym e) (link_read g (Head b)) refl (load_head g.sound b)),
)
step_load_link start w a notes p (Slot s) g ok = (
  tt,
  loaded start w a notes p (LinkAt (Slot s) (link_of (word_of (w.link s)))) g
      (ap (LinkAt (Slot s)) (link_read g (Slot s)))
      (λ e. let h = held_now start w a notes p s g ok.held e in
      good_as a (Slot s) (w.know p).epoch a.epoch (link_of (word_of (w.link s))) (link_shown_at a (Slot s)) (a.last s)
      (Some (last_in a s)) (a.next (last_in a s)) (sym e) (link_read g (Slot s)) h.1
      (load_slot g.sound s (last_in a s) h.0)),
)
