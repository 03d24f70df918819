-- The step that replaces a node keeps the agreement.
use Rattle.std.proofs.Common.{◌≡◌, ◌≢◌, ℕ, Bool, true, [], ◌∷◌, ◌++◌, append_assoc, None, refl, arith, sym, ap, ◌∙◌}
use Rattle.std.proofs.Common.{inl, inr}
use Rattle.std.specs.Prelude.{◌⊎◌, unwrap_or}
use Rattle.std.proofs.lemmas.Bool.{cases_eq}
use Rattle.vbr_machine.specs.Start.{Start}
use Rattle.vbr_words.specs.declared.place.At.TheVariants.{Slot}
use Rattle.vbr_machine.specs.Put.{put}
use Rattle.vbr_words.specs.Buckets.{bucket_of}
use Rattle.vbr_machine.specs.Knowledge.{Know, key_in, value_in}
use Rattle.vbr_machine.specs.Acceptance.{Accepts}
use Rattle.vbr_machine.specs.Learning.{with_own, with_checked, reads_won, link_written, key_in_hand}
use Rattle.vbr_machine.specs.Opened.{payload_kept}
use Rattle.vbr_machine.specs.Machine.{World}
use Rattle.vbr_machine.specs.Incarnations.{Linked, Marked, Incarnations, last_in}
use Rattle.vbr_machine.specs.Chronicles.{Replaces, becomes}
use Rattle.vbr_machine.specs.Notes.{Notes}
use Rattle.vbr_machine.specs.Agreement.{IsNotOf, OwnFits, Owns, Agrees}
use Rattle.vbr_machine.specs.declared.history.Call.{Call}
use Rattle.vbr_machine.specs.declared.history.Op.TheVariants.{Insert, Remove}
use Rattle.vbr_machine.specs.declared.event.Step.TheVariants.{Replace}
use Rattle.vbr_machine.specs.declared.knowledge.SlotPlace.TheVariants.{Listed}
use Rattle.vbr_machine.proofs.words.Puts.{put_here, put_other}
use Rattle.vbr_machine.proofs.reads.OwnSlots.{IsSlotKept, not_owned, owns_changed, slot_kept, lasts_differ}
use Rattle.vbr_machine.proofs.reads.OwnSlots.{untouched_in, kept_beside}
use Rattle.vbr_machine.proofs.chronicles.Shown.{fits_kept}
use Rattle.vbr_machine.proofs.reads.StandingLinks.{link_stands}
use Rattle.vbr_machine.proofs.steps.Exchanges.{exchanged_world, is_exchanged, image_exchanged}
use Rattle.vbr_machine.proofs.steps.MarkSteps.{listed_not_of}
use Rattle.vbr_machine.proofs.steps.ReplaceSteps.{ready, may_take, slot_is, old_key, old_value, new_link, old_links}
use Rattle.vbr_machine.proofs.steps.ReplacedNotes.{goods, shown}
use Rattle.vbr_machine.proofs.steps.Steps.{StepAgrees, agrees_won, leaves_at, puts_same, hand_not_of}
use Rattle.vbr_machine.proofs.steps.Publishing.{call_in}

-- a slot that is no pass's has changed
owns_beside_none : (a b : Incarnations) (know : ℕ → Know) (s : ℕ) → ((q : ℕ) → IsNotOf q (a.place s)) →
    b.place s ≡ a.place s → ((v : ℕ) → v ≢ s → IsSlotKept a b v) → Owns a know → Owns b know
owns_beside_none a b know s away same kept o = λ q v. go q v (cases_eq v s)
  where
    go : (q v : ℕ) → (v ≡ s) ⊎ (v ≢ s) → OwnFits b q (know q).epoch ((know q).own v) (b.place v) (b.last v) (b.stamp v)
    go q v (inl e) =
        rw (e, not_owned a q (know q).epoch ((know q).own s) (a.place s) (a.last s) (a.stamp s) (o q s) (away q), same)
        (away q)
    go q v (inr ne) = slot_kept a b q (know q).epoch (know q).epoch v ((know q).own v) (omega arith) (kept v ne) (o q v)

-- the call of a replacement that takes the key out, by what its pass knows
abbrev out : Start → World → ℕ → ℕ → Call
out start w p s =
    record {
      who = p;
      op = Remove;
      key = unwrap_or (key_in (w.know p).checked s) 0;
      reply = true;
      value = payload_kept start (value_in (w.know p).checked s);
    }

-- the world after a replacement
abbrev replaced_world : Start → World → ℕ → ℕ → ℕ → ℕ → Bool → World
replaced_world start w p s expected t =
    exchanged_world w p (Slot s) (Replace s expected t) t None
    (put w.place t (Listed (bucket_of start.shape (key_in_hand ((w.know p).own t)))))
    ((w.calls ++ out start w p s ∷ []) ++ call_in start w p t ∷ [])

pub step_replace : (start : Start) (w : World) (a : Incarnations) (notes : ℕ → Notes) (p s expected t : ℕ) →
    Agrees start w a notes → Accepts start (w.know p) (Replace s expected t) →
    StepAgrees start w a notes p (Replace s expected t)
step_replace start w a notes p s expected t g ok =
    let old = last_in a s in
    let c = last_in a t in
    let one : Incarnations = record a { state = put a.state old Marked } in
    let b = becomes start a p (Replaces old c) in
    leaves_at start w (replaced_world start w p s expected t) a notes p (Replaces old c)
    (reads_won (w.know p) (Replace s expected t)) (Slot s) expected g
    (λ stands. let m = link_stands start w a notes p g (Slot s) expected ok.held.0 ok.in_range.0 stands in
    let r = ready start w a notes p s expected t g ok m in
    let al = may_take start w a notes p s expected t g ok m in
    let x = with_own (with_checked (w.know p) (reads_won (w.know p) (Replace s expected t))) t None in
    let v = replaced_world start w p s expected t true in
    let ex = is_exchanged w v.know v.place v.calls (Slot s) (link_written (w.know p) (Replace s expected t)) in
    let listed = Listed (bucket_of start.shape (a.key c)) in
    let place : (k : ℕ) → b.place k ≡ put a.place t listed k =
    λ k. ap (λ j. put a.place j listed k) (slot_is start w a notes p s expected t g ok m) in
    let away = listed_not_of start (a.place s) (a.state old) (a.key old) (g.sound.slots.placed old s m.last)
    (rw al.linked tt) in
    let owns_one : Owns one w.know =
    owns_beside_none a one w.know s away refl
    (λ k ne. record {
      place = refl;
      last = refl;
      stamp = refl;
      untouched = untouched_in a one
          (λ d e. put_other a.state old Marked d (lasts_differ g.sound.slots k s old d ne m.last e));
    }) g.owns in (
      al,
      agrees_won start w v a notes p (Replaces old c) (reads_won (w.know p) (Replace s expected t)) t None g al
          (fits_kept a b refl refl refl refl g.fits)
          (image_exchanged w v a b (Slot s) (link_written (w.know p) (Replace s expected t)) g.image ex
          (new_link start w a notes p s expected t g ok m) (old_links start w a notes p s expected t g ok m) refl refl
          refl refl refl refl
          (λ k. ap (λ j. put w.place t (Listed (bucket_of start.shape j)) k) r.key_is
          ∙ puts_same w.place a.place t listed g.image.place k ∙ sym (place k)))
          (shown start w a notes p s expected t g ok m) (goods start w a notes p s expected t g ok m) refl
          (owns_changed one b w.know p t x refl (λ k ne. put_other (w.know p).own t None k ne)
          (hand_not_of p (a.place t) r.place)
          (λ q ne. rw (place t ∙ put_here a.place t listed) tt)
          (kept_beside one b t c listed (λ k d ne e. lasts_differ g.sound.slots k t c d ne r.last e) place
          (put_other (put a.state old Marked) c Linked))
          (rw (put_here (w.know p).own t None, place t ∙ put_here a.place t listed) tt)
          owns_one)
          (ap (λ l. (l ++ out start w p s ∷ []) ++ call_in start w p t ∷ []) g.calls
          ∙ append_assoc a.calls (out start w p s ∷ []) (call_in start w p t ∷ [])
          ∙ (λ i. a.calls
          ++ record {
            who = p;
            op = Remove;
            key = old_key start w a notes p s expected t g ok m i;
            reply = true;
            value = old_value start w a notes p s expected t g ok m i;
          } ∷ record { who = p; op = Insert; key = r.key_is i; reply = true; value = r.payload i } ∷ []))
          g.births,
    ))
