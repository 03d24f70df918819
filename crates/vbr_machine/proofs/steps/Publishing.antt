-- The step that inserts a node keeps the agreement.
use Rattle.std.proofs.Common.{◌≡◌, ℕ, Bool, true, [], ◌∷◌, ◌++◌, None, refl, sym, ap, ◌∙◌}
use Rattle.std.specs.Prelude.{◌==◌}
use Rattle.vbr_machine.specs.Start.{Start}
use Rattle.vbr_words.specs.Words.{word_of}
use Rattle.vbr_words.specs.declared.place.At.{At}
use Rattle.vbr_machine.specs.Put.{put}
use Rattle.vbr_words.specs.Buckets.{bucket_of}
use Rattle.vbr_machine.specs.Acceptance.{Accepts}
use Rattle.vbr_machine.specs.Learning.{with_own, with_checked, reads_won, link_written, key_in_hand, value_in_hand}
use Rattle.vbr_machine.specs.Opened.{payload_kept}
use Rattle.vbr_machine.specs.Machine.{World}
use Rattle.vbr_machine.specs.Machine as machine
use Rattle.vbr_machine.specs.Incarnations.{Linked, Incarnations, last_in}
use Rattle.vbr_machine.specs.Chronicles.{Inserts, becomes}
use Rattle.vbr_machine.specs.Notes.{Notes, before_at}
use Rattle.vbr_machine.specs.Agreement.{Agrees}
use Rattle.vbr_machine.specs.declared.history.Call.{Call}
use Rattle.vbr_machine.specs.declared.history.Op.TheVariants.{Insert}
use Rattle.vbr_machine.specs.declared.event.Step.TheVariants.{Publish}
use Rattle.vbr_machine.specs.declared.knowledge.SlotPlace.TheVariants.{Listed}
use Rattle.vbr_machine.proofs.words.Puts.{put_here, put_other}
use Rattle.vbr_machine.proofs.reads.OwnSlots.{owns_changed, lasts_differ, kept_beside}
use Rattle.vbr_machine.proofs.chronicles.Shown.{fits_kept}
use Rattle.vbr_machine.proofs.reads.StandingLinks.{link_stands}
use Rattle.vbr_machine.proofs.steps.Exchanges.{exchanged_world, is_exchanged, link_leaves, image_exchanged}
use Rattle.vbr_machine.proofs.steps.PublishSteps.{ready, may_insert, slot_is, new_link, old_links}
use Rattle.vbr_machine.proofs.steps.PublishedNotes.{goods, shown}
use Rattle.vbr_machine.proofs.steps.Steps.{Leaves, agrees_won, leaves_at, puts_same, hand_not_of}

-- the call that inserts the node of a slot in hand, by what its pass knows
abbrev pub call_in : Start → World → ℕ → ℕ → Call
call_in start w p s =
    record {
      who = p;
      op = Insert;
      key = key_in_hand ((w.know p).own s);
      reply = true;
      value = payload_kept start (value_in_hand ((w.know p).own s));
    }

-- the world after a publication
abbrev published_world : Start → World → ℕ → At → ℕ → ℕ → Bool → World
published_world start w p pred expected s =
    exchanged_world w p pred (Publish pred expected s) s None
    (put w.place s (Listed (bucket_of start.shape (key_in_hand ((w.know p).own s)))))
    (w.calls ++ call_in start w p s ∷ [])

pub step_publish : (start : Start) (w : World) (a : Incarnations) (notes : ℕ → Notes) (p : ℕ) (pred : At)
    (expected s : ℕ) (g : Agrees start w a notes) (ok : Accepts start (w.know p) (Publish pred expected s)) →
    Leaves start w (published_world start w p pred expected s) a notes p (Inserts (last_in a s) (before_at a pred))
    (reads_won (w.know p) (Publish pred expected s)) (word_of (machine.link_at w pred) == expected)
step_publish start w a notes p pred expected s g ok =
    let what = Inserts (last_in a s) (before_at a pred) in
    let c = last_in a s in
    let b = becomes start a p what in
    let reads = reads_won (w.know p) (Publish pred expected s) in
    leaves_at start w (published_world start w p pred expected s) a notes p what reads pred expected g
    (λ stands. let m = link_stands start w a notes p g pred expected ok.held.0 ok.in_range.0 stands in
    let r = ready start w a notes p pred expected s g ok m in
    let al = may_insert start w a notes p pred expected s g ok m in
    let new = link_written (w.know p) (Publish pred expected s) in
    let x = with_own (with_checked (w.know p) reads) s None in
    let places = put w.place s (Listed (bucket_of start.shape (key_in_hand ((w.know p).own s)))) in
    let calls = w.calls ++ call_in start w p s ∷ [] in
    let v = published_world start w p pred expected s true in
    let ex = is_exchanged w (put w.know p x) places calls pred new in
    let left = link_leaves (record w { know = put w.know p x; place = places; calls = calls }) pred new in
    let listed = Listed (bucket_of start.shape (a.key c)) in
    let place : (k : ℕ) → b.place k ≡ put a.place s listed k =
    λ k. ap (λ j. put a.place j listed k) (slot_is start w a notes p pred expected s g ok m) in (
      al,
      agrees_won start w v a notes p what reads s None g al (fits_kept a b refl refl refl refl g.fits)
          (image_exchanged w v a b pred new g.image ex (new_link start w a notes p pred expected s g ok m)
          (old_links start w a notes p pred expected s g ok m) refl refl refl refl refl refl
          (λ k. ap (λ f. f k) left.1 ∙ ap (λ j. put w.place s (Listed (bucket_of start.shape j)) k) r.key_is
          ∙ puts_same w.place a.place s listed g.image.place k ∙ sym (place k)))
          (shown start w a notes p pred expected s g ok m) (goods start w a notes p pred expected s g ok m) left.0
          (owns_changed a b w.know p s x refl (λ k ne. put_other (w.know p).own s None k ne)
          (hand_not_of p (a.place s) r.place)
          (λ q ne. rw (place s ∙ put_here a.place s listed) tt)
          (kept_beside a b s c listed (λ k d ne e. lasts_differ g.sound.slots k s c d ne r.last e) place
          (put_other a.state c Linked))
          (rw (put_here (w.know p).own s None, place s ∙ put_here a.place s listed) tt)
          g.owns)
          (left.2 ∙ ap (λ l. l ++ call_in start w p s ∷ []) g.calls
          ∙ (λ i. a.calls ++ record { who = p; op = Insert; key = r.key_is i; reply = true; value = r.payload i } ∷ []))
          (ex.births ∙ g.births),
    ))
