-- The step that unlinks a node keeps the agreement.
use Rattle.std.proofs.Common.{◌≡◌, ℕ, Bool, true, false, Some, refl, arith, sym, ap, ◌∙◌}
use Rattle.std.specs.Prelude.{◌==◌}
use Rattle.vbr_machine.specs.Start.{Start}
use Rattle.vbr_words.specs.Words.{word_of, link_of}
use Rattle.vbr_words.specs.declared.link.Link.{Link}
use Rattle.vbr_words.specs.declared.place.At.{At}
use Rattle.vbr_machine.specs.Put.{put}
use Rattle.vbr_machine.specs.Knowledge.{marked_in}
use Rattle.vbr_machine.specs.Acceptance.{next_of_marked, Accepts}
use Rattle.vbr_machine.specs.Learning.{with_own, with_checked, reads_won, link_written}
use Rattle.vbr_machine.specs.Machine.{World}
use Rattle.vbr_machine.specs.Machine as machine
use Rattle.vbr_machine.specs.Incarnations.{Incarnations, last_in}
use Rattle.vbr_machine.specs.Incarnations as state
use Rattle.vbr_machine.specs.Chronicles.{Unlinks, next_of, becomes}
use Rattle.vbr_machine.specs.Notes.{Notes, before_at, last_at}
use Rattle.vbr_machine.specs.Agreement.{Agrees}
use Rattle.vbr_machine.specs.declared.event.Step.TheVariants.{Unlink}
use Rattle.vbr_machine.specs.declared.knowledge.Read.TheVariants.{LinkAt}
use Rattle.vbr_machine.specs.declared.knowledge.Holding.TheVariants.{Unlinked}
use Rattle.vbr_machine.specs.declared.knowledge.SlotPlace.TheVariants.{Own}
use Rattle.vbr_machine.proofs.words.Puts.{put_here, put_other}
use Rattle.vbr_machine.proofs.reads.HeldReads.{stays_at, stays_next}
use Rattle.vbr_machine.proofs.reads.OwnSlots.{owns_changed, lasts_differ, kept_beside}
use Rattle.vbr_machine.proofs.chronicles.Shown.{fits_kept}
use Rattle.vbr_machine.proofs.reads.StandingLinks.{LinkStands, link_stands, node_at}
use Rattle.vbr_machine.proofs.steps.MarkSteps.{listed_not_of}
use Rattle.vbr_machine.proofs.steps.Exchanges.{exchanged_world, is_exchanged, link_leaves, image_exchanged}
use Rattle.vbr_machine.proofs.steps.PublishSteps.{birth_there_low, next_low}
use Rattle.vbr_machine.proofs.steps.PublishedNotes.{pair_as}
use Rattle.vbr_machine.proofs.steps.UnlinkSteps.{last_behind, next_behind, facts, may_unlink, link_is, new_link}
use Rattle.vbr_machine.proofs.steps.UnlinkSteps.{old_links, gr}
use Rattle.vbr_machine.proofs.steps.Steps.{Leaves, agrees_won, leaves_at, puts_same, own_not_of}
use Rattle.vbr_machine.proofs.reads.Noted.{AreShown, AreGood}

module _ (start : Start) (w : World) (a : Incarnations) (notes : ℕ → Notes) (p : ℕ) (pred : At) (expected s : ℕ)
    (g : Agrees start w a notes) (ok : Accepts start (w.know p) (Unlink pred expected s))
    (m : LinkStands start a (w.know p).epoch (w.know p).checked pred (link_of expected)) where
  -- what the pass has checked by unlinking the node is good
  goods : AreGood (becomes start a p (Unlinks (last_in a s) (before_at a pred))) (w.know p).epoch
      (reads_won (w.know p) (Unlink pred expected s))
  goods =
      let c = last_in a s in
      let b = becomes start a p (Unlinks c (before_at a pred)) in
      let e = (w.know p).epoch in
      let v = next_of_marked (marked_in (w.know p).checked s) in
      let r = facts start w a notes p pred expected s g ok m in
      let grow = gr start w a notes p pred expected s g ok m in
      let le = (g.knows p).epoch in (
        pair_as b pred e (link_written (w.know p) (Unlink pred expected s)) (last_at b pred) (node_at a pred)
            (next_of b (before_at b pred)) (a.next c) (last_behind start a p c pred m.last)
            (next_behind start a p c pred)
            (record {
              version = (let j = ap (λ (i : Link). i.version) (link_is start w a notes p pred expected s g ok m) in
                  let k = birth_there_low a e pred m.held in
                  let l = next_low a e v (a.next c) r.next in
                  omega arith);
              place = stays_at g.sound grow e pred (node_at a pred) le m.held;
              next = stays_next g.sound grow e v (a.next c) le r.next;
              frozen = λ z. absurd (cc);
            }),
        tt,
      )

  -- and it is what the incarnations show
  shown : AreShown (becomes start a p (Unlinks (last_in a s) (before_at a pred)))
      (reads_won (w.know p) (Unlink pred expected s))
  shown = (ap (LinkAt pred) (sym (new_link start w a notes p pred expected s g ok m)), tt)

-- the world after an unlinking
abbrev unlinked_world : Start → World → ℕ → At → ℕ → ℕ → Bool → World
unlinked_world start w p pred expected s =
    exchanged_world w p pred (Unlink pred expected s) s (Some (Unlinked false)) (put w.place s (Own p)) w.calls

pub step_unlink : (start : Start) (w : World) (a : Incarnations) (notes : ℕ → Notes) (p : ℕ) (pred : At)
    (expected s : ℕ) (g : Agrees start w a notes) (ok : Accepts start (w.know p) (Unlink pred expected s)) →
    Leaves start w (unlinked_world start w p pred expected s) a notes p (Unlinks (last_in a s) (before_at a pred))
    (reads_won (w.know p) (Unlink pred expected s)) (word_of (machine.link_at w pred) == expected)
step_unlink start w a notes p pred expected s g ok =
    let c = last_in a s in
    let b = becomes start a p (Unlinks c (before_at a pred)) in
    leaves_at start w (unlinked_world start w p pred expected s) a notes p (Unlinks c (before_at a pred))
    (reads_won (w.know p) (Unlink pred expected s)) pred expected g
    (λ stands. let m = link_stands start w a notes p g pred expected ok.held.0 ok.in_range.0 stands in
    let r = facts start w a notes p pred expected s g ok m in
    let al = may_unlink start w a notes p pred expected s g ok m in
    let x = with_own (with_checked (w.know p) (reads_won (w.know p) (Unlink pred expected s))) s
    (Some (Unlinked false)) in
    let v = unlinked_world start w p pred expected s true in
    let new = link_written (w.know p) (Unlink pred expected s) in
    let ex = is_exchanged w (put w.know p x) (put w.place s (Own p)) w.calls pred new in
    let left = link_leaves (record w { know = put w.know p x; place = put w.place s (Own p) }) pred new in
    let place : (k : ℕ) → b.place k ≡ put a.place s (Own p) k = λ k. ap (λ j. put a.place j (Own p) k) r.held.slot in
    let owned : b.place s ≡ Own p = place s ∙ put_here a.place s (Own p) in (
      al,
      agrees_won start w v a notes p (Unlinks c (before_at a pred)) (reads_won (w.know p) (Unlink pred expected s)) s
          (Some (Unlinked false)) g al (fits_kept a b refl refl refl refl g.fits)
          (image_exchanged w v a b pred new g.image ex (new_link start w a notes p pred expected s g ok m)
          (old_links start w a notes p pred expected s g ok m) refl refl refl refl refl refl
          (λ k. ap (λ f. f k) left.1 ∙ puts_same w.place a.place s (Own p) g.image.place k ∙ sym (place k)))
          (shown start w a notes p pred expected s g ok m) (goods start w a notes p pred expected s g ok m) left.0
          (owns_changed a b w.know p s x refl (λ k ne. put_other (w.know p).own s (Some (Unlinked false)) k ne)
          (λ q ne. listed_not_of start (a.place s) (a.state c) (a.key c) (g.sound.slots.placed c s r.last)
          (rw r.state tt) q)
          (own_not_of p (b.place s) owned)
          (kept_beside a b s c (Own p) (λ k d ne e. lasts_differ g.sound.slots k s c d ne r.last e) place
          (put_other a.state c (state.Unlinked p a.epoch)))
          (rw (put_here (w.know p).own s (Some (Unlinked false))) (
            owned,
            record {
              node = c;
              last_is = r.last;
              unlinked = a.epoch;
              state = put_here a.state c (state.Unlinked p a.epoch);
              seen = λ z. absurd (cc);
            },
          ))
          g.owns)
          (left.2 ∙ g.calls) (ex.births ∙ g.births),
    ))
