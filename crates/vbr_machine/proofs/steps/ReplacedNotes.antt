-- What a pass has checked by replacing a node is good.
use Rattle.std.proofs.Common.{◌≡◌, ◌≢◌, ℕ, Some, arith, sym, ap, ◌∙◌}
use Rattle.vbr_machine.specs.Start.{Start}
use Rattle.vbr_words.specs.Words.{link_of}
use Rattle.vbr_words.specs.declared.place.At.TheVariants.{Slot}
use Rattle.vbr_machine.specs.Acceptance.{Accepts}
use Rattle.vbr_machine.specs.Learning.{reads_won, link_written}
use Rattle.vbr_machine.specs.Machine.{World}
use Rattle.vbr_machine.specs.Incarnations.{Linked, last_in, Incarnations}
use Rattle.vbr_machine.specs.Opened.{opening_keys}
use Rattle.vbr_machine.specs.Chronicles.{Replaces, becomes}
use Rattle.vbr_machine.specs.Notes.{Notes}
use Rattle.vbr_machine.specs.Agreement.{Agrees}
use Rattle.vbr_machine.specs.declared.event.Step.TheVariants.{Replace}
use Rattle.vbr_machine.specs.declared.knowledge.Read.TheVariants.{LinkAt}
use Rattle.vbr_machine.proofs.reads.HeldReads.{stays_held, stays_next}
use Rattle.vbr_machine.proofs.reads.Noted.{AreShown, AreGood}
use Rattle.vbr_machine.proofs.chronicles.Growth.{grows}
use Rattle.vbr_machine.proofs.reads.StandingLinks.{LinkStands}
use Rattle.vbr_machine.proofs.steps.PublishSteps.{birth_there_low, next_low}
use Rattle.vbr_machine.proofs.steps.PublishedNotes.{pair_as, filled_good, filled_shown}
use Rattle.vbr_machine.proofs.steps.ReplaceSteps.{ready, may_take, new_link, old_links, old_marked, old_next}
use Rattle.vbr_machine.proofs.steps.ReplaceSteps.{new_next, held_new}

module _ (start : Start) (w : World) (a : Incarnations) (notes : ℕ → Notes) (p s expected t : ℕ)
    (g : Agrees start w a notes) (ok : Accepts start (w.know p) (Replace s expected t))
    (m : LinkStands start a (w.know p).epoch (w.know p).checked (Slot s) (link_of expected)) where
  pub goods : AreGood (becomes start a p (Replaces (last_in a s) (last_in a t))) (w.know p).epoch
      (reads_won (w.know p) (Replace s expected t))
  goods =
      let old = last_in a s in
      let c = last_in a t in
      let b = becomes start a p (Replaces old c) in
      let e = (w.know p).epoch in
      let r = ready start w a notes p s expected t g ok m in
      let take = may_take start w a notes p s expected t g ok m in
      let h = held_new start w a notes p s expected t g ok m in
      let grow = grows start (opening_keys start) a p (Replaces old c) g.sound take in
      let le = (g.knows p).epoch in (
        pair_as b (Slot s) e (link_written (w.know p) (Replace s expected t)) (a.last s) (Some old) (b.next old)
            (Some c) m.last (old_next start a p old c)
            (record {
              version = (let i = m.birth ok.held.1.0 in
                  let j = r.birth_is in
                  let k = r.born in
                  let l = birth_there_low a e (Slot s) m.held in
                  omega arith);
              place = stays_held g.sound grow e s old le m.held;
              next = h;
              frozen = λ z. (rw (old_marked take) tt, old_next start a p old c);
            }),
        filled_good r b (a.next old) h (new_next take) take.link
            (next_low a e (link_of expected).slot (a.next old) m.next)
            (stays_next g.sound grow e (link_of expected).slot (a.next old) le m.next),
      )

  pub shown : AreShown (becomes start a p (Replaces (last_in a s) (last_in a t)))
      (reads_won (w.know p) (Replace s expected t))
  shown =
      let c = last_in a t in
      let b = becomes start a p (Replaces (last_in a s) c) in
      let r = ready start w a notes p s expected t g ok m in
      let other : Slot t ≢ Slot s =
      λ e. let z : t ≡ s = cc in
      let o : a.state c ≡ Linked = ap (λ i. a.state (last_in a i)) z ∙ m.is_open in
      let y = r.state in
      cc in (
        ap (LinkAt (Slot s)) (sym (new_link start w a notes p s expected t g ok m)),
        filled_shown r b (old_links start w a notes p s expected t g ok m (Slot t) other),
      )
