-- What a pass has checked by inserting a node is good.
use Rattle.std.proofs.Common.{◌≡◌, ◌≢◌, ℕ, ◌≤◌, Option, Some, refl, arith, sym, subst, ap, ◌∙◌}
use Rattle.vbr_machine.specs.Start.{Start}
use Rattle.vbr_words.specs.Words.{link_of}
use Rattle.vbr_words.specs.declared.link.Link.{Link}
use Rattle.vbr_words.specs.declared.place.At.{At}
use Rattle.vbr_words.specs.declared.place.At.TheVariants.{Head, Slot}
use Rattle.vbr_machine.specs.Put.{put}
use Rattle.vbr_machine.specs.Acceptance.{Accepts}
use Rattle.vbr_machine.specs.Learning.{reads_won, link_written, birth_in_hand, key_in_hand, link_in_hand}
use Rattle.vbr_machine.specs.Machine.{World}
use Rattle.vbr_machine.specs.Opened.{opening_keys}
use Rattle.vbr_machine.specs.declared.knowledge.Holding.{Holding}
use Rattle.vbr_machine.specs.Incarnations.{Linked, InHand, Incarnations, last_in}
use Rattle.vbr_machine.specs.Images.{birth_shown, key_shown, value_shown, link_to_next, link_in_state, link_shown}
use Rattle.vbr_machine.specs.Images.{link_shown_at}
use Rattle.vbr_machine.specs.Chronicles.{Inserts, IsOpen, next_of, becomes}
use Rattle.vbr_machine.specs.Notes.{Notes, before_at, last_at, shown_at, note_of}
use Rattle.vbr_machine.specs.Agreement.{IsHeldIncarnation, IsHeldNext, IsGoodLink, IsGood, IsOfHeldOne, Agrees}
use Rattle.vbr_machine.specs.declared.event.Step.TheVariants.{Publish}
use Rattle.vbr_machine.specs.declared.knowledge.Read.TheVariants.{LinkAt, BirthOf, KeyOf, ValueOf}
use Rattle.vbr_machine.proofs.words.Puts.{put_here, put_other}
use Rattle.vbr_machine.proofs.reads.HeldReads.{stays_at, stays_next}
use Rattle.vbr_machine.proofs.reads.ValueReads.{filled_reads, of_filled}
use Rattle.vbr_machine.proofs.reads.Noted.{AreShown, AreGood}
use Rattle.vbr_machine.proofs.chronicles.Growth.{grows}
use Rattle.vbr_machine.proofs.steps.Exchanges.{FilledFacts}
use Rattle.vbr_machine.proofs.reads.StandingLinks.{LinkStands, node_at}
use Rattle.vbr_machine.proofs.steps.PublishSteps.{ready, may_insert, new_link, old_links, held_new}
use Rattle.vbr_machine.proofs.steps.PublishSteps.{birth_there_low, next_low}

pub pair_as : (a : Incarnations) (place : At) (e : ℕ) (l : Link) (of off names named : Option ℕ) → of ≡ off →
    names ≡ named → IsGoodLink a e place l off named → IsGoodLink a e place l of names
pair_as a place e l of off names named o n h = rw (o, n) h

one_as : (a : Incarnations) (s e : ℕ) (values : ℕ → ℕ) (value c : ℕ) (of : Option ℕ) → of ≡ Some c →
    IsHeldIncarnation a e s c → values c ≡ value → IsOfHeldOne a e s values value of
one_as a s e values value c of o h v = rw o (h, v)

last_after : (start : Start) (a : Incarnations) (p c : ℕ) (place : At) → last_at a place ≡ node_at a place →
    last_at (becomes start a p (Inserts c (before_at a place))) place ≡ node_at a place
last_after start a p c (Head h) l = refl
last_after start a p c (Slot q) l = l

next_after : (start : Start) (a : Incarnations) (p c : ℕ) (place : At) →
    next_of (becomes start a p (Inserts c (before_at a place)))
    (before_at (becomes start a p (Inserts c (before_at a place))) place) ≡ Some c
next_after start a p c (Head h) = put_here a.first h (Some c)
next_after start a p c (Slot q) = put_here (put a.next c (a.next (last_in a q))) (last_in a q) (Some c)

next_new : (start : Start) (a : Incarnations) (p c q : ℕ) (place : At) → a.state c ≡ InHand q →
    IsOpen a (before_at a place) →
    (becomes start a p (Inserts c (before_at a place))).next c ≡ next_of a (before_at a place)
next_new start a p c q (Head h) st o = put_here a.next c (a.first h)
next_new start a p c q (Slot v) st o =
    let ne : c ≢ last_in a v = λ e. let y : a.state c ≡ Linked = rw e o in cc in
    put_other (put a.next c (a.next (last_in a v))) (last_in a v) (Some c) c ne
    ∙ put_here a.next c (a.next (last_in a v))

-- b with the last incarnations, the births, the keys and the values of a
abbrev filled_as : Incarnations → Incarnations → Incarnations
filled_as a b = record b { last = a.last; birth = a.birth; key = a.key; value = a.value }

-- the reads of a filled slot are good where its incarnation is held, and its link is the one to its successor
pub filled_good : {start : Start} {a : Incarnations} {p s e key : ℕ} {v : Option ℕ} {birth : ℕ}
    {holding : Option Holding} → FilledFacts start a p s e key v birth holding → (b : Incarnations) (n : Option ℕ) →
    IsHeldIncarnation (filled_as a b) e s (last_in a s) → b.next (last_in a s) ≡ n →
    a.link (last_in a s) ≡ link_to_next a (a.birth (last_in a s)) n → birth_shown a n ≤ e →
    IsHeldNext (filled_as a b) e v n → AreGood (filled_as a b) e (filled_reads s holding)
filled_good {start} {a} {p} {s} {e} {key} {v} {birth} {holding} r b n h next link low held =
    let c = last_in a s in
    let d = filled_as a b in
    of_filled (λ read. IsGood d e (note_of d read)) s holding
    (one_as d s e a.birth (birth_in_hand holding) c (a.last s) r.last h (sym r.birth_is))
    (one_as d s e a.key (key_in_hand holding) c (a.last s) r.last h (sym r.key_is))
    (pair_as d (Slot s) e (link_in_hand holding) (a.last s) (Some c) (b.next c) n r.last next (record {
      version = rw (r.link_is ∙ link) (let k = r.born in omega arith);
      place = h;
      next = rw (r.link_is ∙ r.link_ready) held;
      frozen = λ z. let y = ap (λ (i : Link). i.mark) (r.link_is ∙ r.link_ready) in absurd (cc);
    }))
    (λ x q. one_as d s e a.value x c (a.last s) r.last h (r.value_is x q))

-- they are what the incarnations show where its link is shown as before
pub filled_shown : {start : Start} {a : Incarnations} {p s e key : ℕ} {v : Option ℕ} {birth : ℕ}
    {holding : Option Holding} → FilledFacts start a p s e key v birth holding → (b : Incarnations) →
    link_shown_at (filled_as a b) (Slot s) ≡ link_shown_at a (Slot s) →
    AreShown (filled_as a b) (filled_reads s holding)
filled_shown {start} {a} {p} {s} {e} {key} {v} {birth} {holding} r b same =
    let d = filled_as a b in
    of_filled (λ read. read ≡ shown_at d read) s holding
    (ap (BirthOf s) (r.birth_is ∙ sym (ap (birth_shown d) r.last)))
    (ap (KeyOf s) (r.key_is ∙ sym (ap (key_shown d) r.last)))
    (ap (LinkAt (Slot s))
    (r.link_is ∙ sym (ap (link_in_state a (last_in a s)) r.state) ∙ sym (ap (link_shown a) r.last) ∙ sym same))
    (λ x q. ap (ValueOf s) (sym (r.value_is x q) ∙ sym (ap (value_shown d) r.last)))

module _ (start : Start) (w : World) (a : Incarnations) (notes : ℕ → Notes) (p : ℕ) (pred : At) (expected s : ℕ)
    (g : Agrees start w a notes) (ok : Accepts start (w.know p) (Publish pred expected s))
    (m : LinkStands start a (w.know p).epoch (w.know p).checked pred (link_of expected)) where
  pub goods : AreGood (becomes start a p (Inserts (last_in a s) (before_at a pred))) (w.know p).epoch
      (reads_won (w.know p) (Publish pred expected s))
  goods =
      let c = last_in a s in
      let b = becomes start a p (Inserts c (before_at a pred)) in
      let e = (w.know p).epoch in
      let n = next_of a (before_at a pred) in
      let r = ready start w a notes p pred expected s g ok m in
      let h = held_new start w a notes p pred expected s g ok m in
      let allowed = may_insert start w a notes p pred expected s g ok m in
      let grow = grows start (opening_keys start) a p (Inserts c (before_at a pred)) g.sound allowed in
      let le = (g.knows p).epoch in (
        pair_as b pred e (link_written (w.know p) (Publish pred expected s)) (last_at b pred) (node_at a pred)
            (next_of b (before_at b pred)) (Some c) (last_after start a p c pred m.last) (next_after start a p c pred)
            (record {
              version = (let i = m.birth ok.held.1.0 in
                  let j = r.birth_is in
                  let k = r.born in
                  let l = birth_there_low a e pred m.held in
                  omega arith);
              place = stays_at g.sound grow e pred (node_at a pred) le m.held;
              next = h;
              frozen = λ z. absurd (cc);
            }),
        filled_good r.filled b n h (next_new start a p c p pred r.state m.is_open) allowed.link
            (next_low a e (link_of expected).slot n m.next)
            (stays_next g.sound grow e (link_of expected).slot n le m.next),
      )

  pub shown : AreShown (becomes start a p (Inserts (last_in a s) (before_at a pred)))
      (reads_won (w.know p) (Publish pred expected s))
  shown =
      let b = becomes start a p (Inserts (last_in a s) (before_at a pred)) in
      let r = ready start w a notes p pred expected s g ok m in
      let other : Slot s ≢ pred =
      λ e. let P : At → Type 0 = λ i. IsOpen a (before_at a i) in
      let o : IsOpen a (before_at a (Slot s)) = subst P (sym e) m.is_open in
      let y = r.state in
      cc in (
        ap (LinkAt pred) (sym (new_link start w a notes p pred expected s g ok m)),
        filled_shown r.filled b (old_links start w a notes p pred expected s g ok m (Slot s) other),
      )
