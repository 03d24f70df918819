-- After a won unlinking the new link stands at the place.
use Rattle.std.proofs.Common.{◌≡◌, ℕ, Bool, true, [], ◌++◌, sym, ap, ◌∙◌, subst, cond, eq-eqb, append-nil}
use Rattle.std.specs.Prelude.{◌==◌}
use Rattle.vbr_machine.specs.Start.{Start}
use Rattle.vbr_words.specs.Words.{link_of}
use Rattle.vbr_words.specs.declared.link.Link.{Link}
use Rattle.vbr_words.specs.declared.place.At.{At}
use Rattle.vbr_words.specs.declared.place.At.TheVariants.{Head, Slot}
use Rattle.vbr_machine.specs.Knowledge.{Know}
use Rattle.vbr_machine.specs.Learning.{link_written}
use Rattle.vbr_machine.specs.Machine.{World, found, link_at, after, with_learning, with_link_at}
use Rattle.vbr_machine.specs.Membership.{IsHeldPlace}
use Rattle.vbr_machine.specs.Runs.{world_after, know_after}
use Rattle.vbr_machine.specs.declared.event.Step.TheVariants.{Unlink}
use Rattle.vbr_machine.specs.declared.knowledge.SlotPlace.TheVariants.{Own}
use Rattle.vbr_machine.specs.Put.{put}
use Rattle.vbr_machine.proofs.Lemmas.{others_leave_know, put_here, world_after-snoc}
use Rattle.vbr_slots.specs.views.Views.{Trace, Did, knows, event_of}
use Rattle.vbr_slots.proofs.Lemmas.{did_run, did_seen}
use Rattle.vbr_at_table.specs.reads.Moments.{Stood}
use Rattle.vbr_at_table.proofs.reads.Moments.{won}

-- a link that was written stands there
link_put : (w : World) (place : At) (link : Link) (s p : ℕ) →
    link_at (record (with_link_at w place link) { place = put w.place s (Own p) }) place ≡ link
link_put w (Head b) link s p = put_here w.head b link
link_put w (Slot t) link s p = put_here w.link t link

test_won : (b : Bool) (place : At) (x y : World) (link : Link) → b ≡ true → link_at x place ≡ link →
    link_at (cond b x y) place ≡ link
test_won b place x y link t e = ap (λ (b : Bool). link_at (cond b x y) place) t ∙ e

unlinked : (start : Start) (w : World) (p : ℕ) (pred : At) (expected s : ℕ) →
    found start w (Unlink pred expected s) ≡ expected →
    link_at (after start w p (Unlink pred expected s)) pred ≡ link_written (w.know p) (Unlink pred expected s)
unlinked start w p pred expected s is =
    test_won (found start w (Unlink pred expected s) == expected) pred _ w _ (eq-eqb _ expected is)
    (link_put (with_learning start w p (Unlink pred expected s)) pred (link_written (w.know p) (Unlink pred expected s))
    s p)

module _ {p q : Trace} {pred : At} {expected s : ℕ} (d : Did (Unlink pred expected s) p q expected) where
  -- it is the one that the machine writes by what the pass knew
  pub link_after : link_at (world_after p.start q.seen) pred ≡ link_written (knows p) (Unlink pred expected s)
  link_after =
      let w = world_after p.start (p.seen ++ d.rest) in
      let stood = won expected _ d.shows.answers in
      ap (λ l. link_at (world_after p.start l) pred) d.seen
      ∙ ap (λ (v : World). link_at v pred)
      (world_after-snoc p.start (p.seen ++ d.rest) (event_of p.who (Unlink pred expected s)))
      ∙ unlinked p.start w p.who pred expected s stood
      ∙ ap (λ (k : Know). link_written k (Unlink pred expected s))
      (others_leave_know p.start p.seen d.rest p.who d.none)

  -- so it stood there at the end
  pub stood_at_end : (birth word epoch : ℕ) → link_written (knows p) (Unlink pred expected s) ≡ link_of word →
      IsHeldPlace (knows q) pred → (knows q).epoch ≡ epoch →
      Stood p q (record { at = pred; birth = birth; word = word; epoch = epoch })
  stood_at_end birth word epoch is held same =
      let know : know_after p.start q.seen p.who ≡ knows q = λ i. know_after (sym d.same.1 i) q.seen (sym d.same.3 i) in
      record {
        moment = q.seen;
        within = record { from = did_seen d; to = ([], sym (append-nil q.seen)); is_run = did_run d };
        epoch = ap (λ (k : Know). k.epoch) know ∙ same;
        place = let P : Know → Type 0 = λ k. IsHeldPlace k pred in subst P (sym know) held;
        shown = link_after ∙ is;
      }
