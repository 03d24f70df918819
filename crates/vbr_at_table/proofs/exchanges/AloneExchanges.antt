-- A won unlinking: the link that was written stands, and what it leaves to a pass that was alone.
use Rattle.std.proofs.Common.{◌≡◌, ℕ, suc, false, [], ◌∷◌, ◌++◌, sym, ap, ◌∙◌}
use Rattle.vbr_machine.specs.Start.{Start, IsStart}
use Rattle.vbr_words.specs.Words.{link_of}
use Rattle.vbr_words.specs.declared.place.At.{At}
use Rattle.vbr_words.specs.declared.place.At.TheVariants.{Head, Slot}
use Rattle.vbr_machine.specs.Acceptance.{Accepts}
use Rattle.vbr_machine.specs.Accounts.{incarnations_after, notes_after}
use Rattle.vbr_machine.specs.Agreement.{Agrees}
use Rattle.vbr_machine.specs.Images.{link_shown_at}
use Rattle.vbr_machine.specs.Incarnations.{Incarnations}
use Rattle.vbr_machine.specs.Learning.{link_written}
use Rattle.vbr_machine.specs.Machine.{found}
use Rattle.vbr_machine.specs.Machine as machine
use Rattle.vbr_machine.specs.Membership.{Knows}
use Rattle.vbr_machine.specs.Nodes.{behind}
use Rattle.vbr_machine.specs.Runs.{world_after}
use Rattle.vbr_machine.specs.declared.event.Step.TheVariants.{Unlink}
use Rattle.vbr_machine.specs.declared.knowledge.Read.TheVariants.{LinkAt}
use Rattle.vbr_machine.proofs.Lemmas.{run_agrees, unlink_makes, unlink_takes_listed, unlink_takes_one}
use Rattle.vbr_slots.specs.steps.Alone.{IsAlone, nodes, ahead}
use Rattle.vbr_slots.specs.views.Views.{Trace, Did, knows, event_of}
use Rattle.vbr_slots.proofs.Lemmas.{did_run, found_now, nodes_next, run_was, same_leaves}
use Rattle.vbr_at_table.specs.answers.WonAlone.{StandsNow, UnlinksAlone}
use Rattle.vbr_at_table.specs.reads.KeptKnowledge.{Keeps}
use Rattle.vbr_at_table.proofs.reads.KeptKnowledge.{held_in_kept}
use Rattle.vbr_at_table.specs.declared.held.Held.{Held}
use Rattle.vbr_at_table.proofs.reads.Moments.{won}
use Rattle.vbr_at_table.proofs.exchanges.UnlinkedLinks.{link_after}
use Rattle.vbr_at_table.proofs.reads.ReadSteps.{shape_on}

-- ---- a won unlinking

-- the link that was written stands there, whoever did what before
module _ {p q : Trace} {expected s : ℕ} {pred : At} (is : IsStart p.start)
    (d : Did (Unlink pred expected s) p q expected) where
  pub written_stands : (new : ℕ) → link_written (knows p) (Unlink pred expected s) ≡ link_of new →
      link_shown_at (nodes q) pred ≡ link_of new
  written_stands new is_new =
      image pred (run_agrees q.start q.passes q.seen (shape_on d is) (did_run d))
      ∙ ap (λ (start : Start). machine.link_at (world_after start q.seen) pred) d.same.1 ∙ link_after d ∙ is_new
    where
      image : (place : At) →
          Agrees q.start (world_after q.start q.seen) (incarnations_after q.start q.seen) (notes_after q.start q.seen) →
          link_shown_at (nodes q) place ≡ machine.link_at (world_after q.start q.seen) place
      image (Head b) g = sym (g.image.head b)
      image (Slot t) g = sym (g.image.link t)

module _ {p q : Trace} {expected s : ℕ} {pred : At} (is : IsStart p.start)
    (d : Did (Unlink pred expected s) p q expected) (alone : IsAlone p q) where
  won_now : found p.start (world_after p.start p.seen) (Unlink pred expected s) ≡ expected
  won_now = sym (found_now d alone) ∙ won expected _ d.shows.answers

  ahead_is : (bucket : ℕ) (place : At) →
      ahead q bucket place
      ≡ behind p.start (incarnations_after p.start (p.seen ++ event_of p.who (Unlink pred expected s) ∷ [])) bucket
      place
  ahead_is bucket place = (λ i. behind (d.same.1 i) (nodes_next d alone i) bucket place)

pub unlinked_alone : {p q : Trace} {s : ℕ} (held : Held) (new : ℕ) → IsStart p.start →
    (d : Did (Unlink held.at held.word s) p q held.word) → IsAlone p q →
    Accepts p.start (knows p) (Unlink held.at held.word s) → Knows (knows p) (LinkAt held.at (link_of held.word)) →
    (link_of held.word).mark ≡ false → StandsNow p held →
    link_written (knows p) (Unlink held.at held.word s) ≡ link_of new →
    UnlinksAlone p q held (record { at = held.at; birth = held.birth; word = new; epoch = held.epoch })
unlinked_alone {p} {q} {s} held new is d alone accepts known unmarked stands is_new =
    let ok = run_was d alone in
    let w = won_now is d alone in
    record {
      epoch = ap (λ (a : Incarnations). a.epoch)
          (nodes_next d alone ∙ unlink_makes p.start p.passes p.seen is ok p.who held.at held.word s w);
      stands = written_stands is d new is_new;
      fewer = λ bucket inside.
          unlink_takes_one p.start p.passes p.seen is ok p.who bucket held.at held.word s accepts w known unmarked
          stands inside ∙ ap suc (sym (ahead_is is d alone bucket held.at));
      listed = λ bucket h inside.
          unlink_takes_listed p.start p.passes p.seen is ok p.who bucket held.at held.word s accepts w known unmarked
          stands inside h ∙ ap suc (sym (ahead_is is d alone bucket (Head h)));
    }

-- an unlinking that came after what only read
pub unlinks_after : (p q r : Trace) (pred place : Held) → q.start ≡ p.start → nodes q ≡ nodes p →
    Keeps (knows p) (knows q) → UnlinksAlone q r pred place → UnlinksAlone p r pred place
unlinks_after p q r pred place start same keeps x =
    let l = same_leaves p q start same in
    record {
      epoch = x.epoch ∙ l.epoch;
      stands = x.stands;
      fewer = λ bucket inside. sym (l.count bucket pred.at) ∙ x.fewer bucket (held_in_kept pred.at bucket keeps inside);
      listed = λ bucket h inside.
          sym (l.count bucket (Head h)) ∙ x.listed bucket h (held_in_kept pred.at bucket keeps inside);
    }
