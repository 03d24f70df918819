-- A mark leaves the epoch, the link of each other place, and as many nodes in each list.
-- A replacement leaves those links too.
use Rattle.std.proofs.Common.{◌≡◌, ◌≢◌, ℕ, [], ◌∷◌, ◌++◌, refl, sym, subst, ap, ◌∙◌}
use Rattle.std.specs.Prelude.{◌==◌}
use Rattle.vbr_machine.specs.Start.{Start, IsStart}
use Rattle.vbr_words.specs.Words.{link_of}
use Rattle.vbr_words.specs.declared.place.At.{At}
use Rattle.vbr_words.specs.declared.place.At.TheVariants.{Head, Slot}
use Rattle.vbr_machine.specs.Accounts.{incarnations_after}
use Rattle.vbr_machine.specs.Agreement.{Agrees}
use Rattle.vbr_machine.specs.Disturbances.{own_changes}
use Rattle.vbr_machine.specs.Images.{link_shown_at}
use Rattle.vbr_machine.specs.Incarnations.{Incarnations}
use Rattle.vbr_machine.specs.Learning.{link_written}
use Rattle.vbr_machine.specs.Links.{marked}
use Rattle.vbr_machine.specs.Machine.{World, after, found, link_at}
use Rattle.vbr_machine.specs.Nodes.{behind}
use Rattle.vbr_machine.specs.Notes.{Notes}
use Rattle.vbr_machine.specs.Runs.{IsRun, world_after}
use Rattle.vbr_machine.specs.declared.event.Step.{Step}
use Rattle.vbr_machine.specs.declared.event.Step.TheVariants.{Mark, Replace}
use Rattle.vbr_machine.proofs.Lemmas.{begins_trans, by_both, is_run_before, mark_leaves, others_leave_entries}
use Rattle.vbr_machine.proofs.Lemmas.{own_unchanged, put_other, run_agrees, since, world_after-snoc}
use Rattle.vbr_slots.specs.steps.Alone.{IsAlone}
use Rattle.vbr_slots.specs.steps.Calls.{Quiet}
use Rattle.vbr_slots.specs.views.Views.{Trace, Did, event_of}
use Rattle.vbr_slots.proofs.Lemmas.{accepted_now, did_run, nodes_next, run_was, seen_next}
use Rattle.vbr_at_table.specs.answers.WonAlone.{MarksAlone}
use Rattle.vbr_at_table.specs.costs.StepKinds.{ChangesNone}
use Rattle.vbr_at_table.specs.answers.Marks.{LeavesOthers}
use Rattle.vbr_at_table.specs.declared.held.Held.{Held}
use Rattle.vbr_at_table.proofs.reads.ReadSteps.{shape_on}

-- ---- in the world

module _ (start : Start) (w : World) (p s expected : ℕ) where
  epoch_left : (after start w p (Mark s expected)).epoch ≡ w.epoch
  epoch_left = by_both (found start w (Mark s expected) == expected) (λ v. v.epoch) _ w w.epoch refl refl

  link_left : (place : At) → place ≢ Slot s → link_at (after start w p (Mark s expected)) place ≡ link_at w place
  link_left (Head b) other =
      by_both (found start w (Mark s expected) == expected) (λ v. v.head b) _ w (w.head b) refl refl
  link_left (Slot t) other =
      by_both (found start w (Mark s expected) == expected) (λ v. v.link t) _ w (w.link t)
      (put_other w.link s (marked (link_of expected)) t (λ e. other (ap Slot e))) refl

-- ---- in what a pass that was alone has seen

link_is : {start : Start} {w : World} {a : Incarnations} {notes : ℕ → Notes} → Agrees start w a notes → (place : At) →
    link_shown_at a place ≡ link_at w place
link_is g (Head b) = sym (g.image.head b)
link_is g (Slot t) = sym (g.image.link t)

pub marked_alone : {p q : Trace} {s r : ℕ} (node : Held) → IsStart p.start → node.at ≡ Slot s →
    Did (Mark s node.word) p q r → IsAlone p q → MarksAlone p q node
marked_alone {p} {q} {s} node is place_is d alone =
    let before = run_agrees p.start p.passes p.seen is (run_was d alone) in
    let now = run_agrees q.start q.passes q.seen (shape_on d is) (did_run d) in
    let w = world_after p.start p.seen in
    let next : world_after q.start q.seen ≡ after p.start w p.who (Mark s node.word) =
    (λ i. world_after (d.same.1 i) (seen_next d alone i))
    ∙ world_after-snoc p.start p.seen (event_of p.who (Mark s node.word)) in
    record {
      epoch = sym now.image.epoch ∙ ap (λ (v : World). v.epoch) next ∙ epoch_left p.start w p.who s node.word
          ∙ before.image.epoch;
      others = λ place other.
          link_is now place ∙ ap (λ (v : World). link_at v place) next
          ∙ link_left p.start w p.who s node.word place (λ e. other (e ∙ sym place_is)) ∙ sym (link_is before place);
      listed = λ bucket h.
          (λ i. behind (d.same.1 i) (nodes_next d alone i) bucket (Head h))
          ∙ mark_leaves p.start p.passes p.seen is (run_was d alone) p.who bucket h s node.word (accepted_now d alone);
    }

-- whatever others did before, a step that leaves the links of all other places than a node's
leaves_by : {p q : Trace} {r : ℕ} (step : Step) (node : Held) → IsStart p.start →
    ((w : World) (place : At) → place ≢ node.at → link_at (after p.start w p.who step) place ≡ link_at w place) →
    Did step p q r → LeavesOthers p q node
leaves_by {p} {q} step node is left d =
    let moment = p.seen ++ d.rest in
    let event = event_of p.who step in
    let ok : IsRun p.start p.passes (moment ++ event ∷ []) = subst (IsRun p.start p.passes) d.seen d.is_run in
    let ok_moment = is_run_before p.start p.passes moment (event ∷ []) ok in
    let before = run_agrees p.start p.passes moment is ok_moment in
    let now = run_agrees p.start p.passes q.seen is d.is_run in
    let w = world_after p.start moment in
    let next : world_after p.start q.seen ≡ after p.start w p.who step =
    ap (world_after p.start) d.seen ∙ world_after-snoc p.start moment event in
    record {
      moment = moment;
      from = (d.rest, refl);
      to = (event ∷ [], d.seen);
      own = λ bucket.
          own_unchanged (since p.start p.passes p.seen moment is ok_moment (d.rest, refl)) p.who bucket
          (others_leave_entries p.start p.seen d.rest p.who d.none);
      links = λ place other.
          link_is now place ∙ ap (λ (v : World). link_at v place) next ∙ left w place other
          ∙ sym (link_is before place);
    }

pub marked_leaves : {p q : Trace} {s r : ℕ} (node : Held) → IsStart p.start → node.at ≡ Slot s →
    Did (Mark s node.word) p q r → LeavesOthers p q node
marked_leaves {p} {q} {s} node is place_is d =
    leaves_by (Mark s node.word) node is
    (λ w place other. link_left p.start w p.who s node.word place (λ e. other (e ∙ sym place_is))) d

-- a replacement does so
replaced_link : (start : Start) (w : World) (p s expected t : ℕ) (place : At) → place ≢ Slot s →
    link_at (after start w p (Replace s expected t)) place ≡ link_at w place
replaced_link start w p s expected t (Head b) other =
    by_both (found start w (Replace s expected t) == expected) (λ v. v.head b) _ w (w.head b) refl refl
replaced_link start w p s expected t (Slot i) other =
    by_both (found start w (Replace s expected t) == expected) (λ v. v.link i) _ w (w.link i)
    (put_other w.link s (link_written (w.know p) (Replace s expected t)) i (λ e. other (ap Slot e))) refl

pub replaced_leaves : {p q : Trace} {s t r : ℕ} (node : Held) → IsStart p.start → node.at ≡ Slot s →
    Did (Replace s node.word t) p q r → LeavesOthers p q node
replaced_leaves {p} {q} {s} {t} node is place_is d =
    leaves_by (Replace s node.word t) node is
    (λ w place other. replaced_link p.start w p.who s node.word t place (λ e. other (e ∙ sym place_is))) d

-- and so it is since what changed no list
pub leaves_since : {p q r : Trace} (node : Held) → Quiet p q → ChangesNone p q → LeavesOthers q r node →
    LeavesOthers p r node
leaves_since {p} {q} {r} node quiet none x = record {
  moment = x.moment;
  from = begins_trans p.seen q.seen x.moment quiet.seen x.from;
  to = x.to;
  own = λ bucket.
      (sym (λ i. own_changes (quiet.same.start i) x.moment (quiet.same.who i) bucket) ∙ x.own bucket)
      ∙ none.same bucket;
  links = λ place other.
      sym (λ i. link_shown_at (incarnations_after (quiet.same.start i) r.seen) place) ∙ x.links place other
      ∙ (λ i. link_shown_at (incarnations_after (quiet.same.start i) x.moment) place);
}
