use Rattle.std.proofs.Common.{ℕ, ◌≤◌, length, sym, ap, ◌∙◌, subst, arith}
use Rattle.vbr_machine.specs.Start.{IsStart}
use Rattle.vbr_slots.specs.runs.Snapshots.{AreReadBy}
use Rattle.vbr_slots.specs.views.Views.{TableView}
use Rattle.vbr_slots.proofs.runs.Halting.{all_again, as_many, exact_again, one_again, sound_again, well_again}
use Rattle.vbr_slots.proofs.runs.Snapshots.{ends_so}
use Rattle.vbr_slots.proofs.seats.Seats.{enters, splits_first}
use Rattle.vbr_slots.proofs.steps.Steps.{Sat, wide}
use Rattle.vbr_slots.proofs.slots.Slots.snapshot.Goals as goal

pub load_new_seat-none-requires : goal.load_new_seat-none-requires
load_new_seat-none-requires g c = (wide c.self.inside c.self.invariant, enters _ _ _)

pub read_all-requires-clause-all : goal.read_all-requires-clause-all
read_all-requires-clause-all g c =
    subst (λ (n : ℕ). c.args.self.now.passes ≤ n)
    (sym (ap (λ (m : Sat). length m.0) c.halt_all-joined.ensures.me ∙ as_many c.args.passes.now.items)) c.requires.all

pub split_seat-others-requires : goal.split_seat-others-requires
split_seat-others-requires g c = (
  c.loop-kept.invariant.halting.table ∙ sym (ap (λ (q : TableView). q.table) c.self.view_is),
  wide c.self.inside c.self.invariant,
  splits_first _ _ _,
)

pub invariant_of-runner : goal.invariant_of-runner
invariant_of-runner g c =
    let s = c.split_seat-others.ensures in
    sound_again _ _ c.requires.of_table c.loop-kept.invariant.halting c.in-Some.ensures.items
    c.split_seat-others.new.seat s.0 s.2

pub invariant_of-stepper : goal.invariant_of-stepper
invariant_of-stepper g c =
    let s = c.split_seat-others.ensures in
    well_again _ _ c.requires.of_table c.loop-kept.invariant.halting c.in-Some.ensures.items
    c.split_seat-others.new.seat s.0 s.2

pub invariant_of-push : goal.invariant_of-push
invariant_of-push g c =
    let s = c.split_seat-others.ensures in
    record {
      steps =
          exact_again _ _ c.requires.of_table c.loop-kept.invariant.halting c.in-Some.ensures.items
          c.split_seat-others.new.seat s.0 s.2;
    }

pub loop-kept-preserved : goal.loop-kept-preserved
loop-kept-preserved g c =
    let s = c.split_seat-others.ensures in
    let i = c.loop-kept.invariant in
    record {
      halting = one_again _ _ c.requires.of_table i.halting c.in-Some.ensures.items
          c.split_seat-others.new.seat s.0 s.2
          c.in-Ok.ensures.items s.3 s.4;
      room = let room = i.room in let more = c.in-Ok.ensures.capacity in omega arith;
    }

pub returns-clause-same : goal.returns-clause-same
returns-clause-same g c =
    all_again c.loop-kept.invariant.halting (sym c.loop-kept.halted.ok.0 ∙ c.in_default.ensures.cases.0)

pub returns-clause-words : goal.returns-clause-words
returns-clause-words g c =
    let table = c.args.self.now in
    let words = c.read_all.new.words.items in
    ends_so table c.args.passes.now.items words
    (subst (λ (q : TableView). IsStart q.start) c.self.view_is c.self.invariant.start)
    (subst (λ (m : Sat). AreReadBy table m.0 words) c.halt_all-joined.ensures.me c.read_all.ensures.read)
