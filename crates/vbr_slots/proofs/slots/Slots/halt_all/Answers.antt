use Rattle.std.proofs.Common.{[], ◌∷◌, ◌++◌, length, refl, sym, ap, ◌∙◌, subst, arith}
use Rattle.std.proofs.lemmas.List.{length-append}
use Rattle.vbr_slots.specs.runs.Closing.{AllOf}
use Rattle.vbr_slots.specs.runs.Snapshots.{AreHalted, witnesses_of}
use Rattle.vbr_slots.specs.views.StepperView.{IsWell}
use Rattle.vbr_slots.specs.views.Views.{PassView, TableView, Trace, counted_steps, steps_of}
use Rattle.vbr_slots.proofs.runs.Closings.{one_of}
use Rattle.vbr_slots.proofs.runs.Halting.{all_joined, all_taken, one_more, parts_after}
use Rattle.vbr_slots.proofs.seats.Seats.{joins}
use Rattle.vbr_slots.proofs.steps.Steps.{Sat, known, wide}
use Rattle.vbr_slots.proofs.slots.Slots.halt_all.Goals as goal

pub join_seat-requires : goal.join_seat-requires
join_seat-requires g c =
    let h = c.loop-pass.invariant.halting in
    let trace_is = c.runner.view_is ∙ ap (λ (w : PassView). w.trace) (c.stepper.view_is ∙ c.pass.view_is) in
    let of = one_of c.args.self.now c.pop.new.self.items c.in-Some.pass h.taken
    (subst (AllOf c.args.self.now)
    (sym (parts_after c.loop-pass.passes.items c.pop.new.self.items h.taken c.args.passes.now.items c.in-Some.pass
    c.in-Some.ensures.items h.parts)) c.requires.of_table) in
    let home = sym (ap (λ (q : TableView). q.table) c.self.view_is) in (
      ap (λ (v : Trace). v.table) trace_is ∙ of.0 ∙ home,
      h.table ∙ home,
      ap (λ (m : Sat). m.1) h.me,
      wide c.self.inside c.self.invariant,
      joins _ _ _ _ _,
    )

pub loop-pass-preserved : goal.loop-pass-preserved
loop-pass-preserved g c =
    let i = c.loop-pass.invariant in
    let h = i.halting in
    let pass_is = c.stepper.view_is ∙ c.pass.view_is in
    let trace_is = c.runner.view_is ∙ ap (λ (w : PassView). w.trace) pass_is in
    let of = one_of c.args.self.now c.pop.new.self.items c.in-Some.pass h.taken
    (subst (AllOf c.args.self.now)
    (sym (parts_after c.loop-pass.passes.items c.pop.new.self.items h.taken c.args.passes.now.items c.in-Some.pass
    c.in-Some.ensures.items h.parts)) c.requires.of_table) in
    let fewer = ap (λ ps. length ps) c.in-Some.ensures.items
    ∙ length-append c.pop.new.self.items (c.in-Some.pass ∷ []) in
    let longer = ap (λ hs. length hs) c.in-Ok.ensures.items ∙ length-append c.loop-pass.halted.items (_ ∷ []) in
    record {
      halting = one_more h c.in-Some.ensures.items
          (c.join_seat.ensures.0 ∙ ap (λ (v : Trace). v.table) trace_is ∙ of.0)
          (c.join_seat.ensures.2
          ∙ ap (λ (m : Sat). (m.0 ++ c.loop-pass.joined.me.0, m.1))
          (known c.runner.inside c.in-Some.pass.trace c.runner.invariant trace_is))
          c.in-Ok.ensures.items
          (record {
            runner = c.runner.inside;
            sound = c.runner.invariant;
            trace = trace_is;
            same = (refl, refl, refl);
            pool = ap (λ (w : PassView). w.pool) pass_is;
            hand = ap (λ (w : PassView). w.hand) pass_is;
            well = subst (λ (w : Trace). IsWell (record c.stepper.inside { runner = w }))
                (ap (λ (w : PassView). w.trace) pass_is) c.stepper.invariant;
            steps = c.pass.invariant.steps ∙ ap (λ (w : PassView). counted_steps (steps_of w.trace)) c.pass.view_is;
          });
      room = let room = i.room in let more = c.in-Ok.ensures.capacity in omega arith;
      capacity = c.pop.ensures.capacity ∙ i.capacity;
    }

pub returns-clause-seat : goal.returns-clause-seat
returns-clause-seat g c =
    let h = c.loop-pass.invariant.halting in
    all_joined h (all_taken h (sym c.loop-pass.passes.ok.0 ∙ c.in_default.ensures.cases.0)) c.requires.of_table

pub returns-clause-me : goal.returns-clause-me
returns-clause-me g c =
    let h = c.loop-pass.invariant.halting in
    h.me ∙ ap (λ ps. (witnesses_of ps, [])) (all_taken h (sym c.loop-pass.passes.ok.0 ∙ c.in_default.ensures.cases.0))

pub returns-clause-halted : goal.returns-clause-halted
returns-clause-halted g c =
    let h = c.loop-pass.invariant.halting in
    subst (λ ps. AreHalted ps c.loop-pass.halted.items)
    (all_taken h (sym c.loop-pass.passes.ok.0 ∙ c.in_default.ensures.cases.0)) h.kept
