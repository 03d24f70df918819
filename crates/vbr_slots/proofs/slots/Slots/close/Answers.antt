use Rattle.std.proofs.Common.{[], ◌∷◌, ◌++◌, append_assoc, sym, ap, ◌∙◌, subst}
use Rattle.std.specs.Vec.Iter.{into_iter_items}
use Rattle.vbr_slots.specs.runs.Closing.{AllOf}
use Rattle.vbr_slots.specs.views.Views.{Trace, PassView}
use Rattle.vbr_slots.proofs.seats.Seats.{enters, joins}
use Rattle.vbr_slots.proofs.steps.Steps.{known, wide}
use Rattle.vbr_slots.proofs.runs.Closings.{witnesses_of, one_of, witnesses_of-snoc, none_left, ends}
use Rattle.vbr_slots.proofs.slots.Slots.close.Goals as goal

pub load_new_seat-seat-requires : goal.load_new_seat-seat-requires
load_new_seat-seat-requires g c = (wide c.self.inside c.self.invariant, enters _ _ _)

pub join_seat-requires : goal.join_seat-requires
join_seat-requires g c =
    let i = c.loop-pass.invariant in
    let all = sym (ap (λ ps. c.loop-pass.yielded ++ ps) c.in-Some.ensures.steps.0) ∙ i.2 in
    let trace_is = c.runner.view_is ∙ ap (λ (w : PassView). w.trace) (c.stepper.view_is ∙ c.pass.view_is) in
    let of = one_of c.args.self c.loop-pass.yielded c.in-Some.pass _
    (subst (AllOf c.args.self) (sym all) c.requires) in (
      i.0,
      ap (λ (w : Trace). w.table) (trace_is) ∙ (of.0 ∙ sym (ap (λ q. q.table) c.self.view_is)),
      ap (λ m. m.1) c.runner.invariant.alone,
      wide c.self.inside c.self.invariant,
      joins _ _ _ _ _,
    )

pub loop-pass-preserved : goal.loop-pass-preserved
loop-pass-preserved g c =
    let i = c.loop-pass.invariant in
    let all = sym (ap (λ ps. c.loop-pass.yielded ++ ps) c.in-Some.ensures.steps.0) ∙ i.2 in (
      c.join_seat.ensures.0 ∙ i.0,
      c.join_seat.ensures.2
          ∙ (λ k. (
            (i.1 k).0
                ++ (known c.runner.inside c.in-Some.pass.trace c.runner.invariant
                (c.runner.view_is ∙ ap (λ (w : PassView). w.trace) (c.stepper.view_is ∙ c.pass.view_is)) k).0,
            (i.1 k).1,
          )) ∙ sym (ap (λ ms. (ms, [])) (witnesses_of-snoc c.loop-pass.yielded c.in-Some.pass)),
      append_assoc c.loop-pass.yielded (c.in-Some.pass ∷ []) (into_iter_items c.next.new.self) ∙ all,
    )

pub returns-clause-ok : goal.returns-clause-ok
returns-clause-ok g c =
    let i = c.loop-pass.invariant in
    let whole = none_left c.loop-pass.yielded (into_iter_items c.loop-pass.pass-iterator) c.args.passes.items
    (sym c.loop-pass.pass-iterator.rest.ok.0 ∙ c.in-None.ensures.steps.0) i.2 in
    rw c.words_of.ensures
    (ends c.self.inside c.args.self c.self.invariant c.self.view_is _ c.loop-pass.seat.me c.args.passes.items
    (i.1 ∙ ap (λ ps. (witnesses_of ps, [])) whole) _ _ c.close_with.ensures.values.2)
