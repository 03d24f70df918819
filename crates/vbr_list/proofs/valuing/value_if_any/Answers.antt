use Rattle.vbr_list.proofs.Names.{rules, ◌≡◌, Bool, true, false, sym, ◌∙◌, subst, knows, LosesValue, reads_none}
use Rattle.vbr_list.proofs.Names.{ReadsIn, RollsBack, steps_where}
use Rattle.vbr_list.proofs.pieces.Going.{keeps_still, ok_as}
use Rattle.vbr_list.proofs.inserts.Sufficing.{each_error}
use Rattle.vbr_list.proofs.look_ups.ValueReads.{values_as}
use Rattle.vbr_list.proofs.valuing.value_if_any.Goals as goal

pub value_of-requires-clause-values : goal.value_of-requires-clause-values
value_of-requires-clause-values g c = c.kind.ensures ∙ sym c.VALUES.ensures ∙ c.if-VALUES.true

pub returns-then-VALUES : goal.returns-then-VALUES
returns-then-VALUES g c =
    let has = values_as c.args.at.now.own.1 c.kind.ensures c.VALUES.ensures c.if-VALUES.true in
    let P : Bool → Type 0 =
    λ values. ReadsIn c.args.at.now.stepper.now c.value_of.new.at.stepper.now (steps_where values) in
    record {
      reads = subst P (sym has) c.value_of.ensures.reads;
      value = ok_as c.value_of.result (λ value x. record { keeps = x.keeps; value = λ has. x.value })
          c.value_of.ensures.value;
      moved = each_error (RollsBack c.args.at.now.stepper.now c.value_of.new.at.stepper.now)
          (LosesValue c.args.at.now.stepper.now c.value_of.new.at.stepper.now) c.value_of.result
          (λ rollback rolls. record { some = has; rolls = rolls }) c.value_of.ensures.moved;
      table = search rules;
    }

pub returns-else-VALUES-clause-reads : goal.returns-else-VALUES-clause-reads
returns-else-VALUES-clause-reads g c =
    let bare = values_as c.args.at.now.own.1 c.kind.ensures c.VALUES.ensures c.if-VALUES.false in
    let P : Bool → Type 0 =
    λ values. ReadsIn c.args.at.now.stepper.now c.args.at.now.stepper.now (steps_where values) in
    subst P (sym bare) (reads_none c.args.at.now.stepper.now)

pub returns-else-VALUES-clause-value : goal.returns-else-VALUES-clause-value
returns-else-VALUES-clause-value g c =
    let bare = values_as c.args.at.now.own.1 c.kind.ensures c.VALUES.ensures c.if-VALUES.false in
    record {
      keeps = keeps_still (knows c.args.at.now.stepper.now.trace);
      value = λ has. (let e : true ≡ false = sym has ∙ bare in absurd (cc));
    }
