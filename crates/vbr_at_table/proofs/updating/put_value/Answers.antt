use Rattle.std.proofs.Common.{inr}
use Rattle.std.proofs.Common.{◌≡◌, ◌==◌, Bool, true, refl, sym, ap, ◌∙◌, subst}
use Rattle.vbr_machine.specs.Start.{Start}
use Rattle.vbr_slots.specs.views.Views.{knows}
use Rattle.vbr_at_table.proofs.epochs.Advancing.{did_none}
use Rattle.vbr_at_table.proofs.steps.Unchanged.{did_unchanged, none_counted}
use Rattle.vbr_at_table.specs.answers.Exchanges.{StoresIn}
use Rattle.vbr_at_table.specs.answers.Values.{steps_to_value, with_kept_value}
use Rattle.vbr_at_table.proofs.exchanges.Filled.{value_stored, value_stored_keeps, value_stored_quiet}
use Rattle.vbr_at_table.proofs.exchanges.Storing.{stores_one}
use Rattle.vbr_at_table.proofs.updating.put_value.Goals as goal

pub returns-then-VALUES-clause-stores : goal.returns-then-VALUES-clause-stores
returns-then-VALUES-clause-stores g c =
    let has : c.args.at.now.stepper.now.trace.start.shape.values ≡ true =
    ap (λ (d : Start). d.shape.values) c.args.at.now.own.1 ∙ c.kind.ensures ∙ sym c.VALUES.ensures ∙ c.if-VALUES.true in
    let P : Bool → Type 0 =
    λ values. StoresIn c.args.at.now.stepper.now c.store_value.new.self.stepper.now (steps_to_value values) in
    subst P (sym has)
    (stores_one c.store_value.ensures.step (value_stored_keeps c.store_value.ensures.step) c.store_value.ensures.pool.0
    (did_none c.store_value.ensures.step refl (inr c.requires.in_hand) c.store_value.ensures.pool))

pub returns-then-VALUES-clause-puts : goal.returns-then-VALUES-clause-puts
returns-then-VALUES-clause-puts g c =
    let p = c.args.at.now.stepper.now in
    let q = c.store_value.new.self.stepper.now in
    let d = c.store_value.ensures.step in
    let has : p.trace.start.shape.values ≡ true =
    ap (λ (d : Start). d.shape.values) c.args.at.now.own.1 ∙ c.kind.ensures ∙ sym c.VALUES.ensures ∙ c.if-VALUES.true in
    let P : Bool → Type 0 =
    λ values. (knows q.trace).own c.args.slot ≡ with_kept_value values ((knows p.trace).own c.args.slot) c.args.value in
    record {
      quiet = value_stored_quiet d;
      hand = c.store_value.ensures.pool.1;
      holding = subst P (sym has) (value_stored d);
      unchanged = did_unchanged d (λ w a bucket. none_counted (p.trace.who == p.trace.who));
    }
