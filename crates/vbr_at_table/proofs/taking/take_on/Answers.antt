use Rattle.std.proofs.lemmas.Result.{err_from_is_err_and}
use Rattle.vbr_at_table.proofs.own_slots.Takings.{TakesOn, ends, unchosen, unwon}
use Rattle.vbr_at_table.proofs.taking.take_on.Given.{Over}
use Rattle.vbr_at_table.proofs.taking.take_on.Goals.{After-bear, After-from_residual, After-from_residual-in_err-place}
use Rattle.vbr_at_table.proofs.taking.take_on.Goals as goal

-- ---- no slot was won

-- then the call tells why no slot was won
none_won : (g : Over) (c : After-from_residual g) →
    TakesOn c.args.at.now.stepper.now c.win_slot.new.at.stepper.now c.args.budget c.from_residual.result
none_won g c =
    let p = err_from_is_err_and c.from_residual.result c.from_residual.ensures.1 in
    rw (p.1, p.2)
    (unwon c.args.at.now.stepper.now c.win_slot.new.at.stepper.now c.args.budget _ c.win_slot.ensures.probes
    c.in_err-used.ensures.none c.requires.empty_hand)

pub returns-in_err-used-clause-took : goal.returns-in_err-used-clause-took
returns-in_err-used-clause-took g c =
    (none_won g (goal.at.returns-in_err-used-clause-took g c).After-from_residual).took

pub returns-in_err-used-clause-takes : goal.returns-in_err-used-clause-takes
returns-in_err-used-clause-takes g c =
    (none_won g (goal.at.returns-in_err-used-clause-takes g c).After-from_residual).takes

pub returns-in_err-used-clause-refused : goal.returns-in_err-used-clause-refused
returns-in_err-used-clause-refused g c =
    (none_won g (goal.at.returns-in_err-used-clause-refused g c).After-from_residual).refused

-- ---- none was chosen

-- then the call tells why none was chosen
none_chosen : (g : Over) (c : After-from_residual-in_err-place g) →
    TakesOn c.args.at.now.stepper.now c.choose.new.at.stepper.now c.args.budget c.from_residual-in_err-place.result
none_chosen g c =
    let p = err_from_is_err_and c.from_residual-in_err-place.result c.from_residual-in_err-place.ensures.1 in
    rw (p.1, p.2)
    (unchosen c.args.at.now.stepper.now c.win_slot.new.at.stepper.now c.choose.new.at.stepper.now c.args.budget
    c.in_ok-used.used c.win_slot.ensures.probes c.in_ok-used.ensures.won c.choose.ensures.chooses _
    c.in_err-place.ensures.none)

pub returns-in_err-place-clause-took : goal.returns-in_err-place-clause-took
returns-in_err-place-clause-took g c =
    (none_chosen g (goal.at.returns-in_err-place-clause-took g c).After-from_residual-in_err-place).took

pub returns-in_err-place-clause-takes : goal.returns-in_err-place-clause-takes
returns-in_err-place-clause-takes g c =
    (none_chosen g (goal.at.returns-in_err-place-clause-takes g c).After-from_residual-in_err-place).takes

pub returns-in_err-place-clause-refused : goal.returns-in_err-place-clause-refused
returns-in_err-place-clause-refused g c =
    (none_chosen g (goal.at.returns-in_err-place-clause-refused g c).After-from_residual-in_err-place).refused

-- ---- one was chosen

-- then the call tells what came of the birth
ended : (g : Over) (c : After-bear g) →
    TakesOn c.args.at.now.stepper.now c.bear.new.at.stepper.now c.args.budget c.bear.result
ended g c =
    ends c.args.at.now.stepper.now c.win_slot.new.at.stepper.now c.choose.new.at.stepper.now c.args.budget
    c.in_ok-used.used c.win_slot.ensures.probes c.in_ok-used.ensures.won c.choose.ensures.chooses
    c.bear.new.at.stepper.now c.in_ok-place.place c.in_ok-place.used c.in_ok-place.ensures.chosen c.bear.result
    c.bear.ensures.born c.bear.ensures.none

pub returns-clause-took : goal.returns-clause-took
returns-clause-took g c = (ended g (goal.at.returns-clause-took g c).After-bear).took

pub returns-clause-takes : goal.returns-clause-takes
returns-clause-takes g c = (ended g (goal.at.returns-clause-takes g c).After-bear).takes

pub returns-clause-taken : goal.returns-clause-taken
returns-clause-taken g c = (ended g (goal.at.returns-clause-taken g c).After-bear).taken

pub returns-clause-refused : goal.returns-clause-refused
returns-clause-refused g c = (ended g (goal.at.returns-clause-refused g c).After-bear).refused
