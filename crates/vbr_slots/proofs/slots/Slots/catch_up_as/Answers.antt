use Rattle.std.proofs.Common.{[], refl, sym, ap, ◌∙◌, subst}
use Rattle.vbr_machine.specs.Runs.{Begins}
use Rattle.vbr_slots.specs.runs.Rule.{first_opened, first_seen, noted}
use Rattle.vbr_slots.specs.Tokens.{SeenView}
use Rattle.vbr_slots.specs.views.Views.{Trace}
use Rattle.vbr_slots.proofs.seats.Members.{token_not_counted}
use Rattle.vbr_slots.proofs.seats.Seats.{joins}
use Rattle.vbr_slots.proofs.steps.Steps.{CaughtUp, asks_to_catch, known, low_of, caught_up, caught_sound, since}
use Rattle.vbr_slots.proofs.steps.Steps.{seen_in}
use Rattle.vbr_slots.proofs.steps.Steps.{beside, wide}
use Rattle.vbr_slots.proofs.slots.Slots.catch_up_as.Given.{Over}
use Rattle.vbr_slots.proofs.slots.Slots.catch_up_as.Goals.{After-load}
use Rattle.vbr_slots.proofs.slots.Slots.catch_up_as.Goals as goal

pub join_seat-requires : goal.join_seat-requires
join_seat-requires g c =
    let home = sym (ap (λ p. p.table) c.self.view_is) in (
      ap (λ (v : Trace). v.table) c.runner.view_is ∙ (c.requires.own.0 ∙ home),
      ap (λ (v : SeenView). v.table) c.token.view_is ∙ (c.requires.token ∙ home),
      ap (λ m. m.1) c.token.invariant.alone,
      wide c.self.inside c.self.invariant,
      joins _ _ _ _ _,
    )

pub load-requires : goal.load-requires
load-requires g c =
    let w = c.args.runner.now in
    let m = c.token.inside.seat.me.0 in
    let both = beside _ _ c.runner.inside.seat.me c.token.inside.seat.me c.join_seat.new.seat.me
    (known c.runner.inside w c.runner.invariant c.runner.view_is) c.token.invariant.alone c.join_seat.ensures.2 in
    asks_to_catch c.self.inside c.args.self.now c.self.invariant c.self.view_is w
    (low_of c.runner.inside w c.runner.invariant c.runner.view_is) c.requires.own _
    (c.join_seat.ensures.0 ∙ ap (λ (v : Trace). v.table) c.runner.view_is) _ c.join_seat.new.seat.me (noted m)
    both (λ number other. token_not_counted number (first_opened m) (first_seen m) other) _ _ c.requires.named

-- what is known once the runner has caught up
caught : (g : Over) (c : After-load g) →
    CaughtUp c.args.runner.now (noted c.token.inside.seat.me.0) c.load.new.seat.me
caught g c =
    let both = beside _ _ c.runner.inside.seat.me c.token.inside.seat.me c.join_seat.new.seat.me
    (known c.runner.inside c.args.runner.now c.runner.invariant c.runner.view_is) c.token.invariant.alone
    c.join_seat.ensures.2 in
    caught_up c.args.runner.now c.args.self.now c.requires.own c.join_seat.new.seat.me c.load.new.seat.me
    (noted c.token.inside.seat.me.0) both _ _ c.requires.named c.load.ensures.2

pub invariant_of-runner : goal.invariant_of-runner
invariant_of-runner g c =
    let end = caught g (goal.at.invariant_of-runner g c).After-load in
    caught_sound c.runner.inside c.args.runner.now c.runner.invariant c.runner.view_is _ _ end
    (record c.runner.inside { seat = c.load.new.seat }) end.now (refl, refl, refl)

pub returns-clause-since : goal.returns-clause-since
returns-clause-since g c =
    let end = caught g (goal.at.returns-clause-since g c).After-load in
    since c.runner.inside c.args.runner.now c.runner.invariant c.runner.view_is _ _ end
    (record c.runner.inside { seat = c.load.new.seat }) end.now (refl, refl, refl)
    (c.load.ensures.0 ∙ c.join_seat.ensures.0)

pub returns-clause-begins : goal.returns-clause-begins
returns-clause-begins g c =
    let end = caught g (goal.at.returns-clause-begins g c).After-load in
    let told = end.mates.0 in
    subst (λ es. Begins c.args.token.seen es) (sym (seen_in c.load.new.seat.me _ [] end.now))
    (subst (λ es. Begins es end.run) (ap (λ (v : SeenView). v.seen) c.token.view_is) (told.0, told.1))
