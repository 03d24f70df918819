use Rattle.std.proofs.Common.{sym, ap, ◌∙◌}
use Rattle.vbr_slots.specs.Tokens.{SeenView}
use Rattle.vbr_slots.proofs.seats.Seats.{splits_noted}
use Rattle.vbr_slots.proofs.steps.Steps.{none_has_it, wide}
use Rattle.vbr_slots.proofs.slots.Slots.note_again.Goals as goal

pub split_seat-seat-requires : goal.split_seat-seat-requires
split_seat-seat-requires g c = (
  ap (λ (v : SeenView). v.table) c.token.view_is ∙ (c.requires.own ∙ sym (ap (λ p. p.table) c.self.view_is)),
  wide c.self.inside c.self.invariant,
  splits_noted _ _ _ (none_has_it c.self.inside c.self.invariant),
)
