-- The slot in hand is the last of the pool, and nothing else has changed.
use Rattle.std.proofs.Common.{ℕ, [], ◌∷◌, ◌++◌, ap, ◌∙◌}
use Rattle.vbr_slots.specs.pools.Pools.{hand_without}
use Rattle.vbr_at_table.proofs.own_slots.HadSlots.{put_back}
use Rattle.vbr_at_table.proofs.giving_back.give_back.Goals as goal

pub returns-clause-back : goal.returns-clause-back
returns-clause-back g c =
    let p = c.args.at.now.stepper.now in
    let back = c.keep.ensures.pool ∙ ap (λ (slot : ℕ). p.pool ++ slot ∷ []) c.into_slot.ensures in
    put_back p c.keep.new.self.stepper.now c.args.hand.slot c.requires.hand.slot c.keep.ensures.trace back
    (c.keep.ensures.hand ∙ ap (λ (slot : ℕ). hand_without slot p.hand) c.into_slot.ensures)
