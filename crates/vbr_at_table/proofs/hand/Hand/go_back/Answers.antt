-- The slot in hand is the last of the pool, and nothing else has changed.
use Rattle.std.proofs.Common.{ℕ, [], ◌∷◌, ◌++◌, ap, ◌∙◌}
use Rattle.vbr_slots.specs.pools.Pools.{hand_without}
use Rattle.vbr_at_table.proofs.own_slots.HadSlots.{put_back}
use Rattle.vbr_at_table.proofs.hand.Hand.go_back.Goals as goal

pub returns : goal.returns
returns c =
    let p = c.args.pass.now in
    let back = c.keep.ensures.pool ∙ ap (λ (slot : ℕ). p.pool ++ slot ∷ []) c.into_slot.ensures in
    put_back p c.keep.new.self c.args.self.slot c.requires.hand.slot c.keep.ensures.trace back
    (c.keep.ensures.hand ∙ ap (λ (slot : ℕ). hand_without slot p.hand) c.into_slot.ensures)
