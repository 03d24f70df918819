-- Slot by slot, the flags of the slots so far.
use Rattle.std.proofs.Common.{◌≡◌, ℕ, ◌+◌, ◌*◌, ◌%◌, ◌^◌, ◌<◌, sym, ap, ◌∙◌, subst, arith}
use Rattle.std.proofs.Math.Facts.{Fits-of_lt}
use Rattle.std.specs.Int.{w64}
use Rattle.vbr_world.specs.WorldInLists.{world_of}
use Rattle.vbr_machine.specs.Machine.{is_flagged}
use Rattle.vbr_machine.proofs.Lemmas.{flags_of_first, no_flags, flag_set, flag_clear, flags_fit, flags_whole}
use Rattle.vbr_world.proofs.world.lists.Lists.flags.Goals as goal
use Rattle.vbr_world.proofs.world.lists.Lists.flags.Goals.{then-is_flagged, else-is_flagged}

pub loop-i-init : goal.loop-i-init
loop-i-init c = sym (no_flags (is_flagged c.args.self.now.start (world_of c.args.self.now)) c.args.number)

pub overflow_add-flags : goal.overflow_add-flags
overflow_add-flags c =
    let fit = flags_fit (is_flagged c.args.self.now.start (world_of c.args.self.now)) c.args.number c.loop-i.i
    c.loop-i-test.true in
    Fits-of_lt {w = w64} (subst (λ (n : ℕ). n + 1 * 2 ^ c.loop-i.i % 2 ^ 64 < 2 ^ 64) (sym c.loop-i.invariant) fit)

pub loop-i-preserved : goal.loop-i-preserved
loop-i-preserved c =
    let is_set = is_flagged c.args.self.now.start (world_of c.args.self.now) in
    elim c.if-is_flagged.branch [
      | then-is_flagged w ↦
          w.flags-is ∙ ap (λ (n : ℕ). n + 1 * 2 ^ c.loop-i.i % 2 ^ 64) c.loop-i.invariant
          ∙ sym (flag_set is_set c.args.number c.loop-i.i c.loop-i-test.true
          (sym c.is_flagged.ensures ∙ w.if-is_flagged.true))
      | else-is_flagged w ↦
          w.flags-is ∙ c.loop-i.invariant
          ∙ sym (flag_clear is_set c.args.number c.loop-i.i (sym c.is_flagged.ensures ∙ w.if-is_flagged.false))
    ]

pub returns : goal.returns
returns c =
    let is_set = is_flagged c.args.self.now.start (world_of c.args.self.now) in
    let past = c.loop-i-test.false in
    let end = c.loop-i.auto.i-end in
    let last : c.loop-i.i ≡ 64 = omega (arith, past, end) in
    c.loop-i.invariant ∙ ap (flags_of_first is_set c.args.number) last ∙ flags_whole is_set c.args.number
