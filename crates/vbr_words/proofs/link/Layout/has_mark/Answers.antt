use Rattle.std.proofs.Common.{◌≡◌, ℕ, ◌/◌, ◌%◌, ◌^◌, ◌==◌, ◌∙◌, not, subst, sym}
use Rattle.std.specs.Prelude.{bit_and}
use Rattle.vbr_words.specs.Packing.{slot_bits}
use Rattle.vbr_words.proofs.Layouts.{tested}
use Rattle.vbr_words.proofs.link.Layout.has_mark.Goals as goal

pub returns : goal.returns
returns c =
    subst (λ (bits : ℕ). not (bit_and c.args.word c.from.result == 0) ≡ (c.args.word / 2 ^ bits % 2 == 1))
    c.self.view_is
    (tested (slot_bits c.self.inside.mask) c.args.word c.from.result (c.from.ensures ∙ sym c.self.invariant.1))
