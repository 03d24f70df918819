use Rattle.std.proofs.Common.{◌≡◌, ℕ, ◌%◌, ◌^◌, subst}
use Rattle.std.specs.Prelude.{bit_and}
use Rattle.vbr_words.specs.Packing.{slot_bits}
use Rattle.vbr_words.proofs.Layouts.{named_of}
use Rattle.vbr_words.proofs.link.Layout.named.Goals as goal

pub returns : goal.returns
returns c =
    subst (λ (bits : ℕ). bit_and (c.args.word % 4294967296) c.self.inside.mask ≡ c.args.word % 2 ^ bits)
    c.self.view_is
    (named_of (slot_bits c.self.inside.mask) c.self.inside.mask c.args.word c.self.invariant.2 c.self.invariant.0)
