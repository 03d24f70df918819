use Rattle.std.proofs.Common.{ℕ, ◌≤◌, sym, subst}
use Rattle.vbr_words.specs.declared.link.TheConstants.{SLOT_BITS}
use Rattle.vbr_words.proofs.Packing.{slot_bits-wide}
use Rattle.vbr_words.proofs.shape.Shape.layout.Goals as goal

pub returns-clause-few : goal.returns-clause-few
returns-clause-few c =
    subst (λ (bits : ℕ). bits ≤ SLOT_BITS) (sym c.self.invariant.2)
    (slot_bits-wide c.self.inside.slots c.self.invariant.1.slots)
