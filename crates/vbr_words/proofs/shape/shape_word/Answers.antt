use Rattle.std.proofs.Common.{◌≡◌, ◌+◌, ◌*◌, ◌^◌, ℕ, ap, ◌∙◌, arith}
use Rattle.vbr_words.specs.Dimensions.{Dimensions}
use Rattle.vbr_words.specs.Packing.{slot_bits}
use Rattle.vbr_words.proofs.Packing.{shape_word_fits}
use Rattle.vbr_words.proofs.shape.shape_word.Goals as goal

pub overflow_mul-result : goal.overflow_mul-result
overflow_mul-result c =
    let fits = shape_word_fits _ c.shape.inside.layout c.shape.invariant.1 c.shape.invariant.2 in
    let is : c.mark.result * c.shape.inside.last_epoch ≡ 2 ^ c.shape.inside.layout * c.shape.inside.last_epoch =
    ap (λ (n : ℕ). n * c.shape.inside.last_epoch) c.mark.ensures.mark in
    let most = fits.1 in
    omega (arith, is, most)

pub overflow_add-result : goal.overflow_add-result
overflow_add-result c =
    let fits = shape_word_fits _ c.shape.inside.layout c.shape.invariant.1 c.shape.invariant.2 in
    let is : c.mark.result * c.shape.inside.last_epoch ≡ 2 ^ c.shape.inside.layout * c.shape.inside.last_epoch =
    ap (λ (n : ℕ). n * c.shape.inside.last_epoch) c.mark.ensures.mark in
    let most = fits.1 in
    let few = c.shape.invariant.1.slots in
    let from = c.from.ensures in
    omega (arith, is, most, few, from)

pub returns : goal.returns
returns c =
    (λ i. c.from.ensures i + c.mark.ensures.mark i * c.shape.inside.last_epoch)
    ∙ (λ i. c.shape.inside.slots + 2 ^ c.shape.invariant.2 i * c.shape.inside.last_epoch)
    ∙ ap (λ (d : Dimensions). d.slots + 2 ^ slot_bits d.slots * d.last_epoch) c.shape.view_is
