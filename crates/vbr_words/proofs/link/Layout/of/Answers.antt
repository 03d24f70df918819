use Rattle.std.proofs.Common.{◌≡◌, ◌+◌, ◌-◌, ◌/◌, ℕ, ◌^◌, ap, sym, ◌∙◌, arith}
use Rattle.std.specs.Int.{leading_zeros, w32}
use Rattle.vbr_words.specs.Packing.{slot_bits}
use Rattle.vbr_words.proofs.Layouts.{mark_of, mask_of}
use Rattle.vbr_words.proofs.Packing.{power_up, slot_bits-wide}
use Rattle.vbr_words.proofs.link.Layout.of.Goals as goal

pub overflow_add-result : goal.overflow_add-result
overflow_add-result c =
    let mask = mask_of c.args.slots c.requires.some c.requires.few in
    let wide = slot_bits-wide c.args.slots c.requires.few in
    let mark : 4294967295 / 2 ^ leading_zeros w32 c.args.slots + 1 ≡ 2 ^ slot_bits c.args.slots =
    mark_of (slot_bits c.args.slots) _ (sym mask.0) in
    let most = power_up (slot_bits c.args.slots) 31 wide in
    omega (arith, mark, most)

pub invariant_of-result : goal.invariant_of-result
invariant_of-result c =
    let mask = mask_of c.args.slots c.requires.some c.requires.few in
    let wide = slot_bits-wide c.args.slots c.requires.few in
    let same = mask.1 in (
      ap (λ (bits : ℕ). 2 ^ bits - 1) mask.1 ∙ sym mask.0,
      ap (λ (bits : ℕ). 2 ^ bits) mask.1 ∙ sym (mark_of (slot_bits c.args.slots) _ (sym mask.0)),
      omega (arith, wide, same),
    )

pub returns : goal.returns
returns c = (mask_of c.args.slots c.requires.some c.requires.few).1
