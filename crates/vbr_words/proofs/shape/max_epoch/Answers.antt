use Rattle.std.proofs.Common.{◌≡◌, ◌+◌, ◌-◌, ℕ, ◌^◌, ap, ◌∙◌, arith}
use Rattle.std.specs.Int.{leading_zeros, w32}
use Rattle.std.proofs.lemmas.Nat.{leading_length, one_shl}
use Rattle.vbr_words.specs.Packing.{slot_bits}
use Rattle.vbr_words.proofs.shape.max_epoch.Goals as goal

pub returns : goal.returns
unfolding slot_bits
returns c =
    let length = leading_length 32 c.args.slots (let few = c.requires in omega (arith, few)) in
    let sum = length.1 in
    let one = one_shl (31 + leading_zeros w32 c.args.slots) 64 (omega (arith, sum)) in
    let bits : 31 + leading_zeros w32 c.args.slots ≡ 63 - (32 - leading_zeros w32 c.args.slots) = omega (arith, sum) in
    ap (λ (n : ℕ). n - 1) (one ∙ ap (λ (n : ℕ). 2 ^ n) bits)
