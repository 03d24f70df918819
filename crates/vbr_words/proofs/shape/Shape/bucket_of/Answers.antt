-- The bucket by the mixed bits of a key, or by its remainder, which is a mask where the number of buckets is a
-- power of two.
use Rattle.std.proofs.Common.{◌≡◌, ℕ, ◌*◌, ◌/◌, ◌%◌, ◌^◌, ◌∙◌, ap, subst, arith}
use Rattle.std.specs.Prelude.{count_ones}
use Rattle.std.proofs.lemmas.Bool.Decides.{nat_tests}
use Rattle.vbr_words.specs.Buckets.{bucket_of, mixed}
use Rattle.vbr_words.specs.Dimensions.{Dimensions}
use Rattle.vbr_words.proofs.Buckets.{bucket_of-modulo, bucket_of-spread}
use Rattle.vbr_words.proofs.Powers.{mask_is}
use Rattle.vbr_words.proofs.shape.Shape.bucket_of.Goals as goal

pub returns-in-Some-clause-bucket : goal.returns-in-Some-clause-bucket
returns-in-Some-clause-bucket c =
    let multiplier = c.in-Some.multiplier in
    c.part_of.ensures.part
    ∙ ap (λ (k : ℕ). k * c.self.inside.buckets / 2 ^ 32) c.mixed.ensures.mixed
    ∙ subst (λ (shape : Dimensions).
    mixed multiplier c.args.key * c.self.inside.buckets / 2 ^ 32 ≡ bucket_of shape c.args.key) c.self.view_is
    (bucket_of-spread _ c.args.key multiplier c.in-Some.is)

pub returns-then-is_power_of_two-clause-bucket : goal.returns-then-is_power_of_two-clause-bucket
returns-then-is_power_of_two-clause-bucket c =
    let test = c.if-is_power_of_two.ensures in
    let one : count_ones c.from-buckets.result ≡ 1 = grind (arith, nat_tests) in
    mask_is c.args.key c.from-buckets.result one
    ∙ ap (λ (b : ℕ). c.args.key % b) c.from-buckets.ensures
    ∙ subst (λ (shape : Dimensions). c.args.key % c.self.inside.buckets ≡ bucket_of shape c.args.key) c.self.view_is
    (bucket_of-modulo _ c.args.key c.in_default.is)

pub returns-else-is_power_of_two-clause-bucket : goal.returns-else-is_power_of_two-clause-bucket
returns-else-is_power_of_two-clause-bucket c =
    ap (λ (b : ℕ). c.args.key % b) c.from-buckets.ensures
    ∙ subst (λ (shape : Dimensions). c.args.key % c.self.inside.buckets ≡ bucket_of shape c.args.key) c.self.view_is
    (bucket_of-modulo _ c.args.key c.in_default.is)
