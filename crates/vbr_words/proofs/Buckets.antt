-- The bucket of a key, where keys are spread and where they aren't.
use Rattle.std.proofs.Common.{◌≡◌, ℕ, ◌*◌, ◌/◌, ◌%◌, ◌^◌, ◌<◌, Option, None, Some, refl, ap, sym, subst, arith}
use Rattle.std.proofs.Math.Nat.{div-lt_iff_lt-mul, mul-lt-mul_of_pos_right}
use Rattle.vbr_words.specs.Buckets.{bucket_among, bucket_of, mixed}
use Rattle.vbr_words.specs.Dimensions.{Dimensions}

-- where keys are spread
pub bucket_of-spread : (shape : Dimensions) (key multiplier : ℕ) → shape.spread ≡ Some multiplier →
    mixed multiplier key * shape.buckets / 2 ^ 32 ≡ bucket_of shape key
unfolding bucket_of
bucket_of-spread shape key multiplier e = sym (ap (λ (spread : Option ℕ). bucket_among shape.buckets spread key) e)

-- where they aren't
pub bucket_of-modulo : (shape : Dimensions) (key : ℕ) → shape.spread ≡ None → key % shape.buckets ≡ bucket_of shape key
unfolding bucket_of
bucket_of-modulo shape key e = sym (ap (λ (spread : Option ℕ). bucket_among shape.buckets spread key) e)

-- a part of something is below it
part_low : (part whole : ℕ) → part < 2 ^ 32 → 0 < whole → part * whole / 2 ^ 32 < whole
part_low part whole low some =
    let product : part * whole < 2 ^ 32 * whole = mul-lt-mul_of_pos_right low some in
    (div-lt_iff_lt-mul {k = 2 ^ 32} (omega arith)).1 (omega (arith, product))

-- the bucket of a key is one of the shape
pub bucket_of-lt : (shape : Dimensions) (key : ℕ) → 0 < shape.buckets → bucket_of shape key < shape.buckets
bucket_of-lt shape key some = go shape.spread refl
  where
    go : (spread : Option ℕ) → shape.spread ≡ spread → bucket_of shape key < shape.buckets
    go (Some multiplier) e =
        subst (λ (n : ℕ). n < shape.buckets) (bucket_of-spread shape key multiplier e)
        (part_low (mixed multiplier key) shape.buckets (omega arith) some)
    go None e = subst (λ (n : ℕ). n < shape.buckets) (bucket_of-modulo shape key e) (omega arith)
