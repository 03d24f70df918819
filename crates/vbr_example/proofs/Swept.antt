-- A sweep goes on, page by page.
use Rattle.std.proofs.Common.{◌≡◌, ℕ, ◌+◌, ◌-◌, ◌*◌, ◌^◌, ◌<◌, ◌≤◌, List, inl, inr, arith}
use Rattle.std.specs.Prelude.{◌⊎◌, length, min}
use Rattle.vbr_slots.specs.views.Views.{Trace}
use Rattle.vbr_list.specs.look_ups.Cursors.{HasGiven, IsBehindKey, SeesMore}
use Rattle.vbr_list.specs.declared.cursor.Cursor.{Cursor}

-- the pages that it came upon so far, and how many they are
pub record Sweeps (p q : Trace) (c : Cursor) (count : ℕ) : Type 0 where
  pub pages : List ℕ
  pub sees : SeesMore p q
  pub given : HasGiven p q c pages
  pub is : count ≡ min (length pages) (2 ^ 64 - 1)
  pub low : c.from < 2 ^ 64

-- how far a cursor is from behind the last bucket that there can be
abbrev pub left_of : Cursor → ℕ
left_of c = 2 ^ 96 - (c.bucket * 2 ^ 64 + c.from)

pub nearer : (c d : Cursor) (bucket key : ℕ) → c.from < 2 ^ 64 → d.bucket < 2 ^ 32 → d.from < 2 ^ 64 →
    (c.bucket < bucket) ⊎ ((bucket ≡ c.bucket) × (c.from ≤ key)) → IsBehindKey bucket key d → left_of d < left_of c
nearer c d bucket key a b e (inl x) (inl y) = let u = y.0 in omega (arith, a, b, e, x, u)
nearer c d bucket key a b e (inl x) (inr y) = let u = y.0 in omega (arith, a, b, e, x, u)
nearer c d bucket key a b e (inr x) (inl y) =
    let u = x.0 in let v = x.1 in let w = y.0 in let z = y.1 in omega (arith, a, b, e, u, v, w, z)
nearer c d bucket key a b e (inr x) (inr y) = let u = x.0 in let v = y.0 in omega (arith, a, b, e, u, v)
