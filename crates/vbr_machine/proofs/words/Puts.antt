-- Functions with one value changed.
use Rattle.std.proofs.Common.{◌≡◌, ◌≢◌, ℕ, refl, cond, eq-eqb, ap}
use Rattle.std.proofs.lemmas.Bool.{ne_eqb}
use Rattle.vbr_machine.specs.Put.{put}

pub put_here : {A : Type 0} (f : ℕ → A) (i : ℕ) (x : A) → put f i x i ≡ x
put_here f i x = ap (λ b. cond b x (f i)) (eq-eqb i i refl)

pub put_other : {A : Type 0} (f : ℕ → A) (i : ℕ) (x : A) (j : ℕ) → j ≢ i → put f i x j ≡ f j
put_other f i x j ne = ap (λ b. cond b x (f j)) (ne_eqb j i ne)
