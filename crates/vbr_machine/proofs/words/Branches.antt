-- A step that tests a word leads to one of two worlds.
use Rattle.std.proofs.Common.{◌≡◌, Bool, true, false, cond}
use Rattle.vbr_machine.specs.Machine.{World}

-- what is so in both is so, whichever it is
pub by_both : {A : Type 0} (b : Bool) (f : World → A) (x y : World) (z : A) → f x ≡ z → f y ≡ z → f (cond b x y) ≡ z
by_both true f x y z p q = p
by_both false f x y z p q = q
