-- Two lists, place by place.
use Rattle.std.proofs.Common.{◌≡◌, suc, List, [], ◌∷◌, ◌++◌, length, refl, ap}
use Rattle.std.specs.List.{AllZip}

-- one more place
pub zip-snoc : {A B : Type 0} (R : A → B → Type 0) (xs : List A) (ys : List B) (x : A) (y : B) → AllZip R xs ys →
    R x y → AllZip R (xs ++ x ∷ []) (ys ++ y ∷ [])
zip-snoc R [] [] x y all one = (one, tt)
zip-snoc R (a ∷ xs) (b ∷ ys) x y all one = (all.0, zip-snoc R xs ys x y all.1 one)
zip-snoc R [] (b ∷ ys) x y all one = absurd all
zip-snoc R (a ∷ xs) [] x y all one = absurd all

-- as many places in each
pub zip-length : {A B : Type 0} (R : A → B → Type 0) (xs : List A) (ys : List B) → AllZip R xs ys →
    length ys ≡ length xs
zip-length R [] [] all = refl
zip-length R (x ∷ xs) (y ∷ ys) all = ap suc (zip-length R xs ys all.1)
zip-length R [] (y ∷ ys) all = absurd all
zip-length R (x ∷ xs) [] all = absurd all
