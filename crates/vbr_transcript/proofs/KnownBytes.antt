-- What several writes in a row do to known bytes.
use Rattle.std.proofs.Common.{ℕ, ◌+◌, List, ◌++◌, length, take, drop, inl, inr, Option, Some, None, ap, ◌∙◌}
use Rattle.std.proofs.Common.{append_assoc, arith}
use Rattle.std.proofs.Math.Seq.{take-add, take-append-add, take-append_seam}
use Rattle.std.proofs.lemmas.List.{take_all, take-append-le}
use Rattle.std.proofs.lemmas.Bool.{cases_lt}
use Rattle.std.specs.Io.KnownBytes.{Keeps, Appends}
use Rattle.vbr_transcript.specs.Writing.{AppendsSome}

pub Appends-append : (a b c : Option (List ℕ)) (xs ys : List ℕ) → Appends a b xs → Appends b c ys →
    Appends a c (xs ++ ys)
Appends-append None b c xs ys f g = tt
Appends-append (Some a) None c xs ys f g = absurd f
Appends-append (Some a) (Some bs) None xs ys f g = absurd g
Appends-append (Some a) (Some bs) (Some cs) xs ys f g = g ∙ ap (λ t. t ++ ys) f ∙ append_assoc a xs ys

-- writing on from a place in a text
pub Appends-take : (a b c : Option (List ℕ)) (text : List ℕ) (from n : ℕ) → Appends a b (take from text) →
    Appends b c (take n (drop from text)) → Appends a c (take (from + n) text)
Appends-take a b c text from n f g =
    rw (take-add from n text) (Appends-append a b c (take from text) (take n (drop from text)) f g)

pub Appends-Keeps : (a b c : Option (List ℕ)) (xs : List ℕ) → Appends a b xs → Keeps b c → Appends a c xs
Appends-Keeps None b c xs f g = tt
Appends-Keeps (Some a) None c xs f g = absurd f
Appends-Keeps (Some a) (Some bs) None xs f g = absurd g
Appends-Keeps (Some a) (Some bs) (Some cs) xs f g = g ∙ f

-- all of a text is a beginning of it
pub AppendsSome-all : (a b : Option (List ℕ)) (xs : List ℕ) → Appends a b xs → AppendsSome a b xs
AppendsSome-all a b xs f = (length xs, rw (take_all (length xs) xs (omega arith)) f)

-- a beginning of the rest, behind a text, is a beginning of both
pub AppendsSome-after : (a b c : Option (List ℕ)) (xs ys : List ℕ) → Appends a b xs → AppendsSome b c ys →
    AppendsSome a c (xs ++ ys)
AppendsSome-after a b c xs ys f g =
    (length xs + g.0, rw (take-append-add xs ys g.0) (Appends-append a b c xs (take g.0 ys) f g.1))

-- a beginning of a text is a beginning of a longer one
pub AppendsSome-front : (a b : Option (List ℕ)) (xs ys : List ℕ) → AppendsSome a b xs → AppendsSome a b (xs ++ ys)
AppendsSome-front a b xs ys f = elim (cases_lt f.0 (length xs)) [
  | inl below ↦ (f.0, rw (take-append-le f.0 xs ys (omega arith)) f.1)
  | inr past ↦ (length xs, rw (take-append_seam xs ys) (rw (take_all f.0 xs past) at f.1))
]
