-- What the getters of matches give for an option that has a number, and for a switch.
use Rattle.std.proofs.Common.{◌≡◌, ℕ, Bool, true, false, ◌||◌, List, Option, Some, None, refl, sym, ap, ◌∙◌, codes}
use Rattle.std.specs.Prelude.{Result, Ok, Err}
use Rattle.std.specs.Option.{IfSome, option_map_or}
use Rattle.std.specs.Str.{bytes_eq}
use Rattle.std.specs.Str.Parse.{ParsesUnsigned, digits_value, without_leading_plus}
use Rattle.std.proofs.lemmas.Slice.Eq.{bytes_eq-Decides}
use Rattle.clap.specs.Words.{Row, Text, ReadsOne, IsUnsignedIn, one_of}
use Rattle.vbr_settings.specs.Options.{number_among, IsSwitch, has_switch}

-- a text that is a number of 64 bits is read as that number
pub number_read : (E : Type 0) (G : List ℕ → Result ℕ E → Type 0) (text : List ℕ) (read : Option ℕ) →
    ReadsOne G text read → ((t : List ℕ) (x : Result ℕ E) → G t x → ParsesUnsigned 64 10 t x) →
    IsUnsignedIn 0 18446744073709551615 text → read ≡ Some (digits_value 10 (without_leading_plus text))
number_read E G text (Some n) gives parses is = ap Some (parses text (Ok n) gives).1
number_read E G text None gives parses is = absurd (parses text (Err gives.0) gives.1 (is.0, is.1))

-- that is the option's number
pub its_number : (name : Text) (rows : List Row) (text : Text) → one_of name rows ≡ Some text →
    number_among name rows ≡ digits_value 10 (without_leading_plus text)
unfolding number_among
its_number name rows text is = rw is refl

-- a switch is given where its text is yes
pub switch_read : (name : Text) (rows : List Row) (read : Bool) → IsSwitch name rows →
    (one_of name rows ≡ None → read ≡ false) → (one_of name rows ≡ Some (codes "true") → read ≡ true) →
    (one_of name rows ≡ Some (codes "false") → read ≡ false) → read ≡ has_switch name rows
unfolding has_switch
switch_read name rows read switch none on off = by_case (one_of name rows) switch none on off
  where
    by_case : (text : Option Text) →
        IfSome text (λ t. (bytes_eq t (codes "true") || bytes_eq t (codes "false")) ≡ true) →
        (text ≡ None → read ≡ false) → (text ≡ Some (codes "true") → read ≡ true) →
        (text ≡ Some (codes "false") → read ≡ false) → read ≡ option_map_or (λ t. bytes_eq t (codes "true")) text false
    by_case None switch none on off = none refl
    by_case (Some t) switch none on off = here (bytes_eq t (codes "true")) refl
      where
        here : (b : Bool) → bytes_eq t (codes "true") ≡ b → read ≡ bytes_eq t (codes "true")
        here true is = on (ap Some ((bytes_eq-Decides t (codes "true")).0 is)) ∙ sym is
        here false is =
            let other : bytes_eq t (codes "false") ≡ true = rw is at switch in
            off (ap Some ((bytes_eq-Decides t (codes "false")).0 other)) ∙ sym is
