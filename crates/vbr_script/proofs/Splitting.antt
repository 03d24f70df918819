-- Cutting the first line off a text, and the first token off a line.
use Rattle.std.proofs.Common.{◌≡◌, ℕ, suc, ◌+◌, ◌<◌, ◌≤◌, true, false, not, cond, ◌==◌, nat_lt, List, [], ◌∷◌, length}
use Rattle.std.proofs.Common.{map, filter, take, drop, get_or, ◌⊎◌, inl, inr, Option, Some, None, refl, sym, ap, ◌∙◌}
use Rattle.std.proofs.Common.{add-one, arith, drop-cons}
use Rattle.std.proofs.lemmas.Bool.{cases_lt, false_from_ne_true}
use Rattle.std.proofs.lemmas.Bool.Decides.{nat_tests}
use Rattle.std.proofs.lemmas.List.{drop_all, take_all, length-take-le}
use Rattle.std.proofs.lemmas.List.Elements.{All-from_get_or}
use Rattle.std.proofs.lemmas.List.Splits.{slice_split_first, slice_split_none}
use Rattle.std.proofs.lemmas.List.Sums.{position_or_len_is, fails_before_first, passes_at_first, prefix_len-le-length}
use Rattle.std.specs.List.{All, slice_split, position_or_len}
use Rattle.std.specs.Option.{unwrap_or}
use Rattle.std.specs.Str.Lines.{strip_carriage_return}
use Rattle.memchr.specs.Find.{NoneBefore, Nowhere, Passes, is_byte}
use Rattle.vbr_script.specs.Text.{is_line_feed, is_blank, lines_of, tokens_of}

-- the first line of a text ends at its first line feed
pub lines_of-first : (text : List ℕ) (end : ℕ) →
    NoneBefore (Passes (is_byte 10) text) 0 (length text) end × Passes (is_byte 10) text end →
    lines_of text ≡ strip_carriage_return (take end text) ∷ lines_of (drop (end + 1) text)
lines_of-first text end found =
    let ends : position_or_len is_line_feed text ≡ end =
    position_or_len_is is_line_feed text end 0 (omega (arith, found.0.high))
    (λ k below. false_from_ne_true _ (found.0.before k (omega arith) below)) (λ _. found.1) in
    let inside : position_or_len is_line_feed text < length text = omega (arith, found.0.high) in
    ap (map strip_carriage_return) (slice_split_first is_line_feed text 0 inside) ∙ rw ends refl

-- a text without a line feed is one line
pub lines_of-only : (text : List ℕ) → Nowhere (Passes (is_byte 10) text) 0 (length text) →
    lines_of text ≡ strip_carriage_return text ∷ []
lines_of-only text none =
    ap (map strip_carriage_return)
    (slice_split_none is_line_feed text
    (All-from_get_or (λ byte. is_line_feed byte ≡ false) text 0
    (λ k inside. false_from_ne_true _ (none k (omega arith) inside))))

-- a part that isn't empty is a token
keeps : (part : List ℕ) (parts : List (List ℕ)) → 0 < length part →
    filter (λ token. not (length token == 0)) (part ∷ parts) ≡ part ∷ filter (λ token. not (length token == 0)) parts
keeps part parts some =
    let test : (length part == 0) ≡ false = grind (arith, nat_tests) in
    rw test refl

-- a blank in front adds no token
tokens_of-blank : (byte : ℕ) (line : List ℕ) → is_blank byte ≡ true → tokens_of (byte ∷ line) ≡ tokens_of line
tokens_of-blank byte line is = rw is refl

-- where a line doesn't begin with a blank, its first token ends at its first blank
ends_at_blank : (line : List ℕ) → 0 < position_or_len is_blank line →
    (position_or_len is_blank line < length line) ⊎ (length line ≤ position_or_len is_blank line) →
    tokens_of line ≡ take (position_or_len is_blank line) line ∷ tokens_of (drop (position_or_len is_blank line) line)
ends_at_blank line some (inl inside) =
    let end = position_or_len is_blank line in
    let after : tokens_of (drop end line) ≡ tokens_of (drop (end + 1) line) =
    rw (add-one, drop-cons line end 0)
    (tokens_of-blank (get_or line end 0) (drop (suc end) line) (passes_at_first is_blank line 0 inside)) in
    ap (filter (λ token. not (length token == 0))) (slice_split_first is_blank line 0 inside)
    ∙ keeps (take end line) (slice_split is_blank (drop (end + 1) line))
    (omega (arith, length-take-le end line (omega arith)))
    ∙ ap (λ (tokens : List (List ℕ)). take end line ∷ tokens) (sym after)
ends_at_blank line some (inr past) =
    let end = position_or_len is_blank line in
    let none : All (λ byte. is_blank byte ≡ false) line =
    All-from_get_or (λ byte. is_blank byte ≡ false) line 0
    (λ k inside. fails_before_first is_blank line k 0 (omega arith)) in
    rw (drop_all end line past, take_all end line past)
    (ap (filter (λ token. not (length token == 0))) (slice_split_none is_blank line none)
    ∙ keeps line [] (omega (arith, prefix_len-le-length (λ byte. not (is_blank byte)) line)))

-- such a line has its first blank after its first byte
position-pos : (line : List ℕ) → 0 < length line → is_blank (get_or line 0 0) ≡ false →
    0 < position_or_len is_blank line
position-pos [] some front = absurd (omega arith)
position-pos (byte ∷ line) some front = rw front (omega arith)

-- the same, where the end is an index that was found, or the length
pub tokens_of-first : (line : List ℕ) (found : Option ℕ) → 0 < length line → is_blank (get_or line 0 0) ≡ false →
    found ≡ cond (nat_lt (position_or_len is_blank line) (length line)) (Some (position_or_len is_blank line)) None →
    (unwrap_or found (length line) ≡ position_or_len is_blank line) ×
    (tokens_of line ≡ take (position_or_len is_blank line) line ∷ tokens_of (drop (position_or_len is_blank line) line))
tokens_of-first line found some front is = (
  rw is (bounded (position_or_len is_blank line) (length line)
      (prefix_len-le-length (λ byte. not (is_blank byte)) line)),
  ends_at_blank line (position-pos line some front) (cases_lt _ _),
)
  where
    bounded : (end len : ℕ) → end ≤ len → unwrap_or (cond (nat_lt end len) (Some end) None) len ≡ end
    bounded end len within = grind (arith, nat_tests)
