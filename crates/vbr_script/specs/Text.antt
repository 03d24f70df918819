-- The lines of a text of bytes, and the tokens of a line.
use Rattle.std.specs.Prelude.{ℕ, Bool, not, ◌||◌, ◌==◌, List, length, map, filter}
use Rattle.std.specs.List.{slice_split}
use Rattle.std.specs.Str.Lines.{strip_carriage_return}

-- a line feed
abbrev pub is_line_feed : ℕ → Bool
is_line_feed byte = byte == 10

-- a space or a tab
abbrev pub is_blank : ℕ → Bool
is_blank byte = (byte == 32) || (byte == 9)

-- the lines of a text: what stands between its line feeds, each without one carriage return at its end
abbrev pub lines_of : List ℕ → List (List ℕ)
lines_of text = map strip_carriage_return (slice_split is_line_feed text)

-- the tokens of a line: what stands between its blanks, if that isn't empty
abbrev pub tokens_of : List ℕ → List (List ℕ)
tokens_of line = filter (λ token. not (length token == 0)) (slice_split is_blank line)
