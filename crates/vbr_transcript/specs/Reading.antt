-- The text of a script that is read.
use Rattle.std.specs.Prelude.{◌≡◌, ◌≤◌, ℕ, List, length, Option, IfSome}
use Rattle.vbr_transcript.specs.declared.reading.TheConstants.{MAX_SCRIPT_LEN}

-- the text is all that a reader has left, if that is known, and no longer than a script may be
abbrev pub IsInput : Option (List ℕ) → List ℕ → Type 0
IsInput left text = IfSome left (λ bytes. text ≡ bytes) × (length text ≤ MAX_SCRIPT_LEN)
