-- How many steps a call makes.
use Rattle.std.specs.Prelude.{ℕ, ◌+◌, Option, Some, None, Result, Ok, Err}
use Rattle.vbr_words.specs.Words.{link_of}
use Rattle.vbr_at_table.specs.hands.Hands.{UnlinkedView}
use Rattle.vbr_at_table.specs.declared.held.Held.{Held}
use Rattle.vbr_at_table.specs.declared.rollback.Rollback.{Rollback}
use Rattle.vbr_at_table.specs.declared.rollback.Rollback.TheVariants.{EpochMoved, LostExchange}

-- the steps of reading what a link names: none if it names none, else a birth, a link and the epoch
abbrev pub next_steps : Option ℕ → ℕ
next_steps None = 0
next_steps (Some s) = 3

-- the steps of reading the birth of what a link names: none if it names none, else the birth and the epoch
abbrev pub birth_steps : Option ℕ → ℕ
birth_steps None = 0
birth_steps (Some s) = 2

-- the same, of what the link of this word names
abbrev pub steps_to_birth : ℕ → ℕ
steps_to_birth word = birth_steps (link_of word).slot

-- the steps of an unlinking: those of reading the birth of what the marked link names, and one more unless the epoch has moved
abbrev pub steps_to_unlink : ℕ → Result (UnlinkedView × Held) Rollback → ℕ
steps_to_unlink word (Err (EpochMoved now)) = steps_to_birth word
steps_to_unlink word (Err (LostExchange found)) = steps_to_birth word + 1
steps_to_unlink word (Ok r) = steps_to_birth word + 1
