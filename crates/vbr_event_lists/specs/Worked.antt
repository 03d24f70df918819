-- A list of events of two passes that is accepted, with its effects and with the link words that callers name.
use Rattle.std.specs.Prelude.{◌≡◌, ℕ, List, [], ◌∷◌, Bool, true, false, None, if◌then◌else◌}
use Rattle.vbr_machine.specs.Start.{Start, empty_start}
use Rattle.vbr_words.specs.Words.{word_of}
use Rattle.vbr_machine.specs.Knowledge.{Know}
use Rattle.vbr_machine.specs.Learning.{effect_of, link_written}
use Rattle.vbr_machine.specs.Machine.{World, found, stamp_shown, after}
use Rattle.vbr_machine.specs.Runs.{IsAccepted}
use Rattle.vbr_machine.specs.declared.event.Effect.{Effect}
use Rattle.vbr_machine.specs.declared.event.Step.{Step}
use Rattle.vbr_machine.specs.declared.event.Step.TheVariants.{StoreLink, Publish, Replace, Unlink}

-- whether the step writes a link word that its caller names
abbrev pub names_link : Step → Bool
names_link (StoreLink s next) = true
names_link (Publish pred expected s) = true
names_link (Replace s expected t) = true
names_link (Unlink pred expected s) = true
names_link _ = false

-- the first of the words; 0 if there is none
abbrev pub first_of : List ℕ → ℕ
first_of [] = 0
first_of (word ∷ words) = word

-- the words after the first
abbrev pub others_of : List ℕ → List ℕ
others_of [] = []
others_of (word ∷ words) = words

-- the word is the one that the step writes, if its caller names it
abbrev pub IsNamedWord : Know → Step → ℕ → Type 0
IsNamedWord know (StoreLink s next) word = word ≡ word_of (link_written know (StoreLink s next))
IsNamedWord know (Publish pred expected s) word = word ≡ word_of (link_written know (Publish pred expected s))
IsNamedWord know (Replace s expected t) word = word ≡ word_of (link_written know (Replace s expected t))
IsNamedWord know (Unlink pred expected s) word = word ≡ word_of (link_written know (Unlink pred expected s))
IsNamedWord know _ word = Unit {0}

-- a set of three slots and one bucket, up to epoch 10
abbrev pub three_slots : Start
three_slots = empty_start (record { slots = 3; buckets = 1; spread = None; last_epoch = 10; values = false })

-- a set of one slot and one bucket, up to epoch 10
abbrev pub one_slot : Start
one_slot = empty_start (record { slots = 1; buckets = 1; spread = None; last_epoch = 10; values = false })

-- a set of three slots and one bucket, up to epoch 10000
abbrev pub many_epochs : Start
many_epochs = empty_start (record { slots = 3; buckets = 1; spread = None; last_epoch = 10000; values = false })

-- the rows are events that are accepted one after another from a world on, each with its effect; the words are the link words that callers name; and each slot that is taken has the stamp 0
abbrev pub AreWorked : Start → World → List (ℕ × Step × Effect) → List ℕ → Type 0
AreWorked start w [] words = Unit {0}
AreWorked start w (row ∷ rows) words =
    IsAccepted start 2 w (record { pass = row.0; step = row.1 }) × (effect_of row.1 (found start w row.1) ≡ row.2) × (stamp_shown w row.1 ≡ 0) × IsNamedWord (w.know row.0) row.1 (first_of words)
    × AreWorked start (after start w row.0 row.1) rows (if names_link row.1 then others_of words else words)
