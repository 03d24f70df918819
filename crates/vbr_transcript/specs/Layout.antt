-- The text that a run prints.
use Rattle.std.specs.Prelude.{ℕ, Bool, List, [], ◌∷◌, ◌++◌, codes, decimal, if◌then◌else◌}
use Rattle.std.specs.List.{flat_map}
use Rattle.vbr_script.specs.declared.script.Kind.{Kind}
use Rattle.vbr_script.specs.declared.script.Kind.TheVariants.{Set, Map}
use Rattle.vbr_transcript.specs.declared.reply.Reply.{Reply}
use Rattle.vbr_transcript.specs.declared.reply.Reply.TheVariants.{Yes, Value, No, Full, Spent, Tired}
use Rattle.vbr_transcript.specs.Contents.{Item}
use Rattle.vbr_transcript.specs.Totals.{TotalsOf, listed_in, epoch_in, tally_in}
use Rattle.vbr_transcript.specs.declared.totals.Tally.{Tally}

-- a line of text, with its line feed
abbrev pub line : List ℕ → List ℕ
line text = text ++ 10 ∷ []

-- a space, and a number in decimal
abbrev pub spaced : ℕ → List ℕ
spaced n = 32 ∷ decimal n

-- how a reply is printed
abbrev pub reply_text : Reply → List ℕ
reply_text Yes = codes "yes"
reply_text (Value value) = codes "yes" ++ spaced value
reply_text No = codes "no"
reply_text Full = codes "full"
reply_text Spent = codes "spent"
reply_text Tired = codes "tired"

-- a line for each reply
abbrev pub replies_text : List Reply → List ℕ
replies_text replies = flat_map (λ reply. line (reply_text reply)) replies

-- a space, and a key with its value
abbrev pub spaced_entry : ℕ × ℕ → List ℕ
spaced_entry entry = spaced entry.0 ++ 61 ∷ decimal entry.1

-- a line with a name, and how each of some items is printed
abbrev pub items_text : {I : Type 0} → List ℕ → (I → List ℕ) → List I → List ℕ
items_text name print items = line (name ++ flat_map print items)

-- the line of what is there in the end
abbrev pub listed_text : (kind : Kind) → List (Item kind) → List ℕ
listed_text Set keys = items_text (codes "keys") spaced keys
listed_text Map entries = items_text (codes "entries") spaced_entry entries

-- a line for each count
abbrev pub tally_text : Tally → List ℕ
tally_text tally =
    line (codes "inserted" ++ spaced tally.inserted)
    ++ line (codes "removed" ++ spaced tally.removed)
    ++ line (codes "found" ++ spaced tally.found)
    ++ line (codes "refused" ++ spaced tally.refused)

-- the line of the epoch, if it is asked for
abbrev pub epoch_text : Bool → ℕ → List ℕ
epoch_text asked epoch = if asked then line (codes "epoch" ++ spaced epoch) else []

-- the whole text: the replies, a line for each total, what is there in the end last, and the epoch if it is asked for
abbrev pub text_of : Bool → List Reply → Tally → List ℕ → ℕ → List ℕ
text_of asked replies tally listed epoch = replies_text replies ++ (tally_text tally ++ listed) ++ epoch_text asked epoch

-- the text of a run on a set or on a map
abbrev pub layout_of : (kind : Kind) → Bool → List Reply → TotalsOf kind → List ℕ
layout_of kind asked replies totals = text_of asked replies (tally_in kind totals) (listed_text kind (listed_in kind totals)) (epoch_in kind totals)
