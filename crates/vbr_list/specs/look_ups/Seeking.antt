-- Seeking the next key of a bucket: all its steps are loads. Only contracts of private functions cite this.
use Rattle.std.specs.Prelude.{◌≡◌, ℕ, ◌+◌, ◌<◌, true, Option, Some, None, Result, IfSome, IfNone}
use Rattle.vbr_slots.specs.views.Views.{PassView, Trace}
use Rattle.vbr_at_table.specs.reads.Moments.{WasEntry}
use Rattle.vbr_at_table.specs.declared.budget.TheConstants.{PIECE}
use Rattle.vbr_at_table.specs.declared.refusal.Refusal.{Refusal}
use Rattle.vbr_list.specs.calls.Budgets.{steps_to_value_of}
use Rattle.vbr_list.specs.look_ups.Cursors.{GivesNextWhere, Iterates}
use Rattle.vbr_list.specs.named_entries.Entries.{WasFullEntry, WasThere}
use Rattle.vbr_list.specs.look_ups.Next.{HasNoNext, IsNextKey}
use Rattle.vbr_list.specs.calls.Pieces.{Peeks}
use Rattle.vbr_list.specs.traversals.Searching.{IsDisturbed, SearchesIn, TraversesOnce}
use Rattle.vbr_list.specs.declared.cursor.Cursor.{Cursor}
use Rattle.vbr_list.specs.declared.seeking.NextNode.{NextNode}
use Rattle.vbr_list.specs.declared.traversal.Stop.{Stop}
use Rattle.vbr_list.specs.declared.traversal.Stop.TheVariants.{Again, Tired}

-- the next key, if there is one, and its value if nodes have values
abbrev pub TellsWhere : Trace → Trace → ℕ → ℕ → Option (ℕ × ℕ) → Type 0
TellsWhere p q bucket from None = HasNoNext p q bucket from
TellsWhere p q bucket from (Some entry) = IsNextKey p q bucket from entry.0 × (p.start.shape.values ≡ true → WasEntry p q entry.0 entry.1)

-- the entry of the key was there at a moment, and had its value if nodes have values
abbrev pub WasNode : Trace → Trace → NextNode → Type 0
WasNode p q next = WasThere p q next.key next.entry × (p.start.shape.values ≡ true → WasFullEntry p q next.key next.entry)

-- the node with the next key, if there is one; if it was the last of its list, each key of the bucket above it was absent at a moment too
abbrev pub TellsNode : Trace → Trace → ℕ → ℕ → Option NextNode → Type 0
TellsNode p q bucket from None = HasNoNext p q bucket from
TellsNode p q bucket from (Some next) = TellsWhere p q bucket from (Some (next.key, next.entry.value)) × (next.is_last ≡ true → HasNoNext p q bucket (next.key + 1)) × WasNode p q next

-- what an iteration gives: the node with the next key, or none
abbrev pub GivesNextNode : Trace → Trace → Cursor → Cursor → Option NextNode → Type 0
GivesNextNode p q c d None = GivesNextWhere p q c d None
GivesNextNode p q c d (Some next) = GivesNextWhere p q c d (Some (next.key, next.entry.value)) × WasNode p q next

abbrev pub IteratesNodes : PassView → PassView → Cursor → Cursor → ℕ → Result (Option NextNode) Refusal → Type 0
IteratesNodes p q c d budget answer = Iterates (GivesNextNode p.trace q.trace c d) p q c d budget answer

-- the steps of a traversal besides the steps for its nodes: three to start, and the steps of reading the value
abbrev pub steps_besides : Trace → ℕ
steps_besides p = 3 + steps_to_value_of p.start

-- one traversal found what is next
pub record TraversesToNext (p q : Trace) (bucket from before since : ℕ) (told : Option NextNode) : Type 0 where
  pub tells : TellsNode p q bucket from told
  pub paid : TraversesOnce 5 (steps_besides p) p q bucket before since

-- it stopped before that: it rolled back, disturbed by another; or the budget has no room for one more piece
abbrev pub SeekStops : Trace → Trace → ℕ → ℕ → ℕ → ℕ → Stop → Type 0
SeekStops p q bucket before since budget Again = (before < since) × TraversesOnce 5 (steps_besides p) p q bucket before since × IsDisturbed p q bucket
SeekStops p q bucket before since budget Tired = (budget < since + PIECE) × TraversesOnce 5 3 p q bucket before since

-- a seek found what is next: each traversal but the last was disturbed
pub record FindsNext (p q : Trace) (bucket from before since : ℕ) (told : Option NextNode) : Type 0 where
  pub tells : TellsNode p q bucket from told
  pub searches : SearchesIn 5 (steps_besides p) p q bucket before since (steps_besides p)

-- the budget has no room for one more piece
pub record SeekTires (p q : Trace) (bucket before since budget : ℕ) : Type 0 where
  pub tired : budget < since + PIECE
  pub searches : SearchesIn 5 (steps_besides p) p q bucket before (budget + 1) 11

-- a seek in a bucket that began with so many steps: what the pass did, and what it found, or that it tired
pub record Sought (p q : PassView) (bucket from before since budget : ℕ) (found : Option (Option NextNode)) : Type 0 where
  pub peeks : Peeks p q before since budget
  pub next : IfSome found (FindsNext p.trace q.trace bucket from before since)
  pub tired : IfNone found (SeekTires p.trace q.trace bucket before since budget)
