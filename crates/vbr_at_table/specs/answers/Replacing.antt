-- What a replacement promises: two calls, next to each other.
use Rattle.std.specs.Prelude.{◌≡◌, ℕ, true, None, List, [], ◌∷◌, ◌++◌}
use Rattle.vbr_words.specs.Words.{link_of}
use Rattle.vbr_machine.specs.Membership.{BirthNamed, KeyAt}
use Rattle.vbr_machine.specs.Removals.{ReplacedAt}
use Rattle.vbr_machine.specs.Runs.{Begins, IsRun, world_after}
use Rattle.vbr_machine.specs.declared.history.Call.{Call}
use Rattle.vbr_machine.specs.declared.history.Op.TheVariants.{Insert, Remove}
use Rattle.vbr_slots.specs.steps.Calls.{IsSame, made_by}
use Rattle.vbr_slots.specs.views.Views.{PassView, Trace, knows}
use Rattle.vbr_at_table.specs.answers.Answering.{IsPresent}
use Rattle.vbr_at_table.specs.reads.Held.{HoldsMarked, held_of}
use Rattle.vbr_at_table.specs.answers.Marks.{LeavesOthers}
use Rattle.vbr_at_table.specs.answers.Values.{IsValued, ValueAt, entry_call}
use Rattle.vbr_at_table.specs.declared.held.Held.{Held}
use Rattle.vbr_at_table.specs.declared.held.Marked.{Marked}

-- in what the pass has seen these two calls stand next to each other, with no call of any pass between them, and after all that it had seen
pub record StandTogether (first second : Call) (p q : Trace) : Type 0 where
  pub others : List Call
  pub later : List Call
  pub calls : (world_after q.start q.seen).calls ≡ ((world_after p.start p.seen).calls ++ others) ++ first ∷ second ∷ later

-- the pass has seen more, and made just these two calls, next to each other
pub record MadeTwo (first second : Call) (p q : Trace) : Type 0 where
  pub same : IsSame p q
  pub seen : Begins p.seen q.seen
  pub is_run : IsRun q.start q.passes q.seen
  pub calls : made_by q ≡ made_by p ++ first ∷ second ∷ []
  pub together : StandTogether first second p q

-- a node may be replaced: it is held by its unmarked link, this is its key, its value is known, and so is the birth of what its link names
pub record IsReplaceable (p : Trace) (node : Held) (key next_birth : ℕ) : Type 0 where
  pub has_values : p.start.shape.values ≡ true
  pub present : IsPresent (knows p) node
  pub key_is : KeyAt (knows p) node.at key
  pub valued : IsValued p node.at
  pub birth : BirthNamed (knows p) (link_of node.word).slot next_birth

-- the pass removed the key of the node that was held with the value that was known of it, and inserted it with this one; its hand is empty, and the node is held by its marked link: it is the one that was replaced; and the step leaves all other links
pub record ReplacesHeld (p q : PassView) (node : Held) (key value : ℕ) (now : Marked) : Type 0 where
  pub made : (old : ℕ) → ValueAt (knows p.trace) node.at old → MadeTwo (entry_call p.trace.start p.trace.who Remove key true old) (entry_call p.trace.start p.trace.who Insert key true value) p.trace q.trace
  pub place : (held_of now).at ≡ node.at
  pub held : HoldsMarked (knows q.trace) now
  pub spent : q.hand ≡ None
  pub old : ReplacedAt p.trace.start p.trace.seen q.trace.seen p.trace.who (knows q.trace).epoch now.slot
  pub leaves : LeavesOthers p.trace q.trace node
