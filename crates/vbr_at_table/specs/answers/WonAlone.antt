-- What stands, and what a won exchange leaves to a pass that was alone.
use Rattle.std.specs.Prelude.{◌≡◌, ◌≢◌, ℕ, suc}
use Rattle.vbr_words.specs.Words.{link_of}
use Rattle.vbr_words.specs.declared.place.At.{At}
use Rattle.vbr_words.specs.declared.place.At.TheVariants.{Head}
use Rattle.vbr_machine.specs.Images.{link_shown_at}
use Rattle.vbr_machine.specs.Membership.{HeldIn}
use Rattle.vbr_slots.specs.steps.Alone.{nodes, ahead}
use Rattle.vbr_slots.specs.views.Views.{Trace, knows}
use Rattle.vbr_at_table.specs.declared.held.Held.{Held}

-- the link that is held is the one that stands at its place, after what the pass has seen
abbrev pub StandsNow : Trace → Held → Type 0
StandsNow q held = link_shown_at (nodes q) held.at ≡ link_of held.word

-- what a won unlinking behind a place leaves to a pass that was alone: the epoch and the new link stand, and in each bucket in which the place is held one node fewer is behind it, and in the list
pub record UnlinksAlone (p q : Trace) (pred place : Held) : Type 0 where
  pub epoch : (nodes q).epoch ≡ (nodes p).epoch
  pub stands : StandsNow q place
  pub fewer : (bucket : ℕ) → HeldIn (knows p) pred.at bucket → ahead p bucket pred.at ≡ suc (ahead q bucket pred.at)
  pub listed : (bucket h : ℕ) → HeldIn (knows p) pred.at bucket → ahead p bucket (Head h) ≡ suc (ahead q bucket (Head h))

-- what a won mark leaves to a pass that was alone: the epoch stands, and so does the link of each other place than the node's; and as many nodes are in each list
pub record MarksAlone (p q : Trace) (node : Held) : Type 0 where
  pub epoch : (nodes q).epoch ≡ (nodes p).epoch
  pub others : (place : At) → place ≢ node.at → link_shown_at (nodes q) place ≡ link_shown_at (nodes p) place
  pub listed : (bucket h : ℕ) → ahead q bucket (Head h) ≡ ahead p bucket (Head h)
