-- How far a traversal has come along the list of a bucket, whatever others did meanwhile. Only contracts of private functions cite this.
use Rattle.std.specs.Prelude.{◌≡◌, ◌≢◌, ℕ, ◌+◌, ◌*◌, ◌<◌, ◌≤◌, List, Option, Some, None, ◌⊎◌}
use Rattle.vbr_words.specs.Words.{link_of}
use Rattle.vbr_words.specs.Buckets.{bucket_of}
use Rattle.vbr_words.specs.declared.place.At.TheVariants.{Slot}
use Rattle.vbr_machine.specs.Accounts.{incarnations_after}
use Rattle.vbr_machine.specs.Disturbances.{IsOpenIn, met}
use Rattle.vbr_machine.specs.Images.{link_shown_at}
use Rattle.vbr_machine.specs.Incarnations.{Incarnations}
use Rattle.vbr_machine.specs.Runs.{Begins}
use Rattle.vbr_machine.specs.declared.event.Event.{Event}
use Rattle.vbr_slots.specs.steps.Alone.{IsFresh}
use Rattle.vbr_slots.specs.steps.Calls.{IsSame}
use Rattle.vbr_slots.specs.views.Views.{Trace, knows}
use Rattle.vbr_at_table.specs.costs.StepKinds.{ChangesNone}
use Rattle.vbr_at_table.specs.reads.Held.{Names}
use Rattle.vbr_at_table.specs.reads.Moments.{Stood}
use Rattle.vbr_at_table.specs.reads.Rollbacks.{FreshIfMoved, IsLost, IsMovedOrLost}
use Rattle.vbr_at_table.specs.declared.held.Held.{Held}
use Rattle.vbr_at_table.specs.declared.rollback.Rollback.{Rollback}
use Rattle.vbr_at_table.specs.declared.rollback.Rollback.TheVariants.{LostExchange}
use Rattle.vbr_list.specs.traversals.Disturbed.{changed_at, disturbed_after, disturbed_at}
use Rattle.vbr_list.specs.declared.found.Found.{Found}

-- ---- what was read

-- the epoch that the pass knows is another one than before, and none has followed it in what the pass has seen
pub record MovesEpoch (p q : Trace) : Type 0 where
  pub other : (knows q).epoch ≢ (knows p).epoch
  pub fresh : IsFresh q

-- on its way the pass knew the epoch that stood
pub record Checks (p q : Trace) : Type 0 where
  pub between : Trace
  pub same : IsSame p between
  pub from : Begins p.seen between.seen
  pub to : Begins between.seen q.seen
  pub was : IsFresh between

-- from there on what is held was read, in that epoch, which none has followed
pub record ReadsFresh (p q : Trace) (held : Held) : Type 0 where
  pub checks : Checks p q
  pub epoch : (knows q).epoch ≡ (knows checks.between).epoch
  pub fresh : IsFresh q
  pub stood : Stood checks.between q held

-- from there on the epoch has moved
pub record MovesSince (p q : Trace) : Type 0 where
  pub checks : Checks p q
  pub moves : MovesEpoch checks.between q

-- what the link of a place names was read
pub record ReadsNext (p q : Trace) (pred node : Held) : Type 0 where
  pub slot : ℕ
  pub named : Names pred slot
  pub place : node.at ≡ Slot slot
  pub stood : Stood p q node

-- at a moment of what the pass did another epoch stood than the one that it knew
pub record MovesOn (p q : Trace) : Type 0 where
  pub moment : List Event
  pub from : Begins p.seen moment
  pub to : Begins moment q.seen
  pub other : (incarnations_after p.start moment).epoch ≢ (knows p).epoch

-- what is held is lost: another epoch stood, or another link, and the pass changed no list
abbrev pub LosesPlace : Trace → Trace → Held → Type 0
LosesPlace p q pred = MovesOn p q ⊎ ((found : ℕ) × IsLost p q pred (LostExchange found) × ChangesNone p q)

-- the same for what stands behind a place, if that is a node
abbrev pub LosesNext : Trace → Trace → Option Held → Type 0
LosesNext p q None = ⊥
LosesNext p q (Some node) = LosesPlace p q node

-- what was found is lost: the place before the key, or the node there
abbrev pub LosesFound : Trace → Trace → Found → Type 0
LosesFound p q found = LosesPlace p q found.pred ⊎ LosesNext p q found.cur

-- ---- how far it has come

-- the incarnations after events at the table of a pass
abbrev pub nodes_after : Trace → List Event → Incarnations
nodes_after p run = incarnations_after p.start run

-- how many nodes of the list of a bucket can have been met since
abbrev pub met_in : Trace → Trace → ℕ → ℕ
met_in p q bucket = met p.start (nodes_after p p.seen) (nodes_after p q.seen) bucket

-- and of the list of a key's bucket
abbrev pub met_since : Trace → Trace → ℕ → ℕ
met_since p q key = met_in p q (bucket_of p.start.shape key)

-- at a moment of what the pass did, what is held stood there, and its place was open in a bucket
pub record StoodOpen (p q : Trace) (bucket : ℕ) (held : Held) : Type 0 where
  pub moment : List Event
  pub from : Begins p.seen moment
  pub to : Begins moment q.seen
  pub shown : link_shown_at (nodes_after p moment) held.at ≡ link_of held.word
  pub is_open : IsOpenIn p.start (nodes_after p moment) bucket held.at

-- what is held stood open at a moment after which the pass changed nothing itself
pub record StandsStill (p q : Trace) (bucket : ℕ) (held : Held) : Type 0 where
  pub stood : StoodOpen p q bucket held
  pub own : changed_at p bucket q.seen ≡ changed_at p bucket stood.moment

-- the same for what stands behind a place, if that is a node
abbrev pub NextStandsStill : Trace → Trace → ℕ → Option Held → Type 0
NextStandsStill p q bucket None = Unit {0}
NextStandsStill p q bucket (Some node) = StandsStill p q bucket node

-- the epoch that the pass knows stood at a moment of what it did
pub record KnowsEpoch (p q : Trace) : Type 0 where
  pub moment : List Event
  pub from : Begins p.seen moment
  pub to : Begins moment q.seen
  pub was : (nodes_after p moment).epoch ≡ (knows q).epoch

-- one traversal made no more than so many steps for each node that it can have met, and so many besides
abbrev pub TraversesOnce : ℕ → ℕ → Trace → Trace → ℕ → ℕ → ℕ → Type 0
TraversesOnce per each p q bucket before since = since ≤ before + each + per * met_in p q bucket

-- it was disturbed
abbrev pub IsDisturbed : Trace → Trace → ℕ → Type 0
IsDisturbed p q bucket = disturbed_at p bucket p.seen < disturbed_at p bucket q.seen

-- so many traversals, each with so many steps for a node and so many besides; at most as many of them as it was disturbed
pub record RepeatsIn (per : ℕ) (p q : Trace) (bucket each before since tries times : ℕ) : Type 0 where
  pub few : disturbed_at p bucket p.seen + tries ≤ times
  pub paid : since ≤ before + tries * (per * met_in p q bucket + each)

-- traversals one after another: each but the last was disturbed
pub record TraversesAgainIn (per : ℕ) (p q : Trace) (bucket before since : ℕ) : Type 0 where
  pub lost : ℕ
  pub repeats : RepeatsIn per p q bucket 3 before since (lost + 1) (disturbed_at p bucket q.seen + 1)

-- and with what came between and after: so many steps for each node of each of them, so many for each that was disturbed, and so many more
pub record SearchesIn (per each : ℕ) (p q : Trace) (bucket before since more : ℕ) : Type 0 where
  pub lost : ℕ
  pub few : disturbed_at p bucket p.seen + lost ≤ disturbed_at p bucket q.seen
  pub paid : since ≤ before + per * met_in p q bucket + lost * (per * met_in p q bucket + each) + more

-- the same along a key's bucket
abbrev pub Repeats : ℕ → Trace → Trace → ℕ → ℕ → ℕ → ℕ → ℕ → ℕ → Type 0
Repeats per p q key each before since tries times = RepeatsIn per p q (bucket_of p.start.shape key) each before since tries times

abbrev pub TraversesAgain : ℕ → Trace → Trace → ℕ → ℕ → ℕ → Type 0
TraversesAgain per p q key before since = TraversesAgainIn per p q (bucket_of p.start.shape key) before since

-- a search by loads came to what stood open with its last traversal, and each before was disturbed
pub record LooksTo (p q : Trace) (key before since : ℕ) (held : Held) : Type 0 where
  pub stood : StoodOpen p q (bucket_of p.start.shape key) held
  pub lost : ℕ
  pub repeats : Repeats 5 p q key 3 before since (lost + 1) (disturbed_after p key stood.moment + 1)

-- ---- what is lost

-- what is held stands no more, or the epoch has moved
pub record LosesHeld (p q : Trace) (held : Held) : Type 0 where
  pub why : Rollback
  pub rolled : IsMovedOrLost p q held why
  pub fresh : FreshIfMoved q why
