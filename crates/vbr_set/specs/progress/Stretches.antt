-- What the calls of all passes did in a stretch of a run, and how often it can have disturbed one of them.
use Rattle.std.specs.Prelude.{◌≡◌, ℕ, ◌+◌, ◌-◌, ◌*◌, ◌<◌, ◌≤◌, Err}
use Rattle.vbr_machine.specs.Accounts.{incarnations_after}
use Rattle.vbr_machine.specs.Disturbances.{updates}
use Rattle.vbr_machine.specs.Nodes.{marked_after}
use Rattle.vbr_machine.specs.Runs.{Begins}
use Rattle.vbr_machine.specs.Whereabouts.{sum_of}
use Rattle.vbr_machine.specs.declared.event.Step.TheVariants.{ReadEpoch}
use Rattle.vbr_machine.specs.declared.history.Op.{Op}
use Rattle.vbr_machine.specs.declared.history.Op.TheVariants.{Has, Insert, Remove}
use Rattle.vbr_slots.specs.steps.PassLaw.{PassLaw}
use Rattle.vbr_slots.specs.Tokens.{SeenView}
use Rattle.vbr_slots.specs.views.Views.{Did, KeepsPool, PassView, TableView, Trace}
use Rattle.vbr_at_table.specs.costs.StepKinds.{advances}
use Rattle.vbr_at_table.specs.pools.GivingSlotsBack.{GivesSlotsBack}
use Rattle.vbr_at_table.specs.hands.KeptSlots.{TakesNoSlot}
use Rattle.vbr_at_table.specs.pools.Reserving.{TakesFlags}
use Rattle.vbr_list.specs.calls.Budgets.{LacksSteps, listed_for}
use Rattle.vbr_list.specs.look_ups.Cursors.{SeesMore}
use Rattle.vbr_list.specs.traversals.Disturbed.{disturbed, enough_among, enough_to_insert_among, enough_to_search_among, enough_to_store_among, steps_for_slot, steps_to_prepare}
use Rattle.vbr_list.specs.updates.Expecting.{CallsRemoveIf}
use Rattle.vbr_list.specs.calls.CallBounds.{Calls, CallsGet, CallsInsert, CallsRemove}
use Rattle.vbr_list.specs.updates.Storing.{CallsStore}
use Rattle.vbr_list.specs.declared.wanted.Wanted.{Wanted}
use Rattle.vbr_at_table.specs.declared.refusal.Refusal.{Refusal}
use Rattle.vbr_set.specs.calls.MapCalls.{IsCall}
use Rattle.vbr_set.specs.calls.Members.{MemberView}
use Rattle.vbr_set.specs.histories.Tokens.{CatchesUp}

-- ---- what one pass did

-- how many inserts a call begins: a store begins one, as an insert does
abbrev pub inserts_begun : Op → ℕ
inserts_begun Insert = 1
inserts_begun _ = 0

-- a pass came from one view to another by calls of which so many were inserts: it has seen more, and made at most one step for each of them that would advance the epoch
pub record CameBy (inserts : ℕ) (p q : PassView) : Type 0 where
  pub sees : SeesMore p.trace q.trace
  pub advances : advances q.trace ≤ advances p.trace + inserts

-- it came so by each call on a set or a map, answered or refused, by what goes over keys, by each meeting, each catching up, each giving back, each reserve and each top-up of slots, and by one such way after another
pub record PassesComeByCalls : Type 0 where
  pub stays : (p : PassView) → PassLaw p → CameBy 0 p p
  pub called : (op : Op) (m n : MemberView) → PassLaw m.pass → IsCall op m n → CameBy (inserts_begun op) m.pass n.pass
  pub went_over : (p q : PassView) → SeesMore p.trace q.trace → TakesNoSlot p q → CameBy 0 p q
  pub met : (p q : PassView) (epoch : ℕ) → Did ReadEpoch p.trace q.trace epoch → KeepsPool p q → CameBy 0 p q
  pub caught : (set : TableView) (p q : PassView) (token : SeenView) → CatchesUp set p token q → CameBy 0 p q
  pub gave : (p q : PassView) (shared : ℕ) → PassLaw p → GivesSlotsBack p q shared → CameBy 0 p q
  pub reserved : (p q : PassView) (steps : ℕ) → PassLaw p → TakesFlags p q steps → CameBy 0 p q
  pub after : (first then : ℕ) (p q r : PassView) → CameBy first p q → CameBy then q r → CameBy (first + then) p r

-- ---- what all passes did

-- a pass of this number began so many inserts round a stretch: after one of its calls it had seen no more than the beginning of the stretch, and after another all of it; it came from there to here by calls of which so many were inserts
pub record BeganIn (p q : Trace) (who inserts : ℕ) : Type 0 where
  pub from : PassView
  pub to : PassView
  pub is : from.trace.who ≡ who
  pub start : from.trace.start ≡ p.start
  pub earlier : Begins from.trace.seen p.seen
  pub later : Begins q.seen to.trace.seen
  pub came : CameBy inserts from to

-- each pass of the set began so many inserts round the stretch from what one had seen first to what it has seen then
pub record Stretch (p q : Trace) (inserts : ℕ → ℕ) : Type 0 where
  pub sees : SeesMore p q
  pub each : (who : ℕ) → who < q.passes → BeganIn p q who (inserts who)

-- how often a stretch can disturb a pass at a bucket: once for each insert that was begun, twice for each update that was answered yes, and once for each node that was marked at its beginning
abbrev pub most_disturbed_by : (ℕ → ℕ) → Trace → Trace → ℕ
most_disturbed_by inserts p q = sum_of q.passes inserts
    + 2 * (updates (incarnations_after p.start q.seen).calls - updates (incarnations_after p.start p.seen).calls)
    + marked_after p.start p.seen

-- ---- laws of a stretch

-- a pass is disturbed no more often than so; if no update is answered yes, no more often than inserts are begun and nodes were marked at its beginning
abbrev pub StretchesDisturb : Type 0
StretchesDisturb = (p q : PassView) (inserts : ℕ → ℕ) (key : ℕ) → PassLaw p → Stretch p.trace q.trace inserts → disturbed p.trace q.trace key ≤ most_disturbed_by inserts p.trace q.trace

-- so a call that is refused for want of steps had a budget below what is enough for that: a look-up, a remove or an insert
pub record StretchesMakeProgress : Type 0 where
  pub look_up : (p q : PassView) (inserts : ℕ → ℕ) (key budget : ℕ) (refusal : Refusal) → PassLaw p → Stretch p.trace q.trace inserts
      → Calls Has p q key budget (Err refusal) → budget < enough_among (listed_for p.trace key) (most_disturbed_by inserts p.trace q.trace)
  pub remove : (p q : PassView) (inserts : ℕ → ℕ) (key budget : ℕ) (refusal : Refusal) → PassLaw p → Stretch p.trace q.trace inserts
      → Calls Remove p q key budget (Err refusal) → budget < enough_to_search_among (listed_for p.trace key) (most_disturbed_by inserts p.trace q.trace)
  pub insert : (p q : PassView) (inserts : ℕ → ℕ) (key budget : ℕ) (refusal : Refusal) → PassLaw p → Stretch p.trace q.trace inserts
      → Calls Insert p q key budget (Err refusal) → LacksSteps (enough_to_insert_among (listed_for p.trace key) (most_disturbed_by inserts p.trace q.trace) (steps_for_slot p q.trace)) budget refusal

-- the same for the calls on a map
pub record MapStretchesMakeProgress : Type 0 where
  pub get : (p q : PassView) (inserts : ℕ → ℕ) (key budget : ℕ) (refusal : Refusal) → PassLaw p → Stretch p.trace q.trace inserts
      → CallsGet p q key budget (Err refusal) → budget < enough_among (listed_for p.trace key) (most_disturbed_by inserts p.trace q.trace)
  pub remove_entry : (p q : PassView) (inserts : ℕ → ℕ) (key budget : ℕ) (refusal : Refusal) → PassLaw p → Stretch p.trace q.trace inserts
      → CallsRemove p q key budget (Err refusal) → budget < enough_to_search_among (listed_for p.trace key) (most_disturbed_by inserts p.trace q.trace)
  pub remove_if : (p q : PassView) (inserts : ℕ → ℕ) (key expected budget : ℕ) (refusal : Refusal) → PassLaw p → Stretch p.trace q.trace inserts
      → CallsRemoveIf p q key expected budget (Err refusal) → budget < enough_to_search_among (listed_for p.trace key) (most_disturbed_by inserts p.trace q.trace)
  pub insert_entry : (p q : PassView) (inserts : ℕ → ℕ) (key value budget : ℕ) (refusal : Refusal) → PassLaw p → Stretch p.trace q.trace inserts
      → CallsInsert p q key value budget (Err refusal) → LacksSteps (enough_to_insert_among (listed_for p.trace key) (most_disturbed_by inserts p.trace q.trace) (steps_for_slot p q.trace)) budget refusal
  pub store : (p q : PassView) (inserts : ℕ → ℕ) (key value : ℕ) (wanted : Wanted) (budget : ℕ) (refusal : Refusal) → PassLaw p → Stretch p.trace q.trace inserts
      → CallsStore p q key value wanted budget (Err refusal) → LacksSteps (enough_to_store_among (listed_for p.trace key) (most_disturbed_by inserts p.trace q.trace) (steps_to_prepare wanted p q.trace)) budget refusal
