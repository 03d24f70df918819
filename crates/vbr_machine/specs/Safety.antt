-- What is true of every run.
use Rattle.std.specs.Prelude.{◌≡◌, ℕ, ◌-◌, ◌^◌, ◌≤◌, min, List, ◌∷◌, ◌++◌, Option, Some, None, IsTrue}
use Rattle.vbr_machine.specs.Start.{Start}
use Rattle.vbr_words.specs.Links.{IsLinkOf}
use Rattle.vbr_words.specs.declared.place.At.{At}
use Rattle.vbr_machine.specs.Opened.{opening_keys, opening_payloads}
use Rattle.vbr_machine.specs.History.{IsLegal, GiveStored}
use Rattle.vbr_machine.specs.Knowledge.{Know, holds}
use Rattle.vbr_machine.specs.Learning.{effect_of}
use Rattle.vbr_machine.specs.Machine.{World, link_at, found}
use Rattle.vbr_machine.specs.Runs.{IsRun, world_after}
use Rattle.vbr_machine.specs.Incarnations.{State, Incarnations, at_opening}
use Rattle.vbr_machine.specs.Incarnations as state
use Rattle.vbr_machine.specs.Images.{IsImage}
use Rattle.vbr_machine.specs.Chronicles.{IsLawful}
use Rattle.vbr_machine.specs.Notes.{IsHeldBy, HoldsJust, AreRightReads}
use Rattle.vbr_machine.specs.Accounts.{chronicle, incarnations_after, notes_after, IsRightExchange}
use Rattle.vbr_machine.specs.Agreement.{IsHeldIncarnation, IsNotOf, OwnFits, reads_of}
use Rattle.vbr_machine.specs.AgreedPlaces.{ArePlaced}
use Rattle.vbr_machine.specs.declared.event.Event.{Event}
use Rattle.vbr_machine.specs.declared.event.Effect.TheVariants.{Won}
use Rattle.vbr_machine.specs.declared.event.Step.{Step}
use Rattle.vbr_machine.specs.declared.event.Step.TheVariants.{StoreBirth, Publish, Mark, Replace, Unlink}
use Rattle.vbr_machine.specs.declared.knowledge.Unpublished.{Unpublished}
use Rattle.vbr_machine.specs.declared.knowledge.Holding.{Holding}
use Rattle.vbr_machine.specs.declared.knowledge.Holding.TheVariants.{Free, Unlinked, InHand}
use Rattle.vbr_machine.specs.declared.knowledge.SlotPlace.TheVariants.{Own, Hand}

-- ---- what an owner knows

-- what was stored since the birth, if anything was, is what the word says
abbrev pub IsWordOf : {A : Type 0} → A → Option A → Type 0
IsWordOf word None = Unit {0}
IsWordOf word (Some stored) = word ≡ stored

-- a slot has the words that a pass knows of what is in its hand
pub record HasWordsOf (w : World) (s : ℕ) (known : Unpublished) : Type 0 where
  pub stamp : w.stamp s ≡ known.stamp
  pub birth : w.birth s ≡ known.birth
  pub key : IsWordOf (w.key s) known.key
  pub value : IsWordOf (w.value s) known.value
  pub link : IsWordOf (w.link s) known.link

-- what a pass knows of a slot is so: a slot that it knows as its own or in its hand is, with these words, and no other slot is
abbrev pub IsOwnerRight : World → ℕ → ℕ → Option Holding → Type 0
IsOwnerRight w pass s None = IsNotOf pass (w.place s)
IsOwnerRight w pass s (Some (Free stamp)) = (w.place s ≡ Own pass) × (w.stamp s ≡ stamp)
IsOwnerRight w pass s (Some (Unlinked reread)) = w.place s ≡ Own pass
IsOwnerRight w pass s (Some (InHand known)) = (w.place s ≡ Hand pass) × HasWordsOf w s known

-- ---- exchanges and births

-- a step that exchanges a link
abbrev pub ExchangesLink : Step → Type 0
ExchangesLink (Publish pred expected s) = Unit {0}
ExchangesLink (Mark s expected) = Unit {0}
ExchangesLink (Replace s expected t) = Unit {0}
ExchangesLink (Unlink pred expected s) = Unit {0}
ExchangesLink _ = ⊥

-- an event that wins the exchange of a link after a run is right
abbrev pub IsRightAfter : Start → List Event → Event → Type 0
IsRightAfter start run event =
    ExchangesLink event.step → effect_of event.step (found start (world_after start run) event.step) ≡ Won →
    IsRightExchange start (world_after start run) (incarnations_after start run) (notes_after start run event.pass) event.pass event.step

-- an incarnation is over for a pass that would bear another in its slot: it is stamped, given up, or in hand of that pass, which gives it up
abbrev pub IsOver : State → ℕ → Type 0
IsOver (state.Stamped unlinked stamp) pass = Unit {0}
IsOver state.GivenUp pass = Unit {0}
IsOver (state.InHand by) pass = by ≡ pass
IsOver _ pass = ⊥

-- the last incarnation, if there is one, is over
abbrev pub IsLastOver : Incarnations → ℕ → Option ℕ → Type 0
IsLastOver a pass None = Unit {0}
IsLastOver a pass (Some c) = IsOver (a.state c) pass

-- an event that bears in a slot after a run finds the slot's last incarnation over
abbrev pub BearsAfter : Start → List Event → ℕ → Step → Type 0
BearsAfter start run pass (StoreBirth s birth) = IsLastOver (incarnations_after start run) pass ((incarnations_after start run).last s)
BearsAfter start run pass _ = Unit {0}

-- ---- the theorem

-- what a pass knows of a slot fits the slot's place, stamp and last incarnation: free is stamped, given up or never born in, unlinked is unlinked by this pass, in hand is in its hand
abbrev pub KnowsLast : Incarnations → ℕ → Know → ℕ → Type 0
KnowsLast a pass know s = OwnFits a pass know.epoch (know.own s) (a.place s) (a.last s) (a.stamp s)

-- what a pass knows after a run is right: it is what its notes say, and agrees with the incarnations
-- Each incarnation that it holds is late for its epoch, and it holds one at a slot. Each slot that it holds has such an incarnation, and only one.
-- Its checked reads are right. So is what it knows of its slots, and of what was born in them last.
pub record KnowsRight (start : Start) (run : List Event) (pass : ℕ) : Type 0 where
  pub epoch : ((world_after start run).know pass).epoch ≤ (world_after start run).epoch
  pub pending : ((world_after start run).know pass).pending ≡ reads_of (notes_after start run pass).pending
  pub checked : ((world_after start run).know pass).checked ≡ reads_of (notes_after start run pass).checked
  pub late : (s c : ℕ) → IsHeldBy (notes_after start run pass).checked s c → IsHeldIncarnation (incarnations_after start run) ((world_after start run).know pass).epoch s c
  pub one : (s c d : ℕ) → IsHeldBy (notes_after start run pass).checked s c → IsHeldBy (notes_after start run pass).checked s d → c ≡ d
  pub some : (s : ℕ) → IsTrue (holds ((world_after start run).know pass).checked s) → (c : ℕ) × HoldsJust (notes_after start run pass).checked s c
  pub reads : AreRightReads (notes_after start run pass).checked
  pub own : (s : ℕ) → IsOwnerRight (world_after start run) pass s (((world_after start run).know pass).own s)
  pub last : (s : ℕ) → KnowsLast (incarnations_after start run) pass ((world_after start run).know pass) s

-- a run is safe: it is what a lawful chronicle of incarnations stands for, and each of its exchanges and reads is right
-- The words are the image of the chronicle. The calls are those of the chronicle, legal, and give the values that were stored. Births are counted.
-- The epoch is at most the last one, and each link is one of the shape, for which a word has room. What each pass knows is right, and each slot is in exactly one place.
-- Each exchange of a link that an event wins is right. No event bears in a slot whose last incarnation isn't over.
pub record IsSafe (start : Start) (run : List Event) : Type 0 where
  pub lawful : IsLawful start (opening_keys start) (at_opening start) (chronicle start run)
  pub image : IsImage (world_after start run) (incarnations_after start run)
  pub calls : (world_after start run).calls ≡ (incarnations_after start run).calls
  pub legal : IsLegal (opening_keys start) (world_after start run).calls
  pub values : GiveStored (opening_payloads start) (world_after start run).calls
  pub births : (world_after start run).births ≡ min (incarnations_after start run).count (2 ^ 64 - 1)
  pub epoch : (world_after start run).epoch ≤ start.shape.last_epoch
  pub links : (place : At) → IsLinkOf start.shape (link_at (world_after start run) place)
  pub knows : (pass : ℕ) → KnowsRight start run pass
  pub slots : (passes : ℕ) → IsRun start passes run → ArePlaced start passes (world_after start run) (incarnations_after start run)
  pub exchanges : (before after : List Event) (event : Event) → run ≡ before ++ event ∷ after → IsRightAfter start before event
  pub births_over : (before after : List Event) (event : Event) → run ≡ before ++ event ∷ after → BearsAfter start before event.pass event.step
