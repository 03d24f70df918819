-- The account of a run: its chronicle, the incarnations that this makes, and the notes of each pass.
use Rattle.std.specs.Prelude.{ℕ, List, [], ◌∷◌, ◌++◌, Option, Some, None, if◌then◌else◌}
use Rattle.vbr_machine.specs.Start.{Start}
use Rattle.vbr_words.specs.Words.{link_of}
use Rattle.vbr_machine.specs.Put.{put}
use Rattle.vbr_machine.specs.Opened.{opening_keys}
use Rattle.vbr_machine.specs.Learning.{succeeds, link_written, call_of}
use Rattle.vbr_machine.specs.Machine.{World, opening, found, after}
use Rattle.vbr_machine.specs.Incarnations.{Incarnations, at_opening, last_in}
use Rattle.vbr_machine.specs.Chronicles.{Happening, Advances, Gains, Probes, Raises, GivesUp, Bears, Keyed, Valued, Aims, Inserts, Removes, Replaces, Unlinks, Stamps, Confirms, Entry, IsLawful, incarnations_from, entries_by}
use Rattle.vbr_machine.specs.Notes.{Notes, no_notes, before_at, notes_with, NamesLast, HoldsNext}
use Rattle.vbr_machine.specs.declared.history.Call.{Call}
use Rattle.vbr_machine.specs.declared.event.Event.{Event}
use Rattle.vbr_machine.specs.declared.event.Step.{Step}
use Rattle.vbr_machine.specs.declared.event.Step.TheVariants.{Advance, StoreStamp, Raise, TakeFlag, StoreBirth, StoreKey, StoreValue, StoreLink, Publish, Mark, Replace, Unlink}
use Rattle.vbr_machine.specs.declared.knowledge.Holding.{Holding}
use Rattle.vbr_machine.specs.declared.knowledge.Holding.TheVariants.{InHand}

-- one event of a pass
abbrev pub just : ℕ → Happening → List Entry
just pass what = record { pass = pass; what = what } ∷ []

-- a birth in a slot that is in hand, or a raise of it, gives up the incarnation there first
abbrev pub after_giving_up : Incarnations → ℕ → ℕ → Happening → Option Holding → List Entry
after_giving_up a pass s what (Some (InHand known)) = just pass (GivesUp (last_in a s)) ++ just pass what
after_giving_up a pass s what _ = just pass what

-- an answer, if a call is made
abbrev pub entry_of_call : ℕ → Option Call → List Entry
entry_of_call pass None = []
entry_of_call pass (Some call) = just pass (Confirms call)

-- what a step that succeeds adds to the chronicle: loads add nothing
abbrev pub happens_if_found : Start → World → Incarnations → ℕ → Step → List Entry
happens_if_found start w a pass (Advance from) = just pass Advances
happens_if_found start w a pass (StoreStamp s stamp) = just pass (Stamps (last_in a s) stamp)
happens_if_found start w a pass (Raise s) = after_giving_up a pass s (Raises s) ((w.know pass).own s)
happens_if_found start w a pass (TakeFlag s) = just pass (Gains s)
happens_if_found start w a pass (StoreBirth s birth) = after_giving_up a pass s (Bears s birth) ((w.know pass).own s)
happens_if_found start w a pass (StoreKey s key) = just pass (Keyed (last_in a s) key)
happens_if_found start w a pass (StoreValue s value) = just pass (Valued (last_in a s) value)
happens_if_found start w a pass (StoreLink s next) = just pass (Aims (last_in a s) (link_written (w.know pass) (StoreLink s next)))
happens_if_found start w a pass (Publish pred expected s) = just pass (Inserts (last_in a s) (before_at a pred))
happens_if_found start w a pass (Mark s expected) = just pass (Removes (last_in a s))
happens_if_found start w a pass (Replace s expected t) = just pass (Replaces (last_in a s) (last_in a t))
happens_if_found start w a pass (Unlink pred expected s) = just pass (Unlinks (last_in a s) (before_at a pred))
happens_if_found start w a pass step = entry_of_call pass (call_of start pass (w.know pass) step)

-- what a step that doesn't succeed adds: a flag that isn't taken was probed
abbrev pub happens_if_missed : ℕ → Step → List Entry
happens_if_missed pass (TakeFlag s) = just pass (Probes s)
happens_if_missed pass step = []

-- what an accepted step adds to the chronicle
abbrev pub happens : Start → World → Incarnations → ℕ → Step → List Entry
happens start w a pass step = if succeeds step (found start w step) then happens_if_found start w a pass step else happens_if_missed pass step

-- ---- along a run

-- the incarnations after one more accepted event
abbrev pub incarnations_with : Start → World → Incarnations → Event → Incarnations
incarnations_with start w a event = incarnations_from start a (happens start w a event.pass event.step)

-- the chronicle of events from a world
abbrev pub chronicle_from : Start → World → Incarnations → List Event → List Entry
chronicle_from start w a [] = []
chronicle_from start w a (event ∷ events) =
    happens start w a event.pass event.step ++ chronicle_from start (after start w event.pass event.step) (incarnations_with start w a event) events

-- the notes of each pass after events from a world
abbrev pub notes_from : Start → World → Incarnations → (ℕ → Notes) → List Event → ℕ → Notes
notes_from start w a notes [] = notes
notes_from start w a notes (event ∷ events) =
    let noted = put notes event.pass (notes_with start w (incarnations_with start w a event) event.pass event.step (notes event.pass)) in
    notes_from start (after start w event.pass event.step) (incarnations_with start w a event) noted events

-- the chronicle of a run
abbrev pub chronicle : Start → List Event → List Entry
chronicle start run = chronicle_from start (opening start) (at_opening start) run

-- the incarnations after a run
abbrev pub incarnations_after : Start → List Event → Incarnations
incarnations_after start run = incarnations_from start (at_opening start) (chronicle start run)

-- the notes of a pass after a run
abbrev pub notes_after : Start → List Event → ℕ → Notes
notes_after start run pass = notes_from start (opening start) (at_opening start) (λ p. no_notes) run pass

-- the events of a pass in the chronicle of a run
abbrev pub own_entries : Start → List Event → ℕ → List Entry
own_entries start run pass = entries_by pass (chronicle start run)

-- ---- what is to hold along a run

-- a publication and a replacement give their incarnation the successor that the pass holds: the one at the slot that the expected link names
abbrev pub TakesHeldNext : Start → World → Incarnations → Notes → ℕ → Step → Type 0
TakesHeldNext start w a notes pass (Publish pred expected s) =
    let published = incarnations_from start a (happens_if_found start w a pass (Publish pred expected s)) in
    HoldsNext notes.checked (link_of expected).slot (published.next (last_in a s))
TakesHeldNext start w a notes pass (Replace s expected t) =
    let published = incarnations_from start a (happens_if_found start w a pass (Replace s expected t)) in
    HoldsNext notes.checked (link_of expected).slot (published.next (last_in a t))
TakesHeldNext start w a notes pass step = Unit {0}

-- an exchange that finds its word is right: the incarnations that it names are the last of their slots, what it adds to the chronicle is lawful for them, and a publication's successor is the one held
pub record IsRightExchange (start : Start) (w : World) (a : Incarnations) (notes : Notes) (pass : ℕ) (step : Step) : Type 0 where
  pub names : NamesLast a notes.checked step
  pub lawful : IsLawful start (opening_keys start) a (happens_if_found start w a pass step)
  pub successor : TakesHeldNext start w a notes pass step
