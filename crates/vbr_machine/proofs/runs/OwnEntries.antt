-- Only its own steps add events of a pass to the chronicle: just what happens by them.
use Rattle.std.proofs.Common.{◌≡◌, ◌≢◌, ℕ, Bool, true, false, cond, List, [], ◌∷◌, ◌++◌, Option, Some, None, refl, sym}
use Rattle.std.proofs.Common.{ap, ◌∙◌, append_assoc, append-nil, eq-eqb}
use Rattle.std.specs.Prelude.{◌==◌}
use Rattle.std.specs.List.{AllByRecursion}
use Rattle.std.proofs.lemmas.Bool.{ne_eqb}
use Rattle.std.proofs.lemmas.List.Elements.{filter-append}
use Rattle.vbr_words.specs.Flags.{has_flag}
use Rattle.vbr_machine.specs.Start.{Start}
use Rattle.vbr_machine.specs.Learning.{call_of}
use Rattle.vbr_machine.specs.Machine.{World, opening, found, after}
use Rattle.vbr_machine.specs.Runs.{world_from, world_after, NoneOf}
use Rattle.vbr_machine.specs.Incarnations.{Incarnations, at_opening}
use Rattle.vbr_machine.specs.Chronicles.{Happening, Raises, Bears, Entry, incarnations_from, entries_by}
use Rattle.vbr_machine.specs.Accounts.{after_giving_up, entry_of_call, happens, incarnations_with, chronicle_from}
use Rattle.vbr_machine.specs.Accounts.{chronicle, incarnations_after, own_entries}
use Rattle.vbr_machine.specs.declared.history.Call.{Call}
use Rattle.vbr_machine.specs.declared.event.Event.{Event}
use Rattle.vbr_machine.specs.declared.event.Step.{Step}
use Rattle.vbr_machine.specs.declared.event.Step.TheVariants.{ReadEpoch, Advance, LoadStamp, PeekBirth, StoreStamp}
use Rattle.vbr_machine.specs.declared.event.Step.TheVariants.{Raise}
use Rattle.vbr_machine.specs.declared.event.Step.TheVariants.{TakeFlag, StoreBirth, StoreKey, StoreLink, LoadLink}
use Rattle.vbr_machine.specs.declared.event.Step.TheVariants.{LoadBirth, LoadKey, Publish, Mark, Replace, Unlink}
use Rattle.vbr_machine.specs.declared.event.Step.TheVariants.{ConfirmPresent, ConfirmAbsent, StoreValue, LoadValue}
use Rattle.vbr_machine.specs.declared.knowledge.Holding.{Holding}
use Rattle.vbr_machine.specs.declared.knowledge.Holding.TheVariants.{Free, Unlinked, InHand}
use Rattle.vbr_machine.proofs.runs.EveryRun.{incarnations_from-append}

-- all events are of a pass
abbrev pub AreBy : ℕ → List Entry → Type 0
AreBy p entries = AllByRecursion (λ (entry : Entry). entry.pass ≡ p) entries

either_by : (p : ℕ) (b : Bool) (xs ys : List Entry) → AreBy p xs → AreBy p ys → AreBy p (cond b xs ys)
either_by p true xs ys g h = g
either_by p false xs ys g h = h

given_up_by : (a : Incarnations) (p s : ℕ) (what : Happening) (own : Option Holding) →
    AreBy p (after_giving_up a p s what own)
given_up_by a p s what None = (refl, tt)
given_up_by a p s what (Some (Free stamp)) = (refl, tt)
given_up_by a p s what (Some (Unlinked seen)) = (refl, tt)
given_up_by a p s what (Some (InHand known)) = (refl, (refl, tt))

answered_by : (p : ℕ) (made : Option Call) → AreBy p (entry_of_call p made)
answered_by p None = tt
answered_by p (Some call) = (refl, tt)

-- what happens by a step is of its pass
pub happens_by : (start : Start) (w : World) (a : Incarnations) (p : ℕ) (step : Step) →
    AreBy p (happens start w a p step)
happens_by start w a p ReadEpoch = tt
happens_by start w a p (Advance from) = either_by p (found start w (Advance from) == from) _ _ (refl, tt) tt
happens_by start w a p (LoadStamp s) = tt
happens_by start w a p (PeekBirth s) = tt
happens_by start w a p (StoreStamp s stamp) = (refl, tt)
happens_by start w a p (Raise s) = given_up_by a p s (Raises s) ((w.know p).own s)
happens_by start w a p (TakeFlag s) = either_by p (has_flag (found start w (TakeFlag s)) s) _ _ (refl, tt) (refl, tt)
happens_by start w a p (StoreBirth s birth) = given_up_by a p s (Bears s birth) ((w.know p).own s)
happens_by start w a p (StoreKey s key) = (refl, tt)
happens_by start w a p (StoreValue s value) = (refl, tt)
happens_by start w a p (StoreLink s next) = (refl, tt)
happens_by start w a p (LoadLink place) = tt
happens_by start w a p (LoadBirth s) = tt
happens_by start w a p (LoadKey s) = tt
happens_by start w a p (LoadValue s) = tt
happens_by start w a p (Publish pred expected s) =
    either_by p (found start w (Publish pred expected s) == expected) _ _ (refl, tt) tt
happens_by start w a p (Mark s expected) = either_by p (found start w (Mark s expected) == expected) _ _ (refl, tt) tt
happens_by start w a p (Replace s expected t) =
    either_by p (found start w (Replace s expected t) == expected) _ _ (refl, tt) tt
happens_by start w a p (Unlink pred expected s) =
    either_by p (found start w (Unlink pred expected s) == expected) _ _ (refl, tt) tt
happens_by start w a p (ConfirmPresent op s expected) =
    either_by p (found start w (ConfirmPresent op s expected) == expected) _ _
    (answered_by p (call_of start p (w.know p) (ConfirmPresent op s expected))) tt
happens_by start w a p (ConfirmAbsent op key place expected) =
    either_by p (found start w (ConfirmAbsent op key place expected) == expected) _ _
    (answered_by p (call_of start p (w.know p) (ConfirmAbsent op key place expected))) tt

all_own : (p : ℕ) (entries : List Entry) → AreBy p entries → entries_by p entries ≡ entries
all_own p [] h = refl
all_own p (entry ∷ entries) h = rw (eq-eqb entry.pass p h.0) (ap (λ l. entry ∷ l) (all_own p entries h.1))

none_own : (p who : ℕ) (entries : List Entry) → p ≢ who → AreBy p entries → entries_by who entries ≡ []
none_own p who [] ne h = refl
none_own p who (entry ∷ entries) ne h =
    rw (ne_eqb entry.pass who (λ e. ne (sym h.0 ∙ e))) (none_own p who entries ne h.1)

-- ---- along a run

both : (who : ℕ) (xs ys : List Entry) → entries_by who (xs ++ ys) ≡ entries_by who xs ++ entries_by who ys
both who xs ys = filter-append (λ (entry : Entry). entry.pass == who) xs ys

pub chronicle_from-append : (start : Start) (w : World) (a : Incarnations) (xs ys : List Event) →
    chronicle_from start w a (xs ++ ys)
    ≡ chronicle_from start w a xs
    ++ chronicle_from start (world_from start w xs) (incarnations_from start a (chronicle_from start w a xs)) ys
chronicle_from-append start w a [] ys = refl
chronicle_from-append start w a (x ∷ xs) ys =
    let v = after start w x.pass x.step in
    let b = incarnations_with start w a x in
    let here = happens start w a x.pass x.step in
    ap (λ l. here ++ l) (chronicle_from-append start v b xs ys)
    ∙ sym (append_assoc here (chronicle_from start v b xs) _)
    ∙ ap (λ i. (here ++ chronicle_from start v b xs) ++ chronicle_from start (world_from start v xs) i ys)
    (sym (incarnations_from-append start a here (chronicle_from start v b xs)))

pub others_add : (start : Start) (w : World) (a : Incarnations) (who : ℕ) (events : List Event) → NoneOf who events →
    entries_by who (chronicle_from start w a events) ≡ []
others_add start w a who [] none = refl
others_add start w a who (x ∷ xs) none =
    both who (happens start w a x.pass x.step)
    (chronicle_from start (after start w x.pass x.step) (incarnations_with start w a x) xs)
    ∙ ap (λ l. l
    ++ entries_by who (chronicle_from start (after start w x.pass x.step) (incarnations_with start w a x) xs))
    (none_own x.pass who (happens start w a x.pass x.step) none.0 (happens_by start w a x.pass x.step))
    ∙ others_add start (after start w x.pass x.step) (incarnations_with start w a x) who xs none.1

-- what others do adds no event of a pass
pub others_leave_entries : (start : Start) (seen rest : List Event) (who : ℕ) → NoneOf who rest →
    own_entries start (seen ++ rest) who ≡ own_entries start seen who
others_leave_entries start seen rest who none =
    ap (entries_by who) (chronicle_from-append start (opening start) (at_opening start) seen rest)
    ∙ both who (chronicle start seen) _
    ∙ ap (λ l. own_entries start seen who ++ l)
    (others_add start (world_after start seen) (incarnations_after start seen) who rest none)
    ∙ append-nil (own_entries start seen who)

-- and its own step adds what happens by it
pub own_entries-snoc : (start : Start) (run : List Event) (event : Event) →
    own_entries start (run ++ event ∷ []) event.pass
    ≡ own_entries start run event.pass
    ++ happens start (world_after start run) (incarnations_after start run) event.pass event.step
own_entries-snoc start run event =
    let now = happens start (world_after start run) (incarnations_after start run) event.pass event.step in
    ap (entries_by event.pass) (chronicle_from-append start (opening start) (at_opening start) run (event ∷ []))
    ∙ both event.pass (chronicle start run) _
    ∙ ap (λ l. own_entries start run event.pass ++ entries_by event.pass l) (append-nil now)
    ∙ ap (λ l. own_entries start run event.pass ++ l)
    (all_own event.pass now
    (happens_by start (world_after start run) (incarnations_after start run) event.pass event.step))
