-- Every run is safe.
use Rattle.std.proofs.Common.{◌≡◌, ◌≢◌, ℕ, Bool, List, [], ◌∷◌, ◌++◌, Option, Some, None, refl, arith, sym, subst, ap}
use Rattle.std.proofs.Common.{◌∙◌, inl, inr}
use Rattle.std.specs.Prelude.{◌⊎◌}
use Rattle.std.proofs.lemmas.Bool.{cases_eq}
use Rattle.vbr_machine.specs.Start.{Start, IsStart}
use Rattle.vbr_words.specs.Links.{IsLinkOf}
use Rattle.vbr_words.specs.declared.link.Link.{Link}
use Rattle.vbr_machine.specs.Knowledge.{Know}
use Rattle.vbr_machine.specs.Acceptance.{MayBear, Accepts}
use Rattle.vbr_machine.specs.Machine.{World, opening, found, stamp_shown, after}
use Rattle.vbr_machine.specs.Runs.{IsAccepted, AreAccepted, world_from, world_after, IsRun}
use Rattle.vbr_machine.specs.Incarnations.{State, Incarnations}
use Rattle.vbr_machine.specs.Images.{birth_shown, key_shown, value_shown, link_shown, IsImage}
use Rattle.vbr_machine.specs.Chronicles.{IsDead, IsLastDead}
use Rattle.vbr_machine.specs.Accounts.{incarnations_after, notes_after}
use Rattle.vbr_machine.specs.Agreement.{IsNotOf, IsStored, OwnFits, Agrees}
use Rattle.vbr_machine.specs.Safety.{IsWordOf, IsOwnerRight, IsOver, IsLastOver, BearsAfter, IsSafe}
use Rattle.vbr_machine.specs.declared.event.Event.{Event}
use Rattle.vbr_machine.specs.declared.event.Step.{Step}
use Rattle.vbr_machine.specs.declared.event.Step.TheVariants.{ReadEpoch, Advance, LoadStamp, PeekBirth, StoreStamp}
use Rattle.vbr_machine.specs.declared.event.Step.TheVariants.{Raise}
use Rattle.vbr_machine.specs.declared.event.Step.TheVariants.{TakeFlag, StoreBirth, StoreKey, StoreLink, LoadLink}
use Rattle.vbr_machine.specs.declared.event.Step.TheVariants.{LoadBirth, LoadKey, Publish, Mark, Replace, Unlink}
use Rattle.vbr_machine.specs.declared.event.Step.TheVariants.{ConfirmPresent, ConfirmAbsent, StoreValue, LoadValue}
use Rattle.vbr_machine.specs.declared.knowledge.Holding.{Holding}
use Rattle.vbr_machine.specs.declared.knowledge.Holding.TheVariants.{Free, Unlinked, InHand}
use Rattle.vbr_machine.specs.declared.knowledge.SlotPlace.{SlotPlace}
use Rattle.vbr_machine.proofs.chronicles.Shown.{image_fits, stands}
use Rattle.vbr_machine.proofs.runs.RunsGoOn.{know_own, know_other, is_run_before, is_run_after}
use Rattle.vbr_machine.proofs.runs.EveryRun.{run_agrees, run_lawful}
use Rattle.vbr_machine.proofs.reads.HeldSlots.{ReadsHeldPlaces, held_learned}
use Rattle.vbr_machine.proofs.reads.RightReads.{holds_held, holds_one, holds_only, right_reads}
use Rattle.vbr_machine.proofs.whereabouts.PlacedSlots.{are_placed}
use Rattle.vbr_machine.proofs.runs.RightExchanges.{right_exchange}

-- ---- reads are of held places

reads_on : (start : Start) (passes : ℕ) (w : World) (events : List Event) → ((p : ℕ) → ReadsHeldPlaces (w.know p)) →
    AreAccepted start passes w events → (p : ℕ) → ReadsHeldPlaces ((world_from start w events).know p)
reads_on start passes w [] r ok p = r p
reads_on start passes w (event ∷ events) r ok p =
    reads_on start passes (after start w event.pass event.step) events next ok.1 p
  where
    own : ReadsHeldPlaces ((after start w event.pass event.step).know event.pass)
    own =
        let P : Know → Type 0 = ReadsHeldPlaces in
        subst P (sym (know_own start w event.pass event.step))
        (held_learned start (w.know event.pass) event.step (found start w event.step) (stamp_shown w event.step)
        (r event.pass) ok.0.1)

    next : (q : ℕ) → ReadsHeldPlaces ((after start w event.pass event.step).know q)
    next q = go (cases_eq q event.pass)
      where
        go : (q ≡ event.pass) ⊎ (q ≢ event.pass) → ReadsHeldPlaces ((after start w event.pass event.step).know q)
        go (inl e) =
            let P : ℕ → Type 0 = λ i. ReadsHeldPlaces ((after start w event.pass event.step).know i) in
            subst P (sym e) own
        go (inr ne) =
            let P : Know → Type 0 = ReadsHeldPlaces in
            subst P (sym (know_other start w q event.pass event.step ne)) (r q)

-- after a run all reads of a pass are of places that it holds
pub run_reads : (start : Start) (passes : ℕ) (run : List Event) → IsRun start passes run → (p : ℕ) →
    ReadsHeldPlaces ((world_after start run).know p)
run_reads start passes run ok =
    reads_on start passes (opening start) run (λ p. record { checked = tt; pending = tt }) ok

-- ---- what an owner knows

word_of_stored : {A : Type 0} (b : Bool) (value word : A) (known : Option A) → word ≡ value → IsStored b value known →
    IsWordOf word known
word_of_stored b value word None e s = tt
word_of_stored b value word (Some k) e s = e ∙ s.1

owner_right : (w : World) (a : Incarnations) (p e s : ℕ) (holding : Option Holding) → IsImage w a →
    OwnFits a p e holding (a.place s) (a.last s) (a.stamp s) → IsOwnerRight w p s holding
owner_right w a p e s None i o = let P : SlotPlace → Type 0 = IsNotOf p in subst P (sym (i.place s)) o
owner_right w a p e s (Some (Free stamp)) i o = (i.place s ∙ o.0, i.stamp s ∙ o.2)
owner_right w a p e s (Some (Unlinked reread)) i o = i.place s ∙ o.0
owner_right w a p e s (Some (InHand known)) i o =
    let x = o.1 in
    let b : w.birth s ≡ a.birth x.node = i.birth s ∙ ap (birth_shown a) x.last_is in
    let k : w.key s ≡ a.key x.node = i.key s ∙ ap (key_shown a) x.last_is in
    let v : w.value s ≡ a.value x.node = i.value s ∙ ap (value_shown a) x.last_is in
    let shown : link_shown a (Some x.node) ≡ a.link x.node = rw x.state refl in
    let l : w.link s ≡ a.link x.node = i.link s ∙ ap (link_shown a) x.last_is ∙ shown in (
      i.place s ∙ o.0,
      record {
        stamp = i.stamp s ∙ o.2;
        birth = b ∙ x.birth_is;
        key = word_of_stored (a.is_keyed x.node) (a.key x.node) (w.key s) known.key k x.keyed;
        value = word_of_stored (a.is_valued x.node) (a.value x.node) (w.value s) known.value v x.valued;
        link = word_of_stored (a.is_aimed x.node) (a.link x.node) (w.link s) known.link l x.aimed;
      },
    )

-- ---- births

-- a dead incarnation is over
dead_over : (st : State) (p : ℕ) → IsDead st → IsOver st p
dead_over st p r = grind arith

last_over : (a : Incarnations) (p e s : ℕ) (holding : Option Holding) → MayBear holding →
    OwnFits a p e holding (a.place s) (a.last s) (a.stamp s) → IsLastOver a p (a.last s)
last_over a p e s None m o = absurd m
last_over a p e s (Some (Unlinked reread)) m o = absurd m
last_over a p e s (Some (Free stamp)) m o = go (a.last s) o.1
  where
    go : (l : Option ℕ) → IsLastDead a l → IsLastOver a p l
    go None r = tt
    go (Some c) r = dead_over (a.state c) p r
last_over a p e s (Some (InHand known)) m o = let x = o.1 in rw (x.last_is, x.state) refl

bears_after : (start : Start) (run : List Event) (p : ℕ) (step : Step) →
    Agrees start (world_after start run) (incarnations_after start run) (notes_after start run) →
    Accepts start ((world_after start run).know p) step → BearsAfter start run p step
bears_after start run p (StoreBirth s birth) g ok =
    last_over (incarnations_after start run) p ((world_after start run).know p).epoch s
    (((world_after start run).know p).own s) ok.owned (g.owns p s)
bears_after start run p ReadEpoch g ok = tt
bears_after start run p (Advance from) g ok = tt
bears_after start run p (LoadStamp s) g ok = tt
bears_after start run p (PeekBirth s) g ok = tt
bears_after start run p (StoreStamp s stamp) g ok = tt
bears_after start run p (Raise s) g ok = tt
bears_after start run p (TakeFlag s) g ok = tt
bears_after start run p (StoreKey s key) g ok = tt
bears_after start run p (StoreValue s value) g ok = tt
bears_after start run p (StoreLink s next) g ok = tt
bears_after start run p (LoadLink place) g ok = tt
bears_after start run p (LoadBirth s) g ok = tt
bears_after start run p (LoadKey s) g ok = tt
bears_after start run p (LoadValue s) g ok = tt
bears_after start run p (Publish pred expected s) g ok = tt
bears_after start run p (Mark s expected) g ok = tt
bears_after start run p (Replace s expected t) g ok = tt
bears_after start run p (Unlink pred expected s) g ok = tt
bears_after start run p (ConfirmPresent op s expected) g ok = tt
bears_after start run p (ConfirmAbsent op key place expected) g ok = tt

-- ---- one event of a run

-- an event of a run is accepted after the run before it
accepted_there : (start : Start) (passes : ℕ) (run before later : List Event) (event : Event) → IsRun start passes run →
    run ≡ before ++ event ∷ later → IsRun start passes before × IsAccepted start passes (world_after start before) event
accepted_there start passes run before later event ok e =
    let all : IsRun start passes (before ++ event ∷ later) =
    (let P : List Event → Type 0 = IsRun start passes in subst P e ok) in
    (is_run_before start passes before (event ∷ later) all, (is_run_after start passes before (event ∷ later) all).0)

-- ---- the theorem

pub every_run : (start : Start) (passes : ℕ) (run : List Event) → IsStart start → IsRun start passes run →
    IsSafe start run
every_run start passes run is ok =
    let w = world_after start run in
    let a = incarnations_after start run in
    let g = run_agrees start passes run is ok in
    record {
      lawful = run_lawful start passes run is ok;
      image = g.image;
      calls = g.calls;
      legal = rw g.calls g.tells.legal;
      values = rw g.calls g.tells.values;
      births = g.births;
      epoch = rw g.image.epoch g.fits.epoch;
      links = λ place.
          (let P : Link → Type 0 = IsLinkOf start.shape in
          subst P (sym (stands w a place g.image)) (image_fits g.sound g.fits place));
      knows = λ p. record {
        epoch = rw g.image.epoch (g.knows p).epoch;
        pending = (g.knows p).pending_reads;
        checked = (g.knows p).checked_reads;
        late = holds_held a (w.know p).epoch (notes_after start run p).checked (g.knows p).checked;
        one = holds_one g.sound (w.know p).epoch (notes_after start run p).checked (g.knows p).checked;
        some = λ s h.
            holds_only g.sound (w.know p).epoch (notes_after start run p).checked (g.knows p).checked s
            (rw (g.knows p).checked_reads at h);
        reads = right_reads g.sound (w.know p) (notes_after start run p) (g.knows p) (run_reads start passes run ok p);
        own = λ s. owner_right w a p (w.know p).epoch s ((w.know p).own s) g.image (g.owns p s);
        last = g.owns p;
      };
      slots = λ some ok_too. are_placed start some run is ok_too;
      exchanges = λ before later event e.
          let accepted = accepted_there start passes run before later event ok e in
          right_exchange start (world_after start before) (incarnations_after start before) (notes_after start before)
          event.pass (run_agrees start passes before is accepted.0)
          (run_reads start passes before accepted.0 event.pass) event.step
          accepted.1.1;
      births_over = λ before later event e.
          let accepted = accepted_there start passes run before later event ok e in
          bears_after start before event.pass event.step (run_agrees start passes before is accepted.0) accepted.1.1;
    }
