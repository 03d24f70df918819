-- The places and slots that a pass knows of are in the shape, since loads and exchanges ask for that.
use Rattle.std.proofs.Common.{◌≡◌, ◌≢◌, ℕ, ◌<◌, ◌≤◌, List, [], ◌∷◌, ◌++◌, sym, ap, ◌∙◌, subst, inl, inr, arith}
use Rattle.std.proofs.Common.{Bool, true, false, cond, Option, Some, None}
use Rattle.std.specs.Prelude.{◌⊎◌, ◌==◌}
use Rattle.std.specs.List.{AllByRecursion}
use Rattle.std.proofs.lemmas.Bool.{cases_Bool, cases_eq, cases_lt}
use Rattle.std.proofs.lemmas.List.Elements.{All-contains, All-from_recursion}
use Rattle.vbr_words.specs.Dimensions.{Dimensions}
use Rattle.vbr_words.specs.Flags.{has_flag}
use Rattle.vbr_machine.specs.Start.{Start, IsStart}
use Rattle.vbr_words.specs.Words.{link_of}
use Rattle.vbr_words.specs.declared.link.Link.{Link}
use Rattle.vbr_words.specs.declared.place.At.{At}
use Rattle.vbr_words.specs.declared.place.At.TheVariants.{Slot}
use Rattle.vbr_machine.specs.Knowledge.{Know}
use Rattle.vbr_machine.specs.Acceptance.{IsAtIn, Accepts}
use Rattle.vbr_machine.specs.Learning.{read_epoch, with_pending, with_checked, reads_won, learn, birth_in_hand}
use Rattle.vbr_machine.specs.Learning.{value_in_hand, value_read}
use Rattle.vbr_machine.specs.Machine.{World, opening, found, stamp_shown, after}
use Rattle.vbr_machine.specs.Membership.{Knows, IsHeldSlot}
use Rattle.vbr_machine.specs.Runs.{AreAccepted, world_from, know_after, IsRun}
use Rattle.vbr_machine.specs.Accounts.{incarnations_after}
use Rattle.vbr_machine.specs.Agreement.{OwnFits}
use Rattle.vbr_machine.specs.Sound.{Sound}
use Rattle.vbr_machine.specs.Incarnations.{State, Incarnations, IsLate}
use Rattle.vbr_machine.specs.declared.event.Event.{Event}
use Rattle.vbr_machine.specs.declared.event.Step.{Step}
use Rattle.vbr_machine.specs.declared.event.Step.TheVariants.{ReadEpoch, Advance, LoadStamp, PeekBirth, StoreStamp}
use Rattle.vbr_machine.specs.declared.event.Step.TheVariants.{Raise}
use Rattle.vbr_machine.specs.declared.event.Step.TheVariants.{TakeFlag, StoreBirth, StoreKey, StoreValue, StoreLink}
use Rattle.vbr_machine.specs.declared.event.Step.TheVariants.{LoadLink, LoadBirth, LoadKey, LoadValue, Publish, Mark}
use Rattle.vbr_machine.specs.declared.event.Step.TheVariants.{Replace, Unlink, ConfirmPresent, ConfirmAbsent}
use Rattle.vbr_machine.specs.declared.knowledge.Holding.{Holding}
use Rattle.vbr_machine.specs.declared.knowledge.Holding.TheVariants.{Free, Unlinked, InHand}
use Rattle.vbr_machine.specs.declared.knowledge.Read.{Read}
use Rattle.vbr_machine.specs.declared.knowledge.Read.TheVariants.{LinkAt, BirthOf, KeyOf, ValueOf}
use Rattle.vbr_machine.proofs.Lemmas.{birth_held, know_other, know_own, run_agrees, slot_held}

-- the slots that a shape counts are those that a pass began with
pub counted_slots : {slots : ℕ} {shape : Dimensions} {start own : Start} → slots ≡ shape.slots → shape ≡ start.shape →
    start ≡ own → slots ≡ own.shape.slots
counted_slots count is same =
    count ∙ ap (λ (shape : Dimensions). shape.slots) is ∙ ap (λ (start : Start). start.shape.slots) same

-- a read is of a place of the shape
abbrev IsReadIn : Start → Read → Type 0
IsReadIn start (LinkAt place link) = IsAtIn start place
IsReadIn start (BirthOf s birth) = s < start.shape.slots
IsReadIn start (KeyOf s key) = s < start.shape.slots
IsReadIn start (ValueOf s value) = s < start.shape.slots

-- all reads of a pass are
record ReadsIn (start : Start) (know : Know) : Type 0 where
  checked : AllByRecursion (IsReadIn start) know.checked
  pending : AllByRecursion (IsReadIn start) know.pending

all_append : (P : Read → Type 0) (xs ys : List Read) → AllByRecursion P xs → AllByRecursion P ys →
    AllByRecursion P (xs ++ ys)
all_append P [] ys g h = h
all_append P (x ∷ xs) ys g h = (g.0, all_append P xs ys g.1 h)

checked_more : (start : Start) (know : Know) (reads : List Read) → ReadsIn start know →
    AllByRecursion (IsReadIn start) reads → ReadsIn start (with_checked know reads)
checked_more start know reads r h =
    record { checked = all_append (IsReadIn start) know.checked reads r.checked h; pending = r.pending }

pending_more : (start : Start) (know : Know) (read : Read) → ReadsIn start know → IsReadIn start read →
    ReadsIn start (with_pending know read)
pending_more start know read r h =
    record { checked = r.checked; pending = all_append (IsReadIn start) know.pending (read ∷ []) r.pending (h, tt) }

epoch_read : (start : Start) (know : Know) (epoch : ℕ) → ReadsIn start know → ReadsIn start (read_epoch know epoch)
epoch_read start know epoch r = elim (cases_Bool (epoch == know.epoch)) [
  | inl k ↦ rw k
      (record { checked = all_append (IsReadIn start) know.checked know.pending r.checked r.pending; pending = tt })
  | inr k ↦ rw k (record { checked = tt; pending = tt })
]

-- the value that a publication tells, if one was stored
value_won : (start : Start) (s : ℕ) (value : Option ℕ) → s < start.shape.slots →
    AllByRecursion (IsReadIn start) (value_read s value)
value_won start s None low = tt
value_won start s (Some value) low = (low, tt)

-- and all that it tells of the place and of the slot
entry_won : (start : Start) (place : At) (s : ℕ) (value : Option ℕ) → IsAtIn start place → s < start.shape.slots →
    IsAtIn start place ×
    ((s < start.shape.slots) ×
    ((s < start.shape.slots) ×
    ((s < start.shape.slots) × AllByRecursion (IsReadIn start) (value_read s value))))
entry_won start place s value there low = (there, (low, (low, (low, value_won start s value low))))

-- reads stay in the shape where what is known of slots changes, and where one of two things is learned
own_in : {start : Start} {know : Know} {own : ℕ → Option Holding} → ReadsIn start know →
    ReadsIn start (record know { own = own })
own_in r = record { checked = r.checked; pending = r.pending }

either_in : (start : Start) (b : Bool) (know later : Know) → ReadsIn start know → ReadsIn start later →
    ReadsIn start (cond b know later)
either_in start true know later r l = r
either_in start false know later r l = l

-- what a pass learns by an accepted step leaves all of its reads in the shape
reads_learned : (start : Start) (know : Know) (step : Step) (found stamp : ℕ) → ReadsIn start know →
    Accepts start know step → ReadsIn start (learn step found stamp know)
reads_learned start know ReadEpoch found stamp r ok = epoch_read start know found r
reads_learned start know (Advance from) found stamp r ok = r
reads_learned start know (LoadStamp s) found stamp r ok = r
reads_learned start know (PeekBirth s) found stamp r ok = r
reads_learned start know (StoreStamp s new) found stamp r ok = own_in r
reads_learned start know (Raise s) found stamp r ok = own_in r
reads_learned start know (TakeFlag s) found stamp r ok = either_in start (has_flag found s) _ know (own_in r) r
reads_learned start know (StoreBirth s birth) found stamp r ok = own_in r
reads_learned start know (StoreKey s key) found stamp r ok = own_in r
reads_learned start know (StoreValue s value) found stamp r ok = own_in r
reads_learned start know (StoreLink s next) found stamp r ok = own_in r
reads_learned start know (LoadLink place) found stamp r ok =
    pending_more start know (LinkAt place (link_of found)) r ok.in_shape
reads_learned start know (LoadBirth s) found stamp r ok = pending_more start know (BirthOf s found) r ok.in_shape
reads_learned start know (LoadKey s) found stamp r ok = pending_more start know (KeyOf s found) r ok.in_shape
reads_learned start know (LoadValue s) found stamp r ok = pending_more start know (ValueOf s found) r ok.in_shape.0
reads_learned start know (Publish pred expected s) found stamp r ok =
    either_in start (found == expected) _ know
    (own_in (checked_more start know (reads_won know (Publish pred expected s)) r
    (entry_won start pred s (value_in_hand (know.own s)) ok.in_shape.0 ok.in_shape.1))) r
reads_learned start know (Mark s expected) found stamp r ok =
    either_in start (found == expected) _ know
    (checked_more start know (reads_won know (Mark s expected)) r (ok.in_shape, tt)) r
reads_learned start know (Replace s expected t) found stamp r ok =
    either_in start (found == expected) _ know
    (own_in (checked_more start know (reads_won know (Replace s expected t)) r
    (entry_won start (Slot s) t (value_in_hand (know.own t)) ok.in_shape.0 ok.in_shape.1))) r
reads_learned start know (Unlink pred expected s) found stamp r ok =
    either_in start (found == expected) _ know
    (own_in (checked_more start know (reads_won know (Unlink pred expected s)) r (ok.in_shape.0, tt))) r
reads_learned start know (ConfirmPresent op s expected) found stamp r ok = r
reads_learned start know (ConfirmAbsent op key place expected) found stamp r ok = r

reads_on : (start : Start) (passes : ℕ) (w : World) (events : List Event) → ((p : ℕ) → ReadsIn start (w.know p)) →
    AreAccepted start passes w events → (p : ℕ) → ReadsIn start ((world_from start w events).know p)
reads_on start passes w [] r ok p = r p
reads_on start passes w (event ∷ events) r ok p =
    reads_on start passes (after start w event.pass event.step) events next ok.1 p
  where
    own : ReadsIn start ((after start w event.pass event.step).know event.pass)
    own =
        let P : Know → Type 0 = ReadsIn start in
        subst P (sym (know_own start w event.pass event.step))
        (reads_learned start (w.know event.pass) event.step (found start w event.step) (stamp_shown w event.step)
        (r event.pass) ok.0.1)

    next : (q : ℕ) → ReadsIn start ((after start w event.pass event.step).know q)
    next q = go (cases_eq q event.pass)
      where
        go : (q ≡ event.pass) ⊎ (q ≢ event.pass) → ReadsIn start ((after start w event.pass event.step).know q)
        go (inl e) =
            let P : ℕ → Type 0 = λ i. ReadsIn start ((after start w event.pass event.step).know i) in
            subst P (sym e) own
        go (inr ne) =
            let P : Know → Type 0 = ReadsIn start in subst P (sym (know_other start w q event.pass event.step ne)) (r q)

-- what is late was born
late_born : {start : Start} {a : Incarnations} → Sound start a → (c e : ℕ) → IsLate (a.state c) e → c < a.count
late_born {start} {a} s c e late = go (cases_lt c a.count)
  where
    go : (c < a.count) ⊎ (a.count ≤ c) → c < a.count
    go (inl h) = h
    go (inr h) = absurd (let P : State → Type 0 = λ st. IsLate st e in subst P (s.slots.unborn c h) late)

module _ (start : Start) (passes : ℕ) (run : List Event) (is : IsStart start) (ok : IsRun start passes run)
    (p : ℕ) where
  read_in : (read : Read) → Knows (know_after start run p) read → IsReadIn start read
  read_in read k =
      let P : Read → Type 0 = IsReadIn start in
      All-contains P (know_after start run p).checked read
      (All-from_recursion P (know_after start run p).checked
      (reads_on start passes (opening start) run (λ p. record { checked = tt; pending = tt }) ok p).checked) k.among

  -- the place of a known link
  pub link_in : (place : At) (link : Link) → Knows (know_after start run p) (LinkAt place link) → IsAtIn start place
  link_in place link k = read_in (LinkAt place link) k

  -- a held slot
  pub held_in : (s : ℕ) → IsHeldSlot (know_after start run p) s → s < start.shape.slots
  held_in s h =
      let g = run_agrees start passes run is ok in
      let c = slot_held (g.knows p) s h in
      rw (← c.1.slot) (g.fits.slot c.0 (late_born g.sound c.0 (know_after start run p).epoch c.1.late))

  -- the epoch that a pass knows is one of the shape, and so is each known birth, and the birth of what is in hand
  epoch_in : (know_after start run p).epoch ≤ start.shape.last_epoch
  epoch_in =
      let g = run_agrees start passes run is ok in
      let low = (g.knows p).epoch in
      let high = g.fits.epoch in
      omega (arith, low, high)

  pub birth_in : (s birth : ℕ) → Knows (know_after start run p) (BirthOf s birth) → birth ≤ start.shape.last_epoch
  birth_in s birth k =
      let g = run_agrees start passes run is ok in
      let c = birth_held (g.knows p) s birth k in
      let low = c.1.birth in let same = c.2 in let high = epoch_in in omega (arith, low, same, high)

  pub hand_in : (s : ℕ) → birth_in_hand ((know_after start run p).own s) ≤ start.shape.last_epoch
  hand_in s = go ((know_after start run p).own s) ((run_agrees start passes run is ok).owns p s)
    where
      go : (holding : Option Holding) →
          OwnFits (incarnations_after start run) p (know_after start run p).epoch holding
          ((incarnations_after start run).place s) ((incarnations_after start run).last s)
          ((incarnations_after start run).stamp s) → birth_in_hand holding ≤ start.shape.last_epoch
      go None fits = omega arith
      go (Some (Free stamp)) fits = omega arith
      go (Some (Unlinked reread)) fits = omega arith
      go (Some (InHand known)) fits =
          let low = fits.1.born in let same = fits.1.birth_is in let high = epoch_in in omega (arith, low, same, high)
