-- A slot in hand is no other pass's, shows no entry's birth, and stays in hand between two moments.
use Rattle.std.proofs.Common.{◌≡◌, ◌≢◌, ℕ, ◌<◌, ◌≤◌, Bool, true, false, List, [], ◌∷◌, ◌++◌, Option, Some, None}
use Rattle.std.proofs.Common.{refl, arith, cond, sym, subst, ap, ◌∙◌, inl, inr, ⊎_elim}
use Rattle.std.specs.Prelude.{◌⊎◌, ◌==◌}
use Rattle.std.proofs.lemmas.Bool.{cases_eq}
use Rattle.vbr_words.specs.Flags.{has_flag}
use Rattle.vbr_words.specs.declared.link.Link.{Link}
use Rattle.vbr_machine.specs.Start.{Start, IsStart}
use Rattle.vbr_machine.specs.Put.{put}
use Rattle.vbr_machine.specs.Knowledge.{Know}
use Rattle.vbr_machine.specs.Acceptance.{Accepts, IsInHand, MayBear, stamp_in}
use Rattle.vbr_machine.specs.Learning.{learn, link_written, newborn, reread, with_key, with_link}
use Rattle.vbr_machine.specs.Learning.{with_value}
use Rattle.vbr_machine.specs.Machine.{World, after, found, stamp_shown}
use Rattle.vbr_machine.specs.Records.{IsInHandAlone, IsLastInserted, IsTry, NoneTries}
use Rattle.vbr_machine.specs.Runs.{AreAccepted, Begins, IsRun, know_after, world_after, world_from}
use Rattle.vbr_machine.specs.Incarnations.{State, Incarnations}
use Rattle.vbr_machine.specs.Sound.{StampFits}
use Rattle.vbr_machine.specs.Images.{birth_shown}
use Rattle.vbr_machine.specs.Notes.{Notes, notes_with}
use Rattle.vbr_machine.specs.Accounts.{incarnations_after, incarnations_with, notes_after}
use Rattle.vbr_machine.specs.Agreement.{Agrees, OwnFits}
use Rattle.vbr_machine.specs.declared.event.Event.{Event}
use Rattle.vbr_machine.specs.declared.event.Step.{Step}
use Rattle.vbr_machine.specs.declared.event.Step.TheVariants.{ReadEpoch, StoreStamp, Raise}
use Rattle.vbr_machine.specs.declared.event.Step.TheVariants.{TakeFlag, StoreBirth, StoreKey, StoreLink}
use Rattle.vbr_machine.specs.declared.event.Step.TheVariants.{Publish, Mark, Replace, Unlink}
use Rattle.vbr_machine.specs.declared.event.Step.TheVariants.{StoreValue}
use Rattle.vbr_machine.specs.declared.knowledge.Holding.{Holding}
use Rattle.vbr_machine.specs.declared.knowledge.Holding.TheVariants.{Free, Unlinked, InHand}
use Rattle.vbr_machine.specs.declared.knowledge.Unpublished.{Unpublished}
use Rattle.vbr_machine.proofs.words.Puts.{put_here, put_other}
use Rattle.vbr_machine.proofs.steps.Steps.{hand_not_of}
use Rattle.vbr_machine.proofs.reads.OwnSlots.{not_owned}
use Rattle.vbr_machine.proofs.records.Entries.{same_birth_same_entry}
use Rattle.vbr_machine.proofs.runs.EveryRun.{run_agrees, step_agrees}
use Rattle.vbr_machine.proofs.runs.RunsGoOn.{begins_refl, is_run_after, is_run_before, know_other, know_own}
use Rattle.vbr_machine.proofs.runs.RunsGoOn.{world_after-append}

-- ---- in hand of one pass alone

pub in_hand_alone : (start : Start) (passes : ℕ) (run : List Event) (pass s : ℕ) (known : Unpublished) → IsStart start →
    IsRun start passes run → (know_after start run pass).own s ≡ Some (InHand known) →
    IsInHandAlone start run pass s known.birth
in_hand_alone start passes run pass s known is ok own =
    let a = incarnations_after start run in
    let g = run_agrees start passes run is ok in
    let P : Option Holding → Type 0 =
    λ h. OwnFits a pass (know_after start run pass).epoch h (a.place s) (a.last s) (a.stamp s) in
    let fits = subst P own (g.owns pass s) in
    let x = fits.1 in
    record {
      place = g.image.place s ∙ fits.0;
      others = λ other ne.
          not_owned a other (know_after start run other).epoch ((know_after start run other).own s) (a.place s)
          (a.last s) (a.stamp s) (g.owns other s) (hand_not_of pass (a.place s) fits.0 other ne);
      shown = g.image.birth s ∙ ap (birth_shown a) x.last_is ∙ x.birth_is;
      node = x.node;
      last = x.last_is;
      state = x.state;
      birth_is = x.birth_is;
    }

-- no entry that there was in the slot has the birth that it shows
pub in_hand_new : (start : Start) (passes : ℕ) (moment run : List Event) (pass s node : ℕ) (known : Unpublished) →
    IsStart start → IsRun start passes run → Begins moment run →
    (know_after start run pass).own s ≡ Some (InHand known) → IsLastInserted start moment s node →
    (incarnations_after start moment).birth node ≢ known.birth
in_hand_new start passes moment run pass s node known is ok begins own there same =
    let alone = in_hand_alone start passes run pass s known is ok own in
    let none = (same_birth_same_entry start passes moment run run s node is ok begins (begins_refl run) there
    (alone.shown ∙ sym same)).1 in
    let P : Option Holding → Type 0 = IsInHand in
    none pass (subst P (sym own) tt)

-- ---- what a pass knows of a slot, from step to step

-- it is in hand, and was stamped before this birth
abbrev pub IsHeldWith : ℕ → Option Holding → Type 0
IsHeldWith birth (Some (InHand known)) = known.stamp < birth
IsHeldWith birth _ = ⊥

-- it went out of that hand: if the pass has it again, it was stamped since the birth
abbrev pub IsGone : ℕ → Option Holding → Type 0
IsGone birth None = Unit {0}
IsGone birth (Some (Free new)) = birth ≤ new
IsGone birth (Some (Unlinked seen)) = Unit {0}
IsGone birth (Some (InHand known)) = birth ≤ known.stamp

-- one of the two
abbrev pub IsHeldOrGone : ℕ → Option Holding → Type 0
IsHeldOrGone birth holding = IsHeldWith birth holding ⊎ IsGone birth holding

-- what is so of a slot stays so, whatever its pass does but for taking it out of the shared pool
pub record Lasts (first : ℕ) (Q : Option Holding → Type 0) : Type 0 where
  pub none : Q None
  pub unlinked : (seen : Bool) → Q (Some (Unlinked seen))
  pub free : (new : ℕ) → first ≤ new → Q (Some (Free new))
  pub read : (h : Option Holding) → Q h → Q (reread h)
  pub born : (h : Option Holding) (birth : ℕ) → MayBear h → Q h → Q (Some (InHand (newborn (stamp_in h) birth)))
  pub keyed : (h : Option Holding) (key : ℕ) → Q h → Q (with_key h key)
  pub valued : (h : Option Holding) (value : ℕ) → Q h → Q (with_value h value)
  pub aimed : (h : Option Holding) (link : Link) → Q h → Q (with_link h link)

module _ (first : ℕ) where
  gone_read : (h : Option Holding) → IsGone first h → IsGone first (reread h)
  gone_read None x = x
  gone_read (Some (Free new)) x = x
  gone_read (Some (Unlinked seen)) x = x
  gone_read (Some (InHand known)) x = x

  gone_born : (h : Option Holding) (birth : ℕ) → MayBear h → IsGone first h →
      IsGone first (Some (InHand (newborn (stamp_in h) birth)))
  gone_born None birth m x = absurd m
  gone_born (Some (Free new)) birth m x = x
  gone_born (Some (Unlinked seen)) birth m x = absurd m
  gone_born (Some (InHand known)) birth m x = x

  gone_keyed : (h : Option Holding) (key : ℕ) → IsGone first h → IsGone first (with_key h key)
  gone_keyed None key x = x
  gone_keyed (Some (Free new)) key x = x
  gone_keyed (Some (Unlinked seen)) key x = x
  gone_keyed (Some (InHand known)) key x = x

  gone_valued : (h : Option Holding) (value : ℕ) → IsGone first h → IsGone first (with_value h value)
  gone_valued None value x = x
  gone_valued (Some (Free new)) value x = x
  gone_valued (Some (Unlinked seen)) value x = x
  gone_valued (Some (InHand known)) value x = x

  gone_aimed : (h : Option Holding) (link : Link) → IsGone first h → IsGone first (with_link h link)
  gone_aimed None link x = x
  gone_aimed (Some (Free new)) link x = x
  gone_aimed (Some (Unlinked seen)) link x = x
  gone_aimed (Some (InHand known)) link x = x

  gone_lasts : Lasts first (IsGone first)
  gone_lasts =
      record {
        none = tt;
        unlinked = λ seen. tt;
        free = λ new lt. lt;
        read = gone_read;
        born = gone_born;
        keyed = gone_keyed;
        valued = gone_valued;
        aimed = gone_aimed;
      }

  held_read : (h : Option Holding) → IsHeldOrGone first h → IsHeldOrGone first (reread h)
  held_read h (inr x) = inr (gone_read h x)
  held_read None (inl x) = absurd x
  held_read (Some (Free new)) (inl x) = absurd x
  held_read (Some (Unlinked seen)) (inl x) = absurd x
  held_read (Some (InHand known)) (inl x) = inl x

  held_born : (h : Option Holding) (birth : ℕ) → MayBear h → IsHeldOrGone first h →
      IsHeldOrGone first (Some (InHand (newborn (stamp_in h) birth)))
  held_born h birth m (inr x) = inr (gone_born h birth m x)
  held_born None birth m (inl x) = absurd x
  held_born (Some (Free new)) birth m (inl x) = absurd x
  held_born (Some (Unlinked seen)) birth m (inl x) = absurd x
  held_born (Some (InHand known)) birth m (inl x) = inl x

  held_keyed : (h : Option Holding) (key : ℕ) → IsHeldOrGone first h → IsHeldOrGone first (with_key h key)
  held_keyed h key (inr x) = inr (gone_keyed h key x)
  held_keyed None key (inl x) = absurd x
  held_keyed (Some (Free new)) key (inl x) = absurd x
  held_keyed (Some (Unlinked seen)) key (inl x) = absurd x
  held_keyed (Some (InHand known)) key (inl x) = inl x

  held_valued : (h : Option Holding) (value : ℕ) → IsHeldOrGone first h → IsHeldOrGone first (with_value h value)
  held_valued h value (inr x) = inr (gone_valued h value x)
  held_valued None value (inl x) = absurd x
  held_valued (Some (Free new)) value (inl x) = absurd x
  held_valued (Some (Unlinked seen)) value (inl x) = absurd x
  held_valued (Some (InHand known)) value (inl x) = inl x

  held_aimed : (h : Option Holding) (link : Link) → IsHeldOrGone first h → IsHeldOrGone first (with_link h link)
  held_aimed h link (inr x) = inr (gone_aimed h link x)
  held_aimed None link (inl x) = absurd x
  held_aimed (Some (Free new)) link (inl x) = absurd x
  held_aimed (Some (Unlinked seen)) link (inl x) = absurd x
  held_aimed (Some (InHand known)) link (inl x) = inl x

  held_lasts : Lasts first (IsHeldOrGone first)
  held_lasts =
      record {
        none = inr tt;
        unlinked = λ seen. inr tt;
        free = λ new lt. inr lt;
        read = held_read;
        born = held_born;
        keyed = held_keyed;
        valued = held_valued;
        aimed = held_aimed;
      }

-- ---- one step

-- what is so in both cases of a test is so
by_test : (P : Know → Type 0) (b : Bool) (x y : Know) → P x → P y → P (cond b x y)
by_test P true x y p q = p
by_test P false x y p q = q

module _ (first : ℕ) (Q : Option Holding → Type 0) (lasts : Lasts first Q) (s : ℕ) where
  -- of a slot, in what a pass knows
  abbrev So : Know → Type 0
  So know = Q (know.own s)

  put_on : (own : ℕ → Option Holding) (t : ℕ) (new : Option Holding) → (s ≡ t → Q (own s) → Q new) → Q (own s) →
      Q (put own t new s)
  put_on own t new f h =
      ⊎_elim (λ (e : s ≡ t). subst Q (sym (ap (put own t new) e ∙ put_here own t new)) (f e h))
      (λ (ne : s ≢ t). subst Q (sym (put_other own t new s ne)) h) (cases_eq s t)

  at_slot : (own : ℕ → Option Holding) (t : ℕ) (f : Option Holding → Option Holding) → (Q (own s) → Q (f (own s))) →
      Q (own s) → Q (put own t (f (own t)) s)
  at_slot own t f g h =
      put_on own t (f (own t)) (λ e x. (let P : ℕ → Type 0 = λ i. Q (f (own i)) in subst P e (g x))) h

  learned : (start : Start) (know : Know) (step : Step) (n r : ℕ) → Accepts start know step → ¬ (IsTry step) →
      first ≤ know.epoch → So know → So (learn step n r know)
  learned start know ReadEpoch n r ok others lt h =
      by_test So (n == know.epoch) _ _ (lasts.read (know.own s) h) (lasts.read (know.own s) h)
  learned start know (StoreStamp t new) n r ok others lt h =
      put_on know.own t (Some (Free new)) (λ e x. lasts.free new (let z = ok.in_range.1 in omega (arith, z, lt))) h
  learned start know (Raise t) n r ok others lt h = put_on know.own t None (λ e x. lasts.none) h
  learned start know (TakeFlag t) n r ok others lt h = absurd (others tt)
  learned start know (StoreBirth t birth) n r ok others lt h =
      put_on know.own t (Some (InHand (newborn (stamp_in (know.own t)) birth)))
      (λ e x.
      (let P : ℕ → Type 0 = λ i. Q (Some (InHand (newborn (stamp_in (know.own i)) birth))) in
      let M : ℕ → Type 0 = λ i. MayBear (know.own i) in
      subst P e (lasts.born (know.own s) birth (subst M (sym e) ok.owned) x))) h
  learned start know (StoreKey t key) n r ok others lt h =
      at_slot know.own t (λ x. with_key x key) (lasts.keyed (know.own s) key) h
  learned start know (StoreValue t value) n r ok others lt h =
      at_slot know.own t (λ x. with_value x value) (lasts.valued (know.own s) value) h
  learned start know (StoreLink t next) n r ok others lt h =
      at_slot know.own t (λ x. with_link x (link_written know (StoreLink t next)))
      (lasts.aimed (know.own s) (link_written know (StoreLink t next))) h
  learned start know (Publish pred expected t) n r ok others lt h =
      by_test So (n == expected) _ know (put_on know.own t None (λ e x. lasts.none) h) h
  learned start know (Mark t expected) n r ok others lt h = by_test So (n == expected) _ know h h
  learned start know (Replace v expected t) n r ok others lt h =
      by_test So (n == expected) _ know (put_on know.own t None (λ e x. lasts.none) h) h
  learned start know (Unlink pred expected t) n r ok others lt h =
      by_test So (n == expected) _ know (put_on know.own t (Some (Unlinked false)) (λ e x. lasts.unlinked false) h) h
  learned start know _ n r ok others lt h = h

  -- the epoch that a pass knows doesn't fall
  later : (start : Start) (w : World) (p : ℕ) (step : Step) (n r : ℕ) → (w.know p).epoch ≤ w.epoch →
      n ≡ found start w step → (w.know p).epoch ≤ (learn step n r (w.know p)).epoch
  later start w p ReadEpoch n r le e =
      by_test (λ k. (w.know p).epoch ≤ k.epoch) (n == (w.know p).epoch) _ _ (omega arith) (omega (arith, le, e))
  later start w p (TakeFlag t) n r le e =
      by_test (λ k. (w.know p).epoch ≤ k.epoch) (has_flag n t) _ _ (omega arith) (omega arith)
  later start w p (Publish pred expected t) n r le e =
      by_test (λ k. (w.know p).epoch ≤ k.epoch) (n == expected) _ _ (omega arith) (omega arith)
  later start w p (Mark t expected) n r le e =
      by_test (λ k. (w.know p).epoch ≤ k.epoch) (n == expected) _ _ (omega arith) (omega arith)
  later start w p (Replace v expected t) n r le e =
      by_test (λ k. (w.know p).epoch ≤ k.epoch) (n == expected) _ _ (omega arith) (omega arith)
  later start w p (Unlink pred expected t) n r le e =
      by_test (λ k. (w.know p).epoch ≤ k.epoch) (n == expected) _ _ (omega arith) (omega arith)
  later start w p _ n r le e = omega arith

  -- ---- along events

  -- what is so of a pass
  abbrev Stands : Know → Type 0
  Stands know = (first ≤ know.epoch) × Q (know.own s)

  lasts_from : (start : Start) (passes p : ℕ) (w : World) (a : Incarnations) (notes : ℕ → Notes)
      (events : List Event) → Agrees start w a notes → Stands (w.know p) → NoneTries p events →
      AreAccepted start passes w events → Stands ((world_from start w events).know p)
  lasts_from start passes p w a notes [] g h none ok = h
  lasts_from start passes p w a notes (event ∷ events) g h none ok =
      lasts_from start passes p (after start w event.pass event.step) (incarnations_with start w a event)
      (put notes event.pass
      (notes_with start w (incarnations_with start w a event) event.pass event.step (notes event.pass)))
      events (step_agrees start w a notes event.pass event.step g ok.0.1).1 (next (cases_eq event.pass p)) none.1 ok.1
    where
      next : (event.pass ≡ p) ⊎ (event.pass ≢ p) → Stands ((after start w event.pass event.step).know p)
      next (inr ne) = subst Stands (sym (know_other start w p event.pass event.step (λ e. ne (sym e)))) h
      next (inl e) =
          let n = found start w event.step in
          let r = stamp_shown w event.step in
          let know = w.know event.pass in
          let P : ℕ → Type 0 = λ i. Stands ((after start w event.pass event.step).know i) in
          let S : ℕ → Type 0 = λ i. Stands (w.know i) in
          let here : Stands know = subst S (sym e) h in
          let low : know.epoch ≤ w.epoch = rw g.image.epoch (g.knows event.pass).epoch in
          let up = later start w event.pass event.step n r low refl in
          let on : Stands (learn event.step n r know) = (
            (let lt = here.0 in omega (arith, lt, up)),
            learned start know event.step n r ok.0.1 (none.0 e) here.0 here.1,
          ) in
          subst P e (subst Stands (sym (know_own start w event.pass event.step)) on)

-- ---- between two moments

none_before : (pass : ℕ) (xs ys : List Event) → NoneTries pass (xs ++ ys) → NoneTries pass xs
none_before pass [] ys none = tt
none_before pass (x ∷ xs) ys none = (none.0, none_before pass xs ys none.1)

none_after : (pass : ℕ) (xs ys : List Event) → NoneTries pass (xs ++ ys) → NoneTries pass ys
none_after pass [] ys none = none
none_after pass (x ∷ xs) ys none = none_after pass xs ys none.1

-- held and gone aren't both
not_both : (first : ℕ) (h : Option Holding) → IsHeldWith first h → IsGone first h → ⊥
not_both first None x y = x
not_both first (Some (Free new)) x y = x
not_both first (Some (Unlinked seen)) x y = x
not_both first (Some (InHand known)) x y = omega (arith, x, y)

-- what is held is in hand
held_in_hand : (first : ℕ) (h : Option Holding) → IsHeldWith first h → IsInHand h
held_in_hand first None x = x
held_in_hand first (Some (Free new)) x = absurd x
held_in_hand first (Some (Unlinked seen)) x = absurd x
held_in_hand first (Some (InHand known)) x = tt

-- what a pass has in hand was born above its stamp, by the epoch that it knows
pub born_between : (start : Start) (passes : ℕ) (run : List Event) (pass s : ℕ) (known : Unpublished) → IsStart start →
    IsRun start passes run → (know_after start run pass).own s ≡ Some (InHand known) →
    (known.stamp < known.birth) × (known.birth ≤ (know_after start run pass).epoch)
born_between start passes run pass s known is ok own =
    let a = incarnations_after start run in
    let g = run_agrees start passes run is ok in
    let P : Option Holding → Type 0 =
    λ h. OwnFits a pass (know_after start run pass).epoch h (a.place s) (a.last s) (a.stamp s) in
    let fits = subst P own (g.owns pass s) in
    let x = fits.1 in
    let S : State → Type 0 = λ st. StampFits st (a.birth x.node) (a.stamp (a.slot x.node)) in
    let T : ℕ → Type 0 = λ t. a.stamp t < a.birth x.node in
    let below = subst T (g.sound.slots.last_born s x.node x.last_is).1
    (subst S x.state (g.sound.slots.stamps x.node)) in
    let e = fits.2 in
    let born = x.born in
    let is_birth = x.birth_is in
    (omega (arith, below, e, is_birth), omega (arith, born, is_birth))

-- a slot that a pass has in hand at two moments, with one birth, it has in hand at each moment between, if it takes no
-- slot out of the shared pool meanwhile
pub in_hand_throughout : (start : Start) (passes : ℕ) (first more rest : List Event) (pass s : ℕ)
    (known later : Unpublished) → IsStart start → IsRun start passes ((first ++ more) ++ rest) →
    (know_after start first pass).own s ≡ Some (InHand known) →
    (know_after start ((first ++ more) ++ rest) pass).own s ≡ Some (InHand later) → later.birth ≡ known.birth →
    NoneTries pass (more ++ rest) → IsInHand ((know_after start (first ++ more) pass).own s)
in_hand_throughout start passes first more rest pass s known later is ok own end same none =
    go (between.1)
  where
    ok_mid : IsRun start passes (first ++ more)
    ok_mid = is_run_before start passes (first ++ more) rest ok

    ok_first : IsRun start passes first
    ok_first = is_run_before start passes first more ok_mid

    g : Agrees start (world_after start first) (incarnations_after start first) (notes_after start first)
    g = run_agrees start passes first is ok_first

    gm : Agrees start (world_after start (first ++ more)) (incarnations_after start (first ++ more))
        (notes_after start (first ++ more))
    gm = run_agrees start passes (first ++ more) is ok_mid

    begun : (known.stamp < known.birth) × (known.birth ≤ (know_after start first pass).epoch)
    begun = born_between start passes first pass s known is ok_first own

    held : IsHeldOrGone known.birth ((know_after start first pass).own s)
    held = inl (let P : Option Holding → Type 0 = IsHeldWith known.birth in subst P (sym own) begun.0)

    between : (known.birth ≤ (know_after start (first ++ more) pass).epoch) ×
        IsHeldOrGone known.birth ((know_after start (first ++ more) pass).own s)
    between =
        let W : World → Type 0 =
        λ w. (known.birth ≤ (w.know pass).epoch) × IsHeldOrGone known.birth ((w.know pass).own s) in
        subst W (sym (world_after-append start first more))
        (lasts_from known.birth (IsHeldOrGone known.birth) (held_lasts known.birth) s start passes pass
        (world_after start first) (incarnations_after start first) (notes_after start first) more g (begun.1, held)
        (none_before pass more rest none) (is_run_after start passes first more ok_mid))

    go : IsHeldOrGone known.birth ((know_after start (first ++ more) pass).own s) →
        IsInHand ((know_after start (first ++ more) pass).own s)
    go (inl x) = held_in_hand known.birth ((know_after start (first ++ more) pass).own s) x
    go (inr x) =
        let W : World → Type 0 = λ w. (known.birth ≤ (w.know pass).epoch) × IsGone known.birth ((w.know pass).own s) in
        let out = subst W (sym (world_after-append start (first ++ more) rest))
        (lasts_from known.birth (IsGone known.birth) (gone_lasts known.birth) s start passes pass
        (world_after start (first ++ more)) (incarnations_after start (first ++ more))
        (notes_after start (first ++ more)) rest gm (between.0, x) (none_after pass more rest none)
        (is_run_after start passes (first ++ more) rest ok)) in
        let P : Option Holding → Type 0 = IsHeldWith known.birth in
        let below = (born_between start passes ((first ++ more) ++ rest) pass s later is ok end).0 in
        absurd (not_both known.birth ((know_after start ((first ++ more) ++ rest) pass).own s)
        (subst P (sym end) (omega (arith, below, same))) out.1)
