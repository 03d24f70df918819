-- Where a pass unlinks in turn, one slot at most is unstamped with it at any moment.
-- It unlinks in turn where it has stamped, before each unlinking, all that it had unlinked.
use Rattle.std.proofs.Common.{◌≡◌, ◌≢◌, ℕ, zero, suc, ◌<◌, ◌≤◌, ◌==◌, Bool, true, false, List, [], ◌∷◌, ◌++◌, Option}
use Rattle.std.proofs.Common.{Some, None, refl, arith, sym, subst, ap, ◌∙◌, inl, inr, ⊎_elim, append_assoc, append-nil}
use Rattle.std.specs.Prelude.{◌⊎◌, if◌then◌else◌}
use Rattle.std.proofs.lemmas.Bool.{cases_Bool, cases_eq, false≢true, true≢false}
use Rattle.vbr_machine.specs.Start.{Start}
use Rattle.vbr_words.specs.Flags.{has_flag}
use Rattle.vbr_words.specs.declared.link.Link.{Link}
use Rattle.vbr_machine.specs.Put.{put}
use Rattle.vbr_machine.specs.Knowledge.{Know}
use Rattle.vbr_machine.specs.Learning.{learn, reread, with_key, with_value, with_link}
use Rattle.vbr_machine.specs.Machine.{World, after, found, stamp_shown}
use Rattle.vbr_machine.specs.Nodes.{count_below}
use Rattle.vbr_machine.specs.Runs.{Begins, know_after, world_after}
use Rattle.vbr_machine.specs.Whereabouts.{Unstamped, UnlinksInTurn, is_at, is_unstamped, number_at}
use Rattle.vbr_machine.specs.declared.event.Event.{Event}
use Rattle.vbr_machine.specs.declared.event.Step.{Step}
use Rattle.vbr_machine.specs.declared.event.Step.TheVariants.{ReadEpoch, Advance, LoadStamp, PeekBirth, StoreStamp}
use Rattle.vbr_machine.specs.declared.event.Step.TheVariants.{Raise}
use Rattle.vbr_machine.specs.declared.event.Step.TheVariants.{TakeFlag, StoreBirth, StoreKey, StoreLink, LoadLink}
use Rattle.vbr_machine.specs.declared.event.Step.TheVariants.{LoadBirth, LoadKey, Publish, Mark, Replace, Unlink}
use Rattle.vbr_machine.specs.declared.event.Step.TheVariants.{ConfirmPresent, ConfirmAbsent, StoreValue, LoadValue}
use Rattle.vbr_machine.specs.declared.knowledge.Holding.{Holding}
use Rattle.vbr_machine.specs.declared.knowledge.Holding.TheVariants as holding
use Rattle.vbr_machine.proofs.words.Puts.{put_here, put_other}
use Rattle.vbr_machine.proofs.progress.ListedNodes.{count_le}
use Rattle.vbr_machine.proofs.runs.RunsGoOn.{know_other, know_own, world_after-snoc}

-- ---- what a step leaves unstamped

-- a slot is unstamped where the pass knows this of its slots
abbrev Is : (ℕ → Option Holding) → ℕ → Type 0
Is own s = is_unstamped (own s) ≡ true

-- the step unlinks the slot, or tries to
abbrev IsUnlinkOf : Step → ℕ → Type 0
IsUnlinkOf (Unlink pred expected t) s = s ≡ t
IsUnlinkOf _ s = ⊥

reread_is : (known : Option Holding) → is_unstamped (reread known) ≡ true → is_unstamped known ≡ true
reread_is None e = e
reread_is (Some (holding.Free n)) e = e
reread_is (Some (holding.Unlinked seen)) e = refl
reread_is (Some (holding.InHand known)) e = e

-- a store leaves a slot in hand as unstamped as it was
stored_same : (known : Option Holding) → ((key : ℕ) → is_unstamped (with_key known key) ≡ is_unstamped known) ×
    ((value : ℕ) → is_unstamped (with_value known value) ≡ is_unstamped known) ×
    ((link : Link) → is_unstamped (with_link known link) ≡ is_unstamped known)
stored_same (Some (holding.InHand known)) = (λ key. refl, λ value. refl, λ link. refl)
stored_same _ = (λ key. refl, λ value. refl, λ link. refl)

put_is : (own : ℕ → Option Holding) (t : ℕ) (new : Option Holding) (s : ℕ) → (is_unstamped new ≡ true → Is own t) →
    Is (put own t new) s → Is own s
put_is own t new s h u =
    ⊎_elim (λ (e : s ≡ t).
    subst (Is own) (sym e) (h (ap is_unstamped (sym (ap (put own t new) e ∙ put_here own t new)) ∙ u)))
    (λ (ne : s ≢ t). ap is_unstamped (sym (put_other own t new s ne)) ∙ u) (cases_eq s t)

put_same : (own : ℕ → Option Holding) (t : ℕ) (new : Option Holding) (s : ℕ) →
    is_unstamped new ≡ is_unstamped (own t) → Is (put own t new) s → Is own s
put_same own t new s same u = put_is own t new s (λ e. sym same ∙ e) u

put_no : (own : ℕ → Option Holding) (t : ℕ) (new : Option Holding) (s : ℕ) → is_unstamped new ≡ false →
    Is (put own t new) s → Is own s
put_no own t new s n u = put_is own t new s (λ e. absurd (false≢true (sym n ∙ e))) u

by_test : (b : Bool) (x y know : Know) (s : ℕ) → (Is x.own s → Is know.own s) → (Is y.own s → Is know.own s) →
    Is (if b then x else y).own s → Is know.own s
by_test true x y know s f g u = f u
by_test false x y know s f g u = g u

unlinked_is : (b : Bool) (x know : Know) (t s : ℕ) → (Is x.own s → Is know.own s ⊎ (s ≡ t)) →
    Is (if b then x else know).own s → Is know.own s ⊎ (s ≡ t)
unlinked_is true x know t s f u = f u
unlinked_is false x know t s f u = inl u

put_unlinked : (own : ℕ → Option Holding) (t s : ℕ) → Is (put own t (Some (holding.Unlinked false))) s →
    Is own s ⊎ (s ≡ t)
put_unlinked own t s u =
    ⊎_elim (λ (e : s ≡ t). inr e)
    (λ (ne : s ≢ t). inl (ap is_unstamped (sym (put_other own t (Some (holding.Unlinked false)) s ne)) ∙ u))
    (cases_eq s t)

-- what is unstamped after a step was so before, or the step unlinked it
learned_is : (step : Step) (found stamp : ℕ) (know : Know) (s : ℕ) → Is (learn step found stamp know).own s →
    Is know.own s ⊎ IsUnlinkOf step s
learned_is ReadEpoch found stamp know s u =
    inl (by_test (found == know.epoch) _ _ know s (reread_is (know.own s)) (reread_is (know.own s)) u)
learned_is (Advance from) found stamp know s u = inl u
learned_is (LoadStamp t) found stamp know s u = inl u
learned_is (PeekBirth t) found stamp know s u = inl u
learned_is (StoreStamp t new) found stamp know s u = inl (put_no know.own t (Some (holding.Free new)) s refl u)
learned_is (Raise t) found stamp know s u = inl (put_no know.own t None s refl u)
learned_is (TakeFlag t) found stamp know s u =
    inl (by_test (has_flag found t) _ know know s (put_no know.own t (Some (holding.Free stamp)) s refl) (λ x. x) u)
learned_is (StoreBirth t birth) found stamp know s u = inl (put_no know.own t _ s refl u)
learned_is (StoreKey t key) found stamp know s u = inl (put_same know.own t _ s ((stored_same (know.own t)).0 key) u)
learned_is (StoreValue t value) found stamp know s u =
    inl (put_same know.own t _ s ((stored_same (know.own t)).1 value) u)
learned_is (StoreLink t next) found stamp know s u = inl (put_same know.own t _ s ((stored_same (know.own t)).2 _) u)
learned_is (LoadLink place) found stamp know s u = inl u
learned_is (LoadBirth t) found stamp know s u = inl u
learned_is (LoadKey t) found stamp know s u = inl u
learned_is (LoadValue t) found stamp know s u = inl u
learned_is (Publish pred expected t) found stamp know s u =
    inl (by_test (found == expected) _ know know s (put_no know.own t None s refl) (λ x. x) u)
learned_is (Mark t expected) found stamp know s u = inl (by_test (found == expected) _ know know s (λ x. x) (λ x. x) u)
learned_is (Replace v expected t) found stamp know s u =
    inl (by_test (found == expected) _ know know s (put_no know.own t None s refl) (λ x. x) u)
learned_is (Unlink pred expected t) found stamp know s u =
    unlinked_is (found == expected) _ know t s (put_unlinked know.own t s) u
learned_is (ConfirmPresent op t expected) found stamp know s u = inl u
learned_is (ConfirmAbsent op key place expected) found stamp know s u = inl u

-- ---- counts

-- what is counted 0 times below a number passes nowhere below it
none_passes : (test : ℕ → Bool) (n s : ℕ) → count_below test n ≡ 0 → s < n → test s ≡ true → ⊥
none_passes test zero s e low t = omega arith
none_passes test (suc n) s e low t = go (cases_Bool (test n)) e (λ f l. none_passes test n s f l t)
  where
    go : (test n ≡ true) ⊎ (test n ≡ false) → (if test n then suc (count_below test n) else count_below test n) ≡ 0 →
        (count_below test n ≡ 0 → s < n → ⊥) → ⊥
    go (inl y) e on = let x : suc (count_below test n) ≡ 0 = rw y at e in omega arith
    go (inr y) e on = let x : count_below test n ≡ 0 = rw y at e in on x (lower (cases_eq s n))
      where
        lower : (s ≡ n) ⊎ (s ≢ n) → s < n
        lower (inl is) = absurd (true≢false (sym t ∙ ap test is ∙ y))
        lower (inr ne) = omega arith

-- where one number alone may pass, at most one is counted
one_passes : (test : ℕ → Bool) (n t : ℕ) → ((s : ℕ) → s < n → test s ≡ true → s ≡ t) → count_below test n ≤ 1
one_passes test zero t h = omega arith
one_passes test (suc n) t h = go (cases_Bool (test n)) (one_passes test n t (λ s l. h s (omega arith)))
  where
    none_below : test n ≡ true → (m : ℕ) → m ≤ n → count_below test m ≡ 0
    none_below y zero l = refl
    none_below y (suc m) l = by (cases_Bool (test m)) (none_below y m (omega arith))
      where
        by : (test m ≡ true) ⊎ (test m ≡ false) → count_below test m ≡ 0 →
            (if test m then suc (count_below test m) else count_below test m) ≡ 0
        by (inl x) e = let a = h m (omega arith) x in let b = h n (omega arith) y in absurd (omega arith)
        by (inr x) e = rw x e

    go : (test n ≡ true) ⊎ (test n ≡ false) → count_below test n ≤ 1 →
        (if test n then suc (count_below test n) else count_below test n) ≤ 1
    go (inl y) l = rw y (let e = none_below y n (omega arith) in omega arith)
    go (inr y) l = rw y l

-- ---- along a run

module _ (start : Start) (pass : ℕ) where
  abbrev number : List Event → ℕ
  number run = number_at start run (Unstamped pass)

  by_others : (run : List Event) (event : Event) → event.pass ≢ pass →
      know_after start (run ++ event ∷ []) pass ≡ know_after start run pass
  by_others run event ne = ap (λ (v : World). v.know pass) (world_after-snoc start run event)
      ∙ know_other start (world_after start run) pass event.pass event.step (λ e. ne (sym e))

  by_pass : (run : List Event) (event : Event) → event.pass ≡ pass →
      know_after start (run ++ event ∷ []) pass
      ≡ learn event.step (found start (world_after start run) event.step)
      (stamp_shown (world_after start run) event.step) (know_after start run pass)
  by_pass run event e = ap (λ (v : World). v.know pass) (world_after-snoc start run event)
      ∙ subst P (sym e) (know_own start (world_after start run) pass event.step)
    where
      P : ℕ → Type 0
      P q = (after start (world_after start run) q event.step).know pass
          ≡ learn event.step (found start (world_after start run) event.step)
          (stamp_shown (world_after start run) event.step) (know_after start run pass)

  -- what is unstamped after one event more was so before, or the pass unlinked it
  was_or_unlinked : (run : List Event) (event : Event) (s : ℕ) → event.pass ≡ pass →
      is_at start (run ++ event ∷ []) (Unstamped pass) s ≡ true →
      (is_at start run (Unstamped pass) s ≡ true) ⊎ IsUnlinkOf event.step s
  was_or_unlinked run event s e u =
      learned_is event.step _ _ (know_after start run pass) s (subst (λ (k : Know). Is k.own s) (by_pass run event e) u)

  -- one event more, where what it unlinks is alone
  one_more : (run : List Event) (event : Event) →
      ((t : ℕ) → event.pass ≡ pass → IsUnlinkOf event.step t → number run ≡ 0) → number run ≤ 1 →
      number (run ++ event ∷ []) ≤ 1
  one_more run event turn low = go (cases_eq event.pass pass)
    where
      unlinks : (step : Step) → ((t : ℕ) → IsUnlinkOf step t → number run ≡ 0) →
          ((s : ℕ) → is_at start (run ++ event ∷ []) (Unstamped pass) s ≡ true →
          (is_at start run (Unstamped pass) s ≡ true) ⊎ IsUnlinkOf step s) → number (run ++ event ∷ []) ≤ 1
      unlinks (Unlink pred expected t) none was =
          one_passes (is_at start (run ++ event ∷ []) (Unstamped pass)) start.shape.slots t
          (λ s l u. ⊎_elim
          (λ before. absurd (none_passes (is_at start run (Unstamped pass)) start.shape.slots s (none t refl) l before))
          (λ is. is) (was s u))
      unlinks step none was =
          let l = count_le (is_at start (run ++ event ∷ []) (Unstamped pass)) (is_at start run (Unstamped pass))
          start.shape.slots (λ s u. ⊎_elim (λ before. before) (λ x. absurd x) (was s u)) in omega arith

      go : (event.pass ≡ pass) ⊎ (event.pass ≢ pass) → number (run ++ event ∷ []) ≤ 1
      go (inr ne) =
          let e = ap (λ (k : Know). count_below (λ s. is_unstamped (k.own s)) start.shape.slots)
          (by_others run event ne) in omega arith
      go (inl e) = unlinks event.step (λ t. turn t e) (λ s. was_or_unlinked run event s e)

  -- the event that unlinks a slot, as it stands in a run
  turn_of : (run more : List Event) (event : Event) → UnlinksInTurn start (run ++ event ∷ more) pass → (t : ℕ) →
      event.pass ≡ pass → IsUnlinkOf event.step t → number run ≡ 0
  turn_of run more event turn t e is = go event.step refl is
    where
      go : (step : Step) → event.step ≡ step → IsUnlinkOf step t → number run ≡ 0
      go (Unlink pred expected v) same x =
          turn run more pred expected v
          (ap (λ (one : Event). run ++ one ∷ more) (λ i. record { pass = e i; step = same i }))
      go step same x = absurd x

  along : (run more : List Event) → number run ≤ 1 → UnlinksInTurn start (run ++ more) pass → number (run ++ more) ≤ 1
  along run [] low turn = let P : List Event → Type 0 = λ r. number r ≤ 1 in subst P (sym (append-nil run)) low
  along run (event ∷ more) low turn =
      let same : (run ++ event ∷ []) ++ more ≡ run ++ event ∷ more = append_assoc run (event ∷ []) more in
      let P : List Event → Type 0 = λ r. number r ≤ 1 in
      let Q : List Event → Type 0 = λ r. UnlinksInTurn start r pass in
      subst P same
      (along (run ++ event ∷ []) more (one_more run event (turn_of run more event turn) low) (subst Q (sym same) turn))

  none_at_first : (n : ℕ) → count_below (is_at start [] (Unstamped pass)) n ≡ 0
  none_at_first zero = refl
  none_at_first (suc n) = none_at_first n

  in_turn : (run : List Event) → UnlinksInTurn start run pass → number_at start run (Unstamped pass) ≤ 1
  in_turn run turn = along [] run (let e = none_at_first start.shape.slots in omega arith) turn

  -- at each moment of the run
  pub in_turn_before : (moment run : List Event) → Begins moment run → UnlinksInTurn start run pass →
      number_at start moment (Unstamped pass) ≤ 1
  in_turn_before moment run b turn =
      in_turn moment
      (λ before later pred expected s e.
      turn before (later ++ b.0) pred expected s
      (b.1 ∙ ap (λ (r : List Event). r ++ b.0) e
      ∙ append_assoc before (record { pass = pass; step = Unlink pred expected s } ∷ later) b.0))
