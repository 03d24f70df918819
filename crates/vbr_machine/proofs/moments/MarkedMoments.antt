-- A key passed by along known marked links was absent at a moment since its unmarked place was shown.
-- For each node on the way was marked, and still in its list, at some moment since.
use Rattle.std.proofs.Common.{◌≡◌, ℕ, ◌<◌, ◌≤◌, Bool, true, false, cond, List, [], ◌∷◌, ◌++◌, Option, Some, None, refl}
use Rattle.std.proofs.Common.{sym, ap, ◌∙◌, subst, append_assoc, append-nil, inl, inr, arith}
use Rattle.std.specs.Prelude.{◌⊎◌, ◌==◌}
use Rattle.std.proofs.lemmas.Bool.{cases_Bool, cases_lt}
use Rattle.std.proofs.lemmas.Bool.Decides.{nat_tests}
use Rattle.vbr_words.specs.Flags.{has_flag}
use Rattle.vbr_machine.specs.Start.{Start, IsStart}
use Rattle.vbr_words.specs.declared.link.Link.{Link}
use Rattle.vbr_words.specs.declared.place.At.{At}
use Rattle.vbr_words.specs.declared.place.At.TheVariants.{Slot}
use Rattle.vbr_words.specs.Buckets.{bucket_of}
use Rattle.vbr_machine.specs.Opened.{opening_keys}
use Rattle.vbr_machine.specs.History.{set_after}
use Rattle.vbr_machine.specs.Learning.{call_of, link_written}
use Rattle.vbr_machine.specs.Machine.{World, found}
use Rattle.vbr_machine.specs.Notes.{before_at}
use Rattle.vbr_machine.specs.Membership.{Knows, LeadsTo, itself, onward, StandsBehind, StandsBefore}
use Rattle.vbr_machine.specs.Moments.{WasShown, WasAbsent}
use Rattle.vbr_machine.specs.Runs.{Begins, IsRun, world_after, know_after}
use Rattle.vbr_machine.specs.Incarnations.{State, InHand, Linked, Marked, Incarnations, last_in}
use Rattle.vbr_machine.specs.Chronicles.{Happening, Advances, Gains, Probes, Raises, GivesUp, Bears, Keyed, Valued}
use Rattle.vbr_machine.specs.Chronicles.{Aims, Inserts, Removes, Replaces, Unlinks, Stamps, Confirms, Entry, Allowed}
use Rattle.vbr_machine.specs.Chronicles.{Before, AtHead, AtNode, IsOpen, BelongsBehind, BelongsBefore, becomes}
use Rattle.vbr_machine.specs.Chronicles.{incarnations_from, IsLawful, next_of}
use Rattle.vbr_machine.specs.Sound.{IsApart, IsListed, IsRemoved, Sound, Grows}
use Rattle.vbr_machine.specs.Accounts.{after_giving_up, entry_of_call, happens, incarnations_after, just, notes_after}
use Rattle.vbr_machine.specs.Agreement.{Agrees, IsGoodLink, IsHeldAt, IsHeldIncarnation, IsHeldNext, IsPair}
use Rattle.vbr_machine.specs.declared.history.Call.{Call}
use Rattle.vbr_machine.specs.declared.event.Event.{Event}
use Rattle.vbr_machine.specs.declared.event.Step.{Step}
use Rattle.vbr_machine.specs.declared.event.Step.TheVariants.{ReadEpoch, Advance, LoadStamp, PeekBirth, StoreStamp}
use Rattle.vbr_machine.specs.declared.event.Step.TheVariants.{Raise}
use Rattle.vbr_machine.specs.declared.event.Step.TheVariants.{TakeFlag, StoreBirth, StoreKey, StoreLink, LoadLink}
use Rattle.vbr_machine.specs.declared.event.Step.TheVariants.{LoadBirth, LoadKey, Publish, Mark, Replace, Unlink}
use Rattle.vbr_machine.specs.declared.event.Step.TheVariants.{ConfirmPresent, ConfirmAbsent, StoreValue, LoadValue}
use Rattle.vbr_machine.specs.declared.knowledge.Holding.{Holding}
use Rattle.vbr_machine.specs.declared.knowledge.Holding.TheVariants.{Free, Unlinked as UnlinkedOne, InHand as HandHas}
use Rattle.vbr_machine.specs.declared.knowledge.Read.TheVariants.{LinkAt}
use Rattle.vbr_machine.proofs.moments.AtLoads.{before_of, before_then, behind_then, held_open, pair_open, place_held}
use Rattle.vbr_machine.proofs.runs.EveryRun.{begun_grows, incarnations_after-snoc, run_agrees, step_agrees}
use Rattle.vbr_machine.proofs.reads.HeldReads.{stays_held}
use Rattle.vbr_machine.proofs.reads.KnownReads.{good_link, one_held}
use Rattle.vbr_machine.proofs.chronicles.Lists.{lower_rank, next_listed, no_key_between}
use Rattle.vbr_machine.proofs.runs.RunsGoOn.{begins_refl, begins_run, begins_trans, is_run_after, is_run_before}
use Rattle.vbr_machine.proofs.chronicles.Shown.{stands}
use Rattle.vbr_machine.proofs.chronicles.Slots.{late_born, late_inserted, listed_late}
use Rattle.vbr_machine.proofs.chronicles.SoundAfter.{sound_kept}

-- ---- one event

-- a linked incarnation is linked or marked after an event
linked_on : (start : Start) (a : Incarnations) (pass : ℕ) (what : Happening) → Sound start a →
    Allowed start (opening_keys start) a pass what → (c : ℕ) → a.state c ≡ Linked →
    IsListed ((becomes start a pass what).state c)
linked_on start a pass Advances s h c l = rw l tt
linked_on start a pass (Gains v) s h c l = rw l tt
linked_on start a pass (Probes v) s h c l = rw l tt
linked_on start a pass (Raises v) s h c l = rw l tt
linked_on start a pass (Confirms call) s h c l = rw l tt
linked_on start a pass (Aims d link) s h c l = rw l tt
linked_on start a pass (Keyed d key) s h c l = rw l tt
linked_on start a pass (Valued d value) s h c l = rw l tt
linked_on start a pass (GivesUp d) s h c l = grind (arith, nat_tests)
linked_on start a pass (Bears v birth) s h c l =
    let z = s.slots.unborn a.count (omega arith) in grind (arith, nat_tests)
linked_on start a pass (Inserts d behind) s h c l = grind (arith, nat_tests)
linked_on start a pass (Removes d) s h c l = grind (arith, nat_tests)
linked_on start a pass (Replaces old d) s h c l = let x = h.in_hand in let y = h.linked in grind (arith, nat_tests)
linked_on start a pass (Unlinks d behind) s h c l = grind (arith, nat_tests)
linked_on start a pass (Stamps d stamp) s h c l = grind (arith, nat_tests)

-- and linked where another is given up
linked_still : (start : Start) (a : Incarnations) (pass d c : ℕ) → a.state d ≡ InHand pass → a.state c ≡ Linked →
    (becomes start a pass (GivesUp d)).state c ≡ Linked
linked_still start a pass d c h l = grind (arith, nat_tests)

-- so it is after what one step adds
module _ (start : Start) (a : Incarnations) (s : Sound start a) (c : ℕ) (linked : a.state c ≡ Linked) where
  abbrev ListsStill : List Entry → Type 0
  ListsStill entries = IsLawful start (opening_keys start) a entries →
      IsListed ((incarnations_from start a entries).state c)

  nothing : ListsStill []
  nothing l = rw linked tt

  one : (pass : ℕ) (what : Happening) → ListsStill (just pass what)
  one pass what l = linked_on start a pass what s l.0 c linked

  either : (b : Bool) (xs ys : List Entry) → ListsStill xs → ListsStill ys → ListsStill (cond b xs ys)
  either true xs ys g h = g
  either false xs ys g h = h

  given_up : (p v : ℕ) (what : Happening) (own : Option Holding) → ListsStill (after_giving_up a p v what own)
  given_up p v what None = one p what
  given_up p v what (Some (Free stamp)) = one p what
  given_up p v what (Some (UnlinkedOne seen)) = one p what
  given_up p v what (Some (HandHas known)) = λ l. go l
    where
      d : ℕ
      d = last_in a v

      go : ListsStill (just p (GivesUp d) ++ just p what)
      go l = linked_on start (becomes start a p (GivesUp d)) p what
          (sound_kept start (opening_keys start) a p (GivesUp d) s l.0) l.1.0 c (linked_still start a p d c l.0 linked)

  answered : (p : ℕ) (made : Option Call) → ListsStill (entry_of_call p made)
  answered p None = nothing
  answered p (Some call) = one p (Confirms call)

  step_lists : (w : World) (p : ℕ) (step : Step) → ListsStill (happens start w a p step)
  step_lists w p ReadEpoch = nothing
  step_lists w p (Advance from) = either (found start w (Advance from) == from) _ _ (one p Advances) nothing
  step_lists w p (LoadStamp v) = nothing
  step_lists w p (PeekBirth v) = nothing
  step_lists w p (StoreStamp v stamp) = one p (Stamps (last_in a v) stamp)
  step_lists w p (Raise v) = given_up p v (Raises v) ((w.know p).own v)
  step_lists w p (TakeFlag v) =
      either (has_flag (found start w (TakeFlag v)) v) _ _ (one p (Gains v)) (one p (Probes v))
  step_lists w p (StoreBirth v birth) = given_up p v (Bears v birth) ((w.know p).own v)
  step_lists w p (StoreKey v key) = one p (Keyed (last_in a v) key)
  step_lists w p (StoreValue v value) = one p (Valued (last_in a v) value)
  step_lists w p (StoreLink v next) = one p (Aims (last_in a v) (link_written (w.know p) (StoreLink v next)))
  step_lists w p (LoadLink place) = nothing
  step_lists w p (LoadBirth v) = nothing
  step_lists w p (LoadKey v) = nothing
  step_lists w p (LoadValue v) = nothing
  step_lists w p (Publish pred expected v) =
      either (found start w (Publish pred expected v) == expected) _ _
      (one p (Inserts (last_in a v) (before_at a pred))) nothing
  step_lists w p (Mark v expected) =
      either (found start w (Mark v expected) == expected) _ _ (one p (Removes (last_in a v))) nothing
  step_lists w p (Replace v expected t) =
      either (found start w (Replace v expected t) == expected) _ _ (one p (Replaces (last_in a v) (last_in a t)))
      nothing
  step_lists w p (Unlink pred expected v) =
      either (found start w (Unlink pred expected v) == expected) _ _ (one p (Unlinks (last_in a v) (before_at a pred)))
      nothing
  step_lists w p (ConfirmPresent op v expected) =
      either (found start w (ConfirmPresent op v expected) == expected) _ _
      (answered p (call_of start p (w.know p) (ConfirmPresent op v expected))) nothing
  step_lists w p (ConfirmAbsent op key place expected) =
      either (found start w (ConfirmAbsent op key place expected) == expected) _ _
      (answered p (call_of start p (w.know p) (ConfirmAbsent op key place expected))) nothing

-- ---- along a run

-- an incarnation was marked, and in its list, at a moment between two others
record WasMarked (start : Start) (moment run : List Event) (c : ℕ) : Type 0 where
  pub between : List Event
  pub from : Begins moment between
  pub to : Begins between run
  pub marked : (incarnations_after start between).state c ≡ Marked

listed_cases : (st : State) → IsListed st → (st ≡ Linked) ⊎ (st ≡ Marked)
listed_cases Linked l = inl refl
listed_cases Marked l = inr refl
listed_cases _ l = absurd l

listed_removed : (st : State) → IsListed st → IsRemoved st → st ≡ Marked
listed_removed st l r = grind arith

module _ (start : Start) (passes : ℕ) (is : IsStart start) where
  agrees : (run : List Event) → IsRun start passes run →
      Agrees start (world_after start run) (incarnations_after start run) (notes_after start run)
  agrees run ok = run_agrees start passes run is ok

  -- one event later what was linked is listed
  listed_next : (run : List Event) (event : Event) (c : ℕ) → IsRun start passes (run ++ event ∷ []) →
      (incarnations_after start run).state c ≡ Linked →
      IsListed ((incarnations_after start (run ++ event ∷ [])).state c)
  listed_next run event c ok linked =
      let w = world_after start run in
      let a = incarnations_after start run in
      let g = agrees run (is_run_before start passes run (event ∷ []) ok) in
      let lawful =
      (step_agrees start w a (notes_after start run) event.pass event.step g
      (is_run_after start passes run (event ∷ []) ok).0.1).0 in
      let P : Incarnations → Type 0 = λ b. IsListed (b.state c) in
      subst P (sym (incarnations_after-snoc start run event))
      (step_lists start a g.sound c linked w event.pass event.step lawful)

  -- it is marked now, or will be
  or_later : (moment : List Event) (event : Event) (rest : List Event) (c : ℕ) →
      IsRun start passes (moment ++ event ∷ rest) → IsListed ((incarnations_after start moment).state c) →
      (IsListed ((incarnations_after start (moment ++ event ∷ [])).state c) →
      WasMarked start (moment ++ event ∷ []) ((moment ++ event ∷ []) ++ rest) c) →
      WasMarked start moment (moment ++ event ∷ rest) c
  or_later moment event rest c ok listed later = go (listed_cases ((incarnations_after start moment).state c) listed)
    where
      whole : (moment ++ event ∷ []) ++ rest ≡ moment ++ event ∷ rest
      whole = append_assoc moment (event ∷ []) rest

      next_ok : IsRun start passes (moment ++ event ∷ [])
      next_ok = is_run_before start passes (moment ++ event ∷ []) rest
          (let P : List Event → Type 0 = IsRun start passes in subst P (sym whole) ok)

      go : ((incarnations_after start moment).state c ≡ Linked) ⊎ ((incarnations_after start moment).state c ≡ Marked) →
          WasMarked start moment (moment ++ event ∷ rest) c
      go (inr marked) =
          record { between = moment; from = begins_refl moment; to = (event ∷ rest, refl); marked = marked }
      go (inl linked) =
          let x = later (listed_next moment event c next_ok linked) in
          let P : List Event → Type 0 = Begins x.between in
          record {
            between = x.between;
            from = begins_trans moment (moment ++ event ∷ []) x.between (event ∷ [], refl) x.from;
            to = subst P whole x.to;
            marked = x.marked;
          }

  -- what was listed at a moment of a run and is removed at its end was marked in between
  marked_along : (moment rest : List Event) (c : ℕ) → IsRun start passes (moment ++ rest) →
      IsListed ((incarnations_after start moment).state c) →
      IsRemoved ((incarnations_after start (moment ++ rest)).state c) → WasMarked start moment (moment ++ rest) c
  marked_along moment [] c ok listed removed =
      let P : List Event → Type 0 = λ r. IsRemoved ((incarnations_after start r).state c) in
      record {
        between = moment;
        from = begins_refl moment;
        to = ([], refl);
        marked = listed_removed ((incarnations_after start moment).state c) listed
            (subst P (append-nil moment) removed);
      }
  marked_along moment (event ∷ rest) c ok listed removed =
      let whole : (moment ++ event ∷ []) ++ rest ≡ moment ++ event ∷ rest = append_assoc moment (event ∷ []) rest in
      let P : List Event → Type 0 = IsRun start passes in
      let Q : List Event → Type 0 = λ r. IsRemoved ((incarnations_after start r).state c) in
      or_later moment event rest c ok listed
      (λ next. marked_along (moment ++ event ∷ []) rest c (subst P (sym whole) ok) next (subst Q (sym whole) removed))

  was_marked : (moment run : List Event) (c : ℕ) → Begins moment run → IsRun start passes run →
      IsListed ((incarnations_after start moment).state c) → IsRemoved ((incarnations_after start run).state c) →
      WasMarked start moment run c
  was_marked moment run c begins ok listed removed =
      let P : List Event → Type 0 = IsRun start passes in
      let Q : List Event → Type 0 = λ r. IsRemoved ((incarnations_after start r).state c) in
      let R : List Event → Type 0 = λ r. WasMarked start moment r c in
      subst R (sym begins.1) (marked_along moment begins.0 c (subst P begins.1 ok) listed (subst Q begins.1 removed))

-- ---- past known marked links

-- a key isn't in the set where no linked incarnation has it
none_linked : {start : Start} {w : World} {a : Incarnations} {notes : _} → Agrees start w a notes → (key : ℕ) →
    ((d : ℕ) → a.state d ≡ Linked → a.key d ≡ key → ⊥) → set_after (opening_keys start) w.calls key ≡ false
none_linked {start} {w} {a} g key none = rw g.calls (go (cases_Bool (set_after (opening_keys start) a.calls key)))
  where
    go : (set_after (opening_keys start) a.calls key ≡ true) ⊎ (set_after (opening_keys start) a.calls key ≡ false) →
        set_after (opening_keys start) a.calls key ≡ false
    go (inr f) = f
    go (inl t) = let u = g.tells.only key t in absurd (none u.0 u.1 u.2)

-- behind a marked node no linked one has its key, or one below that of its successor
none_behind_marked : {start : Start} {a : Incarnations} → Sound start a → (c key : ℕ) → a.state c ≡ Marked →
    bucket_of start.shape (a.key c) ≡ bucket_of start.shape key → a.key c ≤ key → BelongsBefore a key (a.next c) →
    (d : ℕ) → a.state d ≡ Linked → a.key d ≡ key → ⊥
none_behind_marked {start} {a} s c key marked bucket low before d linked same =
    go (a.next c) before
    (s.lists.apart c d (rw marked tt) (rw linked tt) (bucket ∙ ap (bucket_of start.shape) (sym same)))
  where
    other : c ≡ d → ⊥
    other e = let x : Marked ≡ Linked = sym marked ∙ ap a.state e ∙ linked in absurd (cc)

    -- a linked one of its key stands behind it
    behind_it : a.key d ≡ a.key c → (c ≡ d) ⊎ (a.rank c < a.rank d) → a.rank d < a.rank c → ⊥
    behind_it e (inl is) lt = other is
    behind_it e (inr up) lt = omega (arith, up, lt)

    go : (n : Option ℕ) → BelongsBefore a key n → IsApart a.key a.rank c n d → ⊥
    go n b (inl e) = other (sym e)
    go n b (inr (inl (inl lt))) = omega (arith, lt, low, same)
    go n b (inr (inl (inr (e, lt)))) = behind_it e (lower_rank s d c linked (rw marked tt) e) lt
    go None b (inr (inr u)) = let q = u.1 in cc
    go (Some m) b (inr (inr u)) =
        let q : m ≡ u.0 = (let r = u.1 in cc) in
        let v : a.key m ≡ a.key u.0 = ap a.key q in
        not_above u.0 u.2 (omega (arith, v, b, same))
      where
        not_above : (i : ℕ) → (a.key i < a.key d) ⊎ ((a.key i ≡ a.key d) × (a.rank i ≤ a.rank d)) → a.key d < a.key i →
            ⊥
        not_above i (inl lt) up = omega (arith, lt, up)
        not_above i (inr (e, le)) up = omega (arith, e, up)

module _ (start : Start) (passes : ℕ) (moment run : List Event) (is : IsStart start) (ok : IsRun start passes run)
    (p : ℕ) (place : At) (link : Link) (was : WasShown start moment run p place link) (key : ℕ)
    (behind : StandsBehind start (know_after start run p) place key) where
  now : Agrees start (world_after start run) (incarnations_after start run) (notes_after start run)
  now = run_agrees start passes run is ok

  at_moment : (t : List Event) → Begins t run →
      Agrees start (world_after start t) (incarnations_after start t) (notes_after start t)
  at_moment t to = run_agrees start passes t is (begins_run start passes t run to ok)

  -- known marked links lead to this one: at a moment since, what it names was listed, or is none, and a key below
  -- that was absent at some moment
  record HasCome (last : Link) : Type 0 where
    pub then : List Event
    pub from : Begins moment then
    pub to : Begins then run
    pub node : Option ℕ
    pub held : IsHeldNext (incarnations_after start then) (know_after start run p).epoch last.slot node
    pub listed : (m : ℕ) → node ≡ Some m → IsListed ((incarnations_after start then).state m)
    pub bucket : (m : ℕ) → node ≡ Some m →
        bucket_of start.shape ((incarnations_after start then).key m) ≡ bucket_of start.shape key
    pub clear : BelongsBefore (incarnations_after start then) key node → WasAbsent start moment run key

  shape_of : (t : List Event) → Begins t run → Grows (incarnations_after start t) (incarnations_after start run)
  shape_of t to = begun_grows start passes is t run to ok

  low : (t : List Event) → Begins moment t → Begins t run →
      (know_after start run p).epoch ≤ (incarnations_after start t).epoch
  low t from to =
      let e : (know_after start moment p).epoch ≤ (incarnations_after start moment).epoch =
      ((at_moment moment was.begins).knows p).epoch in
      let f : (know_after start moment p).epoch ≡ (know_after start run p).epoch = was.epoch in
      let g = (begun_grows start passes is moment t from (begins_run start passes t run to ok)).epoch in
      omega (arith, e, f, g)

  -- the place itself, and its link
  first : HasCome link
  first = record {
    then = moment;
    from = begins_refl moment;
    to = was.begins;
    node = opened.0;
    held = opened.2;
    listed = λ m q. (next_fits (before_of place there.0) pair.0 m (pair.1 ∙ q) belongs).0;
    bucket = λ m q. (next_fits (before_of place there.0) pair.0 m (pair.1 ∙ q) belongs).1;
    clear = λ before. record {
      between = moment;
      from = begins_refl moment;
      to = was.begins;
      absent = none_linked then key
          (λ d linked same.
          no_key_between then.sound (before_of place there.0) key pair.0 belongs (rw pair.1 before) d (rw linked tt)
          same);
    };
  }
    where
      then : Agrees start (world_after start moment) (incarnations_after start moment) (notes_after start moment)
      then = at_moment moment was.begins

      there : (of : Option ℕ) × IsHeldAt (incarnations_after start moment) (know_after start run p).epoch place of
      there = rw (← was.epoch) (place_held (then.knows p) place was.held)

      opened : (n : Option ℕ) × IsPair (incarnations_after start moment) place there.0 n ×
          IsHeldNext (incarnations_after start moment) (know_after start run p).epoch link.slot n
      opened = held_open then.sound (know_after start run p).epoch place there.0 link there.1
          (sym (stands (world_after start moment) (incarnations_after start moment) place then.image) ∙ was.shown)
          was.unmarked ((good_link (now.knows p) place link was.known).2.version)

      pair : IsOpen (incarnations_after start moment) (before_of place there.0) ×
          (next_of (incarnations_after start moment) (before_of place there.0) ≡ opened.0)
      pair = pair_open (incarnations_after start moment) place there.0 opened.0 opened.1

      belongs : BelongsBehind start (incarnations_after start moment) (before_of place there.0) key
      belongs = behind_then then.sound (shape_of moment was.begins) now.sound (now.knows p)
          (low moment (begins_refl moment) was.begins) place there.0 key there.1 behind

      next_fits : (before : Before) → IsOpen (incarnations_after start moment) before → (m : ℕ) →
          next_of (incarnations_after start moment) before ≡ Some m →
          BelongsBehind start (incarnations_after start moment) before key →
          IsListed ((incarnations_after start moment).state m) ×
          (bucket_of start.shape ((incarnations_after start moment).key m) ≡ bucket_of start.shape key)
      next_fits (AtHead b) o m q f = let u = then.sound.lists.first_in b m q in (u.0, u.1 ∙ sym f)
      next_fits (AtNode c) o m q f =
          (next_listed then.sound c m q (rw o tt), sym (then.sound.lists.ordered c m q).0 ∙ sym f.0)

  -- a known marked link of a slot where a listed incarnation is held says that it is removed by the end, and what
  -- follows it
  frozen : (t : List Event) → Begins moment t → Begins t run → (s c : ℕ) (next : Link) →
      IsHeldIncarnation (incarnations_after start t) (know_after start run p).epoch s c →
      Knows (know_after start run p) (LinkAt (Slot s) next) → next.mark ≡ true →
      IsRemoved ((incarnations_after start run).state c) ×
      IsHeldNext (incarnations_after start run) (know_after start run p).epoch next.slot
      ((incarnations_after start run).next c)
  frozen t from to s c next h k m = let g = good_link (now.knows p) (Slot s) next k in go g.0 g.1 g.2
    where
      held : IsHeldIncarnation (incarnations_after start run) (know_after start run p).epoch s c
      held = stays_held (at_moment t to).sound (shape_of t to) (know_after start run p).epoch s c (low t from to) h

      go : (of n : Option ℕ) →
          IsGoodLink (incarnations_after start run) (know_after start run p).epoch (Slot s) next of n →
          IsRemoved ((incarnations_after start run).state c) ×
          IsHeldNext (incarnations_after start run) (know_after start run p).epoch next.slot
          ((incarnations_after start run).next c)
      go None n g = absurd g.place
      go (Some d) n g =
          let same : d ≡ c = one_held now.sound (know_after start run p).epoch s d c g.place held in
          let f = g.frozen m in
          (rw same at f.0, rw (ap (incarnations_after start run).next (sym same) ∙ f.1) g.next)

  -- what is listed at a moment is held there, if it is held at the end
  held_then : (t : List Event) → Begins t run → (v n : Option ℕ) →
      ((m : ℕ) → n ≡ Some m → IsListed ((incarnations_after start t).state m)) →
      IsHeldNext (incarnations_after start run) (know_after start run p).epoch v n →
      IsHeldNext (incarnations_after start t) (know_after start run p).epoch v n
  held_then t to None None l h = tt
  held_then t to None (Some m) l h = absurd h
  held_then t to (Some v) None l h = absurd h
  held_then t to (Some v) (Some m) l h =
      let late = listed_late ((incarnations_after start t).state m) (know_after start run p).epoch (l m refl) in
      let born = late_born (at_moment t to).sound.slots m (know_after start run p).epoch late in
      let g = shape_of t to in
      record {
        slot = sym (g.slot m born) ∙ h.slot;
        birth = (let u = h.birth in let e = g.birth m born in omega (arith, u, e));
        late = late;
      }

  -- one known marked link on
  one_on : (last : Link) (s : ℕ) (next : Link) → HasCome last → last.slot ≡ Some s →
      Knows (know_after start run p) (LinkAt (Slot s) next) → next.mark ≡ true → HasCome next
  one_on last s next x q k m = go last.slot x.node q x.held x.listed x.bucket x.clear
    where
      -- past an incarnation that was marked then
      past : (c : ℕ) → IsListed ((incarnations_after start x.then).state c) →
          bucket_of start.shape ((incarnations_after start x.then).key c) ≡ bucket_of start.shape key →
          (BelongsBefore (incarnations_after start x.then) key (Some c) → WasAbsent start moment run key) →
          IsRemoved ((incarnations_after start run).state c) →
          IsHeldNext (incarnations_after start run) (know_after start run p).epoch next.slot
          ((incarnations_after start run).next c) → WasMarked start x.then run c → HasCome next
      past c l b clear removed h w = record {
        then = w.between;
        from = from;
        to = w.to;
        node = a.next c;
        held = held_then w.between w.to next.slot (a.next c) listed (rw (← kept) h);
        listed = listed;
        bucket = λ m q. sym (sound.lists.ordered c m q).0 ∙ bucket;
        clear = λ before. go (cases_lt key (a.key c)) before;
      }
        where
          a : Incarnations
          a = incarnations_after start w.between

          sound : Sound start a
          sound = (at_moment w.between w.to).sound

          from : Begins moment w.between
          from = begins_trans moment x.then w.between x.from w.from

          later : Grows (incarnations_after start x.then) a
          later = begun_grows start passes is x.then w.between w.from (begins_run start passes w.between run w.to ok)

          here : a.key c ≡ (incarnations_after start x.then).key c
          here = later.key c
              (late_inserted ((incarnations_after start x.then).state c) 0
              (listed_late ((incarnations_after start x.then).state c) 0 l))

          bucket : bucket_of start.shape (a.key c) ≡ bucket_of start.shape key
          bucket = ap (bucket_of start.shape) here ∙ b

          kept : (incarnations_after start run).next c ≡ a.next c
          kept = ((shape_of w.between w.to).removed c (rw w.marked tt)).1

          listed : (m : ℕ) → a.next c ≡ Some m → IsListed (a.state m)
          listed m q = next_listed sound c m q (rw w.marked tt)

          go : (key < a.key c) ⊎ (a.key c ≤ key) → BelongsBefore a key (a.next c) → WasAbsent start moment run key
          go (inl below) before = clear (rw here at below)
          go (inr above) before = record {
            between = w.between;
            from = from;
            to = w.to;
            absent = none_linked (at_moment w.between w.to) key
                (none_behind_marked sound c key w.marked bucket above before);
          }

      go : (v n : Option ℕ) → v ≡ Some s →
          IsHeldNext (incarnations_after start x.then) (know_after start run p).epoch v n →
          ((m : ℕ) → n ≡ Some m → IsListed ((incarnations_after start x.then).state m)) →
          ((m : ℕ) → n ≡ Some m →
          bucket_of start.shape ((incarnations_after start x.then).key m) ≡ bucket_of start.shape key) →
          (BelongsBefore (incarnations_after start x.then) key n → WasAbsent start moment run key) → HasCome next
      go None n q h l b clear = absurd (cc)
      go (Some v) None q h l b clear = absurd h
      go (Some v) (Some c) q h l b clear =
          let e : v ≡ s = cc in
          let P : ℕ → Type 0 =
          λ v. IsHeldIncarnation (incarnations_after start x.then) (know_after start run p).epoch v c in
          let held = subst P e h in
          let f = frozen x.then x.from x.to s c next held k m in
          past c (l c refl) (b c refl) clear f.0 f.1 (was_marked start passes is x.then run c x.to ok (l c refl) f.0)

  comes : (last : Link) → LeadsTo (know_after start run p) link last → HasCome last
  comes _ itself = first
  comes _ (onward last s next leads names known marked) = one_on last s next (comes last leads) names known marked

  -- a key that stands before what the last of these links names was absent at a moment
  pub absent_at_moments : (last : Link) → LeadsTo (know_after start run p) link last →
      StandsBefore (know_after start run p) key last.slot → WasAbsent start moment run key
  absent_at_moments last leads before =
      let x = comes last leads in
      x.clear (before_then (at_moment x.then x.to).sound (shape_of x.then x.to) now.sound (now.knows p)
      (low x.then x.from x.to) last.slot x.node key x.held before)
