-- A pass that needs each flag wins one, and one more for each insert of it that is answered yes.
use Rattle.std.proofs.Common.{◌≡◌, ◌≢◌, ℕ, zero, suc, ◌+◌, ◌-◌, ◌<◌, ◌≤◌, ◌==◌, ◌&&◌, not, Bool, true, false, List, []}
use Rattle.std.proofs.Common.{◌∷◌, ◌++◌, Option, Some, None, refl, sym, ap, ◌∙◌, subst, eq-eqb, inl, inr, arith}
use Rattle.std.specs.Prelude.{nat_lt, if◌then◌else◌}
use Rattle.std.specs.Option.{option_to_list}
use Rattle.std.proofs.lemmas.Bool.{cases_eq, eqb-true, lt-ltb, ltb-false, ne_eqb}
use Rattle.std.proofs.Math.Bool.{and-false}
use Rattle.vbr_words.specs.Flags.{has_flag}
use Rattle.vbr_words.specs.Words.{link_of, word_of}
use Rattle.vbr_words.specs.declared.link.Link.{Link}
use Rattle.vbr_words.specs.declared.place.At.{At}
use Rattle.vbr_words.specs.declared.place.At.TheVariants.{Head, Slot}
use Rattle.vbr_machine.specs.Start.{Start, IsStart}
use Rattle.vbr_machine.specs.Acceptance.{Accepts, MayBear, stamp_in}
use Rattle.vbr_machine.specs.Accounts.{after_giving_up, chronicle_from, entry_of_call, happens, incarnations_after}
use Rattle.vbr_machine.specs.Accounts.{incarnations_with, just, notes_after}
use Rattle.vbr_machine.specs.Agreement.{Agrees}
use Rattle.vbr_machine.specs.Chronicles.{Advances, Aims, Bears, Confirms, Entry, Gains, Happening, Inserts as Linking}
use Rattle.vbr_machine.specs.Chronicles.{Keyed, Probes, Raises, Removes, Replaces, Stamps, Unlinks, Valued}
use Rattle.vbr_machine.specs.Disturbances.{one_if}
use Rattle.vbr_machine.specs.Gains.{gains, gains_in, is_gain}
use Rattle.vbr_machine.specs.Incarnations.{Incarnations, at_opening, last_in}
use Rattle.vbr_machine.specs.Knowledge.{Know}
use Rattle.vbr_machine.specs.Learning.{call_of, learn, link_written, newborn, read_epoch, reread, with_key}
use Rattle.vbr_machine.specs.Learning.{with_link, with_own, with_pending, with_value}
use Rattle.vbr_machine.specs.Machine.{World, after, found, link_at, opening, stamp_shown}
use Rattle.vbr_machine.specs.Nodes.{count_below}
use Rattle.vbr_machine.specs.Notes.{Notes, before_at, notes_with}
use Rattle.vbr_machine.specs.Put.{put}
use Rattle.vbr_machine.specs.Runs.{AreAccepted, IsRun, world_after, world_from}
use Rattle.vbr_machine.specs.Whereabouts.{may_bear, sum_of}
use Rattle.vbr_machine.specs.declared.event.Event.{Event}
use Rattle.vbr_machine.specs.declared.event.Step.{Step}
use Rattle.vbr_machine.specs.declared.event.Step.TheVariants.{ReadEpoch, Advance, LoadStamp, PeekBirth, StoreStamp}
use Rattle.vbr_machine.specs.declared.event.Step.TheVariants.{Raise}
use Rattle.vbr_machine.specs.declared.event.Step.TheVariants.{TakeFlag, StoreBirth, StoreKey, StoreLink, LoadLink}
use Rattle.vbr_machine.specs.declared.event.Step.TheVariants.{LoadBirth, LoadKey, Publish, Mark, Replace, Unlink}
use Rattle.vbr_machine.specs.declared.event.Step.TheVariants.{ConfirmPresent, ConfirmAbsent, StoreValue, LoadValue}
use Rattle.vbr_machine.specs.declared.history.Call.{Call}
use Rattle.vbr_machine.specs.declared.history.Op.TheVariants.{Insert}
use Rattle.vbr_machine.specs.declared.knowledge.Read.{Read}
use Rattle.vbr_machine.specs.declared.knowledge.Read.TheVariants.{BirthOf, KeyOf, LinkAt, ValueOf}
use Rattle.vbr_machine.specs.declared.knowledge.Holding.{Holding}
use Rattle.vbr_machine.specs.declared.knowledge.Holding.TheVariants.{Free, Unlinked, InHand}
use Rattle.vbr_machine.proofs.Lemmas.{calls_after, flag_shared, is_run_after, is_run_before, know_other, know_own}
use Rattle.vbr_machine.proofs.Lemmas.{calls_added, put_here, put_other}
use Rattle.vbr_machine.proofs.Lemmas.{run_agrees, step_agrees, taken_unowned, unlinked_unowned, world_after-append}
use Rattle.vbr_at_table.specs.costs.FlagsInNeed.{count_along, goes_beyond, slots_with, wins_flag}
use Rattle.vbr_at_table.proofs.Lemmas.{along-append, own_read}
use Rattle.vbr_set.specs.progress.Winning.{inserts_of_others}

-- ---- gains, event by event

-- a step of another pass that passes a test
abbrev pub by_other : (World → ℕ → Step → Bool) → ℕ → World → Event → Bool
by_other test who w e = not (e.pass == who) && test w e.pass e.step

module _ (start : Start) (who : ℕ) where
  abbrev Silent : List Entry → Type 0
  Silent entries = gains_in who entries ≡ 0

  silent_one : (p : ℕ) (what : Happening) → is_gain what ≡ false → Silent (just p what)
  silent_one p what none =
      let away : one_if (not (p == who) && is_gain what) ≡ 0 =
      ap (λ (b : Bool). one_if (not (p == who) && b)) none ∙ ap one_if (and-false (not (p == who))) in
      omega (arith, away)

  silent_either : (b : Bool) (xs ys : List Entry) → Silent xs → Silent ys → Silent (if b then xs else ys)
  silent_either true xs ys x y = x
  silent_either false xs ys x y = y

  silent_given_up : (a : Incarnations) (p s : ℕ) (what : Happening) (own : Option Holding) → is_gain what ≡ false →
      Silent (after_giving_up a p s what own)
  silent_given_up a p s what (Some (InHand known)) none =
      let first : one_if (not (p == who) && false) ≡ 0 = ap one_if (and-false (not (p == who))) in
      let last = silent_one p what none in
      omega (arith, first, last)
  silent_given_up a p s what _ none = silent_one p what none

  silent_answer : (p : ℕ) (made : Option Call) → Silent (entry_of_call p made)
  silent_answer p None = refl
  silent_answer p (Some call) = silent_one p (Confirms call) refl

  no_win : (p : ℕ) → one_if (not (p == who) && false) ≡ 0
  no_win p = ap one_if (and-false (not (p == who)))

  -- what a step adds
  gain_of_step : (w : World) (a : Incarnations) (p : ℕ) (step : Step) →
      gains_in who (happens start w a p step) ≡ one_if (not (p == who) && wins_flag start w p step)
  gain_of_step w a p (TakeFlag s) = either (has_flag (found start w (TakeFlag s)) s)
    where
      either : (b : Bool) → gains_in who (if b then just p (Gains s) else just p (Probes s))
          ≡ one_if (not (p == who) && b)
      either true = omega arith
      either false = omega arith
  gain_of_step w a p (Raise s) = silent_given_up a p s (Raises s) ((w.know p).own s) refl ∙ sym (no_win p)
  gain_of_step w a p (StoreBirth s birth) =
      silent_given_up a p s (Bears s birth) ((w.know p).own s) refl ∙ sym (no_win p)
  gain_of_step w a p (Advance from) =
      silent_either (found start w (Advance from) == from) _ _ (silent_one p Advances refl) refl ∙ sym (no_win p)
  gain_of_step w a p (Publish pred expected s) =
      silent_either (found start w (Publish pred expected s) == expected) _ _
      (silent_one p (Linking (last_in a s) (before_at a pred)) refl) refl ∙ sym (no_win p)
  gain_of_step w a p (Mark s expected) =
      silent_either (found start w (Mark s expected) == expected) _ _ (silent_one p (Removes (last_in a s)) refl) refl
      ∙ sym (no_win p)
  gain_of_step w a p (Replace s expected t) =
      silent_either (found start w (Replace s expected t) == expected) _ _
      (silent_one p (Replaces (last_in a s) (last_in a t)) refl) refl ∙ sym (no_win p)
  gain_of_step w a p (Unlink pred expected s) =
      silent_either (found start w (Unlink pred expected s) == expected) _ _
      (silent_one p (Unlinks (last_in a s) (before_at a pred)) refl) refl ∙ sym (no_win p)
  gain_of_step w a p (ConfirmPresent op s expected) =
      silent_either (found start w (ConfirmPresent op s expected) == expected) _ _
      (silent_answer p (call_of start p (w.know p) (ConfirmPresent op s expected))) refl ∙ sym (no_win p)
  gain_of_step w a p (ConfirmAbsent op key place expected) =
      silent_either (found start w (ConfirmAbsent op key place expected) == expected) _ _
      (silent_answer p (call_of start p (w.know p) (ConfirmAbsent op key place expected))) refl ∙ sym (no_win p)
  gain_of_step w a p (StoreStamp s stamp) = silent_one p (Stamps (last_in a s) stamp) refl ∙ sym (no_win p)
  gain_of_step w a p (StoreKey s key) = silent_one p (Keyed (last_in a s) key) refl ∙ sym (no_win p)
  gain_of_step w a p (StoreValue s value) = silent_one p (Valued (last_in a s) value) refl ∙ sym (no_win p)
  gain_of_step w a p (StoreLink s next) =
      silent_one p (Aims (last_in a s) (link_written (w.know p) (StoreLink s next))) refl ∙ sym (no_win p)
  gain_of_step w a p _ = sym (no_win p)

  gained_both : (xs ys : List Entry) → gains_in who (xs ++ ys) ≡ gains_in who xs + gains_in who ys
  gained_both [] ys = omega arith
  gained_both (x ∷ xs) ys = let rest = gained_both xs ys in omega (arith, rest)

  -- so gains are flags that other passes won
  gains_along : (w : World) (a : Incarnations) (events : List Event) →
      gains_in who (chronicle_from start w a events) ≡ count_along (by_other (wins_flag start) who) start w events
  gains_along w a [] = refl
  gains_along w a (e ∷ events) =
      let one = gain_of_step w a e.pass e.step in
      let rest = gains_along (after start w e.pass e.step) (incarnations_with start w a e) events in
      let sum = gained_both (happens start w a e.pass e.step)
      (chronicle_from start (after start w e.pass e.step) (incarnations_with start w a e) events) in
      omega (arith, one, rest, sum)

-- ---- the slots that a pass may give birth in

abbrev free_slots : Start → Know → ℕ
free_slots start know = count_below (λ s. may_bear (know.own s)) start.shape.slots

counted_more : (test : ℕ → Bool) (n : ℕ) → count_below test (suc n) ≡ count_below test n + one_if (test n)
counted_more test n = go (test n) (count_below test n)
  where
    go : (b : Bool) (m : ℕ) → (if b then suc m else m) ≡ m + one_if b
    go true m = omega arith
    go false m = omega arith

counted_same : (f g : ℕ → Bool) (n : ℕ) → ((s : ℕ) → s < n → f s ≡ g s) → count_below f n ≡ count_below g n
counted_same f g zero same = refl
counted_same f g (suc n) same =
    let before = counted_same f g n (λ s low. same s (omega (arith, low))) in
    let more = counted_more f n in
    let also = counted_more g n in
    let here = ap one_if (same n (omega arith)) in
    omega (arith, before, more, also, here)

-- once another thing is known of one slot
module _ (own : ℕ → Option Holding) (s : ℕ) (holding : Option Holding) where
  abbrev before : ℕ → Bool
  before k = may_bear (own k)

  abbrev now : ℕ → Bool
  now k = may_bear (put own s holding k)

  counted_apart : (n : ℕ) → n ≤ s → count_below now n ≡ count_below before n
  counted_apart n above =
      counted_same now before n
      (λ k low. ap may_bear (put_other own s holding k (λ same. omega (arith, low, above, same))))

  counted_put : (n : ℕ) → s < n →
      count_below now n + one_if (may_bear (own s)) ≡ count_below before n + one_if (may_bear holding)
  counted_put zero low = absurd (omega (arith, low))
  counted_put (suc n) low = elim (cases_eq s n) [
    | inl is ↦ let more = counted_more now n in
        let also = counted_more before n in
        let under = counted_apart n (omega (arith, is)) in
        let here : one_if (now n) ≡ one_if (may_bear holding) =
        ap (λ (k : ℕ). one_if (now k)) (sym is)
        ∙ ap (λ (h : Option Holding). one_if (may_bear h)) (put_here own s holding) in
        let there : one_if (before n) ≡ one_if (before s) = ap (λ (k : ℕ). one_if (before k)) (sym is) in
        omega (arith, more, also, under, here, there)
    | inr other ↦ let more = counted_more now n in
        let also = counted_more before n in
        let under = counted_put n (omega (arith, low, other)) in
        let here : one_if (now n) ≡ one_if (before n) =
        ap (λ (h : Option Holding). one_if (may_bear h)) (put_other own s holding n (λ same. other (sym same))) in
        omega (arith, more, also, under, here)
  ]

-- ---- one for a pass that has a slot

abbrev some : ℕ → ℕ
some n = one_if (nat_lt 0 n)

one_low : (b : Bool) → one_if b ≤ 1
one_low true = omega arith
one_low false = omega arith

some_low : (n : ℕ) → some n ≤ 1
some_low n = one_low (nat_lt 0 n)

some_of : (n : ℕ) → 1 ≤ n → some n ≡ 1
some_of n more = ap one_if (lt-ltb 0 n more)

some_on : (m n : ℕ) → (1 ≤ m → 1 ≤ n) → some m ≤ some n
some_on zero n on = omega arith
some_on (suc m) n on =
    let low = some_low (suc m) in let one = some_of n (on (omega arith)) in omega (arith, low, one)

-- ---- one step

-- whether a step publishes a slot of its pass
abbrev publishes : Start → World → Step → Bool
publishes start w (Publish pred expected s) = found start w (Publish pred expected s) == expected
publishes start w (Replace s expected t) = found start w (Replace s expected t) == expected
publishes start w _ = false

may_reread : (holding : Option Holding) → may_bear (reread holding) ≡ may_bear holding
may_reread (Some (InHand known)) = refl
may_reread _ = refl

may_keyed : (holding : Option Holding) (key : ℕ) → may_bear (with_key holding key) ≡ may_bear holding
may_keyed (Some (InHand known)) key = refl
may_keyed _ key = refl

may_valued : (holding : Option Holding) (value : ℕ) → may_bear (with_value holding value) ≡ may_bear holding
may_valued (Some (InHand known)) value = refl
may_valued _ value = refl

may_linked : (holding : Option Holding) (link : Link) → may_bear (with_link holding link) ≡ may_bear holding
may_linked (Some (InHand known)) link = refl
may_linked _ link = refl

may_is : (holding : Option Holding) → MayBear holding → may_bear holding ≡ true
may_is (Some (Free stamp)) m = refl
may_is (Some (InHand known)) m = refl
may_is _ m = absurd m

module _ (start : Start) (w : World) (p : ℕ) where
  -- what a step leaves of the slots that its pass may give birth in, where it teaches this
  abbrev Leaves : Step → Know → Type 0
  Leaves step known = one_if (wins_flag start w p step) + some (free_slots start (w.know p))
      ≤ one_if (publishes start w step) + one_if (goes_beyond start w p step) + some (free_slots start known)

  -- no fewer of them
  no_fewer : (step : Step) (known : Know) → wins_flag start w p step ≡ false →
      free_slots start (w.know p) ≤ free_slots start known → Leaves step known
  no_fewer step known none more =
      let lost = ap one_if none in
      let on = some_on (free_slots start (w.know p)) (free_slots start known) (λ one. omega (arith, one, more)) in
      omega (arith, lost, on)

  -- one that is known in another way
  put_more : (s : ℕ) (holding : Option Holding) → s < start.shape.slots → may_bear holding ≡ true →
      free_slots start (w.know p)
      ≤ count_below (λ k. may_bear (put (w.know p).own s holding k)) start.shape.slots
  put_more s holding low is =
      let sum = counted_put (w.know p).own s holding start.shape.slots low in
      let one = ap one_if is in
      let was = one_low (may_bear ((w.know p).own s)) in
      omega (arith, sum, one, was)

  put_same : (s : ℕ) (holding : Option Holding) → s < start.shape.slots →
      may_bear holding ≡ may_bear ((w.know p).own s) →
      count_below (λ k. may_bear (put (w.know p).own s holding k)) start.shape.slots ≡ free_slots start (w.know p)
  put_same s holding low is =
      let sum = counted_put (w.know p).own s holding start.shape.slots low in
      let one = ap one_if is in
      omega (arith, sum, one)

  put_keeps : (step : Step) (s : ℕ) (holding : Option Holding) → wins_flag start w p step ≡ false →
      s < start.shape.slots → may_bear holding ≡ may_bear ((w.know p).own s) →
      Leaves step (with_own (w.know p) s holding)
  put_keeps step s holding none low is =
      no_fewer step (with_own (w.know p) s holding) none (let same = put_same s holding low is in omega (arith, same))

  put_gives : (step : Step) (s : ℕ) (holding : Option Holding) → wins_flag start w p step ≡ false →
      s < start.shape.slots → may_bear holding ≡ true → Leaves step (with_own (w.know p) s holding)
  put_gives step s holding none low is =
      no_fewer step (with_own (w.know p) s holding) none (put_more s holding low is)

  -- a load
  load_leaves : (step : Step) (read : Read) → wins_flag start w p step ≡ false →
      Leaves step (with_pending (w.know p) read)
  load_leaves step read none = no_fewer step (with_pending (w.know p) read) none (omega arith)

  raised_leaves : (s : ℕ) → s < start.shape.slots → MayBear ((w.know p).own s) →
      Leaves (Raise s) (learn (Raise s) (found start w (Raise s)) 0 (w.know p))
  raised_leaves s low may =
      go (nat_lt (free_slots start (w.know p)) 2) refl
    where
      n : ℕ
      n = free_slots start (w.know p)

      left : ℕ
      left = count_below (λ k. may_bear (put (w.know p).own s None k)) start.shape.slots

      sum : left + 1 ≡ n
      sum =
          let all = counted_put (w.know p).own s None start.shape.slots low in
          let one = ap one_if (may_is ((w.know p).own s) may) in
          omega (arith, all, one)

      go : (b : Bool) → nat_lt n 2 ≡ b → 0 + some n ≤ 0 + one_if (nat_lt n 2) + some left
      go true below = let one = ap one_if below in let most = some_low n in omega (arith, one, most)
      go false not_below =
          let two = ltb-false n 2 not_below in
          let one = some_of left (omega (arith, two, sum)) in
          let most = some_low n in
          omega (arith, one, most)

  taken_leaves : (s stamp : ℕ) → s < start.shape.slots →
      (has_flag (found start w (TakeFlag s)) s ≡ true → (w.know p).own s ≡ None) →
      Leaves (TakeFlag s) (learn (TakeFlag s) (found start w (TakeFlag s)) stamp (w.know p))
  taken_leaves s stamp low none = go (has_flag (found start w (TakeFlag s)) s) none
    where
      own : ℕ → Option Holding
      own = (w.know p).own

      go : (b : Bool) → (b ≡ true → (w.know p).own s ≡ None) →
          one_if b + some (free_slots start (w.know p))
          ≤ 0 + one_if (b && nat_lt 0 (free_slots start (w.know p)))
          + some (free_slots start (if b then with_own (w.know p) s (Some (Free stamp)) else w.know p))
      go true unowned =
          let sum = counted_put (w.know p).own s (Some (Free stamp)) start.shape.slots low in
          let was : one_if (may_bear ((w.know p).own s)) ≡ 0 =
          ap (λ (h : Option Holding). one_if (may_bear h)) (unowned refl) in
          let one = some_of (count_below (λ k. may_bear (put (w.know p).own s (Some (Free stamp)) k)) start.shape.slots)
          (omega (arith, sum, was)) in
          omega (arith, one)
      go false unowned = omega arith

  -- a slot that is published, or none is
  published_leaves : (b : Bool) (known : Know) →
      one_if false + some (free_slots start (w.know p))
      ≤ one_if b + one_if false + some (free_slots start (if b then known else w.know p))
  published_leaves true known = let most = some_low (free_slots start (w.know p)) in omega (arith, most)
  published_leaves false known = omega arith

  -- what teaches nothing of slots, if it teaches something
  either_leaves : (b : Bool) (known : Know) → free_slots start known ≡ free_slots start (w.know p) →
      one_if false + some (free_slots start (w.know p))
      ≤ one_if false + one_if false + some (free_slots start (if b then known else w.know p))
  either_leaves true known same = let on = ap some same in omega (arith, on)
  either_leaves false known same = omega arith

  unlinked_leaves : (b : Bool) (s : ℕ) (known : Know) → s < start.shape.slots →
      (b ≡ true → (w.know p).own s ≡ None) → ((k : ℕ) → known.own k ≡ put (w.know p).own s (Some (Unlinked false)) k) →
      one_if false + some (free_slots start (w.know p))
      ≤ one_if false + one_if false + some (free_slots start (if b then known else w.know p))
  unlinked_leaves true s known low unowned is =
      let each = counted_same (λ k. may_bear (known.own k))
      (λ k. may_bear (put (w.know p).own s (Some (Unlinked false)) k)) start.shape.slots (λ k l. ap may_bear (is k)) in
      let same = put_same s (Some (Unlinked false)) low (sym (ap may_bear (unowned refl))) in
      let on = ap some (each ∙ same) in
      omega (arith, on)
  unlinked_leaves false s known low unowned is = omega arith

-- ---- any step of an accepted run

module _ (start : Start) (w : World) (a : Incarnations) (notes : ℕ → Notes) (p : ℕ) (g : Agrees start w a notes) where
  stands_at : (pred : At) (expected s : ℕ) → (found start w (Unlink pred expected s) == expected) ≡ true →
      word_of (link_at w pred) ≡ expected
  stands_at (Head b) expected s e = eqb-true (word_of (w.head b)) expected e
  stands_at (Slot q) expected s e = eqb-true (word_of (w.link q)) expected e

  step_leaves : (step : Step) → Accepts start (w.know p) step →
      Leaves start w p step (learn step (found start w step) (stamp_shown w step) (w.know p))
  step_leaves ReadEpoch ok =
      no_fewer start w p ReadEpoch (read_epoch (w.know p) w.epoch) refl
      (let same = counted_same (λ k. may_bear ((read_epoch (w.know p) w.epoch).own k))
      (λ k. may_bear ((w.know p).own k)) start.shape.slots
      (λ k low. ap may_bear (own_read (w.know p) w.epoch k) ∙ may_reread ((w.know p).own k)) in omega (arith, same))
  step_leaves (StoreStamp s new) ok =
      put_gives start w p (StoreStamp s new) s (Some (Free new)) refl ok.in_shape refl
  step_leaves (Raise s) ok = raised_leaves start w p s ok.in_shape ok.owned
  step_leaves (TakeFlag s) ok =
      taken_leaves start w p s (w.stamp s) ok.in_shape
      (λ there. taken_unowned start w a notes p s g (flag_shared start w s there))
  step_leaves (StoreBirth s birth) ok =
      put_gives start w p (StoreBirth s birth) s (Some (InHand (newborn (stamp_in ((w.know p).own s)) birth))) refl
      ok.in_shape refl
  step_leaves (StoreKey s key) ok =
      put_keeps start w p (StoreKey s key) s (with_key ((w.know p).own s) key) refl ok.in_shape
      (may_keyed ((w.know p).own s) key)
  step_leaves (StoreValue s value) ok =
      put_keeps start w p (StoreValue s value) s (with_value ((w.know p).own s) value) refl ok.in_shape.0
      (may_valued ((w.know p).own s) value)
  step_leaves (StoreLink s next) ok =
      let link = link_written (w.know p) (StoreLink s next) in
      put_keeps start w p (StoreLink s next) s (with_link ((w.know p).own s) link) refl ok.in_shape.0
      (may_linked ((w.know p).own s) link)
  step_leaves (Publish pred expected s) ok =
      published_leaves start w p (found start w (Publish pred expected s) == expected) _
  step_leaves (Replace s expected t) ok =
      published_leaves start w p (found start w (Replace s expected t) == expected) _
  step_leaves (Mark s expected) ok =
      either_leaves start w p (found start w (Mark s expected) == expected) _ refl
  step_leaves (Unlink pred expected s) ok =
      unlinked_leaves start w p (found start w (Unlink pred expected s) == expected) s _ ok.in_shape.1
      (λ won. unlinked_unowned start w a notes p pred expected s g ok (stands_at pred expected s won)) (λ k. refl)
  step_leaves (Advance from) ok = no_fewer start w p (Advance from) (w.know p) refl (omega arith)
  step_leaves (LoadStamp s) ok = no_fewer start w p (LoadStamp s) (w.know p) refl (omega arith)
  step_leaves (PeekBirth s) ok = no_fewer start w p (PeekBirth s) (w.know p) refl (omega arith)
  step_leaves (LoadLink place) ok =
      load_leaves start w p (LoadLink place) (LinkAt place (link_of (found start w (LoadLink place)))) refl
  step_leaves (LoadBirth s) ok =
      load_leaves start w p (LoadBirth s) (BirthOf s (found start w (LoadBirth s))) refl
  step_leaves (LoadKey s) ok = load_leaves start w p (LoadKey s) (KeyOf s (found start w (LoadKey s))) refl
  step_leaves (LoadValue s) ok =
      load_leaves start w p (LoadValue s) (ValueOf s (found start w (LoadValue s))) refl
  step_leaves (ConfirmPresent op s expected) ok =
      no_fewer start w p (ConfirmPresent op s expected) (w.know p) refl (omega arith)
  step_leaves (ConfirmAbsent op key place expected) ok =
      no_fewer start w p (ConfirmAbsent op key place expected) (w.know p) refl (omega arith)

  -- so it is after it
  own_step : (step : Step) → Accepts start (w.know p) step →
      one_if (wins_flag start w p step) + some (slots_with start w p)
      ≤ one_if (publishes start w step) + one_if (goes_beyond start w p step)
      + some (slots_with start (after start w p step) p)
  own_step step ok =
      subst (λ (known : Know). Leaves start w p step known) (sym (know_own start w p step)) (step_leaves step ok)

-- ---- inserts of others

pub inserts-append : (who : ℕ) (xs ys : List Call) →
    inserts_of_others who (xs ++ ys) ≡ inserts_of_others who xs + inserts_of_others who ys
inserts-append who [] ys = omega arith
inserts-append who (x ∷ xs) ys = let rest = inserts-append who xs ys in omega (arith, rest)

module _ (start : Start) (who : ℕ) (w : World) (p : ℕ) where
  abbrev Inserts : Step → Type 0
  Inserts step = one_if (not (p == who) && publishes start w step)
      ≤ inserts_of_others who (calls_added start w p step)

  no_insert : (calls : List Call) → one_if (not (p == who) && false) ≤ inserts_of_others who calls
  no_insert calls = let none = ap one_if (and-false (not (p == who))) in omega (arith, none)

  abbrev inserted : ℕ → Option ℕ → Call
  inserted key value = record { who = p; op = Insert; key = key; reply = true; value = value }

  published_inserts : (b : Bool) (key : ℕ) (value : Option ℕ) →
      one_if (not (p == who) && b)
      ≤ inserts_of_others who (option_to_list (if b then Some (inserted key value) else None))
  published_inserts true key value = omega arith
  published_inserts false key value = no_insert []

  replaced_inserts : (b : Bool) (removed : Call) (key : ℕ) (value : Option ℕ) →
      one_if (not (p == who) && b)
      ≤ inserts_of_others who (option_to_list (if b then Some removed else None)
      ++ option_to_list (if b then Some (inserted key value) else None))
  replaced_inserts true removed key value = omega arith
  replaced_inserts false removed key value = no_insert []

  step_inserts : (step : Step) → Inserts step
  step_inserts (Publish pred expected s) =
      published_inserts (found start w (Publish pred expected s) == expected) _ _
  step_inserts (Replace s expected t) = replaced_inserts (found start w (Replace s expected t) == expected) _ _ _
  step_inserts (ReadEpoch) = no_insert []
  step_inserts step = no_insert (calls_added start w p step)

-- ---- all other passes

sum_one : (n p : ℕ) (f g : ℕ → ℕ) → p < n → ((o : ℕ) → o ≢ p → f o ≡ g o) → sum_of n f + g p ≡ sum_of n g + f p
sum_one zero p f g low others = absurd (omega (arith, low))
sum_one (suc n) p f g low others = elim (cases_eq p n) [
  | inl is ↦ let same = all_same n (omega (arith, is)) in
      let here = ap f is in
      let there = ap g is in
      omega (arith, same, here, there)
  | inr other ↦ let before = sum_one n p f g (omega (arith, low, other)) others in
      let now = others n (λ same. other (sym same)) in
      omega (arith, before, now)
]
  where
    all_same : (m : ℕ) → m ≤ p → sum_of m f ≡ sum_of m g
    all_same zero under = refl
    all_same (suc m) under =
        let before = all_same m (omega (arith, under)) in
        let now = others m (λ same. omega (arith, under, same)) in
        omega (arith, before, now)

module _ (start : Start) (passes who : ℕ) where
  -- one for a pass other than this one that has a slot
  abbrev has : World → ℕ → ℕ
  has w o = if o == who then 0 else some (slots_with start w o)

  abbrev others_have : World → ℕ
  others_have w = sum_of passes (has w)

  -- fewer than all passes
  others_low : (w : World) → who < passes → others_have w + 1 ≤ passes
  others_low w low = go passes low
    where
      one : (o : ℕ) → has w o ≤ 1
      one o = either (o == who)
        where
          either : (b : Bool) → (if b then 0 else some (slots_with start w o)) ≤ 1
          either true = omega arith
          either false = some_low (slots_with start w o)

      no_more : (n : ℕ) → sum_of n (has w) ≤ n
      no_more zero = omega arith
      no_more (suc n) = let before = no_more n in let now = one n in omega (arith, before, now)

      own : has w who ≡ 0
      own = ap (λ (b : Bool). if b then 0 else some (slots_with start w who)) (eq-eqb who who refl)

      go : (n : ℕ) → who < n → sum_of n (has w) + 1 ≤ n
      go zero less = absurd (omega (arith, less))
      go (suc n) less = elim (cases_eq who n) [
        | inl is ↦ let before = no_more n in
            let here : has w n ≡ 0 = ap (has w) (sym is) ∙ own in
            omega (arith, before, here)
        | inr other ↦ let before = go n (omega (arith, less, other)) in
            let now = one n in
            omega (arith, before, now)
      ]

  -- what one event leaves
  abbrev Paid : World → Event → Type 0
  Paid w e =
      one_if (by_other (wins_flag start) who w e) + others_have w + inserts_of_others who w.calls
      ≤ one_if (by_other (goes_beyond start) who w e) + others_have (after start w e.pass e.step)
      + inserts_of_others who (after start w e.pass e.step).calls

  one_paid : (w : World) (a : Incarnations) (notes : ℕ → Notes) (e : Event) → Agrees start w a notes →
      e.pass < passes → Accepts start (w.know e.pass) e.step → Paid w e
  one_paid w a notes e g low ok = elim (cases_eq e.pass who) [
    | inl own ↦ let none_won : one_if (not (e.pass == who) && wins_flag start w e.pass e.step) ≡ 0 =
        ap (λ (b : Bool). one_if (not b && wins_flag start w e.pass e.step)) (eq-eqb e.pass who own) in
        let sum = sum_one passes e.pass (has v) (has w) low other_same in
        let mine : (u : World) → has u e.pass ≡ 0 =
        (λ u. ap (λ (b : Bool). if b then 0 else some (slots_with start u e.pass)) (eq-eqb e.pass who own)) in
        let before = mine w in
        let later = mine v in
        omega (arith, none_won, sum, before, later, calls)
    | inr away ↦ let tests : (not (e.pass == who)) ≡ true = ap not (ne_eqb e.pass who away) in
        let won = ap (λ (b : Bool). one_if (b && wins_flag start w e.pass e.step)) tests in
        let beyond = ap (λ (b : Bool). one_if (b && goes_beyond start w e.pass e.step)) tests in
        let published = ap (λ (b : Bool). one_if (b && publishes start w e.step)) tests in
        let its : (u : World) → has u e.pass ≡ some (slots_with start u e.pass) =
        (λ u. ap (λ (b : Bool). if b then 0 else some (slots_with start u e.pass)) (ne_eqb e.pass who away)) in
        let before = its w in
        let later = its v in
        let sum = sum_one passes e.pass (has v) (has w) low other_same in
        let step = own_step start w a notes e.pass g e.step ok in
        let inserts = step_inserts start who w e.pass e.step in
        omega (arith, won, beyond, published, before, later, sum, step, inserts, calls)
  ]
    where
      v : World
      v = after start w e.pass e.step

      calls : inserts_of_others who v.calls
          ≡ inserts_of_others who w.calls + inserts_of_others who (calls_added start w e.pass e.step)
      calls = ap (inserts_of_others who) (calls_after start w e.pass e.step)
          ∙ inserts-append who w.calls (calls_added start w e.pass e.step)

      other_same : (o : ℕ) → o ≢ e.pass → has v o ≡ has w o
      other_same o away =
          ap (λ (known : Know). if o == who then 0 else some (free_slots start known))
          (know_other start w o e.pass e.step away)

  all_paid : (w : World) (a : Incarnations) (notes : ℕ → Notes) (events : List Event) → Agrees start w a notes →
      AreAccepted start passes w events →
      count_along (by_other (wins_flag start) who) start w events + others_have w + inserts_of_others who w.calls
      ≤ count_along (by_other (goes_beyond start) who) start w events + others_have (world_from start w events)
      + inserts_of_others who (world_from start w events).calls
  all_paid w a notes [] g ok = omega arith
  all_paid w a notes (e ∷ events) g ok =
      let b = incarnations_with start w a e in
      let v = after start w e.pass e.step in
      let new = put notes e.pass (notes_with start w b e.pass e.step (notes e.pass)) in
      let next = step_agrees start w a notes e.pass e.step g ok.0.1 in
      let one = one_paid w a notes e g ok.0.0 ok.0.1 in
      let rest = all_paid v b new events next.1 ok.1 in
      omega (arith, one, rest)

-- ---- the law of a run

-- a law: since a beginning of a run other passes have taken no more slots out of the shared pool than one each, one
-- for each time that they went beyond their need, and one for each insert of theirs that was answered yes
pub gains_paid : (start : Start) (passes who : ℕ) (first rest : List Event) → IsStart start →
    IsRun start passes (first ++ rest) → who < passes →
    gains start (first ++ rest) who + inserts_of_others who (world_after start first).calls
    ≤ gains start first who + (passes - 1)
    + count_along (by_other (goes_beyond start) who) start (world_after start first) rest
    + inserts_of_others who (world_after start (first ++ rest)).calls
gains_paid start passes who first rest is ok low =
    let w = world_after start first in
    let tests = by_other (wins_flag start) who in
    let all = gains_along start who (opening start) (at_opening start) (first ++ rest) in
    let before = gains_along start who (opening start) (at_opening start) first in
    let sum = along-append tests start (opening start) first rest in
    let paid = all_paid start passes who w (incarnations_after start first) (notes_after start first) rest
    (run_agrees start passes first is (is_run_before start passes first rest ok))
    (is_run_after start passes first rest ok) in
    let few = others_low start passes who (world_from start w rest) low in
    let end : inserts_of_others who (world_after start (first ++ rest)).calls
    ≡ inserts_of_others who (world_from start w rest).calls =
    ap (λ (v : World). inserts_of_others who v.calls) (world_after-append start first rest) in
    omega (arith, all, before, sum, paid, few, end)
