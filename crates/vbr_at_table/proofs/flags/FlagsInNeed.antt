-- The flags that a pass wins, and how often it goes beyond its need, from step to step.
use Rattle.std.proofs.Common.{◌≡◌, ◌≢◌, ℕ, zero, suc, ◌+◌, ◌<◌, ◌≤◌, ◌==◌, ◌&&◌, Bool, true, false, List, []}
use Rattle.std.proofs.Common.{◌∷◌, ◌++◌, length, get_or, Option, Some, None, refl, sym, ap, ◌∙◌, subst, eq-eqb, inl}
use Rattle.std.proofs.Common.{inr, arith}
use Rattle.std.specs.Prelude.{◌⊎◌, nat_lt, if◌then◌else◌}
use Rattle.std.proofs.lemmas.Bool.{cases_eq, cases_lt, cases_order, ne_eqb}
use Rattle.std.proofs.lemmas.Bool.Decides.{nat_tests}
use Rattle.vbr_words.specs.Flags.{has_flag}
use Rattle.vbr_machine.specs.Start.{Start}
use Rattle.vbr_machine.specs.Acceptance.{MayBear}
use Rattle.vbr_machine.specs.Disturbances.{one_if}
use Rattle.vbr_machine.specs.Knowledge.{Know}
use Rattle.vbr_machine.specs.Learning.{reread}
use Rattle.vbr_machine.specs.Machine.{World, after, found, opening}
use Rattle.vbr_machine.specs.Nodes.{count_below}
use Rattle.vbr_machine.specs.Put.{put}
use Rattle.vbr_machine.specs.Runs.{NoneOf, world_after, world_from}
use Rattle.vbr_machine.specs.Whereabouts.{may_bear}
use Rattle.vbr_machine.specs.declared.event.Event.{Event}
use Rattle.vbr_machine.specs.declared.event.Step.{Step}
use Rattle.vbr_machine.specs.declared.event.Step.TheVariants.{Raise, ReadEpoch, StoreStamp, TakeFlag}
use Rattle.vbr_machine.specs.declared.knowledge.Holding.{Holding}
use Rattle.vbr_machine.specs.declared.knowledge.Holding.TheVariants.{Free, Unlinked, InHand}
use Rattle.vbr_machine.proofs.Lemmas.{count_none, flag_won, others_leave_know, put_here, put_other}
use Rattle.vbr_machine.proofs.Lemmas.{word_told}
use Rattle.vbr_slots.specs.pools.Pools.{IsPooled, OwnPool}
use Rattle.vbr_slots.specs.views.Views.{Did, PassView, Trace, event_of, knows}
use Rattle.vbr_at_table.specs.costs.FlagsInNeed.{WinsNoFlag, count_along, flags_won, goes_beyond, own_along, slots_with}
use Rattle.vbr_at_table.specs.costs.FlagsInNeed.{times_beyond, wins_flag}
use Rattle.vbr_at_table.specs.hands.KeptSlots.{HasAllFree, HasFree, HasSlot, WinsInNeed}
use Rattle.vbr_at_table.specs.costs.StepKinds.{is_raise, is_try}
use Rattle.vbr_at_table.proofs.epochs.EpochReads.{own_read}
use Rattle.vbr_at_table.proofs.reads.Shown.{flag_shown}

-- ---- counts of slots

one_more : (test : ℕ → Bool) (n : ℕ) → count_below test (suc n) ≡ count_below test n + one_if (test n)
one_more test n = go (test n) (count_below test n)
  where
    go : (b : Bool) (m : ℕ) → (if b then suc m else m) ≡ m + one_if b
    go true m = omega arith
    go false m = omega arith

-- one that passes below a number is counted
some_counted : (test : ℕ → Bool) (n s : ℕ) → s < n → test s ≡ true → 1 ≤ count_below test n
some_counted test zero s low is = absurd (omega (arith, low))
some_counted test (suc n) s low is = go (λ under. some_counted test n s under is) (cases_lt s n)
  where
    go : (s < n → 1 ≤ count_below test n) → (s < n) ⊎ (n ≤ s) → 1 ≤ count_below test (suc n)
    go before (inl under) = let more = one_more test n in let there = before under in omega (arith, more, there)
    go before (inr over) =
        let more = one_more test n in
        let here : one_if (test n) ≡ 1 = ap (λ (k : ℕ). one_if (test k)) (omega (arith, over, low)) ∙ ap one_if is in
        omega (arith, more, here)

-- and so are two
two_counted : (test : ℕ → Bool) (n s t : ℕ) → s < t → t < n → test s ≡ true → test t ≡ true → 2 ≤ count_below test n
two_counted test zero s t less low is also = absurd (omega (arith, low))
two_counted test (suc n) s t less low is also = go (λ under. two_counted test n s t less under is also) (cases_lt t n)
  where
    go : (t < n → 2 ≤ count_below test n) → (t < n) ⊎ (n ≤ t) → 2 ≤ count_below test (suc n)
    go before (inl under) = let more = one_more test n in let there = before under in omega (arith, more, there)
    go before (inr over) =
        let more = one_more test n in
        let here : one_if (test n) ≡ 1 = ap (λ (k : ℕ). one_if (test k)) (omega (arith, over, low)) ∙ ap one_if also in
        let first = some_counted test n s (omega (arith, less, low, over)) is in
        omega (arith, more, here, first)

-- ---- along a run

module _ (test : World → Event → Bool) (start : Start) where
  pub along-append : (w : World) (xs ys : List Event) →
      count_along test start w (xs ++ ys)
      ≡ count_along test start w xs + count_along test start (world_from start w xs) ys
  along-append w [] ys = omega arith
  along-append w (x ∷ xs) ys = let rest = along-append (after start w x.pass x.step) xs ys in omega (arith, rest)

module _ (test : World → ℕ → Step → Bool) (start : Start) where
  -- what others do isn't counted
  pub none_along : (w : World) (events : List Event) (who : ℕ) → NoneOf who events →
      own_along test start w events who ≡ 0
  none_along w [] who none = refl
  none_along w (e ∷ events) who none =
      let other : one_if ((e.pass == who) && test w e.pass e.step) ≡ 0 =
      ap (λ (b : Bool). one_if (b && test w e.pass e.step)) (ne_eqb e.pass who none.0) in
      let rest = none_along (after start w e.pass e.step) events who none.1 in
      omega (arith, other, rest)

  own_one : (w : World) (who : ℕ) (step : Step) →
      own_along test start w (event_of who step ∷ []) who ≡ one_if (test w who step)
  own_one w who step =
      let own : one_if ((who == who) && test w who step) ≡ one_if (test w who step) =
      ap (λ (b : Bool). one_if (b && test w who step)) (eq-eqb who who refl) in
      omega (arith, own)

  -- after what others do and one own step
  pub along_more : (seen rest : List Event) (who : ℕ) (step : Step) → NoneOf who rest →
      own_along test start (opening start) ((seen ++ rest) ++ event_of who step ∷ []) who
      ≡ own_along test start (opening start) seen who + one_if (test (world_after start (seen ++ rest)) who step)
  along_more seen rest who step none =
      let counted = λ (w : World) (e : Event). (e.pass == who) && test w e.pass e.step in
      let last = along-append counted start (opening start) (seen ++ rest) (event_of who step ∷ []) in
      let middle = along-append counted start (opening start) seen rest in
      let nothing = none_along (world_after start seen) rest who none in
      let one = own_one (world_after start (seen ++ rest)) who step in
      omega (arith, last, middle, nothing, one)

-- ---- from step to step

module _ (test : Start → World → ℕ → Step → Bool) where
  abbrev along : Trace → ℕ
  along p = own_along (test p.start) p.start (opening p.start) p.seen p.who

  did_along : {step : Step} {p q : Trace} {r : ℕ} (d : Did step p q r) →
      along q ≡ along p + one_if (test p.start (world_after p.start (p.seen ++ d.rest)) p.who step)
  did_along {step} {p} {q} d =
      (λ i. own_along (test (d.same.1 i)) (d.same.1 i) (opening (d.same.1 i)) (d.seen i) (d.same.3 i))
      ∙ along_more (test p.start) p.start p.seen d.rest p.who step d.none

did_won : {step : Step} {p q : Trace} {r : ℕ} (d : Did step p q r) →
    flags_won q ≡ flags_won p + one_if (wins_flag p.start (world_after p.start (p.seen ++ d.rest)) p.who step)
unfolding flags_won
did_won d = did_along wins_flag d

did_beyond : {step : Step} {p q : Trace} {r : ℕ} (d : Did step p q r) →
    times_beyond q ≡ times_beyond p + one_if (goes_beyond p.start (world_after p.start (p.seen ++ d.rest)) p.who step)
unfolding times_beyond
did_beyond d = did_along goes_beyond d

no_win : (start : Start) (w : World) (who : ℕ) (step : Step) → is_try step ≡ false → wins_flag start w who step ≡ false
no_win start w who (TakeFlag s) e = absurd (cc)
no_win start w who _ e = refl

no_beyond : (start : Start) (w : World) (who : ℕ) (step : Step) → is_try step ≡ false → is_raise step ≡ false →
    goes_beyond start w who step ≡ false
no_beyond start w who (TakeFlag s) e f = absurd (cc)
no_beyond start w who (Raise s) e f = absurd (cc)
no_beyond start w who _ e f = refl

nothing_more : (n m : ℕ) (b : Bool) → m ≡ n + one_if b → b ≡ false → m ≡ n
nothing_more n m b sum none = let zero_more = ap one_if none in omega (arith, sum, zero_more)

-- a step that neither takes nor raises a flag
pub wins_none : {step : Step} {p q : Trace} {r : ℕ} → Did step p q r → is_try step ≡ false → is_raise step ≡ false →
    WinsNoFlag p q
wins_none {step} {p} {q} d e f =
    let w = world_after p.start (p.seen ++ d.rest) in
    record {
      won = nothing_more (flags_won p) (flags_won q) _ (did_won d) (no_win p.start w p.who step e);
      beyond = nothing_more (times_beyond p) (times_beyond q) _ (did_beyond d) (no_beyond p.start w p.who step e f);
    }

pub wins_none_refl : (p : Trace) → WinsNoFlag p p
wins_none_refl p = record { won = refl; beyond = refl }

pub wins_none_on : {p q r : Trace} → WinsNoFlag p q → WinsNoFlag q r → WinsNoFlag p r
wins_none_on a b = record { won = b.won ∙ a.won; beyond = b.beyond ∙ a.beyond }

-- ---- flags that are lost and won

module _ {p q : Trace} {slot n : ℕ} (d : Did (TakeFlag slot) p q n) where
  abbrev world : World
  world = world_after p.start (p.seen ++ d.rest)

  -- one that was lost
  pub lost_wins_none : has_flag n slot ≡ false → WinsNoFlag p q
  lost_wins_none lost =
      record {
        won = nothing_more (flags_won p) (flags_won q) _ (did_won d) unset;
        beyond = nothing_more (times_beyond p) (times_beyond q) _ (did_beyond d)
            (ap (λ (b : Bool). b && nat_lt 0 (slots_with p.start world p.who)) unset);
      }
    where
      unset : has_flag (found p.start world (TakeFlag slot)) slot ≡ false
      unset = ap (λ (word : ℕ). has_flag word slot) (sym (word_told slot n _ (flag_shown d) lost)) ∙ lost

  -- one that was won
  module _ (won : has_flag n slot ≡ true) where
    there : has_flag (found p.start world (TakeFlag slot)) slot ≡ true
    there = flag_won slot n _ (flag_shown d) won

    pub won_one : flags_won q ≡ flags_won p + 1
    won_one = let sum = did_won d in let one = ap one_if there in omega (arith, sum, one)

    beyond_sum : times_beyond q ≡ times_beyond p + one_if (nat_lt 0 (slots_with p.start world p.who))
    beyond_sum =
        did_beyond d
        ∙ ap (λ (b : Bool). times_beyond p + one_if (b && nat_lt 0 (slots_with p.start world p.who))) there

    pub won_beyond : times_beyond q ≤ times_beyond p + 1
    won_beyond =
        let sum = beyond_sum in
        let low = low_one (nat_lt 0 (slots_with p.start world p.who)) in
        omega (arith, sum, low)
      where
        low_one : (b : Bool) → one_if b ≤ 1
        low_one true = omega arith
        low_one false = omega arith

-- ---- the slots that a pass may give birth in

abbrev free_slots : Start → Know → ℕ
free_slots start know = count_below (λ s. may_bear (know.own s)) start.shape.slots

may_not : (holding : Option Holding) → ¬ (MayBear holding) → may_bear holding ≡ false
may_not None n = refl
may_not (Some (Free stamp)) n = absurd (n tt)
may_not (Some (Unlinked seen)) n = refl
may_not (Some (InHand known)) n = absurd (n tt)

may_is : (holding : Option Holding) → MayBear holding → may_bear holding ≡ true
may_is None m = absurd m
may_is (Some (Free stamp)) m = refl
may_is (Some (Unlinked seen)) m = absurd m
may_is (Some (InHand known)) m = refl

-- what the pass knew at the moment of its step
known_then : {step : Step} {p q : Trace} {r : ℕ} (d : Did step p q r) →
    slots_with p.start (world_after p.start (p.seen ++ d.rest)) p.who ≡ free_slots p.start (knows p)
known_then {step} {p} d =
    ap (λ (know : Know). free_slots p.start know) (others_leave_know p.start p.seen d.rest p.who d.none)

-- none, where the own pool and the hand are empty
none_free : (p : PassView) → HasAllFree p → p.pool ≡ [] → p.hand ≡ None → free_slots p.trace.start (knows p.trace) ≡ 0
none_free p all empty no_hand =
    count_none (λ s. may_bear ((knows p.trace).own s)) p.trace.start.shape.slots
    (λ s low. may_not ((knows p.trace).own s) (λ may. nowhere s (all s may)))
  where
    nowhere : (s : ℕ) → HasSlot p s → ⊥
    nowhere s (inl (k, low, is)) = let short = ap length empty in absurd (omega (arith, low, short))
    nowhere s (inr in_hand) = absurd (cc)

-- a flag that was won where the pass had no slot
pub won_in_need : (p : PassView) {q : Trace} {slot n : ℕ} → Did (TakeFlag slot) p.trace q n → has_flag n slot ≡ true →
    p.pool ≡ [] → p.hand ≡ None → HasAllFree p → times_beyond q ≡ times_beyond p.trace
won_in_need p d won empty no_hand all =
    let sum = beyond_sum d won in
    let none : nat_lt 0 (slots_with p.trace.start (world_after p.trace.start (p.trace.seen ++ d.rest)) p.trace.who)
    ≡ false = ap (λ (k : ℕ). nat_lt 0 k) (known_then d ∙ none_free p all empty no_hand) in
    sum ∙ ap (λ (b : Bool). times_beyond p.trace + one_if b) none ∙ omega arith

-- a flag that is raised where the pass has another slot
pub raised_in_need : {p q : Trace} {slot n : ℕ} → Did (Raise slot) p q n → (s t : ℕ) → s < t →
    t < p.start.shape.slots → MayBear ((knows p).own s) → MayBear ((knows p).own t) → WinsNoFlag p q
raised_in_need {p} {q} {slot} d s t less low may also =
    let w = world_after p.start (p.seen ++ d.rest) in
    let two = two_counted (λ k. may_bear ((knows p).own k)) p.start.shape.slots s t less low
    (may_is ((knows p).own s) may) (may_is ((knows p).own t) also) in
    let known = known_then d in
    let enough : 2 ≤ slots_with p.start w p.who = omega (arith, two, known) in
    record {
      won = nothing_more (flags_won p) (flags_won q) _ (did_won d) refl;
      beyond = nothing_more (times_beyond p) (times_beyond q) _ (did_beyond d) (not_below _ enough);
    }
  where
    not_below : (k : ℕ) → 2 ≤ k → nat_lt k 2 ≡ false
    not_below k low = grind (arith, nat_tests)

-- and where it may have none
pub raised_beyond : {p q : Trace} {slot n : ℕ} → Did (Raise slot) p q n → times_beyond q ≤ times_beyond p + 1
raised_beyond {p} d =
    let sum = did_beyond d in
    let low = low_one (nat_lt (slots_with p.start (world_after p.start (p.seen ++ d.rest)) p.who) 2) in
    omega (arith, sum, low)
  where
    low_one : (b : Bool) → one_if b ≤ 1
    low_one true = omega arith
    low_one false = omega arith

-- ---- from view to view

pub none_in_need : (p q : PassView) → WinsNoFlag p.trace q.trace → WinsInNeed p q
none_in_need p q none = record {
  one = (let w = none.won in omega (arith, w));
  raised = (let w = none.won in let b = none.beyond in omega (arith, w, b));
  needed = λ all. none.beyond;
}

pub all_free_on : (p q : PassView) → HasFree p q → HasAllFree p → HasAllFree q
all_free_on p q free all slot may = free slot (may, λ before. all slot before)

-- a flag that was won where the own pool and the hand were empty
pub wins_one : (p q : PassView) {r : Trace} {slot n : ℕ} → Did (TakeFlag slot) p.trace r n → has_flag n slot ≡ true →
    p.pool ≡ [] → p.hand ≡ None → q.trace ≡ r → WinsInNeed p q
wins_one p q d won empty no_hand same = record {
  one = (let w = won_one d won in let e = ap flags_won same in omega (arith, w, e));
  raised =
      (let w = won_one d won in
      let b = won_beyond d won in
      let e = ap flags_won same in
      let f = ap times_beyond same in
      omega (arith, w, b, e, f));
  needed = λ all. ap times_beyond same ∙ won_in_need p d won empty no_hand all;
}

-- after what wins none, and before
pub in_need_after : (p q r : PassView) → WinsNoFlag p.trace q.trace → HasFree p q → WinsInNeed q r → WinsInNeed p r
in_need_after p q r none free wins = record {
  one = (let w = none.won in let one = wins.one in omega (arith, w, one));
  raised = (let w = none.won in let b = none.beyond in let raised = wins.raised in omega (arith, w, b, raised));
  needed = λ all. wins.needed (all_free_on p q free all) ∙ none.beyond;
}

pub in_need_before : (p q r : PassView) → WinsInNeed p q → WinsNoFlag q.trace r.trace → WinsInNeed p r
in_need_before p q r wins none = record {
  one = (let w = none.won in let one = wins.one in omega (arith, w, one));
  raised = (let w = none.won in let b = none.beyond in let raised = wins.raised in omega (arith, w, b, raised));
  needed = λ all. none.beyond ∙ wins.needed all;
}

-- ---- own pools

-- two slots that a pass may give birth in
record TwoFree (start : Start) (know : Know) : Type 0 where
  one : ℕ
  other : ℕ
  less : one < other
  low : other < start.shape.slots
  may : MayBear (know.own one)
  also : MayBear (know.own other)

-- a pool of two slots has them
two_pooled : (start : Start) (know : Know) (pool : List ℕ) (hand : Option ℕ) → OwnPool start know pool hand →
    2 ≤ length pool → TwoFree start know
two_pooled start know pool hand own two = go (cases_order (get_or pool 0 0) (get_or pool 1 0))
  where
    first : IsPooled start know (get_or pool 0 0)
    first = own.pooled 0 0 (omega (arith, two))

    second : IsPooled start know (get_or pool 1 0)
    second = own.pooled 1 0 (omega (arith, two))

    go : (get_or pool 0 0 ≡ get_or pool 1 0) ⊎
        ((get_or pool 0 0 < get_or pool 1 0) ⊎ (get_or pool 1 0 < get_or pool 0 0)) → TwoFree start know
    go (inl same) = absurd (own.apart 0 1 0 (omega arith) (omega (arith, two)) same)
    go (inr (inl less)) = record {
      one = get_or pool 0 0;
      other = get_or pool 1 0;
      less = less;
      low = second.0;
      may = first.1;
      also = second.1;
    }
    go (inr (inr more)) = record {
      one = get_or pool 1 0;
      other = get_or pool 0 0;
      less = more;
      low = first.0;
      may = second.1;
      also = first.1;
    }

-- a flag that is raised where the own pool has two slots
pub raised_of_two : {p : PassView} {q : Trace} {slot n : ℕ} → Did (Raise slot) p.trace q n →
    OwnPool p.trace.start (knows p.trace) p.pool p.hand → 2 ≤ length p.pool → WinsNoFlag p.trace q
raised_of_two {p} d own two =
    let free = two_pooled p.trace.start (knows p.trace) p.pool p.hand own two in
    raised_in_need d free.one free.other free.less free.low free.may free.also

reread_may : (holding : Option Holding) → MayBear holding → MayBear (reread holding)
reread_may None m = absurd m
reread_may (Some (Free stamp)) m = tt
reread_may (Some (Unlinked seen)) m = absurd m
reread_may (Some (InHand known)) m = tt

-- a slot that was stamped is raised where the own pool has two others
module _ (p q r : PassView) {slot e n : ℕ} (read : Did ReadEpoch p.trace q.trace e)
    (stamp : Did (StoreStamp slot (knows q.trace).epoch) q.trace r.trace n)
    (own : OwnPool p.trace.start (knows p.trace) p.pool p.hand) (two : 2 ≤ length p.pool) where
  may_still : (s : ℕ) → MayBear ((knows p.trace).own s) → MayBear ((knows r.trace).own s)
  may_still s may = go (cases_eq s slot)
    where
      go : (s ≡ slot) ⊎ (s ≢ slot) → MayBear ((knows r.trace).own s)
      go (inl is) =
          subst MayBear
          (sym (ap (λ (k : Know). k.own s) stamp.know ∙ ap (put (knows q.trace).own slot _) is
          ∙ put_here (knows q.trace).own slot _)) tt
      go (inr other) =
          subst MayBear
          (sym (ap (λ (k : Know). k.own s) stamp.know ∙ put_other (knows q.trace).own slot _ s other
          ∙ ap (λ (k : Know). k.own s) read.know ∙ own_read (knows p.trace) e s))
          (reread_may ((knows p.trace).own s) may)

  pub raised_after_stamp : {t : Trace} {m : ℕ} → Did (Raise slot) r.trace t m → WinsNoFlag q.trace t
  raised_after_stamp raise =
      let free = two_pooled p.trace.start (knows p.trace) p.pool p.hand own two in
      let same : r.trace.start ≡ p.trace.start = stamp.same.1 ∙ read.same.1 in
      wins_none_on (wins_none stamp refl refl)
      (raised_in_need raise free.one free.other free.less
      (subst (λ (start : Start). free.other < start.shape.slots) (sym same) free.low) (may_still free.one free.may)
      (may_still free.other free.also))
