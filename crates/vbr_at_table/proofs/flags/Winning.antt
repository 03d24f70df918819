-- The shared pool, probed word by word.
use Rattle.std.proofs.Common.{◌≡◌, ℕ, ◌+◌, ◌*◌, ◌/◌, ◌<◌, ◌≤◌, ◌≢◌, ◌==◌, Bool, true, false, cond, List, [], ◌∷◌, ◌++◌}
use Rattle.std.proofs.Common.{length, None, refl, sym, ap, ◌∙◌, subst, ◌⊎◌, inl, inr, ⊎_elim, arith}
use Rattle.std.proofs.lemmas.Bool.{cases_lt, eqb-true}
use Rattle.vbr_machine.specs.Start.{Start, IsStart}
use Rattle.vbr_words.specs.Flags.{word_of_flag, flag_words, has_flag, IsNextFlag}
use Rattle.vbr_machine.specs.Acceptance.{IsInHand, MayBear}
use Rattle.vbr_machine.specs.Knowledge.{Know}
use Rattle.vbr_machine.specs.declared.event.Step.TheVariants.{TakeFlag}
use Rattle.vbr_machine.proofs.Lemmas.{put_other}
use Rattle.vbr_slots.specs.steps.Calls.{Quiet}
use Rattle.vbr_slots.specs.pools.Pools.{hand_without}
use Rattle.vbr_slots.specs.pools.Tried.{last_tried}
use Rattle.vbr_slots.specs.views.Views.{Trace, PassView, KeepsPool, Did, knows}
use Rattle.vbr_slots.proofs.Lemmas.{did_quiet, did_seen, quiet_on, taken_new}
use Rattle.vbr_at_table.specs.costs.Gained.{gained, gained_by_now}
use Rattle.vbr_at_table.specs.costs.StepKinds.{advances, bears_in}
use Rattle.vbr_at_table.specs.costs.FlagsInNeed.{WinsNoFlag}
use Rattle.vbr_at_table.specs.hands.KeptSlots.{KeepsSlots, PoolGrows, SharesWhereFull, WinsInNeed}
use Rattle.vbr_at_table.specs.pools.Pieces.{HasSlots, LooksForSlot, Uses, WinsNone}
use Rattle.vbr_at_table.specs.pools.SharedPool.{WasOutside, ComesBefore, CameByFlag}
use Rattle.vbr_at_table.specs.costs.WithinBudget.{CountsSteps}
use Rattle.vbr_at_table.specs.declared.budget.TheConstants.{PIECE}
use Rattle.vbr_at_table.specs.declared.refusal.Refusal.TheVariants.{OutOfSteps, NoSlot}
use Rattle.vbr_at_table.proofs.flags.Gained.{gained_on, gained_same}
use Rattle.vbr_at_table.proofs.flags.Probing.{Probed, probed_lost, probed_next, probed_few}
use Rattle.vbr_at_table.proofs.returns.InTurn.{did_turn}
use Rattle.vbr_at_table.proofs.steps.StepCounts.{same_made}
use Rattle.vbr_at_table.proofs.epochs.Advancing.{given_count, given_grows, given_kept, given_shared, grows_on}
use Rattle.vbr_at_table.proofs.epochs.Advancing.{grows_same}
use Rattle.vbr_at_table.proofs.epochs.Advancing.{keeps_known, longer, same_advances, same_flags, shared_on}
use Rattle.vbr_at_table.proofs.epochs.Advancing.{slots_kept_on}
use Rattle.vbr_at_table.proofs.steps.Counting.{counts_one, counts_on, took_all}
use Rattle.vbr_at_table.proofs.flags.FlagsInNeed.{in_need_after, lost_wins_none, none_in_need, wins_none_on, wins_one}
use Rattle.vbr_at_table.proofs.reads.Shown.{came, missed, missed_before, missed_after}

-- probes after probes, where the own pool was empty
probes_on : {p q r : PassView} → LooksForSlot p q → p.pool ≡ [] → Quiet q.trace r.trace →
    advances r.trace ≡ advances q.trace → KeepsSlots q r → PoolGrows q r → SharesWhereFull 1 q r → WinsInNeed p r →
    LooksForSlot p r
probes_on {p} {q} {r} tried empty quiet still kept grows shared wins = record {
  quiet = quiet_on tried.quiet quiet;
  count = still ∙ tried.count;
  kept = slots_kept_on p q r tried.kept kept;
  grows = grows_on p q r tried.grows grows;
  shared = shared_on p q r 1 tried.shared (longer q r grows) shared;
  tries = inr (empty, tt);
  wins = wins;
}

-- so many probes were made, and none won, on a way that begins with the first slot of the word of the flag that was
-- tried last
pub record Tried (p q : PassView) (budget used start : ℕ) : Type 0 where
  pub quiet : Quiet p.trace q.trace
  pub empty : p.pool ≡ []
  pub pool : KeepsPool p q
  pub probes : LooksForSlot p q
  pub none : WinsNoFlag p.trace q.trace
  pub counts : CountsSteps p.trace q.trace 0 used
  pub within : used ≤ budget
  pub begins : start ≡ 64 * word_of_flag (last_tried p.trace)
  pub low : start < p.trace.start.shape.slots
  pub opens : IsStart p.trace.start

-- they were made once round the slots: from that first slot up to the last one, and then, up to that first one,
-- from slot 0 on;
-- and each slot before the next one to be probed was outside the shared pool
pub record Winning (p q : PassView) (budget used start next end : ℕ) : Type 0 where
  pub tried : Tried p q budget used start
  pub turn : ((end ≡ p.trace.start.shape.slots) × (start ≤ next) × (next < p.trace.start.shape.slots)) ⊎ (end ≡ start)
  pub ahead : (slot : ℕ) → slot < p.trace.start.shape.slots → start ≤ slot → slot < next →
      WasOutside p.trace q.trace slot
  pub round : end ≡ start → (slot : ℕ) → slot < p.trace.start.shape.slots → (start ≤ slot) ⊎ (slot < next) →
      WasOutside p.trace q.trace slot
  pub first : end ≡ p.trace.start.shape.slots → Probed q.trace (word_of_flag start + gained_by_now p.trace) 0 used next
  pub second : end ≡ start →
      Probed q.trace (word_of_flag start + gained_by_now p.trace) (flag_words p.trace.start.shape.slots) used next

-- what comes next is no further than the next word
pub next_low : (word slot next : ℕ) → IsNextFlag word slot next → next ≤ 64 * (slot / 64 + 1)
next_low word slot next is =
    ⊎_elim (λ (here : (word_of_flag next ≡ word_of_flag slot) × (has_flag word next ≡ true)).
    (let same = here.0 in omega arith))
    (λ (past : (word ≡ 0) × (next ≡ 64 * (slot / 64 + 1))). (let e = past.1 in omega arith)) is.place

-- one more flag was lost
module _ {p q r : PassView} {budget used start slot n : ℕ} (tried : Tried p q budget used start)
    (room : used + PIECE ≤ budget) (d : Did (TakeFlag slot) q.trace r.trace n) (lost : has_flag n slot ≡ false)
    (stays : KeepsPool q r) where
  lost_flag : (a b : Know) → cond (has_flag n slot) a b ≡ b
  lost_flag a b = ap (λ (t : Bool). cond t a b) lost

  quiet_lost : Quiet q.trace r.trace
  quiet_lost = did_quiet d (λ know. refl)

  wins_none_then : WinsNoFlag p.trace r.trace
  wins_none_then = wins_none_on tried.none (lost_wins_none d lost)

  probes_lost : LooksForSlot p r
  probes_lost =
      probes_on tried.probes tried.empty quiet_lost (same_advances d refl)
      (keeps_known q r stays (did_turn d) (λ s. ap (λ (k : Know). k.own s) (d.know ∙ lost_flag _ (knows q.trace)))
      (λ s. same_made (bears_in s) d refl))
      (grows_same q r stays.0) (inl (same_flags d refl)) (none_in_need p r wins_none_then)

  pub win_tried : Tried p r budget (used + 1) start
  win_tried = record {
    quiet = quiet_on tried.quiet quiet_lost;
    empty = tried.empty;
    pool = (stays.0 ∙ tried.pool.0, stays.1 ∙ tried.pool.1);
    probes = probes_lost;
    none = wins_none_then;
    counts = counts_on tried.counts (counts_one used d);
    within = omega arith;
    begins = tried.begins;
    low = tried.low;
    opens = tried.opens;
  }

-- it showed all slots of its word
module _ {p q r : PassView} {budget used start slot end next n : ℕ} (winning : Winning p q budget used start slot end)
    (below : slot < end) (room : used + PIECE ≤ budget) (d : Did (TakeFlag slot) q.trace r.trace n)
    (lost : has_flag n slot ≡ false) (then : IsNextFlag n slot next) (stays : KeepsPool q r) where
  more : Quiet q.trace r.trace
  more = did_quiet d (λ know. refl)

  still : {s : ℕ} → WasOutside p.trace q.trace s → WasOutside p.trace r.trace s
  still w = missed_before w more

  -- those of its word, and before the next one
  told : (s : ℕ) → s < p.trace.start.shape.slots → slot ≤ s → s < next → WasOutside p.trace r.trace s
  told s in_shape from less =
      let past = next_low n slot next then in
      let same : s / 64 ≡ slot / 64 = omega (arith, past, from, less) in
      missed_after winning.tried.quiet
      (missed d lost s (subst (λ (start : Start). s < start.shape.slots) (sym winning.tried.quiet.same.start)
      in_shape) same
      (then.before s same less))

  ahead_next : (s : ℕ) → s < p.trace.start.shape.slots → start ≤ s → s < next → WasOutside p.trace r.trace s
  ahead_next s in_shape from less =
      ⊎_elim (λ (earlier : s < slot). still (winning.ahead s in_shape from earlier))
      (λ (later : slot ≤ s). told s in_shape later less) (cases_lt s slot)

  round_next : end ≡ start → (s : ℕ) → s < p.trace.start.shape.slots → (start ≤ s) ⊎ (s < next) →
      WasOutside p.trace r.trace s
  round_next over s in_shape (inl from) = still (winning.round over s in_shape (inl from))
  round_next over s in_shape (inr less) =
      ⊎_elim (λ (earlier : s < slot). still (winning.round over s in_shape (inr earlier)))
      (λ (later : slot ≤ s). told s in_shape later less) (cases_lt s slot)

  slot_low : slot < q.trace.start.shape.slots
  slot_low =
      let same : q.trace.start.shape.slots ≡ p.trace.start.shape.slots =
      ap (λ (start : Start). start.shape.slots) winning.tried.quiet.same.start in
      ⊎_elim (λ (first : (end ≡ p.trace.start.shape.slots) × (start ≤ slot) × (slot < p.trace.start.shape.slots)).
      (let less = first.2 in omega (arith, same, less)))
      (λ (over : end ≡ start). (let less = winning.tried.low in omega (arith, same, over, less, below))) winning.turn

  opens_here : IsStart q.trace.start
  opens_here = subst IsStart (sym winning.tried.quiet.same.start) winning.tried.opens

  -- the search goes on there, if that is a slot
  pub win_next : next < p.trace.start.shape.slots → Winning p r budget (used + 1) start next end
  win_next in_shape = record {
    tried = win_tried winning.tried room d lost stays;
    turn = ⊎_elim
        (λ (first : (end ≡ p.trace.start.shape.slots) × (start ≤ slot) × (slot < p.trace.start.shape.slots)).
        inl (
          first.0,
          ⊎_elim (λ (here : (word_of_flag next ≡ word_of_flag slot) × (has_flag n next ≡ true)).
              (let same = here.0 in let b = winning.tried.begins in let f = first.1 in omega (arith, same, b, f)))
              (λ (past : (n ≡ 0) × (next ≡ 64 * (slot / 64 + 1))).
              (let e = past.1 in let f = first.1 in omega (arith, e, f))) then.place,
          in_shape,
        )) (λ (over : end ≡ start). inr over) winning.turn;
    ahead = ahead_next;
    round = round_next;
    first = λ is.
        probed_next opens_here d slot_low lost (word_of_flag start + gained_by_now p.trace) 0 used next
        (winning.first is)
        then;
    second = λ over.
        probed_next opens_here d slot_low lost (word_of_flag start + gained_by_now p.trace)
        (flag_words p.trace.start.shape.slots) used next (winning.second over) then;
  }

  -- or with slot 0, if there is none behind the last one
  pub win_round : p.trace.start.shape.slots ≤ next → Winning p r budget (used + 1) start 0 start
  win_round past = record {
    tried = win_tried winning.tried room d lost stays;
    turn = inr refl;
    ahead = λ s in_shape from less. absurd (omega (arith, less));
    round = λ over s in_shape which.
        ⊎_elim (λ (from : start ≤ s). ahead_next s in_shape from (omega (arith, in_shape, past)))
        (λ (less : s < 0). absurd (omega (arith, less))) which;
    first = λ is. absurd (omega (arith, is, winning.tried.low));
    second = λ over. inl few;
  }
    where
      -- this was no second turn, since that ends before the first slot of a word
      first : (end ≡ p.trace.start.shape.slots) × (start ≤ slot) × (slot < p.trace.start.shape.slots)
      first = ⊎_elim
          (λ (first : (end ≡ p.trace.start.shape.slots) × (start ≤ slot) × (slot < p.trace.start.shape.slots)). first)
          (λ (over : end ≡ start).
          (let low = next_low n slot next then in
          let b = winning.tried.begins in
          let l = winning.tried.low in
          absurd (omega (arith, low, b, l, over, below, past)))) winning.turn

      few : word_of_flag start + gained_by_now p.trace + (used + 1)
          ≤ flag_words p.trace.start.shape.slots + word_of_flag 0 + gained_by_now r.trace
      few =
          let lost_first =
          probed_lost opens_here d slot_low lost (word_of_flag start + gained_by_now p.trace) 0 used
          (winning.first first.0) in let low = first.2 in omega (arith, lost_first, low)

-- no more probes were made than there are flag words, and one for each slot that others took out of the shared
-- pool; and one more that won
few : {p q : PassView} {budget used start slot end : ℕ} → Winning p q budget used start slot end → slot < end →
    used ≤ flag_words p.trace.start.shape.slots + gained p.trace q.trace
few {p} {q} {used = used} {start = start} {slot = slot} {end = end} winning below =
    let same = gained_same winning.tried.quiet.same in
    ⊎_elim
    (λ (first : (end ≡ p.trace.start.shape.slots) × (start ≤ slot) × (slot < p.trace.start.shape.slots)).
    (let most = probed_few q.trace (word_of_flag start + gained_by_now p.trace) 0 used slot (winning.first first.0) in
    let low = first.2 in
    omega (arith, most, low, same)))
    (λ (over : end ≡ start).
    (let most = probed_few q.trace (word_of_flag start + gained_by_now p.trace) (flag_words p.trace.start.shape.slots)
    used slot (winning.second over) in let b = winning.tried.begins in omega (arith, most, b, over, below, same)))
    winning.turn

win_few : {p q : PassView} {t : Trace} {budget used start slot end n : ℕ} → Winning p q budget used start slot end →
    slot < end → Did (TakeFlag slot) q.trace t n →
    used + 1 ≤ flag_words p.trace.start.shape.slots + 1 + gained p.trace t
win_few {p} {q} {t} winning below d =
    let most = few winning below in let more = gained_on p.trace q.trace t (did_seen d) in omega (arith, most, more)

-- a flag was won
pub win_done : {p q r t : PassView} {budget used start slot end n : ℕ} → Winning p q budget used start slot end →
    slot < end → p.pool ≡ [] → p.hand ≡ None → used + PIECE ≤ budget → Did (TakeFlag slot) q.trace r.trace n →
    has_flag n slot ≡ true → KeepsPool q r → t.trace ≡ r.trace → t.pool ≡ r.pool ++ slot ∷ [] →
    t.hand ≡ hand_without slot r.hand →
    HasSlots p t budget (used + 1)
win_done {p} {q} {r} {t} {budget} {used} {start} {slot} {end} winning below empty no_hand room d set stays same pool
    hand =
    let one : t.pool ≡ slot ∷ [] = pool
    ∙ ap (λ (l : List ℕ). l ++ slot ∷ []) (stays.0 ∙ winning.tried.pool.0 ∙ empty) in
    record {
      uses = record {
        counts =
            subst (λ (x : Trace). CountsSteps p.trace x 0 (used + 1)) (sym same)
            (counts_on winning.tried.counts (counts_one used d));
        within = omega arith;
        at_most = omega arith;
      };
      hand = hand ∙ ap (hand_without slot) (stays.1 ∙ winning.tried.pool.1 ∙ no_hand);
      won = inr (
        empty,
        slot,
        one,
        subst (λ (x : Trace). CameByFlag p.trace x slot) (sym same)
            (came winning.tried.quiet d set
            (λ s in_shape before. missed_before (first s in_shape before) (did_quiet d (λ know. refl)))),
      );
      some = λ none. not_empty slot (sym one ∙ none);
      room = (let e = ap length one in omega (arith, e));
      few = λ empty.
          subst (λ (x : Trace). used + 1 ≤ flag_words p.trace.start.shape.slots + 1 + gained p.trace x) (sym same)
          (win_few winning below d);
    }
  where
    not_empty : (s : ℕ) → s ∷ [] ≡ [] → ⊥
    not_empty s e = absurd (cc)

    first : (s : ℕ) → s < p.trace.start.shape.slots → ComesBefore (word_of_flag (last_tried p.trace)) s slot →
        WasOutside p.trace q.trace s
    first s in_shape (inl here) =
        let b = winning.tried.begins in let from = here.0 in winning.ahead s in_shape (omega (arith, b, from)) here.1
    first s in_shape (inr past) = ⊎_elim
        (λ (first : (end ≡ p.trace.start.shape.slots) × (start ≤ slot) × (slot < p.trace.start.shape.slots)).
        (let b = winning.tried.begins in let f = first.1 in let early = past.0 in absurd (omega (arith, b, f, early))))
        (λ (over : end ≡ start).
        winning.round over s in_shape
        (⊎_elim (λ (from : 64 * word_of_flag (last_tried p.trace) ≤ s).
        (let b = winning.tried.begins in inl (omega (arith, b, from)))) (λ (less : s < slot). inr less) past.1))
        winning.turn

-- the slot is all that the pass could take
pub win_probes : {p q r t : PassView} {budget used start slot end n : ℕ} → Winning p q budget used start slot end →
    p.hand ≡ None → Did (TakeFlag slot) q.trace r.trace n → has_flag n slot ≡ true → KeepsPool q r →
    t.trace ≡ r.trace → t.pool ≡ r.pool ++ slot ∷ [] → t.hand ≡ hand_without slot r.hand → LooksForSlot p t
win_probes {p} {q} {r} {t} {slot = slot} {n = n} winning no_hand d set stays same pool hand =
    probes_on winning.tried.probes winning.tried.empty (subst (Quiet q.trace) (sym same) (did_quiet d (λ know. refl)))
    (given_count d refl refl refl refl new others stays same pool hand)
    (given_kept d refl refl refl refl new others stays same pool hand)
    (given_grows d refl refl refl refl new others stays same pool hand)
    (given_shared d refl refl refl refl new others stays same pool hand)
    (in_need_after p q t winning.tried.none winning.tried.probes.kept.free
    (wins_one q t d set (winning.tried.pool.0 ∙ winning.tried.empty) (winning.tried.pool.1 ∙ no_hand) same))
  where
    won_flag : (a b : Know) → cond (has_flag n slot) a b ≡ a
    won_flag a b = ap (λ (t : Bool). cond t a b) set

    -- a slot in the shared pool was in no hand
    new : ¬ (IsInHand ((knows q.trace).own slot))
    new held = subst IsInHand
        (taken_new q.trace r.trace slot n (subst IsStart (sym winning.tried.quiet.same.start) winning.tried.opens) d
        set)
        held

    others : (s : ℕ) → s ≢ slot → MayBear ((knows r.trace).own s) → MayBear ((knows q.trace).own s)
    others s other m =
        subst MayBear
        (ap (λ (k : Know). k.own s) (d.know ∙ won_flag _ (knows q.trace)) ∙ put_other (knows q.trace).own _ _ s other) m

-- or none was won: for want of steps, or once round
pub unwon_probes : {p q : PassView} {budget used start slot end : ℕ} → Winning p q budget used start slot end →
    LooksForSlot p q
unwon_probes winning = winning.tried.probes

-- what the probes used is within the budget
unwon_uses : {p q : PassView} {budget used start : ℕ} → Tried p q budget used start → Uses p q budget 0 used budget
unwon_uses tried = record {
  counts = tried.counts;
  within = tried.within;
  at_most = (let w = tried.within in omega (arith, w));
}

pub win_short : {p q : PassView} {budget used start slot end : ℕ} → Winning p q budget used start slot end →
    slot < end → p.pool ≡ [] → budget < used + PIECE → WinsNone p q budget (OutOfSteps used, used)
win_short winning below empty short = record {
  uses = unwon_uses winning.tried;
  empty = empty;
  pool = winning.tried.pool;
  why = record { took = took_all winning.tried.counts; within = winning.tried.within; short = short };
  enough = (let most = few winning below in omega (arith, most, short));
}

pub win_no_slot : {p q : PassView} {budget used start slot end : ℕ} → Winning p q budget used start slot end →
    end ≤ slot → p.pool ≡ [] → WinsNone p q budget (NoSlot, used)
win_no_slot {p} {q} {start = start} {slot = slot} {end = end} winning behind empty =
    let over : end ≡ start =
    ⊎_elim (λ (first : (end ≡ p.trace.start.shape.slots) × (start ≤ slot) × (slot < p.trace.start.shape.slots)).
    (let e = first.0 in let low = first.2 in absurd (omega (arith, e, low, behind)))) (λ (over : end ≡ start). over)
    winning.turn in
    record {
      uses = unwon_uses winning.tried;
      empty = empty;
      pool = winning.tried.pool;
      why = record {
        empty = empty;
        still = winning.tried.pool.0 ∙ empty;
        outside = λ s in_shape.
            winning.round over s in_shape
            (⊎_elim (λ (earlier : s < start). inr (omega (arith, earlier, behind, over)))
            (λ (later : start ≤ s). inl later) (cases_lt s start));
      };
      enough = tt;
    }

-- a list that has no length is empty
pub none_in : (pool : List ℕ) → (length pool == 0) ≡ true → pool ≡ []
none_in pool e = let z = eqb-true (length pool) 0 e in go pool z
  where
    go : (l : List ℕ) → length l ≡ 0 → l ≡ []
    go [] z = refl
    go (x ∷ xs) z = absurd (omega arith)
