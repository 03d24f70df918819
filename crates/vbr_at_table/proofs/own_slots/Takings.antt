-- A call that takes a slot, from its pieces.
-- A flag is won, or the own pool has slots; a slot is chosen; and a node is born there.
use Rattle.std.proofs.Common.{◌≡◌, ◌≢◌, ℕ, zero, suc, ◌+◌, ◌<◌, ◌≤◌, Bool, not, cond, List, [], ◌∷◌, length, Result, Ok}
use Rattle.std.proofs.Common.{Err, refl, sym, ap, ◌∙◌, subst, inl, inr, ⊎_elim, eq-eqb, arith}
use Rattle.std.specs.Prelude.{◌⊎◌, Contains, IfOk, IfErr, None}
use Rattle.vbr_slots.specs.declared.pass.TheConstants.{POOL}
use Rattle.std.proofs.lemmas.List.Elements.{Contains-get_or}
use Rattle.vbr_machine.specs.Runs.{Begins}
use Rattle.vbr_slots.specs.steps.Alone.{IsAlone}
use Rattle.vbr_slots.specs.steps.Calls.{Quiet, Took}
use Rattle.vbr_slots.specs.pools.Pools.{without}
use Rattle.vbr_slots.specs.views.Views.{PassView, knows}
use Rattle.vbr_slots.proofs.Lemmas.{quiet_on}
use Rattle.vbr_at_table.specs.costs.Advances.{AdvancesWhereNeeded}
use Rattle.vbr_at_table.specs.costs.Budgets.{NeedsMore, probes_lost, steps_to_take, steps_to_take_among, steps_to_win}
use Rattle.vbr_at_table.specs.costs.Gained.{gained}
use Rattle.vbr_at_table.specs.hands.Hands.{HandView}
use Rattle.vbr_at_table.specs.hands.KeptSlots.{KeepsSlots, SharesWhereFull, TriesNoFlag, TriesWhereEmpty, WinsInNeed}
use Rattle.vbr_at_table.specs.pools.Pieces.{BearsNone, Chooses, ChoosesNone, HasSlots, IsBorn, IsChosen, IsShortOrSpent}
use Rattle.vbr_at_table.specs.pools.Pieces.{LooksForSlot, Uses, WinsNone, told_steps}
use Rattle.vbr_at_table.specs.pools.Refusals.{LeavesPool, RefusesTake, TakeIsRefused, TellsSpent}
use Rattle.vbr_at_table.specs.pools.SharedPool.{CameByFlag}
use Rattle.vbr_at_table.specs.pools.Taking.{IsOldest, IsTaken, Takes}
use Rattle.vbr_at_table.specs.declared.refusal.Refusal.{Refusal}
use Rattle.vbr_at_table.specs.declared.refusal.Refusal.TheVariants.{OutOfSteps, NoSlot, EpochSpent}
use Rattle.vbr_at_table.proofs.epochs.Advancing.{slots_kept_on, longer, needed_before, needed_since, shared_on}
use Rattle.vbr_at_table.proofs.epochs.Advancing.{shares_more}
use Rattle.vbr_at_table.proofs.steps.Counting.{uses_on, took_all}
use Rattle.vbr_at_table.proofs.flags.FlagsInNeed.{in_need_before}
use Rattle.vbr_at_table.proofs.flags.Gained.{alone_gained, gained_on, more_lost, none_lost}
use Rattle.vbr_at_table.proofs.reads.Shown.{came_before}

-- what the call tells, whatever its result
pub record TakesOn (p q : PassView) (budget : ℕ) (result : Result (HandView × ℕ) (Refusal × ℕ)) : Type 0 where
  pub took : Took p.trace q.trace (told_steps result)
  pub takes : Takes p q budget
  pub taken : IfOk result (λ told. IsTaken p q told.0)
  pub refused : IfErr result (λ told. RefusesTake p q budget told.0)

-- ---- no slot is won

-- a refusal that says so whatever others do says so to a pass that was alone
alone_enough : (p q : PassView) (budget : ℕ) (refusal : Refusal) →
    NeedsMore (steps_to_take_among p.trace.start p.pool (gained p.trace q.trace)) budget refusal →
    IsAlone p.trace q.trace → NeedsMore (steps_to_take p.trace.start p.pool) budget refusal
alone_enough p q budget (OutOfSteps used) short alone =
    let none = none_lost p.pool (gained p.trace q.trace) (alone_gained p.trace q.trace alone) in
    omega (arith, short, none)
alone_enough p q budget NoSlot short alone = tt
alone_enough p q budget (EpochSpent epoch) short alone = tt

-- the steps to win a slot are fewer than those of a call that takes one
win_enough : (p : PassView) (budget gains : ℕ) (refusal : Refusal) → p.pool ≡ [] →
    NeedsMore (steps_to_win p.trace.start + gains) budget refusal →
    NeedsMore (steps_to_take_among p.trace.start p.pool gains) budget refusal
win_enough p budget gains (OutOfSteps used) empty short =
    let P : List ℕ → Type 0 = λ pool. budget < steps_to_take_among p.trace.start pool gains + 7 in
    subst P (sym empty) (omega (arith, short))
win_enough p budget gains NoSlot empty short = tt
win_enough p budget gains (EpochSpent epoch) empty short = tt

module _ (p q : PassView) (budget : ℕ) (told : Refusal × ℕ) (first : LooksForSlot p q)
    (none : WinsNone p q budget told) where
  unwon_takes : Takes p q budget
  unwon_takes = record {
    steps = record { steps = told.1; within = none.uses.within; took = took_all none.uses.counts };
    quiet = first.quiet;
    kept = first.kept;
    one = (let low = longer p q first.grows in omega (arith, low));
    shared = shares_more p q first.shared;
    tries = first.tries;
    wins = first.wins;
    advances = inl first.count;
  }

  unwon_took : Took p.trace q.trace told.1
  unwon_took = took_all none.uses.counts

  unwon_among : NeedsMore (steps_to_take_among p.trace.start p.pool (gained p.trace q.trace)) budget told.0
  unwon_among = win_enough p budget (gained p.trace q.trace) told.0 none.empty none.enough

  unwon_refused : p.hand ≡ None → RefusesTake p q budget told.0
  unwon_refused empty = record {
    why = none.why;
    pool = inl none.pool.0;
    hand = none.pool.1 ∙ empty;
    ready = λ some. absurd (some none.empty);
    enough = alone_enough p q budget told.0 unwon_among;
    among = unwon_among;
  }

  pub unwon : p.hand ≡ None → TakesOn p q budget (Err told)
  unwon empty = record { took = unwon_took; takes = unwon_takes; taken = tt; refused = unwon_refused empty }

-- ---- the own pool has slots

module _ (p q r : PassView) (budget used : ℕ) (first : LooksForSlot p q) (begun : HasSlots p q budget used)
    (then : Chooses q r) where
  quiet_all : Quiet p.trace r.trace
  quiet_all = quiet_on first.quiet then.quiet

  same_length : length r.pool ≡ length q.pool
  same_length = ap length then.pool.0

  -- what is left where it ends here
  leaves : LeavesPool p r
  leaves =
      ⊎_elim (λ (x : (q.pool ≡ p.pool) × (p.pool ≢ []) × (used ≡ 0)). inl (then.pool.0 ∙ x.0))
      (λ (x : (p.pool ≡ []) × (slot : ℕ) × (q.pool ≡ slot ∷ []) × CameByFlag p.trace q.trace slot).
      inr (x.0, x.1, then.pool.0 ∙ x.2, came_before x.3 then.quiet)) begun.won

  advances_all : AdvancesWhereNeeded p r
  advances_all = needed_since {p = p} {q = q} {r = r} first.quiet first.count first.kept.free then.advances

  kept_all : KeepsSlots p r
  kept_all = slots_kept_on p q r first.kept then.kept

  shared_all : SharesWhereFull 1 p r
  shared_all = shared_on p q r 1 first.shared (let e = same_length in omega arith) then.shared

  -- what comes after tries no flag
  tries_on : (t : PassView) → TriesNoFlag q t → TriesWhereEmpty p t
  tries_on t none =
      ⊎_elim (λ (same : TriesNoFlag p q). inl (none ∙ same))
      (λ (where_empty : (p.pool ≡ []) × Unit {0}). inr where_empty) first.tries

  wins_all : WinsInNeed p r
  wins_all = in_need_before p q r first.wins then.wins

  grown : length p.pool ≤ length r.pool
  grown = let low = longer p q first.grows in let e = same_length in omega (arith, low, e)

  all_uses : {since most : ℕ} → Uses q r budget used since most → Uses p r budget 0 since (budget + most)
  all_uses uses = uses_on begun.uses uses

  stops_takes : {since most : ℕ} → Uses q r budget used since most → Takes p r budget
  stops_takes {since} uses = record {
    steps = record { steps = since; within = uses.within; took = took_all (all_uses uses).counts };
    quiet = quiet_all;
    kept = kept_all;
    one = (let low = grown in omega (arith, low));
    shared = shares_more p r shared_all;
    tries = tries_on r then.tries;
    wins = wins_all;
    advances = advances_all;
  }

  -- the steps to win a slot, and those that are made at most for a slot of the own pool, are at most those of a
  -- call that takes a slot
  few_own : p.pool ≢ [] → used + length q.pool ≤ POOL
  few_own some =
      ⊎_elim (λ (x : (q.pool ≡ p.pool) × (p.pool ≢ []) × (used ≡ 0)).
      (let none = x.2 in let room = begun.room in omega (arith, none, room)))
      (λ (x : (p.pool ≡ []) × (slot : ℕ) × (q.pool ≡ slot ∷ []) × CameByFlag p.trace q.trace slot). absurd (some x.0))
      begun.won

  won_few : used + (length q.pool + 4) ≤ steps_to_take_among p.trace.start p.pool (gained p.trace q.trace)
  won_few =
      ⊎_elim (λ (x : (q.pool ≡ p.pool) × (p.pool ≢ []) × (used ≡ 0)). at_most p.pool x.1 (few_own x.1))
      (λ (x : (p.pool ≡ []) × (slot : ℕ) × (q.pool ≡ slot ∷ []) × CameByFlag p.trace q.trace slot).
      shared x.0 (ap length x.2) (begun.few x.0)) begun.won
    where
      at_most : (pool : List ℕ) → pool ≢ [] → used + length q.pool ≤ POOL →
          used + (length q.pool + 4) ≤ steps_to_take_among p.trace.start pool (gained p.trace q.trace)
      at_most [] some few = absurd (some refl)
      at_most (slot ∷ pool) some few = omega (arith, few)

      shared : p.pool ≡ [] → length q.pool ≡ 1 → used ≤ steps_to_win p.trace.start + gained p.trace q.trace →
          used + (length q.pool + 4) ≤ steps_to_take_among p.trace.start p.pool (gained p.trace q.trace)
      shared empty one few =
          let P : List ℕ → Type 0 =
          λ pool. used + (length q.pool + 4) ≤ steps_to_take_among p.trace.start pool (gained p.trace q.trace) in
          subst P (sym empty) (omega (arith, one, few))

  -- and so it is of what was seen later
  few_later : (t : PassView) → Begins q.trace.seen t.trace.seen →
      used + (length q.pool + 4) ≤ steps_to_take_among p.trace.start p.pool (gained p.trace t.trace)
  few_later t b =
      let few = won_few in
      let more = more_lost p.pool (gained p.trace q.trace) (gained p.trace t.trace)
      (gained_on p.trace q.trace t.trace b) in
      omega (arith, few, more)

  -- no slot was chosen
  module _ (told : Refusal × ℕ) (none : ChoosesNone q r budget used told) where
    unchosen_took : Took p.trace r.trace told.1
    unchosen_took = took_all (all_uses none.uses).counts

    why_none : (refusal : Refusal) → IsShortOrSpent r budget told.1 refusal → TakeIsRefused p r budget refusal
    why_none (OutOfSteps n) why =
        subst (λ (n : ℕ). TakeIsRefused p r budget (OutOfSteps n)) (sym why.0)
        (record { took = unchosen_took; within = none.uses.within; short = why.1 })
    why_none NoSlot why = absurd why
    why_none (EpochSpent e) why = (why.0, record { steps = told.1; room = why.1; took = unchosen_took })

    ready_none : (refusal : Refusal) → IsShortOrSpent r budget told.1 refusal → p.pool ≢ [] → 80 ≤ budget →
        TellsSpent refusal
    ready_none (OutOfSteps n) why some ample =
        let few = few_own some in
        let made = none.uses.at_most in
        let short = why.1 in
        absurd (omega (arith, few, made, short, ample))
    ready_none NoSlot why some ample = absurd why
    ready_none (EpochSpent e) why some ample = tt

    among_none : (refusal : Refusal) → IsShortOrSpent r budget told.1 refusal →
        NeedsMore (steps_to_take_among p.trace.start p.pool (gained p.trace r.trace)) budget refusal
    among_none (OutOfSteps n) why =
        let most = few_later r then.quiet.seen in
        let made = none.uses.at_most in
        let short = why.1 in
        omega (arith, most, short, made)
    among_none NoSlot why = tt
    among_none (EpochSpent e) why = tt

    unchosen_refused : RefusesTake p r budget told.0
    unchosen_refused = record {
      why = why_none told.0 none.why;
      pool = leaves;
      hand = then.pool.1 ∙ begun.hand;
      ready = ready_none told.0 none.why;
      enough = alone_enough p r budget told.0 (among_none told.0 none.why);
      among = among_none told.0 none.why;
    }

    pub unchosen : TakesOn p r budget (Err told)
    unchosen =
        record { took = unchosen_took; takes = stops_takes none.uses; taken = tt; refused = unchosen_refused }

  -- a slot was chosen, and then an incarnation was to be born there
  module _ (t : PassView) (at : ℕ × ℕ) (since : ℕ) (chosen : IsChosen q r budget used (at, since)) where
    abbrev slot : ℕ
    slot = at.1

    there : Contains r.pool slot
    there = subst (Contains r.pool) chosen.below.1 (Contains-get_or r.pool at.0 0 chosen.below.0)

    one : (s : ℕ) → Contains (s ∷ []) slot → s ≡ slot
    one s (zero, low, is) = is
    one s (suc k, low, is) = absurd (omega arith)

    gone : (s : ℕ) → s ≡ slot → without slot (s ∷ []) ≡ []
    gone s is = ap (λ (b : Bool). cond (not b) (s ∷ []) []) (eq-eqb s slot is)

    -- the slot that was chosen was in the pool, or came
    from : (birth : ℕ) → Quiet r.trace t.trace → IsOldest (knows t.trace) r.pool slot birth →
        IsOldest (knows t.trace) p.pool slot birth ⊎ ((p.pool ≡ []) × CameByFlag p.trace t.trace slot)
    from birth more oldest =
        ⊎_elim (λ (x : (q.pool ≡ p.pool) × (p.pool ≢ []) × (used ≡ 0)).
        inl (subst (λ (l : List ℕ). IsOldest (knows t.trace) l slot birth) (then.pool.0 ∙ x.0) oldest))
        (λ (x : (p.pool ≡ []) × (s : ℕ) × (q.pool ≡ s ∷ []) × CameByFlag p.trace q.trace s).
        inr (
          x.0,
          subst (CameByFlag p.trace t.trace)
              (one x.1 (subst (λ (l : List ℕ). Contains l slot) (then.pool.0 ∙ x.2) there))
              (came_before x.3 (quiet_on then.quiet more)),
        )) begun.won

    rest : t.pool ≡ without slot r.pool → t.pool ≡ without slot p.pool
    rest is =
        ⊎_elim (λ (x : (q.pool ≡ p.pool) × (p.pool ≢ []) × (used ≡ 0)). is ∙ ap (without slot) (then.pool.0 ∙ x.0))
        (λ (x : (p.pool ≡ []) × (s : ℕ) × (q.pool ≡ s ∷ []) × CameByFlag p.trace q.trace s).
        is ∙ ap (without slot) (then.pool.0 ∙ x.2)
        ∙ gone x.1 (one x.1 (subst (λ (l : List ℕ). Contains l slot) (then.pool.0 ∙ x.2) there))
        ∙ sym (ap (without slot) x.0)) begun.won

    -- what was used before the birth
    chosen_few : Quiet r.trace t.trace → since + 1 ≤ steps_to_take_among p.trace.start p.pool (gained p.trace t.trace)
    chosen_few last =
        let most = few_later t (quiet_on then.quiet last).seen in
        let made = chosen.uses.at_most in
        omega (arith, most, made)

    -- it was born there
    module _ (told : HandView × ℕ) (born : IsBorn r t slot budget since told) where
      born_took : Took p.trace t.trace told.1
      born_took = took_all (uses_on (all_uses chosen.uses) born.uses).counts

      born_takes : Takes p t budget
      born_takes = record {
        steps = record { steps = told.1; within = born.uses.within; took = born_took };
        quiet = quiet_on quiet_all born.leaves.quiet;
        kept = slots_kept_on p r t kept_all born.leaves.kept;
        one = (let low = grown in let one = born.leaves.one in omega (arith, low, one));
        shared = shared_then shared_all;
        tries = tries_on t (born.leaves.tries ∙ then.tries);
        wins = in_need_before p r t wins_all born.leaves.wins;
        advances = needed_before {p = p} {q = r} {r = t} advances_all born.leaves.quiet.seen born.leaves.quiet.is_run
            born.leaves.advances;
      }
        where
          shared_then : SharesWhereFull 1 p r → SharesWhereFull 2 p t
          shared_then (inl same) = inl (born.leaves.flags ∙ same)
          shared_then (inr full) = inr (let one = born.leaves.one in omega (arith, full, one))

      born_taken : IsTaken p t told.0
      born_taken = record {
        from = subst
            (λ (s : ℕ). IsOldest (knows t.trace) p.pool s told.0.birth ⊎ ((p.pool ≡ []) × CameByFlag p.trace t.trace s))
            (sym born.slot) (from told.0.birth born.leaves.quiet born.oldest);
        births = record {
          in_hand = born.births.in_hand;
          birth = born.births.birth;
          above = born.births.above;
          rest = subst (λ (s : ℕ). t.pool ≡ without s p.pool) (sym born.slot)
              (rest (subst (λ (s : ℕ). t.pool ≡ without s r.pool) born.slot born.births.rest));
          room = born.births.room;
        };
        few = λ alone.
            record {
              steps = told.1;
              within = (let few = chosen_few born.leaves.quiet in
                  let none = none_lost p.pool (gained p.trace t.trace) (alone_gained p.trace t.trace alone) in
                  let is = born.sum in
                  omega (arith, few, none, is));
              took = born_took;
            };
        among = (let few = chosen_few born.leaves.quiet in
            let is = born.sum in
            let took = born_took.made in
            omega (arith, few, is, took));
      }

    -- or it wasn't
    module _ (told : Refusal × ℕ) (none : BearsNone r t budget since told) where
      at_end : (P : PassView → Type 0) → P r → P t
      at_end P x = subst P (sym none.same) x

      unborn_took : Took p.trace t.trace told.1
      unborn_took = took_all (uses_on (all_uses chosen.uses) none.short.uses).counts

      unborn_takes : Takes p t budget
      unborn_takes = at_end (λ (x : PassView). Takes p x budget) (stops_takes chosen.uses)

      unborn_refused : RefusesTake p t budget told.0
      unborn_refused = subst (RefusesTake p t budget) (sym none.short.why) (record {
        why = record { took = unborn_took; within = none.short.uses.within; short = none.short.short };
        pool = at_end (LeavesPool p) leaves;
        hand = at_end (λ (x : PassView). x.hand ≡ None) (then.pool.1 ∙ begun.hand);
        ready = λ some ample.
            (let few = few_own some in
            let made = chosen.uses.at_most in
            let used = none.short.uses.at_most in
            let short = none.short.short in
            absurd (omega (arith, few, made, used, short, ample)));
        enough = alone_enough p t budget (OutOfSteps told.1) unborn_among;
        among = unborn_among;
      })
        where
          unborn_among : budget < steps_to_take_among p.trace.start p.pool (gained p.trace t.trace) + 7
          unborn_among =
              let same : gained p.trace t.trace ≡ gained p.trace r.trace =
              ap (λ (x : PassView). gained p.trace x.trace) none.same in
              let lost : probes_lost p.pool (gained p.trace t.trace) ≡ probes_lost p.pool (gained p.trace r.trace) =
              ap (probes_lost p.pool) same in
              let most = few_later r then.quiet.seen in
              let made = chosen.uses.at_most in
              let used = none.short.uses.at_most in
              let short = none.short.short in
              omega (arith, lost, most, made, used, short)

    -- whatever came of it
    pub ends : (result : Result (HandView × ℕ) (Refusal × ℕ)) → IfOk result (IsBorn r t slot budget since) →
        IfErr result (BearsNone r t budget since) → TakesOn p t budget result
    ends (Ok told) born none =
        record { took = born_took told born; takes = born_takes told born; taken = born_taken told born; refused = tt }
    ends (Err told) born none = record {
      took = unborn_took told none;
      takes = unborn_takes told none;
      taken = tt;
      refused = unborn_refused told none;
    }
