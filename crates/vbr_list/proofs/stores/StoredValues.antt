-- A store, or an insert, at its end: what it tells, answered or refused.
use Rattle.vbr_list.proofs.Names.{◌≡◌, ℕ, ◌+◌, ◌*◌, ◌≤◌, Bool, true, false, Option, Some, None, Ok, Err, IfOk, inl}
use Rattle.vbr_list.proofs.Names.{inr, refl, subst, sym, ap, ◌∙◌, arith, mul-le, List, Absent, AdvancesWhereNeeded}
use Rattle.vbr_list.proofs.Names.{answer_unstored, AnswersHeld, Begins, BoundsOfInsert, Call, CallsAs, CallsStore}
use Rattle.vbr_list.proofs.Names.{CallsUpdate, Changed, ChangedAsWanted, counts_on, CountsWithin, disturbed}
use Rattle.vbr_list.proofs.Names.{enough_past, enough_to_insert, enough_to_insert_among, enough_to_store}
use Rattle.vbr_list.proofs.Names.{enough_to_unlist, Exactly, Get, Ghosts, given_call, had_on, HandView, HasAllButOne}
use Rattle.vbr_list.proofs.Names.{HasPrepared, HasStill, HasUnlessStored, HasUnpublished, in_need_before, Insert}
use Rattle.vbr_list.proofs.Names.{insert_costs, insert_costs_among, IsAlone, IsRefusedStore, IsRun, KeepsSlots}
use Rattle.vbr_list.proofs.Names.{LacksSteps, LeavesReplaced, LeavesRoom, listed_for, longer, Made, MadeTwo, Makes}
use Rattle.vbr_list.proofs.Names.{MayUpdate, needed_before, NewValue, Otherwise, pass_in, PassLaw, PassView}
use Rattle.vbr_list.proofs.Names.{PendingCall, Prepares, Quiet, quiet_on, Refusal, Remove, replaced, RunsShort}
use Rattle.vbr_list.proofs.Names.{SaysUnstored, SearchedFor, Searches, searches_more, SearchesInVain, shared_on}
use Rattle.vbr_list.proofs.Names.{shares_more, SharesWhereFull, slots_kept_on, steps_for_slot, steps_to_compare}
use Rattle.vbr_list.proofs.Names.{steps_to_prepare, steps_to_update, steps_to_value, store_costs, store_costs_among}
use Rattle.vbr_list.proofs.Names.{stored_call, stored_calls, stored_in, StoredIn, StoredSoon, StoresHeld}
use Rattle.vbr_list.proofs.Names.{StoresOrInserts, StoresWanted, storing_calls, Sum, TakesNone, TakesNoSlot}
use Rattle.vbr_list.proofs.Names.{told_otherwise, took_all, TookWithin, Trace, trace_in, TriesFor, TriesOnlyWhere}
use Rattle.vbr_list.proofs.Names.{Unchanged, Unstored, value_after, value_by, Wanted, wants, WasWanted, WasWantedFor}
use Rattle.vbr_list.proofs.Names.{WinsInNeed}
use Rattle.vbr_at_table.specs.declared.refusal.Refusal.TheVariants.{OutOfSteps as Short}
use Rattle.vbr_list.specs.declared.storing.Unstored.TheVariants.{OutOfSteps}
use Rattle.vbr_list.proofs.traversals.Disturbing.{alone_undisturbed, run_at, run_of}
use Rattle.vbr_list.proofs.pieces.Going.{room_left}
use Rattle.vbr_list.proofs.pieces.Told.{call_answered, stored_same, told_as, told_bare, told_since}
use Rattle.vbr_list.proofs.stores.LateSearches.{late_disturbs, late_paid}
use Rattle.vbr_list.proofs.inserts.Preparing.{tries_before, within_all, within_most, within_on}
use Rattle.vbr_list.proofs.stores.Stores.{answered_or_spent, are_alone, has_made, HasMade, makes_on, refused_insert}
use Rattle.vbr_list.proofs.stores.Stores.{replaced_not, replaced_where, store_refused_first, stored_where, told_had}
use Rattle.vbr_list.proofs.stores.Stores.{told_where, two_made, unless_since}
use Rattle.vbr_list.proofs.inserts.Sufficing.{lacks_more, lone, lone_costs, lone_lacks, slot_later}
use Rattle.vbr_list.proofs.traversals.Sweeping.{leaves_replaced_since}
use Rattle.vbr_list.proofs.traversals.Searching.{both_lack, both_paid, once_paid, vain_lacks}
use Rattle.vbr_list.proofs.stores.Wants.{was_later}

-- the steps of a search with a slot in hand that is disturbed: of a store, and of an insert
abbrev each_of : Bool → ℕ
each_of true = 12
each_of false = 7

-- the budget that is enough for one that is disturbed so often
abbrev enough_of : Bool → ℕ → ℕ → ℕ → ℕ
enough_of gives n t taking = enough_past (n + t) taking + searches_more (each_of gives) n t

seven_least : (gives : Bool) → 7 ≤ each_of gives
seven_least true = omega arith
seven_least false = omega arith

-- a store may take no fewer steps for those that are disturbed than an insert
more_of : (gives : Bool) (n t : ℕ) → searches_more 7 n t ≤ searches_more (each_of gives) n t
more_of gives n t =
    let seven = seven_least gives in
    mul-le t (9 * (n + t) + 7) t (9 * (n + t) + each_of gives) (omega arith) (omega (arith, seven))

-- ---- what is left at the end

-- the steps are within the budget, and the epoch and the slots are as they may be, whatever the answer
pub record Ends (wanted : Wanted) (p q : PassView) (key used budget : ℕ) : Type 0 where
  pub counts : CountsWithin p.trace q.trace 0 used budget
  pub advances : AdvancesWhereNeeded p q
  pub kept : KeepsSlots p q
  pub shared : SharesWhereFull 2 p q
  pub tries : TriesOnlyWhere (WasWanted wanted p.trace q.trace key) p q
  pub wins : WinsInNeed p q

-- so it is without a slot in hand
pub ends_prepared : {N : Type 0} {kind : Ghosts N} {b d : PendingCall N kind} {wanted : Wanted} → b.used ≡ 0 →
    Prepares b d → TriesFor wanted b d → Ends wanted (pass_in b) (pass_in d) b.key d.used b.budget
ends_prepared {b = b} {d = d} begun prepares tries = record {
  counts = let C : ℕ → Type 0 = λ used. CountsWithin (trace_in b) (trace_in d) used d.used b.budget in
      subst C begun prepares.counts;
  advances = prepares.advances;
  kept = prepares.kept;
  shared = prepares.shared;
  tries = tries;
  wins = prepares.wins;
}

module _ (value : ℕ) {wanted : Wanted} {p q : PassView} {key used budget : ℕ} (law : PassLaw p)
    (ends : Ends wanted p q key used budget) (spent : q.hand ≡ None) where
  abbrev nodes : ℕ
  nodes = listed_for p.trace key

  abbrev times : ℕ
  times = disturbed p.trace q.trace key

  abbrev steps : ℕ
  steps = steps_to_prepare wanted p q.trace

  -- a store is refused
  store_refused : HasStill p q → Quiet p.trace q.trace → (refusal : Refusal) →
      IsRefusedStore wanted p q key budget refusal → LacksSteps (enough_of true nodes times steps) budget refusal →
      CallsStore p q key value wanted budget (Err refusal)
  store_refused had quiet refusal refused lacking =
      let alone = lone_lacks (λ t taking. enough_of true nodes t (taking + steps_to_compare wanted)) p q.trace key
      budget refusal {least = enough_to_store wanted p key} lacking (omega arith) in
      record {
        same = quiet.same;
        made = tt;
        alone = tt;
        quiet = quiet;
        hand = spent;
        steps = within_all ends.counts;
        kept = ends.kept;
        bounds = record {
          advances = ends.advances;
          had = had;
          shared = ends.shared;
          tries = ends.tries;
          wins = ends.wins;
          refused = refused;
          within = alone;
          disturbed_within = lacking;
          ready = λ some is_alone enough.
              answered_or_spent (Option ℕ) wanted p q key budget nodes (steps_to_compare wanted) refusal refused
              some (alone is_alone) enough;
          leaves = tt;
          leaves_alone = tt;
          costs = tt;
          disturbed_costs = tt;
        };
      }

  -- it is answered with what was there
  store_answered : (there : Option ℕ) → HasUnlessStored (wants wanted there) p q →
      Makes (stored_calls p.trace.who key value wanted there) p.trace q.trace →
      (replaced wanted there ≡ true → LeavesRoom p q budget → LeavesReplaced p.trace q.trace key) →
      (replaced wanted there ≡ true → IsAlone p.trace q.trace → enough_to_unlist wanted p key ≤ budget →
      LeavesReplaced p.trace q.trace key) → used ≤ store_costs_among nodes times steps →
      CallsStore p q key value wanted budget (Ok there)
  store_answered there had makes leaves leaves_alone few =
      let costs : TookWithin p.trace q.trace (store_costs_among nodes times steps) = within_most ends.counts few in
      record {
        same = (has_made p.trace q.trace (stored_calls p.trace.who key value wanted there) makes).same;
        made = makes;
        alone = are_alone p.trace q.trace (stored_calls p.trace.who key value wanted there) law.start law.low makes;
        quiet = tt;
        hand = spent;
        steps = within_all ends.counts;
        kept = ends.kept;
        bounds = record {
          advances = ends.advances;
          had = had;
          shared = ends.shared;
          tries = ends.tries;
          wins = ends.wins;
          refused = tt;
          within = tt;
          disturbed_within = tt;
          ready = λ some is_alone enough. tt;
          leaves = leaves;
          leaves_alone = leaves_alone;
          costs = lone_costs (λ t taking. store_costs_among nodes t (taking + steps_to_compare wanted)) p q.trace key
              {least = store_costs wanted p key} costs (omega arith);
          disturbed_costs = costs;
        };
      }

  -- as a get is
  store_told : HasStill p q → (there : Option ℕ) → wants wanted there ≡ false →
      Made (given_call p.trace.who Get key there) p.trace q.trace → used ≤ store_costs_among nodes times steps →
      CallsStore p q key value wanted budget (Ok there)
  store_told had there is told few =
      let M : List Call → Type 0 = λ calls. Makes calls p.trace q.trace in
      let none = replaced_not wanted there is in
      store_answered there (told_had wanted there p q is had)
      (subst M (sym (told_where p.trace.who key value wanted there is)) told) (λ yes left. absurd (cc))
      (λ yes alone enough. absurd (cc)) few

  -- an insert is refused
  insert_refused : wanted ≡ Absent → HasStill p q → Quiet p.trace q.trace → (refusal : Refusal) →
      IsRefusedStore wanted p q key budget refusal → LacksSteps (enough_of false nodes times steps) budget refusal →
      CallsAs (stored_in p.trace key value) (BoundsOfInsert p q key budget) p q budget (Err refusal)
  insert_refused is had quiet refusal refused short =
      let none = ap steps_to_compare is in
      let W : Wanted → Type 0 = λ w. IsRefusedStore w p q key budget refusal in
      let T : Wanted → Type 0 = λ w. TriesOnlyWhere (WasWanted w p.trace q.trace key) p q in
      let lacking : LacksSteps (enough_to_insert_among nodes times (steps_for_slot p q.trace)) budget refusal =
      lacks_more (enough_of false nodes times steps) (enough_to_insert_among nodes times (steps_for_slot p q.trace))
      budget refusal (omega (arith, none)) short in
      let alone = lone_lacks (enough_to_insert_among nodes) p q.trace key budget refusal
      {least = enough_to_insert p key} lacking (omega arith) in
      record {
        same = quiet.same;
        made = tt;
        alone = tt;
        quiet = quiet;
        hand = spent;
        steps = within_all ends.counts;
        bounds = record {
          advances = ends.advances;
          kept = ends.kept;
          had = had;
          shared = ends.shared;
          tries = subst T is ends.tries;
          wins = ends.wins;
          refused = refused_insert p q key budget refusal (subst W is refused);
          within = alone;
          disturbed_within = lacking;
          ready = λ some is_alone enough.
              answered_or_spent Bool wanted p q key budget nodes 0 refusal refused some
              (lacks_more (enough_to_insert p key) (enough_to_insert p key + 0) budget refusal (omega arith)
              (alone is_alone)) (omega (arith, enough));
          costs = tt;
          disturbed_costs = tt;
        };
      }

  -- it is answered
  insert_answered : wanted ≡ Absent → (reply : Bool) → HasUnpublished {E = Refusal} p q (Ok reply) →
      Made (stored_in p.trace key value reply) p.trace q.trace →
      used ≤ insert_costs_among nodes times steps (steps_to_value p.trace.start.shape.values) →
      CallsAs (stored_in p.trace key value) (BoundsOfInsert p q key budget) p q budget (Ok reply)
  insert_answered is reply had made few =
      let none = ap steps_to_compare is in
      let T : Wanted → Type 0 = λ w. TriesOnlyWhere (WasWanted w p.trace q.trace key) p q in
      let storing = steps_to_value p.trace.start.shape.values in
      let costs : TookWithin p.trace q.trace
      (insert_costs_among nodes times (steps_for_slot p q.trace) storing) =
      within_most ends.counts (omega (arith, few, none)) in
      call_answered reply law made spent ends.counts.counts ends.counts.within.1 (record {
        advances = ends.advances;
        kept = ends.kept;
        had = had;
        shared = ends.shared;
        tries = subst T is ends.tries;
        wins = ends.wins;
        refused = tt;
        within = tt;
        disturbed_within = tt;
        ready = λ some is_alone enough. tt;
        costs = lone_costs (λ t taking. insert_costs_among nodes t taking storing) p q.trace key
            {least = insert_costs p key} costs (omega arith);
        disturbed_costs = costs;
      })

  -- one or the other is refused
  pub calls_refused : (gives values : Bool) → MayUpdate gives values wanted → HasStill p q → Quiet p.trace q.trace →
      (refusal : Refusal) → IsRefusedStore wanted p q key budget refusal →
      LacksSteps (enough_of gives nodes times steps) budget refusal →
      CallsUpdate gives p q key value wanted budget (Err refusal)
  calls_refused true values asked had quiet refusal refused lacking = store_refused had quiet refusal refused lacking
  calls_refused false values asked had quiet refusal refused lacking =
      insert_refused asked had quiet refusal refused lacking

  -- before it has a slot in hand
  pub calls_unprepared : (gives values : Bool) → MayUpdate gives values wanted → HasStill p q → Quiet p.trace q.trace →
      (refusal : Refusal) → TakesNone p q 0 budget refusal → WasWantedFor wanted p.trace q.trace key refusal →
      SearchesInVain p.trace q.trace key 0 budget (steps + 10) refusal →
      CallsUpdate gives p q key value wanted budget (Err refusal)
  calls_unprepared gives values asked had quiet refusal says was searches =
      let more = more_of gives nodes times in
      calls_refused gives values asked had quiet refusal (store_refused_first wanted p q key budget refusal says was)
      (lacks_more (enough_to_insert_among nodes times steps) (enough_of gives nodes times steps) budget refusal
      (omega (arith, more))
      (vain_lacks p.trace q.trace law.start (run_of law quiet) key budget steps quiet refusal searches))

  -- it is answered without one
  pub calls_told : (gives values : Bool) → MayUpdate gives values wanted → HasStill p q → (there : Option ℕ) →
      wants wanted there ≡ false → Made (told_otherwise gives p.trace.who key there) p.trace q.trace →
      SearchedFor p.trace q.trace key 0 used (steps + 3) →
      CallsUpdate gives p q key value wanted budget (Ok (Unchanged there))
  calls_told true values asked had there is told searched =
      let more = more_of true nodes times in
      let paid = once_paid p.trace q.trace law.start (run_at p.trace q.trace told.same told.is_run) key searched in
      store_told had there is told (omega (arith, paid, more))
  calls_told false values asked had there is told searched =
      let paid = once_paid p.trace q.trace law.start (run_at p.trace q.trace told.same told.is_run) key searched in
      insert_answered asked false had
      (told_as (told_bare p.trace.start p.trace.who Insert key false) told) (omega (arith, paid))

-- ---- with a slot in hand

-- the value that follows from what was there follows from the answer
pub value_told : (value : NewValue) (there : Option ℕ) →
    value_after value there ≡ value_by {E = Refusal} value (Ok there)
value_told (Exactly value) there = refl
value_told (Sum delta) there = refl

-- a slot that is published isn't in hand
pub spent_by : {N : Type 0} {kind : Ghosts N} {gives : Bool} {value : ℕ} {wanted : Wanted} {c d : PendingCall N kind}
    {hand : HandView} {there : Option ℕ} → StoresWanted gives value wanted c d hand there → (pass_in d).hand ≡ None
spent_by {gives = true} x = x.stores.spent
spent_by {gives = false} x = x.stores.spent

module _ {N : Type 0} {kind : Ghosts N} {b d : PendingCall N kind} (r : PassView) (value : ℕ) (wanted : Wanted)
    (used : ℕ) (law : PassLaw (pass_in b)) (begun : b.used ≡ 0) (prepares : Prepares b d) (tried : TriesFor wanted b d)
    {given : HandView} (ready : HasPrepared wanted b d given)
    (counts : CountsWithin (trace_in d) r.trace d.used used b.budget) (takes_none : TakesNoSlot (pass_in d) r)
    (spent : r.hand ≡ None) where
  abbrev p : PassView
  p = pass_in b

  abbrev q : PassView
  q = pass_in d

  abbrev n : ℕ
  n = listed_for p.trace b.key

  abbrev t : ℕ
  t = disturbed p.trace r.trace b.key

  abbrev taking : ℕ
  taking = steps_to_prepare wanted p r.trace

  searched : SearchedFor p.trace q.trace b.key 0 d.used (steps_to_prepare wanted p q.trace + 3)
  searched =
      let S : ℕ → Type 0 = λ used. SearchedFor p.trace q.trace b.key used d.used (steps_to_prepare wanted p q.trace + 3)
      in
      subst S begun ready.searched

  ends_all : Begins q.trace.seen r.trace.seen →
      (IsRun q.trace.start q.trace.passes q.trace.seen → IsRun r.trace.start r.trace.passes r.trace.seen) →
      Ends wanted p r b.key used b.budget
  ends_all seen run =
      let first = ends_prepared begun prepares tried in
      record {
        counts = within_on first.counts counts.counts counts.within.0 counts.within.1;
        advances = needed_before {p = p} {q = q} {r = r} prepares.advances seen run takes_none.count;
        kept = slots_kept_on p q r prepares.kept takes_none.kept;
        shared = shared_on p q r 2 prepares.shared (longer q r takes_none.grows) (shares_more q r takes_none.shared);
        tries = tries_before p q r tried takes_none.tries (was_later p.trace q.trace r.trace b.key wanted seen run);
        wins = in_need_before p q r prepares.wins takes_none.wins;
      }

  module _ (made : HasMade p.trace r.trace) (on : Begins q.trace.seen r.trace.seen) where
    run : IsRun p.trace.start p.trace.passes r.trace.seen
    run = run_at p.trace r.trace made.same made.is_run

    -- by the end of its last search
    soon_used : (stored : Bool) (soon : StoredSoon stored q.trace r.trace b.key d.used used b.budget) →
        soon.used ≤ 18 * (n + t) + searches_more 12 n t + (taking + 6)
    soon_used stored soon =
        let later = slot_later p q.trace r.trace on in
        let most = both_paid p.trace q.trace soon.ended r.trace law.start run b.key ready.quiet soon.quiet soon.to
        (omega arith) searched soon.searches in
        omega (arith, most, later)

    costs_paid : (stored : Bool) →
        (stored ≡ true →
        (old : ℕ) × MadeTwo (given_call p.trace.who Remove b.key (Some old))
        (stored_call p.trace.who b.key value true)
        p.trace r.trace) → StoredIn stored q.trace r.trace b.key d.used used b.budget →
        used ≤ store_costs_among n t taking
    costs_paid false two soon = let last = soon_used false soon in let few = soon.few in omega (arith, last, few)
    costs_paid true two (inl soon) = let last = soon_used true soon in let few = soon.few in omega (arith, last, few)
    costs_paid true two (inr late) =
        let later = slot_later p q.trace r.trace on in
        let most = late_paid p.trace q.trace r.trace law.start run b.key (steps_to_prepare wanted p q.trace)
        ready.quiet (two refl).1 refl refl searched late in
        omega (arith, most, later)

    soon_left : IsAlone p.trace r.trace → enough_to_unlist wanted p b.key ≤ b.budget →
        StoredSoon true q.trace r.trace b.key d.used used b.budget → LeavesReplaced q.trace r.trace b.key
    soon_left alone enough soon =
        let few = lone
        (λ u taken. soon.used ≤ 18 * (n + u) + searches_more 12 n u + (taken + steps_to_compare wanted + 6)) p r.trace
        b.key (soon_used true soon) alone in
        soon.leaves refl (omega (arith, few, enough))

    left_alone : (stored : Bool) → stored ≡ true → IsAlone p.trace r.trace →
        enough_to_unlist wanted p b.key ≤ b.budget →
        StoredIn stored q.trace r.trace b.key d.used used b.budget → LeavesReplaced q.trace r.trace b.key
    left_alone false is alone enough soon = absurd (cc)
    left_alone true is alone enough (inl soon) = soon_left alone enough soon
    left_alone true is alone enough (inr late) =
        let some = late_disturbs p.trace q.trace r.trace law.start run b.key ready.quiet on late in
        let none = alone_undisturbed p.trace r.trace b.key alone in
        absurd (omega (arith, some, none))

  -- the slot in hand was published by a store
  store_linked : (hand : HandView) (there : Option ℕ) → wants wanted there ≡ true → HasAllButOne q r →
      StoresHeld q r b.key value d.used used b.budget hand there → CallsStore p r b.key value wanted b.budget (Ok there)
  store_linked hand there is had x =
      let H : Bool → Type 0 = λ stored. HasUnlessStored stored p r in
      let M : List Call → Type 0 = λ calls. Makes calls p.trace r.trace in
      let W : ℕ → Type 0 = λ who. Makes (storing_calls who b.key value there) p.trace r.trace in
      let S : Bool → Type 0 = λ stored. StoredIn stored q.trace r.trace b.key d.used used b.budget in
      let node = replaced_where wanted there is in
      let paid = subst S (sym node) x.paid in
      let made = subst M (sym (stored_where p.trace.who b.key value wanted there is))
      (subst W ready.quiet.same.who
      (makes_on p.trace q.trace r.trace (storing_calls q.trace.who b.key value there) ready.quiet x.made)) in
      let has = has_made p.trace r.trace (stored_calls p.trace.who b.key value wanted there) made in
      let last = has_made q.trace r.trace (storing_calls q.trace.who b.key value there) x.made in
      let ends = ends_all last.seen (λ _. last.is_run) in
      store_answered value law ends spent there
      (subst H (sym is) (unless_since true p q r prepares.had had)) made
      (λ yes left.
      leaves_replaced_since r.trace b.key law.start ready.quiet
      (x.leaves (sym node ∙ yes) (room_left used b.budget ends.counts.counts left)))
      (λ yes alone enough.
      leaves_replaced_since r.trace b.key law.start ready.quiet
      (left_alone has last.seen (replaced wanted there) yes alone enough paid))
      (costs_paid has last.seen (replaced wanted there)
      (λ yes. two_made p.trace.who b.key value wanted there yes made) paid)

  -- an insert is answered, with it or without
  insert_held : wanted ≡ Absent → (reply : Bool) → HasUnpublished {E = Refusal} p r (Ok reply) →
      AnswersHeld q.trace r.trace b.key value d.used used reply →
      CallsAs (stored_in p.trace b.key value) (BoundsOfInsert p r b.key b.budget) p r b.budget (Ok reply)
  insert_held is reply had x =
      let made = told_since ready.quiet (stored_same ready.quiet.same b.key value reply) x.made in
      let later = slot_later p q.trace r.trace x.made.seen in
      let start = ap steps_to_update ready.quiet.same.start in
      let last = x.searched in
      let paid = both_paid p.trace q.trace last.ended r.trace law.start (run_at p.trace r.trace made.same made.is_run)
      b.key ready.quiet last.quiet last.to (omega arith) searched last.searches in
      insert_answered value law (ends_all x.made.seen (λ _. x.made.is_run)) spent is reply had made
      (omega (arith, paid, later, start))

  -- the slot in hand was published
  pub calls_stored : (gives values : Bool) → MayUpdate gives values wanted → (hand : HandView) (there : Option ℕ) →
      wants wanted there ≡ true → HasAllButOne q r →
      StoresOrInserts gives value q r d.key d.used used d.budget hand there →
      CallsUpdate gives p r b.key value wanted b.budget (Ok (Changed there))
  calls_stored true values asked hand there is had stores =
      let S : ℕ × ℕ → Type 0 = λ x. StoresHeld q r x.0 value d.used used x.1 hand there in
      store_linked hand there is had (subst S (λ i. (prepares.call.key i, prepares.call.budget i)) stores)
  calls_stored false values asked hand there is had stores =
      let A : ℕ → Type 0 = λ key. AnswersHeld q.trace r.trace key value d.used used true in
      insert_held asked true (unless_since true p q r prepares.had had) (subst A prepares.call.key stores.answers)

  -- the budget has no room for one more piece
  calls_tired : (gives values : Bool) → MayUpdate gives values wanted → HasStill q r → Quiet q.trace r.trace →
      {now : ℕ} → RunsShort q.trace r.trace d.used now b.budget →
      Searches (each_of gives) q.trace r.trace b.key d.used (b.budget + 1) 11 →
      CallsUpdate gives p r b.key value wanted b.budget (Err (Short now))
  calls_tired gives values asked had quiet {now} short last =
      let whole = quiet_on ready.quiet quiet in
      let ends = ends_all quiet.seen quiet.is_run in
      let later = slot_later p q.trace r.trace quiet.seen in
      let first = ends_prepared begun prepares tried in
      let few = both_lack p.trace q.trace r.trace law.start (run_of law whole) b.key b.budget d.used
      (steps_to_prepare wanted p q.trace) ready.quiet quiet (seven_least gives) searched last in
      calls_refused value law ends spent gives values asked (had_on p q r prepares.had had) whole (Short now) (record {
        took = took_all (counts_on first.counts.counts short.counts.counts);
        within = short.counts.within.1;
        short = short.short;
      }) (omega (arith, few, later))

  -- it wasn't, and was given back
  pub calls_unstored : (gives values : Bool) → MayUpdate gives values wanted → {e : Trace} → r.trace ≡ e →
      HasStill q r →
      (why : Unstored) → IfOk (answer_unstored why) (ChangedAsWanted (wants wanted)) →
      SaysUnstored gives q.trace e d.key d.used used d.budget why →
      CallsUpdate gives p r b.key value wanted b.budget (answer_unstored why)
  calls_unstored gives values asked back had why is_not says =
      let S : Trace × ℕ × ℕ → Type 0 = λ x. SaysUnstored gives q.trace x.0 x.1 d.used used x.2 why in
      go gives values asked why is_not (subst S (λ i. (sym back i, prepares.call.key i, prepares.call.budget i)) says)
    where
      go : (gives values : Bool) → MayUpdate gives values wanted → (why : Unstored) →
          IfOk (answer_unstored why) (ChangedAsWanted (wants wanted)) →
          SaysUnstored gives q.trace r.trace b.key d.used used b.budget why →
          CallsUpdate gives p r b.key value wanted b.budget (answer_unstored why)
      go true values asked (Otherwise there) is x =
          let told = told_since ready.quiet (ap (λ who. given_call who Get b.key there) ready.quiet.same.who) x.told in
          let made : HasMade p.trace r.trace = record { same = told.same; seen = told.seen; is_run = told.is_run } in
          store_told value law (ends_all x.told.seen (λ _. x.told.is_run)) spent (had_on p q r prepares.had had) there
          is told (costs_paid made x.told.seen false (λ yes. absurd (cc)) x.paid)
      go false values asked (Otherwise there) is x = insert_held asked false (had_on p q r prepares.had had) (x value)
      go true values asked (OutOfSteps now) is x =
          calls_tired true values asked had x.quiet x.tires.short x.tires.searches
      go false values asked (OutOfSteps now) is x = calls_tired false values asked had x.quiet x.short x.searches
