-- The calls of a store, its slots and its steps, and what its refusals say.
use Rattle.vbr_list.proofs.Names.{◌≡◌, ◌≢◌, ℕ, ◌+◌, ◌*◌, ◌<◌, ◌≤◌, Bool, true, false, List, [], ◌∷◌, ◌++◌, Option}
use Rattle.vbr_list.proofs.Names.{Some, None, Err, sym, ap, refl, ◌∙◌, arith, subst, if◌then◌else◌, Absent}
use Rattle.vbr_list.proofs.Names.{AreAnsweredAlone, Begins, birth_in_hand, Call, EpochSpent, Get, given_call}
use Rattle.vbr_list.proofs.Names.{grows_same, had_grown, had_node, HandView, HasAllButOne, HasHandAndRoom, HasStill}
use Rattle.vbr_list.proofs.Names.{HasUnlessStored, IsAnsweredOrSpent, IsRefusedInsert, IsRefusedStore, IsRun, IsSame}
use Rattle.vbr_list.proofs.Names.{IsStart, KeepsHand, LacksSteps, made_by, made_on, MadeTwo, Makes, most_to_take}
use Rattle.vbr_list.proofs.Names.{NoSlot, OutOfSteps, PassView, Quiet, Refusal, Remove, replaced, stored_call}
use Rattle.vbr_list.proofs.Names.{stored_calls, storing_calls, TakesNone, took_all, Trace, two_on, Wanted, wants}
use Rattle.vbr_list.proofs.Names.{WasWantedFor}
use Rattle.vbr_list.proofs.pieces.LonePasses.{alone_all}

-- ---- the calls that it makes

-- after what made no call
pub makes_on : (p q r : Trace) (calls : List Call) → Quiet p q → Makes calls q r → Makes calls p r
makes_on p q r [] quiet made = absurd made
makes_on p q r (one ∷ []) quiet made = made_on quiet made
makes_on p q r (one ∷ two ∷ []) quiet made = two_on quiet made
makes_on p q r (one ∷ two ∷ three ∷ more) quiet made = absurd made

-- two, by the number of the pass before
pub two_since : {p q r : Trace} {key value old : ℕ} → Quiet p q →
    MadeTwo (given_call q.who Remove key (Some old)) (stored_call q.who key value true) q r →
    MadeTwo (given_call p.who Remove key (Some old)) (stored_call p.who key value true) p r
two_since {p} {q} {r} {key} {value} {old} quiet made =
    let W : ℕ → Type 0 = λ who. MadeTwo (given_call who Remove key (Some old)) (stored_call who key value true) p r in
    subst W quiet.same.who (two_on quiet made)

-- what is so of the pass then
pub record HasMade (p q : Trace) : Type 0 where
  pub same : IsSame p q
  pub seen : Begins p.seen q.seen
  pub is_run : IsRun q.start q.passes q.seen

pub has_made : (p q : Trace) (calls : List Call) → Makes calls p q → HasMade p q
has_made p q [] made = absurd made
has_made p q (one ∷ []) made = record { same = made.same; seen = made.seen; is_run = made.is_run }
has_made p q (one ∷ two ∷ []) made = record { same = made.same; seen = made.seen; is_run = made.is_run }
has_made p q (one ∷ two ∷ three ∷ more) made = absurd made

calls_made : (p q : Trace) (calls : List Call) → Makes calls p q → made_by q ≡ made_by p ++ calls
calls_made p q [] made = absurd made
calls_made p q (one ∷ []) made = made.calls
calls_made p q (one ∷ two ∷ []) made = made.calls
calls_made p q (one ∷ two ∷ three ∷ more) made = absurd made

-- of a pass that is its table's only one, they are answered as by a plain map
pub are_alone : (p q : Trace) (calls : List Call) → IsStart p.start → p.who < p.passes → Makes calls p q →
    AreAnsweredAlone p calls
are_alone p q calls start low made =
    let has = has_made p q calls made in alone_all calls start low has.same has.is_run (calls_made p q calls made)

-- by whether what was there is as it is wanted
pub stored_where : (who key value : ℕ) (wanted : Wanted) (there : Option ℕ) → wants wanted there ≡ true →
    stored_calls who key value wanted there ≡ storing_calls who key value there
stored_where who key value wanted there is =
    ap (λ (stores : Bool). if stores then storing_calls who key value there else given_call who Get key there ∷ []) is

pub told_where : (who key value : ℕ) (wanted : Wanted) (there : Option ℕ) → wants wanted there ≡ false →
    stored_calls who key value wanted there ≡ given_call who Get key there ∷ []
told_where who key value wanted there is =
    ap (λ (stores : Bool). if stores then storing_calls who key value there else given_call who Get key there ∷ []) is

pub replaced_where : (wanted : Wanted) (there : Option ℕ) → wants wanted there ≡ true →
    replaced wanted there ≡ had_node there
replaced_where wanted None is = refl
replaced_where wanted (Some old) is = is

pub replaced_not : (wanted : Wanted) (there : Option ℕ) → wants wanted there ≡ false → replaced wanted there ≡ false
replaced_not wanted None is = refl
replaced_not wanted (Some old) is = is

-- two where it replaced a node
pub two_made : {p q : Trace} (who key value : ℕ) (wanted : Wanted) (there : Option ℕ) → replaced wanted there ≡ true →
    Makes (stored_calls who key value wanted there) p q →
    (old : ℕ) × MadeTwo (given_call who Remove key (Some old)) (stored_call who key value true) p q
two_made who key value wanted None is made = absurd (cc)
two_made {p} {q} who key value wanted (Some old) is made =
    let M : List Call → Type 0 = λ calls. Makes calls p q in
    (old, subst M (stored_where who key value wanted (Some old) is) made)

-- ---- slots

-- what was spent, and then kept
pub all_but_then : (p q r : PassView) → HasAllButOne p q → HasStill q r → HasAllButOne p r
all_but_then p q r first next = (first.0, λ slot has other. next slot (first.1 slot has other))

-- the pool and the hand are the same
pub had_same : (p q : PassView) → q.pool ≡ p.pool → q.hand ≡ p.hand → HasStill p q
had_same p q pool hand = had_grown p q (grows_same p q pool) hand

-- a hand that stays is one still
pub hand_kept : {p q : PassView} (hand : HandView) → KeepsHand p q → HasHandAndRoom p hand → HasHandAndRoom q hand
hand_kept hand keeps h =
    record {
      is =
          record {
            slot = keeps.hand ∙ h.is.slot;
            birth = ap birth_in_hand (keeps.in_hand hand.slot h.is.slot) ∙ h.is.birth;
          };
      room = keeps.room h.room;
    }

-- a piece after what kept each slot
pub unless_since : (stored : Bool) (p q r : PassView) → HasStill p q → HasUnlessStored stored q r →
    HasUnlessStored stored p r
unless_since true p q r first next = (next.0, λ slot has other. next.1 slot (first slot has) other)
unless_since false p q r first next = λ slot has. next slot (first slot has)

-- nothing was stored
pub told_had : (wanted : Wanted) (there : Option ℕ) (p q : PassView) → wants wanted there ≡ false → HasStill p q →
    HasUnlessStored (wants wanted there) p q
told_had wanted there p q is had = let P : Bool → Type 0 = λ stored. HasUnlessStored stored p q in subst P (sym is) had

-- ---- refusals

-- a refusal before a slot was in hand is one of the whole call
pub store_refused_first : (wanted : Wanted) (p q : PassView) (key budget : ℕ) (refusal : Refusal) →
    TakesNone p q 0 budget refusal → WasWantedFor wanted p.trace q.trace key refusal →
    IsRefusedStore wanted p q key budget refusal
store_refused_first wanted p q key budget (OutOfSteps used) x was =
    record { took = took_all x.counts.counts; within = x.counts.within.1; short = x.short }
store_refused_first wanted p q key budget NoSlot x was = record { was = was; none = x }
store_refused_first wanted p q key budget (EpochSpent epoch) x was =
    record {
      was = was;
      spent = x.spent;
      room = record { steps = x.since; room = x.room; took = took_all x.counts.counts };
    }

-- what one says of an insert, which wants its key absent
pub refused_insert : (p q : PassView) (key budget : ℕ) (refusal : Refusal) →
    IsRefusedStore Absent p q key budget refusal → IsRefusedInsert p q key budget refusal
refused_insert p q key budget (OutOfSteps used) x = x
refused_insert p q key budget NoSlot x =
    record { absent = x.was; empty = x.none.empty; still = x.none.still; outside = x.none.outside }
refused_insert p q key budget (EpochSpent epoch) x = record { absent = x.was; spent = x.spent; room = x.room }

-- with slots in the own pool a call that has steps enough is answered, or the epoch is spent
pub answered_or_spent : (A : Type 0) (wanted : Wanted) (p q : PassView) (key budget n more : ℕ) (refusal : Refusal) →
    IsRefusedStore wanted p q key budget refusal → p.pool ≢ [] →
    LacksSteps (18 * n + most_to_take p.trace.start p.pool + 14 + more) budget refusal → 18 * n + 82 + more ≤ budget →
    IsAnsweredOrSpent {A = A} (Err refusal)
answered_or_spent A wanted p q key budget n more (OutOfSteps used) x some few enough = grind arith
answered_or_spent A wanted p q key budget n more NoSlot x some few enough = absurd (some x.none.empty)
answered_or_spent A wanted p q key budget n more (EpochSpent epoch) x some few enough = tt
