-- A store finds the key as it is wanted, or otherwise.
use Rattle.vbr_list.proofs.Names.{◌≡◌, ℕ, ◌+◌, ◌≤◌, Bool, true, false, not, Option, Some, None, arith, refl, sym}
use Rattle.vbr_list.proofs.Names.{subst, ◌∙◌, nat_tests, Absent, Anything, At, Begins, CurStood, EpochSpent, Found}
use Rattle.vbr_list.proofs.Names.{Ghosts, GoesOn, has_wanted, Held, held_kept, IsCur, IsEnd, IsFound, IsFoundValue}
use Rattle.vbr_list.proofs.Names.{IsRun, IsSame, IsStart, IsThere, Keeps, KeyAt, Know, knows, LacksSteps, Meeting}
use Rattle.vbr_list.proofs.Names.{moment_before, NoSlot, OutOfSteps, PendingCall, Present, Quiet, Refusal}
use Rattle.vbr_list.proofs.Names.{SearchesFor, SearchesIn, SearchesInVain, steps_to_compare, steps_where}
use Rattle.vbr_list.proofs.Names.{stood_before, Trace, trace_in, Value, ValueAt, Wanted, wants, was_entry, WasEntry}
use Rattle.vbr_list.proofs.Names.{WasSo, WasWanted, WasWantedFor}
use Rattle.vbr_list.proofs.look_ups.FoundValues.{few_where}
use Rattle.vbr_list.proofs.traversals.Moments.{key_known, later_moment, so_before, so_later}
use Rattle.vbr_list.proofs.traversals.Reaching.{key_kept}

-- ---- as it is wanted

-- by its presence alone
pub was_plain : (p q : Trace) (key : ℕ) (wanted : Wanted) (present : Bool) → has_wanted wanted present ≡ true →
    WasSo p q key present → WasWanted wanted p q key
was_plain p q key Absent true is so = absurd (cc)
was_plain p q key Absent false is so = so
was_plain p q key Present true is so = so
was_plain p q key Present false is so = absurd (cc)
was_plain p q key Anything present is so = tt
was_plain p q key (Value value) present is so = absurd (cc)

-- the presence alone didn't tell, so it was one value
known_value : (know : Know) (found : Found) (wanted : Wanted) (there : Option ℕ) →
    has_wanted wanted found.present ≡ false → wants wanted there ≡ true → IsThere know found there →
    (value : ℕ) × (Value value ≡ wanted) × IsFoundValue know found value
known_value know found Absent None other is x = let o : not false ≡ false = rw x at other in absurd (cc)
known_value know found Absent (Some old) other is x = absurd (cc)
known_value know found Present None other is x = absurd (cc)
known_value know found Present (Some old) other is x = let present = x.present in absurd (cc)
known_value know found Anything there other is x = absurd (cc)
known_value know found (Value value) None other is x = absurd (cc)
known_value know found (Value value) (Some old) other is x =
    let same : value ≡ old = grind (arith, nat_tests) in
    (value, refl, rw (sym same) at x)

-- so it was asked of a call that gives what was there
pub asked_values : {V : Type 0} (know : Know) (gives : Bool) (wanted : Wanted) (found : Found) (there : Option ℕ) →
    (gives ≡ true → V) → (gives ≡ false → wanted ≡ Absent) → has_wanted wanted found.present ≡ false →
    wants wanted there ≡ true → IsThere know found there → V
asked_values know true wanted found there values absent other is x = values refl
asked_values know false wanted found there values absent other is x =
    let one = known_value know found wanted there other is x in
    absurd (let z : Value one.0 ≡ Absent = one.1 ∙ absent refl in cc)

-- which took two steps
pub compare_few : (know : Know) (found : Found) (wanted : Wanted) (there : Option ℕ) →
    has_wanted wanted found.present ≡ false → wants wanted there ≡ true → IsThere know found there →
    steps_where found.present ≤ steps_to_compare wanted
compare_few know found wanted there other is x =
    let one = known_value know found wanted there other is x in
    let few = few_where found.present in
    let P : Wanted → Type 0 = λ w. steps_where found.present ≤ steps_to_compare w in
    subst P one.1 few

-- the entry was there that was found and read
found_entry : {p m r : Trace} (key value : ℕ) (found : Found) → IsStart p.start → IsSame p r → Quiet m r →
    Keeps (knows m) (knows r) → p.start.shape.values ≡ true → IsFound p m key found →
    IsFoundValue (knows r) found value → WasEntry p r key value
found_entry {p} {m} {r} key value found start same then keeps values x known =
    go found.cur found.present refl known.present x.locates.end x.cur_stood
  where
    go : (cur : Option Held) (present : Bool) → found.cur ≡ cur → present ≡ true →
        IsEnd (knows m) key found.pred cur present → CurStood p m cur → WasEntry p r key value
    go None present is there y z = let absent = y.1 in absurd (cc)
    go (Some cur) present is there y z =
        let C : Bool → Type 0 = λ b. IsCur (knows m) key found.pred cur b in
        let k : IsCur (knows m) key found.pred cur true = subst C there y in
        let K : At → Type 0 = λ place. KeyAt (knows r) place key in
        let V : At → Type 0 = λ place. ValueAt (knows r) place value in
        was_entry cur start same (record { known = held_kept cur keeps k.held; stood = stood_before z then }) k.unmarked
        k.slot key value k.place
        (subst K k.place (key_kept cur.at key keeps (key_known (knows m) key found.pred cur k)))
        (subst V k.place (known.known cur is)) values

-- by its value
pub was_compared : {p m r : Trace} (key : ℕ) (found : Found) (wanted : Wanted) (there : Option ℕ) → IsStart p.start →
    IsSame p r → Quiet m r → Keeps (knows m) (knows r) → p.start.shape.values ≡ true → IsFound p m key found →
    has_wanted wanted found.present ≡ false → wants wanted there ≡ true → IsThere (knows r) found there →
    WasWanted wanted p r key
was_compared {p} {m} {r} key found wanted there start same then keeps values x other is y =
    let one = known_value (knows r) found wanted there other is y in
    let P : Wanted → Type 0 = λ w. WasWanted w p r key in
    subst P one.1 (found_entry key one.0 found start same then keeps values x one.2)

-- and it was so before what came then
pub was_before : (p q r : Trace) (key : ℕ) (wanted : Wanted) → WasWanted wanted p q key → Quiet q r →
    WasWanted wanted p r key
was_before p q r key Absent was then = so_before was then
was_before p q r key Present was then = so_before was then
was_before p q r key Anything was then = tt
was_before p q r key (Value value) was then =
    record { moment = was.moment; within = moment_before was.within then; was = was.was; stored = was.stored }

-- and was where the pass has made a call since
pub was_later : (p q r : Trace) (key : ℕ) (wanted : Wanted) → Begins q.seen r.seen →
    (IsRun q.start q.passes q.seen → IsRun r.start r.passes r.seen) → WasWanted wanted p q key →
    WasWanted wanted p r key
was_later p q r key Absent seen run was = so_later was seen run
was_later p q r key Present seen run was = so_later was seen run
was_later p q r key Anything seen run was = tt
was_later p q r key (Value value) seen run was =
    record { moment = was.moment; within = later_moment was.within seen run; was = was.was; stored = was.stored }

-- a refusal that isn't for want of steps comes then
pub wanted_for : (p q : Trace) (key : ℕ) (wanted : Wanted) → WasWanted wanted p q key → (refusal : Refusal) →
    WasWantedFor wanted p q key refusal
wanted_for p q key wanted was (OutOfSteps used) = tt
wanted_for p q key wanted was NoSlot = was
wanted_for p q key wanted was (EpochSpent epoch) = was

-- ---- searches

-- they made no call
pub met_goes : {N : Type 0} {kind : Ghosts N} {c d : PendingCall N kind} → Meeting c d →
    Quiet (trace_in c) (trace_in d) → GoesOn c d
met_goes x quiet =
    record {
      call = x.call;
      goes = record { quiet = quiet; counts = x.counts.counts; hand = x.hand };
      more = x.counts.within.0;
    }

-- and some steps came then
pub searches_more_steps : {per each : ℕ} {p q : Trace} {bucket before now more : ℕ} (since_then all : ℕ) →
    since_then + more ≤ now + all → SearchesIn per each p q bucket before now more →
    SearchesIn per each p q bucket before since_then all
searches_more_steps since_then all le x =
    record { lost = x.lost; few = x.few; paid = let paid = x.paid in omega (arith, paid, le) }

-- a budget that has no room for a slot, after these searches
pub store_in_vain : {p q : Trace} (key : ℕ) {before mid more : ℕ} (budget steps all : ℕ) →
    SearchesFor p q key before mid more → (refusal : Refusal) → LacksSteps (mid + steps + 7) budget refusal →
    more + steps + 7 ≤ all → SearchesInVain p q key before budget all refusal
store_in_vain key budget steps all x (OutOfSteps used) short le =
    searches_more_steps (budget + 1) all (omega (arith, short, le)) x
store_in_vain key budget steps all x NoSlot short le = tt
store_in_vain key budget steps all x (EpochSpent epoch) short le = tt
