-- What was found was so at a moment.
use Rattle.vbr_list.proofs.Names.{◌≡◌, ℕ, ◌<◌, Bool, true, false, List, Option, Some, None, sym, subst, arith}
use Rattle.vbr_list.proofs.Names.{nat_tests, At, Begins, begins_trans, CurStood, Event, Found, HasComeTo, Held, IsCur}
use Rattle.vbr_list.proofs.Names.{IsEnd, IsFound, IsRun, IsSame, IsStart, Keeps, KeyAt, Know, knows, link_of, Locates}
use Rattle.vbr_list.proofs.Names.{Moment, moment_before, Quiet, StandsBefore, Start, Stood, stood_before, Trace}
use Rattle.vbr_list.proofs.Names.{was_absent, was_present, WasSo}
use Rattle.vbr_list.proofs.traversals.Reaching.{key_kept, stood_since, pred_on}

-- ---- what was found

pub cur_found : {p q r : Trace} (key used : ℕ) (pred cur : Held) (present : Bool) → HasComeTo p q key pred → Quiet p q →
    Quiet q r → Keeps (knows q) (knows r) → IsCur (knows r) key pred cur present → Stood q r cur →
    IsFound p r key (record { pred = pred; cur = Some cur; present = present; used = used })
cur_found key used pred cur present x a b keeps y z = record {
  locates = record { pred = pred_on key pred b.same keeps x.is; end = y };
  stood = stood_before x.stood b;
  cur_stood = stood_since a z;
}

pub found_since : {p q r : Trace} (key : ℕ) (found : Found) → Quiet p q → IsFound q r key found → IsFound p r key found
found_since {p} {q} {r} key found a x =
    record { locates = x.locates; stood = stood_since a x.stood; cur_stood = go found.cur x.cur_stood }
  where
    go : (cur : Option Held) → CurStood q r cur → CurStood p r cur
    go None y = y
    go (Some cur) y = stood_since a y

-- ---- the key was there, or wasn't

-- a key that isn't the one of the node behind stands before it
pub before_cur : (know : Know) (key : ℕ) (pred cur : Held) → IsCur know key pred cur false →
    StandsBefore know key (link_of pred.word).slot
before_cur know key pred cur y =
    let l : key < y.here = let u = y.says in let v = y.not_smaller in grind (arith, nat_tests) in
    let P : At → Type 0 = λ place. KeyAt know place y.here in
    rw y.named (y.here, subst P y.place y.read, l)

-- an absent key stands before what the place names
pub stands_before : (know : Know) (key : ℕ) (pred : Held) (cur : Option Held) → IsEnd know key pred cur false →
    StandsBefore know key (link_of pred.word).slot
stands_before know key pred cur y = grind (arith, before_cur know key pred)

-- a present key is known at the node
pub key_known : (know : Know) (key : ℕ) (pred cur : Held) → IsCur know key pred cur true → KeyAt know cur.at key
key_known know key pred cur y = let e : y.here ≡ key = let u = y.says in grind (arith, nat_tests) in rw e at y.read

-- what was found shows the one of a place, or the other of a node
pub by_found : {p q : Trace} (key : ℕ) (found : Found) (X : Bool → Type 0) → IsFound p q key found →
    (StandsBefore (knows q) key (link_of found.pred.word).slot → X false) →
    ((cur : Held) → IsCur (knows q) key found.pred cur true → Stood p q cur → X true) → X found.present
by_found {p} {q} key found X x absent present = go found.cur found.present x.locates.end x.cur_stood
  where
    go : (cur : Option Held) (b : Bool) → IsEnd (knows q) key found.pred cur b → CurStood p q cur → X b
    go None b y z = subst X (sym y.1) (absent (rw y.0 tt))
    go (Some cur) true y z = present cur y z
    go (Some cur) false y z = absent (before_cur (knows q) key found.pred cur y)

pub was_so : {p q : Trace} (key : ℕ) (found : Found) → IsStart p.start → IsSame p q → IsFound p q key found →
    WasSo p q key found.present
was_so {p} {q} key found start same x =
    by_found key found (WasSo p q key) x
    (λ before. was_absent found.pred start same (record { known = x.locates.pred.held; stood = x.stood })
    x.locates.pred.unmarked key x.locates.pred.behind before)
    (λ cur y z. was_present cur start same (record { known = y.held; stood = z }) y.unmarked key
    (key_known (knows q) key found.pred cur y))

-- a moment of what the pass did is one of what it has done since
pub later_moment : {p q r : Trace} {moment : List Event} → Moment p q moment → Begins q.seen r.seen →
    (IsRun q.start q.passes q.seen → IsRun r.start r.passes r.seen) → Moment p r moment
later_moment {q = q} {r = r} {moment = moment} x seen run =
    record { from = x.from; to = begins_trans moment q.seen r.seen x.to seen; is_run = run x.is_run }

pub so_before : {p q r : Trace} {key : ℕ} {present : Bool} → WasSo p q key present → Quiet q r → WasSo p r key present
so_before x b = record { moment = x.moment; within = moment_before x.within b; was = x.was }

-- and so it is where the pass has made a call since
pub so_later : {p q r : Trace} {key : ℕ} {present : Bool} → WasSo p q key present → Begins q.seen r.seen →
    (IsRun q.start q.passes q.seen → IsRun r.start r.passes r.seen) → WasSo p r key present
so_later {q = q} {r = r} x seen run = record { moment = x.moment; within = later_moment x.within seen run; was = x.was }

-- a node that was found stands behind the place
pub cur_is : {start : Start} {know : Know} {key : ℕ} {found : Found} {cur : Held} → Locates start know key found →
    found.cur ≡ Some cur → IsCur know key found.pred cur found.present
cur_is {know = know} {key = key} {found = found} x is =
    let P : Option Held → Type 0 = λ o. IsEnd know key found.pred o found.present in subst P is x.end

-- a key that was found present is known at the node
pub key_found : {start : Start} {know : Know} {key : ℕ} {found : Found} {cur : Held} → Locates start know key found →
    found.cur ≡ Some cur → found.present ≡ true → KeyAt know cur.at key
key_found {know = know} {key = key} {found = found} {cur = cur} x is present =
    let P : Bool → Type 0 = IsCur know key found.pred cur in
    key_known know key found.pred cur (subst P present (cur_is x is))

-- which it has later too
pub key_found_since : {start : Start} {know later : Know} {key : ℕ} {found : Found} {cur : Held} → Keeps know later →
    Locates start know key found → found.cur ≡ Some cur → found.present ≡ true → KeyAt later cur.at key
key_found_since {key = key} {cur = cur} keeps x is present = key_kept cur.at key keeps (key_found x is present)
