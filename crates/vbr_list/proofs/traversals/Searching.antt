-- Traversals one after another, each but the last disturbed by another pass, and what calls cost that make them.
use Rattle.vbr_list.proofs.Names.{◌≡◌, ℕ, ◌+◌, ◌*◌, ◌<◌, ◌≤◌, List, sym, ap, ◌∙◌, subst, arith, mul-le, advances}
use Rattle.vbr_list.proofs.Names.{Begins, begins_refl, begins_run, begins_trans, bucket_of, changed_after, disturbed}
use Rattle.vbr_list.proofs.Names.{disturbed_after, disturbed_at, disturbed_in, enough_past, enough_to_insert_among}
use Rattle.vbr_list.proofs.Names.{EpochSpent, Event, Found, Held, incarnations_after, IsDisturbed, IsFresh, IsOpenIn}
use Rattle.vbr_list.proofs.Names.{IsRun, IsSame, IsStart, LacksSteps, LastTraversal, link_shown_at, listed_for}
use Rattle.vbr_list.proofs.Names.{LooksTo, LosesFound, LosesHeld, met_in, met_since, nodes_after, nodes_listed_in}
use Rattle.vbr_list.proofs.Names.{NoSlot, OutOfSteps, PassLaw, PassView, Quiet, quiet_on, Refusal, Repeats, RepeatsIn}
use Rattle.vbr_list.proofs.Names.{same_on, SearchedFor, Searches, searches_more, SearchesFor, SearchesIn}
use Rattle.vbr_list.proofs.Names.{SearchesInVain, Start, StoodOpen, Trace, TraversesAgain, TraversesAgainIn}
use Rattle.vbr_list.proofs.Names.{TraversesOnce}
use Rattle.vbr_list.proofs.traversals.Disturbing.{disturbed_same, disturbed_there, grows_disturbed, loses_disturb}
use Rattle.vbr_list.proofs.traversals.Disturbing.{loses_found_disturb, met_after, met_before, met_less, met_quiet}
use Rattle.vbr_list.proofs.traversals.Disturbing.{grown_disturbed, met_unanswered, met_until, run_at, run_of, run_to}
use Rattle.vbr_list.proofs.traversals.Disturbing.{same_between}

-- ---- again and again

-- traversals that were lost: no more than the disturbances since
pub record HasRepeatedIn (per : ℕ) (p q : Trace) (bucket each before since_then : ℕ) : Type 0 where
  pub lost : ℕ
  pub repeats : RepeatsIn per p q bucket each before since_then lost (disturbed_at p bucket q.seen)

-- so it is along a key's bucket
abbrev pub HasRepeated : ℕ → Trace → Trace → ℕ → ℕ → ℕ → ℕ → Type 0
HasRepeated per p q key each before since_then =
    HasRepeatedIn per p q (bucket_of p.start.shape key) each before since_then

pub repeated_none_in : (per : ℕ) (p : Trace) (bucket each a : ℕ) → HasRepeatedIn per p p bucket each a a
repeated_none_in per p bucket each a = record { lost = 0; repeats = record { few = omega arith; paid = omega arith } }

pub repeated_none : (per : ℕ) (p : Trace) (key each a : ℕ) → HasRepeated per p p key each a a
repeated_none per p key each a = repeated_none_in per p (bucket_of p.start.shape key) each a

-- what stood open since a later moment
abbrev pub stood_from : (p q r : Trace) {there bucket : ℕ} (held : Held) → there ≡ bucket → IsSame p q →
    Begins p.seen q.seen → StoodOpen q r there held → StoodOpen p r bucket held
stood_from p q r {there} {bucket} held e s a x =
    let P : Start → Type 0 = λ start. IsOpenIn start (incarnations_after start x.moment) bucket held.at in
    let Q : ℕ → Type 0 = λ b. IsOpenIn q.start (nodes_after q x.moment) b held.at in
    record {
      moment = x.moment;
      from = begins_trans p.seen q.seen x.moment a x.from;
      to = x.to;
      shown = ap (λ (start : Start). link_shown_at (incarnations_after start x.moment) held.at) (sym s.start) ∙ x.shown;
      is_open = subst P s.start (subst Q e x.is_open);
    }

more_tries : (per e last tries m1 m2 m before a b : ℕ) → a ≤ before + tries * (per * m1 + e) → b ≤ a + last + per * m2 →
    m1 ≤ m → m2 ≤ m → b ≤ before + per * m + tries * (per * m + e) + last
more_tries per e last tries m1 m2 m before a b x y l k =
    let u = mul-le per m1 per m (omega arith) l in
    let v = mul-le per m2 per m (omega arith) k in
    let z = mul-le tries (per * m1 + e) tries (per * m + e) (omega arith) (omega (arith, u)) in
    omega (arith, x, y, z, v)

-- one more traversal, after those that were lost
module _ {per each : ℕ} {p : PassView} {q r : Trace} (law : PassLaw p) (first : Quiet p.trace q) (then : Quiet q r)
    {bucket before used : ℕ} (x : HasRepeatedIn per p.trace q bucket each before used) where
  run_now : IsRun p.trace.start p.trace.passes r.seen
  run_now = run_of law (quiet_on first then)

  traversed : (last : ℕ) {mid : ℕ} → TraversesOnce per last q r bucket used mid →
      mid ≤ before + per * met_in p.trace r bucket + x.lost * (per * met_in p.trace r bucket + each) + last
  traversed last {mid} once =
      more_tries per each last x.lost (met_in p.trace q bucket) (met_in q r bucket) (met_in p.trace r bucket) before
      used mid x.repeats.paid once (met_until p.trace r law.start run_now bucket q first.seen then.seen)
      (met_after p.trace r law.start run_now bucket q first.same first.seen then.seen)

  -- it was lost too
  pub lost_on : {now_used : ℕ} → TraversesOnce per each q r bucket used now_used → IsDisturbed q r bucket →
      HasRepeatedIn per p.trace r bucket each before now_used
  lost_on once less =
      let few = x.repeats.few in
      let here = disturbed_there p.trace q bucket q.seen first.same in
      let there = disturbed_there p.trace q bucket r.seen first.same in
      let paid = traversed each once in
      record {
        lost = x.lost + 1;
        repeats = record { few = omega (arith, few, less, here, there); paid = omega (arith, paid) };
      }

  -- it was the last one
  pub last_traversal : {now_used : ℕ} → TraversesOnce per each q r bucket used now_used → (times : ℕ) →
      disturbed_at p.trace bucket q.seen ≤ times →
      RepeatsIn per p.trace r bucket each before now_used (x.lost + 1) (times + 1)
  last_traversal once times le =
      let few = x.repeats.few in
      let paid = traversed each once in
      record { few = omega (arith, few, le); paid = omega (arith, paid) }

  -- and with steps that came then
  pub last_search : (last : ℕ) {mid : ℕ} → TraversesOnce per last q r bucket used mid → (since_then more : ℕ) →
      since_then + last ≤ mid + more → SearchesIn per each p.trace r bucket before since_then more
  last_search last once since_then more le =
      let few = x.repeats.few in
      let grows = grows_disturbed p.trace r law.start run_now bucket q.seen then.seen in
      let paid = traversed last once in
      record { lost = x.lost; few = omega (arith, few, grows); paid = omega (arith, paid, le) }

pub traverses_again : {per : ℕ} {p : PassView} {q r : Trace} → PassLaw p → Quiet p.trace q → Quiet q r →
    {bucket before used now_used : ℕ} → HasRepeatedIn per p.trace q bucket 3 before used →
    TraversesOnce per 3 q r bucket used now_used → TraversesAgainIn per p.trace r bucket before now_used
traverses_again {p = p} {q = q} {r = r} law first then {bucket = bucket} x once =
    record {
      lost = x.lost;
      repeats = last_traversal law first then x once (disturbed_at p.trace bucket r.seen)
          (grows_disturbed p.trace r law.start (run_of law (quiet_on first then)) bucket q.seen then.seen);
    }

-- so it is of a look
pub looked_again : {p : PassView} {q r : Trace} → PassLaw p → Quiet p.trace q → Quiet q r →
    {key before since_then : ℕ} {held : Held} → LooksTo q r key before since_then held →
    TraversesAgain 5 q r key before since_then
looked_again {p} {q} {r} law first then {key} x =
    let is = subst IsStart (sym first.same.start) law.start in
    let grows = grows_disturbed q r is (run_at q r then.same (then.is_run (first.is_run law.is_run)))
    (bucket_of q.start.shape key) x.stood.moment x.stood.to in
    let few = x.repeats.few in
    record { lost = x.lost; repeats = record { few = omega (arith, few, grows); paid = x.repeats.paid } }

-- ---- rounds: traversals, and an answer that was lost

more_rounds : (per before each tries lost m1 m2 m a b c : ℕ) → a ≤ before + tries * (per * m1 + (3 + each)) →
    b ≤ a + (lost + 1) * (per * m2 + 3) → c ≤ b + each → m1 ≤ m → m2 ≤ m →
    c ≤ before + (tries + lost + 1) * (per * m + (3 + each))
more_rounds per before each tries lost m1 m2 m a b c x y z l k =
    let low = mul-le per m1 per m (omega arith) l in
    let high = mul-le per m2 per m (omega arith) k in
    let u = mul-le tries (per * m1 + (3 + each)) tries (per * m + (3 + each)) (omega arith) (omega (arith, low)) in
    let v = mul-le (lost + 1) (per * m2 + 3) (lost + 1) (per * m + 3) (omega arith) (omega (arith, high)) in
    let w = mul-le 0 0 lost each (omega arith) (omega arith) in
    omega (arith, x, y, z, u, v, w)

module _ (p q m r : Trace) (is : IsStart p.start) (ok : IsRun p.start p.passes r.seen) (key each : ℕ)
    (sq : IsSame p q) where
  -- the last of the traverses was disturbed since a moment of it
  round_lost : Begins p.seen q.seen → Begins q.seen m.seen → Begins m.seen r.seen →
      {per before_all used mid now_used : ℕ} → HasRepeated per p q key (3 + each) before_all used →
      (moment : List Event) (lost : ℕ) → Repeats per q m key 3 used mid (lost + 1) (disturbed_after q key moment + 1) →
      now_used ≤ mid + each → disturbed_after p key moment < disturbed_after p key r.seen →
      HasRepeated per p r key (3 + each) before_all now_used
  round_lost a b c {per} {before_all} {used} {mid} {now_used} x moment lost rep few less =
      let here = disturbed_same p q key q.seen sq in
      let there = disturbed_same p q key moment sq in
      let before = x.repeats.few in
      let since_q = rep.few in
      let low = met_before p r is ok key q a (begins_trans q.seen m.seen r.seen b c) in
      let mid_met = met_less p m is (begins_run p.start p.passes m.seen r.seen c ok) key q sq a b in
      let high = met_before p r is ok key m (begins_trans p.seen q.seen m.seen a b) c in
      record {
        lost = x.lost + lost + 1;
        repeats = record {
          few = omega (arith, before, since_q, less, here, there);
          paid = more_rounds per before_all each x.lost lost (met_since p q key) (met_since q m key) (met_since p r key)
              used mid now_used x.repeats.paid rep.paid few low (omega (arith, mid_met, high));
        };
      }

  -- a look-up
  pub round_on : IsSame p m → IsSame p r → Begins p.seen q.seen → Begins q.seen m.seen → Begins m.seen r.seen →
      changed_after p key r.seen ≡ changed_after p key p.seen →
      {before_all used mid now_used : ℕ} (held : Held) → HasRepeated 5 p q key (3 + each) before_all used →
      IsFresh m → LooksTo q m key used mid held → now_used ≤ mid + each → LosesHeld m r held →
      HasRepeated 5 p r key (3 + each) before_all now_used
  round_on sm sr a b c own held x fresh look few loses =
      let less = loses_disturb p r is ok (bucket_of p.start.shape key) m held sm sr
      (begins_trans p.seen q.seen m.seen a b) c own fresh
      (stood_from p q m held (ap (λ (start : Start). bucket_of start.shape key) sq.start) sq a look.stood) loses in
      round_lost a b c x look.stood.moment look.lost look.repeats few less

  -- a search
  pub search_round_on : IsSame q m → IsSame p r → Begins p.seen q.seen → Begins q.seen m.seen → Begins m.seen r.seen →
      advances r ≡ advances m →
      {before_all used mid now_used : ℕ} → HasRepeated 9 p q key (3 + each) before_all used → (told : Found) →
      LastTraversal q m key used mid told → now_used ≤ mid + each → LosesFound m r told →
      HasRepeated 9 p r key (3 + each) before_all now_used
  search_round_on qm sr a b c count x told last few loses =
      let t = last.begun in
      let st : IsSame p t = same_on sq last.same in
      let less = loses_found_disturb t r (subst IsStart (sym st.start) is) (run_to st r.seen ok)
      (bucket_of t.start.shape key) (same_between st sr) (count ∙ last.count) m told (same_between last.same qm) c
      last.knew last.pred last.cur loses in
      let low = disturbed_same p t key t.seen st in
      let high = disturbed_same p t key r.seen st in
      round_lost a b c x t.seen last.lost last.repeats few (omega (arith, less, low, high))

-- ---- what calls cost

more_searched : (per before e each tries lost m1 m2 m a b now more all : ℕ) → (e ≤ each) × (3 ≤ each) →
    a ≤ before + tries * (per * m1 + e) → b ≤ a + (lost + 1) * (per * m2 + 3) → now ≤ b + more → more + 3 ≤ all →
    m1 ≤ m → m2 ≤ m → now ≤ before + per * m + (tries + lost) * (per * m + each) + all
more_searched per before e each tries lost m1 m2 m a b now more all f x y z w l k =
    let e_few = f.0 in
    let three = f.1 in
    let low = mul-le per m1 per m (omega arith) l in
    let high = mul-le per m2 per m (omega arith) k in
    let u = mul-le tries (per * m1 + e) tries (per * m + each) (omega arith) (omega (arith, low, e_few)) in
    let v = mul-le lost (per * m2 + 3) lost (per * m + each) (omega arith) (omega (arith, high, three)) in
    omega (arith, x, y, z, w, u, v, high)

-- after so many, and what came then
pub searches_until : (p q m : Trace) → IsStart p.start → IsRun p.start p.passes m.seen → (key : ℕ) → IsSame p q →
    Begins p.seen q.seen → Begins q.seen m.seen → {per e each before_all used mid : ℕ} → (e ≤ each) × (3 ≤ each) →
    HasRepeated per p q key e before_all used → TraversesAgain per q m key used mid → (since_then more all : ℕ) →
    since_then ≤ mid + more → more + 3 ≤ all →
    SearchesIn per each p m (bucket_of p.start.shape key) before_all since_then all
searches_until p q m is ok key sq a b {per} {e} {each} {before_all} {used} {mid} f x w since_then more all le least =
    let here = disturbed_same p q key q.seen sq in
    let there = disturbed_same p q key m.seen sq in
    let before = x.repeats.few in
    let since_q = w.repeats.few in
    record {
      lost = x.lost + w.lost;
      few = omega (arith, before, since_q, here, there);
      paid = more_searched per before_all e each x.lost w.lost (met_since p q key) (met_since q m key)
          (met_since p m key) used mid since_then more all f x.repeats.paid w.repeats.paid le least
          (met_before p m is ok key q a b) (met_less p m is ok key q sq a b);
    }

searched_few : (per before each lost m n t now more : ℕ) → now ≤ before + per * m + lost * (per * m + each) + more →
    m ≤ n → lost ≤ t → now ≤ before + (per * n + t * (per * n + each) + more)
searched_few per before each lost m n t now more x l f =
    let high = mul-le per m per n (omega arith) l in
    let u = mul-le lost (per * m + each) t (per * n + each) f (omega (arith, high)) in
    omega (arith, x, high, u)

-- until a moment at which the pass had made no call yet: so many for each node of the list, and once more for each
-- time that it was disturbed
pub searched_in : (p m r : Trace) → IsStart p.start → IsRun p.start p.passes r.seen → (bucket : ℕ) → Quiet p m →
    Begins m.seen r.seen → {per each before since_then more : ℕ} →
    SearchesIn per each p m bucket before since_then more →
    since_then ≤ before
    + (per * (nodes_listed_in p bucket + disturbed_in p r bucket) + disturbed_in p r bucket
    * (per * (nodes_listed_in p bucket + disturbed_in p r bucket) + each) + more)
searched_in p m r is ok bucket quiet on {per} {each} {before} {since_then} {more} x =
    let few = x.few in
    let met = met_unanswered p m is (begins_run p.start p.passes m.seen r.seen on ok) bucket quiet in
    let grows = grows_disturbed p r is ok bucket m.seen on in
    searched_few per before each x.lost (met_in p m bucket) (nodes_listed_in p bucket + disturbed_in p r bucket)
    (disturbed_in p r bucket) since_then more x.paid (omega (arith, met, grows)) (omega (arith, few, grows))

-- so it is from an earlier moment on, since which the pass has made no call either
pub searched_since : {p : PassView} {q r : Trace} → PassLaw p → Quiet p.trace q → Quiet q r →
    {bucket per each before since_then more : ℕ} → SearchesIn per each q r bucket before since_then more →
    since_then ≤ before
    + (per * (nodes_listed_in p.trace bucket + disturbed_in p.trace r bucket) + disturbed_in p.trace r bucket
    * (per * (nodes_listed_in p.trace bucket + disturbed_in p.trace r bucket) + each) + more)
searched_since {p} {q} {r} law first then {bucket} {per} {each} {before} {since_then} {more} x =
    let whole = quiet_on first then in
    let ok = run_of law whole in
    let later = met_after p.trace r law.start ok bucket q first.same first.seen then.seen in
    let met = met_unanswered p.trace r law.start ok bucket whole in
    let here = disturbed_there p.trace q bucket q.seen first.same in
    let there = disturbed_there p.trace q bucket r.seen first.same in
    let grows = grown_disturbed law first bucket in
    let few = x.few in
    searched_few per before each x.lost (met_in q r bucket)
    (nodes_listed_in p.trace bucket + disturbed_in p.trace r bucket) (disturbed_in p.trace r bucket) since_then more
    x.paid (omega (arith, later, met)) (omega (arith, few, here, there, grows))

-- what a call costs that searched to the end, and what came then
pub call_paid : (p q m r : Trace) → IsStart p.start → IsRun p.start p.passes r.seen → (key each : ℕ) → Quiet p q →
    Quiet q m → Begins m.seen r.seen → {per e used mid : ℕ} → (e ≤ each) × (3 ≤ each) →
    HasRepeated per p q key e 0 used → TraversesAgain per q m key used mid → (since_then more : ℕ) →
    since_then ≤ mid + more →
    since_then ≤ per * (listed_for p key + disturbed p r key) + disturbed p r key
    * (per * (listed_for p key + disturbed p r key) + each) + (more + 3)
call_paid p q m r is ok key each first then on f x w since_then more le =
    let paid = searched_in p m r is ok (bucket_of p.start.shape key) (quiet_on first then) on
    (searches_until p q m is (begins_run p.start p.passes m.seen r.seen on ok) key first.same first.seen then.seen
    {each = each} f x w since_then more (more + 3) le (omega arith)) in
    omega (arith, paid)

-- a budget that has no room for one more piece was below what is enough
pub lacks_steps : (p q m : Trace) → IsStart p.start → IsRun p.start p.passes m.seen → (key : ℕ) → Quiet p q →
    Quiet q m → {per e used mid : ℕ} → e ≤ 11 → HasRepeated per p q key e 0 used → TraversesAgain per q m key used mid →
    (budget : ℕ) → budget < mid + 8 →
    budget < (disturbed p m key + 1) * (per * (listed_for p key + disturbed p m key) + 11)
lacks_steps p q m is ok key first then few x w budget short =
    let most = call_paid p q m m is ok key 11 first then (begins_refl m.seen) (few, omega arith) x w (budget + 1) 8
    (omega (arith, short)) in omega (arith, most)

-- a later end was disturbed no less
pub disturbed_on : (p m r : Trace) → IsStart p.start → IsRun p.start p.passes r.seen → (key : ℕ) →
    Begins m.seen r.seen → disturbed p m key ≤ disturbed p r key
disturbed_on p m r is ok key c =
    let x = grows_disturbed p r is ok (bucket_of p.start.shape key) m.seen c in omega (arith, x)

-- ---- searches of an insert

searched_later : (before lost m1 m2 now least most : ℕ) → now ≤ before + 9 * m1 + lost * (9 * m1 + 7) + least →
    m1 ≤ m2 → least ≤ most → now ≤ before + 9 * m2 + lost * (9 * m2 + 7) + most
searched_later before lost m1 m2 now least most x l le =
    let u = mul-le lost (9 * m1 + 7) lost (9 * m2 + 7) (omega arith) (omega (arith, l)) in
    omega (arith, x, l, le, u)

-- until a later moment
pub searches_later : (p m r : Trace) → IsStart p.start → IsRun p.start p.passes r.seen → (key : ℕ) →
    Begins p.seen m.seen → Begins m.seen r.seen → {before_all since_then least : ℕ} (most : ℕ) → least ≤ most →
    Searches 7 p m key before_all since_then least → Searches 7 p r key before_all since_then most
searches_later p m r is ok key a b {before_all} {since_then} {least} most le x =
    let grows = grows_disturbed p r is ok (bucket_of p.start.shape key) m.seen b in
    let few = x.few in
    record {
      lost = x.lost;
      few = omega (arith, few, grows);
      paid = searched_later before_all x.lost (met_since p m key) (met_since p r key) since_then least most x.paid
          (met_before p r is ok key m a b) le;
    }

-- two halves of an insert
both_halves : (each lost lost2 m1 m2 n t used now more more2 : ℕ) → 7 ≤ each →
    used ≤ 0 + 9 * m1 + lost * (9 * m1 + 7) + more → now ≤ used + 9 * m2 + lost2 * (9 * m2 + each) + more2 →
    m1 ≤ n + t → m2 ≤ n + t → lost + lost2 ≤ t → now ≤ 18 * (n + t) + searches_more each n t + more + more2
both_halves each lost lost2 m1 m2 n t used now more more2 e x y l k f =
    let u = mul-le lost (9 * m1 + 7) lost (9 * (n + t) + each) (omega arith) (omega (arith, l, e)) in
    let v = mul-le lost2 (9 * m2 + each) lost2 (9 * (n + t) + each) (omega arith) (omega (arith, k)) in
    let w = mul-le (lost + lost2) (9 * (n + t) + each) t (9 * (n + t) + each) f (omega arith) in
    omega (arith, x, y, u, v, w, l, k)

-- what an answer cost: after one search
pub once_paid : (p q : Trace) → IsStart p.start → IsRun p.start p.passes q.seen → (key : ℕ) {used more : ℕ} →
    SearchedFor p q key 0 used more →
    used ≤ 9 * (listed_for p key + disturbed p q key) + searches_more 7 (listed_for p key) (disturbed p q key) + more
once_paid p q is ok key x =
    let paid = searched_in p x.ended q is ok (bucket_of p.start.shape key) x.quiet x.to x.searches in
    omega (arith, paid)

pub vain_lacks : (p q : Trace) → IsStart p.start → IsRun p.start p.passes q.seen → (key budget taking : ℕ) → Quiet p q →
    (refusal : Refusal) → SearchesInVain p q key 0 budget (taking + 10) refusal →
    LacksSteps (enough_to_insert_among (listed_for p key) (disturbed p q key) taking) budget refusal
vain_lacks p q is ok key budget taking quiet (OutOfSteps used) x =
    let most = searched_in p q q is ok (bucket_of p.start.shape key) quiet (begins_refl q.seen) x in omega (arith, most)
vain_lacks p q is ok key budget taking quiet NoSlot x = tt
vain_lacks p q is ok key budget taking quiet (EpochSpent epoch) x = tt

-- the first search, until a later moment
pub searched_first : (p q : Trace) → IsStart p.start → IsRun p.start p.passes q.seen →
    (key : ℕ) {before_all now more : ℕ} → SearchedFor p q key before_all now more →
    SearchesFor p q key before_all now more
searched_first p q is ok key {before_all} {now} {more} x =
    searches_later p x.ended q is ok key x.quiet.seen x.to more (omega arith) x.searches

-- after two, of which the second ended at an earlier moment
pub both_paid : (p q m r : Trace) → IsStart p.start → IsRun p.start p.passes r.seen → (key : ℕ) → Quiet p q →
    Quiet q m → Begins m.seen r.seen → {each used now more more2 : ℕ} → 7 ≤ each → SearchedFor p q key 0 used more →
    Searches each q m key used now more2 →
    now ≤ 18 * (listed_for p key + disturbed p r key) + searches_more each (listed_for p key) (disturbed p r key)
    + (more + more2)
both_paid p q m r is ok key quiet then on {each} {used} {now} {more} {more2} e x y =
    let ok_m = begins_run p.start p.passes m.seen r.seen on ok in
    let first = searched_first p q is (begins_run p.start p.passes q.seen m.seen then.seen ok_m) key x in
    let here = disturbed_same p q key q.seen quiet.same in
    let there = disturbed_same p q key m.seen quiet.same in
    let before = first.few in
    let since_q = y.few in
    let few = met_quiet p m is ok_m key (quiet_on quiet then) in
    let low = met_before p m is ok_m key q quiet.seen then.seen in
    let high = met_less p m is ok_m key q quiet.same quiet.seen then.seen in
    let grows = disturbed_on p m r is ok key on in
    let both = both_halves each first.lost y.lost (met_since p q key) (met_since q m key) (listed_for p key)
    (disturbed p r key) used now more more2 e first.paid y.paid (omega (arith, few, low, grows))
    (omega (arith, few, high, grows)) (omega (arith, before, since_q, here, there, grows)) in
    omega (arith, both)

-- a budget that has no room for one more piece was below what is enough
pub both_lack : (p q r : Trace) → IsStart p.start → IsRun p.start p.passes r.seen → (key budget used taking : ℕ) →
    Quiet p q → Quiet q r → {each : ℕ} → 7 ≤ each → SearchedFor p q key 0 used (taking + 3) →
    Searches each q r key used (budget + 1) 11 →
    budget < enough_past (listed_for p key + disturbed p r key) taking
    + searches_more each (listed_for p key) (disturbed p r key)
both_lack p q r is ok key budget used taking quiet then e x y =
    let both = both_paid p q r r is ok key quiet then (begins_refl r.seen) e x y in omega (arith, both)
