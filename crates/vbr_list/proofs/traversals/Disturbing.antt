-- A moved epoch, or a link that no longer stands open, shows that another pass disturbed a call.
-- A pass that was alone was not disturbed.
use Rattle.vbr_list.proofs.Names.{◌≡◌, ◌≢◌, ℕ, ◌+◌, ◌*◌, ◌<◌, ◌≤◌, true, false, Option, Some, None, List, [], ◌∷◌}
use Rattle.vbr_list.proofs.Names.{◌++◌, sym, ap, ◌∙◌, subst, inl, inr, arith, append_assoc, append-nil, mul-le}
use Rattle.vbr_list.proofs.Names.{AddsNone, advances, At, Begins, begins_refl, begins_run, begins_trans, bucket_of}
use Rattle.vbr_list.proofs.Names.{changed_after, changed_at, changed_disturbed, ChangesNone, disturbances}
use Rattle.vbr_list.proofs.Names.{disturbances_grow, disturbances_paid, disturbed, disturbed_after, disturbed_at}
use Rattle.vbr_list.proofs.Names.{disturbed_in, enough_among, enough_to_insert_among, enough_to_search_among}
use Rattle.vbr_list.proofs.Names.{enough_to_store_among, EpochMoved, Event, Found, found, FreshIfMoved, Held}
use Rattle.vbr_list.proofs.Names.{held_in_kept, HeldIn, incarnations_after, is_advance, IsAdvance, IsAlone, IsFresh}
use Rattle.vbr_list.proofs.Names.{IsHeld, IsLost, IsMovedOrLost, IsOpenIn, IsRun, IsSame, IsStart, Keeps, keeps_on}
use Rattle.vbr_list.proofs.Names.{known_open, knows, KnowsEpoch, link_loaded, link_of, link_shown_at, listed_for}
use Rattle.vbr_list.proofs.Names.{LoadLink, LosesFound, LosesHeld, LosesNext, LosesPlace, LostExchange, Marked, met}
use Rattle.vbr_list.proofs.Names.{met_bound_quiet, met_in, met_later, met_on, met_since, most_disturbed}
use Rattle.vbr_list.proofs.Names.{moved_by_others, moved_disturbed, MovesEpoch, MovesOn, NextStandsStill, nodes_after}
use Rattle.vbr_list.proofs.Names.{nodes_listed_in, OnlyEventsOf, OpensPlace, own_between, own_calls, own_changes}
use Rattle.vbr_list.proofs.Names.{own_entries, own_unchanged, PassLaw, PassView, Quiet, quiet_on, Rollback, RollsBack}
use Rattle.vbr_list.proofs.Names.{run_agrees, seek_costs_among, shown_there, since, StampsFreshly, StandsNow}
use Rattle.vbr_list.proofs.Names.{StandsStill, Start, Step, StoodOpen, Trace, unchanged_by_none}
use Rattle.vbr_list.proofs.Names.{undisturbed_by_itself, word_of, word_of-link_of, world_after}
use Rattle.vbr_list.proofs.pieces.CountedSteps.{none_between}

-- ---- at the table of a pass

pub fresh_at : (p q : Trace) → IsSame p q → IsFresh q → (nodes_after p q.seen).epoch ≡ (knows q).epoch
fresh_at p q s fresh = ap (λ (start : Start). (incarnations_after start q.seen).epoch) (sym s.start) ∙ fresh

pub run_at : (p q : Trace) → IsSame p q → IsRun q.start q.passes q.seen → IsRun p.start p.passes q.seen
run_at p q s ok =
    let P : Start → Type 0 = λ start. IsRun start q.passes q.seen in
    let Q : ℕ → Type 0 = λ passes. IsRun p.start passes q.seen in
    subst Q s.passes (subst P s.start ok)

-- of a pass that made no call
pub run_of : {p : PassView} {q : Trace} → PassLaw p → Quiet p.trace q → IsRun p.trace.start p.trace.passes q.seen
run_of {p} {q} law quiet = run_at p.trace q quiet.same (quiet.is_run law.is_run)

-- and if it added no event to the chronicle, it changed no list
pub unchanged_of : {p : PassView} {q : Trace} → PassLaw p → Quiet p.trace q → AddsNone p.trace q → ChangesNone p.trace q
unchanged_of law quiet none = unchanged_by_none law.start (run_of law quiet) quiet.same quiet.seen none

pub run_to : {p q : Trace} → IsSame p q → (run : List Event) → IsRun p.start p.passes run → IsRun q.start q.passes run
run_to {p} {q} s run ok =
    subst (λ (passes : ℕ). IsRun q.start passes run) (sym s.passes)
    (subst (λ (start : Start). IsRun start p.passes run) (sym s.start) ok)

-- two later moments of a pass are at the same table
pub same_between : {p q r : Trace} → IsSame p q → IsSame p r → IsSame q r
same_between x y =
    record {
      table = y.table ∙ sym x.table;
      start = y.start ∙ sym x.start;
      passes = y.passes ∙ sym x.passes;
      who = y.who ∙ sym x.who;
    }

pub own_at : (p q r : Trace) → IsSame p q → IsSame p r → AddsNone q r →
    own_entries p.start r.seen p.who ≡ own_entries p.start q.seen p.who
own_at p q r sq sr x = sym (λ i. own_entries (sr.start i) r.seen (sr.who i)) ∙ x.entries
    ∙ (λ i. own_entries (sq.start i) q.seen (sq.who i))

-- a pass that added no event to the chronicle changed nothing itself
pub unchanged_at : (p q r : Trace) (bucket : ℕ) → IsStart p.start → IsRun p.start p.passes r.seen → IsSame p q →
    IsSame p r → Begins q.seen r.seen → AddsNone q r → changed_at p bucket r.seen ≡ changed_at p bucket q.seen
unchanged_at p q r bucket is ok sq sr b x =
    own_unchanged (since p.start p.passes q.seen r.seen is ok b) p.who bucket (own_at p q r sq sr x)

kept_at : (p q r : Trace) (bucket : ℕ) → IsSame p q → IsSame p r → ChangesNone q r →
    changed_at p bucket r.seen ≡ changed_at p bucket q.seen
kept_at p q r bucket sq sr x = sym (λ i. own_changes (sr.start i) r.seen (sr.who i) bucket) ∙ x.same bucket
    ∙ (λ i. own_changes (sq.start i) q.seen (sq.who i) bucket)

-- nor did it between two moments at which it had changed as much
pub kept_between : (p : Trace) (q x r : List Event) → IsStart p.start → IsRun p.start p.passes r → (bucket : ℕ) →
    Begins q x → Begins x r → changed_at p bucket r ≡ changed_at p bucket q →
    changed_at p bucket r ≡ changed_at p bucket x
kept_between p q x r is ok bucket a b own =
    own_between (since p.start p.passes q x is (begins_run p.start p.passes x r b ok) a)
    (since p.start p.passes x r is ok b) (since p.start p.passes r r is ok (begins_refl r)) p.who bucket own

-- from the trace of another moment of the pass
pub changed_same : (p q : Trace) (key : ℕ) (run : List Event) → IsSame p q →
    changed_after q key run ≡ changed_after p key run
changed_same p q key run s =
    (λ i. own_changes (s.start i) run (s.who i) (bucket_of (let st : Start = s.start i in st.shape) key))

pub disturbed_there : (p q : Trace) (bucket : ℕ) (run : List Event) → IsSame p q →
    disturbed_at q bucket run ≡ disturbed_at p bucket run
disturbed_there p q bucket run s = (λ i. disturbances (s.start i) run (s.who i) bucket)

pub disturbed_same : (p q : Trace) (key : ℕ) (run : List Event) → IsSame p q →
    disturbed_after q key run ≡ disturbed_after p key run
disturbed_same p q key run s =
    (λ i. disturbances (s.start i) run (s.who i) (bucket_of (let st : Start = s.start i in st.shape) key))

-- what rolled back has the epoch that stood
pub moves_epoch : {p q : PassView} (rollback : Rollback) → RollsBack p q rollback → MovesEpoch p.trace q.trace
moves_epoch (EpochMoved now) x = record { other = λ e. x.moved.0 (sym x.moved.1 ∙ e); fresh = x.fresh }
moves_epoch (LostExchange found) x = absurd x.moved

-- ---- a disturbance

module _ (p r : Trace) (is : IsStart p.start) (ok : IsRun p.start p.passes r.seen) (bucket : ℕ) where
  pub grows_disturbed : (run : List Event) → Begins run r.seen →
      disturbed_at p bucket run ≤ disturbed_at p bucket r.seen
  grows_disturbed run b = disturbances_grow (since p.start p.passes run r.seen is ok b) p.who bucket

  -- where the epoch has moved since it stood
  pub moves_disturb : (q : Trace) → IsSame p q → IsSame p r → Begins q.seen r.seen →
      changed_at p bucket r.seen ≡ changed_at p bucket q.seen → IsFresh q → MovesEpoch q r →
      disturbed_at p bucket q.seen < disturbed_at p bucket r.seen
  moves_disturb q sq sr b own fresh m =
      moved_disturbed (since p.start p.passes q.seen r.seen is ok b) p.who bucket own
      (λ same. m.other (sym (fresh_at p r sr m.fresh) ∙ same ∙ fresh_at p q sq fresh))

  -- where what was held is lost since it stood
  pub lost_disturbs : (q : Trace) (held : Held) (why : Rollback) → IsSame p q → Begins q.seen r.seen →
      (x : StoodOpen p q bucket held) → changed_at p bucket r.seen ≡ changed_at p bucket x.moment →
      IsLost q r held why → disturbed_at p bucket x.moment < disturbed_at p bucket r.seen
  lost_disturbs q held (EpochMoved now) sq b x own l = absurd l
  lost_disturbs q held (LostExchange word) sq b x own l =
      let y = l.1.moment in
      let to : Begins y r.seen = l.1.within.to in
      let on : Begins x.moment y = begins_trans x.moment q.seen y x.to l.1.within.from in
      let ok_y = begins_run p.start p.passes y r.seen to ok in
      let ok_x = begins_run p.start p.passes x.moment y on ok_y in
      let first = since p.start p.passes x.moment x.moment is ok_x (begins_refl x.moment) in
      let second = since p.start p.passes x.moment y is ok_y on in
      let third = since p.start p.passes y r.seen is ok to in
      let shown : link_shown_at (nodes_after p y) held.at ≡ link_of word =
      sym (shown_there p.start p.passes y is ok_y held.at)
      ∙ link_loaded p.start p.passes y is ok_y p.who held.at
      ∙ ap link_of
      (sym (ap (λ (start : Start). found start (world_after start y) (LoadLink held.at)) sq.start) ∙ l.1.found) in
      let less = changed_disturbed second p.who bucket (own_between first second third p.who bucket own) held.at
      x.is_open
      (λ same. l.0
      (sym (word_of-link_of word) ∙ ap word_of (sym shown ∙ same ∙ x.shown) ∙ word_of-link_of held.word)) in
      let more = disturbances_grow third p.who bucket in
      omega (arith, less, more)

  -- the one or the other
  pub loses_disturb : (q : Trace) (held : Held) → IsSame p q → IsSame p r → Begins p.seen q.seen →
      Begins q.seen r.seen → changed_at p bucket r.seen ≡ changed_at p bucket p.seen → IsFresh q →
      (x : StoodOpen p q bucket held) → LosesHeld q r held →
      disturbed_at p bucket x.moment < disturbed_at p bucket r.seen
  loses_disturb q held sq sr a b own fresh x l = go l.why l.rolled l.fresh
    where
      go : (why : Rollback) → IsMovedOrLost q r held why → FreshIfMoved r why →
          disturbed_at p bucket x.moment < disturbed_at p bucket r.seen
      go (EpochMoved now) m f =
          let less = moves_disturb q sq sr b (kept_between p p.seen q.seen r.seen is ok bucket a b own) fresh
          (record { other = λ e. m.0 (sym m.1 ∙ e); fresh = f }) in
          let more = disturbances_grow
          (since p.start p.passes x.moment q.seen is (begins_run p.start p.passes q.seen r.seen b ok) x.to) p.who
          bucket in
          omega (arith, less, more)
      go (LostExchange word) m f =
          lost_disturbs q held (LostExchange word) sq b x
          (kept_between p p.seen x.moment r.seen is ok bucket x.from (begins_trans x.moment q.seen r.seen x.to b) own) m

-- by a later moment at which a pass has made no call it was disturbed no less
pub grown_disturbed : {p : PassView} {q : Trace} → PassLaw p → Quiet p.trace q → (bucket : ℕ) →
    disturbed_at p.trace bucket p.trace.seen ≤ disturbed_at p.trace bucket q.seen
grown_disturbed {p} {q} law quiet bucket =
    grows_disturbed p.trace q law.start (run_of law quiet) bucket p.trace.seen quiet.seen

-- ---- the nodes that can be met

module _ (p r : Trace) (is : IsStart p.start) (ok : IsRun p.start p.passes r.seen) where
  module _ (bucket : ℕ) where
    -- of a pass that makes no call they are no more than were in the list, and than it was disturbed
    pub met_unanswered : Quiet p r → met_in p r bucket ≤ nodes_listed_in p bucket + disturbed_in p r bucket
    met_unanswered q =
        let calls : own_calls p.start r.seen p.who ≡ own_calls p.start p.seen p.who =
        sym (λ i. own_calls (q.same.start i) r.seen (q.same.who i)) ∙ q.calls in
        let x = met_bound_quiet p.start p.passes p.seen r.seen is ok q.seen p.who bucket bucket calls in
        let y = disturbances_grow (since p.start p.passes p.seen r.seen is ok q.seen) p.who bucket in
        omega (arith, x, y)

    -- what can be met since a later moment
    pub met_after : (q : Trace) → IsSame p q → Begins p.seen q.seen → Begins q.seen r.seen →
        met_in q r bucket ≤ met_in p r bucket
    met_after q s a b =
        let same : met_in q r bucket ≡ met p.start (nodes_after p q.seen) (nodes_after p r.seen) bucket =
        (λ i. met (s.start i) (incarnations_after (s.start i) q.seen) (incarnations_after (s.start i) r.seen) bucket) in
        let x = met_later p.start p.passes q.seen r.seen is ok b p.seen a bucket in
        omega (arith, same, x)

    -- and until an earlier one
    pub met_until : (q : Trace) → Begins p.seen q.seen → Begins q.seen r.seen → met_in p q bucket ≤ met_in p r bucket
    met_until q a b = met_on p.start p.passes q.seen r.seen is ok b p.seen a bucket

  -- so it is of a key's bucket
  module _ (key : ℕ) where
    pub met_less : (q : Trace) → IsSame p q → Begins p.seen q.seen → Begins q.seen r.seen →
        met_since q r key ≤ met_since p r key
    met_less q s a b =
        subst (λ (start : Start). met_in q r (bucket_of start.shape key) ≤ met_since p r key) (sym s.start)
        (met_after (bucket_of p.start.shape key) q s a b)

    pub met_before : (q : Trace) → Begins p.seen q.seen → Begins q.seen r.seen → met_since p q key ≤ met_since p r key
    met_before q a b = met_until (bucket_of p.start.shape key) q a b

    pub met_quiet : Quiet p r → met_since p r key ≤ listed_for p key + disturbed p r key
    met_quiet q = met_unanswered (bucket_of p.start.shape key) q

-- ---- a pass that was alone

own_disturbs_none : (start : Start) (who bucket : ℕ) (seen own : List Event) → OnlyEventsOf who own →
    disturbances start (seen ++ own) who bucket ≡ disturbances start seen who bucket
own_disturbs_none start who bucket seen [] each = ap (λ l. disturbances start l who bucket) (append-nil seen)
own_disturbs_none start who bucket seen (event ∷ own) each =
    let one : disturbances start (seen ++ event ∷ []) who bucket ≡ disturbances start seen who bucket = (
    sym (ap (λ w. disturbances start (seen ++ event ∷ []) w bucket) each.0)
    ∙ undisturbed_by_itself start seen event bucket ∙ ap (λ w. disturbances start seen w bucket) each.0) in
    ap (λ l. disturbances start l who bucket) (sym (append_assoc seen (event ∷ []) own))
    ∙ own_disturbs_none start who bucket (seen ++ event ∷ []) own each.1 ∙ one

pub undisturbed_in : (p q : Trace) (bucket : ℕ) → IsAlone p q → disturbed_in p q bucket ≡ 0
undisturbed_in p q bucket alone =
    let same : disturbed_at p bucket q.seen ≡ disturbed_at p bucket p.seen =
    ap (disturbed_at p bucket) alone.seen ∙ own_disturbs_none p.start p.who bucket p.seen alone.own alone.each in
    omega (arith, same)

pub alone_undisturbed : (p q : Trace) (key : ℕ) → IsAlone p q → disturbed p q key ≡ 0
alone_undisturbed p q key alone = undisturbed_in p q (bucket_of p.start.shape key) alone

-- so what is so of a pass that was disturbed so often is so of one that was disturbed never
pub undisturbed : (P : ℕ → Type 0) {p q : Trace} (key : ℕ) → P (disturbed p q key) → IsAlone p q → P 0
undisturbed P {p} {q} key x alone = subst P (alone_undisturbed p q key alone) x

-- ---- what a look-up loses

-- a value that wasn't read
pub loses_value : {p q : PassView} (held : Held) (rollback : Rollback) → RollsBack p q rollback →
    LosesHeld p.trace q.trace held
loses_value held (EpochMoved now) x = record { why = EpochMoved now; rolled = x.moved; fresh = x.fresh }
loses_value held (LostExchange found) x = absurd x.moved

-- a link that didn't stand
pub loses_link : {p q : Trace} (held : Held) (rollback : Rollback) → IsLost p q held rollback → LosesHeld p q held
loses_link held (EpochMoved now) l = absurd l
loses_link held (LostExchange found) l = record { why = LostExchange found; rolled = l; fresh = tt }

-- after what only read it has not stood either
lost_since : {p q r : Trace} (held : Held) (word : ℕ) → Quiet p q → Keeps (knows p) (knows q) →
    IsLost q r held (LostExchange word) → IsLost p r held (LostExchange word)
lost_since {p} {q} held word a keeps m = (
  m.0,
  record {
    moment = m.1.moment;
    within = record {
      from = begins_trans p.seen q.seen m.1.moment a.seen m.1.within.from;
      to = m.1.within.to;
      is_run = m.1.within.is_run;
    };
    found = ap (λ (start : Start). found start (world_after start m.1.moment) (LoadLink held.at)) (sym a.same.start)
        ∙ m.1.found;
  },
  keeps_on keeps m.2,
)

pub loses_later : {p q r : Trace} (held : Held) → Quiet p q → Keeps (knows p) (knows q) → LosesHeld q r held →
    LosesHeld p r held
loses_later {p} {q} {r} held a keeps l = go l.why l.rolled l.fresh
  where
    go : (why : Rollback) → IsMovedOrLost q r held why → FreshIfMoved r why → LosesHeld p r held
    go (EpochMoved now) m f =
        record { why = EpochMoved now; rolled = (λ e. m.0 (e ∙ sym keeps.epoch), m.1, m.2, m.3); fresh = f }
    go (LostExchange word) m f = record { why = LostExchange word; rolled = lost_since held word a keeps m; fresh = tt }

-- ---- a place whose marked node is unlinked

-- the place stood open once the unlinking was won, and what is done to retire the node changes nothing
pub opened : (p q r : Trace) (pred : Held) (gone : Marked) (place : Held) → Quiet p q → Quiet q r → IsStart q.start →
    IsRun q.start q.passes q.seen → Keeps (knows p) (knows q) → place.at ≡ pred.at → IsHeld (knows q) place →
    (link_of place.word).mark ≡ false → StandsNow q place → (link_of place.word).slot ≡ (link_of gone.word).slot →
    ChangesNone q r → OpensPlace p r pred gone place
opened p q r pred gone place a b is ok keeps same known unmarked stands next none =
    let whole = quiet_on a b in
    record {
      moment = q.seen;
      from = a.seen;
      to = b.seen;
      shown = ap (λ (start : Start). link_shown_at (incarnations_after start q.seen) place.at) (sym a.same.start)
          ∙ stands;
      is_open = λ bucket inside.
          let H : At → Type 0 = λ t. HeldIn (knows q) t bucket in
          let there = subst H (sym same) (held_in_kept pred.at bucket keeps inside) in
          let P : Start → Type 0 = λ start. IsOpenIn start (incarnations_after start q.seen) bucket place.at in
          subst P a.same.start
          (known_open q.start q.passes q.seen is ok q.who bucket place.at (link_of place.word) known.link unmarked
          stands there);
      own = λ bucket.
          sym (λ i. own_changes (whole.same.start i) r.seen (whole.same.who i) bucket) ∙ none.same bucket
          ∙ (λ i. own_changes (a.same.start i) q.seen (a.same.who i) bucket);
      next = next;
    }

-- the epoch that was read to retire it is another one
pub moved_late : (p q r : Trace) → Quiet p q → Quiet q r → IsStart p.start → {epoch slot : ℕ} →
    epoch ≡ (knows p).epoch → StampsFreshly q r slot (knows r).epoch → epoch ≢ (knows r).epoch → MovesOn p r
moved_late p q r a b is {epoch} held x other =
    let whole = quiet_on a b in
    let ok = begins_run p.start p.passes x.reading r.seen x.is.to (run_at p r whole.same x.is.is_run) in
    let epoch_there : (nodes_after p x.reading).epoch ≡ (knows r).epoch =
    sym (run_agrees p.start p.passes x.reading is ok).image.epoch
    ∙ sym (ap (λ (start : Start). (world_after start x.reading).epoch) a.same.start) ∙ x.was_epoch in
    record {
      moment = x.reading;
      from = begins_trans p.seen q.seen x.reading a.seen x.is.from;
      to = x.is.to;
      other = λ e. other (held ∙ sym e ∙ epoch_there);
    }

-- an unlinking that failed
pub loses_place : (p q : Trace) (pred : Held) (rollback : Rollback) → IsSame p q → IsMovedOrLost p q pred rollback →
    FreshIfMoved q rollback → ChangesNone p q → Begins p.seen q.seen → LosesPlace p q pred
loses_place p q pred (EpochMoved now) same m f adds b =
    inl (record {
      moment = q.seen;
      from = b;
      to = begins_refl q.seen;
      other = λ e. m.0 (sym m.1 ∙ sym (fresh_at p q same f) ∙ e);
    })
loses_place p q pred (LostExchange found) same m f adds b = inr (found, m, adds)

-- a link that didn't stand
pub lost_place : {p q : Trace} (held : Held) (rollback : Rollback) → IsLost p q held rollback → ChangesNone p q →
    LosesPlace p q held
lost_place held rollback l adds = grind (arith, l)

-- after what only read
pub lost_place_later : {p q r : Trace} (held : Held) (rollback : Rollback) → Quiet p q → Keeps (knows p) (knows q) →
    ChangesNone p q → IsLost q r held rollback → ChangesNone q r → LosesPlace p r held
lost_place_later held (EpochMoved now) a keeps none l adds = absurd l
lost_place_later {p} {q} {r} held (LostExchange word) a keeps none m adds = inr (
  word,
  lost_since held word a keeps m,
  record { same = λ bucket. adds.same bucket ∙ none.same bucket },
)

-- ---- advances of others

is_advance_from : (step : Step) → IsAdvance step → is_advance step ≡ true
is_advance_from step h = grind arith

module _ (p r : Trace) (is : IsStart p.start) (ok : IsRun p.start p.passes r.seen) (bucket : ℕ) (same_r : IsSame p r)
    (none : advances r ≡ advances p) where
  -- each advance between two moments disturbed the pass
  pub advances_disturb : (first last : List Event) → Begins p.seen first → Begins first last → Begins last r.seen →
      (nodes_after p last).epoch + disturbed_at p bucket first
      ≤ (nodes_after p first).epoch + disturbed_at p bucket last
  advances_disturb first last a b c =
      let P : List Event → Type 0 =
      λ l. (nodes_after p l).epoch + disturbed_at p bucket first
      ≤ (nodes_after p first).epoch + disturbed_at p bucket l in
      subst P (sym b.1) (moved_by_others p.start p.who bucket first b.0
      (none_between is_advance IsAdvance is_advance_from p r same_r none a b c))

  -- the epoch of a later moment is no less
  pub epochs_grow : (first last : List Event) → Begins first last → Begins last r.seen →
      (nodes_after p first).epoch ≤ (nodes_after p last).epoch
  epochs_grow first last b c =
      (since p.start p.passes first last is (begins_run p.start p.passes last r.seen c ok) b).grown.epoch

  -- between two moments at which other epochs stood the pass was disturbed
  pub epochs_disturb : (first last : List Event) → Begins p.seen first → Begins first last → Begins last r.seen →
      (nodes_after p last).epoch ≢ (nodes_after p first).epoch →
      disturbed_at p bucket first < disturbed_at p bucket last
  epochs_disturb first last a b c other =
      apart (nodes_after p last).epoch (nodes_after p first).epoch (disturbed_at p bucket first)
      (disturbed_at p bucket last) other (epochs_grow first last b c) (advances_disturb first last a b c)
    where
      apart : (m n d e : ℕ) → m ≢ n → n ≤ m → m + d ≤ n + e → d < e
      apart m n d e other le moved = omega (arith, other, le, moved)

  -- where another epoch stood than the one that it knew
  pub moves_on_disturb : (q : Trace) → IsSame p q → Begins q.seen r.seen → (k : KnowsEpoch p q) → MovesOn q r →
      disturbed_at p bucket p.seen < disturbed_at p bucket r.seen
  moves_on_disturb q sq b k m =
      let there : (nodes_after p m.moment).epoch ≢ (nodes_after p k.moment).epoch =
      λ e. m.other (ap (λ (start : Start). (incarnations_after start m.moment).epoch) sq.start ∙ e ∙ k.was) in
      let less = epochs_disturb k.moment m.moment k.from (begins_trans k.moment q.seen m.moment k.to m.from) m.to
      there in
      let ok_m = begins_run p.start p.passes m.moment r.seen m.to ok in
      let ok_k = begins_run p.start p.passes k.moment m.moment (begins_trans k.moment q.seen m.moment k.to m.from)
      ok_m in
      let low = disturbances_grow (since p.start p.passes p.seen k.moment is ok_k k.from) p.who bucket in
      let high = disturbances_grow (since p.start p.passes m.moment r.seen is ok m.to) p.who bucket in
      omega (arith, less, low, high)

  -- or the place was lost
  pub loses_place_disturb : (q : Trace) (pred : Held) → IsSame p q → Begins q.seen r.seen → KnowsEpoch p q →
      StandsStill p q bucket pred → LosesPlace q r pred → disturbed_at p bucket p.seen < disturbed_at p bucket r.seen
  loses_place_disturb q pred sq b k x (inl m) = moves_on_disturb q sq b k m
  loses_place_disturb q pred sq b k x (inr m) =
      let ok_q = begins_run p.start p.passes q.seen r.seen b ok in
      let ok_x = begins_run p.start p.passes x.stood.moment q.seen x.stood.to ok_q in
      let less = lost_disturbs p r is ok bucket q pred (LostExchange m.0) sq b x.stood
      (kept_at p q r bucket sq same_r m.2 ∙ x.own) m.1 in
      let low = disturbances_grow (since p.start p.passes p.seen x.stood.moment is ok_x x.stood.from) p.who bucket in
      omega (arith, less, low)

  -- or what was found
  pub loses_found_disturb : (q : Trace) (told : Found) → IsSame p q → Begins q.seen r.seen → KnowsEpoch p q →
      StandsStill p q bucket told.pred → NextStandsStill p q bucket told.cur → LosesFound q r told →
      disturbed_at p bucket p.seen < disturbed_at p bucket r.seen
  loses_found_disturb q told sq b k pred cur (inl x) = loses_place_disturb q told.pred sq b k pred x
  loses_found_disturb q told sq b k pred cur (inr x) = next told.cur cur x
    where
      next : (stopped : Option Held) → NextStandsStill p q bucket stopped → LosesNext q r stopped →
          disturbed_at p bucket p.seen < disturbed_at p bucket r.seen
      next None still y = absurd y
      next (Some node) still y = loses_place_disturb q node sq b k still y

-- a roll-back
pub moves_on : (q r : Trace) → IsSame q r → Begins q.seen r.seen → MovesEpoch q r → MovesOn q r
moves_on q r s b m =
    record {
      moment = r.seen;
      from = b;
      to = begins_refl r.seen;
      other = λ e. m.other (sym (fresh_at q r s m.fresh) ∙ e);
    }

-- ---- what disturbances are

-- each is an update of another, its one unlinking, or an advance
pub disturbed_most_in : (p q : Trace) → IsStart p.start → IsRun p.start p.passes p.seen → (bucket : ℕ) → Quiet p q →
    disturbed_in p q bucket ≤ most_disturbed p q
disturbed_most_in p q is ok bucket quiet =
    let x = disturbances_paid p.start p.passes p.seen q.seen is (run_at p q quiet.same (quiet.is_run ok)) quiet.seen
    p.who bucket in
    omega (arith, x)

pub disturbed_most : (p q : Trace) → IsStart p.start → IsRun p.start p.passes p.seen → (key : ℕ) → Quiet p q →
    disturbed p q key ≤ most_disturbed p q
disturbed_most p q is ok key quiet = disturbed_most_in p q is ok (bucket_of p.start.shape key) quiet

-- with more of them no less is enough
pub enough_among_more : (nodes times most : ℕ) → times ≤ most → enough_among nodes times ≤ enough_among nodes most
enough_among_more nodes times most le =
    mul-le (times + 1) (5 * (nodes + times) + 11) (most + 1) (5 * (nodes + most) + 11) (omega (arith, le))
    (omega (arith, le))

-- and no less is what a seek costs
pub seek_costs_more : (nodes times most reading : ℕ) → times ≤ most →
    seek_costs_among nodes times reading ≤ seek_costs_among nodes most reading
seek_costs_more nodes times most reading le =
    mul-le (times + 1) (5 * (nodes + times) + (3 + reading)) (most + 1) (5 * (nodes + most) + (3 + reading))
    (omega (arith, le)) (omega (arith, le))

pub enough_to_search_more : (nodes times most : ℕ) → times ≤ most →
    enough_to_search_among nodes times ≤ enough_to_search_among nodes most
enough_to_search_more nodes times most le =
    mul-le (times + 1) (9 * (nodes + times) + 11) (most + 1) (9 * (nodes + most) + 11) (omega (arith, le))
    (omega (arith, le))

pub enough_to_insert_more : (nodes times most taking : ℕ) → times ≤ most →
    enough_to_insert_among nodes times taking ≤ enough_to_insert_among nodes most taking
enough_to_insert_more nodes times most taking le =
    let x = mul-le times (9 * (nodes + times) + 7) most (9 * (nodes + most) + 7) le (omega (arith, le)) in
    omega (arith, x, le)

pub enough_to_store_more : (nodes times most taking : ℕ) → times ≤ most →
    enough_to_store_among nodes times taking ≤ enough_to_store_among nodes most taking
enough_to_store_more nodes times most taking le =
    let x = mul-le times (9 * (nodes + times) + 12) most (9 * (nodes + most) + 12) le (omega (arith, le)) in
    omega (arith, x, le)
