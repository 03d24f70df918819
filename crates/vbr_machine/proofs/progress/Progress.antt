-- What disturbs a pass is an answered update, the one unlinking behind a removal, or an advance of the epoch.
use Rattle.std.proofs.Common.{◌≡◌, ◌≢◌, ℕ, suc, ◌+◌, ◌*◌, ◌<◌, ◌≤◌, Bool, true, false, cond, not, List, [], ◌∷◌, ◌++◌}
use Rattle.std.proofs.Common.{refl, sym, ap, ◌∙◌, inl, inr, arith}
use Rattle.std.specs.Prelude.{◌==◌, ◌&&◌, ◌⊎◌}
use Rattle.std.proofs.lemmas.Bool.{cases_eq}
use Rattle.vbr_machine.specs.Start.{Start, IsStart}
use Rattle.vbr_machine.specs.Put.{put}
use Rattle.vbr_machine.specs.Keys.{Keys}
use Rattle.vbr_machine.specs.Opened.{has_opening_key, key_count, opening_keys}
use Rattle.vbr_machine.specs.Runs.{Begins, IsRun}
use Rattle.vbr_machine.specs.Accounts.{chronicle, incarnations_after}
use Rattle.vbr_machine.specs.Incarnations.{State, Unborn, InHand, GivenUp, Linked, Marked, Unlinked, Stamped}
use Rattle.vbr_machine.specs.Incarnations.{Incarnations, at_opening, opening_state}
use Rattle.vbr_machine.specs.Chronicles.{Happening, Advances, Gains, Probes, Raises, GivesUp, Bears, Keyed, Valued}
use Rattle.vbr_machine.specs.Chronicles.{Aims, Inserts, Removes, Replaces, Unlinks, Stamps, Confirms, Entry, Allowed}
use Rattle.vbr_machine.specs.Chronicles.{MayStamp, MayTakePlace, becomes, calls_made, incarnations_from, IsLawful}
use Rattle.vbr_machine.specs.Chronicles.{unlinked_at}
use Rattle.vbr_machine.specs.Disturbances.{changes, one_if, disturbances_in, disturbances, how_many, is_removal}
use Rattle.vbr_machine.specs.Disturbances.{is_unlinking, updates}
use Rattle.vbr_machine.specs.Nodes.{count_below, is_marked, marked_after}
use Rattle.vbr_machine.specs.Sound.{Sound}
use Rattle.vbr_machine.specs.declared.event.Event.{Event}
use Rattle.vbr_machine.specs.declared.history.Call.{Call}
use Rattle.vbr_machine.proofs.runs.EveryRun.{run_lawful}
use Rattle.vbr_machine.proofs.progress.ListedNodes.{count_falls, count_same}
use Rattle.vbr_machine.proofs.progress.MarkedNodes.{marked_births, marked_once}
use Rattle.vbr_machine.proofs.whereabouts.OutsidePool.{count_none}
use Rattle.vbr_machine.proofs.words.Puts.{put_here, put_other}
use Rattle.vbr_machine.proofs.runs.RunsGoOn.{begins_run}
use Rattle.vbr_machine.proofs.progress.Since.{since, disturbances_sum}
use Rattle.vbr_machine.proofs.chronicles.Slots.{late_born}
use Rattle.vbr_machine.proofs.chronicles.SoundAfter.{sound_kept}
use Rattle.vbr_machine.proofs.steps.Steps.{agrees_at_first}

-- ---- counts

updates-append : (xs ys : List Call) → updates (xs ++ ys) ≡ updates xs + updates ys
updates-append [] ys = omega arith
updates-append (x ∷ xs) ys = let r = updates-append xs ys in omega (arith, r)

-- where a state is set that is marked as the one before was
marked_put : (state : ℕ → State) (c : ℕ) (st : State) (n : ℕ) → is_marked st ≡ is_marked (state c) →
    count_below (λ d. is_marked (put state c st d)) n ≡ count_below (λ d. is_marked (state d)) n
marked_put state c st n e =
    count_same (λ d. is_marked (put state c st d)) (λ d. is_marked (state d)) n (λ d l. go d (cases_eq d c))
  where
    go : (d : ℕ) → (d ≡ c) ⊎ (d ≢ c) → is_marked (put state c st d) ≡ is_marked (state d)
    go d (inl is) = ap (λ i. is_marked (put state c st i)) is ∙ ap is_marked (put_here state c st) ∙ e
        ∙ ap (λ i. is_marked (state i)) (sym is)
    go d (inr ne) = ap is_marked (put_other state c st d ne)

-- where one is marked that wasn't
marked_more : (state : ℕ → State) (c : ℕ) (st : State) (n : ℕ) → c < n → is_marked st ≡ true →
    is_marked (state c) ≡ false →
    count_below (λ d. is_marked (put state c st d)) n ≡ suc (count_below (λ d. is_marked (state d)) n)
marked_more state c st n low here was =
    count_falls (λ d. is_marked (put state c st d)) (λ d. is_marked (state d)) n c low
    (ap is_marked (put_here state c st) ∙ here) was (λ d l ne. ap is_marked (put_other state c st d ne))

-- where one no longer is
marked_fewer : (state : ℕ → State) (c : ℕ) (st : State) (n : ℕ) → c < n → is_marked st ≡ false →
    is_marked (state c) ≡ true →
    count_below (λ d. is_marked (state d)) n ≡ suc (count_below (λ d. is_marked (put state c st d)) n)
marked_fewer state c st n low here was =
    count_falls (λ d. is_marked (state d)) (λ d. is_marked (put state c st d)) n c low was
    (ap is_marked (put_here state c st) ∙ here) (λ d l ne. ap is_marked (sym (put_other state c st d ne)))

-- one more that isn't
marked_next : (state : ℕ → State) (st : State) (n m : ℕ) → m ≡ suc n → is_marked st ≡ false →
    count_below (λ d. is_marked (put state n st d)) m ≡ count_below (λ d. is_marked (state d)) n
marked_next state st n m e not_it =
    ap (count_below (λ d. is_marked (put state n st d))) e
    ∙ last (is_marked (put state n st n)) (count_below (λ d. is_marked (put state n st d)) n)
    (ap is_marked (put_here state n st) ∙ not_it)
    ∙ count_same (λ d. is_marked (put state n st d)) (λ d. is_marked (state d)) n
    (λ d l. ap is_marked (put_other state n st d (λ (q : d ≡ n). omega (arith, q, l))))
  where
    last : (b : Bool) (k : ℕ) → b ≡ false → cond b (suc k) k ≡ k
    last true k e = absurd (cc)
    last false k e = refl

stamped_marked : (st : State) (pass stamp epoch unlinked : ℕ) → MayStamp st pass stamp epoch →
    is_marked (Stamped unlinked stamp) ≡ is_marked st
stamped_marked (Unlinked p u) pass stamp epoch unlinked m = refl
stamped_marked Unborn pass stamp epoch unlinked m = absurd m
stamped_marked (InHand p) pass stamp epoch unlinked m = absurd m
stamped_marked GivenUp pass stamp epoch unlinked m = absurd m
stamped_marked Linked pass stamp epoch unlinked m = absurd m
stamped_marked Marked pass stamp epoch unlinked m = absurd m
stamped_marked (Stamped u r) pass stamp epoch unlinked m = absurd m

-- where one is marked that was linked, and one is linked that was in hand
marked_replaced : {start : Start} {a : Incarnations} → Sound start a → (pass old c : ℕ) →
    MayTakePlace start a pass old c →
    count_below (λ d. is_marked (put (put a.state old Marked) c Linked d)) a.count ≡ suc (marked_births a)
marked_replaced {start} {a} s pass old c h =
    let apart : c ≢ old =
    λ q. (let x : InHand pass ≡ Linked = sym h.in_hand ∙ ap a.state q ∙ h.linked in absurd (cc)) in
    marked_put (put a.state old Marked) c Linked a.count
    (sym (ap is_marked (put_other a.state old Marked c apart ∙ h.in_hand)))
    ∙ marked_more a.state old Marked a.count (late_born s.slots old 0 (rw h.linked tt)) refl (ap is_marked h.linked)

-- ---- one event

-- an event that changes a list is paid: by an advance, by a call, or by a marked node that is so no more
abbrev Pays : Start → ℕ → Incarnations → ℕ → Happening → Type 0
Pays start bucket a pass what = one_if (changes start a bucket what) + marked_births (becomes start a pass what)
    + a.epoch + 2 * updates a.calls
    ≤ marked_births a + (becomes start a pass what).epoch + 2 * updates (becomes start a pass what).calls

at_most_one : (b : Bool) → one_if b ≤ 1
at_most_one true = omega arith
at_most_one false = omega arith

pays : (start : Start) (keys : Keys) (bucket : ℕ) (a : Incarnations) (pass : ℕ) (what : Happening) → Sound start a →
    Allowed start keys a pass what → Pays start bucket a pass what
pays start keys bucket a pass Advances s h = omega arith
pays start keys bucket a pass (Gains v) s h = omega arith
pays start keys bucket a pass (Probes v) s h = omega arith
pays start keys bucket a pass (Raises v) s h = omega arith
pays start keys bucket a pass (Keyed c key) s h = omega arith
pays start keys bucket a pass (Valued c value) s h = omega arith
pays start keys bucket a pass (Aims c link) s h = omega arith
pays start keys bucket a pass (Confirms call) s h = let u = updates-append a.calls (call ∷ []) in omega (arith, u)
pays start keys bucket a pass (GivesUp c) s h =
    let m = marked_put a.state c GivenUp a.count (sym (ap is_marked h)) in omega (arith, m)
pays start keys bucket a pass (Stamps c stamp) s h =
    let m = marked_put a.state c (Stamped (unlinked_at (a.state c)) stamp) a.count
    (stamped_marked (a.state c) pass stamp a.epoch (unlinked_at (a.state c)) h) in omega (arith, m)
pays start keys bucket a pass (Bears v birth) s h =
    let m = marked_next a.state (InHand pass) a.count (a.count + 1) (omega arith) refl in omega (arith, m)
pays start keys bucket a pass (Inserts c behind) s h =
    let m = marked_put a.state c Linked a.count (sym (ap is_marked h.in_hand)) in
    let u = updates-append a.calls (calls_made start a pass (Inserts c behind)) in
    let one = at_most_one (changes start a bucket (Inserts c behind)) in
    omega (arith, m, u, one)
pays start keys bucket a pass (Removes c) s h =
    let m = marked_more a.state c Marked a.count (late_born s.slots c 0 (rw h tt)) refl (ap is_marked h) in
    let u = updates-append a.calls (calls_made start a pass (Removes c)) in
    let one = at_most_one (changes start a bucket (Removes c)) in
    omega (arith, m, u, one)
pays start keys bucket a pass (Replaces old c) s h =
    let m = marked_replaced s pass old c h in
    let u = updates-append a.calls (calls_made start a pass (Replaces old c)) in
    let one = at_most_one (changes start a bucket (Replaces old c)) in
    omega (arith, m, u, one)
pays start keys bucket a pass (Unlinks c behind) s h =
    let m = marked_fewer a.state c (Unlinked pass a.epoch) a.count (late_born s.slots c 0 (rw h.0 tt)) refl
    (ap is_marked h.0) in
    let one = at_most_one (changes start a bucket (Unlinks c behind)) in
    omega (arith, m, one)

-- ---- events in a row

no_more_than : (p q : Bool) → one_if (not p && q) ≤ one_if q
no_more_than true q = omega arith
no_more_than false q = omega arith

-- a law of chronicles
all_paid : (start : Start) (keys : Keys) (who bucket : ℕ) (a : Incarnations) (entries : List Entry) → Sound start a →
    IsLawful start keys a entries →
    disturbances_in start who bucket a entries + marked_births (incarnations_from start a entries) + a.epoch + 2
    * updates a.calls
    ≤ marked_births a + (incarnations_from start a entries).epoch + 2
    * updates (incarnations_from start a entries).calls
all_paid start keys who bucket a [] s l = omega arith
all_paid start keys who bucket a (entry ∷ entries) s l =
    let b = becomes start a entry.pass entry.what in
    let rest = all_paid start keys who bucket b entries (sound_kept start keys a entry.pass entry.what s l.0) l.1 in
    let one = pays start keys bucket a entry.pass entry.what s l.0 in
    let less = no_more_than (entry.pass == who) (changes start a bucket entry.what) in
    omega (arith, rest, one, less)

-- ---- runs

-- a law: since a beginning of a run a pass was disturbed no more than the epoch has advanced, and twice for each
-- insert or remove that was answered yes, and once for each node that was marked at first; those that are marked at
-- the end have still to be unlinked
pub disturbances_paid : (start : Start) (passes : ℕ) (first run : List Event) → IsStart start → IsRun start passes run →
    Begins first run → (who bucket : ℕ) →
    disturbances start run who bucket + marked_after start run
    + (incarnations_after start first).epoch + 2 * updates (incarnations_after start first).calls ≤ disturbances start
    first who bucket + marked_after start first
    + (incarnations_after start run).epoch + 2 * updates (incarnations_after start run).calls
disturbances_paid start passes first run is ok begins who bucket =
    let x = since start passes first run is ok begins in
    let sum = disturbances_sum x who bucket in
    let paid = all_paid start (opening_keys start) who bucket (incarnations_after start first) x.entries x.sound
    x.lawful in
    let m = ap marked_births x.makes in
    let before = marked_once start passes first is (begins_run start passes first run begins ok) in
    let after = marked_once start passes run is ok in
    let e = ap (λ (a : Incarnations). a.epoch) x.makes in
    let u = ap (λ (a : Incarnations). updates a.calls) x.makes in
    omega (arith, sum, paid, m, before, after, e, u)

-- ---- unlinkings and removals

abbrev Follows : Start → Incarnations → ℕ → Happening → Type 0
Follows start a pass what =
    one_if (is_unlinking what) + marked_births (becomes start a pass what) ≡ one_if (is_removal what) + marked_births a

follows : (start : Start) (keys : Keys) (a : Incarnations) (pass : ℕ) (what : Happening) → Sound start a →
    Allowed start keys a pass what → Follows start a pass what
follows start keys a pass Advances s h = refl
follows start keys a pass (Gains v) s h = refl
follows start keys a pass (Probes v) s h = refl
follows start keys a pass (Raises v) s h = refl
follows start keys a pass (Keyed c key) s h = refl
follows start keys a pass (Valued c value) s h = refl
follows start keys a pass (Aims c link) s h = refl
follows start keys a pass (Confirms call) s h = refl
follows start keys a pass (GivesUp c) s h =
    ap (λ n. 0 + n) (marked_put a.state c GivenUp a.count (sym (ap is_marked h)))
follows start keys a pass (Stamps c stamp) s h =
    ap (λ n. 0 + n)
    (marked_put a.state c (Stamped (unlinked_at (a.state c)) stamp) a.count
    (stamped_marked (a.state c) pass stamp a.epoch (unlinked_at (a.state c)) h))
follows start keys a pass (Bears v birth) s h =
    ap (λ n. 0 + n) (marked_next a.state (InHand pass) a.count (a.count + 1) (omega arith) refl)
follows start keys a pass (Inserts c behind) s h =
    ap (λ n. 0 + n) (marked_put a.state c Linked a.count (sym (ap is_marked h.in_hand)))
follows start keys a pass (Removes c) s h =
    let m = marked_more a.state c Marked a.count (late_born s.slots c 0 (rw h tt)) refl (ap is_marked h) in
    omega (arith, m)
follows start keys a pass (Replaces old c) s h = let m = marked_replaced s pass old c h in omega (arith, m)
follows start keys a pass (Unlinks c behind) s h =
    let m = marked_fewer a.state c (Unlinked pass a.epoch) a.count (late_born s.slots c 0 (rw h.0 tt)) refl
    (ap is_marked h.0) in omega (arith, m)

all_follow : (start : Start) (keys : Keys) (a : Incarnations) (entries : List Entry) → Sound start a →
    IsLawful start keys a entries →
    how_many is_unlinking entries + marked_births (incarnations_from start a entries)
    ≡ how_many is_removal entries + marked_births a
all_follow start keys a [] s l = refl
all_follow start keys a (entry ∷ entries) s l =
    let rest = all_follow start keys (becomes start a entry.pass entry.what) entries
    (sound_kept start keys a entry.pass entry.what s l.0) l.1 in
    let one = follows start keys a entry.pass entry.what s l.0 in
    omega (arith, rest, one)

-- a law: of the nodes that were removed in a run each is unlinked, by the one who did it, or still marked
pub unlinkings_follow : (start : Start) (passes : ℕ) (run : List Event) → IsStart start → IsRun start passes run →
    how_many is_unlinking (chronicle start run) + marked_after start run ≡ how_many is_removal (chronicle start run)
unlinkings_follow start passes run is ok =
    let all = all_follow start (opening_keys start) (at_opening start) (chronicle start run)
    (agrees_at_first start is).sound (run_lawful start passes run is ok) in
    let none : marked_births (at_opening start) ≡ 0 =
    count_none (λ c. is_marked (opening_state start c)) (key_count start) (λ c l. unmarked (has_opening_key start c)) in
    let after = marked_once start passes run is ok in
    omega (arith, all, none, after)
  where
    unmarked : (b : Bool) → is_marked (cond b Linked Unborn) ≡ false
    unmarked true = refl
    unmarked false = refl
