-- A pass that makes no insert and no replacement links no node, since each of them is a call.
use Rattle.std.proofs.Common.{◌≡◌, ℕ, ◌+◌, ◌≤◌, Bool, true, false, List, [], ◌∷◌, ◌++◌, refl, sym, ap, ◌∙◌, eq-eqb, ◌≢◌}
use Rattle.std.proofs.Common.{inl, inr, arith}
use Rattle.vbr_machine.specs.Start.{Start, IsStart}
use Rattle.vbr_machine.specs.History.{calls_by}
use Rattle.vbr_machine.specs.Runs.{Begins, IsRun}
use Rattle.vbr_machine.specs.Calls.{own_calls}
use Rattle.vbr_machine.specs.Incarnations.{Incarnations}
use Rattle.vbr_machine.specs.Chronicles.{Happening, Advances, Gains, Probes, Raises, GivesUp, Bears, Keyed, Valued}
use Rattle.vbr_machine.specs.Chronicles.{Aims, Inserts, Removes, Replaces, Unlinks, Stamps, Confirms, Entry, becomes}
use Rattle.vbr_machine.specs.Chronicles.{calls_made, incarnations_from, IsLawful}
use Rattle.vbr_machine.specs.Accounts.{incarnations_after}
use Rattle.vbr_machine.specs.Nodes.{behind}
use Rattle.vbr_machine.specs.Disturbances.{changes, one_if, disturbances, disturbances_in, met}
use Rattle.vbr_machine.specs.declared.event.Event.{Event}
use Rattle.vbr_machine.specs.declared.history.Call.{Call}
use Rattle.vbr_machine.specs.declared.history.Op.{Op}
use Rattle.vbr_machine.specs.declared.history.Op.TheVariants.{Insert, Remove}
use Rattle.vbr_words.specs.declared.place.At.TheVariants.{Head}
use Rattle.vbr_machine.specs.Opened.{opening_keys}
use Rattle.vbr_machine.proofs.runs.EveryRun.{run_agrees}
use Rattle.vbr_machine.proofs.progress.MetNodes.{InsertsNone, comes, comes_less, is_insert, met_at_first, met_since}
use Rattle.vbr_machine.proofs.progress.MetNodes.{met_with}
use Rattle.vbr_machine.proofs.runs.RunsGoOn.{begins_run, calls_by-append}
use Rattle.vbr_machine.specs.Keys.{Keys}
use Rattle.vbr_machine.specs.Sound.{Sound}
use Rattle.vbr_machine.proofs.chronicles.SoundAfter.{sound_kept}
use Rattle.std.specs.Prelude.{◌==◌, ◌&&◌, ◌⊎◌, not}
use Rattle.std.proofs.lemmas.Bool.{cases_eq}
use Rattle.vbr_machine.proofs.progress.Since.{since, disturbances_sum}

is_insert_call : Op → Bool
is_insert_call Insert = true
is_insert_call _ = false

-- how many of these calls are inserts
pub inserts_in : List Call → ℕ
inserts_in [] = 0
inserts_in (call ∷ calls) = one_if (is_insert_call call.op) + inserts_in calls

inserts_in-append : (xs ys : List Call) → inserts_in (xs ++ ys) ≡ inserts_in xs + inserts_in ys
unfolding inserts_in
inserts_in-append [] ys = omega arith
inserts_in-append (x ∷ xs) ys = let r = inserts_in-append xs ys in omega (arith, r)

-- a remove is none
pub inserts_in-remove : (xs : List Call) (call : Call) → call.op ≡ Remove → inserts_in (xs ++ call ∷ []) ≡ inserts_in xs
unfolding inserts_in is_insert_call
inserts_in-remove xs call is =
    let sum = inserts_in-append xs (call ∷ []) in
    let none : one_if (is_insert_call call.op) ≡ 0 = ap (λ (op : Op). one_if (is_insert_call op)) is in
    omega (arith, sum, none)

made_count : (who : ℕ) (a b : List Call) → inserts_in (calls_by who a) ≤ inserts_in (calls_by who (a ++ b))
made_count who a b =
    let e = ap inserts_in (calls_by-append who a b) ∙ inserts_in-append (calls_by who a) (calls_by who b) in
    omega (arith, e)

-- one event leaves the calls of a pass, or adds to them
one_event : (start : Start) (a : Incarnations) (who pass : ℕ) (what : Happening) →
    inserts_in (calls_by who a.calls) ≤ inserts_in (calls_by who (becomes start a pass what).calls)
one_event start a who pass (Inserts c behind) = made_count who a.calls (calls_made start a pass (Inserts c behind))
one_event start a who pass (Removes c) = made_count who a.calls (calls_made start a pass (Removes c))
one_event start a who pass (Replaces old c) = made_count who a.calls (calls_made start a pass (Replaces old c))
one_event start a who pass (Confirms call) = made_count who a.calls (call ∷ [])
one_event start a who pass Advances = omega arith
one_event start a who pass (Gains v) = omega arith
one_event start a who pass (Probes v) = omega arith
one_event start a who pass (Raises v) = omega arith
one_event start a who pass (GivesUp c) = omega arith
one_event start a who pass (Bears v birth) = omega arith
one_event start a who pass (Keyed c key) = omega arith
one_event start a who pass (Valued c value) = omega arith
one_event start a who pass (Aims c link) = omega arith
one_event start a who pass (Unlinks c behind) = omega arith
one_event start a who pass (Stamps c stamp) = omega arith

all_events : (start : Start) (a : Incarnations) (who : ℕ) (entries : List Entry) →
    inserts_in (calls_by who a.calls) ≤ inserts_in (calls_by who (incarnations_from start a entries).calls)
all_events start a who [] = omega arith
all_events start a who (entry ∷ entries) =
    let one = one_event start a who entry.pass entry.what in
    let rest = all_events start (becomes start a entry.pass entry.what) who entries in
    omega (arith, one, rest)

-- calls with one insert of a pass add one
one_more : (who : ℕ) (calls made : List Call) → inserts_in (calls_by who made) ≡ 1 →
    inserts_in (calls_by who calls) + 1 ≤ inserts_in (calls_by who (calls ++ made))
one_more who calls made one =
    let e = ap inserts_in (calls_by-append who calls made)
    ∙ inserts_in-append (calls_by who calls) (calls_by who made) in
    omega (arith, e, one)

-- an insert of the pass adds one, and so does a replacement
own_insert : (start : Start) (a : Incarnations) (who pass : ℕ) (what : Happening) → pass ≡ who → is_insert what ≡ true →
    inserts_in (calls_by who a.calls) + 1 ≤ inserts_in (calls_by who (becomes start a pass what).calls)
unfolding inserts_in is_insert_call
own_insert start a who pass (Inserts c behind) mine is =
    one_more who a.calls (calls_made start a pass (Inserts c behind)) (rw (eq-eqb pass who mine) refl)
own_insert start a who pass (Replaces old c) mine is =
    one_more who a.calls (calls_made start a pass (Replaces old c)) (rw (eq-eqb pass who mine) refl)
own_insert start a who pass (Removes c) mine is = absurd (cc)
own_insert start a who pass (Confirms call) mine is = absurd (cc)
own_insert start a who pass Advances mine is = absurd (cc)
own_insert start a who pass (Gains v) mine is = absurd (cc)
own_insert start a who pass (Probes v) mine is = absurd (cc)
own_insert start a who pass (Raises v) mine is = absurd (cc)
own_insert start a who pass (GivesUp c) mine is = absurd (cc)
own_insert start a who pass (Bears v birth) mine is = absurd (cc)
own_insert start a who pass (Keyed c key) mine is = absurd (cc)
own_insert start a who pass (Valued c value) mine is = absurd (cc)
own_insert start a who pass (Aims c link) mine is = absurd (cc)
own_insert start a who pass (Unlinks c behind) mine is = absurd (cc)
own_insert start a who pass (Stamps c stamp) mine is = absurd (cc)

-- so it links none where it has made no more inserts
no_call_inserts : (start : Start) (a : Incarnations) (who : ℕ) (entries : List Entry) →
    inserts_in (calls_by who (incarnations_from start a entries).calls) ≤ inserts_in (calls_by who a.calls) →
    InsertsNone who entries
no_call_inserts start a who [] same = tt
no_call_inserts start a who (entry ∷ entries) same =
    let b = becomes start a entry.pass entry.what in
    let one = one_event start a who entry.pass entry.what in
    let rest = all_events start b who entries in (
      λ mine. either (is_insert entry.what) refl
          (λ is. (let more = own_insert start a who entry.pass entry.what mine is in omega (arith, more, rest, same))),
      no_call_inserts start b who entries (omega (arith, one, same)),
    )
  where
    either : (t : Bool) → is_insert entry.what ≡ t → (is_insert entry.what ≡ true → ⊥) → is_insert entry.what ≡ false
    either true e never = absurd (never e)
    either false e never = e

-- a law: the nodes that a pass which made no insert can have met are no more than were in the list at first, and
-- than it was disturbed since
pub met_bound_uninserted : (start : Start) (passes : ℕ) (first run : List Event) → IsStart start →
    IsRun start passes run → Begins first run → (who bucket h : ℕ) →
    inserts_in (own_calls start run who) ≡ inserts_in (own_calls start first who) →
    met start (incarnations_after start first) (incarnations_after start run) bucket
    + disturbances start first who bucket
    ≤ behind start (incarnations_after start first) bucket (Head h) + disturbances start run who bucket
met_bound_uninserted start passes first run is ok begins who bucket h same =
    let good = run_agrees start passes first is (begins_run start passes first run begins ok) in
    let last = run_agrees start passes run is ok in
    let y = since start passes first run is ok begins in
    let a = incarnations_after start first in
    let calls : inserts_in (calls_by who (incarnations_from start a y.entries).calls)
    ≡ inserts_in (calls_by who a.calls) = (
    ap (λ (b : Incarnations). inserts_in (calls_by who b.calls)) (sym y.makes)
    ∙ ap (λ l. inserts_in (calls_by who l)) (sym last.calls) ∙ same
    ∙ ap (λ l. inserts_in (calls_by who l)) good.calls) in
    let none = no_call_inserts start a who y.entries (omega (arith, calls)) in
    let at_start = met_at_first good.sound good.fits bucket h in
    let more = met_since start (opening_keys start) a a who bucket y.entries good.sound y.lawful none in
    let sum = disturbances_sum y who bucket in
    let made = ap (λ b. met start a b bucket) y.makes in
    omega (arith, at_start, more, sum, made)

-- so it is of one that made no call
pub met_bound_quiet : (start : Start) (passes : ℕ) (first run : List Event) → IsStart start → IsRun start passes run →
    Begins first run → (who bucket h : ℕ) → own_calls start run who ≡ own_calls start first who →
    met start (incarnations_after start first) (incarnations_after start run) bucket
    + disturbances start first who bucket
    ≤ behind start (incarnations_after start first) bucket (Head h) + disturbances start run who bucket
met_bound_quiet start passes first run is ok begins who bucket h same =
    met_bound_uninserted start passes first run is ok begins who bucket h (ap inserts_in same)

-- ---- a pass that makes inserts

-- a node that comes to be met by an event disturbs the pass, or is an insert of its own
comes_or_made : (start : Start) (a : Incarnations) (bucket who pass : ℕ) (what : Happening) →
    one_if (comes start a bucket what) + inserts_in (calls_by who a.calls)
    ≤ one_if (not (pass == who) && changes start a bucket what)
    + inserts_in (calls_by who (becomes start a pass what).calls)
comes_or_made start a bucket who pass what = go (cases_eq pass who) (is_insert what) refl
  where
    one : (b : Bool) → one_if b ≤ 1
    one true = omega arith
    one false = omega arith

    go : (pass ≡ who) ⊎ (pass ≢ who) → (b : Bool) → is_insert what ≡ b →
        one_if (comes start a bucket what) + inserts_in (calls_by who a.calls)
        ≤ one_if (not (pass == who) && changes start a bucket what)
        + inserts_in (calls_by who (becomes start a pass what).calls)
    go (inl mine) true e =
        let more = own_insert start a who pass what mine e in
        let most = one (comes start a bucket what) in
        omega (arith, more, most)
    go (inl mine) false e =
        let less = comes_less start a bucket who pass what (λ _. e) in
        let more = one_event start a who pass what in
        omega (arith, less, more)
    go (inr ne) b e =
        let less = comes_less start a bucket who pass what (λ mine. absurd (ne mine)) in
        let more = one_event start a who pass what in
        omega (arith, less, more)

met_or_made : (start : Start) (keys : Keys) (first a : Incarnations) (who bucket : ℕ) (entries : List Entry) →
    Sound start a → IsLawful start keys a entries →
    met start first (incarnations_from start a entries) bucket + inserts_in (calls_by who a.calls)
    ≤ met start first a bucket + disturbances_in start who bucket a entries
    + inserts_in (calls_by who (incarnations_from start a entries).calls)
met_or_made start keys first a who bucket [] s l = omega arith
met_or_made start keys first a who bucket (entry ∷ entries) s l =
    let b = becomes start a entry.pass entry.what in
    let rest = met_or_made start keys first b who bucket entries (sound_kept start keys a entry.pass entry.what s l.0)
    l.1 in
    let one = met_with start keys first a bucket s entry.pass entry.what l.0 in
    let less = comes_or_made start a bucket who entry.pass entry.what in
    omega (arith, rest, one, less)

-- a law: the nodes that a pass can have met are no more than were in the list at first, than it was disturbed
-- since, and than it has inserted
pub met_bound_made : (start : Start) (passes : ℕ) (first run : List Event) → IsStart start → IsRun start passes run →
    Begins first run → (who bucket h : ℕ) →
    met start (incarnations_after start first) (incarnations_after start run) bucket
    + disturbances start first who bucket + inserts_in (own_calls start first who)
    ≤ behind start (incarnations_after start first) bucket (Head h) + disturbances start run who bucket
    + inserts_in (own_calls start run who)
met_bound_made start passes first run is ok begins who bucket h =
    let good = run_agrees start passes first is (begins_run start passes first run begins ok) in
    let last = run_agrees start passes run is ok in
    let y = since start passes first run is ok begins in
    let a = incarnations_after start first in
    let before : inserts_in (calls_by who a.calls) ≡ inserts_in (own_calls start first who) =
    ap (λ l. inserts_in (calls_by who l)) (sym good.calls) in
    let now : inserts_in (calls_by who (incarnations_from start a y.entries).calls)
    ≡ inserts_in (own_calls start run who) = (
    ap (λ (b : Incarnations). inserts_in (calls_by who b.calls)) (sym y.makes)
    ∙ ap (λ l. inserts_in (calls_by who l)) (sym last.calls)) in
    let at_start = met_at_first good.sound good.fits bucket h in
    let more = met_or_made start (opening_keys start) a a who bucket y.entries good.sound y.lawful in
    let sum = disturbances_sum y who bucket in
    let made = ap (λ b. met start a b bucket) y.makes in
    omega (arith, at_start, more, sum, made, before, now)

-- a remove and an insert are one
pub inserts_in-two : (xs : List Call) (x y : Call) → x.op ≡ Remove → y.op ≡ Insert →
    inserts_in (xs ++ x ∷ y ∷ []) ≡ inserts_in xs + 1
unfolding inserts_in is_insert_call
inserts_in-two xs x y first second =
    let sum = inserts_in-append xs (x ∷ y ∷ []) in
    let none : one_if (is_insert_call x.op) ≡ 0 = ap (λ (op : Op). one_if (is_insert_call op)) first in
    let one : one_if (is_insert_call y.op) ≡ 1 = ap (λ (op : Op). one_if (is_insert_call op)) second in
    omega (arith, sum, none, one)
