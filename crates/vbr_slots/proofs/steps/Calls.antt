-- Steps one after another: what they add to what the pass has seen, to its calls, and to its steps.
use Rattle.std.proofs.Common.{◌≡◌, ℕ, ◌+◌, ◌==◌, Bool, true, false, cond, List, [], ◌∷◌, ◌++◌, Option, None, refl, sym}
use Rattle.std.proofs.Common.{ap, subst, ◌∙◌, append_assoc, append-nil, arith, eq-eqb, option_to_list}
use Rattle.std.proofs.lemmas.Bool.{ne_eqb}
use Rattle.std.proofs.lemmas.List.Sums.{sum_by-append}
use Rattle.vbr_machine.specs.Start.{Start}
use Rattle.vbr_machine.specs.Knowledge.{Know}
use Rattle.vbr_machine.specs.Learning.{call_of, succeeds}
use Rattle.vbr_machine.specs.Machine.{World, found}
use Rattle.vbr_machine.specs.Loads.{IsLoad, OnlyLoadsOf}
use Rattle.vbr_machine.specs.Runs.{IsRun, Begins, NoneOf, world_after}
use Rattle.vbr_machine.specs.Calls.{own_calls}
use Rattle.vbr_machine.specs.Making.{ahead_made}
use Rattle.vbr_machine.specs.declared.event.Event.{Event}
use Rattle.vbr_machine.specs.declared.event.Step.{Step}
use Rattle.vbr_machine.specs.declared.event.Step.TheVariants.{Replace}
use Rattle.vbr_machine.specs.declared.history.Call.{Call}
use Rattle.vbr_machine.specs.Incarnations.{Incarnations}
use Rattle.vbr_machine.specs.Chronicles.{Confirms}
use Rattle.vbr_machine.specs.Accounts.{just, happens, incarnations_after, own_entries}
use Rattle.vbr_machine.proofs.Lemmas.{begins_trans, others_leave_calls, others_leave_entries, own_calls-snoc}
use Rattle.vbr_machine.proofs.Lemmas.{calls_added, own_entries-snoc}
use Rattle.vbr_words.specs.declared.nodes.Nodes.{Ghosts}
use Rattle.vbr_slots.specs.steps.AtTables.{IsSameTable}
use Rattle.vbr_slots.specs.declared.at_table.AtTable.{AtTable}
use Rattle.vbr_slots.specs.views.Views.{Trace, Did, counted_steps, event_of, steps_in, steps_of}
use Rattle.vbr_slots.specs.steps.Calls.{IsSame, made_by, Quiet, Made, entries_of, AddsNone, AddsAnswer, OnlyLoads}
use Rattle.vbr_slots.specs.steps.Calls.{Moment}
use Rattle.vbr_slots.specs.steps.Calls.{Took}

-- ---- the same pass

pub same_refl : (p : Trace) → IsSame p p
same_refl p = record { table = refl; start = refl; passes = refl; who = refl }

pub same_on : {p q r : Trace} → IsSame p q → IsSame q r → IsSame p r
same_on a b =
    record { table = b.table ∙ a.table; start = b.start ∙ a.start; passes = b.passes ∙ a.passes; who = b.who ∙ a.who }

pub table_on : {N : Type 0} {kind : Ghosts N} {a b c : AtTable N kind} → IsSameTable a b → IsSameTable b c →
    IsSameTable a c
table_on x y = record { pass = y.pass ∙ x.pass; slots = y.slots ∙ x.slots }

-- ---- one after another

pub quiet_refl : (p : Trace) → Quiet p p
quiet_refl p = record { same = same_refl p; seen = ([], sym (append-nil p.seen)); is_run = λ r. r; calls = refl }

pub quiet_on : {p q r : Trace} → Quiet p q → Quiet q r → Quiet p r
quiet_on {p} {q} {r} a b =
    record {
      same = same_on a.same b.same;
      seen = begins_trans p.seen q.seen r.seen a.seen b.seen;
      is_run = λ h. b.is_run (a.is_run h);
      calls = b.calls ∙ a.calls;
    }

pub made_on : {call : Call} {p q r : Trace} → Quiet p q → Made call q r → Made call p r
made_on {call} {p} {q} {r} a b =
    record {
      same = same_on a.same b.same;
      seen = begins_trans p.seen q.seen r.seen a.seen b.seen;
      is_run = b.is_run;
      calls = b.calls ∙ ap (λ l. l ++ call ∷ []) a.calls;
    }

pub made_then : {call : Call} {p q r : Trace} → Made call p q → Quiet q r → Made call p r
made_then {call} {p} {q} {r} a b =
    record {
      same = same_on a.same b.same;
      seen = begins_trans p.seen q.seen r.seen a.seen b.seen;
      is_run = b.is_run a.is_run;
      calls = b.calls ∙ a.calls;
    }

pub took_none : (p : Trace) → Took p p 0
took_none p = record { made = omega arith }

pub took_on : {p q r : Trace} (m n : ℕ) → Took p q m → Took q r n → Took p r (m + n)
took_on m n a b = record { made = let x = a.made in let y = b.made in omega arith }

-- a moment of a part is one of the whole
pub moment_before : {p q r : Trace} {m : List Event} → Moment p q m → Quiet q r → Moment p r m
moment_before {p} {q} {r} {m} a b =
    record { from = a.from; to = begins_trans m q.seen r.seen a.to b.seen; is_run = b.is_run a.is_run }

pub moment_after : {p q r : Trace} {m : List Event} → Begins p.seen q.seen → Moment q r m → Moment p r m
moment_after {p} {q} {r} {m} s a = record { from = begins_trans p.seen q.seen m s a.from; to = a.to; is_run = a.is_run }

-- ---- how many steps

own_both : (who : ℕ) (xs ys : List Event) → steps_in who (xs ++ ys) ≡ steps_in who xs + steps_in who ys
own_both who xs ys = sum_by-append (λ (e : Event). cond (e.pass == who) 1 0) xs ys

own_none : (who : ℕ) (events : List Event) → NoneOf who events → steps_in who events ≡ 0
own_none who [] none = refl
own_none who (x ∷ xs) none = own_both who (x ∷ []) xs
    ∙ (λ i. ap (λ (b : Bool). 0 + cond b 1 0) (ne_eqb x.pass who none.0) i + own_none who xs none.1 i)

-- one step more of the pass, after what others did
pub steps_next : (who : ℕ) (seen rest : List Event) (step : Step) → NoneOf who rest →
    steps_in who ((seen ++ rest) ++ event_of who step ∷ []) ≡ steps_in who seen + 1
steps_next who seen rest step none =
    let a : steps_in who ((seen ++ rest) ++ event_of who step ∷ [])
    ≡ steps_in who (seen ++ rest) + steps_in who (event_of who step ∷ []) =
    own_both who (seen ++ rest) (event_of who step ∷ []) in
    let b : steps_in who (seen ++ rest) ≡ steps_in who seen + steps_in who rest = own_both who seen rest in
    let c : steps_in who rest ≡ 0 = own_none who rest none in
    let d : steps_in who (event_of who step ∷ []) ≡ 1 = ap (λ (b : Bool). 0 + cond b 1 0) (eq-eqb who who refl) in
    omega (arith, a, b, c, d)

-- none more, where others did what was done
pub steps_left : (who : ℕ) (seen rest : List Event) → NoneOf who rest → steps_in who (seen ++ rest) ≡ steps_in who seen
steps_left who seen rest none =
    let a : steps_in who (seen ++ rest) ≡ steps_in who seen + steps_in who rest = own_both who seen rest in
    let b : steps_in who rest ≡ 0 = own_none who rest none in
    omega (arith, a, b)

-- ---- one step

pub did_same : {step : Step} {p q : Trace} {r : ℕ} → Did step p q r → IsSame p q
did_same d = record { table = d.same.0; start = d.same.1; passes = d.same.2; who = d.same.3 }

pub did_seen : {step : Step} {p q : Trace} {r : ℕ} → Did step p q r → Begins p.seen q.seen
did_seen {step} {p} d =
    (d.rest ++ event_of p.who step ∷ [], d.seen ∙ append_assoc p.seen d.rest (event_of p.who step ∷ []))

pub did_run : {step : Step} {p q : Trace} {r : ℕ} → Did step p q r → IsRun q.start q.passes q.seen
did_run {step} {p} {q} d = rw (d.same.1, d.same.2) d.is_run

pub did_took : {step : Step} {p q : Trace} {r : ℕ} → Did step p q r → Took p q 1
did_took d = record { made = d.steps }

-- the count that a pass keeps, after so many more steps
pub count_on : {p q : Trace} (old new more : ℕ) → old ≡ counted_steps (steps_of p) → new ≡ counted_steps (old + more) →
    Took p q more → new ≡ counted_steps (steps_of q)
count_on old new more is after took = let made = took.made in omega (arith, is, after, made)

-- the moment just before a step
pub did_moment : {step : Step} {p q : Trace} {r : ℕ} (d : Did step p q r) → Moment p q (p.seen ++ d.rest)
did_moment {step} {p} d = record { from = (d.rest, refl); to = (event_of p.who step ∷ [], d.seen); is_run = did_run d }

-- the calls after one step
pub did_calls : {step : Step} {p q : Trace} {r : ℕ} (d : Did step p q r) →
    made_by q ≡ made_by p ++ calls_added p.start (world_after p.start (p.seen ++ d.rest)) p.who step
did_calls {step} {p} {q} d =
    (λ i. own_calls (d.same.1 i) (d.seen i) (d.same.3 i))
    ∙ own_calls-snoc p.start (p.seen ++ d.rest) (event_of p.who step)
    ∙ ap (λ l. l ++ calls_added p.start (world_after p.start (p.seen ++ d.rest)) p.who step)
    (others_leave_calls p.start p.seen d.rest p.who d.none)

either_none : (b : Bool) (made : Option Call) → made ≡ None → option_to_list (cond b made None) ≡ []
either_none true made e = ap option_to_list e
either_none false made e = refl

-- a kind of step that makes no call makes none ahead of it
none_ahead : (start : Start) (w : World) (who : ℕ) (step : Step) →
    ((know : Know) → call_of start who know step ≡ None) → ahead_made start w who step ≡ None
none_ahead start w who (Replace s expected t) none = let e = none (w.know who) in absurd (cc)
none_ahead start w who _ none = refl

-- a kind of step that makes no call adds none
pub adds_none : (start : Start) (w : World) (who : ℕ) (step : Step) →
    ((know : Know) → call_of start who know step ≡ None) → calls_added start w who step ≡ []
adds_none start w who step none =
    (λ i. option_to_list (none_ahead start w who step none i)
    ++ either_none (succeeds step (found start w step)) (call_of start who (w.know who) step) (none (w.know who)) i)

-- and is quiet
pub did_quiet : {step : Step} {p q : Trace} {r : ℕ} → Did step p q r →
    ((know : Know) → call_of p.start p.who know step ≡ None) → Quiet p q
did_quiet {step} {p} {q} d none = record {
  same = did_same d;
  seen = did_seen d;
  is_run = λ h. did_run d;
  calls = did_calls d
      ∙ ap (λ l. made_by p ++ l) (adds_none p.start (world_after p.start (p.seen ++ d.rest)) p.who step none)
      ∙ append-nil (made_by p);
}

-- ---- the events of the pass

pub adds_refl : (p : Trace) → AddsNone p p
adds_refl p = record { entries = refl }

pub adds_on : {p q r : Trace} → AddsNone p q → AddsNone q r → AddsNone p r
adds_on a b = record { entries = b.entries ∙ a.entries }

-- what was added by steps that add none, and then by an answer of the same pass
pub answer_on : {p q r : Trace} (call : ℕ → Call) → IsSame p q → AddsNone p q → AddsAnswer (call q.who) q r →
    AddsAnswer (call p.who) p r
answer_on call same a b =
    record { entries = b.entries ∙ (λ i. a.entries i ++ just (same.who i) (Confirms (call (same.who i)))) }

-- the events after one step
pub did_entries : {step : Step} {p q : Trace} {r : ℕ} (d : Did step p q r) →
    entries_of q
    ≡ entries_of p
    ++ happens p.start (world_after p.start (p.seen ++ d.rest)) (incarnations_after p.start (p.seen ++ d.rest)) p.who
    step
did_entries {step} {p} {q} d =
    (λ i. own_entries (d.same.1 i) (d.seen i) (d.same.3 i))
    ∙ own_entries-snoc p.start (p.seen ++ d.rest) (event_of p.who step)
    ∙ ap (λ l. l
    ++ happens p.start (world_after p.start (p.seen ++ d.rest)) (incarnations_after p.start (p.seen ++ d.rest)) p.who
    step) (others_leave_entries p.start p.seen d.rest p.who d.none)

-- a step by which nothing happens adds none
pub did_adds_none : {step : Step} {p q : Trace} {r : ℕ} (d : Did step p q r) →
    ((w : World) (a : Incarnations) → happens p.start w a p.who step ≡ []) → AddsNone p q
did_adds_none {step} {p} d none =
    record {
      entries = did_entries d
          ∙ ap (λ l. entries_of p ++ l)
          (none (world_after p.start (p.seen ++ d.rest)) (incarnations_after p.start (p.seen ++ d.rest)))
          ∙ append-nil (entries_of p);
    }

-- ---- loads alone

both_load : (who : ℕ) (xs ys : List Event) → OnlyLoadsOf who xs → OnlyLoadsOf who ys → OnlyLoadsOf who (xs ++ ys)
both_load who [] ys g h = h
both_load who (x ∷ xs) ys g h = (g.0, both_load who xs ys g.1 h)

others_load : (who : ℕ) (events : List Event) → NoneOf who events → OnlyLoadsOf who events
others_load who [] none = tt
others_load who (x ∷ xs) none = (λ e. absurd (none.0 e), others_load who xs none.1)

pub loads_refl : (p : Trace) → OnlyLoads p p
loads_refl p = record { who = refl; since = []; seen = sym (append-nil p.seen); loads = tt }

pub loads_on : {p q r : Trace} → OnlyLoads p q → OnlyLoads q r → OnlyLoads p r
loads_on {p} {q} {r} a b =
    let P : ℕ → Type 0 = λ who. OnlyLoadsOf who b.since in
    record {
      who = b.who ∙ a.who;
      since = a.since ++ b.since;
      seen = b.seen ∙ ap (λ l. l ++ b.since) a.seen ∙ append_assoc p.seen a.since b.since;
      loads = both_load p.who a.since b.since a.loads (subst P a.who b.loads);
    }

-- one step that is a load
pub did_loads : {step : Step} {p q : Trace} {r : ℕ} → Did step p q r → IsLoad step → OnlyLoads p q
did_loads {step} {p} d load = record {
  who = d.same.3;
  since = d.rest ++ event_of p.who step ∷ [];
  seen = d.seen ∙ append_assoc p.seen d.rest (event_of p.who step ∷ []);
  loads = both_load p.who d.rest (event_of p.who step ∷ []) (others_load p.who d.rest d.none) (λ _. load, tt);
}
