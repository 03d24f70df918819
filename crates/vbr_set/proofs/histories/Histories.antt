-- What a pass has seen is a safe run, so its calls are one legal history.
use Rattle.std.proofs.Common.{◌≡◌, ◌⊎◌, ℕ, ◌==◌, Bool, true, false, cond, List, [], ◌∷◌, ◌++◌, length, None, Result, Ok}
use Rattle.std.proofs.Common.{Err, refl, sym, ap, ◌∙◌, subst, inl, inr, append_assoc, arith}
use Rattle.std.specs.Prelude.{IfErr, IfOk}
use Rattle.std.proofs.lemmas.List.{append_cancel_left}
use Rattle.vbr_machine.specs.Start.{Start, IsStart}
use Rattle.vbr_machine.specs.Calls.{own_calls}
use Rattle.vbr_machine.specs.History.{calls_by}
use Rattle.vbr_machine.specs.Runs.{Begins, IsRun, BeginsFor}
use Rattle.vbr_machine.specs.declared.event.Event.{Event}
use Rattle.vbr_machine.specs.declared.event.Step.TheVariants.{ReadEpoch}
use Rattle.vbr_machine.specs.declared.history.Call.{Call}
use Rattle.vbr_machine.proofs.Lemmas.{calls_by-append, calls_since, every_run, is_run_before, others_leave_calls}
use Rattle.vbr_slots.specs.steps.Calls.{IsSame, Made, Quiet, made_by}
use Rattle.vbr_slots.specs.steps.PassLaw.{PassLaw}
use Rattle.vbr_slots.specs.views.Views.{PassView, TableView, Trace, Did}
use Rattle.vbr_slots.proofs.Lemmas.{did_quiet, did_run}
use Rattle.vbr_at_table.specs.answers.Replacing.{MadeTwo}
use Rattle.vbr_at_table.specs.Soundness.{HasSafeRun}
use Rattle.vbr_at_table.specs.costs.WithinBudget.{TookWithin}
use Rattle.vbr_at_table.specs.declared.refusal.Refusal.{Refusal}
use Rattle.vbr_list.specs.calls.CallBounds.{CallsAs}
use Rattle.vbr_list.proofs.Lemmas.{alone_all}
use Rattle.vbr_set.specs.histories.Answers.{Answers, AnswersAll, Follows}
use Rattle.vbr_set.specs.histories.Histories.{ReadsAreRight, calls_of}
use Rattle.vbr_set.specs.histories.Meetings.{Shares}
use Rattle.vbr_set.specs.calls.Members.{CalledBy, as_member, one}

pub start_of : (p q : Start) → q ≡ p → IsStart p → IsStart q
start_of p q is start = let P : Start → Type 0 = IsStart in subst P (sym is) start

-- each beginning of a run is a run, so its reads are right
pub reads_right : (start : Start) (passes : ℕ) (run : List Event) → IsStart start → IsRun start passes run →
    ReadsAreRight start run
reads_right start passes run is ok before later pass e =
    let first : IsRun start passes before =
    is_run_before start passes before later (subst (λ (l : List Event). IsRun start passes l) e ok) in
    ((every_run start passes before is first).knows pass).reads

-- the calls of a pass in a run that begins with what it has seen, and has no other event of it, are those that it
-- has made
pub calls_made : (start : Start) (who : ℕ) (seen run : List Event) → BeginsFor who seen run →
    own_calls start run who ≡ own_calls start seen who
calls_made start who seen run b = ap (λ l. own_calls start l who) b.1 ∙ others_leave_calls start seen b.0 who b.2

-- ---- calls that were made

abbrev first_or : Call → List Call → Call
first_or call [] = call
first_or call (c ∷ cs) = c

picked : (b : Bool) (c call : Call) (others : List Call) → cond b (c ∷ others) others ≡ call ∷ [] →
    (c ≡ call) ⊎ (others ≡ call ∷ [])
picked true c call others e = inl (ap (first_or call) e)
picked false c call others e = inr e

-- the one call of a caller stands somewhere
stands_among : (who : ℕ) (call : Call) (calls : List Call) → calls_by who calls ≡ call ∷ [] →
    (front : List Call) × (back : List Call) × (calls ≡ front ++ call ∷ back)
stands_among who call [] e = let no : 0 ≡ 1 = ap length e in absurd (omega (arith, no))
stands_among who call (c ∷ cs) e =
    elim (picked (c.who == who) c call (calls_by who cs) e) [
      | inl is ↦ ([], cs, ap (λ (d : Call). d ∷ cs) is)
      | inr rest ↦ let more = stands_among who call cs rest in (c ∷ more.0, more.1, ap (λ l. c ∷ l) more.2)
    ]

-- one that was made stands after all calls that its pass had seen
follows_one : {call : Call} {p q : Trace} → Made call p q →
    Follows (calls_of p.start p.seen) (call ∷ []) (calls_of q.start q.seen)
follows_one {call} {p} {q} made =
    let seen = calls_of p.start p.seen in
    let more = calls_since p.start p.seen q.seen made.seen in
    let split : calls_by p.who (calls_of p.start q.seen) ≡ calls_by p.who seen ++ calls_by p.who more.0 =
    ap (calls_by p.who) more.1 ∙ calls_by-append p.who seen more.0 in
    let once : calls_by p.who (calls_of p.start q.seen) ≡ calls_by p.who seen ++ call ∷ [] =
    (λ i. calls_by (sym made.same.who i) (calls_of (sym made.same.start i) q.seen)) ∙ made.calls in
    let found = stands_among p.who call more.0
    (append_cancel_left (calls_by p.who seen) (calls_by p.who more.0) (call ∷ []) (sym split ∙ once)) in
    record {
      between = found.0;
      more = found.1;
      stands = ap (λ (d : Start). calls_of d q.seen) made.same.start
          ∙ more.1
          ∙ ap (λ l. seen ++ l) found.2
          ∙ sym (append_assoc seen found.0 (call ∷ found.1));
    }

-- calls that were made, and stand so, stand in one legal history
pub answers_all : {calls : List Call} {p q : Trace} → IsStart p.start → IsSame p q → Begins p.seen q.seen →
    IsRun q.start q.passes q.seen → made_by q ≡ made_by p ++ calls →
    Follows (calls_of p.start p.seen) calls (calls_of q.start q.seen) → AnswersAll calls p q
answers_all {calls} {p} {q} is same begins run made together =
    let start = start_of p.start q.start same.start is in
    let safe = every_run q.start q.passes q.seen start run in
    record {
      same = same;
      begins = begins;
      is_run = run;
      legal = safe.legal;
      once = made;
      together = together;
      exchanges = safe.exchanges;
      reads = reads_right q.start q.passes q.seen start run;
      safe = safe;
    }

-- so does one call
pub answers : {call : Call} {p q : Trace} → IsStart p.start → Made call p q → Answers call p q
answers is made = answers_all is made.same made.seen made.is_run made.calls (follows_one made)

-- and so do two of one step
pub answers_two : {first second : Call} {p q : Trace} → IsStart p.start → MadeTwo first second p q →
    AnswersAll (first ∷ second ∷ []) p q
answers_two is made =
    answers_all is made.same made.seen made.is_run made.calls
    (record { between = made.together.others; more = made.together.later; stands = made.together.calls })

-- ---- calls of members

-- what is so of each answer
pub each_answer : {A E : Type 0} {P Q : A → Type 0} (answer : Result A E) → ((reply : A) → P reply → Q reply) →
    IfOk answer P → IfOk answer Q
each_answer (Ok reply) f x = f reply x
each_answer (Err error) f x = tt

-- a call by a pass of a set is one by that member, once it is known what its answer leaves
pub called_by : {A : Type 0} {told : A → List Call} {BoundsSo : Result A Refusal → Type 0}
    (Leave : List Call → Trace → Trace → Type 0) (set : TableView) (p q : PassView) (budget : ℕ)
    (answer : Result A Refusal) → PassLaw p → PassLaw q →
    ((calls : List Call) → Leave calls p.trace q.trace → AnswersAll calls p.trace q.trace)
    → IsSame p.trace q.trace → IfErr answer (λ refusal. Quiet p.trace q.trace) → q.hand ≡ None →
    TookWithin p.trace q.trace budget → BoundsSo answer → IfOk answer (λ reply. Leave (told reply) p.trace q.trace) →
    CalledBy Leave told BoundsSo (as_member set p) (as_member set q) budget answer
called_by {A} {told} Leave set p q budget answer before after all same quiet hand steps bounds leave =
    record {
      set = refl;
      same = same;
      answers = leave;
      alone = each_answer answer
          (λ reply l. (let a = all (told reply) l in
          λ lone. (alone_all (told reply) before.start before.low a.same a.is_run a.once lone).0)) leave;
      quiet = quiet;
      safe = record { is_run = after.is_run; safe = after.safe };
      hand = hand;
      steps = steps;
      bounds = bounds;
    }

-- so it is of a call of a set
pub called : {A : Type 0} {told : A → Call} {BoundsSo : Result A Refusal → Type 0} (set : TableView) (p q : PassView)
    (budget : ℕ) (answer : Result A Refusal) → PassLaw p → PassLaw q → CallsAs told BoundsSo p q budget answer →
    CalledBy AnswersAll (one told) BoundsSo (as_member set p) (as_member set q) budget answer
called set p q budget answer before after e =
    called_by AnswersAll set p q budget answer before after (λ calls a. a) e.same e.quiet e.hand e.steps e.bounds
    (each_answer answer (λ reply made. answers before.start made) e.made)

-- a pass that met another has seen a safe run
pub met_safe : {p q : Trace} {epoch : ℕ} → IsStart p.start → Did ReadEpoch p q epoch → HasSafeRun q
met_safe {p} {q} is did =
    let run = did_run did in
    record {
      is_run = run;
      safe = every_run q.start q.passes q.seen (start_of p.start q.start (did_quiet did (λ know. refl)).same.start is)
          run;
    }

-- passes that met share one legal history
pub shares : {p other q : Trace} {epoch : ℕ} → IsStart p.start → other.start ≡ p.start → Did ReadEpoch p q epoch →
    BeginsFor other.who other.seen q.seen → Shares p other q
shares {p} {other} {q} is same did begins =
    let quiet = did_quiet did (λ know. refl) in
    let start = start_of p.start q.start quiet.same.start is in
    let run = did_run did in
    let safe = every_run q.start q.passes q.seen start run in
    record {
      quiet = quiet;
      begins = begins;
      legal = safe.legal;
      theirs = calls_made q.start other.who other.seen q.seen begins
          ∙ ap (λ (s : Start). own_calls s other.seen other.who) (quiet.same.start ∙ sym same);
      exchanges = safe.exchanges;
      reads = reads_right q.start q.passes q.seen start run;
    }
