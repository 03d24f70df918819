-- Workers that have played a whole script, and whose passes ended a run, have played it by that run.
use Rattle.std.proofs.Common.{◌≡◌, ◌≢◌, ℕ, zero, suc, ◌+◌, ◌-◌, ◌*◌, ◌<◌, ◌≤◌, List, [], ◌∷◌, length, get_or, inl, inr}
use Rattle.std.proofs.Common.{refl, sym, ap, subst, ◌∙◌, arith}
use Rattle.std.proofs.lemmas.Bool.{cases_lt}
use Rattle.std.proofs.lemmas.List.{length-map}
use Rattle.std.proofs.lemmas.List.Elements.{All-head}
use Rattle.std.proofs.Math.ListN.{get_or-eq_default}
use Rattle.std.specs.Prelude.{zip, All}
use Rattle.vbr_machine.specs.Start.{Start}
use Rattle.vbr_machine.specs.Calls.{own_calls}
use Rattle.vbr_machine.specs.Runs.{Begins, BeginsFor, world_after}
use Rattle.vbr_machine.specs.Safety.{IsSafe}
use Rattle.vbr_machine.specs.declared.event.Event.{Event}
use Rattle.vbr_machine.specs.declared.history.Op.{Op}
use Rattle.vbr_machine.proofs.Lemmas.{begins_for_begins, begins_trans, others_leave_calls}
use Rattle.vbr_slots.specs.runs.Closing.{EachSeen}
use Rattle.vbr_slots.specs.views.Views.{Trace, TableView, new_pass, steps_in, steps_of}
use Rattle.vbr_set.specs.calls.Members.{as_member}
use Rattle.vbr_transcript.specs.Calls.{Outcome, answered_calls, lines_by, outcomes_by}
use Rattle.vbr_player.specs.Calling.{ArePlayed, PlaysOwn, ample}
use Rattle.vbr_player.specs.Ending.{passes_of}
use Rattle.vbr_transcript.specs.Merging.{replies_by, HaveReplies, IsMerged}
use Rattle.vbr_transcript.specs.Runs.{MayBeAnswered}
use Rattle.vbr_script.specs.Scripts.{ArePhased}
use Rattle.vbr_player.specs.Standing.{replies_of, AreNumberedFrom, HasPlayed, HasEnded, Stand}
use Rattle.vbr_player.specs.Working.{TellsReply}
use Rattle.vbr_transcript.specs.declared.reply.Reply.{Reply}
use Rattle.vbr_transcript.specs.declared.reply.Reply.TheVariants.{Yes, Value, No, Full, Spent, Tired}
use Rattle.vbr_player.specs.declared.worker.Worker.{Worker}
use Rattle.vbr_script.specs.declared.script.Kind.{Kind}
use Rattle.vbr_script.specs.declared.script.Line.{Line}
use Rattle.vbr_transcript.proofs.Lemmas.{all_lines, all_outcomes, epoch_begins, none_beyond, outcomes_by-own}
use Rattle.vbr_transcript.proofs.Lemmas.{EndsWithin, HavePlayed}
use Rattle.vbr_player.proofs.Calling.{steps_seen}
use Rattle.vbr_player.proofs.Lone.{lone_untired}
use Rattle.vbr_player.proofs.Standing.{as_many}

-- ---- one worker

-- the worker of a number has that number, has replied to its lines, and has seen what begins the run
pub record IsAt (kind : Kind) (N : Type 0) (set : TableView) (budget most : ℕ) (script : List Line) (run : List Event)
    (who : ℕ) (own : List Reply) : Type 0 where
  pub worker : Worker N
  pub number : worker.caller.pass.trace.who ≡ who
  pub played : HasPlayed kind set budget most script script worker
  pub seen : BeginsFor worker.caller.pass.trace.who worker.caller.pass.trace.seen run
  pub replies : worker.replies.items ≡ own

-- there is a worker of each number
is_at : {N : Type 0} {kind : Kind} →
    (set : TableView) (budget most : ℕ) (script : List Line) (run : List Event) (n : ℕ) (workers : List (Worker N)) →
    AreNumberedFrom n workers →
    ((k : ℕ) (d : Worker N) → k < length workers → HasPlayed kind set budget most script script (get_or workers k d)) →
    EachSeen run (passes_of workers) → (i : ℕ) → i < length workers →
    IsAt kind N set budget most script run (n + i) (replies_by i (replies_of workers))
is_at {N} {kind} set budget most script run n [] numbered played seen i inside = absurd (omega arith)
is_at {N} {kind} set budget most script run n (worker ∷ workers) numbered played seen zero inside = record {
  worker = worker;
  number = numbered.0 ∙ omega arith;
  played = played 0 worker inside;
  seen = seen.0;
  replies = refl;
}
is_at {N} {kind} set budget most script run n (worker ∷ workers) numbered played seen (suc i) inside =
    let same : suc n + i ≡ n + suc i = omega arith in
    subst (λ (who : ℕ). IsAt kind N set budget most script run who (replies_by i (replies_of workers))) same
    (is_at set budget most script run (suc n) workers numbered.1 (λ k d below. played (suc k) d (omega arith)) seen.1 i
    (omega arith))

-- its calls in the run are its answered lines
called_at : {N : Type 0} {kind : Kind} →
    (set : TableView) (budget most : ℕ) (script : List Line) (run : List Event) (who : ℕ) (own : List Reply) →
    IsAt kind N set budget most script run who own →
    own_calls set.start run who ≡ answered_calls kind (zip (lines_by who script) own)
called_at {N} {kind} set budget most script run who own there =
    let trace = there.worker.caller.pass.trace in
    let rest = there.seen in
    let calls : own_calls set.start run trace.who ≡ own_calls set.start trace.seen trace.who =
    ap (λ (events : List Event). own_calls set.start events trace.who) rest.1
    ∙ others_leave_calls set.start trace.seen rest.0 trace.who rest.2 in
    let made : own_calls set.start trace.seen trace.who
    ≡ answered_calls kind (zip (lines_by trace.who script) there.worker.replies.items) =
    (λ i. own_calls (sym there.played.of.1 i) trace.seen trace.who) ∙ there.played.calls in
    subst (λ (k : ℕ × List Reply). own_calls set.start run k.0 ≡ answered_calls kind (zip (lines_by k.0 script) k.1))
    (λ i. (there.number i, there.replies i)) (calls ∙ made)

-- what a reply tells of its pass at a moment allows the reply at the end
may_be_answered : (kind : Kind) (p : Trace) (run : List Event) (op : Op) (reply : Reply) → Begins p.seen run →
    IsSafe p.start run → TellsReply kind p op reply →
    MayBeAnswered kind p.start.shape.last_epoch (world_after p.start run).epoch op reply
may_be_answered kind p run op Yes begins safe tells = tells
may_be_answered kind p run op (Value value) begins safe tells = tells
may_be_answered kind p run op No begins safe tells = tt
may_be_answered kind p run op Full begins safe tells = tells
may_be_answered kind p run op Spent begins safe tells =
    (tells.0, omega (arith, tells.1, epoch_begins p.start p.seen run begins, safe.epoch))
may_be_answered kind p run op Tired begins safe tells = tt

answers_at : {N : Type 0} {kind : Kind} →
    (set : TableView) (budget most : ℕ) (script : List Line) (run : List Event) (who : ℕ) (own : List Reply) →
    IsSafe set.start run → IsAt kind N set budget most script run who own →
    All (λ outcome.
    MayBeAnswered kind set.start.shape.last_epoch (world_after set.start run).epoch outcome.0.op outcome.1)
    (zip (lines_by who script) own)
answers_at {N} {kind} set budget most script run who own safe there =
    let trace = there.worker.caller.pass.trace in
    let begins = begins_for_begins trace.who trace.seen run there.seen in
    let may : (start : Start) → Outcome → Type 0 =
    λ start outcome. MayBeAnswered kind start.shape.last_epoch (world_after start run).epoch outcome.0.op outcome.1 in
    let safe_too : IsSafe trace.start run = subst (λ (start : Start). IsSafe start run) (sym there.played.of.1) safe in
    let own_may : All (may trace.start) (zip (lines_by trace.who script) there.worker.replies.items) =
    λ k d inside. may_be_answered kind trace run _ _ begins safe_too (there.played.tells k d inside) in
    subst (λ (k : Start × ℕ × List Reply). All (may k.0) (zip (lines_by k.1 script) k.2))
    (λ i. (there.played.of.1 i, there.number i, there.replies i)) own_may

-- ---- all workers

-- each worker has a reply to each of its lines
pub have_replies : {N : Type 0} {kind : Kind} →
    (set : TableView) (budget : ℕ) (script : List Line) (count from phases : ℕ) (workers : List (Worker N)) →
    ArePhased kind count phases script → Stand kind set budget script script count from phases workers →
    HaveReplies (replies_of workers) script
have_replies {N} {kind} set budget script count from phases workers phased stand = record {
  workers = λ k d inside.
      let below = phased.workers_below k d inside in
      omega (arith, below, stand.count_is, length-map workers (λ (worker : Worker N). worker.replies.items));
  one_each = λ who. elim (cases_lt who (length workers)) [
    | inl one ↦
        let same : 0 + who ≡ who = omega arith in
        subst (λ (k : ℕ). length (replies_by who (replies_of workers)) ≡ length (lines_by k script)) same
        (as_many set budget ((count - 1) * (phases - from)) script script 0 workers stand.numbered stand.played who one)
    | inr none ↦
        let no_replies : replies_by who (replies_of workers) ≡ [] =
        get_or-eq_default (replies_of workers) []
        (omega (arith, none, length-map workers (λ (worker : Worker N). worker.replies.items))) in
        let no_lines : lines_by who script ≡ [] =
        none_beyond count who script (omega (arith, none, stand.count_is)) phased.workers_below in
        ap length no_replies ∙ ap length (sym no_lines)
  ];
}

-- a phase that has ended for them ends within the run
ends_within : {N : Type 0} {kind : Kind} →
    (set : TableView) (script : List Line) (phase : ℕ) (workers : List (Worker N)) (run : List Event) →
    0 < length workers → HasEnded kind set script phase workers → EachSeen run (passes_of workers) →
    EndsWithin kind set.start (length workers) script (replies_of workers) run phase
ends_within {N} {kind} set script phase [] run some ended seen = absurd (omega arith)
ends_within {N} {kind} set script phase (worker ∷ workers) run some ended seen = record {
  seen = ended.seen;
  begins = begins_trans ended.seen worker.caller.pass.trace.seen run
      (All-head (λ (w : Worker N). Begins ended.seen w.caller.pass.trace.seen) worker workers ended.begins)
      (begins_for_begins worker.caller.pass.trace.who worker.caller.pass.trace.seen run seen.0);
  called = ended.called;
}

-- the worker of a number is at it
worker_at : {N : Type 0} {kind : Kind} →
    (set : TableView) (budget : ℕ) (script : List Line) (count from phases : ℕ) (workers : List (Worker N))
    (run : List Event) → Stand kind set budget script script count from phases workers →
    EachSeen run (passes_of workers) → (who : ℕ) → who < count →
    IsAt kind N set budget ((count - 1) * (phases - from)) script run who (replies_by who (replies_of workers))
worker_at {N} {kind} set budget script count from phases workers run stand seen who below =
    let most = (count - 1) * (phases - from) in
    let same : 0 + who ≡ who = omega arith in
    subst (λ (k : ℕ). IsAt kind N set budget most script run k (replies_by who (replies_of workers))) same
    (is_at set budget most script run 0 workers stand.numbered stand.played seen who (omega (arith, stand.count_is)))

-- they have played the script by the run
pub have_played : {N : Type 0} {kind : Kind} →
    (set : TableView) (budget : ℕ) (script : List Line) (count from phases : ℕ) (workers : List (Worker N))
    (run : List Event) → 0 < count → Stand kind set budget script script count from phases workers →
    EachSeen run (passes_of workers) → IsSafe set.start run →
    HavePlayed kind set.start count phases script (replies_of workers) run
have_played {N} {kind} set budget script count from phases workers run some stand seen safe =
    let most = (count - 1) * (phases - from) in
    let worker_of = worker_at set budget script count from phases workers run stand seen in
    record {
      called = λ who below.
          called_at set budget most script run who (replies_by who (replies_of workers)) (worker_of who below);
      ends = λ phase below.
          subst (λ (n : ℕ). EndsWithin kind set.start n script (replies_of workers) run phase) stand.count_is
          (ends_within set script phase workers run (omega (arith, some, stand.count_is)) (stand.ended phase below)
          seen);
      answers = λ who below.
          answers_at set budget most script run who (replies_by who (replies_of workers)) safe (worker_of who below);
    }

-- ---- calls in turn

-- a list beside one as long
zip_long : {X Y : Type 0} (xs : List X) (ys : List Y) → length ys ≡ length xs → length (zip xs ys) ≡ length ys
zip_long [] [] same = refl
zip_long [] (y ∷ ys) same = absurd (omega arith)
zip_long (x ∷ xs) [] same = refl
zip_long (x ∷ xs) (y ∷ ys) same = ap suc (zip_long xs ys (omega arith))

-- a worker played its own outcomes
own_at : {N : Type 0} {kind : Kind} →
    (set : TableView) (budget most : ℕ) (script : List Line) (run : List Event) (who : ℕ) (own : List Reply) →
    IsAt kind N set budget most script run who own →
    PlaysOwn kind set budget (zip (lines_by who script) own) run who ×
    (steps_in who run ≤ budget * length (zip (lines_by who script) own) + most)
own_at {N} {kind} set budget most script run who own there =
    let trace = there.worker.caller.pass.trace in let replies = there.worker.replies.items in
    let P : ℕ × List Reply → Type 0 =
    λ k. PlaysOwn kind set budget (zip (lines_by k.0 script) k.1) run k.0 ×
    (steps_in k.0 run ≤ budget * length (zip (lines_by k.0 script) k.1) + most) in
    let made : steps_in trace.who run ≡ steps_of trace = steps_seen trace.who trace.seen run there.seen in
    let long : length (zip (lines_by trace.who script) replies) ≡ length replies =
    zip_long (lines_by trace.who script) replies there.played.one_each in
    let steps : steps_in trace.who run ≤ budget * length (zip (lines_by trace.who script) replies) + most =
    rw long (let few = there.played.steps in omega arith) in
    subst P (λ i. (there.number i, there.replies i))
    (record { last = there.worker.caller; calls = there.played.in_turn; seen = there.seen }, steps)

-- so they have, and a lone one with an ample budget was never tired
pub are_played : {N : Type 0} {kind : Kind} →
    (set : TableView) (budget : ℕ) (script : List Line) (from phases : ℕ) (workers : List (Worker N))
    (replies : List Reply) (run : List Event) → ArePhased kind set.passes phases script →
    Stand kind set budget script script set.passes from phases workers → EachSeen run (passes_of workers) →
    IsMerged script (replies_of workers) replies →
    ArePlayed kind set.passes budget set.start (phases - from) (zip script replies) run
are_played {N} {kind} set budget script from phases workers replies run phased stand seen merged = record {
  set = set;
  shaped = refl;
  counted = refl;
  own = λ who below. (own who below).0;
  steps = λ who below. (own who below).1;
  untired = λ one enough.
      all_outcomes (λ outcome. outcome.1 ≢ Tired) set.passes (zip script replies)
      (all_lines (λ (line : Line). line.worker < set.passes) script replies phased.workers_below)
      (λ who below. untired one enough who below);
}
  where
    own : (who : ℕ) → who < set.passes →
        PlaysOwn kind set budget (outcomes_by who (zip script replies)) run who ×
        (steps_in who run ≤ budget * length (outcomes_by who (zip script replies)) + (set.passes - 1) * (phases - from))
    own who below =
        let are : outcomes_by who (zip script replies)
        ≡ zip (lines_by who script) (replies_by who (replies_of workers)) =
        outcomes_by-own who script replies (replies_by who (replies_of workers)) merged.one_each
        (merged.own_order who) in
        subst (λ (outcomes : List Outcome).
        PlaysOwn kind set budget outcomes run who ×
        (steps_in who run ≤ budget * length outcomes + (set.passes - 1) * (phases - from))) (sym are)
        (own_at set budget ((set.passes - 1) * (phases - from)) script run who (replies_by who (replies_of workers))
        (worker_at set budget script set.passes from phases workers run stand seen who below))

    untired : set.passes ≡ 1 → ample set.start ≤ budget → (who : ℕ) → who < set.passes →
        All (λ outcome. outcome.1 ≢ Tired) (outcomes_by who (zip script replies))
    untired one enough who below =
        let first : 0 ≡ who = omega arith in
        let mine = (own who below).0 in
        lone_untired kind set budget (outcomes_by who (zip script replies)) (as_member set (new_pass set who)) mine.last
        one enough (record { table = refl; start = refl; passes = refl; who = sym first }) mine.calls
