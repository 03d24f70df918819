-- What the answer to a line says of its reply, and of the worker that was given it.
use Rattle.std.proofs.Common.{◌≡◌, ◌≢◌, ℕ, ◌<◌, ◌≤◌, Bool, true, false, List, [], ◌∷◌, ◌++◌, length, append-nil, refl}
use Rattle.std.proofs.Common.{sym, ap, subst, ◌∙◌, arith}
use Rattle.std.proofs.lemmas.Bool.{eq-eqb, ne_eqb}
use Rattle.std.proofs.lemmas.List.Elements.{All-nil, All-cons}
use Rattle.std.specs.Prelude.{Option, Some, None, Result, Ok, Err, zip, All}
use Rattle.std.specs.Vec.{vec_capacity}
use Rattle.vbr_machine.specs.History.{set_call}
use Rattle.vbr_machine.specs.Runs.{Begins}
use Rattle.vbr_machine.specs.Safety.{IsSafe}
use Rattle.vbr_machine.specs.declared.history.Call.{Call}
use Rattle.vbr_machine.specs.declared.history.Op.{Op}
use Rattle.vbr_machine.specs.declared.history.Op.TheVariants.{Insert, Remove, Has, Get}
use Rattle.vbr_machine.proofs.Lemmas.{begins_refl}
use Rattle.vbr_slots.specs.steps.Calls.{IsSame, Quiet, made_by}
use Rattle.vbr_slots.specs.views.Views.{PassView}
use Rattle.vbr_slots.proofs.Lemmas.{same_refl}
use Rattle.vbr_list.specs.calls.Refusals.{IsRefusedInsert, IsTired}
use Rattle.vbr_list.specs.calls.CallBounds.{BoundsOfCall}
use Rattle.vbr_list.specs.calls.Told.{given_by, given_call, stored_call}
use Rattle.vbr_at_table.specs.declared.refusal.Refusal.{Refusal}
use Rattle.vbr_at_table.specs.declared.refusal.Refusal.TheVariants.{OutOfSteps, NoSlot, EpochSpent}
use Rattle.vbr_set.specs.histories.Answers.{Answers}
use Rattle.vbr_set.specs.calls.MapCalls.{InsertsEntry, MapAnswersAll}
use Rattle.vbr_set.specs.calls.Members.{MemberView, Called, CalledBy, one}
use Rattle.vbr_set.specs.Names.{TookWithin}
use Rattle.vbr_script.specs.declared.script.Kind.{Kind}
use Rattle.vbr_script.specs.declared.script.Kind.TheVariants.{Set, Map}
use Rattle.vbr_script.specs.declared.script.Line.{Line}
use Rattle.vbr_transcript.specs.Calls.{Outcome, answer_of, answered_calls, lines_by, value_stored}
use Rattle.vbr_transcript.specs.Runs.{gives_value}
use Rattle.vbr_transcript.specs.declared.reply.Reply.{Reply}
use Rattle.vbr_transcript.specs.declared.reply.Reply.TheVariants.{Yes, Value, No}
use Rattle.vbr_player.specs.Calling.{CallsInTurn, IsCalled, IsMapCalled, reply_given, reply_refused, reply_told}
use Rattle.vbr_player.specs.Working.{HasRoomForReplies, Played, TellsReply}
use Rattle.vbr_player.specs.declared.worker.Worker.{Worker}
use Rattle.vbr_player.proofs.Calling.{one_turn}

-- ---- what a refusal tells

-- that of an insert
insert_tells : (kind : Kind) (p q : PassView) (key budget : ℕ) (refusal : Refusal) → IsSafe q.trace.start q.trace.seen →
    IsRefusedInsert p q key budget refusal → TellsReply kind q.trace Insert (reply_refused refusal)
insert_tells kind p q key budget (OutOfSteps used) safe refused = tt
insert_tells kind p q key budget NoSlot safe refused = refl
insert_tells kind p q key budget (EpochSpent epoch) safe refused =
    let spent = refused.spent in
    let known = (safe.knows q.trace.who).epoch in
    (refl, omega (arith, known, spent.last_read, spent.last))

-- any other call is refused for want of steps alone
tired_tells : (kind : Kind) (op : Op) (p q : PassView) (budget : ℕ) (refusal : Refusal) → IsTired p q budget refusal →
    TellsReply kind q.trace op (reply_refused refusal)
tired_tells kind op p q budget (OutOfSteps used) tired = tt
tired_tells kind op p q budget NoSlot tired = absurd tired
tired_tells kind op p q budget (EpochSpent epoch) tired = absurd tired

tells : (kind : Kind) (op : Op) (p q : PassView) (key budget : ℕ) (refusal : Refusal) →
    IsSafe q.trace.start q.trace.seen → BoundsOfCall op p q key budget (Err refusal) →
    TellsReply kind q.trace op (reply_refused refusal)
tells kind Insert p q key budget refusal safe bounds = insert_tells kind p q key budget refusal safe bounds.refused
tells kind Remove p q key budget refusal safe bounds = tired_tells kind Remove p q budget refusal bounds.refused
tells kind Has p q key budget refusal safe bounds = tired_tells kind Has p q budget refusal bounds.refused
tells kind Get p q key budget refusal safe bounds = absurd bounds

-- ---- what an answer and a refusal leave

-- a pass was given this reply to a line, within a budget: it has seen more, and has made the call that the line is
-- with this reply, or none where it was refused
pub record Replied (kind : Kind) (line : Line) (reply : Reply) (budget : ℕ) (p q : MemberView) : Type 0 where
  pub set : q.set ≡ p.set
  pub same : IsSame p.pass.trace q.pass.trace
  pub seen : Begins p.pass.trace.seen q.pass.trace.seen
  pub calls : made_by q.pass.trace ≡ made_by p.pass.trace ++ answer_of kind line reply
  pub tells : TellsReply kind q.pass.trace line.op reply
  pub steps : TookWithin p.pass.trace q.pass.trace budget

-- an answer makes the call of the line
answered : (kind : Kind) (line : Line) (reply : Reply) (call : Call) (budget : ℕ) (p q : MemberView) → q.set ≡ p.set →
    Answers call p.pass.trace q.pass.trace → TookWithin p.pass.trace q.pass.trace budget →
    call ∷ [] ≡ answer_of kind line reply → TellsReply kind q.pass.trace line.op reply →
    Replied kind line reply budget p q
answered kind line reply call budget p q set answers steps is tells = record {
  set = set;
  same = answers.same;
  seen = answers.begins;
  calls = answers.once ∙ ap (λ (calls : List Call). made_by p.pass.trace ++ calls) is;
  tells = tells;
  steps = steps;
}

-- a refusal makes none
no_call : (kind : Kind) (line : Line) (refusal : Refusal) → answer_of kind line (reply_refused refusal) ≡ []
no_call kind line (OutOfSteps used) = refl
no_call kind line NoSlot = refl
no_call kind line (EpochSpent epoch) = refl

refused : (kind : Kind) (line : Line) (refusal : Refusal) (budget : ℕ) (p q : MemberView) → q.set ≡ p.set →
    Quiet p.pass.trace q.pass.trace → TookWithin p.pass.trace q.pass.trace budget →
    TellsReply kind q.pass.trace line.op (reply_refused refusal) → Replied kind line (reply_refused refusal) budget p q
refused kind line refusal budget p q set quiet steps tells = record {
  set = set;
  same = quiet.same;
  seen = quiet.seen;
  calls = quiet.calls ∙ sym (append-nil (made_by p.pass.trace))
      ∙ ap (λ (calls : List Call). made_by p.pass.trace ++ calls) (sym (no_call kind line refusal));
  tells = tells;
  steps = steps;
}

-- ---- each call

-- one that has no value
called_replied : (kind : Kind) (line : Line) (p q : MemberView) (budget : ℕ) (answer : Result Bool Refusal) →
    line.worker ≡ p.pass.trace.who → value_stored kind line.op line.value ≡ None → gives_value kind line.op ≡ false →
    Called line.op p q line.key budget answer → Replied kind line (reply_told answer) budget p q
called_replied kind line p q budget (Ok true) who stores gives called =
    let is : set_call p.pass.trace.who line.op line.key true ∷ [] ≡ answer_of kind line Yes =
    λ i. record { who = sym who i; op = line.op; key = line.key; reply = true; value = sym stores i } ∷ [] in
    answered kind line Yes (set_call p.pass.trace.who line.op line.key true) budget p q called.set called.answers
    called.steps is gives
called_replied kind line p q budget (Ok false) who stores gives called =
    let is : set_call p.pass.trace.who line.op line.key false ∷ [] ≡ answer_of kind line No =
    λ i. set_call (sym who i) line.op line.key false ∷ [] in
    answered kind line No (set_call p.pass.trace.who line.op line.key false) budget p q called.set called.answers
    called.steps is tt
called_replied kind line p q budget (Err refusal) who stores gives called =
    refused kind line refusal budget p q called.set called.quiet called.steps
    (tells kind line.op p.pass q.pass line.key budget refusal called.safe.safe called.bounds)

-- an insert of an entry that was answered
insert_replied : (line : Line) (p q : MemberView) (budget : ℕ) (told : Bool) (reply : Reply) →
    line.worker ≡ p.pass.trace.who → InsertsEntry p q line.key line.value budget (Ok told) →
    stored_call line.worker line.key line.value told ∷ [] ≡ answer_of Map (record line { op = Insert }) reply →
    TellsReply Map q.pass.trace Insert reply → Replied Map (record line { op = Insert }) reply budget p q
insert_replied line p q budget told reply who called is shows =
    answered Map (record line { op = Insert }) reply (stored_call p.pass.trace.who line.key line.value told) budget p q
    called.set called.answers.answers called.steps
    ((λ i. stored_call (sym who i) line.key line.value told ∷ []) ∙ is) shows

-- an insert of an entry
inserted : (line : Line) (p q : MemberView) (budget : ℕ) (answer : Result Bool Refusal) →
    line.worker ≡ p.pass.trace.who → InsertsEntry p q line.key line.value budget answer →
    Replied Map (record line { op = Insert }) (reply_told answer) budget p q
inserted line p q budget (Ok true) who called = insert_replied line p q budget true Yes who called refl refl
inserted line p q budget (Ok false) who called = insert_replied line p q budget false No who called refl tt
inserted line p q budget (Err refusal) who called =
    refused Map (record line { op = Insert }) refusal budget p q called.set called.quiet called.steps
    (insert_tells Map p.pass q.pass line.key budget refusal called.safe.safe called.bounds.refused)

-- a call that gives the value of an entry
given : {BoundsSo : Result (Option ℕ) Refusal → Type 0} (op : Op) (line : Line) (p q : MemberView) (budget : ℕ)
    (answer : Result (Option ℕ) Refusal) → line.worker ≡ p.pass.trace.who →
    CalledBy MapAnswersAll (one (given_call p.pass.trace.who op line.key)) BoundsSo p q budget answer →
    gives_value Map op ≡ true → ((value : Option ℕ) → given_by op value ≡ value) →
    ((refusal : Refusal) → BoundsSo (Err refusal) → IsTired p.pass q.pass budget refusal) →
    Replied Map (record line { op = op }) (reply_given answer) budget p q
given op line p q budget (Ok (Some value)) who called gives same tired =
    let asked = record line { op = op } in
    let is : given_call p.pass.trace.who op line.key (Some value) ∷ [] ≡ answer_of Map asked (Value value) =
    λ i. record { who = sym who i; op = op; key = line.key; reply = true; value = same (Some value) i } ∷ [] in
    answered Map asked (Value value) (given_call p.pass.trace.who op line.key (Some value)) budget p q called.set
    called.answers.answers called.steps is gives
given op line p q budget (Ok None) who called gives same tired =
    let asked = record line { op = op } in
    let is : given_call p.pass.trace.who op line.key None ∷ [] ≡ answer_of Map asked No =
    λ i. record { who = sym who i; op = op; key = line.key; reply = false; value = same None i } ∷ [] in
    answered Map asked No (given_call p.pass.trace.who op line.key None) budget p q called.set called.answers.answers
    called.steps is tt
given op line p q budget (Err refusal) who called gives same tired =
    refused Map (record line { op = op }) refusal budget p q called.set called.quiet called.steps
    (tired_tells Map op p.pass q.pass budget refusal (tired refusal called.bounds))

-- a call of a map
map_replied : (op : Op) (line : Line) (reply : Reply) (p q : MemberView) (budget : ℕ) → line.worker ≡ p.pass.trace.who →
    IsMapCalled op line.key line.value budget reply p q → Replied Map (record line { op = op }) reply budget p q
map_replied Insert line reply p q budget who called =
    subst (λ (r : Reply). Replied Map (record line { op = Insert }) r budget p q) (sym called.2)
    (inserted line p q budget called.0 who called.1)
map_replied Remove line reply p q budget who called =
    subst (λ (r : Reply). Replied Map (record line { op = Remove }) r budget p q) (sym called.2)
    (given Remove line p q budget called.0 who called.1 refl (λ value. refl) (λ refusal bounds. bounds.refused))
map_replied Has line reply p q budget who called =
    subst (λ (r : Reply). Replied Map (record line { op = Has }) r budget p q) (sym called.2)
    (called_replied Map (record line { op = Has }) p q budget called.0 who refl refl called.1)
map_replied Get line reply p q budget who called =
    subst (λ (r : Reply). Replied Map (record line { op = Get }) r budget p q) (sym called.2)
    (given Get line p q budget called.0 who called.1 refl (λ value. refl) (λ refusal bounds. bounds.refused))

-- the call of a line
pub replied : (kind : Kind) (line : Line) (reply : Reply) (p q : MemberView) (budget : ℕ) →
    line.worker ≡ p.pass.trace.who → IsCalled kind budget (line, reply) p q → Replied kind line reply budget p q
replied Set line reply p q budget who called =
    subst (λ (r : Reply). Replied Set line r budget p q) (sym called.2)
    (called_replied Set line p q budget called.0 who refl refl called.1)
replied Map line reply p q budget who called = map_replied line.op line reply p q budget who called

-- ---- a line

-- a worker played a line of its own
pub line_played : {N : Type 0} → (kind : Kind) (line : Line) (budget : ℕ) (reply : Reply) (p q : Worker N) →
    line.worker ≡ p.caller.pass.trace.who → IsCalled kind budget (line, reply) p.caller q.caller →
    q.replies.items ≡ p.replies.items ++ reply ∷ [] → vec_capacity p.replies ≤ vec_capacity q.replies →
    Played kind budget (line ∷ []) p q
line_played kind line budget reply p q who called replies room =
    let one = replied kind line reply p.caller q.caller budget who called in
    let own : lines_by p.caller.pass.trace.who (line ∷ []) ≡ line ∷ [] =
    rw (eq-eqb line.worker p.caller.pass.trace.who who) refl in
    let outcomes : (line, reply) ∷ [] ≡ zip (lines_by p.caller.pass.trace.who (line ∷ [])) (reply ∷ []) =
    ap (λ (lines : List Line). zip lines (reply ∷ [])) (sym own) in
    let told = λ (outcome : Outcome). TellsReply kind q.caller.pass.trace outcome.0.op outcome.1 in
    let P : List Outcome → Type 0 =
    λ some. (made_by q.caller.pass.trace ≡ made_by p.caller.pass.trace ++ answered_calls kind some) × All told some ×
    CallsInTurn kind budget some p.caller q.caller in
    let calls : made_by q.caller.pass.trace ≡ made_by p.caller.pass.trace ++ answered_calls kind ((line, reply) ∷ []) =
    one.calls ∙ ap (λ (some : List Call). made_by p.caller.pass.trace ++ some)
    (sym (append-nil (answer_of kind line reply))) in
    let all : P ((line, reply) ∷ []) = (
      calls,
      All-cons told (line, reply) [] one.tells (All-nil told),
      one_turn kind budget (line, reply) p.caller q.caller called,
    ) in
    let now : P (zip (lines_by p.caller.pass.trace.who (line ∷ [])) (reply ∷ [])) = subst P outcomes all in
    record {
      set = one.set;
      same = one.same;
      seen = one.seen;
      more = reply ∷ [];
      replies = replies;
      one_each = sym (ap length own);
      calls = now.0;
      tells = now.1;
      in_turn = now.2;
      steps = (let few = one.steps.within in let made = one.steps.took.made in omega arith);
      room = room;
    }

-- room for a reply to it is room for one more
pub room_for_one : {N : Type 0} → (line : Line) (p : Worker N) → line.worker ≡ p.caller.pass.trace.who →
    HasRoomForReplies p (line ∷ []) → length p.replies.items < vec_capacity p.replies
room_for_one line p who room =
    let own : lines_by p.caller.pass.trace.who (line ∷ []) ≡ line ∷ [] =
    rw (eq-eqb line.worker p.caller.pass.trace.who who) refl in
    let one : length (lines_by p.caller.pass.trace.who (line ∷ [])) ≡ 1 = ap length own in omega arith

-- or left one of another alone
pub line_left : {N : Type 0} → (kind : Kind) (line : Line) (budget : ℕ) (p : Worker N) →
    line.worker ≢ p.caller.pass.trace.who → Played kind budget (line ∷ []) p p
line_left kind line budget p other =
    let none : lines_by p.caller.pass.trace.who (line ∷ []) ≡ [] =
    rw (ne_eqb line.worker p.caller.pass.trace.who other) refl in
    let told = λ (outcome : Outcome). TellsReply kind p.caller.pass.trace outcome.0.op outcome.1 in
    let P : List Line → Type 0 =
    λ some. (made_by p.caller.pass.trace ≡ made_by p.caller.pass.trace ++ answered_calls kind (zip some [])) ×
    All told (zip some []) × CallsInTurn kind budget (zip some []) p.caller p.caller in
    let now : P (lines_by p.caller.pass.trace.who (line ∷ [])) =
    subst P (sym none) (sym (append-nil (made_by p.caller.pass.trace)), All-nil told, (0, refl)) in
    record {
      set = refl;
      same = same_refl p.caller.pass.trace;
      seen = begins_refl p.caller.pass.trace.seen;
      more = [];
      replies = sym (append-nil p.replies.items);
      one_each = sym (ap length none);
      calls = now.0;
      tells = now.1;
      in_turn = now.2;
      steps = omega arith;
      room = omega arith;
    }
