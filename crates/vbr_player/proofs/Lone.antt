-- A lone worker is refused no call for want of steps, where its budget is ample.
use Rattle.std.proofs.Common.{◌≡◌, ◌≢◌, ℕ, zero, suc, ◌<◌, ◌≤◌, Bool, true, false, List, [], ◌∷◌, ◌++◌, sym, ap, subst}
use Rattle.std.proofs.Common.{◌∙◌, arith}
use Rattle.std.specs.Prelude.{All, IfErr, Option, Some, None, Result, Ok, Err, if◌then◌else◌}
use Rattle.std.proofs.lemmas.List.Elements.{All-nil, All-cons}
use Rattle.vbr_machine.specs.Start.{Start}
use Rattle.vbr_machine.specs.Machine.{World, after, opening}
use Rattle.vbr_machine.specs.Nodes.{count_below}
use Rattle.vbr_machine.specs.Runs.{AreAccepted, Begins, IsRun}
use Rattle.vbr_machine.specs.declared.event.Event.{Event}
use Rattle.vbr_machine.specs.declared.history.Call.{Call}
use Rattle.vbr_machine.specs.declared.history.Op.{Op}
use Rattle.vbr_machine.specs.declared.history.Op.TheVariants.{Insert, Remove, Has, Get}
use Rattle.vbr_slots.specs.steps.Alone.{IsAlone, OnlyEventsOf}
use Rattle.vbr_slots.specs.steps.Calls.{IsSame, Quiet}
use Rattle.vbr_slots.specs.views.Views.{PassView, TableView, Trace, new_trace}
use Rattle.vbr_slots.proofs.Lemmas.{same_on, same_refl}
use Rattle.vbr_list.specs.calls.Budgets.{LacksSteps, enough_to_insert, enough_to_look_up, enough_to_search}
use Rattle.vbr_list.specs.calls.CallBounds.{BoundsOfCall, BoundsOfInsert}
use Rattle.vbr_at_table.specs.declared.refusal.Refusal.{Refusal}
use Rattle.vbr_at_table.specs.declared.refusal.Refusal.TheVariants.{OutOfSteps, NoSlot, EpochSpent}
use Rattle.vbr_set.specs.calls.MapCalls.{MapAnswersAll}
use Rattle.vbr_set.specs.calls.Members.{Called, MemberView, CalledBy}
use Rattle.vbr_set.specs.Names.{HasSafeRun, listed_for, most_to_take}
use Rattle.vbr_script.specs.declared.script.Kind.{Kind}
use Rattle.vbr_script.specs.declared.script.Kind.TheVariants.{Set, Map}
use Rattle.vbr_transcript.specs.Calls.{Outcome}
use Rattle.vbr_transcript.specs.declared.reply.Reply.{Reply}
use Rattle.vbr_transcript.specs.declared.reply.Reply.TheVariants.{Tired}
use Rattle.vbr_player.specs.Calling.{CallsInTurn, HasMetOften, IsCalled, IsMapCalled, ample, reply_given, reply_refused}
use Rattle.vbr_player.specs.Calling.{reply_told}

-- ---- alone

-- all events of a run with one pass are its own
all_own : (start : Start) (passes : ℕ) (w : World) (events : List Event) → passes ≡ 1 →
    AreAccepted start passes w events → OnlyEventsOf 0 events
all_own start passes w [] one accepted = tt
all_own start passes w (event ∷ events) one accepted = (
  (let low = accepted.0.0 in omega arith),
  all_own start passes (after start w event.pass event.step) events one accepted.1,
)

later_own : (before later : List Event) → OnlyEventsOf 0 (before ++ later) → OnlyEventsOf 0 later
later_own [] later own = own
later_own (event ∷ before) later own = later_own before later own.1

-- so it was alone
was_alone : (p q : Trace) → p.who ≡ 0 → q.passes ≡ 1 → Begins p.seen q.seen → IsRun q.start q.passes q.seen →
    IsAlone p q
was_alone p q first one begins is_run =
    let all : OnlyEventsOf 0 q.seen = all_own q.start q.passes (opening q.start) q.seen one is_run in
    let own : OnlyEventsOf 0 begins.0 = later_own p.seen begins.0 (subst (OnlyEventsOf 0) begins.1 all) in
    record { own = begins.0; each = subst (λ (who : ℕ). OnlyEventsOf who begins.0) (sym first) own; seen = begins.1 }

-- ---- enough

-- of slots below a number no more pass a test
count_within : (test : ℕ → Bool) (n : ℕ) → count_below test n ≤ n
count_within test zero = omega arith
count_within test (suc n) = one (test n) (count_below test n) (count_within test n)
  where
    one : (b : Bool) (count : ℕ) → count ≤ n → (if b then suc count else count) ≤ suc n
    one true count few = omega arith
    one false count few = omega arith

listed_few : (p : Trace) (key : ℕ) → listed_for p key ≤ p.start.shape.slots
listed_few p key = count_within _ p.start.shape.slots

most_with_none : (start : Start) (pool : List ℕ) → most_to_take start pool ≤ most_to_take start []
most_with_none start [] = omega arith
most_with_none start (slot ∷ pool) = omega arith

-- what suffices a call isn't more than what is ample
insert_ample : (p : PassView) (key : ℕ) → enough_to_insert p key ≤ ample p.trace.start
insert_ample p key = omega (arith, listed_few p.trace key, most_with_none p.trace.start p.pool)

search_ample : (p : Trace) (key : ℕ) → enough_to_search p key ≤ ample p.start
search_ample p key = omega (arith, listed_few p key)

look_up_ample : (p : Trace) (key : ℕ) → enough_to_look_up p key ≤ ample p.start
look_up_ample p key = omega (arith, listed_few p key)

-- a refusal for want of so many steps is one for want of more
lacks_more : (steps most budget : ℕ) (refusal : Refusal) → steps ≤ most → LacksSteps steps budget refusal →
    LacksSteps most budget refusal
lacks_more steps most budget (OutOfSteps used) within lacks = omega (arith, within, lacks)
lacks_more steps most budget NoSlot within lacks = tt
lacks_more steps most budget (EpochSpent epoch) within lacks = tt

lacks_below : (steps most budget : ℕ) (refusal : Refusal) → steps ≤ most → budget < steps →
    LacksSteps most budget refusal
lacks_below steps most budget (OutOfSteps used) within below = omega (arith, within, below)
lacks_below steps most budget NoSlot within below = tt
lacks_below steps most budget (EpochSpent epoch) within below = tt

-- a call of a pass that is alone was refused for want of no more steps than are ample
abbrev LacksAmple : PassView → PassView → ℕ → Refusal → Type 0
LacksAmple p q budget refusal = IsAlone p.trace q.trace → LacksSteps (ample p.trace.start) budget refusal

insert_lacks : (p q : PassView) (key budget : ℕ) (refusal : Refusal) → BoundsOfInsert p q key budget (Err refusal) →
    LacksAmple p q budget refusal
insert_lacks p q key budget refusal bounds alone =
    lacks_more (enough_to_insert p key) (ample p.trace.start) budget refusal (insert_ample p key) (bounds.within alone)

lacks : (op : Op) (p q : PassView) (key budget : ℕ) (refusal : Refusal) → BoundsOfCall op p q key budget (Err refusal) →
    LacksAmple p q budget refusal
lacks Insert p q key budget refusal bounds = insert_lacks p q key budget refusal bounds
lacks Remove p q key budget refusal bounds = λ alone.
    lacks_below (enough_to_search p.trace key) (ample p.trace.start) budget refusal (search_ample p.trace key)
    (bounds.within alone)
lacks Has p q key budget refusal bounds = λ alone.
    lacks_below (enough_to_look_up p.trace key) (ample p.trace.start) budget refusal (look_up_ample p.trace key)
    (bounds.within alone)
lacks Get p q key budget refusal bounds = absurd bounds

-- ---- replies

-- a refusal of the first of all passes is none for want of steps
refused_untired : (set : TableView) (budget : ℕ) (p q : MemberView) (refusal : Refusal) → set.passes ≡ 1 →
    ample set.start ≤ budget → IsSame (new_trace set 0) p.pass.trace → Quiet p.pass.trace q.pass.trace →
    HasSafeRun q.pass.trace → LacksAmple p.pass q.pass budget refusal → reply_refused refusal ≢ Tired
refused_untired set budget p q NoSlot one enough same quiet safe lacks is = cc
refused_untired set budget p q (EpochSpent epoch) one enough same quiet safe lacks is = cc
refused_untired set budget p q (OutOfSteps used) one enough same quiet safe lacks is =
    let alone : IsAlone p.pass.trace q.pass.trace =
    was_alone p.pass.trace q.pass.trace same.who (quiet.same.passes ∙ same.passes ∙ one) quiet.seen safe.is_run in
    let few : budget < ample p.pass.trace.start = lacks alone in
    let here : ample p.pass.trace.start ≡ ample set.start = ap ample same.start in
    omega (arith, few, here, enough)

-- so no answer is one
told_untired : (answer : Result Bool Refusal) → IfErr answer (λ refusal. reply_refused refusal ≢ Tired) →
    reply_told answer ≢ Tired
told_untired (Ok true) untired is = cc
told_untired (Ok false) untired is = cc
told_untired (Err refusal) untired is = untired is

given_untired : (answer : Result (Option ℕ) Refusal) → IfErr answer (λ refusal. reply_refused refusal ≢ Tired) →
    reply_given answer ≢ Tired
given_untired (Ok (Some value)) untired is = cc
given_untired (Ok None) untired is = cc
given_untired (Err refusal) untired is = untired is

called_untired : (set : TableView) (budget : ℕ) (op : Op) (p q : MemberView) (key : ℕ) (answer : Result Bool Refusal) →
    set.passes ≡ 1 → ample set.start ≤ budget → IsSame (new_trace set 0) p.pass.trace →
    Called op p q key budget answer → IfErr answer (λ refusal. reply_refused refusal ≢ Tired)
called_untired set budget op p q key (Ok reply) one enough same called = tt
called_untired set budget op p q key (Err refusal) one enough same called =
    refused_untired set budget p q refusal one enough same called.quiet called.safe
    (lacks op p.pass q.pass key budget refusal called.bounds)

entry_untired : {A : Type 0} {told : A → List Call} {BoundsSo : Result A Refusal → Type 0} (set : TableView)
    (budget : ℕ) (p q : MemberView) (answer : Result A Refusal) → set.passes ≡ 1 → ample set.start ≤ budget →
    IsSame (new_trace set 0) p.pass.trace → CalledBy MapAnswersAll told BoundsSo p q budget answer →
    ((refusal : Refusal) → BoundsSo (Err refusal) → LacksAmple p.pass q.pass budget refusal) →
    IfErr answer (λ refusal. reply_refused refusal ≢ Tired)
entry_untired set budget p q (Ok reply) one enough same called lacks = tt
entry_untired set budget p q (Err refusal) one enough same called lacks =
    refused_untired set budget p q refusal one enough same called.quiet called.safe (lacks refusal called.bounds)

-- nor is one that gives the value of an entry within so many steps
value_untired : {told : Option ℕ → List Call} {BoundsSo : Result (Option ℕ) Refusal → Type 0} (set : TableView)
    (budget steps : ℕ) (p q : MemberView) (answer : Result (Option ℕ) Refusal) → set.passes ≡ 1 →
    ample set.start ≤ budget → IsSame (new_trace set 0) p.pass.trace →
    CalledBy MapAnswersAll told BoundsSo p q budget answer → steps ≤ ample p.pass.trace.start →
    ((refusal : Refusal) → BoundsSo (Err refusal) → IsAlone p.pass.trace q.pass.trace → budget < steps) →
    reply_given answer ≢ Tired
value_untired set budget steps p q answer one enough same called within bounds =
    given_untired answer
    (entry_untired set budget p q answer one enough same called
    (λ refusal b alone. lacks_below steps (ample p.pass.trace.start) budget refusal within (bounds refusal b alone)))

-- ---- lines

-- what a call of a map tells a lone worker
map_untired : (set : TableView) (budget : ℕ) (op : Op) (key value : ℕ) (reply : Reply) (p q : MemberView) →
    set.passes ≡ 1 → ample set.start ≤ budget → IsSame (new_trace set 0) p.pass.trace →
    IsMapCalled op key value budget reply p q → reply ≢ Tired
map_untired set budget Insert key value reply p q one enough same called is =
    told_untired called.0
    (entry_untired set budget p q called.0 one enough same called.1
    (λ refusal bounds. insert_lacks p.pass q.pass key budget refusal bounds)) (sym called.2 ∙ is)
map_untired set budget Remove key value reply p q one enough same called is =
    value_untired set budget (enough_to_search p.pass.trace key) p q called.0 one enough same called.1
    (search_ample p.pass.trace key) (λ refusal bounds alone. bounds.within alone) (sym called.2 ∙ is)
map_untired set budget Has key value reply p q one enough same called is =
    told_untired called.0 (called_untired set budget Has p q key called.0 one enough same called.1) (sym called.2 ∙ is)
map_untired set budget Get key value reply p q one enough same called is =
    value_untired set budget (enough_to_look_up p.pass.trace key) p q called.0 one enough same called.1
    (look_up_ample p.pass.trace key) (λ refusal bounds alone. bounds.within alone) (sym called.2 ∙ is)

-- what the call of a line does
line_untired : (kind : Kind) (set : TableView) (budget : ℕ) (outcome : Outcome) (p q : MemberView) → set.passes ≡ 1 →
    ample set.start ≤ budget → IsSame (new_trace set 0) p.pass.trace → IsCalled kind budget outcome p q →
    outcome.1 ≢ Tired
line_untired Set set budget outcome p q one enough same called is =
    told_untired called.0 (called_untired set budget outcome.0.op p q outcome.0.key called.0 one enough same called.1)
    (sym called.2 ∙ is)
line_untired Map set budget outcome p q one enough same called is =
    map_untired set budget outcome.0.op outcome.0.key outcome.0.value outcome.1 p q one enough same called is

-- the pass stays the same
map_same : (op : Op) (key value budget : ℕ) (reply : Reply) (p q : MemberView) →
    IsMapCalled op key value budget reply p q → IsSame p.pass.trace q.pass.trace
map_same Insert key value budget reply p q called = called.1.same
map_same Remove key value budget reply p q called = called.1.same
map_same Has key value budget reply p q called = called.1.same
map_same Get key value budget reply p q called = called.1.same

line_same : (kind : Kind) (budget : ℕ) (outcome : Outcome) (p q : MemberView) → IsCalled kind budget outcome p q →
    IsSame p.pass.trace q.pass.trace
line_same Set budget outcome p q called = called.1.same
line_same Map budget outcome p q called =
    map_same outcome.0.op outcome.0.key outcome.0.value budget outcome.1 p q called

often_same : (times : ℕ) (m n : MemberView) → HasMetOften times m n → IsSame m.pass.trace n.pass.trace
often_same zero m n met =
    subst (λ (k : MemberView). IsSame m.pass.trace k.pass.trace) (sym met) (same_refl m.pass.trace)
often_same (suc times) m n met = same_on (often_same times m met.0 met.1) met.4.shares.quiet.same

-- none of its replies is one for want of steps
pub lone_untired : (kind : Kind) (set : TableView) (budget : ℕ) (outcomes : List Outcome) (m n : MemberView) →
    set.passes ≡ 1 → ample set.start ≤ budget → IsSame (new_trace set 0) m.pass.trace →
    CallsInTurn kind budget outcomes m n → All (λ outcome. outcome.1 ≢ Tired) outcomes
lone_untired kind set budget [] m n one enough same turn = All-nil (λ (outcome : Outcome). outcome.1 ≢ Tired)
lone_untired kind set budget (outcome ∷ outcomes) m n one enough same turn =
    let p = turn.1 in let q = turn.3 in let called = turn.4 in
    let here = same_on same (often_same turn.0 m p turn.2) in
    All-cons (λ (outcome : Outcome). outcome.1 ≢ Tired) outcome outcomes
    (line_untired kind set budget outcome p q one enough here called)
    (lone_untired kind set budget outcomes q n one enough (same_on here (line_same kind budget outcome p q called))
    turn.5)
