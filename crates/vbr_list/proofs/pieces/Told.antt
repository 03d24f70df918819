-- The calls that answers tell, at tables of both kinds, and the same record of a call with another answer.
use Rattle.vbr_list.proofs.Names.{◌≡◌, ℕ, Bool, true, false, Option, None, Result, Ok, Err, refl, sym, ap, subst}
use Rattle.vbr_list.proofs.Names.{is_some, if◌then◌else◌, arith, ◌≤◌, IfErr, IfOk, AddsAnswer, AddsNone, answer_on}
use Rattle.vbr_list.proofs.Names.{AnswersAlone, BoundsOfLookUp, BoundsOfRemove, Call, CallsAs, CallsEntry}
use Rattle.vbr_list.proofs.Names.{CountsSteps, given_call, given_in, Insert, is_yes, IsSame, kept_call, Made, made_on}
use Rattle.vbr_list.proofs.Names.{Op, PassLaw, PassView, payload_kept, Quiet, Refusal, set_call, Start, stored_call}
use Rattle.vbr_list.proofs.Names.{stored_in, Trace}
use Rattle.vbr_list.proofs.pieces.Going.{within_of}
use Rattle.vbr_list.proofs.pieces.LonePasses.{alone, gives_alone}

-- ---- what is kept

none_kept : (values : Bool) (value : Option ℕ) → value ≡ None → (if values then value else None) ≡ None
none_kept values value none = grind arith

pub kept_none : (start : Start) → payload_kept start None ≡ None
kept_none start = none_kept start.shape.values None refl

pub kept_all : (start : Start) (value : Option ℕ) → start.shape.values ≡ true → payload_kept start value ≡ value
kept_all start value has = ap (λ (values : Bool). if values then value else None) has

kept_bare : (start : Start) (value : Option ℕ) → start.shape.values ≡ false → payload_kept start value ≡ None
kept_bare start value bare = ap (λ (values : Bool). if values then value else None) bare

-- a call without a value is the same at each table
pub told_bare : (start : Start) (who : ℕ) (op : Op) (key : ℕ) (reply : Bool) →
    set_call who op key reply ≡ kept_call start (set_call who op key reply)
told_bare start who op key reply =
    ap (λ (value : Option ℕ). record { who = who; op = op; key = key; reply = reply; value = value })
    (sym (kept_none start))

-- where nodes have values, a call keeps its own
call_kept : (start : Start) (call : Call) → start.shape.values ≡ true → kept_call start call ≡ call
call_kept start call has = ap (λ (value : Option ℕ). record call { value = value }) (kept_all start call.value has)

pub stored_kept : (p : Trace) (key value : ℕ) → p.start.shape.values ≡ true → (reply : Bool) →
    stored_in p key value reply ≡ stored_call p.who key value reply
stored_kept p key value has reply = call_kept p.start (stored_call p.who key value reply) has

pub given_kept : (p : Trace) (op : Op) (key : ℕ) → p.start.shape.values ≡ true → (answer : Option ℕ) →
    given_in p op key answer ≡ given_call p.who op key answer
given_kept p op key has answer = call_kept p.start (given_call p.who op key answer) has

-- where they have none, it is the call of a set
call_bare : (start : Start) (call : Call) → start.shape.values ≡ false →
    kept_call start call ≡ set_call call.who call.op call.key call.reply
call_bare start call bare = ap (λ (value : Option ℕ). record call { value = value }) (kept_bare start call.value bare)

pub stored_bare : (p : Trace) (key value : ℕ) → p.start.shape.values ≡ false → (reply : Bool) →
    stored_in p key value reply ≡ set_call p.who Insert key reply
stored_bare p key value bare reply = call_bare p.start (stored_call p.who key value reply) bare

pub given_bare : (p : Trace) (op : Op) (key : ℕ) → p.start.shape.values ≡ false → (answer : Option ℕ) →
    given_in p op key answer ≡ set_call p.who op key (is_some answer)
given_bare p op key bare answer = call_bare p.start (given_call p.who op key answer) bare

-- ---- a part of what the pass did

pub given_same : {p q : Trace} → IsSame p q → (op : Op) (key : ℕ) (answer : Option ℕ) →
    given_in q op key answer ≡ given_in p op key answer
given_same same op key answer = λ i. kept_call (same.start i) (given_call (same.who i) op key answer)

pub stored_same : {p q : Trace} → IsSame p q → (key value : ℕ) (reply : Bool) →
    stored_in q key value reply ≡ stored_in p key value reply
stored_same same key value reply = λ i. kept_call (same.start i) (stored_call (same.who i) key value reply)

-- after what added nothing to the chronicle, it adds the same answer
pub answer_since : {p q r : Trace} → IsSame p q → AddsNone p q → (op : Op) (key : ℕ) (answer : Option ℕ) →
    AddsAnswer (given_in q op key answer) q r → AddsAnswer (given_in p op key answer) p r
answer_since {p} {q} {r} same none op key answer adds =
    let P : Start → Type 0 = λ start. AddsAnswer (kept_call start (given_call q.who op key answer)) q r in
    answer_on (λ who. kept_call p.start (given_call who op key answer)) same none (subst P same.start adds)

pub told_as : {p q : Trace} {x y : Call} → x ≡ y → Made x p q → Made y p q
told_as {p} {q} same made = subst (λ (call : Call). Made call p q) same made

pub told_since : {p q r : Trace} {x y : Call} → Quiet p q → x ≡ y → Made x q r → Made y p r
told_since quiet same made = told_as same (made_on quiet made)

-- ---- another answer

pub calls_read : {A B : Type 0} {f : A → Call} {g : B → Call} {S : Result A Refusal → Type 0}
    {T : Result B Refusal → Type 0} {p q : PassView} {budget : ℕ} (reply : A) (given : B) → f reply ≡ g given →
    (S (Ok reply) → T (Ok given)) → CallsAs f S p q budget (Ok reply) → CallsAs g T p q budget (Ok given)
calls_read {p = p} reply given same bounds x = record {
  same = x.same;
  made = told_as same x.made;
  alone = subst (λ (call : Call). AnswersAlone p.trace call.op call.key call.reply) same x.alone;
  quiet = tt;
  hand = x.hand;
  steps = x.steps;
  bounds = bounds x.bounds;
}

pub calls_refused : {A B : Type 0} {f : A → Call} {g : B → Call} {S : Result A Refusal → Type 0}
    {T : Result B Refusal → Type 0} {p q : PassView} {budget : ℕ} {refusal : Refusal} →
    (S (Err refusal) → T (Err refusal)) → CallsAs f S p q budget (Err refusal) → CallsAs g T p q budget (Err refusal)
calls_refused bounds x =
    record {
      same = x.same;
      made = tt;
      alone = tt;
      quiet = x.quiet;
      hand = x.hand;
      steps = x.steps;
      bounds = bounds x.bounds;
    }

-- the call was answered
pub call_answered : {A : Type 0} {told : A → Call} {S : Result A Refusal → Type 0} {p q : PassView} {budget used : ℕ}
    (reply : A) → PassLaw p → Made (told reply) p.trace q.trace → q.hand ≡ None → CountsSteps p.trace q.trace 0 used →
    used ≤ budget → S (Ok reply) → CallsAs told S p q budget (Ok reply)
call_answered {budget = budget} {used = used} reply law made hand counts within bounds =
    record {
      same = made.same;
      made = made;
      alone = alone law.start law.low made;
      quiet = tt;
      hand = hand;
      steps = within_of used budget within counts;
      bounds = bounds;
    }

pub calls_as : {A : Type 0} {f g : A → Call} {S T : Result A Refusal → Type 0} {p q : PassView} {budget : ℕ}
    (answer : Result A Refusal) → CallsAs f S p q budget answer → ((reply : A) → f reply ≡ g reply) →
    (S answer → T answer) → CallsAs g T p q budget answer
calls_as {S = S} {T = T} (Ok reply) x same bounds = calls_read {S = S} {T = T} reply reply (same reply) bounds x
calls_as {S = S} {T = T} (Err refusal) x same bounds = calls_refused {S = S} {T = T} bounds x

pub calls_yes : {f : Option ℕ → Call} {g : Bool → Call} {S : Result (Option ℕ) Refusal → Type 0}
    {T : Result Bool Refusal → Type 0} {p q : PassView} {budget : ℕ} (answer : Result (Option ℕ) Refusal) →
    CallsAs f S p q budget answer → ((given : Option ℕ) → f given ≡ g (is_some given)) →
    (S answer → T (is_yes answer)) → CallsAs g T p q budget (is_yes answer)
calls_yes {S = S} {T = T} (Ok given) x same bounds =
    calls_read {S = S} {T = T} given (is_some given) (same given) bounds x
calls_yes {S = S} {T = T} (Err refusal) x same bounds = calls_refused {S = S} {T = T} bounds x

-- and with its value
pub calls_entry : {A : Type 0} {told : A → Call} {S : Result A Refusal → Type 0} {p q : PassView} {budget : ℕ}
    (answer : Result A Refusal) → PassLaw p → CallsAs told S p q budget answer → CallsEntry told S p q budget answer
calls_entry {p = p} {q = q} (Ok reply) law x = record { calls = x; gives = gives_alone law.start law.low x.made }
calls_entry (Err refusal) law x = record { calls = x; gives = tt }

-- ---- what a call promises besides

-- of an answer, returned as another, and of a refusal
pub look_up_read : {A B : Type 0} {f : A → Call} {g : B → Call} {reading : ℕ} {p q : PassView} {key budget : ℕ}
    (reply : A) (given : B) → f reply ≡ g given → BoundsOfLookUp f reading p q key budget (Ok reply) →
    BoundsOfLookUp g reading p q key budget (Ok given)
look_up_read {p = p} {q = q} reply given same x = record {
  only_loads = x.only_loads;
  adds = subst (λ (call : Call). AddsAnswer call p.trace q.trace) same x.adds;
  adds_none = tt;
  takes_no_slot = x.takes_no_slot;
  refused = tt;
  within = tt;
  disturbed_within = tt;
  costs = x.costs;
  disturbed_costs = x.disturbed_costs;
}

pub look_up_refused : {A B : Type 0} {f : A → Call} {g : B → Call} {reading : ℕ} {p q : PassView} {key budget : ℕ}
    {refusal : Refusal} → BoundsOfLookUp f reading p q key budget (Err refusal) →
    BoundsOfLookUp g reading p q key budget (Err refusal)
look_up_refused x =
    record {
      only_loads = x.only_loads;
      adds = tt;
      adds_none = x.adds_none;
      takes_no_slot = x.takes_no_slot;
      refused = x.refused;
      within = x.within;
      disturbed_within = x.disturbed_within;
      costs = tt;
      disturbed_costs = tt;
    }

pub look_up_as : {A : Type 0} {f g : A → Call} {reading : ℕ} {p q : PassView} {key budget : ℕ}
    (answer : Result A Refusal) → BoundsOfLookUp f reading p q key budget answer → ((reply : A) → f reply ≡ g reply) →
    BoundsOfLookUp g reading p q key budget answer
look_up_as (Ok reply) x same = look_up_read reply reply (same reply) x
look_up_as (Err refusal) x same = look_up_refused x

pub look_up_yes : {f : Option ℕ → Call} {g : Bool → Call} {reading : ℕ} {p q : PassView} {key budget : ℕ}
    (answer : Result (Option ℕ) Refusal) → BoundsOfLookUp f reading p q key budget answer →
    ((given : Option ℕ) → f given ≡ g (is_some given)) → BoundsOfLookUp g reading p q key budget (is_yes answer)
look_up_yes (Ok given) x same = look_up_read given (is_some given) (same given) x
look_up_yes (Err refusal) x same = look_up_refused x

-- what follows of an answer with a value is so of whether it is yes
ok_yes : {P : Option ℕ → Type 0} (Q : Bool → Type 0) (answer : Result (Option ℕ) Refusal) →
    ((given : Option ℕ) → P given → Q (is_some given)) → IfOk answer P → IfOk (is_yes answer) Q
ok_yes Q (Ok given) f x = f given x
ok_yes Q (Err refusal) f x = tt

-- and what is so of a refusal stays so
err_yes : (P : Refusal → Type 0) (answer : Result (Option ℕ) Refusal) → IfErr answer P → IfErr (is_yes answer) P
err_yes P (Ok given) x = tt
err_yes P (Err refusal) x = x

-- of a remove
pub remove_yes : {p q : PassView} {key budget : ℕ} (answer : Result (Option ℕ) Refusal) →
    BoundsOfRemove is_some p q key budget answer → BoundsOfRemove (λ removed. removed) p q key budget (is_yes answer)
remove_yes answer x = record {
  takes_no_slot = x.takes_no_slot;
  unlists = ok_yes _ answer (λ given leaves. leaves) x.unlists;
  refused = err_yes _ answer x.refused;
  within = err_yes _ answer x.within;
  disturbed_within = err_yes _ answer x.disturbed_within;
  costs = ok_yes _ answer (λ given few. few) x.costs;
  disturbed_costs = ok_yes _ answer (λ given few. few) x.disturbed_costs;
  fewer = ok_yes _ answer (λ given fewer. fewer) x.fewer;
}
