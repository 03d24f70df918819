-- Runs go on: what others do leaves what a pass knows, may do and has called.
use Rattle.std.proofs.Common.{◌≡◌, ◌≢◌, ℕ, ◌<◌, Bool, true, false, List, [], ◌∷◌, ◌++◌, Option, Some, None, cond, refl}
use Rattle.std.proofs.Common.{sym, ap, ◌∙◌, subst, append_assoc, append-nil, eq-eqb, option_to_list}
use Rattle.std.specs.Prelude.{◌==◌, IfSome}
use Rattle.std.proofs.lemmas.Bool.{ne_eqb}
use Rattle.std.proofs.lemmas.List.Elements.{filter-append}
use Rattle.vbr_machine.specs.Start.{Start}
use Rattle.vbr_words.specs.Words.{word_of}
use Rattle.vbr_words.specs.Flags.{has_flag}
use Rattle.vbr_words.specs.declared.place.At.TheVariants.{Head, Slot}
use Rattle.vbr_machine.specs.Put.{put}
use Rattle.vbr_machine.specs.History.{calls_by}
use Rattle.vbr_machine.specs.Knowledge.{Know}
use Rattle.vbr_machine.specs.Acceptance.{Accepts}
use Rattle.vbr_machine.specs.Learning.{learn, call_ahead, call_of, succeeds}
use Rattle.vbr_machine.specs.Machine.{World, opening, found, stamp_shown, after}
use Rattle.vbr_machine.specs.Making.{ahead_made, call_made}
use Rattle.vbr_machine.specs.Runs.{IsAccepted, world_from, AreAccepted, IsRun, world_after, know_after, NoneOf, Begins}
use Rattle.vbr_machine.specs.Runs.{BeginsFor}
use Rattle.vbr_machine.specs.Calls.{own_calls}
use Rattle.vbr_machine.specs.declared.history.Call.{Call}
use Rattle.vbr_machine.specs.declared.event.Event.{Event}
use Rattle.vbr_machine.specs.declared.event.Step.{Step}
use Rattle.vbr_machine.specs.declared.event.Step.TheVariants.{ReadEpoch, Advance, LoadStamp, PeekBirth, StoreStamp}
use Rattle.vbr_machine.specs.declared.event.Step.TheVariants.{Raise}
use Rattle.vbr_machine.specs.declared.event.Step.TheVariants.{TakeFlag, StoreBirth, StoreKey, StoreLink, LoadLink}
use Rattle.vbr_machine.specs.declared.event.Step.TheVariants.{LoadBirth, LoadKey, Publish, Mark, Replace, Unlink}
use Rattle.vbr_machine.specs.declared.event.Step.TheVariants.{ConfirmPresent, ConfirmAbsent, StoreValue, LoadValue}
use Rattle.vbr_machine.proofs.words.Puts.{put_here, put_other}
use Rattle.vbr_machine.proofs.words.Branches.{by_both}

-- the calls that a step adds: its call, if it makes a call and finds its word, and the one ahead of it
abbrev pub calls_added : Start → World → ℕ → Step → List Call
calls_added start w p step = option_to_list (ahead_made start w p step) ++ option_to_list (call_made start w p step)

-- ---- one list of events after another

pub world_from-append : (start : Start) (w : World) (xs ys : List Event) →
    world_from start w (xs ++ ys) ≡ world_from start (world_from start w xs) ys
world_from-append start w [] ys = refl
world_from-append start w (x ∷ xs) ys = world_from-append start (after start w x.pass x.step) xs ys

pub world_after-append : (start : Start) (xs ys : List Event) →
    world_after start (xs ++ ys) ≡ world_from start (world_after start xs) ys
world_after-append start xs ys = world_from-append start (opening start) xs ys

pub world_after-snoc : (start : Start) (run : List Event) (event : Event) →
    world_after start (run ++ event ∷ []) ≡ after start (world_after start run) event.pass event.step
world_after-snoc start run event = world_after-append start run (event ∷ [])

pub accepted-append : (start : Start) (passes : ℕ) (w : World) (xs ys : List Event) → AreAccepted start passes w xs →
    AreAccepted start passes (world_from start w xs) ys → AreAccepted start passes w (xs ++ ys)
accepted-append start passes w [] ys front back = back
accepted-append start passes w (x ∷ xs) ys front back =
    (front.0, accepted-append start passes (after start w x.pass x.step) xs ys front.1 back)

pub accepted_front : (start : Start) (passes : ℕ) (w : World) (xs ys : List Event) →
    AreAccepted start passes w (xs ++ ys) → AreAccepted start passes w xs
accepted_front start passes w [] ys all = tt
accepted_front start passes w (x ∷ xs) ys all =
    (all.0, accepted_front start passes (after start w x.pass x.step) xs ys all.1)

pub accepted_back : (start : Start) (passes : ℕ) (w : World) (xs ys : List Event) →
    AreAccepted start passes w (xs ++ ys) → AreAccepted start passes (world_from start w xs) ys
accepted_back start passes w [] ys all = all
accepted_back start passes w (x ∷ xs) ys all = accepted_back start passes (after start w x.pass x.step) xs ys all.1

-- ---- runs

pub is_run_first : (start : Start) (passes : ℕ) → IsRun start passes []
is_run_first start passes = tt

-- a beginning of a run is a run
pub is_run_before : (start : Start) (passes : ℕ) (xs ys : List Event) → IsRun start passes (xs ++ ys) →
    IsRun start passes xs
is_run_before start passes xs ys run = accepted_front start passes (opening start) xs ys run

-- a run goes on by events that are accepted after it
pub is_run_append : (start : Start) (passes : ℕ) (xs ys : List Event) → IsRun start passes xs →
    AreAccepted start passes (world_after start xs) ys → IsRun start passes (xs ++ ys)
is_run_append start passes xs ys front back = accepted-append start passes (opening start) xs ys front back

pub is_run_after : (start : Start) (passes : ℕ) (xs ys : List Event) → IsRun start passes (xs ++ ys) →
    AreAccepted start passes (world_after start xs) ys
is_run_after start passes xs ys run = accepted_back start passes (opening start) xs ys run

pub is_run_snoc : (start : Start) (passes : ℕ) (run : List Event) (event : Event) → IsRun start passes run →
    IsAccepted start passes (world_after start run) event → IsRun start passes (run ++ event ∷ [])
is_run_snoc start passes run event is_run accepted = is_run_append start passes run (event ∷ []) is_run (accepted, tt)

pub is_run_last : (start : Start) (passes : ℕ) (run : List Event) (event : Event) →
    IsRun start passes (run ++ event ∷ []) → IsAccepted start passes (world_after start run) event
is_run_last start passes run event is_run = (is_run_after start passes run (event ∷ []) is_run).0

-- ---- beginnings

pub begins_refl : (run : List Event) → Begins run run
begins_refl run = ([], sym (append-nil run))

pub begins_trans : (xs ys zs : List Event) → Begins xs ys → Begins ys zs → Begins xs zs
begins_trans xs ys zs first second =
    (first.0 ++ second.0, second.1 ∙ ap (λ l. l ++ second.0) first.1 ∙ append_assoc xs first.0 second.0)

pub begins_run : (start : Start) (passes : ℕ) (seen run : List Event) → Begins seen run → IsRun start passes run →
    IsRun start passes seen
begins_run start passes seen run begins is_run =
    is_run_before start passes seen begins.0 (subst (λ (l : List Event). IsRun start passes l) begins.1 is_run)

pub NoneOf-append : (pass : ℕ) (xs ys : List Event) → NoneOf pass xs → NoneOf pass ys → NoneOf pass (xs ++ ys)
NoneOf-append pass [] ys front back = back
NoneOf-append pass (x ∷ xs) ys front back = (front.0, NoneOf-append pass xs ys front.1 back)

pub begins_for_refl : (pass : ℕ) (run : List Event) → BeginsFor pass run run
begins_for_refl pass run = ([], sym (append-nil run), tt)

-- what a pass has seen goes on by events of others
pub begins_for_others : (pass : ℕ) (seen run more : List Event) → BeginsFor pass seen run → NoneOf pass more →
    BeginsFor pass seen (run ++ more)
begins_for_others pass seen run more begins none = (
  begins.0 ++ more,
  ap (λ l. l ++ more) begins.1 ∙ append_assoc seen begins.0 more,
  NoneOf-append pass begins.0 more begins.2 none,
)

pub begins_for-snoc : (pass : ℕ) (seen run : List Event) (event : Event) → BeginsFor pass seen run → event.pass ≢ pass →
    BeginsFor pass seen (run ++ event ∷ [])
begins_for-snoc pass seen run event begins ne = begins_for_others pass seen run (event ∷ []) begins (ne, tt)

pub begins_for_begins : (pass : ℕ) (seen run : List Event) → BeginsFor pass seen run → Begins seen run
begins_for_begins pass seen run begins = (begins.0, begins.1)

-- ---- what passes know

-- a step leaves what other passes know
pub know_other : (start : Start) (w : World) (p q : ℕ) (step : Step) → p ≢ q → (after start w q step).know p ≡ w.know p
know_other start w p q ReadEpoch ne = put_other w.know q _ p ne
know_other start w p q (Advance from) ne = by_both (w.epoch == from) (λ v. v.know p) _ w (w.know p) refl refl
know_other start w p q (LoadStamp s) ne = refl
know_other start w p q (PeekBirth s) ne = refl
know_other start w p q (StoreStamp s stamp) ne = put_other w.know q _ p ne
know_other start w p q (Raise s) ne = put_other w.know q _ p ne
know_other start w p q (TakeFlag s) ne =
    by_both (has_flag (found start w (TakeFlag s)) s) (λ v. v.know p) _ w (w.know p) (put_other w.know q _ p ne) refl
know_other start w p q (StoreBirth s birth) ne = put_other w.know q _ p ne
know_other start w p q (StoreKey s key) ne = put_other w.know q _ p ne
know_other start w p q (StoreValue s value) ne = put_other w.know q _ p ne
know_other start w p q (StoreLink s next) ne = put_other w.know q _ p ne
know_other start w p q (LoadLink place) ne = put_other w.know q _ p ne
know_other start w p q (LoadBirth s) ne = put_other w.know q _ p ne
know_other start w p q (LoadKey s) ne = put_other w.know q _ p ne
know_other start w p q (LoadValue s) ne = put_other w.know q _ p ne
know_other start w p q (Publish (Head b) expected s) ne =
    by_both (word_of (w.head b) == expected) (λ v. v.know p) _ w (w.know p) (put_other w.know q _ p ne) refl
know_other start w p q (Publish (Slot t) expected s) ne =
    by_both (word_of (w.link t) == expected) (λ v. v.know p) _ w (w.know p) (put_other w.know q _ p ne) refl
know_other start w p q (Mark s expected) ne =
    by_both (word_of (w.link s) == expected) (λ v. v.know p) _ w (w.know p) (put_other w.know q _ p ne) refl
know_other start w p q (Replace s expected t) ne =
    by_both (word_of (w.link s) == expected) (λ v. v.know p) _ w (w.know p) (put_other w.know q _ p ne) refl
know_other start w p q (Unlink (Head b) expected s) ne =
    by_both (word_of (w.head b) == expected) (λ v. v.know p) _ w (w.know p) (put_other w.know q _ p ne) refl
know_other start w p q (Unlink (Slot t) expected s) ne =
    by_both (word_of (w.link t) == expected) (λ v. v.know p) _ w (w.know p) (put_other w.know q _ p ne) refl
know_other start w p q (ConfirmPresent op s expected) ne =
    by_both (word_of (w.link s) == expected) (λ v. v.know p) _ w (w.know p) refl refl
know_other start w p q (ConfirmAbsent op key place expected) ne =
    by_both (found start w (ConfirmAbsent op key place expected) == expected) (λ v. v.know p) _ w (w.know p) refl refl

-- an exchange that is won teaches, and one that is lost doesn't
taught : (b : Bool) (x w : World) (p : ℕ) (know : Know) → x.know ≡ put w.know p (cond b know (w.know p)) →
    (cond b x w).know p ≡ cond b know (w.know p)
taught true x w p know e = ap (λ f. f p) e ∙ put_here w.know p know
taught false x w p know e = refl

-- what the pass of a step knows after it is what it learns from it
pub know_own : (start : Start) (w : World) (p : ℕ) (step : Step) →
    (after start w p step).know p ≡ learn step (found start w step) (stamp_shown w step) (w.know p)
know_own start w p ReadEpoch = put_here w.know p _
know_own start w p (Advance from) = by_both (w.epoch == from) (λ v. v.know p) _ w (w.know p) refl refl
know_own start w p (LoadStamp s) = refl
know_own start w p (PeekBirth s) = refl
know_own start w p (StoreStamp s stamp) = put_here w.know p _
know_own start w p (Raise s) = put_here w.know p _
know_own start w p (TakeFlag s) = taught (has_flag (found start w (TakeFlag s)) s) _ w p _ refl
know_own start w p (StoreBirth s birth) = put_here w.know p _
know_own start w p (StoreKey s key) = put_here w.know p _
know_own start w p (StoreValue s value) = put_here w.know p _
know_own start w p (StoreLink s next) = put_here w.know p _
know_own start w p (LoadLink place) = put_here w.know p _
know_own start w p (LoadBirth s) = put_here w.know p _
know_own start w p (LoadKey s) = put_here w.know p _
know_own start w p (LoadValue s) = put_here w.know p _
know_own start w p (Publish (Head b) expected s) = taught (word_of (w.head b) == expected) _ w p _ refl
know_own start w p (Publish (Slot t) expected s) = taught (word_of (w.link t) == expected) _ w p _ refl
know_own start w p (Mark s expected) = taught (word_of (w.link s) == expected) _ w p _ refl
know_own start w p (Replace s expected t) = taught (word_of (w.link s) == expected) _ w p _ refl
know_own start w p (Unlink (Head b) expected s) = taught (word_of (w.head b) == expected) _ w p _ refl
know_own start w p (Unlink (Slot t) expected s) = taught (word_of (w.link t) == expected) _ w p _ refl
know_own start w p (ConfirmPresent op s expected) =
    by_both (word_of (w.link s) == expected) (λ v. v.know p) _ w (w.know p) refl refl
know_own start w p (ConfirmAbsent op key place expected) =
    by_both (found start w (ConfirmAbsent op key place expected) == expected) (λ v. v.know p) _ w (w.know p) refl refl

-- the knowledge of a pass after events of others
others_know : (start : Start) (w : World) (who : ℕ) (events : List Event) → NoneOf who events →
    (world_from start w events).know who ≡ w.know who
others_know start w who [] none = refl
others_know start w who (x ∷ xs) none = others_know start (after start w x.pass x.step) who xs none.1
    ∙ know_other start w who x.pass x.step (λ e. none.0 (sym e))

-- what a pass knows is left by the events of others
pub others_leave_know : (start : Start) (seen rest : List Event) (who : ℕ) → NoneOf who rest →
    know_after start (seen ++ rest) who ≡ know_after start seen who
others_leave_know start seen rest who none =
    ap (λ w. w.know who) (world_after-append start seen rest) ∙ others_know start (world_after start seen) who rest none

pub begins_for_know : (start : Start) (pass : ℕ) (seen run : List Event) → BeginsFor pass seen run →
    know_after start run pass ≡ know_after start seen pass
begins_for_know start pass seen run begins =
    ap (λ l. know_after start l pass) begins.1 ∙ others_leave_know start seen begins.0 pass begins.2

-- what a pass knows after its own event, from what it knew when it last made one
pub know_after-snoc : (start : Start) (seen rest : List Event) (event : Event) → NoneOf event.pass rest →
    know_after start ((seen ++ rest) ++ event ∷ []) event.pass
    ≡ learn event.step (found start (world_after start (seen ++ rest)) event.step)
    (stamp_shown (world_after start (seen ++ rest)) event.step) (know_after start seen event.pass)
know_after-snoc start seen rest event none =
    let w = world_after start (seen ++ rest) in
    ap (λ v. v.know event.pass) (world_after-snoc start (seen ++ rest) event) ∙ know_own start w event.pass event.step
    ∙ ap (λ know. learn event.step (found start w event.step) (stamp_shown w event.step) know)
    (others_leave_know start seen rest event.pass none)

-- ---- what passes may do

-- a step that a pass may make stays so while others go on
pub others_leave_it_accepted : (start : Start) (seen rest : List Event) (who : ℕ) (step : Step) → NoneOf who rest →
    Accepts start (know_after start seen who) step → Accepts start (know_after start (seen ++ rest) who) step
others_leave_it_accepted start seen rest who step none accepts =
    subst (λ (know : Know). Accepts start know step) (sym (others_leave_know start seen rest who none)) accepts

pub others_leave_event_accepted : (start : Start) (passes : ℕ) (seen rest : List Event) (event : Event) →
    event.pass < passes → NoneOf event.pass rest → Accepts start (know_after start seen event.pass) event.step →
    IsAccepted start passes (world_after start (seen ++ rest)) event
others_leave_event_accepted start passes seen rest event low none accepts =
    (low, others_leave_it_accepted start seen rest event.pass event.step none accepts)

-- so a run goes on by it
pub is_run_after_others : (start : Start) (passes : ℕ) (seen rest : List Event) (event : Event) →
    IsRun start passes (seen ++ rest) → event.pass < passes → NoneOf event.pass rest →
    Accepts start (know_after start seen event.pass) event.step → IsRun start passes ((seen ++ rest) ++ event ∷ [])
is_run_after_others start passes seen rest event run low none accepts =
    is_run_snoc start passes (seen ++ rest) event run
    (others_leave_event_accepted start passes seen rest event low none accepts)

-- ---- calls

-- an exchange or a confirming load that makes a call where it finds its word
calling : (b : Bool) (x w : World) (call : Call) → x.calls ≡ w.calls ++ call ∷ [] →
    (cond b x w).calls ≡ w.calls ++ option_to_list (cond b (Some call) None)
calling true x w call e = e
calling false x w call e = sym (append-nil w.calls)

-- one that makes two calls
calling_twice : (b : Bool) (x w : World) (first second : Call) → x.calls ≡ (w.calls ++ first ∷ []) ++ second ∷ [] →
    (cond b x w).calls
    ≡ w.calls ++ (option_to_list (cond b (Some first) None) ++ option_to_list (cond b (Some second) None))
calling_twice true x w first second e = e ∙ append_assoc w.calls (first ∷ []) (second ∷ [])
calling_twice false x w first second e = sym (append-nil w.calls)

-- and one that makes none
silent : (b : Bool) (x w : World) → x.calls ≡ w.calls →
    (cond b x w).calls ≡ w.calls ++ option_to_list (cond b None None)
silent true x w e = e ∙ sym (append-nil w.calls)
silent false x w e = sym (append-nil w.calls)

-- a step adds its calls at the end
pub calls_after : (start : Start) (w : World) (p : ℕ) (step : Step) →
    (after start w p step).calls ≡ w.calls ++ calls_added start w p step
calls_after start w p ReadEpoch = sym (append-nil w.calls)
calls_after start w p (Advance from) = silent (w.epoch == from) _ w refl
calls_after start w p (LoadStamp s) = sym (append-nil w.calls)
calls_after start w p (PeekBirth s) = sym (append-nil w.calls)
calls_after start w p (StoreStamp s stamp) = sym (append-nil w.calls)
calls_after start w p (Raise s) = sym (append-nil w.calls)
calls_after start w p (TakeFlag s) = silent (has_flag (found start w (TakeFlag s)) s) _ w refl
calls_after start w p (StoreBirth s birth) = sym (append-nil w.calls)
calls_after start w p (StoreKey s key) = sym (append-nil w.calls)
calls_after start w p (StoreValue s value) = sym (append-nil w.calls)
calls_after start w p (StoreLink s next) = sym (append-nil w.calls)
calls_after start w p (LoadLink place) = sym (append-nil w.calls)
calls_after start w p (LoadBirth s) = sym (append-nil w.calls)
calls_after start w p (LoadKey s) = sym (append-nil w.calls)
calls_after start w p (LoadValue s) = sym (append-nil w.calls)
calls_after start w p (Publish (Head b) expected s) = calling (word_of (w.head b) == expected) _ w _ refl
calls_after start w p (Publish (Slot t) expected s) = calling (word_of (w.link t) == expected) _ w _ refl
calls_after start w p (Mark s expected) = calling (word_of (w.link s) == expected) _ w _ refl
calls_after start w p (Replace s expected t) = calling_twice (word_of (w.link s) == expected) _ w _ _ refl
calls_after start w p (Unlink (Head b) expected s) = silent (word_of (w.head b) == expected) _ w refl
calls_after start w p (Unlink (Slot t) expected s) = silent (word_of (w.link t) == expected) _ w refl
calls_after start w p (ConfirmPresent op s expected) = calling (word_of (w.link s) == expected) _ w _ refl
calls_after start w p (ConfirmAbsent op key (Head b) expected) = calling (word_of (w.head b) == expected) _ w _ refl
calls_after start w p (ConfirmAbsent op key (Slot t) expected) = calling (word_of (w.link t) == expected) _ w _ refl

pub calls_by-append : (who : ℕ) (xs ys : List Call) → calls_by who (xs ++ ys) ≡ calls_by who xs ++ calls_by who ys
calls_by-append who xs ys = filter-append (λ call. call.who == who) xs ys

if_made : (b : Bool) (p : ℕ) (made : Option Call) → IfSome made (λ call. call.who ≡ p) →
    IfSome (cond b made None) (λ call. call.who ≡ p)
if_made true p made by = by
if_made false p made by = tt

-- the calls of a step are those of its pass
ahead_by : (start : Start) (w : World) (p : ℕ) (step : Step) → IfSome (ahead_made start w p step) (λ call. call.who ≡ p)
ahead_by start w p (Replace s expected t) =
    if_made (succeeds (Replace s expected t) (found start w (Replace s expected t))) p
    (call_ahead start p (w.know p) (Replace s expected t)) refl
ahead_by start w p _ = tt

called_by : (start : Start) (p : ℕ) (know : Know) (step : Step) →
    IfSome (call_of start p know step) (λ call. call.who ≡ p)
called_by start p know (Publish pred expected s) = refl
called_by start p know (Mark s expected) = refl
called_by start p know (Replace s expected t) = refl
called_by start p know (ConfirmPresent op s expected) = refl
called_by start p know (ConfirmAbsent op key place expected) = refl
called_by start p know _ = tt

made_by : (start : Start) (w : World) (p : ℕ) (step : Step) → IfSome (call_made start w p step) (λ call. call.who ≡ p)
made_by start w p step =
    if_made (succeeds step (found start w step)) p (call_of start p (w.know p) step) (called_by start p (w.know p) step)

listed_own : (p : ℕ) (made : Option Call) → IfSome made (λ call. call.who ≡ p) →
    calls_by p (option_to_list made) ≡ option_to_list made
listed_own p None by = refl
listed_own p (Some call) by = rw (eq-eqb call.who p by) refl

listed_other : (p who : ℕ) (made : Option Call) → p ≢ who → IfSome made (λ call. call.who ≡ p) →
    calls_by who (option_to_list made) ≡ []
listed_other p who None ne by = refl
listed_other p who (Some call) ne by = rw (ne_eqb call.who who (λ e. ne (sym by ∙ e))) refl

-- the calls that a step adds are its pass's own
pub added_own : (start : Start) (w : World) (p : ℕ) (step : Step) →
    calls_by p (calls_added start w p step) ≡ calls_added start w p step
added_own start w p step =
    calls_by-append p (option_to_list (ahead_made start w p step)) (option_to_list (call_made start w p step))
    ∙ (λ i. listed_own p (ahead_made start w p step) (ahead_by start w p step) i
    ++ listed_own p (call_made start w p step) (made_by start w p step) i)

pub added_other : (start : Start) (w : World) (p who : ℕ) (step : Step) → p ≢ who →
    calls_by who (calls_added start w p step) ≡ []
added_other start w p who step ne =
    calls_by-append who (option_to_list (ahead_made start w p step)) (option_to_list (call_made start w p step))
    ∙ (λ i. listed_other p who (ahead_made start w p step) ne (ahead_by start w p step) i
    ++ listed_other p who (call_made start w p step) ne (made_by start w p step) i)

others_calls : (start : Start) (w : World) (who : ℕ) (events : List Event) → NoneOf who events →
    calls_by who (world_from start w events).calls ≡ calls_by who w.calls
others_calls start w who [] none = refl
others_calls start w who (x ∷ xs) none =
    others_calls start (after start w x.pass x.step) who xs none.1
    ∙ ap (calls_by who) (calls_after start w x.pass x.step)
    ∙ calls_by-append who w.calls (calls_added start w x.pass x.step)
    ∙ ap (λ l. calls_by who w.calls ++ l) (added_other start w x.pass who x.step none.0)
    ∙ append-nil (calls_by who w.calls)

-- the calls of a pass are left by the events of others
pub others_leave_calls : (start : Start) (seen rest : List Event) (who : ℕ) → NoneOf who rest →
    own_calls start (seen ++ rest) who ≡ own_calls start seen who
others_leave_calls start seen rest who none = ap (λ w. calls_by who w.calls) (world_after-append start seen rest)
    ∙ others_calls start (world_after start seen) who rest none

-- the calls after one more event
pub calls-snoc : (start : Start) (run : List Event) (event : Event) →
    (world_after start (run ++ event ∷ [])).calls
    ≡ (world_after start run).calls ++ calls_added start (world_after start run) event.pass event.step
calls-snoc start run event = ap (λ w. w.calls) (world_after-snoc start run event)
    ∙ calls_after start (world_after start run) event.pass event.step

-- and after more of them: these add theirs at the end
pub calls_grow : (start : Start) (w : World) (events : List Event) →
    (more : List Call) × ((world_from start w events).calls ≡ w.calls ++ more)
calls_grow start w [] = ([], sym (append-nil w.calls))
calls_grow start w (e ∷ es) =
    let more = calls_grow start (after start w e.pass e.step) es in
    let added = calls_added start w e.pass e.step in (
      added ++ more.0,
      more.1 ∙ ap (λ l. l ++ more.0) (calls_after start w e.pass e.step) ∙ append_assoc w.calls added more.0,
    )

pub calls_since : (start : Start) (seen run : List Event) → Begins seen run →
    (more : List Call) × ((world_after start run).calls ≡ (world_after start seen).calls ++ more)
calls_since start seen run b =
    let more = calls_grow start (world_after start seen) b.0 in (
      more.0,
      ap (λ (l : List Event). (world_after start l).calls) b.1
          ∙ ap (λ (w : World). w.calls) (world_after-append start seen b.0) ∙ more.1,
    )

-- those of a pass after one more event of its own
pub own_calls-snoc : (start : Start) (run : List Event) (event : Event) →
    own_calls start (run ++ event ∷ []) event.pass
    ≡ own_calls start run event.pass ++ calls_added start (world_after start run) event.pass event.step
own_calls-snoc start run event =
    let w = world_after start run in
    ap (calls_by event.pass) (calls-snoc start run event)
    ∙ calls_by-append event.pass w.calls (calls_added start w event.pass event.step)
    ∙ ap (λ l. calls_by event.pass w.calls ++ l) (added_own start w event.pass event.step)
