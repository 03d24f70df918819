-- Which calls a step makes that answers one.
use Rattle.std.proofs.Common.{◌≡◌, ◌≢◌, ℕ, Bool, true, false, [], ◌++◌, Option, Some, None, refl, sym, ap, ◌∙◌, cond}
use Rattle.std.proofs.Common.{append-nil, option_to_list, eq-eqb}
use Rattle.std.specs.Prelude.{◌==◌}
use Rattle.std.proofs.lemmas.Bool.{ne_eqb}
use Rattle.vbr_machine.specs.Start.{Start, IsStart}
use Rattle.vbr_words.specs.declared.place.At.{At}
use Rattle.vbr_machine.specs.History.{set_call}
use Rattle.vbr_machine.specs.Knowledge.{Know}
use Rattle.vbr_machine.specs.Learning.{call_ahead, call_of, present_reply, succeeds}
use Rattle.vbr_machine.specs.Machine.{World, found}
use Rattle.vbr_machine.specs.Accounts as entries
use Rattle.vbr_machine.specs.Making.{ahead_made}
use Rattle.vbr_machine.specs.Membership.{Knows}
use Rattle.vbr_machine.specs.Runs.{IsRun, world_after}
use Rattle.vbr_machine.specs.declared.event.Step.{Step}
use Rattle.vbr_machine.specs.declared.event.Step.TheVariants.{Mark, Replace, ConfirmPresent, ConfirmAbsent, Publish}
use Rattle.vbr_machine.specs.declared.event.Step.TheVariants.{Unlink}
use Rattle.vbr_machine.specs.declared.history.Call.{Call}
use Rattle.vbr_machine.specs.declared.history.Op.{Op}
use Rattle.vbr_machine.specs.declared.history.Op.TheVariants.{Remove, Get}
use Rattle.vbr_machine.specs.declared.knowledge.Read.TheVariants.{KeyOf, ValueOf}
use Rattle.vbr_machine.proofs.Lemmas.{confirmed_call_is, marked_call_is, others_leave_know}
use Rattle.vbr_slots.specs.steps.Calls.{Quiet, Made, made_by, entries_of, AddsNone, AddsAnswer}
use Rattle.vbr_slots.specs.views.Views.{Trace, Did, knows}
use Rattle.vbr_slots.proofs.Lemmas.{did_calls, did_entries, did_run, did_same, did_seen}
use Rattle.vbr_at_table.specs.answers.Values.{entry_call, found_call}
use Rattle.vbr_at_table.proofs.answers.NoValues.{none_told}
use Rattle.vbr_at_table.proofs.reads.Moments.{won, lost, answers_same, unanswered}

-- a step that fails makes no call ahead of its own
none_ahead : (start : Start) (w : World) (p : ℕ) (step : Step) → succeeds step (found start w step) ≡ false →
    ahead_made start w p step ≡ None
none_ahead start w p (Replace s expected t) f =
    ap (λ (b : Bool). cond b (call_ahead start p (w.know p) (Replace s expected t)) None) f
none_ahead start w p _ f = refl

-- a step that succeeds and makes none ahead of it makes its call
succeeded : {step : Step} {p q : Trace} {r : ℕ} (d : Did step p q r) (call : Call) →
    ((w : World) → ahead_made p.start w p.who step ≡ None) →
    succeeds step (found p.start (world_after p.start (p.seen ++ d.rest)) step) ≡ true →
    call_of p.start p.who (knows p) step ≡ Some call → Made call p q
succeeded {step} {p} {q} d call alone t c =
    let w = world_after p.start (p.seen ++ d.rest) in
    let one : call_of p.start p.who (w.know p.who) step ≡ Some call =
    ap (λ (k : Know). call_of p.start p.who k step) (others_leave_know p.start p.seen d.rest p.who d.none) ∙ c in
    record {
      same = did_same d;
      seen = did_seen d;
      is_run = did_run d;
      calls = did_calls d
          ∙ ap (λ l. made_by p ++ l)
          (λ i. option_to_list (alone w i)
          ++ (ap (λ (b : Bool). option_to_list (cond b (call_of p.start p.who (w.know p.who) step) None)) t
          ∙ ap option_to_list one) i);
    }

-- and one that fails makes none
pub failed : {step : Step} {p q : Trace} {r : ℕ} (d : Did step p q r) →
    succeeds step (found p.start (world_after p.start (p.seen ++ d.rest)) step) ≡ false → Quiet p q
failed {step} {p} {q} d f =
    let w = world_after p.start (p.seen ++ d.rest) in
    record {
      same = did_same d;
      seen = did_seen d;
      is_run = λ h. did_run d;
      calls = did_calls d
          ∙ ap (λ l. made_by p ++ l)
          (λ i. option_to_list (none_ahead p.start w p.who step f i)
          ++ ap (λ (b : Bool). option_to_list (cond b (call_of p.start p.who (w.know p.who) step) None)) f i)
          ∙ append-nil (made_by p);
    }

-- nor anything in the chronicle, where its kind adds nothing then
failed_adds : {step : Step} {p q : Trace} {r : ℕ} (d : Did step p q r) → entries.happens_if_missed p.who step ≡ [] →
    succeeds step (found p.start (world_after p.start (p.seen ++ d.rest)) step) ≡ false → AddsNone p q
failed_adds {step} {p} d missed f =
    let w = world_after p.start (p.seen ++ d.rest) in
    let a = entries.incarnations_after p.start (p.seen ++ d.rest) in
    let added = entries.happens_if_found p.start w a p.who step in
    record {
      entries = did_entries d
          ∙ ap (λ (b : Bool). entries_of p ++ cond b added (entries.happens_if_missed p.who step)) f
          ∙ ap (λ l. entries_of p ++ l) missed
          ∙ append-nil (entries_of p);
    }

pub other : (expected r n : ℕ) → r ≢ expected → n ≡ r → (n == expected) ≡ false
other expected r n ne e = ne_eqb n expected (λ x. ne (sym e ∙ x))

-- ---- a mark

pub mark_made : {s expected : ℕ} {p q : Trace} → IsStart p.start → IsRun p.start p.passes p.seen →
    Did (Mark s expected) p q expected → (key value : ℕ) → Knows (knows p) (KeyOf s key) →
    (p.start.shape.values ≡ true → Knows (knows p) (ValueOf s value)) →
    Made (entry_call p.start p.who Remove key true value) p q
mark_made {s} {expected} {p} {q} is run d key value k v =
    succeeded d (entry_call p.start p.who Remove key true value) (λ w. refl)
    (eq-eqb _ expected (won expected _ d.shows.answers))
    (marked_call_is p.start p.passes p.seen is run p.who s expected key value k v)

pub mark_failed : {s expected found : ℕ} {p q : Trace} → Did (Mark s expected) p q found → found ≢ expected → Quiet p q
mark_failed {s} {expected} {found} d ne =
    failed d (other expected found _ ne (lost expected found _ ne d.shows.answers))

-- ---- confirming loads

-- the call of an entry that is present
present_call : (op : Op) (s expected : ℕ) (p : Trace) → IsStart p.start → IsRun p.start p.passes p.seen →
    (key value : ℕ) → Knows (knows p) (KeyOf s key) → (op ≡ Get → Knows (knows p) (ValueOf s value)) →
    call_of p.start p.who (knows p) (ConfirmPresent op s expected) ≡ Some (found_call p.who op key value)
present_call op s expected p is run key value k v =
    confirmed_call_is p.start p.passes p.seen is run p.who op s expected key value k v

-- an operation that asks for no value makes the call of a set
pub of_set : (who : ℕ) (op : Op) (key : ℕ) → op ≢ Get → found_call who op key 0 ≡ set_call who op key (present_reply op)
of_set who op key other =
    ap (λ (v : Option ℕ). record { who = who; op = op; key = key; reply = present_reply op; value = v })
    (none_told op other (Some 0))

pub present_made : {op : Op} {s expected : ℕ} {p q : Trace} → IsStart p.start → IsRun p.start p.passes p.seen →
    Did (ConfirmPresent op s expected) p q expected → (key value : ℕ) → Knows (knows p) (KeyOf s key) →
    (op ≡ Get → Knows (knows p) (ValueOf s value)) → Made (found_call p.who op key value) p q
present_made {op} {s} {expected} {p} {q} is run d key value k v =
    succeeded d (found_call p.who op key value) (λ w. refl)
    (eq-eqb _ expected (answers_same (present_reply op) expected _ d.shows.answers))
    (present_call op s expected p is run key value k v)

pub present_failed : {op : Op} {s expected found : ℕ} {p q : Trace} → Did (ConfirmPresent op s expected) p q found →
    found ≢ expected → Quiet p q
present_failed {op} {s} {expected} {found} d ne =
    failed d (other expected found _ ne (unanswered (present_reply op) expected found _ ne d.shows.answers))

pub absent_made : {op : Op} {key : ℕ} {place : At} {expected : ℕ} {p q : Trace} →
    Did (ConfirmAbsent op key place expected) p q expected → Made (set_call p.who op key false) p q
absent_made {op} {key} {place} {expected} {p} d =
    succeeded d (set_call p.who op key false) (λ w. refl)
    (eq-eqb _ expected (answers_same false expected _ d.shows.answers)) refl

pub absent_failed : {op : Op} {key : ℕ} {place : At} {expected found : ℕ} {p q : Trace} →
    Did (ConfirmAbsent op key place expected) p q found → found ≢ expected → Quiet p q
absent_failed {op} {key} {place} {expected} {found} d ne =
    failed d (other expected found _ ne (unanswered false expected found _ ne d.shows.answers))

-- ---- what confirming loads add to the chronicle

pub present_adds : {op : Op} {s expected : ℕ} {p q : Trace} → IsStart p.start → IsRun p.start p.passes p.seen →
    Did (ConfirmPresent op s expected) p q expected → (key value : ℕ) → Knows (knows p) (KeyOf s key) →
    (op ≡ Get → Knows (knows p) (ValueOf s value)) → AddsAnswer (found_call p.who op key value) p q
present_adds {op} {s} {expected} {p} {q} is run d key value k v =
    let w = world_after p.start (p.seen ++ d.rest) in
    let step : Step = ConfirmPresent op s expected in
    let made = ap (λ (k : Know). call_of p.start p.who k step) (others_leave_know p.start p.seen d.rest p.who d.none)
    ∙ present_call op s expected p is run key value k v in
    let t = eq-eqb _ expected (answers_same (present_reply op) expected _ d.shows.answers) in
    record {
      entries = did_entries d
          ∙ ap (λ (b : Bool).
          entries_of p ++ cond b (entries.entry_of_call p.who (call_of p.start p.who (w.know p.who) step)) []) t
          ∙ ap (λ (call : Option Call). entries_of p ++ entries.entry_of_call p.who call) made;
    }

pub present_adds_none : {op : Op} {s expected found : ℕ} {p q : Trace} → Did (ConfirmPresent op s expected) p q found →
    found ≢ expected → AddsNone p q
present_adds_none {op} {s} {expected} {found} d ne =
    failed_adds d refl (other expected found _ ne (unanswered (present_reply op) expected found _ ne d.shows.answers))

pub absent_adds : {op : Op} {key : ℕ} {place : At} {expected : ℕ} {p q : Trace} →
    Did (ConfirmAbsent op key place expected) p q expected → AddsAnswer (set_call p.who op key false) p q
absent_adds {op} {key} {place} {expected} {p} d =
    let t = eq-eqb _ expected (answers_same false expected _ d.shows.answers) in
    record {
      entries = did_entries d
          ∙ ap (λ (b : Bool).
          entries_of p ++ cond b (entries.entry_of_call p.who (Some (set_call p.who op key false))) []) t;
    }

pub absent_adds_none : {op : Op} {key : ℕ} {place : At} {expected found : ℕ} {p q : Trace} →
    Did (ConfirmAbsent op key place expected) p q found → found ≢ expected → AddsNone p q
absent_adds_none {op} {key} {place} {expected} {found} d ne =
    failed_adds d refl (other expected found _ ne (unanswered false expected found _ ne d.shows.answers))

-- ---- an exchange that is lost

pub mark_adds_none : {s expected found : ℕ} {p q : Trace} → Did (Mark s expected) p q found → found ≢ expected →
    AddsNone p q
mark_adds_none {s} {expected} {found} d ne =
    failed_adds d refl (other expected found _ ne (lost expected found _ ne d.shows.answers))

pub replace_adds_none : {s expected t found : ℕ} {p q : Trace} → Did (Replace s expected t) p q found →
    found ≢ expected → AddsNone p q
replace_adds_none {s} {expected} {t} {found} d ne =
    failed_adds d refl (other expected found _ ne (lost expected found _ ne d.shows.answers))

pub unlink_adds_none : {pred : At} {expected s found : ℕ} {p q : Trace} → Did (Unlink pred expected s) p q found →
    found ≢ expected → AddsNone p q
unlink_adds_none {pred} {expected} {s} {found} d ne =
    failed_adds d refl (other expected found _ ne (lost expected found _ ne d.shows.answers))

-- ---- a publication

pub published : {pred : At} {expected s : ℕ} {p q : Trace} → Did (Publish pred expected s) p q expected →
    (call : Call) → call_of p.start p.who (knows p) (Publish pred expected s) ≡ Some call → Made call p q
published {pred} {expected} {s} d call c =
    succeeded d call (λ w. refl) (eq-eqb _ expected (won expected _ d.shows.answers)) c

pub publish_failed : {pred : At} {expected s found : ℕ} {p q : Trace} → Did (Publish pred expected s) p q found →
    found ≢ expected → Quiet p q
publish_failed {pred} {expected} {s} {found} d ne =
    failed d (other expected found _ ne (lost expected found _ ne d.shows.answers))

pub publish_adds_none : {pred : At} {expected s found : ℕ} {p q : Trace} → Did (Publish pred expected s) p q found →
    found ≢ expected → AddsNone p q
publish_adds_none {pred} {expected} {s} {found} d ne =
    failed_adds d refl (other expected found _ ne (lost expected found _ ne d.shows.answers))
