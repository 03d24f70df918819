-- Where sets follow one another, the outcomes of all are those of one, then of the next ones.
use Rattle.std.proofs.Common.{◌≡◌, ◌≢◌, ℕ, suc, ◌+◌, ◌-◌, ◌<◌, ◌≤◌, Bool, true, false, cond, eqb, length, List, [], ◌∷◌}
use Rattle.std.proofs.Common.{◌++◌, inl, inr, refl, sym, ap, ap₂, subst, ◌∙◌, append_assoc, append-nil, arith}
use Rattle.std.proofs.lemmas.Bool.{cases_eq, cases_lt, eq-eqb}
use Rattle.std.proofs.lemmas.Bool.Decides.{nat_tests}
use Rattle.std.proofs.lemmas.List.Concat.{flat_map-append}
use Rattle.std.proofs.lemmas.List.Elements.{filter-append}
use Rattle.std.specs.Prelude.{nat_le, nat_lt, All}
use Rattle.vbr_machine.specs.Start.{Start}
use Rattle.vbr_machine.specs.Keys.{Keys}
use Rattle.vbr_machine.specs.Maps.{Entries, IsMapLegal, entries_after, map_after}
use Rattle.vbr_machine.specs.History.{IsLegal, keys_after, set_after, calls_by}
use Rattle.vbr_machine.specs.Runs.{IsRun, world_after}
use Rattle.vbr_machine.specs.declared.event.Event.{Event}
use Rattle.vbr_machine.specs.declared.history.Call.{Call}
use Rattle.vbr_machine.proofs.Lemmas.{calls_by-append}
use Rattle.vbr_script.specs.declared.script.Kind.{Kind}
use Rattle.vbr_script.specs.declared.script.Kind.TheVariants.{Set, Map}
use Rattle.vbr_transcript.specs.Contents.{Contents, Item, IsLegalFrom, AreContents, contents_after, opened_with}
use Rattle.vbr_transcript.specs.Contents.{opening_contents}
use Rattle.vbr_transcript.specs.Calls.{Outcome, answer_of, answered_calls, outcomes_up_to, outcomes_past}
use Rattle.vbr_transcript.specs.Runs.{EndsIn, Explains, Manner, IsSetRun, AreOfSets, AreExplained}
use Rattle.vbr_transcript.proofs.MachineCalls.{no_calls_beyond}
use Rattle.vbr_transcript.proofs.Filters.{filter_all, filter_none}

-- ---- histories, end to end

set_after-append : (keys : Keys) (calls more : List Call) →
    set_after keys (calls ++ more) ≡ set_after (set_after keys calls) more
set_after-append keys [] more = refl
set_after-append keys (call ∷ calls) more = set_after-append (keys_after keys call.op call.key call.reply) calls more

map_after-append : (entries : Entries) (calls more : List Call) →
    map_after entries (calls ++ more) ≡ map_after (map_after entries calls) more
map_after-append entries [] more = refl
map_after-append entries (call ∷ calls) more =
    map_after-append (entries_after entries call.op call.key call.reply call.value) calls more

after-append : (kind : Kind) (opening : Contents kind) (calls more : List Call) →
    contents_after kind opening (calls ++ more) ≡ contents_after kind (contents_after kind opening calls) more
after-append Set opening calls more = set_after-append opening calls more
after-append Map opening calls more = map_after-append opening calls more

set_legal-append : (keys : Keys) (calls more : List Call) → IsLegal keys calls → IsLegal (set_after keys calls) more →
    IsLegal keys (calls ++ more)
set_legal-append keys [] more first then = then
set_legal-append keys (call ∷ calls) more first then =
    (first.0, set_legal-append (keys_after keys call.op call.key call.reply) calls more first.1 then)

map_legal-append : (entries : Entries) (calls more : List Call) → IsMapLegal entries calls →
    IsMapLegal (map_after entries calls) more → IsMapLegal entries (calls ++ more)
map_legal-append entries [] more first then = then
map_legal-append entries (call ∷ calls) more first then = (
  first.0,
  first.1,
  map_legal-append (entries_after entries call.op call.key call.reply call.value) calls more first.2 then,
)

legal-append : (kind : Kind) (opening : Contents kind) (calls more : List Call) → IsLegalFrom kind opening calls →
    IsLegalFrom kind (contents_after kind opening calls) more → IsLegalFrom kind opening (calls ++ more)
legal-append Set opening calls more first then = set_legal-append opening calls more first then
legal-append Map opening calls more first then = map_legal-append opening calls more first then

-- ---- outcomes, cut at a phase

abbrev UpTo : ℕ → List Outcome → Type 0
UpTo phase outcomes = All (λ outcome. outcome.0.phase ≤ phase) outcomes

abbrev Past : ℕ → List Outcome → Type 0
Past phase outcomes = All (λ outcome. phase < outcome.0.phase) outcomes

all_up_to : (low phase : ℕ) (outcomes : List Outcome) → low ≤ phase → UpTo low outcomes →
    outcomes_up_to phase outcomes ≡ outcomes
all_up_to low phase outcomes within early =
    filter_all (λ (outcome : Outcome). nat_le outcome.0.phase phase) outcomes (λ k d inside. yes (early k d inside))
  where
    yes : {n : ℕ} → n ≤ low → nat_le n phase ≡ true
    yes small = grind (arith, nat_tests)

none_up_to : (phase high : ℕ) (outcomes : List Outcome) → phase ≤ high → Past high outcomes →
    outcomes_up_to phase outcomes ≡ []
none_up_to phase high outcomes within late =
    filter_none (λ (outcome : Outcome). nat_le outcome.0.phase phase) outcomes (λ k d inside. no (late k d inside))
  where
    no : {n : ℕ} → high < n → nat_le n phase ≡ false
    no large = grind (arith, nat_tests)

none_past : (phase : ℕ) (outcomes : List Outcome) → UpTo phase outcomes → outcomes_past phase outcomes ≡ []
none_past phase outcomes early =
    filter_none (λ (outcome : Outcome). nat_lt phase outcome.0.phase) outcomes (λ k d inside. no (early k d inside))
  where
    no : {n : ℕ} → n ≤ phase → nat_lt phase n ≡ false
    no small = grind (arith, nat_tests)

all_past : (phase : ℕ) (outcomes : List Outcome) → Past phase outcomes → outcomes_past phase outcomes ≡ outcomes
all_past phase outcomes late =
    filter_all (λ (outcome : Outcome). nat_lt phase outcome.0.phase) outcomes (λ k d inside. yes (late k d inside))
  where
    yes : {n : ℕ} → phase < n → nat_lt phase n ≡ true
    yes large = grind (arith, nat_tests)

-- the outcomes up to a phase, of those up to a later one and those behind it
up_to_early : (phase cut : ℕ) (front back : List Outcome) → phase ≤ cut → Past cut back →
    outcomes_up_to phase (front ++ back) ≡ outcomes_up_to phase front
up_to_early phase cut front back within late =
    filter-append (λ (outcome : Outcome). nat_le outcome.0.phase phase) front back
    ∙ ap (λ (rest : List Outcome). outcomes_up_to phase front ++ rest) (none_up_to phase cut back within late)
    ∙ append-nil (outcomes_up_to phase front)

up_to_late : (phase cut : ℕ) (front back : List Outcome) → cut ≤ phase → UpTo cut front →
    outcomes_up_to phase (front ++ back) ≡ front ++ outcomes_up_to phase back
up_to_late phase cut front back within early =
    filter-append (λ (outcome : Outcome). nat_le outcome.0.phase phase) front back
    ∙ ap (λ (first : List Outcome). first ++ outcomes_up_to phase back) (all_up_to cut phase front within early)

-- both parts of outcomes that are cut at a phase
cut_front : (cut : ℕ) (front back : List Outcome) → UpTo cut front → Past cut back →
    outcomes_up_to cut (front ++ back) ≡ front
cut_front cut front back early late =
    up_to_early cut cut front back (omega arith) late ∙ all_up_to cut cut front (omega arith) early

cut_back : (cut : ℕ) (front back : List Outcome) → UpTo cut front → Past cut back →
    outcomes_past cut (front ++ back) ≡ back
cut_back cut front back early late =
    filter-append (λ (outcome : Outcome). nat_lt cut outcome.0.phase) front back
    ∙ ap₂ (λ (a b : List Outcome). a ++ b) (none_past cut front early) (all_past cut back late)

-- ---- explanations, end to end

-- the calls of a worker in two histories are those of the outcomes that each explains
own_order-append : (kind : Kind) (who : ℕ) (calls more : List Call) (front back : List Outcome) →
    calls_by who calls ≡ calls_by who (answered_calls kind front) →
    calls_by who more ≡ calls_by who (answered_calls kind back) →
    calls_by who (calls ++ more) ≡ calls_by who (answered_calls kind (front ++ back))
own_order-append kind who calls more front back first then =
    calls_by-append who calls more
    ∙ ap₂ (λ (a b : List Call). a ++ b) first then
    ∙ sym (calls_by-append who (answered_calls kind front) (answered_calls kind back))
    ∙ ap (calls_by who) (sym (flat_map-append (λ (outcome : Outcome). answer_of kind outcome.0 outcome.1) front back))

-- a phase that ends in the first history ends in both
ends_early : (kind : Kind) (calls more : List Call) (front back : List Outcome) (phase cut : ℕ) → phase ≤ cut →
    Past cut back → EndsIn kind calls front phase → EndsIn kind (calls ++ more) (front ++ back) phase
ends_early kind calls more front back phase cut within late end = record {
  before = end.before;
  after = end.after ++ more;
  whole = ap (λ (some : List Call). some ++ more) end.whole ∙ append_assoc end.before end.after more;
  own_order = λ who.
      end.own_order who
      ∙ ap (λ (some : List Outcome). calls_by who (answered_calls kind some))
      (sym (up_to_early phase cut front back within late));
}

-- and so does one that ends in the second
ends_late : (kind : Kind) (calls more : List Call) (front back : List Outcome) (phase cut : ℕ) → cut ≤ phase →
    UpTo cut front → ((who : ℕ) → calls_by who calls ≡ calls_by who (answered_calls kind front)) →
    EndsIn kind more back phase → EndsIn kind (calls ++ more) (front ++ back) phase
ends_late kind calls more front back phase cut within early first end = record {
  before = calls ++ end.before;
  after = end.after;
  whole = ap (λ (some : List Call). calls ++ some) end.whole ∙ sym (append_assoc calls end.before end.after);
  own_order = λ who.
      own_order-append kind who calls end.before front (outcomes_up_to phase back) (first who) (end.own_order who)
      ∙ ap (λ (some : List Outcome). calls_by who (answered_calls kind some))
      (sym (up_to_late phase cut front back within early));
}

-- the second history begins with what the first leaves
explains-append : (kind : Kind) (opening : Contents kind) (calls more : List Call) (front back : List Outcome)
    (cut : ℕ) → UpTo cut front → Past cut back → Explains kind opening calls front →
    Explains kind (contents_after kind opening calls) more back → Explains kind opening (calls ++ more) (front ++ back)
explains-append kind opening calls more front back cut early late first then = record {
  legal = legal-append kind opening calls more first.legal then.legal;
  own_order = λ who. own_order-append kind who calls more front back (first.own_order who) (then.own_order who);
  phases = λ phase. elim (cases_lt cut phase) [
    | inl past ↦ ends_late kind calls more front back phase cut (omega arith) early first.own_order (then.phases phase)
    | inr within ↦ ends_early kind calls more front back phase cut within late (first.phases phase)
  ];
}

-- ---- a lone worker

-- where no other caller has calls, those of the first are all
all_own : (calls : List Call) → ((other : ℕ) → other ≢ 0 → calls_by other calls ≡ []) → calls_by 0 calls ≡ calls
all_own [] none = refl
all_own (call ∷ calls) none = elim (cases_eq call.who 0) [
  | inl first ↦
      rw (eq-eqb call.who 0 first)
      (ap (λ (rest : List Call). call ∷ rest)
      (all_own calls (λ other differs. left (eqb call.who other) (calls_by other calls) (none other differs))))
  | inr later ↦
      absurd (kept (eqb call.who call.who) (calls_by call.who calls) (eq-eqb call.who call.who refl)
      (none call.who later))
]
  where
    left : (b : Bool) (rest : List Call) → cond b (call ∷ rest) rest ≡ [] → rest ≡ []
    left true rest is = absurd (let e : suc (length rest) ≡ 0 = ap length is in omega arith)
    left false rest is = is

    kept : (b : Bool) (rest : List Call) → b ≡ true → cond b (call ∷ rest) rest ≡ [] → ⊥
    kept true rest own is = let e : suc (length rest) ≡ 0 = ap length is in omega arith
    kept false rest own is = absurd (cc)

-- the calls of a lone worker are its answered operations
lone_calls : (kind : Kind) (start : Start) (workers : ℕ) (outcomes : List Outcome) (run : List Event) →
    IsRun start workers run → Explains kind (opening_contents kind start) (world_after start run).calls outcomes →
    workers ≡ 1 → (world_after start run).calls ≡ answered_calls kind outcomes
lone_calls kind start workers outcomes run is_run explains one =
    sym (all_own (world_after start run).calls none)
    ∙ explains.own_order 0
    ∙ all_own (answered_calls kind outcomes) (λ other differs. sym (explains.own_order other) ∙ none other differs)
  where
    none : (other : ℕ) → other ≢ 0 → calls_by other (world_after start run).calls ≡ []
    none other differs = no_calls_beyond start workers other run (omega arith) is_run

-- ---- sets

-- what the last set was asked, with what it leaves
pub last_set : (kind : Kind) (manner : Manner) (start : Start) (workers from phases : ℕ) (outcomes : List Outcome)
    (run : List Event) (listed : List (Item kind)) (epoch : ℕ) →
    IsSetRun kind manner start workers (phases - from) outcomes run →
    AreContents kind listed (contents_after kind (opening_contents kind start) (world_after start run).calls) →
    epoch ≡ (world_after start run).epoch → AreExplained kind manner start workers from phases [] outcomes listed epoch
last_set kind manner start workers from phases outcomes run listed epoch of_set are last = record {
  history = (world_after start run).calls;
  sets = (run, of_set, refl, last);
  explains = of_set.explains;
  contents = are;
  plain = lone_calls kind start workers outcomes run of_set.is_run of_set.explains;
}

-- what a set was asked, and behind the phase of its renewal what the later ones were, of which the first opens with
-- what it left
pub one_more_set : (kind : Kind) (manner : Manner) (start : Start) (workers from phases renewal : ℕ) (renewals : List ℕ)
    (front back : List Outcome) (run : List Event) (left listed : List (Item kind)) (epoch : ℕ)
    → All (λ outcome. outcome.0.phase ≤ renewal) front → All (λ outcome. renewal < outcome.0.phase) back →
    IsSetRun kind manner start workers (renewal + 1 - from) front run →
    AreContents kind left (contents_after kind (opening_contents kind start) (world_after start run).calls)
    → opening_contents kind (opened_with kind start left)
    ≡ contents_after kind (opening_contents kind start) (world_after start run).calls
    → AreExplained kind manner (opened_with kind start left) workers (renewal + 1) phases renewals back listed epoch →
    AreExplained kind manner start workers from phases (renewal ∷ renewals) (front ++ back) listed epoch
one_more_set kind manner start workers from phases renewal renewals front back run left listed epoch early late of_set
    are opens rest =
    let opening = opening_contents kind start in
    let calls = (world_after start run).calls in
    let then : Explains kind (contents_after kind opening calls) rest.history back =
    subst (λ (some : Contents kind). Explains kind some rest.history back) opens rest.explains in
    let last : AreContents kind listed (contents_after kind (contents_after kind opening calls) rest.history) =
    subst (λ (some : Contents kind). AreContents kind listed (contents_after kind some rest.history)) opens
    rest.contents in
    record {
      history = calls ++ rest.history;
      sets = (
        run,
        subst (λ (some : List Outcome). IsSetRun kind manner start workers (renewal + 1 - from) some run)
            (sym (cut_front renewal front back early late)) of_set,
        left,
        are,
        rest.history,
        subst (λ (some : List Outcome).
            AreOfSets kind manner (opened_with kind start left) workers (renewal + 1) phases renewals some rest.history
            epoch) (sym (cut_back renewal front back early late)) rest.sets,
        refl,
      );
      explains = explains-append kind opening calls rest.history front back renewal early late of_set.explains then;
      contents = subst (AreContents kind listed) (sym (after-append kind opening calls rest.history)) last;
      plain = λ one.
          ap₂ (λ (a b : List Call). a ++ b) (lone_calls kind start workers front run of_set.is_run of_set.explains one)
          (rest.plain one)
          ∙ sym (flat_map-append (λ (outcome : Outcome). answer_of kind outcome.0 outcome.1) front back);
    }
