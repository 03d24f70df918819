-- What the workers have played on a set, put together in script order, are its outcomes.
use Rattle.std.proofs.Common.{◌≡◌, ◌≢◌, ℕ, ◌<◌, ◌≤◌, true, eqb, List, [], ◌∷◌, inl, inr, sym, ap, subst, ◌∙◌, arith}
use Rattle.std.proofs.Common.{append-nil}
use Rattle.std.proofs.lemmas.Bool.{cases_lt, ne_eqb}
use Rattle.std.proofs.lemmas.Bool.Decides.{nat_tests}
use Rattle.std.proofs.lemmas.List.Elements.{All-nil, All-cons, All-head, All-tail, All-filter}
use Rattle.std.specs.Prelude.{nat_le, zip, All}
use Rattle.vbr_machine.specs.Start.{Start}
use Rattle.vbr_machine.specs.History.{calls_by}
use Rattle.vbr_machine.specs.Runs as machine
use Rattle.vbr_machine.specs.Runs.{Begins, world_after}
use Rattle.vbr_machine.specs.Safety.{IsSafe}
use Rattle.vbr_machine.specs.declared.event.Event.{Event}
use Rattle.vbr_transcript.specs.Calls.{Outcome, answered_calls, lines_by, lines_up_to, outcomes_by, outcomes_up_to}
use Rattle.vbr_transcript.specs.Merging.{replies_by, IsMerged}
use Rattle.vbr_script.specs.Scripts.{ArePhased}
use Rattle.vbr_script.specs.declared.script.Kind.{Kind}
use Rattle.vbr_transcript.specs.Contents.{IsLegalFrom, opening_contents}
use Rattle.vbr_transcript.specs.Phases.{HaveCalled}
use Rattle.vbr_transcript.specs.Runs.{EndsIn, Manner, MayBeAnswered, IsSetRun}
use Rattle.vbr_script.specs.declared.script.Line.{Line}
use Rattle.vbr_transcript.specs.declared.reply.Reply.{Reply}
use Rattle.vbr_machine.proofs.Lemmas.{begins_run, calls_since}
use Rattle.vbr_transcript.proofs.MachineCalls.{no_calls_beyond}
use Rattle.vbr_transcript.proofs.Filters.{filter_all, filter_none}
use Rattle.vbr_transcript.proofs.Outcomes.{calls_by-answered, outcomes_by-own, all_outcomes, lines_by-ascend}
use Rattle.vbr_transcript.proofs.Outcomes.{outcomes_up_to-zip, lines_by-up_to, outcomes_by-up_to}

-- the replies of each worker are such as its lines may be answered at this epoch
abbrev pub MayAnswer : Kind → ℕ → ℕ → ℕ → List Line → List (List Reply) → Type 0
MayAnswer kind last epoch workers lines own =
    (who : ℕ) → who < workers →
    All (λ outcome. MayBeAnswered kind last epoch outcome.0.op outcome.1)
    (zip (lines_by who lines) (replies_by who own))

-- a phase ends within a run: at some point of it each worker has called its lines of the phases up to this one, and no
-- more
pub record EndsWithin (kind : Kind) (start : Start) (workers : ℕ) (lines : List Line) (own : List (List Reply))
    (run : List Event) (phase : ℕ) : Type 0 where
  pub seen : List Event
  pub begins : Begins seen run
  pub called : HaveCalled kind start workers (lines_up_to phase lines) own seen

-- workers have played a script: each has called its lines, each phase ended before the next, and no reply was given
-- that its line may not have
pub record HavePlayed (kind : Kind) (start : Start) (workers phases : ℕ) (lines : List Line) (own : List (List Reply))
    (run : List Event) : Type 0 where
  pub called : HaveCalled kind start workers lines own run
  pub ends : (phase : ℕ) → phase < phases → EndsWithin kind start workers lines own run phase
  pub answers : MayAnswer kind start.shape.last_epoch (world_after start run).epoch workers lines own

-- what holds of each line holds of the line of each outcome
pub all_lines : (P : Line → Type 0) (lines : List Line) (replies : List Reply) → All P lines →
    All (λ outcome. P outcome.0) (zip lines replies)
all_lines P [] replies all = All-nil (λ (o : Outcome). P o.0)
all_lines P (line ∷ lines) [] all = All-nil (λ (o : Outcome). P o.0)
all_lines P (line ∷ lines) (reply ∷ replies) all =
    All-cons (λ (o : Outcome). P o.0) (line, reply) (zip lines replies) (All-head P line lines all)
    (all_lines P lines replies (All-tail P line lines all))

-- no line is of a worker beyond the last
pub none_beyond : (workers who : ℕ) (lines : List Line) → workers ≤ who → All (λ line. line.worker < workers) lines →
    lines_by who lines ≡ []
none_beyond workers who lines beyond below =
    filter_none (λ (line : Line). eqb line.worker who) lines (λ k d inside. ne_eqb _ who (other (below k d inside)))
  where
    other : {n : ℕ} → n < workers → n ≢ who
    other low same = omega arith

-- after the last phase all are up to it
all_up_to : (phases phase : ℕ) (outcomes : List Outcome) → phases ≤ phase →
    All (λ outcome. outcome.0.phase < phases) outcomes → outcomes_up_to phase outcomes ≡ outcomes
all_up_to phases phase outcomes last below =
    filter_all (λ (outcome : Outcome). nat_le outcome.0.phase phase) outcomes (λ k d inside. within (below k d inside))
  where
    within : {n : ℕ} → n < phases → nat_le n phase ≡ true
    within low = grind (arith, nat_tests)

-- ---- the parts of a run

-- the outcomes of a worker up to a phase are its lines up to it with its own replies
of_worker_up_to : (kind : Kind) (phases workers who phase : ℕ) (lines : List Line) (own : List (List Reply))
    (replies : List Reply) → ArePhased kind workers phases lines → IsMerged lines own replies →
    outcomes_by who (outcomes_up_to phase (zip lines replies))
    ≡ zip (lines_by who (lines_up_to phase lines)) (replies_by who own)
of_worker_up_to kind phases workers who phase lines own replies phased merged =
    outcomes_by-up_to who phase (zip lines replies)
    ∙ ap (outcomes_up_to phase)
    (outcomes_by-own who lines replies (replies_by who own) merged.one_each (merged.own_order who))
    ∙ outcomes_up_to-zip phase 0 (lines_by who lines) (replies_by who own) (lines_by-ascend who 0 lines phased.ascend)
    ∙ ap (λ (some : List Line). zip some (replies_by who own)) (sym (lines_by-up_to who phase lines))

-- where each worker has called these lines, and there are no others, the calls are those of outcomes that are theirs
own_order : (kind : Kind) (start : Start) (workers who : ℕ) (seen : List Event) (lines : List Line)
    (own : List (List Reply)) (outcomes : List Outcome) → machine.IsRun start workers seen →
    HaveCalled kind start workers lines own seen → All (λ line. line.worker < workers) lines →
    outcomes_by who outcomes ≡ zip (lines_by who lines) (replies_by who own) →
    calls_by who (world_after start seen).calls ≡ calls_by who (answered_calls kind outcomes)
own_order kind start workers who seen lines own outcomes is_run called below of_worker = elim (cases_lt who workers) [
  | inl one ↦ called who one ∙ sym (calls_by-answered kind who outcomes ∙ ap (answered_calls kind) of_worker)
  | inr none ↦
      let no_lines : zip (lines_by who lines) (replies_by who own) ≡ [] =
      ap (λ (some : List Line). zip some (replies_by who own)) (none_beyond workers who lines none below) in
      no_calls_beyond start workers who seen none is_run
      ∙ sym (calls_by-answered kind who outcomes ∙ ap (answered_calls kind) (of_worker ∙ no_lines))
]

-- each phase ends in the history
ends : (kind : Kind) (start : Start) (workers phases phase : ℕ) (lines : List Line) (own : List (List Reply))
    (replies : List Reply) (run : List Event) → ArePhased kind workers phases lines → IsMerged lines own replies →
    machine.IsRun start workers run → HavePlayed kind start workers phases lines own run →
    ((who : ℕ) → calls_by who (world_after start run).calls ≡ calls_by who (answered_calls kind (zip lines replies))) →
    EndsIn kind (world_after start run).calls (zip lines replies) phase
ends kind start workers phases phase lines own replies run phased merged is_run played all =
    elim (cases_lt phase phases) [
      | inl before ↦
          let end = played.ends phase before in
          let calls = calls_since start end.seen run end.begins in
          record {
            before = (world_after start end.seen).calls;
            after = calls.0;
            whole = calls.1;
            own_order = λ who.
                own_order kind start workers who end.seen (lines_up_to phase lines) own
                (outcomes_up_to phase (zip lines replies)) (begins_run start workers end.seen run end.begins is_run)
                end.called (All-filter (λ (line : Line). nat_le line.phase phase)
                (λ (line : Line). line.worker < workers) lines phased.workers_below)
                (of_worker_up_to kind phases workers who phase lines own replies phased merged);
          }
      | inr after ↦
          let whole = all_up_to phases phase (zip lines replies) after
          (all_lines (λ (line : Line). line.phase < phases) lines replies phased.phases_below) in
          record {
            before = (world_after start run).calls;
            after = [];
            whole = sym (append-nil (world_after start run).calls);
            own_order = λ who.
                all who ∙ ap (λ (some : List Outcome). calls_by who (answered_calls kind some)) (sym whole);
          }
    ]

-- what the workers have played by a safe run are the outcomes of one set, with the replies that they have merged
pub set_run_of_workers : (kind : Kind) (manner : Manner) (start : Start) (workers phases since : ℕ) (lines : List Line)
    (own : List (List Reply)) (replies : List Reply) (run : List Event) → manner start since (zip lines replies) run →
    ArePhased kind workers phases lines → IsMerged lines own replies → machine.IsRun start workers run →
    IsSafe start run → IsLegalFrom kind (opening_contents kind start) (world_after start run).calls →
    HavePlayed kind start workers phases lines own run →
    IsSetRun kind manner start workers since (zip lines replies) run
set_run_of_workers kind manner start workers phases since lines own replies run in_manner phased merged is_run safe
    legal played =
    let of_worker =
    λ (who : ℕ). outcomes_by-own who lines replies (replies_by who own) merged.one_each (merged.own_order who) in
    let all = λ (who : ℕ).
    own_order kind start workers who run lines own (zip lines replies) is_run played.called phased.workers_below
    (of_worker who) in
    let may = λ (outcome : Outcome).
    MayBeAnswered kind start.shape.last_epoch (world_after start run).epoch outcome.0.op outcome.1 in
    record {
      is_run = is_run;
      safe = safe;
      explains = record {
        legal = legal;
        own_order = all;
        phases = λ phase. ends kind start workers phases phase lines own replies run phased merged is_run played all;
      };
      refusals = all_outcomes may workers (zip lines replies)
          (all_lines (λ (line : Line). line.worker < workers) lines replies phased.workers_below)
          (λ who below. subst (All may) (sym (of_worker who)) (played.answers who below));
      played = in_manner;
    }
