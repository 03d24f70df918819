-- New workers stand before the first phase.
use Rattle.std.proofs.Common.{◌≡◌, ℕ, zero, suc, ◌+◌, ◌-◌, ◌*◌, ◌≤◌, get_or, List, [], ◌∷◌, ◌++◌, length, refl, sym, ap}
use Rattle.std.proofs.Common.{subst, ◌∙◌, arith}
use Rattle.std.specs.Prelude.{All, None}
use Rattle.std.specs.List.{AllZip}
use Rattle.std.proofs.lemmas.List.Elements.{All-nil, All-cons}
use Rattle.vbr_machine.specs.Runs.{Begins}
use Rattle.vbr_machine.specs.declared.event.Event.{Event}
use Rattle.vbr_slots.specs.views.Views.{PassView, TableView, IsOf, new_pass, new_passes, steps_of}
use Rattle.vbr_slots.specs.steps.Calls.{made_by}
use Rattle.vbr_set.specs.calls.Members.{MemberView, as_member}
use Rattle.vbr_transcript.specs.Calls.{Outcome, lines_by, lines_up_to}
use Rattle.vbr_script.specs.Scripts.{AscendFrom}
use Rattle.vbr_transcript.proofs.Lemmas.{ascend_lower}
use Rattle.vbr_player.specs.Standing.{AreNumberedFrom, HasPlayed, IsNewWorker, Stand}
use Rattle.vbr_player.specs.Working.{TellsReply}
use Rattle.vbr_script.specs.declared.script.Kind.{Kind}
use Rattle.vbr_script.specs.declared.script.Line.{Line}
use Rattle.vbr_player.specs.declared.worker.Worker.{Worker}
use Rattle.vbr_player.proofs.Slices.{lines_up_to-front}
use Rattle.vbr_player.proofs.Starting.{one_behind}

-- each new pass is of its set, and has no slot in hand
pub new_are_of : (set : TableView) (who n : ℕ) →
    All (λ pass. IsOf pass.trace set × (pass.hand ≡ None)) (new_passes set who n)
new_are_of set who zero = All-nil (λ (pass : PassView). IsOf pass.trace set × (pass.hand ≡ None))
new_are_of set who (suc n) =
    All-cons (λ (pass : PassView). IsOf pass.trace set × (pass.hand ≡ None)) (new_pass set who)
    (new_passes set (suc who) n) ((refl, refl, refl), refl) (new_are_of set (suc who) n)

-- and so is each of them
pub new_is_of : (set : TableView) (n : ℕ) (passes before : List PassView) (pass : PassView) (after : List PassView) →
    passes ≡ new_passes set 0 n → before ++ (pass ∷ after) ≡ passes → IsOf pass.trace set × (pass.hand ≡ None)
new_is_of set n passes before pass after are all =
    one_behind (λ (p : PassView). IsOf p.trace set × (p.hand ≡ None)) before pass after
    (subst (λ (ps : List PassView). All (λ p. IsOf p.trace set × (p.hand ≡ None)) ps) (sym (all ∙ are))
    (new_are_of set 0 n))

-- a new worker has played no lines
new_played : {N : Type 0} →
    (kind : Kind) (set : TableView) (budget most : ℕ) (script : List Line) (who : ℕ) (worker : Worker N) →
    IsNewWorker set script (new_pass set who) worker → HasPlayed kind set budget most script [] worker
new_played kind set budget most script who worker new =
    let is : worker.caller.pass ≡ new_pass set who = ap (λ (m : MemberView). m.pass) new.caller_is in
    let number : worker.caller.pass.trace.who ≡ who = ap (λ (p : PassView). p.trace.who) is in
    let own : length (lines_by worker.caller.pass.trace.who script) ≡ length (lines_by who script) =
    ap (λ (k : ℕ). length (lines_by k script)) number in
    let room = new.room in
    record {
      set_is = ap (λ (m : MemberView). m.set) new.caller_is;
      of = (
        ap (λ (p : PassView). p.trace.table) is,
        ap (λ (p : PassView). p.trace.start) is,
        ap (λ (p : PassView). p.trace.passes) is,
      );
      one_each = ap length new.none;
      calls = ap (λ (p : PassView). made_by p.trace) is;
      tells = All-nil (λ (outcome : Outcome). TellsReply kind worker.caller.pass.trace outcome.0.op outcome.1);
      in_turn = (0, new.caller_is ∙ ap (λ (k : ℕ). as_member set (new_pass set k)) (sym number));
      steps = (let none : steps_of worker.caller.pass.trace ≡ 0 = ap (λ (p : PassView). steps_of p.trace) is in
          omega arith);
      room = omega arith;
    }

all_played : {N : Type 0} →
    (kind : Kind) (set : TableView) (budget most : ℕ) (script : List Line) (who n : ℕ) (workers : List (Worker N)) →
    AllZip (IsNewWorker set script) (new_passes set who n) workers →
    (length workers ≡ n) × AreNumberedFrom who workers × All (HasPlayed kind set budget most script []) workers
all_played kind set budget most script who zero [] are = (refl, tt, All-nil (HasPlayed kind set budget most script []))
all_played kind set budget most script who (suc n) (w ∷ ws) are =
    let rest = all_played kind set budget most script (suc who) n ws are.1 in (
      ap suc rest.0,
      (ap (λ (m : MemberView). m.pass.trace.who) are.0.caller_is, rest.1),
      All-cons (HasPlayed kind set budget most script []) w ws (new_played kind set budget most script who w are.0)
          rest.2,
    )
all_played kind set budget most script who zero (w ∷ ws) are = absurd are
all_played kind set budget most script who (suc n) [] are = absurd are

pub new_stand : {N : Type 0} {kind : Kind} →
    (set : TableView) (script : List Line) (passes : List PassView) (n : ℕ) (workers : List (Worker N)) →
    passes ≡ new_passes set 0 n → AllZip (IsNewWorker set script) passes workers → (budget : ℕ) →
    Stand kind set budget script [] n 0 0 workers
new_stand {N} {kind} set script passes n workers is are budget =
    let all = all_played kind set budget ((n - 1) * (0 - 0)) script 0 n workers
    (subst (λ (ps : List PassView). AllZip (IsNewWorker set script) ps workers) is are) in
    record {
      count_is = all.0;
      order = omega arith;
      numbered = all.1;
      played = all.2;
      ended = λ phase none. absurd (omega arith);
    }

-- after phases that have no lines they stand too
pub stand_from : {N : Type 0} {kind : Kind} →
    (set : TableView) (budget : ℕ) (script : List Line) (from count : ℕ) (workers : List (Worker N)) →
    AscendFrom from script → Stand kind set budget script [] count 0 0 workers →
    Stand kind set budget script [] count from from workers
stand_from {N} {kind} set budget script from count workers up stand = record {
  count_is = stand.count_is;
  order = omega arith;
  numbered = stand.numbered;
  played = subst (λ (k : ℕ). All (HasPlayed kind set budget ((count - 1) * k) script []) workers)
      (let none : 0 ≡ from - from = omega arith in none) stand.played;
  ended = λ phase before.
      let none : lines_up_to phase script ≡ [] =
      lines_up_to-front phase [] script (All-nil (λ (line : Line). line.phase ≤ phase))
      (ascend_lower (phase + 1) from script (omega arith) up) in
      record {
        seen = [];
        begins = λ k d inside. begins_nothing (get_or workers k d).caller.pass.trace.seen;
        replied = λ who inside. rw none (omega arith);
        called = λ who inside. rw none refl;
      };
}
  where
    begins_nothing : (events : List Event) → Begins [] events
    begins_nothing events = (events, refl)
