-- What an answer left stands on, while its pass makes no call.
use Rattle.std.proofs.Common.{◌≡◌, List, ◌++◌, ap, ◌∙◌, append_assoc}
use Rattle.vbr_machine.specs.Start.{Start}
use Rattle.vbr_machine.specs.declared.history.Call.{Call}
use Rattle.vbr_machine.proofs.Lemmas.{begins_trans, calls_since}
use Rattle.vbr_slots.specs.steps.Calls.{Quiet}
use Rattle.vbr_slots.specs.steps.PassLaw.{PassLaw}
use Rattle.vbr_slots.specs.views.Views.{PassView, Trace}
use Rattle.vbr_slots.proofs.Lemmas.{same_on}
use Rattle.vbr_set.specs.histories.Answers.{AnswersAll, Follows}
use Rattle.vbr_set.specs.histories.Histories.{calls_of}
use Rattle.vbr_set.specs.Laws.{AnswersStay}
use Rattle.vbr_set.proofs.histories.Histories.{reads_right}
use Rattle.vbr_set.proofs.histories.MapHistories.{RunsAreMaps}

-- calls that stand in a history stand in each that goes on from it
follows_more : {first calls history longer : List Call} → Follows first calls history → (more : List Call) →
    longer ≡ history ++ more → Follows first calls longer
follows_more {first} {calls} {history} {longer} follows more is = record {
  between = follows.between;
  more = follows.more ++ more;
  stands = is
      ∙ ap (λ l. l ++ more) follows.stands
      ∙ append_assoc (first ++ follows.between) (calls ++ follows.more) more
      ∙ ap (λ l. (first ++ follows.between) ++ l) (append_assoc calls follows.more more);
}

stays : (calls : List Call) (p : Trace) (q r : PassView) → PassLaw r → AnswersAll calls p q.trace →
    Quiet q.trace r.trace → AnswersAll calls p r.trace
stays calls p q r law a quiet =
    let more = calls_since q.trace.start q.trace.seen r.trace.seen quiet.seen in
    record {
      same = same_on a.same quiet.same;
      begins = begins_trans p.seen q.trace.seen r.trace.seen a.begins quiet.seen;
      is_run = law.is_run;
      legal = law.safe.legal;
      once = quiet.calls ∙ a.once;
      together = follows_more a.together more.0 (ap (λ (s : Start). calls_of s r.trace.seen) quiet.same.start ∙ more.1);
      exchanges = law.safe.exchanges;
      reads = reads_right r.trace.start r.trace.passes r.trace.seen law.start law.is_run;
      safe = law.safe;
    }

pub answers_stay : RunsAreMaps → AnswersStay
answers_stay maps = record {
  set = stays;
  map = λ calls p q r law a quiet. record {
    answers = stays calls p q r law a.answers quiet;
    legal = maps r.trace.start r.trace.passes r.trace.seen law.start law.is_run;
    gives = a.gives;
  };
}
