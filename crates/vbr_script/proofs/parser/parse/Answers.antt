-- One more line was read; and the script that a text is, is phased.
use Rattle.std.proofs.Common.{◌≡◌, ◌+◌, ◌∙◌, ◌++◌, ◌∷◌, [], length, rules, arith}
use Rattle.vbr_script.specs.Text.{lines_of, tokens_of}
use Rattle.vbr_script.specs.Grammar.{meaning_of}
use Rattle.vbr_script.specs.Scripts.{script_of, phases_of, renewals_of, limited}
use Rattle.vbr_script.proofs.LinesRead.{HasRead, all_meanings, first_left, read_blank, read_sync, read_renew, read_asks}
use Rattle.vbr_script.proofs.PhasedScripts.{phased, renewed}
use Rattle.vbr_script.proofs.parser.parse.Goals.{in-Blank, in-Sync, in-Renew+in_ok-map_err-in-Renew}
use Rattle.vbr_script.proofs.parser.parse.Goals.{in-Asks+in_ok-map_err-in-Asks}
use Rattle.vbr_script.proofs.parser.parse.Goals as goal

pub loop-phase-preserved : goal.loop-phase-preserved
loop-phase-preserved c =
    let inv = c.loop-phase.invariant in
    let told = rw c.in-Some.is at c.first_line.ensures in
    let means : limited (length c.loop-phase.lines.items) c.loop-phase.phase
    (meaning_of c.args.kind c.args.workers (tokens_of c.first_line.result.0.now)) ≡ c.limited.result = search rules in
    let before =
    first_left _ _ _ _ _ _ _ c.loop-phase.rest.now c.first_line.result.0.now c.in-Some.text.now told.0 inv.read in
    let after : HasRead c.args.kind c.args.workers c.args.text.now c.match-limited.lines.items
    c.match-limited.renewals.items c.match-limited.phase (c.loop-phase.number + 1)
    (all_meanings c.args.kind c.args.workers (lines_of c.in-Some.text.now)) = elim c.match-limited.branch [
      | in-Blank w ↦
          rw (w.lines-is, w.renewals-is, w.phase-is) (read_blank _ _ _ _ _ _ _ _ _ before (means ∙ w.in-Blank.is))
      | in-Sync w ↦
          rw (w.lines-is, w.renewals-is, w.phase-is) (read_sync _ _ _ _ _ _ _ _ _ before (means ∙ w.in-Sync.is))
      | in-Renew+in_ok-map_err-in-Renew w ↦
          let pushed : w.push.new.self.items ≡ c.loop-phase.renewals.items ++ c.loop-phase.phase ∷ [] = search rules in
          rw (w.lines-is, w.renewals-is, w.phase-is, pushed)
          (read_renew _ _ _ _ _ _ _ _ _ before (means ∙ w.in-Renew.is))
      | in-Asks+in_ok-map_err-in-Asks w ↦
          let asked = w.in-Asks in
          let pushed : w.push-in-Asks.new.self.items
          ≡ c.loop-phase.lines.items ++ record {
            phase = c.loop-phase.phase;
            worker = asked.worker;
            op = asked.op;
            key = asked.key;
            value = asked.value;
          } ∷ [] = search rules in
          rw (w.lines-is, w.renewals-is, w.phase-is, pushed)
          (read_asks _ _ _ _ _ _ _ _ _ _ _ _ _ before (means ∙ asked.is))
    ] in
    record { read = after; place = omega arith }

pub returns-in-None-clause-script : goal.returns-in-None-clause-script
returns-in-None-clause-script c =
    let lines : c.match-limited.lines.items ≡ script_of c.args.kind c.args.workers c.args.text.now = search rules in
    let phases : c.match-limited.phase + 1 ≡ phases_of c.args.kind c.args.workers c.args.text.now = search rules in
    let renewals : c.match-limited.renewals.items ≡ renewals_of c.args.kind c.args.workers c.args.text.now =
    search rules in
    record {
      faultless = search rules;
      lines = lines;
      phases = phases;
      renewals = renewals;
      phased = rw (lines, phases) (phased c.args.kind c.args.workers c.args.text.now);
      renewed = rw (renewals, phases) (renewed c.args.kind c.args.workers c.args.text.now);
      limits = (search rules, search rules);
    }
