use Rattle.std.proofs.Common.{◌≡◌, eqb, length, sym, ap, ◌∙◌, arith}
use Rattle.std.specs.Prelude.{count_by}
use Rattle.std.proofs.lemmas.List.Sums.{length-filter}
use Rattle.vbr_transcript.specs.Calls.{lines_by}
use Rattle.vbr_script.specs.declared.script.Line.{Line}
use Rattle.vbr_player.proofs.opening.new_worker.Goals as goal

pub returns : goal.returns
returns g c =
    let lines = c.args.lines.now in
    let own : length (lines_by c.args.pass.trace.who lines) ≡ c.count_of-own.result =
    length-filter (λ (line : Line). eqb line.worker c.args.pass.trace.who) lines
    ∙ sym (c.count_of-own.ensures
    ∙ ap (λ who. count_by (λ (line : Line). eqb line.worker who) lines) c.who.ensures.who) in
    let room = c.in_ok-replies.ensures.capacity in
    record { caller_is = c.with_pass.ensures; none = c.in_ok-replies.ensures.items; room = omega arith }
