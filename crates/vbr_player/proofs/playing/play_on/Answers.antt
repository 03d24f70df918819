-- What was written is what the text that was read prints, and after a write fault a beginning of that.
use Rattle.std.proofs.Common.{ℕ, List, ◌∙◌, subst}
use Rattle.std.specs.Prelude.{zip}
use Rattle.std.specs.Io.KnownBytes.{Appends}
use Rattle.vbr_script.specs.Scripts.{IsScriptOf}
use Rattle.vbr_script.specs.declared.script.Kind.{Kind}
use Rattle.vbr_script.specs.declared.script.Line.{Line}
use Rattle.vbr_transcript.specs.Layout.{listed_text, text_of}
use Rattle.vbr_transcript.specs.Runs.{Counts}
use Rattle.vbr_transcript.specs.Writing.{AppendsSome}
use Rattle.vbr_transcript.specs.declared.reply.Reply.{Reply}
use Rattle.vbr_player.specs.Playing.{Prints}
use Rattle.vbr_player.proofs.Printing.{AreTotals, prints}
use Rattle.vbr_player.proofs.playing.play_on.Given.{Over}
use Rattle.vbr_player.proofs.playing.play_on.Goals.{After-write_whole}
use Rattle.vbr_player.proofs.playing.play_on.Goals as goal

-- what was read, played and counted is printed so
told : (g : Over) (c : After-write_whole g) → Prints g.N.Playable.script c.args.config c.in_ok-text.text.items
    (g.N.Playable.totals c.totals-totals.result) c.in_ok-output.output.items
told g c =
    let kind = g.N.Playable.script in
    let script = c.in_ok-script.script in
    let tally = c.tally_of-tally.result in
    let listed = g.N.Playable.listed c.in_ok-replies.report in
    let epoch = g.N.Playable.epoch c.in_ok-replies.report in
    let is = subst (λ (k : Kind × ℕ × List ℕ). IsScriptOf k.0 k.1 k.2 script)
    (λ i. (c.script.ensures i, c.workers.ensures.workers i, c.deref.ensures.value i)) c.in_ok-script.ensures.script in
    let are : AreTotals kind (g.N.Playable.totals c.totals-totals.result) tally listed epoch =
    record {
      tally_is = c.totals-totals.ensures.tally;
      listed_is = c.totals-totals.ensures.listed;
      epoch_is = c.totals-totals.ensures.epoch;
    } in
    let counts =
    subst (λ (k : List Line × List Reply). Counts tally (zip k.0 k.1))
    (λ i. (c.deref-2.ensures.value i, c.deref-3.ensures.value i)) c.tally_of-tally.ensures in
    let printed =
    c.in_ok-output.ensures
    ∙ (λ i. text_of (c.epoch.ensures i) (c.deref-4.ensures.value i) tally (listed_text kind listed) epoch) in
    prints c.args.config c.in_ok-text.text.items script c.in_ok-replies.replies.items
    (g.N.Playable.totals c.totals-totals.result) tally listed epoch c.in_ok-output.output.items is are
    c.in_ok-replies.ensures.one_each c.in_ok-replies.ensures.explained counts printed

pub returns-in-Ok : goal.returns-in-Ok
returns-in-Ok g c = (
  c.in_ok-text.text.items,
  c.in_ok-text.ensures.input,
  c.in_ok-output.output.items,
  told g (goal.at.returns-in-Ok g c).After-write_whole,
  subst (Appends (g.W.Write.contents c.args.writer.now) (g.W.Write.contents c.write_whole.new.writer))
      c.deref-5.ensures.value c.in-Ok.ensures.ok,
)

pub returns : goal.returns
returns g c = (
  c.in_ok-text.text.items,
  c.in_ok-text.ensures.input,
  g.N.Playable.totals c.totals-totals.result,
  c.in_ok-output.output.items,
  told g (goal.at.returns g c).After-write_whole,
  subst (AppendsSome (g.W.Write.contents c.args.writer.now) (g.W.Write.contents c.write_whole.new.writer))
      c.deref-5.ensures.value c.in-Err.ensures.fault,
)
