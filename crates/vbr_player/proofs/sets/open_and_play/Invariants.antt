use Rattle.std.proofs.Common.{◌≤◌, length}
use Rattle.vbr_player.specs.Opened.{IsJustOpened}
use Rattle.vbr_player.specs.Playing.{start_for}
use Rattle.vbr_player.proofs.Spans.{HavePlayedSets}
use Rattle.vbr_player.proofs.sets.open_and_play.Given as goal

-- the spans so far were played, and this one is new
abbrev pub invariant-loop-renewal : goal.invariant-loop-renewal
invariant-loop-renewal g l = record {
  inside : l.first ≤ length l.whole.lines.now;
  played : HavePlayedSets g.N.Playable.script l.config.workers (start_for g.N.Playable.script l.config.shape)
      l.whole.budget l.whole.lines.now l.script.renewals.items l.script.phases l.now.set l.first l.phase l.renewal-index
      l.replies.items;
  fresh : IsJustOpened g.N.Playable.script l.now;
}
