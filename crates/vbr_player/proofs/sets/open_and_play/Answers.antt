-- Each span is cut off the lines that are left, and one more set or map was played.
use Rattle.std.proofs.Common.{◌≡◌, ℕ, ◌+◌, ◌<◌, ◌≤◌, List, ◌++◌, length, get_or, refl, sym, ap, subst, ◌∙◌, arith}
use Rattle.std.specs.Prelude.{zip}
use Rattle.vbr_script.specs.Scripts.{ArePhased}
use Rattle.vbr_script.specs.declared.script.Kind.{Kind}
use Rattle.vbr_script.specs.declared.script.Line.{Line}
use Rattle.vbr_transcript.specs.Runs.{AreExplained}
use Rattle.vbr_transcript.specs.declared.reply.Reply.{Reply}
use Rattle.vbr_player.specs.Calling.{ArePlayed}
use Rattle.vbr_player.specs.Playing.{start_for}
use Rattle.vbr_player.specs.Spans.{PlayedSpan}
use Rattle.vbr_player.proofs.Finishing.{closed, closes, followed}
use Rattle.vbr_player.proofs.Spans.{HavePlayedSets, next_cut, next_span, last_span, renewal_here, no_renewal}
use Rattle.vbr_player.proofs.Spans.{one_more_played, all_sets, followed_as, played_as, span_as}
use Rattle.vbr_player.proofs.sets.open_and_play.Goals as goal

pub play_span-requires-clause-span : goal.play_span-requires-clause-span
play_span-requires-clause-span g c κs within =
    let laws = g.met.N.Playable g.world.𝓛 g.world.𝓜 g.world.𝓡 ((λ s x. x), (λ x. x), (λ x. x), λ x. x) in
    let l = c.loop-renewal in
    let script = c.args.script.now in
    let lent = c.deref-renewal-items.result.now in
    let inside : l.renewal-index < length lent = omega arith in
    let phased =
    subst (ArePhased g.N.Playable.script c.args.config.now.workers script.phases) (sym c.deref.ensures.value)
    c.requires.phased in
    span_as l.now.set.passes l.phase _ _ _ laws.asked c.slice.ensures.lines
    (next_span c.args.config.now.workers _ _ c.deref.result.now script.renewals.items lent script.phases l.now.set
    l.first l.phase l.renewal-index c.count_up_to.result _ phased c.deref-renewal-items.ensures.value inside
    c.count_up_to.ensures.count l.invariant.played)

pub renew-requires-clause-all : goal.renew-requires-clause-all
renew-requires-clause-all g c =
    closes c.loop-renewal.now.set _ _ _ _ c.in_ok-passes.passes.items _ c.in_ok-passes.ensures.played.whole

pub loop-renewal-preserved : goal.loop-renewal-preserved
loop-renewal-preserved g c =
    let laws = g.met.N.Playable g.world.𝓛 g.world.𝓜 g.world.𝓡 ((λ s x. x), (λ x. x), (λ x. x), λ x. x) in
    let kind = g.N.Playable.script in let config = c.args.config.now in let script = c.args.script.now in
    let l = c.loop-renewal in
    let set = l.now.set in
    let lines = c.deref.result.now in
    let lent = c.deref-renewal-items.result.now in
    let part = c.slice.result in
    let more = c.in_ok-passes.more.items in let next = c.in_ok-now-2.now.set in
    let inside : l.renewal-index < length lent = omega arith in
    let here = renewal_here script.renewals.items lent l.renewal-index c.deref-renewal-items.ensures.value inside in
    let cut = next_cut lines l.first c.count_up_to.result l.phase _ c.count_up_to.ensures.count
    l.invariant.played.later in
    let within : l.first + c.count_up_to.result ≤ length lines = omega arith in
    let phased = subst (ArePhased kind config.workers script.phases) (sym c.deref.ensures.value) c.requires.phased in
    let span = span_as set.passes l.phase _ part.lines.now _ refl c.slice.ensures.lines
    (next_span config.workers _ _ lines script.renewals.items lent script.phases set l.first l.phase l.renewal-index
    c.count_up_to.result _ phased c.deref-renewal-items.ensures.value inside c.count_up_to.ensures.count
    l.invariant.played) in
    let played =
    subst (λ (k : Kind).
    PlayedSpan k g.row.N.Denot set part.budget part.lines.now l.phase (get_or lent l.renewal-index 0 + 1)
    c.in_ok-passes.passes.items more) laws.asked c.in_ok-passes.ensures.played in
    let told = followed set part.budget part.lines.now l.phase _ c.in_ok-passes.passes.items more next span.phased
    l.invariant.fresh.some played c.in_ok-now-2.ensures.renewed in
    let goes_on = followed_as set _ _ _ _ _ more next c.slice.ensures.budget c.slice.ensures.lines told in
    let longer : c.extend_from_slice.new.self.items ≡ l.replies.items ++ more =
    c.in_ok-extend_from_slice.ensures.items
    ∙ ap (λ (some : List Reply). l.replies.items ++ some) c.deref-in-loop-renewal.ensures.value in
    record {
      inside = within;
      played = subst
          (HavePlayedSets kind config.workers (start_for kind config.shape) _ lines script.renewals.items script.phases
          next (l.first + c.count_up_to.result) _ (l.renewal-index + 1)) (sym longer)
          (one_more_played config.workers (start_for kind config.shape) _ lines script.renewals.items script.phases set
          next l.first l.phase l.renewal-index c.count_up_to.result _ l.replies.items more here within cut
          l.invariant.played goes_on);
      fresh = c.in_ok-now-2.ensures.fresh;
    }

pub play_span-requires-2-clause-span : goal.play_span-requires-2-clause-span
play_span-requires-2-clause-span g c κs within =
    let laws = g.met.N.Playable g.world.𝓛 g.world.𝓜 g.world.𝓡 ((λ s x. x), (λ x. x), (λ x. x), λ x. x) in
    let l = c.loop-renewal in let script = c.args.script.now in
    let phased =
    subst (ArePhased g.N.Playable.script c.args.config.now.workers script.phases) (sym c.deref.ensures.value)
    c.requires.phased in
    span_as l.now.set.passes l.phase script.phases _ _ laws.asked c.slice-2.ensures.lines
    (last_span c.args.config.now.workers _ _ c.deref.result.now script.renewals.items script.phases l.now.set l.first
    l.phase l.renewal-index _ phased l.invariant.played)

pub close-requires-clause-all : goal.close-requires-clause-all
close-requires-clause-all g c =
    closes c.loop-renewal.now.set _ _ _ _ c.in_ok-passes-2.passes.items _ c.in_ok-passes-2.ensures.played.whole

pub returns : goal.returns
returns g c =
    let laws = g.met.N.Playable g.world.𝓛 g.world.𝓜 g.world.𝓡 ((λ s x. x), (λ x. x), (λ x. x), λ x. x) in
    let kind = g.N.Playable.script in let config = c.args.config.now in let script = c.args.script.now in
    let l = c.loop-renewal in
    let set = l.now.set in
    let lines = c.deref.result.now in
    let part = c.slice-2.result in
    let more = c.in_ok-passes-2.more.items in
    let report = c.in_ok-report.report in
    let listed = g.N.Playable.listed report in
    let epoch = g.N.Playable.epoch report in
    let none = no_renewal script.renewals.items c.deref-renewal-items.result.now l.renewal-index
    c.deref-renewal-items.ensures.value (omega arith) in
    let phased = subst (ArePhased kind config.workers script.phases) (sym c.deref.ensures.value) c.requires.phased in
    let span = span_as set.passes l.phase script.phases part.lines.now _ refl c.slice-2.ensures.lines
    (last_span config.workers _ _ lines script.renewals.items script.phases set l.first l.phase l.renewal-index _ phased
    l.invariant.played) in
    let played =
    subst (λ (k : Kind).
    PlayedSpan k g.row.N.Denot set part.budget part.lines.now l.phase script.phases c.in_ok-passes-2.passes.items more)
    laws.asked c.in_ok-passes-2.ensures.played in
    let told = closed set part.budget part.lines.now l.phase script.phases c.in_ok-passes-2.passes.items more listed
    epoch span.phased l.invariant.fresh.some played c.in_ok-report.ensures.closes in
    let last = played_as set _ _ _ _ _ more listed epoch c.slice-2.ensures.budget c.slice-2.ensures.lines told in
    let longer : c.extend_from_slice-2.new.self.items ≡ l.replies.items ++ more =
    c.in_ok-extend_from_slice-2.ensures.items
    ∙ ap (λ (some : List Reply). l.replies.items ++ some) c.deref-2.ensures.value in
    let all = all_sets _ _ _ _ _ _ _ _ _ _ _ more listed epoch none l.invariant.played last in
    let P : ℕ × List Line × List Reply → Type 0 =
    λ k. (length k.2 ≡ length k.1) ×
    AreExplained kind (ArePlayed kind config.workers k.0) (start_for kind config.shape) config.workers 0 script.phases
    script.renewals.items (zip k.1 k.2) listed epoch in
    let asked = subst P (λ i. (c.budget.ensures i, c.deref.ensures.value i, sym longer i)) all in
    record { one_each = asked.0; explained = asked.1; fault = tt }
