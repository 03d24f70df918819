use Rattle.std.proofs.Common.{rules, ◌≡◌, ℕ, length, ◌<◌, ◌∙◌, subst, arith}
use Rattle.std.specs.Prelude.{slice_index_or}
use Rattle.vbr_set.proofs.many_keys.InTurn.{so_far_more}
use Rattle.vbr_set.proofs.batches.look_up_all.Goals.{then-i-eq0, else-i-eq0}
use Rattle.vbr_set.proofs.batches.look_up_all.Goals as goal

pub loop-i-preserved : goal.loop-i-preserved
loop-i-preserved g c =
    let Calls : g.row.W.Denot → g.row.W.Denot → ℕ → g.row.A.Denot → Type 0 =
    λ m n key answer. g.W.LooksUp.told m n key c.args.budget answer in
    let many : length c.loop-i.answers ≡ length c.args.keys.now = c.loop-i.invariant.1 in
    let same : c.if-i-eq0.who ≡ c.loop-i.who =
    elim c.if-i-eq0.branch [ then-i-eq0 w ↦ w.who-is ∙ w.warm.ensures | else-i-eq0 w ↦ w.who-is ] in
    let call = subst
    (λ (who : g.row.W.Denot).
    Calls who c.look_up.new.self (slice_index_or c.args.keys.now c.loop-i.i 0) c.look_up.result) same
    c.look_up.ensures in
    let low : c.loop-i.i < length c.args.keys.now = search rules in (
      so_far_more Calls c.args.who.now c.loop-i.who c.look_up.new.self c.args.keys.now c.loop-i.answers c.loop-i.i 0
          c.look_up.result low (omega (arith, many, low)) c.loop-i.invariant.0 call,
      search rules,
    )
