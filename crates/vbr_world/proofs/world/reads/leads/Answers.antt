use Rattle.std.proofs.Common.{ℕ, Option, refl, arith, true≢false, sym, ◌∙◌}
use Rattle.vbr_world.specs.MarkedWalks.{EndsAt}
use Rattle.vbr_world.proofs.MarkedSearches.{reached, reached_here, never, none_yet, one_turn, same_slot}
use Rattle.vbr_world.proofs.world.reads.leads.Goals as goal

pub loop-init : goal.loop-init
loop-init c = record { here = refl; none = λ turns lt. absurd (omega arith) }

pub returns-then-ends_at : goal.returns-then-ends_at
returns-then-ends_at c =
    let P : Option ℕ → Type 0 = EndsAt c.args.reads.now c.args.above in (
      λ _. let m =
          reached P c.args.reads.now c.args.next c.loop.here c.loop.counter c.loop.invariant.here c.args.most
          (let h = c.loop-test.true in omega arith) (c.ends_at.ensures.0 c.if-ends_at.true) in
          record { turns = m.0; within = m.1; ends = m.2 },
      λ _. refl,
    )

pub returns-then-eq : goal.returns-then-eq
returns-then-eq c =
    let P : Option ℕ → Type 0 = EndsAt c.args.reads.now c.args.above in
    let not : ¬ (P c.loop.here) = λ h. true≢false (sym (c.ends_at.ensures.1 h) ∙ c.if-ends_at.false) in
    let still = sym c.past_marked-there.ensures
    ∙ same_slot c.past_marked-there.result c.loop.here (sym c.eq.ensures ∙ c.if-eq.true) in (
      λ e. absurd (true≢false (sym e)),
      λ m. absurd (never P c.args.reads.now c.args.next c.loop.here c.loop.counter c.loop.invariant.here still not
          c.loop.invariant.none m.turns m.ends),
    )

pub loop-preserved : goal.loop-preserved
loop-preserved c =
    let P : Option ℕ → Type 0 = EndsAt c.args.reads.now c.args.above in
    record {
      here = c.past_marked-there.ensures
          ∙ one_turn P c.args.reads.now c.args.next c.loop.here c.loop.counter c.loop.invariant.here;
      none = none_yet P c.args.reads.now c.args.next c.loop.here c.loop.counter c.loop.invariant.here
          (λ h. true≢false (sym (c.ends_at.ensures.1 h) ∙ c.if-ends_at.false)) c.loop.invariant.none;
    }

pub returns : goal.returns
returns c =
    let P : Option ℕ → Type 0 = EndsAt c.args.reads.now c.args.above in
    let e = c.loop.auto.counter-end in
    let f = c.loop-test.false in (
      λ t. let m =
          reached P c.args.reads.now c.args.next c.loop.here c.loop.counter c.loop.invariant.here c.args.most e
          (c.ends_at-2.ensures.0 t) in record { turns = m.0; within = m.1; ends = m.2 },
      λ m. c.ends_at-2.ensures.1
          (reached_here P c.args.reads.now c.args.next c.loop.here c.loop.counter c.loop.invariant.here
          c.loop.invariant.none m.turns (let le = m.within in omega arith) m.ends),
    )
