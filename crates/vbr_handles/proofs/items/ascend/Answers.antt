use Rattle.vbr_handles.proofs.Names.{rules, List, ℕ, ◌≡◌, ◌+◌, ◌-◌, ◌<◌, slice_index_or, sym, subst, ◌∙◌, arith}
use Rattle.vbr_handles.proofs.Names.{IsStrictlyIncreasing, get_or_default}
use Rattle.vbr_handles.proofs.EntryKeys.{ascending, below_next}
use Rattle.vbr_handles.proofs.items.ascend.Goals as goal

pub returns-clause-ascending : goal.returns-clause-ascending
returns-clause-ascending g c = λ _.
    subst (λ (keys : List ℕ). IsStrictlyIncreasing keys) (sym (g.met.I.Listed.keys c.args.items.now))
    (ascending g.I.Listed.key c.args.items.now (λ k d within. search rules))

pub returns-then-key-clause-not : goal.returns-then-key-clause-not
returns-then-key-clause-not g c = λ _ all.
    let items = c.args.items.now in
    let i = c.loop-i.i in
    let last = c.index-items-i.result in
    let next = c.index-items-i-in-loop-i.result in
    let here : i - 1 + 1 ≡ i = omega arith in
    let ascend = subst (λ (keys : List ℕ). IsStrictlyIncreasing keys) (g.met.I.Listed.keys items) all in
    let there = c.index-items-i-in-loop-i.is ∙ get_or_default items i next last (omega arith) in
    let below = subst
    (λ (n : ℕ). g.I.Listed.key (slice_index_or items (i - 1) last) < g.I.Listed.key (slice_index_or items n last)) here
    (below_next g.I.Listed.key items ascend (i - 1) last (omega (arith, here))) in
    let low : g.I.Listed.key last < g.I.Listed.key next = rw (c.index-items-i.is, there) below in
    search (rules, low)
