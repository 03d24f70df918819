use Rattle.std.proofs.Common.{ℕ, ◌<◌, Option, sym, ◌∙◌, subst, arith}
use Rattle.vbr_machine.specs.Accounts.{incarnations_after}
use Rattle.vbr_slots.specs.runs.Rule.{with_opened}
use Rattle.vbr_set.proofs.reports.Walks.{left, walk_ends, walk_first, walk_nearer, walk_next, walked_as}
use Rattle.vbr_set.proofs.walking.note_list.Goals as goal

pub loop-next-init : goal.loop-next-init
loop-next-init c = λ opened run x.
    walked_as (sym c.next_at-next.ensures) (walk_first x c.args.bucket c.args.notes.now c.requires.bucket)

pub bounds-notes-slot : goal.bounds-notes-slot
bounds-notes-slot c =
    let walked = walked_as c.in-Some.is (c.loop-next.invariant c.requires.run.0 c.requires.run.1 c.requires.run.2) in
    let low = walked.reached.0 in
    omega arith

pub next_at-next-requires-in-Some-clause-place : goal.next_at-next-requires-in-Some-clause-place
next_at-next-requires-in-Some-clause-place c =
    (walked_as c.in-Some.is (c.loop-next.invariant c.requires.run.0 c.requires.run.1 c.requires.run.2)).reached.0

pub loop-next-smaller : goal.loop-next-smaller
loop-next-smaller c =
    let shape = c.args.shape.now in
    let words = c.args.words.now in
    let walked = walked_as c.in-Some.is (c.loop-next.invariant c.requires.run.0 c.requires.run.1 c.requires.run.2) in
    subst (λ (x : Option ℕ × Option ℕ). left shape words x.0 < left shape words x.1)
    (λ i. (sym c.next_at-next-in-Some.ensures i, sym c.in-Some.is i))
    (walk_nearer c.requires.run.2 c.args.bucket c.args.notes.now c.loop-next.notes c.in-Some.slot walked)

pub loop-next-preserved : goal.loop-next-preserved
loop-next-preserved c = λ opened run x.
    walked_as (sym c.next_at-next-in-Some.ensures)
    (walk_next x c.args.bucket c.args.notes.now c.loop-next.notes c.in-Some.slot
    (c.loop-next.auto.notes ∙ c.requires.room) (walked_as c.in-Some.is (c.loop-next.invariant opened run x)))

pub returns : goal.returns
returns c = λ opened run x.
    walk_ends (with_opened c.args.shape.now opened) (incarnations_after (with_opened c.args.shape.now opened) run)
    c.args.bucket c.args.notes.now c.loop-next.notes (walked_as c.in_default.is (c.loop-next.invariant opened run x))
