-- Each line takes the next reply of its worker.
use Rattle.std.proofs.Common.{◌≡◌, ℕ, get_or, subst, ◌∙◌, arith}
use Rattle.std.proofs.lemmas.List.{get_or_default}
use Rattle.vbr_transcript.proofs.Merged.{finds_reply}
use Rattle.vbr_transcript.proofs.merging.merge.Goals as goal

pub index-requires-in-loop-line : goal.index-requires-in-loop-line
index-requires-in-loop-line c =
    let found = finds_reply (λ replies. replies.items) c.args.lines.now c.args.own.now c.loop-line.next.items
    c.loop-line.merged.items c.loop-line.line-index _ c.index-own-worker.result c.requires.replies c.loop-line.invariant
    c.loop-line-test.true c.index-own-worker.is in
    let read = c.index.ensures ∙ get_or_default c.loop-line.next.items _ c.index.result.now 0 found.cursor in
    omega (arith, found.some, read)

pub overflow_add-index_mut : goal.overflow_add-index_mut
overflow_add-index_mut c =
    let found = finds_reply (λ replies. replies.items) c.args.lines.now c.args.own.now c.loop-line.next.items
    c.loop-line.merged.items c.loop-line.line-index _ c.index-own-worker.result c.requires.replies c.loop-line.invariant
    c.loop-line-test.true c.index-own-worker.is in
    let raised =
    c.index_mut.ensures.value ∙ get_or_default c.loop-line.next.items _ c.index_mut.result.now 0 found.cursor in
    let room = c.index-own-worker.result.ok in
    omega (arith, found.some, raised, room.0, room.1, c.index-own-worker.result.small)

pub loop-line-preserved : goal.loop-line-preserved
loop-line-preserved c =
    let found = finds_reply (λ replies. replies.items) c.args.lines.now c.args.own.now c.loop-line.next.items
    c.loop-line.merged.items c.loop-line.line-index _ c.index-own-worker.result c.requires.replies c.loop-line.invariant
    c.loop-line-test.true c.index-own-worker.is in
    let read = c.index.ensures ∙ get_or_default c.loop-line.next.items _ c.index.result.now 0 found.cursor in
    let raised =
    c.index_mut.ensures.value ∙ get_or_default c.loop-line.next.items _ c.index_mut.result.now 0 found.cursor in
    rw (raised, c.in_ok-push.ensures.items)
    (found.more c.index-in-loop-line.result.now
    (subst (λ (n : ℕ).
    c.index-in-loop-line.result.now ≡ get_or c.index-own-worker.result.items n c.index-in-loop-line.result.now) read
    c.index-in-loop-line.ensures))
