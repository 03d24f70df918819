use Rattle.std.proofs.Common.{◌≤◌, length, sym, subst, ◌∙◌, arith}
use Rattle.vbr_slots.specs.runs.Snapshots.{EachLow}
use Rattle.vbr_slots.proofs.runs.Snapshots.{are_read, asks_to_read, words_are}
use Rattle.vbr_slots.proofs.steps.Steps.{Sat}
use Rattle.vbr_slots.proofs.slots.Slots.read_all_as.Goals as goal

pub load-found-requires : goal.load-found-requires
load-found-requires g c =
    let i = c.loop-index.invariant in
    let table = c.args.self.now in
    asks_to_read c.self.inside table c.self.invariant c.self.view_is _ (i.table ∙ c.requires.seat.table) _
    c.loop-index.seat.me
    (subst (λ (me : Sat). EachLow table.passes me.0) (sym i.me) c.requires.seat.low)
    (subst (λ (me : Sat). table.passes ≤ length me.0) (sym i.me) c.requires.all)
    c.loop-index.index (let low = c.loop-index-test.true in
    let end = c.word_count-index-end.ensures in
    let auto = c.loop-index.auto in
    omega arith) _ c.requires.named

pub returns-clause-read : goal.returns-clause-read
returns-clause-read g c =
    let i = c.loop-index.invariant in
    let table = c.args.self.now in
    let all = words_are c.self.inside table c.self.invariant c.self.view_is in
    let high = c.loop-index-test.false in
    let low = c.loop-index.auto.index-end in
    let end = c.word_count-index-end.ensures in
    let count = i.count in
    are_read table c.args.seat.now.me.0 c.loop-index.words.items (omega arith) i.each
