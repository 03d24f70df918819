use Rattle.std.proofs.Common.{◌≡◌, ℕ, subst, arith}
use Rattle.vbr_machine.specs.Accounts.{incarnations_after}
use Rattle.vbr_slots.specs.runs.Rule.{with_opened}
use Rattle.vbr_set.proofs.reports.Walks.{NotedBelow, lists_end}
use Rattle.vbr_set.proofs.walking.note_lists.Goals as goal

pub returns : goal.returns
returns c = λ opened run x.
    let start = with_opened c.args.shape.now opened in
    let a = incarnations_after start run in
    let low = c.loop-bucket-test.false in
    let high = c.loop-bucket.auto.bucket-end in
    let end = c.buckets-bucket-end.ensures.buckets in
    let all : c.loop-bucket.bucket ≡ start.shape.buckets = omega (arith, low, high, end) in
    lists_end start a c.loop-bucket.notes
    (subst (λ (b : ℕ). NotedBelow start a b c.loop-bucket.notes) all (c.loop-bucket.invariant opened run x))
    x.is_start.shape.some_bucket
