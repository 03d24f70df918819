-- Each row is the first of those that are left.
use Rattle.std.proofs.Common.{◌≡◌, Bool, cond, sym, ap, ◌∙◌, rules}
use Rattle.vbr_event_lists.specs.Worked.{others_of}
use Rattle.vbr_table_tests.proofs.listed_calls.Following.{stands_later}
use Rattle.vbr_table_tests.proofs.listed_calls.follow.Goals as goal

pub loop-row-preserved-then-names_link : goal.loop-row-preserved-then-names_link
loop-row-preserved-then-names_link g c =
    let words = c.loop-row.words.now in
    stands_later c.args.slots.now c.loop-row.a c.loop-row.b c.make.new.a c.make.new.b c.in-Some.row.now
    c.in-Some.later.now c.loop-row.rows.now words _ (search rules)
    (ap (λ (b : Bool). cond b (others_of words) words) (sym c.names_link.ensures ∙ c.if-names_link.true)
    ∙ sym c.first_and_others-first.ensures.others) c.loop-row.invariant c.make.ensures.first c.make.ensures.second

pub loop-row-preserved : goal.loop-row-preserved
loop-row-preserved g c =
    let words = c.loop-row.words.now in
    stands_later c.args.slots.now c.loop-row.a c.loop-row.b c.make.new.a c.make.new.b c.in-Some.row.now
    c.in-Some.later.now c.loop-row.rows.now words _ (search rules)
    (ap (λ (b : Bool). cond b (others_of words) words) (sym c.names_link.ensures ∙ c.if-names_link.false))
    c.loop-row.invariant c.make.ensures.first c.make.ensures.second
