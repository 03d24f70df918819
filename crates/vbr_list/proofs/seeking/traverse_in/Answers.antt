use Rattle.vbr_list.proofs.Names.{rules, ◌≡◌, ◌+◌, sym, ap, ◌∙◌, subst, arith, Bool, true, not, Option, ℕ, is_none}
use Rattle.vbr_list.proofs.Names.{is_some, Held, Link, link_of, said, said_marked}
use Rattle.vbr_list.proofs.traversals.Disturbing.{moves_epoch}
use Rattle.vbr_list.proofs.look_ups.Following.{follows_head, follows_marked, follows_node, peeks_behind, peeks_visit}
use Rattle.vbr_list.proofs.look_ups.Following.{no_slot, tells_next, tells_none, value_lost, value_paid, visit_lost}
use Rattle.vbr_list.proofs.pieces.Going.{goes_read, table_on}
use Rattle.vbr_list.proofs.pieces.Observing.{reads_observe}
use Rattle.vbr_list.proofs.traversals.Traversals.{Follows}
use Rattle.vbr_list.proofs.look_ups.ValueReads.{steps_read}
use Rattle.vbr_list.proofs.traversals.Visits.{paid_so_far, starts_none}
use Rattle.vbr_list.proofs.pieces.WideWords.{layout_at}
use Rattle.vbr_list.proofs.seeking.traverse_in.Goals as goal

is_last_so : (is_last : Bool) (slot : Option ℕ) → is_some slot ≡ not is_last → is_last ≡ is_none slot
is_last_so is_last slot e = grind arith

pub loop-here-init : goal.loop-here-init
loop-here-init g c =
    let reads = c.start_at-head.ensures.reads in (
      c.start_at-head.ensures.table,
      (
        (said c.args.at.now.slots.now c.in-Ok.here),
        follows_head c.law.ensures c.args.bucket c.args.from c.args.used.now (c.args.used.now + 3) c.args.budget
            (said c.args.at.now.slots.now c.in-Ok.here)
            (record { goes = goes_read c.args.used.now reads; observes = reads_observe reads })
            (omega arith) (c.affords.ensures.0 c.if-not-affords.false) c.in-Ok.ensures.head,
      ),
    )

pub visit_at-requires-clause-held : goal.visit_at-requires-clause-held
visit_at-requires-clause-held g c = rw c.loop-here.invariant.0.slots c.loop-here.invariant.1.1.inside.held

pub loop-here-preserved-in-Ok-Marked : goal.loop-here-preserved-in-Ok-Marked
loop-here-preserved-in-Ok-Marked g c =
    let v = c.visit_at.ensures in
    let i = c.loop-here.invariant in
    let met = rw c.loop-here.invariant.0.slots at (rw c.in-Ok-Marked.field-0-is at c.in-Ok-Marked.ensures.met) in
    let fits = c.affords-in-loop-here.ensures.0 c.if-not-affords-2.false in
    let P : Held → Type 0 = λ h.
    Follows c.args.at.now.stepper.now c.visit_at.new.at.stepper.now c.args.bucket c.args.from c.args.used.now
    c.visit_at.new.used c.args.budget i.1.0 (said c.args.at.now.slots.now h) in (
      table_on i.0 v.table,
      (
        i.1.0,
        subst P (sym c.held_of-here.ensures)
            (follows_marked c.law.ensures i.1.1 v.looks v.used fits
            (said_marked c.args.at.now.slots.now c.in-Ok-Marked.marked) met),
      ),
    )

pub loop-here-preserved : goal.loop-here-preserved
loop-here-preserved g c =
    let v = c.visit_at.ensures in
    let i = c.loop-here.invariant in
    let met = rw c.loop-here.invariant.0.slots at (rw c.in-Ok-Smaller.field-0-is at c.in-Ok-Smaller.ensures.met) in
    let fits = c.affords-in-loop-here.ensures.0 c.if-not-affords-2.false in (
      table_on i.0 v.table,
      (
        (said c.args.at.now.slots.now c.in-Ok-Smaller.node),
        follows_node c.law.ensures i.1.1 v.looks v.used fits
            (said c.args.at.now.slots.now c.in-Ok-Smaller.node) met,
      ),
    )

pub returns-in_default-clause-stopped : goal.returns-in_default-clause-stopped
returns-in_default-clause-stopped g c =
    let reads = c.start_at-head.ensures.reads in (
      omega arith,
      omega arith,
      starts_none c.law.ensures c.args.bucket reads.quiet (reads_observe reads) c.in_default.ensures.moved,
    )

pub returns-then-not-affords-2-clause-stopped : goal.returns-then-not-affords-2-clause-stopped
returns-then-not-affords-2-clause-stopped g c = (
  search rules,
  paid_so_far c.law.ensures c.loop-here.invariant.1.1.peeks.tries.goes.quiet c.loop-here.invariant.1.1.traverses,
)

pub returns-in-Err-clause-peeks : goal.returns-in-Err-clause-peeks
returns-in-Err-clause-peeks g c =
    peeks_visit c.law.ensures c.loop-here.invariant.1.1 c.visit_at.ensures.looks c.visit_at.ensures.used
    (c.affords-in-loop-here.ensures.0 c.if-not-affords-2.false)

pub returns-in-Err-clause-stopped : goal.returns-in-Err-clause-stopped
returns-in-Err-clause-stopped g c =
    let v = c.visit_at.ensures in
    let some : is_some (link_of (said c.args.at.now.slots.now c.loop-here.here).word).slot ≡ true =
    ap (λ (l : Link). is_some l.slot)
    (sym (rw (layout_at c.layout.ensures.layout c.loop-here.invariant.0) at c.decode.ensures.link)) ∙ sym
    c.is_some.ensures ∙ c.loop-here-test.true in
    let lost = visit_lost c.law.ensures c.loop-here.invariant.1.1 v.looks v.used
    (c.affords-in-loop-here.ensures.0 c.if-not-affords-2.false) some c.in-Err.ensures.moved in
    let paid = lost.1 in
    (lost.0, omega (arith, paid), lost.2)

pub returns-in_default-read-clause-peeks : goal.returns-in_default-read-clause-peeks
returns-in_default-read-clause-peeks g c =
    let v = c.visit_at.ensures in
    let reads = c.value_if_any-read.ensures.reads in
    peeks_behind c.law.ensures c.loop-here.invariant.1.1 v.looks v.used
    (c.affords-in-loop-here.ensures.0 c.if-not-affords-2.false) c.steps_to_value_of.result reads
    (steps_read c.steps_to_value_of.ensures c.value_if_any-read.new.at.own.1 reads.quiet.same.start)

pub returns-in_default-read-clause-stopped : goal.returns-in_default-read-clause-stopped
returns-in_default-read-clause-stopped g c =
    let i = c.loop-here.invariant.1.1 in
    let v = c.visit_at.ensures in
    let w = c.value_if_any-read.ensures in
    let met = rw c.loop-here.invariant.0.slots at (rw c.in-Ok-Beyond.field-0-is at c.in-Ok-Beyond.ensures.met) in
    let steps = steps_read c.steps_to_value_of.ensures c.value_if_any-read.new.at.own.1 w.reads.quiet.same.start in
    value_lost c.law.ensures i v.looks v.used (c.affords-in-loop-here.ensures.0 c.if-not-affords-2.false) met w.reads
    steps (moves_epoch _ c.in_default-read.ensures.moved.rolls)

pub returns-in-Ok-Beyond-clause-peeks : goal.returns-in-Ok-Beyond-clause-peeks
returns-in-Ok-Beyond-clause-peeks g c =
    let v = c.visit_at.ensures in
    let reads = c.value_if_any-read.ensures.reads in
    peeks_behind c.law.ensures c.loop-here.invariant.1.1 v.looks v.used
    (c.affords-in-loop-here.ensures.0 c.if-not-affords-2.false) c.steps_to_value_of.result reads
    (steps_read c.steps_to_value_of.ensures c.value_if_any-read.new.at.own.1 reads.quiet.same.start)

pub returns-in-Ok-Beyond-clause-next : goal.returns-in-Ok-Beyond-clause-next
returns-in-Ok-Beyond-clause-next g c =
    let i = c.loop-here.invariant.1.1 in
    let v = c.visit_at.ensures in
    let w = c.value_if_any-read.ensures in
    let met = rw c.loop-here.invariant.0.slots at (rw c.in-Ok-Beyond.field-0-is at c.in-Ok-Beyond.ensures.met) in
    let steps = steps_read c.steps_to_value_of.ensures c.value_if_any-read.new.at.own.1 w.reads.quiet.same.start in
    record {
      tells = tells_next c.value_if_any-read.new.at.stepper.now c.in-Ok-Beyond.key c.in-Ok-read.value
          c.named-entry.result c.is_none-is_last.result
          (said c.args.at.now.slots.now c.in-Ok-Beyond.node) c.law.ensures.start i v.looks.goes.quiet met w.reads.quiet
          c.in-Ok-read.ensures.value
          (is_last_so c.is_none-is_last.result c.decode-in-Ok-Beyond.result.slot c.is_none-is_last.ensures
          ∙ ap (λ (l : Link). is_none l.slot)
          (rw (layout_at c.layout-in-Ok-Beyond.ensures.layout (table_on c.loop-here.invariant.0 v.table)) at
          c.decode-in-Ok-Beyond.ensures.link))
          c.named-entry.ensures;
      paid = value_paid c.law.ensures i v.looks v.used (c.affords-in-loop-here.ensures.0 c.if-not-affords-2.false) met
          w.reads steps;
    }

pub returns-clause-next : goal.returns-clause-next
returns-clause-next g c =
    let i = c.loop-here.invariant.1.1 in
    let none = no_slot c.decode.result.slot (sym c.is_some.ensures ∙ c.loop-here-test.false) in
    let paid = paid_so_far c.law.ensures i.peeks.tries.goes.quiet i.traverses in
    record {
      tells = tells_none c.law.ensures.start i
          (ap (λ (l : Link). l.slot) (sym
          (rw (layout_at c.layout.ensures.layout c.loop-here.invariant.0) at c.decode.ensures.link))
          ∙ none);
      paid = omega (arith, paid);
    }
