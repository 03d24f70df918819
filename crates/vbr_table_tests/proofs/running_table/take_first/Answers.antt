-- The slot that was taken is free. For a pass that has no other, its stamp is that of the opening.
use Rattle.std.proofs.Common.{◌≡◌, ◌∙◌, ap, true, rules}
use Rattle.std.specs.Prelude.{is_ok}
use Rattle.vbr_slots.specs.views.Views.{PassView}
use Rattle.vbr_table_tests.proofs.running_table.OnePass.{stamp_0}
use Rattle.vbr_table_tests.proofs.running_table.OwnedSlots.{reached_free}
use Rattle.vbr_table_tests.proofs.running_table.Taking.{reached}
use Rattle.vbr_table_tests.proofs.running_table.take_first.Goals as goal

pub returns-clause-free : goal.returns-clause-free
returns-clause-free g c =
    let won : is_ok c.take_flag.result ≡ true = search rules in
    reached_free c.read_epoch.new.pass.trace c.take_flag.new.pass.trace 0 c.take_flag.result won
    (reached 0 c.read_epoch.new.pass c.take_flag.new.pass c.take_flag.result c.take_flag.ensures.taken
    c.take_flag.ensures.missed)

pub returns-clause-alone : goal.returns-clause-alone
returns-clause-alone g c only =
    let won : is_ok c.take_flag.result ≡ true = search rules in
    stamp_0 c.args.pass.now.trace c.read_epoch.new.pass.trace c.take_flag.new.pass.trace c.read_epoch.result
    c.take_flag.result
    (ap (λ (p : PassView). p.trace.seen) only.0)
    (record {
      passes = ap (λ (p : PassView). p.trace.passes) only.0 ∙ only.1;
      who = ap (λ (p : PassView). p.trace.who) only.0;
    })
    c.read_epoch.ensures.step won
    (reached 0 c.read_epoch.new.pass c.take_flag.new.pass c.take_flag.result c.take_flag.ensures.taken
    c.take_flag.ensures.missed)
