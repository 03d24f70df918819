-- The slot was taken, so it is the pass's, and the stamp that was loaded is its stamp.
use Rattle.std.proofs.Common.{◌≡◌, true, rules}
use Rattle.std.specs.Prelude.{is_ok}
use Rattle.vbr_table_tests.proofs.listed_calls.Following.{learned_taking}
use Rattle.vbr_table_tests.proofs.running_table.OwnedSlots.{free_is_some, reached_free}
use Rattle.vbr_table_tests.proofs.running_table.Taking.{reached}
use Rattle.vbr_table_tests.proofs.listed_calls.take.Goals as goal

pub load_stamp-requires-clause-owned : goal.load_stamp-requires-clause-owned
load_stamp-requires-clause-owned g c =
    let won : is_ok c.take_flag.result ≡ true = search rules in
    free_is_some _
    (reached_free c.args.pass.now.trace c.take_flag.new.pass.trace c.args.slot c.take_flag.result won
    (reached c.args.slot c.args.pass.now c.take_flag.new.pass c.take_flag.result c.take_flag.ensures.taken
    c.take_flag.ensures.missed))

pub returns : goal.returns
returns g c =
    let won : is_ok c.take_flag.result ≡ true = search rules in
    let zero : c.load_stamp.result ≡ 0 = search rules in
    learned_taking c.args.slot c.args.pass.now.trace c.take_flag.new.pass.trace c.load_stamp.new.pass.trace
    c.take_flag.result c.load_stamp.result won
    (reached c.args.slot c.args.pass.now c.take_flag.new.pass c.take_flag.result c.take_flag.ensures.taken
    c.take_flag.ensures.missed) c.load_stamp.ensures.step c.load_stamp.ensures.known zero
