use Rattle.vbr_set.proofs.held_slots.HeldStores.{puts_by}
use Rattle.vbr_set.proofs.set.record_calls.«VbrSet+Entries».put_held.Goals as goal

pub returns : goal.returns
returns c = puts_by c.a_run_is_a_map.ensures c.args.pass.now c.put_held-answer.new.pass c.law.ensures c.law-2.ensures
    c.args.key c.args.value c.args.budget c.args.hand c.put_held-answer.result c.put_held-answer.ensures
