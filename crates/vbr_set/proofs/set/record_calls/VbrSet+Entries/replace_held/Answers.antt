use Rattle.vbr_set.proofs.held_slots.HeldStores.{replaces_by}
use Rattle.vbr_set.proofs.set.record_calls.«VbrSet+Entries».replace_held.Goals as goal

pub returns : goal.returns
returns c = replaces_by c.a_run_is_a_map.ensures c.args.pass.now c.replace_held-answer.new.pass c.law.ensures
    c.law-2.ensures c.args.key c.args.value c.args.budget c.args.hand c.args.entry.now c.replace_held-answer.result
    c.replace_held-answer.ensures
