use Rattle.vbr_at_table.specs.reads.Held.{said}
use Rattle.vbr_at_table.proofs.Lemmas.{key_asked, key_present}
use Rattle.vbr_access.proofs.confirming.confirm_present.Goals as goal

pub confirm_present_entry-requires-clause-asked : goal.confirm_present_entry-requires-clause-asked
confirm_present_entry-requires-clause-asked c =
    key_asked c.args.pass.now.trace c.args.op c.args.held.now.at c.requires.op.no_get

pub returns-clause-answers : goal.returns-clause-answers
returns-clause-answers c =
    key_present c.args.pass.now.trace c.confirm_present_entry.new.pass.trace c.args.op
    (said c.args.slots.now c.args.held.now) c.confirm_present_entry.result c.requires.op.no_get
    c.confirm_present_entry.ensures.answers
