use Rattle.vbr_access.proofs.confirming.confirm_absent.Goals as goal

pub confirm_absent_entry-requires-clause-op : goal.confirm_absent_entry-requires-clause-op
confirm_absent_entry-requires-clause-op c =
    record { other = c.requires.op.other; asked = λ get. absurd (c.requires.op.no_get get) }
