use Rattle.vbr_world.proofs.world.reads.leads_above.Goals as goal

pub returns : goal.returns
returns c = (
  λ t. let m = c.leads.ensures.0 t in record { turns = m.turns; within = m.within; before = m.ends },
  λ m. c.leads.ensures.1 (record { turns = m.turns; within = m.within; ends = m.before }),
)
