use Rattle.vbr_world.proofs.world.reads.leads_to_key.Goals as goal

pub returns : goal.returns
returns c = (
  λ t. let m = c.leads.ensures.0 t in record { turns = m.turns; within = m.within; known = m.ends },
  λ m. c.leads.ensures.1 (record { turns = m.turns; within = m.within; ends = m.known }),
)
