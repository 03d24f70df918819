use Rattle.vbr_handles.proofs.Names.{rules}
use Rattle.vbr_handles.proofs.Opened.{as_many, opened_by, still_opened}
use Rattle.vbr_handles.proofs.opening.open_up_to.Goals as goal

pub fill-requires : goal.fill-requires
fill-requires g c = search (rules, as_many)

pub returns-clause-opens : goal.returns-clause-opens
returns-clause-opens g c = search (rules, opened_by, still_opened)
