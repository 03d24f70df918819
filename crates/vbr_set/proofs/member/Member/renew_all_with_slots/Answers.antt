use Rattle.std.proofs.Common.{refl, rules}
use Rattle.vbr_set.proofs.member.Member.renew_all_with_slots.Goals as goal

pub returns-in-Ok-open_many-clause-renewed : goal.returns-in-Ok-open_many-clause-renewed
returns-in-Ok-open_many-clause-renewed g c = record {
  told = c.in-Ok.told.0;
  reports = c.in-Ok.ensures.report;
  same = refl;
  new = search rules;
}
