use Rattle.vbr_list.proofs.Names.{rules, ◌-◌, ◌∙◌, Result, Err, ap, subst, IfErr, had_taken, HandView, Refusal}
use Rattle.vbr_list.proofs.Names.{RefusesTake}
use Rattle.vbr_list.proofs.inserts.Preparing.{spent_rest}
use Rattle.vbr_list.proofs.call.PendingCall.provide.Goals as goal

-- ---- a slot is in hand

-- what the pass had it has still
pub returns-in-Ok-clause-prepares : goal.returns-in-Ok-clause-prepares
returns-in-Ok-clause-prepares g c = record {
  call = search rules;
  counts = search rules;
  advances = search rules;
  kept = search rules;
  had = had_taken c.requires.empty_hand (rw c.in-Ok.is at c.take-outcome.ensures.taken);
  shared = search rules;
  wins = search rules;
}

-- ---- none is

-- the epoch is spent
pub returns-in-EpochSpent-clause-refused : goal.returns-in-EpochSpent-clause-refused
returns-in-EpochSpent-clause-refused g c =
    let p = c.args.self.now.at.stepper.now in
    let q = c.take-outcome.new.at.stepper.now in
    let left = c.args.self.now.budget - c.args.self.now.used in
    let P : Result HandView Refusal → Type 0 = λ r. IfErr r (RefusesTake p q left) in
    let why = (subst P (c.in-Err.is ∙ ap Err c.in-EpochSpent.is) c.take-outcome.ensures.refused).why in
    record {
      hand = search rules;
      says = spent_rest p q c.args.self.now.used c.args.self.now.budget c.in-EpochSpent.epoch c.args.self.now.within
          why.0 why.1;
      enough = tt;
    }
