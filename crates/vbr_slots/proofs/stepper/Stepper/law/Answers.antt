use Rattle.std.proofs.Common.{rules, ◌<◌, ◌≤◌, length}
use Rattle.vbr_machine.specs.Runs.{IsRun}
use Rattle.vbr_machine.specs.Start.{IsStart}
use Rattle.vbr_machine.proofs.Lemmas.{every_run}
use Rattle.vbr_slots.specs.pools.Pools.{OwnPool}
use Rattle.vbr_slots.specs.declared.pass.TheConstants.{POOL}
use Rattle.vbr_slots.specs.views.Views.{knows}
use Rattle.vbr_slots.proofs.stepper.Stepper.law.Goals as goal

pub returns : goal.returns
returns c =
    let p = c.args.self.now in
    let start : IsStart p.trace.start = search rules in
    let low : p.trace.who < p.trace.passes = search rules in
    let own : OwnPool p.trace.start (knows p.trace) p.pool p.hand = search rules in
    let room : length p.pool ≤ POOL = search rules in
    let is_run : IsRun p.trace.start p.trace.passes p.trace.seen = search rules in
    record {
      start = start;
      low = low;
      room = room;
      is_run = is_run;
      own = own;
      safe = every_run p.trace.start p.trace.passes p.trace.seen start is_run;
    }
