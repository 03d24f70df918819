use Rattle.vbr_list.proofs.Names.{rules, arith, wide_held}
use Rattle.vbr_list.proofs.pieces.Going.{goes_read, ok_as}
use Rattle.vbr_list.proofs.pieces.Observing.{reads_observe}
use Rattle.vbr_list.proofs.traversals.Reaching.{come_to, head_before}
use Rattle.vbr_list.proofs.call.PendingCall.start.Goals as goal

pub returns-clause-goes : goal.returns-clause-goes
returns-clause-goes g c = record {
  call = search rules;
  goes = goes_read c.args.self.now.used c.start_at-head.ensures.reads;
  more = omega arith;
}

pub returns-clause-observes : goal.returns-clause-observes
returns-clause-observes g c = reads_observe c.start_at-head.ensures.reads

pub returns-clause-come : goal.returns-clause-come
returns-clause-come g c =
    ok_as c.start_at-head.result
    (λ head x. come_to c.args.self.now.bucket c.args.self.now.key (wide_held c.args.self.now head)
    c.start_at-head.ensures.reads.quiet.same
    c.args.self.now.of_key (head_before c.args.self.now.bucket c.args.self.now.key (wide_held c.args.self.now head) x))
    c.start_at-head.ensures.head
