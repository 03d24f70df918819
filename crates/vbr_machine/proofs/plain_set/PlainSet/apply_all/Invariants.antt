use Rattle.std.proofs.Common.{◌≡◌, take, drop, map}
use Rattle.vbr_machine.specs.Keys.{keys_of}
use Rattle.vbr_machine.specs.History.{Leads, request_of}
use Rattle.vbr_machine.proofs.plain_set.PlainSet.apply_all.Given as goal

-- the calls before this one are answered, and the others stay as they were
abbrev pub invariant-loop-call : goal.invariant-loop-call
invariant-loop-call l = record {
  requests : map request_of l.calls ≡ map request_of l.fn.calls;
  leads : Leads (keys_of l.fn.self) (take l.call-index l.calls) (keys_of l.self);
  rest : drop l.call-index l.calls ≡ drop l.call-index l.fn.calls;
}
