use Rattle.std.proofs.Common.{◌≡◌, take, drop, map}
use Rattle.vbr_machine.specs.History.{request_of}
use Rattle.vbr_machine.specs.Maps.{entries_in, MapLeads, StoreAsked}
use Rattle.vbr_machine.proofs.plain_map.PlainMap.apply_all.Given as goal

-- the calls before this one are answered, and the others stay as they were
abbrev pub invariant-loop-call : goal.invariant-loop-call
invariant-loop-call l = record {
  requests : map request_of l.calls ≡ map request_of l.fn.calls;
  leads : MapLeads (entries_in l.fn.self) (take l.call-index l.calls) (entries_in l.self);
  stored : StoreAsked (take l.call-index l.fn.calls) (take l.call-index l.calls);
  rest : drop l.call-index l.calls ≡ drop l.call-index l.fn.calls;
}
