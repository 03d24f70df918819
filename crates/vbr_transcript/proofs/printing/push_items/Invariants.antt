use Rattle.std.proofs.Common.{◌≡◌, ◌++◌, take}
use Rattle.std.specs.List.{flat_map}
use Rattle.vbr_transcript.proofs.printing.push_items.Given as goal

-- the items so far are written
abbrev pub invariant-loop-item : goal.invariant-loop-item
invariant-loop-item g l =
    l.text.items ≡ l.fn.text.items ++ (g.I.Printed.name ++ flat_map g.I.Printed.print (take l.item-index l.items))
