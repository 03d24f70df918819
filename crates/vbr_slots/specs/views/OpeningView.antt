-- What contracts see of an opening with keys and values.
use Rattle.vbr_machine.specs.Start.{start_with}
use Rattle.vbr_slots.specs.runs.TableStart.{TableStart}
use Rattle.vbr_slots.specs.declared.rule.OpeningWithEntries.TheInside.{Inside}

-- what contracts see: what the table starts with
abbrev pub opening_with : Inside → TableStart
opening_with o = record { start = start_with o.opening.shape o.keys.items o.values.items; passes = o.opening.passes }
