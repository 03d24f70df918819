use Rattle.vbr_handles.proofs.Names.{rules, ◌<◌, length, arith, length-map, as_entry}
use Rattle.vbr_handles.proofs.EntryKeys.{one_more_written}
use Rattle.vbr_handles.proofs.entries.EntryListedEntries.write.Goals as goal

pub loop-i-preserved : goal.loop-i-preserved
loop-i-preserved c =
    let pairs = c.args.report.now.entries.items in
    let within : c.loop-i.i < length pairs = search rules in
    let asked = c.requires in
    let many = length-map pairs as_entry in
    one_more_written c.args.entries.now c.loop-i.entries pairs c.loop-i.i c.index.result.now (omega arith) within
    c.index.ensures c.loop-i.invariant
