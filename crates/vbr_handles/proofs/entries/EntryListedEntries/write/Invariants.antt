use Rattle.vbr_handles.proofs.Names.{◌≡◌, map, paste, as_entry}
use Rattle.vbr_handles.proofs.entries.EntryListedEntries.write.Given as goal

-- the entries so far are written
abbrev pub invariant-loop-i : goal.invariant-loop-i
invariant-loop-i l = l.entries ≡ paste l.initial.entries 0 (map as_entry l.report.entries.items) l.i
