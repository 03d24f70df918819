use Rattle.std.proofs.Common.{◌+◌}
use Rattle.vbr_at_table.proofs.own_slots.Scanning.{Scanned, none_yet, part_on, scan_next, scanned_on}
use Rattle.vbr_at_table.proofs.own_slots.Scanning.{scans_found, scans_on, some_first, some_slot}
use Rattle.vbr_at_table.proofs.taking.scan.Given.{Over}
use Rattle.vbr_at_table.proofs.taking.scan.Goals.{After-scan_others}
use Rattle.vbr_at_table.proofs.taking.scan.Goals as goal

-- ---- the first slot was looked at

pub returns-then-stamp-epoch-clause-scans : goal.returns-then-stamp-epoch-clause-scans
returns-then-stamp-epoch-clause-scans g c =
    scans_found (none_yet c.args.at.now.stepper.now c.args.epoch c.args.budget c.args.used c.requires.within)
    c.pool.result.now c.pool.ensures.pool c.pool.ensures.own (some_first c.pool.ensures.pool c.requires.some)
    (c.affords.ensures.0 c.if-not-affords.false) c.load_stamp-stamp.ensures.step c.load_stamp-stamp.ensures.known
    c.load_stamp-stamp.ensures.pool

-- ---- it isn't stamped below the epoch, and the others are looked at

first : (g : Over) (c : After-scan_others g) →
    Scanned c.args.at.now.stepper.now c.load_stamp-stamp.new.self.stepper.now c.args.epoch c.args.budget c.args.used 0 1
    (c.args.used + 1)
first g c =
    scan_next (none_yet c.args.at.now.stepper.now c.args.epoch c.args.budget c.args.used c.requires.within)
    c.pool.result.now c.pool.ensures.pool c.pool.ensures.own (some_first c.pool.ensures.pool c.requires.some)
    (c.affords.ensures.0 c.if-not-affords.false) c.load_stamp-stamp.ensures.step c.load_stamp-stamp.ensures.known
    c.load_stamp-stamp.ensures.pool c.if-stamp-epoch.false

pub returns-clause-scans : goal.returns-clause-scans
returns-clause-scans g c =
    let all = (goal.at.returns-clause-scans g c).After-scan_others in
    scans_on (first g all) (some_slot c.args.at.now.stepper.now.pool c.requires.some) c.scan_others.ensures.scans

pub returns-clause-scanned : goal.returns-clause-scanned
returns-clause-scanned g c =
    let all = (goal.at.returns-clause-scanned g c).After-scan_others in
    scanned_on (first g all) (some_slot c.args.at.now.stepper.now.pool c.requires.some) c.scan_others.ensures.scans
    c.scan_others.result c.scan_others.ensures.scanned

pub returns-clause-part : goal.returns-clause-part
returns-clause-part g c =
    let all = (goal.at.returns-clause-part g c).After-scan_others in
    part_on (first g all) (some_slot c.args.at.now.stepper.now.pool c.requires.some) c.scan_others.ensures.scans
    c.scan_others.result c.scan_others.ensures.part
