-- The laws of chronicles hold at each moment of a run, and what was good then stays so.
use Rattle.std.proofs.Common.{◌≡◌, ℕ, ◌≤◌, false, List, ◌++◌, Some, sym, subst, ◌∙◌}
use Rattle.vbr_machine.specs.Start.{Start, IsStart}
use Rattle.vbr_words.specs.declared.link.Link.{Link}
use Rattle.vbr_words.specs.declared.place.At.{At}
use Rattle.vbr_machine.specs.Machine.{link_at}
use Rattle.vbr_machine.specs.Runs.{Begins, IsRun, know_after, world_after}
use Rattle.vbr_machine.specs.Incarnations.{IsLate}
use Rattle.vbr_machine.specs.Sound.{Grows}
use Rattle.vbr_machine.specs.Notes.{Note, IsHeldBy, IsAmong}
use Rattle.vbr_machine.specs.Accounts.{incarnations_after, notes_after}
use Rattle.vbr_machine.specs.Agreement.{IsHeldIncarnation, IsGoodLink, IsGoodRead, IsGood, IsPair, IsLastOf}
use Rattle.vbr_machine.specs.Safety.{IsSafe}
use Rattle.vbr_machine.specs.declared.event.Event.{Event}
use Rattle.vbr_machine.specs.declared.knowledge.Read.{Read}
use Rattle.vbr_machine.specs.declared.knowledge.Read.TheVariants.{LinkAt}
use Rattle.vbr_machine.proofs.chronicles.Shown.{stands}
use Rattle.vbr_machine.proofs.reads.HeldReads.{held_last, same_pair, pair_last, stays_good}
use Rattle.vbr_machine.proofs.runs.RunsGoOn.{begins_run}
use Rattle.vbr_machine.proofs.runs.EveryRun.{run_agrees, run_grows}
use Rattle.vbr_machine.proofs.reads.RightReads.{among_all, holds_held}
use Rattle.vbr_machine.proofs.runs.SafeRuns.{every_run}

pub moment_safe : (start : Start) (passes : ℕ) (moment run : List Event) → IsStart start → IsRun start passes run →
    Begins moment run → IsSafe start moment
moment_safe start passes moment run is ok begins =
    every_run start passes moment is (begins_run start passes moment run begins ok)

-- what was there at a moment of a run stays to its end
grown : (start : Start) (passes : ℕ) (moment run : List Event) → IsStart start → IsRun start passes run →
    Begins moment run → Grows (incarnations_after start moment) (incarnations_after start run)
grown start passes moment run is ok begins =
    let parts : IsRun start passes (moment ++ begins.0) =
    (let P : List Event → Type 0 = IsRun start passes in subst P begins.1 ok) in
    let P : List Event → Type 0 = λ r. Grows (incarnations_after start moment) (incarnations_after start r) in
    subst P (sym begins.1) (run_grows start passes moment begins.0 is parts)

-- what is late at a moment stays late, and its successor is late too
pub late_on : (start : Start) (passes : ℕ) (moment run : List Event) (c e : ℕ) → IsStart start →
    IsRun start passes run → Begins moment run → e ≤ (incarnations_after start moment).epoch →
    IsLate ((incarnations_after start moment).state c) e →
    IsLate ((incarnations_after start run).state c) e ×
    ((n : ℕ) → (incarnations_after start run).next c ≡ Some n → IsLate ((incarnations_after start run).state n) e)
late_on start passes moment run c e is ok begins le late =
    let stays = (grown start passes moment run is ok begins).late c e le late in
    (stays, λ n next. (run_agrees start passes run is ok).sound.lists.handed c n e next stays)

-- where the epoch is the pass's, what it holds is the last of its slot
pub holds_last : (start : Start) (passes : ℕ) (run : List Event) (pass s c : ℕ) → IsStart start →
    IsRun start passes run → IsHeldBy (notes_after start run pass).checked s c →
    (know_after start run pass).epoch ≡ (world_after start run).epoch → (incarnations_after start run).last s ≡ Some c
holds_last start passes run pass s c is ok holds same =
    let g = run_agrees start passes run is ok in
    let a = incarnations_after start run in
    let held = holds_held a (know_after start run pass).epoch (notes_after start run pass).checked
    (g.knows pass).checked s c holds in
    let P : ℕ → Type 0 = λ e. IsHeldIncarnation a e s c in
    held_last g.sound s c (subst P (same ∙ g.image.epoch) held)

-- an unmarked link that was checked at a moment and stands at its place at the end stands for the same pair
pub pair_on : (start : Start) (passes : ℕ) (moment run : List Event) (pass : ℕ) (note : Note) (place : At)
    (link : Link) →
    IsStart start → IsRun start passes run → Begins moment run → IsAmong note (notes_after start moment pass).checked →
    note.read ≡ LinkAt place link → link.mark ≡ false → link_at (world_after start run) place ≡ link →
    IsPair (incarnations_after start run) place note.of note.names × IsLastOf (incarnations_after start run) note.names
pair_on start passes moment run pass note place link is ok begins among read unmarked stood =
    let a = incarnations_after start moment in
    let b = incarnations_after start run in
    let e = (know_after start moment pass).epoch in
    let notes = (notes_after start moment pass).checked in
    let then = run_agrees start passes moment is (begins_run start passes moment run begins ok) in
    let g = run_agrees start passes run is ok in
    let all = stays_good then.sound (grown start passes moment run is ok begins) e (then.knows pass).epoch notes
    (then.knows pass).checked in
    let P : Read → Type 0 = λ r. IsGoodRead b e r note.of note.names in
    let good : IsGoodLink b e place link note.of note.names = subst P read
    (among_all (IsGood b e) note notes all among) in
    let pair = same_pair g.sound e place link note.of note.names good unmarked
    (sym (stands (world_after start run) b place g.image) ∙ stood) in
    (pair, pair_last g.sound place note.of note.names pair)
