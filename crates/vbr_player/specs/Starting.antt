-- How workers start and end in a phase. Only contracts of private functions cite this.
use Rattle.std.specs.Prelude.{◌≡◌, ℕ, List, Result, IfOk, Vec}
use Rattle.std.specs.Global.{Global}
use Rattle.std.specs.List.{AllZip}
use Rattle.vbr_script.specs.declared.script.Kind.{Kind}
use Rattle.vbr_script.specs.declared.script.Line.{Line}
use Rattle.vbr_player.specs.Working.{Played}
use Rattle.vbr_player.specs.declared.phase_worker.PhaseWorker.{PhaseWorker}
use Rattle.vbr_player.specs.declared.phase_worker.PhaseWorker.TheVariants.{Started, Done}
use Rattle.vbr_player.specs.declared.worker.Worker.{Worker}

-- a thread promises that this worker will have played these lines with this budget, or it has played them
abbrev pub IsFor : {N : Type 0} → Kind → ℕ → List Line → PhaseWorker N → Worker N → Type 0
IsFor kind budget lines (Started thread) worker = (thread.promise.before.value ≡ worker) × (thread.promise.lines.now ≡ lines) × (thread.promise.budget ≡ budget)
IsFor kind budget lines (Done played) worker = Played kind budget lines worker played

-- a worker that was started ended as this one, as its thread promised
abbrev pub EndsAs : {N : Type 0} → Kind → PhaseWorker N → Worker N → Type 0
EndsAs kind (Started thread) worker = Played kind thread.promise.budget thread.promise.lines.now thread.promise.before.value worker
EndsAs kind (Done played) worker = worker ≡ played

-- each of them did, in order
abbrev pub AreEndedBy : {N : Type 0} → Kind → List (PhaseWorker N) → List (Worker N) → Type 0
AreEndedBy kind all_started workers = AllZip (EndsAs kind) all_started workers

-- if the wait for them is done, they all ended so
abbrev pub EndAll : {N E : Type 0} → Kind → List (PhaseWorker N) → Result (Vec (Worker N) Global) E → Type 0
EndAll kind all_started result = IfOk result (λ played. AreEndedBy kind all_started played.items)
