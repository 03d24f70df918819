-- What workers have seen that have met.
use Rattle.std.specs.Prelude.{◌≡◌, ℕ, ◌+◌, ◌-◌, ◌≤◌, List, length, All}
use Rattle.std.specs.List.{AllZip}
use Rattle.vbr_machine.specs.Runs.{Begins}
use Rattle.vbr_machine.specs.declared.event.Event.{Event}
use Rattle.vbr_slots.specs.steps.Calls.{Quiet}
use Rattle.vbr_slots.specs.views.Views.{KeepsPool, TableView, steps_of}
use Rattle.vbr_set.specs.calls.Members.{MemberView}
use Rattle.vbr_player.specs.Calling.{HasMetOften}
use Rattle.vbr_player.specs.Working.{EachPlayed}
use Rattle.vbr_script.specs.declared.script.Kind.{Kind}
use Rattle.vbr_script.specs.declared.script.Line.{Line}
use Rattle.vbr_player.specs.declared.worker.Worker.{Worker}

-- the workers are of one set
pub record AreOfOne {N : Type 0} (workers : List (Worker N)) : Type 0 where
  pub set : TableView
  pub all : All (λ worker. worker.caller.set ≡ set) workers

-- a caller has met others, in so many steps at most, and did nothing else: it has seen more, and has made no call; its slots are as they were
pub record HasLooked (most : ℕ) (m n : MemberView) : Type 0 where
  pub set : n.set ≡ m.set
  pub quiet : Quiet m.pass.trace n.pass.trace
  pub pool : KeepsPool m.pass n.pass
  pub met : (times : ℕ) × HasMetOften times m n
  pub steps : steps_of n.pass.trace ≤ steps_of m.pass.trace + most

-- the caller of a worker has; its replies are as they were
pub record HasSeenMore {N : Type 0} (most : ℕ) (p q : Worker N) : Type 0 where
  pub looked : HasLooked most p.caller q.caller
  pub replies : q.replies ≡ p.replies

-- all workers have met, each in a step for each other at most: there is a moment that begins with what each had seen, and begins what each has seen since; and none has made a call
pub record Meets {N : Type 0} (ps qs : List (Worker N)) : Type 0 where
  pub looks : AllZip (HasSeenMore (length ps - 1)) ps qs
  pub moment : List Event
  pub from : All (λ p. Begins p.caller.pass.trace.seen moment) ps
  pub to : All (λ q. Begins moment q.caller.pass.trace.seen) qs

-- a pass has met workers, each in a step: it has seen all that each had seen, and each has seen what it has seen since, in one step; and none has made a call
pub record MeetsOthers {N : Type 0} (p q : MemberView) (before after : List (Worker N)) : Type 0 where
  pub looked : HasLooked (length before) p q
  pub looks : AllZip (HasSeenMore 1) before after
  pub from : All (λ other. Begins other.caller.pass.trace.seen q.pass.trace.seen) before
  pub to : All (λ other. Begins q.pass.trace.seen other.caller.pass.trace.seen) after

-- workers played their own lines among these, with a budget for each, and then all met
pub record PlayedAndMet {N : Type 0} (kind : Kind) (budget : ℕ) (lines : List Line) (ws us : List (Worker N)) : Type 0 where
  pub apart : List (Worker N)
  pub played : EachPlayed kind budget lines ws apart
  pub meets : Meets apart us
