use Rattle.vbr_machine.proofs.runs.RunsGoOn.{others_leave_know, others_leave_event_accepted}
use Rattle.vbr_machine.proofs.laws.others_leave_it_accepted.Goals as goal

pub returns : goal.returns
returns call = λ start passes seen rest pass step none. (
  others_leave_know start seen rest pass none,
  λ accepted. others_leave_event_accepted start passes seen rest (record { pass = pass; step = step }) accepted.0 none
      accepted.1,
)
