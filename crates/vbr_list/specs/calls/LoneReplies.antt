-- The replies of a pass that is the only one of its table.
use Rattle.std.specs.Prelude.{◌≡◌, ℕ, Bool, List}
use Rattle.vbr_machine.specs.Opened.{opening_keys, opening_payloads}
use Rattle.vbr_machine.specs.History.{GiveStored, IsLegal, reply_of, set_after, values_after}
use Rattle.vbr_machine.specs.declared.history.Call.{Call}
use Rattle.vbr_machine.specs.declared.history.Op.{Op}
use Rattle.vbr_slots.specs.steps.Calls.{made_by}
use Rattle.vbr_slots.specs.views.Views.{Trace}

-- on a table with one pass the reply is what a plain set answers which opened with the keys of its start, perhaps none, and was given the calls of the pass before, and no others
abbrev pub AnswersAlone : Trace → Op → ℕ → Bool → Type 0
AnswersAlone p op key reply = p.passes ≡ 1 → reply ≡ reply_of (set_after (opening_keys p.start) (made_by p)) op key

-- on a table with one pass the calls are answered as by a plain map which opened with the entries of its start, perhaps none, and was given the calls of the pass before, and no others
abbrev pub AreAnsweredAlone : Trace → List Call → Type 0
AreAnsweredAlone p calls = p.passes ≡ 1 → IsLegal (set_after (opening_keys p.start) (made_by p)) calls × GiveStored (values_after (opening_payloads p.start) (made_by p)) calls
