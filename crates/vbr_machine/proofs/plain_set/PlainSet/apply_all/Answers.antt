-- One more call is answered.
use Rattle.std.proofs.Common.{◌≡◌, ℕ, ◌<◌, List, length, take, drop, set, get_or, Result, OnErr, refl, ◌∙◌, arith}
use Rattle.std.proofs.Math.Seq.{map-set_same}
use Rattle.std.proofs.lemmas.List.{take_more_set, set-get_or}
use Rattle.vbr_machine.specs.Keys.{keys_of}
use Rattle.vbr_machine.specs.History.{Leads, request_of}
use Rattle.vbr_machine.specs.Plain.{SetRefuses, SetStops}
use Rattle.vbr_machine.specs.declared.history.Call.{Call}
use Rattle.vbr_machine.proofs.histories.AnsweredCalls.{on_err, rest_after, still_asked}
use Rattle.vbr_machine.proofs.histories.Histories.{Leads-push}
use Rattle.vbr_machine.proofs.plain_set.PlainSet.apply_all.Goals as goal

pub loop-call-preserved : goal.loop-call-preserved
loop-call-preserved c =
    let here : c.loop-call.call-index < length c.loop-call.calls = omega arith in
    record {
      requests = map-set_same request_of _ c.loop-call.call-index _ _ refl ∙ c.loop-call.invariant.requests;
      leads = rw (take_more_set _ _ _ here)
          (Leads-push _ _ _ _ _ c.loop-call.invariant.leads c.in_ok-call.ensures.answers.reply
          c.in_ok-call.ensures.answers.after);
      rest = rest_after c.loop-call.calls c.args.calls.now c.loop-call.call-index c.loop-call.invariant.rest _;
    }

-- where a call was refused, what the calls before it did stands, and the call itself is as it was
as_before : {T E : Type 0} (result : Result T E) (opening before after : List ℕ) (asked calls : List Call) (i : ℕ)
    (none : Call) → i < length asked → SetRefuses before after (get_or calls i none).op (get_or calls i none).key →
    Leads (keys_of opening) (take i calls) (keys_of before) → drop i calls ≡ drop i asked
    → OnErr result (SetStops opening after asked (set calls i (get_or calls i none)))
as_before result opening before after asked calls i none here refused leads rest =
    on_err result
    (rw (set-get_or calls i none, refused.unchanged)
    (record {
      count = i;
      stopped = get_or calls i none;
      here = still_asked calls asked i none here rest;
      insert = refused.insert;
      absent = refused.absent;
      leads = leads;
      rest = rest;
    }))

pub returns-in_err-call-clause-refused : goal.returns-in_err-call-clause-refused
returns-in_err-call-clause-refused c =
    let here : c.loop-call.call-index < length c.args.calls.now = omega arith in
    as_before c.from_residual.result _ _ _ _ _ c.loop-call.call-index _ here c.in_err-call.ensures.refused
    c.loop-call.invariant.leads c.loop-call.invariant.rest
