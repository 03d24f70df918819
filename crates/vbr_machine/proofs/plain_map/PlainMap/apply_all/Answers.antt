-- One more call is answered.
use Rattle.std.proofs.Common.{◌≡◌, ℕ, ◌<◌, List, length, take, drop, set, get_or, Some, Result, OnErr, refl, ap, ◌∙◌}
use Rattle.std.proofs.Common.{arith}
use Rattle.std.proofs.Math.Seq.{map-set_same}
use Rattle.std.proofs.lemmas.List.{take_more_set, set-get_or}
use Rattle.vbr_machine.specs.History.{request_of}
use Rattle.vbr_machine.specs.Maps.{entries_in, MapLeads, StoreAsked}
use Rattle.vbr_machine.specs.Plain.{MapRefuses, MapStops}
use Rattle.vbr_machine.specs.declared.history.Call.{Call}
use Rattle.vbr_machine.proofs.histories.AnsweredCalls.{on_err, rest_after, still_asked, stored_more}
use Rattle.vbr_machine.proofs.histories.MapHistories.{MapLeads-push}
use Rattle.vbr_machine.proofs.plain_map.PlainMap.apply_all.Goals as goal

pub loop-call-preserved : goal.loop-call-preserved
loop-call-preserved c =
    let here : c.loop-call.call-index < length c.loop-call.calls = omega arith in
    record {
      requests = map-set_same request_of _ c.loop-call.call-index _ _ refl ∙ c.loop-call.invariant.requests;
      leads = rw (take_more_set _ _ _ here)
          (MapLeads-push _ _ _ _ _ c.loop-call.invariant.leads c.in_ok-reply.ensures.answers.reply
          c.in_ok-reply.ensures.answers.gives c.in_ok-reply.ensures.answers.after);
      stored = stored_more c.args.calls.now c.loop-call.calls c.loop-call.call-index _ _ here c.loop-call.invariant.rest
          c.loop-call.invariant.stored
          (λ insert yes. c.in_ok-reply.ensures.answers.stored insert yes ∙ ap Some c.unwrap_or-asked.ensures);
      rest = rest_after c.loop-call.calls c.args.calls.now c.loop-call.call-index c.loop-call.invariant.rest _;
    }

-- where a call was refused, what the calls before it did stands, and the call itself is as it was
as_before : {T E : Type 0} (result : Result T E) (opening before after : List (ℕ × ℕ)) (asked calls : List Call) (i : ℕ)
    (none : Call) → i < length asked → MapRefuses before after (get_or calls i none).op (get_or calls i none).key →
    MapLeads (entries_in opening) (take i calls) (entries_in before) → StoreAsked (take i asked) (take i calls) →
    drop i calls ≡ drop i asked
    → OnErr result (MapStops opening after asked (set calls i (get_or calls i none)))
as_before result opening before after asked calls i none here refused leads stored rest =
    on_err result
    (rw (set-get_or calls i none, refused.unchanged)
    (record {
      count = i;
      stopped = get_or calls i none;
      here = still_asked calls asked i none here rest;
      insert = refused.insert;
      absent = refused.absent;
      leads = leads;
      stored = stored;
      rest = rest;
    }))

pub returns-in_err-reply-clause-refused : goal.returns-in_err-reply-clause-refused
returns-in_err-reply-clause-refused c =
    let here : c.loop-call.call-index < length c.args.calls.now = omega arith in
    as_before c.from_residual.result _ _ _ _ _ c.loop-call.call-index _ here c.in_err-reply.ensures.refused
    c.loop-call.invariant.leads c.loop-call.invariant.stored c.loop-call.invariant.rest
