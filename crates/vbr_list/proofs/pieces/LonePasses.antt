-- A pass that is its table's only one made all the calls of its run, and those are legal.
use Rattle.vbr_list.proofs.Names.{◌≡◌, ℕ, ◌<◌, List, [], ◌∷◌, ◌++◌, refl, sym, ap, ◌∙◌, subst, arith, added_own}
use Rattle.vbr_list.proofs.Names.{after, AnswersAlone, AreAccepted, AreAnsweredAlone, Call, calls_added, calls_after}
use Rattle.vbr_list.proofs.Names.{calls_by, calls_by-append, Event, every_run, GivesAlone, GiveStored, IsLegal, IsRun}
use Rattle.vbr_list.proofs.Names.{IsSame, IsStart, Keys, keys_after, Made, made_by, opening, opening_keys}
use Rattle.vbr_list.proofs.Names.{opening_payloads, Payloads, payloads_after, set_after, Start, Trace, values_after}
use Rattle.vbr_list.proofs.Names.{World, world_from}

-- the last calls of a legal history have the replies of the set before them
legal_after : (keys : Keys) (calls more : List Call) → IsLegal keys (calls ++ more) →
    IsLegal (set_after keys calls) more
legal_after keys [] more legal = legal
legal_after keys (c ∷ cs) more legal = legal_after (keys_after keys c.op c.key c.reply) cs more legal.1

-- the last calls of a history that gives what was stored have the values of the map before them
stored_after : (payloads : Payloads) (calls more : List Call) → GiveStored payloads (calls ++ more) →
    GiveStored (values_after payloads calls) more
stored_after payloads [] more stored = stored
stored_after payloads (c ∷ cs) more stored =
    stored_after (payloads_after payloads c.op c.key c.reply c.value) cs more stored.1

-- where all events are of one pass, so are all calls
lone_from : (start : Start) (passes who : ℕ) (w : World) (events : List Event) → passes ≡ 1 → who < passes →
    AreAccepted start passes w events → calls_by who w.calls ≡ w.calls →
    calls_by who (world_from start w events).calls ≡ (world_from start w events).calls
lone_from start passes who w [] one low ok same = same
lone_from start passes who w (x ∷ xs) one low ok same =
    let mine : x.pass ≡ who = let u = ok.0.0 in omega arith in
    let P : ℕ → Type 0 = λ p. calls_by p (calls_added start w x.pass x.step) ≡ calls_added start w x.pass x.step in
    lone_from start passes who (after start w x.pass x.step) xs one low ok.1
    (ap (calls_by who) (calls_after start w x.pass x.step)
    ∙ calls_by-append who w.calls (calls_added start w x.pass x.step)
    ∙ (λ i. same i ++ subst P mine (added_own start w x.pass x.step) i)
    ∙ sym (calls_after start w x.pass x.step))

-- so the calls of a lone pass are legal
lone_legal : (p : Trace) → IsStart p.start → p.who < p.passes → IsRun p.start p.passes p.seen → p.passes ≡ 1 →
    IsLegal (opening_keys p.start) (made_by p)
lone_legal p start low run one =
    let all = lone_from p.start p.passes p.who (opening p.start) p.seen one low run refl in
    subst (IsLegal (opening_keys p.start)) (sym all) (every_run p.start p.passes p.seen start run).legal

-- and give what was stored
lone_stored : (p : Trace) → IsStart p.start → p.who < p.passes → IsRun p.start p.passes p.seen → p.passes ≡ 1 →
    GiveStored (opening_payloads p.start) (made_by p)
lone_stored p start low run one =
    let all = lone_from p.start p.passes p.who (opening p.start) p.seen one low run refl in
    subst (GiveStored (opening_payloads p.start)) (sym all) (every_run p.start p.passes p.seen start run).values

-- what a lone pass has added to its calls is answered as by a plain map
pub alone_all : {p q : Trace} (calls : List Call) → IsStart p.start → p.who < p.passes → IsSame p q →
    IsRun q.start q.passes q.seen → made_by q ≡ made_by p ++ calls → AreAnsweredAlone p calls
alone_all {p} {q} calls start low same run made one =
    let low_now : q.who < q.passes = rw (same.who, same.passes) low in
    let now = subst IsStart (sym same.start) start in
    let legal = subst (λ (d : Start). IsLegal (opening_keys d) (made_by q)) same.start
    (lone_legal q now low_now run (same.passes ∙ one)) in
    let stored =
    subst (λ (d : Start). GiveStored (opening_payloads d) (made_by q)) same.start
    (lone_stored q now low_now run (same.passes ∙ one)) in (
      legal_after (opening_keys p.start) (made_by p) calls (subst (IsLegal (opening_keys p.start)) made legal),
      stored_after (opening_payloads p.start) (made_by p) calls
          (subst (GiveStored (opening_payloads p.start)) made stored),
    )

-- so it is of one call
made_alone : {p q : Trace} {call : Call} → IsStart p.start → p.who < p.passes → Made call p q →
    AreAnsweredAlone p (call ∷ [])
made_alone {call = call} start low made = alone_all (call ∷ []) start low made.same made.is_run made.calls

pub alone : {p q : Trace} {call : Call} → IsStart p.start → p.who < p.passes → Made call p q →
    AnswersAlone p call.op call.key call.reply
alone start low made one = (made_alone start low made one).0.0

pub gives_alone : {p q : Trace} {call : Call} → IsStart p.start → p.who < p.passes → Made call p q → GivesAlone p call
gives_alone start low made one = (made_alone start low made one).1.0
