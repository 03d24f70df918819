-- What a pass has that caught up with a token: the calls that the token tells stand in front.
use Rattle.std.proofs.Common.{◌≡◌, List, [], ◌∷◌, ◌++◌, sym, ap, ◌∙◌, append_assoc}
use Rattle.vbr_machine.specs.Start.{IsStart}
use Rattle.vbr_machine.specs.Calls.{own_calls}
use Rattle.vbr_machine.specs.Runs.{Begins, IsRun}
use Rattle.vbr_machine.specs.declared.event.Event.{Event}
use Rattle.vbr_machine.specs.declared.history.Call.{Call}
use Rattle.vbr_machine.proofs.Lemmas.{begins_refl, begins_trans, calls_since, every_run, others_leave_calls}
use Rattle.vbr_slots.specs.steps.Calls.{IsSame, Quiet}
use Rattle.vbr_slots.specs.Tokens.{SeenView, Since}
use Rattle.vbr_slots.specs.views.Views.{IsOf, KeepsPool, PassView, TableView, Trace}
use Rattle.vbr_set.specs.histories.Answers.{AnswersAll, Follows}
use Rattle.vbr_set.specs.histories.Histories.{calls_of}
use Rattle.vbr_set.specs.histories.Tokens.{CatchesUp, IsChain, IsTokenOf, Precedes, end_of}
use Rattle.vbr_set.proofs.histories.Histories.{reads_right, start_of}

-- what is answered later stands after all that the token tells
pub stands_behind : (told : List Event) (q : Trace) (calls : List Call) (r s : Trace) → Begins told q.seen →
    IsSame q r → Begins q.seen r.seen → AnswersAll calls r s →
    Follows (calls_of q.start told) calls (calls_of s.start s.seen)
stands_behind told q calls r s first same on answered =
    let told_calls = calls_of q.start told in
    let front = calls_since q.start told r.seen (begins_trans told q.seen r.seen first on) in
    let x = answered.together in
    record {
      between = front.0 ++ x.between;
      more = x.more;
      stands = x.stands
          ∙ (λ i. (calls_of (same.start i) r.seen ++ x.between) ++ (calls ++ x.more))
          ∙ (λ i. (front.1 i ++ x.between) ++ (calls ++ x.more))
          ∙ ap (λ l. l ++ (calls ++ x.more)) (append_assoc told_calls front.0 x.between);
    }

since_run : {p q : Trace} → Since p q → IsRun q.start q.passes q.seen
since_run {p} {q} s = rw (s.same.1, s.same.2) s.is_run

since_quiet : {p q : Trace} → Since p q → Quiet p q
since_quiet {p} {q} s = record {
  same = record { table = s.same.0; start = s.same.1; passes = s.same.2; who = s.same.3 };
  seen = (s.rest, s.seen);
  is_run = λ _. since_run s;
  calls = (λ i. own_calls (s.same.1 i) (s.seen i) (s.same.3 i)) ∙ others_leave_calls p.start p.seen s.rest p.who s.none;
}

-- a pass that caught up, and has then seen what the token tells
pub catches_up : {set : TableView} {p q : PassView} {token : SeenView} → IsOf p.trace set → IsStart p.trace.start →
    Since p.trace q.trace → KeepsPool p q → Begins token.seen q.trace.seen → CatchesUp set p token q
catches_up {set} {p} {q} {token} own is since pool begins =
    let run = since_run since in
    let start = start_of p.trace.start q.trace.start since.same.1 is in
    let safe = every_run q.trace.start q.trace.passes q.trace.seen start run in
    record {
      pass = (since.same.0 ∙ own.0, since.same.1 ∙ own.1, since.same.2 ∙ own.2);
      since = since;
      quiet = since_quiet since;
      pool = pool;
      begins = begins;
      legal = safe.legal;
      told = calls_since q.trace.start token.seen q.trace.seen begins;
      later = λ calls r s same on answered. stands_behind token.seen q.trace calls r s begins same on answered;
      exchanges = safe.exchanges;
      reads = reads_right q.trace.start q.trace.passes q.trace.seen start run;
      safe = record { is_run = run; safe = safe };
    }

-- ---- chains

chain_begins : (first : SeenView) (tokens : List SeenView) → IsChain first tokens →
    Begins first.seen (end_of first tokens).seen
chain_begins first [] chain = begins_refl first.seen
chain_begins first (next ∷ tokens) chain =
    begins_trans first.seen next.seen (end_of next tokens).seen chain.1 (chain_begins next tokens chain.2)

pub handed_on : (set : TableView) (first : SeenView) (tokens : List SeenView) (p q : PassView) → IsChain first tokens →
    CatchesUp set p (end_of first tokens) q → CatchesUp set p first q
handed_on set first tokens p q chain caught =
    let begins =
    begins_trans first.seen (end_of first tokens).seen q.trace.seen (chain_begins first tokens chain) caught.begins in
    record {
      pass = caught.pass;
      since = caught.since;
      quiet = caught.quiet;
      pool = caught.pool;
      begins = begins;
      legal = caught.legal;
      told = calls_since q.trace.start first.seen q.trace.seen begins;
      later = λ calls r s same on answered. stands_behind first.seen q.trace calls r s begins same on answered;
      exchanges = caught.exchanges;
      reads = caught.reads;
      safe = caught.safe;
    }

regrouped : (front ones a b c others more : List Call) →
    (((front ++ (ones ++ a)) ++ b) ++ c) ++ (others ++ more) ≡ front ++ (ones ++ (((a ++ b) ++ c) ++ (others ++ more)))
regrouped front ones a b c others more =
    let rest = others ++ more in
    ap (λ l. (l ++ c) ++ rest) (append_assoc front (ones ++ a) b ∙ ap (λ l. front ++ l) (append_assoc ones a b))
    ∙ ap (λ l. l ++ rest)
    (append_assoc front (ones ++ (a ++ b)) c ∙ ap (λ l. front ++ l) (append_assoc ones (a ++ b) c))
    ∙ append_assoc front (ones ++ ((a ++ b) ++ c)) rest
    ∙ ap (λ l. front ++ l) (append_assoc ones ((a ++ b) ++ c) rest)

pub in_order : (set : TableView) (ones others : List Call) (g h k : Trace) (first : SeenView) (tokens : List SeenView)
    (p q : PassView) (r s : Trace) → AnswersAll ones g h → IsSame h k → Begins h.seen k.seen → IsTokenOf set k first →
    IsChain first tokens
    → CatchesUp set p (end_of first tokens) q → IsSame q.trace r → Begins q.trace.seen r.seen → AnswersAll others r s →
    Precedes ones others (calls_of s.start s.seen)
in_order set ones others g h k first tokens p q r s answered same on token chain caught same_then on_then
    answered_then =
    let own = answered.together in
    let more = calls_since h.start h.seen k.seen on in
    let start : q.trace.start ≡ h.start = caught.pass.1 ∙ sym token.pass.1 ∙ same.start in
    let told : calls_of q.trace.start first.seen ≡ calls_of h.start k.seen = λ i. calls_of (start i) (token.seen i) in
    let then = (handed_on set first tokens p q chain caught).later others r s same_then on_then answered_then in
    let front : List Call = calls_of g.start g.seen ++ own.between in
    record {
      first = front;
      between = ((own.more ++ more.0) ++ then.between);
      more = then.more;
      stands = then.stands
          ∙ ap (λ l. (l ++ then.between) ++ (others ++ then.more)) (told ∙ more.1 ∙ ap (λ l. l ++ more.0) own.stands)
          ∙ regrouped front ones own.more more.0 then.between others then.more;
    }
