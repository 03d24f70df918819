-- A worker that plays on: what it played before and what it plays then make what it has played.
use Rattle.std.proofs.Common.{◌≡◌, ℕ, ◌+◌, ◌<◌, List, [], ◌∷◌, ◌++◌, length, append-nil, refl, sym, ap, ap₂, subst, ◌∙◌}
use Rattle.std.proofs.Common.{append_assoc, take, drop, get_or, arith, length-append, add-one}
use Rattle.std.specs.Prelude.{zip, All}
use Rattle.std.proofs.lemmas.List.{take_more, take-append-drop}
use Rattle.std.proofs.Math.Seq.{drop-cons}
use Rattle.std.proofs.lemmas.List.Elements.{All-append}
use Rattle.vbr_machine.specs.Runs.{Begins}
use Rattle.vbr_machine.specs.declared.history.Op.{Op}
use Rattle.vbr_machine.proofs.Lemmas.{begins_refl, begins_trans}
use Rattle.vbr_slots.specs.steps.Calls.{IsSame, made_by}
use Rattle.vbr_slots.specs.views.Views.{Trace}
use Rattle.vbr_slots.proofs.Lemmas.{same_on, same_refl}
use Rattle.vbr_transcript.specs.Calls.{Outcome, answered_calls, lines_by}
use Rattle.vbr_player.specs.Calling.{CallsInTurn}
use Rattle.vbr_player.specs.Working.{TellsReply, Played, HasRoomForReplies}
use Rattle.vbr_script.specs.declared.script.Kind.{Kind}
use Rattle.vbr_script.specs.declared.script.Line.{Line}
use Rattle.vbr_transcript.specs.declared.reply.Reply.{Reply}
use Rattle.vbr_transcript.specs.declared.reply.Reply.TheVariants.{Yes, Value, No, Full, Spent, Tired}
use Rattle.vbr_player.specs.declared.worker.Worker.{Worker}
use Rattle.vbr_transcript.proofs.Lemmas.{epoch_begins, zip-append}
use Rattle.vbr_player.proofs.Calling.{turns_on}
use Rattle.vbr_player.proofs.Slices.{answered-append, lines_by-append}

-- what a reply says stays so
pub tells_on : {q r : Trace} (kind : Kind) (op : Op) (reply : Reply) → IsSame q r → Begins q.seen r.seen →
    TellsReply kind q op reply → TellsReply kind r op reply
tells_on kind op Yes same seen told = told
tells_on kind op (Value value) same seen told = told
tells_on kind op No same seen told = tt
tells_on kind op Full same seen told = told
tells_on {q} {r} kind op Spent same seen told =
    let grows = epoch_begins q.start q.seen r.seen seen in
    let come = told.1 in
    (told.0, rw same.start (omega arith))
tells_on kind op Tired same seen told = tt

-- all that replies say stays so
pub all_tell_on : {q r : Trace} (kind : Kind) (outcomes : List Outcome) → IsSame q r → Begins q.seen r.seen →
    All (λ outcome. TellsReply kind q outcome.0.op outcome.1) outcomes →
    All (λ outcome. TellsReply kind r outcome.0.op outcome.1) outcomes
all_tell_on kind outcomes same seen told = λ k d inside. tells_on kind _ _ same seen (told k d inside)

-- ---- lines of a worker

-- the lines of a worker beside its replies, those to some lines before those to others
pub outcomes-append : (who : ℕ) (lines more : List Line) (xs ys : List Reply) →
    length xs ≡ length (lines_by who lines) →
    zip (lines_by who (lines ++ more)) (xs ++ ys) ≡ zip (lines_by who lines) xs ++ zip (lines_by who more) ys
outcomes-append who lines more xs ys same =
    ap (λ (own : List Line). zip own (xs ++ ys)) (lines_by-append who lines more)
    ∙ zip-append (lines_by who lines) (lines_by who more) xs ys same

-- ---- what was played

-- no line was
pub none_played : {N : Type 0} {kind : Kind} → (budget : ℕ) (p : Worker N) → Played kind budget [] p p
none_played {N} {kind} budget p = record {
  set = refl;
  same = same_refl p.caller.pass.trace;
  seen = begins_refl p.caller.pass.trace.seen;
  more = [];
  replies = sym (append-nil p.replies.items);
  one_each = refl;
  calls = sym (append-nil (made_by p.caller.pass.trace));
  tells = λ k d inside. absurd (omega arith);
  in_turn = (0, refl);
  steps = omega arith;
  room = omega arith;
}

-- some lines were, and then others
pub played_on : {N : Type 0} {kind : Kind} → (budget : ℕ) (lines more : List Line) (p q r : Worker N) →
    Played kind budget lines p q → Played kind budget more q r → Played kind budget (lines ++ more) p r
played_on {N} {kind} budget lines more p q r first then =
    let who = p.caller.pass.trace.who in
    let told = λ (outcome : Outcome). TellsReply kind r.caller.pass.trace outcome.0.op outcome.1 in
    let mine : List Line → List Line = λ some. lines_by who some in
    let same : q.caller.pass.trace.who ≡ who = first.same.who in
    let both : zip (lines_by who (lines ++ more)) (first.more ++ then.more)
    ≡ zip (lines_by who lines) first.more ++ zip (lines_by who more) then.more =
    outcomes-append who lines more first.more then.more first.one_each in
    let lengths : length then.more ≡ length (lines_by who more) =
    then.one_each ∙ ap (λ (w : ℕ). length (lines_by w more)) same in
    let calls : made_by r.caller.pass.trace
    ≡ made_by q.caller.pass.trace ++ answered_calls kind (zip (lines_by who more) then.more) = then.calls
    ∙ ap (λ (w : ℕ). made_by q.caller.pass.trace ++ answered_calls kind (zip (lines_by w more) then.more)) same in
    let early : All told (zip (lines_by who lines) first.more) =
    all_tell_on kind (zip (lines_by who lines) first.more) then.same then.seen first.tells in
    let late : All told (zip (lines_by who more) then.more) =
    subst (λ (w : ℕ). All told (zip (lines_by w more) then.more)) same then.tells in
    record {
      set = then.set ∙ first.set;
      same = same_on first.same then.same;
      seen = begins_trans p.caller.pass.trace.seen q.caller.pass.trace.seen r.caller.pass.trace.seen first.seen
          then.seen;
      more = first.more ++ then.more;
      replies = then.replies ∙ ap (λ (rs : List Reply). rs ++ then.more) first.replies
          ∙ append_assoc p.replies.items first.more then.more;
      one_each = length-append first.more then.more ∙ ap₂ (λ (a b : ℕ). a + b) first.one_each lengths
          ∙ sym (length-append (lines_by who lines) (lines_by who more))
          ∙ ap length (sym (lines_by-append who lines more));
      calls =
          calls ∙ ap (λ cs. cs ++ answered_calls kind (zip (lines_by who more) then.more)) first.calls
          ∙ append_assoc (made_by p.caller.pass.trace) (answered_calls kind (zip (lines_by who lines) first.more))
          (answered_calls kind (zip (lines_by who more) then.more))
          ∙ ap (λ cs. made_by p.caller.pass.trace ++ cs)
          (sym (answered-append kind (zip (lines_by who lines) first.more) (zip (lines_by who more) then.more))
          ∙ ap (answered_calls kind) (sym both));
      tells = subst (λ (outcomes : List Outcome). All told outcomes) (sym both)
          (All-append told (zip (lines_by who lines) first.more) (zip (lines_by who more) then.more) early late);
      in_turn = subst (λ (outcomes : List Outcome). CallsInTurn kind budget outcomes p.caller r.caller) (sym both)
          (turns_on kind budget p.caller q.caller r.caller (zip (lines_by who lines) first.more)
          (zip (lines_by who more) then.more) first.in_turn
          (subst (λ (w : ℕ). CallsInTurn kind budget (zip (lines_by w more) then.more) q.caller r.caller) same
          then.in_turn));
      steps =
          let long : length (first.more ++ then.more) ≡ length first.more + length then.more =
          length-append first.more then.more in
          rw long (let a = first.steps in let b = then.steps in omega arith);
      room = let a = first.room in let b = then.room in omega arith;
    }

-- the next line was too
pub played_next : {N : Type 0} {kind : Kind} → (budget : ℕ) (lines : List Line) (i : ℕ) (d : Line) (p q r : Worker N) →
    i < length lines → Played kind budget (take i lines) p q → Played kind budget (get_or lines i d ∷ []) q r →
    Played kind budget (take (i + 1) lines) p r
played_next {N} {kind} budget lines i d p q r inside first then =
    subst (λ (some : List Line). Played kind budget some p r) (sym (take_more lines i d inside))
    (played_on budget (take i lines) (get_or lines i d ∷ []) p q r first then)

-- ---- room

-- room for some lines and others is left for the others when the first were played
pub room_on : {N : Type 0} {kind : Kind} → (budget : ℕ) (lines more : List Line) (p q : Worker N) →
    Played kind budget lines p q → HasRoomForReplies p (lines ++ more) → HasRoomForReplies q more
room_on {N} {kind} budget lines more p q played room =
    let who = p.caller.pass.trace.who in
    let all : length (lines_by who (lines ++ more)) ≡ length (lines_by who lines) + length (lines_by who more) =
    ap length (lines_by-append who lines more) ∙ length-append (lines_by who lines) (lines_by who more) in
    let had : length q.replies.items ≡ length p.replies.items + length played.more =
    ap length played.replies ∙ length-append p.replies.items played.more in
    let own : length (lines_by q.caller.pass.trace.who more) ≡ length (lines_by who more) =
    ap (λ (w : ℕ). length (lines_by w more)) played.same.who in
    let each = played.one_each in let grows = played.room in omega arith

-- room for some lines and others is room for the first
pub room_front : {N : Type 0} → (lines more : List Line) (p : Worker N) → HasRoomForReplies p (lines ++ more) →
    HasRoomForReplies p lines
room_front lines more p room =
    let who = p.caller.pass.trace.who in
    let all : length (lines_by who (lines ++ more)) ≡ length (lines_by who lines) + length (lines_by who more) =
    ap length (lines_by-append who lines more) ∙ length-append (lines_by who lines) (lines_by who more) in
    omega arith

-- room for the next line
pub room_next : {N : Type 0} {kind : Kind} → (budget : ℕ) (lines : List Line) (i : ℕ) (d : Line) (p q : Worker N) →
    i < length lines → Played kind budget (take i lines) p q → HasRoomForReplies p lines →
    HasRoomForReplies q (get_or lines i d ∷ [])
room_next {N} {kind} budget lines i d p q inside played room =
    let parts : lines ≡ take i lines ++ (get_or lines i d ∷ drop (i + 1) lines) =
    sym (take-append-drop i lines)
    ∙ ap (λ (rest : List Line). take i lines ++ rest)
    (drop-cons lines i d inside ∙ ap (λ (n : ℕ). get_or lines i d ∷ drop n lines) (sym (add-one i))) in
    room_front (get_or lines i d ∷ []) (drop (i + 1) lines) q
    (room_on budget (take i lines) (get_or lines i d ∷ drop (i + 1) lines) p q played
    (subst (λ (some : List Line). HasRoomForReplies p some) parts room))
