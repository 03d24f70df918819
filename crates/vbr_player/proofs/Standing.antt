-- Workers that play a phase and meet stand after it.
use Rattle.std.proofs.Common.{◌≡◌, ℕ, zero, suc, ◌+◌, ◌-◌, ◌*◌, ◌<◌, ◌≤◌, List, [], ◌∷◌, ◌++◌, length, refl, sym, ap}
use Rattle.std.proofs.Common.{ap₂, subst, ◌∙◌, inl, inr, append-nil, arith, length-append}
use Rattle.std.specs.Prelude.{zip, All, Vec}
use Rattle.std.specs.Global.{Global}
use Rattle.std.specs.List.{AllZip}
use Rattle.std.specs.Vec.{vec_capacity}
use Rattle.std.proofs.Math.Nat.{mul-suc}
use Rattle.std.proofs.lemmas.Bool.{cases_lt}
use Rattle.std.proofs.lemmas.List.Elements.{All-nil, All-cons, All-head, All-tail, All-append}
use Rattle.vbr_machine.specs.Start.{Start}
use Rattle.vbr_machine.specs.Calls.{own_calls}
use Rattle.vbr_machine.specs.History.{calls_by}
use Rattle.vbr_machine.specs.Runs.{Begins, world_after}
use Rattle.vbr_machine.specs.declared.event.Event.{Event}
use Rattle.vbr_machine.specs.declared.history.Call.{Call}
use Rattle.vbr_machine.proofs.Lemmas.{begins_trans, calls_by-append, calls_since}
use Rattle.vbr_slots.specs.steps.Calls.{made_by}
use Rattle.vbr_slots.specs.views.Views.{IsOf, TableView, new_pass, steps_of}
use Rattle.vbr_set.specs.calls.Members.{as_member}
use Rattle.vbr_transcript.specs.Calls.{Outcome, answered_calls, lines_by, lines_up_to}
use Rattle.vbr_player.specs.Calling.{CallsInTurn}
use Rattle.vbr_player.specs.Meeting.{AreOfOne, HasSeenMore, Meets, PlayedAndMet}
use Rattle.vbr_transcript.specs.Merging.{replies_by}
use Rattle.vbr_player.specs.Standing.{replies_of, AreNumberedFrom, HasPlayed, HasEnded, Stand}
use Rattle.vbr_player.specs.Working.{TellsReply, HasRoomForReplies, HaveRoomForReplies, Played}
use Rattle.vbr_script.specs.declared.script.Kind.{Kind}
use Rattle.vbr_script.specs.declared.script.Line.{Line}
use Rattle.vbr_transcript.specs.declared.reply.Reply.{Reply}
use Rattle.vbr_player.specs.declared.worker.Worker.{Worker}
use Rattle.vbr_transcript.proofs.Lemmas.{zip-append, zip_longer}
use Rattle.vbr_player.proofs.Calling.{turns_met, turns_on}
use Rattle.vbr_player.proofs.Slices.{lines_by-append, called_more, replied_more}
use Rattle.vbr_player.proofs.Working.{all_tell_on}

-- ---- one worker

-- it has room for the next lines
pub room_for : {N : Type 0} {kind : Kind} →
    (set : TableView) (budget most : ℕ) (script front slice back : List Line) (w : Worker N) →
    script ≡ (front ++ slice) ++ back → HasPlayed kind set budget most script front w → HasRoomForReplies w slice
room_for {N} {kind} set budget most script front slice back w whole has =
    let who = w.caller.pass.trace.who in
    let all : length (lines_by who script)
    ≡ length (lines_by who front) + length (lines_by who slice) + length (lines_by who back) =
    ap (λ (lines : List Line). length (lines_by who lines)) whole
    ∙ ap length (lines_by-append who (front ++ slice) back)
    ∙ length-append (lines_by who (front ++ slice)) (lines_by who back)
    ∙ ap (λ n. n + length (lines_by who back))
    (ap length (lines_by-append who front slice) ∙ length-append (lines_by who front) (lines_by who slice)) in
    let each = has.one_each in let enough = has.room in
    omega arith

-- it has played lines where its number and its replies have what that asks of them
has_so : {N : Type 0} {kind : Kind} (set : TableView) (budget most : ℕ) (script lines : List Line) (v : Worker N)
    (who : ℕ) (replies : List Reply) → v.caller.pass.trace.who ≡ who → v.replies.items ≡ replies →
    v.caller.set ≡ set → IsOf v.caller.pass.trace set → length replies ≡ length (lines_by who lines) →
    made_by v.caller.pass.trace ≡ answered_calls kind (zip (lines_by who lines) replies) →
    All (λ outcome. TellsReply kind v.caller.pass.trace outcome.0.op outcome.1) (zip (lines_by who lines) replies) →
    CallsInTurn kind budget (zip (lines_by who lines) replies) (as_member set (new_pass set who)) v.caller →
    steps_of v.caller.pass.trace ≤ budget * length replies + most →
    length (lines_by who script) ≤ vec_capacity v.replies → HasPlayed kind set budget most script lines v
has_so {N} {kind} set budget most script lines v who replies w r set_is of one_each calls tells in_turn steps room =
    let are : (who, replies) ≡ (v.caller.pass.trace.who, v.replies.items) = λ i. (sym w i, sym r i) in
    record {
      set_is = set_is;
      of = of;
      one_each = rw (w, r) one_each;
      calls = subst
          (λ (k : ℕ × List Reply).
          made_by v.caller.pass.trace ≡ answered_calls kind (zip (lines_by k.0 lines) k.1)) are calls;
      tells = rw (w, r) tells;
      in_turn = subst
          (λ (k : ℕ × List Reply).
          CallsInTurn kind budget (zip (lines_by k.0 lines) k.1) (as_member set (new_pass set k.0)) v.caller) are
          in_turn;
      steps = rw r steps;
      room = rw w room;
    }

-- it has played them too
pub played_more : {N : Type 0} {kind : Kind} →
    (set : TableView) (budget most : ℕ) (script front slice : List Line) (w v : Worker N) →
    HasPlayed kind set budget most script front w → Played kind budget slice w v →
    HasPlayed kind set budget most script (front ++ slice) v
played_more {N} {kind} set budget most script front slice w v has played =
    let who = w.caller.pass.trace.who in
    let same : v.caller.pass.trace.who ≡ who = played.same.who in
    let lines = front ++ slice in
    let told = λ (outcome : Outcome). TellsReply kind v.caller.pass.trace outcome.0.op outcome.1 in
    let replied : length (w.replies.items ++ played.more) ≡ length (lines_by who lines) =
    replied_more who front slice w.replies.items played.more has.one_each played.one_each in
    let called : made_by v.caller.pass.trace
    ≡ answered_calls kind (zip (lines_by who lines) (w.replies.items ++ played.more)) =
    called_more kind who front slice w.replies.items played.more (made_by w.caller.pass.trace)
    (made_by v.caller.pass.trace) has.one_each has.calls played.calls in
    let outcomes : zip (lines_by who lines) (w.replies.items ++ played.more)
    ≡ zip (lines_by who front) w.replies.items ++ zip (lines_by who slice) played.more =
    ap (λ (own : List Line). zip own (w.replies.items ++ played.more)) (lines_by-append who front slice)
    ∙ zip-append (lines_by who front) (lines_by who slice) w.replies.items played.more has.one_each in
    let early : All told (zip (lines_by who front) w.replies.items) =
    all_tell_on kind (zip (lines_by who front) w.replies.items) played.same played.seen has.tells in
    let tells : All told (zip (lines_by who lines) (w.replies.items ++ played.more)) =
    subst (All told) (sym outcomes)
    (All-append told (zip (lines_by who front) w.replies.items) (zip (lines_by who slice) played.more) early
    played.tells) in
    let in_turn : CallsInTurn kind budget (zip (lines_by who lines) (w.replies.items ++ played.more))
    (as_member set (new_pass set who)) v.caller =
    subst (λ (some : List Outcome). CallsInTurn kind budget some (as_member set (new_pass set who)) v.caller)
    (sym outcomes)
    (turns_on kind budget (as_member set (new_pass set who)) w.caller v.caller
    (zip (lines_by who front) w.replies.items) (zip (lines_by who slice) played.more) has.in_turn played.in_turn) in
    let steps : steps_of v.caller.pass.trace ≤ budget * length (w.replies.items ++ played.more) + most =
    let long : length (w.replies.items ++ played.more) ≡ length w.replies.items + length played.more =
    length-append w.replies.items played.more in
    rw long (let a = has.steps in let b = played.steps in omega arith) in
    let room : length (lines_by who script) ≤ vec_capacity v.replies = let had = has.room in
    let grows = played.room in
    omega arith in
    has_so set budget most script lines v who (w.replies.items ++ played.more) same played.replies
    (played.set ∙ has.set_is)
    (played.same.table ∙ has.of.0, played.same.start ∙ has.of.1, played.same.passes ∙ has.of.2) replied called tells
    in_turn steps room

-- it has, when it has looked
pub played_looks : {N : Type 0} {kind : Kind} →
    (set : TableView) (budget most more : ℕ) (script lines : List Line) (v u : Worker N) →
    HasPlayed kind set budget most script lines v → HasSeenMore more v u →
    HasPlayed kind set budget (most + more) script lines u
played_looks {N} {kind} set budget most more script lines v u has looks =
    let quiet = looks.looked.quiet in
    let who = v.caller.pass.trace.who in
    let told = λ (outcome : Outcome). TellsReply kind u.caller.pass.trace outcome.0.op outcome.1 in
    let tells : All told (zip (lines_by who lines) v.replies.items) =
    all_tell_on kind (zip (lines_by who lines) v.replies.items) quiet.same quiet.seen has.tells in
    let in_turn =
    turns_met kind budget (as_member set (new_pass set who)) v.caller u.caller
    (zip (lines_by who lines) v.replies.items) has.in_turn looks.looked.met in
    let steps : steps_of u.caller.pass.trace ≤ budget * length v.replies.items + (most + more) = let a = has.steps in
    let b = looks.looked.steps in
    omega arith in
    has_so set budget (most + more) script lines u who v.replies.items quiet.same.who
    (ap (λ (replies : Vec Reply Global). replies.items) looks.replies) (looks.looked.set ∙ has.set_is)
    (quiet.same.table ∙ has.of.0, quiet.same.start ∙ has.of.1, quiet.same.passes ∙ has.of.2) has.one_each
    (quiet.calls ∙ has.calls) tells in_turn steps
    (subst (λ (replies : Vec Reply Global). length (lines_by who script) ≤ vec_capacity replies) (sym looks.replies)
    has.room)

-- ---- all workers

-- what each of two lists of workers has, by what a third has
pub all_from_zip : {N : Type 0} → (R : Worker N → Worker N → Type 0) (P Q : Worker N → Type 0) →
    ((w v : Worker N) → P w → R w v → Q v) → (ws vs : List (Worker N)) → All P ws → AllZip R ws vs → All Q vs
all_from_zip R P Q step [] [] all zipped = All-nil Q
all_from_zip R P Q step (w ∷ ws) (v ∷ vs) all zipped =
    All-cons Q v vs (step w v (All-head P w ws all) zipped.0)
    (all_from_zip R P Q step ws vs (All-tail P w ws all) zipped.1)
all_from_zip R P Q step [] (v ∷ vs) all zipped = absurd zipped
all_from_zip R P Q step (w ∷ ws) [] all zipped = absurd zipped

pub numbered_zip : {N : Type 0} → (R : Worker N → Worker N → Type 0) →
    ((w v : Worker N) → R w v → v.caller.pass.trace.who ≡ w.caller.pass.trace.who) →
    (who : ℕ) (ws vs : List (Worker N)) → AreNumberedFrom who ws → AllZip R ws vs → AreNumberedFrom who vs
numbered_zip R same who [] [] numbered zipped = tt
numbered_zip R same who (w ∷ ws) (v ∷ vs) numbered zipped =
    (same w v zipped.0 ∙ numbered.0, numbered_zip R same (suc who) ws vs numbered.1 zipped.1)
numbered_zip R same who [] (v ∷ vs) numbered zipped = absurd zipped
numbered_zip R same who (w ∷ ws) [] numbered zipped = absurd zipped

pub zip_zip : {N : Type 0} → (R S T : Worker N → Worker N → Type 0) → ((w v u : Worker N) → R w v → S v u → T w u) →
    (ws vs us : List (Worker N)) → AllZip R ws vs → AllZip S vs us → AllZip T ws us
zip_zip R S T step [] [] [] first then = tt
zip_zip R S T step (w ∷ ws) (v ∷ vs) (u ∷ us) first then =
    (step w v u first.0 then.0, zip_zip R S T step ws vs us first.1 then.1)
zip_zip R S T step [] (v ∷ vs) us first then = absurd first
zip_zip R S T step (w ∷ ws) [] us first then = absurd first
zip_zip R S T step [] [] (u ∷ us) first then = absurd then
zip_zip R S T step (w ∷ ws) (v ∷ vs) [] first then = absurd then

pub zip_length : {N : Type 0} → (R : Worker N → Worker N → Type 0) (ws vs : List (Worker N)) → AllZip R ws vs →
    length vs ≡ length ws
zip_length R [] [] zipped = refl
zip_length R (w ∷ ws) (v ∷ vs) zipped = ap suc (zip_length R ws vs zipped.1)
zip_length R [] (v ∷ vs) zipped = absurd zipped
zip_length R (w ∷ ws) [] zipped = absurd zipped

-- ---- a phase that has ended

-- a worker has seen more, and has more replies
pub record GoesOn {N : Type 0} (w u : Worker N) : Type 0 where
  pub seen : Begins w.caller.pass.trace.seen u.caller.pass.trace.seen
  pub more : List Reply
  pub replies : u.replies.items ≡ w.replies.items ++ more

goes_on : {N : Type 0} {kind : Kind} → (budget most : ℕ) (slice : List Line) (w v u : Worker N) →
    Played kind budget slice w v → HasSeenMore most v u → GoesOn w u
goes_on {N} {kind} budget most slice w v u played looks =
    record {
      seen = begins_trans w.caller.pass.trace.seen v.caller.pass.trace.seen u.caller.pass.trace.seen played.seen
          looks.looked.quiet.seen;
      more = played.more;
      replies = ap (λ (rs : Vec Reply Global). rs.items) looks.replies ∙ played.replies;
    }

more_replies : {N : Type 0} → (ws us : List (Worker N)) (who : ℕ) → who < length ws → AllZip GoesOn ws us →
    (more : List Reply) × (replies_by who (replies_of us) ≡ replies_by who (replies_of ws) ++ more)
more_replies [] us who inside grow = absurd (omega arith)
more_replies (w ∷ ws) [] who inside grow = absurd grow
more_replies (w ∷ ws) (u ∷ us) zero inside grow = (grow.0.more, grow.0.replies)
more_replies (w ∷ ws) (u ∷ us) (suc who) inside grow = more_replies ws us who (omega arith) grow.1

-- it has ended for workers that go on
ended_later : {N : Type 0} {kind : Kind} →
    (set : TableView) (script : List Line) (phase : ℕ) (ws us : List (Worker N)) → AllZip GoesOn ws us →
    HasEnded kind set script phase ws → HasEnded kind set script phase us
ended_later {N} {kind} set script phase ws us grow ended =
    let same : length us ≡ length ws = zip_length GoesOn ws us grow in
    record {
      seen = ended.seen;
      begins = all_from_zip GoesOn (λ w. Begins ended.seen w.caller.pass.trace.seen)
          (λ u. Begins ended.seen u.caller.pass.trace.seen)
          (λ w u begins goes.
          begins_trans ended.seen w.caller.pass.trace.seen u.caller.pass.trace.seen begins goes.seen) ws us ended.begins
          grow;
      replied = λ who inside.
          let more = more_replies ws us who (omega arith) grow in
          let had = ended.replied who (omega arith) in
          let now : length (replies_by who (replies_of us)) ≡ length (replies_by who (replies_of ws)) + length more.0 =
          ap length more.1 ∙ length-append (replies_by who (replies_of ws)) more.0 in
          omega arith;
      called = λ who inside.
          let more = more_replies ws us who (omega arith) grow in
          let own = lines_by who (lines_up_to phase script) in
          ended.called who (omega arith)
          ∙ ap (answered_calls kind)
          (sym (ap (λ (rs : List Reply). zip own rs) more.1
          ∙ zip_longer own (replies_by who (replies_of ws)) more.0 (ended.replied who (omega arith))));
    }

-- nothing stands between a list and itself
none_between : (xs more others ys : List Call) → ys ≡ xs ++ more → xs ≡ ys ++ others → ys ≡ xs
none_between xs [] others ys front back = front ∙ append-nil xs
none_between xs (call ∷ more) others ys front back =
    let longer : length ys ≡ length xs + length (call ∷ more) = ap length front ∙ length-append xs (call ∷ more) in
    let shorter : length xs ≡ length ys + length others = ap length back ∙ length-append ys others in
    absurd (omega arith)

-- the calls of a pass at a moment between two at which it has made the same calls
calls_between : (start : Start) (who : ℕ) (before moment after : List Event) → Begins before moment →
    Begins moment after → own_calls start after who ≡ own_calls start before who →
    own_calls start moment who ≡ own_calls start before who
calls_between start who before moment after from to same =
    let first = calls_since start before moment from in
    let then = calls_since start moment after to in
    let front : own_calls start moment who ≡ own_calls start before who ++ calls_by who first.0 =
    ap (calls_by who) first.1 ∙ calls_by-append who (world_after start before).calls first.0 in
    let back : own_calls start after who ≡ own_calls start moment who ++ calls_by who then.0 =
    ap (calls_by who) then.1 ∙ calls_by-append who (world_after start moment).calls then.0 in
    none_between (own_calls start before who) (calls_by who first.0) (calls_by who then.0) (own_calls start moment who)
    front (sym same ∙ back)

-- a worker that has met has called its lines at the moment of the meeting
one_called : {N : Type 0} {kind : Kind} →
    (set : TableView) (budget most more : ℕ) (script lines : List Line) (moment : List Event) (v u : Worker N)
    (who : ℕ) → u.caller.pass.trace.who ≡ who → HasPlayed kind set budget most script lines u → HasSeenMore more v u →
    Begins v.caller.pass.trace.seen moment → Begins moment u.caller.pass.trace.seen →
    own_calls set.start moment who ≡ answered_calls kind (zip (lines_by who lines) u.replies.items)
one_called {N} {kind} set budget most more script lines moment v u who number has looks from to =
    let quiet = looks.looked.quiet in
    let start : u.caller.pass.trace.start ≡ set.start = has.of.1 in
    let at_last : own_calls u.caller.pass.trace.start u.caller.pass.trace.seen u.caller.pass.trace.who
    ≡ own_calls set.start u.caller.pass.trace.seen who =
    ap₂ (λ (d : Start) (k : ℕ). own_calls d u.caller.pass.trace.seen k) start number in
    let at_first : own_calls v.caller.pass.trace.start v.caller.pass.trace.seen v.caller.pass.trace.who
    ≡ own_calls set.start v.caller.pass.trace.seen who =
    ap₂ (λ (d : Start) (k : ℕ). own_calls d v.caller.pass.trace.seen k) (sym quiet.same.start ∙ start)
    (sym quiet.same.who ∙ number) in
    let same : own_calls set.start u.caller.pass.trace.seen who ≡ own_calls set.start v.caller.pass.trace.seen who =
    sym at_last ∙ quiet.calls ∙ at_first in
    let then : own_calls set.start u.caller.pass.trace.seen who
    ≡ answered_calls kind (zip (lines_by who lines) u.replies.items) =
    sym at_last ∙ has.calls ∙ ap (λ (k : ℕ). answered_calls kind (zip (lines_by k lines) u.replies.items)) number in
    calls_between set.start who v.caller.pass.trace.seen moment u.caller.pass.trace.seen from to same ∙ sym same ∙ then

-- and so have all
all_called : {N : Type 0} {kind : Kind} →
    (set : TableView) (budget most more : ℕ) (script lines : List Line) (moment : List Event) (n : ℕ)
    (vs us : List (Worker N)) → AreNumberedFrom n us → All (HasPlayed kind set budget most script lines) us →
    AllZip (HasSeenMore more) vs us → All (λ v. Begins v.caller.pass.trace.seen moment) vs →
    All (λ u. Begins moment u.caller.pass.trace.seen) us → (i : ℕ) → i < length us →
    own_calls set.start moment (n + i)
    ≡ answered_calls kind (zip (lines_by (n + i) lines) (replies_by i (replies_of us)))
all_called {N} {kind} set budget most more script lines moment n vs [] numbered played looks from to i inside =
    absurd (omega arith)
all_called {N} {kind} set budget most more script lines moment n [] (u ∷ us) numbered played looks from to i inside =
    absurd looks
all_called {N} {kind} set budget most more script lines moment n (v ∷ vs) (u ∷ us) numbered played looks from to zero
    inside =
    let number : u.caller.pass.trace.who ≡ n + 0 = omega (arith, numbered.0) in
    one_called set budget most more script lines moment v u (n + 0) number
    (All-head (HasPlayed kind set budget most script lines) u us played) looks.0
    (All-head (λ (w : Worker N). Begins w.caller.pass.trace.seen moment) v vs from)
    (All-head (λ (w : Worker N). Begins moment w.caller.pass.trace.seen) u us to)
all_called {N} {kind} set budget most more script lines moment n (v ∷ vs) (u ∷ us) numbered played looks from to (suc i)
    inside =
    let same : suc n + i ≡ n + suc i = omega arith in
    subst (λ (k : ℕ).
    own_calls set.start moment k ≡ answered_calls kind (zip (lines_by k lines) (replies_by i (replies_of us)))) same
    (all_called set budget most more script lines moment (suc n) vs us numbered.1
    (All-tail (HasPlayed kind set budget most script lines) u us played) looks.1
    (All-tail (λ (w : Worker N). Begins w.caller.pass.trace.seen moment) v vs from)
    (All-tail (λ (w : Worker N). Begins moment w.caller.pass.trace.seen) u us to) i (omega arith))

-- a worker has as many replies as lines
pub as_many : {N : Type 0} {kind : Kind} →
    (set : TableView) (budget most : ℕ) (script lines : List Line) (n : ℕ) (us : List (Worker N)) →
    AreNumberedFrom n us → All (HasPlayed kind set budget most script lines) us → (i : ℕ) → i < length us →
    length (replies_by i (replies_of us)) ≡ length (lines_by (n + i) lines)
as_many {N} {kind} set budget most script lines n [] numbered played i inside = absurd (omega arith)
as_many {N} {kind} set budget most script lines n (u ∷ us) numbered played zero inside =
    let number : u.caller.pass.trace.who ≡ n + 0 = omega (arith, numbered.0) in
    (All-head (HasPlayed kind set budget most script lines) u us played).one_each
    ∙ ap (λ (k : ℕ). length (lines_by k lines)) number
as_many {N} {kind} set budget most script lines n (u ∷ us) numbered played (suc i) inside =
    let same : suc n + i ≡ n + suc i = omega arith in
    as_many set budget most script lines (suc n) us numbered.1
    (All-tail (HasPlayed kind set budget most script lines) u us played) i (omega arith)
    ∙ ap (λ (k : ℕ). length (lines_by k lines)) same

-- where workers that have played the lines up to a phase have met, it has ended
has_ended : {N : Type 0} {kind : Kind} →
    (set : TableView) (budget most : ℕ) (script lines : List Line) (phase : ℕ) (vs us : List (Worker N)) →
    lines_up_to phase script ≡ lines → AreNumberedFrom 0 us → All (HasPlayed kind set budget most script lines) us →
    Meets vs us → HasEnded kind set script phase us
has_ended {N} {kind} set budget most script lines phase vs us are numbered played meets =
    record {
      seen = meets.moment;
      begins = meets.to;
      replied = λ who inside.
          let many = as_many set budget most script lines 0 us numbered played who inside in
          let zero_who : 0 + who ≡ who = omega arith in
          let own : length (lines_by who (lines_up_to phase script)) ≡ length (lines_by (0 + who) lines) =
          ap (λ (ls : List Line). length (lines_by who ls)) are
          ∙ ap (λ (k : ℕ). length (lines_by k lines)) (sym zero_who) in
          omega arith;
      called = λ who inside.
          let zero_who : 0 + who ≡ who = omega arith in
          subst (λ (k : ℕ × List Line).
          own_calls set.start meets.moment k.0
          ≡ answered_calls kind (zip (lines_by k.0 k.1) (replies_by who (replies_of us))))
          (λ i. (zero_who i, sym are i))
          (all_called set budget most (length vs - 1) script lines meets.moment 0 vs us numbered played meets.looks
          meets.from meets.to who inside);
    }

-- ---- the next phase

-- workers of one set are so when they have played
pub are_of_played : {N : Type 0} → (kind : Kind) (budget : ℕ) (lines : List Line) (ws vs : List (Worker N)) →
    AreOfOne ws → AllZip (Played kind budget lines) ws vs → AreOfOne vs
are_of_played kind budget lines ws vs of played =
    record {
      set = of.set;
      all = all_from_zip (Played kind budget lines) (λ w. w.caller.set ≡ of.set) (λ v. v.caller.set ≡ of.set)
          (λ w v is p. p.set ∙ is) ws vs of.all played;
    }

-- workers that have played are of one set
pub are_of_stand : {N : Type 0} {kind : Kind} →
    (set : TableView) (budget : ℕ) (script lines : List Line) (count from phases : ℕ) (ws : List (Worker N)) →
    Stand kind set budget script lines count from phases ws → AreOfOne ws
are_of_stand {N} {kind} set budget script lines count from phases ws stand =
    record { set = set; all = λ k d inside. (stand.played k d inside).set_is }

-- all have room for the next lines
pub all_room : {N : Type 0} {kind : Kind} →
    (set : TableView) (budget most : ℕ) (script front slice back : List Line) (ws : List (Worker N)) →
    script ≡ (front ++ slice) ++ back → All (HasPlayed kind set budget most script front) ws →
    HaveRoomForReplies ws slice
all_room {N} {kind} set budget most script front slice back ws whole played =
    λ k d inside. room_for set budget most script front slice back _ whole (played k d inside)

-- one phase more, and the steps of its meeting
one_more_phase : (others from phase most : ℕ) → from ≤ phase → most ≡ others →
    others * (phase - from) + most ≡ others * (phase + 1 - from)
one_more_phase others from phase most order is =
    let next : suc (phase - from) ≡ phase + 1 - from = omega arith in
    ap (λ (k : ℕ). others * (phase - from) + k) is ∙ sym (mul-suc others (phase - from))
    ∙ ap (λ (k : ℕ). others * k) next

-- workers that have played a phase and met stand after it
pub stand_next : {N : Type 0} {kind : Kind} →
    (set : TableView) (budget : ℕ) (script front slice : List Line) (count from phase : ℕ) (ws us : List (Worker N)) →
    lines_up_to phase script ≡ front ++ slice → Stand kind set budget script front count from phase ws →
    PlayedAndMet kind budget slice ws us → Stand kind set budget script (front ++ slice) count from (phase + 1) us
stand_next {N} {kind} set budget script front slice count from phase ws us are stand next =
    let vs = next.apart in let played = next.played in let meets = next.meets in
    let lines = front ++ slice in
    let most = (count - 1) * (phase - from) in let more = length vs - 1 in
    let early : All (HasPlayed kind set budget most script lines) vs =
    all_from_zip (Played kind budget slice) (HasPlayed kind set budget most script front)
    (HasPlayed kind set budget most script lines) (λ w v. played_more set budget most script front slice w v) ws vs
    stand.played played in
    let late : All (HasPlayed kind set budget (most + more) script lines) us =
    all_from_zip (HasSeenMore more) (HasPlayed kind set budget most script lines)
    (HasPlayed kind set budget (most + more) script lines) (λ v u. played_looks set budget most more script lines v u)
    vs us early meets.looks in
    let as_many_apart : length vs ≡ length ws = zip_length (Played kind budget slice) ws vs played in
    let others : more ≡ count - 1 = ap (λ (k : ℕ). k - 1) (as_many_apart ∙ stand.count_is) in
    let all : All (HasPlayed kind set budget ((count - 1) * (phase + 1 - from)) script lines) us =
    subst (λ (k : ℕ). All (HasPlayed kind set budget k script lines) us)
    (one_more_phase (count - 1) from phase more stand.order others) late in
    let numbered : AreNumberedFrom 0 us =
    numbered_zip (HasSeenMore more) (λ v u looks. looks.looked.quiet.same.who) 0 vs us
    (numbered_zip (Played kind budget slice) (λ w v p. p.same.who) 0 ws vs stand.numbered played) meets.looks in
    let on : AllZip GoesOn ws us =
    zip_zip (Played kind budget slice) (HasSeenMore more) GoesOn (goes_on budget more slice) ws vs us played
    meets.looks in
    record {
      count_is = zip_length GoesOn ws us on ∙ stand.count_is;
      order = (let before = stand.order in omega arith);
      numbered = numbered;
      played = all;
      ended = λ p below. elim (cases_lt p phase) [
        | inl before ↦ ended_later set script p ws us on (stand.ended p before)
        | inr now ↦
            let this : phase ≡ p = omega arith in
            subst (λ (k : ℕ). HasEnded kind set script k us) this
            (has_ended set budget (most + more) script lines phase vs us are numbered late meets)
      ];
    }
