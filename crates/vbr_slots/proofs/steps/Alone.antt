-- The steps of a pass that was alone: nothing was done before each but what the pass had seen.
use Rattle.std.proofs.Common.{◌≡◌, ℕ, ◌≤◌, List, [], ◌∷◌, ◌++◌, refl, sym, ap, ◌∙◌, subst, arith}
use Rattle.std.proofs.Common.{append_assoc, append-nil}
use Rattle.std.proofs.lemmas.List.{append_cancel_left}
use Rattle.vbr_machine.specs.Start.{Start, IsStart}
use Rattle.vbr_words.specs.declared.place.At.{At}
use Rattle.vbr_words.specs.declared.place.At.TheVariants.{Head}
use Rattle.vbr_machine.specs.Accounts.{happens, incarnations_after}
use Rattle.vbr_machine.specs.Images.{link_shown_at}
use Rattle.vbr_machine.specs.Incarnations.{Incarnations}
use Rattle.vbr_machine.specs.Machine.{World, found}
use Rattle.vbr_machine.specs.Runs.{IsRun, Begins, NoneOf, world_after}
use Rattle.vbr_machine.specs.declared.event.Event.{Event}
use Rattle.vbr_machine.specs.declared.event.Effect.TheVariants.{Value}
use Rattle.vbr_machine.specs.declared.event.Step.{Step}
use Rattle.vbr_machine.specs.declared.event.Step.TheVariants.{ReadEpoch, StoreStamp, Raise}
use Rattle.vbr_machine.proofs.Lemmas.{begins_trans, calls_or_adds_none, is_run_before, is_run_last}
use Rattle.vbr_machine.proofs.Lemmas.{own_calls-snoc, raise_epoch, raise_leaves}
use Rattle.vbr_machine.proofs.Lemmas.{raise_links, read_leaves, run_agrees, stamp_epoch, stamp_leaves, stamp_links}
use Rattle.vbr_machine.proofs.Lemmas.{calls_added}
use Rattle.vbr_machine.specs.Calls.{own_calls}
use Rattle.vbr_machine.specs.declared.history.Call.{Call}
use Rattle.vbr_machine.specs.Acceptance.{Accepts}
use Rattle.vbr_machine.specs.Nodes.{behind}
use Rattle.vbr_slots.specs.steps.Alone.{OnlyEventsOf, IsAlone, nodes, IsFresh, ahead, LeavesLists}
use Rattle.vbr_slots.specs.steps.Calls.{Quiet}
use Rattle.vbr_slots.specs.views.Views.{Trace, Did, knows, event_of}
use Rattle.vbr_slots.proofs.steps.Calls.{did_seen}

-- ---- parts of what was done alone

all_front : (who : ℕ) (xs ys : List Event) → OnlyEventsOf who (xs ++ ys) → OnlyEventsOf who xs
all_front who [] ys h = tt
all_front who (x ∷ xs) ys h = (h.0, all_front who xs ys h.1)

all_back : (who : ℕ) (xs ys : List Event) → OnlyEventsOf who (xs ++ ys) → OnlyEventsOf who ys
all_back who [] ys h = h
all_back who (x ∷ xs) ys h = all_back who xs ys h.1

-- what was done is what was done first, and then the rest
in_parts : (p q r : Trace) (x : Begins p.seen q.seen) (y : Begins q.seen r.seen) (a : IsAlone p r) → a.own ≡ x.0 ++ y.0
in_parts p q r x y a =
    append_cancel_left p.seen a.own (x.0 ++ y.0)
    (sym a.seen ∙ y.1 ∙ ap (λ l. l ++ y.0) x.1 ∙ append_assoc p.seen x.0 y.0)

pub alone_first : {p q r : Trace} → Begins p.seen q.seen → Begins q.seen r.seen → IsAlone p r → IsAlone p q
alone_first {p} {q} {r} x y a =
    let P : List Event → Type 0 = OnlyEventsOf p.who in
    record { own = x.0; each = all_front p.who x.0 y.0 (subst P (in_parts p q r x y a) a.each); seen = x.1 }

pub alone_then : {p q r : Trace} → q.who ≡ p.who → Begins p.seen q.seen → Begins q.seen r.seen → IsAlone p r →
    IsAlone q r
alone_then {p} {q} {r} who x y a =
    let P : List Event → Type 0 = OnlyEventsOf p.who in
    let Q : ℕ → Type 0 = λ w. OnlyEventsOf w y.0 in
    record {
      own = y.0;
      each = subst Q (sym who) (all_back p.who x.0 y.0 (subst P (in_parts p q r x y a) a.each));
      seen = y.1;
    }

-- ---- one step

none_and_all : (who : ℕ) (rest : List Event) (e : Event) → NoneOf who rest → OnlyEventsOf who (rest ++ e ∷ []) →
    rest ≡ []
none_and_all who [] e n a = refl
none_and_all who (x ∷ rest) e n a = absurd (n.0 a.0)

module _ {step : Step} {p q : Trace} {r : ℕ} (d : Did step p q r) (alone : IsAlone p q) where
  -- nobody else did anything before it
  pub no_rest : d.rest ≡ []
  no_rest =
      let P : List Event → Type 0 = OnlyEventsOf p.who in
      let same : alone.own ≡ d.rest ++ event_of p.who step ∷ [] =
      append_cancel_left p.seen alone.own (d.rest ++ event_of p.who step ∷ [])
      (sym alone.seen ∙ d.seen ∙ append_assoc p.seen d.rest (event_of p.who step ∷ [])) in
      none_and_all p.who d.rest (event_of p.who step) d.none (subst P same alone.each)

  pub before_it : p.seen ++ d.rest ≡ p.seen
  before_it = ap (λ l. p.seen ++ l) no_rest ∙ append-nil p.seen

  pub seen_next : q.seen ≡ p.seen ++ event_of p.who step ∷ []
  seen_next = d.seen ∙ ap (λ l. l ++ event_of p.who step ∷ []) before_it

  pub nodes_next : nodes q ≡ incarnations_after p.start (p.seen ++ event_of p.who step ∷ [])
  nodes_next = (λ i. incarnations_after (d.same.1 i) (seen_next i))

  -- the run was one before it
  pub run_was : IsRun p.start p.passes p.seen
  run_was =
      let P : List Event → Type 0 = IsRun p.start p.passes in
      is_run_before p.start p.passes p.seen (event_of p.who step ∷ []) (subst P seen_next d.is_run)

  -- a step that only reads leaves the incarnations as they were
  pub looks : ((w : World) (a : Incarnations) → happens p.start w a p.who step ≡ []) → nodes q ≡ nodes p
  looks none = nodes_next
      ∙ read_leaves p.start p.seen p.who step (none (world_after p.start p.seen) (incarnations_after p.start p.seen))

-- ---- what was read

value_was : (r n : ℕ) → Value r ≡ Value n → n ≡ r
value_was r n e = cc

-- the epoch that was read is the one that stands
pub epoch_now : {p q : Trace} {epoch : ℕ} → IsStart p.start → Did ReadEpoch p q epoch → IsAlone p q →
    epoch ≡ (nodes p).epoch
epoch_now {p} {q} {epoch} is d alone =
    let ok = run_was d alone in
    sym (value_was epoch _ d.shows.answers) ∙ ap (λ l. (world_after p.start l).epoch) (before_it d alone)
    ∙ (run_agrees p.start p.passes p.seen is ok).image.epoch

-- ---- steps in a row

pub alone_two : {s1 s2 : Step} {p q r : Trace} {a b : ℕ} → Did s1 p q a → Did s2 q r b → IsAlone p r →
    IsAlone p q × IsAlone q r
alone_two d e h = (alone_first (did_seen d) (did_seen e) h, alone_then d.same.3 (did_seen d) (did_seen e) h)

pub alone_three : {s1 s2 s3 : Step} {p q r t : Trace} {a b c : ℕ} → Did s1 p q a → Did s2 q r b → Did s3 r t c →
    IsAlone p t → IsAlone p q × IsAlone q r × IsAlone r t
alone_three {s1} {s2} {s3} {p} {q} {r} {t} d e f h =
    let later = alone_then d.same.3 (did_seen d) (begins_trans q.seen r.seen t.seen (did_seen e) (did_seen f)) h in
    let rest = alone_two e f later in
    (alone_first (did_seen d) (begins_trans q.seen r.seen t.seen (did_seen e) (did_seen f)) h, rest.0, rest.1)

-- ---- the epoch once it was read

-- an epoch that was just read is the one that stands, whoever did what before
pub fresh_read : {p q : Trace} {epoch : ℕ} → IsStart p.start → Did ReadEpoch p q epoch → (knows q).epoch ≡ epoch →
    IsFresh q
fresh_read {p} {q} {epoch} is d knew =
    let P : List Event → Type 0 = IsRun p.start p.passes in
    let ok = is_run_before p.start p.passes (p.seen ++ d.rest) (event_of p.who ReadEpoch ∷ [])
    (subst P d.seen d.is_run) in
    ap (λ (a : Incarnations). a.epoch)
    ((λ i. incarnations_after (d.same.1 i) (d.seen i)) ∙ read_leaves p.start (p.seen ++ d.rest) p.who ReadEpoch refl)
    ∙ sym (run_agrees p.start p.passes (p.seen ++ d.rest) is ok).image.epoch
    ∙ value_was epoch _ d.shows.answers
    ∙ sym knew

-- ---- what an exchange finds

-- a step that was made alone found what stood after all that the pass had seen
pub found_now : {step : Step} {p q : Trace} {r : ℕ} (d : Did step p q r) → IsAlone p q →
    found p.start (world_after p.start (p.seen ++ d.rest)) step ≡ found p.start (world_after p.start p.seen) step
found_now {step} {p} d alone = ap (λ l. found p.start (world_after p.start l) step) (before_it d alone)

-- ---- what leaves the lists as they were

pub leaves_on : {p q r : Trace} → LeavesLists p q → LeavesLists q r → LeavesLists p r
leaves_on x y =
    record {
      epoch = y.epoch ∙ x.epoch;
      links = λ place. y.links place ∙ x.links place;
      count = λ bucket place. y.count bucket place ∙ x.count bucket place;
    }

-- the same incarnations, in the same shape
pub same_leaves : (p q : Trace) → q.start ≡ p.start → nodes q ≡ nodes p → LeavesLists p q
same_leaves p q start same = record {
  epoch = ap (λ (a : Incarnations). a.epoch) same;
  links = λ place. ap (λ a. link_shown_at a place) same;
  count = λ bucket place. (λ i. behind (start i) (same i) bucket place);
}

module _ {step : Step} {p q : Trace} {r : ℕ} (d : Did step p q r) (alone : IsAlone p q) where
  pub accepted_now : Accepts p.start (knows p) step
  accepted_now =
      let P : List Event → Type 0 = IsRun p.start p.passes in
      (is_run_last p.start p.passes p.seen (event_of p.who step) (subst P (seen_next d alone) d.is_run)).1

  next_leaves : (nodes q).epoch ≡ (nodes p).epoch →
      ((place : At) →
      link_shown_at (incarnations_after p.start (p.seen ++ event_of p.who step ∷ [])) place
      ≡ link_shown_at (nodes p) place) →
      ((bucket : ℕ) (place : At) →
      behind p.start (incarnations_after p.start (p.seen ++ event_of p.who step ∷ [])) bucket place
      ≡ ahead p bucket place) →
      LeavesLists p q
  next_leaves epoch links count = record {
    epoch = epoch;
    links = λ place. ap (λ a. link_shown_at a place) (nodes_next d alone) ∙ links place;
    count = λ bucket place. (λ i. behind (d.same.1 i) (nodes_next d alone i) bucket place) ∙ count bucket place;
  }

pub stamp_leaves_lists : {p q : Trace} {s stamp r : ℕ} → IsStart p.start → Did (StoreStamp s stamp) p q r →
    IsAlone p q → LeavesLists p q
stamp_leaves_lists {p} {q} {s} {stamp} is d alone =
    let ok = run_was d alone in
    next_leaves d alone
    (ap (λ (a : Incarnations). a.epoch) (nodes_next d alone) ∙ stamp_epoch p.start p.passes p.seen is ok p.who s stamp)
    (λ place. stamp_links p.start p.passes p.seen is ok p.who s stamp place (accepted_now d alone))
    (λ bucket place. stamp_leaves p.start p.passes p.seen is ok p.who s stamp bucket place (accepted_now d alone))

pub raise_leaves_lists : {p q : Trace} {s r : ℕ} → IsStart p.start → Did (Raise s) p q r → IsAlone p q → LeavesLists p q
raise_leaves_lists {p} {q} {s} is d alone =
    let ok = run_was d alone in
    next_leaves d alone
    (ap (λ (a : Incarnations). a.epoch) (nodes_next d alone) ∙ raise_epoch p.start p.passes p.seen is ok p.who s)
    (λ place. raise_links p.start p.passes p.seen is ok p.who s place (accepted_now d alone))
    (λ bucket place. raise_leaves p.start p.passes p.seen is ok p.who s bucket place (accepted_now d alone))

-- ---- without a call

-- the calls of a pass go on with those of its own events
calls_go_on : (start : Start) (who : ℕ) (run own : List Event) → OnlyEventsOf who own →
    (more : List Call) × (own_calls start (run ++ own) who ≡ own_calls start run who ++ more)
calls_go_on start who run [] h =
    ([], ap (λ l. own_calls start l who) (append-nil run) ∙ sym (append-nil (own_calls start run who)))
calls_go_on start who run (e ∷ own) h =
    let rest = calls_go_on start who (run ++ e ∷ []) own h.1 in
    let added = calls_added start (world_after start run) e.pass e.step in
    let P : ℕ → Type 0 = λ w. own_calls start (run ++ e ∷ []) w ≡ own_calls start run w ++ added in (
      added ++ rest.0,
      ap (λ l. own_calls start l who) (sym (append_assoc run (e ∷ []) own)) ∙ rest.1
          ∙ ap (λ l. l ++ rest.0) (subst P h.0 (own_calls-snoc start run e))
          ∙ append_assoc (own_calls start run who) added rest.0,
    )

none_first : {A : Type 0} (xs ys : List A) → xs ++ ys ≡ [] → xs ≡ []
none_first [] ys e = refl
none_first (x ∷ xs) ys e = absurd (cc)

-- own events by which the pass makes no call add no node to a list
own_add_none : (start : Start) (passes who bucket h : ℕ) → IsStart start → (run own : List Event) →
    OnlyEventsOf who own → IsRun start passes (run ++ own) →
    own_calls start (run ++ own) who ≡ own_calls start run who →
    behind start (incarnations_after start (run ++ own)) bucket (Head h)
    ≤ behind start (incarnations_after start run) bucket (Head h)
own_add_none start passes who bucket h is run [] each ok calls =
    let P : List Event → Type 0 =
    λ l. behind start (incarnations_after start l) bucket (Head h)
    ≤ behind start (incarnations_after start run) bucket (Head h) in
    subst P (sym (append-nil run)) (omega arith)
own_add_none start passes who bucket h is run (e ∷ own) each ok calls =
    let next = run ++ e ∷ [] in
    let split : run ++ e ∷ own ≡ next ++ own = sym (append_assoc run (e ∷ []) own) in
    let Q : List Event → Type 0 = IsRun start passes in
    let P : List Event → Type 0 = λ l. own_calls start l who ≡ own_calls start run who in
    let ok_all = subst Q split ok in
    let ok_next = is_run_before start passes next own ok_all in
    let last = is_run_last start passes run e ok_next in
    let added = calls_added start (world_after start run) e.pass e.step in
    let more = calls_go_on start who next own each.1 in
    let R : ℕ → Type 0 = λ w. own_calls start next w ≡ own_calls start run w ++ added in
    let one : own_calls start next who ≡ own_calls start run who ++ added =
    subst R each.0 (own_calls-snoc start run e) in
    let all : own_calls start run who ++ (added ++ more.0) ≡ own_calls start run who ++ [] =
    sym (append_assoc (own_calls start run who) added more.0) ∙ ap (λ l. l ++ more.0) (sym one) ∙ sym more.1
    ∙ subst P split calls ∙ sym (append-nil (own_calls start run who)) in
    let none : added ≡ [] =
    none_first added more.0 (append_cancel_left (own_calls start run who) (added ++ more.0) [] all) in
    let still : own_calls start next who ≡ own_calls start run who =
    one ∙ ap (λ l. own_calls start run who ++ l) none ∙ append-nil (own_calls start run who) in
    let first : behind start (incarnations_after start next) bucket (Head h)
    ≤ behind start (incarnations_after start run) bucket (Head h) =
    calls_or_adds_none start passes run is (is_run_before start passes run (e ∷ []) ok_next) e.pass bucket h e.step
    last.1 none in
    let rest = own_add_none start passes who bucket h is next own each.1 ok_all (subst P split calls ∙ sym still) in
    let S : List Event → Type 0 =
    λ l. behind start (incarnations_after start l) bucket (Head h)
    ≤ behind start (incarnations_after start run) bucket (Head h) in
    subst S (sym split) (omega (arith, first, rest))

-- a pass that was alone and made no call has no more nodes in a list than before
pub quiet_adds_none : {p q : Trace} → IsStart p.start → IsRun p.start p.passes p.seen → Quiet p q → IsAlone p q →
    (bucket h : ℕ) → ahead q bucket (Head h) ≤ ahead p bucket (Head h)
quiet_adds_none {p} {q} is ok quiet alone bucket h =
    let same : ahead q bucket (Head h)
    ≡ behind p.start (incarnations_after p.start (p.seen ++ alone.own)) bucket (Head h) =
    (λ i. behind (quiet.same.start i) (incarnations_after (quiet.same.start i) (alone.seen i)) bucket (Head h)) in
    let run : IsRun p.start p.passes (p.seen ++ alone.own) =
    rw (quiet.same.start, quiet.same.passes, alone.seen) at (quiet.is_run ok) in
    let calls : own_calls p.start (p.seen ++ alone.own) p.who ≡ own_calls p.start p.seen p.who =
    sym (λ i. own_calls (quiet.same.start i) (alone.seen i) (quiet.same.who i)) ∙ quiet.calls in
    let P : ℕ → Type 0 = λ n. n ≤ ahead p bucket (Head h) in
    subst P (sym same) (own_add_none p.start p.passes p.who bucket h is p.seen alone.own alone.each run calls)
