use Rattle.std.proofs.Common.{◌≡◌, ℕ, List, [], ◌∷◌, ◌++◌, length, ap, ◌∙◌, subst, sym, arith, rules, None}
use Rattle.vbr_machine.specs.Start.{Start, IsStart, start_with}
use Rattle.vbr_machine.specs.Machine as machine
use Rattle.vbr_machine.specs.Runs.{IsRun, know_after}
use Rattle.vbr_machine.specs.declared.event.Event.{Event}
use Rattle.vbr_machine.proofs.Lemmas.{is_run_first}
use Rattle.vbr_slots.specs.runs.TableStart.{TableStart}
use Rattle.vbr_slots.specs.runs.Rule.{with_opened, first_opened}
use Rattle.vbr_slots.specs.views.Views.{TableView, counted_steps, steps_in}
use Rattle.vbr_slots.specs.pools.Tried.{first_tried, last_tried, tried_in}
use Rattle.vbr_slots.specs.words.Words.{AreWordsOf}
use Rattle.vbr_slots.proofs.seats.Seats.{opens, splits_first, first_is, first_has, first_empty, others_next}
use Rattle.vbr_slots.proofs.seats.Seats.{new_passes-next}
use Rattle.vbr_slots.proofs.steps.Tried.{tried_none}
use Rattle.vbr_slots.proofs.slots.Slots.build.Goals as goal

pub of_words-requires : goal.of_words-requires
of_words-requires g c =
    let is = c.in_ok-whole.ensures in
    opens c.in_ok-whole.whole c.as_slice.result.now
    (subst (λ (x : TableStart × List ℕ). AreWordsOf x.0.start (machine.opening x.0.start) x.1)
    (λ k. (sym is k, sym c.as_slice.ensures.value k)) c.in_ok-words.ensures.words)

pub split_seat-next-requires : goal.split_seat-next-requires
split_seat-next-requires g c =
    let words = c.in_ok-table.ensures.0 in
    let items = ap length c.as_slice.ensures.value in
    let count = c.in_ok-words.ensures.words.count in
    (c.loop-who.invariant.0, omega (arith, words, items, count), splits_first _ _ _)

pub invariant_of-runner : goal.invariant_of-runner
invariant_of-runner g c =
    let start : Start = start_with c.args.opening.shape c.args.keys.now c.args.values.now in
    let s = c.split_seat-next.ensures in
    let who = c.loop-who.who in
    let i = c.loop-who.invariant in
    let is = first_is (record { keys = c.args.keys.now; payloads = c.args.values.now }) who c.args.opening.passes
    c.loop-who.seat.me c.split_seat-next.new.seat.me c.split_seat-next.result.me c.loop-who-test.true i.1 s.2 s.4 in
    let has = first_has (record { keys = c.args.keys.now; payloads = c.args.values.now }) who c.args.opening.passes
    c.loop-who.seat.me c.split_seat-next.new.seat.me c.split_seat-next.result.me c.loop-who-test.true i.1 s.2 s.4 in
    let empty = first_empty (record { keys = c.args.keys.now; payloads = c.args.values.now }) who c.args.opening.passes
    c.loop-who.seat.me c.split_seat-next.new.seat.me c.split_seat-next.result.me c.loop-who-test.true i.1 s.2 s.4 in
    let same : start ≡ with_opened c.args.opening.shape (first_opened c.split_seat-next.new.seat.me.0) =
    ap (with_opened c.args.opening.shape) (sym has) in
    record {
      alone = is;
      low = c.loop-who-test.true;
      start = subst IsStart same c.in_ok-words.ensures.start;
      is_run = subst (λ (x : Start × List Event). IsRun x.0 c.args.opening.passes x.1) (λ k. (same k, sym empty k))
          (is_run_first start c.args.opening.passes);
      epoch = λ k. (know_after (same k) (sym empty k) who).epoch;
    }

pub invariant_of-stepper : goal.invariant_of-stepper
unfolding last_tried
invariant_of-stepper g c =
    let start : Start = start_with c.args.opening.shape c.args.keys.now c.args.values.now in
    let s = c.split_seat-next.ensures in
    let i = c.loop-who.invariant in
    let has = first_has (record { keys = c.args.keys.now; payloads = c.args.values.now }) c.loop-who.who
    c.args.opening.passes c.loop-who.seat.me c.split_seat-next.new.seat.me c.split_seat-next.result.me
    c.loop-who-test.true i.1 s.2 s.4 in
    let empty = first_empty (record { keys = c.args.keys.now; payloads = c.args.values.now }) c.loop-who.who
    c.args.opening.passes c.loop-who.seat.me c.split_seat-next.new.seat.me c.split_seat-next.result.me
    c.loop-who-test.true i.1 s.2 s.4 in
    let same : start ≡ with_opened c.args.opening.shape (first_opened c.split_seat-next.new.seat.me.0) =
    ap (with_opened c.args.opening.shape) (sym has) in
    let first = first_tried c.args.opening.shape c.args.opening.passes c.loop-who.who in
    record {
      start = subst IsStart same c.in_ok-words.ensures.start;
      pool = record {
        pooled = search rules;
        apart = search rules;
        in_hand = tt;
      };
      tried = c.first_tried.ensures.first ∙ tried_none c.loop-who.who first
          ∙ ap (λ (seen : List Event). tried_in c.loop-who.who seen first) (sym empty);
      low = c.first_tried.ensures.low;
    }

pub invariant_of-push : goal.invariant_of-push
invariant_of-push g c =
    let s = c.split_seat-next.ensures in
    let i = c.loop-who.invariant in
    let empty = first_empty (record { keys = c.args.keys.now; payloads = c.args.values.now }) c.loop-who.who
    c.args.opening.passes c.loop-who.seat.me c.split_seat-next.new.seat.me c.split_seat-next.result.me
    c.loop-who-test.true i.1 s.2 s.4 in
    record { steps = ap (λ es. counted_steps (steps_in c.loop-who.who es)) (sym empty) }

pub loop-who-preserved : goal.loop-who-preserved
loop-who-preserved g c =
    let start : Start = start_with c.args.opening.shape c.args.keys.now c.args.values.now in
    let s = c.split_seat-next.ensures in
    let i = c.loop-who.invariant in
    let table : TableView =
    record { table = c.in_ok-table.table.shared.table_id; start = start; passes = c.args.opening.passes } in
    let has = first_has (record { keys = c.args.keys.now; payloads = c.args.values.now }) c.loop-who.who
    c.args.opening.passes c.loop-who.seat.me c.split_seat-next.new.seat.me c.split_seat-next.result.me
    c.loop-who-test.true i.1 s.2 s.4 in
    let seen = first_empty (record { keys = c.args.keys.now; payloads = c.args.values.now }) c.loop-who.who
    c.args.opening.passes c.loop-who.seat.me c.split_seat-next.new.seat.me c.split_seat-next.result.me
    c.loop-who-test.true i.1 s.2 s.4 in (
      s.3 ∙ i.0,
      others_next (record { keys = c.args.keys.now; payloads = c.args.values.now }) c.loop-who.who c.args.opening.passes
          c.loop-who.seat.me c.split_seat-next.new.seat.me _ c.loop-who-test.true i.1 s.2 s.4,
      c.in-Ok.ensures.items
          ∙ (λ k. i.2 k
          ++ record {
            trace =
                record {
                  table = (s.0 ∙ i.0) k;
                  start = with_opened c.args.opening.shape (has k);
                  passes = c.args.opening.passes;
                  who = c.loop-who.who;
                  seen = seen k;
                };
            pool = c.new-in-loop-who.ensures k;
            hand = None;
          } ∷ [])
          ∙ sym (new_passes-next table c.loop-who.who),
    )
