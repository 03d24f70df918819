use Rattle.vbr_list.proofs.Names.{◌≡◌, ℕ, ◌+◌, ◌<◌, ◌≤◌, Bool, true, List, Some, length, rules, arith, refl, inl, sym}
use Rattle.vbr_list.proofs.Names.{ap, ◌∙◌, subst, At, BirthAt, counts_on, CountsSteps, Ghosts, had_spent, HandView}
use Rattle.vbr_list.proofs.Names.{Held, held_kept, IsRun, IsSameCall, keeps_on, key_on, KeyAt, knows, MayStoreNode}
use Rattle.vbr_list.proofs.Names.{Names, none_on, pass_in, PassView, PendingCall, POOL, quiet_on, ReadsIn}
use Rattle.vbr_list.proofs.Names.{replaced_since, ReplacedAt, Slot, Start, steps_to_birth, steps_to_update}
use Rattle.vbr_list.proofs.Names.{steps_to_value, StoresIn, trace_in, value_on, ValueAt, wide_found, wide_held}
use Rattle.vbr_list.proofs.pieces.Going.{counts_step, goes_counted, took_same}
use Rattle.vbr_list.proofs.traversals.Disturbing.{moves_epoch, moves_on, run_at}
use Rattle.vbr_list.proofs.look_ups.FoundValues.{some_birth, two_told}
use Rattle.vbr_list.proofs.removes.Marks.{apart, marks_behind}
use Rattle.vbr_list.proofs.traversals.Moments.{cur_is, key_found}
use Rattle.vbr_list.proofs.traversals.Reaching.{key_kept, pred_on, slot_same}
use Rattle.vbr_list.proofs.look_ups.ReadFirst.{cur_lost_since}
use Rattle.vbr_list.proofs.stores.Stores.{had_same, hand_kept, two_since}
use Rattle.vbr_list.proofs.named_entries.Publishing.{published_since}
use Rattle.vbr_list.proofs.named_entries.ReplacedEntries.{gone_entry}
use Rattle.vbr_list.proofs.pieces.WideWords.{wide_is}
use Rattle.vbr_list.proofs.call.PendingCall.replace_found.Goals as goal

some_same : {A : Type 0} (x y : A) → Some x ≡ Some y → x ≡ y
some_same x y e = cc

pub birth_after-named-requires : goal.birth_after-named-requires
birth_after-named-requires g c = record
    { held = (cur_is c.requires.read.1.locates (wide_is c.args.self.now c.in-Some.is)).held }

pub replace-requires-clause-node : goal.replace-requires-clause-node
replace-requires-clause-node g c = rw c.birth_after-named.ensures.table.slots (
    let k = c.requires.read.1 in
    let y = cur_is k.locates (wide_is c.args.self.now c.in-Some.is) in
    let there = key_found k.locates (wide_is c.args.self.now c.in-Some.is) k.is.present in
    let keeps = c.in-Ok.ensures.birth.keeps in
    let key = key_on c.in-Some.cur.at c.args.self.now.key keeps there in
    record {
      has_values = ap (λ (d : Start). d.shape.values) c.birth_after-named.ensures.reads.quiet.same.start ∙ k.values;
      present = record {
        held = held_kept (wide_held c.args.self.now c.in-Some.cur) keeps y.held;
        key = (c.args.self.now.key, key);
        unmarked = y.unmarked;
      };
      key_is = key;
      valued = λ has. (
        c.requires.read.0,
        value_on c.in-Some.cur.at c.requires.read.0 keeps
            (k.is.known (wide_held c.args.self.now c.in-Some.cur) (wide_is c.args.self.now c.in-Some.is)),
      );
      birth = c.in-Ok.ensures.birth.birth;
    })

pub returns-in_default-named : goal.returns-in_default-named
returns-in_default-named g c =
    let word = (wide_held c.args.self.now c.in-Some.cur).word in
    let is = rw c.layout-layout.ensures.layout at c.steps_to_birth.ensures.is in
    let read = goes_counted c.args.self.now.used c.steps_to_birth.result (steps_to_birth word) is
    c.birth_after-named.ensures.reads in
    let few = c.steps_to_birth.ensures.few in
    let some = some_birth word c.in_default-named.ensures.moved.some in
    let p = c.args.self.now.at.stepper.now.trace in
    let q = c.birth_after-named.new.at.stepper.now.trace in
    let own = c.birth_after-named.ensures.reads.own in
    record {
      tries = record {
        call = search rules;
        counts = read.counts;
        more = omega (arith, some, is);
        few = omega (arith, few);
        takes_no_slot = read.hand.takes_no_slot;
      };
      back = record {
        quiet = read.quiet;
        hand = hand_kept c.args.hand read.hand c.requires.hand;
        loses = inl (inl
            (moves_on p q read.quiet.same read.quiet.seen (moves_epoch _ c.in_default-named.ensures.moved.rolls)));
      };
      had = had_same c.args.self.now.at.stepper.now c.birth_after-named.new.at.stepper.now own.pool own.hand;
      replaced = tt;
      by = refl;
    }

-- a birth was read, and four steps came then
tried_replace : {N : Type 0} {kind : Ghosts N} {c d : PendingCall N kind} {q : PassView} (n steps : ℕ) →
    IsSameCall c d → d.used ≡ c.used + n + 4 → n ≡ steps → n ≤ 2 → ReadsIn (pass_in c) q steps →
    (trace_in c).start.shape.values ≡ true → StoresIn q (pass_in d) (steps_to_update q.trace.start) → MayStoreNode c d
tried_replace {c = c} {d = d} {q = q} n steps same used counted few birth values stores =
    let read = goes_counted c.used n steps counted birth in
    let has : q.trace.start.shape.values ≡ true = ap (λ (d : Start). d.shape.values) read.quiet.same.start ∙ values in
    let four : 4 ≡ steps_to_update q.trace.start = ap (λ (b : Bool). 1 + steps_to_value b + 1 + 1) (sym has) in
    record {
      call = same;
      counts = subst (CountsSteps (trace_in c) (trace_in d) c.used) (sym used)
          (counts_on read.counts
          (counts_step (c.used + n) 4 (took_same 4 (steps_to_update q.trace.start) four stores.took)));
      more = omega (arith, used);
      few = omega (arith, used, few);
      takes_no_slot = none_on read.hand.takes_no_slot stores.takes_no_slot;
    }

pub returns-in-Ok-replace : goal.returns-in-Ok-replace
returns-in-Ok-replace g c =
    let cur = wide_held c.args.self.now c.in-Some.cur in
    let is = wide_is c.args.self.now c.in-Some.is in
    let p = c.args.self.now.at.stepper.now.trace in
    let q = c.birth_after-named.new.at.stepper.now.trace in
    let r = c.replace.new.at.stepper.now.trace in
    let f = wide_found c.args.self.now c.args.found.now in
    let k = c.args.self.now.key in
    let first = c.requires.read.1 in
    let reads = c.birth_after-named.ensures.reads in
    let quiet = reads.quiet in
    let told = rw c.birth_after-named.ensures.table.slots at c.in-Ok-replace.ensures.replaced in
    let read = c.in-Ok.ensures.birth.keeps in
    let made_now = told.made c.requires.read.0
    (value_on c.in-Some.cur.at c.requires.read.0 read (first.is.known cur is)) in
    let has : q.start.shape.values ≡ true = ap (λ (d : Start). d.shape.values) quiet.same.start ∙ first.values in
    let y = cur_is first.locates is in
    let there = key_found first.locates is first.is.present in
    let keeps = keeps_on read c.replace.ensures.stores.keeps in
    let two = two_since quiet (two_told q.start q.who k c.requires.read.0 c.args.value has made_now) in
    let pred = pred_on k f.pred two.same keeps first.locates.pred in
    let K : At → Type 0 = λ place. KeyAt (knows r) place k in
    let N : ℕ → Type 0 = Names f.pred in
    let R : IsRun p.start p.passes r.seen = run_at p r two.same two.is_run in
    let steps = reads.takes_no_slot.count in
    let steps_last = c.replace.ensures.stores.takes_no_slot.count in
    let old_node = replaced_since p q r c.law.ensures.start quiet told.old in
    let own = c.birth_after-named.ensures.reads.own in
    record {
      tries = tried_replace c.steps_to_birth.result (steps_to_birth cur.word) (search rules) refl
          (rw c.layout-layout.ensures.layout at c.steps_to_birth.ensures.is) c.steps_to_birth.ensures.few reads
          first.values c.replace.ensures.stores;
      replaced = record {
        stores = λ old known. record {
          made = two_since quiet
              (two_told q.start q.who k old c.args.value has
              (told.made old (value_on c.in-Some.cur.at old read (known.is.known cur is))));
          spent = told.spent;
        };
        old = record {
          may = record {
            held = pred.held;
            unmarked = pred.unmarked;
            marked = told.held;
            names = subst N (slot_same c.in-Ok-replace.marked.slot y.slot (told.place ∙ y.place)) y.named;
          };
          key = subst K (sym told.place) (key_kept c.in-Some.cur.at k keeps there);
          behind = pred.behind;
        };
        replaced = old_node;
        marks = marks_behind p q r k f.pred cur c.law.ensures.start R quiet
            reads.adds_none made_now.same told.leaves
            (apart p c.law.ensures.start c.law.ensures.is_run f.pred.at c.in-Some.cur.at k first.locates.pred.behind
            there)
            keeps.epoch (steps_last ∙ steps) pred.held pred.unmarked pred.inside;
        entry = λ old known node found s at_slot.
            let same : cur ≡ node = some_same cur node (sym is ∙ found) in
            let here : c.in-Some.cur.at ≡ Slot s = ap (λ (h : Held). h.at) same ∙ at_slot in
            let slot : c.in-Ok-replace.marked.slot ≡ s =
            sym (slot_same c.in-Ok-replace.marked.slot s (told.place ∙ here)) in
            let O : ℕ → Type 0 = ReplacedAt p.start p.seen r.seen p.who (knows r).epoch in
            let V : At → Type 0 = λ place. ValueAt (knows r) place old in
            let B : Held → Type 0 = λ h. BirthAt (knows r) h.at h.birth in
            let A : At → Type 0 = λ place. BirthAt (knows r) place node.birth in
            gone_entry p r c.law.ensures.start two.same R two.seen s node.birth k old (subst O slot old_node)
            (subst A at_slot (subst B same (held_kept cur keeps y.held).birth))
            (subst K here (key_kept c.in-Some.cur.at k keeps there))
            (subst V here (value_on c.in-Some.cur.at old keeps (known.is.known cur is)));
      };
      had = had_spent c.args.self.now.at.stepper.now c.replace.new.at.stepper.now c.args.hand.slot
          c.requires.hand.is.slot (c.replace.ensures.stores.pool ∙ own.pool);
      by = published_since reads.quiet c.in-Ok-replace.ensures.published;
      back = tt;
    }

pub returns-in-Err : goal.returns-in-Err
returns-in-Err g c =
    let own = c.birth_after-named.ensures.reads.own in
    let reads = c.birth_after-named.ensures.reads in
    let is = wide_is c.args.self.now c.in-Some.is in
    let word = (wide_held c.args.self.now c.in-Some.cur).word in
    let steps = rw c.layout-layout.ensures.layout at c.steps_to_birth.ensures.is in
    let read = goes_counted c.args.self.now.used c.steps_to_birth.result (steps_to_birth word) steps reads in
    let lost = rw c.birth_after-named.ensures.table.slots at c.in-Err.ensures.lost in
    let P : List ℕ → Type 0 = λ l. length l < POOL in
    record {
      tries = tried_replace c.steps_to_birth.result (steps_to_birth word) (search rules) refl steps
          c.steps_to_birth.ensures.few reads c.requires.read.1.values c.replace.ensures.stores;
      had = had_same c.args.self.now.at.stepper.now c.replace.new.at.stepper.now
          (c.replace.ensures.stores.pool ∙ own.pool)
          (lost.hand.slot ∙ ap (λ (h : HandView). Some h.slot) lost.same ∙ sym c.requires.hand.is.slot);
      back = record {
        quiet = quiet_on read.quiet lost.exchange.quiet;
        hand = record {
          is = lost.hand;
          room = subst P (sym c.replace.ensures.stores.pool) (read.hand.room c.requires.hand.room);
        };
        loses = cur_lost_since (wide_found c.args.self.now c.args.found.now) c.law.ensures reads
            c.in-Ok.ensures.birth.keeps is lost.exchange;
      };
      by = lost.same;
      replaced = tt;
    }
