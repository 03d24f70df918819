use Rattle.vbr_list.proofs.Names.{ℕ, ◌+◌, ◌<◌, Bool, List, Some, length, rules, arith, inl, sym, ap, ◌∙◌, subst}
use Rattle.vbr_list.proofs.Names.{had_spent, HandView, IsEnd, knows, POOL, said_succ, steps_to_update, wide_found}
use Rattle.vbr_list.proofs.Names.{wide_held}
use Rattle.vbr_list.proofs.traversals.Disturbing.{lost_place}
use Rattle.vbr_list.proofs.inserts.Linking.{settles_in, succ_found}
use Rattle.vbr_list.proofs.look_ups.ValueReads.{few_to_update}
use Rattle.vbr_list.proofs.traversals.Moments.{stands_before}
use Rattle.vbr_list.proofs.stores.Stores.{had_same}
use Rattle.vbr_list.proofs.pieces.WideWords.{wide_lent}
use Rattle.vbr_list.proofs.call.PendingCall.link_found.Goals as goal

pub update-requires : goal.update-requires
update-requires g c =
    let f = wide_found c.args.self.now c.args.found.now in
    let know = knows c.args.self.now.at.stepper.now.trace in
    let x = c.requires.locates in
    let P : Bool → Type 0 = IsEnd know c.args.self.now.key f.pred f.cur in
    record {
      gap = record {
        held = x.pred.held;
        unmarked = x.pred.unmarked;
        behind = x.pred.behind;
        before = stands_before know c.args.self.now.key f.pred f.cur (subst P c.requires.absent x.end);
      };
      succ = succ_found (knows c.args.self.now.at.stepper.now.trace) c.args.self.now.key f.pred
          (said_succ c.args.self.now.at.slots.now c.as_ref.result) f.cur f.present
          (wide_lent c.args.self.now c.as_ref.result c.as_ref.ensures.value) x.end;
      hand = c.requires.hand.is;
    }

pub returns-in-Ok : goal.returns-in-Ok
returns-in-Ok g c =
    let d = c.args.self.now in
    let start = d.at.stepper.now.trace.start in
    let stores = c.update.ensures.stores in
    let same = c.steps_to_update.ensures ∙ ap steps_to_update (sym d.at.own.1) in
    let inserted = c.in-Ok.ensures.inserted in
    record {
      settles = settles_in (steps_to_update start) (search rules) (ap (λ (n : ℕ). d.used + n) same)
          (few_to_update start).0 stores.took stores.takes_no_slot;
      linked = record {
        made = inserted.made;
        spent = inserted.spent;
        slot = c.in-Ok.ensures.published;
        had = had_spent d.at.stepper.now c.update.new.at.stepper.now c.args.hand.slot c.requires.hand.is.slot
            stores.pool;
        few = omega (arith, same);
      };
      back = tt;
    }

pub returns-in-Err : goal.returns-in-Err
returns-in-Err g c =
    let d = c.args.self.now in
    let start = d.at.stepper.now.trace.start in
    let stores = c.update.ensures.stores in
    let same = c.steps_to_update.ensures ∙ ap steps_to_update (sym d.at.own.1) in
    let few = (few_to_update start).1 in
    let lost = c.in-Err.ensures.lost in
    let P : List ℕ → Type 0 = λ l. length l < POOL in
    record {
      settles = settles_in (steps_to_update start) (search rules) (ap (λ (n : ℕ). d.used + n) same)
          (few_to_update start).0 stores.took stores.takes_no_slot;
      linked = tt;
      back = record {
        given = record {
          quiet = lost.exchange.quiet;
          hand = record { is = lost.hand; room = subst P (sym stores.pool) c.requires.hand.room };
          loses = inl (lost_place (wide_held d c.args.found.now.pred) _ lost.exchange.lost lost.exchange.unchanged);
        };
        same = lost.same;
        had = had_same d.at.stepper.now c.update.new.at.stepper.now stores.pool
            (lost.hand.slot ∙ ap (λ (h : HandView). Some h.slot) lost.same ∙ sym c.requires.hand.is.slot);
        few = omega (arith, few, same);
      };
    }
