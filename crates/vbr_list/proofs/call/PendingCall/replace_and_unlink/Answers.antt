use Rattle.vbr_list.proofs.Names.{ℕ, true, inl, inr, subst, ⊎_elim, arith, ◌∙◌, counts_on, Found, Ghosts, had_grown}
use Rattle.vbr_list.proofs.Names.{IsRun, IsSame, IsStart, KeyAt, knows, Marked, MayStoreNode, none_on, PendingCall}
use Rattle.vbr_list.proofs.Names.{Quiet, quiet_refl, ReplacesFound, SearchesOn, SettlesIn, Slot, trace_in, two_before}
use Rattle.vbr_list.proofs.Names.{UnlinksAtOnce, UnlinksReplaced, wide_found, wide_marked}
use Rattle.vbr_list.proofs.named_entries.ReplacedEntries.{entry_since}
use Rattle.vbr_list.proofs.pieces.Going.{call_on}
use Rattle.vbr_list.proofs.stores.Stores.{all_but_then}
use Rattle.vbr_list.proofs.traversals.Sweeping.{leaves_replaced}
use Rattle.vbr_list.proofs.call.PendingCall.replace_and_unlink.Goals as goal

pub returns-clause-settles : goal.returns-clause-settles
returns-clause-settles g c =
    let a = c.replace_found.ensures.tries in
    let b = c.unlink_replaced.ensures.goes in
    let more = b.more in
    let first = a.more in
    record {
      call = call_on a.call b.call;
      counts = counts_on a.counts b.goes.counts;
      more = omega (arith, more, first);
      takes_no_slot = none_on a.takes_no_slot b.goes.hand.takes_no_slot;
    }

-- what the unlinking cost, after the replacement
replaced_paid : {N : Type 0} {kind : Ghosts N} {c d e : PendingCall N kind} (value : ℕ) (found : Found)
    (gone : Marked) → IsStart (trace_in c).start → MayStoreNode c d → ReplacesFound value c d found gone →
    IsSame (trace_in c) (trace_in d) → IsRun (trace_in d).start (trace_in d).passes (trace_in d).seen →
    Quiet (trace_in d) (trace_in e) → UnlinksReplaced d e found.pred gone.slot → SettlesIn 6 true c e found
replaced_paid {c = c} {d = d} {e = e} value found gone start first x same run then paid =
    let p = trace_in c in
    let q = trace_in d in
    let r = trace_in e in
    let key = first.call.key in
    let low = first.few in
    let budget = first.call.budget in
    let K : ℕ → Type 0 = KeyAt (knows q) (Slot gone.slot) in
    ⊎_elim (λ (soon : UnlinksAtOnce d e gone.slot). inl (record {
      few = (let few = soon.few in omega (arith, few, low));
      leaves = λ yes room.
          leaves_replaced p q r gone.slot c.key start same run x.replaced (subst K key x.old.key) then
          (soon.leaves (omega (arith, room, low, budget)));
    }))
    (λ (on : SearchesOn q r d.key d.used e.used found.pred). (
    let S : ℕ → Type 0 = λ k. SearchesOn q r k d.used e.used found.pred in
    inr (record { marked = q; marks = x.marks; used = d.used; few = low; searches = subst S key on })))
    paid

pub returns-clause-replaced : goal.returns-clause-replaced
returns-clause-replaced g c = λ old known.
    let x = c.in-Ok.ensures.replaced in
    let stores = x.stores old known in
    let b = c.args.self.now in
    let d = c.replace_found.new.self in
    let e = c.unlink_replaced.new.self in
    let p = b.at.stepper.now.trace in
    let q = d.at.stepper.now.trace in
    let r = e.at.stepper.now.trace in
    let goes = c.unlink_replaced.ensures.goes.goes in
    let then = goes.quiet in
    let made = stores.made in
    record {
      stores = record {
        stores = record { made = two_before made then; spent = goes.hand.hand ∙ stores.spent };
        slot = record {
          ended = q;
          same = made.same;
          to = then.seen;
          published = rw c.in-Ok.is at c.replace_found.ensures.by;
        };
        had = all_but_then b.at.stepper.now d.at.stepper.now e.at.stepper.now
            (rw c.in-Ok.is at c.replace_found.ensures.had)
            (had_grown d.at.stepper.now e.at.stepper.now goes.hand.takes_no_slot.grows goes.hand.hand);
        leaves = λ yes room.
            leaves_replaced p q r c.in-Ok.marked.slot b.key c.law.ensures.start made.same made.is_run x.replaced
            (rw c.replace_found.ensures.tries.call.key at x.old.key) then (c.unlink_replaced.ensures.leaves room);
        paid = replaced_paid {c = b} {d = d} {e = e} c.args.value (wide_found b c.args.found.now)
            (wide_marked b c.in-Ok.marked) c.law.ensures.start c.replace_found.ensures.tries x made.same made.is_run
            then
            (simp c.replace_found.ensures.tries.call.at.slots at c.unlink_replaced.ensures.paid);
      };
      entry = λ node is s place. entry_since q r (quiet_refl p) then.seen (x.entry old known node is s place);
    }

pub returns-in-Err-clause-back : goal.returns-in-Err-clause-back
returns-in-Err-clause-back g c =
    let back = c.in-Err.ensures.back in
    record {
      given = back;
      same = rw c.in-Err.is at c.replace_found.ensures.by;
      had = rw c.in-Err.is at c.replace_found.ensures.had;
      few = c.replace_found.ensures.tries.few;
    }
