use Rattle.std.proofs.Common.{◌≡◌, ℕ, ◌+◌, List, [], ◌∷◌, ◌++◌, Some, None, Ok, length, refl, sym, ap, subst, arith}
use Rattle.std.proofs.Common.{append-nil, length-append}
use Rattle.vbr_machine.specs.Start.{Start, IsStart}
use Rattle.vbr_machine.specs.Runs.{IsRun}
use Rattle.vbr_machine.proofs.Lemmas.{begins_refl}
use Rattle.vbr_slots.specs.views.Views.{PassView}
use Rattle.vbr_slots.proofs.Lemmas.{same_refl}
use Rattle.vbr_list.specs.look_ups.Cursors.{IsAtEnd, SeesMore}
use Rattle.vbr_list.specs.declared.cursor.Cursor.{Cursor}
use Rattle.vbr_list.proofs.Lemmas.{sees_on}
use Rattle.vbr_set.specs.calls.Iterating.{CallsNext}
use Rattle.vbr_set.specs.calls.Members.{Called}
use Rattle.vbr_example.proofs.Swept.{Sweeps}
use Rattle.vbr_example.proofs.sweeping.free_all.Goals as goal

pub loop-next-init : goal.loop-next-init
loop-next-init c =
    let p = c.args.member.now.pass.trace in
    let Q : PassView → Type 0 = λ v. IsRun v.trace.start v.trace.passes v.trace.seen in
    let P : Cursor → Type 0 = λ d. Sweeps p p d 0 in
    subst P (sym c.first-cursor.ensures) (record {
      pages = [];
      sees = record {
        same = same_refl p;
        begins = begins_refl p.seen;
        is_run = subst Q c.pass.ensures.pass c.law.ensures.is_run;
      };
      given = c.an_iteration_begins.ensures p;
      is = refl;
      low = omega arith;
    })

pub returns-in_default : goal.returns-in_default
returns-in_default c =
    let x = c.loop-next.invariant in
    let y = rw c.in_default.is at c.in_ok-next.ensures.told in
    let p = c.args.member.now.pass.trace in
    let d = c.next_key.new.cursor in
    let on = c.an_iteration_goes_on.ensures p c.loop-next.member.pass.trace c.next_key.new.self.pass.trace
    c.loop-next.cursor d x.pages None x.sees y.goes.sees x.given y.iterates.gives.0 in
    let P : Start → Type 0 = λ s. IsAtEnd s d in
    let Q : PassView → Type 0 = λ v. IsStart v.trace.start in
    let count : length (x.pages ++ []) ≡ length x.pages = ap length (append-nil x.pages) in
    let is = x.is in
    record {
      pages = x.pages ++ [];
      all = c.an_iteration_ends.ensures p c.next_key.new.self.pass.trace d (x.pages ++ [])
          (subst Q c.pass.ensures.pass c.law.ensures.start) on (subst P x.sees.same.start y.iterates.gives.1);
      is = omega (arith, count, is);
    }

pub loop-next-preserved : goal.loop-next-preserved
loop-next-preserved c =
    let x = c.loop-next.invariant in
    let y = rw c.in-Some.is at c.in_ok-next.ensures.told in
    let z = c.in_ok-remove.ensures.told.answers in
    let p = c.args.member.now.pass.trace in
    let r = c.next_key.new.self.pass.trace in
    let d = c.next_key.new.cursor in
    let page = c.in-Some.page in
    let on = c.an_iteration_goes_on.ensures p c.loop-next.member.pass.trace r c.loop-next.cursor d x.pages (Some page)
    x.sees y.goes.sees x.given y.iterates.gives.0 in
    let more : SeesMore r c.remove.new.self.pass.trace =
    record { same = z.same; begins = z.begins; is_run = z.is_run } in
    let count : length (x.pages ++ page ∷ []) ≡ length x.pages + 1 = length-append x.pages (page ∷ []) in
    let is = x.is in
    let sum = c.saturating_add-count.ensures in
    record {
      pages = x.pages ++ page ∷ [];
      sees = sees_on (sees_on x.sees y.goes.sees) more;
      given = c.an_iteration_waits.ensures p r c.remove.new.self.pass.trace d (x.pages ++ page ∷ []) on more;
      is = omega (arith, count, is, sum);
      low = omega arith;
    }
