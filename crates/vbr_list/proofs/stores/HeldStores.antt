-- What a store by a slot in hand tells, and what an insert does, seen from before its searches.
use Rattle.vbr_list.proofs.Names.{◌≡◌, ℕ, ◌+◌, ◌≤◌, Bool, true, false, Option, Some, None, arith, refl, subst, sym}
use Rattle.vbr_list.proofs.Names.{Absent, Asks, begins_refl, CountsWithin, Found, Ghosts, GoesOn, had_on, HandView}
use Rattle.vbr_list.proofs.Names.{HasAllButOne, Insert, IsSameCall, KnowsThere, LinksNode, MaySettle, none_on}
use Rattle.vbr_list.proofs.Names.{Otherwise, pass_in, PassLaw, PassView, PendingCall, PIECE, ReadsWanted}
use Rattle.vbr_list.proofs.Names.{SaysUnstored, SearchFinds, SearchTires, Start, steps_to_update, StoresByHand}
use Rattle.vbr_list.proofs.Names.{StoresWanted, TakesNoSlot, TellsOther, trace_in, Wanted, wants}
use Rattle.vbr_list.specs.declared.storing.Unstored.TheVariants.{OutOfSteps}
use Rattle.vbr_list.proofs.inserts.HeldInserts.{held_answers, held_linked}
use Rattle.vbr_list.proofs.inserts.Linking.{IsLinking, begun, counts_until, had_until, none_until, quiet_until}
use Rattle.vbr_list.proofs.inserts.Preparing.{within_on}
use Rattle.vbr_list.proofs.pieces.Going.{call_on, within_call}
use Rattle.vbr_list.proofs.stores.Stores.{unless_since}
use Rattle.vbr_list.proofs.look_ups.FoundValues.{insert_told}
use Rattle.vbr_list.proofs.look_ups.ValueReads.{few_to_update}
use Rattle.vbr_list.proofs.pieces.Told.{told_as, told_bare}
use Rattle.vbr_list.proofs.stores.Settled.{Changes, each_lost}
use Rattle.vbr_list.proofs.stores.SettledSoon.{had_asked, held_stores, held_told, searched_out, takes_settled}

-- an insert at a table whose nodes have values stores one
linked_stores : {N : Type 0} {kind : Ghosts N} {c d : PendingCall N kind} {hand : HandView} (value : ℕ)
    (found : Found) → (trace_in c).start.shape.values ≡ true → LinksNode value c d hand →
    StoresByHand PIECE value c d hand found None
linked_stores {c = c} {d = d} value found values x =
    let p = trace_in c in
    let few = x.few in
    let most = (few_to_update p.start).1 in
    record {
      stores = record { made = insert_told p.start p.who c.key value values x.made; spent = x.spent };
      slot = record { ended = trace_in d; same = x.made.same; to = begins_refl (trace_in d).seen; published = x.slot };
      had = x.had;
      leaves = λ yes room. absurd (cc);
      paid = record { few = omega (arith, few, most); leaves = λ yes room. absurd (cc) };
    }

-- what wants its key absent wants no value
pub absent_none : (gives : Bool) (wanted : Wanted) (there : Option ℕ) → (gives ≡ false → wanted ≡ Absent) →
    wants wanted there ≡ true → gives ≡ false → there ≡ None
absent_none gives wanted None absent is none = refl
absent_none gives wanted (Some old) absent is none =
    let W : Wanted → Type 0 = λ w. wants w (Some old) ≡ true in
    absurd (let z : false ≡ true = subst W (absent none) is in cc)

-- where a value is there, the call gives it, and nodes have values
pub value_asked : {V : Type 0} (gives : Bool) (old : ℕ) → (gives ≡ false → Some old ≡ None) → (gives ≡ true → V) → V
value_asked true old none values = values refl
value_asked false old none values = absurd (let z : Some old ≡ None = none refl in cc)

-- the value that was read is known
pub knows_old : {N : Type 0} {kind : Ghosts N} {d e : PendingCall N kind} (wanted : Wanted) (found : Found)
    (gives : Bool) (old : ℕ) → (gives ≡ false → wanted ≡ Absent) →
    (gives ≡ true → (trace_in e).start.shape.values ≡ true) → ReadsWanted wanted d e found (Some old) →
    KnowsThere e found (Some old)
knows_old wanted found gives old absent values x = record {
  values = value_asked gives old (absent_none gives wanted (Some old) absent x.is) values;
  locates = x.locates;
  is = x.known;
}

-- a search, what was asked then, and what was changed
module _ {N : Type 0} {kind : Ghosts N} {each : ℕ} {b c d e : PendingCall N kind} {hand : HandView}
    (so : IsLinking each b c hand) (went : GoesOn c d) (asks : Asks d e) where
  pub counts_changed : {f : PendingCall N kind} → MaySettle e f →
      CountsWithin (trace_in b) (trace_in f) b.used f.used b.budget
  counts_changed x =
      let y = takes_settled x in
      let asked = call_on (begun so went) asks.call in
      within_on (within_on (counts_until so went) asks.counts asks.more (within_call asked)) y.counts y.more
      (within_call (call_on asked y.call))

  pub none_changed : {f : PendingCall N kind} → MaySettle e f → TakesNoSlot (pass_in b) (pass_in f)
  none_changed x = none_on (none_on (none_until so went) asks.hand.takes_no_slot) x.takes_no_slot

  pub had_changed : (q : PassView) → HasAllButOne (pass_in e) q → HasAllButOne (pass_in b) q
  had_changed q had =
      unless_since true (pass_in b) (pass_in e) q
      (had_on (pass_in b) (pass_in d) (pass_in e) (had_until so went) (had_asked asks)) had

-- what is asked takes no more steps than are counted of what is lost
pub three_lost : (gives : Bool) → 3 ≤ each_lost gives
three_lost true = omega arith
three_lost false = omega arith

three_to_update : (start : Start) → 3 ≤ steps_to_update start
three_to_update start = grind arith

module _ {N : Type 0} {kind : Ghosts N} (wanted : Wanted) (b c d : PendingCall N kind)
    {hand : HandView} (law : PassLaw (pass_in b)) (went : GoesOn c d) where
  -- the slot in hand is published
  pub stored_as : {first : HandView} (value : ℕ) (gives : Bool) → IsLinking (3 + each_lost gives) b c hand →
      (found : Found) → SearchFinds c d found → hand ≡ first → (e : PendingCall N kind) →
      IsSameCall d e → (gives ≡ true → (trace_in b).start.shape.values ≡ true) →
      (there : Option ℕ) → wants wanted there ≡ true → (gives ≡ false → there ≡ None) →
      Changes PIECE value d e hand found there → StoresWanted gives value wanted b e first there
  stored_as value true so found finds is_first e call values None is none x =
      let start = (quiet_until so went).same.start in
      let V : Start → Type 0 = λ s. s.shape.values ≡ true in
      record {
        is = is;
        stores = held_stores b c d e law so went found finds call value None is_first
            (linked_stores {c = d} {d = e} value found (subst V (sym start) (values refl)) x);
      }
  stored_as value true so found finds is_first e call values (Some old) is none x =
      record { is = is; stores = held_stores b c d e law so went found finds call value (Some old) is_first x }
  stored_as value false so found finds is_first e call values None is none x =
      record { is = is; stores = held_linked law so went is_first e value found finds x }
  stored_as value false so found finds is_first e call values (Some old) is none x =
      absurd (let z : Some old ≡ None = none refl in cc)

  -- the call is answered with what is there
  pub told_other : (gives : Bool) → IsLinking (3 + each_lost gives) b c hand → (found : Found) →
      SearchFinds c d found → (e : PendingCall N kind) → Asks d e → (there : Option ℕ) →
      TellsOther gives wanted d e there →
      SaysUnstored gives (trace_in b) (trace_in e) b.key b.used e.used b.budget (Otherwise there)
  told_other true so found finds e asks there tells = held_told law so went asks found finds there tells.told
  told_other false so found finds e asks there tells =
      let p = trace_in d in
      let few = asks.few in
      let some = three_to_update p.start in
      λ value.
      held_answers law so went e value false found finds (omega (arith, few, some))
      (told_as (told_bare p.start p.who Insert d.key false) tells.told)

  -- there are no steps left
  pub tired_out : (gives : Bool) → IsLinking (3 + each_lost gives) b c hand → SearchTires c d →
      SaysUnstored gives (trace_in b) (trace_in d) b.key b.used d.used b.budget (OutOfSteps d.used)
  tired_out true so tired =
      let x = searched_out law so went tired 12 (omega arith, omega arith) in
      record { quiet = quiet_until so went; tires = record { short = x.0; searches = x.1; lacks = x.2 } }
  tired_out false so tired =
      let x = searched_out law so went tired 7 (omega arith, omega arith) in
      record { quiet = quiet_until so went; short = x.0; searches = x.1; lacks = x.2 }
