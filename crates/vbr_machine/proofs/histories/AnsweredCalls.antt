-- Calls that are answered one after another: what a write at the first that isn't answered yet leaves.
use Rattle.std.proofs.Common.{◌≡◌, ℕ, zero, suc, ◌+◌, ◌<◌, List, [], ◌∷◌, length, take, drop, set, get_or, Some, Result}
use Rattle.std.proofs.Common.{Ok, Err, OnErr, refl, sym, ap, ◌∙◌, add-one, subst, arith, length-drop}
use Rattle.std.specs.Prelude.{slice_get}
use Rattle.std.proofs.lemmas.List.{drop-set-lt}
use Rattle.vbr_machine.specs.Maps.{StoresAsked, StoreAsked}
use Rattle.vbr_machine.specs.declared.history.Call.{Call}

-- what is so whatever the result, is so of an error
pub on_err : {T E P : Type 0} (result : Result T E) → P → OnErr result P
on_err (Ok x) p = tt
on_err (Err e) p = p

drop_one : (i : ℕ) (calls : List Call) → drop 1 (drop i calls) ≡ drop (suc i) calls
drop_one zero calls = refl
drop_one (suc i) [] = refl
drop_one (suc i) (call ∷ calls) = drop_one i calls

-- it leaves the others
pub rest_after : (calls first : List Call) (i : ℕ) → drop i calls ≡ drop i first → (call : Call) →
    drop (i + 1) (set calls i call) ≡ drop (i + 1) first
rest_after calls first i same call = drop-set-lt (i + 1) calls i call (omega arith)
    ∙ rw add-one (sym (drop_one i calls) ∙ ap (drop 1) same ∙ drop_one i first)

-- lists that are the same begin with the same call
first_same : (c a : Call) (cs rest : List Call) → c ∷ cs ≡ a ∷ rest → c ≡ a
first_same c a cs rest same = cc

-- a call that isn't answered yet stands among those that were asked
pub still_asked : (calls asked : List Call) (i : ℕ) (none : Call) → i < length asked → drop i calls ≡ drop i asked →
    slice_get asked i ≡ Some (get_or calls i none)
still_asked calls [] i none here same = absurd (omega (arith, here))
still_asked [] (a ∷ rest) zero none here same = absurd (cc)
still_asked (c ∷ cs) (a ∷ rest) zero none here same = ap Some (sym (first_same c a cs rest same))
still_asked [] (a ∷ rest) (suc i) none here same =
    absurd (let none_left : 0 ≡ length (drop i rest) = ap (λ (xs : List Call). length xs) same in
    omega (arith, here, none_left, length-drop i rest))
still_asked (c ∷ cs) (a ∷ rest) (suc i) none here same = still_asked cs rest i none (omega (arith, here)) same

-- one more insert stores the value that was asked for
pub stored_more : (asked calls : List Call) (i : ℕ) (none answered : Call) → i < length calls →
    drop i calls ≡ drop i asked → StoreAsked (take i asked) (take i calls) → StoresAsked (get_or calls i none) answered
    → StoreAsked (take (i + 1) asked) (take (i + 1) (set calls i answered))
stored_more asked calls i none answered here same stored now = rw add-one (go asked calls i here same stored now)
  where
    go : (asked calls : List Call) (i : ℕ) → i < length calls → drop i calls ≡ drop i asked →
        StoreAsked (take i asked) (take i calls) → StoresAsked (get_or calls i none) answered →
        StoreAsked (take (suc i) asked) (take (suc i) (set calls i answered))
    go asked [] i here same stored now = absurd (omega (arith, here))
    go [] (c ∷ cs) zero here same stored now = absurd (cc)
    go (a ∷ rest) (c ∷ cs) zero here same stored now =
        (subst (λ first. StoresAsked first answered) (first_same c a cs rest same) now, tt)
    go [] (c ∷ cs) (suc i) here same stored now = absurd stored
    go (a ∷ rest) (c ∷ cs) (suc i) here same stored now =
        (stored.0, go rest cs i (omega (arith, here)) same stored.1 now)
