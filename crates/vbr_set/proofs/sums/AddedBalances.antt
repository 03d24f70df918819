-- Balances that are added up from the last member on.
use Rattle.std.proofs.Common.{◌≡◌, ℕ, zero, suc, ◌+◌, ◌-◌, ◌%◌, ◌^◌, ◌<◌, ◌≤◌, Fits, List, ◌∷◌, drop, drop-cons, length}
use Rattle.std.proofs.Common.{sym, ap, ◌∙◌, subst, to_z, of_z, arith}
use Rattle.std.specs.Prelude.{ℤ, ◌+ℤ◌, FitsSigned, slice_index_or}
use Rattle.std.specs.Int.{w64, int_wrap}
use Rattle.std.proofs.lemmas.Int.{ints, int_wrap-add_left, wrapping_add_onto, SFits-int_wrap}
use Rattle.vbr_set.specs.members.Balances.{balance_of}
use Rattle.vbr_set.specs.members.BalanceSums.{added_balances, sum_of_balances}
use Rattle.vbr_set.specs.calls.Members.{MemberView}

-- one balance is added to those of the members behind
pub one_added : (m : MemberView) (ms : List MemberView) (bits : ℕ) (balance : ℤ) → bits < 2 ^ 64 →
    balance ≡ balance_of m → to_z w64 bits ≡ added_balances ms →
    to_z w64 ((bits + of_z w64 balance) % 2 ^ 64) ≡ added_balances (m ∷ ms)
one_added m ms bits balance low is so_far =
    let fits : FitsSigned w64 balance = subst (FitsSigned w64) (sym is) (SFits-int_wrap w64 _) in
    let turned : sum_of_balances ms +ℤ balance_of m ≡ balance_of m +ℤ sum_of_balances ms = omega (arith, ints) in
    wrapping_add_onto w64 bits balance low fits
    ∙ (λ i. int_wrap w64 (so_far i +ℤ is i))
    ∙ int_wrap-add_left w64 (sum_of_balances ms) (balance_of m)
    ∙ ap (int_wrap w64) turned

pub added_from : (members : List MemberView) (i : ℕ) (m : MemberView) (bits : ℕ) (balance : ℤ) → 0 < i →
    i ≤ length members → m ≡ slice_index_or members (i - 1) m → Fits w64 bits → balance ≡ balance_of m →
    to_z w64 bits ≡ added_balances (drop i members) →
    to_z w64 ((bits + of_z w64 balance) % 2 ^ 64) ≡ added_balances (drop (i - 1) members)
added_from members zero m bits balance some within here low is so_far = absurd (omega arith)
added_from members (suc k) m bits balance some within here low is so_far =
    let before : suc k - 1 ≡ k = omega arith in
    let inside : k < length members = omega arith in
    let is_here : m ≡ slice_index_or members k m = here ∙ ap (λ (n : ℕ). slice_index_or members n m) before in
    let split : drop k members ≡ m ∷ drop (suc k) members =
    drop-cons members k m inside ∙ ap (λ (n : MemberView). n ∷ drop (suc k) members) (sym is_here) in
    one_added m (drop (suc k) members) bits balance (omega arith) is so_far
    ∙ ap added_balances (sym split)
    ∙ ap (λ (n : ℕ). added_balances (drop n members)) (sym before)
