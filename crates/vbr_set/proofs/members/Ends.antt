-- The passes that came back are those that were opened.
use Rattle.std.proofs.Common.{◌≡◌, ℕ, zero, suc, ◌+◌, ◌≤◌, List, [], ◌∷◌, ◌++◌, take, drop, length, refl, sym, subst}
use Rattle.std.proofs.Common.{arith, ap, ◌∙◌}
use Rattle.std.specs.List.{insert, remove}
use Rattle.std.proofs.lemmas.List.{length-append}
use Rattle.std.proofs.lemmas.List.Elements.{All-append, All-cons, All-drop, All-head, All-push, All-rest, All-same}
use Rattle.std.proofs.lemmas.List.Elements.{All-tail, All-take}
use Rattle.vbr_slots.specs.runs.Closing.{AllOf}
use Rattle.vbr_slots.specs.views.Views.{PassView, TableView, IsOf}
use Rattle.vbr_set.specs.members.Sharing.{ArePassesOf, AreMailboxesOf}
use Rattle.vbr_set.specs.declared.member.mailbox.Mailbox.{Mailbox}

abbrev IsPassOf : TableView → PassView → Type 0
IsPassOf set pass = IsOf pass.trace set

-- one more pass of the set
pub one_more : (set key : TableView) (passes passes' : List PassView) (pass : PassView) →
    passes' ≡ passes ++ pass ∷ [] → ArePassesOf set passes → key ≡ set → IsOf pass.trace key → ArePassesOf set passes'
one_more set key passes passes' pass e all same own =
    let here : IsPassOf set pass = subst (λ (t : TableView). IsPassOf t pass) same own in
    All-same (IsPassOf set) passes' (passes ++ pass ∷ []) e (All-push (IsPassOf set) passes pass all here)

module _ {N : Type 0} where
  -- the first mailbox, and the others
  pub mailbox_first : (set : TableView) (mailboxes rest : List (Mailbox N)) (mailbox : Mailbox N) →
      mailboxes ≡ mailbox ∷ rest → AreMailboxesOf set mailboxes → mailbox.table.shared.key ≡ set
  mailbox_first set mailboxes rest mailbox e all =
      All-head (λ (p : Mailbox N). p.table.shared.key ≡ set) mailbox rest
      (All-same (λ (p : Mailbox N). p.table.shared.key ≡ set) (mailbox ∷ rest) mailboxes (sym e) all)

  pub mailbox_rest : (set : TableView) (mailboxes rest : List (Mailbox N)) (mailbox : Mailbox N) →
      mailboxes ≡ mailbox ∷ rest → AreMailboxesOf set mailboxes → AreMailboxesOf set rest
  mailbox_rest set mailboxes rest mailbox e all =
      All-rest (λ (p : Mailbox N). p.table.shared.key ≡ set) mailbox rest mailboxes e all

  -- the room is enough for the mailboxes that are left
  pub room_left : (passes passes' : List PassView) (pass : PassView) (mailboxes rest : List (Mailbox N))
      (mailbox : Mailbox N) (cap cap' : ℕ) → passes' ≡ passes ++ pass ∷ [] → mailboxes ≡ mailbox ∷ rest → cap ≤ cap'
      → length passes + length mailboxes ≤ cap → length passes' + length rest ≤ cap'
  room_left passes passes' pass mailboxes rest mailbox cap cap' e f more room =
      let n : length passes' ≡ length passes + 1 =
      ap (λ (ps : List PassView). length ps) e ∙ length-append passes (pass ∷ []) in
      let m : length mailboxes ≡ length rest + 1 = ap (λ (ps : List (Mailbox N)). length ps) f ∙ (omega arith) in
      omega arith

-- the passes are of the set with one of it between them
pub with_own : (set : TableView) (passes passes' : List PassView) (who : ℕ) (pass : PassView) →
    passes' ≡ insert passes who pass → ArePassesOf set passes → IsOf pass.trace set → ArePassesOf set passes'
with_own set passes passes' who pass e all own =
    All-same (IsPassOf set) passes' (insert passes who pass) e
    (All-append (IsPassOf set) (take who passes) (pass ∷ drop who passes) (All-take (IsPassOf set) who passes all)
    (All-cons (IsPassOf set) pass (drop who passes) own (All-drop (IsPassOf set) who passes all)))

-- what holds of each pass holds of all
pub all_of : (set : TableView) (passes : List PassView) → ArePassesOf set passes → AllOf set passes
all_of set [] all = tt
all_of set (pass ∷ passes) all =
    (All-head (IsPassOf set) pass passes all, all_of set passes (All-tail (IsPassOf set) pass passes all))

-- the one that was put between them comes out again, and leaves them
pub out_again : (passes : List PassView) (who : ℕ) (pass : PassView) → who ≤ length passes →
    remove (insert passes who pass) who ≡ passes
out_again [] zero pass low = refl
out_again [] (suc who) pass low = absurd (omega arith)
out_again (q ∷ qs) zero pass low = refl
out_again (q ∷ qs) (suc who) pass low = ap (λ (ps : List PassView). q ∷ ps) (out_again qs who pass (omega arith))
