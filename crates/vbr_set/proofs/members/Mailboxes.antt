-- Each step at a mailbox keeps its rule.
use Rattle.std.proofs.Common.{◌≡◌, ℕ, List, [], ◌∷◌, set, sym, refl, ap, ◌∙◌, subst, arith, Option, None, Some}
use Rattle.std.proofs.Common.{length-set, get_or-set_same}
use mathlib.Core.Option.{some, some-injective}
use lib.ListN.{get_elem?}
use Rattle.atomic_table.specs.Table.{State, Me, takes, gives, Allows}
use Rattle.atomic_table.proofs.Lists.{set_here}
use Rattle.vbr_slots.specs.views.Views.{PassView, TableView}
use Rattle.vbr_set.specs.members.Mailboxes.{IsIdle, SeatKnows, IsAs, IsMailbox}

abbrev SlotValues : Type 0
SlotValues = List (ℕ × Option PassView)

-- a mailbox is as its seat knows it
as_known : (set : TableView) (s : State (Option PassView) SeatKnows) (k : SeatKnows) → IsMailbox set s →
    get_elem? s.views 0 ≡ some k → IsAs set s k
as_known set s k mailbox at_index =
    let same : mailbox.knows ≡ k =
    some-injective mailbox.knows k (ap (λ (vs : List SeatKnows). get_elem? vs 0) (sym mailbox.seat) ∙ at_index) in
    subst (IsAs set s) same mailbox.is

-- the one view becomes another
one_view : (vs : List SeatKnows) (k l : SeatKnows) → vs ≡ k ∷ [] → set vs 0 l ≡ l ∷ []
one_view vs k l e = ap (λ (us : List SeatKnows). set us 0 l) e

-- a seat that knows nothing takes the slot, which is empty
pub opens : (key : TableView) (n id : ℕ) (m : Me (Option PassView) SeatKnows) → n ≡ 1 → id ≡ 0 → m ≡ (None, []) →
    Allows (IsMailbox key) n id m 0 (λ _. 0) (λ _ after. after ≡ (Some None, (0, None) ∷ []))
opens key n id m one_slot first e =
    subst (λ (x : ℕ × Me (Option PassView) SeatKnows).
    Allows (IsMailbox key) n x.0 x.1 0 (λ _. 0) (λ _ after. after ≡ (Some None, (0, None) ∷ [])))
    (λ i. (sym first i, sym e i))
    (λ s mailbox wide me _. let known = as_known key s None mailbox me in (
      Some None,
      takes 0 None,
      known.1,
      record {
        one = length-set s.words 0 0 ∙ mailbox.one;
        knows = Some None;
        seat = one_view s.views mailbox.knows (Some None) mailbox.seat;
        is = get_or-set_same s.words 0 0 0 (let one = mailbox.one in omega arith);
      },
      refl,
    ))

abbrev held_first : SlotValues → SeatKnows
held_first [] = None
held_first (x ∷ xs) = Some x.1

-- a seat that has the slot gives it back, with a pass in it
pub lays : (key : TableView) (n id : ℕ) (m : Me (Option PassView) SeatKnows) (pass : PassView) → n ≡ 1 → id ≡ 0 →
    m ≡ (Some None, (0, Some pass) ∷ []) → IsIdle key pass
    → Allows (IsMailbox key) n id m 0 (λ _. 1)
    (λ _ after. (p : PassView) → m.1 ≡ (0, Some p) ∷ [] → after ≡ (Some (Some p), []))
lays key n id m pass one_slot first e ready =
    subst (λ (x : ℕ × Me (Option PassView) SeatKnows).
    Allows (IsMailbox key) n x.0 x.1 0 (λ _. 1)
    (λ _ after. (p : PassView) → x.1.1 ≡ (0, Some p) ∷ [] → after ≡ (Some (Some p), []))) (λ i. (sym first i, sym e i))
    (λ s mailbox wide me _. (
      Some (Some pass),
      gives,
      tt,
      record {
        one = length-set s.words 0 1 ∙ mailbox.one;
        knows = Some (Some pass);
        seat = one_view s.views mailbox.knows (Some (Some pass)) mailbox.seat;
        is = (set_here s.homes 0 (some (Some pass)) (omega arith), ready);
      },
      λ p same. let f = ap held_first same in λ i. (f i, []),
    ))
