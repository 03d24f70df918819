-- One key more in turn.
use Rattle.std.proofs.Common.{◌∙◌, ℕ, ◌+◌, ◌<◌, List, [], ◌∷◌, ◌++◌, ap, take, length, refl, sym, subst}
use Rattle.std.specs.Prelude.{slice_set, slice_index_or}
use Rattle.std.proofs.lemmas.List.{take_more, take_more_set}
use Rattle.vbr_words.specs.declared.nodes.Nodes.{Ghosts}
use Rattle.vbr_set.specs.declared.at_set.AtSet.{AtSet}
use Rattle.vbr_set.specs.calls.AtSets.{IsSameSet, LooksUpAt, member_at}
use Rattle.vbr_set.specs.calls.Batches.{InTurn}
use Rattle.vbr_set.specs.calls.Members.{MemberView, as_member}
use Rattle.vbr_slots.specs.views.Views.{TableView}

module _ {M A : Type 0} (Calls : M → M → ℕ → A → Type 0) where
  one_more : (m n o : M) (keys : List ℕ) (answers : List A) (key : ℕ) (answer : A) → InTurn Calls m n keys answers →
      Calls n o key answer → InTurn Calls m o (keys ++ key ∷ []) (answers ++ answer ∷ [])
  one_more m n o [] [] key answer is call = (o, subst (λ (p : M). Calls p o key answer) is call, refl)
  one_more m n o (k ∷ keys) (a ∷ answers) key answer is call =
      (is.0, is.1, one_more is.0 n o keys answers key answer is.2 call)
  one_more m n o _ _ key answer is call = absurd is

  -- the keys so far have been asked in turn
  abbrev pub SoFar : M → M → List ℕ → List A → ℕ → Type 0
  SoFar m n keys answers i = InTurn Calls m n (take i keys) (take i answers)

  pub so_far_more : (m n o : M) (keys : List ℕ) (answers : List A) (i d : ℕ) (answer : A) → i < length keys →
      i < length answers → SoFar m n keys answers i → Calls n o (slice_index_or keys i d) answer →
      SoFar m o keys (slice_set answers i answer) (i + 1)
  so_far_more m n o keys answers i d answer low room so call =
      subst (λ (x : List ℕ × List A). InTurn Calls m o x.0 x.1)
      (λ j. (sym (take_more keys i d low) j, sym (take_more_set answers i answer room) j))
      (one_more m n o (take i keys) (take i answers) (slice_index_or keys i d) answer so call)

-- a pass at its set that looks keys up in turn is the same one at the same set, and has these calls in turn
pub all_at : {N A : Type 0} {kind : Ghosts N} (Calls : MemberView → MemberView → ℕ → ℕ → A → Type 0)
    (c d : AtSet N kind) (keys : List ℕ) (budget : ℕ) (answers : List A) →
    InTurn (λ m n key answer. LooksUpAt Calls m n key budget answer) c d keys answers →
    IsSameSet c d × InTurn (λ m n key answer. Calls m n key budget answer) (member_at c) (member_at d) keys answers
all_at Calls c d [] budget [] is =
    (record { pass = ap (λ m. m.pass.ghost_name) is; set = ap (λ m. m.set) is }, ap member_at is)
all_at Calls c d (k ∷ keys) budget (a ∷ answers) is =
    let rest = all_at Calls is.0 d keys budget answers is.2 in (
      record { pass = rest.0.pass ∙ is.1.same.pass; set = rest.0.set ∙ is.1.same.set },
      (
        member_at is.0,
        subst (λ (t : TableView). Calls (member_at c) (as_member t is.0.pass.now) k budget a)
            (sym (ap (λ s. s.now) is.1.same.set)) is.1.call,
        rest.1,
      ),
    )
all_at Calls c d _ budget _ is = absurd is
