-- Stakes and passes beside one another, and the members that they make.
use Rattle.std.proofs.Common.{◌≡◌, ℕ, ◌+◌, ◌<◌, ◌≤◌, List, [], ◌∷◌, ◌++◌, length, map, append_assoc, refl, sym, ap, ◌∙◌}
use Rattle.std.proofs.Common.{subst, arith}
use Rattle.std.specs.Prelude.{Option, Some, Result, Ok, Err, IfOk, slice_get, unwrap_or}
use Rattle.std.specs.declared.alloc.AllocError.{AllocError}
use Rattle.std.proofs.lemmas.List.{length-append, length-map}
use Rattle.vbr_slots.specs.runs.Closing.{AllOf}
use Rattle.vbr_slots.specs.views.Views.{IsOf, PassView, TableView}
use Rattle.vbr_set.specs.members.AllMembers.{AreOfOneSet, AreOfSet, AreTooFew, ReportsAllBy}
use Rattle.vbr_set.specs.members.Apart.{AreParts, members_of}
use Rattle.vbr_set.specs.calls.Members.{MemberView}
use Rattle.vbr_set.specs.members.Sharing.{IsStake, member_with, set_shared}
use Rattle.vbr_set.specs.declared.member.stake.Stake.{Stake}

module _ {N : Type 0} where
  pub parts_more : (stakes : List (Stake N)) (passes : List PassView) (stake : Stake N) (pass : PassView) →
      AreParts stakes passes → IsStake stake pass → AreParts (stakes ++ stake ∷ []) (passes ++ pass ∷ [])
  parts_more [] [] stake pass parts part = (part, tt)
  parts_more (s ∷ ss) (q ∷ qs) stake pass parts part = (parts.0, parts_more ss qs stake pass parts.1 part)
  parts_more _ _ stake pass parts part = absurd parts

  pub members_more : (stakes : List (Stake N)) (passes : List PassView) (stake : Stake N) (pass : PassView) →
      AreParts stakes passes →
      members_of (stakes ++ stake ∷ []) (passes ++ pass ∷ [])
      ≡ members_of stakes passes ++ member_with stake pass ∷ []
  members_more [] [] stake pass parts = refl
  members_more (s ∷ ss) (q ∷ qs) stake pass parts =
      ap (λ (ms : List MemberView). member_with s q ∷ ms) (members_more ss qs stake pass parts.1)
  members_more _ _ stake pass parts = absurd parts

  -- one more member is taken apart
  pub taken : (stakes stakes' : List (Stake N)) (passes passes' : List PassView) (stake : Stake N) (pass : PassView)
      (all rest members : List MemberView) (member : MemberView) → stakes' ≡ stakes ++ stake ∷ [] →
      passes' ≡ passes ++ pass ∷ [] → all ≡ member ∷ rest → member_with stake pass ≡ member
      → AreParts stakes passes → IsStake stake pass → members_of stakes passes ++ all ≡ members →
      AreParts stakes' passes' × (members_of stakes' passes' ++ rest ≡ members)
  taken stakes stakes' passes passes' stake pass all rest members member one other first is parts part so_far = (
    subst (λ (x : List (Stake N) × List PassView). AreParts x.0 x.1) (λ i. (sym one i, sym other i))
        (parts_more stakes passes stake pass parts part),
    (λ i. members_of (one i) (other i) ++ rest)
        ∙ ap (λ (ms : List MemberView). ms ++ rest) (members_more stakes passes stake pass parts)
        ∙ append_assoc (members_of stakes passes) (member_with stake pass ∷ []) rest
        ∙ ap (λ (m : MemberView). members_of stakes passes ++ m ∷ rest) is
        ∙ ap (λ (ms : List MemberView). members_of stakes passes ++ ms) (sym first)
        ∙ so_far,
  )

-- and there is room for those that are left
pub room_after : {A B : Type 0} (xs xs' : List A) (x : A) (all rest : List B) (b : B) (cap cap' : ℕ) →
    xs' ≡ xs ++ x ∷ [] → all ≡ b ∷ rest → cap ≤ cap' → length xs + length all ≤ cap → length xs' + length rest ≤ cap'
room_after xs xs' x all rest b cap cap' e f more room =
    let n = ap (λ ys. length ys) e ∙ length-append xs (x ∷ []) in
    let m = ap (λ ys. length ys) f in
    omega arith

module _ {N : Type 0} where
  -- no pass is left, so no member is
  pub none_made : (stakes : List (Stake N)) (passes : List PassView) → length passes ≡ 0 → members_of stakes passes ≡ []
  none_made [] passes none = refl
  none_made (s ∷ ss) [] none = refl
  none_made (s ∷ ss) (q ∷ qs) none = absurd (omega arith)

-- ---- the parts of all members of a set

module _ {N : Type 0} where
  pub passes_in : (stakes : List (Stake N)) (passes : List PassView) → AreParts stakes passes →
      map (λ m. m.pass) (members_of stakes passes) ≡ passes
  passes_in [] [] parts = refl
  passes_in (s ∷ ss) (q ∷ qs) parts = ap (λ (ps : List PassView). q ∷ ps) (passes_in ss qs parts.1)
  passes_in _ _ parts = absurd parts

  pub all_parts_of : (set : TableView) (stakes : List (Stake N)) (passes : List PassView) → AreParts stakes passes →
      AreOfSet set (members_of stakes passes) → AllOf set passes
  all_parts_of set [] [] parts all = tt
  all_parts_of set (s ∷ ss) (q ∷ qs) parts all =
      (subst (IsOf q.trace) all.0 parts.0.part.own, all_parts_of set ss qs parts.1 all.1)
  all_parts_of set _ _ parts all = absurd parts

  -- there are as many members as passes
  pub as_many_passes : (stakes : List (Stake N)) (passes : List PassView) → AreParts stakes passes →
      length (members_of stakes passes) ≡ length passes
  as_many_passes stakes passes parts = sym (length-map (members_of stakes passes) (λ (m : MemberView). m.pass))
      ∙ ap (λ (ps : List PassView). length ps) (passes_in stakes passes parts)

-- where they are enough of one set, they are all of the set of the first stake
module _ {N : Type 0} (first : Stake N) where
  abbrev set : TableView
  set = set_shared first.share

  abbrev AreAllOfFirst : List MemberView → Type 0
  AreAllOfFirst members = AreOfSet set members × (set.passes ≤ length members)

  all_of_first : (stakes : List (Stake N)) (passes : List PassView) → AreParts stakes passes →
      AreOfOneSet (members_of stakes passes) → ¬ (AreTooFew (members_of stakes passes)) →
      slice_get stakes 0 ≡ Some first → AreAllOfFirst (members_of stakes passes)
  all_of_first [] [] parts one_set enough is = absurd (enough tt)
  all_of_first (s ∷ ss) (q ∷ qs) parts one_set enough is =
      let members : List MemberView = members_of (s ∷ ss) (q ∷ qs) in
      let same : set_shared s.share ≡ set = ap (λ (o : Option (Stake N)). set_shared (unwrap_or o first).share) is in
      let all : ¬ (length members < (set_shared s.share).passes) = enough in
      subst (λ (t : TableView). AreOfSet t members × (t.passes ≤ length members)) same ((refl, one_set), omega arith)
  all_of_first _ _ parts one_set enough is = absurd parts

-- so the set may report by their passes, and what it returns is returned by all members
module _ {N : Type 0} {table : TableView} (first : Stake N) (stakes : List (Stake N)) (passes : List PassView)
    (is_table : table ≡ set_shared first.share) (parts : AreParts stakes passes)
    (one_set : AreOfOneSet (members_of stakes passes)) (enough : ¬ (AreTooFew (members_of stakes passes)))
    (is : slice_get stakes 0 ≡ Some first) where
  all : AreAllOfFirst first (members_of stakes passes)
  all = all_of_first first stakes passes parts one_set enough is

  pub may_report : AllOf table passes × (table.passes ≤ length passes)
  may_report = subst (λ (t : TableView). AllOf t passes × (t.passes ≤ length passes)) (sym is_table) (
    all_parts_of _ stakes passes parts all.0,
    (let many = as_many_passes stakes passes parts in let some = all.1 in omega arith),
  )

  pub all_told : {R : Type 0} (tells : TableView → List PassView → R → Type 0) (told : Result R AllocError) →
      IfOk told (tells table passes) → IfOk told (ReportsAllBy tells (members_of stakes passes))
  all_told tells (Ok report) closes = record {
    set = set_shared first.share;
    of_set = all.0;
    all = all.1;
    closes = subst (λ (x : TableView × List PassView). tells x.0 x.1 report)
        (λ i. (is_table i, sym (passes_in stakes passes parts) i)) closes;
  }
  all_told tells (Err refused) closes = tt
