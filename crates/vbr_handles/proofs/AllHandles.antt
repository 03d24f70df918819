-- What owners tell of their handles, and the members of handles one after another.
use Rattle.vbr_handles.proofs.Names.{◌≡◌, Bool, true, false, ℕ, ◌+◌, ◌<◌, ◌∷◌, [], ◌++◌, List, map, length, take}
use Rattle.vbr_handles.proofs.Names.{append_assoc, sym, ap, ◌∙◌, subst, arith, length-map, IsSome, Option, None, Some}
use Rattle.vbr_handles.proofs.Names.{slice_set, joined, members_by, with_member, Owner, map-set, take_more_set, Member}

-- an owner whose member was lent, and not changed
pub lent_back : (o : Owner Member) (m : Member) → o.member ≡ Some m → with_member o m ≡ o
lent_back o m is = λ i. record { ptr = o.ptr; alloc = o.alloc; member = sym is i }

-- what its owner tells a handle tells, and stays as it was
pub told : {H : Type 0} (handle_of : Owner Member → H) (P : Owner Member → Type 0) {owner lent left : Owner Member} →
    lent ≡ owner → P lent × (left ≡ lent) → P owner × (handle_of left ≡ handle_of owner)
told handle_of P is tells = (subst P is tells.0, ap handle_of (tells.1 ∙ is))

-- so it is empty where its owner is
pub told_empty : {H : Type 0} (handle_of : Owner Member → H) {owner lent left : Owner Member} {result : Bool} →
    lent ≡ owner
    → (result ≡ false → IsSome lent.member) × (result ≡ true → lent.member ≡ None) × (left ≡ lent)
    → (result ≡ false → IsSome owner.member) × (result ≡ true → owner.member ≡ None) ×
    (handle_of left ≡ handle_of owner)
told_empty handle_of is tells = (
  (λ e. subst (λ (o : Owner Member). IsSome o.member) is (tells.0 e)),
  (λ e. sym (ap (λ (o : Owner Member). o.member) is) ∙ tells.1 e),
  ap handle_of (tells.2 ∙ is),
)

module _ {H : Type 0} (member : H → Option Member) where
  -- the first member goes to those that were taken out before
  pub moved : (ms ms' : List Member) (m : Member) (first : H) (others handles : List H) → ms' ≡ ms ++ m ∷ [] →
      handles ≡ first ∷ others → member first ≡ Some m →
      ms' ++ members_by member others ≡ ms ++ members_by member handles
  moved ms ms' m first others handles more split is =
      ap (λ (xs : List Member). xs ++ members_by member others) more
      ∙ append_assoc ms (m ∷ []) (members_by member others)
      ∙ ap (λ (xs : List Member). ms ++ xs)
      (sym (ap (members_by member) split ∙ ap (λ (o : Option Member). joined o (members_by member others)) is))

  -- one more handle is filled
  pub one_more : {X : Type 0} (f : X → Option Member) (handles : List H) (i : ℕ) (h : H) (x : X) (all rest : List X)
      (whole : List (Option Member)) → i < length handles → all ≡ x ∷ rest → member h ≡ f x
      → take i (map member handles) ++ map f all ≡ whole →
      take (i + 1) (map member (slice_set handles i h)) ++ map f rest ≡ whole
  one_more {X} f handles i h x all rest whole within split is so_far =
      let before : List (Option Member) = take i (map member handles) in
      let many = length-map handles member in
      ap (λ (os : List (Option Member)). take (i + 1) os ++ map f rest) (map-set member handles i h)
      ∙ ap (λ (os : List (Option Member)). os ++ map f rest)
      (take_more_set (map member handles) i (member h) (omega (arith, many, within)))
      ∙ append_assoc before (member h ∷ []) (map f rest)
      ∙ ap (λ (m : Option Member). before ++ m ∷ map f rest) is
      ∙ sym (ap (λ (xs : List X). before ++ map f xs) split)
      ∙ so_far
