-- The keys of items at their places, and entries that are written one after another.
use Rattle.vbr_handles.proofs.Names.{◌≡◌, ℕ, zero, suc, ◌+◌, ◌<◌, List, [], ◌∷◌, map, length, slice_index_or, refl, sym}
use Rattle.vbr_handles.proofs.Names.{ap, ◌∙◌, subst, arith, paste, slice_set, IsStrictlyIncreasing, length-map}
use Rattle.vbr_handles.proofs.Names.{as_entry, slice_index, paste-suc}
use lib.ListN.{get_or-map}
use Rattle.vbr_handles.specs.declared.entry.Entry.{Entry}

module _ {I : Type 0} (key : I → ℕ) where
  key_at : (items : List I) (i : ℕ) (d : I) → i < length items →
      slice_index (map key items) i ≡ key (slice_index_or items i d)
  key_at [] i d within = absurd (omega arith)
  key_at (item ∷ items) zero d within = refl
  key_at (item ∷ items) (suc i) d within = key_at items i d (omega arith)

  -- keys ascend where each is below the next, and only there
  pub ascending : (items : List I) →
      ((k : ℕ) (d : I) → k + 1 < length items → key (slice_index_or items k d) < key (slice_index_or items (k + 1) d)) →
      IsStrictlyIncreasing (map key items)
  ascending [] below k within = absurd (omega arith)
  ascending (item ∷ items) below k within =
      let all : List I = item ∷ items in
      let many = length-map all key in
      subst (λ (n : ℕ). n < slice_index (map key all) (k + 1)) (sym (key_at all k item (omega (arith, many))))
      (subst (λ (n : ℕ). key (slice_index_or all k item) < n) (sym (key_at all (k + 1) item (omega (arith, many))))
      (below k item (omega (arith, many))))

  pub below_next : (items : List I) → IsStrictlyIncreasing (map key items) → (k : ℕ) (d : I) → k + 1 < length items →
      key (slice_index_or items k d) < key (slice_index_or items (k + 1) d)
  below_next items ascend k d within =
      let many = length-map items key in
      subst (λ (n : ℕ). n < key (slice_index_or items (k + 1) d)) (key_at items k d (omega (arith, many)))
      (subst (λ (n : ℕ). slice_index (map key items) k < n) (key_at items (k + 1) d within)
      (ascend k (omega (arith, many))))

pub one_more_written : (before entries : List Entry) (pairs : List (ℕ × ℕ)) (i : ℕ) (pair : ℕ × ℕ) → i < length before →
    i < length pairs → pair ≡ slice_index_or pairs i pair → entries ≡ paste before 0 (map as_entry pairs) i
    → slice_set entries i (as_entry pair) ≡ paste before 0 (map as_entry pairs) (i + 1)
one_more_written before entries pairs i pair room within read is =
    let listed : List Entry = map as_entry pairs in
    let long : length listed ≡ length pairs = length-map pairs as_entry in
    let here : i ≡ 0 + i = omega arith in
    let next : suc i ≡ i + 1 = omega arith in
    ap (λ (es : List Entry). slice_set es i (as_entry pair)) is
    ∙ ap (λ (e : Entry). slice_set (paste before 0 listed i) i e)
    (ap as_entry read ∙ sym (get_or-map as_entry pairs i pair))
    ∙ ap (λ (n : ℕ). slice_set (paste before 0 listed i) n (slice_index_or listed i (as_entry pair))) here
    ∙ paste-suc before 0 listed i (as_entry pair) (omega arith) (omega arith)
    ∙ ap (λ (n : ℕ). paste before 0 listed n) next
