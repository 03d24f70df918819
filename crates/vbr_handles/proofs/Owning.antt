-- What an `Owner` owns, taken apart: nothing at null, and else a box.
-- Assumes `Logic`.
use Rattle.atomic_table.proofs.Names.{◌≡◌, refl, subst, ℕ, List, [], ◌∷◌, ◌++◌, Ura, Val, vstruct, vcons, vnil, of_list}
use Rattle.atomic_table.proofs.Names.{full_share, Fml, SProp, ent, via, snd∗, fst∗, guard_i, Logic, sem, ‵, given, ◌$◌}
use Rattle.atomic_table.proofs.Names.{move, drop, use1, fsplit, fpick, feq_l, learn, fact_use, RattleType, Ptr}
use Rattle.atomic_table.proofs.Names.{block_ptr, ptr_val}
use Rattle.vbr_handles.proofs.WalkNames.{vnull, never, Item, lone, IsSend, null_ptr, in_a_block, handle_tells, Fits, El}
use Rattle.vbr_handles.proofs.WalkNames.{R, el_x, word, box_owns, Option, None, Some, ghosts, bare, guard, Goal, Seq}
use Rattle.vbr_handles.proofs.WalkNames.{lies_at, Testable, lies}
use base.Shift.{Keyless}
use Rattle.std.specs.Global.{Global}
use Rattle.std_heap.proofs.GlobalToken.{dealloc_token-Testable}
use Rattle.vbr_handles.specs.Owners.{owner_owns}
use Rattle.vbr_handles.proofs.AsBox.{E, OwnerRow}
use Rattle.std.proofs.Crossing as heap

abbrev pub nothing_word : Val → Val
nothing_word hv = vstruct (vcons vnull (vcons hv vnil))

pub owns_keyless : (T : RattleType) → IsSend T → (a : Global) (p : Ptr) (m : Option T.Denot) →
    Keyless (owner_owns T a p m)
owns_keyless T s a p None = λ _. tt
owns_keyless T s a p (Some x) = (lies T s p x, heap.frees.frees a (bare (lone T.mir)) p)

module _ (F : El) {M : Type 1} {𝓤 : Ura M} (𝓛 : Logic 𝓤) (a : Global) where
  abbrev pub boxed : Ptr → el_x F → Fml
  boxed = box_owns (ghosts.dealloc_token a) (R F)

  tested : (p : Ptr) (x : el_x F) → ent 𝓤 (sem 𝓛 (boxed p x)) (guard 𝓤 (Testable p) (sem 𝓛 (boxed p x)))
  tested p x = let B : SProp 𝓤 = sem 𝓛 (boxed p x) in
      fact_use 𝓤 (Testable p)
      (via 𝓤 _ (snd∗ 𝓤 (sem 𝓛 (lies_at (R F) full_share p x))
      (sem 𝓛 (ghosts.dealloc_token a (bare (lone (R F).mir)) p)))
      (dealloc_token-Testable 𝓛 a (bare (lone (R F).mir)) p)) (guard_i 𝓤 (Testable p) B)

module _ (F : El) {M : Type 1} {𝓤 : Ura M} {𝓛 : Logic 𝓤} {K : Type 0} {Γ : List (Item 𝓤)} {G : Goal 𝓤 𝓛.H} where
  pub either : K → (a : Global) (p : Ptr) (m : Option (el_x F)) → (m ≡ None → p ≡ null_ptr → Seq K 𝓛 Γ G)
      → ((b o : ℕ) (x : el_x F) → m ≡ Some x → p ≡ block_ptr b o → Testable (block_ptr b o) →
      Seq K 𝓛 (‵ (box_owns (ghosts.dealloc_token a) (R F) (block_ptr b o) x) ∷ Γ) G)
      → Seq K 𝓛 (‵ (owner_owns (R F) a p m) ∷ Γ) G
  either t a p None none some = fpick t (λ e. drop t $ none refl e)
  either t a p (Some x) none some =
      use1 𝓛 (given (Testable p) (‵ (boxed F 𝓛 a p x))) (tested F 𝓛 a p x) $ learn t (λ ts.
      in_a_block t p (λ q. box_owns (ghosts.dealloc_token a) (R F) q x)
      (fst∗ 𝓤 (never 𝓤) (sem 𝓛 (ghosts.dealloc_token a (bare (lone (R F).mir)) null_ptr)))
      (λ b o e. some b o x refl e (subst Testable e ts)))

module _ (F : El) {M : Type 1} {𝓤 : Ura M} {𝓛 : Logic 𝓤} {K : Type 0} {Γ : List (Item 𝓤)} {G : Goal 𝓤 𝓛.H} where
  pub owner_out : K → (d : (OwnerRow F).Denot) (vs : List Val)
      → ((hv : Val) → d.member ≡ None → d.ptr ≡ null_ptr → vs ≡ nothing_word hv ∷ [] → Fits (E F).al hv →
      Seq K 𝓛 (‵ ((E F).al.row.own_val d.alloc (hv ∷ [])) ∷ Γ) G)
      → ((b o : ℕ) (hv : Val) (x : el_x F) → d.member ≡ Some x → d.ptr ≡ block_ptr b o → Testable (block_ptr b o) →
      vs ≡ word (E F) hv b o ∷ [] → Fits (E F).al hv
      → Seq K 𝓛 (‵ (box_owns (ghosts.dealloc_token d.alloc) (R F) (block_ptr b o) x)
      ∷ ‵ ((E F).al.row.own_val d.alloc (hv ∷ [])) ∷ Γ) G)
      → Seq K 𝓛 (‵ ((OwnerRow F).own_val d vs) ∷ Γ) G
  owner_out t d vs none some =
      fsplit t $ fpick t
      (λ vss. fsplit t $ feq_l t
      (λ ev. fsplit t $ feq_l t
      (λ ep. fsplit t $ handle_tells (E F).al t d.alloc vss.1.0
      (λ hv ea fa. move t (1 ∷ []) $ drop t $ move t (1 ∷ []) $
      let seen : (p : Ptr) → d.ptr ≡ p → vs ≡ vstruct (of_list (ptr_val p ∷ hv ∷ [])) ∷ [] =
      λ p e. subst (λ (q : Ptr). vs ≡ vstruct (of_list (ptr_val q ∷ hv ∷ [])) ∷ []) e
      (subst (λ (ws : List Val). vs ≡ vstruct (of_list (ptr_val d.ptr ∷ (ws ++ []))) ∷ []) ea
      (subst (λ (ps : List Val). vs ≡ vstruct (of_list (ps ++ (vss.1.0 ++ []))) ∷ []) ep ev)) in
      either F t d.alloc d.ptr d.member (λ em e. none hv em e (seen null_ptr e) fa)
      (λ b o x em e ts. some b o hv x em e ts (seen (block_ptr b o) e) fa)))))
