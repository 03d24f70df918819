-- `is_empty` tests the pointer, and leaves the owner as it was.
use Rattle.atomic_table.proofs.Names.{◌≡◌, refl, sym, subst, Bool, true, ℕ, List, [], ◌∷◌, Ura, full_share, Fn, named}
use Rattle.atomic_table.proofs.Names.{inst_fn, Val, vptr, SProp, ent, emp, id⊢, Lft, Share, ftrue, flft, sem, ‵, raw}
use Rattle.atomic_table.proofs.Names.{◌⊛◌, ◌$◌, ◌∵◌, !, qed, by, move, keep, use0, use1, split, join, fsplit, fsplit3}
use Rattle.atomic_table.proofs.Names.{fjoin, fjoin3, fpack, feq_i, rewrite, whole, sub, look_in, stop, fld, load, lit}
use Rattle.atomic_table.proofs.Names.{bin, of_opd, returns, enter, alloc_all, pass_all, free_all, look_at, get, through}
use Rattle.atomic_table.proofs.Names.{sets, fact, fact_i, tables, RawPtr, RefMutOf, yes, Valss, owns, cell_at, Ptr}
use Rattle.atomic_table.proofs.Names.{block_ptr, ptr_val, mut_vals, mut_Tells, plain, types_at, nothing, opens, closes}
use Rattle.atomic_table.proofs.Names.{Clauses, closing, Stays, stay_ref, walk_of, Goes-ref}
use Rattle.vbr_handles.proofs.WalkNames.{false≢true, vnull, null_ptr, tests_null, within, shape, to, spared, Ended}
use Rattle.vbr_handles.proofs.WalkNames.{run_framed, Ptr-Good, El, R, args, el_x, IsSome, Option, None, D, B, word}
use Rattle.vbr_handles.proofs.WalkNames.{box_in, proved, vbool, leaves}
use mathlib.Core.Bool.{false, true≢false}
use denote.Builtin.{bool}
use denote.Plain.{bool_Makes}
use denote.Steps.{owned}
use Rattle.vbr_handles.proofs.AsBox.{E, OwnerRow, FromOwner}
use Rattle.vbr_handles.proofs.Owning.{owner_out, nothing_word}
use Rattle.vbr_handles.specs.contracts.owner.Owner.{the_type}
use Rattle.vbr_handles.specs.contracts.owner.Owner.is_empty.Key.{name as #self}
use Rattle.vbr_handles.proofs.owner.Owner.is_empty.Statement.{statement}
use Rattle.std_heap.specs.contracts.Global as Heap
use Rattle.vbr_handles.proofs.owner.Owner.is_empty.Code as code

module _ (F : El) where
  abbrev ended : Ended
  ended = record {
    signature =
        record {
          lifetimes = 1;
          outlives = [];
          params = RefMutOf (0 ∷ []) tt (FromOwner F) (λ _. tt) ∷ [];
          result = plain (λ _. bool);
        };
    kept = (yes, tt);
  }

  abbrev stayed : Stays ended.signature.params ended.kept
  stayed = (stay_ref (0 ∷ []) tt (FromOwner F), tt)

  abbrev Told : (OwnerRow F).Denot → Bool → (OwnerRow F).Denot → Type 0
  Told h t left = (t ≡ false → IsSome h.member) × (t ≡ true → h.member ≡ None) × (left ≡ h)

  abbrev spec : {M : Type 1} (𝓤 : Ura M) → Clauses 𝓤 ended
  spec 𝓤 κs a = record { ghost = Unit {0}; requires = λ _. emp 𝓤; ensures = λ _ r w. fact 𝓤 (Told a.0.now r w.0.now) }

pub is_empty_spec : {M' : Type 1} → statement M'
is_empty_spec 𝓤 𝓛 𝓜 𝓡 wired X L z =
    let F : El = record { row = X; laws = L } in
    let H = 𝓛.H in
    let 𝓣 = tables 𝓤 H 𝓜 𝓡 𝓡.env in
    let fn : Fn = inst_fn (args F) code.function in
    let k = #self (args F) in
    let Row = OwnerRow F in let hs = stayed F in let c = spec F 𝓤 in
    spared 𝓛 (ended F).signature (𝓡.run (𝓡.env k)) (run_framed 𝓤 H 𝓜 𝓡 (𝓡.env k)) 1 (X.lives, tt)
    (closing 𝓛 (ended F) c)
    (proved 𝓛 (ended F) hs c 𝓜 𝓡 (Goes-ref 𝓛 1 0 tt (FromOwner F), tt) k fn (code.unfolded 𝓤 H 𝓜 𝓡 wired (X, tt))
    (λ κs. (mut_vals, tt)) (λ κs. (mut_Tells (named 0) κs.0 Row, tt)) (λ κs qs bounds a gh are.
    let rb : ℕ = a.0.ref_ptr.0 in
    let ro : ℕ = a.0.ref_ptr.1 in
    let κ : Lft = κs.0 in
    let q : Share = qs.0 in
    let h : Row.Denot = a.0.now in
    let y : (walk_of 𝓛 (ended F) hs c).Ghost = ((κs, qs, bounds, a, (vptr rb ro ∷ [], tt)), gh) in
    let Post : Val → SProp 𝓤 = (walk_of 𝓛 (ended F) hs c).post y in
    qed 𝓛 (((‵ (flft κ q) ⊛ ‵ ftrue) ⊛ ‵ (owns (types_at (ended F).signature.params κs) a y.0.4)) ∷ raw (emp 𝓤) ∷ []) ∵
    split ! $ split ! $ move ! (2 ∷ []) $ fsplit ! $ fsplit3 ! $ keep ! (1 ∷ 2 ∷ 4 ∷ []) $
    enter ! 𝓣.C 𝓣.Λ fn (vptr rb ro ∷ []) Post $ alloc_all ! (λ l. pass_all ! refl ((tt, tt), tt) $
    opens ! tt Row rb ro (λ vs. move ! (1 ∷ []) $ owner_out F ! h vs
    (λ hv em at_n ws fa.
    let w : Val = nothing_word hv in let made : Row.Denot = record { ptr = null_ptr; alloc = h.alloc; member = None } in
    rewrite ! 1 (λ (us : List Val). ‵ (cell_at full_share Row.mir us rb ro)) ws refl $
    sets ! (of_opd ! (load ! (through ! refl (fld ! refl (stop !))) (look_in ! 1 (sub ! 0 refl (whole !))))) refl
    (Ptr-Good null_ptr) $ sets ! (bin ! (get ! refl) (lit ! tt) tt) refl (tt, tt) $
    nothing ! $ fpack ! (null_ptr ≡ null_ptr) (λ _. ftrue) refl $
    nothing ! $ move ! (2 ∷ 0 ∷ []) $ fjoin ! $ feq_i ! (List Val) (vnull ∷ []) (ptr_val null_ptr ∷ []) refl $ fjoin ! $
    feq_i ! (List Val) (w ∷ []) (w ∷ []) refl $ fjoin ! $
    fpack ! (Valss (RawPtr ∷ Heap.the_field.row ∷ []))
    (within (shape (the_type (R F))) (to (the_type (R F)) made) (w ∷ [])) (vnull ∷ [], (hv ∷ [], tt)) $ fjoin ! $
    use1 𝓛 (‵ (Row.own_val h (w ∷ [])))
    (subst (λ (s : Ptr × Option (el_x F)).
    ent 𝓤 (sem 𝓛 (Row.own_val made (w ∷ [])))
    (sem 𝓛 (Row.own_val (record { ptr = s.0; alloc = h.alloc; member = s.1 }) (w ∷ [])))) (λ i. (sym at_n i, sym em i))
    (id⊢ 𝓤 _)) $
    move ! (1 ∷ 0 ∷ []) $ closes ! tt Row h (w ∷ []) rb ro $
    feq_i ! (List Val) (vptr rb ro ∷ []) (vptr rb ro ∷ []) refl $ fjoin3 ! $ nothing ! $ move ! (1 ∷ 0 ∷ []) $ fjoin ! $
    nothing ! $ move ! (2 ∷ 0 ∷ []) $ join ! $
    owned ! bool _ (bool_Makes 𝓛) true (vbool true ∷ []) refl $ use0 𝓛 (raw (fact 𝓤 (Told F h true h)))
    (fact_i 𝓤 (Told F h true h) (emp 𝓤) ((λ e. absurd (true≢false e)), (λ _. em), refl)) $
    returns ! (look_at ! 0 refl) $ free_all ! refl $ keep ! (2 ∷ 3 ∷ 1 ∷ 0 ∷ []) $ by !
    (leaves 𝓛 (ended F) hs c y (vbool true) true (h, tt) (tt, tt)))
    (λ b o hv x em at_b ts ws fa.
    let w : Val = word (E F) hv b o in let v : D (E F) = record { ptr = block_ptr b o; alloc = h.alloc; value = x } in
    rewrite ! 2 (λ (us : List Val). ‵ (cell_at full_share Row.mir us rb ro)) ws refl $
    sets ! (of_opd ! (load ! (through ! refl (fld ! refl (stop !))) (look_in ! 2 (sub ! 0 refl (whole !))))) refl
    (tt, tt) $ sets ! (bin ! (get ! refl) (lit ! tt) (tests_null (block_ptr b o) ts)) refl (tt, tt) $
    fsplit ! $ box_in (E F) ! v b o x refl refl $
    use1 𝓛 (‵ (Row.own_val h (w ∷ [])))
    (subst (λ (s : Ptr × Option (el_x F)).
    ent 𝓤 (sem 𝓛 ((B (E F)).own_val v (w ∷ [])))
    (sem 𝓛 (Row.own_val (record { ptr = s.0; alloc = h.alloc; member = s.1 }) (w ∷ [])))) (λ i. (sym at_b i, sym em i))
    (id⊢ 𝓤 _)) $
    move ! (1 ∷ 0 ∷ []) $ closes ! tt Row h (w ∷ []) rb ro $
    feq_i ! (List Val) (vptr rb ro ∷ []) (vptr rb ro ∷ []) refl $ fjoin3 ! $ nothing ! $ move ! (1 ∷ 0 ∷ []) $ fjoin ! $
    nothing ! $ move ! (2 ∷ 0 ∷ []) $ join ! $
    owned ! bool _ (bool_Makes 𝓛) false (vbool false ∷ []) refl $ use0 𝓛 (raw (fact 𝓤 (Told F h false h)))
    (fact_i 𝓤 (Told F h false h) (emp 𝓤) ((λ _. subst IsSome (sym em) refl), (λ e. absurd (false≢true e)), refl)) $
    returns ! (look_at ! 0 refl) $ free_all ! refl $ keep ! (2 ∷ 3 ∷ 1 ∷ 0 ∷ []) $ by !
    (leaves 𝓛 (ended F) hs c y (vbool false) false (h, tt) (tt, tt)))))))
    ((z.0.0, z.0.1, tt, z.0.3, z.0.4), z.1)
