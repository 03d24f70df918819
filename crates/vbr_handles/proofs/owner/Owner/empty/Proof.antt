-- `empty` makes an owner of nothing.
use Rattle.atomic_table.proofs.Names.{◌≡◌, refl, sym, subst, List, [], ◌∷◌, ◌++◌, lit<, Ura, Fn, inst_fn, Val, WT, ent}
use Rattle.atomic_table.proofs.Names.{emp, id⊢, ftrue, fsep, WpFn, fact, ‵, raw, ◌⊛◌, ◌$◌, ◌∵◌, !, qed, by, move, keep}
use Rattle.atomic_table.proofs.Names.{drop, use1, join, split, fsplit, fjoin, fpack, feq_i, suffices, done, agg, lit}
use Rattle.atomic_table.proofs.Names.{no_more, and_then, returns, enter, alloc_all, pass_all, free_all, look_at, get}
use Rattle.atomic_table.proofs.Names.{sets, yes, RawPtr, Valss, ptr_val, plain, nothing, Clauses, Stays, stay_dropped}
use Rattle.atomic_table.proofs.Names.{walk_of, ends_at, Goes-dropped}
use Rattle.vbr_handles.proofs.WalkNames.{T, vnull, has_ty, Item, layout, null_ptr, Slot, within, shape, to, Ended, says}
use Rattle.vbr_handles.proofs.WalkNames.{handle_tells, El, R, args, None, and_tt}
use Rattle.vbr_handles.proofs.Bounds.{moving, spares}
use Rattle.vbr_handles.proofs.AsBox.{E, OwnerRow, FromOwner as To}
use Rattle.vbr_handles.proofs.Owning.{nothing_word}
use Rattle.vbr_handles.specs.contracts.owner.Owner.{the_type}
use Rattle.vbr_handles.specs.contracts.owner.Owner.empty.Key.{name as #self}
use Rattle.std_heap.specs.contracts.Global as Heap
use Rattle.vbr_handles.proofs.owner.Owner.empty.Statement as stated
use Rattle.vbr_handles.proofs.owner.Owner.empty.Code as code

abbrev From : Slot 0
From = plain (λ _. Heap.the_row)

module _ (F : El) where
  abbrev fn' : Fn
  fn' = inst_fn (args F) code.function

  abbrev ended : Ended
  ended = record { signature = moving (From ∷ []) (To F); kept = (yes, tt) }

  abbrev stayed : Stays ended.signature.params ended.kept
  stayed = (stay_dropped From yes, tt)

  abbrev spec : {M : Type 1} (𝓤 : Ura M) → Clauses 𝓤 ended
  spec 𝓤 κs a = record { ghost = Unit {0}; requires = λ _. emp 𝓤; ensures = λ _ r _. fact 𝓤 (r.member ≡ None) }

pub empty_spec : {M : Type 1} → stated.statement M
empty_spec 𝓤 𝓛 𝓜 𝓡 wired X L y =
    let F : El = record { row = X; laws = L } in
    spares 𝓛 𝓜 𝓡 (ended F) (stayed F) (spec F 𝓤) (Goes-dropped 𝓛 0 From yes (λ κs x f. refl), tt) 1 (X.lives, tt)
    (#self (args F)) (fn' F) (code.unfolded 𝓤 𝓛.H 𝓜 𝓡 wired (X, tt)) (λ C Λ z.
    let Post = (walk_of 𝓛 (ended F) (stayed F) (spec F 𝓤)).post z in
    let a : Heap.the_row.Denot = z.0.3.0 in
    let made : (OwnerRow F).Denot = record { ptr = null_ptr; alloc = a; member = None } in
    qed 𝓛 ((‵ ftrue ⊛ ‵ (fsep (Heap.the_row.own_val a z.0.4.0) ftrue)) ∷ raw (emp 𝓤) ∷ []) ∵ split ! $ drop ! $ fsplit
    ! $
    handle_tells (E F).al ! a z.0.4.0 (λ hv ea fa. keep ! (0 ∷ []) $
    let w = nothing_word hv in
    let good : T (has_ty (layout (OwnerRow F)) w) × WT w =
    (and_tt (has_ty (layout Heap.the_row) hv) fa.0, (record { fits = lit< tt }, (fa.1, tt))) in
    nothing ! $ fpack ! (null_ptr ≡ null_ptr) (λ _. ftrue) refl $
    nothing ! $ move ! (2 ∷ 0 ∷ []) $ fjoin ! $ feq_i ! (List Val) (vnull ∷ []) (ptr_val null_ptr ∷ []) refl $ fjoin !
    $ feq_i ! (List Val) (w ∷ []) (w ∷ []) refl $ fjoin ! $
    fpack ! (Valss (RawPtr ∷ Heap.the_field.row ∷ []))
    (within (shape (the_type (R F))) (to (the_type (R F)) made) (w ∷ [])) (vnull ∷ [], (hv ∷ [], tt)) $ fjoin ! $
    use1 𝓛 (‵ ((OwnerRow F).own_val made (w ∷ []))) (id⊢ 𝓤 _) $
    let Γ : List (Item 𝓤) = ‵ ((OwnerRow F).own_val made (w ∷ [])) ∷ [] in
    by ! (subst (λ (us : List Val). ent 𝓤 (types.Kit.⋆ 𝓛 Γ) (WpFn 𝓤 𝓛.H C Λ (fn' F) (us ++ []) Post)) (sym ea)
    (qed 𝓛 Γ ∵ enter ! C Λ (fn' F) (hv ∷ []) _ $ alloc_all ! (λ ls. pass_all ! refl (fa, tt) $
    sets ! (agg ! (and_then ! (lit ! tt) (and_then ! (get ! refl) (no_more !)))) refl good $
    returns ! (look_at ! 0 refl) $ free_all ! refl $
    suffices ! _ (ends_at 𝓛 (ended F) (stayed F) (spec F 𝓤) z w made (tt, tt) (tt, tt)) $ says ! refl $
    nothing ! $ nothing ! $ fjoin ! $ join ! $ nothing ! $ join ! $ done !)))))
    ((y.0.0, y.0.1, tt, y.0.3, y.0.4), y.1)
