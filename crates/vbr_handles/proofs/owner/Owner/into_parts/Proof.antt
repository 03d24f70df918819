-- `into_parts` tests the pointer, and what it owns goes with it.
use Rattle.atomic_table.proofs.Names.{◌≡◌, refl, sym, subst, List, [], ◌∷◌, ◌++◌, lit<, Ura, Fn, inst_fn, Val, vcons}
use Rattle.atomic_table.proofs.Names.{vnil, WT, SProp, ent, emp, id⊢, ftrue, fsep, WpFn, fact, at_ret, ‵, raw, ◌⊛◌, ◌$◌}
use Rattle.atomic_table.proofs.Names.{◌∵◌, !, qed, by, keep, drop, use0, use1, join, split, fsplit, fjoin, suffices}
use Rattle.atomic_table.proofs.Names.{done, whole, sub, agg, stop, fld, lit, bin, no_more, and_then, of_opd, first}
use Rattle.atomic_table.proofs.Names.{exec, returns, enter, alloc_all, pass_all, free_all, look_at, get, get_in, sets}
use Rattle.atomic_table.proofs.Names.{sets_last, env, live, no, RattleType, block_ptr, plain, nothing, Clauses, Stays}
use Rattle.atomic_table.proofs.Names.{stay_dropped, walk_of, ends_at}
use Rattle.vbr_handles.proofs.WalkNames.{T, has_ty, layout, null_ptr, tests_null, Ended, says, Goes-blank, after}
use Rattle.vbr_handles.proofs.WalkNames.{Ptr-Good, El, args, IsSome, None, Some, and_tt, D, word, box_typed, box_in}
use Rattle.vbr_handles.proofs.WalkNames.{IfSome}
use types.Run.{branches}
use Rattle.core.proofs.option.Made.{Some-of, none_of}
use Rattle.vbr_handles.proofs.Bounds.{moving, spares}
use Rattle.vbr_handles.proofs.AsBox.{E, OwnerRow, PartsRow, FromOwner as From}
use Rattle.vbr_handles.proofs.Owning.{nothing_word, owner_out}
use Rattle.vbr_handles.specs.contracts.owner.Owner.into_parts.Key.{name as #self}
use Rattle.std.specs.contracts.option.Option as OP
use Rattle.std_heap.specs.contracts.Global as Heap
use Rattle.vbr_handles.proofs.owner.Owner.into_parts.Statement as stated
use Rattle.vbr_handles.proofs.owner.Owner.into_parts.Code as code

module _ (F : El) where
  abbrev fn' : Fn
  fn' = inst_fn (args F) code.function

  abbrev Out : RattleType
  Out = OP.the_row (PartsRow F)

  abbrev ended : Ended
  ended = record { signature = moving (From F ∷ []) (plain (λ _. Out)); kept = (no, tt) }

  abbrev stayed : Stays ended.signature.params ended.kept
  stayed = (stay_dropped (From F) no, tt)

  abbrev spec : {M : Type 1} (𝓤 : Ura M) → Clauses 𝓤 ended
  spec 𝓤 κs a =
      record {
        ghost = Unit {0};
        requires = λ _. emp 𝓤;
        ensures = λ _ r _. fact 𝓤 (IfSome r (λ p. a.0.member ≡ Some p.value) × (IsSome a.0.member → IsSome r));
      }

pub into_parts_spec : {M : Type 1} → stated.statement M
into_parts_spec 𝓤 𝓛 𝓜 𝓡 wired X L y =
    let F : El = record { row = X; laws = L } in
    spares 𝓛 𝓜 𝓡 (ended F) (stayed F) (spec F 𝓤) (Goes-blank 𝓛 0 (From F) no (λ κs x f. tt), tt) 1 (X.lives, tt)
    (#self (args F)) (fn' F) (code.unfolded 𝓤 𝓛.H 𝓜 𝓡 wired (X, tt)) (λ C Λ z.
    let fn = fn' F in let Lr = PartsRow F in
    let Post : Val → SProp 𝓤 = (walk_of 𝓛 (ended F) (stayed F) (spec F 𝓤)).post z in
    let d : (OwnerRow F).Denot = z.0.3.0 in
    qed 𝓛 ((‵ ftrue ⊛ ‵ (fsep ((OwnerRow F).own_val d z.0.4.0) ftrue)) ∷ raw (emp 𝓤) ∷ []) ∵ split ! $ drop ! $ fsplit
    ! $
    owner_out F ! d z.0.4.0
    (λ hv em at_n ws fa. keep ! (0 ∷ []) $ drop ! $
    by ! (subst (λ (us : List Val). ent 𝓤 (types.Kit.⋆ 𝓛 []) (WpFn 𝓤 𝓛.H C Λ fn (us ++ []) Post)) (sym ws)
    (qed 𝓛 [] ∵ enter ! C Λ fn (nothing_word hv ∷ []) _ $ alloc_all ! (λ ls. let Ev = env fn.locals ls in
    pass_all ! refl ((and_tt (has_ty (layout Heap.the_row) hv) fa.0, (record { fits = lit< tt }, (fa.1, tt))), tt) $
    sets ! (of_opd ! (get_in ! (fld ! refl (stop !)) (sub ! 0 refl (whole !)))) refl (Ptr-Good null_ptr) $ sets !
    (of_opd ! (get_in ! (fld ! refl (stop !)) (sub ! 1 refl (whole !)))) refl fa $
    sets ! (bin ! (get ! refl) (lit ! tt) tt) refl (tt, tt) $ first ! $ branches ! (get ! refl)
    (λ _. sets_last ! (agg ! (and_then ! (lit ! tt) (no_more !))) refl (tt, (record { fits = lit< tt }, tt)) $ exec !
    C Λ Ev (after 4 fn.body) (at_ret Ev Post) $ sets ! (of_opd ! (get ! refl)) refl
    (tt, (record { fits = lit< tt }, tt)) $
    use0 𝓛 (‵ ((Out F).own_val None (live 0 vnil ∷ []))) (none_of 𝓛 Lr) $
    returns ! (look_at ! 0 refl) $ free_all ! refl $
    suffices ! _ (ends_at 𝓛 (ended F) (stayed F) (spec F 𝓤) z (live 0 vnil) None (tt, tt) (tt, tt)) $ says !
    (tt, λ h. subst IsSome em h) $
    nothing ! $ nothing ! $ fjoin ! $ join ! $ nothing ! $ join ! $ done !)
    (λ wrong. absurd wrong)))))
    (λ b o hv x em at_b ts ws fa.
    let w = word (E F) hv b o in
    let v : D (E F) = record { ptr = block_ptr b o; alloc = d.alloc; value = x } in
    let made : Lr.Denot = record { ptr = block_ptr b o; alloc = d.alloc; value = x } in
    let v₁ : Val = live 1 (vcons w vnil) in
    let typed = box_typed (E F) hv b o fa in
    let good : T (has_ty (layout (Out F)) v₁) × WT v₁ =
    (and_tt _ typed.0, (record { fits = lit< tt }, (typed.1, tt))) in
    fsplit ! $ box_in (E F) ! v b o x refl refl $ use1 𝓛 (‵ (Lr.own_val made (w ∷ []))) (id⊢ 𝓤 _) $ keep ! (0 ∷ []) $
    by ! (subst (λ (us : List Val).
    ent 𝓤 (types.Kit.⋆ 𝓛 (‵ (Lr.own_val made (w ∷ [])) ∷ [])) (WpFn 𝓤 𝓛.H C Λ fn (us ++ []) Post)) (sym ws)
    (qed 𝓛 (‵ (Lr.own_val made (w ∷ [])) ∷ []) ∵ enter ! C Λ fn (w ∷ []) _ $ alloc_all !
    (λ ls. let Ev = env fn.locals ls in
    pass_all ! refl (typed, tt) $
    sets ! (of_opd ! (get_in ! (fld ! refl (stop !)) (sub ! 0 refl (whole !)))) refl (tt, tt) $ sets !
    (of_opd ! (get_in ! (fld ! refl (stop !)) (sub ! 1 refl (whole !)))) refl fa $
    sets ! (bin ! (get ! refl) (lit ! tt) (tests_null (block_ptr b o) ts)) refl (tt, tt) $ first ! $ branches !
    (get ! refl) (λ wrong. absurd wrong) (λ _.
    sets ! (agg ! (and_then ! (get ! refl) (and_then ! (get ! refl) (no_more !)))) refl typed $ sets_last !
    (agg ! (and_then ! (lit ! tt) (and_then ! (get ! refl) (no_more !)))) refl good $
    exec ! C Λ Ev (after 4 fn.body) (at_ret Ev Post) $ sets ! (of_opd ! (get ! refl)) refl good $
    use1 𝓛 (‵ ((Out F).own_val (Some made) (v₁ ∷ []))) (Some-of 𝓛 Lr made w) $
    returns ! (look_at ! 0 refl) $ free_all ! refl $
    suffices ! _ (ends_at 𝓛 (ended F) (stayed F) (spec F 𝓤) z v₁ (Some made) (tt, tt) (tt, tt)) $ says !
    (em, λ _. refl) $
    nothing ! $ nothing ! $ fjoin ! $ join ! $ nothing ! $ join ! $ done !))))))
    ((y.0.0, y.0.1, tt, y.0.3, y.0.4), y.1)
