-- `of_parts` moves two fields, and what they own goes with them.
use Rattle.atomic_table.proofs.Names.{◌≡◌, refl, sym, subst, List, [], ◌∷◌, ◌++◌, Ura, Fn, inst_fn, Val, ent, emp, id⊢}
use Rattle.atomic_table.proofs.Names.{ftrue, fsep, WpFn, fact, ‵, raw, ◌⊛◌, ◌$◌, ◌∵◌, !, qed, by, move, drop, use1}
use Rattle.atomic_table.proofs.Names.{join, split, fsplit, fjoin, suffices, done, whole, sub, agg, stop, fld, no_more}
use Rattle.atomic_table.proofs.Names.{and_then, of_opd, returns, enter, alloc_all, pass_all, free_all, look_at, get}
use Rattle.atomic_table.proofs.Names.{get_in, sets, no, nothing, Clauses, Stays, stay_dropped, walk_of, ends_at}
use Rattle.vbr_handles.proofs.WalkNames.{Item, Ended, says, Goes-blank, El, args, Some, D, B, word, box_typed, box_out}
use Rattle.vbr_handles.proofs.WalkNames.{box_in}
use Rattle.vbr_handles.proofs.Bounds.{moving, spares}
use Rattle.vbr_handles.proofs.AsBox.{E, OwnerRow, FromParts as From, FromOwner as To}
use Rattle.vbr_handles.specs.contracts.owner.Owner.of_parts.Key.{name as #self}
use Rattle.vbr_handles.proofs.owner.Owner.of_parts.Statement as stated
use Rattle.vbr_handles.proofs.owner.Owner.of_parts.Code as code

module _ (F : El) where
  abbrev fn' : Fn
  fn' = inst_fn (args F) code.function

  abbrev ended : Ended
  ended = record { signature = moving (From F ∷ []) (To F); kept = (no, tt) }

  abbrev stayed : Stays ended.signature.params ended.kept
  stayed = (stay_dropped (From F) no, tt)

  abbrev spec : {M : Type 1} (𝓤 : Ura M) → Clauses 𝓤 ended
  spec 𝓤 κs a =
      record { ghost = Unit {0}; requires = λ _. emp 𝓤; ensures = λ _ r _. fact 𝓤 (r.member ≡ Some a.0.value) }

pub of_parts_spec : {M : Type 1} → stated.statement M
of_parts_spec 𝓤 𝓛 𝓜 𝓡 wired X L y =
    let F : El = record { row = X; laws = L } in
    spares 𝓛 𝓜 𝓡 (ended F) (stayed F) (spec F 𝓤) (Goes-blank 𝓛 0 (From F) no (λ κs x f. tt), tt) 1 (X.lives, tt)
    (#self (args F)) (fn' F) (code.unfolded 𝓤 𝓛.H 𝓜 𝓡 wired (X, tt)) (λ C Λ z.
    let Post = (walk_of 𝓛 (ended F) (stayed F) (spec F 𝓤)).post z in
    let v : D (E F) = record { ptr = z.0.3.0.ptr; alloc = z.0.3.0.alloc; value = z.0.3.0.value } in
    let made : (OwnerRow F).Denot = record { ptr = v.ptr; alloc = v.alloc; member = Some v.value } in
    qed 𝓛 ((‵ ftrue ⊛ ‵ (fsep ((B (E F)).own_val v z.0.4.0) ftrue)) ∷ raw (emp 𝓤) ∷ []) ∵ split ! $ drop ! $ fsplit !
    $
    box_out (E F) ! v z.0.4.0
    (λ b o hv e ws fa.
    box_in (E F) ! v b o v.value e refl $ use1 𝓛 (‵ ((OwnerRow F).own_val made (word (E F) hv b o ∷ []))) (id⊢ 𝓤 _) $
    move ! (1 ∷ 2 ∷ []) $ drop ! $ drop ! $
    let w = word (E F) hv b o in
    let Γ : List (Item 𝓤) = ‵ ((OwnerRow F).own_val made (w ∷ [])) ∷ [] in
    by ! (subst (λ (us : List Val). ent 𝓤 (types.Kit.⋆ 𝓛 Γ) (WpFn 𝓤 𝓛.H C Λ (fn' F) (us ++ []) Post)) (sym ws)
    (qed 𝓛 Γ ∵ enter ! C Λ (fn' F) (w ∷ []) _ $ alloc_all !
    (λ ls. pass_all ! refl (box_typed (E F) hv b o fa, tt) $
    sets ! (of_opd ! (get_in ! (fld ! refl (stop !)) (sub ! 0 refl (whole !)))) refl (tt, tt) $ sets !
    (of_opd ! (get_in ! (fld ! refl (stop !)) (sub ! 1 refl (whole !)))) refl fa $
    sets ! (agg ! (and_then ! (get ! refl) (and_then ! (get ! refl) (no_more !)))) refl (box_typed (E F) hv b o fa) $
    returns ! (look_at ! 0 refl) $ free_all ! refl $
    suffices ! _ (ends_at 𝓛 (ended F) (stayed F) (spec F 𝓤) z w made (tt, tt) (tt, tt)) $ says ! refl $
    nothing ! $ nothing ! $ fjoin ! $ join ! $ nothing ! $ join ! $ done !)))))
    ((y.0.0, y.0.1, tt, y.0.3, y.0.4), y.1)
