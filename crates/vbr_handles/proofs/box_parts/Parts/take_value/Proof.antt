-- `take_value` moves the value out and leaves the room, at any element type: the walk of the kit's `Box`. Assumes
-- `Logic`.
use Rattle.atomic_table.proofs.Names.{◌≡◌, refl, sym, subst, ℕ, List, [], ◌∷◌, ◌++◌, Ura, full_share, Fn, inst_fn, Val}
use Rattle.atomic_table.proofs.Names.{SProp, ent, sep, emp, via, fst∗, Env, WpFn, Logic, sem, fact, no, owns, part_at}
use Rattle.atomic_table.proofs.Names.{block_ptr, plain, nothing, Clauses, on_entry, ftrue, ‵, ◌⊛◌, some, given, at_ret}
use Rattle.atomic_table.proofs.Names.{◌$◌, ◌∵◌, !, qed, by, move, keep, use1, use2, drop, pick, learn, split, join}
use Rattle.atomic_table.proofs.Names.{fsplit, fjoin, suffices, done, whole, sub, agg, load, stop, fld, of_opd, and_then}
use Rattle.atomic_table.proofs.Names.{no_more, first, blocks, exec, returns, enter, alloc_all, pass_all, free_all}
use Rattle.atomic_table.proofs.Names.{look_at, get, get_in, through, sets, sets_last, env, Tuple, Stays, stay_dropped}
use Rattle.atomic_table.proofs.Names.{walk_of, ends_at}
use Rattle.vbr_handles.proofs.WalkNames.{Calls, Loops, Ended, froom, says, token, Fits, Goes-blank, vacant_val}
use Rattle.vbr_handles.proofs.WalkNames.{vacant_typed, Bx, τ, own, Good, word, handle, box_typed, box_out, bare, fat}
use Rattle.vbr_handles.proofs.WalkNames.{vacant_ty, Vacant-made, el_out}
use types.Run.{look}
use Rattle.std_alloc.proofs.Pairs.{pair_val, pair_Typed, pair_of}
use Rattle.std_alloc.proofs.RawLayout.{as_raw}
use Rattle.std_alloc.proofs.BoxSteps.Form.{args, R}
use Rattle.std_alloc.proofs.VecSteps.Shapes.{after}
use Rattle.vbr_handles.proofs.AsBox.{BlockOf as V, PartsOf as From}
use Rattle.vbr_handles.proofs.Bounds.{moving, spares}
use Rattle.vbr_handles.specs.contracts.box_parts.Parts.take_value.Key.{name as #self}
use Rattle.vbr_handles.proofs.box_parts.Parts.take_value.Statement as stated
use Rattle.vbr_handles.proofs.box_parts.Parts.take_value.Code as code

module _ (E : Bx) where
  abbrev fn' : Fn
  fn' = inst_fn (args E) code.function

  abbrev ended : Ended
  ended = record {
    signature = moving (plain (λ _. From E) ∷ []) (plain (λ _. Tuple (R E ∷ V E ∷ [])));
    kept = (no, tt);
  }

  abbrev stayed : Stays ended.signature.params ended.kept
  stayed = (stay_dropped (plain (λ _. From E)) no, tt)

  abbrev spec : {M : Type 1} (𝓤 : Ura M) → Clauses 𝓤 ended
  spec 𝓤 κs a = record { ghost = Unit {0}; requires = λ _. emp 𝓤; ensures = λ _ r _. fact 𝓤 (r.0 ≡ a.0.value) }

module _ (E : Bx) {M : Type 1} {𝓤 : Ura M} (𝓛 : Logic 𝓤) (C : Calls 𝓤 𝓛.H) (Λ : Loops 𝓤 𝓛.H) (d : (From E).Denot)
    (vs : List Val) where
  open 𝓛 use {H}

  abbrev Post : Val → SProp 𝓤
  Post = (walk_of 𝓛 (ended E) (stayed E) (spec E 𝓤)).post ((tt, tt, tt, (d, tt), (vs, tt)), tt)

  abbrev a : E.al.row.Denot
  a = d.alloc

  abbrev Had : ℕ → ℕ → Val → SProp 𝓤
  Had b o hv =
      sep 𝓤 (sem 𝓛 (part_at (R E) full_share d.value b o))
      (sep 𝓤 (sem 𝓛 (token E.al a (bare (τ E)) (block_ptr b o))) (sem 𝓛 (handle E a hv)))

  walk : (b o : ℕ) (hv : Val) → Fits E.al hv → ent 𝓤 (Had b o hv) (WpFn 𝓤 H C Λ (fn' E) (word E hv b o ∷ []) Post)
  walk b o hv fa =
      let x = d.value in let room : (V E).Denot = record { ptr = block_ptr b o; alloc = a } in
      qed 𝓛 (‵ (part_at (R E) full_share x b o) ∷ ‵ (token E.al a (bare (τ E)) (block_ptr b o)) ∷ ‵ (handle E a hv)
      ∷ []) ∵
      use1 𝓛 (some (λ (v : Val). given (Good E v) (‵ (fat full_share (τ E) b o v) ⊛ ‵ (own E x (v ∷ [])))))
      (el_out E 𝓛 x b o) $ pick ! (λ v. learn ! (λ t. split ! $
      enter ! C Λ (fn' E) (word E hv b o ∷ []) _ $ alloc_all ! (λ l. pass_all ! refl (box_typed E hv b o fa, tt) $
      let En : Env 𝓤 H = env (fn' E).locals l in let u : Val = vacant_val hv b o in
      sets ! (of_opd ! (get_in ! (fld ! refl (stop !)) (sub ! 0 refl (whole !)))) refl (tt, tt) $ sets !
      (of_opd ! (get_in ! (fld ! refl (stop !)) (sub ! 1 refl (whole !)))) refl fa $
      first ! $ blocks ! $ sets_last ! (of_opd ! (load ! (through ! refl (stop !)) (look ! 0 refl))) refl t $
      exec ! C Λ En (after 3 (fn' E).body) (at_ret En Post) $
      sets ! (of_opd ! (get ! refl)) refl t $ sets ! (of_opd ! (get ! refl)) refl t $ sets ! (of_opd ! (get ! refl))
      refl fa $
      sets ! (agg ! (and_then ! (get ! refl) (and_then ! (get ! refl) (no_more !)))) refl
      (vacant_typed E.al (R E) hv b o fa) $
      sets ! (agg ! (and_then ! (get ! refl) (and_then ! (get ! refl) (no_more !)))) refl
      (pair_Typed (τ E) (vacant_ty E.al (R E)) v u t (vacant_typed E.al (R E) hv b o fa)) $
      returns ! (look_at ! 0 refl) $ free_all ! refl $
      use1 𝓛 (‵ (froom (τ E) b o)) (𝓛.laws.at_room (τ E) b o v) $ as_raw ! (τ E) b o $ move ! (0 ∷ 2 ∷ 3 ∷ []) $
      Vacant-made E.al (R E) ! a b o $ move ! (1 ∷ []) $
      use2 𝓛 (‵ ((Tuple (R E ∷ V E ∷ [])).own_val (x, room) (pair_val v u ∷ []))) (pair_of 𝓛 (R E) (V E) x room v u) $
      suffices ! _
      (ends_at 𝓛 (ended E) (stayed E) (spec E 𝓤) ((tt, tt, tt, (d, tt), (vs, tt)), tt) (pair_val v u) (x, room)
      ((tt, (tt, tt)), tt) (tt, tt)) $ says ! refl $
      nothing ! $ nothing ! $ fjoin ! $ join ! $ nothing ! $ join ! $ done !)))

  entry : ent 𝓤 (on_entry 𝓛 (ended E).signature tt tt (d, tt) (vs, tt)) (WpFn 𝓤 H C Λ (fn' E) (vs ++ []) Post)
  entry =
      qed 𝓛 ((‵ ftrue ⊛ ‵ (owns (From E ∷ []) (d, tt) (vs, tt))) ∷ []) ∵ split ! $ drop ! $ fsplit ! $ box_out E !
      (record { ptr = d.ptr; alloc = d.alloc; value = d.value }) vs (λ b o hv e is fa.
      keep ! (0 ∷ 1 ∷ 2 ∷ []) $ by !
      (subst (λ (ws : List Val). ent 𝓤 (Had b o hv) (WpFn 𝓤 H C Λ (fn' E) (ws ++ []) Post)) (sym is) (walk b o hv fa)))

pub take_value_spec : {M : Type 1} → stated.statement M
take_value_spec 𝓤 𝓛 𝓜 𝓡 wired Y Z L LZ g d dd met md y =
    let E : Bx = record { row = Y; laws = L; al = record { row = Z; laws = LZ; g = g; d = d; drops = dd } } in
    spares 𝓛 𝓜 𝓡 (ended E) (stayed E) (spec E 𝓤) (Goes-blank 𝓛 0 (plain (λ _. From E)) no (λ κs x f. tt), tt) 2
    (Y.lives, (Z.lives, tt)) (#self (args E)) (fn' E) (code.unfolded 𝓤 𝓛.H 𝓜 𝓡 wired (Y, (Z, tt)) d dd)
    (λ C Λ z. via 𝓤 _ (fst∗ 𝓤 _ (emp 𝓤)) (entry E 𝓛 C Λ z.0.3.0 z.0.4.0)) ((y.0.0, y.0.1, tt, y.0.3, y.0.4), y.1)
