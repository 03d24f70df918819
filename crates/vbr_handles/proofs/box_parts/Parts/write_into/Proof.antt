-- `write_into` writes the value into the room, at any element type: the walk of the kit's `Box`. Assumes `Logic`.
use Rattle.atomic_table.proofs.Names.{◌≡◌, refl, sym, subst, ℕ, List, [], ◌∷◌, ◌++◌, Ura, full_share, Fn, inst_fn, Val}
use Rattle.atomic_table.proofs.Names.{SProp, ent, sep, emp, via, fst∗, id⊢, Env, WpFn, Logic, sem, fact, no, owns}
use Rattle.atomic_table.proofs.Names.{part_at, block_ptr, plain, nothing, Clauses, on_entry, ftrue, ‵, ◌⊛◌, at_ret, ◌$◌}
use Rattle.atomic_table.proofs.Names.{◌∵◌, !, qed, by, move, keep, use1, use2, drop, split, join, fsplit, fjoin}
use Rattle.atomic_table.proofs.Names.{suffices, done, whole, sub, agg, stop, fld, of_opd, and_then, no_more, first}
use Rattle.atomic_table.proofs.Names.{blocks, exec, returns, enter, alloc_all, pass_all, free_all, look_at, get, get_in}
use Rattle.atomic_table.proofs.Names.{through, sets, env, Stays, stay_dropped, walk_of, ends_at, Goes-dropped}
use Rattle.vbr_handles.proofs.WalkNames.{Calls, Loops, Ended, froom, says, token, Fits, Goes-blank, vacant_val}
use Rattle.vbr_handles.proofs.WalkNames.{vacant_typed, Bx, D, τ, own, Good, word, handle, box_typed, box_in, bare}
use Rattle.vbr_handles.proofs.WalkNames.{Vacant-had, X, el_in, el_tells}
use types.Run.{init, assigns_last}
use Rattle.std_alloc.proofs.RawLayout.{as_written}
use Rattle.std_alloc.proofs.BoxSteps.Form.{args, R}
use Rattle.std_alloc.proofs.VecSteps.Shapes.{after}
use Rattle.vbr_handles.proofs.AsBox.{BlockOf as V, PartsOf as To}
use Rattle.vbr_handles.proofs.Bounds.{moving, spares}
use Rattle.vbr_handles.specs.contracts.box_parts.Parts.write_into.Key.{name as #self}
use Rattle.vbr_handles.proofs.box_parts.Parts.write_into.Statement as stated
use Rattle.vbr_handles.proofs.box_parts.Parts.write_into.Code as code

module _ (E : Bx) where
  abbrev fn' : Fn
  fn' = inst_fn (args E) code.function

  abbrev ended : Ended
  ended = record {
    signature = moving (plain (λ _. V E) ∷ plain (λ _. R E) ∷ []) (plain (λ _. To E));
    kept = (no, (no, tt));
  }

  abbrev stayed : Stays ended.signature.params ended.kept
  stayed = (stay_dropped (plain (λ _. V E)) no, (stay_dropped (plain (λ _. R E)) no, tt))

  abbrev spec : {M : Type 1} (𝓤 : Ura M) → Clauses 𝓤 ended
  spec 𝓤 κs a = record { ghost = Unit {0}; requires = λ _. emp 𝓤; ensures = λ _ r _. fact 𝓤 (r.value ≡ a.1.0) }

module _ (E : Bx) {M : Type 1} {𝓤 : Ura M} (𝓛 : Logic 𝓤) (C : Calls 𝓤 𝓛.H) (Λ : Loops 𝓤 𝓛.H) (d : (V E).Denot) (x : X E)
    (us vs : List Val) where
  open 𝓛 use {H}

  abbrev Post : Val → SProp 𝓤
  Post = (walk_of 𝓛 (ended E) (stayed E) (spec E 𝓤)).post ((tt, tt, tt, (d, (x, tt)), (us, (vs, tt))), tt)

  abbrev a : E.al.row.Denot
  a = d.alloc

  abbrev Had : ℕ → ℕ → Val → Val → SProp 𝓤
  Had b o hv v =
      sep 𝓤 (H.room (bare (τ E)) b o)
      (sep 𝓤 (sem 𝓛 (own E x (v ∷ [])))
      (sep 𝓤 (sem 𝓛 (token E.al a (bare (τ E)) (block_ptr b o))) (sem 𝓛 (handle E a hv))))

  walk : (b o : ℕ) (hv v : Val) → Fits E.al hv → Good E v →
      ent 𝓤 (Had b o hv v) (WpFn 𝓤 H C Λ (fn' E) (vacant_val hv b o ∷ v ∷ []) Post)
  walk b o hv v fa t =
      let new : D E = record { ptr = block_ptr b o; alloc = a; value = x } in
      let made : (To E).Denot = record { ptr = block_ptr b o; alloc = a; value = x } in
      qed 𝓛 (‵ (froom (bare (τ E)) b o) ∷ ‵ (own E x (v ∷ [])) ∷ ‵ (token E.al a (bare (τ E)) (block_ptr b o))
      ∷ ‵ (handle E a hv) ∷ []) ∵ as_written ! (τ E) b o $ enter ! C Λ (fn' E) (vacant_val hv b o ∷ v ∷ []) _ $
      alloc_all ! (λ l. pass_all ! refl (vacant_typed E.al (R E) hv b o fa, (t, tt)) $
      let En : Env 𝓤 H = env (fn' E).locals l in
      sets ! (of_opd ! (get_in ! (fld ! refl (stop !)) (sub ! 0 refl (whole !)))) refl (tt, tt) $ sets !
      (of_opd ! (get_in ! (fld ! refl (stop !)) (sub ! 1 refl (whole !)))) refl fa $
      first ! $ blocks ! $ sets ! (of_opd ! (get ! refl)) refl t $ assigns_last ! (of_opd ! (get ! refl))
      (through ! refl (stop !)) (init ! 0 refl t) $
      exec ! C Λ En (after 3 (fn' E).body) (at_ret En Post) $
      sets ! (of_opd ! (get ! refl)) refl fa $ sets !
      (agg ! (and_then ! (get ! refl) (and_then ! (get ! refl) (no_more !)))) refl (box_typed E hv b o fa) $
      returns ! (look_at ! 0 refl) $ free_all ! refl $
      use2 𝓛 (‵ (part_at (R E) full_share x b o)) (el_in E 𝓛 x b o v) $ box_in E ! new b o x refl refl $ use1 𝓛
      (‵ ((To E).own_val made (word E hv b o ∷ []))) (id⊢ 𝓤 _) $
      suffices ! _
      (ends_at 𝓛 (ended E) (stayed E) (spec E 𝓤) ((tt, tt, tt, (d, (x, tt)), (us, (vs, tt))), tt) (word E hv b o) made
      ((tt, (tt, tt)), (tt, tt)) (tt, (tt, tt))) $ says ! refl $
      nothing ! $ nothing ! $ fjoin ! $ nothing ! $ fjoin ! $ join ! $ nothing ! $ join ! $ done !)

  entry : ent 𝓤 (on_entry 𝓛 (ended E).signature tt tt (d, (x, tt)) (us, (vs, tt)))
      (WpFn 𝓤 H C Λ (fn' E) (us ++ (vs ++ [])) Post)
  entry =
      qed 𝓛 ((‵ ftrue ⊛ ‵ (owns (V E ∷ R E ∷ []) (d, (x, tt)) (us, (vs, tt)))) ∷ []) ∵ split ! $ drop ! $ fsplit ! $
      Vacant-had E.al (R E) ! d us (λ b o hv e is fa.
      move ! (3 ∷ []) $ fsplit ! $ el_tells E ! x vs (λ v ev t. keep ! (2 ∷ 0 ∷ 3 ∷ 4 ∷ []) $
      by ! (subst (λ (ws : List Val × List Val).
      ent 𝓤 (Had b o hv v) (WpFn 𝓤 H C Λ (fn' E) (ws.0 ++ (ws.1 ++ [])) Post)) (λ i. (sym is i, sym ev i))
      (walk b o hv v fa t))))

pub write_into_spec : {M : Type 1} → stated.statement M
write_into_spec 𝓤 𝓛 𝓜 𝓡 wired Y Z L LZ g d dd met md y =
    let E : Bx = record { row = Y; laws = L; al = record { row = Z; laws = LZ; g = g; d = d; drops = dd } } in
    spares 𝓛 𝓜 𝓡 (ended E) (stayed E) (spec E 𝓤)
    (Goes-blank 𝓛 0 (plain (λ _. V E)) no (λ κs x f. tt), (Goes-dropped 𝓛 0 (plain (λ _. R E)) no (λ κs x f. refl), tt))
    2 (Y.lives, (Z.lives, tt)) (#self (args E)) (fn' E) (code.unfolded 𝓤 𝓛.H 𝓜 𝓡 wired (Y, (Z, tt)) d dd)
    (λ C Λ z. via 𝓤 _ (fst∗ 𝓤 _ (emp 𝓤)) (entry E 𝓛 C Λ z.0.3.0 z.0.3.1.0 z.0.4.0 z.0.4.1.0))
    ((y.0.0, y.0.1, tt, y.0.3, y.0.4), y.1)
