-- A `&mut` is lent on as one to another type that owns the same in the same memory.
-- Assumes `Logic`.
use Rattle.atomic_table.proofs.Names.{◌≡◌, refl, sym, subst, ℕ, List, [], ◌∷◌, Ura, Fn, named, Val, vptr, full_share}
use Rattle.atomic_table.proofs.Names.{SProp, ent, sep, emp, id⊢, Lft, Share, Fml, ftrue, flft, fsep, Model, Logic, sem}
use Rattle.atomic_table.proofs.Names.{‵, ◌⊛◌, raw, some, at_ret, later, ◌$◌, ◌∵◌, !, qed, by, move, keep, use1, use2}
use Rattle.atomic_table.proofs.Names.{split, join, fsplit, fsplit3, fjoin, suffices, drop, group, await, pick, done}
use Rattle.atomic_table.proofs.Names.{stop, of_opd, first, blocks, exec, returns, enter, addr, alloc_all, pass_all}
use Rattle.atomic_table.proofs.Names.{free_all, look_at, get, through, sets, env, sets_last, fact, Running, tables}
use Rattle.atomic_table.proofs.Names.{RefMutOf, no, follows, mem, part_at, RattleType, owns, mut_vals, mut_Tells, plain}
use Rattle.atomic_table.proofs.Names.{types_at, nothing, Clauses, closing, Meets, Stays, stay_dropped, walk_of, ends_at}
use Rattle.atomic_table.proofs.Names.{Goes-spent_ref}
use Rattle.vbr_handles.proofs.WalkNames.{Callee, seq, assign, place, rv_opd, copy, return, GName, Closed, frame, Part}
use Rattle.vbr_handles.proofs.WalkNames.{lends_Part, lone, MutRef, mut_ref_to, Ended, says, after, proved, Lifetime}
use Rattle.vbr_handles.proofs.WalkNames.{erased, mut, ty_ref, ty_ptr, local, value_local, block, addr_of, deref, ex}
use Rattle.vbr_handles.proofs.WalkNames.{fex, updating, now, show, cell_raw, pointee, raw_all}
use denote.Memory.{part_of}
use types.Mut.{open_ref}
use denote.Builtin.{One}

module _ {M : Type 1} {𝓤 : Ura M} (𝓛 : Logic 𝓤) (ℓ : Lifetime) (κ : Lft) (q : Share) (b o : ℕ) (γ : GName)
    (S T : RattleType) (to : S.Denot → T.Denot) (of : T.Denot → S.Denot)
    (there : (x : S.Denot) → ent 𝓤 (sem 𝓛 ((mem S).own_at x b o)) (sem 𝓛 ((mem T).own_at (to x) b o)))
    (again : (w : T.Denot) → ent 𝓤 (sem 𝓛 ((mem T).own_at w b o)) (sem 𝓛 ((mem S).own_at (of w) b o))) where
  open 𝓛 use {H, A}

  back : (w : T.Denot) → ent 𝓤 (sep 𝓤 (sem 𝓛 ((mem T).own_at w b o)) (sem 𝓛 ftrue)) (sem 𝓛 ((mem S).own_at (of w) b o))
  back w = qed 𝓛 (‵ ((mem T).own_at w b o) ∷ ‵ ftrue ∷ []) ∵ keep ! (0 ∷ []) $ by ! (again w)

  -- the new `&mut`, the token, and what the old one ends as
  abbrev Lent : T.Denot → GName → SProp 𝓤
  Lent = Part 𝓛 S T of ℓ κ q b o b o γ (sem 𝓛 ftrue) back

  lends_as : (x : S.Denot) (vs : List Val)
      → ent 𝓤 (sep 𝓤 (sem 𝓛 ((MutRef ℓ κ S).own_val (record { ref_ptr = (b, o); ghost_name = γ; now = x }) vs))
      (A.lft κ q)) (H.⇛ (ex 𝓤 (Lent (to x))))
  lends_as x vs =
      qed 𝓛 (‵ ((MutRef ℓ κ S).own_val (record { ref_ptr = (b, o); ghost_name = γ; now = x }) vs) ∷ ‵ (flft κ q) ∷ []) ∵
      updating ! $ fsplit3 ! $ drop ! $
      open_ref ! tt (mem S) {b = b} {o = o} $ use1 𝓛 (‵ ((mem T).own_at (to x) b o)) (there x) $ nothing ! $ move !
      (2 ∷ 3 ∷ 4 ∷ 1 ∷ 0 ∷ []) $ group ! 5 $
      use1 𝓛 (later (some (λ (δ : GName). raw (Lent (to x) δ))))
      (lends_Part 𝓛 S T of ℓ κ q b o b o γ (sem 𝓛 ftrue) back (S.coded.code x) (S.coded.code x) (to x)) $ await ! tt $
      pick ! (λ δ.
      now ! $ show ! (Lent (to x)) δ $ done !)

-- ---- the cast of a `&mut`

module _ (S T : RattleType) (one_word : One S.mir) (other_word : One T.mir) (to : S.Denot → T.Denot)
    (of : T.Denot → S.Denot) where
  -- the code of `unsafe { &mut *(self as *mut S as *mut T) }`
  abbrev pub recast : Fn
  recast = record {
    lifetimes = 1;
    outlives = [];
    ty_params = [];
    givens = 0;
    params = 1;
    locals = local (ty_ref (named 0) mut (pointee T.written)) value_local
        ∷ local (ty_ref (named 0) mut (pointee S.written)) value_local
        ∷ local (ty_ref erased mut (pointee T.written)) value_local ∷ local ty_ptr value_local
        ∷ local ty_ptr value_local ∷ [];
    body = seq (block
        (seq (assign (place 3 []) (addr_of (place 1 (deref (lone S.mir) ∷ []))))
        (seq (assign (place 4 []) (rv_opd (copy (place 3 []))))
        (assign (place 2 []) (addr_of (place 4 (deref (lone T.mir) ∷ [])))))))
        (seq (assign (place 0 []) (rv_opd (copy (place 2 [])))) return);
  }

  abbrev pub ended : Ended
  ended = record {
    signature =
        record {
          lifetimes = 1;
          outlives = [];
          params = RefMutOf (0 ∷ []) tt (plain (λ _. S)) (λ _. one_word) ∷ [];
          result = RefMutOf (0 ∷ []) tt (plain (λ _. T)) (λ _. other_word);
        };
    kept = (no, tt);
  }

  abbrev stayed : Stays ended.signature.params ended.kept
  stayed = (stay_dropped (mut_ref_to (0 ∷ []) tt (plain (λ _. S))) no, tt)

  module _ {M : Type 1} {𝓤 : Ura M} (𝓛 : Logic 𝓤) where
    -- the new one has what the old one had, and once it ends the old one has what was written through it
    abbrev pub clauses : Clauses 𝓤 ended
    clauses κs a = record {
      ghost = Unit {0};
      requires = λ _. emp 𝓤;
      ensures = λ _ r _. sep 𝓤 (sem 𝓛 (follows S T a.0.ghost_name r.ghost_name of)) (fact 𝓤 (r.now ≡ to a.0.now));
    }

    module _ (𝓜 : Model 𝓤 𝓛.H) (𝓡 : Running 𝓤 𝓛.H 𝓜) (alike : raw_all S.mir ≡ raw_all T.mir)
        (forth : (x : S.Denot) (vs : List Val) → S.own_val x vs ≡ T.own_val (to x) vs)
        (back : (w : T.Denot) (vs : List Val) → T.own_val w vs ≡ S.own_val (of w) vs) where
      there : (b o : ℕ) (x : S.Denot) → ent 𝓤 (sem 𝓛 ((mem S).own_at x b o)) (sem 𝓛 ((mem T).own_at (to x) b o))
      unfolding part_of
      there b o x =
          subst (λ (f : Fml). ent 𝓤 (sem 𝓛 (part_at S full_share x b o)) (sem 𝓛 f))
          (λ i. fex (List Val) (λ vs. fsep (cell_raw full_share (alike i) vs b o) (forth x vs i))) (id⊢ 𝓤 _)

      again : (b o : ℕ) (w : T.Denot) → ent 𝓤 (sem 𝓛 ((mem T).own_at w b o)) (sem 𝓛 ((mem S).own_at (of w) b o))
      unfolding part_of
      again b o w =
          subst (λ (f : Fml). ent 𝓤 (sem 𝓛 (part_at T full_share w b o)) (sem 𝓛 f))
          (λ i. fex (List Val) (λ vs. fsep (cell_raw full_share (sym alike i) vs b o) (back w vs i))) (id⊢ 𝓤 _)

      pub recasts : (k : Callee) → Closed 𝓤 𝓛.H (tables 𝓤 𝓛.H 𝓜 𝓡 𝓡.env).C (tables 𝓤 𝓛.H 𝓜 𝓡 𝓡.env).Λ k recast →
          Meets 𝓛 ended.signature ((tables 𝓤 𝓛.H 𝓜 𝓡 𝓡.env).C k) (closing 𝓛 ended clauses)
      recasts k closed =
          let 𝓣 = tables 𝓤 𝓛.H 𝓜 𝓡 𝓡.env in
          proved 𝓛 ended stayed clauses 𝓜 𝓡 (Goes-spent_ref 𝓛 1 (0 ∷ []) tt (plain (λ _. S)), tt) k recast closed
          (λ κs. (mut_vals, tt)) (λ κs. (mut_Tells (named 0) κs.0 S, tt)) (λ κs qs bounds a gh are.
          let b : ℕ = a.0.ref_ptr.0 in
          let o : ℕ = a.0.ref_ptr.1 in
          let κ : Lft = κs.0 in
          let q : Share = qs.0 in
          let γ : GName = a.0.ghost_name in
          let x : S.Denot = a.0.now in
          let y : (walk_of 𝓛 ended stayed clauses).Ghost = ((κs, qs, bounds, a, (vptr b o ∷ [], tt)), gh) in
          let Post : Val → SProp 𝓤 = (walk_of 𝓛 ended stayed clauses).post y in
          qed 𝓛 (((‵ (flft κ q) ⊛ ‵ ftrue) ⊛ ‵ (owns (types_at ended.signature.params κs) a y.0.4)) ∷ raw (emp 𝓤) ∷ [])
          ∵
          split ! $ split ! $ move ! (2 ∷ []) $ fsplit ! $ keep ! (0 ∷ 2 ∷ []) $
          enter ! 𝓣.C 𝓣.Λ recast (vptr b o ∷ []) Post $ alloc_all !
          (λ l. pass_all ! refl ((tt, tt), tt) $ let Ev = env recast.locals l in
          first ! $ blocks ! $
          sets ! (addr ! (through ! refl (stop !))) refl (tt, tt) $ sets ! (of_opd ! (get ! refl)) refl (tt, tt) $
          sets_last ! (addr ! (through ! refl (stop !))) refl (tt, tt) $
          exec ! 𝓣.C 𝓣.Λ Ev (after 1 recast.body) (at_ret Ev Post) $ sets ! (of_opd ! (get ! refl)) refl (tt, tt) $
          use2 𝓛 (later
          (some (λ (δ : GName). raw (Lent 𝓛 (named 0) κ q b o γ S T to of (there b o) (again b o) (to x) δ))))
          (lends_as 𝓛 (named 0) κ q b o γ S T to of (there b o) (again b o) x (vptr b o ∷ [])) $ await ! tt $ pick !
          (λ δ.
          returns ! (look_at ! 0 refl) $ free_all ! refl $ keep ! (0 ∷ []) $
          use1 𝓛 (‵ ((MutRef (named 0) κ T).own_val (record { ref_ptr = (b, o); ghost_name = δ; now = to x })
          (vptr b o ∷ [])) ⊛ (‵ (flft κ q) ⊛ ‵ (follows S T γ δ of))) (id⊢ 𝓤 _) $ split ! $ move ! (1 ∷ []) $ split ! $
          move ! (2 ∷ 0 ∷ 1 ∷ []) $
          suffices ! _
          (ends_at 𝓛 ended stayed clauses y (vptr b o) (record { ref_ptr = (b, o); ghost_name = δ; now = to x })
          (tt, tt) (tt, tt)) $
          nothing ! $ nothing ! $ fjoin ! $ join ! $ nothing ! $ move ! (2 ∷ 0 ∷ []) $ join ! $ join ! $ frame ! $ says
          ! refl $ done !)))
