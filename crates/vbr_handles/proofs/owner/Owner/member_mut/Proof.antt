-- `member_mut` lends the member, and the owner follows it.
use Rattle.atomic_table.proofs.Names.{◌≡◌, refl, sym, subst, ℕ, List, [], ◌∷◌, Ura, full_share, Fn, named, inst_fn, Val}
use Rattle.atomic_table.proofs.Names.{vptr, SProp, ent, sep, id⊢, Lft, Share, Fml, ftrue, flft, fsep, Logic, sem, ‵}
use Rattle.atomic_table.proofs.Names.{◌⊛◌, some, at_ret, ◌$◌, ◌∵◌, !, qed, move, keep, use1, split, join, pick, fsplit}
use Rattle.atomic_table.proofs.Names.{fsplit3, fjoin, suffices, done, raw, later, await, group, fpack, rewrite, whole}
use Rattle.atomic_table.proofs.Names.{sub, look_in, stop, fld, of_opd, first, blocks, exec, returns, enter, addr}
use Rattle.atomic_table.proofs.Names.{alloc_all, pass_all, free_all, look_at, get, through, sets, env, sets_last, fact}
use Rattle.atomic_table.proofs.Names.{tables, RefMutOf, no, part_at, mem, cell_at, owns, block_ptr, Ptr, mut_vals}
use Rattle.atomic_table.proofs.Names.{mut_Tells, plain, types_at, nothing, heard, opens, follows, Clauses, closing}
use Rattle.atomic_table.proofs.Names.{Stays, stay_dropped, walk_of, ends_at, Goes-spent_ref}
use Rattle.vbr_handles.proofs.WalkNames.{false≢true, GName, frame, MutRef, mut_ref_to, Part, lends_Part, spared, Ended}
use Rattle.vbr_handles.proofs.WalkNames.{run_framed, says, token, after, El, R, args, el_x, IsSome, Some, D, B, word}
use Rattle.vbr_handles.proofs.WalkNames.{handle, τ, box_in, proved, bare}
use denote.Memory.{part_of}
use types.Run.{hop}
use Rattle.vbr_handles.specs.Lent.{with_member}
use Rattle.vbr_handles.proofs.AsBox.{E, OwnerRow, FromOwner}
use Rattle.vbr_handles.proofs.Owning.{owner_out}
use Rattle.vbr_handles.specs.contracts.owner.Owner.member_mut.Key.{name as #self}
use Rattle.vbr_handles.proofs.owner.Owner.member_mut.Statement.{statement}
use Rattle.vbr_handles.proofs.owner.Owner.member_mut.Code as code

module _ (F : El) where
  abbrev ended : Ended
  ended = record {
    signature =
        record {
          lifetimes = 1;
          outlives = [];
          params = RefMutOf (0 ∷ []) tt (FromOwner F) (λ _. tt) ∷ [];
          result = RefMutOf (0 ∷ []) tt (plain (λ _. R F)) (λ _. tt);
        };
    kept = (no, tt);
  }

  abbrev stayed : Stays ended.signature.params ended.kept
  stayed = (stay_dropped (mut_ref_to (0 ∷ []) tt (FromOwner F)) no, tt)

  abbrev spec : {M : Type 1} {𝓤 : Ura M} (𝓛 : Logic 𝓤) → Clauses 𝓤 ended
  spec {𝓤 = 𝓤} 𝓛 κs a = record {
    ghost = Unit {0};
    requires = λ _. fact 𝓤 (IsSome a.0.now.member);
    ensures = λ _ r _.
        sep 𝓤 (sem 𝓛 (follows (OwnerRow F) (R F) a.0.ghost_name r.ghost_name (with_member a.0.now)))
        (fact 𝓤 (a.0.now.member ≡ Some r.now));
  }

module _ (F : El) {M' : Type 1} {𝓤 : Ura M'} (𝓛 : Logic 𝓤) (rb ro : ℕ) (h : (OwnerRow F).Denot) (b o : ℕ)
    (hv : Val) where
  -- all of the owner but its member
  abbrev Rest : Fml
  Rest = fsep (fsep (token (E F).al h.alloc (bare (τ (E F))) (block_ptr b o)) (handle (E F) h.alloc hv))
      (cell_at full_share (OwnerRow F).mir (word (E F) hv b o ∷ []) rb ro)

  back : h.ptr ≡ block_ptr b o → (w : el_x F) →
      ent 𝓤 (sep 𝓤 (sem 𝓛 ((mem (R F)).own_at w b o)) (sem 𝓛 Rest))
      (sem 𝓛 ((mem (OwnerRow F)).own_at (with_member h w) rb ro))
  unfolding part_of
  back at_b w =
      let v : D (E F) = record { ptr = block_ptr b o; alloc = h.alloc; value = w } in let vs = word (E F) hv b o ∷ [] in
      qed 𝓛 (‵ (part_at (R F) full_share w b o) ∷ ‵ Rest ∷ []) ∵ move ! (1 ∷ []) $ fsplit ! $ fsplit ! $ move ! (3 ∷ [])
      $
      box_in (E F) ! v b o w refl refl $
      use1 𝓛 (‵ ((OwnerRow F).own_val (with_member h w) vs))
      (subst (λ (p : Ptr).
      ent 𝓤 (sem 𝓛 ((B (E F)).own_val v vs))
      (sem 𝓛 ((OwnerRow F).own_val (record { ptr = p; alloc = h.alloc; member = Some w }) vs))) (sym at_b) (id⊢ 𝓤 _)) $
      move ! (1 ∷ 0 ∷ []) $ fjoin ! $
      fpack ! (List Val)
      (λ us. fsep (cell_at full_share (OwnerRow F).mir us rb ro) ((OwnerRow F).own_val (with_member h w) us)) vs $ done
      !

pub member_mut_spec : {M' : Type 1} → statement M'
member_mut_spec 𝓤 𝓛 𝓜 𝓡 wired X L z =
    let F : El = record { row = X; laws = L } in
    let H = 𝓛.H in
    let 𝓣 = tables 𝓤 H 𝓜 𝓡 𝓡.env in
    let fn : Fn = inst_fn (args F) code.function in
    let k = #self (args F) in
    let Row = OwnerRow F in let hs = stayed F in let c = spec F 𝓛 in
    spared 𝓛 (ended F).signature (𝓡.run (𝓡.env k)) (run_framed 𝓤 H 𝓜 𝓡 (𝓡.env k)) 1 (X.lives, tt)
    (closing 𝓛 (ended F) c)
    (proved 𝓛 (ended F) hs c 𝓜 𝓡 (Goes-spent_ref 𝓛 1 (0 ∷ []) tt (FromOwner F), tt) k fn
    (code.unfolded 𝓤 H 𝓜 𝓡 wired (X, tt))
    (λ κs. (mut_vals, tt)) (λ κs. (mut_Tells (named 0) κs.0 Row, tt)) (λ κs qs bounds a gh are.
    let rb : ℕ = a.0.ref_ptr.0 in
    let ro : ℕ = a.0.ref_ptr.1 in
    let κ : Lft = κs.0 in
    let q : Share = qs.0 in
    let γ : GName = a.0.ghost_name in
    let h : Row.Denot = a.0.now in
    let y : (walk_of 𝓛 (ended F) hs c).Ghost = ((κs, qs, bounds, a, (vptr rb ro ∷ [], tt)), gh) in
    let Post : Val → SProp 𝓤 = (walk_of 𝓛 (ended F) hs c).post y in
    qed 𝓛 (((‵ (flft κ q) ⊛ ‵ ftrue) ⊛ ‵ (owns (types_at (ended F).signature.params κs) a y.0.4))
    ∷ raw (fact 𝓤 (IsSome h.member)) ∷ []) ∵
    move ! (1 ∷ []) $ heard ! (IsSome h.member)
    (λ there. split ! $ split ! $ move ! (2 ∷ []) $ fsplit ! $ fsplit3 ! $ keep ! (1 ∷ 2 ∷ 4 ∷ []) $
    enter ! 𝓣.C 𝓣.Λ fn (vptr rb ro ∷ []) Post $ alloc_all !
    (λ l. pass_all ! refl ((tt, tt), tt) $ let Ev = env fn.locals l in
    opens ! tt Row rb ro
    (λ vs. move ! (1 ∷ []) $ owner_out F ! h vs (λ hv em at_n ws fa. absurd (false≢true (subst IsSome em there)))
    (λ b o hv x em at_b ts ws fa. fsplit ! $ move ! (1 ∷ 2 ∷ []) $ fjoin ! $ move ! (1 ∷ []) $
    rewrite ! 2 (λ (us : List Val). ‵ (cell_at full_share Row.mir us rb ro)) ws refl $
    first ! $ blocks ! $
    sets_last ! (addr ! (through ! refl (fld ! refl (hop ! (look_in ! 2 (sub ! 0 refl (whole !))) (stop !))))) refl
    (tt, tt) $
    exec ! 𝓣.C 𝓣.Λ Ev (after 1 fn.body) (at_ret Ev Post) $ sets ! (of_opd ! (get ! refl)) refl (tt, tt) $
    move ! (1 ∷ 2 ∷ []) $ fjoin ! $ move ! (2 ∷ 3 ∷ 4 ∷ 1 ∷ 0 ∷ []) $ group ! 5 $
    let rest = sem 𝓛 (Rest F 𝓛 rb ro h b o hv) in let way = back F 𝓛 rb ro h b o hv at_b in
    use1 𝓛 (later
    (some (λ (γ' : GName). raw (Part 𝓛 Row (R F) (with_member h) (named 0) κ q rb ro b o γ rest way x γ'))))
    (lends_Part 𝓛 Row (R F) (with_member h) (named 0) κ q rb ro b o γ rest way (Row.coded.code h) (Row.coded.code h) x)
    $ await ! tt $ pick ! (λ γ'.
    returns ! (look_at ! 0 refl) $ free_all ! refl $ keep ! (0 ∷ []) $
    use1 𝓛 (‵ ((MutRef (named 0) κ (R F)).own_val (record { ref_ptr = (b, o); ghost_name = γ'; now = x })
    (vptr b o ∷ [])) ⊛ (‵ (flft κ q) ⊛ ‵ (follows Row (R F) γ γ' (with_member h)))) (id⊢ 𝓤 _) $ split ! $ move !
    (1 ∷ []) $ split ! $ move ! (2 ∷ 0 ∷ 1 ∷ []) $
    suffices ! _
    (ends_at 𝓛 (ended F) hs c y (vptr b o) (record { ref_ptr = (b, o); ghost_name = γ'; now = x }) (tt, tt) (tt, tt)) $
    nothing ! $ nothing ! $ fjoin ! $ join ! $ nothing ! $ move ! (2 ∷ 0 ∷ []) $ join ! $ join ! $ frame ! $ says ! em $
    done !)))))))
    ((z.0.0, z.0.1, tt, z.0.3, z.0.4), z.1)
