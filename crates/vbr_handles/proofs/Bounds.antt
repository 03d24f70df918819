-- A walk by hand through a function with type parameters carries the tokens of their lifetimes and needs none.
-- Assumes `Logic`.
use Rattle.atomic_table.proofs.Names.{ℕ, List, [], Ura, Fn, ent, Model, WpFn, Logic, Running, tables, Clauses, closing}
use Rattle.atomic_table.proofs.Names.{Stays, walk_of}
use Rattle.vbr_handles.proofs.WalkNames.{Callee, Calls, Closed, Loops, Slot, spared, Ended, Triple, run_framed}
use Rattle.vbr_handles.proofs.WalkNames.{Signature, grown, AllGo, proved_at}
use contract.Lifetimes.{Lfts}

-- what a function takes and gives that has no reference in it
abbrev pub moving : List (Slot 0) → Slot 0 → Signature
moving params result = record { lifetimes = 0; outlives = []; params = params; result = result }

module _ {M : Type 1} {𝓤 : Ura M} (𝓛 : Logic 𝓤) (𝓜 : Model 𝓤 𝓛.H) (𝓡 : Running 𝓤 𝓛.H 𝓜) (T : Ended)
    (hs : Stays T.signature.params T.kept) (c : Clauses 𝓤 T) where
  pub spares : AllGo 𝓛 T.signature.lifetimes T.signature.params T.kept hs →
      (m : ℕ) (ℓs : Lfts m) (k : Callee) (fn : Fn) →
      Closed 𝓤 𝓛.H (tables 𝓤 𝓛.H 𝓜 𝓡 𝓡.env).C (tables 𝓤 𝓛.H 𝓜 𝓡 𝓡.env).Λ k fn
      → ((C : Calls 𝓤 𝓛.H) (Λ : Loops 𝓤 𝓛.H) (z : (walk_of 𝓛 T hs c).Ghost) →
      ent 𝓤 ((walk_of 𝓛 T hs c).pre z)
      (WpFn 𝓤 𝓛.H C Λ fn ((walk_of 𝓛 T hs c).args z) ((walk_of 𝓛 T hs c).post z)))
      → Triple 𝓤 (𝓡.run (𝓡.env k)) (grown 𝓛 T.signature m ℓs (closing 𝓛 T c))
  spares go m ℓs k fn closed walk =
      let 𝓣 = tables 𝓤 𝓛.H 𝓜 𝓡 𝓡.env in
      spared 𝓛 T.signature (𝓡.run (𝓡.env k)) (run_framed 𝓤 𝓛.H 𝓜 𝓡 (𝓡.env k)) m ℓs (closing 𝓛 T c)
      (proved_at 𝓛 T hs c 𝓜 𝓡 go k fn closed (λ z are. walk 𝓣.C 𝓣.Λ z))
