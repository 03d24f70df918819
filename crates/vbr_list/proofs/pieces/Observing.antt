-- Loads alone, one after another.
use Rattle.vbr_list.proofs.Names.{ℕ, adds_on, adds_refl, AddsNone, loads_on, loads_refl, Observes, OnlyLoads}
use Rattle.vbr_list.proofs.Names.{PassView, ReadsIn, Trace}

pub observes_refl : (p : Trace) → Observes p p
observes_refl p = record { only_loads = loads_refl p; adds_none = adds_refl p }

pub observes_on : {p q r : Trace} → Observes p q → Observes q r → Observes p r
observes_on a b =
    record { only_loads = loads_on a.only_loads b.only_loads; adds_none = adds_on a.adds_none b.adds_none }

-- what one call tells
pub observed : {p q : Trace} → OnlyLoads p q → AddsNone p q → Observes p q
observed loads none = record { only_loads = loads; adds_none = none }

-- and one that reads
pub reads_observe : {p q : PassView} {n : ℕ} → ReadsIn p q n → Observes p.trace q.trace
reads_observe x = observed x.only_loads x.adds_none
