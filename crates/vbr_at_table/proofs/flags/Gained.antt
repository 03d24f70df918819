-- The slots that other passes took out of the shared pool, from piece to piece of a call.
use Rattle.std.proofs.Common.{◌≡◌, ℕ, ◌+◌, ◌≤◌, List, [], ◌∷◌, ◌++◌, sym, ap, ◌∙◌, append_assoc, append-nil, arith}
use Rattle.vbr_machine.specs.Start.{Start}
use Rattle.vbr_machine.specs.Gains.{gains}
use Rattle.vbr_machine.specs.Runs.{Begins}
use Rattle.vbr_machine.specs.declared.event.Event.{Event}
use Rattle.vbr_machine.proofs.Lemmas.{gains_grow, own_gains_uncounted}
use Rattle.vbr_slots.specs.steps.Alone.{IsAlone, OnlyEventsOf}
use Rattle.vbr_slots.specs.steps.Calls.{IsSame}
use Rattle.vbr_slots.specs.views.Views.{Trace}
use Rattle.vbr_at_table.specs.costs.Budgets.{probes_lost}
use Rattle.vbr_at_table.specs.costs.Gained.{gained, gained_by_now}

-- those of a later moment, from the trace of an earlier one
pub gained_same : {p q : Trace} → IsSame p q → gained_by_now q ≡ gains p.start q.seen p.who
gained_same {p} {q} s = (λ i. gains (s.start i) q.seen (s.who i))

-- there are no fewer later
pub gained_on : (p q r : Trace) → Begins q.seen r.seen → gained p q ≤ gained p r
gained_on p q r b = let more = gains_grow p.start q.seen r.seen p.who b in omega (arith, more)

-- and none fewer than since a later beginning
pub gained_since : (p q r : Trace) → IsSame p q → Begins p.seen q.seen → gained q r ≤ gained p r
gained_since p q r s a =
    let start = gained_same {p = p} {q = q} s in
    let end : gains q.start r.seen q.who ≡ gains p.start r.seen p.who = (λ i. gains (s.start i) r.seen (s.who i)) in
    let more = gains_grow p.start p.seen q.seen p.who a in
    omega (arith, start, end, more)

-- those of two parts are those of both
pub gained_sum : (p q r : Trace) → IsSame p q → Begins p.seen q.seen → Begins q.seen r.seen →
    gained p q + gained q r ≡ gained p r
gained_sum p q r s a b =
    let there = gained_same {p = p} {q = q} s in
    let end : gains q.start r.seen q.who ≡ gains p.start r.seen p.who = (λ i. gains (s.start i) r.seen (s.who i)) in
    let first = gains_grow p.start p.seen q.seen p.who a in
    let more = gains_grow p.start q.seen r.seen p.who b in
    omega (arith, there, end, first, more)

-- a pass that was alone lost none
own_gains : (start : Start) (who : ℕ) (seen own : List Event) → OnlyEventsOf who own →
    gains start (seen ++ own) who ≡ gains start seen who
own_gains start who seen [] each = ap (λ l. gains start l who) (append-nil seen)
own_gains start who seen (event ∷ own) each =
    let one : gains start (seen ++ event ∷ []) who ≡ gains start seen who =
    sym (ap (λ w. gains start (seen ++ event ∷ []) w) each.0) ∙ own_gains_uncounted start seen event
    ∙ ap (λ w. gains start seen w) each.0 in
    ap (λ l. gains start l who) (sym (append_assoc seen (event ∷ []) own))
    ∙ own_gains start who (seen ++ event ∷ []) own each.1 ∙ one

pub alone_gained : (p q : Trace) → IsAlone p q → gained p q ≡ 0
alone_gained p q alone =
    let same : gains p.start q.seen p.who ≡ gained_by_now p =
    ap (λ l. gains p.start l p.who) alone.seen ∙ own_gains p.start p.who p.seen alone.own alone.each in
    omega (arith, same)

pub none_lost : (pool : List ℕ) (n : ℕ) → n ≡ 0 → probes_lost pool n ≡ 0
none_lost [] n none = none
none_lost (slot ∷ pool) n none = omega arith

-- with more gains no fewer are lost
pub more_lost : (pool : List ℕ) (m n : ℕ) → m ≤ n → probes_lost pool m ≤ probes_lost pool n
more_lost [] m n le = le
more_lost (slot ∷ pool) m n le = omega arith
