-- The end of a table: its passes joined, and its words.
use Rattle.std.proofs.Common.{Bool, ◌≡◌, ℕ, zero, suc, ◌+◌, List, [], ◌∷◌, ◌++◌, length, take, refl, sym, ap, ◌∙◌}
use Rattle.std.proofs.Common.{subst, append-nil, arith}
use mathlib.Core.Option.{some, some-ne-none, some-injective}
use lib.ListN.{get_elem?}
use Rattle.atomic_table.specs.Table.{Final, Seen}
use Rattle.vbr_machine.specs.Start.{IsStart}
use Rattle.vbr_machine.specs.Runs.{IsRun, world_after}
use Rattle.vbr_machine.specs.declared.event.Event.{Event}
use Rattle.vbr_machine.proofs.Lemmas.{every_run}
use Rattle.vbr_slots.specs.runs.TableStart.{TableStart}
use Rattle.vbr_slots.specs.declared.slots.Slots.TheInside.{Inside as SlotsInside}
use Rattle.vbr_slots.specs.runs.Rule.{Kept, witness, EachBegins, opened_of}
use Rattle.vbr_slots.specs.views.Views.{PassView, TableView, IsOf}
use Rattle.vbr_slots.specs.runs.Closing.{AllOf, EachSeen, Ends}
pub use Rattle.vbr_slots.specs.runs.Snapshots.{witnesses_of}
use Rattle.vbr_slots.specs.views.SlotsView.{table_of, IsBuilt}
use Rattle.vbr_slots.specs.words.Words.{AreWordsOf}
use Rattle.vbr_slots.specs.steps.Stepping.{opening_of}
use Rattle.vbr_slots.proofs.steps.Steps.{Sat}

pub take_at : (l : List ℕ) (i x : ℕ) → get_elem? l i ≡ some x → take (i + 1) l ≡ take i l ++ x ∷ []
take_at l i x at_index = ap (λ (n : ℕ). take n l) (let e : i + 1 ≡ suc i = omega arith in e) ∙ go l i at_index
  where
    go : (l : List ℕ) (i : ℕ) → get_elem? l i ≡ some x → take (suc i) l ≡ take i l ++ x ∷ []
    go [] i at_index = absurd (some-ne-none x (sym at_index))
    go (y ∷ ys) zero at_index = ap (λ (z : ℕ). z ∷ []) (some-injective y x at_index)
    go (y ∷ ys) (suc i) at_index = ap (λ zs. y ∷ zs) (go ys i at_index)

pub one_of : (t : TableView) (ys : List PassView) (p : PassView) (zs : List PassView) → AllOf t (ys ++ (p ∷ zs)) →
    IsOf p.trace t
one_of t [] p zs all = all.0
one_of t (y ∷ ys) p zs all = one_of t ys p zs all.1

pub witnesses_of-snoc : (ys : List PassView) (p : PassView) →
    witnesses_of (ys ++ p ∷ []) ≡ witnesses_of ys ++ witness (opened_of p.trace.start) p.trace.who p.trace.seen ∷ []
witnesses_of-snoc [] p = refl
witnesses_of-snoc (y ∷ ys) p =
    ap (λ ms. witness (opened_of y.trace.start) y.trace.who y.trace.seen ∷ ms) (witnesses_of-snoc ys p)

pub each_seen : (run : List Event) (ps : List PassView) → EachBegins run (witnesses_of ps) → EachSeen run ps
each_seen run [] b = tt
each_seen run (p ∷ ps) b = (b.0, each_seen run ps b.1)

pub none_left : (xs ys : List PassView) (zs : List PassView) → length ys ≡ 0 → xs ++ ys ≡ zs → xs ≡ zs
none_left xs [] zs none is = sym (append-nil xs) ∙ is
none_left xs (y ∷ ys) zs none is = absurd (omega arith)

pub ends : {N : Type 0} {values : Bool} (t : SlotsInside N) (table : TableView) → IsBuilt values t →
    table_of t ≡ table → (id : ℕ) (me : Sat) (ps : List PassView) → me ≡ (witnesses_of ps, []) →
    (words : List ℕ) (xs : List (Unit {0}))
    → Final (Seen (Kept t.table.shared.key) id me.0) words xs → Ends table ps words
ends t table built t_is id me ps is words xs last =
    let key : t.table.shared.key ≡ opening_of table = built.key ∙ ap opening_of t_is in
    let start : IsStart table.start = subst (λ (q : TableView). IsStart q.start) t_is built.start in
    let kept = last.1.0 in
    let is_run : IsRun table.start table.passes kept.run =
    subst (λ (o : TableStart). IsRun o.start o.passes kept.run) key kept.is_run in
    record {
      run = kept.run;
      is_run = is_run;
      safe = every_run table.start table.passes kept.run start is_run;
      are = subst (λ (x : TableStart × List ℕ). AreWordsOf x.0.start (world_after x.0.start kept.run) x.1)
          (λ i. (key i, last.2 i)) kept.words;
      begins = each_seen kept.run ps (subst (λ (m : Sat). EachBegins kept.run m.0) is (kept.begins id me.0 last.1.1));
    }
