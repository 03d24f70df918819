-- The report of what the words of a table tell is that of the run that it ended with.
use Rattle.std.proofs.Common.{◌≡◌, ℕ, List, [], ◌∷◌, sym, ap, ◌∙◌, subst}
use Rattle.vbr_words.specs.Dimensions.{Dimensions}
use Rattle.vbr_machine.specs.Start.{Start, IsStart}
use Rattle.vbr_machine.specs.Calls.{own_calls}
use Rattle.vbr_machine.specs.Incarnations.{Incarnations}
use Rattle.vbr_machine.specs.declared.event.Event.{Event}
use Rattle.vbr_slots.specs.runs.Closing.{AllOf, EachSeen, Ends}
use Rattle.vbr_slots.specs.views.Views.{PassView, TableView}
use Rattle.vbr_set.specs.reports.Closing.{ClosesBy, EachMade, ReportsLegally}
use Rattle.vbr_set.specs.reports.Contents.{Holds, TellsEnd}
use Rattle.vbr_set.specs.reports.EntrySlots.{ClosesWithSlots, HaveEntries, ListsSlots, TellsEndWithSlots}
use Rattle.vbr_set.specs.reports.Kinds.{KindOf}
use Rattle.vbr_slots.specs.declared.rule.Opened.{Opened}
use Rattle.vbr_slots.specs.runs.Rule.{opened_of, with_opened}
use Rattle.vbr_set.specs.reports.Walking.{AreAfter}
use Rattle.vbr_set.specs.declared.contents.Contents.{Contents}
use Rattle.vbr_set.specs.declared.report_with_slots.ReportWithSlots.{ReportWithSlots}
use Rattle.vbr_set.proofs.histories.Histories.{calls_made}

-- of each pass the calls of the run are those that it has made
pub each_made : (t : TableView) (run : List Event) (passes : List PassView) → AllOf t passes → EachSeen run passes →
    EachMade t.start run passes
each_made t run [] all seen = tt
each_made t run (p ∷ ps) all seen = (
  calls_made t.start p.trace.who p.trace.seen run seen.0
      ∙ ap (λ (s : Start). own_calls s p.trace.seen p.trace.who) (sym all.0.1),
  each_made t run ps all.1 seen.1,
)

-- so a report that tells its run tells its end
pub closes : {Item R : Type 0} (kind : KindOf Item R) (shown : Incarnations → ℕ → Item) (table : TableView)
    (passes : List PassView) (told : Contents Item) (report : R) → AllOf table passes →
    (e : TellsEnd shown table passes told) → ReportsLegally kind table.start e.ends.run report →
    ClosesBy kind table passes report
closes kind shown table passes told report all e reports = record {
  run = e.ends.run;
  is_run = e.ends.is_run;
  begins = e.ends.begins;
  made = each_made table e.ends.run passes all e.ends.begins;
  legal = reports.legal;
  safe = e.ends.safe;
  reports = reports.reports;
}

-- so do the slots, where they have the entries of the run
pub closes_with_slots : {Item R : Type 0} (kind : KindOf Item R) (shown : Incarnations → ℕ → Item) (table : TableView)
    (passes : List PassView) (told : Contents Item) (report : ReportWithSlots R) → AllOf table passes →
    (e : TellsEnd shown table passes told) → ReportsLegally kind table.start e.ends.run report.report →
    HaveEntries table.start e.ends.run report.slots.items (kind.keys (kind.contents report.report).listed.items) →
    ClosesWithSlots kind table passes report
unfolding closes
closes_with_slots kind shown table passes told report all e reports have = record {
  closes = closes kind shown table passes told report.report all e reports;
  slots = have;
}

-- ---- what was found of a table at its end

module _ {view table : TableView} {passes : List PassView} {words found : List ℕ} {bare : Dimensions}
    (view_is : view ≡ table) (start : IsStart view.start) (shape : bare ≡ view.start.shape)
    (ended : Ends view passes words) (same : found ≡ words) where
  abbrev ends : Ends table passes words
  ends = subst (λ (v : TableView). Ends v passes words) view_is ended

  -- the words that it ended with are those after its run
  after_end : AreAfter table.start words ends.run
  after_end = record {
    passes = table.passes;
    is_start = subst (λ (v : TableView). IsStart v.start) view_is start;
    is_run = ends.is_run;
    are = ends.are;
  }

  -- the shape that was found, with the keys and values that it opened with, is its start
  start_is : with_opened bare (opened_of table.start) ≡ table.start
  start_is i = with_opened ((shape ∙ ap (λ (v : TableView). v.start.shape) view_is) i) (opened_of table.start)

  -- so there is a run that the words are after
  pub some_run : (opened : Opened) × (run : List Event) × AreAfter (with_opened bare opened) found run
  some_run = (
    opened_of table.start,
    ends.run,
    subst (λ (x : Start × List ℕ). AreAfter x.0 x.1 ends.run) (λ i. (sym start_is i, sym same i)) after_end,
  )

  -- and what holds of each such run holds of its end
  pub at_end : (Q : Start → List Event → Type 0) →
      ((opened : Opened) (run : List Event) → AreAfter (with_opened bare opened) found run →
      Q (with_opened bare opened) run)
      → Q table.start ends.run
  at_end Q tells =
      subst (λ (x : Start × List ℕ). (run : List Event) → AreAfter x.0 x.1 run → Q x.0 run)
      (λ i. (start_is i, same i)) (tells (opened_of table.start)) ends.run after_end

  -- so what they tell of each such run is told of its end
  pub tells_end : {T : Type 0} {shown : Incarnations → ℕ → T} {told : Contents T} →
      ((opened : Opened) (run : List Event) → AreAfter (with_opened bare opened) found run →
      Holds shown (with_opened bare opened) run told)
      → TellsEnd shown table passes told
  tells_end {T} {shown} {told} tells = record {
    words = words;
    ends = ends;
    after = after_end;
    holds = at_end (λ start run. Holds shown start run told) tells;
  }

  pub tells_slots : {T : Type 0} {shown : Incarnations → ℕ → T} {told : Contents T} {slots : List ℕ} →
      ((opened : Opened) (run : List Event) → AreAfter (with_opened bare opened) found run →
      Holds shown (with_opened bare opened) run told × ListsSlots (with_opened bare opened) run slots)
      → TellsEndWithSlots shown table passes told slots
  unfolding tells_end
  tells_slots {T} {shown} {told} {slots} tells = record {
    end = tells_end (λ opened run x. (tells opened run x).0);
    lists = at_end (λ start run. ListsSlots start run slots) (λ opened run x. (tells opened run x).1);
  }
