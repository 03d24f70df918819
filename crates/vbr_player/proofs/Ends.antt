-- How what a script is played on ends, in the words of scripts.
use Rattle.std.proofs.Common.{◌≡◌, ℕ, List, refl, sym, ◌∙◌}
use Rattle.vbr_words.specs.Dimensions.{Dimensions}
use Rattle.vbr_machine.specs.Start.{Start, start_with}
use Rattle.vbr_machine.specs.Maps.{entries_in, keys_listed, map_start, opening_entries, values_listed}
use Rattle.vbr_slots.specs.views.Views.{PassView, TableView}
use Rattle.vbr_set.specs.reports.Closing.{ClosesBy}
use Rattle.vbr_set.specs.histories.Histories.{calls_of}
use Rattle.vbr_set.specs.reports.Kinds.{KindOf}
use Rattle.vbr_set.specs.renewals.Renewing.{RenewsBy}
use Rattle.vbr_script.specs.Grammar.{is_map}
use Rattle.vbr_script.specs.declared.script.Kind.{Kind}
use Rattle.vbr_script.specs.declared.script.Kind.TheVariants.{Set, Map}
use Rattle.vbr_transcript.specs.Contents.{AreContents, Contents, Item, opened_with, opening_contents}
use Rattle.vbr_player.specs.Closing.{ClosesListing, RenewsAs}
use Rattle.vbr_player.specs.EndLaws.{IsPlayedAs}
use Rattle.vbr_player.specs.Playing.{start_for}

-- ---- what it opens with

-- nodes have values in a map alone, where it opens and where another follows it
pub start_values : (kind : Kind) (shape : Dimensions) → (start_for kind shape).shape.values ≡ is_map kind
start_values Set shape = refl
start_values Map shape = refl

pub opened_values : (kind : Kind) (start : Start) (listed : List (Item kind)) →
    (opened_with kind start listed).shape.values ≡ start.shape.values
opened_values Set start listed = refl
opened_values Map start listed = refl

-- what opens with entries has each key with its value
abbrev pub OpensAsListed : Type 0
OpensAsListed = (shape : Dimensions) (entries : List (ℕ × ℕ)) (key : ℕ) →
    opening_entries (map_start shape entries) key ≡ entries_in entries key

-- what opens with a list of what was left has that
opens_listed : (kind : Kind) (start : Start) (listed : List (Item kind)) (left : Contents kind) → OpensAsListed →
    start.shape.values ≡ is_map kind → AreContents kind listed left →
    opening_contents kind (opened_with kind start listed) ≡ left
opens_listed Set start listed left opens_as values are = λ i key. are.same key i
opens_listed Map start listed left opens_as values are =
    let valued : opening_contents Map (opened_with Map start listed) ≡ opening_entries (map_start start.shape listed) =
    λ i. opening_entries
    (start_with (record start.shape { values = values i }) (keys_listed listed) (values_listed listed)) in
    let each : (key : ℕ) → opening_contents Map (opened_with Map start listed) key ≡ left key =
    λ key. (λ i. valued i key) ∙ opens_as start.shape listed key ∙ are.1 key in
    λ i key. each key i

-- ---- how it ends

module _ {I R : Type 0} {kind : KindOf I R} {script : Kind} {listed : R → List (Item script)} {epoch : R → ℕ}
    (plays : IsPlayedAs kind script listed epoch) (set : TableView) (passes : List PassView) where
  -- it is closed
  pub closes_as : (report : R) → ClosesBy kind set passes report →
      ClosesListing script set passes (listed report) (epoch report)
  closes_as report closes =
      let calls = calls_of set.start closes.run in
      record {
        run = closes.run;
        is_run = closes.is_run;
        begins = closes.begins;
        safe = closes.safe;
        legal = plays.legal set.start calls closes.legal;
        contents = plays.lists set.start calls report closes.reports.listed;
        last = sym (plays.last report) ∙ closes.reports.epoch;
      }

  -- it is renewed
  pub renews_as : (next : TableView) → OpensAsListed → set.start.shape.values ≡ is_map script →
      RenewsBy kind set passes next → RenewsAs script set passes next
  renews_as next opens_as values renews =
      let items = listed renews.report in
      let closes = closes_as renews.report renews.closes in
      record {
        listed = items;
        epoch = epoch renews.report;
        closes = closes;
        start = renews.start ∙ plays.opens set.start renews.report;
        opens = opens_listed script set.start items _ opens_as values closes.contents;
        count = renews.count;
      }
