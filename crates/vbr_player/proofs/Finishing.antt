-- What the end of a set or a map asks of its workers, and what it gives.
use Rattle.std.proofs.Common.{◌≡◌, ℕ, ◌-◌, ◌*◌, ◌<◌, List, [], ◌∷◌, sym, subst}
use Rattle.std.specs.Prelude.{All, length, zip}
use Rattle.std.proofs.lemmas.List.Elements.{All-head, All-tail}
use Rattle.vbr_slots.specs.runs.Closing.{AllOf, EachSeen}
use Rattle.vbr_slots.specs.views.Views.{PassView, TableView}
use Rattle.vbr_player.specs.Calling.{ArePlayed}
use Rattle.vbr_player.specs.Ending.{PlayedWhole, passes_of}
use Rattle.vbr_player.specs.Closing.{ClosesListing, RenewsAs}
use Rattle.vbr_player.specs.Spans.{PlayedSpan}
use Rattle.vbr_transcript.specs.Contents.{AreContents, Item, contents_after, opened_with, opening_contents}
use Rattle.vbr_transcript.specs.Merging.{HaveReplies, IsMerged}
use Rattle.vbr_script.specs.Scripts.{ArePhased}
use Rattle.vbr_player.specs.Standing.{replies_of, HasPlayed}
use Rattle.vbr_transcript.specs.declared.reply.Reply.{Reply}
use Rattle.vbr_player.specs.declared.worker.Worker.{Worker}
use Rattle.vbr_script.specs.declared.script.Kind.{Kind}
use Rattle.vbr_script.specs.declared.script.Line.{Line}
use Rattle.vbr_player.proofs.PlayedWhole.{are_played, have_replies, have_played}
use Rattle.vbr_transcript.proofs.Lemmas.{set_run_of_workers}
use Rattle.vbr_machine.specs.Runs.{world_after}
use Rattle.vbr_machine.specs.declared.event.Event.{Event}
use Rattle.vbr_transcript.specs.Runs.{IsSetRun}

-- a set or a map has played lines, in so many phases, with these replies, and was closed with what is listed, at this
-- epoch
pub record HasPlayedSpan (kind : Kind) (set : TableView) (budget : ℕ) (lines : List Line) (phases : ℕ)
    (replies : List Reply) (listed : List (Item kind)) (epoch : ℕ) : Type 0 where
  pub one_each : length replies ≡ length lines
  pub run : List Event
  pub of_set : IsSetRun kind (ArePlayed kind set.passes budget) set.start set.passes phases (zip lines replies) run
  pub contents : AreContents kind listed
      (contents_after kind (opening_contents kind set.start) (world_after set.start run).calls)
  pub last : epoch ≡ (world_after set.start run).epoch

-- a set or a map has played lines, in so many phases, with these replies, and another follows it, which has as many
-- passes, opened with what is listed, and so has what was left
pub record IsFollowed (kind : Kind) (set : TableView) (budget : ℕ) (lines : List Line) (phases : ℕ)
    (replies : List Reply) (next : TableView) : Type 0 where
  pub listed : List (Item kind)
  pub epoch : ℕ
  pub played : HasPlayedSpan kind set budget lines phases replies listed epoch
  pub start : next.start ≡ opened_with kind set.start listed
  pub opens : opening_contents kind (opened_with kind set.start listed)
      ≡ contents_after kind (opening_contents kind set.start) (world_after set.start played.run).calls
  pub passes : next.passes ≡ set.passes

-- each worker has a reply to each of its lines
pub merges : {N : Type 0} {kind : Kind} →
    (set : TableView) (budget : ℕ) (lines : List Line) (from phases : ℕ) (passes : List PassView)
    (own : List (List Reply)) → ArePhased kind set.passes phases lines →
    PlayedWhole kind N set budget lines from phases passes own → HaveReplies own lines
merges {N} {kind} set budget lines from phases passes own phased played =
    subst (λ (some : List (List Reply)). HaveReplies some lines) (sym played.replies_are)
    (have_replies set budget lines set.passes from phases played.workers phased played.stand)

-- the passes are those of the set
all_of : {N : Type 0} {kind : Kind} →
    (set : TableView) (budget most : ℕ) (script lines : List Line) (workers : List (Worker N)) →
    All (HasPlayed kind set budget most script lines) workers → AllOf set (passes_of workers)
all_of {N} {kind} set budget most script lines [] played = tt
all_of {N} {kind} set budget most script lines (worker ∷ workers) played = (
  (All-head (HasPlayed kind set budget most script lines) worker workers played).of,
  all_of set budget most script lines workers
      (All-tail (HasPlayed kind set budget most script lines) worker workers played),
)

pub closes : {N : Type 0} {kind : Kind} →
    (set : TableView) (budget : ℕ) (script : List Line) (from phases : ℕ) (passes : List PassView)
    (own : List (List Reply)) → PlayedWhole kind N set budget script from phases passes own → AllOf set passes
closes {N} {kind} set budget script from phases passes own played =
    subst (AllOf set) (sym played.passes_are)
    (all_of set budget ((set.passes - 1) * (phases - from)) script script played.workers played.stand.played)

-- what the passes have played has been played when it is closed
pub closed : {N : Type 0} {kind : Kind} →
    (set : TableView) (budget : ℕ) (lines : List Line) (from phases : ℕ) (passes : List PassView) (replies : List Reply)
    (listed : List (Item kind)) (epoch : ℕ) → ArePhased kind set.passes phases lines → 0 < set.passes →
    PlayedSpan kind N set budget lines from phases passes replies → ClosesListing kind set passes listed epoch →
    HasPlayedSpan kind set budget lines (phases - from) replies listed epoch
closed {N} {kind} set budget lines from phases passes replies listed epoch phased some played closes =
    let whole = played.whole in
    let seen : EachSeen closes.run (passes_of whole.workers) =
    subst (EachSeen closes.run) whole.passes_are closes.begins in
    let merged : IsMerged lines (replies_of whole.workers) replies =
    subst (λ (own : List (List Reply)). IsMerged lines own replies) whole.replies_are played.merged in
    record {
      one_each = merged.one_each;
      run = closes.run;
      of_set = set_run_of_workers kind (ArePlayed kind set.passes budget) set.start set.passes phases (phases - from)
          lines (replies_of whole.workers) replies closes.run
          (are_played set budget lines from phases whole.workers replies closes.run phased whole.stand seen merged)
          phased merged closes.is_run closes.safe closes.legal
          (have_played set budget lines set.passes from phases whole.workers closes.run some whole.stand seen
          closes.safe);
      contents = closes.contents;
      last = closes.last;
    }

-- and so it has when it is renewed, and another follows it
pub followed : {N : Type 0} {kind : Kind} →
    (set : TableView) (budget : ℕ) (lines : List Line) (from phases : ℕ) (passes : List PassView) (replies : List Reply)
    (next : TableView) → ArePhased kind set.passes phases lines → 0 < set.passes →
    PlayedSpan kind N set budget lines from phases passes replies → RenewsAs kind set passes next →
    IsFollowed kind set budget lines (phases - from) replies next
unfolding closed
followed {N} {kind} set budget lines from phases passes replies next phased some played renews = record {
  listed = renews.listed;
  epoch = renews.epoch;
  played = closed set budget lines from phases passes replies renews.listed renews.epoch phased some played
      renews.closes;
  start = renews.start;
  opens = renews.opens;
  passes = renews.count;
}
