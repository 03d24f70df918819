-- From set to set, the lines of a span are cut off those that are left.
-- What one more set was asked stands in front of what the later ones are.
use Rattle.std.proofs.Common.{◌≡◌, ℕ, zero, suc, ◌+◌, ◌-◌, ◌<◌, ◌≤◌, List, [], ◌∷◌, ◌++◌, length, take, drop, get_or}
use Rattle.std.proofs.Common.{sym, ap, subst, ◌∙◌, append_assoc, arith, length-append, length-drop}
use Rattle.std.specs.Prelude.{nat_le, zip, All}
use Rattle.std.specs.List.{prefix_len}
use Rattle.std.proofs.lemmas.List.{drop_all, drop-drop, length-take, take-append-drop}
use Rattle.std.proofs.Math.Seq.{drop-cons}
use Rattle.std.proofs.lemmas.List.Elements.{All-drop, All-take}
use Rattle.vbr_machine.specs.Start.{Start}
use Rattle.vbr_slots.specs.views.Views.{TableView}
use Rattle.vbr_script.specs.Scripts.{ArePhased, AreRenewalsFrom, AscendFrom, MayAsk}
use Rattle.vbr_script.specs.declared.script.Kind.{Kind}
use Rattle.vbr_script.specs.declared.script.Line.{Line}
use Rattle.vbr_transcript.specs.Calls.{Outcome}
use Rattle.vbr_transcript.specs.Contents.{Item, opened_with}
use Rattle.vbr_transcript.specs.Runs.{AreExplained}
use Rattle.vbr_transcript.specs.declared.reply.Reply.{Reply}
use Rattle.vbr_transcript.proofs.Lemmas.{all_lines, ascend_lower, last_set, one_more_set, zip-append}
use Rattle.vbr_player.specs.Calling.{ArePlayed}
use Rattle.vbr_player.specs.Spans.{IsSpan}
use Rattle.vbr_player.proofs.Phasing.{rest_of, slice_of}
use Rattle.vbr_player.proofs.Slices.{all_from, next_phase}
use Rattle.vbr_player.proofs.Finishing.{HasPlayedSpan, IsFollowed}

-- ---- the lines of a span

ascend_take : (from n : ℕ) (lines : List Line) → AscendFrom from lines → AscendFrom from (take n lines)
ascend_take from zero lines up = tt
ascend_take from (suc n) [] up = tt
ascend_take from (suc n) (line ∷ lines) up = (up.0, ascend_take line.phase n lines up.1)

-- the next lines, of the phases up to one, are cut off those that are left
pub record CutsSpan (script : List Line) (first n phase : ℕ) : Type 0 where
  pub rest : drop first script ≡ take n (drop first script) ++ drop (first + n) script
  pub early : All (λ line. line.phase ≤ phase) (take n (drop first script))
  pub late : AscendFrom (phase + 1) (drop (first + n) script)

pub cuts_span : (script : List Line) (first n from phase : ℕ) →
    n ≡ prefix_len (λ line. nat_le line.phase phase) (drop first script) → AscendFrom from (drop first script) →
    CutsSpan script first n phase
cuts_span script first n from phase is up =
    let rest = drop first script in
    let next = next_phase phase from rest up in
    let dropped : drop n rest ≡ drop (first + n) script = drop-drop n first script in
    record {
      rest = sym (take-append-drop n rest) ∙ ap (λ (lines : List Line). take n rest ++ lines) dropped;
      early = subst (λ (k : ℕ). All (λ line. line.phase ≤ phase) (take k rest)) (sym is) next.0;
      late = subst (λ (lines : List Line). AscendFrom (phase + 1) lines) dropped
          (subst (λ (k : ℕ). AscendFrom (phase + 1) (drop k rest)) (sym is) next.1);
    }

-- they are counted among those that are left
pub next_cut : (script : List Line) (first n from phase : ℕ) →
    n ≡ prefix_len (λ line. nat_le line.phase phase) (take (length script - first) (drop first script)) →
    AscendFrom from (drop first script) → CutsSpan script first n phase
next_cut script first n from phase count up =
    cuts_span script first n from phase
    (count ∙ ap (prefix_len (λ (line : Line). nat_le line.phase phase)) (rest_of script first)) up

-- they are a span
pub is_span : {kind : Kind} (workers phases : ℕ) (script : List Line) (first n from phase : ℕ) →
    ArePhased kind workers phases script → AscendFrom from (drop first script) → CutsSpan script first n phase →
    from ≤ phase → IsSpan kind workers from (phase + 1) (take (first + n - first) (drop first script))
is_span {kind} workers phases script first n from phase phased up cut order =
    let ascend : AscendFrom from (take n (drop first script)) = ascend_take from n (drop first script) up in
    subst (IsSpan kind workers from (phase + 1)) (sym (slice_of script first n)) (record {
      order = omega arith;
      phased = record {
        workers_below =
            All-take (λ (line : Line). line.worker < workers) n (drop first script)
            (All-drop (λ (line : Line). line.worker < workers) first script phased.workers_below);
        phases_below = λ k d inside. let low = cut.early k d inside in omega arith;
        ascend = ascend_lower 0 from (take n (drop first script)) (omega arith) ascend;
        may_ask = All-take (λ (line : Line). MayAsk kind line.op line.value) n (drop first script)
            (All-drop (λ (line : Line). MayAsk kind line.op line.value) first script phased.may_ask);
      };
      ascend = ascend;
    })

-- all that are left are one too
pub is_last_span : {kind : Kind} (workers phases : ℕ) (script : List Line) (first from : ℕ) →
    ArePhased kind workers phases script → AscendFrom from (drop first script) → from ≤ phases →
    IsSpan kind workers from phases (take (length script - first) (drop first script))
is_last_span {kind} workers phases script first from phased up order =
    subst (IsSpan kind workers from phases) (sym (rest_of script first)) (record {
      order = order;
      phased = record {
        workers_below = All-drop (λ (line : Line). line.worker < workers) first script phased.workers_below;
        phases_below = All-drop (λ (line : Line). line.phase < phases) first script phased.phases_below;
        ascend = ascend_lower 0 from (drop first script) (omega arith) up;
        may_ask = All-drop (λ (line : Line). MayAsk kind line.op line.value) first script phased.may_ask;
      };
      ascend = up;
    })

-- ---- set after set

-- the first lines of a script were played on sets, the first of which starts so and has so many workers, of which
-- this is the one that is played next: whatever it and those after it are asked completes what all are asked
pub record HavePlayedSets (kind : Kind) (workers : ℕ) (start : Start) (budget : ℕ) (script : List Line)
    (renewals : List ℕ) (phases : ℕ) (set : TableView) (first phase i : ℕ) (replies : List Reply) : Type 0 where
  pub inside : first ≤ length script
  pub long : length replies ≡ first
  pub counted : set.passes ≡ workers
  pub later : AscendFrom phase (drop first script)
  pub order : phase ≤ phases
  pub renewed : AreRenewalsFrom phase phases (drop i renewals)
  pub goes : (rest : List Reply) (listed : List (Item kind)) (epoch : ℕ) →
      AreExplained kind (ArePlayed kind set.passes budget) set.start set.passes phase phases (drop i renewals)
      (zip (drop first script) rest) listed epoch →
      AreExplained kind (ArePlayed kind workers budget) start workers 0 phases renewals (zip script (replies ++ rest))
      listed epoch

-- the next renewal
pub renewal_here : (renewals lent : List ℕ) (i : ℕ) → lent ≡ renewals → i < length lent →
    drop i renewals ≡ get_or lent i 0 ∷ drop (i + 1) renewals
renewal_here renewals lent i same inside =
    let within : i < length renewals = subst (λ (some : List ℕ). i < length some) same inside in
    let next : suc i ≡ i + 1 = omega arith in
    drop-cons renewals i 0 within ∙ ap (λ (k : ℕ). get_or renewals i 0 ∷ drop k renewals) next
    ∙ ap (λ (some : List ℕ). get_or some i 0 ∷ drop (i + 1) renewals) (sym same)

-- none is left
pub no_renewal : (renewals lent : List ℕ) (i : ℕ) → lent ≡ renewals → length lent ≤ i → drop i renewals ≡ []
no_renewal renewals lent i same past = drop_all i renewals (subst (λ (some : List ℕ). length some ≤ i) same past)

-- it is after the phases so far, and not the last phase
pub renewal_in : {kind : Kind} (workers : ℕ) (start : Start) (budget : ℕ) (script : List Line) (renewals : List ℕ)
    (phases : ℕ) (set : TableView) (first phase i renewal : ℕ) (replies : List Reply) →
    drop i renewals ≡ renewal ∷ drop (i + 1) renewals →
    HavePlayedSets kind workers start budget script renewals phases set first phase i replies →
    (phase ≤ renewal) × (renewal + 1 < phases)
renewal_in {kind} workers start budget script renewals phases set first phase i renewal replies here so_far =
    let renewed : AreRenewalsFrom phase phases (renewal ∷ drop (i + 1) renewals) =
    subst (AreRenewalsFrom phase phases) here so_far.renewed in
    (renewed.0, renewed.1)

-- the phases and the workers are those of the set
pub phased_here : {kind : Kind} (workers : ℕ) (start : Start) (budget : ℕ) (script : List Line) (renewals : List ℕ)
    (phases : ℕ) (set : TableView) (first phase i : ℕ) (replies : List Reply) → ArePhased kind workers phases script →
    HavePlayedSets kind workers start budget script renewals phases set first phase i replies →
    ArePhased kind set.passes phases script
phased_here {kind} workers start budget script renewals phases set first phase i replies phased so_far =
    subst (λ (passes : ℕ). ArePhased kind passes phases script) (sym so_far.counted) phased

-- what a set was asked goes on with what the next ones are
goes_on : {kind : Kind} (set next : TableView) (budget from phases renewal : ℕ) (renewals : List ℕ) (script : List Line)
    (first n : ℕ) (more rest : List Reply) (listed : List (Item kind)) (epoch : ℕ) → CutsSpan script first n renewal →
    IsFollowed kind set budget (take n (drop first script)) (renewal + 1 - from) more next →
    AreExplained kind (ArePlayed kind next.passes budget) next.start next.passes (renewal + 1) phases renewals
    (zip (drop (first + n) script) rest) listed epoch →
    AreExplained kind (ArePlayed kind set.passes budget) set.start set.passes from phases (renewal ∷ renewals)
    (zip (drop first script) (more ++ rest)) listed epoch
goes_on {kind} set next budget from phases renewal renewals script first n more rest listed epoch cut followed
    explained =
    let slice = take n (drop first script) in
    let back = drop (first + n) script in
    let played = followed.played in
    let opened = opened_with kind set.start followed.listed in
    let follows : (next.start, next.passes) ≡ (opened, set.passes) = λ i. (followed.start i, followed.passes i) in
    let then : AreExplained kind (ArePlayed kind set.passes budget) opened set.passes (renewal + 1) phases renewals
    (zip back rest) listed epoch =
    subst (λ (k : Start × ℕ).
    AreExplained kind (ArePlayed kind k.1 budget) k.0 k.1 (renewal + 1) phases renewals (zip back rest) listed epoch)
    follows explained in
    let late : All (λ line. renewal < line.phase) back =
    λ k d inside.
    let high = all_from (renewal + 1) (renewal + 1) back (omega arith) cut.late k d inside in omega arith in
    let outcomes : zip (drop first script) (more ++ rest) ≡ zip slice more ++ zip back rest =
    ap (λ (lines : List Line). zip lines (more ++ rest)) cut.rest ∙ zip-append slice back more rest played.one_each in
    subst (λ (some : List Outcome).
    AreExplained kind (ArePlayed kind set.passes budget) set.start set.passes from phases (renewal ∷ renewals) some
    listed epoch) (sym outcomes)
    (one_more_set kind (ArePlayed kind set.passes budget) set.start set.passes from phases renewal renewals
    (zip slice more) (zip back rest) played.run followed.listed listed epoch
    (all_lines (λ (line : Line). line.phase ≤ renewal) slice more cut.early)
    (all_lines (λ (line : Line). renewal < line.phase) back rest late) played.of_set played.contents followed.opens
    then)

-- one more set was played
pub one_more_played : {kind : Kind} (workers : ℕ) (start : Start) (budget : ℕ) (script : List Line) (renewals : List ℕ)
    (phases : ℕ) (set next : TableView) (first phase i n renewal : ℕ) (replies more : List Reply) →
    drop i renewals ≡ renewal ∷ drop (i + 1) renewals → first + n ≤ length script → CutsSpan script first n renewal →
    HavePlayedSets kind workers start budget script renewals phases set first phase i replies →
    IsFollowed kind set budget (take (first + n - first) (drop first script)) (renewal + 1 - phase) more next →
    HavePlayedSets kind workers start budget script renewals phases next (first + n) (renewal + 1) (i + 1)
    (replies ++ more)
one_more_played {kind} workers start budget script renewals phases set next first phase i n renewal replies more here
    inside cut so_far told =
    let followed : IsFollowed kind set budget (take n (drop first script)) (renewal + 1 - phase) more next =
    subst (λ (lines : List Line). IsFollowed kind set budget lines (renewal + 1 - phase) more next)
    (slice_of script first n) told in
    let slice : length (take n (drop first script)) ≡ n = length-take_inside script first n inside in
    let renewed : AreRenewalsFrom phase phases (renewal ∷ drop (i + 1) renewals) =
    subst (AreRenewalsFrom phase phases) here so_far.renewed in
    record {
      inside = inside;
      long = omega (arith, length-append replies more, so_far.long, followed.played.one_each, slice);
      counted = followed.passes ∙ so_far.counted;
      later = cut.late;
      order = omega (arith, renewed.1);
      renewed = renewed.2;
      goes = λ rest listed epoch explained.
          let whole = goes_on set next budget phase phases renewal (drop (i + 1) renewals) script first n more rest
          listed epoch cut followed explained in
          let here_too =
          subst (λ (some : List ℕ).
          AreExplained kind (ArePlayed kind set.passes budget) set.start set.passes phase phases some
          (zip (drop first script) (more ++ rest)) listed epoch) (sym here) whole in
          subst (λ (some : List Reply).
          AreExplained kind (ArePlayed kind workers budget) start workers 0 phases renewals (zip script some) listed
          epoch) (sym (append_assoc replies more rest)) (so_far.goes (more ++ rest) listed epoch here_too);
    }
  where
    length-take_inside : (lines : List Line) (first n : ℕ) → first + n ≤ length lines →
        length (take n (drop first lines)) ≡ n
    length-take_inside lines first n inside = omega (arith, length-take n (drop first lines), length-drop first lines)

-- the last set was played
pub all_sets : {kind : Kind} (workers : ℕ) (start : Start) (budget : ℕ) (script : List Line) (renewals : List ℕ)
    (phases : ℕ) (set : TableView) (first phase i : ℕ) (replies more : List Reply) (listed : List (Item kind))
    (epoch : ℕ) → drop i renewals ≡ [] →
    HavePlayedSets kind workers start budget script renewals phases set first phase i replies →
    HasPlayedSpan kind set budget (take (length script - first) (drop first script)) (phases - phase) more listed
    epoch → (length (replies ++ more) ≡ length script) ×
    AreExplained kind (ArePlayed kind workers budget) start workers 0 phases renewals (zip script (replies ++ more))
    listed epoch
all_sets {kind} workers start budget script renewals phases set first phase i replies more listed epoch none so_far
    told =
    let played : HasPlayedSpan kind set budget (drop first script) (phases - phase) more listed epoch =
    subst (λ (lines : List Line). HasPlayedSpan kind set budget lines (phases - phase) more listed epoch)
    (rest_of script first) told in
    let last = last_set kind (ArePlayed kind set.passes budget) set.start set.passes phase phases
    (zip (drop first script) more) played.run listed epoch played.of_set played.contents played.last in (
      (let inside = so_far.inside in
          omega (arith, length-append replies more, so_far.long, played.one_each, length-drop first script)),
      so_far.goes more listed epoch
          (subst (λ (some : List ℕ).
          AreExplained kind (ArePlayed kind set.passes budget) set.start set.passes phase phases some
          (zip (drop first script) more) listed epoch) (sym none) last),
    )

-- ---- a span's budget and lines by other names

pub played_as : {kind : Kind} (set : TableView) (b budget : ℕ) (some lines : List Line) (phases : ℕ)
    (replies : List Reply) (listed : List (Item kind)) (epoch : ℕ) → b ≡ budget → some ≡ lines →
    HasPlayedSpan kind set b some phases replies listed epoch →
    HasPlayedSpan kind set budget lines phases replies listed epoch
played_as {kind} set b budget some lines phases replies listed epoch same are played =
    subst (λ (k : ℕ × List Line). HasPlayedSpan kind set k.0 k.1 phases replies listed epoch) (λ i. (same i, are i))
    played

pub followed_as : {kind : Kind} (set : TableView) (b budget : ℕ) (some lines : List Line) (phases : ℕ)
    (replies : List Reply) (next : TableView) → b ≡ budget → some ≡ lines →
    IsFollowed kind set b some phases replies next → IsFollowed kind set budget lines phases replies next
followed_as {kind} set b budget some lines phases replies next same are followed =
    subst (λ (k : ℕ × List Line). IsFollowed kind set k.0 k.1 phases replies next) (λ i. (same i, are i)) followed

pub span_as : {k kind : Kind} (workers from to : ℕ) (some lines : List Line) → kind ≡ k → some ≡ lines →
    IsSpan k workers from to lines → IsSpan kind workers from to some
span_as workers from to some lines is are span =
    subst (λ (k : Kind × List Line). IsSpan k.0 workers from to k.1) (λ i. (sym is i, sym are i)) span

-- ---- the next span of a script

-- the lines up to the next renewal are one
pub next_span : {kind : Kind} (workers : ℕ) (start : Start) (budget : ℕ) (script : List Line) (renewals lent : List ℕ)
    (phases : ℕ) (set : TableView) (first phase i n : ℕ) (replies : List Reply) → ArePhased kind workers phases script →
    lent ≡ renewals → i < length lent →
    n ≡ prefix_len (λ line. nat_le line.phase (get_or lent i 0)) (take (length script - first) (drop first script)) →
    HavePlayedSets kind workers start budget script renewals phases set first phase i replies →
    IsSpan kind set.passes phase (get_or lent i 0 + 1) (take (first + n - first) (drop first script))
next_span {kind} workers start budget script renewals lent phases set first phase i n replies phased same inside count
    so_far =
    let here = renewal_here renewals lent i same inside in
    let next = renewal_in workers start budget script renewals phases set first phase i (get_or lent i 0) replies here
    so_far in
    let cut = next_cut script first n phase (get_or lent i 0) count so_far.later in
    is_span set.passes phases script first n phase (get_or lent i 0)
    (phased_here workers start budget script renewals phases set first phase i replies phased so_far) so_far.later cut
    next.0

-- and those after all renewals are one
pub last_span : {kind : Kind} (workers : ℕ) (start : Start) (budget : ℕ) (script : List Line) (renewals : List ℕ)
    (phases : ℕ) (set : TableView) (first phase i : ℕ) (replies : List Reply) → ArePhased kind workers phases script →
    HavePlayedSets kind workers start budget script renewals phases set first phase i replies →
    IsSpan kind set.passes phase phases (take (length script - first) (drop first script))
last_span {kind} workers start budget script renewals phases set first phase i replies phased so_far =
    is_last_span set.passes phases script first phase
    (phased_here workers start budget script renewals phases set first phase i replies phased so_far) so_far.later
    so_far.order
