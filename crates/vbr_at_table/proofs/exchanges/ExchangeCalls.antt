-- A step that exchanges a link word, as what its call tells.
use Rattle.std.proofs.Common.{◌≡◌, ◌≢◌, ℕ, true, List, [], ◌∷◌, ◌++◌, refl, sym, ap, ◌∙◌, subst}
use Rattle.std.specs.Prelude.{Result, Ok, Err, IfErr, None}
use Rattle.vbr_machine.specs.Start.{Start, IsStart}
use Rattle.vbr_words.specs.Words.{link_of}
use Rattle.vbr_words.specs.declared.link.Link.{Link}
use Rattle.vbr_words.specs.declared.place.At.{At}
use Rattle.vbr_words.specs.declared.place.At.TheVariants.{Slot}
use Rattle.vbr_machine.specs.Acceptance.{IsUnlinked}
use Rattle.vbr_machine.specs.Images.{link_shown_at}
use Rattle.vbr_machine.specs.Links.{link_to, marked}
use Rattle.vbr_machine.specs.Membership.{BirthAt, KeyAt, Knows}
use Rattle.vbr_machine.specs.Accounts.{incarnations_after}
use Rattle.vbr_machine.specs.Incarnations.{Incarnations}
use Rattle.vbr_machine.specs.Knowledge.{Know}
use Rattle.vbr_machine.specs.Removals.{IsTakenOut}
use Rattle.vbr_machine.specs.Runs.{IsRun, know_after}
use Rattle.vbr_machine.specs.declared.event.Event.{Event}
use Rattle.vbr_machine.specs.declared.event.Step.{Step}
use Rattle.vbr_machine.specs.declared.event.Step.TheVariants.{Mark, Publish, Unlink}
use Rattle.vbr_machine.specs.declared.history.Op.TheVariants.{Insert}
use Rattle.vbr_machine.specs.declared.knowledge.Read.TheVariants.{LinkAt}
use Rattle.vbr_machine.proofs.Lemmas.{is_run_before, is_run_last, mark_out, others_leave_know}
use Rattle.vbr_slots.specs.steps.Alone.{IsFresh, nodes}
use Rattle.vbr_slots.specs.steps.Calls.{Made, Quiet}
use Rattle.vbr_slots.specs.steps.PassLaw.{PassLaw}
use Rattle.vbr_slots.specs.views.Views.{Did, KeepsPool, PassView, Trace, knows, event_of, TableView}
use Rattle.vbr_slots.proofs.Lemmas.{adds_on, alone_first, alone_then, did_run, did_same, did_seen, made_on, quiet_on}
use Rattle.vbr_at_table.specs.hands.Hands.{UnlinkedView}
use Rattle.vbr_at_table.proofs.epochs.Advancing.{none_on}
use Rattle.vbr_at_table.specs.answers.Values.{LinksEntry, MarksEntry, ValueAt, entry_call}
use Rattle.vbr_at_table.specs.answers.Exchanges.{IsUnmarked, LosesExchange, UnlinksNode, UnlinksNone}
use Rattle.vbr_at_table.specs.reads.Held.{IsHeld, HoldsMarked, Names, said, said_rollback}
use Rattle.vbr_at_table.specs.reads.KeptKnowledge.{Keeps}
use Rattle.vbr_at_table.specs.reads.Reading.{IsBirthRead, ReadsIn}
use Rattle.vbr_at_table.specs.reads.Rollbacks.{FreshIfMoved, IsMovedOrLost}
use Rattle.vbr_at_table.specs.declared.held.Held.{Held}
use Rattle.vbr_at_table.specs.declared.held.Marked.{Marked}
use Rattle.vbr_at_table.specs.declared.rollback.Rollback.{Rollback}
use Rattle.vbr_at_table.specs.declared.rollback.Rollback.TheVariants.{EpochMoved, LostExchange}
use Rattle.vbr_at_table.proofs.exchanges.AloneExchanges.{unlinked_alone, unlinks_after, written_stands}
use Rattle.vbr_at_table.proofs.reads.KeptKnowledge.{held_kept, keeps_on, marked_kept}
use Rattle.vbr_at_table.proofs.steps.MadeCalls.{mark_made, publish_adds_none, publish_failed, unlink_adds_none}
use Rattle.vbr_at_table.proofs.exchanges.MarkedLinks.{marked_alone, marked_leaves}
use Rattle.vbr_at_table.proofs.reads.Moments.{found_after, publish_found, unlink_found, won}
use Rattle.vbr_at_table.specs.costs.StepKinds.{ChangesNone}
use Rattle.vbr_at_table.proofs.steps.Unchanged.{unchanged_by_none, unchanged_on}
use Rattle.vbr_at_table.proofs.returns.NoneUnlinked.{lost_none, unlinks_on, won_unlinks}
use Rattle.vbr_at_table.proofs.exchanges.Unlinks.{accepted, new_read, read_after, written}
use Rattle.vbr_at_table.proofs.exchanges.WonExchanges.{mark_keeps, mark_known, publish_lost_keeps, unlink_keeps}
use Rattle.vbr_at_table.proofs.exchanges.WonExchanges.{unlink_lost_keeps}

-- ---- a mark

-- the node is taken out
mark_takes_out : {p q : Trace} {s expected : ℕ} → (d : Did (Mark s expected) p q expected) → IsStart p.start →
    IsTakenOut (nodes q) (knows q).epoch s
mark_takes_out {p} {q} {s} {expected} d start =
    let event = event_of p.who (Mark s expected) in
    let before = p.seen ++ d.rest in
    let P : List Event → Type 0 = IsRun p.start p.passes in
    let run = subst P d.seen d.is_run in
    let out = mark_out p.start p.passes before start (is_run_before p.start p.passes before (event ∷ []) run) p.who s
    expected (is_run_last p.start p.passes before event run).1 (won expected _ d.shows.answers) in
    let epoch : (know_after p.start before p.who).epoch ≡ (knows q).epoch =
    ap (λ (k : Know). k.epoch) (others_leave_know p.start p.seen d.rest p.who d.none) ∙ sym ((mark_keeps d).epoch) in
    let Q : Incarnations × ℕ → Type 0 = λ x. IsTakenOut x.0 x.1 s in
    subst Q (λ i. (incarnations_after (sym d.same.1 i) (sym d.seen i), epoch i)) out

pub mark_told : {p q : Trace} {s word : ℕ} (node : Held) → IsStart p.start → IsRun p.start p.passes p.seen →
    IsHeld (knows p) node → node.at ≡ Slot s → Did (Mark s node.word) p q node.word →
    link_of word ≡ marked (link_of node.word)
    → MarksEntry p q node (record { slot = s; birth = node.birth; word = word; epoch = node.epoch })
mark_told {p} {q} {s} {word} node start is_run held place_is d link =
    let B : At → Type 0 = λ place. BirthAt (knows q) place node.birth in
    let L : Link → Type 0 = λ link. Knows (knows q) (LinkAt (Slot s) link) in
    let h = held_kept node (mark_keeps d) held in
    record {
      made = (λ key value k v.
          let K : At → Type 0 = λ place. KeyAt (knows p) place key in
          let V : At → Type 0 = λ place. ValueAt (knows p) place value in
          mark_made start is_run d key value (subst K place_is k) (λ has. subst V place_is (v has)));
      place = sym place_is;
      link = link;
      held = record {
        held =
            record { epoch = h.epoch; link = subst L (sym link) (mark_known d); birth = subst B place_is h.birth };
        mark = ap (λ (l : Link). l.mark) link;
      };
      out = mark_takes_out d start;
      leaves = marked_leaves node start place_is d;
      alone = λ alone. marked_alone node start place_is d alone;
    }

-- ---- a publication, after what filled the hand

pub entry_told : (key value : ℕ) (p q r : PassView) → Quiet p.trace q.trace →
    Made (entry_call q.trace.start q.trace.who Insert key true value) q.trace r.trace → r.hand ≡ None →
    LinksEntry p r key value
entry_told key value p q r fill made spent = record {
  made = (let P : ℕ → Start → Type 0 = λ who start. Made (entry_call start who Insert key true value) p.trace r.trace in
      let one : P q.trace.who q.trace.start = made_on fill made in
      let Q : Start → Type 0 = P q.trace.who in
      let R : ℕ → Type 0 = λ who. P who p.trace.start in
      subst R fill.same.who (subst Q fill.same.start one));
  spent = spent;
}

pub run_after : {step : Step} {p q : Trace} {r : ℕ} → IsStart p.start → Did step p q r → IsRun p.start p.passes q.seen
run_after {step} {p} {q} is d =
    let P : Start → Type 0 = λ start. IsRun start q.passes q.seen in
    let Q : ℕ → Type 0 = λ passes. IsRun p.start passes q.seen in
    let s = did_same d in
    subst Q s.passes (subst P s.start (did_run d))

pub publish_lost : {p q r : Trace} {s found : ℕ} (pred : Held) → IsStart q.start → Quiet p q → ChangesNone p q →
    Keeps (knows p) (knows q) → Did (Publish pred.at pred.word s) q r found → found ≢ pred.word →
    LosesExchange p r pred (LostExchange found)
publish_lost pred start fill same keeps d other = record {
  quiet = quiet_on fill (publish_failed d other);
  lost = (other, found_after fill (publish_found d other), keeps_on keeps (publish_lost_keeps d other));
  unchanged = unchanged_on same
      (unchanged_by_none start (run_after start d) (did_same d) (did_seen d) (publish_adds_none d other));
}

-- ---- an unlinking, after the birth of what the marked link names

module _ {p q r : PassView} {n : ℕ} (pred : Held) (gone : Marked) (named : Link) (birth : ℕ) (law : PassLaw q)
    (reads : ReadsIn p q n) (read : IsBirthRead p q gone.word birth) (unmarked : IsUnmarked (knows p.trace) pred)
    (is_marked : HoldsMarked (knows p.trace) gone) (names : Names pred gone.slot)
    (is_named : named ≡ link_of gone.word) where
  pub unlink_told : (node : UnlinkedView) (new : ℕ) → node.slot ≡ gone.slot →
      link_of new ≡ link_to named.slot pred.birth birth →
      Did (Unlink pred.at pred.word gone.slot) q.trace r.trace pred.word → KeepsPool q r →
      IsUnlinked ((knows r.trace).own gone.slot) → UnlinksNode p r pred gone (node, record pred { word = new })
  unlink_told node new same link d pool owned =
      let held = held_kept pred read.keeps unmarked.held in
      let still_marked = marked_kept gone read.keeps is_marked in
      record {
        unlinks = unlinks_on p q r reads.takes_no_slot
            (won_unlinks law.start
            (accepted q law pred gone named birth held still_marked is_named read.birth unmarked.unmarked names) d
            pool);
        keeps = keeps_on read.keeps (unlink_keeps d);
        slot = same;
        owned = owned;
        place = refl;
        read = read_after reads.quiet
            (new_read q law pred gone named birth held still_marked is_named read.birth new link d);
        still = ap (λ (l : Link). l.mark) link;
        next = ap (λ (l : Link). l.slot) link ∙ ap (λ (l : Link). l.slot) is_named;
        stands = written_stands law.start d new
            (written q law pred gone named birth held still_marked is_named read.birth ∙ sym link);
        alone = λ alone stands.
            unlinks_after p.trace q.trace r.trace pred _ reads.quiet.same.start
            (reads.looks (alone_first reads.quiet.seen (did_seen d) alone)) read.keeps
            (unlinked_alone pred new law.start d (alone_then reads.quiet.same.who reads.quiet.seen (did_seen d) alone)
            (accepted q law pred gone named birth held still_marked is_named read.birth unmarked.unmarked names)
            held.link unmarked.unmarked
            (ap (λ a. link_shown_at a pred.at) (reads.looks (alone_first reads.quiet.seen (did_seen d) alone)) ∙ stands)
            (written q law pred gone named birth held still_marked is_named read.birth ∙ sym link));
      }

  pub unlink_lost : {found : ℕ} → Did (Unlink pred.at pred.word gone.slot) q.trace r.trace found → found ≢ pred.word →
      KeepsPool q r → UnlinksNone p r pred (LostExchange found)
  unlink_lost d other pool = record {
    takes_no_slot = none_on reads.takes_no_slot (lost_none d other pool);
    rolled = (other, found_after reads.quiet (unlink_found d other), keeps_on read.keeps (unlink_lost_keeps d other));
    fresh = tt;
    adds_none = adds_on reads.adds_none (unlink_adds_none d other);
  }

fresh_any : (q : Trace) → IsFresh q → (r : Rollback) → FreshIfMoved q r
fresh_any q fresh (EpochMoved now) = fresh
fresh_any q fresh (LostExchange found) = tt

-- the birth wasn't read: nothing was unlinked
pub none_unlinked : {A : Type 0} {p q : PassView} {n : ℕ} (t : TableView) (pred : Held) (answer : Result A Rollback) →
    ReadsIn p q n → IfErr answer (λ why. IsMovedOrLost p.trace q.trace (said t pred) (said_rollback t why)) → IsFresh
    q.trace →
    IfErr answer (λ why. UnlinksNone p q (said t pred) (said_rollback t why))
none_unlinked t pred (Ok told) reads rolled new = tt
none_unlinked {q = q} t pred (Err r) reads rolled new =
    record {
      takes_no_slot = reads.takes_no_slot;
      rolled = rolled;
      fresh = fresh_any q.trace new (said_rollback t r);
      adds_none = reads.adds_none;
    }
