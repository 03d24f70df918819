-- Steps that read, one after another, as what a call tells that reads.
use Rattle.std.proofs.Common.{◌≡◌, ◌≢◌, ◌↔◌, ℕ, ◌+◌, Bool, IsTrue, not, true, false, [], Option, Some, None}
use Rattle.std.proofs.Common.{refl, sym, ap, ◌∙◌, subst}
use Rattle.vbr_machine.specs.Start.{Start, IsStart}
use Rattle.vbr_words.specs.Words.{link_of}
use Rattle.vbr_words.specs.declared.place.At.{At}
use Rattle.vbr_words.specs.declared.place.At.TheVariants.{Head, Slot}
use Rattle.vbr_machine.specs.Acceptance.{IsInHand}
use Rattle.vbr_machine.specs.Accounts.{happens}
use Rattle.vbr_machine.specs.Incarnations.{Incarnations}
use Rattle.vbr_machine.specs.Knowledge.{Know}
use Rattle.vbr_machine.specs.Learning.{call_of}
use Rattle.vbr_machine.specs.Loads.{IsLoad}
use Rattle.vbr_machine.specs.Machine.{World}
use Rattle.vbr_machine.specs.declared.event.Step.{Step}
use Rattle.vbr_machine.specs.declared.event.Step.TheVariants.{ReadEpoch, LoadBirth, LoadLink, LoadKey, LoadValue}
use Rattle.vbr_machine.specs.declared.event.Step.TheVariants.{PeekBirth}
use Rattle.vbr_machine.specs.declared.knowledge.Holding.{Holding}
use Rattle.vbr_machine.specs.declared.knowledge.Read.{Read}
use Rattle.vbr_slots.specs.steps.PassLaw.{PassLaw}
use Rattle.vbr_slots.specs.pools.Pools.{HandFits}
use Rattle.vbr_slots.specs.steps.Reads.{Reads, ReadsNode}
use Rattle.vbr_slots.specs.views.Views.{Trace, PassView, Did, KeepsPool, knows}
use Rattle.vbr_slots.proofs.Lemmas.{adds_on, adds_refl, alone_first, alone_then, did_adds_none, did_loads, did_quiet}
use Rattle.vbr_slots.proofs.Lemmas.{did_took, fresh_read, loads_on, loads_refl, looks, quiet_on, quiet_refl, took_none}
use Rattle.vbr_slots.proofs.Lemmas.{took_on}
use Rattle.vbr_at_table.specs.costs.StepCosts.{birth_steps, steps_to_birth}
use Rattle.vbr_at_table.proofs.epochs.Advancing.{advances_or_gives, did_none, none_on, none_refl}
use Rattle.vbr_at_table.specs.reads.Held.{IsHeld, Names}
use Rattle.vbr_at_table.specs.reads.KeptKnowledge.{Keeps}
use Rattle.vbr_at_table.specs.reads.Reading.{IsHeadRead, IsKeyRead, IsNextRead, ReadsIn, RollsBack}
use Rattle.vbr_at_table.specs.reads.Rollbacks.{IsMoved}
use Rattle.vbr_at_table.specs.answers.Values.{IsValueRead}
use Rattle.vbr_at_table.specs.declared.held.Held.{Held}
use Rattle.vbr_at_table.specs.declared.rollback.Rollback.TheVariants.{EpochMoved}
use Rattle.vbr_at_table.proofs.steps.Accepted.{named_slot}
use Rattle.vbr_at_table.proofs.reads.CheckedReads.{checked, checked_keeps, head_is_unmarked, head_keeps, head_read}
use Rattle.vbr_at_table.proofs.reads.CheckedReads.{key_of_bucket, node_keeps, node_read}
use Rattle.vbr_at_table.proofs.epochs.EpochReads.{own_read}
use Rattle.vbr_at_table.proofs.reads.KeptKnowledge.{keeps_on}
use Rattle.vbr_at_table.proofs.reads.ReadSteps.{Loads, learned, loaded_keeps, loads_birth, loads_key, loads_link}
use Rattle.vbr_at_table.proofs.reads.ReadSteps.{loads_value}
use Rattle.vbr_at_table.proofs.reads.ReadSteps.{moved, shape_on}
use Rattle.vbr_at_table.proofs.own_slots.SlotsAside.{HasHandled, handled, still_in_hand}

-- ---- what a read needs of its pass, which a read keeps

pub record IsFit (p : PassView) : Type 0 where
  pub start : IsStart p.trace.start
  pub hand : (s : ℕ) → p.hand ≡ Some s → IsInHand ((knows p.trace).own s)

in_hand : (p : PassView) (hand : Option ℕ) → HandFits p.trace.start (knows p.trace) p.pool hand → (s : ℕ) →
    hand ≡ Some s → IsInHand ((knows p.trace).own s)
in_hand p hand fits s is =
    let P : Option ℕ → Type 0 = HandFits p.trace.start (knows p.trace) p.pool in
    let f : HandFits p.trace.start (knows p.trace) p.pool (Some s) = subst P is fits in
    f.1

pub fit : (p : PassView) → PassLaw p → IsFit p
fit p law = record { start = law.start; hand = in_hand p p.hand law.own.in_hand }

pub fit_on : {p q : PassView} {n : ℕ} → IsFit p → ReadsIn p q n → IsFit q
fit_on {p} {q} f x =
    let P : Start → Type 0 = IsStart in
    let Q : Option Holding → Type 0 = IsInHand in
    record {
      start = subst P (sym x.quiet.same.start) f.start;
      hand = λ s is.
          let had : p.hand ≡ Some s = sym x.own.hand ∙ is in subst Q (sym (x.own.in_hand s had)) (f.hand s had);
    }

-- ---- one after another

pub reads_none : (p : PassView) → ReadsIn p p 0
reads_none p =
    record {
      took = took_none p.trace;
      quiet = quiet_refl p.trace;
      own = record { pool = refl; hand = refl; in_hand = λ s is. refl };
      takes_no_slot = none_refl p;
      adds_none = adds_refl p.trace;
      only_loads = loads_refl p.trace;
      looks = λ alone. refl;
    }

pub reads_on : {p q r : PassView} {m n : ℕ} → ReadsIn p q m → ReadsIn q r n → ReadsIn p r (m + n)
reads_on {p} {q} {r} {m} {n} x y = record {
  took = took_on m n x.took y.took;
  quiet = quiet_on x.quiet y.quiet;
  own = record {
    pool = y.own.pool ∙ x.own.pool;
    hand = y.own.hand ∙ x.own.hand;
    in_hand = λ s is. y.own.in_hand s (x.own.hand ∙ is) ∙ x.own.in_hand s is;
  };
  takes_no_slot = none_on x.takes_no_slot y.takes_no_slot;
  adds_none = adds_on x.adds_none y.adds_none;
  only_loads = loads_on x.only_loads y.only_loads;
  looks = λ alone.
      y.looks (alone_then x.quiet.same.who x.quiet.seen y.quiet.seen alone)
      ∙ x.looks (alone_first x.quiet.seen y.quiet.seen alone);
}

-- ---- one step

module _ {step : Step} {p q : PassView} {r : ℕ} (f : IsFit p) (d : Did step p.trace q.trace r)
    (pool : KeepsPool p q) where
  one : IsLoad step → ((know : Know) → call_of p.trace.start p.trace.who know step ≡ None) →
      ((w : World) (a : Incarnations) → happens p.trace.start w a p.trace.who step ≡ []) →
      advances_or_gives step ≡ false → handled step ≡ None →
      ((s : ℕ) → p.hand ≡ Some s → (knows q.trace).own s ≡ (knows p.trace).own s) →
      ReadsIn p q 1
  one load no_call nothing no_gift no_slot kept =
      let P : Start → Type 0 = IsStart in
      record {
        took = did_took d;
        quiet = did_quiet d no_call;
        own = record { pool = pool.0; hand = pool.1; in_hand = kept };
        takes_no_slot = did_none d no_gift (subst (HasHandled p) (sym no_slot) tt) pool;
        adds_none = did_adds_none d nothing;
        only_loads = did_loads d load;
        looks = λ alone. looks d alone nothing;
      }

module _ {p q : PassView} {r : ℕ} where
  pub epoch_in_one : IsFit p → Did ReadEpoch p.trace q.trace r → KeepsPool p q → ReadsIn p q 1
  epoch_in_one f d pool = one f d pool (λ know. refl) (λ know. refl) (λ w a. refl) refl refl
      (λ s is. ap (λ (k : Know). k.own s) d.know ∙ own_read (knows p.trace) r s
      ∙ still_in_hand ((knows p.trace).own s) (f.hand s is))

  pub peek_in_one : {s : ℕ} → IsFit p → Did (PeekBirth s) p.trace q.trace r → KeepsPool p q → ReadsIn p q 1
  peek_in_one f d pool = one f d pool (λ know. refl) (λ know. refl) (λ w a. refl) refl refl
      (λ s is. ap (λ (k : Know). k.own s) d.know)

  pub load_in_one : {step : Step} {read : Read} → Loads step r read → IsFit p → Did step p.trace q.trace r →
      KeepsPool p q → ReadsIn p q 1
  load_in_one loads f d pool =
      one f d pool loads.is_load (loads.no_call p.trace.start p.trace.who) (loads.no_entry p.trace.start p.trace.who)
      loads.no_gift loads.no_slot (λ s is. ap (λ (k : Know). k.own s) (learned loads d))

-- ---- loads and a read of the epoch

module _ {p q : PassView} {word epoch : ℕ} (law : PassLaw p) where
  pub load_in_two : {step : Step} {read : Read} → Loads step word read → Reads step p q word epoch → ReadsIn p q 2
  load_in_two loads x =
      let first = load_in_one loads (fit p law) x.loaded x.pool_loaded in
      reads_on first (epoch_in_one (fit_on (fit p law) first) x.read x.pool_read)

  pub node_in_three : {s birth : ℕ} → ReadsNode s p q birth word epoch → ReadsIn p q 3
  node_in_three {s} {birth} x =
      let first = load_in_one (loads_birth s birth) (fit p law) x.born x.pool_born in
      let fits = fit_on (fit p law) first in
      let second = load_in_one (loads_link (Slot s) word) fits x.reads.loaded x.reads.pool_loaded in
      reads_on first (reads_on second (epoch_in_one (fit_on fits second) x.reads.read x.reads.pool_read))

-- the birth that a link names, where it names a slot
pub birth_in_two : (p between q : PassView) {s birth epoch : ℕ} (word : ℕ) → (link_of word).slot ≡ Some s → PassLaw p →
    Did (LoadBirth s) p.trace between.trace birth → KeepsPool p between → Did ReadEpoch between.trace q.trace epoch →
    KeepsPool between q → ReadsIn p q (steps_to_birth word)
birth_in_two p between q {s} {birth} word names law load pool_loaded read pool_read =
    let two : steps_to_birth word ≡ 2 = ap birth_steps names in
    subst (ReadsIn p q) (sym two)
    (load_in_two law (loads_birth s birth)
    (record { between = between; loaded = load; pool_loaded = pool_loaded; read = read; pool_read = pool_read }))

-- ---- an epoch that hasn't moved confirms what was loaded

pub head_told : {p q : PassView} {bucket word epoch : ℕ} → PassLaw p → Reads (LoadLink (Head bucket)) p q word epoch →
    epoch ≡ (knows p.trace).epoch →
    IsHeadRead p q bucket (record { at = Head bucket; birth = 0; word = word; epoch = epoch })
head_told law x same = record {
  keeps = head_keeps x.loaded x.read same;
  place = refl;
  read = head_read x.loaded x.read same law.start;
  unmarked = head_is_unmarked x.loaded x.read same law.start;
  fresh = fresh_read (shape_on x.loaded law.start) x.read ((head_keeps x.loaded x.read same).epoch ∙ sym same);
}

pub node_told : {p q : PassView} {s birth word epoch : ℕ} (held : Held) → PassLaw p → IsHeld (knows p.trace) held →
    Names held s → ReadsNode s p q birth word epoch → epoch ≡ (knows p.trace).epoch →
    IsNextRead p q held (Some (record { at = Slot s; birth = birth; word = word; epoch = epoch }))
node_told {s = s} held law is names x same = record {
  keeps = node_keeps x.born x.reads.loaded x.reads.read same;
  read = (s, names, refl, node_read x.born x.reads.loaded x.reads.read same law.start (named_slot held s is names));
  fresh = fresh_read (shape_on x.reads.loaded (shape_on x.born law.start)) x.reads.read
      ((node_keeps x.born x.reads.loaded x.reads.read same).epoch ∙ sym same);
}

pub key_told : {p q : PassView} {s key epoch : ℕ} (place : At) → PassLaw p → place ≡ Slot s →
    Reads (LoadKey s) p q key epoch → epoch ≡ (knows p.trace).epoch → IsKeyRead p q place key
key_told {p} {q} {s} {key} place law is x same =
    let P : At → Type 0 = λ place. IsKeyRead p q place key in
    let keeps = checked_keeps (loads_key s key) x.loaded x.read same in
    subst P (sym is)
    (record {
      keeps = keeps;
      key = checked (loads_key s key) x.loaded x.read same;
      fresh = fresh_read (shape_on x.loaded law.start) x.read (keeps.epoch ∙ sym same);
      bucket = λ b h. key_of_bucket x.loaded x.read same law.start b h;
    })

pub value_told : {p q : PassView} {s value epoch : ℕ} (place : At) → place ≡ Slot s →
    Reads (LoadValue s) p q value epoch →
    epoch ≡ (knows p.trace).epoch → IsValueRead p q place value
value_told {p} {q} {s} {value} place is x same =
    let P : At → Type 0 = λ place. IsValueRead p q place value in
    subst P (sym is)
    (record {
      keeps = checked_keeps (loads_value s value) x.loaded x.read same;
      value = checked (loads_value s value) x.loaded x.read same;
    })

-- ---- the epoch has moved

-- where it doesn't stay it is another one
pub apart : {stays : Bool} {now before : ℕ} → (IsTrue stays ↔ (now ≡ before)) → not stays ≡ true → now ≢ before
apart {stays = true} told other = λ same. absurd (cc)
apart {stays = false} told other = λ same. absurd (let no : false ≡ true = told.1 same in cc)

-- where it stays it is the one before
pub stayed : {stays : Bool} {now before : ℕ} → (IsTrue stays ↔ (now ≡ before)) → not stays ≡ false → now ≡ before
stayed {stays = true} told kept = told.0 refl
stayed {stays = false} told kept = absurd (cc)

pub has_moved : (p : Trace) {q r : Trace} {epoch : ℕ} → Keeps (knows p) (knows q) → Did ReadEpoch q r epoch →
    epoch ≢ (knows p).epoch → IsMoved p r (EpochMoved epoch)
has_moved p {q} {r} {epoch} keeps d other =
    let m = d.know ∙ moved (knows q) epoch (λ e. other (e ∙ keeps.epoch)) in
    (other, ap (λ (k : Know). k.epoch) m, ap (λ (k : Know). k.pending) m, ap (λ (k : Know). k.checked) m)

module _ {p q : PassView} {word epoch : ℕ} (law : PassLaw p) where
  pub load_rolls : {step : Step} {read : Read} → Loads step word read → Reads step p q word epoch →
      epoch ≢ (knows p.trace).epoch → RollsBack p q (EpochMoved epoch)
  load_rolls loads x other =
      let moved = has_moved p.trace (loaded_keeps loads x.loaded) x.read other in
      record { moved = moved; fresh = fresh_read (shape_on x.loaded law.start) x.read moved.1 }

  pub node_rolls : {s birth : ℕ} → ReadsNode s p q birth word epoch → epoch ≢ (knows p.trace).epoch →
      RollsBack p q (EpochMoved epoch)
  node_rolls {s} {birth} x other =
      let moved = has_moved p.trace
      (keeps_on (loaded_keeps (loads_birth s birth) x.born) (loaded_keeps (loads_link (Slot s) word) x.reads.loaded))
      x.reads.read other in
      record {
        moved = moved;
        fresh = fresh_read (shape_on x.reads.loaded (shape_on x.born law.start)) x.reads.read moved.1;
      }
