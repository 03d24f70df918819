-- A node that is replaced by the one in hand.
use Rattle.std.proofs.Common.{inr}
use Rattle.std.proofs.Common.{◌≡◌, ◌≢◌, ℕ, ◌+◌, ◌<◌, true, false, List, [], ◌∷◌, ◌++◌, Option, Some, None, refl, sym}
use Rattle.std.proofs.Common.{ap}
use Rattle.std.proofs.Common.{◌∙◌, subst, cond, option_to_list, append_assoc, eq-eqb, arith}
use Rattle.std.specs.Prelude.{unwrap_or}
use Rattle.std.specs.List.{Contains}
use Rattle.vbr_machine.specs.Start.{Start, IsStart}
use Rattle.vbr_words.specs.Words.{link_of, word_of}
use Rattle.vbr_words.specs.declared.link.Link.{Link}
use Rattle.vbr_words.specs.declared.place.At.{At}
use Rattle.vbr_words.specs.declared.place.At.TheVariants.{Head, Slot}
use Rattle.vbr_machine.specs.Accounts.{incarnations_after, just, own_entries}
use Rattle.vbr_machine.specs.Agreement.{IsHeldIncarnation}
use Rattle.vbr_machine.specs.Chronicles.{Replaces}
use Rattle.vbr_machine.specs.Incarnations.{Incarnations, last_in}
use Rattle.vbr_machine.specs.Removals.{ReplacedAt}
use Rattle.vbr_machine.specs.Sound.{IsRemoved}
use Rattle.vbr_machine.specs.declared.event.Event.{Event}
use Rattle.vbr_machine.specs.Acceptance.{IsAtIn, IsInHand, Accepts}
use Rattle.vbr_machine.specs.Knowledge.{Know}
use Rattle.vbr_machine.specs.Learning.{call_ahead, call_of, key_in_hand, link_in_hand, link_written, birth_in_hand}
use Rattle.vbr_machine.specs.Learning.{reads_won, value_in_hand, value_read, with_checked, with_own}
use Rattle.vbr_machine.specs.Links.{link_to, marked}
use Rattle.vbr_machine.specs.Machine.{found}
use Rattle.vbr_machine.specs.Membership.{BirthAt, BirthNamed, KeyAt, Knows, MayReplaceKnown}
use Rattle.vbr_machine.specs.Opened.{payload_kept}
use Rattle.vbr_machine.specs.Runs.{IsRun, know_after, world_after}
use Rattle.vbr_machine.specs.declared.event.Step.TheVariants.{Replace}
use Rattle.vbr_machine.specs.declared.history.Call.{Call}
use Rattle.vbr_machine.specs.declared.history.Op.TheVariants.{Insert, Remove}
use Rattle.vbr_machine.specs.declared.knowledge.Holding.{Holding}
use Rattle.vbr_machine.specs.declared.knowledge.Read.TheVariants.{BirthOf, KeyOf, LinkAt, ValueOf}
use Rattle.vbr_machine.proofs.Lemmas.{begins_trans, calls-snoc, calls_since, is_run_before, is_run_last, known_accepts}
use Rattle.vbr_machine.proofs.Lemmas.{marked_call_is, others_leave_know, replaced_earlier, replaced_entry, replaced_out}
use Rattle.vbr_machine.proofs.Lemmas.{calls_added, written_is}
use Rattle.vbr_slots.specs.steps.Calls.{Quiet, entries_of, made_by}
use Rattle.vbr_slots.specs.steps.Expected.{ReplacesNode}
use Rattle.vbr_slots.specs.steps.PassLaw.{PassLaw}
use Rattle.vbr_slots.specs.views.Views.{Did, PassView, Trace, event_of, knows}
use Rattle.vbr_slots.proofs.Lemmas.{did_calls, did_entries, did_moment, did_run, did_same, did_seen, quiet_on, same_on}
use Rattle.vbr_at_table.specs.costs.StepKinds.{ChangesNone}
use Rattle.vbr_at_table.specs.answers.Exchanges.{LosesExchange, StoresIn}
use Rattle.vbr_at_table.specs.reads.Held.{IsFilled, IsHeld}
use Rattle.vbr_at_table.specs.reads.KeptKnowledge.{Keeps}
use Rattle.vbr_at_table.specs.hands.KeptSlots.{TakesNoSlot}
use Rattle.vbr_at_table.specs.reads.Moments.{WasFound}
use Rattle.vbr_at_table.specs.answers.Replacing.{MadeTwo, ReplacesHeld}
use Rattle.vbr_at_table.specs.answers.Values.{ValueAt, entry_call}
use Rattle.vbr_at_table.specs.declared.held.Held.{Held}
use Rattle.vbr_at_table.specs.declared.rollback.Rollback.TheVariants.{LostExchange}
use Rattle.vbr_at_table.proofs.steps.Accepted.{place_in}
use Rattle.vbr_at_table.proofs.epochs.Advancing.{did_free}
use Rattle.vbr_at_table.proofs.own_slots.KeptSlots.{spent_kept}
use Rattle.vbr_at_table.proofs.reads.KeptKnowledge.{held_kept, keeps_on, keeps_refl}
use Rattle.vbr_at_table.proofs.exchanges.ExchangeCalls.{run_after}
use Rattle.vbr_at_table.proofs.exchanges.MarkedLinks.{leaves_since, replaced_leaves}
use Rattle.vbr_at_table.proofs.steps.MadeCalls.{failed, other, replace_adds_none}
use Rattle.vbr_at_table.proofs.reads.Moments.{found_after, lost, won}
use Rattle.vbr_at_table.proofs.answers.NoValues.{kept_same, value_asked}
use Rattle.vbr_at_table.proofs.steps.Unchanged.{unchanged_by_none, unchanged_on}
use Rattle.vbr_at_table.proofs.exchanges.Storing.{stores_last}
use Rattle.vbr_at_table.proofs.exchanges.WonExchanges.{lost_test, more_keeps, more_new, won_test}
use Rattle.vbr_at_table.proofs.own_slots.SlotsAside.{keeps_aside, spent_aside}

-- ---- the step is accepted

module _ (p : PassView) (sound : PassLaw p) (node : Held) (s t key birth next : ℕ) (h : IsHeld (knows p.trace) node)
    (place_is : node.at ≡ Slot s)
    (f : IsFilled ((knows p.trace).own t) birth key (link_to (link_of node.word).slot birth next)) where
  in_hand : IsInHand ((knows p.trace).own t)
  in_hand = let P : Option Holding → Type 0 = IsInHand in subst P (sym f.holding_is) tt

  pub replace_accepted : (value old : ℕ) → p.trace.start.shape.values ≡ true →
      value_in_hand ((knows p.trace).own t) ≡ Some value → (link_of node.word).mark ≡ false →
      t < p.trace.start.shape.slots → BirthNamed (knows p.trace) (link_of node.word).slot next →
      KeyAt (knows p.trace) node.at key → ValueAt (knows p.trace) node.at old →
      Accepts p.trace.start (knows p.trace) (Replace s node.word t)
  replace_accepted value old has valued unmarked low named k v =
      let P : Option Holding → Type 0 = MayReplaceKnown p.trace.start (knows p.trace) s (link_of node.word) in
      let I : At → Type 0 = IsAtIn p.trace.start in
      let L : At → Type 0 = λ i. Knows (knows p.trace) (LinkAt i (link_of node.word)) in
      let B : At → Type 0 = λ i. BirthAt (knows p.trace) i node.birth in
      let K : At → Type 0 = λ i. KeyAt (knows p.trace) i key in
      let V : At → Type 0 = λ i. ValueAt (knows p.trace) i old in
      known_accepts p.trace.start p.trace.passes p.trace.seen sound.start sound.is_run p.trace.who
      (Replace s node.word t) (record {
        in_shape = (subst I place_is (place_in p sound node h), low, has);
        owned = in_hand;
        known = (subst L place_is h.link, (node.birth, subst B place_is h.birth), (old, subst V place_is v));
        in_range = (
          unmarked,
          subst P (sym f.holding_is) (record {
            key = key;
            key_known = subst K place_is k;
            key_is = f.key_is;
            named = next;
            named_known = named;
            link_is = f.link_is ∙ ap (λ (b : ℕ). Some (link_to (link_of node.word).slot b next)) (sym f.birth_is);
            valued = value_asked p.trace.start.shape.values f.known.value value
                (λ w. sym (ap value_in_hand f.holding_is) ∙ valued);
          }),
        );
        below_last = tt;
      })

  -- and the link that it writes
  replace_written : link_written (knows p.trace) (Replace s node.word t) ≡ marked (link_to (Some t) node.birth birth)
  replace_written =
      let B : At → Type 0 = λ i. BirthAt (knows p.trace) i node.birth in
      written_is p.trace.start p.trace.passes p.trace.seen sound.start sound.is_run p.trace.who (Replace s node.word t)
      (marked (link_to (Some t) node.birth (birth_in_hand ((knows p.trace).own t))))
      (node.birth, subst B place_is h.birth, refl)
      ∙ ap (λ (o : Option Holding). marked (link_to (Some t) node.birth (birth_in_hand o))) f.holding_is
      ∙ ap (λ (b : ℕ). marked (link_to (Some t) node.birth b)) f.birth_is

  pub replace_writes : {own word : ℕ} → word ≡ word_of (marked (link_to (Some t) node.birth own)) → own ≡ birth →
      word ≡ word_of (link_written (knows p.trace) (Replace s node.word t))
  replace_writes is same = is ∙ ap (λ (b : ℕ). word_of (marked (link_to (Some t) node.birth b))) same
      ∙ ap word_of (sym replace_written)

-- ---- its calls

-- a step that succeeds makes both
both_made : {s expected t : ℕ} {p q : Trace} → Did (Replace s expected t) p q expected → (first second : Call) →
    call_ahead p.start p.who (knows p) (Replace s expected t) ≡ Some first →
    call_of p.start p.who (knows p) (Replace s expected t) ≡ Some second → MadeTwo first second p q
both_made {s} {expected} {t} {p} {q} d first second a b =
    let w = world_after p.start (p.seen ++ d.rest) in
    let test = eq-eqb (found p.start w (Replace s expected t)) expected (won expected _ d.shows.answers) in
    let same = others_leave_know p.start p.seen d.rest p.who d.none in
    let ahead = ap (λ (k : Know). call_ahead p.start p.who k (Replace s expected t)) same ∙ a in
    let then = ap (λ (k : Know). call_of p.start p.who k (Replace s expected t)) same ∙ b in
    let added : calls_added p.start w p.who (Replace s expected t) ≡ first ∷ second ∷ [] = (
    (λ i. option_to_list (cond (test i) (call_ahead p.start p.who (w.know p.who) (Replace s expected t)) None)
    ++ option_to_list (cond (test i) (call_of p.start p.who (w.know p.who) (Replace s expected t)) None))
    ∙ (λ i. option_to_list (ahead i) ++ option_to_list (then i))) in
    let others = calls_since p.start p.seen (p.seen ++ d.rest) (d.rest, refl) in
    record {
      same = did_same d;
      seen = did_seen d;
      is_run = did_run d;
      calls = did_calls d ∙ ap (λ l. made_by p ++ l) added;
      together = record {
        others = others.0;
        later = [];
        calls = (λ i. (world_after (d.same.1 i) (d.seen i)).calls)
            ∙ calls-snoc p.start (p.seen ++ d.rest) (event_of p.who (Replace s expected t))
            ∙ (λ i. others.1 i ++ added i);
      };
    }

pub replace_made : {q : Trace} {s expected t birth key value old : ℕ} {link : Link} (p : Trace) → IsStart p.start →
    IsRun p.start p.passes p.seen → p.start.shape.values ≡ true → IsFilled ((knows p).own t) birth key link →
    value_in_hand ((knows p).own t) ≡ Some value → Knows (knows p) (KeyOf s key) → Knows (knows p) (ValueOf s old) →
    Did (Replace s expected t) p q expected
    → MadeTwo (entry_call p.start p.who Remove key true old) (entry_call p.start p.who Insert key true value) p q
replace_made {q} {s} {expected} {t} {birth} {key} {value} {old} {link} p start run has f valued k v d =
    both_made d _ _ (marked_call_is p.start p.passes p.seen start run p.who s expected key old k (λ w. v))
    (ap (λ (o : Option Holding).
    Some (record {
      who = p.who;
      op = Insert;
      key = key_in_hand o;
      reply = true;
      value = payload_kept p.start (value_in_hand o);
    })) f.holding_is
    ∙ ap (λ (o : Option ℕ).
    Some (record {
      who = p.who;
      op = Insert;
      key = unwrap_or o 0;
      reply = true;
      value = payload_kept p.start f.known.value;
    })) f.key_is
    ∙ ap (λ (u : Option ℕ). Some (record { who = p.who; op = Insert; key = key; reply = true; value = u }))
    (kept_same p.start.shape.values f.known.value value (λ w. sym (ap value_in_hand f.holding_is) ∙ valued)))

-- so it is where steps that make no call came before
pub two_on : {first second : Call} {p q r : Trace} → Quiet p q → MadeTwo first second q r → MadeTwo first second p r
two_on {first} {second} {p} {q} {r} a b =
    let before = calls_since p.start p.seen q.seen a.seen in
    let others = b.together.others in
    record {
      same = same_on a.same b.same;
      seen = begins_trans p.seen q.seen r.seen a.seen b.seen;
      is_run = b.is_run;
      calls = b.calls ∙ ap (λ l. l ++ first ∷ second ∷ []) a.calls;
      together = record {
        others = before.0 ++ others;
        later = b.together.later;
        calls = b.together.calls
            ∙ (λ i. ((world_after (a.same.start i) q.seen).calls ++ others) ++ first ∷ second ∷ b.together.later)
            ∙ ap (λ l. (l ++ others) ++ first ∷ second ∷ b.together.later) before.1
            ∙ ap (λ l. l ++ first ∷ second ∷ b.together.later)
            (append_assoc (world_after p.start p.seen).calls before.0 others);
      };
    }

-- and where such steps came after
pub two_before : {first second : Call} {p q r : Trace} → MadeTwo first second p q → Quiet q r → MadeTwo first second p r
two_before {first} {second} {p} {q} {r} a b =
    let more = calls_since q.start q.seen r.seen b.seen in
    let front = (world_after p.start p.seen).calls ++ a.together.others in
    record {
      same = same_on a.same b.same;
      seen = begins_trans p.seen q.seen r.seen a.seen b.seen;
      is_run = b.is_run a.is_run;
      calls = b.calls ∙ a.calls;
      together = record {
        others = a.together.others;
        later = a.together.later ++ more.0;
        calls = (λ i. (world_after (b.same.start i) r.seen).calls)
            ∙ more.1
            ∙ ap (λ l. l ++ more.0) a.together.calls
            ∙ append_assoc front (first ∷ second ∷ a.together.later) more.0;
      };
    }

-- ---- what it teaches

first_in : {X : Type 0} (x : X) (rest : List X) → Contains (x ∷ rest) x
first_in x rest = (0, omega arith, refl)

module _ {p q : Trace} {s expected t : ℕ} (d : Did (Replace s expected t) p q expected) where
  pub replace_learned : knows q ≡ with_own (with_checked (knows p) (reads_won (knows p) (Replace s expected t))) t None
  replace_learned = d.know ∙ won_test expected _ (knows p)

  pub replace_keeps : Keeps (knows p) (knows q)
  replace_keeps =
      more_keeps (knows p) (knows q) _ (ap (λ (k : Know). k.epoch) replace_learned)
      (ap (λ (k : Know). k.checked) replace_learned)

  pub replace_known : Knows (knows q) (LinkAt (Slot s) (link_written (knows p) (Replace s expected t)))
  replace_known =
      more_new (knows p) (knows q) (reads_won (knows p) (Replace s expected t))
      (ap (λ (k : Know). k.checked) replace_learned) (LinkAt (Slot s) (link_written (knows p) (Replace s expected t)))
      (first_in _ (BirthOf t (birth_in_hand ((knows p).own t)) ∷ KeyOf t (key_in_hand ((knows p).own t))
      ∷ LinkAt (Slot t) (link_in_hand ((knows p).own t)) ∷ value_read t (value_in_hand ((knows p).own t))))

-- ---- the slots of the pass

-- the slot that takes the place goes out of the hand, and the others stay
replace_none : (p q : PassView) {s expected slot : ℕ} → Did (Replace s expected slot) p.trace q.trace expected →
    p.hand ≡ Some slot → q.pool ≡ p.pool → q.hand ≡ None → TakesNoSlot p q
replace_none p q {slot = slot} d hand pool spent =
    did_free d refl pool (spent_kept p q slot (λ i. ap (λ (k : Know). k.own i) (replace_learned d)) hand pool)
    (keeps_aside d (inr hand) (spent_aside p q pool spent))

-- so a call that stores ends with it
pub replace_stores : {p q r : PassView} {m s expected slot : ℕ} → StoresIn p q m → ReplacesNode s expected slot q r →
    q.hand ≡ Some slot → StoresIn p r (m + 1)
replace_stores {q = q} {r = r} stores found hand =
    stores_last stores found.did (replace_keeps found.did) found.pool
    (replace_none q r found.did hand found.pool found.hand)

-- ---- a lost one

pub replace_failed : {s expected t word : ℕ} {p q : Trace} → Did (Replace s expected t) p q word → word ≢ expected →
    Quiet p q
replace_failed {s} {expected} {t} {word} d ne =
    failed d (other expected word _ ne (lost expected word _ ne d.shows.answers))

pub replace_lost_keeps : {p q : Trace} {s expected t word : ℕ} → Did (Replace s expected t) p q word → word ≢ expected →
    Keeps (knows p) (knows q)
replace_lost_keeps {p} {q} {s} {expected} {t} {word} d ne =
    rw (d.know ∙ lost_test word expected _ (knows p) ne) (keeps_refl (knows p))

replace_found : {s expected t word : ℕ} {p q : Trace} → Did (Replace s expected t) p q word → word ≢ expected →
    WasFound p q (Slot s) word
replace_found {s} {expected} {t} {word} {p} d ne =
    record { moment = p.seen ++ d.rest; within = did_moment d; found = lost expected word _ ne d.shows.answers }

pub replace_lost : {p q r : Trace} {s t word : ℕ} (node : Held) → node.at ≡ Slot s → IsStart q.start → Quiet p q →
    ChangesNone p q → Keeps (knows p) (knows q) → Did (Replace s node.word t) q r word → word ≢ node.word →
    LosesExchange p r node (LostExchange word)
replace_lost {q = q} {r = r} {word = word} node place_is start fill same keeps d ne = record {
  quiet = quiet_on fill (replace_failed d ne);
  lost = (
    ne,
    found_after fill
        (let P : At → Type 0 = λ i. WasFound q r i word in subst P (sym place_is) (replace_found d ne)),
    keeps_on keeps (replace_lost_keeps d ne),
  );
  unchanged = unchanged_on same
      (unchanged_by_none start (run_after start d) (did_same d) (did_seen d) (replace_adds_none d ne));
}

-- ---- the node that is replaced

-- it was replaced by the step, and is held at its slot
pub replaced_at : {p q : Trace} {s expected t : ℕ} → IsStart p.start → (epoch : ℕ) → (knows p).epoch ≡ epoch →
    Did (Replace s expected t) p q expected → ReplacedAt p.start p.seen q.seen p.who epoch s
replaced_at {p} {q} {s} {expected} {t} is epoch same d =
    let before = p.seen ++ d.rest in
    let event = event_of p.who (Replace s expected t) in
    let P : List Event → Type 0 = IsRun p.start p.passes in
    let run = subst P d.seen d.is_run in
    let ok = is_run_before p.start p.passes before (event ∷ []) run in
    let found_it = won expected _ d.shows.answers in
    let a = incarnations_after p.start before in
    let out = replaced_out p.start p.passes before is ok p.who s expected t found_it
    (is_run_last p.start p.passes before event run).1 in
    let known : (know_after p.start before p.who).epoch ≡ epoch =
    ap (λ (k : Know). k.epoch) (others_leave_know p.start p.seen d.rest p.who d.none) ∙ same in
    let H : Incarnations × ℕ → Type 0 = λ x. IsHeldIncarnation x.0 x.1 s (last_in a s) in
    let R : Incarnations → Type 0 = λ i. IsRemoved (i.state (last_in a s)) in
    record {
      node = last_in a s;
      replaced = record {
        since = just p.who (Replaces (last_in a s) (last_in a t));
        adds = sym (λ i. own_entries (d.same.1 i) q.seen (d.same.3 i)) ∙ did_entries d
            ∙ ap (λ l. entries_of p ++ l) (replaced_entry p.start p.passes before is ok p.who s expected t found_it);
        by = last_in a t;
        among = (0, omega arith, refl);
      };
      held = subst H (λ i. (incarnations_after p.start (sym d.seen i), known i)) out.0;
      removed = subst R (λ i. incarnations_after p.start (sym d.seen i)) out.1;
    }

-- so it was since what made no call
pub replaced_since : {epoch s : ℕ} (p q r : Trace) → IsStart p.start → Quiet p q →
    ReplacedAt q.start q.seen r.seen q.who epoch s → ReplacedAt p.start p.seen r.seen p.who epoch s
replaced_since {epoch} {s} p q r is quiet x =
    let P : Start → Type 0 = λ start. ReplacedAt start q.seen r.seen q.who epoch s in
    let Q : ℕ → Type 0 = λ who. ReplacedAt p.start q.seen r.seen who epoch s in
    let y = subst Q quiet.same.who (subst P quiet.same.start x) in
    record {
      node = y.node;
      replaced = replaced_earlier p.start p.passes is p.seen q.seen r.seen p.who y.node quiet.seen y.replaced;
      held = y.held;
      removed = y.removed;
    }

-- ---- a won one, after what filled the hand

module _ (p q r : PassView) (node : Held) (s t key birth next value word : ℕ) (start : IsStart p.trace.start)
    (law : PassLaw q) (fill : Quiet p.trace q.trace) (keeps : Keeps (knows p.trace) (knows q.trace))
    (h : IsHeld (knows q.trace) node) (place_is : node.at ≡ Slot s)
    (f : IsFilled ((knows q.trace).own t) birth key (link_to (link_of node.word).slot birth next)) where
  pub replace_told : ChangesNone p.trace q.trace → q.trace.start.shape.values ≡ true →
      value_in_hand ((knows q.trace).own t) ≡ Some value → KeyAt (knows p.trace) node.at key →
      link_of word ≡ marked (link_to (Some t) node.birth birth) →
      Did (Replace s node.word t) q.trace r.trace node.word → r.hand ≡ None
      → ReplacesHeld p r node key value (record { slot = s; birth = node.birth; word = word; epoch = node.epoch })
  replace_told none has valued k link d spent =
      let K : At → Type 0 = λ i. KeyAt (knows p.trace) i key in
      let B : At → Type 0 = λ i. BirthAt (knows r.trace) i node.birth in
      let L : Link → Type 0 = λ l. Knows (knows r.trace) (LinkAt (Slot s) l) in
      let now = held_kept node (replace_keeps d) h in
      record {
        made = λ old v.
            let V : At → Type 0 = λ i. ValueAt (knows p.trace) i old in
            let C : ℕ → Start → Type 0 =
            λ who start.
            MadeTwo (entry_call start who Remove key true old) (entry_call start who Insert key true value) p.trace
            r.trace in
            let one : C q.trace.who q.trace.start =
            two_on fill (replace_made q.trace law.start law.is_run has f valued
            (keeps.reads (KeyOf s key) (subst K place_is k)) (keeps.reads (ValueOf s old) (subst V place_is v)) d) in
            let D : Start → Type 0 = C q.trace.who in
            let E : ℕ → Type 0 = λ who. C who p.trace.start in
            subst E fill.same.who (subst D fill.same.start one);
        place = sym place_is;
        held = record {
          held = record {
            epoch = now.epoch;
            link = subst L (replace_written q law node s t key birth next h place_is f ∙ sym link) (replace_known d);
            birth = subst B place_is now.birth;
          };
          mark = ap (λ (l : Link). l.mark) link;
        };
        spent = spent;
        old = replaced_since p.trace q.trace r.trace start fill
            (replaced_at law.start (knows r.trace).epoch (sym ((replace_keeps d).epoch)) d);
        leaves = leaves_since node fill none (replaced_leaves node law.start place_is d);
      }

-- ---- what was known stays known

pub key_on : {know later : Know} (i : At) (key : ℕ) → Keeps know later → KeyAt know i key → KeyAt later i key
key_on (Head b) key keeps k = k
key_on (Slot s) key keeps k = keeps.reads (KeyOf s key) k

pub value_on : {know later : Know} (i : At) (value : ℕ) → Keeps know later → ValueAt know i value →
    ValueAt later i value
value_on (Head b) value keeps v = v
value_on (Slot s) value keeps v = keeps.reads (ValueOf s value) v
