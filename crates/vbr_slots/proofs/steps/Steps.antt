-- A step of a runner at its table: what the table asks, and what the runner then knows.
use Rattle.std.proofs.Common.{Bool, ◌≡◌, ◌≢◌, ℕ, ◌<◌, ◌≤◌, List, [], ◌∷◌, ◌++◌, refl, sym, ap, ◌∙◌, subst, arith}
use Rattle.atomic_table.specs.Table.{Me, Allows}
use Rattle.atomic_table.specs.Seated.{TableId}
use Rattle.atomic_table.specs.declared.shared.Seat.{Seat}
use Rattle.vbr_machine.specs.Start.{Start, IsStart}
use Rattle.vbr_words.specs.Dimensions.{Dimensions}
use Rattle.vbr_words.specs.Packing.{slot_bits, unpacked}
use Rattle.vbr_words.specs.declared.link.TheConstants.{SLOT_BITS}
use Rattle.vbr_words.specs.Places.{index_of, place_of, words_in}
use Rattle.vbr_words.specs.declared.place.At.{At}
use Rattle.vbr_words.specs.declared.place.At.TheVariants.{Head, Slot}
use Rattle.vbr_words.specs.declared.place.Place.{Place}
use Rattle.vbr_words.proofs.Lemmas.{index_of-lt, slot_bits-wide}
use Rattle.vbr_slots.specs.words.WideWords.{wide_in}
use Rattle.vbr_machine.specs.Acceptance.{Accepts}
use Rattle.vbr_machine.specs.Knowledge.{Know}
use Rattle.vbr_machine.specs.Learning.{learn}
use Rattle.vbr_machine.specs.Machine.{access_of, found, place_of_step, stamp_shown}
use Rattle.vbr_machine.specs.Runs.{IsRun, world_after, know_after, NoneOf}
use Rattle.vbr_machine.specs.declared.event.Event.{Event}
use Rattle.vbr_machine.specs.declared.event.Step.{Step}
use Rattle.vbr_machine.specs.declared.event.Step.TheVariants.{ReadEpoch}
use Rattle.vbr_machine.proofs.Lemmas.{know_after-snoc, others_leave_know, place_in}
use Rattle.vbr_slots.specs.declared.rule.Witness.{Witness}
use Rattle.vbr_slots.specs.runs.TableStart.{TableStart}
use Rattle.vbr_slots.specs.declared.rule.Opening.{Opening}
use Rattle.vbr_slots.specs.declared.runner.Runner.TheInside.{Inside as RunnerInside}
use Rattle.vbr_slots.specs.declared.slots.Slots.TheInside.{Inside as SlotsInside}
use Rattle.vbr_slots.specs.runs.Rule.{with_opened, Kept, Told, Caught, Shows, witness, nobody, times, first_opened}
use Rattle.vbr_slots.specs.runs.Rule.{first_seen, head_of, tail_of, EachBegins, opened_of}
use Rattle.vbr_slots.specs.views.Views.{Trace, TableView, IsOf, Did, knows, event_of, epoch_after, steps_in}
use Rattle.vbr_slots.specs.steps.Stepping.{NamesStep, opening_of}
use Rattle.vbr_slots.specs.Tokens.{Since}
use Rattle.vbr_slots.specs.views.RunnerView.{start_of, trace_of_runner, seen_of, IsSoundRunner}
use Rattle.vbr_slots.specs.views.SlotsView.{start_in, table_of, IsBuilt}
use Rattle.vbr_slots.proofs.steps.Calls.{steps_next, steps_left}
use Rattle.vbr_slots.proofs.steps.Keeps.{plays_as, catches_as}
use Rattle.vbr_slots.proofs.words.Packed.{Tells, Writes}
use Rattle.vbr_slots.proofs.steps.Learning.{epoch_learned}

-- a seat's view, and the slots of the table that it has taken
abbrev pub Sat : Type 0
Sat = Me (Unit {0}) (List Witness)

-- the seat of a runner
pub known : (p : RunnerInside) (w : Trace) → IsSoundRunner p → trace_of_runner p ≡ w →
    p.seat.me ≡ (witness (opened_of w.start) w.who w.seen ∷ [], [])
known p w sound is = sound.alone ∙ ap (λ (v : Trace). (witness (opened_of v.start) v.who v.seen ∷ [], [])) is

pub low_of : (p : RunnerInside) (w : Trace) → IsSoundRunner p → trace_of_runner p ≡ w → w.who < w.passes
low_of p w sound is = subst (λ (v : Trace). v.who < v.passes) is sound.low

pub seen_in : (me : Sat) (v : Witness) (others : List Witness) → me ≡ (v ∷ others, []) → first_seen me.0 ≡ v.seen
seen_in me v others is = ap (λ (m : Sat). first_seen m.0) is

-- what a step on the word asks
pub asks : {N : Type 0} {values : Bool} (t : SlotsInside N) (table : TableView) → IsBuilt values t →
    table_of t ≡ table → (w : Trace) → w.who < w.passes → IsOf w table → (z : TableId) → z ≡ w.table →
    (id : ℕ) (me : Sat) (others : List Witness)
    → me ≡ (witness (opened_of w.start) w.who w.seen ∷ others, []) → (step : Step) (e : Event) (opening : TableStart) →
    NamesStep e opening w table step → (place : Place) (word : ℕ) (f g : ℕ → ℕ) →
    word ≡ index_of t.opening.shape place → place ≡ place_of_step step
    → Writes t.opening.shape place (access_of (knows w) step) f → Tells t.opening.shape place step g →
    Accepts table.start (knows w) step
    → (z ≡ t.table.shared.table_id) × (word < t.table.shared.table_id.words) ×
    Allows (Kept t.table.shared.key) t.table.shared.table_id.slots id me word f (λ r. Told opening e me (g r))
asks t table built t_is w low own z z_is id me others is step e opening named place word f g at_place place_is does same
    ok =
    let d : Event = event_of w.who step in
    let o : TableStart = record { start = w.start; passes = w.passes } in
    let mine : o ≡ opening_of table = λ i. record { start = own.1 i; passes = own.2 i } in
    let here : o ≡ t.table.shared.key = mine ∙ sym (ap opening_of t_is) ∙ sym built.key in
    let start : w.start ≡ start_in t = own.1 ∙ sym (ap (λ (q : TableView). q.start) t_is) in
    let accepted : Accepts w.start (knows w) step = subst (λ (x : Start). Accepts x (knows w) step) (sym own.1) ok in
    let index_is : word ≡ index_of w.start.shape (place_of_step step) =
    at_place ∙ (λ i. index_of (sym start i).shape (place_is i)) in
    let size : words_in w.start.shape ≡ t.table.shared.table_id.words =
    ap (λ (s : Start). words_in s.shape) start ∙ sym built.words in
    let in_table : index_of w.start.shape (place_of_step step) < words_in w.start.shape =
    index_of-lt w.start.shape (place_of_step step) (place_in w.start step accepted.in_shape) in
    let is_start : IsStart w.start = subst IsStart (sym start) built.start in
    let few : w.passes ≤ nobody =
    subst (λ (n : ℕ). n ≤ nobody) (ap (λ (q : TableView). q.passes) t_is ∙ sym own.2) built.few in
    let apart : w.who ≢ nobody = λ same_number. absurd (omega (arith, low, few, same_number)) in
    let plain : Allows (Kept o) t.table.shared.table_id.slots id me word f (λ r. Told o d me (g r)) =
    plays_as o is_start t.table.shared.table_id.slots id d w.seen others [] me word f g is low apart index_is
    (subst (λ (x : Dimensions × Place). Writes x.0 x.1 (access_of (knows w) step) f)
    (λ i. ((sym start i).shape, place_is i)) does)
    (subst (λ (x : Dimensions × Place). Tells x.0 x.1 step g) (λ i. ((sym start i).shape, place_is i)) same)
    accepted in (
      z_is ∙ (own.0 ∙ sym (ap (λ (q : TableView). q.table) t_is)),
      omega (arith, index_is, size, in_table),
      subst (λ (x : TableStart × Event × TableStart).
          Allows (Kept x.0) t.table.shared.table_id.slots id me word f (λ r. Told x.2 x.1 me (g r)))
          (λ i. (here i, sym named.event_is i, (mine ∙ sym named.opening_is) i)) plain,
    )

-- what it asks of a runner that is alone in its seat
pub asks_alone : {N : Type 0} {values : Bool} {t : SlotsInside N} {table : TableView} {p : RunnerInside} {w : Trace}
    {step : Step} {e : Event} {opening : TableStart}
    → IsBuilt values t → table_of t ≡ table → IsSoundRunner p → trace_of_runner p ≡ w → IsOf w table →
    NamesStep e opening w table step → (id : ℕ) (place : Place) (word : ℕ) (f g : ℕ → ℕ) →
    word ≡ index_of t.opening.shape place → place ≡ place_of_step step
    → Writes t.opening.shape place (access_of (knows w) step) f → Tells t.opening.shape place step g →
    Accepts table.start (knows w) step
    → (p.seat.table_id ≡ t.table.shared.table_id) × (word < t.table.shared.table_id.words) ×
    Allows (Kept t.table.shared.key) t.table.shared.table_id.slots id p.seat.me word f
    (λ r. Told opening e p.seat.me (g r))
asks_alone {N} {values} {t} {table} {p} {w} {step} {e} {opening} built t_is sound is own named id place word f g
    at_place place_is does same ok =
    asks t table built t_is w (low_of p w sound is) own p.seat.table_id (ap (λ (v : Trace). v.table) is) id p.seat.me []
    (known p w sound is) step e opening named place word f g at_place place_is does same ok

-- what is known after the step
pub record Done (w : Trace) (step : Step) (r : ℕ) (others : List Witness) (n : Sat) : Type 0 where
  pub rest : List Event
  pub none : NoneOf w.who rest
  pub run : List Event
  pub run_is : run ≡ (w.seen ++ rest) ++ event_of w.who step ∷ []
  pub now : n ≡ (witness (opened_of w.start) w.who run ∷ others, [])
  pub is_run : IsRun w.start w.passes run
  pub shows : Shows step r (found w.start (world_after w.start (w.seen ++ rest)) step)
  pub know : know_after w.start run w.who
      ≡ learn step r (stamp_shown (world_after w.start (w.seen ++ rest)) step) (knows w)
  pub mates : EachBegins run others

pub done : (w : Trace) (table : TableView) → IsOf w table → (me n : Sat) (others : List Witness) →
    me ≡ (witness (opened_of w.start) w.who w.seen ∷ others, []) → (step : Step) (e : Event) (opening : TableStart) →
    NamesStep e opening w table step
    → (r : ℕ) → Told opening e me r n → Done w step r others n
done w table own me n others is step e opening named r told =
    let d : Event = event_of w.who step in
    let o : TableStart = record { start = w.start; passes = w.passes } in
    let mine : opening_of table ≡ o = λ i. record { start = sym own.1 i; passes = sym own.2 i } in
    let here : Told o d (witness (opened_of w.start) w.who w.seen ∷ others, []) r n =
    subst (λ (x : TableStart × Event × Sat). Told x.0 x.1 x.2 r n)
    (λ i. ((named.opening_is ∙ mine) i, named.event_is i, is i)) told in record {
      rest = here.rest;
      none = here.none;
      run = (w.seen ++ here.rest) ++ d ∷ [];
      run_is = refl;
      now = here.now;
      is_run = here.is_run;
      shows = here.shows;
      know = know_after-snoc w.start w.seen here.rest d here.none
          ∙ sym (here.shows.teaches (stamp_shown (world_after w.start (w.seen ++ here.rest)) step) (knows w));
      mates = here.others;
    }

-- a runner that has kept its opening and what its seat says that the table opened with has the same start
same_start : (p : RunnerInside) (w : Trace) → trace_of_runner p ≡ w → (opening : Opening) → opening ≡ p.opening →
    (me : Sat) (v : Witness) (others : List Witness) → me ≡ (v ∷ others, []) → v.opened ≡ opened_of w.start →
    with_opened opening.shape (first_opened me.0) ≡ w.start
same_start p w p_is opening opening_is me v others is opened =
    (λ i. with_opened (opening_is i).shape ((ap (λ (m : Sat). first_opened m.0) is ∙ opened) i))
    ∙ (λ i. with_opened (ap (λ (v : Trace). v.start.shape) p_is i) (opened_of w.start))

-- a runner that has a seat of its own, in which its pass has seen this run, and that kept its number and its opening
module _ (p : RunnerInside) (w : Trace) (p_is : trace_of_runner p ≡ w) (run : List Event) (q : RunnerInside)
    (is : q.seat.me ≡ (witness (opened_of w.start) w.who run ∷ [], [])) (who : q.who ≡ p.who)
    (opening : q.opening ≡ p.opening) where
  seen_now : seen_of q ≡ run
  seen_now = seen_in q.seat.me _ [] is

  who_is : q.who ≡ w.who
  who_is = who ∙ ap (λ (v : Trace). v.who) p_is

  start_is : start_of q ≡ w.start
  start_is = same_start p w p_is q.opening opening q.seat.me _ [] is refl

  passes_is : q.opening.passes ≡ w.passes
  passes_is = ap (λ (o : Opening). o.passes) opening ∙ ap (λ (v : Trace). v.passes) p_is

  -- what contracts see of it
  trace_is : q.seat.table_id ≡ w.table → trace_of_runner q ≡ record w { seen = run }
  trace_is table i =
      record { table = table i; start = start_is i; passes = passes_is i; who = who_is i; seen = seen_now i }

  sound_in : IsSoundRunner p → IsRun w.start w.passes run → q.epoch ≡ (know_after w.start run w.who).epoch →
      IsSoundRunner q
  sound_in sound is_run epoch = record {
    alone = is ∙ (λ i. (witness (opened_of (sym start_is i)) (sym who_is i) (sym seen_now i) ∷ [], []));
    low = subst (λ (x : ℕ × Opening). x.0 < x.1.passes) (λ i. (sym who i, sym opening i)) sound.low;
    start = subst IsStart (ap (λ (v : Trace). v.start) p_is ∙ sym start_is) sound.start;
    is_run = subst (λ (x : Start × ℕ × List Event). IsRun x.0 x.1 x.2)
        (λ i. (sym start_is i, sym passes_is i, sym seen_now i)) is_run;
    epoch = epoch ∙ sym (λ i. (know_after (start_is i) (seen_now i) (who_is i)).epoch);
  }

-- the runner after the step
module _ (p : RunnerInside) (w : Trace) (sound : IsSoundRunner p) (p_is : trace_of_runner p ≡ w) (step : Step) (r : ℕ)
    (others : List Witness) (n : Sat) (end : Done w step r others n) (q : RunnerInside)
    (is : q.seat.me ≡ (witness (opened_of w.start) w.who end.run ∷ [], []))
    (fields : (q.who ≡ p.who) × (q.opening ≡ p.opening) × (q.epoch ≡ epoch_after step r p.epoch)) where
  pub stays_sound : IsSoundRunner q
  stays_sound =
      sound_in p w p_is end.run q is fields.0 fields.1 sound end.is_run
      (fields.2 ∙ ap (epoch_after step r) (sound.epoch ∙ ap (λ (v : Trace). (knows v).epoch) p_is)
      ∙ sym (epoch_learned step r _ (knows w)) ∙ sym (ap (λ (k : Know). k.epoch) end.know))

  pub did : q.seat.table_id ≡ p.seat.table_id → Did step w (trace_of_runner q) r
  did table = subst (λ (t : Trace). Did step w t r)
      (sym (trace_is p w p_is end.run q is fields.0 fields.1 (table ∙ ap (λ (v : Trace). v.table) p_is))) (record {
        rest = end.rest;
        none = end.none;
        seen = end.run_is;
        is_run = end.is_run;
        shows = end.shows;
        know = end.know;
        same = (refl, refl, refl, refl);
        steps = ap (steps_in w.who) end.run_is ∙ steps_next w.who w.seen end.rest step end.none;
      })

-- a runner that made a step alone in its seat, whose seat and epoch alone are new
module _ (p : RunnerInside) (w : Trace) (table : TableView) (step : Step) (e : Event) (opening : TableStart) (r : ℕ)
    (seat : Seat (Unit {0}) (List Witness)) (epoch : ℕ) (sound : IsSoundRunner p) (is : trace_of_runner p ≡ w)
    (own : IsOf w table) (named : NamesStep e opening w table step) (told : Told opening e p.seat.me r seat.me)
    (home : seat.table_id ≡ p.seat.table_id) (kept : epoch ≡ epoch_after step r p.epoch) where
  end : Done w step r [] seat.me
  end = done w table own p.seat.me seat.me [] (known p w sound is) step e opening named r told

  pub steps_sound : IsSoundRunner (record p { seat = seat; epoch = epoch })
  steps_sound =
      stays_sound p w sound is step r [] seat.me end (record p { seat = seat; epoch = epoch }) end.now
      (refl, refl, kept)

  pub steps_did : Did step w (trace_of_runner (record p { seat = seat; epoch = epoch })) r
  steps_did =
      did p w sound is step r [] seat.me end (record p { seat = seat; epoch = epoch }) end.now (refl, refl, kept) home

-- ---- steps at link words, which a table keeps packed

-- the table of the opening has as many bits for a slot as the table
pub named_bits : {N : Type 0} (t : SlotsInside N) {table : TableView} {e : Event} {opening : TableStart} {w : Trace}
    {step : Step} → table_of t ≡ table → NamesStep e opening w table step →
    slot_bits opening.start.shape.slots ≡ slot_bits t.opening.shape.slots
named_bits t t_is named =
    ap (λ (o : TableStart). slot_bits o.start.shape.slots) (named.opening_is ∙ sym (ap opening_of t_is))

-- a step at a link word is no read of the epoch
pub link_epoch : (holder : At) (step : Step) (r epoch : ℕ) → place_of holder ≡ place_of_step step →
    epoch ≡ epoch_after step r epoch
link_epoch (Head b) ReadEpoch r epoch at = absurd cc
link_epoch (Slot s) ReadEpoch r epoch at = absurd cc
link_epoch holder _ r epoch at = refl

-- what is shown of a link word is what is kept, as the table reads it
pub shown_link : {table : TableView} {e : Event} {opening : TableStart} {w q : Trace} {step : Step} (kept : ℕ) →
    NamesStep e opening w table step → Did step w q (unpacked (slot_bits opening.start.shape.slots) kept) →
    Did step w q (wide_in table kept)
shown_link {w = w} {q = q} {step = step} kept named did =
    subst (λ (o : TableStart). Did step w q (unpacked (slot_bits o.start.shape.slots) kept)) named.opening_is did

-- the bits that name a slot of the table are few
pub bits_few : {N : Type 0} {values : Bool} (t : SlotsInside N) → IsBuilt values t →
    slot_bits t.opening.shape.slots ≤ SLOT_BITS
bits_few t built = slot_bits-wide t.opening.shape.slots built.start.shape.slots

-- and are as many as in what is seen of it
pub bits_same : {N : Type 0} (t : SlotsInside N) {table : TableView} → table_of t ≡ table →
    slot_bits table.start.shape.slots ≡ slot_bits t.opening.shape.slots
bits_same t is = ap (λ (q : TableView). slot_bits q.start.shape.slots) (sym is)

-- two seats made one
pub together : (u v : Witness) (pm om given pm' : Sat) → pm ≡ (u ∷ [], []) → om ≡ (v ∷ [], []) → given ≡ (om.0, []) →
    pm' ≡ (pm.0 ++ given.0, pm.1) → pm' ≡ (u ∷ v ∷ [], [])
together u v pm om given pm' is_p is_o from into =
    into ∙ (λ i. ((is_p i).0 ++ (from i).0, (is_p i).1)) ∙ ap (λ (m : Sat). (u ∷ m.0, [])) is_o

-- a seat of two cut in two
pub left_alone : (m m' : Sat) (v : Witness) (vs : List Witness) → m ≡ (v ∷ vs, []) → m' ≡ (head_of m.0, m.1) →
    m' ≡ (v ∷ [], [])
left_alone m m' v vs is left = left ∙ ap (λ (x : Sat). (head_of x.0, x.1)) is

pub right_rest : (m m' : Sat) (v : Witness) (vs : List Witness) → m ≡ (v ∷ vs, []) → m' ≡ (tail_of m.0, []) →
    m' ≡ (vs, [])
right_rest m m' v vs is right = right ∙ ap (λ (x : Sat). (tail_of x.0, [])) is

-- a runner that has its seat back is what it was
pub same_again : (p : RunnerInside) (w : Trace) (sound : IsSoundRunner p) (p_is : trace_of_runner p ≡ w)
    (q : RunnerInside) (is : q.seat.me ≡ (witness (opened_of w.start) w.who w.seen ∷ [], [])) →
    (q.who ≡ p.who) × (q.opening ≡ p.opening) × (q.epoch ≡ p.epoch)
    → q.seat.table_id ≡ w.table → IsSoundRunner q × (trace_of_runner q ≡ w)
same_again p w sound p_is q is fields table = (
  sound_in p w p_is w.seen q is fields.0 fields.1 sound
      (subst (λ (v : Trace). IsRun v.start v.passes v.seen) p_is sound.is_run)
      (fields.2 ∙ sound.epoch ∙ ap (λ (v : Trace). (knows v).epoch) p_is),
  trace_is p w p_is w.seen q is fields.0 fields.1 table,
)

pub wide : {N : Type 0} {values : Bool} (t : SlotsInside N) → IsBuilt values t → 0 < t.table.shared.table_id.words
wide t built = let w = built.words in omega arith

-- ---- tokens

-- the number of tokens is above those of all passes
pub none_has_it : {N : Type 0} {values : Bool} (t : SlotsInside N) → IsBuilt values t →
    t.table.shared.key.passes ≤ nobody
none_has_it t built = subst (λ (o : TableStart). o.passes ≤ nobody) (sym built.key) built.few

-- a seat that a token was joined to
pub beside : (u : Witness) (vs : List Witness) (pm given pm' : Sat) → pm ≡ (u ∷ [], []) → given ≡ (vs, []) →
    pm' ≡ (pm.0 ++ given.0, pm.1) → pm' ≡ (u ∷ vs, [])
beside u vs pm given pm' is_p from into = into ∙ (λ i. ((is_p i).0 ++ (from i).0, (is_p i).1))

-- what catching up asks
pub asks_to_catch : {N : Type 0} {values : Bool} (t : SlotsInside N) (table : TableView) → IsBuilt values t →
    table_of t ≡ table → (w : Trace) → w.who < w.passes → IsOf w table → (z : TableId) → z ≡ w.table →
    (id : ℕ) (me : Sat) (others : List Witness) → me ≡ (witness (opened_of w.start) w.who w.seen ∷ others, [])
    → ((number : ℕ) → number ≢ nobody → times number others ≡ 0) → (e : Event) (opening : TableStart) →
    NamesStep e opening w table ReadEpoch
    → (z ≡ t.table.shared.table_id) × (0 < t.table.shared.table_id.words) ×
    Allows (Kept t.table.shared.key) t.table.shared.table_id.slots id me 0 (λ n. n) (λ _. Caught opening e.pass me)
asks_to_catch t table built t_is w low own z z_is id me others is spent e opening named =
    let o : TableStart = record { start = w.start; passes = w.passes } in
    let mine : o ≡ opening_of table = λ i. record { start = own.1 i; passes = own.2 i } in
    let here : o ≡ t.table.shared.key = mine ∙ sym (ap opening_of t_is) ∙ sym built.key in
    let start : w.start ≡ start_in t = own.1 ∙ sym (ap (λ (q : TableView). q.start) t_is) in
    let is_start : IsStart w.start = subst IsStart (sym start) built.start in
    let few : w.passes ≤ nobody =
    subst (λ (n : ℕ). n ≤ nobody) (ap (λ (q : TableView). q.passes) t_is ∙ sym own.2) built.few in
    let apart : w.who ≢ nobody = λ same_number. absurd (omega (arith, low, few, same_number)) in
    let plain : Allows (Kept o) t.table.shared.table_id.slots id me 0 (λ n. n) (λ _. Caught o w.who me) =
    catches_as o is_start t.table.shared.table_id.slots id w.who w.seen others me 0 is apart spent in (
      z_is ∙ (own.0 ∙ sym (ap (λ (q : TableView). q.table) t_is)),
      wide t built,
      subst (λ (x : TableStart × Event × TableStart).
          Allows (Kept x.0) t.table.shared.table_id.slots id me 0 (λ n. n) (λ _. Caught x.2 x.1.pass me))
          (λ i. (here i, sym named.event_is i, (mine ∙ sym named.opening_is) i)) plain,
    )

-- what is known then
pub record CaughtUp (w : Trace) (others : List Witness) (n : Sat) : Type 0 where
  pub rest : List Event
  pub none : NoneOf w.who rest
  pub run : List Event
  pub run_is : run ≡ w.seen ++ rest
  pub now : n ≡ (witness (opened_of w.start) w.who run ∷ [], [])
  pub is_run : IsRun w.start w.passes run
  pub mates : EachBegins run others

pub caught_up : (w : Trace) (table : TableView) → IsOf w table → (me n : Sat) (others : List Witness) →
    me ≡ (witness (opened_of w.start) w.who w.seen ∷ others, []) → (e : Event) (opening : TableStart) →
    NamesStep e opening w table ReadEpoch
    → Caught opening e.pass me n → CaughtUp w others n
caught_up w table own me n others is e opening named caught =
    let d : Event = event_of w.who ReadEpoch in
    let o : TableStart = record { start = w.start; passes = w.passes } in
    let mine : opening_of table ≡ o = λ i. record { start = sym own.1 i; passes = sym own.2 i } in
    let here : Caught o w.who (witness (opened_of w.start) w.who w.seen ∷ others, []) n =
    subst (λ (x : TableStart × Event × Sat). Caught x.0 x.1.pass x.2 n)
    (λ i. ((named.opening_is ∙ mine) i, named.event_is i, is i)) caught in record {
      rest = here.rest;
      none = here.none;
      run = w.seen ++ here.rest;
      run_is = refl;
      now = here.now;
      is_run = here.is_run;
      mates = here.others;
    }

-- the runner that caught up
module _ (p : RunnerInside) (w : Trace) (sound : IsSoundRunner p) (p_is : trace_of_runner p ≡ w) (others : List Witness)
    (n : Sat) (end : CaughtUp w others n) (q : RunnerInside)
    (is : q.seat.me ≡ (witness (opened_of w.start) w.who end.run ∷ [], []))
    (fields : (q.who ≡ p.who) × (q.opening ≡ p.opening) × (q.epoch ≡ p.epoch)) where
  know_then : know_after w.start end.run w.who ≡ knows w
  know_then = ap (λ (run : List Event). know_after w.start run w.who) end.run_is
      ∙ others_leave_know w.start w.seen end.rest w.who end.none

  pub caught_sound : IsSoundRunner q
  caught_sound =
      sound_in p w p_is end.run q is fields.0 fields.1 sound end.is_run
      (fields.2 ∙ sound.epoch ∙ ap (λ (v : Trace). (knows v).epoch) p_is ∙ sym (ap (λ (k : Know). k.epoch) know_then))

  pub since : q.seat.table_id ≡ p.seat.table_id → Since w (trace_of_runner q)
  since table =
      subst (Since w)
      (sym (trace_is p w p_is end.run q is fields.0 fields.1 (table ∙ ap (λ (v : Trace). v.table) p_is))) (record {
        rest = end.rest;
        none = end.none;
        seen = end.run_is;
        is_run = end.is_run;
        know = know_then;
        same = (refl, refl, refl, refl);
        steps = ap (steps_in w.who) end.run_is ∙ steps_left w.who w.seen end.rest end.none;
      })
