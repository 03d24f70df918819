-- A step of the machine keeps the rule of the table.
use Rattle.std.proofs.Common.{◌≡◌, ◌≢◌, ℕ, ◌<◌, List, [], ◌∷◌, ◌++◌, set, get_or, refl, sym, ap, ◌∙◌, subst, ⊎_elim}
use Rattle.std.proofs.Common.{inl, inr, arith}
use mathlib.Core.Option.{some}
use Rattle.std.proofs.lemmas.List.{set-get_or}
use lib.ListN.{get_elem?}
use Rattle.atomic_table.specs.Table.{State as Standing, Me, keeps, Allows}
use Rattle.atomic_table.proofs.Lists.{at_set}
use Rattle.vbr_machine.specs.Start.{IsStart}
use Rattle.vbr_words.specs.Places.{index_of}
use Rattle.vbr_words.specs.declared.place.Place.{Place}
use Rattle.vbr_machine.specs.Acceptance.{Accepts}
use Rattle.vbr_machine.specs.Accounts.{incarnations_after, notes_after}
use Rattle.vbr_machine.specs.Knowledge.{Know}
use Rattle.vbr_machine.specs.Machine.{word_made, World, access_of, found, place_of_step}
use Rattle.vbr_machine.specs.Runs.{BeginsFor, IsRun, world_after, know_after, NoneOf}
use Rattle.vbr_machine.specs.declared.event.Event.{Event}
use Rattle.vbr_machine.proofs.Lemmas.{begins_for_refl, is_run_after_others, others_leave_it_accepted, others_leave_know}
use Rattle.vbr_machine.proofs.Lemmas.{place_in, run_agrees, world_after-snoc}
use Rattle.vbr_slots.specs.declared.rule.Witness.{Witness}
use Rattle.vbr_slots.specs.runs.TableStart.{TableStart}
use Rattle.vbr_slots.specs.runs.Rule.{witness, nobody, Caught, EachBegins, times, Kept, Shows, Told, opened_of}
use Rattle.vbr_slots.specs.words.Words.{AreWordsOf, kept_at}
use Rattle.vbr_slots.proofs.words.Packed.{HasRoomAt, Tells, Writes, room_at}
use Rattle.vbr_slots.proofs.seats.Members.{each_begins_more, two_in, one_in, times-set, times-first, times-members}
use Rattle.vbr_slots.proofs.seats.Sightings.{set_at}
use Rattle.vbr_slots.proofs.words.Worlds.{words_after}

module _ (opening : TableStart) (is_start : IsStart opening.start) where
  abbrev V : Type 0
  V = List Witness

  abbrev St : Type 0
  St = Standing (Unit {0}) V

  -- the words after the event
  moved : (words : List ℕ) (run : List Event) (e : Event) (i : ℕ) (f : ℕ → ℕ) → IsRun opening.start opening.passes run →
      Accepts opening.start (know_after opening.start run e.pass) e.step →
      i ≡ index_of opening.start.shape (place_of_step e.step)
      → f (kept_at opening.start.shape (place_of_step e.step)
      (found opening.start (world_after opening.start run) e.step))
      ≡ kept_at opening.start.shape (place_of_step e.step)
      (word_made (access_of (know_after opening.start run e.pass) e.step)
      (found opening.start (world_after opening.start run) e.step)) →
      AreWordsOf opening.start (world_after opening.start run) words
      → AreWordsOf opening.start (world_after opening.start (run ++ e ∷ [])) (set words i (f (get_or words i 0)))
  moved words run e i f is_run ok place does are =
      let start = opening.start in
      subst (λ (x : ℕ × World). AreWordsOf start x.1 (set words x.0 (f (get_or words x.0 0))))
      (λ k. (sym place k, sym (world_after-snoc start run e) k))
      (words_after start (world_after start run) (incarnations_after start run) (notes_after start run) e.pass e.step
      (run_agrees start opening.passes run is_start is_run) ok words are f does)

  -- no other seat has the number of the first witness
  others_away : (s : St) (h : Kept opening s) (id j : ℕ) (m : Witness) (ms u : List Witness) → m.who ≢ nobody → j ≢ id →
      get_elem? s.views id ≡ some (m ∷ ms) → get_elem? s.views j ≡ some u → times m.who u ≡ 0
  others_away s h id j m ms u other apart at_index bt =
      let two = two_in m.who s.views id j (m ∷ ms) u apart at_index bt in
      let all = h.counted m.who other in
      let most = times-members (opened_of opening.start) m.who 0 opening.passes in
      let first = times-first m ms in
      omega arith

  mates_away : (s : St) (h : Kept opening s) (id : ℕ) (m : Witness) (ms : List Witness) → m.who ≢ nobody →
      get_elem? s.views id ≡ some (m ∷ ms) → times m.who ms ≡ 0
  mates_away s h id m ms other at_index =
      let one = one_in m.who s.views id (m ∷ ms) at_index in
      let all = h.counted m.who other in
      let most = times-members (opened_of opening.start) m.who 0 opening.passes in
      let first = times-first m ms in
      omega arith

  -- the first witness of the seat takes the step
  pub plays : (slots id : ℕ) (e : Event) (seen : List Event) (others : List Witness) (cs : List (ℕ × Unit {0})) (i : ℕ)
      (f g : ℕ → ℕ) → e.pass < opening.passes → e.pass ≢ nobody →
      i ≡ index_of opening.start.shape (place_of_step e.step)
      → Writes opening.start.shape (place_of_step e.step) (access_of (know_after opening.start seen e.pass) e.step) f →
      Tells opening.start.shape (place_of_step e.step) e.step g →
      Accepts opening.start (know_after opening.start seen e.pass) e.step
      → Allows (Kept opening) slots id (witness (opened_of opening.start) e.pass seen ∷ others, cs) i f
      (λ r. Told opening e (witness (opened_of opening.start) e.pass seen ∷ others, cs) (g r))
  plays slots id e seen others cs i f g low other place does same ok s h _ at_index _ =
      let start = opening.start in
      let mine = h.begins id (witness (opened_of opening.start) e.pass seen ∷ others) at_index in
      let rest : List Event = mine.0.0 in
      let is : h.run ≡ seen ++ rest = mine.0.1 in
      let none : NoneOf e.pass rest = mine.0.2 in
      let run : List Event = seen ++ rest in
      let run' : List Event = run ++ e ∷ [] in
      let w : List Witness = witness (opened_of opening.start) e.pass run' ∷ others in
      let before : IsRun start opening.passes run = subst (IsRun start opening.passes) is h.is_run in
      let is_run : IsRun start opening.passes run' =
      is_run_after_others start opening.passes seen rest e before low none ok in
      let know : know_after start seen e.pass ≡ know_after start run e.pass =
      sym (others_leave_know start seen rest e.pass none) in
      let at : Place = place_of_step e.step in
      let here : ℕ = found start (world_after start run) e.step in
      let room : HasRoomAt start.shape at here =
      room_at start (world_after start run) (incarnations_after start run) (notes_after start run)
      (run_agrees start opening.passes run is_start before) at in
      let does' : f (kept_at start.shape at here)
      ≡ kept_at start.shape at (word_made (access_of (know_after start run e.pass) e.step) here) =
      does here room ∙ ap (λ (k : Know). kept_at start.shape at (word_made (access_of k e.step) here)) know in
      let words : AreWordsOf start (world_after start run) s.words =
      subst (λ (r : List Event). AreWordsOf start (world_after start r) s.words) is h.words in
      let ok' : Accepts start (know_after start run e.pass) e.step =
      others_leave_it_accepted start seen rest e.pass e.step none ok in
      let more = λ (u : List Witness) (away : times e.pass u ≡ 0) (b : EachBegins h.run u).
      each_begins_more run e u away (subst (λ r. EachBegins r u) is b) in
      let theirs : EachBegins run' others =
      more others (mates_away s h id (witness (opened_of opening.start) e.pass seen) others other at_index) mine.1 in (
        w,
        keeps,
        tt,
        record {
          run = run';
          is_run = is_run;
          words = moved s.words run e i f before ok' place does' words;
          begins = λ j u bt.
              ⊎_elim
              (λ (x : (j ≡ id) × (w ≡ u)). subst (EachBegins run') x.1 (begins_for_refl e.pass run', theirs))
              (λ (x : (j ≢ id) × (get_elem? s.views j ≡ some u)).
              more u (others_away s h id j (witness (opened_of opening.start) e.pass seen) others u other x.0 at_index
              x.1)
              (h.begins j u x.1))
              (at_set s.views id j w u bt);
          seen = inr (
            id,
            w,
            set_at s.views id w (witness (opened_of opening.start) e.pass seen ∷ others) at_index,
            inl (other, refl),
          );
          counted = λ who else.
              let t = times-set who s.views id w (witness (opened_of opening.start) e.pass seen ∷ others) at_index in
              let all = h.counted who else in
              omega arith;
        },
        record {
          rest = rest;
          none = none;
          now = refl;
          is_run = is_run;
          shows = subst (λ (n : ℕ). Shows e.step (g n) here) (sym (shown s.words run words)) (same here room);
          others = theirs;
        },
      )
    where
      shown : (words : List ℕ) (run : List Event) → AreWordsOf opening.start (world_after opening.start run) words →
          get_or words i 0
          ≡ kept_at opening.start.shape (place_of_step e.step)
          (found opening.start (world_after opening.start run) e.step)
      shown words run are = ap (λ (j : ℕ). get_or words j 0) place
          ∙ are.each (place_of_step e.step) (place_in opening.start e.step ok.in_shape)

  -- the same at a seat that is known to be so
  pub plays_as : (slots id : ℕ) (e : Event) (seen : List Event) (others : List Witness) (cs : List (ℕ × Unit {0}))
      (me : Me (Unit {0}) V) (i : ℕ) (f g : ℕ → ℕ) → me ≡ (witness (opened_of opening.start) e.pass seen ∷ others, cs) →
      e.pass < opening.passes → e.pass ≢ nobody
      → i ≡ index_of opening.start.shape (place_of_step e.step) →
      Writes opening.start.shape (place_of_step e.step) (access_of (know_after opening.start seen e.pass) e.step) f →
      Tells opening.start.shape (place_of_step e.step) e.step g
      → Accepts opening.start (know_after opening.start seen e.pass) e.step →
      Allows (Kept opening) slots id me i f (λ r. Told opening e me (g r))
  plays_as slots id e seen others cs me i f g known low other place does same ok =
      subst (λ (m : Me (Unit {0}) V). Allows (Kept opening) slots id m i f (λ r. Told opening e m (g r))) (sym known)
      (plays slots id e seen others cs i f g low other place does same ok)

  -- the first witness of the seat catches up with the run, and those beside it, which are of tokens, are spent
  pub catches : (slots id who : ℕ) (seen : List Event) (others : List Witness) (cs : List (ℕ × Unit {0})) (i : ℕ) →
      who ≢ nobody → ((number : ℕ) → number ≢ nobody → times number others ≡ 0)
      → Allows (Kept opening) slots id (witness (opened_of opening.start) who seen ∷ others, cs) i (λ n. n)
      (λ _. Caught opening who (witness (opened_of opening.start) who seen ∷ others, cs))
  catches slots id who seen others cs i apart spent s h _ at_index _ =
      let start = opening.start in
      let mine = h.begins id (witness (opened_of opening.start) who seen ∷ others) at_index in
      let rest : List Event = mine.0.0 in
      let is : h.run ≡ seen ++ rest = mine.0.1 in
      let w : List Witness = witness (opened_of opening.start) who (seen ++ rest) ∷ [] in (
        w,
        keeps,
        tt,
        record {
          run = h.run;
          is_run = h.is_run;
          words = subst (λ (words : List ℕ). AreWordsOf start (world_after start h.run) words)
              (sym (set-get_or s.words i 0)) h.words;
          begins = λ j u bt.
              ⊎_elim
              (λ (x : (j ≡ id) × (w ≡ u)).
              subst (EachBegins h.run) x.1
              (subst (λ (r : List Event). BeginsFor who r h.run) is (begins_for_refl who h.run), tt))
              (λ (x : (j ≢ id) × (get_elem? s.views j ≡ some u)). h.begins j u x.1)
              (at_set s.views id j w u bt);
          seen = inr (
            id,
            w,
            set_at s.views id w (witness (opened_of opening.start) who seen ∷ others) at_index,
            inl (apart, sym is),
          );
          counted = λ number else.
              let t = times-set number s.views id w (witness (opened_of opening.start) who seen ∷ others) at_index in
              let all = h.counted number else in
              let none = spent number else in
              omega arith;
        },
        record {
          rest = rest;
          none = mine.0.2;
          now = refl;
          is_run = subst (IsRun start opening.passes) is h.is_run;
          others = subst (λ (r : List Event). EachBegins r others) is mine.1;
        },
      )

  pub catches_as : (slots id who : ℕ) (seen : List Event) (others : List Witness) (me : Me (Unit {0}) V) (i : ℕ) →
      me ≡ (witness (opened_of opening.start) who seen ∷ others, []) → who ≢ nobody →
      ((number : ℕ) → number ≢ nobody → times number others ≡ 0)
      → Allows (Kept opening) slots id me i (λ n. n) (λ _. Caught opening who me)
  catches_as slots id who seen others me i known apart spent =
      subst (λ (m : Me (Unit {0}) V). Allows (Kept opening) slots id m i (λ n. n) (λ _. Caught opening who m))
      (sym known) (catches slots id who seen others [] i apart spent)
