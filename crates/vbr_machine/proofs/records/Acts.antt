-- Nobody writes the record of an entry, and while a slot is in hand only its pass writes there.
use Rattle.std.proofs.Common.{◌≡◌, ◌≢◌, ℕ, List, [], ◌∷◌, ◌++◌, Option, Some, refl, sym, subst, ap, ◌∙◌, inl, inr}
use Rattle.std.proofs.Common.{append_assoc, append-nil}
use Rattle.std.specs.Prelude.{◌⊎◌}
use Rattle.std.proofs.lemmas.Bool.{cases_eq}
use Rattle.vbr_machine.specs.Start.{Start, IsStart}
use Rattle.vbr_machine.specs.Put.{put}
use Rattle.vbr_machine.specs.Acceptance.{IsInHand}
use Rattle.vbr_machine.specs.Records.{Act, MakesEvent, WritesWord, IsInNoHand, IsLastInserted, NoneBears, NoneTries}
use Rattle.vbr_machine.specs.Records.{OnlyWrites}
use Rattle.vbr_machine.specs.Records.{WritesInHand, events_of, records_after}
use Rattle.vbr_machine.specs.Runs.{Begins, IsRun, know_after, world_after}
use Rattle.vbr_machine.specs.Accounts.{incarnations_after}
use Rattle.vbr_machine.specs.declared.event.Event.{Event}
use Rattle.vbr_machine.specs.declared.knowledge.Holding.{Holding}
use Rattle.vbr_machine.specs.declared.knowledge.Holding.TheVariants.{Free, Unlinked, InHand}
use Rattle.vbr_machine.specs.declared.knowledge.Unpublished.{Unpublished}
use Rattle.vbr_machine.proofs.words.Puts.{put_other}
use Rattle.vbr_machine.proofs.records.Entries.{same_birth_same_entry}
use Rattle.vbr_machine.proofs.records.Hands.{in_hand_alone, in_hand_throughout}
use Rattle.vbr_machine.proofs.records.KeptHands.{in_hand_since_its_birth}
use Rattle.vbr_machine.proofs.runs.RunsGoOn.{is_run_before}

-- ---- acts

events-append : {A : Type 0} (xs ys : List (Act A)) → events_of (xs ++ ys) ≡ events_of xs ++ events_of ys
events-append [] ys = refl
events-append (MakesEvent event ∷ xs) ys = ap (λ (l : List Event). event ∷ l) (events-append xs ys)
events-append (WritesWord pass slot word value ∷ xs) ys = events-append xs ys

in_hand_before : {A : Type 0} (start : Start) (before : List Event) (xs ys : List (Act A)) →
    WritesInHand start before (xs ++ ys) → WritesInHand start before xs
in_hand_before start before [] ys w = tt
in_hand_before start before (MakesEvent event ∷ xs) ys w = in_hand_before start (before ++ event ∷ []) xs ys w
in_hand_before start before (WritesWord pass slot word value ∷ xs) ys w =
    (w.0, in_hand_before start before xs ys w.1)

-- ---- the record of a slot stays

-- acts leave the record of a slot where at each moment of them the slot is in no hand
stays_written : {A : Type 0} (start : Start) (before : List Event) (records : ℕ → ℕ → A) (acts : List (Act A)) (s : ℕ) →
    WritesInHand start before acts →
    ((xs ys : List Event) → events_of acts ≡ xs ++ ys → IsInNoHand start (before ++ xs) s) → (word : ℕ) →
    records_after records acts s word ≡ records s word
stays_written start before records [] s w none word = refl
stays_written start before records (MakesEvent event ∷ acts) s w none word =
    stays_written start (before ++ event ∷ []) records acts s w
    (λ xs ys e.
    let P : List Event → Type 0 = λ l. IsInNoHand start l s in
    subst P (sym (append_assoc before (event ∷ []) xs)) (none (event ∷ xs) ys (ap (λ (l : List Event). event ∷ l) e)))
    word
stays_written {A} start before records (WritesWord pass slot at value ∷ acts) s w none word =
    stays_written start before (put records slot (put (records slot) at value)) acts s w.1 none word
    ∙ ap (λ (f : ℕ → A). f word) (put_other records slot (put (records slot) at value) s other)
  where
    other : s ≢ slot
    other e =
        let P : ℕ → Type 0 = λ t. IsInHand ((know_after start t_before pass).own t) in
        none [] (events_of acts) refl pass
        (let Q : List Event → Type 0 = λ l. IsInHand ((know_after start l pass).own s) in
        subst Q (sym (append-nil before)) (subst P (sym e) w.0))
      where
        t_before : List Event
        t_before = before

-- while an inserted incarnation has its slot, whose birth stands at the end, each word of the record is what it was
pub confirmed_record : {A : Type 0} (start : Start) (passes : ℕ) (before : List Event) (records : ℕ → ℕ → A)
    (now then : List (Act A)) (s node : ℕ) → IsStart start → IsRun start passes (before ++ events_of (now ++ then)) →
    WritesInHand start before (now ++ then) → IsLastInserted start before s node →
    (world_after start (before ++ events_of (now ++ then))).birth s ≡ (incarnations_after start before).birth node →
    (word : ℕ) → records_after records now s word ≡ records s word
confirmed_record {A} start passes before records now then s node is ok w there shown word =
    stays_written start before records now s (in_hand_before start before now then w) none word
  where
    run : List Event
    run = before ++ events_of (now ++ then)

    none : (xs ys : List Event) → events_of now ≡ xs ++ ys → IsInNoHand start (before ++ xs) s
    none xs ys e =
        let all : events_of (now ++ then) ≡ xs ++ (ys ++ events_of then) =
        events-append now then ∙ ap (λ (l : List Event). l ++ events_of then) e
        ∙ append_assoc xs ys (events_of then) in
        let on : Begins (before ++ xs) (before ++ events_of (now ++ then)) = (
          ys ++ events_of then,
          ap (λ (l : List Event). before ++ l) all ∙ sym (append_assoc before xs (ys ++ events_of then)),
        ) in
        (same_birth_same_entry start passes before (before ++ xs) run s node is ok (xs, refl) on there shown).1

-- ---- only its pass writes there

-- acts write the record of a slot by one pass alone where at each moment of them it is in the hand of this pass
only_written : {A : Type 0} (start : Start) (passes : ℕ) (before : List Event) (acts : List (Act A)) (by s : ℕ) →
    IsStart start → IsRun start passes (before ++ events_of acts) → WritesInHand start before acts →
    ((xs ys : List Event) → events_of acts ≡ xs ++ ys → IsInHand ((know_after start (before ++ xs) by).own s)) →
    OnlyWrites by s acts
only_written start passes before [] by s is ok w held = tt
only_written start passes before (MakesEvent event ∷ acts) by s is ok w held =
    only_written start passes (before ++ event ∷ []) acts by s is
    (let P : List Event → Type 0 = IsRun start passes in
    subst P (sym (append_assoc before (event ∷ []) (events_of acts))) ok) w
    (λ xs ys e.
    let P : List Event → Type 0 = λ l. IsInHand ((know_after start l by).own s) in
    subst P (sym (append_assoc before (event ∷ []) xs)) (held (event ∷ xs) ys (ap (λ (l : List Event). event ∷ l) e)))
only_written start passes before (WritesWord pass slot at value ∷ acts) by s is ok w held =
    (here, only_written start passes before acts by s is ok w.1 held)
  where
    at_first : IsInHand ((know_after start before by).own s)
    at_first =
        let P : List Event → Type 0 = λ l. IsInHand ((know_after start l by).own s) in
        subst P (append-nil before) (held [] (events_of acts) refl)

    -- a pass that has a slot in hand knows it so
    known : (h : Option Holding) → IsInHand h → (known : Unpublished) × (h ≡ Some (InHand known))
    known (Some (InHand k)) i = (k, refl)
    known (Some (Free stamp)) i = absurd i
    known (Some (Unlinked seen)) i = absurd i
    known _ i = absurd i

    here : slot ≡ s → pass ≡ by
    here e = go (cases_eq pass by)
      where
        go : (pass ≡ by) ⊎ (pass ≢ by) → pass ≡ by
        go (inl same) = same
        go (inr ne) =
            let k = known ((know_after start before by).own s) at_first in
            let alone =
            in_hand_alone start passes before by s k.0 is (is_run_before start passes before (events_of acts) ok) k.1 in
            let P : ℕ → Type 0 = λ t. IsInHand ((know_after start before pass).own t) in
            let Q : Option Holding → Type 0 = IsInHand in
            absurd (subst Q (alone.others pass ne) (subst P e w.0))

-- between two moments at which a pass has a slot in hand, with one birth, it alone writes the record there, if it takes
-- no slot out of the shared pool meanwhile
pub own_record : {A : Type 0} (start : Start) (passes : ℕ) (before : List Event) (acts : List (Act A)) (pass s : ℕ)
    (known later : Unpublished) → IsStart start → IsRun start passes (before ++ events_of acts) →
    WritesInHand start before acts → (know_after start before pass).own s ≡ Some (InHand known) →
    (know_after start (before ++ events_of acts) pass).own s ≡ Some (InHand later) → later.birth ≡ known.birth →
    NoneTries pass (events_of acts) → OnlyWrites pass s acts
own_record start passes before acts pass s known later is ok w own end same none =
    only_written start passes before acts pass s is ok w held
  where
    held : (xs ys : List Event) → events_of acts ≡ xs ++ ys → IsInHand ((know_after start (before ++ xs) pass).own s)
    held xs ys e =
        let all : before ++ events_of acts ≡ (before ++ xs) ++ ys =
        ap (λ (l : List Event). before ++ l) e ∙ sym (append_assoc before xs ys) in
        let R : List Event → Type 0 = IsRun start passes in
        let K : List Event → Type 0 = λ l. (know_after start l pass).own s ≡ Some (InHand later) in
        let N : List Event → Type 0 = NoneTries pass in
        in_hand_throughout start passes before xs ys pass s known later is (subst R all ok) own (subst K all end) same
        (subst N e none)

-- no birth in the last of some events, where there is none in all of them
bears_after : (pass s : ℕ) (xs ys : List Event) → NoneBears pass s (xs ++ ys) → NoneBears pass s ys
bears_after pass s [] ys none = none
bears_after pass s (x ∷ xs) ys none = bears_after pass s xs ys none.1

-- so it does before a moment at which it has the slot in hand, since it last gave birth there
pub own_record_since : {A : Type 0} (start : Start) (passes : ℕ) (before : List Event) (acts : List (Act A))
    (pass s : ℕ) → IsStart start → IsRun start passes (before ++ events_of acts) → WritesInHand start before acts →
    IsInHand ((know_after start (before ++ events_of acts) pass).own s) → NoneBears pass s (events_of acts) →
    OnlyWrites pass s acts
own_record_since start passes before acts pass s is ok w end none =
    only_written start passes before acts pass s is ok w held
  where
    held : (xs ys : List Event) → events_of acts ≡ xs ++ ys → IsInHand ((know_after start (before ++ xs) pass).own s)
    held xs ys e =
        let all : before ++ events_of acts ≡ (before ++ xs) ++ ys =
        ap (λ (l : List Event). before ++ l) e ∙ sym (append_assoc before xs ys) in
        let K : List Event → Type 0 = λ l. IsInHand ((know_after start l pass).own s) in
        in_hand_since_its_birth start (before ++ xs) ys pass s (subst K all end)
        (bears_after pass s xs ys (subst (NoneBears pass s) e none))
