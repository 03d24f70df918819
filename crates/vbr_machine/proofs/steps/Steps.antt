-- What it is that a step keeps the agreement, and the agreement at opening.
use Rattle.std.proofs.Common.{◌≡◌, ◌≢◌, ℕ, ◌-◌, ◌^◌, ◌<◌, ◌≤◌, min, Bool, true, false, List, [], Option, Some, None}
use Rattle.std.proofs.Common.{refl, arith, sym, ap, ◌∙◌, inl, inr}
use Rattle.std.specs.Prelude.{◌⊎◌, ◌==◌, if◌then◌else◌}
use Rattle.std.proofs.lemmas.List.{get_or_past}
use Rattle.std.proofs.lemmas.Bool.{cases_eq, cond-true, cond-false, eqb-true}
use Rattle.vbr_machine.specs.Start.{Start, IsStart}
use Rattle.vbr_machine.specs.Put.{put}
use Rattle.vbr_machine.specs.Opened.{opening_keys, key_count, has_opening_key, key_number, value_number, opening_birth}
use Rattle.vbr_machine.specs.Opened.{first_key, key_behind, link_to_key, link_at_opening}
use Rattle.vbr_machine.specs.Learning.{with_own, with_checked}
use Rattle.vbr_words.specs.Words.{word_of}
use Rattle.vbr_words.specs.declared.place.At.{At}
use Rattle.vbr_machine.specs.Machine as machine
use Rattle.vbr_machine.specs.Machine.{World, knows_nothing, opening, after}
use Rattle.vbr_machine.specs.Incarnations.{Incarnations, opening_last, at_opening, last_in}
use Rattle.vbr_machine.specs.Incarnations as state
use Rattle.vbr_machine.specs.Images.{birth_shown, key_shown, value_shown, link_to_next, link_in_state, link_shown}
use Rattle.vbr_machine.specs.Images.{IsImage}
use Rattle.vbr_machine.specs.Chronicles.{Happening, IsLawful, Allowed, becomes, incarnations_from}
use Rattle.vbr_machine.specs.Notes.{Notes, no_notes, notes_with, with_won}
use Rattle.vbr_machine.specs.Accounts.{happens, just}
use Rattle.vbr_words.specs.Buckets.{bucket_of}
use Rattle.vbr_machine.specs.Acceptance.{IsInHand, IsUnlinked, IsReread}
use Rattle.vbr_machine.specs.Agreement.{IsNotOf, IsStored, OwnFits, AllKnowRight, Owns, Fits, Agrees}
use Rattle.vbr_machine.specs.declared.event.Step.{Step}
use Rattle.vbr_machine.specs.declared.knowledge.Read.{Read}
use Rattle.vbr_machine.specs.declared.knowledge.Unpublished.{Unpublished}
use Rattle.vbr_machine.specs.declared.knowledge.Holding.{Holding}
use Rattle.vbr_machine.specs.declared.knowledge.Holding.TheVariants.{Unlinked, InHand}
use Rattle.vbr_machine.specs.declared.knowledge.SlotPlace.{SlotPlace}
use Rattle.vbr_machine.specs.declared.knowledge.SlotPlace.TheVariants.{Shared, Own, Hand, Listed}
use Rattle.vbr_machine.proofs.words.Puts.{put_here, put_other}
use Rattle.vbr_machine.proofs.chronicles.OpeningKeys.{opens_with_one_or_none}
use Rattle.vbr_machine.proofs.chronicles.SoundAfter.{state_at_first, sound_at_first, sound_kept}
use Rattle.vbr_machine.proofs.chronicles.ToldCalls.{tells_at_first, tells_kept}
use Rattle.vbr_machine.proofs.reads.Noted.{knows_same, knows_own, knows_on, knows_put, noted_beside, noted_checked}
use Rattle.vbr_machine.proofs.reads.Noted.{noted_none, AreShown, AreGood}
use Rattle.vbr_machine.proofs.chronicles.Growth.{grows}

-- what an accepted step adds to the chronicle is lawful, and the world, the incarnations and the notes agree after it
abbrev pub StepAgrees : Start → World → Incarnations → (ℕ → Notes) → ℕ → Step → Type 0
StepAgrees start w a notes p step =
    IsLawful start (opening_keys start) a (happens start w a p step)
    × Agrees start (after start w p step) (incarnations_from start a (happens start w a p step))
    (put notes p (notes_with start w (incarnations_from start a (happens start w a p step)) p step (notes p)))

-- the link of a key at opening
link_at_first : (start : Start) (holder_birth : ℕ) (number : Option ℕ) →
    link_to_key start holder_birth number ≡ link_to_next (at_opening start) holder_birth number
link_at_first start holder_birth None = refl
link_at_first start holder_birth (Some number) = refl

link_shown_at_first : (start : Start) (s : ℕ) →
    link_at_opening start s ≡ link_shown (at_opening start) (opening_last start s)
link_shown_at_first start s = go (opens_with_one_or_none start s)
  where
    go : ((s < key_count start) × (has_opening_key start s ≡ true)) ⊎
        ((key_count start ≤ s) × (has_opening_key start s ≡ false)) →
        link_at_opening start s ≡ link_shown (at_opening start) (opening_last start s)
    go (inl low) =
        cond-true (has_opening_key start s) _ _ low.1
        ∙ link_at_first start (opening_birth start s) (key_behind start s)
        ∙ sym (ap (link_in_state (at_opening start) s) (state_at_first start s low.0))
        ∙ sym (ap (link_shown (at_opening start)) (cond-true (has_opening_key start s) (Some s) None low.1))
    go (inr high) = cond-false (has_opening_key start s) _ _ high.1
        ∙ sym (ap (link_shown (at_opening start)) (cond-false (has_opening_key start s) (Some s) None high.1))

-- what is shown of a slot at opening, where it has an opening key and where it has none
shown_at_first : (start : Start) (s n : ℕ) (shown : Option ℕ → ℕ) →
    (has_opening_key start s ≡ true → n ≡ shown (Some s)) →
    (key_count start ≤ s → has_opening_key start s ≡ false → n ≡ shown None) → n ≡ shown (opening_last start s)
shown_at_first start s n shown one none = go (opens_with_one_or_none start s)
  where
    go : ((s < key_count start) × (has_opening_key start s ≡ true)) ⊎
        ((key_count start ≤ s) × (has_opening_key start s ≡ false)) → n ≡ shown (opening_last start s)
    go (inl low) = one low.1 ∙ sym (ap shown (cond-true (has_opening_key start s) (Some s) None low.1))
    go (inr high) = none high.0 high.1 ∙ sym (ap shown (cond-false (has_opening_key start s) (Some s) None high.1))

birth_shown_at_first : (start : Start) (s : ℕ) →
    opening_birth start s ≡ birth_shown (at_opening start) (opening_last start s)
birth_shown_at_first start s = shown_at_first start s _ (birth_shown (at_opening start)) (λ _. refl)
    (λ _ none. cond-false (has_opening_key start s) 1 0 none)

key_shown_at_first : (start : Start) (s : ℕ) → key_number start s ≡ key_shown (at_opening start) (opening_last start s)
key_shown_at_first start s = shown_at_first start s _ (key_shown (at_opening start)) (λ _. refl)
    (λ high _. get_or_past start.keys s 0 high)

value_shown_at_first : (start : Start) (s : ℕ) →
    value_number start s ≡ value_shown (at_opening start) (opening_last start s)
value_shown_at_first start s = shown_at_first start s _ (value_shown (at_opening start)) (λ _. refl)
    (λ _ none. cond-false (has_opening_key start s) _ 0 none)

-- the words at opening are the image of the incarnations then
image_at_first : (start : Start) → IsImage (opening start) (at_opening start)
image_at_first start = record {
  epoch = refl;
  head = λ b. link_at_first start 0 (first_key start b);
  link = link_shown_at_first start;
  birth = birth_shown_at_first start;
  key = key_shown_at_first start;
  value = value_shown_at_first start;
  stamp = λ s. refl;
  place = λ s. refl;
}

-- no pass owns a slot
no_owner_at_first : (b : Bool) (bucket pass : ℕ) → IsNotOf pass (if b then Listed bucket else Shared)
no_owner_at_first true bucket pass = tt
no_owner_at_first false bucket pass = tt

pub agrees_at_first : (start : Start) → IsStart start → Agrees start (opening start) (at_opening start) (λ p. no_notes)
agrees_at_first start is = record {
  sound = sound_at_first start is.ascending;
  tells = tells_at_first start is.ascending;
  fits = record {
    is_start = is;
    epoch = let u = is.shape.some_epoch in omega arith;
    slot = λ c low. let few = is.few in omega (arith, few);
    link = λ c. record { slot = tt; version = omega arith };
  };
  image = image_at_first start;
  knows = λ p. noted_none (at_opening start) knows_nothing (omega arith) (refl, refl);
  owns = λ p s. no_owner_at_first (has_opening_key start s) (bucket_of start.shape (key_number start s)) p;
  calls = refl;
  births = let few = is.few in let slots = is.shape.slots in omega (arith, few, slots);
}

-- after one allowed event
pub agrees_next : (start : Start) (w v : World) (a : Incarnations) (notes new : ℕ → Notes) (p : ℕ) (what : Happening) →
    Agrees start w a notes → Allowed start (opening_keys start) a p what →
    Fits start (becomes start a p what) → IsImage v (becomes start a p what) →
    AllKnowRight (becomes start a p what) v.know new → Owns (becomes start a p what) v.know →
    v.calls ≡ (becomes start a p what).calls → v.births ≡ min (becomes start a p what).count (2 ^ 64 - 1) →
    Agrees start v (becomes start a p what) new
agrees_next start w v a notes new p what g al f i k o c n = record {
  fits = f;
  image = i;
  knows = k;
  sound = sound_kept start (opening_keys start) a p what g.sound al;
  tells = tells_kept start a p what g.sound g.tells al;
  owns = o;
  calls = c;
  births = n;
}

-- where nothing happened
pub agrees_still : (start : Start) (w : World) (a : Incarnations) (notes : ℕ → Notes) (p : ℕ) → Agrees start w a notes →
    Agrees start w a (put notes p (notes p))
agrees_still start w a notes p g = record {
  sound = g.sound;
  tells = g.tells;
  fits = g.fits;
  image = g.image;
  knows = knows_same a w.know notes p g.knows;
  owns = g.owns;
  calls = g.calls;
  births = g.births;
}

-- after an allowed event by which the pass owns a slot otherwise, and has checked nothing
pub agrees_owned : (start : Start) (w v : World) (a : Incarnations) (notes : ℕ → Notes) (p : ℕ) (what : Happening)
    (s : ℕ) (h : Option Holding) → Agrees start w a notes → Allowed start (opening_keys start) a p what →
    Fits start (becomes start a p what) → IsImage v (becomes start a p what) →
    v.know ≡ put w.know p (with_own (w.know p) s h) →
    Owns (becomes start a p what) (put w.know p (with_own (w.know p) s h)) →
    v.calls ≡ (becomes start a p what).calls → v.births ≡ min (becomes start a p what).count (2 ^ 64 - 1) →
    Agrees start v (becomes start a p what) (put notes p (notes p))
agrees_owned start w v a notes p what s h g al fits image vn owns calls births =
    agrees_next start w v a notes (put notes p (notes p)) p what g al fits image
    (rw vn (knows_own (becomes start a p what) w.know notes p s h
    (knows_on g.sound (grows start (opening_keys start) a p what g.sound al) w.know notes g.knows)))
    (rw vn owns) calls births

-- after an exchange that is allowed, by which the pass has checked reads, and owns a slot otherwise
pub agrees_won : (start : Start) (w v : World) (a : Incarnations) (notes : ℕ → Notes) (p : ℕ) (what : Happening)
    (reads : List Read) (s : ℕ) (h : Option Holding) → Agrees start w a notes →
    Allowed start (opening_keys start) a p what →
    Fits start (becomes start a p what) → IsImage v (becomes start a p what) →
    AreShown (becomes start a p what) reads → AreGood (becomes start a p what) (w.know p).epoch reads →
    v.know ≡ put w.know p (with_own (with_checked (w.know p) reads) s h) →
    Owns (becomes start a p what) (put w.know p (with_own (with_checked (w.know p) reads) s h)) →
    v.calls ≡ (becomes start a p what).calls → v.births ≡ min (becomes start a p what).count (2 ^ 64 - 1) →
    Agrees start v (becomes start a p what) (put notes p (with_won (becomes start a p what) (notes p) reads))
agrees_won start w v a notes p what reads s h g al fits image shown good vn owns calls births =
    let b = becomes start a p what in
    let known = with_checked (w.know p) reads in
    let won = with_won b (notes p) reads in
    let kn = knows_on g.sound (grows start (opening_keys start) a p what g.sound al) w.know notes g.knows in
    agrees_next start w v a notes (put notes p won) p what g al fits image
    (rw vn (knows_put b w.know notes p (with_own known s h) won kn
    (noted_beside b known (with_own known s h) won refl refl refl
    (noted_checked b (w.know p) (notes p) reads (kn p) shown good))))
    (rw vn owns) calls births

-- what an exchange leaves, by whether it wins
abbrev pub Leaves : Start → World → (Bool → World) → Incarnations → (ℕ → Notes) → ℕ → Happening → List Read → Bool →
    Type 0
Leaves start w v a notes p what reads t =
    let adds = if t then just p what else [] in
    IsLawful start (opening_keys start) a adds
    × Agrees start (if t then v t else w) (incarnations_from start a adds)
    (put notes p (if t then with_won (incarnations_from start a adds) (notes p) reads else notes p))

leaves : (start : Start) (w : World) (v : Bool → World) (a : Incarnations) (notes : ℕ → Notes) (p : ℕ)
    (what : Happening) (reads : List Read) (t : Bool) → Agrees start w a notes →
    (t ≡ true → Allowed start (opening_keys start) a p what ×
    Agrees start (v true) (becomes start a p what) (put notes p (with_won (becomes start a p what) (notes p) reads))) →
    Leaves start w v a notes p what reads t
leaves start w v a notes p what reads false g won = (tt, agrees_still start w a notes p g)
leaves start w v a notes p what reads true g won = let x = won refl in ((x.0, tt), x.1)

-- what an exchange of the link at a place leaves: it wins where it finds the word that it expects
pub leaves_at : (start : Start) (w : World) (v : Bool → World) (a : Incarnations) (notes : ℕ → Notes) (p : ℕ)
    (what : Happening) (reads : List Read) (place : At) (expected : ℕ) → Agrees start w a notes →
    (word_of (machine.link_at w place) ≡ expected → Allowed start (opening_keys start) a p what ×
    Agrees start (v true) (becomes start a p what) (put notes p (with_won (becomes start a p what) (notes p) reads))) →
    Leaves start w v a notes p what reads (word_of (machine.link_at w place) == expected)
leaves_at start w v a notes p what reads place expected g won =
    let found = word_of (machine.link_at w place) in
    leaves start w v a notes p what reads (found == expected) g (λ t. won (eqb-true found expected t))

-- ---- puts

-- functions that are the same everywhere are so once a value is put
pub puts_same : {A : Type 0} (f g : ℕ → A) (i : ℕ) (x : A) → ((j : ℕ) → f j ≡ g j) → (j : ℕ) → put f i x j ≡ put g i x j
puts_same {A} f g i x same j = go (cases_eq j i)
  where
    go : (j ≡ i) ⊎ (j ≢ i) → put f i x j ≡ put g i x j
    go (inl e) = rw (e, put_here f i x, put_here g i x) refl
    go (inr ne) = rw (put_other f i x j ne, put_other g i x j ne) (same j)

-- what holds of the value that was put, and of the others
pub at_put : {A : Type 0} (P : ℕ → A → Type 0) (f : ℕ → A) (i : ℕ) (x : A) → P i x → ((j : ℕ) → j ≢ i → P j (f j)) →
    (j : ℕ) → P j (put f i x j)
at_put {A} P f i x here there j = go (cases_eq j i)
  where
    go : (j ≡ i) ⊎ (j ≢ i) → P j (put f i x j)
    go (inl e) = rw (e, put_here f i x) here
    go (inr ne) = rw (put_other f i x j ne) (there j ne)

-- ---- what a pass owns

-- a slot in hand of the pass
pub record HandFacts (a : Incarnations) (p s epoch : ℕ) (holding : Option Holding) : Type 0 where
  pub last : a.last s ≡ Some (last_in a s)
  pub state : a.state (last_in a s) ≡ state.InHand p
  pub place : a.place s ≡ Hand p
  pub known : Unpublished
  pub holding_is : holding ≡ Some (InHand known)
  pub stamp_is : a.stamp s ≡ known.stamp
  pub born : a.birth (last_in a s) ≤ epoch
  pub birth_is : a.birth (last_in a s) ≡ known.birth
  pub keyed : IsStored (a.is_keyed (last_in a s)) (a.key (last_in a s)) known.key
  pub valued : IsStored (a.is_valued (last_in a s)) (a.value (last_in a s)) known.value
  pub aimed : IsStored (a.is_aimed (last_in a s)) (a.link (last_in a s)) known.link

pub hand_facts : (a : Incarnations) (p s epoch : ℕ) (holding : Option Holding) →
    OwnFits a p epoch holding (a.place s) (a.last s) (a.stamp s) → IsInHand holding → HandFacts a p s epoch holding
hand_facts a p s epoch (Some (InHand known)) h o =
    let x = h.1 in
    let l : last_in a s ≡ x.node = rw x.last_is refl in
    record {
      last = x.last_is ∙ ap Some (sym l);
      state = ap a.state l ∙ x.state;
      place = h.0;
      known = known;
      holding_is = refl;
      stamp_is = h.2;
      born = rw l x.born;
      birth_is = ap a.birth l ∙ x.birth_is;
      keyed = rw l x.keyed;
      valued = rw l x.valued;
      aimed = rw l x.aimed;
    }
hand_facts a p s epoch _ h o = absurd o

-- a slot that the pass unlinked
pub record UnlinkedFacts (a : Incarnations) (p s epoch : ℕ) (holding : Option Holding) : Type 0 where
  pub last : a.last s ≡ Some (last_in a s)
  pub unlinked : ℕ
  pub state : a.state (last_in a s) ≡ state.Unlinked p unlinked
  pub place : a.place s ≡ Own p
  pub seen : IsReread holding → unlinked ≤ epoch

pub unlinked_facts : (a : Incarnations) (p s epoch : ℕ) (holding : Option Holding) →
    OwnFits a p epoch holding (a.place s) (a.last s) (a.stamp s) → IsUnlinked holding →
    UnlinkedFacts a p s epoch holding
unlinked_facts a p s epoch (Some (Unlinked reread)) h o =
    let x = h.1 in
    let l : last_in a s ≡ x.node = rw x.last_is refl in
    record {
      last = x.last_is ∙ ap Some (sym l);
      unlinked = x.unlinked;
      state = ap a.state l ∙ x.state;
      place = h.0;
      seen = λ t. x.seen (grind arith);
    }
unlinked_facts a p s epoch _ h o = absurd o

-- a slot that is a pass's own or in its hand is no other's
pub own_not_of : (p : ℕ) (place : SlotPlace) → place ≡ Own p → (q : ℕ) → q ≢ p → IsNotOf q place
own_not_of p place e q ne = rw e (λ z. ne (sym z))

pub hand_not_of : (p : ℕ) (place : SlotPlace) → place ≡ Hand p → (q : ℕ) → q ≢ p → IsNotOf q place
hand_not_of p place e q ne = rw e (λ z. ne (sym z))
