-- A slot that a pass holds is in its hand alone between calls, and throughout those that take none.
use Rattle.vbr_list.proofs.Names.{◌≡◌, ℕ, ◌+◌, true, List, [], ◌∷◌, ◌++◌, Option, Some, None, refl, arith, sym, subst}
use Rattle.vbr_list.proofs.Names.{ap, ◌∙◌, append_assoc, Begins, begins_for_know, begins_refl, begins_run}
use Rattle.vbr_list.proofs.Names.{begins_trans, BeginsFor, birth_in_hand, Event, flags_tried, Free, HandFits}
use Rattle.vbr_list.proofs.Names.{HandView, Holding, in_hand_alone, in_hand_throughout, InHand, is_try, IsHandOf}
use Rattle.vbr_list.proofs.Names.{IsInHand, IsInHandAlone, IsRun, IsSame, IsStart, IsTry, Know, know_after, knows}
use Rattle.vbr_list.proofs.Names.{NoneTries, PassLaw, PassView, PublishedSlot, PublishesSlot, Start, Step}
use Rattle.vbr_list.proofs.Names.{TakesNoSlot, Trace, Unlinked, Unpublished}
use Rattle.vbr_list.proofs.pieces.CountedSteps.{MakesNone, none_between}

-- ---- no flag is tried

is_try_of : (step : Step) → IsTry step → is_try step ≡ true
is_try_of step h = grind arith

none_tries : (who : ℕ) (events : List Event) → MakesNone IsTry who events → NoneTries who events
none_tries who [] none = tt
none_tries who (event ∷ events) none = (none.0, none_tries who events none.1)

-- ---- what is in hand

known_in_hand : (h : Option Holding) → IsInHand h → (known : Unpublished) × (h ≡ Some (InHand known))
known_in_hand None i = absurd i
known_in_hand (Some (Free stamp)) i = absurd i
known_in_hand (Some (Unlinked seen)) i = absurd i
known_in_hand (Some (InHand known)) i = (known, refl)

-- a pass knows of the slot in its hand that it was born at this epoch
record IsKnown (know : Know) (slot birth : ℕ) : Type 0 where
  known : Unpublished
  own : know.own slot ≡ Some (InHand known)
  birth_is : known.birth ≡ birth

hand_known : (p : PassView) (hand : HandView) → PassLaw p → IsHandOf p hand →
    IsKnown (knows p.trace) hand.slot hand.birth
hand_known p hand law is =
    let P : Option ℕ → Type 0 = HandFits p.trace.start (knows p.trace) p.pool in
    let fits = subst P is.slot law.own.in_hand in
    let k = known_in_hand ((knows p.trace).own hand.slot) fits.1 in
    record { known = k.0; own = k.1; birth_is = sym (ap birth_in_hand k.1) ∙ is.birth }

-- ---- between calls

pub held_alone : (p : PassView) (hand : HandView) (run : List Event) → PassLaw p → IsHandOf p hand →
    BeginsFor p.trace.who p.trace.seen run → IsRun p.trace.start p.trace.passes run →
    IsInHandAlone p.trace.start run p.trace.who hand.slot hand.birth
held_alone p hand run law is begins ok =
    let k = hand_known p hand law is in
    let own = ap (λ (know : Know). know.own hand.slot)
    (begins_for_know p.trace.start p.trace.who p.trace.seen run begins)
    ∙ k.own in
    let P : ℕ → Type 0 = IsInHandAlone p.trace.start run p.trace.who hand.slot in
    subst P k.birth_is (in_hand_alone p.trace.start p.trace.passes run p.trace.who hand.slot k.known law.start ok own)

-- ---- throughout a call

held_between : (p q : Trace) (slot birth : ℕ) (moment end : List Event) → IsStart p.start → IsSame p q →
    IsRun q.start q.passes q.seen → flags_tried q ≡ flags_tried p → IsKnown (knows p) slot birth →
    IsKnown (know_after p.start end p.who) slot birth → Begins p.seen moment → Begins moment end → Begins end q.seen →
    IsInHand ((know_after p.start moment p.who).own slot)
held_between p q slot birth moment end is same ok count first last a b c =
    let R : Start × ℕ → Type 0 = λ x. IsRun x.0 x.1 q.seen in
    let ok_p : IsRun p.start p.passes q.seen = subst R (λ i. (same.start i, same.passes i)) ok in
    let ok_end = begins_run p.start p.passes end q.seen c ok_p in
    let at_end : end ≡ (p.seen ++ a.0) ++ b.0 = b.1 ∙ ap (λ (l : List Event). l ++ b.0) a.1 in
    let none = none_between is_try IsTry is_try_of p q same count (begins_refl p.seen)
    (a.0 ++ b.0, at_end ∙ append_assoc p.seen a.0 b.0) c in
    let E : List Event → Type 0 = λ l. (know_after p.start l p.who).own slot ≡ Some (InHand last.known) in
    let O : List Event → Type 0 = IsRun p.start p.passes in
    let M : List Event → Type 0 = λ l. IsInHand ((know_after p.start l p.who).own slot) in
    subst M (sym a.1)
    (in_hand_throughout p.start p.passes p.seen a.0 b.0 p.who slot first.known last.known is (subst O at_end ok_end)
    first.own (subst E at_end last.own) (last.birth_is ∙ sym first.birth_is)
    (none_tries p.who (a.0 ++ b.0) none))

pub held_until_placed : (p q : PassView) (hand : HandView) (key : ℕ) (moment : List Event)
    (slot : PublishedSlot p.trace q.trace hand.slot hand.birth key) → PassLaw p → PassLaw q →
    IsSame p.trace q.trace → IsHandOf p hand → TakesNoSlot p q → Begins p.trace.seen moment →
    Begins moment slot.published.moment → IsInHand ((know_after p.trace.start moment p.trace.who).own hand.slot)
held_until_placed p q hand key moment slot law later same is none a b =
    let x = slot.published in
    let K : Start × ℕ → Type 0 = λ y. (know_after y.0 x.moment y.1).own hand.slot ≡ Some (InHand x.known) in
    held_between p.trace q.trace hand.slot hand.birth moment x.moment law.start same later.is_run none.tries
    (hand_known p hand law is)
    (record {
      known = x.known;
      own = subst K (λ i. (slot.same.start i, slot.same.who i)) x.in_hand;
      birth_is = x.birth_is;
    }) a b (begins_trans x.moment slot.ended.seen q.trace.seen (x.event ∷ [], x.last) slot.to)

-- so it is where the publication was the end of the call
pub held_until_published : (p q : PassView) (hand : HandView) (key : ℕ) (moment : List Event)
    (slot : PublishesSlot p.trace q.trace hand.slot hand.birth key) → PassLaw p → PassLaw q →
    IsSame p.trace q.trace → IsHandOf p hand → TakesNoSlot p q → Begins p.trace.seen moment →
    Begins moment slot.moment → IsInHand ((know_after p.trace.start moment p.trace.who).own hand.slot)
held_until_published p q hand key moment slot law later same is none a b =
    held_until_placed p q hand key moment
    (record { ended = q.trace; same = same; to = begins_refl q.trace.seen; published = slot }) law later same is none a
    b

pub held_throughout : (p q : PassView) (hand : HandView) (moment : List Event) → PassLaw p → PassLaw q →
    IsSame p.trace q.trace → IsHandOf p hand → IsHandOf q hand → TakesNoSlot p q → Begins p.trace.seen moment →
    Begins moment q.trace.seen → IsInHand ((know_after p.trace.start moment p.trace.who).own hand.slot)
held_throughout p q hand moment law later same is still none a b =
    let K : Start × ℕ → Type 0 = λ x. IsKnown (know_after x.0 q.trace.seen x.1) hand.slot hand.birth in
    held_between p.trace q.trace hand.slot hand.birth moment q.trace.seen law.start same later.is_run none.tries
    (hand_known p hand law is) (subst K (λ i. (same.start i, same.who i)) (hand_known q hand later still)) a b
    (begins_refl q.trace.seen)
