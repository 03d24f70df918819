-- The confirming loads keep the agreement, and answer as the set is at that moment.
use Rattle.std.proofs.Common.{◌≡◌, ◌≢◌, ℕ, Bool, true, false, [], ◌∷◌, ◌++◌, refl, sym, ap, ◌∙◌, inl, inr, Option, None}
use Rattle.std.proofs.Common.{IsSome, Some}
use Rattle.std.specs.Prelude.{◌⊎◌, ◌==◌, not, unwrap_or}
use Rattle.std.proofs.lemmas.Bool.{cases_Bool, eqb-true, cond-true}
use Rattle.vbr_machine.specs.Start.{Start}
use Rattle.vbr_words.specs.Words.{word_of}
use Rattle.vbr_words.specs.declared.place.At.{At}
use Rattle.vbr_words.specs.declared.place.At.TheVariants.{Slot}
use Rattle.vbr_machine.specs.Put.{put}
use Rattle.vbr_machine.specs.Opened.{opening_keys, opening_payloads, payload_kept}
use Rattle.vbr_machine.specs.History.{Payloads, reply_of, set_after, values_after, GivesValue}
use Rattle.vbr_machine.specs.Knowledge.{key_in, value_in}
use Rattle.vbr_machine.specs.Acceptance.{IsOpIn, HasValueFor, Accepts}
use Rattle.vbr_machine.specs.Learning.{present_reply, present_value}
use Rattle.vbr_machine.specs.Machine.{World}
use Rattle.vbr_machine.specs.Machine as machine
use Rattle.vbr_machine.specs.Incarnations.{Incarnations, last_in}
use Rattle.vbr_machine.specs.Chronicles.{Allowed, Confirms, ChangesNothing, becomes}
use Rattle.vbr_machine.specs.Notes.{Notes}
use Rattle.vbr_machine.specs.Agreement.{Agrees}
use Rattle.vbr_machine.specs.declared.history.Call.{Call}
use Rattle.vbr_machine.specs.declared.history.Op.{Op}
use Rattle.vbr_machine.specs.declared.history.Op.TheVariants.{Insert, Remove, Has, Get}
use Rattle.vbr_machine.specs.declared.event.Step.TheVariants.{ConfirmPresent, ConfirmAbsent}
use Rattle.vbr_machine.proofs.chronicles.Growth.{grows}
use Rattle.vbr_machine.proofs.reads.Searches.{key_is, value_is}
use Rattle.vbr_machine.proofs.reads.Noted.{knows_on, knows_same}
use Rattle.vbr_machine.proofs.reads.OwnSlots.{owns_same}
use Rattle.vbr_machine.proofs.chronicles.Shown.{image_kept, fits_kept}
use Rattle.vbr_machine.proofs.reads.ValueReads.{some_value}
use Rattle.vbr_machine.proofs.reads.StandingLinks.{link_stands}
use Rattle.vbr_machine.proofs.steps.Steps.{StepAgrees, agrees_next, agrees_still}
pub use Rattle.vbr_machine.proofs.moments.AtLoads.{found_at}
use Rattle.vbr_machine.proofs.moments.MarkedChains.{confirmed_absent}

-- a call that changes nothing
answer_allowed : (start : Start) (w : World) (a : Incarnations) (notes : ℕ → Notes) (p : ℕ) (call : Call) →
    Agrees start w a notes → Allowed start (opening_keys start) a p (Confirms call) →
    Agrees start (record w { calls = w.calls ++ call ∷ [] }) (becomes start a p (Confirms call)) (put notes p (notes p))
answer_allowed start w a notes p call g al =
    let b = becomes start a p (Confirms call) in
    let v = record w { calls = w.calls ++ call ∷ [] } in
    agrees_next start w v a notes (put notes p (notes p)) p (Confirms call) g al
    (fits_kept a b refl refl refl refl g.fits)
    (image_kept v w a b g.image.epoch refl refl refl refl refl refl g.image.place refl refl refl refl refl refl refl
    refl refl refl g.image)
    (knows_same b w.know notes p
    (knows_on g.sound (grows start (opening_keys start) a p (Confirms call) g.sound al) w.know notes g.knows))
    (owns_same a b w.know g.owns)
    (ap (λ l. l ++ call ∷ []) g.calls) g.births

pub step_confirm_present : (start : Start) (w : World) (a : Incarnations) (notes : ℕ → Notes) (p : ℕ) (op : Op)
    (s expected : ℕ) → Agrees start w a notes → Accepts start (w.know p) (ConfirmPresent op s expected) →
    StepAgrees start w a notes p (ConfirmPresent op s expected)
step_confirm_present start w a notes p op s expected g ok = go (cases_Bool (word_of (w.link s) == expected))
  where
    nothing : (o : Op) → o ≢ Remove → ChangesNothing o (present_reply o)
    nothing Insert n = refl
    nothing Remove n = refl
    nothing Has n = tt
    nothing Get n = tt

    reply : (o : Op) (keys : ℕ → Bool) (k : ℕ) → o ≢ Remove → keys k ≡ true → present_reply o ≡ reply_of keys o k
    reply Insert keys k n e = sym (ap not e)
    reply Remove keys k n e = absurd (n refl)
    reply Has keys k n e = sym e
    reply Get keys k n e = sym e

    -- the value of a present key is given to a get
    gives : (o : Op) (payloads : Payloads) (k x : ℕ) (v : Option ℕ) → o ≢ Remove → IsOpIn start o → HasValueFor o v →
        (IsSome v → unwrap_or v 0 ≡ x) → payloads k ≡ payload_kept start (Some x) →
        GivesValue payloads o k (present_reply o) (present_value o v)
    gives Insert payloads k x v n i h e f = refl
    gives Remove payloads k x v n i h e f = absurd (n refl)
    gives Has payloads k x v n i h e f = refl
    gives Get payloads k x v n i h e f = some_value v x h (e h) ∙ sym (f ∙ cond-true start.shape.values (Some x) None i)

    go : ((word_of (w.link s) == expected) ≡ true) ⊎ ((word_of (w.link s) == expected) ≡ false) →
        StepAgrees start w a notes p (ConfirmPresent op s expected)
    go (inr f) = rw f (tt, agrees_still start w a notes p g)
    go (inl t) =
        let m = link_stands start w a notes p g (Slot s) expected ok.held.0 ok.in_range.0
        (eqb-true (word_of (w.link s)) expected t) in
        let key = unwrap_or (key_in (w.know p).checked s) 0 in
        let k : key ≡ a.key (last_in a s) =
        key_is g.sound.slots (w.know p).epoch (notes p).checked (w.know p).checked s (last_in a s)
        (g.knows p).checked_reads (g.knows p).checked m.held ok.held.1 in
        let v = value_is g.sound.slots (w.know p).epoch (notes p).checked (w.know p).checked s (last_in a s)
        (g.knows p).checked_reads (g.knows p).checked m.held in
        let call : Call =
        record {
          who = p;
          op = op;
          key = key;
          reply = present_reply op;
          value = present_value op (value_in (w.know p).checked s);
        } in
        let al : Allowed start (opening_keys start) a p (Confirms call) = (
          refl,
          nothing op ok.in_range.1,
          reply op (set_after (opening_keys start) a.calls) key ok.in_range.1
              (rw k (g.tells.there (last_in a s) m.is_open)),
          gives op (values_after (opening_payloads start) a.calls) key (a.value (last_in a s))
              (value_in (w.know p).checked s) ok.in_range.1 ok.in_shape.1 ok.held.2 v
              (rw k (g.tells.stored (last_in a s) m.is_open)),
        ) in
        rw t ((al, tt), answer_allowed start w a notes p call g al)

pub step_confirm_absent : (start : Start) (w : World) (a : Incarnations) (notes : ℕ → Notes) (p : ℕ) (op : Op) (key : ℕ)
    (place : At) (expected : ℕ) → Agrees start w a notes →
    Accepts start (w.know p) (ConfirmAbsent op key place expected) →
    StepAgrees start w a notes p (ConfirmAbsent op key place expected)
step_confirm_absent start w a notes p op key place expected g ok =
    go (cases_Bool (word_of (machine.link_at w place) == expected))
  where
    nothing : (o : Op) → ChangesNothing o false
    nothing Insert = refl
    nothing Remove = refl
    nothing Has = tt
    nothing Get = tt

    reply : (o : Op) (keys : ℕ → Bool) (k : ℕ) → o ≢ Insert → keys k ≡ false → false ≡ reply_of keys o k
    reply Insert keys k n e = absurd (n refl)
    reply Remove keys k n e = sym e
    reply Has keys k n e = sym e
    reply Get keys k n e = sym e

    gives : (o : Op) (payloads : Payloads) (k : ℕ) → GivesValue payloads o k false None
    gives Insert payloads k = refl
    gives Remove payloads k = refl
    gives Has payloads k = refl
    gives Get payloads k = refl

    go : ((word_of (machine.link_at w place) == expected) ≡ true) ⊎
        ((word_of (machine.link_at w place) == expected) ≡ false) →
        StepAgrees start w a notes p (ConfirmAbsent op key place expected)
    go (inr f) = rw (found_at start w place, f) (tt, agrees_still start w a notes p g)
    go (inl t) =
        let q : machine.found start w (ConfirmAbsent op key place expected) ≡ expected =
        found_at start w place ∙ eqb-true (word_of (machine.link_at w place)) expected t in
        let ab : set_after (opening_keys start) a.calls key ≡ false =
        sym (ap (λ calls. set_after (opening_keys start) calls key) g.calls)
        ∙ confirmed_absent g p op key place expected ok q in
        let call : Call = record { who = p; op = op; key = key; reply = false; value = None } in
        let al : Allowed start (opening_keys start) a p (Confirms call) = (
          refl,
          nothing op,
          reply op (set_after (opening_keys start) a.calls) key ok.in_range.1 ab,
          gives op (values_after (opening_payloads start) a.calls) key,
        ) in
        rw (found_at start w place, t) ((al, tt), answer_allowed start w a notes p call g al)
