-- The calls of a run have values just where they should, and no call of a set has one.
use Rattle.std.proofs.Common.{◌≡◌, ℕ, Bool, true, false, List, [], ◌∷◌, ◌++◌, append_assoc, Option, Some, None, refl}
use Rattle.std.proofs.Common.{sym, subst, ◌∙◌}
use Rattle.std.specs.Prelude.{IsSome, IfSome, if◌then◌else◌}
use Rattle.std.specs.Option.{option_to_list}
use Rattle.vbr_machine.specs.Start.{Start}
use Rattle.vbr_words.specs.Words.{link_of}
use Rattle.vbr_words.specs.declared.link.Link.{Link}
use Rattle.vbr_words.specs.declared.place.At.{At}
use Rattle.vbr_machine.specs.Knowledge.{Know, value_in}
use Rattle.vbr_machine.specs.Acceptance.{HasValue, HasValueFor, IsOpIn, MayPublish, MayReplace, Accepts}
use Rattle.vbr_machine.specs.Learning.{succeeds, value_in_hand, present_reply, present_value, call_ahead, call_of}
use Rattle.vbr_machine.specs.Machine.{World, opening, found, after}
use Rattle.vbr_machine.specs.Making.{ahead_made}
use Rattle.vbr_machine.specs.Maps.{HasValueOf, HaveValues}
use Rattle.vbr_machine.specs.Runs.{AreAccepted, IsRun, world_from, world_after}
use Rattle.vbr_machine.specs.declared.event.Event.{Event}
use Rattle.vbr_machine.specs.declared.event.Step.{Step}
use Rattle.vbr_machine.specs.declared.event.Step.TheVariants.{Publish, Mark, Replace, ConfirmPresent, ConfirmAbsent}
use Rattle.vbr_machine.specs.declared.history.Call.{Call}
use Rattle.vbr_machine.specs.declared.history.Op.{Op}
use Rattle.vbr_machine.specs.declared.history.Op.TheVariants.{Insert, Remove, Has, Get}
use Rattle.vbr_machine.specs.declared.knowledge.Read.{Read}
use Rattle.vbr_machine.specs.declared.knowledge.Holding.{Holding}
use Rattle.vbr_machine.specs.declared.knowledge.Holding.TheVariants.{InHand}
use Rattle.vbr_machine.proofs.runs.RunsGoOn.{calls_after}
use Rattle.vbr_machine.proofs.reads.ValueReads.{has_value}

-- ---- one call

inserted : (t : Bool) (v : Option ℕ) → HasValue t v → HasValueOf t Insert true (if t then v else None)
inserted true (Some x) h = (x, refl)
inserted true None h = absurd (cc)
inserted false v h = refl

removed : (t : Bool) (v : Option ℕ) → HasValue t v → HasValueOf t Remove true (if t then v else None)
removed true (Some x) h = (x, refl)
removed true None h = absurd (cc)
removed false v h = refl

given : (t : Bool) (v : Option ℕ) → t ≡ true → IsSome v → HasValueOf t Get true v
given true (Some x) i h = (x, refl)
given true None i h = absurd (cc)
given false v i h = absurd (cc)

none_for : (t : Bool) (op : Op) → HasValueOf t op false None
none_for false op = refl
none_for true Insert = refl
none_for true Remove = refl
none_for true Has = refl
none_for true Get = refl

none_for_has : (t : Bool) → HasValueOf t Has true None
none_for_has true = refl
none_for_has false = refl

ready_value : (start : Start) (reads : List Read) (pred : At) (expected : Link) (own : Option Holding) →
    MayPublish start reads pred expected own → HasValue start.shape.values (value_in_hand own)
ready_value start reads pred expected (Some (InHand known)) r = r.valued
ready_value start reads pred expected _ r = absurd r

placed_value : (start : Start) (reads : List Read) (s : ℕ) (expected : Link) (own : Option Holding) →
    MayReplace start reads s expected own → HasValue start.shape.values (value_in_hand own)
placed_value start reads s expected (Some (InHand known)) r = r.valued
placed_value start reads s expected _ r = absurd r

present : (start : Start) (op : Op) (v : Option ℕ) → IsOpIn start op → HasValueFor op v →
    HasValueOf start.shape.values op (present_reply op) (present_value op v)
present start Insert v i h = none_for start.shape.values Insert
present start Remove v i h = none_for start.shape.values Remove
present start Has v i h = none_for_has start.shape.values
present start Get v i h = given start.shape.values v i h

call_has : (start : Start) (p : ℕ) (know : Know) (step : Step) → Accepts start know step →
    IfSome (call_of start p know step) (λ call. HasValueOf start.shape.values call.op call.reply call.value)
call_has start p know (Publish pred expected s) ok =
    inserted start.shape.values (value_in_hand (know.own s))
    (ready_value start know.checked pred (link_of expected) (know.own s) ok.in_range.1)
call_has start p know (Mark s expected) ok = removed start.shape.values (value_in know.checked s) ok.held.2
call_has start p know (Replace s expected t) ok =
    inserted start.shape.values (value_in_hand (know.own t))
    (placed_value start know.checked s (link_of expected) (know.own t) ok.in_range.1)
call_has start p know (ConfirmPresent op s expected) ok =
    present start op (value_in know.checked s) ok.in_shape.1 ok.held.2
call_has start p know (ConfirmAbsent op key place expected) ok = none_for start.shape.values op
call_has start p know _ ok = tt

if_made : (b t : Bool) (made : Option Call) → IfSome made (λ call. HasValueOf t call.op call.reply call.value) →
    IfSome (if b then made else None) (λ call. HasValueOf t call.op call.reply call.value)
if_made true t made h = h
if_made false t made h = tt

ahead_has : (start : Start) (w : World) (p : ℕ) (step : Step) → Accepts start (w.know p) step →
    IfSome (ahead_made start w p step) (λ call. HasValueOf start.shape.values call.op call.reply call.value)
ahead_has start w p (Replace s expected t) ok =
    if_made (succeeds (Replace s expected t) (found start w (Replace s expected t))) start.shape.values
    (call_ahead start p (w.know p) (Replace s expected t))
    (removed start.shape.values (value_in (w.know p).checked s)
    (has_value start.shape.values (value_in (w.know p).checked s) ok.held.1.2))
ahead_has start w p _ ok = tt

-- ---- all calls

have_more : (t : Bool) (calls : List Call) (made : Option Call) → HaveValues t calls →
    IfSome made (λ call. HasValueOf t call.op call.reply call.value) → HaveValues t (calls ++ option_to_list made)
have_more t [] None h m = tt
have_more t [] (Some call) h m = (m, tt)
have_more t (c ∷ cs) made h m = (h.0, have_more t cs made h.1 m)

have_on : (start : Start) (passes : ℕ) (w : World) (events : List Event) → AreAccepted start passes w events →
    HaveValues start.shape.values w.calls → HaveValues start.shape.values (world_from start w events).calls
have_on start passes w [] ok h = h
have_on start passes w (event ∷ events) ok h =
    let made = call_of start event.pass (w.know event.pass) event.step in
    let ahead = ahead_made start w event.pass event.step in
    let b = succeeds event.step (found start w event.step) in
    let P : List Call → Type 0 = HaveValues start.shape.values in
    have_on start passes (after start w event.pass event.step) events ok.1
    (subst P (sym
    (calls_after start w event.pass event.step
    ∙ sym (append_assoc w.calls (option_to_list ahead) (option_to_list (if b then made else None)))))
    (have_more start.shape.values (w.calls ++ option_to_list ahead) (if b then made else None)
    (have_more start.shape.values w.calls ahead h (ahead_has start w event.pass event.step ok.0.1))
    (if_made b start.shape.values made (call_has start event.pass (w.know event.pass) event.step ok.0.1))))

-- after a run
pub run_values : (start : Start) (passes : ℕ) (run : List Event) → IsRun start passes run →
    HaveValues start.shape.values (world_after start run).calls
run_values start passes run ok = have_on start passes (opening start) run ok tt
