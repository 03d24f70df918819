-- Along every run the world, the incarnations and the notes agree, and the chronicle is lawful.
use Rattle.std.proofs.Common.{◌≡◌, ℕ, List, [], ◌∷◌, ◌++◌, refl, ap, sym, ◌∙◌, subst}
use Rattle.vbr_machine.specs.Start.{Start, IsStart}
use Rattle.vbr_machine.specs.Put.{put}
use Rattle.vbr_words.specs.declared.place.At.TheVariants.{Head, Slot}
use Rattle.vbr_machine.specs.Keys.{Keys}
use Rattle.vbr_machine.specs.Opened.{opening_keys}
use Rattle.vbr_machine.specs.Acceptance.{Accepts}
use Rattle.vbr_machine.specs.Machine.{World, opening, after}
use Rattle.vbr_machine.specs.Runs.{AreAccepted, Begins, IsRun, world_from, world_after}
use Rattle.vbr_machine.specs.Incarnations.{Incarnations, at_opening}
use Rattle.vbr_machine.specs.Chronicles.{Entry, IsLawful, becomes, incarnations_from}
use Rattle.vbr_machine.specs.Sound.{Grows}
use Rattle.vbr_machine.specs.Notes.{Notes, no_notes, notes_with}
use Rattle.vbr_machine.specs.Accounts.{happens, incarnations_with, chronicle_from, notes_from, chronicle}
use Rattle.vbr_machine.specs.Accounts.{incarnations_after, notes_after}
use Rattle.vbr_machine.specs.Agreement.{Agrees}
use Rattle.vbr_machine.specs.declared.event.Event.{Event}
use Rattle.vbr_machine.specs.declared.event.Step.{Step}
use Rattle.vbr_machine.specs.declared.event.Step.TheVariants.{ReadEpoch, Advance, LoadStamp, PeekBirth, StoreStamp}
use Rattle.vbr_machine.specs.declared.event.Step.TheVariants.{Raise}
use Rattle.vbr_machine.specs.declared.event.Step.TheVariants.{TakeFlag, StoreBirth, StoreKey, StoreLink, LoadLink}
use Rattle.vbr_machine.specs.declared.event.Step.TheVariants.{LoadBirth, LoadKey, Publish, Mark, Replace, Unlink}
use Rattle.vbr_machine.specs.declared.event.Step.TheVariants.{ConfirmPresent, ConfirmAbsent, StoreValue, LoadValue}
use Rattle.vbr_machine.proofs.chronicles.Growth.{grows_after}
use Rattle.vbr_machine.proofs.steps.Steps.{agrees_at_first}
use Rattle.vbr_machine.proofs.steps.EpochSteps.{step_read_epoch, step_advance, step_load_stamp, step_peek_birth}
use Rattle.vbr_machine.proofs.steps.OwnerSteps.{step_raise, step_take_flag, step_store_key, step_store_link}
use Rattle.vbr_machine.proofs.steps.OwnerSteps.{step_store_value}
use Rattle.vbr_machine.proofs.steps.BirthSteps.{step_store_stamp, step_store_birth}
use Rattle.vbr_machine.proofs.steps.LoadSteps.{step_load_link, step_loads}
use Rattle.vbr_machine.proofs.steps.ConfirmSteps.{step_confirm_present, step_confirm_absent}
use Rattle.vbr_machine.proofs.steps.MarkSteps.{step_mark}
use Rattle.vbr_machine.proofs.steps.Publishing.{step_publish}
use Rattle.vbr_machine.proofs.steps.Replacing.{step_replace}
use Rattle.vbr_machine.proofs.steps.Unlinking.{step_unlink}

-- every accepted step adds what is lawful and keeps the agreement
pub step_agrees : (start : Start) (w : World) (a : Incarnations) (notes : ℕ → Notes) (p : ℕ) (step : Step) →
    Agrees start w a notes → Accepts start (w.know p) step →
    IsLawful start (opening_keys start) a (happens start w a p step)
    × Agrees start (after start w p step) (incarnations_from start a (happens start w a p step))
    (put notes p (notes_with start w (incarnations_from start a (happens start w a p step)) p step (notes p)))
step_agrees start w a notes p ReadEpoch g ok = step_read_epoch start w a notes p g
step_agrees start w a notes p (Advance from) g ok = step_advance start w a notes p from g ok
step_agrees start w a notes p (LoadStamp s) g ok = step_load_stamp start w a notes p s g
step_agrees start w a notes p (PeekBirth s) g ok = step_peek_birth start w a notes p s g
step_agrees start w a notes p (StoreStamp s stamp) g ok = step_store_stamp start w a notes p s stamp g ok
step_agrees start w a notes p (Raise s) g ok = step_raise start w a notes p s g ok
step_agrees start w a notes p (TakeFlag s) g ok = step_take_flag start w a notes p s g ok.in_shape
step_agrees start w a notes p (StoreBirth s birth) g ok = step_store_birth start w a notes p s birth g ok
step_agrees start w a notes p (StoreKey s key) g ok = step_store_key start w a notes p s key g ok
step_agrees start w a notes p (StoreValue s value) g ok = step_store_value start w a notes p s value g ok
step_agrees start w a notes p (StoreLink s next) g ok = step_store_link start w a notes p s next g ok
step_agrees start w a notes p (LoadLink place) g ok = step_load_link start w a notes p place g ok
step_agrees start w a notes p (LoadBirth s) g ok = (step_loads start w a notes p s g ok.held).0
step_agrees start w a notes p (LoadKey s) g ok = (step_loads start w a notes p s g ok.held).1
step_agrees start w a notes p (LoadValue s) g ok = (step_loads start w a notes p s g ok.held).2
step_agrees start w a notes p (Publish (Head b) expected s) g ok =
    step_publish start w a notes p (Head b) expected s g ok
step_agrees start w a notes p (Publish (Slot q) expected s) g ok =
    step_publish start w a notes p (Slot q) expected s g ok
step_agrees start w a notes p (Mark s expected) g ok = step_mark start w a notes p s expected g ok
step_agrees start w a notes p (Replace s expected t) g ok = step_replace start w a notes p s expected t g ok
step_agrees start w a notes p (Unlink (Head b) expected s) g ok = step_unlink start w a notes p (Head b) expected s g ok
step_agrees start w a notes p (Unlink (Slot q) expected s) g ok = step_unlink start w a notes p (Slot q) expected s g ok
step_agrees start w a notes p (ConfirmPresent op s expected) g ok =
    step_confirm_present start w a notes p op s expected g ok
step_agrees start w a notes p (ConfirmAbsent op key place expected) g ok =
    step_confirm_absent start w a notes p op key place expected g ok

-- ---- chronicles in two parts

pub incarnations_from-append : (start : Start) (a : Incarnations) (xs ys : List Entry) →
    incarnations_from start a (xs ++ ys) ≡ incarnations_from start (incarnations_from start a xs) ys
incarnations_from-append start a [] ys = refl
incarnations_from-append start a (x ∷ xs) ys = incarnations_from-append start (becomes start a x.pass x.what) xs ys

lawful-append : (start : Start) (keys : Keys) (a : Incarnations) (xs ys : List Entry) → IsLawful start keys a xs →
    IsLawful start keys (incarnations_from start a xs) ys → IsLawful start keys a (xs ++ ys)
lawful-append start keys a [] ys l m = m
lawful-append start keys a (x ∷ xs) ys l m = (l.0, lawful-append start keys (becomes start a x.pass x.what) xs ys l.1 m)

-- ---- runs

-- accepted events add what is lawful and keep the agreement
pub runs_agree : (start : Start) (passes : ℕ) (w : World) (a : Incarnations) (notes : ℕ → Notes) (events : List Event) →
    Agrees start w a notes → AreAccepted start passes w events →
    IsLawful start (opening_keys start) a (chronicle_from start w a events) ×
    Agrees start (world_from start w events) (incarnations_from start a (chronicle_from start w a events))
    (notes_from start w a notes events)
runs_agree start passes w a notes [] g ok = (tt, g)
runs_agree start passes w a notes (event ∷ events) g ok =
    let p = event.pass in
    let v = after start w p event.step in
    let b = incarnations_with start w a event in
    let new = put notes p (notes_with start w b p event.step (notes p)) in
    let one = step_agrees start w a notes p event.step g ok.0.1 in
    let rest = runs_agree start passes v b new events one.1 ok.1 in (
      lawful-append start (opening_keys start) a (happens start w a p event.step) (chronicle_from start v b events)
          one.0 rest.0,
      rw (incarnations_from-append start a (happens start w a p event.step) (chronicle_from start v b events)) rest.1,
    )

-- after a run the world, the incarnations and the notes agree
pub run_agrees : (start : Start) (passes : ℕ) (run : List Event) → IsStart start → IsRun start passes run →
    Agrees start (world_after start run) (incarnations_after start run) (notes_after start run)
run_agrees start passes run is ok =
    (runs_agree start passes (opening start) (at_opening start) (λ p. no_notes) run (agrees_at_first start is) ok).1

-- its chronicle is lawful
pub run_lawful : (start : Start) (passes : ℕ) (run : List Event) → IsStart start → IsRun start passes run →
    IsLawful start (opening_keys start) (at_opening start) (chronicle start run)
run_lawful start passes run is ok =
    (runs_agree start passes (opening start) (at_opening start) (λ p. no_notes) run (agrees_at_first start is) ok).0

-- ---- runs in two parts

pub incarnations-append : (start : Start) (w : World) (a : Incarnations) (xs ys : List Event) →
    incarnations_from start a (chronicle_from start w a (xs ++ ys))
    ≡ incarnations_from start (incarnations_from start a (chronicle_from start w a xs))
    (chronicle_from start (world_from start w xs) (incarnations_from start a (chronicle_from start w a xs)) ys)
incarnations-append start w a [] ys = refl
incarnations-append start w a (x ∷ xs) ys =
    let b = incarnations_with start w a x in
    let v = after start w x.pass x.step in
    incarnations_from-append start a (happens start w a x.pass x.step) (chronicle_from start v b (xs ++ ys))
    ∙ incarnations-append start v b xs ys
    ∙ sym (ap (λ i. incarnations_from start i (chronicle_from start (world_from start v xs) i ys))
    (incarnations_from-append start a (happens start w a x.pass x.step) (chronicle_from start v b xs)))

-- the incarnations after one more event
pub incarnations_after-snoc : (start : Start) (run : List Event) (event : Event) →
    incarnations_after start (run ++ event ∷ [])
    ≡ incarnations_with start (world_after start run) (incarnations_after start run) event
incarnations_after-snoc start run event =
    incarnations-append start (opening start) (at_opening start) run (event ∷ [])
    ∙ incarnations_from-append start (incarnations_after start run)
    (happens start (world_after start run) (incarnations_after start run) event.pass event.step) []

-- what was there after a beginning of a run stays to its end
pub run_grows : (start : Start) (passes : ℕ) (xs ys : List Event) → IsStart start → IsRun start passes (xs ++ ys) →
    Grows (incarnations_after start xs) (incarnations_after start (xs ++ ys))
run_grows start passes xs ys is ok =
    let parts = accepted_parts start passes (opening start) xs ys ok in
    let one = runs_agree start passes (opening start) (at_opening start) (λ p. no_notes) xs (agrees_at_first start is)
    parts.0 in
    let a = incarnations_after start xs in
    let two = runs_agree start passes (world_after start xs) a (notes_after start xs) ys one.1 parts.1 in
    let grown : Grows a (incarnations_from start a (chronicle_from start (world_after start xs) a ys)) =
    grows_after start (opening_keys start) a (chronicle_from start (world_after start xs) a ys) one.1.sound two.0 in
    rw (incarnations-append start (opening start) (at_opening start) xs ys) grown
  where
    accepted_parts : (start : Start) (passes : ℕ) (w : World) (xs ys : List Event) →
        AreAccepted start passes w (xs ++ ys) →
        AreAccepted start passes w xs × AreAccepted start passes (world_from start w xs) ys
    accepted_parts start passes w [] ys ok = (tt, ok)
    accepted_parts start passes w (x ∷ xs) ys ok =
        let rest = accepted_parts start passes (after start w x.pass x.step) xs ys ok.1 in ((ok.0, rest.0), rest.1)

pub begun_grows : (start : Start) (passes : ℕ) → IsStart start → (moment run : List Event) → Begins moment run →
    IsRun start passes run → Grows (incarnations_after start moment) (incarnations_after start run)
begun_grows start passes is moment run begins ok =
    let P : List Event → Type 0 = IsRun start passes in
    let Q : List Event → Type 0 = λ r. Grows (incarnations_after start moment) (incarnations_after start r) in
    subst Q (sym begins.1) (run_grows start passes moment begins.0 is (subst P begins.1 ok))
