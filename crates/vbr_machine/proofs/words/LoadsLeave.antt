-- A load leaves each word as it was.
use Rattle.std.proofs.Common.{◌≡◌, ℕ, refl}
use Rattle.std.specs.Prelude.{◌==◌}
use Rattle.vbr_machine.specs.Start.{Start}
use Rattle.vbr_words.specs.Words.{word_of}
use Rattle.vbr_words.specs.declared.place.Place.{Place}
use Rattle.vbr_machine.specs.Loads.{IsLoad}
use Rattle.vbr_machine.specs.Machine.{World, found, knows_nothing, word_at, after}
use Rattle.vbr_machine.specs.declared.event.Step.{Step}
use Rattle.vbr_machine.specs.declared.event.Step.TheVariants.{ReadEpoch, Advance, LoadStamp, PeekBirth, StoreStamp}
use Rattle.vbr_machine.specs.declared.event.Step.TheVariants.{Raise}
use Rattle.vbr_machine.specs.declared.event.Step.TheVariants.{TakeFlag, StoreBirth, StoreKey, StoreLink, LoadLink}
use Rattle.vbr_machine.specs.declared.event.Step.TheVariants.{LoadBirth, LoadKey, Publish, Mark, Replace, Unlink}
use Rattle.vbr_machine.specs.declared.event.Step.TheVariants.{ConfirmPresent, ConfirmAbsent, LoadValue, StoreValue}
use Rattle.vbr_machine.proofs.words.Branches.{by_both}

pub loads_leave : (start : Start) (w : World) (p : ℕ) (step : Step) → IsLoad step → (q : Place) →
    word_at start (after start w p step) q ≡ word_at start w q
loads_leave start w p ReadEpoch load q = refl
loads_leave start w p (LoadStamp s) load q = refl
loads_leave start w p (PeekBirth s) load q = refl
loads_leave start w p (LoadLink place) load q = refl
loads_leave start w p (LoadBirth s) load q = refl
loads_leave start w p (LoadKey s) load q = refl
loads_leave start w p (LoadValue s) load q = refl
loads_leave start w p (ConfirmPresent op s expected) load q =
    by_both (word_of (w.link s) == expected) (λ (v : World). word_at start v q) _ w _ refl refl
loads_leave start w p (ConfirmAbsent op key place expected) load q =
    by_both (found start w (ConfirmAbsent op key place expected) == expected) (λ (v : World). word_at start v q) _ w _
    refl
    refl
loads_leave start w p (Advance from) load q = let e = load knows_nothing in absurd (cc)
loads_leave start w p (StoreStamp s stamp) load q = let e = load knows_nothing in absurd (cc)
loads_leave start w p (Raise s) load q = let e = load knows_nothing in absurd (cc)
loads_leave start w p (TakeFlag s) load q = let e = load knows_nothing in absurd (cc)
loads_leave start w p (StoreBirth s birth) load q = let e = load knows_nothing in absurd (cc)
loads_leave start w p (StoreKey s key) load q = let e = load knows_nothing in absurd (cc)
loads_leave start w p (StoreValue s value) load q = let e = load knows_nothing in absurd (cc)
loads_leave start w p (StoreLink s next) load q = let e = load knows_nothing in absurd (cc)
loads_leave start w p (Publish pred expected s) load q = let e = load knows_nothing in absurd (cc)
loads_leave start w p (Mark s expected) load q = let e = load knows_nothing in absurd (cc)
loads_leave start w p (Replace s expected t) load q = let e = load knows_nothing in absurd (cc)
loads_leave start w p (Unlink pred expected s) load q = let e = load knows_nothing in absurd (cc)
