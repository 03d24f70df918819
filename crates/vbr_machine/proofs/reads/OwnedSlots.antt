-- What a pass knows of its slots fits the words.
-- A slot that it takes or unlinks wasn't its own, and a stamp that it knows stands there.
use Rattle.std.proofs.Common.{◌≡◌, ℕ, Option, Some, None, sym, ap, ◌∙◌, true}
use Rattle.vbr_machine.specs.Start.{Start}
use Rattle.vbr_words.specs.Words.{word_of}
use Rattle.vbr_words.specs.declared.place.At.{At}
use Rattle.vbr_machine.specs.Acceptance.{Accepts, MayBear, stamp_in}
use Rattle.vbr_machine.specs.Machine.{World, is_shared, link_at}
use Rattle.vbr_machine.specs.Incarnations.{Incarnations, last_in}
use Rattle.vbr_machine.specs.Notes.{Notes}
use Rattle.vbr_machine.specs.Agreement.{Agrees, OwnFits, IsNotOf}
use Rattle.vbr_machine.specs.declared.event.Step.TheVariants.{Unlink}
use Rattle.vbr_machine.specs.declared.knowledge.Holding.{Holding}
use Rattle.vbr_machine.specs.declared.knowledge.Holding.TheVariants.{Free, Unlinked, InHand}
use Rattle.vbr_machine.specs.declared.knowledge.SlotPlace.{SlotPlace}
use Rattle.vbr_machine.specs.declared.knowledge.SlotPlace.TheVariants.{Shared, Own, Hand, Listed}
use Rattle.vbr_machine.proofs.reads.OwnSlots.{not_owned}
use Rattle.vbr_machine.proofs.reads.StandingLinks.{link_stands}
use Rattle.vbr_machine.proofs.steps.MarkSteps.{listed_not_of}
use Rattle.vbr_machine.proofs.steps.UnlinkSteps.{facts}

raised : (pass : ℕ) (place : SlotPlace) → is_shared place ≡ true → IsNotOf pass place
raised pass Shared flag = tt
raised pass (Own q) flag = absurd (cc)
raised pass (Hand q) flag = absurd (cc)
raised pass (Listed b) flag = tt

-- a slot in the shared pool is no pass's own
pub taken_unowned : (start : Start) (w : World) (a : Incarnations) (notes : ℕ → Notes) (p s : ℕ) →
    Agrees start w a notes → is_shared (w.place s) ≡ true → (w.know p).own s ≡ None
taken_unowned start w a notes p s g flag =
    not_owned a p (w.know p).epoch ((w.know p).own s) (a.place s) (a.last s) (a.stamp s) (g.owns p s)
    (raised p (a.place s) (ap is_shared (sym (g.image.place s)) ∙ flag))

-- nor is one that a pass unlinks
pub unlinked_unowned : (start : Start) (w : World) (a : Incarnations) (notes : ℕ → Notes) (p : ℕ) (pred : At)
    (expected s : ℕ) → Agrees start w a notes → Accepts start (w.know p) (Unlink pred expected s) →
    word_of (link_at w pred) ≡ expected → (w.know p).own s ≡ None
unlinked_unowned start w a notes p pred expected s g ok found =
    let m = link_stands start w a notes p g pred expected ok.held.0 ok.in_range.0 found in
    let r = facts start w a notes p pred expected s g ok m in
    let c = last_in a s in
    not_owned a p (w.know p).epoch ((w.know p).own s) (a.place s) (a.last s) (a.stamp s) (g.owns p s)
    (listed_not_of start (a.place s) (a.state c) (a.key c) (g.sound.slots.placed c s r.last) (rw r.state tt) p)

stamp_fits : (a : Incarnations) (pass epoch : ℕ) (holding : Option Holding) (place : SlotPlace) (last : Option ℕ)
    (stamp : ℕ) → OwnFits a pass epoch holding place last stamp → MayBear holding → stamp ≡ stamp_in holding
stamp_fits a pass epoch None place last stamp fits may = absurd may
stamp_fits a pass epoch (Some (Free known)) place last stamp fits may = fits.2
stamp_fits a pass epoch (Some (Unlinked reread)) place last stamp fits may = absurd may
stamp_fits a pass epoch (Some (InHand known)) place last stamp fits may = fits.2

-- the stamp that a pass knows of a slot that it may bear in is the stamp that stands there
pub stamp_known : (start : Start) (w : World) (a : Incarnations) (notes : ℕ → Notes) (p s : ℕ) →
    Agrees start w a notes → MayBear ((w.know p).own s) → w.stamp s ≡ stamp_in ((w.know p).own s)
stamp_known start w a notes p s g may = g.image.stamp s
    ∙ stamp_fits a p (w.know p).epoch ((w.know p).own s) (a.place s) (a.last s) (a.stamp s) (g.owns p s) may
