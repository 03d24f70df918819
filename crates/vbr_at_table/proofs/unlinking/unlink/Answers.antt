use Rattle.std.proofs.Common.{ℕ, refl, ◌≡◌, ◌<◌, sym, ap, ◌∙◌, subst, rules}
use Rattle.vbr_machine.specs.Start.{Start}
use denote.Bor.{Bor}
use Rattle.vbr_words.specs.Packing.{IsPackable, slot_bits, unpacked}
use Rattle.vbr_words.specs.Words.{link_of, word_of}
use Rattle.vbr_words.specs.KeptLinks.{kept_link}
use Rattle.vbr_words.proofs.Lemmas.{kept_fits}
use Rattle.vbr_machine.specs.Links.{link_to}
use Rattle.vbr_machine.specs.Acceptance.{Accepts, IsAtIn}
use Rattle.vbr_machine.specs.declared.event.Step.TheVariants.{Unlink}
use Rattle.vbr_slots.specs.views.Views.{TableView, knows}
use Rattle.vbr_at_table.specs.answers.Exchanges.{IsUnmarked, UnlinksNode, UnlinksNone}
use Rattle.vbr_at_table.specs.reads.Held.{HoldsMarked, Names, said, said_marked, said_rollback}
use Rattle.vbr_at_table.specs.reads.Reading.{IsBirthRead}
use Rattle.vbr_at_table.specs.declared.rollback.Rollback.TheVariants.{LostExchange}
use Rattle.vbr_at_table.proofs.steps.Accepted.{accepted_checked}
use Rattle.vbr_at_table.proofs.reads.KeptKnowledge.{held_kept, marked_kept}
use Rattle.vbr_at_table.proofs.exchanges.Unlinks.{unlink_quiet, accepted, written, written_fits, written_has_room}
use Rattle.vbr_at_table.proofs.steps.SaidWords.{layout_on, said_link}
use Rattle.vbr_slots.proofs.Lemmas.{quiet_on}
use Rattle.vbr_at_table.proofs.exchanges.ExchangeCalls.{none_unlinked, unlink_lost, unlink_told}
use Rattle.vbr_at_table.proofs.unlinking.unlink.Given.{Over}
use Rattle.vbr_at_table.proofs.unlinking.unlink.Goals.{After-link_to_same-new}
use Rattle.vbr_at_table.proofs.unlinking.unlink.Goals as goal

pub link_to_same-new-requires : goal.link_to_same-new-requires
link_to_same-new-requires g c =
    let same = sym c.birth_after.ensures.table.slots in
    let layout = layout_on c.layout-layout.ensures.layout c.birth_after.ensures.table in
    let U : Bor TableView → Type 0 = λ s. IsUnmarked (knows c.args.at.now.stepper.now.trace)
    (said s.now c.args.pred.now) in
    let unmarked = subst U same c.requires.pred in
    let M : Bor TableView → Type 0 = λ s. HoldsMarked (knows c.args.at.now.stepper.now.trace)
    (said_marked s.now c.args.marked) in
    let is_marked = subst M same c.requires.marked in
    let R : Bor TableView → Type 0 = λ s. IsBirthRead c.args.at.now.stepper.now c.birth_after.new.at.stepper.now
    (said_marked s.now c.args.marked).word c.in_ok-next_birth.next_birth in
    let read = subst R same c.in_ok-next_birth.ensures.birth in
    let S : Start → Type 0 = λ start. IsPackable (slot_bits start.shape.slots)
    (word_of (link_to (kept_link c.layout-layout.result c.args.marked.word).slot c.args.pred.now.birth
    c.in_ok-next_birth.next_birth)) in
    let B : ℕ → Type 0 = λ b. IsPackable b
    (word_of (link_to (kept_link c.layout-layout.result c.args.marked.word).slot c.args.pred.now.birth
    c.in_ok-next_birth.next_birth)) in
    record {
      fits = written_fits c.birth_after.new.at.stepper.now c.law.ensures
          (said c.birth_after.new.at.slots.now c.args.pred.now)
          (said_marked c.birth_after.new.at.slots.now c.args.marked)
          (kept_link c.layout-layout.result c.args.marked.word)
          c.in_ok-next_birth.next_birth (held_kept (said c.birth_after.new.at.slots.now c.args.pred.now) read.keeps
          unmarked.held)
          (marked_kept (said_marked c.birth_after.new.at.slots.now c.args.marked) read.keeps is_marked)
          (said_link _ _ c.args.marked.word _ layout refl) read.birth
          (kept_fits c.layout-layout.result c.args.marked.word c.layout-layout.ensures.few);
      room = subst B (sym layout)
          (subst S c.birth_after.new.at.own.1
          (written_has_room c.birth_after.new.at.stepper.now c.law.ensures
          (said c.birth_after.new.at.slots.now c.args.pred.now)
          (said_marked c.birth_after.new.at.slots.now c.args.marked)
          (kept_link c.layout-layout.result c.args.marked.word)
          c.in_ok-next_birth.next_birth (held_kept (said c.birth_after.new.at.slots.now c.args.pred.now) read.keeps
          unmarked.held)
          (marked_kept (said_marked c.birth_after.new.at.slots.now c.args.marked) read.keeps is_marked)
          (said_link _ _ c.args.marked.word _ layout refl) read.birth));
    }

-- the machine accepts the unlinking
is_accepted : (g : Over) (c : After-link_to_same-new g) →
    Accepts c.birth_after.new.at.stepper.now.trace.start (knows c.birth_after.new.at.stepper.now.trace)
    (Unlink c.args.pred.now.at (said c.birth_after.new.at.slots.now c.args.pred.now).word c.args.marked.slot)
is_accepted g c =
    let same = sym c.birth_after.ensures.table.slots in
    let layout = layout_on c.layout-layout.ensures.layout c.birth_after.ensures.table in
    let U : Bor TableView → Type 0 = λ s. IsUnmarked (knows c.args.at.now.stepper.now.trace)
    (said s.now c.args.pred.now) in
    let unmarked = subst U same c.requires.pred in
    let M : Bor TableView → Type 0 = λ s. HoldsMarked (knows c.args.at.now.stepper.now.trace)
    (said_marked s.now c.args.marked) in
    let is_marked = subst M same c.requires.marked in
    let N : Bor TableView → Type 0 = λ s. Names (said s.now c.args.pred.now) c.args.marked.slot in
    let names = subst N same c.requires.names in
    let R : Bor TableView → Type 0 = λ s. IsBirthRead c.args.at.now.stepper.now c.birth_after.new.at.stepper.now
    (said_marked s.now c.args.marked).word c.in_ok-next_birth.next_birth in
    let read = subst R same c.in_ok-next_birth.ensures.birth in
    let b = c.in_ok-next_birth.ensures in
    accepted c.birth_after.new.at.stepper.now c.law.ensures (said c.birth_after.new.at.slots.now c.args.pred.now)
    (said_marked c.birth_after.new.at.slots.now c.args.marked) (kept_link c.layout-layout.result c.args.marked.word)
    c.in_ok-next_birth.next_birth (held_kept (said c.birth_after.new.at.slots.now c.args.pred.now) read.keeps
    unmarked.held)
    (marked_kept (said_marked c.birth_after.new.at.slots.now c.args.marked) read.keeps is_marked)
    (said_link _ _ c.args.marked.word _ layout refl) read.birth
    unmarked.unmarked names

pub unlink-requires-clause-pred : goal.unlink-requires-clause-pred
unlink-requires-clause-pred g c =
    let P : Start → Type 0 = λ start. IsAtIn start c.args.pred.now.at in
    subst P c.birth_after.new.at.own.1
    (is_accepted g (goal.at.unlink-requires-clause-pred g c).After-link_to_same-new).in_shape.0

pub unlink-requires-clause-slot : goal.unlink-requires-clause-slot
unlink-requires-clause-slot g c =
    let P : Start → Type 0 = λ start. c.args.marked.slot < start.shape.slots in
    subst P c.birth_after.new.at.own.1
    (is_accepted g (goal.at.unlink-requires-clause-slot g c).After-link_to_same-new).in_shape.1

pub unlink-requires-clause-checked : goal.unlink-requires-clause-checked
unlink-requires-clause-checked g c =
    accepted_checked c.birth_after.new.at.own
    (is_accepted g (goal.at.unlink-requires-clause-checked g c).After-link_to_same-new)

pub unlink-requires-clause-new : goal.unlink-requires-clause-new
unlink-requires-clause-new g c =
    let same = sym c.birth_after.ensures.table.slots in
    let layout = layout_on c.layout-layout.ensures.layout c.birth_after.ensures.table in
    let U : Bor TableView → Type 0 = λ s. IsUnmarked (knows c.args.at.now.stepper.now.trace)
    (said s.now c.args.pred.now) in
    let unmarked = subst U same c.requires.pred in
    let M : Bor TableView → Type 0 = λ s. HoldsMarked (knows c.args.at.now.stepper.now.trace)
    (said_marked s.now c.args.marked) in
    let is_marked = subst M same c.requires.marked in
    let R : Bor TableView → Type 0 = λ s. IsBirthRead c.args.at.now.stepper.now c.birth_after.new.at.stepper.now
    (said_marked s.now c.args.marked).word c.in_ok-next_birth.next_birth in
    let read = subst R same c.in_ok-next_birth.ensures.birth in
    let W : ℕ → Type 0 = λ b. unpacked b c.link_to_same-new.result ≡ word_of
    (link_to (kept_link c.layout-layout.result c.args.marked.word).slot c.args.pred.now.birth
    c.in_ok-next_birth.next_birth) in
    let L : ℕ → Type 0 = λ b. link_of (unpacked b c.link_to_same-new.result) ≡ link_to
    (kept_link c.layout-layout.result c.args.marked.word).slot
    c.args.pred.now.birth c.in_ok-next_birth.next_birth in
    let word_is = subst W layout c.link_to_same-new.ensures.word in
    let link_is = subst L layout c.link_to_same-new.ensures.link in
    let b = c.in_ok-next_birth.ensures in
    word_is
    ∙ ap word_of
    (sym (written c.birth_after.new.at.stepper.now c.law.ensures (said c.birth_after.new.at.slots.now c.args.pred.now)
    (said_marked c.birth_after.new.at.slots.now c.args.marked) (kept_link c.layout-layout.result c.args.marked.word)
    c.in_ok-next_birth.next_birth (held_kept (said c.birth_after.new.at.slots.now c.args.pred.now) read.keeps
    unmarked.held)
    (marked_kept (said_marked c.birth_after.new.at.slots.now c.args.marked) read.keeps is_marked)
    (said_link _ _ c.args.marked.word _ layout refl) read.birth))

pub returns-in-Ok-clause-stays : goal.returns-in-Ok-clause-stays
returns-in-Ok-clause-stays g c =
    let quiet = quiet_on c.birth_after.ensures.reads.quiet (unlink_quiet c.in-Ok.ensures.found.did) in search rules

pub returns-in-Err-clause-stays : goal.returns-in-Err-clause-stays
returns-in-Err-clause-stays g c =
    let quiet = quiet_on c.birth_after.ensures.reads.quiet (unlink_quiet c.in-Err.ensures.other.did) in search rules

pub returns-in-Ok-clause-unlinked : goal.returns-in-Ok-clause-unlinked
returns-in-Ok-clause-unlinked g c =
    let same = sym c.birth_after.ensures.table.slots in
    let layout = layout_on c.layout-layout.ensures.layout c.birth_after.ensures.table in
    let U : Bor TableView → Type 0 = λ s. IsUnmarked (knows c.args.at.now.stepper.now.trace)
    (said s.now c.args.pred.now) in
    let unmarked = subst U same c.requires.pred in
    let M : Bor TableView → Type 0 = λ s. HoldsMarked (knows c.args.at.now.stepper.now.trace)
    (said_marked s.now c.args.marked) in
    let is_marked = subst M same c.requires.marked in
    let N : Bor TableView → Type 0 = λ s. Names (said s.now c.args.pred.now) c.args.marked.slot in
    let names = subst N same c.requires.names in
    let R : Bor TableView → Type 0 = λ s. IsBirthRead c.args.at.now.stepper.now c.birth_after.new.at.stepper.now
    (said_marked s.now c.args.marked).word c.in_ok-next_birth.next_birth in
    let read = subst R same c.in_ok-next_birth.ensures.birth in
    let W : ℕ → Type 0 = λ b. unpacked b c.link_to_same-new.result ≡ word_of
    (link_to (kept_link c.layout-layout.result c.args.marked.word).slot c.args.pred.now.birth
    c.in_ok-next_birth.next_birth) in
    let L : ℕ → Type 0 = λ b. link_of (unpacked b c.link_to_same-new.result) ≡ link_to
    (kept_link c.layout-layout.result c.args.marked.word).slot
    c.args.pred.now.birth c.in_ok-next_birth.next_birth in
    let word_is = subst W layout c.link_to_same-new.ensures.word in
    let link_is = subst L layout c.link_to_same-new.ensures.link in
    let b = c.in_ok-next_birth.ensures in
    let P : Bor TableView → Type 0 = λ s. UnlinksNode c.args.at.now.stepper.now c.unlink.new.self.stepper.now
    (said s.now c.args.pred.now) (said_marked s.now c.args.marked)
    (c.by-unlinked.result, said s.now (record c.args.pred.now { word = c.link_to_same-new.result })) in
    subst P c.birth_after.ensures.table.slots (
    unlink_told (said c.birth_after.new.at.slots.now c.args.pred.now)
    (said_marked c.birth_after.new.at.slots.now c.args.marked) (kept_link c.layout-layout.result c.args.marked.word)
    c.in_ok-next_birth.next_birth
    c.law.ensures b.reads
    read unmarked is_marked names (said_link _ _ c.args.marked.word _ layout
    refl) c.by-unlinked.result
    (unpacked (slot_bits c.birth_after.new.at.slots.now.start.shape.slots) c.link_to_same-new.result) (search rules)
    link_is
    c.in-Ok.ensures.found.did c.in-Ok.ensures.found.keeps
    (search rules))

pub returns-in-Err-clause-failed : goal.returns-in-Err-clause-failed
returns-in-Err-clause-failed g c =
    let same = sym c.birth_after.ensures.table.slots in
    let layout = layout_on c.layout-layout.ensures.layout c.birth_after.ensures.table in
    let U : Bor TableView → Type 0 = λ s. IsUnmarked (knows c.args.at.now.stepper.now.trace)
    (said s.now c.args.pred.now) in
    let unmarked = subst U same c.requires.pred in
    let M : Bor TableView → Type 0 = λ s. HoldsMarked (knows c.args.at.now.stepper.now.trace)
    (said_marked s.now c.args.marked) in
    let is_marked = subst M same c.requires.marked in
    let N : Bor TableView → Type 0 = λ s. Names (said s.now c.args.pred.now) c.args.marked.slot in
    let names = subst N same c.requires.names in
    let R : Bor TableView → Type 0 = λ s. IsBirthRead c.args.at.now.stepper.now c.birth_after.new.at.stepper.now
    (said_marked s.now c.args.marked).word c.in_ok-next_birth.next_birth in
    let read = subst R same c.in_ok-next_birth.ensures.birth in
    let b = c.in_ok-next_birth.ensures in
    let P : Bor TableView → Type 0 = λ s. UnlinksNone c.args.at.now.stepper.now c.unlink.new.self.stepper.now
    (said s.now c.args.pred.now) (said_rollback s.now (LostExchange c.in-Err.found)) in
    subst P c.birth_after.ensures.table.slots (
    unlink_lost (said c.birth_after.new.at.slots.now c.args.pred.now)
    (said_marked c.birth_after.new.at.slots.now c.args.marked) (kept_link c.layout-layout.result c.args.marked.word)
    c.in_ok-next_birth.next_birth
    c.law.ensures b.reads
    read unmarked is_marked names (said_link _ _ c.args.marked.word _ layout
    refl) c.in-Err.ensures.other.did
    c.in-Err.ensures.other.unexpected c.in-Err.ensures.other.keeps)

pub returns-in_err-next_birth-clause-failed : goal.returns-in_err-next_birth-clause-failed
returns-in_err-next_birth-clause-failed g c =
    none_unlinked c.args.at.now.slots.now c.args.pred.now c.from_residual.result c.birth_after.ensures.reads
    (search rules)
    c.in_err-next_birth.ensures.moved.rolls.fresh
