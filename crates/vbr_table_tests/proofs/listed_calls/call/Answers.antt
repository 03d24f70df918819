-- A stored link names what the step names, and an exchange is won or lost. The table keeps each link word in its own
-- layout.
use Rattle.std.proofs.Common.{◌≡◌, ℕ, Option, false, sym, refl, rules, subst, ◌∙◌, ap}
use Rattle.vbr_words.specs.Words.{link_of, word_of}
use Rattle.vbr_machine.specs.Acceptance.{IsNextIn, IsNextHeld}
use Rattle.vbr_machine.specs.Learning.{link_written}
use Rattle.vbr_machine.specs.Making.{confirmed}
use Rattle.vbr_machine.specs.declared.event.Step.{Step}
use Rattle.vbr_machine.specs.declared.event.Step.TheVariants.{ConfirmAbsent, ConfirmPresent, Mark, Publish, Replace}
use Rattle.vbr_machine.specs.declared.event.Step.TheVariants.{StoreLink, Unlink}
use Rattle.vbr_machine.specs.declared.event.Effect.TheVariants.{Done}
use Rattle.vbr_slots.specs.views.Views.{TableView, Trace, knows}
use Rattle.vbr_slots.specs.words.WideWords.{wide_in}
use Rattle.vbr_table_tests.specs.Following.{Learned, May}
use Rattle.vbr_table_tests.proofs.listed_calls.Following.{err_numbered, found_either, kept_exchange, kept_load, learned}
use Rattle.vbr_table_tests.proofs.listed_calls.Following.{ok_numbered, published_either, replaced_either}
use Rattle.vbr_table_tests.proofs.listed_calls.call.Goals as goal

-- the same step, made with the words as the table keeps them
may_as : (t : TableView) (p : Trace) (made step : Step) (number word : ℕ) → made ≡ step → number ≡ word →
    May t p made number → May t p step word
may_as t p made step number word same is may = subst (λ (x : Step × ℕ). May t p x.0 x.1) (λ i. (same i, is i)) may

pub returns-in-Publish : goal.returns-in-Publish
returns-in-Publish g c =
    let t = c.args.slots.now in
    let word = wide_in t c.kept-word.result in
    kept_exchange t (λ n. Publish c.in-Publish.pred n c.in-Publish.slot) c.args.pass.now c.publish-answer.new.pass
    c.kept-word.result c.in-Publish.expected
    c.publish-answer.result c.exchanged.result c.args.step.now c.in-Publish.is c.kept-word.ensures (λ n w. refl)
    (published_either _ _ _ _ _ _ (ok_numbered t c.publish-answer.result _ c.publish-answer.ensures.found)
    (err_numbered t c.publish-answer.result _ c.publish-answer.ensures.other)) (λ m n. refl) c.exchanged.ensures

pub returns-in-Mark : goal.returns-in-Mark
returns-in-Mark g c =
    let t = c.args.slots.now in
    let word = wide_in t c.kept-word-in-Mark.result in
    kept_exchange t (λ n. Mark c.in-Mark.slot n) c.args.pass.now c.mark-answer.new.pass c.kept-word-in-Mark.result
    c.in-Mark.expected
    c.mark-answer.result c.exchanged-in-Mark.result c.args.step.now c.in-Mark.is c.kept-word-in-Mark.ensures
    (λ n w. refl)
    (found_either _ _ _ _ _ (ok_numbered t c.mark-answer.result _ c.mark-answer.ensures.found)
    (err_numbered t c.mark-answer.result _ c.mark-answer.ensures.other)) (λ m n. refl) c.exchanged-in-Mark.ensures

pub returns-in-Replace : goal.returns-in-Replace
returns-in-Replace g c =
    let t = c.args.slots.now in
    let word = wide_in t c.kept-word-in-Replace.result in
    kept_exchange t (λ n. Replace c.in-Replace.slot n c.in-Replace.by) c.args.pass.now c.replace-answer.new.pass
    c.kept-word-in-Replace.result c.in-Replace.expected
    c.replace-answer.result c.exchanged-in-Replace.result c.args.step.now c.in-Replace.is c.kept-word-in-Replace.ensures
    (λ n w. refl)
    (replaced_either _ _ _ _ _ _ (ok_numbered t c.replace-answer.result _ c.replace-answer.ensures.found)
    (err_numbered t c.replace-answer.result _ c.replace-answer.ensures.other)) (λ m n. refl)
    c.exchanged-in-Replace.ensures

pub returns-in-Unlink : goal.returns-in-Unlink
returns-in-Unlink g c =
    let t = c.args.slots.now in
    let word = wide_in t c.kept-word-in-Unlink.result in
    kept_exchange t (λ n. Unlink c.in-Unlink.pred n c.in-Unlink.slot) c.args.pass.now c.unlink-answer.new.pass
    c.kept-word-in-Unlink.result c.in-Unlink.expected
    c.unlink-answer.result c.exchanged-in-Unlink.result c.args.step.now c.in-Unlink.is c.kept-word-in-Unlink.ensures
    (λ n w. refl)
    (found_either _ _ _ _ _ (ok_numbered t c.unlink-answer.result _ c.unlink-answer.ensures.found)
    (err_numbered t c.unlink-answer.result _ c.unlink-answer.ensures.other)) (λ m n. refl) c.exchanged-in-Unlink.ensures

pub returns-in-ConfirmPresent : goal.returns-in-ConfirmPresent
returns-in-ConfirmPresent g c =
    let t = c.args.slots.now in
    kept_load t (λ n. ConfirmPresent c.in-ConfirmPresent.op c.in-ConfirmPresent.slot n) c.args.pass.now
    c.confirm_present-answer.new.pass c.kept-word-in-ConfirmPresent.result c.in-ConfirmPresent.expected
    c.confirm_present-answer.result c.confirmed.result c.args.step.now c.in-ConfirmPresent.is
    c.kept-word-in-ConfirmPresent.ensures (λ n w. refl)
    (found_either _ _ _ _ _ (ok_numbered t c.confirm_present-answer.result _ c.confirm_present-answer.ensures.found)
    (err_numbered t c.confirm_present-answer.result _ c.confirm_present-answer.ensures.other)) c.present_reply.result
    (λ m n. ap (λ b. confirmed b m n) (sym c.present_reply.ensures)) c.confirmed.ensures

pub returns-in-ConfirmAbsent : goal.returns-in-ConfirmAbsent
returns-in-ConfirmAbsent g c =
    let t = c.args.slots.now in
    kept_load t (λ n. ConfirmAbsent c.in-ConfirmAbsent.op c.in-ConfirmAbsent.key c.in-ConfirmAbsent.holder n)
    c.args.pass.now c.confirm_absent-answer.new.pass c.kept-word-in-ConfirmAbsent.result c.in-ConfirmAbsent.expected
    c.confirm_absent-answer.result c.confirmed-in-ConfirmAbsent.result c.args.step.now c.in-ConfirmAbsent.is
    c.kept-word-in-ConfirmAbsent.ensures (λ n w. refl)
    (found_either _ _ _ _ _ (ok_numbered t c.confirm_absent-answer.result _ c.confirm_absent-answer.ensures.found)
    (err_numbered t c.confirm_absent-answer.result _ c.confirm_absent-answer.ensures.other)) false (λ m n. refl)
    c.confirmed-in-ConfirmAbsent.ensures

-- the number is that of the word that is stored, whose link names what the step names
pub store_link-requires-clause-next_in : goal.store_link-requires-clause-next_in
store_link-requires-clause-next_in g c =
    let may = may_as c.args.slots.now c.args.pass.now.trace c.args.step.now _ c.args.number _ c.in-StoreLink.is refl
    c.requires in
    subst (IsNextIn c.args.slots.now.start) (sym (search rules)) may.accepted.in_shape.1

pub store_link-requires-clause-next_held : goal.store_link-requires-clause-next_held
store_link-requires-clause-next_held g c =
    let may = may_as c.args.slots.now c.args.pass.now.trace c.args.step.now _ c.args.number _ c.in-StoreLink.is refl
    c.requires in
    subst (IsNextHeld (knows c.args.pass.now.trace).checked) (sym (search rules)) may.accepted.held

pub store_link-requires-clause-word : goal.store_link-requires-clause-word
store_link-requires-clause-word g c =
    let t = c.args.slots.now in
    let know = knows c.args.pass.now.trace in
    let may = may_as t c.args.pass.now.trace c.args.step.now _ c.args.number (wide_in t c.kept-new.result)
    c.in-StoreLink.is (sym (c.kept-new.ensures ∙ c.numbered.ensures)) c.requires in
    let next : (link_of (wide_in t c.kept-new.result)).slot ≡ c.in-StoreLink.next = search rules in
    may.new ∙ ap (λ (n : Option ℕ). word_of (link_written know (StoreLink c.in-StoreLink.slot n))) (sym next)

pub returns-in-StoreLink : goal.returns-in-StoreLink
returns-in-StoreLink g c =
    let t = c.args.slots.now in
    let next : (link_of (wide_in t c.kept-new.result)).slot ≡ c.in-StoreLink.next = search rules in
    subst (λ (s : Step). Learned s c.args.pass.now.trace c.store_link.new.pass.trace Done)
    (ap (StoreLink c.in-StoreLink.slot) next ∙ sym c.in-StoreLink.is)
    (learned _ _ _ (wide_in t c.kept-new.result) Done (λ w. refl) refl c.store_link.ensures.step)
