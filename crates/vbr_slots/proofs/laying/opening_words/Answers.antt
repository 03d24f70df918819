-- Each turn links the key before those that are linked; after the last, all are.
use Rattle.std.proofs.Common.{◌≡◌, suc, ◌-◌, ◌<◌, ◌≤◌, drop, length, refl, sym, ap, ◌∙◌, subst, arith}
use Rattle.vbr_machine.specs.Start.{Start, start_with}
use Rattle.vbr_machine.specs.Machine.{World}
use Rattle.vbr_machine.specs.Making.{opening_from}
use Rattle.vbr_machine.proofs.Lemmas.{opening_all, opening_step}
use Rattle.vbr_slots.specs.words.Words.{AreWordsOf}
use Rattle.vbr_slots.proofs.runs.Openings.{heads_fit, whole}
use Rattle.vbr_slots.proofs.laying.opening_words.Goals as goal

pub loop-number-init : goal.loop-number-init
loop-number-init c = record { low = omega arith; words = c.in_ok-words.ensures.words c.args.keys.now c.args.values.now }

pub loop-number-preserved : goal.loop-number-preserved
loop-number-preserved c =
    let start : Start = start_with c.args.shape.now c.args.keys.now c.args.values.now in
    let number = c.loop-number.number in
    let low = c.loop-number.invariant.low in
    let last : number ≡ suc (number - 1) = (let test = c.loop-number-test.true in omega (arith, test)) in
    let inside : number - 1 < length c.args.keys.now = omega (arith, low, last) in
    let few : length c.args.keys.now ≤ c.args.shape.now.slots = c.requires.few in
    let most = c.in_ok-words.ensures.shape.slots in
    let linked =
    c.link_key.ensures c.args.keys.now c.args.values.now (opening_from start number)
    (heads_fit start number low few c.in_ok-words.ensures.shape.some_epoch)
    (subst (AreWordsOf start (opening_from start number)) (sym c.deref_mut.ensures.value)
    c.loop-number.invariant.words) in
    let next = subst (λ (w : World). AreWordsOf start w c.link_key.new.words)
    (opening_step start start number (number - 1) _ _ _ (opening_from start number) _ refl refl last
    (omega (arith, inside)) refl c.value_at.ensures inside (omega (arith, few, most)) refl) linked in
    let long : c.loop-number.words.len ≡ length c.link_key.new.words =
    (let l = c.loop-number.words.ok in
    let k = c.link_key.auto.words in
    let m = c.deref_mut.ensures.len in
    omega arith) in
    record {
      low = omega (arith, low);
      words = subst (AreWordsOf start (opening_from start (number - 1)))
          (sym (whole c.loop-number.words.len c.link_key.new.words
          (drop (length c.link_key.new.words) c.loop-number.words.items) long)) next;
    }

pub returns-clause-words : goal.returns-clause-words
returns-clause-words c =
    let start : Start = start_with c.args.shape.now c.args.keys.now c.args.values.now in
    let none : c.loop-number.number ≡ 0 = (let test = c.loop-number-test.false in omega (arith, test)) in
    subst (λ (w : World). AreWordsOf start w c.loop-number.words.items)
    (ap (opening_from start) none ∙ opening_all start) c.loop-number.invariant.words
