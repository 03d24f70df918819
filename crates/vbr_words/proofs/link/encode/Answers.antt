use Rattle.std.proofs.Common.{◌≡◌, ◌+◌, ◌*◌, ◌^◌, ℕ, sym, ap, ◌∙◌, arith}
use Rattle.vbr_words.specs.Words.{mark_digit, slot_field}
use Rattle.vbr_words.proofs.Layouts.{encoded-lt, encoded_is, fields_add_up}
use Rattle.vbr_words.proofs.link.encode.Goals.{then-link, else-link}
use Rattle.vbr_words.proofs.link.encode.Goals as goal

-- the mark is its digit, above the slot field
marked : (c : goal.After-struct_known-1) → c.if-link.marked ≡ mark_digit c.args.link.mark * 2 ^ c.args.layout
marked c = elim c.if-link.branch [
  | then-link w ↦
      let is : c.mark-mark.result ≡ 2 ^ c.args.layout = c.mark-mark.ensures.mark in
      let one : mark_digit c.args.link.mark ≡ 1 = ap mark_digit w.if-link.true in
      w.marked-is ∙ is ∙ sym (ap (λ (n : ℕ). n * 2 ^ c.args.layout) one ∙ omega arith)
  | else-link w ↦
      let none : mark_digit c.args.link.mark ≡ 0 = ap mark_digit w.if-link.false in
      w.marked-is ∙ sym (ap (λ (n : ℕ). n * 2 ^ c.args.layout) none ∙ omega arith)
]

-- so the sum is that of the fields
sum : (c : goal.After-struct_known-1) →
    c.from.result + c.if-link.marked + c.args.link.version * (2 * c.mark-mark.result)
    ≡ (c.args.link.version * 2 + mark_digit c.args.link.mark) * 2 ^ c.args.layout + slot_field c.args.link.slot
sum c =
    fields_add_up c.args.layout c.from.result c.if-link.marked c.args.link.version (mark_digit c.args.link.mark)
    c.mark-mark.result c.mark-mark.ensures.mark (marked c)
    ∙ ap (λ (n : ℕ). (c.args.link.version * 2 + mark_digit c.args.link.mark) * 2 ^ c.args.layout + n)
    (c.from.ensures ∙ c.slot_field.ensures)

pub overflow_mul-result-2 : goal.overflow_mul-result-2
overflow_mul-result-2 c =
    let all = sum c in
    let low = encoded-lt c.args.layout c.args.link c.mark-mark.ensures.few c.requires.fits c.requires.room in
    omega (arith, all, low)

pub overflow_add-result-2 : goal.overflow_add-result-2
overflow_add-result-2 c =
    let all = sum c in
    let low = encoded-lt c.args.layout c.args.link c.mark-mark.ensures.few c.requires.fits c.requires.room in
    omega (arith, all, low)

pub returns : goal.returns
returns c =
    encoded_is c.args.layout _ c.args.link c.mark-mark.ensures.few c.requires.fits c.requires.room (sum c)
