use Rattle.std.proofs.Common.{◌≡◌, ◌+◌, ◌*◌, ◌^◌, false, sym, ◌∙◌, arith}
use Rattle.vbr_words.specs.KeptLinks.{link_anew, kept_link}
use Rattle.vbr_words.specs.Words.{mark_digit, slot_field}
use Rattle.vbr_words.proofs.Layouts.{encoded-lt, encoded_is, fields_add_up, slot_kept}
use Rattle.vbr_words.proofs.link.with_version.Goals as goal

-- the sum is that of its fields
sum : (c : goal.After-from) →
    c.from.result + c.args.version * (2 * c.mark-mark.result)
    ≡ (c.args.version * 2 + mark_digit false) * 2 ^ c.args.layout
    + slot_field (kept_link c.args.layout c.args.word).slot
sum c =
    let parts = fields_add_up c.args.layout c.from.result 0 c.args.version 0 c.mark-mark.result c.mark-mark.ensures.mark
    (omega arith) in
    let field : c.from.result ≡ slot_field (kept_link c.args.layout c.args.word).slot =
    c.from.ensures ∙ c.named.ensures ∙ sym (slot_kept c.args.layout c.args.word c.mark-mark.ensures.few) in
    omega (arith, parts, field)

pub overflow_mul-result-2 : goal.overflow_mul-result-2
overflow_mul-result-2 c =
    let all = sum c in
    let low = encoded-lt c.args.layout (link_anew c.args.layout c.args.word c.args.version) c.mark-mark.ensures.few
    c.requires.fits c.requires.room in
    omega (arith, all, low)

pub overflow_add-result : goal.overflow_add-result
overflow_add-result c =
    let all = sum c in
    let low = encoded-lt c.args.layout (link_anew c.args.layout c.args.word c.args.version) c.mark-mark.ensures.few
    c.requires.fits c.requires.room in
    omega (arith, all, low)

pub returns : goal.returns
returns c =
    encoded_is c.args.layout _ (link_anew c.args.layout c.args.word c.args.version) c.mark-mark.ensures.few
    c.requires.fits c.requires.room (sum c)
