-- The shape tells how many slots are left for the word.
use Rattle.std.proofs.Common.{ℕ, ◌-◌, ◌*◌, nat_lt, sym, ap, ◌∙◌}
use Rattle.std.proofs.lemmas.Nat.{one_shl}
use Rattle.vbr_words.specs.Flags.{flag_word}
use Rattle.vbr_words.proofs.FlagWords.{full_word, last_word}
use Rattle.vbr_words.proofs.flags.full_flags.Goals as goal

pub returns-then-slots-lt-FLAGS : goal.returns-then-slots-lt-FLAGS
returns-then-slots-lt-FLAGS c =
    let slots : ℕ = c.slots.result in
    ap (λ (n : ℕ). n - 1) (one_shl (slots - 64 * c.args.number) 64 c.if-slots-lt-FLAGS.true)
    ∙ sym (last_word slots c.args.number c.if-slots-lt-FLAGS.true)
    ∙ ap (λ (n : ℕ). flag_word (λ slot. nat_lt slot n) c.args.number) c.slots.ensures.slots

pub returns-else-slots-lt-FLAGS : goal.returns-else-slots-lt-FLAGS
returns-else-slots-lt-FLAGS c =
    sym (full_word c.slots.result c.args.number c.if-slots-lt-FLAGS.false)
    ∙ ap (λ (n : ℕ). flag_word (λ slot. nat_lt slot n) c.args.number) c.slots.ensures.slots
