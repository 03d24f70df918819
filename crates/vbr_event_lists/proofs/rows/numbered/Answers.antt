-- Where as many bits name a slot as in the number of a link word, what is kept is that number.
use Rattle.std.proofs.Common.{◌≡◌, ℕ, ap, arith, refl, ◌∙◌}
use Rattle.vbr_words.specs.Packing.{slot_bits, unpacked}
use Rattle.vbr_words.specs.declared.link.TheConstants.{MAX_SLOTS}
use Rattle.vbr_event_lists.proofs.rows.numbered.Goals as goal

all_bits : slot_bits MAX_SLOTS ≡ 31
unfolding slot_bits lib.Count.count_leading_zeros
all_bits = refl

same_number : (number : ℕ) → unpacked 31 number ≡ number
unfolding unpacked
same_number number = omega arith

pub returns : goal.returns
returns c = c.wide.ensures.word ∙ ap (λ bits. unpacked bits c.args.number) (c.of.ensures ∙ all_bits) ∙ same_number
    c.args.number
