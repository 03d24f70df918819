-- The option's text is a number, so it is read.
use Rattle.std.proofs.Common.{◌≡◌, ◌∙◌, sym, refl, Some, rules}
use Rattle.std.specs.Str.Parse.{ParsesUnsigned, ExplainsUnsignedError, HasUnsignedDigitsIfOk, digits_value}
use Rattle.std.specs.Str.Parse.{without_leading_plus}
use Rattle.clap.specs.Words.{found_of}
use Rattle.clap.proofs.WalkLemmas.{one_text-rows}
use Rattle.vbr_settings.proofs.OptionValues.{number_read, its_number}
use Rattle.vbr_settings.proofs.options.number_of.Goals.{After-get_one}
use Rattle.vbr_settings.proofs.options.number_of.Goals as goal

-- the option's text is read as its number
read : (c : After-get_one) → c.get_one.result ≡ Some (digits_value 10 (without_leading_plus c.requires.0))
read c =
    let text = c.requires.0 in
    let gives = c.get_one.ensures.value text
    (one_text-rows (found_of c.args.matches.now) c.args.name.now ∙ c.requires.1) in
    number_read _ (λ bs r. ParsesUnsigned 64 10 bs r × ExplainsUnsignedError 10 bs r × HasUnsignedDigitsIfOk bs r) text
    c.get_one.result gives (λ t x g. g.0) c.requires.2

pub unwrap-requires : goal.unwrap-requires
unwrap-requires c = rw (read c) refl

pub returns : goal.returns
returns c =
    let is = read (goal.at.returns c).After-get_one in
    let unwrapped : Some c.unwrap.result ≡ c.get_one.result = search rules in
    let same : c.unwrap.result ≡ digits_value 10 (without_leading_plus c.requires.0) = cc in
    same ∙ sym (its_number c.args.name.now _ c.requires.0 c.requires.1)
