-- The three options are added in turn.
use Rattle.std.proofs.Common.{◌≡◌, ap₂, ◌∙◌, refl, rules, codes}
use Rattle.clap.specs.Words.{rule_of, with_rule}
use Rattle.vbr_settings.specs.Options.{number_option}
use Rattle.vbr_settings.proofs.command.with_shape.Goals as goal

pub returns-clause-options : goal.returns-clause-options
returns-clause-options c =
    let slots : rule_of c.number-slots.result ≡ number_option (codes "slots") 0 4294967295 (codes "1024") =
    search rules in
    let buckets : rule_of c.number-buckets.result ≡ number_option (codes "buckets") 0 4294967295 (codes "16") =
    search rules in
    let last_epoch : rule_of c.number-last_epoch.result
    ≡ number_option (codes "last-epoch") 0 18446744073709551615 (codes "549755813887") = search rules in
    let one = c.in_ok-arg.ensures.shape c.number-slots.ensures.local ∙ ap₂ with_rule refl slots in
    let two = c.in_ok-arg-2.ensures.shape c.number-buckets.ensures.local ∙ ap₂ with_rule one buckets in
    c.in_ok-arg-3.ensures.shape c.number-last_epoch.ensures.local ∙ ap₂ with_rule two last_epoch
