-- The option and the file are added in turn.
use Rattle.std.proofs.Common.{◌≡◌, ap, ap₂, ◌∙◌, Some, refl, rules, codes}
use Rattle.clap.specs.Words.{rule_of, with_rule, Rule}
use Rattle.clap.specs.declared.builder.arg.Arg.{Arg}
use Rattle.vbr_settings.specs.Options.{text_option, lone_argument}
use Rattle.vbr_settings.proofs.command.with_asked.Goals as goal

pub returns-clause-options : goal.returns-clause-options
returns-clause-options c =
    let named : rule_of c.text.result ≡ lone_argument (codes "explain") = search rules in
    let explain : rule_of c.long-explain.result ≡ text_option (codes "explain") =
    ap rule_of c.long-explain.ensures ∙ ap (λ (r : Rule). record r { long = Some (codes "explain") }) named in
    let file : rule_of c.text-file.result ≡ lone_argument (codes "file") = search rules in
    let one = c.in_ok-arg.ensures.shape (ap (λ (a : Arg). a.global) c.long-explain.ensures ∙ c.text.ensures.local)
    ∙ ap₂ with_rule refl explain in
    c.in_ok-arg-2.ensures.shape c.text-file.ensures.local ∙ ap₂ with_rule one file
