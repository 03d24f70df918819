-- The command that is built is the one of the definition.
use Rattle.std.proofs.Common.{◌≡◌, ap, ap₂, ◌∙◌, rules, codes}
use Rattle.std.specs.Prelude.{fold, Result, Ok, Err, IfOk}
use Rattle.clap.specs.Words.{App, app_of, rule_of, with_rule, new_app}
use Rattle.clap.specs.Simple.{app_of_fields}
use Rattle.vbr_settings.specs.Options.{number_option, switch, shape_options, asked_options, with_version, command_line}
use Rattle.vbr_settings.specs.declared.config.TheConstants.{MAX_WORKERS}
use Rattle.vbr_settings.proofs.command.command.Goals as goal

of_ok : {T E : Type 0} (r : Result T E) (P Q : T → Type 0) → IfOk r P → ((x : T) → P x → Q x) → IfOk r Q
of_ok (Ok x) P Q has weaker = weaker x has
of_ok (Err e) P Q has weaker = tt

pub returns-clause-options : goal.returns-clause-options
unfolding command_line
returns-clause-options c =
    let named : app_of c.in_ok-bin_name.field-0 ≡ new_app (codes "vbr_run") =
    ap app_of_fields c.in_ok-bin_name.ensures.0 ∙ c.new.ensures.app in
    let none : app_of c.after_help-command.result ≡ with_version (new_app (codes "vbr_run")) =
    ap app_of_fields c.after_help-command.ensures ∙ ap app_of_fields c.about.ensures
    ∙ ap app_of_fields c.version.ensures ∙ ap with_version named in
    let workers : rule_of c.number-workers.result ≡ number_option (codes "workers") 1 MAX_WORKERS (codes "1") =
    search rules in
    let budget : rule_of c.number-budget.result ≡ number_option (codes "budget") 0 4294967295 (codes "100000") =
    search rules in
    let epoch : rule_of c.switch-epoch.result ≡ switch (codes "epoch") = search rules in
    let map : rule_of c.switch-map.result ≡ switch (codes "map") = search rules in
    let one = c.in_ok-arg.ensures.shape c.number-workers.ensures.local ∙ ap₂ with_rule none workers in
    let shaped = c.in_ok-command.ensures.options ∙ ap (λ (app : App). fold with_rule app shape_options) one in
    let five = c.in_ok-arg-2.ensures.shape c.number-budget.ensures.local ∙ ap₂ with_rule shaped budget in
    let six = c.in_ok-arg-3.ensures.shape c.switch-epoch.ensures.local ∙ ap₂ with_rule five epoch in
    let seven = c.in_ok-arg-4.ensures.shape c.switch-map.ensures.local ∙ ap₂ with_rule six map in
    of_ok c.with_asked.result _ _ c.with_asked.ensures.options
    (λ asked is. is ∙ ap (λ (app : App). fold with_rule app asked_options) seven)
