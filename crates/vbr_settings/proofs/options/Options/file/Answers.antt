-- The first text of the argument is read, and a dash is no file.
use Rattle.std.proofs.Common.{◌≡◌, ◌∙◌, sym, ap, codes, refl, Bool, Option, Some, None, true, false, not}
use Rattle.std.specs.Prelude.{option_map, option_and_then, if◌then◌else◌}
use Rattle.std.specs.Str.{bytes_eq}
use Rattle.clap.specs.Words.{found_of, Text}
use Rattle.clap.proofs.WalkLemmas.{first_value-rows}
use Rattle.vbr_settings.specs.Options.{file_among}
use Rattle.vbr_settings.proofs.options.Options.file.Goals as goal
use Rattle.vbr_settings.proofs.options.Options.file.Goals.{in_default-via-in-Some+else-ne, in_default-via-in_default}

abbrev of_first : Option Text → Option Text
of_first = option_and_then (λ (name : Text). if bytes_eq name (codes "-") then None else Some name)

named : (first : Option Text) (name : Text) → first ≡ Some name → not (bytes_eq name (codes "-")) ≡ true →
    Some name ≡ of_first first
named first name is other = rw is (by_case (bytes_eq name (codes "-")) other)
  where
    by_case : (b : Bool) → not b ≡ true → Some name ≡ (if b then None else Some name)
    by_case true other = cc
    by_case false other = refl

dash : (first : Option Text) (name : Text) → first ≡ Some name → not (bytes_eq name (codes "-")) ≡ false →
    None ≡ of_first first
dash first name is same = rw is (by_case (bytes_eq name (codes "-")) same)
  where
    by_case : (b : Bool) → not b ≡ false → None ≡ (if b then None else Some name)
    by_case true same = refl
    by_case false same = cc

none : (first : Option Text) → first ≡ None → None ≡ of_first first
none first is = rw is refl

pub returns-in-Some : goal.returns-in-Some
unfolding file_among
returns-in-Some c =
    let read = first_value-rows (found_of c.args.self.now.matches) (codes "file") in
    named _ c.in-Some.name.now (sym read ∙ sym c.in-Some.ensures) (sym c.if-ne.ensures)

pub returns-in_default : goal.returns-in_default
unfolding file_among
returns-in_default c =
    let read = first_value-rows (found_of c.args.self.now.matches) (codes "file") in
    elim c.in_default.branch [
      | in_default-via-in-Some+else-ne w ↦
          dash _ w.in-Some.name.now (sym read ∙ sym w.in-Some.ensures) (sym w.if-ne.ensures)
      | in_default-via-in_default w ↦
          none _ (sym read ∙ sym c.get_str.ensures ∙ ap (option_map (λ s. s.now)) w.in_default.is)
    ]
