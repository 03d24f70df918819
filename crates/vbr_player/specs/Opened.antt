-- What a script is played on, a set or a map. Only contracts of private functions cite this.
use Rattle.std.specs.Prelude.{◌≡◌, ◌<◌}
use Rattle.vbr_slots.specs.views.Views.{new_passes}
use Rattle.vbr_script.specs.Grammar.{is_map}
use Rattle.vbr_script.specs.declared.script.Kind.{Kind}
use Rattle.vbr_player.specs.declared.opened.Opened.{Opened}

-- it is new: its passes are those of the opening, one at least, and nodes have values in a map alone
pub record IsJustOpened {N : Type 0} (kind : Kind) (opened : Opened N) : Type 0 where
  pub passes : opened.passes.items ≡ new_passes opened.set 0 opened.set.passes
  pub some : 0 < opened.set.passes
  pub values : opened.set.start.shape.values ≡ is_map kind
