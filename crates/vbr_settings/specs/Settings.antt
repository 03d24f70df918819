-- How a script is played, as contracts see it.
use Rattle.std.specs.Prelude.{◌≡◌, ℕ, ◌<◌, ◌≤◌, Bool, false, ◌||◌, ◌==◌, nat_lt, Option, Some, None, if◌then◌else◌}
use Rattle.vbr_words.specs.Dimensions.{Dimensions}
use Rattle.vbr_settings.specs.declared.config.TheConstants.{MAX_WORKERS}
use Rattle.vbr_settings.specs.declared.config.ConfigError.{ConfigError}
use Rattle.vbr_settings.specs.declared.config.ConfigError.TheVariants.{Workers}

-- the shape of the set or map, but for values, the number of workers, the budget of each call, and whether the epoch is printed
pub record Settings : Type 0 where
  pub shape : Dimensions
  pub workers : ℕ
  pub budget : ℕ
  pub epoch : Bool

-- there is a worker, and there are no more than the greatest number; and the shape has no values
pub record AreSettings (settings : Settings) : Type 0 where
  pub some_worker : 0 < settings.workers
  pub workers : settings.workers ≤ MAX_WORKERS
  pub valueless : settings.shape.values ≡ false

-- why there can't be so many workers: their number is 0 or above the greatest
abbrev pub config_error : ℕ → Option ConfigError
config_error workers = if workers == 0 || nat_lt MAX_WORKERS workers then Some Workers else None
