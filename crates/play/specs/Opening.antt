-- What `open` of a script gives Open (rule C17, docs/REPLAY.md).
-- Assumes nothing.
use Rattle.std.specs.Prelude.{ℕ, Option, None, Some}
use Rattle.reader.specs.State.{default_settings}
use Rattle.reader.specs.declared.Settings.{Settings}

-- without a number the default settings, whatever the run before went by
abbrev pub settings_by : Option ℕ → Settings
settings_by None = default_settings
settings_by (Some n) = record { ceiling = n }
