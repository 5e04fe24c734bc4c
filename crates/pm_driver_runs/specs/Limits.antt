-- The limits that what is collected may break (this project's own).
use Rattle.std.specs.Prelude.{ℕ, Bool, ◌&&◌, List}
use Rattle.std.specs.List.{list_all}
use Rattle.pm_model.specs.declared.rows.CallerRow.{CallerRow}
use Rattle.pm_model.specs.declared.rows.DeviceRow.{DeviceRow}
use Rattle.pm_model.specs.IsPlan.{are_codes, is_script}

-- each device's codes are those of a plan, its idle callback's aside
abbrev pub have_codes : List DeviceRow → Bool
have_codes rows = list_all (λ row. are_codes row.suspend && are_codes row.resume) rows

-- and each caller's script, over so many devices
abbrev pub have_scripts : ℕ → List CallerRow → Bool
have_scripts devices rows = list_all (λ row. is_script devices row.script) rows
