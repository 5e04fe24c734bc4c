-- Entries that are wrong by their key or by their value (this project's own).
use Rattle.std.specs.Prelude.{ℕ, Bool, ◌||◌, List}
use Rattle.toml.specs.Data.{Data}
use Rattle.pm_planread.specs.tree.KeyFault.{is_unknown_key}
use Rattle.pm_planread.specs.tree.KindFault.{is_misfit}
use Rattle.pm_planread.specs.declared.tree.keys.Format.{Format}
use Rattle.pm_planread.specs.declared.tree.place.Section.{Section}

abbrev pub is_wrong_entry : Format → Section → List ℕ × Data → Bool
is_wrong_entry f section entry = is_unknown_key f section entry.0 || is_misfit f section entry
