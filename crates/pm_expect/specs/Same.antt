-- Commands that are read the same (this project's own).
use Rattle.std.specs.Prelude.{ℕ, Bool, ◌&&◌, List, count_by, nat_eq}
use Rattle.std.specs.Ordering.{int_eq}
use Rattle.std.specs.Str.{bytes_eq}
use Rattle.pm_model.specs.Counted.{is_same}
use Rattle.pm_model.specs.Spelling.{helper_word}
use Rattle.pm_model.specs.declared.event.Command.{Command}
use Rattle.pm_model.specs.declared.event.Helper.{Helper}

abbrev pub is_same_helper : Helper → Helper → Bool
is_same_helper h k = bytes_eq (helper_word h) (helper_word k)

-- one helper, one device, and one number, switch or supplier
unfoldable pub is_same_command : Command → Command → Bool
is_same_command a b = is_same_helper a.helper b.helper && is_same a.dev b.dev && int_eq a.number b.number

-- how often a script has a command
abbrev pub times_of : Command → List Command → ℕ
times_of command script = count_by (is_same_command command) script
