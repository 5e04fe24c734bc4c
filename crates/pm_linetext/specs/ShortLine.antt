-- Which lines are short, so that their text has at most 162 bytes. Each line that a run writes is (this
-- project's own).
use Rattle.std.specs.Prelude.{Bool, true, ◌&&◌, nat_le, nat_lt}
use Rattle.pm_model.specs.declared.event.Event.{Event}
use Rattle.pm_model.specs.declared.event.Event.TheVariants as event
use Rattle.pm_model.specs.declared.event.Fields.{Fields}
use Rattle.pm_model.specs.declared.event.Line.{Line}

-- one digit of flags, six of each count, and as many children as there can be devices
abbrev pub are_short_fields : Fields → Bool
are_short_fields f =
    nat_lt f.flags 16 && nat_lt f.cnt 1000000 && nat_lt f.dep 1000000 && nat_le f.child 1024

abbrev pub is_short_event : Event → Bool
is_short_event (event.Usage d f) = are_short_fields f
is_short_event (event.Idle d f) = are_short_fields f
is_short_event (event.Suspend d f) = are_short_fields f
is_short_event (event.Resume d f) = are_short_fields f
is_short_event _ = true

abbrev pub is_short_line : Line → Bool
is_short_line line = is_short_event line.event
