-- The two halves of a payload behind the device's name, and where each of its numbers has one digit.
use Rattle.std.specs.Prelude.{ℕ, Bool, false, ◌&&◌, List, ◌++◌, codes, decimal, nat_lt}
use Rattle.std.specs.Fmt.{digits}
use Rattle.pm_model.specs.declared.event.Fields.{Fields}
use Rattle.pm_model.specs.Spelling.{bit, padded}

abbrev pub counts_text : Fields → List ℕ
counts_text f =
    codes " flags-" ++ digits 16 false f.flags
    ++ codes " cnt-" ++ padded (decimal f.cnt) ++ codes " dep-" ++ padded (decimal f.dep)

abbrev pub states_text : Fields → List ℕ
states_text f =
    codes " auto-" ++ bit f.auto_on ++ codes " p-" ++ bit f.pending ++ codes " irq-0 child-" ++ decimal f.child

abbrev pub fields_text : Fields → List ℕ
fields_text f = counts_text f ++ states_text f

abbrev pub are_digits : Fields → Bool
are_digits f = nat_lt f.flags 16 && nat_lt f.cnt 10 && nat_lt f.dep 10 && nat_lt f.child 10
