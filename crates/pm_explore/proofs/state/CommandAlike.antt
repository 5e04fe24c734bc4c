-- The derived test of two commands is exact.
use Rattle.std.proofs.Common.{◌≡◌, true}
use Rattle.std.proofs.lemmas.Bool.Decides.{Decides-int_eq}
use Rattle.pm_model.specs.declared.event.Command.{Command}
use Rattle.pm_model.specs.contracts.event.CommandPartialEq.TheImpl.{eq-value}
use Rattle.pm_explore.proofs.state.FieldsAlike.{dev_alike, helper_alike}
use Rattle.pm_explore.proofs.state.Lists.{first, second}

pub alike : (a b : Command) → eq-value.it a b ≡ true → a ≡ b
alike a b is =
    let rest = second _ _ is in
    let p0 : a.helper ≡ b.helper = helper_alike a.helper b.helper (first _ _ is) in
    let p1 : a.dev ≡ b.dev = dev_alike a.dev b.dev (first _ _ rest) in
    let p2 : a.number ≡ b.number = (Decides-int_eq a.number b.number).0 (second _ _ rest) in
    λ i. record { helper = p0 i; dev = p1 i; number = p2 i }
