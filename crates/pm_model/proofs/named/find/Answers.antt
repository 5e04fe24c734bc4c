use Rattle.std.proofs.Common.{◌≡◌, ◌∙◌, sym, arith}
use Rattle.std.proofs.lemmas.Grind.{common_steps}
use Rattle.std.proofs.lemmas.Slice.Eq.{bytes_eq-Decides}
use Rattle.pm_model.proofs.NameSearch.{none_past, none_here, first_here}
use Rattle.pm_model.proofs.named.find.Goals as goal

pub returns-in_err-place : goal.returns-in_err-place
returns-in_err-place g c = let none = none_past _ _ c.requires _ _ c.count_before.ensures in grind (arith, common_steps, none)

pub returns-then-eq : goal.returns-then-eq
returns-then-eq g c =
    let same : c.name_at.result.now ≡ c.args.name.now = (bytes_eq-Decides _ _).0 (sym c.eq.ensures ∙ c.if-eq.true) in
    let first = first_here _ _ c.requires _ _ c.count_before.ensures in
    grind (arith, common_steps, first, c.in_ok-place.ensures.lookup)

pub returns-else-eq : goal.returns-else-eq
returns-else-eq g c =
    let none = none_here _ _ c.requires _ _ c.count_before.ensures in
    grind (arith, common_steps, none, bytes_eq-Decides, c.in_ok-place.ensures.lookup)
