-- The word that is compared is the one at the helper's place.
use Rattle.std.proofs.Common.{ap, sym, ◌∙◌, slice_get}
use Rattle.pm_script.proofs.HelperLemmas.{named_here}
use Rattle.pm_script.proofs.command.is_named.Goals as goal

pub returns : goal.returns
returns c is =
    named_here c.args.word.now c.name_of.result.now c.args.helper c.helper_place.result
    (ap (λ words. slice_get words c.helper_place.result) (sym c.helpers.ensures) ∙ c.name_of.ensures.word)
    c.helper_place.ensures.word c.helper_place.ensures.number c.helper_place.ensures.here (c.is_same.ensures is)
