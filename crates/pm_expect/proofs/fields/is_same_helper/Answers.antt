use Rattle.pm_names.specs.Words.{helper_words}
use Rattle.pm_expect.proofs.SameLemmas.{helper_by_place}
use Rattle.pm_expect.proofs.fields.is_same_helper.Goals as goal

pub returns : goal.returns
returns c =
    helper_by_place helper_words c.args.helper c.args.other c.helper_place.result c.helper_place-2.result
    c.helper_place.ensures.here c.helper_place-2.ensures.here c.helper_place.ensures.number c.helper_place-2.ensures.number
