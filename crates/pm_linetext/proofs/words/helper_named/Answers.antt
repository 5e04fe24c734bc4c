-- The helper at the place of a word is what the word names.
use Rattle.std.proofs.Common.{sym}
use Rattle.pm_linetext.proofs.WordLemmas.{named_item}
use Rattle.pm_model.specs.Spelling.{helper_word}
use Rattle.pm_linetext.specs.Words.{all_helpers}
use Rattle.pm_linetext.proofs.words.helper_named.Goals as goal

pub returns-clause-found : goal.returns-clause-found
returns-clause-found c =
    named_item helper_word all_helpers _ (sym c.helpers.ensures) c.in_ok-number_of.field-0 _ c.in_ok-number_of.ensures.found _ c.helper_of.ensures
