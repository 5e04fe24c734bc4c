-- The words are distinct, so a helper has one place.
use Rattle.std.proofs.Common.{refl, rules}
use Rattle.pm_linetext.proofs.WordLemmas.{one_place}
use Rattle.pm_model.specs.Spelling.{helper_word}
use Rattle.pm_linetext.specs.Words.{all_helpers}
use Rattle.pm_names.specs.Words.{helper_words}
use Rattle.pm_linetext.proofs.words.helper_place.Goals as goal

pub returns-clause-here : goal.returns-clause-here
returns-clause-here c = search rules

pub returns-clause-only : goal.returns-clause-only
returns-clause-only c place at_place = one_place helper_word all_helpers helper_words refl refl place _ c.args.helper at_place (returns-clause-here c)
