-- By walking from line to line.
use Rattle.pm_law_texts.proofs.Lawfulness.{front_lawful}
use Rattle.pm_law_texts.proofs.Walk.{decided, none_lawful, not_both, only_bad}
use Rattle.pm_law_texts.proofs.WhyBad.{front_earlier}
use Rattle.pm_law_texts.proofs.lawful_or_bad.Goals as goal

pub returns-clause-either : goal.returns-clause-either
returns-clause-either c = decided

pub returns-clause-not_both : goal.returns-clause-not_both
returns-clause-not_both c = not_both

pub returns-clause-only : goal.returns-clause-only
returns-clause-only c = only_bad

pub returns-clause-none : goal.returns-clause-none
returns-clause-none c = none_lawful

pub returns-clause-fronts : goal.returns-clause-fronts
returns-clause-fronts c = λ plan bytes n found. front_lawful plan bytes found n

pub returns-clause-earlier : goal.returns-clause-earlier
returns-clause-earlier c = front_earlier
