use Rattle.std.proofs.Common.{refl}
use Rattle.pm_cmd_ends.specs.Ending.{NotLawful}
use Rattle.pm_cmd_top.specs.TraceCommands.{TimesEnds}
use Rattle.pm_cmd_top.specs.answers.Page.{IsBadTrace, IsLawfulTrace, IsRefusedTrace}
use Rattle.pm_cmd_top.proofs.answers.PageLemmas.{bad_not_refused, first_exactly, lawful_not_bad, lawful_not_refused, one_three, second_exactly, third_exactly, times_done, trace_is, zero_one, zero_three}
use Rattle.pm_cmd_top.proofs.answers.page.times_says.Goals as goal

pub returns-clause-lawful : goal.returns-clause-lawful
returns-clause-lawful c all plan trace status old new out err quiet answers =
    first_exactly status 0 1 3 (IsLawfulTrace plan trace) (IsBadTrace plan trace) (IsRefusedTrace plan trace) zero_one zero_three (lawful_not_bad plan trace) (lawful_not_refused plan trace) (trace_is all plan trace NotLawful TimesEnds status old new out err quiet (λ line. refl) times_done answers)

pub returns-clause-bad : goal.returns-clause-bad
returns-clause-bad c all plan trace status old new out err quiet answers =
    second_exactly status 0 1 3 (IsLawfulTrace plan trace) (IsBadTrace plan trace) (IsRefusedTrace plan trace) zero_one one_three (lawful_not_bad plan trace) (bad_not_refused plan trace) (trace_is all plan trace NotLawful TimesEnds status old new out err quiet (λ line. refl) times_done answers)

pub returns-clause-refused : goal.returns-clause-refused
returns-clause-refused c all plan trace status old new out err quiet answers =
    third_exactly status 0 1 3 (IsLawfulTrace plan trace) (IsBadTrace plan trace) (IsRefusedTrace plan trace) zero_three one_three (lawful_not_refused plan trace) (bad_not_refused plan trace) (trace_is all plan trace NotLawful TimesEnds status old new out err quiet (λ line. refl) times_done answers)
