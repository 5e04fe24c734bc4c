use Rattle.std.proofs.Common.{Some}
use Rattle.pm_cmd_ends.specs.Told.{HasDevice}
use Rattle.pm_cmd_top.specs.answers.Page.{IsBadTrace, IsLawfulTrace, IsRefusedWhy}
use Rattle.pm_cmd_top.proofs.answers.PageLemmas.{first_exactly, lawful_not_bad, one_three, second_exactly, third_exactly, why_bad_not_refused, why_is, why_lawful_not_refused, zero_one, zero_three}
use Rattle.pm_cmd_top.proofs.answers.page.why_says.Goals as goal

pub returns-clause-lawful : goal.returns-clause-lawful
returns-clause-lawful c all plan trace name status old new out err quiet answers =
    first_exactly status 0 1 3 (HasDevice (Some plan) name × IsLawfulTrace plan trace) (HasDevice (Some plan) name × IsBadTrace plan trace) (IsRefusedWhy plan trace name) zero_one zero_three (λ one other. lawful_not_bad plan trace one.1 other.1) (why_lawful_not_refused plan trace name) (why_is all plan trace name status old new out err quiet answers)

pub returns-clause-bad : goal.returns-clause-bad
returns-clause-bad c all plan trace name status old new out err quiet answers =
    second_exactly status 0 1 3 (HasDevice (Some plan) name × IsLawfulTrace plan trace) (HasDevice (Some plan) name × IsBadTrace plan trace) (IsRefusedWhy plan trace name) zero_one one_three (λ one other. lawful_not_bad plan trace one.1 other.1) (why_bad_not_refused plan trace name) (why_is all plan trace name status old new out err quiet answers)

pub returns-clause-refused : goal.returns-clause-refused
returns-clause-refused c all plan trace name status old new out err quiet answers =
    third_exactly status 0 1 3 (HasDevice (Some plan) name × IsLawfulTrace plan trace) (HasDevice (Some plan) name × IsBadTrace plan trace) (IsRefusedWhy plan trace name) zero_three one_three (why_lawful_not_refused plan trace name) (why_bad_not_refused plan trace name) (why_is all plan trace name status old new out err quiet answers)
