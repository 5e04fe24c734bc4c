-- By the bytes behind the last newline.
use Rattle.pm_show_runs.proofs.promises.BadLines.{cut_at_end_is_bad, cut_header_is_bad, cut_past_limit_is_bad, cut_within_is_bad, two_headers_are_bad}
use Rattle.pm_show_runs.proofs.promises.first_bad.cut_rests.Goals as goal

pub returns-clause-within : goal.returns-clause-within
returns-clause-within c = cut_within_is_bad

pub returns-clause-at_end : goal.returns-clause-at_end
returns-clause-at_end c = cut_at_end_is_bad

pub returns-clause-past_limit : goal.returns-clause-past_limit
returns-clause-past_limit c = cut_past_limit_is_bad

pub returns-clause-header : goal.returns-clause-header
returns-clause-header c = cut_header_is_bad

pub returns-clause-headers : goal.returns-clause-headers
returns-clause-headers c = two_headers_are_bad
