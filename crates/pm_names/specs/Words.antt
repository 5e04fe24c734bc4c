-- The words of a trace, one list for each table. A word's number is its place, counted from 0. Where the words name
-- the variants of an enum, they are the spelling of each, in the order in which the variants are declared.
use Rattle.std.specs.Prelude.{ℕ, List, [], ◌∷◌, codes, map}
use Rattle.pm_base.specs.contracts.Cb as cb
use Rattle.pm_base.specs.contracts.Req as req
use Rattle.pm_model.specs.Spelling.{cb_word, helper_word, req_word, status_word}
use Rattle.pm_model.specs.contracts.event.Helper as helper
use Rattle.pm_model.specs.contracts.event.Word as word
use Rattle.pm_names.specs.EnumOrder.{every}

-- the helpers, as a plan's scripts and the lines `pm_call` and `pm_ret` name them
abbrev pub helper_words : List (List ℕ)
helper_words = map helper_word (every helper.enum)

-- the events, one for each kind of trace line
abbrev pub event_words : List (List ℕ)
event_words =
    codes "pm_call" ∷ codes "pm_ret" ∷ codes "pm_get" ∷ codes "pm_put"
    ∷ codes "rpm_usage" ∷ codes "rpm_idle" ∷ codes "rpm_suspend" ∷ codes "rpm_resume" ∷ codes "rpm_return_int"
    ∷ codes "pm_wait" ∷ codes "pm_status" ∷ codes "pm_callback" ∷ codes "pm_domain" ∷ codes "pm_work" ∷ codes "pm_timer" ∷ []

-- what a `pm_status` line says of the device
abbrev pub status_words : List (List ℕ)
status_words = map status_word (every word.enum)

-- the requests of a `pm_work` line
abbrev pub req_words : List (List ℕ)
req_words = map req_word (every req.enum)

-- the callbacks of a `pm_callback` line
abbrev pub cb_words : List (List ℕ)
cb_words = map cb_word (every cb.enum)
