-- Texts whose first bad line and its reason are told, and texts like them that are lawful.
use Rattle.std.specs.Prelude.{ℕ, List, [], ◌∷◌, ◌++◌, codes, pos, refl}
use Rattle.pm_base.specs.declared.ActorId.TheVariants.{Caller}
use Rattle.pm_model.specs.declared.event.Event.TheVariants as event
use Rattle.pm_model.specs.declared.event.Helper.TheVariants.{Enable, PutNoidle}
use Rattle.pm_model.specs.declared.event.Line.{Line}
use Rattle.pm_model.specs.declared.plan.Plan.{Plan}
use Rattle.pm_model.specs.FirstBad.{IsFirstBad}
use Rattle.pm_model.specs.NoWhy.{IsWhy, NoWhy}
use Rattle.pm_model.specs.Spelling.{header}
use Rattle.pm_show_runs.specs.Counts.{first_plan}
use Rattle.pm_show_runs.specs.Refusals.{line}
use Rattle.pm_show_runs.specs.Words.{call, dev, text}
use Rattle.pm_show_runs.specs.promises.Pieces.{two_lines}

-- the n-th line is the first bad one, for this reason
pub record IsBadFor (plan : Plan) (bytes : List ℕ) (n : ℕ) (why : NoWhy) : Type 0 where
  pub first : IsFirstBad plan bytes n
  pub reason : IsWhy plan bytes n why

-- the first plan with room for two lines
abbrev pub short_plan : Plan
short_plan = record first_plan { lines = 2; law = refl }

-- its caller enables the device at t; the call returns at t
abbrev pub enables : ℕ → Line
enables t = line t (Caller 0) (event.Call (call Enable (dev 0)))

abbrev pub enabled : ℕ → Line
enabled t = line t (Caller 0) (event.Ret Enable (dev 0) (pos 0))

-- it gives back a count that it doesn't have, in place of the call that its script has next
abbrev pub puts : ℕ → Line
puts t = line t (Caller 0) (event.Call (call PutNoidle (dev 0)))

-- the last moment that a line can have, and the one after it, in format 1 and as a sum in format 2
abbrev pub latest : List ℕ
latest = text ("9223372036854775807 c pm_call: enable a" ∷ [])

abbrev pub too_late : List ℕ
too_late = text ("9223372036854775808 c pm_call: enable a" ∷ [])

abbrev pub too_late2 : List ℕ
too_late2 = header ++ text ("9223372036854775807 c pm_call: enable a" ∷ "1 c pm_ret: enable a 0" ∷ [])

-- two lines of which the second is earlier, the newest first
abbrev pub falling : List Line
falling = enabled 3 ∷ enables 5 ∷ []

abbrev pub third_is_wrong : List ℕ
third_is_wrong = text ("0 c pm_call: enable a" ∷ "0 c pm_ret: enable a 0" ∷ "0 c pm_call: put_noidle a" ∷ [])

-- a line's begin, which isn't text yet, and a line that lacks its newline alone
abbrev pub cut_within : List ℕ
cut_within = two_lines ++ codes "0 c pm_ca"

abbrev pub cut_at_end : List ℕ
cut_at_end = two_lines ++ codes "0 c pm_call: get_sync a"

abbrev pub cut_header : List ℕ
cut_header = codes "pm_trace 2"

abbrev pub two_headers : List ℕ
two_headers = header ++ header

-- the second line is earlier than the first, and at no time would it be permitted; so too, but for its time
abbrev pub wrong_and_early : List ℕ
wrong_and_early = text ("5 c pm_call: enable a" ∷ "3 c pm_call: put_noidle a" ∷ [])

abbrev pub early : List ℕ
early = text ("5 c pm_call: enable a" ∷ "3 c pm_ret: enable a 0" ∷ [])
