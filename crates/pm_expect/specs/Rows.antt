-- What a table of a file of expectations expects, or why it is refused: a key that it doesn't have, and then key by key
-- (this project's own).
use Rattle.std.specs.Prelude.{Result, Ok}
use Rattle.toml.specs.Data.{Members}
use Rattle.pm_model.specs.declared.plan.Plan.{Plan}
use Rattle.pm_expect.specs.Fields.{caller_in, code_in, command_in, device_in, left_in, times_in, usage_in, which_in}
use Rattle.pm_expect.specs.Tables.{◌>>=◌, known_keys}
use Rattle.pm_expect.specs.declared.expectation.Answer.{Answer}
use Rattle.pm_expect.specs.declared.expectation.End.{End}
use Rattle.pm_expect.specs.declared.expectation.Use.{Use}
use Rattle.pm_expect.specs.declared.refusal.Section.TheVariants as section
use Rattle.pm_expect.specs.declared.refusal.Why.{Why}

unfoldable pub answer_in : Plan → Members → Result Answer Why
answer_in plan members = do
  known ← known_keys section.Answer members
  caller ← caller_in plan members
  command ← command_in plan members
  times ← times_in plan caller command
  which ← which_in times members
  code ← code_in members
  Ok (record { caller = caller; command = command; which = which; code = code })

unfoldable pub end_in : Plan → Members → Result End Why
end_in plan members = do
  known ← known_keys section.End members
  dev ← device_in plan members
  left ← left_in members
  usage ← usage_in members
  Ok (record { dev = dev; left = left; usage = usage })

unfoldable pub use_in : Plan → Members → Result Use Why
use_in plan members = do
  known ← known_keys section.Use members
  dev ← device_in plan members
  caller ← caller_in plan members
  command ← command_in plan members
  times ← times_in plan caller command
  Ok (record { dev = dev; caller = caller; command = command })
