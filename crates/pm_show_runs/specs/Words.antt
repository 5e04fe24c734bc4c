-- The words that the runs are written in: plans, their rows, scripts and texts.
use Rattle.std.specs.Prelude.{ℕ, ℤ, pos, neg_ℤ, true, false, List, [], ◌++◌, None, codes, refl}
use Rattle.std.specs.List.{flat_map}
use Prim.Native.String.{String}
use Rattle.pm_base.specs.declared.DevId.{DevId}
use Rattle.pm_base.specs.declared.DomId.{DomId}
use Rattle.pm_model.specs.declared.event.Command.{Command}
use Rattle.pm_model.specs.declared.event.Helper.{Helper}
use Rattle.pm_model.specs.declared.event.Helper.TheVariants.{Delay}
use Rattle.pm_model.specs.declared.event.Line.{Line}
use Rattle.pm_model.specs.declared.plan.Plan.{Plan}
use Rattle.pm_model.specs.declared.rows.CallerRow.{CallerRow}
use Rattle.pm_model.specs.declared.rows.DeviceRow.{DeviceRow}
use Rattle.pm_model.specs.declared.rows.DomainRow.{DomainRow}
use Rattle.pm_model.specs.declared.rows.LinkRow.{LinkRow}
use Rattle.pm_model.specs.Spelling.{newline}
use Rattle.pm_model.specs.Text.{text1}
use Rattle.pm_model.specs.Serial.{goes_on, serial}

-- a plan with nothing in it, of which the others are made
abbrev pub empty_plan : Plan
empty_plan = record { lines = 20000; trace = 1; domains = []; devices = []; links = []; callers = []; law = refl }

abbrev pub dev : ℕ → DevId
dev d = record { 0 = d }

abbrev pub dom : ℕ → DomId
dom d = record { 0 = d }

-- a device with a name and nothing else
abbrev pub device : String → DeviceRow
device name = record {
  name = codes name;
  parent = None;
  domain = None;
  ignore_children = false;
  no_callbacks = false;
  busy = false;
  idle = None;
  suspend = [];
  resume = [];
  idle_ms = 0;
  suspend_ms = 0;
  resume_ms = 0;
}

-- a domain with a name and nothing else
abbrev pub domain : String → DomainRow
domain name = record { name = codes name; parent = None; always_on = false }

-- a link from this consumer to this supplier
abbrev pub link : DevId → DevId → LinkRow
link consumer supplier = record { consumer = consumer; supplier = supplier; pm_runtime = true; later = false }

abbrev pub caller : String → List Command → CallerRow
caller name script = record { name = codes name; script = script }

-- a command that takes a device and no number
abbrev pub call : Helper → DevId → Command
call h d = record { helper = h; dev = d; number = pos 0 }

-- a command that takes a number too
abbrev pub call_with : Helper → DevId → ℤ → Command
call_with h d n = record { helper = h; dev = d; number = n }

-- a command that takes a consumer and its supplier
abbrev pub of_pair : Helper → DevId → DevId → Command
of_pair h consumer supplier = call_with h consumer (pos supplier.0)

-- the command delay, which takes no device
abbrev pub delay : ℕ → Command
delay ms = call_with Delay (dev 0) (pos ms)

-- a negative number
abbrev pub minus : ℕ → ℤ
minus n = neg_ℤ (pos n)

-- the text that one thread writes
abbrev pub text_of : Plan → List ℕ
text_of plan = text1 plan (serial plan)

-- these lines, each with a newline after it
abbrev pub text : List String → List ℕ
text lines = flat_map (λ line. codes line ++ newline) lines

-- the lines that one thread writes, the newest first
abbrev pub run_of : Plan → List Line
run_of plan = goes_on plan plan.lines []
