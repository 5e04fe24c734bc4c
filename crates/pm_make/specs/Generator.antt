-- The plan of the generator (this project's own): one plan for each number and each number of devices.
use Rattle.std.specs.Prelude.{◌≡◌, ℕ, ◌+◌, ◌-◌, ◌/◌, ◌%◌, false, true, List, [], ◌∷◌, ◌++◌, Option, Some, None, codes, decimal, map, nat_eq, filter, pos, if◌then◌else◌}
use Rattle.std.specs.List.{range_with_len}
use Rattle.pm_base.specs.declared.DevId.{DevId}
use Rattle.pm_model.specs.declared.event.Command.{Command}
use Rattle.pm_model.specs.declared.event.Helper.{Helper}
use Rattle.pm_model.specs.declared.event.Helper.TheVariants as helper
use Rattle.pm_model.specs.declared.plan.Plan.{Plan}
use Rattle.pm_model.specs.declared.rows.CallerRow.{CallerRow}
use Rattle.pm_model.specs.declared.rows.DeviceRow.{DeviceRow}
use Rattle.pm_model.specs.declared.rows.DomainRow.{DomainRow}
use Rattle.pm_model.specs.declared.rows.LinkRow.{LinkRow}
use Rattle.pm_make.specs.Draws.{Drawn, draw, first_state, in_turn}

-- a letter and a number
abbrev pub name : List ℕ → ℕ → List ℕ
name letter i = letter ++ decimal i

-- eight devices share a domain
abbrev pub domain_count : ℕ → ℕ
domain_count n = (n - 1) / 8 + 1

-- the domains are a tree of pairs
unfoldable pub domain_row : ℕ → DomainRow
domain_row j = record {
  name = name (codes "m") j;
  parent = if nat_eq j 0 then None else Some (record { 0 = (j - 1) / 2 });
  always_on = false;
}

abbrev pub domain_rows : ℕ → List DomainRow
domain_rows n = map domain_row (range_with_len 0 (domain_count n))

-- a device but the first: a draw below 4 that isn't 0 is followed by a draw below i, its parent
unfoldable pub parent_of : ℕ → ℕ → Drawn (Option DevId)
parent_of i x =
    if nat_eq i 0 then record { item = None; state = x }
    else (let chance = draw 4 x in
    let parent = draw i chance.state in
    if nat_eq chance.item 0 then record { item = None; state = chance.state } else record { item = Some (record { 0 = parent.item }); state = parent.state })

abbrev pub device_row : ℕ → Option DevId → ℕ → ℕ → DeviceRow
device_row i parent suspend_ms resume_ms = record {
  name = name (codes "d") i;
  parent = parent;
  domain = Some (record { 0 = i / 8 });
  ignore_children = false;
  no_callbacks = false;
  busy = false;
  idle = Some [];
  suspend = [];
  resume = [];
  idle_ms = 0;
  suspend_ms = suspend_ms;
  resume_ms = resume_ms;
}

unfoldable pub device : ℕ → ℕ → Drawn DeviceRow
device i x =
    let parent = parent_of i x in
    let suspend_ms = draw 20 parent.state in
    let resume_ms = draw 20 suspend_ms.state in
    record { item = device_row i parent.item suspend_ms.item resume_ms.item; state = resume_ms.state }

abbrev pub device_step : ℕ → ℕ → Drawn (List DeviceRow)
device_step i x = record { item = (device i x).item ∷ []; state = (device i x).state }

abbrev pub link_row : ℕ → ℕ → LinkRow
link_row consumer supplier = record { consumer = record { 0 = consumer }; supplier = record { 0 = supplier }; pm_runtime = true; later = false }

-- a device but the first: where a draw below 3 is 0, a draw below i is the supplier of a link
unfoldable pub link_step : ℕ → ℕ → Drawn (List LinkRow)
link_step i x =
    if nat_eq i 0 then record { item = []; state = x }
    else (let chance = draw 3 x in
    let supplier = draw i chance.state in
    if nat_eq chance.item 0 then record { item = link_row i supplier.item ∷ []; state = supplier.state } else record { item = []; state = chance.state })

abbrev pub command : Helper → ℕ → ℕ → Command
command helper dev number = record { helper = helper; dev = record { 0 = dev }; number = pos number }

-- caller j enables each device whose number modulo 4 is j
abbrev pub enables : ℕ → ℕ → List Command
enables n j = map (λ i. command helper.Enable i 0) (filter (λ i. nat_eq (i % 4) j) (range_with_len 0 n))

-- a draw below n is the device, a draw below 10, and 1, the milliseconds between its get and its put
unfoldable pub round : ℕ → ℕ → Drawn (List Command)
round n x =
    let dev = draw n x in
    let ms = draw 10 dev.state in
    record { item = command helper.GetSync dev.item 0 ∷ command helper.Delay 0 (ms.item + 1) ∷ command helper.Put dev.item 0 ∷ []; state = ms.state }

abbrev pub round_step : ℕ → ℕ → ℕ → Drawn (List Command)
round_step n k x = round n x

unfoldable pub caller : ℕ → ℕ → ℕ → Drawn CallerRow
caller n j x =
    let rounds = in_turn (round_step n) 50 x in
    record { item = record { name = name (codes "c") j; script = enables n j ++ rounds.item }; state = rounds.state }

abbrev pub caller_step : ℕ → ℕ → ℕ → Drawn (List CallerRow)
caller_step n j x = record { item = (caller n j x).item ∷ []; state = (caller n j x).state }

-- the rows in the order in which they are drawn
abbrev pub devices : ℕ → ℕ → Drawn (List DeviceRow)
devices number n = in_turn device_step n (first_state number)

abbrev pub links : ℕ → ℕ → Drawn (List LinkRow)
links number n = in_turn link_step n (devices number n).state

abbrev pub callers : ℕ → ℕ → Drawn (List CallerRow)
callers number n = in_turn (caller_step n) 4 (links number n).state

-- the plan of a number and n devices
pub record IsGenerated (number n : ℕ) (plan : Plan) : Type 0 where
  pub lines : plan.lines ≡ 200000
  pub trace : plan.trace ≡ 1
  pub domains : plan.domains ≡ domain_rows n
  pub devices : plan.devices ≡ (devices number n).item
  pub links : plan.links ≡ (links number n).item
  pub callers : plan.callers ≡ (callers number n).item
