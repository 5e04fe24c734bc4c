-- A small plan of three islands, for tests.
use Rattle.std.specs.Prelude.{ℕ, false, List, [], ◌∷◌, Option, Some, None, pos}
use Rattle.pm_base.specs.declared.DevId.{DevId}
use Rattle.pm_base.specs.declared.DomId.{DomId}
use Rattle.pm_model.specs.declared.event.Command.{Command}
use Rattle.pm_model.specs.declared.event.Helper.TheVariants.{Delay, Enable}
use Rattle.pm_model.specs.declared.rows.CallerRow.{CallerRow}
use Rattle.pm_model.specs.declared.rows.DeviceRow.{DeviceRow}
use Rattle.pm_model.specs.declared.rows.DomainRow.{DomainRow}
use Rattle.pm_model.specs.declared.rows.LinkRow.{LinkRow}

abbrev pub device_row : ℕ → Option DevId → Option DomId → DeviceRow
device_row name parent domain = record {
  name = name ∷ [];
  parent = parent;
  domain = domain;
  ignore_children = false;
  no_callbacks = false;
  busy = false;
  idle = None;
  suspend = [];
  resume = [];
  idle_ms = 0;
  suspend_ms = 0;
  resume_ms = 0;
}

abbrev pub caller_row : ℕ → List Command → CallerRow
caller_row name script = record { name = name ∷ []; script = script }

abbrev pub enabling : ℕ → Command
enabling d = record { helper = Enable; dev = record { 0 = d }; number = pos 0 }

abbrev pub delaying : Command
delaying = record { helper = Delay; dev = record { 0 = 0 }; number = pos 1 }

abbrev pub the_domains : List DomainRow
the_domains = record { name = 111 ∷ []; parent = None; always_on = false } ∷ []

-- x alone, p, s in the domain, k in it with the parent p, and a
abbrev pub the_devices : List DeviceRow
the_devices =
    device_row 120 None None
    ∷ device_row 112 None None
    ∷ device_row 115 None (Some (record { 0 = 0 }))
    ∷ device_row 107 (Some (record { 0 = 1 })) (Some (record { 0 = 0 }))
    ∷ device_row 97 None None
    ∷ []

-- from a to p, and no runtime link
abbrev pub the_links : List LinkRow
the_links = record { consumer = record { 0 = 4 }; supplier = record { 0 = 1 }; pm_runtime = false; later = false } ∷ []

-- n asks for no device, e for a, and c for k
abbrev pub the_callers : List CallerRow
the_callers = caller_row 110 (delaying ∷ []) ∷ caller_row 101 (enabling 4 ∷ []) ∷ caller_row 99 (delaying ∷ enabling 3 ∷ []) ∷ []
