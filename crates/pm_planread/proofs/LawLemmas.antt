-- The rows of a plan that isn't refused are those of a plan.
use Rattle.std.proofs.Common.{◌≡◌, ℕ, ◌≤◌, true, None, Ok, List, length, map, nat_le, le-leb, refl, sym, ap, ◌∙◌, arith}
use Rattle.std.specs.List.{list_all}
use Rattle.std.proofs.lemmas.Bool.{and_from}
use Rattle.std.proofs.lemmas.List.{length-map}
use Rattle.pm_base.specs.declared.limits.TheConstants.{MAX_LINES, MAX_DOMAINS, MAX_DEVICES, MAX_LINKS, MAX_CALLERS}
use Rattle.pm_model.specs.IsPlan.{is_plan}
use Rattle.pm_model.specs.declared.rows.DomainRow.{DomainRow}
use Rattle.pm_model.specs.declared.rows.DeviceRow.{DeviceRow}
use Rattle.pm_model.specs.declared.rows.LinkRow.{LinkRow}
use Rattle.pm_model.specs.declared.rows.CallerRow.{CallerRow}
use Rattle.pm_names.proofs.PlanNames.{distinct_names as all_differ}
use Rattle.pm_names.specs.Table.{all_distinct}
use Rattle.pm_planread.specs.tree.Places.{first_fault}
use Rattle.pm_planread.specs.declared.tree.place.Section.TheVariants.{Domain, Device, Caller}
use Rattle.pm_planread.specs.declared.tree.raw.RawCaller.{RawCaller}
use Rattle.pm_planread.specs.declared.tree.raw.RawPlan.{RawPlan}
use Rattle.pm_planread.proofs.EachLemmas.{callers_each, devices_each, domains_each, links_each}
use Rattle.pm_planread.proofs.rows.FaultLemmas.{neither}
use Rattle.pm_planread.proofs.FewLemmas.{short_of}
use Rattle.pm_planread.proofs.LinkLemmas.{distinct_links, distinct_names}
use Rattle.pm_planread.proofs.RangeLemmas.{at_least, at_most}
use Rattle.pm_planread.proofs.RowLemmas.{names_of_callers, names_of_domains, names_of_rows}
use Rattle.pm_planread.specs.Named.{AreNamed, AreOrdered}
use Rattle.pm_planread.specs.rows.Names.{caller_names, device_names, device_unknown, domain_names, domain_unknown, first_bad_name, first_repeat, link_unknown, name_fault, repeat_fault, repeated_link, unknown_fault}
use Rattle.pm_planread.specs.rows.Numbers.{code_fault, number_fault}
use Rattle.pm_planread.specs.rows.Orders.{device_later, domain_fault, domain_later, idle_consumer, idle_in_domain, later_fault, link_fault, link_later}
use Rattle.pm_planread.specs.PlanOf.{contents_in, counted_plan}
use Rattle.pm_planread.specs.rows.Rows.{device_row, device_rows, domain_row, domain_rows, link_row, link_rows, natural_within}
use Rattle.pm_planread.specs.Scripts.{are_commands, caller_row, caller_rows, script_fault}

-- the parts of the refusals
names_none : (raw : RawPlan) → name_fault raw ≡ None → (first_bad_name Domain (domain_names raw) ≡ None) × (first_bad_name Device (device_names raw) ≡ None) × (first_bad_name Caller (caller_names raw) ≡ None)
unfolding name_fault
names_none raw none =
    let (a, rest) = neither (first_bad_name Domain (domain_names raw)) _ none in
    let (b, c) = neither (first_bad_name Device (device_names raw)) (first_bad_name Caller (caller_names raw)) rest in
    (a, b, c)

repeats_none : (raw : RawPlan) → repeat_fault raw ≡ None → (first_repeat Domain (domain_names raw) ≡ None) × (first_repeat Device (device_names raw) ≡ None) × (first_fault (repeated_link raw.links) 0 raw.links ≡ None) × (first_repeat Caller (caller_names raw) ≡ None)
unfolding repeat_fault
repeats_none raw none =
    let (a, rest) = neither (first_repeat Domain (domain_names raw)) _ none in
    let (b, more) = neither (first_repeat Device (device_names raw)) _ rest in
    let (c, d) = neither (first_fault (repeated_link raw.links) 0 raw.links) (first_repeat Caller (caller_names raw)) more in
    (a, b, c, d)

links_known : (raw : RawPlan) → unknown_fault raw ≡ None → first_fault (link_unknown (device_names raw)) 0 raw.links ≡ None
unfolding unknown_fault
links_known raw none =
    (neither (first_fault (device_unknown (domain_names raw) (device_names raw)) 0 raw.devices) (first_fault (link_unknown (device_names raw)) 0 raw.links)
    (neither (first_fault (domain_unknown (domain_names raw)) 0 raw.domains) _ none).1).1

later_none : (domains : List DomainRow) (devices : List DeviceRow) (links : List LinkRow) → later_fault domains devices links ≡ None → (first_fault domain_later 0 domains ≡ None) × (first_fault device_later 0 devices ≡ None) × (first_fault link_later 0 links ≡ None)
unfolding later_fault
later_none domains devices links none =
    let (a, rest) = neither (first_fault domain_later 0 domains) _ none in
    let (b, c) = neither (first_fault device_later 0 devices) (first_fault link_later 0 links) rest in
    (a, b, c)

idle_none : (devices : List DeviceRow) → domain_fault devices ≡ None → first_fault idle_in_domain 0 devices ≡ None
unfolding domain_fault
idle_none devices none = none

consumers_none : (devices : List DeviceRow) (links : List LinkRow) → link_fault devices links ≡ None → first_fault (idle_consumer devices) 0 links ≡ None
unfolding link_fault
consumers_none devices links none = none

in_limit : (n m limit : ℕ) → n ≡ m → m ≤ limit → nat_le n limit ≡ true
in_limit n m limit is within = le-leb n limit (omega arith)

pub law : (raw : RawPlan) → AreNamed raw → AreOrdered raw
    → list_all (are_commands (length (device_rows raw))) (caller_rows raw) ≡ true
    → is_plan (natural_within 1 MAX_LINES raw.lines) (natural_within 1 2 raw.trace) (domain_rows raw) (device_rows raw) (link_rows raw) (caller_rows raw) ≡ true
law raw named ordered commands =
    let short = short_of raw named.few in
    let (bad_domain, bad_device, bad_caller) = names_none raw named.names in
    let (twice_domain, twice_device, twice_link, twice_caller) = repeats_none raw named.distinct in
    let known = links_known raw named.known in
    let (late_domain, late_device, late_link) = later_none (domain_rows raw) (device_rows raw) (link_rows raw) ordered.earlier in
    let idle = idle_none (device_rows raw) ordered.domains in
    let consumers = consumers_none (device_rows raw) (link_rows raw) ordered.links in
    let domain_count : length (domain_rows raw) ≡ length (domain_names raw) = length-map raw.domains (domain_row (domain_names raw)) ∙ sym (length-map raw.domains (λ row. row.name)) in
    let device_count : length (device_rows raw) ≡ length (device_names raw) = length-map raw.devices (device_row (domain_names raw) (device_names raw)) ∙ sym (length-map raw.devices (λ row. row.name)) in
    and_from _ _ (and_from _ _ (and_from _ _ (and_from _ _ (and_from _ _ (and_from _ _ (and_from _ _ (and_from _ _
    (and_from _ _ (and_from _ _ (and_from _ _ (and_from _ _ (and_from _ _ (and_from _ _ (and_from _ _
    (at_least 1 MAX_LINES raw.lines)
    (at_most 1 MAX_LINES raw.lines (omega arith)))
    (at_least 1 2 raw.trace))
    (at_most 1 2 raw.trace (omega arith)))
    (in_limit (length (domain_rows raw)) (length raw.domains) MAX_DOMAINS (length-map raw.domains (domain_row (domain_names raw))) short.few.domains))
    (in_limit (length (device_rows raw)) (length raw.devices) MAX_DEVICES (length-map raw.devices (device_row (domain_names raw) (device_names raw))) short.few.devices))
    (in_limit (length (link_rows raw)) (length raw.links) MAX_LINKS (length-map raw.links (link_row (device_names raw))) short.few.links))
    (in_limit (length (caller_rows raw)) (length raw.callers) MAX_CALLERS (length-map raw.callers (caller_row (device_names raw))) short.few.callers))
    (domains_each (domain_names raw) raw.domains bad_domain late_domain))
    (rw domain_count (devices_each (domain_names raw) (device_names raw) raw.devices bad_device short.codes late_device idle)))
    (links_each (device_names raw) (device_rows raw) raw.links device_count known late_link consumers))
    (callers_each (device_names raw) (length (device_rows raw)) raw.callers bad_caller short.commands commands))
    (rw (names_of_domains raw) (distinct_names Domain (domain_names raw) twice_domain)))
    (rw (names_of_rows raw) (distinct_names Device (device_names raw) twice_device)))
    (distinct_links (device_names raw) raw.links known twice_link))
    (rw (names_of_callers raw) (distinct_names Caller (caller_names raw) twice_caller))

-- no two domains and no two devices have one name
pub devices_named_apart : (raw : RawPlan) → repeat_fault raw ≡ None → all_distinct (device_names raw) ≡ true
devices_named_apart raw none = all_differ (device_names raw) (distinct_names Device (device_names raw) (repeats_none raw none).1)

-- no two devices that were made have one name
pub devices_differ : (raw : RawPlan) (devices : List DeviceRow) → AreNamed raw → devices ≡ device_rows raw → all_distinct (map (λ row. row.name) devices) ≡ true
devices_differ raw devices named made =
    rw (made, names_of_rows raw) (devices_named_apart raw named.distinct)

-- the callers over the devices that were made
pub callers_are : (raw : RawPlan) (devices : List DeviceRow) (callers : List CallerRow) (rows : List RawCaller) → devices ≡ device_rows raw → rows ≡ raw.callers → callers ≡ map (caller_row (map (λ row. row.name) devices)) rows → callers ≡ caller_rows raw
callers_are raw devices callers rows made same is =
    let names : map (λ row. row.name) devices ≡ device_names raw = ap (λ list. map (λ row. row.name) list) made ∙ names_of_rows raw in
    is ∙ ap (λ list. map (caller_row list) rows) names ∙ ap (λ list. map (caller_row (device_names raw)) list) same

pub law_of : (raw : RawPlan) (lines trace : ℕ) (domains : List DomainRow) (devices : List DeviceRow) (links : List LinkRow) (callers : List CallerRow)
    → lines ≡ natural_within 1 MAX_LINES raw.lines → trace ≡ natural_within 1 2 raw.trace → domains ≡ domain_rows raw → devices ≡ device_rows raw → links ≡ link_rows raw → callers ≡ caller_rows raw
    → AreNamed raw → AreOrdered raw → list_all (are_commands (length devices)) callers ≡ true
    → is_plan lines trace domains devices links callers ≡ true
law_of raw lines trace domains devices links callers l t d v k c named ordered valid =
    let commands : list_all (are_commands (length (device_rows raw))) (caller_rows raw) ≡ true = rw (← v, ← c) valid in
    rw (l, t, d, v, k, c) (law raw named ordered commands)

pub script_none : (raw : RawPlan) (devices : List DeviceRow) (rows : List RawCaller) → devices ≡ device_rows raw → rows ≡ raw.callers → script_fault (map (λ row. row.name) devices) rows ≡ None → script_fault (device_names raw) raw.callers ≡ None
script_none raw devices rows made same none =
    let names : map (λ row. row.name) devices ≡ device_names raw = ap (λ list. map (λ row. row.name) list) made ∙ names_of_rows raw in
    rw (← names, ← same) none

pub counted_ok : (raw : RawPlan) → number_fault raw ≡ None → code_fault raw ≡ None → script_fault (device_names raw) raw.callers ≡ None → counted_plan raw ≡ Ok (contents_in raw)
unfolding counted_plan
counted_ok raw numbers codes scripts = rw (numbers, codes, scripts) refl

pub contents_are : (raw : RawPlan) (lines trace : ℕ) (domains : List DomainRow) (devices : List DeviceRow) (links : List LinkRow) (callers : List CallerRow)
    → lines ≡ natural_within 1 MAX_LINES raw.lines → trace ≡ natural_within 1 2 raw.trace → domains ≡ domain_rows raw → devices ≡ device_rows raw → links ≡ link_rows raw → callers ≡ caller_rows raw
    → contents_in raw ≡ record { lines = lines; trace = trace; domains = domains; devices = devices; links = links; callers = callers }
unfolding contents_in
contents_are raw lines trace domains devices links callers l t d v k c = rw (l, t, d, v, k, c) refl
