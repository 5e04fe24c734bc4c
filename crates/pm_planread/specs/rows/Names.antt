-- The refusals `name`, `repeat` and `unknown` (this project's own): names that are none, names and pairs of names that stand
-- earlier in their section, and references to names that aren't there.
use Rattle.std.specs.Prelude.{◌≡◌, ℕ, Bool, true, false, not, ◌&&◌, ◌||◌, List, [], ◌∷◌, Option, Some, None, is_none, map, nat_lt, position}
use Rattle.std.specs.Option.{option_map_or, option_or}
use Rattle.std.specs.Str.{bytes_eq}
use Rattle.pm_model.specs.IsPlan.{is_caller_name, is_name}
use Rattle.pm_model.specs.NamedList.{place_named}
use Rattle.pm_names.specs.Table.{all_distinct}
use Rattle.pm_planread.specs.tree.Places.{first_fault}
use Rattle.pm_planread.specs.declared.tree.place.Place.{Place}
use Rattle.pm_planread.specs.declared.tree.place.Section.{Section}
use Rattle.pm_planread.specs.declared.tree.place.Section.TheVariants.{Domain, Device, Link, Caller}
use Rattle.pm_planread.specs.declared.tree.raw.RawDomain.{RawDomain}
use Rattle.pm_planread.specs.declared.tree.raw.RawDevice.{RawDevice}
use Rattle.pm_planread.specs.declared.tree.raw.RawLink.{RawLink}
use Rattle.pm_planread.specs.declared.tree.raw.RawPlan.{RawPlan}
use Rattle.pm_planread.specs.rows.Faults.{fault_if}
use Rattle.pm_planread.specs.declared.rows.index.Label.{Label}
use Rattle.pm_planread.specs.declared.rows.names.Names.{Names}
use Rattle.pm_planread.specs.declared.rows.names.Pair.{Pair}

abbrev pub names_in : List Label → List (List ℕ)
names_in labels = map (λ label. label.name.now) labels

abbrev pub domain_names : RawPlan → List (List ℕ)
domain_names raw = map (λ row. row.name) raw.domains

abbrev pub device_names : RawPlan → List (List ℕ)
device_names raw = map (λ row. row.name) raw.devices

abbrev pub caller_names : RawPlan → List (List ℕ)
caller_names raw = map (λ row. row.name) raw.callers

-- name: the names of callers have neither . nor :
abbrev pub is_name_in : Section → List ℕ → Bool
is_name_in Caller name = is_caller_name name
is_name_in _ name = is_name name

abbrev pub bad_name : Section → ℕ → List ℕ → Option Place
bad_name section i name = fault_if section i (not (is_name_in section name))

abbrev pub first_bad_name : Section → List (List ℕ) → Option Place
first_bad_name section names = first_fault (bad_name section) 0 names

unfoldable pub name_fault : RawPlan → Option Place
name_fault raw =
    option_or (first_bad_name Domain (domain_names raw)) (option_or (first_bad_name Device (device_names raw)) (first_bad_name Caller (caller_names raw)))

-- repeat: the first place of the same is an earlier one
abbrev pub is_earlier : ℕ → Option ℕ → Bool
is_earlier i place = option_map_or (λ p. nat_lt p i) place false

abbrev pub repeated_name : Section → List (List ℕ) → ℕ → List ℕ → Option Place
repeated_name section names i name = fault_if section i (is_earlier i (place_named name names))

abbrev pub first_repeat : Section → List (List ℕ) → Option Place
first_repeat section names = first_fault (repeated_name section names) 0 names

-- whether the links name the same consumer and the same supplier
abbrev pub is_same_link : RawLink → RawLink → Bool
is_same_link a b = bytes_eq a.consumer b.consumer && bytes_eq a.supplier b.supplier

abbrev pub repeated_link : List RawLink → ℕ → RawLink → Option Place
repeated_link links i row = fault_if Link i (is_earlier i (position (is_same_link row) links))

unfoldable pub repeat_fault : RawPlan → Option Place
repeat_fault raw =
    option_or (first_repeat Domain (domain_names raw))
    (option_or (first_repeat Device (device_names raw))
    (option_or (first_fault (repeated_link raw.links) 0 raw.links)
    (first_repeat Caller (caller_names raw))))

-- unknown: a name that isn't there
abbrev pub is_unknown : List (List ℕ) → List ℕ → Bool
is_unknown names name = is_none (place_named name names)

abbrev pub is_lost : List (List ℕ) → Option (List ℕ) → Bool
is_lost names name = option_map_or (is_unknown names) name false

abbrev pub domain_unknown : List (List ℕ) → ℕ → RawDomain → Option Place
domain_unknown domains i row = fault_if Domain i (is_lost domains row.parent)

abbrev pub device_unknown : List (List ℕ) → List (List ℕ) → ℕ → RawDevice → Option Place
device_unknown domains devices i row = fault_if Device i (is_lost devices row.parent || is_lost domains row.domain)

abbrev pub link_unknown : List (List ℕ) → ℕ → RawLink → Option Place
link_unknown devices i row = fault_if Link i (is_unknown devices row.consumer || is_unknown devices row.supplier)

unfoldable pub unknown_fault : RawPlan → Option Place
unknown_fault raw =
    option_or (first_fault (domain_unknown (domain_names raw)) 0 raw.domains)
    (option_or (first_fault (device_unknown (domain_names raw) (device_names raw)) 0 raw.devices)
    (first_fault (link_unknown (device_names raw)) 0 raw.links))

-- two names as one, from which both can be told
abbrev pub pair_name : List ℕ → List ℕ → List ℕ
pair_name [] supplier = 0 ∷ supplier
pair_name (c ∷ consumer) supplier = 1 ∷ c ∷ pair_name consumer supplier

abbrev pub link_names : RawPlan → List (List ℕ)
link_names raw = map (λ row. pair_name row.consumer row.supplier) raw.links

-- where there is no list of links' pairs of names, no two pairs are the same
abbrev pub ArePairsOf : List (List ℕ) → Option (List Pair) → Type 0
ArePairsOf names None = all_distinct names ≡ true
ArePairsOf names (Some pairs) = map (λ pair. pair.name) pairs ≡ names

-- the indexes are those of the plan's names
pub record AreNamesOf (raw : RawPlan) (names : Names) : Type 0 where
  pub domains : names_in names.domains ≡ domain_names raw
  pub devices : names_in names.devices ≡ device_names raw
  pub links : ArePairsOf (link_names raw) names.links
  pub callers : names_in names.callers ≡ caller_names raw
