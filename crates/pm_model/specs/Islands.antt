-- The islands of a plan, which run apart, and how the lists of their lines are merged (this project's own).
use Rattle.std.specs.Prelude.{ℕ, suc, ◌≡◌, ◌<◌, Bool, true, false, ◌&&◌, ◌||◌, List, [], ◌∷◌, Option, Some, None, length, nat_eq, nat_lt, nat_le, slice_get, if◌then◌else◌}
use Rattle.std.specs.List.{filter, list_any}
use Rattle.std.specs.Option.{option_map_or}
use Rattle.pm_base.specs.declared.ActorId.{ActorId}
use Rattle.pm_base.specs.declared.ActorId.TheVariants.{Caller, Work, Timer}
use Rattle.pm_base.specs.declared.DevId.{DevId}
use Rattle.pm_base.specs.declared.DomId.{DomId}
use Rattle.pm_model.specs.declared.event.Command.{Command}
use Rattle.pm_model.specs.declared.event.Line.{Line}
use Rattle.pm_model.specs.declared.plan.Plan.{Plan}
use Rattle.pm_model.specs.declared.rows.CallerRow.{CallerRow}
use Rattle.pm_model.specs.PlanRows.{domain, domain_parent, parent}
use Rattle.pm_model.specs.Spelling.{takes_device}

-- a device, a domain or a caller, by its place
pub data Node : Type 0 where
  the_device the_domain the_caller : ℕ → Node

abbrev pub is_some_device : Option DevId → ℕ → Bool
is_some_device o d = option_map_or (λ x. nat_eq x.0 d) o false

abbrev pub is_some_domain : Option DomId → ℕ → Bool
is_some_domain o d = option_map_or (λ x. nat_eq x.0 d) o false

abbrev pub names_device : ℕ → Command → Bool
names_device d c = takes_device c.helper && nat_eq c.dev.0 d

-- two nodes touch: a device and its parent, the consumer and the supplier of a runtime link, present or not, a device and
-- its domain, a domain and its parent, and a caller and a device that a command of its script is for
abbrev pub touch : Plan → Node → Node → Bool
touch plan (the_device d) (the_device p) =
    is_some_device (parent plan (record { 0 = d })) p || list_any (λ row. row.pm_runtime && nat_eq row.consumer.0 d && nat_eq row.supplier.0 p) plan.links
touch plan (the_device d) (the_domain o) = is_some_domain (domain plan (record { 0 = d })) o
touch plan (the_domain o) (the_domain p) = is_some_domain (domain_parent plan.domains (record { 0 = o })) p
touch plan (the_caller c) (the_device d) = option_map_or (λ row. list_any (names_device d) row.script) (slice_get plan.callers c) false
touch plan _ _ = false

-- nodes are connected by touching ones, in either direction
pub data Connected (plan : Plan) : Node → Node → Type 0 where
  here : (a : Node) → Connected plan a a
  along : (a b c : Node) → touch plan a b ≡ true → Connected plan b c → Connected plan a c
  against : (a b c : Node) → touch plan b a ≡ true → Connected plan b c → Connected plan a c

-- devices come first, then callers, then domains, each by place
abbrev pub comes_before : Node → Node → Bool
comes_before (the_device d) (the_device e) = nat_lt d e
comes_before (the_caller c) (the_caller e) = nat_lt c e
comes_before (the_domain o) (the_domain p) = nat_lt o p
comes_before (the_device d) _ = true
comes_before (the_caller c) (the_domain o) = true
comes_before _ _ = false

-- numbers that touching nodes share
abbrev pub IsLabelling : Plan → (Node → ℕ) → Type 0
IsLabelling plan island = (a b : Node) → touch plan a b ≡ true → island a ≡ island b

-- the islands of a plan, so many: an island is all that is connected with one of the plan's callers. They are numbered by
-- their first nodes: those with a device by their least device, and then those without by their least caller. Where a
-- number isn't below the count, no caller is connected with the node
pub record Numbering (plan : Plan) (count : ℕ) : Type 0 where
  pub island : Node → ℕ
  pub shared : IsLabelling plan island
  pub finest : (a b : Node) → island a < count → island a ≡ island b → Connected plan a b
  pub callers : (c : ℕ) → c < length plan.callers → island (the_caller c) < count
  pub has_caller : (n : ℕ) → n < count → (c : ℕ) × (c < length plan.callers) × (island (the_caller c) ≡ n)
  pub first : ℕ → Node
  pub is_own : (n : ℕ) → n < count → island (first n) ≡ n
  pub is_least : (a : Node) → island a < count → comes_before a (first (island a)) ≡ false
  pub in_order : (m n : ℕ) → m < n → n < count → comes_before (first m) (first n) ≡ true

-- a work item and a timer are where their device is
abbrev pub node_of : ActorId → Node
node_of (Caller c) = the_caller c
node_of (Work d) = the_device d
node_of (Timer d) = the_device d

-- the island of an actor; none where no caller is connected with it
abbrev pub island_of : {plan : Plan} {count : ℕ} → Numbering plan count → ActorId → Option ℕ
island_of {plan} {count} numbering actor =
    let n = numbering.island (node_of actor) in
    if nat_lt n count then Some n else None

-- only these callers have their scripts
abbrev pub with_scripts : (ℕ → Bool) → List CallerRow → List CallerRow
with_scripts is_own [] = []
with_scripts is_own (row ∷ rows) = (if is_own 0 then row else record row { script = [] }) ∷ with_scripts (λ c. is_own (suc c)) rows

-- the part of island n: the plan with every script outside the island empty
pub record IsPart (plan : Plan) (island : Node → ℕ) (n : ℕ) (part : Plan) : Type 0 where
  pub lines : part.lines ≡ plan.lines
  pub trace : part.trace ≡ plan.trace
  pub domains : part.domains ≡ plan.domains
  pub devices : part.devices ≡ plan.devices
  pub links : part.links ≡ plan.links
  pub callers : part.callers ≡ with_scripts (λ c. nat_eq (island (the_caller c)) n) plan.callers

-- an island's own list: the lines by its actors
abbrev pub own : (Node → ℕ) → ℕ → List Line → List Line
own island n h = filter (λ line. nat_eq (island (node_of line.actor)) n) h

-- a line before the first that isn't earlier
abbrev pub put_in : Line → List Line → List Line
put_in x [] = x ∷ []
put_in x (y ∷ ys) = if nat_le x.time y.time then x ∷ y ∷ ys else y ∷ put_in x ys

abbrev pub merge_in : List Line → List Line → List Line
merge_in [] rest = rest
merge_in (x ∷ xs) rest = put_in x (merge_in xs rest)

-- lists in order, each with times that don't fall, merged by time; lines of one time by the place of their list, and then
-- by their place in it
abbrev pub merged : List (List Line) → List Line
merged [] = []
merged (lines ∷ lists) = merge_in lines (merged lists)
