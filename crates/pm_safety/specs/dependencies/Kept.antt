-- What is kept of a run while its lines are gone through again (this project's own). Lists of lines have the newest line first.
use Rattle.std.specs.Prelude.{ℕ, List, Option, Some, length, map}
use Rattle.pm_device.specs.Children.{parents}
use Rattle.pm_model.specs.declared.plan.Plan.{Plan}
use Rattle.pm_model.specs.History.{History}
use Rattle.pm_safety.specs.declared.dependencies.past.Past.{Past}
use Rattle.pm_safety.specs.dependencies.Grouped.{AreGroups}
use Rattle.pm_safety.specs.dependencies.Past.{ArePasts, parent_excuse_by, past_at, supplier_excuse_by}
use Rattle.pm_book.specs.Replayed.{IsAfter, Replayed}
use Rattle.pm_safety.specs.dependencies.Told.{Excuses}

-- where the run stands, the past of each device, and of each device its children, its links as a consumer and those as a supplier
pub record Kept : Type 0 where
  pub replay : Replayed
  pub pasts : List Past
  pub children : List (List ℕ)
  pub from : List (List ℕ)
  pub to : List (List ℕ)

-- the consumer and the supplier of each link
abbrev pub consumers : Plan → List (Option ℕ)
consumers plan = map (λ row. Some row.consumer.0) plan.links

abbrev pub suppliers : Plan → List (Option ℕ)
suppliers plan = map (λ row. Some row.supplier.0) plan.links

-- it is kept of a run of the plan that has these lines
pub record IsKept (plan : Plan) (k : Kept) (h : History) : Type 0 where
  pub replay : IsAfter plan k.replay h
  pub pasts : ArePasts plan h k.pasts
  pub children : AreGroups (length plan.devices) (length (parents plan)) (parents plan) k.children
  pub from : AreGroups (length plan.devices) (length (consumers plan)) (consumers plan) k.from
  pub to : AreGroups (length plan.devices) (length (suppliers plan)) (suppliers plan) k.to

-- the excuses by the pasts
abbrev pub excuses_by : List Past → Excuses
excuses_by pasts = record {
  parent = λ d p. parent_excuse_by (past_at pasts d) (past_at pasts p);
  supplier = λ d s. supplier_excuse_by (past_at pasts d) (past_at pasts s);
}
