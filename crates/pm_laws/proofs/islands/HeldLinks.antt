-- Held links are runtime links.
use Rattle.std.proofs.Common.{ℕ, suc, ◌≡◌, Bool, true, false, List, [], ◌∷◌, Some, slice_index_or, refl}
use Rattle.std.specs.Prelude.{slice_get}
use Rattle.std.proofs.lemmas.Bool.{and_parts}
use Rattle.pm_model.specs.declared.plan.Plan.{Plan}
use Rattle.pm_model.specs.declared.rows.LinkRow.{LinkRow}
use Rattle.pm_model.specs.History.{History}
use Rattle.pm_model.specs.Lawful.{IsLawful}
use Rattle.pm_model.specs.Views.{is_present}
use Rattle.pm_model.specs.World.{world}
use Rattle.pm_laws.proofs.safe.Links.{links_hold}
use Rattle.pm_laws.proofs.islands.Region.{AreBound}

bound_by : (test : LinkRow → Bool) (rows : List LinkRow) (hs : List Bool)
    → ((l : ℕ) (row : LinkRow) → slice_get rows l ≡ Some row → slice_index_or hs l false ≡ true → row.pm_runtime ≡ true) → AreBound test rows hs
bound_by test [] hs each = tt
bound_by test (row ∷ rows) [] each = tt
bound_by test (row ∷ rows) (h ∷ hs) each = (λ own held. each 0 row refl held, bound_by test rows hs (λ l. each (suc l)))

pub bound_holds : (plan : Plan) (test : LinkRow → Bool) (h : History) → IsLawful plan h → AreBound test plan.links (world plan h).views.held
bound_holds plan test h lawful =
    bound_by test plan.links (world plan h).views.held
    (λ l row is held. (and_parts (is_present (world plan h).views l) row.pm_runtime ((links_hold plan h l row lawful is).runtime held)).1)
