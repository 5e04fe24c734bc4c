-- Supplier stays, for one link, and what the bonds between devices say of a line (device_link.rst).
use Rattle.std.specs.Prelude.{ℕ, ◌≡◌, ◌<◌, ◌⊎◌, true, List, ◌∷◌}
use Rattle.pm_base.specs.declared.DevId.{DevId}
use Rattle.pm_model.specs.declared.event.Line.{Line}
use Rattle.pm_model.specs.declared.plan.Plan.{Plan}
use Rattle.pm_model.specs.Derived.{is_active}
use Rattle.pm_model.specs.Excuse.{forces, is_excused_from_supplier}
use Rattle.pm_model.specs.Views.{is_held}
use Rattle.pm_model.specs.World.{world}
use Rattle.pm_laws.specs.counts.Sums.{tally}
use Rattle.pm_laws.specs.counts.Owners.{places}
use Rattle.pm_laws.specs.safe.Needs.{needs_supplier, Needs}
use Rattle.pm_laws.specs.safe.Pends.{pends}

-- where link l is held and its consumer d needs it, its supplier s is Active, or excused, or its resume is open and not
-- done
abbrev pub Supplied : Plan → List Line → ℕ → DevId → DevId → Type 0
Supplied plan h l d s =
    is_held (world plan h).views l ≡ true → Needs (world plan h) needs_supplier d
    → (is_active (world plan h).views s ≡ true) ⊎ ((is_excused_from_supplier plan h d l s ≡ true) ⊎ (0 < tally (pends l) (places (world plan h))))

-- what the bonds between devices say of a line: what is needed after it was needed before it, where the link was held; and
-- a supplier stays Active, or is forced
pub record Bonds (plan : Plan) (h : List Line) (line : Line) (l : ℕ) (d s : DevId) : Type 0 where
  pub needed : is_held (world plan h).views l ≡ true → Needs (world plan (line ∷ h)) needs_supplier d → Needs (world plan h) needs_supplier d
  pub stays : is_held (world plan h).views l ≡ true → is_active (world plan h).views s ≡ true
      → (is_active (world plan (line ∷ h)).views s ≡ true) ⊎ (forces s line.event ≡ true)
