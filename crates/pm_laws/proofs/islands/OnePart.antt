-- An island has one part.
use Rattle.std.proofs.Common.{ℕ, ◌≡◌, true, List, refl, ap, subst}
use Rattle.std.proofs.Math.Bool.{Bool-set}
use Rattle.pm_model.specs.declared.plan.Plan.{Plan}
use Rattle.pm_model.specs.declared.rows.CallerRow.{CallerRow}
use Rattle.pm_model.specs.declared.rows.DeviceRow.{DeviceRow}
use Rattle.pm_model.specs.declared.rows.DomainRow.{DomainRow}
use Rattle.pm_model.specs.declared.rows.LinkRow.{LinkRow}
use Rattle.pm_model.specs.IsPlan.{is_plan}
use Rattle.pm_model.specs.Islands.{IsPart, Node}

-- all that is in a plan but its law
abbrev Contents : Type 0
Contents = ℕ × ℕ × List DomainRow × List DeviceRow × List LinkRow × List CallerRow

abbrev Law : Contents → Type 0
Law c = is_plan c.0 c.1 c.2 c.3 c.4 c.5 ≡ true

abbrev make : (c : Contents) → Law c → Plan
make c law = record { lines = c.0; trace = c.1; domains = c.2; devices = c.3; links = c.4; callers = c.5; law = law }

abbrev contents : Plan → Contents
contents plan = (plan.lines, plan.trace, plan.domains, plan.devices, plan.links, plan.callers)

same_plan : (c d : Contents) → c ≡ d → (p : Law c) (q : Law d) → make c p ≡ make d q
same_plan c d same p q =
    let P : Contents → Type 0 = λ e. (law : Law e) → make c p ≡ make e law in
    subst P same (λ law. ap (make c) (Bool-set _ _ p law)) q

pub one_part : (plan : Plan) (island : Node → ℕ) (n : ℕ) (a b : Plan) → IsPart plan island n a → IsPart plan island n b → a ≡ b
one_part plan island n a b p q = same_plan (contents a) (contents b) same a.law b.law
  where
    same : contents a ≡ contents b
    same = rw (p.lines, p.trace, p.domains, p.devices, p.links, p.callers, q.lines, q.trace, q.domains, q.devices, q.links, q.callers) refl
