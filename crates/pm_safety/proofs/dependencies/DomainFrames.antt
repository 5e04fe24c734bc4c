-- The domains of a device that stays Active stay on.
use Rattle.std.proofs.Common.{ℕ, zero, suc, ◌≡◌, ◌+◌, ◌<◌, ◌⊎◌, inl, inr, Bool, true, false, not, ◌&&◌, List, [], ◌∷◌, Option, Some, None, length, nat_eq, slice_get, ap, refl, sym, ◌∙◌, arith, subst}
use Rattle.std.specs.Prelude.{◌||◌}
use Rattle.std.specs.List.{list_all, enumerate_from}
use Rattle.std.specs.Option.{unwrap_or, option_map_or}
use Rattle.pm_base.specs.declared.DevId.{DevId}
use Rattle.pm_base.specs.declared.DomId.{DomId}
use Rattle.pm_model.specs.declared.event.Event.{Event}
use Rattle.pm_model.specs.declared.event.Event.TheVariants as event
use Rattle.pm_model.specs.declared.event.Line.{Line}
use Rattle.pm_model.specs.declared.plan.Plan.{Plan}
use Rattle.pm_model.specs.declared.rows.DeviceRow.{DeviceRow}
use Rattle.pm_model.specs.Counted.{is_same, only_if, says_on}
use Rattle.pm_model.specs.Derived.{are_quiet, down, is_active, is_suspended}
use Rattle.pm_model.specs.Derived.{up as raised}
use Rattle.pm_model.specs.History.{History}
use Rattle.pm_model.specs.Lawful.{IsLawful}
use Rattle.pm_model.specs.PlanRows.{chain, domain, domain_parent, domains_of}
use Rattle.pm_model.specs.Views.{Views, device, is_on}
use Rattle.pm_model.specs.World.{world}
use Rattle.pm_laws.specs.counts.Sums.{tally}
use Rattle.pm_laws.proofs.counts.Links.{both}
use Rattle.pm_laws.proofs.counts.Runs.{lawful_holds}
use Rattle.pm_laws.specs.safe.Parts.{Phase, any_phase, at_part}
use Rattle.pm_laws.specs.safe.Kinds.{EventIs, Kind, dev_of, from, lowers_domain}
use Rattle.pm_laws.specs.safe.LineKind.{HasKind}
use Rattle.pm_laws.proofs.safe.Chains.{among, domain_within, down_went}
use Rattle.pm_laws.proofs.safe.LinkRows.{some_row}
use Rattle.pm_laws.proofs.safe.Lines.{line_kind}
use Rattle.pm_laws.proofs.safe.Nests.{NestDomains, domains_nest}
use Rattle.pm_laws.proofs.safe.Steps.{alone, differ, own_one, owned_at, same_is}
use Rattle.pm_laws.proofs.stacks.Tests.{same_self}
use Rattle.pm_safety.proofs.dependencies.PresentFrames.{active_awake}

-- a line that lowers domains is its owner's
record Owns (d : DevId) (k : Kind) : Type 0 where
  phase : Phase
  owner : from k ≡ Some phase
  dev : dev_of k ≡ d

lowers : (d : DevId) (n : ℕ) (k : Kind) → EventIs k (event.Domain d false n) → Owns d k
lowers d n (lowers_domain x m f t) is = let same : x ≡ d = cc in record { phase = f; owner = refl; dev = same }
lowers d n _ is = cc

-- who isn't Active
owner_inactive : (plan : Plan) (h : History) (line : Line) (d : DevId) (n : ℕ) → IsLawful plan (line ∷ h) → line.event ≡ event.Domain d false n → d.0 < length plan.devices
    → is_active (world plan h).views d ≡ false
owner_inactive plan h line d n lawful is within =
    let k : HasKind plan h line = line_kind plan h line lawful in
    let o : Owns d k.kind = lowers d n k.kind (subst (EventIs k.kind) is k.event) in
    let m : is_same d (dev_of k.kind) ≡ true = rw o.dev (same_self d.0) in
    let y : ℕ = tally (at_part any_phase d) k.others in
    (alone (device (world plan h).views d).status _ y y (own_one k.kind d o.phase o.owner m) (owned_at plan h line k d (lawful_holds plan h lawful.2) within) (omega arith)).inactive

-- a device of a domain that goes off is Suspended, but for the one that lowers it
each_of : (f : ℕ × DeviceRow → Bool) (i : ℕ) (l : List DeviceRow) (n : ℕ) (row : DeviceRow) → list_all f (enumerate_from i l) ≡ true → slice_get l n ≡ Some row → f (i + n, row) ≡ true
each_of f i [] n row all is = cc
each_of f i (x ∷ l) zero row all is = let same : x ≡ row = some_row x row is in let e : i ≡ i + 0 = omega arith in rw (← e, ← same) (both (f (i, x)) (list_all f (enumerate_from (i + 1) l)) all).0
each_of f i (x ∷ l) (suc n) row all is = let e : i + 1 + n ≡ i + suc n = omega arith in rw (← e) (each_of f (i + 1) l n row (both (f (i, x)) (list_all f (enumerate_from (i + 1) l)) all).1 is)

quiet_sleeps : (plan : Plan) (v : Views) (d c : DevId) (o : DomId) → are_quiet plan v d o.0 ≡ true → domain plan c ≡ Some o → (is_same d c ≡ true) ⊎ (is_suspended v c ≡ true)
unfolding domain
quiet_sleeps plan v d c o quiet is = go (slice_get plan.devices c.0) refl is
  where
    split : (a b s e : Bool) → b ≡ true → (a || not b) || (s && e) ≡ true → (a ≡ true) ⊎ (s ≡ true)
    split true b s e q k = inl refl
    split false true true e q k = inr refl
    split false true false e q k = cc
    split false false s e q k = cc

    is_quiet : ℕ × DeviceRow → Bool
    is_quiet p = nat_eq p.0 d.0 || not (option_map_or (λ x. nat_eq x.0 o.0) p.1.domain false) || (is_suspended v (record { 0 = p.0 }) && nat_eq (device v (record { 0 = p.0 })).depth 0)

    go : (r : Option DeviceRow) → slice_get plan.devices c.0 ≡ r → option_map_or (λ row. row.domain) r None ≡ Some o → (is_same d c ≡ true) ⊎ (is_suspended v c ≡ true)
    go None at e = cc
    go (Some row) at e =
        let here : 0 + c.0 ≡ c.0 = omega arith in
        let attached : option_map_or (λ x. nat_eq x.0 o.0) row.domain false ≡ true = rw (e, same_self o.0) refl in
        split (nat_eq c.0 d.0) (option_map_or (λ x. nat_eq x.0 o.0) row.domain false) (is_suspended v c) (nat_eq (device v c).depth 0) attached
        (subst (λ n. is_quiet (n, row) ≡ true) here (each_of is_quiet 0 plan.devices c.0 row quiet at))

-- the domain of a device that is Active doesn't go off
stays_on : (plan : Plan) (h : History) (line : Line) (c : DevId) (o : DomId) → domain plan c ≡ Some o → IsLawful plan (line ∷ h) → c.0 < length plan.devices
    → is_active (world plan h).views c ≡ true → (e : Event) → line.event ≡ e → is_on (world plan h).views o.0 ≡ true
    → unwrap_or (says_on plan (world plan h).views o.0 e) (is_on (world plan h).views o.0) ≡ true
stays_on plan h line c o has lawful within up (event.Domain d true n) is on = go (among o.0 (raised plan (world plan h).views d))
  where
    go : (b : Bool) → unwrap_or (only_if b true) (is_on (world plan h).views o.0) ≡ true
    go true = refl
    go false = on
stays_on plan h line c o has lawful within up (event.Domain d false n) is on = go (among o.0 (down plan v d)) refl
  where
    v : Views
    v = (world plan h).views

    go : (b : Bool) → among o.0 (down plan v d) ≡ b → unwrap_or (only_if b false) (is_on v o.0) ≡ true
    go true gone =
        absurd (elim (quiet_sleeps plan v d c o (down_went plan v d o.0 gone).quiet has) [
          | inl same ↦ differ up (owner_inactive plan h line c n lawful (is ∙ ap (λ x. event.Domain x false n) (sym (same_is d c same))) within)
          | inr slept ↦ active_awake (device v c).status up slept
        ])
    go false gone = on
stays_on plan h line c o has lawful within up e is on = on

-- all above a domain that is on are on
chain_on : (plan : Plan) (v : Views) → NestDomains plan v → (n : ℕ) (o : DomId) → is_on v o.0 ≡ true → list_all (is_on v) (chain plan.domains n (Some o)) ≡ true
chain_on plan v nest zero o on = refl
chain_on plan v nest (suc n) o on = rw on (go _ refl (λ p. chain_on plan v nest n p))
  where
    none : (n : ℕ) → list_all (is_on v) (chain plan.domains n None) ≡ true
    none zero = refl
    none (suc n) = refl

    go : (q : Option DomId) → domain_parent plan.domains o ≡ q → ((p : DomId) → is_on v p.0 ≡ true → list_all (is_on v) (chain plan.domains n (Some p)) ≡ true)
        → list_all (is_on v) (chain plan.domains n q) ≡ true
    go None is below = none n
    go (Some p) is below = below p (nest.parents o.0 p on is)

first_on : (plan : Plan) (v : Views) (n : ℕ) (o : DomId) → o.0 < n → list_all (is_on v) (chain plan.domains n (Some o)) ≡ true → is_on v o.0 ≡ true
first_on plan v zero o lt all = absurd (omega arith)
first_on plan v (suc n) o lt all = (both (is_on v o.0) (list_all (is_on v) (chain plan.domains n (domain_parent plan.domains o))) all).0

pub domain_frame : (plan : Plan) (h : History) (line : Line) (c : DevId) (o : DomId) → domain plan c ≡ Some o → IsLawful plan (line ∷ h) → c.0 < length plan.devices
    → is_active (world plan h).views c ≡ true → list_all (is_on (world plan h).views) (domains_of plan c) ≡ true
    → list_all (is_on (world plan (line ∷ h)).views) (domains_of plan c) ≡ true
unfolding domains_of
domain_frame plan h line c o has lawful within up all =
    let inside : o.0 < length plan.domains = domain_within plan c o has in
    let k : HasKind plan h line = line_kind plan h line lawful in
    let before : list_all (is_on (world plan h).views) (chain plan.domains (length plan.domains) (Some o)) ≡ true = rw has at all in
    let on : is_on (world plan h).views o.0 ≡ true = first_on plan (world plan h).views (length plan.domains) o inside before in
    let now : is_on (world plan (line ∷ h)).views o.0 ≡ true = k.on o.0 inside ∙ stays_on plan h line c o has lawful within up line.event refl on in
    rw has (chain_on plan (world plan (line ∷ h)).views (domains_nest plan (line ∷ h) lawful) (length plan.domains) o now)
