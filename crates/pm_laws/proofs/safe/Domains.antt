-- Devices have their domains on, after every lawful list of lines.
use Rattle.std.proofs.Common.{ℕ, zero, suc, ◌≡◌, ◌+◌, ◌<◌, ◌≤◌, ◌⊎◌, inl, inr, Bool, true, false, not, ◌&&◌, List, [], ◌∷◌, Option, Some, None, length, nat_eq, slice_get, ap, refl, sym, ◌∙◌, arith, subst}
use Rattle.std.specs.Prelude.{◌||◌}
use Rattle.std.specs.List.{list_all, enumerate_from}
use Rattle.std.specs.Option.{unwrap_or, option_map_or}
use Rattle.std.proofs.lemmas.Bool.{cases_lt}
use Rattle.std.proofs.lemmas.Grind.{common_steps}
use Rattle.std.proofs.lemmas.Option.{slice_get_past}
use Rattle.pm_base.specs.declared.DevId.{DevId}
use Rattle.pm_base.specs.declared.DomId.{DomId}
use Rattle.pm_model.specs.declared.event.Event.{Event}
use Rattle.pm_model.specs.declared.event.Event.TheVariants as event
use Rattle.pm_model.specs.declared.event.Line.{Line}
use Rattle.pm_model.specs.declared.plan.Plan.{Plan}
use Rattle.pm_model.specs.declared.rows.DeviceRow.{DeviceRow}
use Rattle.pm_model.specs.Counted.{is_same, only_if, says_on}
use Rattle.pm_model.specs.Derived.{is_suspended, is_active_status, is_suspended_status, are_quiet, down, up}
use Rattle.pm_model.specs.Excuse.{becomes_active, is_excused_from_domain}
use Rattle.pm_model.specs.History.{History}
use Rattle.pm_model.specs.Lawful.{IsLawful}
use Rattle.pm_model.specs.PlanRows.{domain, has_domain, domain_parent, domains_of, chain}
use Rattle.pm_model.specs.Views.{Views, device, is_on}
use Rattle.pm_model.specs.World.{World, world}
use Rattle.pm_laws.specs.counts.Sums.{one, tally}
use Rattle.pm_laws.proofs.counts.Links.{both, eq_sym}
use Rattle.pm_laws.proofs.counts.Runs.{Holds, lawful_holds}
use Rattle.pm_laws.specs.safe.Parts.{Phase, lowering, giving, failed, falling, unsetting, at_part, passes}
use Rattle.pm_laws.specs.safe.Kinds.{Kind, lowers_domain, resumes_quiet, raises_domain, begins_at_once, forces_bare, forces_held, dev_of, from, to, turn, says, EventIs, Guard, lowers, lets_go}
use Rattle.pm_laws.specs.safe.LineKind.{HasKind}
use Rattle.pm_laws.proofs.safe.Lines.{line_kind}
use Rattle.pm_laws.specs.safe.Bonds.{DomainStays}
use Rattle.pm_laws.specs.safe.Needs.{needs_domain}
use Rattle.pm_laws.proofs.safe.Chains.{among, quiet_domain, domain_within, head_in, in_up, down_went}
use Rattle.pm_laws.proofs.safe.LinkRows.{some_row}
use Rattle.pm_laws.proofs.safe.Nests.{NestDomains, domains_nest}
use Rattle.pm_laws.proofs.safe.Steps.{differ, same_is, need, Least, least_at, IsNeed, least_own, sleeps, forced, owner_rests, need_now, need_then, start_need, needs_some}

pub domain_needs : IsNeed needs_domain
domain_needs = record { suspending = refl; ready = refl; resuming = refl; resumed = refl; lets_go = apart; falls = record { refuses = omega arith; unsets = omega arith } }
  where
    apart : (x : Phase) → lets_go x ≡ true → needs_domain x ≡ false
    apart giving e = refl
    apart falling e = refl
    apart unsetting e = refl
    apart _ e = cc

-- a device that has a domain is one of the plan's
device_within : (plan : Plan) (d : DevId) (o : DomId) → domain plan d ≡ Some o → d.0 < length plan.devices
unfolding domain
device_within plan d o e = elim (cases_lt d.0 (length plan.devices)) [ inl lt ↦ lt | inr le ↦ absurd (past le) ]
  where
    past : length plan.devices ≤ d.0 → ⊥
    past le = let k : None ≡ Some o = rw (slice_get_past plan.devices d.0 le) at e in cc

no_domain : (plan : Plan) (d : DevId) (o : DomId) → has_domain plan d ≡ false → domain plan d ≡ Some o → ⊥
unfolding has_domain
no_domain plan d o none is = let k : true ≡ false = rw is at none in cc

-- a device whose domain is off, and which isn't excused, doesn't begin to need it
domain_least : (plan : Plan) (v : Views) (c : DevId) (o : DomId) (k : Kind) (e : Event) → domain plan c ≡ Some o → EventIs k e → Guard plan v k
    → ((n : ℕ) → e ≡ event.Domain c true n → ⊥) → becomes_active c v e ≡ false → is_same c (dev_of k) ≡ true → Least needs_domain k (device v c).status
domain_least plan v c o (resumes_quiet d) e has is g raised unforced m = absurd (quiet_domain plan d o g.0 (subst (λ x. domain plan x ≡ Some o) (sym (same_is c d m)) has))
domain_least plan v c o (begins_at_once d) e has is g raised unforced m = absurd (no_domain plan d o g.1 (subst (λ x. domain plan x ≡ Some o) (sym (same_is c d m)) has))
domain_least plan v c o (raises_domain d n) e has is g raised unforced m = absurd (raised n (is ∙ ap (λ x. event.Domain x true n) (same_is c d m)))
domain_least plan v c o (forces_bare d) e has is g raised unforced m =
    let u : is_same c d && not (is_active_status (device v c).status) ≡ false = rw is at unforced in omega (arith, ap one (forced (is_same c d) (device v c).status u m))
domain_least plan v c o (forces_held d) e has is g raised unforced m =
    let u : is_same c d && not (is_active_status (device v c).status) ≡ false = rw is at unforced in omega (arith, ap one (forced (is_same c d) (device v c).status u m))
domain_least plan v c o k e has is g raised unforced m = least_own plan v needs_domain k c domain_needs g refl m

-- a line that lowers domains is its owner's, who needs them no longer
record Lowers (d : DevId) (k : Kind) : Type 0 where
  phase : Phase
  owner : from k ≡ Some phase
  dev : d ≡ dev_of k
  silent : turn k ≡ None
  light : passes needs_domain (to k) ≡ 0

lowers_light : (x y : Phase) → lowers x y ≡ true → one (needs_domain y) ≡ 0
lowers_light lowering giving e = refl
lowers_light failed falling e = refl
lowers_light _ _ e = cc

lowers_kind : (plan : Plan) (v : Views) (d : DevId) (n : ℕ) (k : Kind) → EventIs k (event.Domain d false n) → Guard plan v k → Lowers d k
lowers_kind plan v d n (lowers_domain x m f t) is g =
    let same : d ≡ x = cc in record { phase = f; owner = refl; dev = same; silent = refl; light = lowers_light f t g }
lowers_kind plan v d n _ is g = cc

-- a device of a domain that goes off is Suspended, but for the one that lowers it
each_of : (f : ℕ × DeviceRow → Bool) (i : ℕ) (l : List DeviceRow) (n : ℕ) (row : DeviceRow) → list_all f (enumerate_from i l) ≡ true → slice_get l n ≡ Some row → f (i + n, row) ≡ true
each_of f i [] n row all is = cc
each_of f i (x ∷ l) zero row all is = let same : x ≡ row = some_row x row is in let e : i ≡ i + 0 = omega arith in rw (← e, ← same) (both (f (i, x)) (list_all f (enumerate_from (i + 1) l)) all).0
each_of f i (x ∷ l) (suc n) row all is = let e : i + 1 + n ≡ i + suc n = omega arith in rw (← e) (each_of f (i + 1) l n row (both (f (i, x)) (list_all f (enumerate_from (i + 1) l)) all).1 is)

quiet_sleeps : (plan : Plan) (v : Views) (d c : DevId) (o : DomId) → are_quiet plan v d o.0 ≡ true → domain plan c ≡ Some o → (is_same d c ≡ true) ⊎ (is_suspended v c ≡ true)
unfolding domain
quiet_sleeps plan v d c o quiet is = go (slice_get plan.devices c.0) refl is
  where
    split : (a b s e : Bool) → b ≡ true → (a || not b) || (s && e) ≡ true → (a ≡ true) ⊎ (s ≡ true)
    split true b s e q k = inl refl
    split false true true e q k = inr refl
    split false true false e q k = cc
    split false false s e q k = cc

    self : (n : ℕ) → nat_eq n n ≡ true
    self n = grind (arith, common_steps)

    is_quiet : ℕ × DeviceRow → Bool
    is_quiet p = nat_eq p.0 d.0 || not (option_map_or (λ x. nat_eq x.0 o.0) p.1.domain false) || (is_suspended v (record { 0 = p.0 }) && nat_eq (device v (record { 0 = p.0 })).depth 0)

    go : (r : Option DeviceRow) → slice_get plan.devices c.0 ≡ r → option_map_or (λ row. row.domain) r None ≡ Some o → (is_same d c ≡ true) ⊎ (is_suspended v c ≡ true)
    go None at e = cc
    go (Some row) at e =
        let here : 0 + c.0 ≡ c.0 = omega arith in
        let attached : option_map_or (λ x. nat_eq x.0 o.0) row.domain false ≡ true = rw (e, self o.0) refl in
        split (nat_eq c.0 d.0) (option_map_or (λ x. nat_eq x.0 o.0) row.domain false) (is_suspended v c) (nat_eq (device v c).depth 0) attached
        (subst (λ n. is_quiet (n, row) ≡ true) here (each_of is_quiet 0 plan.devices c.0 row quiet at))

-- what took a domain off
record TookOff (plan : Plan) (v : Views) (e : Event) (o : ℕ) : Type 0 where
  d : DevId
  n : ℕ
  is : e ≡ event.Domain d false n
  gone : among o (down plan v d) ≡ true

took_off : (plan : Plan) (v : Views) (e : Event) (o : ℕ) → unwrap_or (says_on plan v o e) true ≡ false → TookOff plan v e o
took_off plan v (event.Domain d true n) o off = go (among o (up plan v d)) off
  where
    go : (b : Bool) → unwrap_or (only_if b true) true ≡ false → TookOff plan v (event.Domain d true n) o
    go true e = cc
    go false e = cc
took_off plan v (event.Domain d false n) o off = go (among o (down plan v d)) refl off
  where
    go : (b : Bool) → among o (down plan v d) ≡ b → unwrap_or (only_if b false) true ≡ false → TookOff plan v (event.Domain d false n) o
    go true is e = record { d = d; n = n; is = refl; gone = is }
    go false is e = cc
took_off plan v _ o off = cc

-- the domain of a device goes on with it
goes_up : (plan : Plan) (v : Views) (c : DevId) (o : DomId) → domain plan c ≡ Some o → among o.0 (domains_of plan c) ≡ true
unfolding domains_of
goes_up plan v c o is = rw is (head_in plan.domains (length plan.domains) o (domain_within plan c o is))

-- an excuse that lasts since a device was Suspended
pub unexcused : (s t x : Bool) → s ≡ false → not s && (t || x) ≡ false → (t ≡ false) × (x ≡ false)
unexcused true t x e f = cc
unexcused false true x e f = cc
unexcused false false x e f = (refl, f)

-- a device whose own domain is off, and which isn't excused, needs nothing of it
abbrev Stays : Plan → History → DevId → DomId → Type 0
Stays plan h c o = is_on (world plan h).views o.0 ≡ false → is_excused_from_domain plan h c ≡ false → need needs_domain (world plan h) c ≡ 0

stays_line : (plan : Plan) (h : History) (line : Line) (c : DevId) (o : DomId) → domain plan c ≡ Some o → IsLawful plan (line ∷ h) → Stays plan h c o → Stays plan (line ∷ h) c o
stays_line plan h line c o has lawful before off excuse = go (is_suspended now.views c) refl
  where
    now : World
    now = world plan (line ∷ h)

    v : Views
    v = (world plan h).views

    known : Holds plan (world plan h)
    known = lawful_holds plan h lawful.2

    k : HasKind plan h line
    k = line_kind plan h line lawful

    within : c.0 < length plan.devices
    within = device_within plan c o has

    on_now : is_on now.views o.0 ≡ unwrap_or (says_on plan v o.0 line.event) (is_on v o.0)
    on_now = k.on o.0 (domain_within plan c o has)

    Goal : Type 0
    Goal = need needs_domain now c ≡ 0

    -- the domain was off
    was_off : is_on v o.0 ≡ false → becomes_active c v line.event ≡ false → is_excused_from_domain plan h c ≡ false → Goal
    was_off b unforced ex =
        let none = before b ex in
        let was = need_then plan h line k needs_domain c in
        let le = least_at needs_domain k.kind c (device v c).status (tally (at_part needs_domain c) k.others) (domain_least plan v c o k.kind line.event has k.event k.guard raised unforced) in
        let now = need_now plan h line k needs_domain c domain_needs.falls within in omega arith
      where
        raised : (n : ℕ) → line.event ≡ event.Domain c true n → ⊥
        raised n is =
            let up_it : among o.0 (up plan v c) ≡ true = in_up plan v c o.0 (goes_up plan v c o has) b in
            let says_up : says_on plan v o.0 line.event ≡ Some true = rw (is, up_it) refl in
            differ (on_now ∙ ap (λ s. unwrap_or s (is_on v o.0)) says_up) off

    -- it goes off
    went_off : is_on v o.0 ≡ true → is_suspended now.views c ≡ false → Goal
    went_off b awake =
        elim (quiet_sleeps plan v t.d c o (down_went plan v t.d o.0 t.gone).quiet has) [
          | inl same ↦ owner_rests plan h line k needs_domain c l.phase known domain_needs.falls within l.owner (ap (is_same c) (sym l.dev) ∙ eq_sym t.d.0 c.0 ∙ same) l.silent l.light
          | inr slept ↦ differ (ap is_suspended_status (k.status c within ∙ silent) ∙ slept) awake
        ]
      where
        t : TookOff plan v line.event o.0
        t = took_off plan v line.event o.0 (ap (unwrap_or (says_on plan v o.0 line.event)) (sym b) ∙ sym on_now ∙ off)

        l : Lowers t.d k.kind
        l = lowers_kind plan v t.d t.n k.kind (subst (EventIs k.kind) t.is k.event) k.guard

        silent : unwrap_or (says k.kind c) (device v c).status ≡ (device v c).status
        silent = rw l.silent refl

    go : (b : Bool) → is_suspended now.views c ≡ b → Goal
    go true s = sleeps plan now c needs_domain (lawful_holds plan (line ∷ h) lawful) within s
    go false s = last (is_on v o.0) refl (unexcused (is_suspended now.views c) (becomes_active c v line.event) (is_excused_from_domain plan h c) s excuse)
      where
        last : (b : Bool) → is_on v o.0 ≡ b → (becomes_active c v line.event ≡ false) × (is_excused_from_domain plan h c ≡ false) → Goal
        last true b u = went_off b s
        last false b u = was_off b u.0 u.1

stays : (plan : Plan) (h : History) (c : DevId) (o : DomId) → domain plan c ≡ Some o → IsLawful plan h → Stays plan h c o
stays plan [] c o has lawful off excuse = start_need plan needs_domain c
stays plan (line ∷ h) c o has lawful off excuse = stays_line plan h line c o has lawful (stays plan h c o has lawful.2) off excuse

-- and all above it are on with it
chain_on : (plan : Plan) (v : Views) → NestDomains plan v → (n : ℕ) (o : DomId) → is_on v o.0 ≡ true → list_all (is_on v) (chain plan.domains n (Some o)) ≡ true
chain_on plan v nest zero o on = refl
chain_on plan v nest (suc n) o on = rw on (go _ refl (λ p. chain_on plan v nest n p))
  where
    none : (n : ℕ) → list_all (is_on v) (chain plan.domains n None) ≡ true
    none zero = refl
    none (suc n) = refl

    go : (q : Option DomId) → domain_parent plan.domains o ≡ q → ((p : DomId) → is_on v p.0 ≡ true → list_all (is_on v) (chain plan.domains n (Some p)) ≡ true)
        → list_all (is_on v) (chain plan.domains n q) ≡ true
    go None is below = none n
    go (Some p) is below = below p (nest.parents o.0 p on is)

pub domain_stays : (plan : Plan) (h : History) (d : DevId) → IsLawful plan h → DomainStays plan h d
unfolding domains_of
domain_stays plan h d lawful needs = go (domain plan d) refl
  where
    v : Views
    v = (world plan h).views

    Stood : Option DomId → Type 0
    Stood o = (list_all (is_on v) (chain plan.domains (length plan.domains) o) ≡ true) ⊎ (is_excused_from_domain plan h d ≡ true)

    none : (n : ℕ) → list_all (is_on v) (chain plan.domains n None) ≡ true
    none zero = refl
    none (suc n) = refl

    last : (o : DomId) → domain plan d ≡ Some o → (a b : Bool) → is_on v o.0 ≡ a → is_excused_from_domain plan h d ≡ b → Stood (Some o)
    last o is true b on ex = inl (chain_on plan v (domains_nest plan h lawful) (length plan.domains) o on)
    last o is false true on ex = inr ex
    last o is false false on ex = absurd (needs_some (world plan h) needs_domain d needs (stays plan h d o is lawful on ex))

    go : (o : Option DomId) → domain plan d ≡ o → Stood o
    go None is = inl (none (length plan.domains))
    go (Some o) is = last o is (is_on v o.0) (is_excused_from_domain plan h d) refl refl
