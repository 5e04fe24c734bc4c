-- A domain that is on has its parent on, after every lawful list of lines.
use Rattle.std.proofs.Common.{ℕ, zero, suc, ◌≡◌, ◌+◌, ◌<◌, ◌≤◌, ◌⊎◌, inl, inr, Bool, true, false, ◌&&◌, List, [], ◌∷◌, Option, Some, None, length, nat_eq, slice_get, ap, refl, sym, ◌∙◌, arith}
use Rattle.std.specs.Prelude.{◌||◌}
use Rattle.std.specs.List.{list_any, enumerate_from}
use Rattle.std.specs.Option.{unwrap_or, option_map_or}
use Rattle.std.proofs.lemmas.Bool.{cases_lt}
use Rattle.std.proofs.lemmas.Option.{slice_get_past}
use Rattle.pm_base.specs.declared.DevId.{DevId}
use Rattle.pm_base.specs.declared.DomId.{DomId}
use Rattle.pm_model.specs.declared.event.Event.{Event}
use Rattle.pm_model.specs.declared.event.Event.TheVariants as event
use Rattle.pm_model.specs.declared.plan.Plan.{Plan}
use Rattle.pm_model.specs.declared.rows.DomainRow.{DomainRow}
use Rattle.pm_model.specs.Counted.{only_if, says_on}
use Rattle.pm_model.specs.Derived.{up, down}
use Rattle.pm_model.specs.History.{History}
use Rattle.pm_model.specs.Lawful.{IsLawful}
use Rattle.pm_model.specs.PlanRows.{domain, domains_of, domain_parent, chain, is_always_on, is_kept_on}
use Rattle.pm_model.specs.Views.{Views, is_on}
use Rattle.pm_model.specs.World.{start_views, world}
use Rattle.pm_laws.proofs.counts.Said.{start_switched}
use Rattle.pm_laws.proofs.safe.Lines.{line_kind}
use Rattle.pm_laws.proofs.safe.Chains.{among, domain_at, parent_less, closed, head_in, domain_within, in_up, of_up, down_went}
use Rattle.pm_laws.proofs.safe.Steps.{differ}

-- a domain that is on has its parent on, and one that is always on is on
pub record NestDomains (plan : Plan) (v : Views) : Type 0 where
  pub parents : (o : ℕ) (p : DomId) → is_on v o ≡ true → domain_parent plan.domains (domain_at o) ≡ Some p → is_on v p.0 ≡ true
  pub always : (o : ℕ) → is_always_on plan o ≡ true → is_on v o ≡ true

-- a domain that has a parent, or is always on, is one of the plan's
parent_within : (plan : Plan) (o : ℕ) (p : DomId) → domain_parent plan.domains (domain_at o) ≡ Some p → o < length plan.domains
parent_within plan o p e = elim (cases_lt o (length plan.domains)) [ inl lt ↦ lt | inr le ↦ absurd (past le) ]
  where
    past : length plan.domains ≤ o → ⊥
    past le = let k : None ≡ Some p = rw (slice_get_past plan.domains o le) at e in cc

always_within : (plan : Plan) (o : ℕ) → is_always_on plan o ≡ true → o < length plan.domains
always_within plan o e = elim (cases_lt o (length plan.domains)) [ inl lt ↦ lt | inr le ↦ absurd (past le) ]
  where
    past : length plan.domains ≤ o → ⊥
    past le = let k : false ≡ true = rw (slice_get_past plan.domains o le) at e in cc

above_within : (plan : Plan) (o : ℕ) (p : DomId) → domain_parent plan.domains (domain_at o) ≡ Some p → p.0 < length plan.domains
above_within plan o p e = let less = parent_less plan (domain_at o) p e in let within = parent_within plan o p e in omega arith

-- what each domain is after an event
abbrev IsOnAfter : Plan → Views → Event → Views → Type 0
IsOnAfter plan v e after = (o : ℕ) → o < length plan.domains → is_on after o ≡ unwrap_or (says_on plan v o e) (is_on v o)

-- the chain of a device's domains has with each domain the one above
chain_closed : (plan : Plan) (d : DevId) (x : ℕ) (p : DomId) → among x (domains_of plan d) ≡ true → domain_parent plan.domains (domain_at x) ≡ Some p
    → among p.0 (domains_of plan d) ≡ true
unfolding domains_of
chain_closed plan d x p has e = go (domain plan d) refl has
  where
    none : (n : ℕ) → among x (chain plan.domains n None) ≡ true → among p.0 (chain plan.domains n None) ≡ true
    none zero t = cc
    none (suc n) t = cc

    go : (o : Option DomId) → domain plan d ≡ o → among x (chain plan.domains (length plan.domains) o) ≡ true → among p.0 (chain plan.domains (length plan.domains) o) ≡ true
    go None is has = none (length plan.domains) has
    go (Some o) is has = closed plan (length plan.domains) o x p (domain_within plan d o is) has e

-- after domains went on, and after some went off
nests_up : (plan : Plan) (v after : Views) (d : DevId) (n : ℕ) → IsOnAfter plan v (event.Domain d true n) after → NestDomains plan v → NestDomains plan after
nests_up plan v after d n is nest = record {
  parents = λ o p on above. is p.0 (above_within plan o p above) ∙ stays p.0 (go o p (among o (up plan v d)) refl (sym (is o (parent_within plan o p above)) ∙ on) above);
  always = λ o always. is o (always_within plan o always) ∙ stays o (inr (nest.always o always));
}
  where
    stays : (o : ℕ) → (among o (up plan v d) ≡ true) ⊎ (is_on v o ≡ true) → unwrap_or (only_if (among o (up plan v d)) true) (is_on v o) ≡ true
    stays o (inl e) = rw e refl
    stays o (inr e) = rw e (still (among o (up plan v d)))
      where
        still : (b : Bool) → unwrap_or (only_if b true) true ≡ true
        still true = refl
        still false = refl

    either : (o : ℕ) (b : Bool) → is_on v o ≡ b → among o (domains_of plan d) ≡ true → (among o (up plan v d) ≡ true) ⊎ (is_on v o ≡ true)
    either o true e has = inr e
    either o false e has = inl (in_up plan v d o has e)

    go : (o : ℕ) (p : DomId) (b : Bool) → among o (up plan v d) ≡ b → unwrap_or (only_if b true) (is_on v o) ≡ true → domain_parent plan.domains (domain_at o) ≡ Some p
        → (among p.0 (up plan v d) ≡ true) ⊎ (is_on v p.0 ≡ true)
    go o p true e on above = either p.0 (is_on v p.0) refl (chain_closed plan d o p (of_up plan v d o e) above)
    go o p false e on above = inr (nest.parents o p on above)

nests_down : (plan : Plan) (v after : Views) (d : DevId) (n : ℕ) → IsOnAfter plan v (event.Domain d false n) after → NestDomains plan v → NestDomains plan after
nests_down plan v after d n is nest = record {
  parents = λ o p on above. is p.0 (above_within plan o p above) ∙ go o p (among o (down plan v d)) refl (sym (is o (parent_within plan o p above)) ∙ on) above (among p.0 (down plan v d)) refl;
  always = λ o always. is o (always_within plan o always) ∙ kept o (among o (down plan v d)) refl always;
}
  where
    kept : (o : ℕ) (b : Bool) → among o (down plan v d) ≡ b → is_always_on plan o ≡ true → unwrap_or (only_if b false) (is_on v o) ≡ true
    kept o true e always = differ always (down_went plan v d o e).sometimes
    kept o false e always = nest.always o always

    go : (o : ℕ) (p : DomId) (b : Bool) → among o (down plan v d) ≡ b → unwrap_or (only_if b false) (is_on v o) ≡ true → domain_parent plan.domains (domain_at o) ≡ Some p
        → (c : Bool) → among p.0 (down plan v d) ≡ c → unwrap_or (only_if c false) (is_on v p.0) ≡ true
    go o p true e on above c q = cc
    go o p false e on above false q = nest.parents o p on above
    go o p false e on above true q = elim ((down_went plan v d p.0 q).below o above) [ inl off ↦ differ on off | inr there ↦ differ there e ]

-- where the event switches no domain
nests_still : (plan : Plan) (v after : Views) (e : Event) → ((o : ℕ) → says_on plan v o e ≡ None) → IsOnAfter plan v e after → NestDomains plan v → NestDomains plan after
nests_still plan v after e silent is nest = record {
  parents = λ o p on above. same p.0 (above_within plan o p above) ∙ nest.parents o p (sym (same o (parent_within plan o p above)) ∙ on) above;
  always = λ o always. same o (always_within plan o always) ∙ nest.always o always;
}
  where
    same : (o : ℕ) → o < length plan.domains → is_on after o ≡ is_on v o
    same o lt = is o lt ∙ ap (λ s. unwrap_or s (is_on v o)) (silent o)

nests_event : (plan : Plan) (v after : Views) (e : Event) → IsOnAfter plan v e after → NestDomains plan v → NestDomains plan after
nests_event plan v after (event.Domain d true n) is nest = nests_up plan v after d n is nest
nests_event plan v after (event.Domain d false n) is nest = nests_down plan v after d n is nest
nests_event plan v after e is nest = nests_still plan v after e (λ o. refl) is nest

-- the domains before any line: those that are always on, and all above them
on_at_start : (plan : Plan) (o : ℕ) → o < length plan.domains → is_on (start_views plan) o ≡ is_kept_on plan.domains o
on_at_start plan o within = start_switched (is_kept_on plan.domains) plan.domains 0 o within ∙ ap (is_kept_on plan.domains) (let e : 0 + o ≡ o = omega arith in e)

abbrev keeps : List DomainRow → ℕ → ℕ × DomainRow → Bool
keeps rows i p = p.1.always_on && list_any (nat_eq i) (chain rows (length rows) (Some (domain_at p.0)))

or_rear : (x : Bool) {y : Bool} → y ≡ true → x || y ≡ true
or_rear true e = refl
or_rear false e = e

keeps_above : (plan : Plan) (o : ℕ) (p : DomId) → domain_parent plan.domains (domain_at o) ≡ Some p → (i : ℕ) (l : List DomainRow) → i + length l ≤ length plan.domains
    → list_any (keeps plan.domains o) (enumerate_from i l) ≡ true → list_any (keeps plan.domains p.0) (enumerate_from i l) ≡ true
keeps_above plan o p above i [] fits any = any
keeps_above plan o p above i (x ∷ l) fits any =
    go x.always_on _ _ any (closed plan (length plan.domains) (domain_at i) o p (let lt : i < length plan.domains = omega arith in lt)) (λ more. keeps_above plan o p above (i + 1) l (omega arith) more)
  where
    kept_by : Bool
    kept_by = among p.0 (chain plan.domains (length plan.domains) (Some (domain_at i)))

    go : (a b c : Bool) → (a && b) || c ≡ true → (b ≡ true → domain_parent plan.domains (domain_at o) ≡ Some p → kept_by ≡ true)
        → (c ≡ true → list_any (keeps plan.domains p.0) (enumerate_from (i + 1) l) ≡ true) → (a && kept_by) || list_any (keeps plan.domains p.0) (enumerate_from (i + 1) l) ≡ true
    go true true c e up rest = rw (up refl above) refl
    go true false c e up rest = or_rear kept_by (rest e)
    go false b c e up rest = rest e

keeps_always : (rows : List DomainRow) (o : ℕ) (i n : ℕ) (l : List DomainRow) → i + n ≡ o → o < length rows → option_map_or (λ row. row.always_on) (slice_get l n) false ≡ true
    → list_any (keeps rows o) (enumerate_from i l) ≡ true
keeps_always rows o i n [] same within e = cc
keeps_always rows o i zero (x ∷ l) same within e =
    let is : o ≡ i = omega arith in let k : among o (chain rows (length rows) (Some (domain_at o))) ≡ true = head_in rows (length rows) (domain_at o) within in
    rw (e, ← is, k) refl
keeps_always rows o i (suc n) (x ∷ l) same within e = or_rear _ (keeps_always rows o (i + 1) n l (omega arith) within e)

start_nests : (plan : Plan) → NestDomains plan (start_views plan)
start_nests plan = record {
  parents = λ o p on above.
      let within = parent_within plan o p above in
      let kept = sym (on_at_start plan o within) ∙ on in
      let below = parent_less plan (domain_at o) p above in
      on_at_start plan p.0 (omega arith) ∙ keeps_above plan o p above 0 plan.domains (omega arith) kept;
  always = λ o always. let within = always_within plan o always in on_at_start plan o within ∙ keeps_always plan.domains o 0 o plan.domains (omega arith) within always;
}

pub domains_nest : (plan : Plan) (h : History) → IsLawful plan h → NestDomains plan (world plan h).views
domains_nest plan [] lawful = start_nests plan
domains_nest plan (line ∷ h) lawful =
    let k = line_kind plan h line lawful in
    nests_event plan (world plan h).views (world plan (line ∷ h)).views line.event k.on (domains_nest plan h lawful.2)
