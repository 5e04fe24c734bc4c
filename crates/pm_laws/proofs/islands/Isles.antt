-- A labelling parts a plan into islands: what touches has one number, and an island's part is a plan with its callers' scripts.
use Rattle.std.proofs.Common.{ℕ, zero, suc, ◌≡◌, Bool, true, false, ◌&&◌, List, [], ◌∷◌, Some, map, length, nat_eq, if◌then◌else◌, refl, sym, subst, ◌∙◌, ap}
use Rattle.std.specs.Prelude.{slice_get}
use Rattle.std.specs.List.{list_all, list_any}
use Rattle.std.proofs.Math.Bool.{Bool-set}
use Rattle.std.proofs.lemmas.Bool.{or_left, or_right, and_parts, eqb-true, false≢true}
use mathlib.Core.HLevel.{is_prop→PathP}
use Rattle.pm_base.specs.declared.ActorId.{ActorId}
use Rattle.pm_base.specs.declared.ActorId.TheVariants.{Caller, Work, Timer}
use Rattle.pm_model.specs.declared.event.Line.{Line}
use Rattle.pm_model.specs.declared.plan.Plan.{Plan}
use Rattle.pm_model.specs.declared.rows.CallerRow.{CallerRow}
use Rattle.pm_model.specs.Islands.{IsLabelling, IsPart, Node, names_device, node_of, own, the_caller, the_device, the_domain, with_scripts}
use Rattle.pm_model.specs.IsPlan.{is_plan, is_caller, is_caller_name, is_script}
use Rattle.pm_model.specs.PlanRows.{parent, domain}
use Rattle.pm_laws.proofs.stacks.Tests.{front, rear, same_self}
use Rattle.pm_laws.proofs.islands.Region.{Alike, AreApart, Island, is_actor_of}

-- a plan's labelling
pub record Labelled (plan : Plan) : Type 0 where
  pub island : Node → ℕ
  pub shared : IsLabelling plan island

-- numbers that touching nodes share
pub any_at : {A : Type 0} (p : A → Bool) (xs : List A) (n : ℕ) (x : A) → slice_get xs n ≡ Some x → p x ≡ true → list_any p xs ≡ true
any_at p [] n x is e = absurd (cc)
any_at p (y ∷ xs) zero x is e = let same : y ≡ x = cc in or_left (p y) (list_any p xs) (ap p same ∙ e)
any_at p (y ∷ xs) (suc n) x is e = or_right (p y) (list_any p xs) (any_at p xs n x is e)

-- an island of the labelling
unfoldable pub isle : {plan : Plan} → Labelled plan → ℕ → Island plan
unfolding parent domain
isle {plan} p n = record {
  region = record {
    inside = λ i. nat_eq (p.island (the_device i)) n;
    domains = λ o. nat_eq (p.island (the_domain o)) n;
    parents = λ i row d at is. ap (λ m. nat_eq m n) (p.shared (the_device i) (the_device d.0) (rw (at, is, same_self d.0) refl));
    attached = λ i row o at is. ap (λ m. nat_eq m n) (p.shared (the_device i) (the_domain o.0) (rw (at, is, same_self o.0) refl));
    above = λ i row o at is. ap (λ m. nat_eq m n) (p.shared (the_domain i) (the_domain o.0) (rw (at, is, same_self o.0) refl));
    linked = λ l row at runtime.
        ap (λ m. nat_eq m n) (p.shared (the_device row.consumer.0) (the_device row.supplier.0)
        (or_right _ _ (any_at (λ r. r.pm_runtime && nat_eq r.consumer.0 row.consumer.0 && nat_eq r.supplier.0 row.supplier.0) plan.links l row at
        (rw (runtime, same_self row.consumer.0, same_self row.supplier.0) refl))));
  };
  callers = λ c. nat_eq (p.island (the_caller c)) n;
  scripts = λ c row i command its at is takes.
      sym (ap (λ m. nat_eq m n) (p.shared (the_caller c) (the_device command.dev.0)
      (rw at (any_at (names_device command.dev.0) row.script i command is (rw (takes, same_self command.dev.0) refl))))) ∙ its;
}

abbrev pub home : {plan : Plan} → Labelled plan → ActorId → ℕ
home p a = p.island (node_of a)

-- an actor is of its home alone
pub is_home : {plan : Plan} (p : Labelled plan) (n : ℕ) (a : ActorId) → is_actor_of (isle p n) a ≡ nat_eq (home p a) n
unfolding isle
is_home p n (Caller c) = refl
is_home p n (Work d) = refl
is_home p n (Timer d) = refl

pub at_home : {plan : Plan} (p : Labelled plan) (a : ActorId) → is_actor_of (isle p (home p a)) a ≡ true
at_home p a = is_home p (home p a) a ∙ same_self (home p a)

other : (x i j : ℕ) → nat_eq i j ≡ false → nat_eq x i ≡ true → nat_eq x j ≡ false
other x i j apart e = subst (λ n. nat_eq n j ≡ false) (sym (eqb-true x i e)) apart

pub are_apart : {plan : Plan} (p : Labelled plan) (i j : ℕ) → nat_eq i j ≡ false → AreApart plan (isle p i) (isle p j)
unfolding isle
are_apart p i j apart = record {
  regions = record { devices = λ d e. other (p.island (the_device d)) i j apart e; domains = λ o e. other (p.island (the_domain o)) i j apart e };
  callers = λ c e. other (p.island (the_caller c)) i j apart e;
}

-- the part is a plan still
pub same_length : (is_own : ℕ → Bool) (rows : List CallerRow) → length (with_scripts is_own rows) ≡ length rows
same_length is_own [] = refl
same_length is_own (row ∷ rows) = ap suc (same_length (λ n. is_own (suc n)) rows)

same_names : (is_own : ℕ → Bool) (rows : List CallerRow) → map (λ row. row.name) (with_scripts is_own rows) ≡ map (λ row. row.name) rows
same_names is_own [] = refl
same_names is_own (row ∷ rows) = rw (named (is_own 0), same_names (λ n. is_own (suc n)) rows) refl
  where
    named : (b : Bool) → (if b then row else record row { script = [] }).name ≡ row.name
    named true = refl
    named false = refl

still_callers : (devices : ℕ) (is_own : ℕ → Bool) (rows : List CallerRow) → list_all (is_caller devices) rows ≡ true
    → list_all (is_caller devices) (with_scripts is_own rows) ≡ true
still_callers devices is_own [] all = refl
still_callers devices is_own (row ∷ rows) all =
    let h = and_parts _ _ all in rw (one (is_own 0) h.0, still_callers devices (λ n. is_own (suc n)) rows h.1) refl
  where
    one : (b : Bool) → is_caller devices row ≡ true → is_caller devices (if b then row else record row { script = [] }) ≡ true
    one true e = e
    one false e = rw (and_parts (is_caller_name row.name) (is_script devices row.script) e).0 refl

callers_of : (plan : Plan) → is_plan plan.lines plan.trace plan.domains plan.devices plan.links plan.callers ≡ true → list_all (is_caller (length plan.devices)) plan.callers ≡ true
callers_of plan law = search (front, rear) depth 40

still_plan : (plan : Plan) (is_own : ℕ → Bool) → is_plan plan.lines plan.trace plan.domains plan.devices plan.links (with_scripts is_own plan.callers) ≡ true
still_plan plan is_own =
    let old = callers_of plan plan.law in
    let same : list_all (is_caller (length plan.devices)) (with_scripts is_own plan.callers) ≡ list_all (is_caller (length plan.devices)) plan.callers =
    still_callers (length plan.devices) is_own plan.callers old ∙ sym old in
    rw (same_length is_own plan.callers, same_names is_own plan.callers, same) plan.law

abbrev pub callers_in : {plan : Plan} → Labelled plan → ℕ → List CallerRow
callers_in {plan} p n = with_scripts (λ c. nat_eq (p.island (the_caller c)) n) plan.callers

pub law_in : {plan : Plan} (p : Labelled plan) (n : ℕ) → is_plan plan.lines plan.trace plan.domains plan.devices plan.links (callers_in p n) ≡ true
law_in {plan} p n = still_plan plan (λ c. nat_eq (p.island (the_caller c)) n)

abbrev pub part : {plan : Plan} → Labelled plan → ℕ → Plan
part {plan} p n = record plan { callers = callers_in p n; law = law_in p n }

-- each part of the island is this one
pub part_is : {plan : Plan} (p : Labelled plan) (n : ℕ) (q : Plan) → IsPart plan p.island n q → q ≡ part p n
part_is {plan} p n q e = λ j. record {
  lines = e.lines j;
  trace = e.trace j;
  domains = e.domains j;
  devices = e.devices j;
  links = e.links j;
  callers = e.callers j;
  law = is_prop→PathP (λ j. is_plan (e.lines j) (e.trace j) (e.domains j) (e.devices j) (e.links j) (e.callers j) ≡ true) (λ j. Bool-set _ _) q.law (law_in p n) j;
}

scripts_alike : (is_own : ℕ → Bool) (rows : List CallerRow) → Alike is_own (with_scripts is_own rows) rows
scripts_alike is_own [] = tt
scripts_alike is_own (row ∷ rows) = (λ e. rw e refl, scripts_alike (λ n. is_own (suc n)) rows)

pub same_scripts : {plan : Plan} (p : Labelled plan) (n : ℕ) → Alike (isle p n).callers (callers_in p n) plan.callers
unfolding isle
same_scripts {plan} p n = scripts_alike (λ c. nat_eq (p.island (the_caller c)) n) plan.callers

-- outside an island no caller of its part has a script
others_none : (is_own : ℕ → Bool) (rows : List CallerRow) (c : ℕ) (row : CallerRow) → is_own c ≡ false → slice_get (with_scripts is_own rows) c ≡ Some row → row.script ≡ []
others_none is_own [] c row out is = absurd (cc)
others_none is_own (x ∷ rows) zero row out is = go (is_own 0) out is
  where
    go : (b : Bool) → b ≡ false → Some (if b then x else record x { script = [] }) ≡ Some row → row.script ≡ []
    go true e is = absurd (false≢true (sym e))
    go false e is = let same : record x { script = [] } ≡ row = cc in ap (λ y. y.script) (sym same)
others_none is_own (x ∷ rows) (suc c) row out is = others_none (λ n. is_own (suc n)) rows c row out is

pub only_own_scripts : {plan : Plan} (p : Labelled plan) (n c : ℕ) (row : CallerRow) → nat_eq (p.island (the_caller c)) n ≡ false
    → slice_get (callers_in p n) c ≡ Some row → row.script ≡ []
only_own_scripts {plan} p n c row out at = others_none (λ c. nat_eq (p.island (the_caller c)) n) plan.callers c row out at

-- an island's own lines
abbrev pub own_of : {plan : Plan} → Labelled plan → ℕ → List Line → List Line
own_of p n h = own p.island n h
