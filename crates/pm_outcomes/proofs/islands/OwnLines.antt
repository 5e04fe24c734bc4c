-- What is lawful for the part of an island has the island's lines alone, and is lawful for the plan.
use Rattle.std.proofs.Common.{ℕ, ◌≡◌, ◌≤◌, Bool, true, false, List, [], ◌∷◌, nat_eq, length, refl, sym, subst, ◌∙◌, ap, arith}
use Rattle.std.specs.List.{list_all}
use Rattle.std.proofs.lemmas.Bool.{and_parts, eqb-true}
use Rattle.pm_base.specs.declared.ActorId.{ActorId}
use Rattle.pm_base.specs.declared.ActorId.TheVariants.{Caller, Work, Timer}
use Rattle.pm_laws.specs.islands.Apart.{IsInTime, OwnAreLawful, StandAlike}
use Rattle.pm_laws.proofs.islands.AlikeLists.{alike_get}
use Rattle.pm_laws.proofs.islands.Isles.{Labelled, callers_in, home, is_home, isle, only_own_scripts, part, part_is, same_scripts}
use Rattle.pm_laws.proofs.islands.OwnActors.{only_own}
use Rattle.pm_laws.proofs.islands.Region.{Island, is_actor_of}
use Rattle.pm_model.specs.declared.event.Line.{Line}
use Rattle.pm_model.specs.declared.plan.Plan.{Plan}
use Rattle.pm_model.specs.Islands.{IsLabelling, IsPart, Node, node_of, own}
use Rattle.pm_model.specs.Lawful.{IsLawful}
use Rattle.pm_model.specs.World.{world}

-- an island in its own plan
in_part : (plan : Plan) (p : Labelled plan) (i : ℕ) → Island (part p i)
in_part plan p i = record {
  region = record {
    inside = (isle p i).region.inside;
    domains = (isle p i).region.domains;
    parents = (isle p i).region.parents;
    attached = (isle p i).region.attached;
    above = (isle p i).region.above;
    linked = (isle p i).region.linked;
  };
  callers = (isle p i).callers;
  scripts = λ c row n command mine at is takes.
      (isle p i).scripts c row n command mine (sym (alike_get (isle p i).callers (callers_in p i) plan.callers c (same_scripts p i) mine) ∙ at) is takes;
}

-- the lines of a lawful list of a part are by the island's actors
all_home : (plan : Plan) (p : Labelled plan) (i : ℕ) (h : List Line) → IsLawful (part p i) h → list_all (λ x. nat_eq (home p x.actor) i) h ≡ true
unfolding in_part isle
all_home plan p i h lawful =
    let alone = only_own (part p i) (in_part plan p i) (λ c row out at. only_own_scripts p i c row out at) h lawful in
    go h alone.all
  where
    actor : (a : ActorId) → is_actor_of (in_part plan p i) a ≡ is_actor_of (isle p i) a
    actor (Caller c) = refl
    actor (Work d) = refl
    actor (Timer d) = refl

    go : (h : List Line) → list_all (λ x. is_actor_of (in_part plan p i) x.actor) h ≡ true → list_all (λ x. nat_eq (home p x.actor) i) h ≡ true
    go [] e = refl
    go (x ∷ h) e =
        let f = and_parts (is_actor_of (in_part plan p i) x.actor) _ e in
        let here : nat_eq (home p x.actor) i ≡ true = sym (is_home p i x.actor) ∙ sym (actor x.actor) ∙ f.0 in
        rw (here, go h f.1) refl

-- so these are the island's own lines, and another island has none
own_all : (island : Node → ℕ) (n : ℕ) (h : List Line) → list_all (λ x. nat_eq (island (node_of x.actor)) n) h ≡ true → own island n h ≡ h
own_all island n [] e = refl
own_all island n (x ∷ h) e = let f = and_parts (nat_eq (island (node_of x.actor)) n) _ e in rw f.0 (ap (λ l. x ∷ l) (own_all island n h f.1))

elsewhere : (a n m : ℕ) → nat_eq n m ≡ false → nat_eq a n ≡ true → nat_eq a m ≡ false
elsewhere a n m apart is = let same : a ≡ n = eqb-true a n is in subst (λ b. nat_eq b m ≡ false) (sym same) apart

own_none : (island : Node → ℕ) (n m : ℕ) (h : List Line) → nat_eq n m ≡ false → list_all (λ x. nat_eq (island (node_of x.actor)) n) h ≡ true → own island m h ≡ []
own_none island n m [] apart e = refl
own_none island n m (x ∷ h) apart e =
    let f = and_parts (nat_eq (island (node_of x.actor)) n) _ e in
    rw (elsewhere (island (node_of x.actor)) n m apart f.0) (own_none island n m h apart f.1)

-- its times don't fall, and it has no more lines than the plan allows
in_time : (q : Plan) (h : List Line) → IsLawful q h → IsInTime h
in_time q [] l = tt
in_time q (x ∷ h) l = (l.0.in_time, in_time q h l.2)

fits : (q : Plan) (h : List Line) → IsLawful q h → length h ≤ q.lines
fits q [] l = omega arith
fits q (x ∷ h) l = let room = l.1 in omega (arith, room)

is_own_part : (plan : Plan) (p : Labelled plan) (m : ℕ) → IsPart plan p.island m (part p m)
is_own_part plan p m = record { lines = refl; trace = refl; domains = refl; devices = refl; links = refl; callers = refl }

own_lawful : (plan : Plan) (p : Labelled plan) (n m : ℕ) (h : List Line) → IsLawful (part p n) h → list_all (λ x. nat_eq (p.island (node_of x.actor)) n) h ≡ true → IsLawful (part p m) (own p.island m h)
own_lawful plan p n m h lawful mine = go (nat_eq n m) refl
  where
    go : (b : Bool) → nat_eq n m ≡ b → IsLawful (part p m) (own p.island m h)
    go true e =
        let same : n ≡ m = eqb-true n m e in
        subst (λ k. IsLawful (part p k) (own p.island k h)) same (subst (λ l. IsLawful (part p n) l) (sym (own_all p.island n h mine)) lawful)
    go false e = subst (λ l. IsLawful (part p m) l) (sym (own_none p.island n m h e mine)) tt

pub alone : (plan : Plan) → OwnAreLawful plan → (island : Node → ℕ) (n : ℕ) (q : Plan) (h : List Line) → IsLabelling plan island → IsPart plan island n q → IsLawful q h
    → IsLawful plan h × StandAlike plan island n (world plan h) (world q h)
alone plan law island n q h shared is lawful =
    (both.0, subst (λ l. StandAlike plan island n (world plan h) (world q l)) (own_all island n h mine) (both.1 n q is))
  where
    p : Labelled plan
    p = record { island = island; shared = shared }

    there : IsLawful (part p n) h
    there = subst (λ r. IsLawful r h) (part_is p n q is) lawful

    mine : list_all (λ x. nat_eq (island (node_of x.actor)) n) h ≡ true
    mine = all_home plan p n h there

    room : length h ≤ plan.lines
    room = subst (λ m. length h ≤ m) is.lines (fits q h lawful)

    both : IsLawful plan h × ((m : ℕ) (r : Plan) → IsPart plan island m r → StandAlike plan island m (world plan h) (world r (own island m h)))
    both = law island h shared (in_time q h lawful) room (λ m. (part p m, is_own_part plan p m, own_lawful plan p n m h there mine))
