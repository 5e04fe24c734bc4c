-- The rows of a plan tie the nodes that touch, and no others.
use Rattle.std.proofs.Common.{ℕ, zero, suc, ◌≡◌, ◌+◌, ◌<◌, Bool, true, false, ◌&&◌, List, [], ◌∷◌, Option, Some, None, length, nat_eq, nat_lt, slice_get, if◌then◌else◌, refl, sym, ap, subst, arith, inl, inr, ◌∙◌}
use Rattle.std.specs.Prelude.{option_and_then, option_map}
use Rattle.std.specs.List.{list_all, list_any}
use Rattle.std.specs.Option.{option_map_or}
use Rattle.std.proofs.lemmas.Bool.{and_parts, eqb-true, false≢true, lt-ltb, ltb-true, or_cases, or_left, or_right}
use Rattle.std.proofs.lemmas.Grind.{common_steps}
use Rattle.std.proofs.lemmas.Option.{cond_some, option_and_then_some, slice_get_within}
use Rattle.pm_base.specs.declared.DevId.{DevId}
use Rattle.pm_base.specs.declared.DomId.{DomId}
use Rattle.pm_model.specs.declared.event.Command.{Command}
use Rattle.pm_model.specs.declared.plan.Plan.{Plan}
use Rattle.pm_model.specs.declared.rows.CallerRow.{CallerRow}
use Rattle.pm_model.specs.declared.rows.DeviceRow.{DeviceRow}
use Rattle.pm_model.specs.declared.rows.DomainRow.{DomainRow}
use Rattle.pm_model.specs.declared.rows.LinkRow.{LinkRow}
use Rattle.pm_model.specs.IsPlan.{each_at, is_device, is_domain, is_link, is_operand, is_plan}
use Rattle.pm_model.specs.Islands.{Node, is_some_device, is_some_domain, names_device, the_caller, the_device, the_domain, touch}
use Rattle.pm_model.specs.PlanRows.{domain, parent}
use Rattle.pm_model.specs.Spelling.{operand_of, takes_device}
use Rattle.pm_laws.proofs.stacks.PlanLaw.{all_get, command_lawful, device_lawful}
use Rattle.pm_laws.proofs.stacks.Tests.{front, rear, same_self}
use Rattle.pm_islands.specs.declared.touching.Tie.{Tie}
use Rattle.pm_islands.specs.declared.touching.Tie.TheVariants.{OfCaller, OfDomains, ToDomain, ToParent, ToSupplier}
use Rattle.pm_islands.specs.Places.{has_node, place, rows, tied}

map_some : {A B P : Type 0} (f : A → B) (o : Option A) (y : B) → option_map f o ≡ Some y → ((x : A) → o ≡ Some x → f x ≡ y → P) → P
map_some f None y is gives = absurd (cc)
map_some f (Some x) y is gives = gives x refl (cc)

-- nodes of the plan that touch
pub record AreTied (plan : Plan) (a b : Node) : Type 0 where
  pub touches : touch plan a b ≡ true
  pub first : has_node plan a ≡ true
  pub second : has_node plan b ≡ true

in_list : {A : Type 0} (xs : List A) (n : ℕ) (x : A) → slice_get xs n ≡ Some x → nat_lt n (length xs) ≡ true
in_list xs n x at = lt-ltb n (length xs) (slice_get_within xs n x at)

less_in : (p n m : ℕ) → nat_lt p n ≡ true → nat_lt n m ≡ true → nat_lt p m ≡ true
less_in p n m less within = lt-ltb p m (omega (arith, ltb-true p n less, ltb-true n m within))

-- what the law says of a row
parent_earlier : (domains d : ℕ) (row : DeviceRow) → is_device domains d row ≡ true → option_map_or (λ p. nat_lt p.0 d) row.parent true ≡ true
parent_earlier domains d row law = grind (arith, common_steps)

domain_within : (domains d : ℕ) (row : DeviceRow) → is_device domains d row ≡ true → option_map_or (λ o. nat_lt o.0 domains) row.domain true ≡ true
domain_within domains d row law = grind (arith, common_steps)

lawful_links : (plan : Plan) → list_all (is_link plan.devices) plan.links ≡ true
lawful_links plan =
    let law : is_plan plan.lines plan.trace plan.domains plan.devices plan.links plan.callers ≡ true = plan.law in
    rear _ _ (front _ _ (front _ _ (front _ _ (front _ _ (front _ _ law)))))

lawful_domains : (plan : Plan) → each_at is_domain 0 plan.domains ≡ true
lawful_domains plan =
    let law : is_plan plan.lines plan.trace plan.domains plan.devices plan.links plan.callers ≡ true = plan.law in
    rear _ _ (front _ _ (front _ _ (front _ _ (front _ _ (front _ _ (front _ _ (front _ _ law)))))))

each_get : {A : Type 0} (test : ℕ → A → Bool) (i : ℕ) (rows : List A) (n : ℕ) (row : A) → each_at test i rows ≡ true → slice_get rows n ≡ Some row → test (i + n) row ≡ true
each_get test i [] n row all is = cc
each_get test i (x ∷ rows) zero row all is =
    let same : x ≡ row = cc in subst (λ k. test k row ≡ true) (omega arith) (subst (λ r. test i r ≡ true) same (front _ _ all))
each_get test i (x ∷ rows) (suc n) row all is = subst (λ k. test k row ≡ true) (omega arith) (each_get test (i + 1) rows n row (rear _ _ all) is)

domain_lawful : (plan : Plan) (n : ℕ) (row : DomainRow) → slice_get plan.domains n ≡ Some row → is_domain n row ≡ true
domain_lawful plan n row at = subst (λ k. is_domain k row ≡ true) (omega arith) (each_get is_domain 0 plan.domains n row (lawful_domains plan) at)

by_parent : (plan : Plan) (d : ℕ) (row : DeviceRow) (p : DevId) → slice_get plan.devices d ≡ Some row → row.parent ≡ Some p → AreTied plan (the_device d) (the_device p.0)
unfolding parent
by_parent plan d row p at has = record {
  touches = rw (at, has, same_self p.0) refl;
  first = in_list plan.devices d row at;
  second =
      less_in p.0 d (length plan.devices)
      (subst (λ o. option_map_or (λ x. nat_lt x.0 d) o true ≡ true) has (parent_earlier (length plan.domains) d row (device_lawful plan d row at)))
      (in_list plan.devices d row at);
}

-- the parent of a device stands earlier, and a device stands at its own place
pub earlier_parent : (plan : Plan) (d : ℕ) (p : Node × Node) → tied plan ToParent d ≡ Some p → (place plan p.0 ≡ d) × (place plan p.1 < d)
earlier_parent plan d p is =
    option_and_then_some _ (slice_get plan.devices d) p is (λ row at gives.
    map_some (λ q. (the_device d, the_device q.0)) row.parent p gives (λ q has same. (
      sym (ap (λ n. place plan n.0) same),
      subst (λ k. k < d) (ap (λ n. place plan n.1) same)
          (ltb-true q.0 d (subst (λ o. option_map_or (λ x. nat_lt x.0 d) o true ≡ true) has (parent_earlier (length plan.domains) d row (device_lawful plan d row at)))),
    )))

by_domain : (plan : Plan) (d : ℕ) (row : DeviceRow) (o : DomId) → slice_get plan.devices d ≡ Some row → row.domain ≡ Some o → AreTied plan (the_device d) (the_domain o.0)
unfolding domain
by_domain plan d row o at has = record {
  touches = rw (at, has, same_self o.0) refl;
  first = in_list plan.devices d row at;
  second = subst (λ x. option_map_or (λ y. nat_lt y.0 (length plan.domains)) x true ≡ true) has (domain_within (length plan.domains) d row (device_lawful plan d row at));
}

any_at : {A : Type 0} (p : A → Bool) (xs : List A) (n : ℕ) (x : A) → slice_get xs n ≡ Some x → p x ≡ true → list_any p xs ≡ true
any_at p [] n x is e = absurd (cc)
any_at p (y ∷ xs) zero x is e = let same : y ≡ x = cc in or_left (p y) (list_any p xs) (ap p same ∙ e)
any_at p (y ∷ xs) (suc n) x is e = or_right (p y) (list_any p xs) (any_at p xs n x is e)

by_link : (plan : Plan) (l : ℕ) (row : LinkRow) → slice_get plan.links l ≡ Some row → row.pm_runtime ≡ true
    → AreTied plan (the_device row.consumer.0) (the_device row.supplier.0)
by_link plan l row at runtime =
    let law = all_get (is_link plan.devices) plan.links l row (lawful_links plan) at in
    record {
      touches =
          or_right _ _ (any_at (λ r. r.pm_runtime && nat_eq r.consumer.0 row.consumer.0 && nat_eq r.supplier.0 row.supplier.0) plan.links l row at
          (rw (runtime, same_self row.consumer.0, same_self row.supplier.0) refl));
      first = front _ _ (front _ _ law);
      second = less_in row.supplier.0 row.consumer.0 (length plan.devices) (rear _ _ (front _ _ law)) (front _ _ (front _ _ law));
    }

by_domain_parent : (plan : Plan) (n : ℕ) (row : DomainRow) (p : DomId) → slice_get plan.domains n ≡ Some row → row.parent ≡ Some p → AreTied plan (the_domain n) (the_domain p.0)
by_domain_parent plan n row p at has = record {
  touches = rw (at, has, same_self p.0) refl;
  first = in_list plan.domains n row at;
  second =
      less_in p.0 n (length plan.domains)
      (subst (λ o. option_map_or (λ x. nat_lt x.0 n) o true ≡ true) has (rear _ _ (domain_lawful plan n row at)))
      (in_list plan.domains n row at);
}

by_script : (plan : Plan) (c i : ℕ) (row : CallerRow) (command : Command) → slice_get plan.callers c ≡ Some row → slice_get row.script i ≡ Some command
    → takes_device command.helper ≡ true → AreTied plan (the_caller c) (the_device command.dev.0)
by_script plan c i row command at its takes =
    let law : ((if takes_device command.helper then nat_lt command.dev.0 (length plan.devices) else nat_eq command.dev.0 0)
    && is_operand (length plan.devices) command.helper (operand_of command.helper) command.number) ≡ true = command_lawful plan c i row command at its in
    record {
      touches = rw at (any_at (names_device command.dev.0) row.script i command its (rw (takes, same_self command.dev.0) refl));
      first = in_list plan.callers c row at;
      second = subst (λ b. (if b then nat_lt command.dev.0 (length plan.devices) else nat_eq command.dev.0 0) ≡ true) takes (front _ _ law);
    }

-- what a row ties touches
pub ties_touch : (plan : Plan) (tie : Tie) (n : ℕ) (p : Node × Node) → tied plan tie n ≡ Some p → AreTied plan p.0 p.1
ties_touch plan ToParent n p is =
    option_and_then_some _ (slice_get plan.devices n) p is (λ row at gives.
    map_some _ row.parent p gives (λ x has same. subst (λ q. AreTied plan q.0 q.1) same (by_parent plan n row x at has)))
ties_touch plan ToDomain n p is =
    option_and_then_some _ (slice_get plan.devices n) p is (λ row at gives.
    map_some _ row.domain p gives (λ x has same. subst (λ q. AreTied plan q.0 q.1) same (by_domain plan n row x at has)))
ties_touch plan ToSupplier n p is =
    option_and_then_some _ (slice_get plan.links n) p is (λ row at gives.
    let runtime = cond_some row.pm_runtime (the_device row.consumer.0, the_device row.supplier.0) p gives in
    subst (λ q. AreTied plan q.0 q.1) runtime.1 (by_link plan n row at runtime.0))
ties_touch plan OfDomains n p is =
    option_and_then_some _ (slice_get plan.domains n) p is (λ row at gives.
    map_some _ row.parent p gives (λ x has same. subst (λ q. AreTied plan q.0 q.1) same (by_domain_parent plan n row x at has)))
ties_touch plan (OfCaller c) n p is =
    option_and_then_some _ (slice_get plan.callers c) p is (λ row at gives.
    option_and_then_some _ (slice_get row.script n) p gives (λ command its last.
    let takes = cond_some (takes_device command.helper) (the_caller c, the_device command.dev.0) p last in
    subst (λ q. AreTied plan q.0 q.1) takes.1 (by_script plan c n row command at its takes.0)))

-- a row that ties nodes is one of those that may
pub ties_within : (plan : Plan) (tie : Tie) (n : ℕ) (p : Node × Node) → tied plan tie n ≡ Some p → n < rows plan tie
ties_within plan ToParent n p is = option_and_then_some _ (slice_get plan.devices n) p is (λ row at gives. slice_get_within plan.devices n row at)
ties_within plan ToDomain n p is = option_and_then_some _ (slice_get plan.devices n) p is (λ row at gives. slice_get_within plan.devices n row at)
ties_within plan ToSupplier n p is = option_and_then_some _ (slice_get plan.links n) p is (λ row at gives. slice_get_within plan.links n row at)
ties_within plan OfDomains n p is = option_and_then_some _ (slice_get plan.domains n) p is (λ row at gives. slice_get_within plan.domains n row at)
ties_within plan (OfCaller c) n p is =
    option_and_then_some _ (slice_get plan.callers c) p is (λ row at gives.
    option_and_then_some _ (slice_get row.script n) p gives (λ command its last.
    subst (λ o. n < option_map_or (λ r. length r.script) o 0) (sym at) (slice_get_within row.script n command its)))

-- a row that ties them
pub record HasTie (plan : Plan) (a b : Node) : Type 0 where
  pub tie : Tie
  pub row : ℕ
  pub is : tied plan tie row ≡ Some (a, b)

-- one that passes the test
record Passes {A : Type 0} (p : A → Bool) (xs : List A) : Type 0 where
  pub place : ℕ
  pub one : A
  pub at : slice_get xs place ≡ Some one
  pub passes : p one ≡ true

one_passes : {A : Type 0} (p : A → Bool) (xs : List A) → list_any p xs ≡ true → Passes p xs
one_passes p [] any = absurd (false≢true any)
one_passes p (x ∷ xs) any =
    elim (or_cases (p x) (list_any p xs) any) [
      | inl is ↦ record { place = 0; one = x; at = refl; passes = is }
      | inr later ↦ let it = one_passes p xs later in record { place = suc it.place; one = it.one; at = it.at; passes = it.passes }
    ]

tie_of_device : (plan : Plan) (tie : Tie) (n d : ℕ) (a : Node) (o : Option DevId) → tied plan tie n ≡ option_map (λ p. (a, the_device p.0)) o → is_some_device o d ≡ true
    → HasTie plan a (the_device d)
tie_of_device plan tie n d a None is some = absurd (false≢true some)
tie_of_device plan tie n d a (Some p) is some = record { tie = tie; row = n; is = is ∙ ap (λ x. Some (a, the_device x)) (eqb-true p.0 d some) }

tie_of_domain : (plan : Plan) (tie : Tie) (n d : ℕ) (a : Node) (o : Option DomId) → tied plan tie n ≡ option_map (λ p. (a, the_domain p.0)) o → is_some_domain o d ≡ true
    → HasTie plan a (the_domain d)
tie_of_domain plan tie n d a None is some = absurd (false≢true some)
tie_of_domain plan tie n d a (Some p) is some = record { tie = tie; row = n; is = is ∙ ap (λ x. Some (a, the_domain x)) (eqb-true p.0 d some) }

to_parent : (plan : Plan) (d p : ℕ) (o : Option DeviceRow) → slice_get plan.devices d ≡ o → is_some_device (option_map_or (λ row. row.parent) o None) p ≡ true
    → HasTie plan (the_device d) (the_device p)
to_parent plan d p None at some = absurd (false≢true some)
to_parent plan d p (Some row) at some =
    tie_of_device plan ToParent d p (the_device d) row.parent (ap (λ o. option_and_then (λ r. option_map (λ x. (the_device d, the_device x.0)) r.parent) o) at) some

to_domain : (plan : Plan) (d p : ℕ) (o : Option DeviceRow) → slice_get plan.devices d ≡ o → is_some_domain (option_map_or (λ row. row.domain) o None) p ≡ true
    → HasTie plan (the_device d) (the_domain p)
to_domain plan d p None at some = absurd (false≢true some)
to_domain plan d p (Some row) at some =
    tie_of_domain plan ToDomain d p (the_device d) row.domain (ap (λ o. option_and_then (λ r. option_map (λ x. (the_device d, the_domain x.0)) r.domain) o) at) some

of_domains : (plan : Plan) (n p : ℕ) (o : Option DomainRow) → slice_get plan.domains n ≡ o → is_some_domain (option_and_then (λ row. row.parent) o) p ≡ true
    → HasTie plan (the_domain n) (the_domain p)
of_domains plan n p None at some = absurd (false≢true some)
of_domains plan n p (Some row) at some =
    tie_of_domain plan OfDomains n p (the_domain n) row.parent (ap (λ o. option_and_then (λ r. option_map (λ x. (the_domain n, the_domain x.0)) r.parent) o) at) some

two : {A : Type 0} (f : ℕ → ℕ → A) (a b c d : ℕ) → a ≡ c → b ≡ d → f a b ≡ f c d
two f a b c d x y = ap (λ n. f n b) x ∙ ap (λ n. f c n) y

to_supplier : (plan : Plan) (d s : ℕ) → list_any (λ row. row.pm_runtime && nat_eq row.consumer.0 d && nat_eq row.supplier.0 s) plan.links ≡ true
    → HasTie plan (the_device d) (the_device s)
to_supplier plan d s any =
    let it = one_passes (λ row. row.pm_runtime && nat_eq row.consumer.0 d && nat_eq row.supplier.0 s) plan.links any in
    let last = and_parts (it.one.pm_runtime && nat_eq it.one.consumer.0 d) (nat_eq it.one.supplier.0 s) it.passes in
    let start = and_parts it.one.pm_runtime (nat_eq it.one.consumer.0 d) last.0 in
    record {
      tie = ToSupplier;
      row = it.place;
      is =
          ap (λ o. option_and_then (λ row. if row.pm_runtime then Some (the_device row.consumer.0, the_device row.supplier.0) else None) o) it.at
          ∙ ap (λ b. if b then Some (the_device it.one.consumer.0, the_device it.one.supplier.0) else None) start.0
          ∙ two (λ x y. Some (the_device x, the_device y)) it.one.consumer.0 it.one.supplier.0 d s (eqb-true it.one.consumer.0 d start.1) (eqb-true it.one.supplier.0 s last.1);
    }

of_caller : (plan : Plan) (c d : ℕ) (o : Option CallerRow) → slice_get plan.callers c ≡ o → option_map_or (λ row. list_any (names_device d) row.script) o false ≡ true
    → HasTie plan (the_caller c) (the_device d)
of_caller plan c d None at any = absurd (false≢true any)
of_caller plan c d (Some row) at any =
    let it = one_passes (names_device d) row.script any in
    let named = and_parts (takes_device it.one.helper) (nat_eq it.one.dev.0 d) it.passes in
    record {
      tie = OfCaller c;
      row = it.place;
      is =
          ap (λ o. option_and_then (λ r. option_and_then (λ command. if takes_device command.helper then Some (the_caller c, the_device command.dev.0) else None) (slice_get r.script it.place)) o) at
          ∙ ap (λ o. option_and_then (λ command. if takes_device command.helper then Some (the_caller c, the_device command.dev.0) else None) o) it.at
          ∙ ap (λ b. if b then Some (the_caller c, the_device it.one.dev.0) else None) named.0
          ∙ ap (λ x. Some (the_caller c, the_device x)) (eqb-true it.one.dev.0 d named.1);
    }

-- some row ties what touches
pub has_tie : (plan : Plan) (a b : Node) → touch plan a b ≡ true → HasTie plan a b
unfolding parent domain
has_tie plan (the_device d) (the_device p) e =
    elim (or_cases _ _ e) [
      | inl is ↦ to_parent plan d p (slice_get plan.devices d) refl is
      | inr is ↦ to_supplier plan d p is
    ]
has_tie plan (the_device d) (the_domain o) e = to_domain plan d o (slice_get plan.devices d) refl e
has_tie plan (the_device d) (the_caller c) e = absurd (false≢true e)
has_tie plan (the_domain o) (the_device d) e = absurd (false≢true e)
has_tie plan (the_domain o) (the_domain p) e = of_domains plan o p (slice_get plan.domains o) refl e
has_tie plan (the_domain o) (the_caller c) e = absurd (false≢true e)
has_tie plan (the_caller c) (the_device d) e = of_caller plan c d (slice_get plan.callers c) refl e
has_tie plan (the_caller c) (the_domain o) e = absurd (false≢true e)
has_tie plan (the_caller c) (the_caller b) e = absurd (false≢true e)
