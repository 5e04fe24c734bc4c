-- Numbers that each row of a plan keeps are numbers that touching nodes share.
use Rattle.std.proofs.Common.{ℕ, zero, suc, ◌≡◌, ◌∙◌, ◌+◌, Bool, true, false, not, ◌&&◌, ◌||◌, List, [], ◌∷◌, Option, Some, None, nat_eq, refl, sym, ap, subst, inl, inr, arith}
use Rattle.std.specs.Prelude.{slice_get, option_and_then}
use Rattle.std.specs.List.{list_all, list_any}
use Rattle.std.specs.Option.{option_map_or}
use Rattle.std.proofs.lemmas.Bool.{and_parts, eqb-true, false≢true, or_cases}
use Rattle.pm_base.specs.declared.DevId.{DevId}
use Rattle.pm_base.specs.declared.DomId.{DomId}
use Rattle.pm_model.specs.declared.event.Command.{Command}
use Rattle.pm_model.specs.declared.plan.Plan.{Plan}
use Rattle.pm_model.specs.declared.rows.CallerRow.{CallerRow}
use Rattle.pm_model.specs.declared.rows.DeviceRow.{DeviceRow}
use Rattle.pm_model.specs.declared.rows.DomainRow.{DomainRow}
use Rattle.pm_model.specs.declared.rows.LinkRow.{LinkRow}
use Rattle.pm_model.specs.IsPlan.{each_at}
use Rattle.pm_model.specs.Islands.{IsLabelling, Node, is_some_device, is_some_domain, names_device, the_caller, the_device, the_domain}
use Rattle.pm_model.specs.PlanRows.{domain, parent}
use Rattle.pm_model.specs.Spelling.{takes_device}

-- both nodes have one number, where there is another
abbrev device_shares : (Node → ℕ) → Node → Option DevId → Bool
device_shares f a o = option_map_or (λ p. nat_eq (f a) (f (the_device p.0))) o true

abbrev domain_shares : (Node → ℕ) → Node → Option DomId → Bool
domain_shares f a o = option_map_or (λ p. nat_eq (f a) (f (the_domain p.0))) o true

abbrev device_keeps : (Node → ℕ) → ℕ → DeviceRow → Bool
device_keeps f d row = device_shares f (the_device d) row.parent && domain_shares f (the_device d) row.domain

abbrev domain_keeps : (Node → ℕ) → ℕ → DomainRow → Bool
domain_keeps f o row = domain_shares f (the_domain o) row.parent

abbrev link_keeps : (Node → ℕ) → LinkRow → Bool
link_keeps f row = not row.pm_runtime || nat_eq (f (the_device row.consumer.0)) (f (the_device row.supplier.0))

abbrev command_keeps : (Node → ℕ) → ℕ → Command → Bool
command_keeps f c command = not (takes_device command.helper) || nat_eq (f (the_caller c)) (f (the_device command.dev.0))

abbrev caller_keeps : (Node → ℕ) → ℕ → CallerRow → Bool
caller_keeps f c row = list_all (command_keeps f c) row.script

pub record RowsKeep (plan : Plan) (f : Node → ℕ) : Type 0 where
  pub devices : each_at (device_keeps f) 0 plan.devices ≡ true
  pub domains : each_at (domain_keeps f) 0 plan.domains ≡ true
  pub links : list_all (link_keeps f) plan.links ≡ true
  pub callers : each_at (caller_keeps f) 0 plan.callers ≡ true

each_row :
    {A : Type 0} (test : ℕ → A → Bool) (i n : ℕ) (rows : List A) (row : A)
    → each_at test i rows ≡ true → slice_get rows n ≡ Some row → test (i + n) row ≡ true
each_row test i n [] row all is = cc
each_row test i zero (x ∷ rows) row all is =
    let same : x ≡ row = cc in
    subst (λ k. test k row ≡ true) (omega arith)
    (subst (λ r. test i r ≡ true) same (and_parts (test i x) (each_at test (i + 1) rows) all).0)
each_row test i (suc n) (x ∷ rows) row all is =
    subst (λ k. test k row ≡ true) (omega arith)
    (each_row test (i + 1) n rows row (and_parts (test i x) (each_at test (i + 1) rows) all).1 is)

row_at : {A : Type 0} (test : ℕ → A → Bool) (n : ℕ) (rows : List A) (row : A) → each_at test 0 rows ≡ true → slice_get rows n ≡ Some row → test n row ≡ true
row_at test n rows row all is = subst (λ k. test k row ≡ true) (omega arith) (each_row test 0 n rows row all is)

-- one passes the first test and all the second, so one passes both
one_of :
    {A : Type 0} (p q : A → Bool) (P : Type 0) → ((x : A) → p x ≡ true → q x ≡ true → P)
    → (xs : List A) → list_any p xs ≡ true → list_all q xs ≡ true → P
one_of p q P both [] any all = absurd (false≢true any)
one_of p q P both (x ∷ xs) any all =
    let kept = and_parts (q x) (list_all q xs) all in
    elim (or_cases (p x) (list_any p xs) any) [
      | inl is ↦ both x is kept.0
      | inr later ↦ one_of p q P both xs later kept.1
    ]

sure : (a b : Bool) → a ≡ true → (not a || b) ≡ true → b ≡ true
sure true b e either = either
sure false b e either = absurd (false≢true e)

shared_device : (f : Node → ℕ) (a : Node) (p : ℕ) (o : Option DevId) → device_shares f a o ≡ true → is_some_device o p ≡ true → f a ≡ f (the_device p)
shared_device f a p None shares is = absurd (false≢true is)
shared_device f a p (Some x) shares is =
    eqb-true (f a) (f (the_device x.0)) shares ∙ ap (λ n. f (the_device n)) (eqb-true x.0 p is)

shared_domain : (f : Node → ℕ) (a : Node) (p : ℕ) (o : Option DomId) → domain_shares f a o ≡ true → is_some_domain o p ≡ true → f a ≡ f (the_domain p)
shared_domain f a p None shares is = absurd (false≢true is)
shared_domain f a p (Some x) shares is =
    eqb-true (f a) (f (the_domain x.0)) shares ∙ ap (λ n. f (the_domain n)) (eqb-true x.0 p is)

by_parent :
    (f : Node → ℕ) (rows : List DeviceRow) (d p : ℕ) → each_at (device_keeps f) 0 rows ≡ true → (o : Option DeviceRow)
    → slice_get rows d ≡ o → is_some_device (option_map_or (λ row. row.parent) o None) p ≡ true → f (the_device d) ≡ f (the_device p)
by_parent f rows d p all None at is = absurd (false≢true is)
by_parent f rows d p all (Some row) at is =
    shared_device f (the_device d) p row.parent
    (and_parts (device_shares f (the_device d) row.parent) (domain_shares f (the_device d) row.domain)
    (row_at (device_keeps f) d rows row all at)).0 is

by_domain :
    (f : Node → ℕ) (rows : List DeviceRow) (d p : ℕ) → each_at (device_keeps f) 0 rows ≡ true → (o : Option DeviceRow)
    → slice_get rows d ≡ o → is_some_domain (option_map_or (λ row. row.domain) o None) p ≡ true → f (the_device d) ≡ f (the_domain p)
by_domain f rows d p all None at is = absurd (false≢true is)
by_domain f rows d p all (Some row) at is =
    shared_domain f (the_device d) p row.domain
    (and_parts (device_shares f (the_device d) row.parent) (domain_shares f (the_device d) row.domain)
    (row_at (device_keeps f) d rows row all at)).1 is

by_domain_parent :
    (f : Node → ℕ) (rows : List DomainRow) (d p : ℕ) → each_at (domain_keeps f) 0 rows ≡ true → (o : Option DomainRow)
    → slice_get rows d ≡ o → is_some_domain (option_and_then (λ row. row.parent) o) p ≡ true → f (the_domain d) ≡ f (the_domain p)
by_domain_parent f rows d p all None at is = absurd (false≢true is)
by_domain_parent f rows d p all (Some row) at is =
    shared_domain f (the_domain d) p row.parent (row_at (domain_keeps f) d rows row all at) is

by_link :
    (f : Node → ℕ) (d p : ℕ) (row : LinkRow) → (row.pm_runtime && nat_eq row.consumer.0 d && nat_eq row.supplier.0 p) ≡ true
    → link_keeps f row ≡ true → f (the_device d) ≡ f (the_device p)
by_link f d p row is keeps =
    let first = and_parts (row.pm_runtime && nat_eq row.consumer.0 d) (nat_eq row.supplier.0 p) is in
    let second = and_parts row.pm_runtime (nat_eq row.consumer.0 d) first.0 in
    let same = sure row.pm_runtime _ second.0 keeps in
    sym (ap (λ n. f (the_device n)) (eqb-true row.consumer.0 d second.1))
    ∙ eqb-true (f (the_device row.consumer.0)) (f (the_device row.supplier.0)) same
    ∙ ap (λ n. f (the_device n)) (eqb-true row.supplier.0 p first.1)

by_command :
    (f : Node → ℕ) (c d : ℕ) (command : Command) → names_device d command ≡ true → command_keeps f c command ≡ true
    → f (the_caller c) ≡ f (the_device d)
by_command f c d command is keeps =
    let named = and_parts (takes_device command.helper) (nat_eq command.dev.0 d) is in
    let same = sure (takes_device command.helper) _ named.0 keeps in
    eqb-true (f (the_caller c)) (f (the_device command.dev.0)) same ∙ ap (λ n. f (the_device n)) (eqb-true command.dev.0 d named.1)

by_script :
    (f : Node → ℕ) (rows : List CallerRow) (c d : ℕ) → each_at (caller_keeps f) 0 rows ≡ true → (o : Option CallerRow)
    → slice_get rows c ≡ o → option_map_or (λ row. list_any (names_device d) row.script) o false ≡ true → f (the_caller c) ≡ f (the_device d)
by_script f rows c d all None at is = absurd (false≢true is)
by_script f rows c d all (Some row) at is =
    one_of (names_device d) (command_keeps f c) (f (the_caller c) ≡ f (the_device d)) (by_command f c d) row.script is
    (row_at (caller_keeps f) c rows row all at)

pub rows_share : (plan : Plan) (f : Node → ℕ) → RowsKeep plan f → IsLabelling plan f
unfolding parent domain
rows_share plan f keeps (the_device d) (the_device p) e =
    elim (or_cases _ _ e) [
      | inl is ↦ by_parent f plan.devices d p keeps.devices (slice_get plan.devices d) refl is
      | inr is ↦
          one_of (λ row. row.pm_runtime && nat_eq row.consumer.0 d && nat_eq row.supplier.0 p) (link_keeps f)
          (f (the_device d) ≡ f (the_device p)) (by_link f d p) plan.links is keeps.links
    ]
rows_share plan f keeps (the_device d) (the_domain o) e = by_domain f plan.devices d o keeps.devices (slice_get plan.devices d) refl e
rows_share plan f keeps (the_device d) (the_caller c) e = absurd (false≢true e)
rows_share plan f keeps (the_domain o) (the_device d) e = absurd (false≢true e)
rows_share plan f keeps (the_domain o) (the_domain p) e =
    by_domain_parent f plan.domains o p keeps.domains (slice_get plan.domains o) refl e
rows_share plan f keeps (the_domain o) (the_caller c) e = absurd (false≢true e)
rows_share plan f keeps (the_caller c) (the_device d) e = by_script f plan.callers c d keeps.callers (slice_get plan.callers c) refl e
rows_share plan f keeps (the_caller c) (the_domain o) e = absurd (false≢true e)
rows_share plan f keeps (the_caller c) (the_caller b) e = absurd (false≢true e)
