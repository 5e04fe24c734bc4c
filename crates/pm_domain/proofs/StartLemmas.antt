-- Which domains are on at the start.
use Rattle.std.proofs.Common.{◌≡◌, ℕ, ◌+◌, ◌<◌, ◌≤◌, Bool, true, false, ◌&&◌, ◌||◌, List, Option, Some, length, take, get_or, sym, ap, ◌∙◌, zero-add, arith}
use Rattle.std.specs.Prelude.{nat_eq, slice_get}
use Rattle.std.specs.List.{enumerate_from, list_any}
use Rattle.std.specs.Option.{option_map_or}
use Rattle.std.proofs.Math.Bool.{or-false}
use Rattle.std.proofs.lemmas.List.{get_or-map, get_or_default, length-map, same_lists, take_all}
use Rattle.std.proofs.lemmas.List.Folds.{list_any_more}
use Rattle.std.proofs.lemmas.List.FromFn.{get_or-enumerate_from, length-enumerate_from}
use Rattle.std.proofs.lemmas.Option.{slice_get-get_or}
use Rattle.pm_model.specs.declared.plan.Plan.{Plan}
use Rattle.pm_model.specs.declared.rows.DomainRow.{DomainRow}
use Rattle.pm_model.specs.PlanRows.{chain, is_always_on, is_kept_on}
use Rattle.pm_index.specs.OwnMarks.{bit_at}
use Rattle.pm_domain.specs.Domains.{fresh_on}
use Rattle.pm_domain.specs.Walk.{keeps_on, switched}
use Rattle.pm_domain.proofs.MemberLemmas.{element}
use Rattle.pm_domain.proofs.SwitchLemmas.{bit_at-switched}

-- the first so many domains keep this on
abbrev pub AreKept : List DomainRow → List Bool → ℕ → Type 0
AreKept rows on i = (k : ℕ) → k < length rows → bit_at on k ≡ list_any (keeps_on rows k) (take i (enumerate_from 0 rows))

-- whether the domain at a place keeps this on
keeps_on_at : (rows : List DomainRow) (k i : ℕ) (e : ℕ × DomainRow) → i < length rows → keeps_on rows k (get_or (enumerate_from 0 rows) i e) ≡ (option_map_or (λ row. row.always_on) (slice_get rows i) false && list_any (nat_eq k) (chain rows (length rows) (Some (record { 0 = i }))))
keeps_on_at rows k i e lt =
    ap (keeps_on rows k) (get_or-enumerate_from 0 rows i e lt)
    ∙ ap (λ (n : ℕ). (get_or rows i e.1).always_on && list_any (nat_eq k) (chain rows (length rows) (Some (record { 0 = n })))) (zero-add i)
    ∙ ap (λ (x : Option DomainRow). option_map_or (λ row. row.always_on) x false && list_any (nat_eq k) (chain rows (length rows) (Some (record { 0 = i })))) (sym (slice_get-get_or rows i e.1 lt))

-- and so one more
one_more : (rows : List DomainRow) (k i : ℕ) → i < length rows → list_any (keeps_on rows k) (take (i + 1) (enumerate_from 0 rows)) ≡ (list_any (keeps_on rows k) (take i (enumerate_from 0 rows)) || (option_map_or (λ row. row.always_on) (slice_get rows i) false && list_any (nat_eq k) (chain rows (length rows) (Some (record { 0 = i })))))
one_more rows k i lt =
    let e : ℕ × DomainRow = (0, element rows i lt) in
    list_any_more (keeps_on rows k) (enumerate_from 0 rows) i e (omega (arith, length-enumerate_from 0 rows))
    ∙ ap (λ b. list_any (keeps_on rows k) (take i (enumerate_from 0 rows)) || b) (keeps_on_at rows k i e lt)

-- one that is always on has been switched on with its ancestors
pub kept_switched : (plan : Plan) (on : List Bool) (i : ℕ) → length on ≡ length plan.domains → i < length plan.domains → AreKept plan.domains on i → is_always_on plan i ≡ true → AreKept plan.domains (switched true on (chain plan.domains (length plan.domains) (Some (record { 0 = i })))) (i + 1)
kept_switched plan on i long lt kept always k lt_k =
    let rows : List DomainRow = plan.domains in
    let ancestors : List ℕ = chain rows (length rows) (Some (record { 0 = i })) in
    bit_at-switched on ancestors k (omega arith) ∙ ap (λ b. b || list_any (nat_eq k) ancestors) (kept k lt_k)
    ∙ ap (λ b. list_any (keeps_on rows k) (take i (enumerate_from 0 rows)) || (b && list_any (nat_eq k) ancestors)) (sym always) ∙ sym (one_more rows k i lt)

-- another changes nothing
pub kept_same : (plan : Plan) (on : List Bool) (i : ℕ) → i < length plan.domains → AreKept plan.domains on i → is_always_on plan i ≡ false → AreKept plan.domains on (i + 1)
kept_same plan on i lt kept other k lt_k =
    let rows : List DomainRow = plan.domains in
    let ancestors : List ℕ = chain rows (length rows) (Some (record { 0 = i })) in
    kept k lt_k ∙ sym (or-false (list_any (keeps_on rows k) (take i (enumerate_from 0 rows))))
    ∙ ap (λ b. list_any (keeps_on rows k) (take i (enumerate_from 0 rows)) || (b && list_any (nat_eq k) ancestors)) (sym other) ∙ sym (one_more rows k i lt)

pub length-fresh_on : (plan : Plan) → length (fresh_on plan) ≡ length plan.domains
length-fresh_on plan =
    length-map (enumerate_from 0 plan.domains) (λ (p : ℕ × DomainRow). is_kept_on plan.domains p.0) ∙ length-enumerate_from 0 plan.domains

-- after all, that is the start
pub kept_all : (plan : Plan) (on : List Bool) (i : ℕ) → length on ≡ length plan.domains → length plan.domains ≤ i → AreKept plan.domains on i → on ≡ fresh_on plan
kept_all plan on i long le kept =
    let rows : List DomainRow = plan.domains in
    let f : ℕ × DomainRow → Bool = λ p. is_kept_on rows p.0 in
    same_lists on (fresh_on plan) (long ∙ sym (length-fresh_on plan)) (λ k d lt.
    let below : k < length rows = omega arith in
    let e : ℕ × DomainRow = (0, element rows k below) in
    get_or_default on k d false lt ∙ kept k below ∙ ap (list_any (keeps_on rows k)) (take_all i (enumerate_from 0 rows) (omega (arith, length-enumerate_from 0 rows)))
    ∙ ap (is_kept_on rows) (sym (zero-add k)) ∙ sym (ap f (get_or-enumerate_from 0 rows k e below)) ∙ sym (get_or-map f (enumerate_from 0 rows) k e d (omega (arith, length-enumerate_from 0 rows))))
