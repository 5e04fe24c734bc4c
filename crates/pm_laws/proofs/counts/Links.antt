-- How many held links a supplier has, where a link is taken, given back or freed.
use Rattle.std.proofs.Common.{ℕ, ◌≡◌, ◌+◌, Bool, true, false, cond, not, ◌&&◌, ◌||◌, List, [], ◌∷◌, Option, Some, None, length, map, nat_eq, nat_le, nat_lt, if◌then◌else◌, ap, refl, sym, ◌∙◌, arith, inl, inr, ◌⊎◌}
use Rattle.std.specs.List.{zip, list_any, list_all, count_by}
use Rattle.std.proofs.lemmas.Bool.{eqb-true, false≢true}
use Rattle.std.proofs.lemmas.Grind.{common_steps}
use Rattle.std.proofs.lemmas.List.Sums.{sum_by-cons}
use Rattle.pm_base.specs.declared.DevId.{DevId}
use Rattle.pm_model.specs.declared.plan.Plan.{Plan}
use Rattle.pm_model.specs.declared.rows.DeviceRow.{DeviceRow}
use Rattle.pm_model.specs.declared.rows.LinkRow.{LinkRow}
use Rattle.pm_model.specs.Derived.{least_link, nearer, is_link_of, is_above, first_held, first_free, next_supplier, has_link}
use Rattle.pm_model.specs.IsPlan.{are_distinct, is_same_pair, is_link, is_plan, lacks_callbacks}
use Rattle.pm_model.specs.PlanRows.{is_of_pair, no_callbacks}
use Rattle.pm_model.specs.Views.{Views}
use Rattle.pm_laws.specs.counts.Sums.{one}

-- the held links with supplier d, of these
abbrev pub lent_of : List LinkRow → List Bool → DevId → ℕ
lent_of links held d = count_by (λ p. nat_eq p.0.supplier.0 d.0 && p.1) (zip links held)

-- the links of the pair get the value
abbrev pub paired : DevId → DevId → Bool → List LinkRow → List Bool → List Bool
paired c s b links held = map (λ p. if is_of_pair c s p.0 then b else p.1) (zip links held)

-- the links of the consumer are freed
abbrev pub loosed : DevId → List LinkRow → List Bool → List Bool
loosed c links held = map (λ p. if nat_eq p.0.consumer.0 c.0 then false else p.1) (zip links held)

-- some link of the pair has the value
abbrev pub has_pair : DevId → DevId → Bool → List LinkRow → List Bool → Bool
has_pair c s b links held = list_any (λ p. is_of_pair c s p.0 && (if b then p.1 else not p.1)) (zip links held)

pub lent_cons : (row : LinkRow) (links : List LinkRow) (h : Bool) (held : List Bool) (d : DevId)
    → lent_of (row ∷ links) (h ∷ held) d ≡ one (nat_eq row.supplier.0 d.0 && h) + lent_of links held d
lent_cons row links h held d = sum_by-cons (λ (p : LinkRow × Bool). cond (nat_eq p.0.supplier.0 d.0 && p.1) 1 0) (row, h) (zip links held)

pub both : (a b : Bool) → a && b ≡ true → (a ≡ true) × (b ≡ true)
both true true e = (refl, refl)
both true false e = absurd (false≢true e)
both false b e = absurd (false≢true e)

pub neither : (a b : Bool) → a || b ≡ false → (a ≡ false) × (b ≡ false)
neither false false e = (refl, refl)
neither false true e = absurd (false≢true (sym e))
neither true b e = absurd (false≢true (sym e))

-- no link of the pair is among them: nothing changes
lent_no_pair : (c s : DevId) (b : Bool) (d : DevId) (links : List LinkRow) (held : List Bool) → list_any (is_of_pair c s) links ≡ false
    → lent_of links (paired c s b links held) d ≡ lent_of links held d
lent_no_pair c s b d [] held none = refl
lent_no_pair c s b d (row ∷ links) [] none = refl
lent_no_pair c s b d (row ∷ links) (h ∷ held) none =
    let n = neither (is_of_pair c s row) (list_any (is_of_pair c s) links) none in
    let rest = lent_no_pair c s b d links held n.1 in
    let after = lent_cons row links (if is_of_pair c s row then b else h) (paired c s b links held) d in
    let same : one (nat_eq row.supplier.0 d.0 && (if is_of_pair c s row then b else h)) ≡ one (nat_eq row.supplier.0 d.0 && h) = rw n.0 refl in
    omega (arith, lent_cons row links h held d)

-- the row is of this pair
pair_is : (c s : DevId) (row : LinkRow) → is_of_pair c s row ≡ true → (row.consumer.0 ≡ c.0) × (row.supplier.0 ≡ s.0)
pair_is c s row e = let p = both (nat_eq row.consumer.0 c.0) (nat_eq row.supplier.0 s.0) e in (eqb-true row.consumer.0 c.0 p.0, eqb-true row.supplier.0 s.0 p.1)

-- the others of distinct links are of other pairs
pub eq_sym : (a b : ℕ) → nat_eq a b ≡ nat_eq b a
eq_sym a b = grind (arith, common_steps)

others : (c s : DevId) (row : LinkRow) (links : List LinkRow) → is_of_pair c s row ≡ true
    → list_any (is_same_pair row) links ≡ list_any (is_of_pair c s) links
others c s row [] e = refl
others c s row (x ∷ links) e =
    let p = pair_is c s row e in
    let here : is_same_pair row x ≡ is_of_pair c s x = rw (p.0, p.1, eq_sym c.0 x.consumer.0, eq_sym s.0 x.supplier.0) refl in
    rw (here, others c s row links e) refl

no_has : (c s : DevId) (b : Bool) (links : List LinkRow) (held : List Bool) → list_any (is_of_pair c s) links ≡ false
    → has_pair c s b links held ≡ false
no_has c s b [] held none = refl
no_has c s b (row ∷ links) [] none = refl
no_has c s b (row ∷ links) (h ∷ held) none =
    let n = neither (is_of_pair c s row) (list_any (is_of_pair c s) links) none in rw (n.0) (no_has c s b links held n.1)

one_and_true : (x : Bool) → one (x && true) ≡ one x
one_and_true true = refl
one_and_true false = refl

pub one_and_false : (x : Bool) → one (x && false) ≡ 0
one_and_false true = refl
one_and_false false = refl

-- the first link is the one of its pair: the others are not, and it has the value
abbrev FirstOnly : DevId → DevId → Bool → LinkRow → Bool → List LinkRow → Type 0
FirstOnly c s b row h links = (list_any (is_of_pair c s) links ≡ false) × ((if b then h else not h) ≡ true)

first_only : (c s : DevId) (b : Bool) (row : LinkRow) (h : Bool) (links : List LinkRow) (held : List Bool) → is_of_pair c s row ≡ true
    → are_distinct is_same_pair (row ∷ links) ≡ true → has_pair c s b (row ∷ links) (h ∷ held) ≡ true → FirstOnly c s b row h links
first_only c s b row h links held m distinct has =
    let alone : list_any (is_same_pair row) links ≡ false = off (list_any (is_same_pair row) links) (both _ _ distinct).0 in
    let none : list_any (is_of_pair c s) links ≡ false = sym (others c s row links m) ∙ alone in
    let no_more = no_has c s b links held none in
    let it : (true && (if b then h else not h)) || false ≡ true = rw (m, no_more) at has in (none, only (if b then h else not h) it)
  where
    off : (x : Bool) → not x ≡ true → x ≡ false
    off true e = absurd (false≢true e)
    off false e = refl

    only : (x : Bool) → (true && x) || false ≡ true → x ≡ true
    only true e = refl
    only false e = absurd (false≢true e)

-- a link of the pair stands behind the first
behind : (c s : DevId) (b : Bool) (row : LinkRow) (h : Bool) (links : List LinkRow) (held : List Bool) → is_of_pair c s row ≡ false
    → has_pair c s b (row ∷ links) (h ∷ held) ≡ true → has_pair c s b links held ≡ true
behind c s b row h links held m has = rw m at has

not_true : (h : Bool) → not h ≡ true → h ≡ false
not_true true e = absurd (false≢true e)
not_true false e = refl

-- a link of the pair is taken
pub lent_taken : (c s d : DevId) (links : List LinkRow) (held : List Bool) → are_distinct is_same_pair links ≡ true
    → has_pair c s false links held ≡ true → lent_of links (paired c s true links held) d ≡ lent_of links held d + one (nat_eq s.0 d.0)
lent_taken c s d [] held distinct has = absurd (false≢true has)
lent_taken c s d (row ∷ links) [] distinct has = absurd (false≢true has)
lent_taken c s d (row ∷ links) (h ∷ held) distinct has =
    let after = lent_cons row links (if is_of_pair c s row then true else h) (paired c s true links held) d in
    let before = lent_cons row links h held d in
    go (is_of_pair c s row) refl (λ m. lent_taken c s d links held (both _ _ distinct).1 (behind c s false row h links held m has))
  where
    go : (m : Bool) → is_of_pair c s row ≡ m
        → (is_of_pair c s row ≡ false → lent_of links (paired c s true links held) d ≡ lent_of links held d + one (nat_eq s.0 d.0))
        → lent_of (row ∷ links) (paired c s true (row ∷ links) (h ∷ held)) d ≡ lent_of (row ∷ links) (h ∷ held) d + one (nat_eq s.0 d.0)
    go true m rest =
        let it = first_only c s false row h links held m distinct has in
        let is : h ≡ false = not_true h it.1 in
        let same : nat_eq row.supplier.0 d.0 ≡ nat_eq s.0 d.0 = ap (λ n. nat_eq n d.0) (pair_is c s row m).1 in
        let new : one (nat_eq row.supplier.0 d.0 && (if is_of_pair c s row then true else h)) ≡ one (nat_eq s.0 d.0) = rw (m, same) (one_and_true (nat_eq s.0 d.0)) in
        let old : one (nat_eq row.supplier.0 d.0 && h) ≡ 0 = rw is (one_and_false (nat_eq row.supplier.0 d.0)) in
        omega (arith, lent_no_pair c s true d links held it.0, lent_cons row links (if is_of_pair c s row then true else h) (paired c s true links held) d, lent_cons row links h held d)
    go false m rest =
        let same : one (nat_eq row.supplier.0 d.0 && (if is_of_pair c s row then true else h)) ≡ one (nat_eq row.supplier.0 d.0 && h) = rw m refl in
        omega (arith, rest m, lent_cons row links (if is_of_pair c s row then true else h) (paired c s true links held) d, lent_cons row links h held d)

-- a link of the pair is given back
pub lent_given : (c s d : DevId) (links : List LinkRow) (held : List Bool) → are_distinct is_same_pair links ≡ true
    → has_pair c s true links held ≡ true → lent_of links (paired c s false links held) d + one (nat_eq s.0 d.0) ≡ lent_of links held d
lent_given c s d [] held distinct has = absurd (false≢true has)
lent_given c s d (row ∷ links) [] distinct has = absurd (false≢true has)
lent_given c s d (row ∷ links) (h ∷ held) distinct has =
    go (is_of_pair c s row) refl (λ m. lent_given c s d links held (both _ _ distinct).1 (behind c s true row h links held m has))
  where
    go : (m : Bool) → is_of_pair c s row ≡ m
        → (is_of_pair c s row ≡ false → lent_of links (paired c s false links held) d + one (nat_eq s.0 d.0) ≡ lent_of links held d)
        → lent_of (row ∷ links) (paired c s false (row ∷ links) (h ∷ held)) d + one (nat_eq s.0 d.0) ≡ lent_of (row ∷ links) (h ∷ held) d
    go true m rest =
        let it = first_only c s true row h links held m distinct has in
        let is : h ≡ true = it.1 in
        let same : nat_eq row.supplier.0 d.0 ≡ nat_eq s.0 d.0 = ap (λ n. nat_eq n d.0) (pair_is c s row m).1 in
        let new : one (nat_eq row.supplier.0 d.0 && (if is_of_pair c s row then false else h)) ≡ 0 = rw m (one_and_false (nat_eq row.supplier.0 d.0)) in
        let old : one (nat_eq row.supplier.0 d.0 && h) ≡ one (nat_eq s.0 d.0) = rw (is, same) (one_and_true (nat_eq s.0 d.0)) in
        omega (arith, lent_no_pair c s false d links held it.0, lent_cons row links (if is_of_pair c s row then false else h) (paired c s false links held) d, lent_cons row links h held d)
    go false m rest =
        let same : one (nat_eq row.supplier.0 d.0 && (if is_of_pair c s row then false else h)) ≡ one (nat_eq row.supplier.0 d.0 && h) = rw m refl in
        omega (arith, rest m, lent_cons row links (if is_of_pair c s row then false else h) (paired c s false links held) d, lent_cons row links h held d)

-- the held links from a consumer to a supplier
abbrev pub held_of : DevId → ℕ → List LinkRow → List Bool → ℕ
held_of c s links held = count_by (λ p. nat_eq p.0.consumer.0 c.0 && nat_eq p.0.supplier.0 s && p.1) (zip links held)

held_cons : (c : DevId) (s : ℕ) (row : LinkRow) (links : List LinkRow) (h : Bool) (held : List Bool)
    → held_of c s (row ∷ links) (h ∷ held) ≡ one (nat_eq row.consumer.0 c.0 && nat_eq row.supplier.0 s && h) + held_of c s links held
held_cons c s row links h held = sum_by-cons (λ (p : LinkRow × Bool). cond (nat_eq p.0.consumer.0 c.0 && nat_eq p.0.supplier.0 s && p.1) 1 0) (row, h) (zip links held)

-- the links of a consumer are freed
pub lent_loosed : (c d : DevId) (links : List LinkRow) (held : List Bool)
    → lent_of links (loosed c links held) d + held_of c d.0 links held ≡ lent_of links held d
lent_loosed c d [] held = refl
lent_loosed c d (row ∷ links) [] = refl
lent_loosed c d (row ∷ links) (h ∷ held) =
    let rest = lent_loosed c d links held in
    let here = split (nat_eq row.consumer.0 c.0) (nat_eq row.supplier.0 d.0) h in
    omega (arith, lent_cons row links (if nat_eq row.consumer.0 c.0 then false else h) (loosed c links held) d, lent_cons row links h held d, held_cons c d.0 row links h held)
  where
    split : (a b x : Bool) → one (b && (if a then false else x)) + one (a && b && x) ≡ one (b && x)
    split true true true = refl
    split true true false = refl
    split true false x = refl
    split false true true = refl
    split false true false = refl
    split false false x = refl

-- the link that is found stands between this consumer and the supplier that is named with it
nearer_is : (i : ℕ) (s : DevId) (o : Option (ℕ × DevId)) (x : ℕ × DevId) → nearer (i, s) o ≡ Some x → (x.1 ≡ s) ⊎ (o ≡ Some x)
nearer_is i s None x e = let same : (i, s) ≡ x = cc in inl (ap (λ (p : ℕ × DevId). p.1) (sym same))
nearer_is i s (Some y) x e = go (nat_le s.0 y.1.0) e
  where
    go : (b : Bool) → (if b then Some (i, s) else Some y) ≡ Some x → (x.1 ≡ s) ⊎ (Some y ≡ Some x)
    go true e = let same : (i, s) ≡ x = cc in inl (ap (λ (p : ℕ × DevId). p.1) (sym same))
    go false e = inr e

nat_same : (n : ℕ) → nat_eq n n ≡ true
nat_same n = grind (arith, common_steps)

here_or : (a b : Bool) → a ≡ true → a || b ≡ true
here_or true b e = refl
here_or false b e = absurd (false≢true e)

there_or : (a b : Bool) → b ≡ true → a || b ≡ true
there_or true b e = refl
there_or false b e = e

-- what passes this test is a link of the consumer with the value
abbrev pub Finds : DevId → Bool → (LinkRow → Bool → Bool → Bool) → Type 0
Finds d b test = (row : LinkRow) (h p : Bool) → test row h p ≡ true → (nat_eq row.consumer.0 d.0 ≡ true) × ((if b then h else not h) ≡ true)

pub least_found : (d : DevId) (b : Bool) (test : LinkRow → Bool → Bool → Bool) → Finds d b test
    → (i : ℕ) (rows : List LinkRow) (held present : List Bool) (x : ℕ × DevId) → least_link test i rows held present ≡ Some x
    → has_pair d x.1 b rows held ≡ true
least_found d b test finds i (row ∷ rows) (h ∷ held) (p ∷ present) x e =
    go (test row h p) refl e (least_found d b test finds (i + 1) rows held present x)
  where
    later : has_pair d x.1 b rows held ≡ true → has_pair d x.1 b (row ∷ rows) (h ∷ held) ≡ true
    later there = there_or _ _ there

    here : (s : DevId) → test row h p ≡ true → x.1 ≡ s → row.supplier ≡ s → has_pair d x.1 b (row ∷ rows) (h ∷ held) ≡ true
    here s is same sup =
        let found = finds row h p is in
        let supplier : nat_eq row.supplier.0 x.1.0 ≡ true = ap (λ (z : DevId). nat_eq z.0 x.1.0) (sup ∙ sym same) ∙ nat_same x.1.0 in
        let it : is_of_pair d x.1 row && (if b then h else not h) ≡ true = rw (found.0, supplier, found.1) refl in here_or _ _ it

    go : (m : Bool) → test row h p ≡ m
        → (if m then nearer (i, row.supplier) (least_link test (i + 1) rows held present) else least_link test (i + 1) rows held present) ≡ Some x
        → (least_link test (i + 1) rows held present ≡ Some x → has_pair d x.1 b rows held ≡ true) → has_pair d x.1 b (row ∷ rows) (h ∷ held) ≡ true
    go true is e rest =
        elim (nearer_is i row.supplier (least_link test (i + 1) rows held present) x e) [
          | inl same ↦ here row.supplier is same refl
          | inr there ↦ later (rest there)
        ]
    go false is e rest = later (rest e)
least_found d b test finds i [] held present x e = cc
least_found d b test finds i (row ∷ rows) [] present x e = cc
least_found d b test finds i (row ∷ rows) (h ∷ held) [] x e = cc

-- a device without callbacks has no runtime link to a supplier
pub no_link : (devices : List DeviceRow) (d : DevId) (test : LinkRow → Bool → Bool → Bool)
    → ((row : LinkRow) (h p : Bool) → test row h p ≡ true → (nat_eq row.consumer.0 d.0 ≡ true) × (row.pm_runtime ≡ true))
    → lacks_callbacks devices d ≡ true → (i : ℕ) (rows : List LinkRow) (held present : List Bool) → list_all (is_link devices) rows ≡ true
    → least_link test i rows held present ≡ None
no_link devices d test finds lacks i (row ∷ rows) (h ∷ held) (p ∷ present) all =
    let a = both (is_link devices row) (list_all (is_link devices) rows) all in
    go (test row h p) refl a.0 (no_link devices d test finds lacks (i + 1) rows held present a.1)
  where
    refused : test row h p ≡ true → is_link devices row ≡ true → ⊥
    refused is e =
        let found = finds row h p is in
        let consumer : lacks_callbacks devices row.consumer ≡ true = ap (λ n. lacks_callbacks devices (record { 0 = n })) (eqb-true row.consumer.0 d.0 found.0) ∙ lacks in
        let k = (both (nat_lt row.consumer.0 (length devices) && nat_lt row.supplier.0 row.consumer.0) (not (row.pm_runtime && lacks_callbacks devices row.consumer)) e).1 in
        let f : false ≡ true = rw (found.1, consumer) at k in false≢true f

    go : (m : Bool) → test row h p ≡ m → is_link devices row ≡ true → least_link test (i + 1) rows held present ≡ None
        → (if m then nearer (i, row.supplier) (least_link test (i + 1) rows held present) else least_link test (i + 1) rows held present) ≡ None
    go true is e rest = absurd (refused is e)
    go false is e rest = rest
no_link devices d test finds lacks i [] held present all = refl
no_link devices d test finds lacks i (row ∷ rows) [] present all = refl
no_link devices d test finds lacks i (row ∷ rows) (h ∷ held) [] all = refl

-- what the plan's law says of links
pub distinct_links : (plan : Plan) → are_distinct is_same_pair plan.links ≡ true
distinct_links plan =
    let law : is_plan plan.lines plan.trace plan.domains plan.devices plan.links plan.callers ≡ true = plan.law in
    (both _ _ (both _ _ law).0).1

pub lawful_links : (plan : Plan) → list_all (is_link plan.devices) plan.links ≡ true
lawful_links plan =
    let law : is_plan plan.lines plan.trace plan.domains plan.devices plan.links plan.callers ≡ true = plan.law in
    (both _ _ (both _ _ (both _ _ (both _ _ (both _ _ (both _ _ law).0).0).0).0).0).1

-- the links that the rows name
pub held_found : (plan : Plan) (v : Views) (d : DevId) (x : ℕ × DevId) → first_held plan v d ≡ Some x → has_pair d x.1 true plan.links v.held ≡ true
unfolding first_held
held_found plan v d x e =
    least_found d true (λ row held present. is_link_of d row present && held) (λ row h p is. let a = both _ _ is in ((both _ _ (both _ _ a.0).0).0, a.1)) 0 plan.links v.held v.present x e

pub free_found : (plan : Plan) (v : Views) (d : DevId) (x : ℕ × DevId) → first_free plan v d ≡ Some x → has_pair d x.1 false plan.links v.held ≡ true
unfolding first_free
free_found plan v d x e =
    least_found d false (λ row held present. is_link_of d row present && not held) (λ row h p is. let a = both _ _ is in ((both _ _ (both _ _ a.0).0).0, a.1)) 0 plan.links v.held v.present x e

pub link_calls : (plan : Plan) (v : Views) (d : DevId) → has_link plan v d ≡ true → no_callbacks plan d ≡ false
unfolding has_link next_supplier no_callbacks
link_calls plan v d has = go (no_callbacks plan d) refl
  where
    none : no_callbacks plan d ≡ true → next_supplier plan v d None ≡ None
    none lacks =
        no_link plan.devices d (λ row held present. is_link_of d row present && is_above None row.supplier) (λ row h p is. both _ _ (both _ _ (both _ _ is).0).0) lacks 0 plan.links v.held v.present (lawful_links plan)

    go : (b : Bool) → no_callbacks plan d ≡ b → no_callbacks plan d ≡ false
    go true e = let k : false ≡ true = rw (none e) at has in absurd (false≢true k)
    go false e = e
