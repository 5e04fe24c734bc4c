-- What the links that a row finds, or doesn't find, say of each link.
use Rattle.std.proofs.Common.{ℕ, zero, suc, ◌≡◌, ◌+◌, ◌<◌, Bool, true, false, not, ◌&&◌, List, [], ◌∷◌, Option, Some, None, length, nat_eq, nat_le, slice_get, slice_index_or, if◌then◌else◌, ap, refl, sym, ◌∙◌, arith}
use Rattle.std.specs.Prelude.{is_some, ◌||◌}
use Rattle.std.specs.List.{zip, list_any, list_all}
use Rattle.std.proofs.lemmas.Bool.{eqb-true, false≢true}
use Rattle.std.proofs.lemmas.Grind.{common_steps}
use Rattle.pm_base.specs.declared.DevId.{DevId}
use Rattle.pm_model.specs.declared.plan.Plan.{Plan}
use Rattle.pm_model.specs.declared.rows.LinkRow.{LinkRow}
use Rattle.pm_model.specs.ControlTable.{is_pair_in}
use Rattle.pm_model.specs.Counted.{is_same}
use Rattle.pm_model.specs.Derived.{least_link, nearer, is_link_of, is_above, first_held, first_free, next_supplier, has_link}
use Rattle.pm_model.specs.IsPlan.{are_distinct, is_same_pair, is_link, lacks_callbacks}
use Rattle.pm_model.specs.PlanRows.{is_of_pair, no_callbacks}
use Rattle.pm_model.specs.Views.{Views, is_held, is_present}
use Rattle.pm_laws.proofs.counts.Links.{both, eq_sym, distinct_links, lawful_links}
use Rattle.pm_laws.proofs.counts.Switches.{pair_turned}
use Rattle.pm_laws.proofs.safe.Steps.{same_is}

abbrev Nth : ℕ → List LinkRow → LinkRow → Type 0
Nth n rows row = slice_get rows n ≡ Some row

pub some_row : {A : Type 0} (x y : A) → Some x ≡ Some y → x ≡ y
some_row x y e = cc

-- nothing is found: no link passes the test
nearer_some : (x : ℕ × DevId) (o : Option (ℕ × DevId)) → nearer x o ≡ None → ⊥
nearer_some x None e = cc
nearer_some x (Some y) e = go (nat_le x.1.0 y.1.0) e
  where
    go : (b : Bool) → (if b then Some x else Some y) ≡ None → ⊥
    go true e = cc
    go false e = cc

least_none : (test : LinkRow → Bool → Bool → Bool) (i : ℕ) (rows : List LinkRow) (held present : List Bool) (n : ℕ) (row : LinkRow)
    → least_link test i rows held present ≡ None → Nth n rows row → n < length held → n < length present
    → test row (slice_index_or held n false) (slice_index_or present n false) ≡ false
least_none test i [] held present n row e is a b = cc
least_none test i (x ∷ rows) [] present n row e is a b = absurd (omega arith)
least_none test i (x ∷ rows) (h ∷ held) [] n row e is a b = absurd (omega arith)
least_none test i (x ∷ rows) (h ∷ held) (p ∷ present) n row e is a b =
    go (test x h p) refl (λ m. least_none test (i + 1) rows held present m row) e n is a b
  where
    go : (m : Bool) → test x h p ≡ m
        → ((n : ℕ) → least_link test (i + 1) rows held present ≡ None → Nth n rows row → n < length held → n < length present
        → test row (slice_index_or held n false) (slice_index_or present n false) ≡ false)
        → (if m then nearer (i, x.supplier) (least_link test (i + 1) rows held present) else least_link test (i + 1) rows held present) ≡ None
        → (n : ℕ) → Nth n (x ∷ rows) row → n < length (h ∷ held) → n < length (p ∷ present)
        → test row (slice_index_or (h ∷ held) n false) (slice_index_or (p ∷ present) n false) ≡ false
    go true m below e n is a b = absurd (nearer_some (i, x.supplier) (least_link test (i + 1) rows held present) e)
    go false m below e zero is a b = let same : x ≡ row = some_row x row is in ap (λ r. test r h p) (sym same) ∙ m
    go false m below e (suc n) is a b = below n e is (omega arith) (omega arith)

-- the one that is found passes the test
record Found (test : LinkRow → Bool → Bool → Bool) (rows : List LinkRow) (held present : List Bool) (x : DevId) : Type 0 where
  n : ℕ
  row : LinkRow
  is : Nth n rows row
  supplier : row.supplier ≡ x
  passes : test row (slice_index_or held n false) (slice_index_or present n false) ≡ true

further : (test : LinkRow → Bool → Bool → Bool) (row : LinkRow) (rows : List LinkRow) (h p : Bool) (held present : List Bool) (x : DevId)
    → Found test rows held present x → Found test (row ∷ rows) (h ∷ held) (p ∷ present) x
further test row rows h p held present x f = record { n = suc f.n; row = f.row; is = f.is; supplier = f.supplier; passes = f.passes }

least_some : (test : LinkRow → Bool → Bool → Bool) (i : ℕ) (rows : List LinkRow) (held present : List Bool) (x : ℕ × DevId)
    → least_link test i rows held present ≡ Some x → Found test rows held present x.1
least_some test i [] held present x e = cc
least_some test i (row ∷ rows) [] present x e = cc
least_some test i (row ∷ rows) (h ∷ held) [] x e = cc
least_some test i (row ∷ rows) (h ∷ held) (p ∷ present) x e =
    go (test row h p) refl (least_some test (i + 1) rows held present x) e
  where
    here : test row h p ≡ true → (i, row.supplier) ≡ x → Found test (row ∷ rows) (h ∷ held) (p ∷ present) x.1
    here is same = record { n = 0; row = row; is = refl; supplier = ap (λ (y : ℕ × DevId). y.1) same; passes = is }

    nearest : test row h p ≡ true → (o : Option (ℕ × DevId)) → (o ≡ Some x → Found test rows held present x.1) → nearer (i, row.supplier) o ≡ Some x
        → Found test (row ∷ rows) (h ∷ held) (p ∷ present) x.1
    nearest is None below e = here is (some_row _ _ e)
    nearest is (Some y) below e = choose (nat_le row.supplier.0 y.1.0) e
      where
        choose : (b : Bool) → (if b then Some (i, row.supplier) else Some y) ≡ Some x → Found test (row ∷ rows) (h ∷ held) (p ∷ present) x.1
        choose true e = here is (some_row _ _ e)
        choose false e = further test row rows h p held present x.1 (below e)

    go : (b : Bool) → test row h p ≡ b → (least_link test (i + 1) rows held present ≡ Some x → Found test rows held present x.1)
        → (if b then nearer (i, row.supplier) (least_link test (i + 1) rows held present) else least_link test (i + 1) rows held present) ≡ Some x
        → Found test (row ∷ rows) (h ∷ held) (p ∷ present) x.1
    go true is below e = nearest is (least_link test (i + 1) rows held present) below e
    go false is below e = further test row rows h p held present x.1 (below e)

-- two links of one pair are one link
any_at : (f : LinkRow → Bool) (rows : List LinkRow) (n : ℕ) (row : LinkRow) → Nth n rows row → f row ≡ true → list_any f rows ≡ true
any_at f [] n row is e = cc
any_at f (x ∷ rows) zero row is e = let same : x ≡ row = some_row x row is in rw (same, e) refl
any_at f (x ∷ rows) (suc n) row is e = or_true (f x) (any_at f rows n row is e)
  where
    or_true : (a : Bool) {b : Bool} → b ≡ true → (a || b) ≡ true
    or_true true e = refl
    or_true false e = e

alone : (f : LinkRow → Bool) (rows : List LinkRow) (n : ℕ) (row : LinkRow) → not (list_any f rows) ≡ true → Nth n rows row → f row ≡ true → ⊥
alone f rows n row none is e = let k : false ≡ true = rw (any_at f rows n row is e) at none in false≢true k

abbrev SamePair : LinkRow → LinkRow → Type 0
SamePair a b = (is_same_pair a b ≡ true) × (is_same_pair b a ≡ true)

same_place : (rows : List LinkRow) (n m : ℕ) (a b : LinkRow) → are_distinct is_same_pair rows ≡ true → Nth n rows a → Nth m rows b → SamePair a b → n ≡ m
same_place [] n m a b d p q s = cc
same_place (x ∷ rows) zero zero a b d p q s = refl
same_place (x ∷ rows) zero (suc m) a b d p q s =
    let same : x ≡ a = some_row x a p in absurd (alone (is_same_pair x) rows m b (both _ _ d).0 q (ap (λ r. is_same_pair r b) same ∙ s.0))
same_place (x ∷ rows) (suc n) zero a b d p q s =
    let same : x ≡ b = some_row x b q in absurd (alone (is_same_pair x) rows n a (both _ _ d).0 p (ap (λ r. is_same_pair r a) same ∙ s.1))
same_place (x ∷ rows) (suc n) (suc m) a b d p q s = ap suc (same_place rows n m a b (both _ _ d).1 p q s)

nat_same : (n : ℕ) → nat_eq n n ≡ true
nat_same n = grind (arith, common_steps)

same_pair : (a b : LinkRow) → a.consumer.0 ≡ b.consumer.0 → a.supplier.0 ≡ b.supplier.0 → is_same_pair a b ≡ true
same_pair a b c s = rw (c, s, nat_same b.consumer.0, nat_same b.supplier.0) refl

-- link l of the plan, with its row
pub record LinkAt (plan : Plan) (v : Views) (l : ℕ) (row : LinkRow) : Type 0 where
  pub is : slice_get plan.links l ≡ Some row
  pub held : l < length v.held
  pub present : l < length v.present

-- of each kind of what a row finds
consumes : (row : LinkRow) (d : DevId) → is_same row.consumer d ≡ true → nat_eq row.consumer.0 d.0 ≡ true
consumes row d e = eq_sym row.consumer.0 d.0 ∙ e

pub none_held : (plan : Plan) (v : Views) (d : DevId) (l : ℕ) (row : LinkRow) → LinkAt plan v l row → first_held plan v d ≡ None → is_same row.consumer d ≡ true
    → is_present v l && row.pm_runtime ≡ true → is_held v l ≡ false
unfolding first_held
none_held plan v d l row at e same there =
    go _ _ _ _ (consumes row d same) there (least_none (λ row held present. is_link_of d row present && held) 0 plan.links v.held v.present l row e at.is at.held at.present)
  where
    go : (c rt p h : Bool) → c ≡ true → p && rt ≡ true → (c && rt && p) && h ≡ false → h ≡ false
    go true true true h a b e = e
    go true true false h a b e = cc
    go true false true h a b e = cc
    go true false false h a b e = cc
    go false rt p h a b e = cc

pub none_free : (plan : Plan) (v : Views) (d : DevId) (l : ℕ) (row : LinkRow) → LinkAt plan v l row → first_free plan v d ≡ None → is_same row.consumer d ≡ true
    → is_present v l && row.pm_runtime ≡ true → is_held v l ≡ true
unfolding first_free
none_free plan v d l row at e same there =
    go _ _ _ _ (consumes row d same) there (least_none (λ row held present. is_link_of d row present && not held) 0 plan.links v.held v.present l row e at.is at.held at.present)
  where
    go : (c rt p h : Bool) → c ≡ true → p && rt ≡ true → (c && rt && p) && not h ≡ false → h ≡ true
    go true true true true a b e = refl
    go true true true false a b e = cc
    go true true false h a b e = cc
    go true false true h a b e = cc
    go true false false h a b e = cc
    go false rt p h a b e = cc

pub no_link : (plan : Plan) (v : Views) (d : DevId) (l : ℕ) (row : LinkRow) → LinkAt plan v l row → has_link plan v d ≡ false → is_same row.consumer d ≡ true
    → is_present v l && row.pm_runtime ≡ false
unfolding has_link next_supplier
no_link plan v d l row at e same =
    go _ _ _ (consumes row d same) (least_none (λ row held present. is_link_of d row present && is_above None row.supplier) 0 plan.links v.held v.present l row (none _ e) at.is at.held at.present)
  where
    none : (o : Option (ℕ × DevId)) → is_some o ≡ false → o ≡ None
    none None e = refl
    none (Some x) e = cc

    go : (c rt p : Bool) → c ≡ true → (c && rt && p) && true ≡ false → p && rt ≡ false
    go true true true a e = cc
    go true true false a e = refl
    go true false true a e = refl
    go true false false a e = refl
    go false rt p a e = cc

-- a device without callbacks has no runtime link
pub all_at : (f : LinkRow → Bool) (rows : List LinkRow) (n : ℕ) (row : LinkRow) → Nth n rows row → list_all f rows ≡ true → f row ≡ true
all_at f [] n row is all = cc
all_at f (x ∷ rows) zero row is all = let same : x ≡ row = some_row x row is in ap f (sym same) ∙ (both (f x) (list_all f rows) all).0
all_at f (x ∷ rows) (suc n) row is all = all_at f rows n row is (both (f x) (list_all f rows) all).1

pub not_runtime : (plan : Plan) (d : DevId) (l : ℕ) (row : LinkRow) → slice_get plan.links l ≡ Some row → no_callbacks plan d ≡ true → is_same row.consumer d ≡ true
    → row.pm_runtime ≡ false
unfolding no_callbacks
not_runtime plan d l row is none same =
    let lawful = all_at (is_link plan.devices) plan.links l row is (lawful_links plan) in
    let lacks : lacks_callbacks plan.devices row.consumer ≡ true = ap (lacks_callbacks plan.devices) (sym (same_is row.consumer d same)) ∙ none in
    go row.pm_runtime _ lacks (both _ _ lawful).1
  where
    go : (rt x : Bool) → x ≡ true → not (rt && x) ≡ true → rt ≡ false
    go true true a e = cc
    go true false a e = cc
    go false x a e = refl

pub found_free : (plan : Plan) (v : Views) (d : DevId) (x : ℕ × DevId) (l : ℕ) (row : LinkRow) → LinkAt plan v l row → first_free plan v d ≡ Some x
    → is_same row.supplier x.1 && is_same row.consumer d ≡ true → is_present v l && row.pm_runtime ≡ true
unfolding first_free
found_free plan v d x l row at e same =
    let f = least_some (λ row held present. is_link_of d row present && not held) 0 plan.links v.held v.present x e in
    let pair = both _ _ same in
    let passed = both _ _ (both _ _ f.passes).0 in
    let consumer : f.row.consumer.0 ≡ row.consumer.0 = eqb-true f.row.consumer.0 d.0 (both _ _ passed.0).0 ∙ eqb-true d.0 row.consumer.0 pair.1 in
    let supplier : f.row.supplier.0 ≡ row.supplier.0 = ap (λ (y : DevId). y.0) f.supplier ∙ eqb-true x.1.0 row.supplier.0 pair.0 in
    let place : f.n ≡ l = same_place plan.links f.n l f.row row (distinct_links plan) f.is at.is (same_pair f.row row consumer supplier, same_pair row f.row (sym consumer) (sym supplier)) in
    let rows : f.row ≡ row = some_row f.row row (sym f.is ∙ ap (slice_get plan.links) place ∙ at.is) in
    let there : slice_index_or v.present l false ≡ true = ap (λ n. slice_index_or v.present n false) (sym place) ∙ passed.1 in
    let runs : row.pm_runtime ≡ true = ap (λ (r : LinkRow). r.pm_runtime) (sym rows) ∙ (both _ _ passed.0).1 in
    rw (there, runs) refl

-- no link of the pair has the bit
none_in : (f : LinkRow → Bool) (links : List LinkRow) (bits : List Bool) (l : ℕ) (row : LinkRow) → Nth l links row → list_any (λ p. f p.0 && p.1) (zip links bits) ≡ false
    → f row ≡ true → slice_index_or bits l false ≡ false
none_in f [] bits l row is none e = cc
none_in f (x ∷ links) [] l row is none e = empty l
  where
    empty : (l : ℕ) → slice_index_or [] l false ≡ false
    empty l = refl
none_in f (x ∷ links) (h ∷ bits) zero row is none e =
    let same : x ≡ row = some_row x row is in go (f x) h _ (ap f same ∙ e) none
  where
    go : (a b c : Bool) → a ≡ true → (a && b) || c ≡ false → b ≡ false
    go true true c p e = cc
    go true false c p e = refl
    go false b c p e = cc
none_in f (x ∷ links) (h ∷ bits) (suc l) row is none e = none_in f links bits l row is (go (f x && h) _ none) e
  where
    go : (a c : Bool) → a || c ≡ false → c ≡ false
    go true c e = cc
    go false c e = e

pub not_in : (plan : Plan) (c s : DevId) (bits : List Bool) (l : ℕ) (row : LinkRow) → slice_get plan.links l ≡ Some row → is_pair_in plan c s bits ≡ false
    → is_same row.supplier s && is_same row.consumer c ≡ true → slice_index_or bits l false ≡ false
not_in plan c s bits l row is none e = none_in (is_of_pair c s) plan.links bits l row is none (pair_turned c s row ∙ e)
