-- The link that a row finds is a runtime link of the plan, of this consumer.
use Rattle.std.proofs.Common.{ℕ, suc, ◌≡◌, ◌+◌, Bool, true, false, not, ◌&&◌, ◌||◌, List, [], ◌∷◌, Option, Some, None, nat_eq, nat_le, slice_get, slice_index_or, if◌then◌else◌, ap, refl, ◌∙◌, arith, subst}
use Rattle.std.specs.List.{list_any, zip}
use Rattle.pm_base.specs.declared.DevId.{DevId}
use Rattle.pm_model.specs.declared.plan.Plan.{Plan}
use Rattle.pm_model.specs.declared.rows.LinkRow.{LinkRow}
use Rattle.pm_model.specs.ControlTable.{is_pair_in}
use Rattle.pm_model.specs.Derived.{first_held, first_free, next_supplier, is_above, is_link_of, least_link, nearer}
use Rattle.pm_model.specs.PlanRows.{is_of_pair}
use Rattle.pm_model.specs.Views.{Views, is_held}
use Rattle.pm_laws.specs.stacks.Shape.{IsLink}
use Rattle.pm_laws.proofs.stacks.Tests.{front, rear, same_device}

-- the n-th of these rows is a runtime link of d, and the one that was found
record IsNth (d : DevId) (i : ℕ) (rows : List LinkRow) (x : ℕ × DevId) : Type 0 where
  n : ℕ
  row : LinkRow
  place : x.0 ≡ i + n
  is : slice_get rows n ≡ Some row
  consumer : row.consumer ≡ d
  supplier : row.supplier ≡ x.1
  runtime : row.pm_runtime ≡ true

later : (d : DevId) (i : ℕ) (row : LinkRow) (rows : List LinkRow) (x : ℕ × DevId) → IsNth d (i + 1) rows x → IsNth d i (row ∷ rows) x
later d i row rows x h =
    record { n = suc h.n; row = h.row; place = omega (arith, h.place); is = h.is; consumer = h.consumer; supplier = h.supplier; runtime = h.runtime }

least_is : (d : DevId) (test : LinkRow → Bool → Bool → Bool) → ((row : LinkRow) (h p : Bool) → test row h p ≡ true → is_link_of d row p ≡ true)
    → (i : ℕ) (rows : List LinkRow) (held present : List Bool) (x : ℕ × DevId) → least_link test i rows held present ≡ Some x → IsNth d i rows x
least_is d test finds i (row ∷ rows) (h ∷ held) (p ∷ present) x e =
    go (test row h p) refl (least_is d test finds (i + 1) rows held present x) e
  where
    here : test row h p ≡ true → (i, row.supplier) ≡ x → IsNth d i (row ∷ rows) x
    here is same =
        let of_d : nat_eq row.consumer.0 d.0 && row.pm_runtime ≡ true = front _ _ (finds row h p is) in
        subst (IsNth d i (row ∷ rows)) same (record { n = 0; row = row; place = omega arith; is = refl; consumer = same_device row.consumer d (front _ _ of_d); supplier = refl; runtime = rear (nat_eq row.consumer.0 d.0) _ of_d })

    nearest : test row h p ≡ true → (o : Option (ℕ × DevId)) → (o ≡ Some x → IsNth d (i + 1) rows x) → nearer (i, row.supplier) o ≡ Some x → IsNth d i (row ∷ rows) x
    nearest is None below e = let same : (i, row.supplier) ≡ x = cc in here is same
    nearest is (Some y) below e = choose (nat_le row.supplier.0 y.1.0) e
      where
        choose : (b : Bool) → (if b then Some (i, row.supplier) else Some y) ≡ Some x → IsNth d i (row ∷ rows) x
        choose true e = let same : (i, row.supplier) ≡ x = cc in here is same
        choose false e = later d i row rows x (below e)

    go : (b : Bool) → test row h p ≡ b → (least_link test (i + 1) rows held present ≡ Some x → IsNth d (i + 1) rows x)
        → (if b then nearer (i, row.supplier) (least_link test (i + 1) rows held present) else least_link test (i + 1) rows held present) ≡ Some x
        → IsNth d i (row ∷ rows) x
    go true is below e = nearest is (least_link test (i + 1) rows held present) below e
    go false is below e = later d i row rows x (below e)
least_is d test finds i [] held present x e = cc
least_is d test finds i (row ∷ rows) [] present x e = cc
least_is d test finds i (row ∷ rows) (h ∷ held) [] x e = cc

is_nth : (plan : Plan) (d : DevId) (x : ℕ × DevId) → IsNth d 0 plan.links x → IsLink plan x.0 d x.1
is_nth plan d x h = record {
  row = h.row;
  is = ap (slice_get plan.links) (let e : x.0 ≡ h.n = omega (arith, h.place) in e) ∙ h.is;
  consumer = h.consumer;
  supplier = h.supplier;
  runtime = h.runtime;
}

pub held_is : (plan : Plan) (v : Views) (d : DevId) (x : ℕ × DevId) → first_held plan v d ≡ Some x → IsLink plan x.0 d x.1
unfolding first_held
held_is plan v d x e =
    is_nth plan d x (least_is d (λ row held present. is_link_of d row present && held) (λ row h p is. front _ _ is) 0 plan.links v.held v.present x e)

pub free_is : (plan : Plan) (v : Views) (d : DevId) (x : ℕ × DevId) → first_free plan v d ≡ Some x → IsLink plan x.0 d x.1
unfolding first_free
free_is plan v d x e =
    is_nth plan d x (least_is d (λ row held present. is_link_of d row present && not held) (λ row h p is. front _ _ is) 0 plan.links v.held v.present x e)

pub next_is : (plan : Plan) (v : Views) (d : DevId) (last : Option DevId) (x : ℕ × DevId) → next_supplier plan v d last ≡ Some x → IsLink plan x.0 d x.1
unfolding next_supplier
next_is plan v d last x e =
    is_nth plan d x (least_is d (λ row held present. is_link_of d row present && is_above last row.supplier) (λ row h p is. front _ _ is) 0 plan.links v.held v.present x e)

-- a held link has pm_runtime
abbrev pub HeldAreRuntime : Plan → Views → Type 0
HeldAreRuntime plan v = (l : ℕ) (row : LinkRow) → slice_get plan.links l ≡ Some row → is_held v l ≡ true → row.pm_runtime ≡ true

-- where a link of a pair has a bit, it is one of the links, and has it there
record IsPair (c s : DevId) (rows : List LinkRow) (bits : List Bool) : Type 0 where
  n : ℕ
  row : LinkRow
  is : slice_get rows n ≡ Some row
  pair : is_of_pair c s row ≡ true
  bit : slice_index_or bits n false ≡ true

pair_in : (c s : DevId) (rows : List LinkRow) (bits : List Bool) → list_any (λ p. is_of_pair c s p.0 && p.1) (zip rows bits) ≡ true → IsPair c s rows bits
pair_in c s [] bits e = cc
pair_in c s (row ∷ rows) [] e = cc
pair_in c s (row ∷ rows) (b ∷ bits) e = go (is_of_pair c s row && b) refl (pair_in c s rows bits) e
  where
    later_pair : IsPair c s rows bits → IsPair c s (row ∷ rows) (b ∷ bits)
    later_pair it = record { n = suc it.n; row = it.row; is = it.is; pair = it.pair; bit = it.bit }

    go : (k : Bool) → is_of_pair c s row && b ≡ k → (list_any (λ p. is_of_pair c s p.0 && p.1) (zip rows bits) ≡ true → IsPair c s rows bits)
        → k || list_any (λ p. is_of_pair c s p.0 && p.1) (zip rows bits) ≡ true → IsPair c s (row ∷ rows) (b ∷ bits)
    go true here below e = record { n = 0; row = row; is = refl; pair = front _ _ here; bit = rear (is_of_pair c s row) b here }
    go false here below e = later_pair (below e)

-- a pair that is held has a runtime link
pub record IsPairLink (plan : Plan) (c s : DevId) : Type 0 where
  pub link : ℕ
  pub is : IsLink plan link c s

pub pair_is : (plan : Plan) (v : Views) (c s : DevId) → HeldAreRuntime plan v → is_pair_in plan c s v.held ≡ true → IsPairLink plan c s
pair_is plan v c s runtime e =
    let it = pair_in c s plan.links v.held e in
    record {
      link = it.n;
      is = record {
        row = it.row;
        is = it.is;
        consumer = same_device it.row.consumer c (front _ _ it.pair);
        supplier = same_device it.row.supplier s (rear _ _ it.pair);
        runtime = runtime it.n it.row it.is it.bit;
      };
    }
