-- The places of a path.
use Rattle.std.proofs.Common.{ℕ, zero, suc, ◌≡◌, ◌<◌, ◌≤◌, ◌-◌, Bool, List, length, map, option_map, Some, None, slice_get, get_or, refl, sym, subst, ◌∙◌, ap, arith}
use Rattle.std.proofs.lemmas.Option.{slice_get-map, slice_get_within}
use Rattle.pm_explore.specs.search.Trees.{IsPath}
use Rattle.pm_explore.specs.search.Trees.IsPath.{begins, leads_on}
use Rattle.pm_explore.proofs.search.Lists.{some_within}

-- it has the place that it leads back from
pub path_first : (parents : List ℕ) (at : ℕ) (path : List ℕ) → IsPath parents at path → get_or path 0 0 ≡ at
path_first parents _ _ begins = refl
path_first parents _ _ (leads_on i pos is rest) = refl

-- and ends at the first place
path_last : (parents : List ℕ) (at : ℕ) (path : List ℕ) → IsPath parents at path → (n : ℕ) → length path ≡ suc n → get_or path n 0 ≡ 0
path_last parents _ _ begins zero e = refl
path_last parents _ _ begins (suc n) e = absurd (omega (arith, e))
path_last parents _ _ (leads_on {path = path} i pos is rest) zero e = absurd (empty parents _ path rest (omega (arith, e)))
  where
    empty : (parents : List ℕ) (at : ℕ) (path : List ℕ) → IsPath parents at path → length path ≡ 0 → ⊥
    empty parents _ _ begins e = omega (arith, e)
    empty parents _ _ (leads_on i pos is rest) e = omega (arith, e)
path_last parents _ _ (leads_on {path = path} i pos is rest) (suc n) e = path_last parents _ path rest n (omega (arith, e))

-- each place's parent comes next
pub record IsLink (parents : List ℕ) (child parent : ℕ) : Type 0 where
  pub later : 0 < child
  pub is : slice_get parents child ≡ Some parent

path_link : (parents : List ℕ) (at : ℕ) (path : List ℕ) → IsPath parents at path → (k : ℕ) → suc k < length path → IsLink parents (get_or path k 0) (get_or path (suc k) 0)
path_link parents _ _ begins k lt = absurd (omega (arith, lt))
path_link parents _ _ (leads_on {parent = parent} {path = path} i pos is rest) zero lt = rw (path_first parents parent path rest) (record { later = pos; is = is })
path_link parents _ _ (leads_on {parent = parent} {path = path} i pos is rest) (suc k) lt = path_link parents parent path rest k (omega (arith, lt))

pub path_some : (parents : List ℕ) (at : ℕ) (path : List ℕ) → IsPath parents at path → 1 ≤ length path
path_some parents _ _ begins = omega arith
path_some parents _ _ (leads_on i pos is rest) = omega arith

pub path_ends : (parents : List ℕ) (at : ℕ) (path : List ℕ) → IsPath parents at path → get_or path (length path - 1) 0 ≡ 0
path_ends parents at path is = let some = path_some parents at path is in path_last parents at path is (length path - 1) (omega (arith, some))

pub link_of : (parents : List ℕ) (at : ℕ) (path : List ℕ) (left : ℕ) → IsPath parents at path → 0 < left → left < length path → IsLink parents (get_or path (left - 1) 0) (get_or path left 0)
link_of parents at path left is pos lt =
    let e : suc (left - 1) ≡ left = omega (arith, pos) in
    subst (λ n. IsLink parents (get_or path (left - 1) 0) (get_or path n 0)) e (path_link parents at path is (left - 1) (omega (arith, pos, lt)))

-- the child of a link is one of the places
pub child_within : (parents : List ℕ) (at : ℕ) (path : List ℕ) (left : ℕ) → IsPath parents at path → 0 < left → left < length path → get_or path (left - 1) 0 < length parents
child_within parents at path left is pos lt = let link = link_of parents at path left is pos lt in slice_get_within parents (get_or path (left - 1) 0) (get_or path left 0) link.is

-- a node that is there is found
pub is_found : {N : Type 0} (nodes : List N) (i : ℕ) → i < length nodes → None ≡ slice_get nodes i → ⊥
is_found nodes i lt none = let s = some_within nodes i lt in cc (none, s.1)

-- the point of a node
pub node_is : {N P : Type 0} (f : N → P) (nodes : List N) (i : ℕ) (n : N) → Some n ≡ slice_get nodes i → slice_get (map f nodes) i ≡ Some (f n)
node_is f nodes i n is = slice_get-map f nodes i ∙ ap (option_map f) (sym is)
