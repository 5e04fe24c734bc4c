-- The links of a plan by their places.
use Rattle.std.proofs.Common.{ℕ, ◌≡◌, ◌+◌, ◌<◌, ◌≤◌, Bool, true, false, ◌&&◌, List, Some, length, take, get_or, slice_index_or, inr, ap, refl, sym, ◌∙◌, zero-add, arith}
use Rattle.std.specs.List.{enumerate_from, list_all, list_any}
use Rattle.std.proofs.lemmas.Bool.{and_from, eq-eqb}
use Rattle.std.proofs.lemmas.List.{take_all}
use Rattle.std.proofs.lemmas.List.Folds.{list_all_at, list_all_more, list_any_at, list_any_more}
use Rattle.std.proofs.lemmas.List.FromFn.{get_or-enumerate_from, length-enumerate_from}
use Rattle.pm_model.specs.declared.plan.Plan.{Plan}
use Rattle.pm_model.specs.declared.rows.LinkRow.{LinkRow}
use Rattle.pm_model.specs.ControlTable.{is_pair_in}
use Rattle.pm_model.specs.PlanRows.{is_of_pair}
use Rattle.pm_link.specs.LinkOrder.{IsFirst, supplier_at}
use Rattle.pm_link.specs.Links.{no_link, row_at}
use Rattle.pm_link.proofs.PairLemmas.{is_pair_in_is, only_link}

-- what is said of its pair is said of the link
pub of_pair : (plan : Plan) (bits : List Bool) (l : ℕ) → l < length plan.links → length bits ≡ length plan.links
    → is_pair_in plan (row_at plan.links l).consumer (row_at plan.links l).supplier bits ≡ slice_index_or bits l false
of_pair plan bits l below long =
    let row : LinkRow = row_at plan.links l in
    let pass : is_of_pair row.consumer row.supplier row ≡ true = and_from _ _ (eq-eqb row.consumer.0 row.consumer.0 refl) (eq-eqb row.supplier.0 row.supplier.0 refl) in
    let first : IsFirst (λ k. is_of_pair row.consumer row.supplier (row_at plan.links k)) plan.links (Some l) = record {
      found = (below, pass, λ k below_k pass_k. let same = only_link plan row.consumer row.supplier l k below below_k pass pass_k in inr (ap (supplier_at plan.links) (sym same), omega arith));
      missing = tt;
    } in
    is_pair_in_is plan row.consumer row.supplier (λ k. is_of_pair row.consumer row.supplier (row_at plan.links k)) (λ k. refl) (Some l) first bits long

-- of two tests the first holds, so that the second decides
pub both : (a b c : Bool) → a ≡ true → c ≡ b → c ≡ a && b
both a b c holds is = rw holds is

-- a test of links with their places, over the links one by one
module _ (rows : List LinkRow) (test : ℕ × LinkRow → Bool) (l : ℕ) where
  abbrev pub links : List (ℕ × LinkRow)
  links = enumerate_from 0 rows

  at_link : l < length rows → test (get_or links l (0, no_link)) ≡ test (l, row_at rows l)
  at_link below = ap test (get_or-enumerate_from 0 rows l (0, no_link) below) ∙ ap (λ (n : ℕ). test (n, row_at rows l)) (zero-add l)

  within : l < length rows → l < length links
  within below = omega (arith, length-enumerate_from 0 rows)

  all_links : length rows ≤ l → take l links ≡ links
  all_links past = take_all l links (omega (arith, length-enumerate_from 0 rows))

  pub any_at : l < length rows → test (l, row_at rows l) ≡ true → list_any test links ≡ true
  any_at below e = list_any_at test links l (0, no_link) (within below) (at_link below ∙ e)

  pub any_more : l < length rows → test (l, row_at rows l) ≡ false → list_any test (take l links) ≡ false → list_any test (take (l + 1) links) ≡ false
  any_more below e before = list_any_more test links l (0, no_link) (within below) ∙ rw (before, at_link below ∙ e) refl

  pub any_end : length rows ≤ l → list_any test (take l links) ≡ list_any test links
  any_end past = ap (list_any test) (all_links past)

  pub all_at : l < length rows → test (l, row_at rows l) ≡ false → list_all test links ≡ false
  all_at below e = list_all_at test links l (0, no_link) (within below) (at_link below ∙ e)

  pub all_more : l < length rows → test (l, row_at rows l) ≡ true → list_all test (take l links) ≡ true → list_all test (take (l + 1) links) ≡ true
  all_more below e before = list_all_more test links l (0, no_link) (within below) ∙ rw (before, at_link below ∙ e) refl

  pub all_end : length rows ≤ l → list_all test (take l links) ≡ list_all test links
  all_end past = ap (list_all test) (all_links past)
