-- A row of a list without repeats that has a name is the first of the name.
use Rattle.std.proofs.Common.{◌≡◌, ℕ, ◌<◌, true, List, Some, length, map, slice_get, option_map, sym, ap, ◌∙◌}
use Rattle.std.proofs.lemmas.Option.{slice_get-map, slice_get_within}
use Rattle.pm_model.specs.NamedList.{place_named}
use Rattle.pm_names.proofs.TableLemmas.{place_of_only}
use Rattle.pm_names.specs.Table.{all_distinct}

pub row_named : {T : Type 0} (name_of : T → List ℕ) (rows : List T) (place : ℕ) (row : T) (name : List ℕ) → all_distinct (map name_of rows) ≡ true → Some row ≡ slice_get rows place → name_of row ≡ name → (Some place ≡ place_named name (map name_of rows)) × (place < length rows)
row_named name_of rows place row name distinct here is =
    let there : slice_get (map name_of rows) place ≡ Some name = slice_get-map name_of rows place ∙ ap (option_map name_of) (sym here) ∙ ap Some is in
    (sym (place_of_only (map name_of rows) name place distinct there), slice_get_within rows place row (sym here))
