-- The items of a section, in the words of its values.
use Rattle.std.proofs.Common.{◌≡◌, ℕ, ◌<◌, ◌≤◌, List, Option, Some, Result, Ok, Err, length, map, nat_lt, refl, ap, sym, ◌∙◌, arith}
use Rattle.std.proofs.lemmas.Bool.Decides.{nat_tests}
use Rattle.std.proofs.lemmas.Grind.{common_steps}
use Rattle.std.proofs.lemmas.List.{length-map}
use Rattle.std.specs.Option.{option_map_or}
use Rattle.toml.specs.Data.{Data, Items, as_array}
use Rattle.toml.specs.View.{items_view, view}
use Rattle.toml.specs.declared.value.Value.{Value}
use Rattle.pm_planread.proofs.tree.TreeLemmas.{items_list_view}
use Rattle.pm_planread.specs.tree.Tree.{items_list}
use Rattle.pm_expect.specs.Expected.{few_of, items_of}
use Rattle.pm_expect.specs.Tables.{◌>>=◌}
use Rattle.pm_expect.specs.declared.refusal.Why.{Why}
use Rattle.pm_expect.specs.declared.refusal.Why.TheVariants as why

items_are : (found : Option Data) (d : Data) (values : List Value) → Some d ≡ found → Some (items_view values) ≡ as_array d → items_of found ≡ Ok (map view values)
items_are found d values is array =
    ap items_of (sym is)
    ∙ ap (λ (o : Option Items). option_map_or (λ items. Ok (items_list items)) o (Err why.NoList)) (sym array)
    ∙ ap Ok (items_list_view values)

too_many : (items : List Data) → 1000 < length items → few_of items ≡ Err why.TooMany
too_many items more = grind (arith, nat_tests, common_steps)

not_many : (items : List Data) → length items ≤ 1000 → few_of items ≡ Ok items
not_many items few = grind (arith, nat_tests, common_steps)

pub section_long : (found : Option Data) (d : Data) (values : List Value) → Some d ≡ found → Some (items_view values) ≡ as_array d → 1000 < length values
    → Err why.TooMany ≡ (items_of found >>= few_of)
section_long found d values is array more =
    sym (ap (λ r. r >>= few_of) (items_are found d values is array) ∙ too_many (map view values) (omega (arith, length-map values view)))

pub section_short : (found : Option Data) (d : Data) (values shown : List Value) → Some d ≡ found → Some (items_view values) ≡ as_array d → length values ≤ 1000 → shown ≡ values
    → Ok (map view shown) ≡ (items_of found >>= few_of)
section_short found d values shown is array few same =
    ap (λ vs. Ok (map view vs)) same
    ∙ sym (ap (λ r. r >>= few_of) (items_are found d values is array) ∙ not_many (map view values) (omega (arith, length-map values view)))
