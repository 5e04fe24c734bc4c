-- One place more is put into its group.
use Rattle.std.proofs.Common.{ℕ, ◌≡◌, ◌+◌, ◌<◌, Bool, true, false, ◌++◌, List, [], ◌∷◌, Option, Some, None, cond, get_or, length, nat_eq, replicate, set, if◌then◌else◌, ap, refl, sym, ◌∙◌, arith, subst}
use Rattle.std.specs.List.{filter, range_with_len}
use Rattle.std.specs.Option.{option_map_or}
use Rattle.std.proofs.lemmas.Bool.{eqb-false, eqb-true}
use Rattle.std.proofs.lemmas.List.{append-nil, get_or-replicate, get_or-set_other, get_or-set_same, length-replicate, length-set, map-id}
use Rattle.std.proofs.lemmas.List.FromFn.{filter_of_map_range_with_len_more}
use Rattle.pm_safety.specs.dependencies.Grouped.{AreGroups, belongs, places_of, with_place}

-- one place more is looked at
places_more : (owners : List (Option ℕ)) (n o : ℕ) → places_of owners (n + 1) o ≡ places_of owners n o ++ (if belongs owners o n then n ∷ [] else [])
places_more owners n o =
    ap (filter (belongs owners o)) (sym (map-id (range_with_len 0 (n + 1))))
    ∙ filter_of_map_range_with_len_more (belongs owners o) (λ x. x) 0 n n (omega arith)
    ∙ ap (λ l. filter (belongs owners o) l ++ cond (belongs owners o n) (n ∷ []) []) (map-id (range_with_len 0 n))

pub no_groups : (owners : List (Option ℕ)) (count : ℕ) → AreGroups count 0 owners (replicate count [])
no_groups owners count = record { entries = length-replicate count []; each = λ o within. get_or-replicate count o [] [] within }

-- it belongs to nobody
pub none_more : (owners : List (Option ℕ)) (count n : ℕ) (groups : List (List ℕ)) → get_or owners n None ≡ None → AreGroups count n owners groups → AreGroups count (n + 1) owners groups
none_more owners count n groups is before = record {
  entries = before.entries;
  each = λ o within.
      before.each o within ∙ sym (places_more owners n o ∙ ap (λ x. places_of owners n o ++ (if option_map_or (nat_eq o) x false then n ∷ [] else [])) is ∙ append-nil (places_of owners n o));
}

-- it belongs to w
pub one_more : (owners : List (Option ℕ)) (count n w : ℕ) (groups after : List (List ℕ)) → get_or owners n None ≡ Some w → AreGroups count n owners groups
    → after ≡ set groups w (get_or groups w [] ++ n ∷ []) → AreGroups count (n + 1) owners after
one_more owners count n w groups after is before set_to = record { entries = ap length set_to ∙ length-set groups w _ ∙ before.entries; each = each }
  where
    told : (o : ℕ) (b : Bool) → nat_eq o w ≡ b → places_of owners (n + 1) o ≡ places_of owners n o ++ (if b then n ∷ [] else [])
    told o b same = places_more owners n o ∙ ap (λ x. places_of owners n o ++ (if option_map_or (nat_eq o) x false then n ∷ [] else [])) is ∙ ap (λ b. places_of owners n o ++ (if b then n ∷ [] else [])) same

    go : (o : ℕ) → o < count → (b : Bool) → nat_eq o w ≡ b → get_or (set groups w (get_or groups w [] ++ n ∷ [])) o [] ≡ places_of owners (n + 1) o
    go o within true same =
        let here : o ≡ w = eqb-true o w same in
        let inside : w < length groups = omega (arith, before.entries, within) in
        ap (λ k. get_or (set groups w (get_or groups w [] ++ n ∷ [])) k []) here
        ∙ get_or-set_same groups w (get_or groups w [] ++ n ∷ []) [] inside
        ∙ ap (λ l. l ++ n ∷ []) (ap (λ k. get_or groups k []) (sym here) ∙ before.each o within)
        ∙ sym (told o true same)
    go o within false other =
        get_or-set_other groups w o (get_or groups w [] ++ n ∷ []) [] (λ e. eqb-false o w other e) ∙ before.each o within
        ∙ sym (told o false other ∙ append-nil (places_of owners n o))

    each : (o : ℕ) → o < count → get_or after o [] ≡ places_of owners (n + 1) o
    each o within = ap (λ g. get_or g o []) set_to ∙ go o within (nat_eq o w) refl

pub more : (owners : List (Option ℕ)) (count n m : ℕ) (groups after : List (List ℕ)) → m ≡ n → AreGroups count n owners groups
    → after ≡ with_place (get_or owners n None) m groups → AreGroups count (n + 1) owners after
more owners count n m groups after same before is = go (get_or owners n None) refl is
  where
    go : (w : Option ℕ) → get_or owners n None ≡ w → after ≡ with_place w m groups → AreGroups count (n + 1) owners after
    go None at e = subst (AreGroups count (n + 1) owners) (sym e) (none_more owners count n groups at before)
    go (Some w) at e = one_more owners count n w groups after at before (e ∙ ap (λ k. set groups w (get_or groups w [] ++ k ∷ [])) same)
