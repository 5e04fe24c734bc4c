-- Pairs of names that are one name are the same pairs, so that links are found by one name.
use Rattle.std.proofs.Common.{◌≡◌, ℕ, Bool, true, false, ◌&&◌, nat_eq, List, [], ◌∷◌, map, position, refl, ap, ◌∙◌}
use Rattle.std.specs.Str.{bytes_eq}
use Rattle.pm_model.specs.NamedList.{place_named}
use Rattle.pm_planread.specs.tree.Places.{first_fault}
use Rattle.pm_planread.specs.declared.tree.place.Section.TheVariants.{Link}
use Rattle.pm_planread.specs.declared.tree.raw.RawLink.{RawLink}
use Rattle.pm_planread.proofs.rows.FaultLemmas.{fault_map, fault_same}
use Rattle.pm_planread.proofs.rows.PositionLemmas.{position_map}
use Rattle.pm_planread.specs.rows.Faults.{fault_if}
use Rattle.pm_planread.specs.rows.Names.{first_repeat, is_earlier, is_same_link, pair_name, repeated_link, repeated_name}

grouped : (a b c : Bool) → (a && (b && c)) ≡ ((a && b) && c)
grouped true b c = refl
grouped false b c = refl

-- two pairs are one name where both their names are the same
pub pair_same : (a b c d : List ℕ) → bytes_eq (pair_name a b) (pair_name c d) ≡ (bytes_eq a c && bytes_eq b d)
pair_same [] b [] d = refl
pair_same [] b (y ∷ c) d = refl
pair_same (x ∷ a) b [] d = refl
pair_same (x ∷ a) b (y ∷ c) d = ap (λ rest. nat_eq x y && rest) (pair_same a b c d) ∙ grouped (nat_eq x y) (bytes_eq a c) (bytes_eq b d)

abbrev pub pair_of : RawLink → List ℕ
pair_of row = pair_name row.consumer row.supplier

-- a link's place by its pair is its place by both names
pair_place : (links : List RawLink) (row : RawLink) → place_named (pair_of row) (map pair_of links) ≡ position (is_same_link row) links
pair_place links row =
    position_map (bytes_eq (pair_of row)) pair_of (is_same_link row) (λ other. pair_same row.consumer row.supplier other.consumer other.supplier) links

pub links_repeat : (links : List RawLink) → first_repeat Link (map (λ row. pair_name row.consumer row.supplier) links) ≡ first_fault (repeated_link links) 0 links
links_repeat links =
    fault_map pair_of (repeated_name Link (map pair_of links)) 0 links
    ∙ fault_same (λ i row. repeated_name Link (map pair_of links) i (pair_of row)) (repeated_link links)
    (λ i row. ap (λ place. fault_if Link i (is_earlier i place)) (pair_place links row)) 0 links
