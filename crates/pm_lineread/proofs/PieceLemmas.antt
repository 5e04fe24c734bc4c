-- What the loops over words and over bytes reach.
use Rattle.std.proofs.Common.{◌≡◌, ℕ, ◌+◌, max, Bool, List, [], ◌∷◌, ◌++◌, length, take, not, nat_eq, position, unwrap_or, slice_get, Some, ap, ◌∙◌, arith}
use Rattle.std.specs.List.{common_prefix_len, position_or_len}
use Rattle.std.proofs.lemmas.Bool.Decides.{nat_tests}
use Rattle.std.proofs.lemmas.Grind.{common_steps}
use Rattle.std.proofs.lemmas.List.Sums.{prefix_len-le-length}
use Rattle.std.proofs.lemmas.List.{take_more}
use Rattle.std.proofs.lemmas.Option.{get_or_from_slice_get, slice_get_within}
use Rattle.pm_model.specs.NamedList.{common_len}

-- the place of the first that passes, or the length
pub position_or : {X : Type 0} (p : X → Bool) (xs : List X) → unwrap_or (position p xs) (length xs) ≡ position_or_len p xs
position_or p xs = grind (arith, nat_tests, common_steps, prefix_len-le-length (λ x. not (p x)) xs)

common_len_last : (bytes : List ℕ) (words : List (List ℕ)) (word : List ℕ) → common_len bytes (words ++ word ∷ []) ≡ max (common_len bytes words) (common_prefix_len nat_eq bytes word)
common_len_last bytes [] word = omega arith
common_len_last bytes (first ∷ words) word = omega (arith, common_len_last bytes words word)

-- with one word more
pub common_len_more : (bytes : List ℕ) (words : List (List ℕ)) (place : ℕ) (word : List ℕ) → slice_get words place ≡ Some word → common_len bytes (take (place + 1) words) ≡ max (common_len bytes (take place words)) (common_prefix_len nat_eq bytes word)
common_len_more bytes words place word here =
    let within = slice_get_within words place word here in
    let one_more : take (place + 1) words ≡ take place words ++ word ∷ [] = take_more words place [] within ∙ ap (λ w. take place words ++ w ∷ []) (get_or_from_slice_get words place word [] here) in
    rw one_more (common_len_last bytes (take place words) word)
