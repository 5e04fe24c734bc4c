-- One place more is told of.
use Rattle.std.proofs.Common.{ℕ, ◌≡◌, ◌+◌, ◌<◌, ◌++◌, List, get_or, length, take, ap, sym, ◌∙◌}
use Rattle.std.specs.List.{flat_map}
use Rattle.std.proofs.lemmas.List.{flat_map_more, take_more}

pub told_more : {X A : Type 0} (f : X → List A) (before all after : List A) (xs : List X) (i : ℕ) (e : X) → i < length xs → all ≡ before ++ flat_map f (take i xs)
    → after ≡ all ++ f (get_or xs i e) → after ≡ before ++ flat_map f (take (i + 1) xs)
told_more f before all after xs i e within was is =
    is ∙ ap (λ l. l ++ f (get_or xs i e)) was ∙ flat_map_more f before (take i xs) (get_or xs i e) ∙ ap (λ l. before ++ flat_map f l) (sym (take_more xs i e within))
