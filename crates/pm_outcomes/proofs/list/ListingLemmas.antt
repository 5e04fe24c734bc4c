-- One more observation is told.
use Rattle.std.proofs.Common.{◌≡◌, ◌+◌, ℕ, List, Option, [], ◌∷◌, ◌++◌, Some, None, take, get_or, slice_get, sym, ap, ◌∙◌}
use Rattle.std.proofs.lemmas.List.{append-nil, take_more}
use Rattle.std.proofs.lemmas.List.Elements.{filter_map-append}
use Rattle.std.proofs.lemmas.Option.{get_or_from_slice_get, slice_get_within}
use Rattle.std.specs.List.{cons_option, filter_map}

module _ {X Y : Type 0} (f : X → Option Y) where
  one_more : (xs : List X) (i : ℕ) (x : X) → slice_get xs i ≡ Some x → filter_map f (take (i + 1) xs) ≡ filter_map f (take i xs) ++ cons_option (f x) []
  one_more xs i x there =
      ap (filter_map f) (take_more xs i x (slice_get_within xs i x there)) ∙ filter_map-append f (take i xs) (get_or xs i x ∷ [])
      ∙ ap (λ z. filter_map f (take i xs) ++ cons_option (f z) []) (get_or_from_slice_get xs i x x there)

  pub told_more : (xs : List X) (out : List Y) (i : ℕ) (x : X) (y : Y) → slice_get xs i ≡ Some x → out ≡ filter_map f (take i xs) → f x ≡ Some y → out ++ y ∷ [] ≡ filter_map f (take (i + 1) xs)
  told_more xs out i x y there so_far is = ap (λ l. l ++ y ∷ []) so_far ∙ sym (one_more xs i x there ∙ ap (λ o. filter_map f (take i xs) ++ cons_option o []) is)

  pub none_more : (xs : List X) (out : List Y) (i : ℕ) (x : X) → slice_get xs i ≡ Some x → out ≡ filter_map f (take i xs) → f x ≡ None → out ≡ filter_map f (take (i + 1) xs)
  none_more xs out i x there so_far is =
      so_far ∙ sym (append-nil (filter_map f (take i xs))) ∙ sym (one_more xs i x there ∙ ap (λ o. filter_map f (take i xs) ++ cons_option o []) is)
