-- Numbers are tried one by one.
use Rattle.std.proofs.Common.{ℕ, suc, ◌≡◌, ◌<◌, ◌+◌, ◌-◌, ◌∷◌, ◌||◌, Bool, false, sym, ap, ◌∙◌, arith}
use Rattle.std.specs.List.{list_any, range_with_len}

range_here : (i n : ℕ) → i < n → range_with_len i (n - i) ≡ i ∷ range_with_len (i + 1) (n - (i + 1))
range_here i n below = let e : n - i ≡ suc (n - (i + 1)) = omega (arith, below) in ap (range_with_len i) e

pub any_more : (p : ℕ → Bool) (i n : ℕ) (all : Bool) → i < n → p i ≡ false → list_any p (range_with_len i (n - i)) ≡ all
    → list_any p (range_with_len (i + 1) (n - (i + 1))) ≡ all
any_more p i n all within fails is =
    sym (ap (λ b. b || list_any p (range_with_len (i + 1) (n - (i + 1)))) fails) ∙ sym (ap (list_any p) (range_here i n within)) ∙ is
