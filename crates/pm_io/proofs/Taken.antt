-- What a sink took in several pieces.
use Rattle.std.proofs.Common.{◌≡◌, ℕ, ◌+◌, List, [], ◌++◌, length, take, drop, None, Some, refl, arith, ap, ◌∙◌, subst, sym, append_assoc, append-nil, length-append}
use Rattle.std.proofs.Math.Seq.{take-add, take-append-add}
use Rattle.std.proofs.lemmas.List.{take-append-le}
use Rattle.std.specs.declared.option.Option.{Option}
use Rattle.std.specs.Io.KnownBytes.{append_known}
use Rattle.pm_io.specs.Sink.{TookPrefix}

-- no bytes more
pub append_known_nil : (old : Option (List ℕ)) → append_known old [] ≡ old
append_known_nil None = refl
append_known_nil (Some bytes) = ap Some (append-nil bytes)

-- one piece and then another are both together
pub append_known_append : (old : Option (List ℕ)) (a b : List ℕ)
    → append_known (append_known old a) b ≡ append_known old (a ++ b)
append_known_append None a b = refl
append_known_append (Some bytes) a b = ap Some (append_assoc bytes a b)

-- the first n bytes of a piece and then the next m
pub append_known_take : (old : Option (List ℕ)) (n m : ℕ) (piece : List ℕ)
    → append_known (append_known old (take n piece)) (take m (drop n piece)) ≡ append_known old (take (n + m) piece)
append_known_take old n m piece =
    append_known_append old (take n piece) (take m (drop n piece)) ∙ ap (append_known old) (sym (take-add n m piece))

-- a prefix of the first piece is a prefix of both
pub took_prefix_before : (old new : Option (List ℕ)) (a b : List ℕ) → TookPrefix old new a → TookPrefix old new (a ++ b)
took_prefix_before old new a b took =
    (took.0, omega (arith, length-append a b, took.1), took.2 ∙ ap (append_known old) (sym (take-append-le took.0 a b took.1)))

-- the first piece and a prefix of the second is a prefix of both
pub took_prefix_after : (old mid new : Option (List ℕ)) (a b : List ℕ)
    → mid ≡ append_known old a → TookPrefix mid new b → TookPrefix old new (a ++ b)
took_prefix_after old mid new a b first took =
    let both : new ≡ append_known old (a ++ take took.0 b) =
    took.2 ∙ ap (λ m. append_known m (take took.0 b)) first ∙ append_known_append old a (take took.0 b) in
    (length a + took.0, omega (arith, length-append a b, took.1), both ∙ ap (append_known old) (sym (take-append-add a b took.0)))

-- a loop that stops within a piece leaves a prefix of the whole text
pub took_prefix_amid : (old mid new : Option (List ℕ)) (before piece after text : List ℕ)
    → mid ≡ append_known old before → TookPrefix mid new piece → text ≡ before ++ piece ++ after → TookPrefix old new text
took_prefix_amid old mid new before piece after text first took whole =
    subst (TookPrefix old new) (sym whole)
    (took_prefix_before old new (before ++ piece) after (took_prefix_after old mid new before piece first took))
