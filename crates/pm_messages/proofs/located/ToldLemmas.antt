-- The lines that help, one after the other.
use Rattle.std.proofs.Common.{◌≡◌, ℕ, ◌+◌, ◌<◌, ◌≤◌, List, ◌++◌, String, Global, string_bytes, length, get_or, drop, map, flat_map, sym, ap, ◌∙◌, append_assoc, append-nil}
use Rattle.std.proofs.lemmas.List.{drop_more, drop_all}
use Rattle.pm_spans.specs.source.Excerpts.{hint_text}

-- the lines from a hint on begin with its own
more_told : (text : List ℕ) (at : ℕ) (hints : List (String Global)) (i : ℕ) (hint : String Global) → i < length hints → hint ≡ get_or hints i hint
    → flat_map (hint_text text at) (map string_bytes (drop i hints))
    ≡ hint_text text at (string_bytes hint) ++ flat_map (hint_text text at) (map string_bytes (drop (i + 1) hints))
more_told text at hints i hint within is =
    ap (λ (left : List (String Global)). flat_map (hint_text text at) (map string_bytes left)) (drop_more hints i hint within)
    ∙ ap (λ (x : String Global). hint_text text at (string_bytes x) ++ flat_map (hint_text text at) (map string_bytes (drop (i + 1) hints))) (sym is)

-- what is told so far and what is left make the same, once one more hint is told
pub hint_told : (text : List ℕ) (at : ℕ) (all out told : List ℕ) (hints : List (String Global)) (i : ℕ) (hint : String Global) → i < length hints → hint ≡ get_or hints i hint
    → out ++ flat_map (hint_text text at) (map string_bytes (drop i hints)) ≡ all
    → told ≡ out ++ hint_text text at (string_bytes hint)
    → told ++ flat_map (hint_text text at) (map string_bytes (drop (i + 1) hints)) ≡ all
hint_told text at all out told hints i hint within is before one =
    ap (λ (x : List ℕ). x ++ flat_map (hint_text text at) (map string_bytes (drop (i + 1) hints))) one
    ∙ append_assoc out (hint_text text at (string_bytes hint)) _
    ∙ ap (λ (x : List ℕ). out ++ x) (sym (more_told text at hints i hint within is))
    ∙ before

-- behind the last hint all is told
pub hints_told : (text : List ℕ) (at : ℕ) (all out : List ℕ) (hints : List (String Global)) (i : ℕ) → length hints ≤ i
    → out ++ flat_map (hint_text text at) (map string_bytes (drop i hints)) ≡ all → out ≡ all
hints_told text at all out hints i past told =
    sym (append-nil out)
    ∙ ap (λ (left : List (String Global)). out ++ flat_map (hint_text text at) (map string_bytes left)) (sym (drop_all i hints past))
    ∙ told
