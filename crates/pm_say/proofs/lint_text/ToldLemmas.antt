-- Warnings that are told one after the other.
use Rattle.std.proofs.Common.{rules, ℕ, ◌≡◌, ◌+◌, ◌-◌, ◌≤◌, List, [], ◌∷◌, ◌++◌, codes, length, take, ap, refl, subst, sym, ◌∙◌, length-append, append-nil}
use Rattle.std.specs.List.{concat}
use Rattle.std.proofs.lemmas.List.Folds.{concat-append}
use Rattle.std.proofs.lemmas.List.Elements.{All-append}
use Rattle.pm_messages.specs.located.Told.{token_told}
use Rattle.pm_say.specs.declared.lints.Warning.{Warning}
use Rattle.pm_say.specs.lint_text.Told.{AddsToken, TellsEach, TellsToken, TellsWarnings, more_told}

-- a token that is appended
pub adds_at : (file text before after : List ℕ) (start stop : ℕ) (message : List ℕ) (hints : List (List ℕ)) → start ≤ stop → stop ≤ length text
    → after ≡ before ++ token_told file text start stop (codes "warning") message hints → AddsToken file text before after
adds_at file text before after start stop message hints ordered in_text is = record {
  one = token_told file text start stop (codes "warning") message hints;
  tells = record { start = start; stop = stop; ordered = ordered; in_text = in_text; message = message; hints = hints; is = refl };
  is = is;
}

-- nothing is told of no warnings
pub tells_none : (file text : List ℕ) → TellsEach file text [] []
tells_none file text = record { texts = []; one_each = refl; each = search rules; is = refl }

-- one more is told
pub tells_more : (file text : List ℕ) (few more : List Warning) (before after : List ℕ) → length more ≡ length few + 1 → TellsEach file text few before
    → AddsToken file text before after → TellsEach file text more after
tells_more file text few more before after counted told adds = record {
  texts = told.texts ++ adds.one ∷ [];
  one_each = length-append told.texts (adds.one ∷ []) ∙ ap (λ n. n + 1) told.one_each ∙ sym counted;
  each = All-append (TellsToken file text) told.texts (adds.one ∷ []) told.each (search (rules, adds.tells));
  is =
      adds.is ∙ ap (λ (x : List ℕ). x ++ adds.one) told.is
      ∙ ap (λ (x : List ℕ). concat told.texts ++ x) (sym (append-nil adds.one))
      ∙ sym (concat-append told.texts (adds.one ∷ []));
}

-- the first are told, and the others counted
pub tells_first : (file text : List ℕ) (warnings front : List Warning) (first told : List ℕ) → front ≡ take 100 warnings → TellsEach file text front first
    → told ≡ first ++ more_told file (length warnings - 100) → TellsWarnings file text warnings told
tells_first file text warnings front first told is each all = record { first = first; each = subst (λ ws. TellsEach file text ws first) is each; is = all }
