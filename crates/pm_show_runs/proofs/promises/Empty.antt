-- An empty line is the first bad line of a text that begins with it.
use Rattle.std.proofs.Common.{ℕ, zero, suc, ◌≡◌, ◌<◌, List, [], ◌∷◌, ◌++◌, length, reverse, refl, ap, arith, inl, inr}
use Rattle.std.proofs.lemmas.List.{length-append}
use Rattle.std.specs.Fmt.{decimal}
use Rattle.pm_model.specs.declared.event.Line.{Line}
use Rattle.pm_model.specs.FirstBad.{IsFirstBad, IsLawfulText, front}
use Rattle.pm_model.specs.Spelling.{actor_text, event_text, header, newline, space}
use Rattle.pm_model.specs.Text.{names_of, text1}
use Rattle.pm_show_runs.specs.Counts.{first_plan}

-- a line has two spaces before its newline
wide : (a b c rest : List ℕ) → 1 < length ((a ++ space ++ b ++ space ++ c ++ newline) ++ rest)
wide a b c rest = simp length-append (omega arith)

no_text1 : (lines : List Line) → newline ≡ text1 first_plan lines → ⊥
no_text1 [] same = cc
no_text1 (line ∷ lines) same =
    let long =
    wide (decimal line.time) (actor_text (names_of first_plan) line.actor) (event_text (names_of first_plan) line.event)
    (text1 first_plan lines) in
    omega (arith, ap length same, long)

no_text2 : (rest : List ℕ) → newline ≡ header ++ rest → ⊥
no_text2 rest same = cc

bad : IsLawfulText first_plan (front 1 newline) → ⊥
bad found =
    elim found.2 [
      | inl same ↦ no_text1 (reverse found.0) same.1
      | inr same ↦ no_text2 _ same.2
    ]

good : (k : ℕ) → k < 1 → IsLawfulText first_plan (front k newline)
good zero below = ([], tt, inl (refl, refl))
good (suc k) below = absurd (omega arith)

pub empty_is_bad : IsFirstBad first_plan newline 1
empty_is_bad = record { some = omega arith; bad = bad; good = good }
