-- Lists that are put at the end, one after another.
use Rattle.std.proofs.Common.{ℕ, ◌≡◌, ◌+◌, ◌-◌, ◌≤◌, List, [], ◌∷◌, ◌++◌, Option, drop, get_or, length, take, ◌∙◌, ap, append_assoc, arith}
use Rattle.std.proofs.lemmas.List.{take_all}
use Rattle.pm_driver_script.specs.declared.program.Program.{Program}
use Rattle.pm_driver_script.specs.declared.program.ProgramPlace.{ProgramPlace}
use Rattle.pm_driver_find.specs.Suspects.{place_suspects, program_suspects}

pub two_more : {A : Type 0} (old mid new xs ys : List A) → mid ≡ old ++ xs → new ≡ mid ++ ys → new ≡ old ++ (xs ++ ys)
two_more old mid new xs ys first second = second ∙ ap (λ l. l ++ ys) first ∙ append_assoc old xs ys

-- what is looked for at the first place, and at the others
pub first_place : (c : ℕ) (lines : List (Option ℕ)) (program : Program) (k : ℕ) (places : List ProgramPlace) (item : ProgramPlace) → 1 ≤ length places → item ≡ get_or places 0 item
    → place_suspects c lines program k item ++ program_suspects c lines program (k + 1) (take (length places - 1) (drop 1 places)) ≡ program_suspects c lines program k places
first_place c lines program k [] item some is = absurd (omega (arith, some))
first_place c lines program k (x ∷ places) item some is =
    let rest : take (length (x ∷ places) - 1) places ≡ places = take_all (length (x ∷ places) - 1) places (omega arith) in
    ap (λ (y : ProgramPlace). place_suspects c lines program k y ++ program_suspects c lines program (k + 1) (take (length (x ∷ places) - 1) places)) is
    ∙ ap (λ (l : List ProgramPlace). place_suspects c lines program k x ++ program_suspects c lines program (k + 1) l) rest
