-- The runs of three islands, and their merge.
use Rattle.std.proofs.Common.{ℕ, zero, suc, ◌≡◌, List, [], ◌∷◌, reverse, take, refl, sym, subst}
use Rattle.std.proofs.lemmas.Option.{same_Some}
use Rattle.std.proofs.lemmas.List.{reverse-reverse}
use Rattle.pm_base.specs.declared.ActorId.{ActorId}
use Rattle.pm_base.specs.declared.ActorId.TheVariants.{Caller}
use Rattle.pm_model.specs.declared.plan.Plan.{Plan}
use Rattle.pm_laws.specs.islands.Apart.{EachPasses, IsFinishedOn}
use Rattle.pm_model.specs.Islands.{IsPart, merged}
use Rattle.pm_model.specs.Lawful.{IsFinished, IsLawful}
use Rattle.pm_model.specs.Serial.{serial}
use Rattle.pm_show_runs.proofs.CallTable.{call_table}
use Rattle.pm_model.proofs.SerialLemmas.{serial_lawful}
use Rattle.pm_show_runs.specs.Words.{run_of}
use Rattle.pm_show_runs.proofs.promises.Apart.{is_first_part, is_second_part, is_third_part}
use Rattle.pm_show_runs.proofs.promises.Replay.{in_turn, lawful_in_turn}
use Rattle.pm_show_runs.specs.promises.ThreeIslands.{first_part, lists, numbers, second_part, third_part, three_islands}

-- what one thread writes of a part is a finished run of it
one_thread : (n : ℕ) (part : Plan) → IsPart three_islands numbers n part → IsFinished part (run_of part) → IsFinishedOn three_islands numbers n (reverse (serial part))
one_thread n part is finished =
    subst (λ h. IsFinishedOn three_islands numbers n h) (sym (reverse-reverse (run_of part))) (part, is, serial_lawful part, finished)

first_finishes : IsFinished first_part (run_of first_part)
unfolding call_table
first_finishes = refl

second_finishes : IsFinished second_part (run_of second_part)
unfolding call_table
second_finishes = refl

third_finishes : IsFinished third_part (run_of third_part)
unfolding call_table
third_finishes = refl

pub each_finishes : EachPasses (IsFinishedOn three_islands numbers) lists
each_finishes zero lines is =
    subst (λ l. IsFinishedOn three_islands numbers 0 (reverse l)) (same_Some (serial first_part) lines is) (one_thread 0 first_part is_first_part first_finishes)
each_finishes (suc zero) lines is =
    subst (λ l. IsFinishedOn three_islands numbers 1 (reverse l)) (same_Some (serial second_part) lines is) (one_thread 1 second_part is_second_part second_finishes)
each_finishes (suc (suc zero)) lines is =
    subst (λ l. IsFinishedOn three_islands numbers 2 (reverse l)) (same_Some (serial third_part) lines is) (one_thread 2 third_part is_third_part third_finishes)
each_finishes (suc (suc (suc n))) lines is = absurd (cc)

-- who writes each merged line, and when
turns : List (ActorId × ℕ)
turns =
    (Caller 2, 0) ∷ (Caller 3, 0) ∷ (Caller 3, 0) ∷ (Caller 3, 0)
    ∷ (Caller 1, 0) ∷ (Caller 1, 0) ∷ (Caller 1, 0)
    ∷ (Caller 0, 0) ∷ (Caller 0, 1)
    ∷ (Caller 2, 2) ∷ (Caller 2, 2) ∷ (Caller 2, 2)
    ∷ (Caller 1, 3) ∷ (Caller 1, 3) ∷ (Caller 1, 3) ∷ (Caller 1, 3)
    ∷ []

written_in_turn : in_turn three_islands [] turns ≡ reverse (take three_islands.lines (merged lists))
unfolding call_table turns
written_in_turn = refl

pub merge_is_lawful : IsLawful three_islands (reverse (take three_islands.lines (merged lists)))
merge_is_lawful = subst (λ h. IsLawful three_islands h) written_in_turn (lawful_in_turn three_islands [] turns tt)
