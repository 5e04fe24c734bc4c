-- Which of a command's words stands where.
use Rattle.std.proofs.Common.{◌≡◌, ℕ, ◌+◌, Bool, true, false, List, Option, slice_get, refl}
use Rattle.std.specs.Prelude.{if◌then◌else◌}
use Rattle.pm_model.specs.Spelling.{takes_device}
use Rattle.pm_model.specs.declared.event.Helper.{Helper}
use Rattle.pm_model.specs.declared.event.Operand.{Operand}
use Rattle.pm_model.specs.declared.event.Operand.TheVariants.{Nothing, Milliseconds, Switch, Supplier}
use Rattle.std.specs.Prelude.{Result, Ok, Err}
use Rattle.pm_model.specs.Spelling.{operand_of}
use Rattle.pm_script.specs.Command.{command_at, command_in, device_in, ended, helper_in, operand_in, result_and_then, word_count, word_left, words_before_operand}
use Rattle.pm_script.specs.declared.fault.ScriptFault.{ScriptFault}

chosen : (words : List (List ℕ)) (b : Bool) (low high : ℕ) → (if b then slice_get words high else slice_get words low) ≡ slice_get words (if b then high else low)
chosen words true low high = refl
chosen words false low high = refl

counted : (words : List (List ℕ)) (b : Bool) → (if b then slice_get words 3 else slice_get words 2) ≡ slice_get words ((if b then 2 else 1) + 1)
counted words true = refl
counted words false = refl

-- the word behind the helper's device
pub operand_at : (words : List (List ℕ)) (h : Helper) (second third : Option (List ℕ)) → second ≡ slice_get words 1 → third ≡ slice_get words 2
    → (if takes_device h then third else second) ≡ slice_get words (words_before_operand h)
operand_at words h second third is more = rw (is, more) (chosen words (takes_device h) 1 2)

-- the word behind all that a command of the helper has
pub left_at : (words : List (List ℕ)) (h : Helper) (operand : Operand) (second third fourth : Option (List ℕ)) → second ≡ slice_get words 1 → third ≡ slice_get words 2 → fourth ≡ slice_get words 3
    → word_left h operand second third fourth ≡ slice_get words (word_count h operand)
left_at words h Nothing second third fourth is more most = operand_at words h second third is more
left_at words h Milliseconds second third fourth is more most = rw (more, most) (counted words (takes_device h))
left_at words h Switch second third fourth is more most = rw (more, most) (counted words (takes_device h))
left_at words h Supplier second third fourth is more most = rw (more, most) (counted words (takes_device h))

same_behind : (names words : List (List ℕ)) (h : Helper) (r : Result Helper ScriptFault) → Ok h ≡ r
    → result_and_then (λ h. result_and_then (λ d. result_and_then (λ n. ended (word_left h (operand_of h) (slice_get words 1) (slice_get words 2) (slice_get words 3)) (record { helper = h; dev = d; number = n }))
    (operand_in names h (operand_of h) (if takes_device h then slice_get words 2 else slice_get words 1))) (device_in names h (slice_get words 1))) (Ok h)
    ≡ result_and_then (λ h. result_and_then (λ d. result_and_then (λ n. ended (slice_get words (word_count h (operand_of h))) (record { helper = h; dev = d; number = n }))
    (operand_in names h (operand_of h) (slice_get words (words_before_operand h)))) (device_in names h (slice_get words 1))) (Ok h)
same_behind names words h r is =
    rw (left_at words h (operand_of h) (slice_get words 1) (slice_get words 2) (slice_get words 3) refl refl refl, operand_at words h (slice_get words 1) (slice_get words 2) refl refl) refl

same_at : (names words : List (List ℕ)) (r : Result Helper ScriptFault)
    → result_and_then (λ h. result_and_then (λ d. result_and_then (λ n. ended (word_left h (operand_of h) (slice_get words 1) (slice_get words 2) (slice_get words 3)) (record { helper = h; dev = d; number = n }))
    (operand_in names h (operand_of h) (if takes_device h then slice_get words 2 else slice_get words 1))) (device_in names h (slice_get words 1))) r
    ≡ result_and_then (λ h. result_and_then (λ d. result_and_then (λ n. ended (slice_get words (word_count h (operand_of h))) (record { helper = h; dev = d; number = n }))
    (operand_in names h (operand_of h) (slice_get words (words_before_operand h)))) (device_in names h (slice_get words 1))) r
same_at names words (Err e) = refl
same_at names words (Ok h) = same_behind names words h (Ok h) refl

-- the command of words is that of the first of them
pub command_at_words : (names words : List (List ℕ)) (first second third fourth : Option (List ℕ)) → first ≡ slice_get words 0 → second ≡ slice_get words 1 → third ≡ slice_get words 2 → fourth ≡ slice_get words 3
    → command_at names first second third fourth ≡ command_in names words
command_at_words names words first second third fourth a b c d = rw (a, b, c, d) (same_at names words (helper_in (slice_get words 0)))
