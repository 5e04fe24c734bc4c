-- The words of steps (this project's own).
use Rattle.std.specs.Prelude.{ℕ, ℤ, Bool, ◌&&◌, List, Option, Some, None, pos, neg_ℤ, codes, int_le, option_and_then, if◌then◌else◌}
use Rattle.std.specs.Option.{option_or}
use Rattle.std.specs.Str.{bytes_eq}
use Rattle.pm_script.specs.Numbers.{number_in}
use Rattle.pm_driver_text.specs.declared.verbs.CodeTest.{CodeTest}
use Rattle.pm_driver_text.specs.declared.verbs.CodeTest.TheVariants as test
use Rattle.pm_driver_text.specs.declared.verbs.Question.{Question}
use Rattle.pm_driver_text.specs.declared.verbs.Question.TheVariants as question
use Rattle.pm_driver_text.specs.declared.verbs.Verb.{Verb}
use Rattle.pm_driver_text.specs.declared.verbs.Verb.TheVariants as verb

-- what a word says that a step does
unfoldable pub device_verb : List ℕ → Option Verb
device_verb word =
    if bytes_eq word (codes "resume_and_get") then Some verb.ResumeAndGet
    else if bytes_eq word (codes "touch") then Some verb.Touch
    else if bytes_eq word (codes "ask") then Some verb.Ask
    else None

unfoldable pub managed_verb : List ℕ → Option Verb
managed_verb word =
    if bytes_eq word (codes "devm_enable") then Some verb.DevmEnable
    else if bytes_eq word (codes "force_suspend") then Some verb.ForceSuspend
    else if bytes_eq word (codes "force_resume") then Some verb.ForceResume
    else None

unfoldable pub flag_verb : List ℕ → Option Verb
flag_verb word =
    if bytes_eq word (codes "set") then Some verb.Set
    else if bytes_eq word (codes "clear") then Some verb.Clear
    else if bytes_eq word (codes "wait") then Some verb.Wait
    else if bytes_eq word (codes "mark") then Some verb.Mark
    else None

unfoldable pub own_verb : List ℕ → Option Verb
own_verb word =
    if bytes_eq word (codes "lock") then Some verb.Lock
    else if bytes_eq word (codes "unlock") then Some verb.Unlock
    else if bytes_eq word (codes "do") then Some verb.Do
    else if bytes_eq word (codes "stop") then Some verb.Stop
    else None

unfoldable pub jump_verb : List ℕ → Option Verb
jump_verb word =
    if bytes_eq word (codes "goto") then Some verb.Goto
    else if bytes_eq word (codes "return") then Some verb.Return
    else if bytes_eq word (codes "fail") then Some verb.Fail
    else None

unfoldable pub verb_of : List ℕ → Option Verb
verb_of word = option_or (device_verb word) (option_or (managed_verb word) (option_or (flag_verb word) (option_or (own_verb word) (jump_verb word))))

-- what a word asks of a device
unfoldable pub question_of : List ℕ → Option Question
question_of word =
    if bytes_eq word (codes "suspended") then Some question.Suspended
    else if bytes_eq word (codes "status_suspended") then Some question.StatusSuspended
    else if bytes_eq word (codes "active") then Some question.Active
    else if bytes_eq word (codes "enabled") then Some question.Enabled
    else None

-- a code that a call may return
abbrev pub is_answer : ℤ → Bool
is_answer n = int_le (neg_ℤ (pos 4095)) n && int_le n (pos 1)

abbrev pub one_code : ℤ → Option CodeTest
one_code n = if is_answer n then Some (test.Is n) else None

-- the codes that a word behind `on` names
unfoldable pub test_of : List ℕ → Option CodeTest
test_of word = if bytes_eq word (codes "nonzero") then Some test.Nonzero else option_and_then one_code (number_in word)
