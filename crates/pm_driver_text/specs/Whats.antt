-- What the words of a step do (this project's own).
use Rattle.std.specs.Prelude.{ℕ, ℤ, Bool, true, false, not, List, Option, Some, None, Result, Ok, Err, pos, ok_or, option_and_then, option_map, slice_get, take, if◌then◌else◌}
use Rattle.std.specs.Option.{option_map_or}
use Rattle.pm_base.specs.declared.DevId.{DevId}
use Rattle.pm_model.specs.Spelling.{operand_of}
use Rattle.pm_model.specs.declared.event.Command.{Command}
use Rattle.pm_model.specs.declared.event.Helper.{Helper}
use Rattle.pm_model.specs.declared.event.Helper.TheVariants.{Delay}
use Rattle.pm_script.specs.Command.{command_in, dev_at, device_named, helper_named, word_count}
use Rattle.pm_script.specs.Numbers.{milliseconds_in}
use Rattle.pm_script.specs.declared.fault.ScriptFault.{ScriptFault}
use Rattle.pm_driver_text.specs.Names.{is_exit_word, is_not, name_at}
use Rattle.pm_driver_text.specs.Results.{◌>>=◌}
use Rattle.pm_driver_text.specs.Verbs.{question_of, verb_of}
use Rattle.pm_driver_text.specs.declared.fault.StepFault.{StepFault}
use Rattle.pm_driver_text.specs.declared.fault.StepFault.TheVariants as fault
use Rattle.pm_driver_text.specs.declared.verbs.Question.{Question}
use Rattle.pm_driver_text.specs.declared.verbs.Verb.{Verb}
use Rattle.pm_driver_text.specs.declared.verbs.Verb.TheVariants as verb
use Rattle.pm_driver_text.specs.declared.whats.StepWhat.{StepWhat}
use Rattle.pm_driver_text.specs.declared.whats.StepWhat.TheVariants as what

-- NoDevice: the word is missing or names none
abbrev pub device_at : List (List ℕ) → List (List ℕ) → ℕ → Result DevId StepFault
device_at names words at = ok_or (option_map dev_at (device_named names (slice_get words at))) fault.NoDevice

-- how many words a helper's command has
abbrev pub words_of_helper : Helper → ℕ
words_of_helper h = word_count h (operand_of h)

-- NoCommand: the helper's words are no command
abbrev pub call_or_fault : Result Command ScriptFault → Result StepWhat StepFault
call_or_fault (Ok command) = Ok (what.Call command)
call_or_fault (Err f) = Err (fault.NoCommand f)

-- NoHelper: the first word is no helper
abbrev pub helper_call : List (List ℕ) → List (List ℕ) → Option Helper → Result StepWhat StepFault
helper_call names words None = Err fault.NoHelper
helper_call names words (Some h) = call_or_fault (command_in names (take (words_of_helper h) words))

-- NoWord: there is none
abbrev pub helper_what_of : List (List ℕ) → List (List ℕ) → Option (List ℕ) → Result StepWhat StepFault
helper_what_of names words None = Err fault.NoWord
helper_what_of names words (Some word) = helper_call names words (helper_named word)

abbrev pub helper_what : List (List ℕ) → List (List ℕ) → Result StepWhat StepFault
helper_what names words = helper_what_of names words (slice_get words 0)

-- milliseconds stand behind the device, where a word stands there that begins no exit
abbrev pub has_number : List (List ℕ) → Bool
has_number words = option_map_or (λ word. not (is_exit_word word)) (slice_get words 2) false

-- NoNumber: they are none
abbrev pub milliseconds_at : List (List ℕ) → Result ℤ StepFault
milliseconds_at words = if has_number words then ok_or (option_and_then (milliseconds_in Delay) (slice_get words 2)) fault.NoNumber else Ok (pos 0)

abbrev pub touched_in : List (List ℕ) → List (List ℕ) → Result StepWhat StepFault
touched_in names words = device_at names words 1 >>= λ dev. milliseconds_at words >>= λ ms. Ok (what.Touch dev ms)

abbrev pub asked_of : List (List ℕ) → List (List ℕ) → Option Question → Result StepWhat StepFault
asked_of names words (Some q) = device_at names words 2 >>= λ dev. Ok (what.Ask q dev)
asked_of names words None = name_at words 1 >>= λ flag. Ok (what.AskFlag flag)

abbrev pub asked_in : List (List ℕ) → List (List ℕ) → Result StepWhat StepFault
asked_in names words = asked_of names words (option_and_then question_of (slice_get words 1))

abbrev pub waited_in : List (List ℕ) → Result StepWhat StepFault
waited_in words =
    if is_not words then (name_at words 2 >>= λ flag. Ok (what.Wait flag false)) else (name_at words 1 >>= λ flag. Ok (what.Wait flag true))

-- NoName: no callers are named
abbrev pub callers_at : List (List ℕ) → Result (List ℕ) StepFault
callers_at words = ok_or (slice_get words 1) fault.NoName

-- of the words that name no device
abbrev pub named_what : Verb → List (List ℕ) → Result StepWhat StepFault
named_what verb.Wait words = waited_in words
named_what verb.Do words = name_at words 1 >>= λ n. Ok (what.Do n)
named_what verb.Set words = name_at words 1 >>= λ n. Ok (what.Set n)
named_what verb.Clear words = name_at words 1 >>= λ n. Ok (what.Clear n)
named_what verb.Mark words = name_at words 1 >>= λ n. Ok (what.Mark n)
named_what verb.Stop words = callers_at words >>= λ n. Ok (what.Stop n)
named_what verb.Lock words = name_at words 1 >>= λ n. Ok (what.Lock n)
named_what verb.Unlock words = name_at words 1 >>= λ n. Ok (what.Unlock n)
named_what verb.Goto words = name_at words 1 >>= λ n. Ok (what.Goto n)
named_what verb.Fail words = Ok what.Fail
named_what _ words = Ok what.Return

abbrev pub verb_what : List (List ℕ) → Verb → List (List ℕ) → Result StepWhat StepFault
verb_what names verb.Touch words = touched_in names words
verb_what names verb.Ask words = asked_in names words
verb_what names verb.ResumeAndGet words = device_at names words 1 >>= λ dev. Ok (what.ResumeAndGet dev)
verb_what names verb.DevmEnable words = device_at names words 1 >>= λ dev. Ok (what.DevmEnable dev)
verb_what names verb.ForceSuspend words = device_at names words 1 >>= λ dev. Ok (what.ForceSuspend dev)
verb_what names verb.ForceResume words = device_at names words 1 >>= λ dev. Ok (what.ForceResume dev)
verb_what names v words = named_what v words

abbrev pub what_of : List (List ℕ) → List (List ℕ) → Option Verb → Result StepWhat StepFault
what_of names words (Some v) = verb_what names v words
what_of names words None = helper_what names words

-- what the words do, over devices of these names, or the first fault in the order of the words
unfoldable pub what_in : List (List ℕ) → List (List ℕ) → Result StepWhat StepFault
what_in names words = what_of names words (option_and_then verb_of (slice_get words 0))

-- how many of the words say what is done
abbrev pub count_of : List (List ℕ) → StepWhat → ℕ
count_of words (what.Call command) = words_of_helper command.helper
count_of words (what.Touch dev ms) = if has_number words then 3 else 2
count_of words (what.Ask q dev) = 3
count_of words (what.Wait flag set) = if set then 2 else 3
count_of words what.Return = 1
count_of words what.Fail = 1
count_of words _ = 2
