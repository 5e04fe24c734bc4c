-- What a command of a script says, and why it is refused (this project's own): a helper's word, then what the helper takes.
use Rattle.std.specs.Prelude.{ℕ, ◌+◌, List, Option, Result, Ok, Err, ℤ, pos, find, is_none, ok_or, option_and_then, option_map, slice_get, if◌then◌else◌}
use Rattle.std.specs.Str.{bytes_eq}
use Rattle.pm_base.specs.declared.DevId.{DevId}
use Rattle.pm_linetext.specs.Words.{all_helpers}
use Rattle.pm_model.specs.NamedList.{place_named}
use Rattle.pm_model.specs.Spelling.{helper_word, operand_of, takes_device}
use Rattle.pm_model.specs.declared.event.Command.{Command}
use Rattle.pm_model.specs.declared.event.Helper.{Helper}
use Rattle.pm_model.specs.declared.event.Operand.{Operand}
use Rattle.pm_model.specs.declared.event.Operand.TheVariants.{Nothing, Milliseconds, Switch, Supplier}
use Rattle.pm_script.specs.Numbers.{milliseconds_in, switch_in}
use Rattle.pm_script.specs.Words.{words_of}
use Rattle.pm_script.specs.declared.fault.ScriptFault.{ScriptFault}
use Rattle.pm_script.specs.declared.fault.ScriptFault.TheVariants.{Word, Device, Number, Extra}

-- what follows, where there is no fault
abbrev pub result_and_then : {A B : Type 0} → (A → Result B ScriptFault) → Result A ScriptFault → Result B ScriptFault
result_and_then next (Err fault) = Err fault
result_and_then next (Ok value) = next value

-- the helper whose word this is
unfoldable pub helper_named : List ℕ → Option Helper
helper_named word = find (λ h. bytes_eq word (helper_word h)) all_helpers

-- the place of the device that a word names
abbrev pub device_named : List (List ℕ) → Option (List ℕ) → Option ℕ
device_named names word = option_and_then (λ w. place_named w names) word

abbrev pub dev_at : ℕ → DevId
dev_at place = record { 0 = place }

-- Word: there is no first word, or it isn't a helper
abbrev pub helper_in : Option (List ℕ) → Result Helper ScriptFault
helper_in word = ok_or (option_and_then helper_named word) Word

-- Device: the helper takes a device, and the next word is missing or names none. `delay` takes none and has 0.
abbrev pub device_in : List (List ℕ) → Helper → Option (List ℕ) → Result DevId ScriptFault
device_in names h word = if takes_device h then ok_or (option_map dev_at (device_named names word)) Device else Ok (dev_at 0)

-- how many words there are up to the helper's device
abbrev pub words_before_operand : Helper → ℕ
words_before_operand h = if takes_device h then 2 else 1

-- Device: the helper takes a second device, and the word is missing or names none.
-- Number: the helper takes a number, or on or off, and the word is missing or is no such number.
abbrev pub operand_in : List (List ℕ) → Helper → Operand → Option (List ℕ) → Result ℤ ScriptFault
operand_in names h Nothing word = Ok (pos 0)
operand_in names h Milliseconds word = ok_or (option_and_then (milliseconds_in h) word) Number
operand_in names h Switch word = ok_or (option_and_then switch_in word) Number
operand_in names h Supplier word = ok_or (option_map pos (device_named names word)) Device

-- how many words a command of the helper has
abbrev pub word_count : Helper → Operand → ℕ
word_count h Nothing = words_before_operand h
word_count h _ = words_before_operand h + 1

-- the word at that count, of the second, the third and the fourth
abbrev pub word_left : Helper → Operand → Option (List ℕ) → Option (List ℕ) → Option (List ℕ) → Option (List ℕ)
word_left h Nothing second third fourth = if takes_device h then third else second
word_left h _ second third fourth = if takes_device h then fourth else third

-- Extra: words are left
abbrev pub ended : Option (List ℕ) → Command → Result Command ScriptFault
ended word command = if is_none word then Ok command else Err Extra

-- the same by the first, the second, the third and the fourth word
abbrev pub command_at : List (List ℕ) → Option (List ℕ) → Option (List ℕ) → Option (List ℕ) → Option (List ℕ) → Result Command ScriptFault
command_at names first second third fourth =
    result_and_then (λ h. result_and_then (λ d. result_and_then (λ n. ended (word_left h (operand_of h) second third fourth) (record { helper = h; dev = d; number = n }))
    (operand_in names h (operand_of h) (if takes_device h then third else second))) (device_in names h second)) (helper_in first)

-- the command that these words are over devices of these names, or the first of its refusals
abbrev pub command_in : List (List ℕ) → List (List ℕ) → Result Command ScriptFault
command_in names words =
    result_and_then (λ h. result_and_then (λ d. result_and_then (λ n. ended (slice_get words (word_count h (operand_of h))) (record { helper = h; dev = d; number = n }))
    (operand_in names h (operand_of h) (slice_get words (words_before_operand h)))) (device_in names h (slice_get words 1))) (helper_in (slice_get words 0))

-- the command that these bytes are
unfoldable pub command_of : List (List ℕ) → List ℕ → Result Command ScriptFault
command_of names bytes = command_in names (words_of bytes)
