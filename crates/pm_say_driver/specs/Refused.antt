-- What is told of a driver that is refused (this project's own).
use Rattle.std.specs.Prelude.{◌≡◌, ℕ, ◌≤◌, ◌++◌, All, List, codes, decimal, flat_map, length}
use Rattle.pm_driver_read.specs.declared.refusal.DeviceWhy.{DeviceWhy}
use Rattle.pm_driver_read.specs.declared.refusal.DeviceWhy.TheVariants as device
use Rattle.pm_driver_read.specs.declared.refusal.DriverRefusal.{DriverRefusal}
use Rattle.pm_driver_read.specs.declared.refusal.DriverRefusal.TheVariants as refusal
use Rattle.pm_driver_read.specs.declared.refusal.KeyWhy.{KeyWhy}
use Rattle.pm_driver_read.specs.declared.refusal.KeyWhy.TheVariants as key
use Rattle.pm_driver_read.specs.declared.refusal.ProgramWhy.{ProgramWhy}
use Rattle.pm_driver_read.specs.declared.refusal.ProgramWhy.TheVariants as program
use Rattle.pm_driver_script.specs.declared.faults.ScriptWhy.{ScriptWhy}
use Rattle.pm_driver_script.specs.declared.faults.ScriptWhy.TheVariants as script
use Rattle.pm_messages.specs.located.Told.{Token, token_of, told_of}
use Rattle.pm_messages.specs.declared.located.located.Located.{Located}
use Rattle.pm_model.specs.Spelling.{newline, space}
use Rattle.pm_planread.specs.Messages.{refusal_text}
use Rattle.pm_say.specs.Faults.{IsIn}

-- the words of refusals
abbrev pub key_word : KeyWhy → List ℕ
key_word key.Times = codes "times"
key_word key.Role = codes "role"
key_word key.Bus = codes "bus"
key_word key.Binds = codes "binds"
key_word key.Alone = codes "alone"
key_word key.Adopts = codes "adopts"
key_word key.After = codes "after"
key_word key.Mark = codes "mark"
key_word key.Circle = codes "circle"

abbrev pub script_word : ScriptWhy → List ℕ
script_word script.Twice = codes "twice"
script_word script.NoCaller = codes "no_caller"
script_word script.NoLabel = codes "no_label"
script_word script.Behind = codes "behind"

abbrev pub program_word : ProgramWhy → List ℕ
program_word (program.Step fault) = codes "step"
program_word program.Devm = codes "devm"
program_word program.ManyDevm = codes "many_devm"
program_word program.ManyForced = codes "many_forced"
program_word program.ManyFlags = codes "many_flags"
program_word program.ManyMarks = codes "many_marks"
program_word program.ManyLocks = codes "many_locks"
program_word (program.Script why) = script_word why
program_word program.ManyPlaces = codes "many_places"

abbrev pub device_word : DeviceWhy → List ℕ
device_word device.Fails = codes "fails"
device_word device.Codes = codes "codes"

-- a line of a word, the caller or device, and which of its steps or of a list
abbrev pub numbered : List ℕ → ℕ → ℕ → List ℕ
numbered word item part = codes "driver: " ++ word ++ space ++ decimal item ++ space ++ decimal part ++ newline

abbrev pub refusal_line : DriverRefusal → List ℕ
refusal_line (refusal.Plan why section item part) = refusal_text why section item part
refusal_line (refusal.Key r) = numbered (key_word r.why) r.caller r.part
refusal_line (refusal.Program r) = numbered (program_word r.why) r.caller r.step
refusal_line (refusal.Device r) = numbered (device_word r.why) r.device r.part

-- the text of a refusal and of others, with these tokens
abbrev pub refused_told : List ℕ → List ℕ → DriverRefusal → Located → List Located → List ℕ
refused_told file text r located others =
    told_of file text (codes "error") (token_of located) ++ flat_map (λ (other : Located). told_of file text (codes "error") (token_of other)) others ++ refusal_line r

-- The refusal is told: a token of the text that is its own, at most 19 that are of other refusals, and as the last line the refusal's own.
-- Which words are said, which tokens are shown and which other refusals are told is left open.
pub record TellsDriver (file text : List ℕ) (r : DriverRefusal) (told : List ℕ) : Type 0 where
  pub token : Token
  pub token_in : IsIn text token
  pub others : List Token
  pub others_in : All (IsIn text) others
  pub few : length others ≤ 19
  pub is : told ≡ told_of file text (codes "error") token ++ flat_map (told_of file text (codes "error")) others ++ refusal_line r
