-- What is said of a file of expectations that is refused (this project's own).
use Rattle.std.specs.Prelude.{◌≡◌, ⊤, ℕ, ◌+◌, List, [], ◌++◌, codes, decimal}
use Rattle.pm_expect.specs.Words.{key_word, section_word}
use Rattle.pm_expect.specs.declared.refusal.Key.{Key}
use Rattle.pm_expect.specs.declared.refusal.Key.TheVariants as key
use Rattle.pm_expect.specs.declared.refusal.Section.{Section}
use Rattle.pm_expect.specs.declared.refusal.Section.TheVariants as section
use Rattle.pm_expect.specs.declared.refusal.Why.{Why}
use Rattle.pm_expect.specs.declared.refusal.Why.TheVariants as why
use Rattle.pm_script.specs.declared.fault.ScriptFault.{ScriptFault}
use Rattle.pm_script.specs.declared.fault.ScriptFault.TheVariants as script

-- a key in quotes
abbrev pub quoted : Key → List ℕ
quoted k = codes "\"" ++ key_word k ++ codes "\""

-- the kind of the key's values
abbrev pub kind_word : Key → List ℕ
kind_word key.Nth = codes "integer"
kind_word key.Code = codes "integer"
kind_word key.Usage = codes "integer"
kind_word _ = codes "string"

-- the range of the key's values
abbrev pub range_words : Key → List ℕ
range_words key.Nth = codes " counts the calls of the command in the script, from 1"
range_words key.Code = codes " is from -4095 to 1"
range_words key.Usage = codes " is from 0 to 200000"
range_words _ = codes " is out of range"

abbrev pub fault_words : ScriptFault → List ℕ
fault_words script.Word = codes "no command: its first word is no helper"
fault_words script.Device = codes "no command: a device is missing, or the plan has none of this name"
fault_words script.Number = codes "no command: a number, or on or off, is missing or is none"
fault_words script.Extra = codes "no command: words are left"

abbrev pub why_words : Why → List ℕ
why_words why.TooLong = codes "a file of expectations has at most 262144 bytes"
why_words why.NotToml = codes "no TOML"
why_words (why.NoKey place) = codes "no such key"
why_words why.NoList = codes "no list of tables"
why_words why.TooMany = codes "more than 1000 tables"
why_words why.NoTable = codes "no table"
why_words (why.Missing k) = codes "the key " ++ quoted k ++ codes " is missing"
why_words (why.Kind k) = quoted k ++ codes " is no " ++ kind_word k
why_words why.NoCaller = codes "the plan has no such caller"
why_words why.NoDevice = codes "the plan has no such device"
why_words why.NoStatus = codes "the status is neither \"suspended\" nor \"active\""
why_words (why.NoCommand fault) = fault_words fault
why_words why.NotInScript = codes "the caller's script doesn't have the command"
why_words (why.Range k) = quoted k ++ range_words k

-- what is refused: the file, a section, or an item of a section, counted from 1
abbrev pub item_words : Section → ℕ → Why → List ℕ
item_words section.Top item w = []
item_words s item why.NoList = section_word s ++ codes ": "
item_words s item why.TooMany = section_word s ++ codes ": "
item_words s item w = section_word s ++ codes " " ++ decimal (item + 1) ++ codes ": "

abbrev pub message_text : Section → ℕ → Why → List ℕ
message_text s item w = item_words s item w ++ why_words w

-- the message of a refusal; of a text that is no TOML the words of who reads it, which are left open
abbrev pub IsMessage : Section → ℕ → Why → List ℕ → Type 0
IsMessage s item why.NotToml message = ⊤
IsMessage s item w message = message ≡ message_text s item w
