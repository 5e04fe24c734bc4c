-- The words of a file of expectations (this project's own).
use Rattle.std.specs.Prelude.{ℕ, List, [], ◌∷◌, codes}
use Rattle.pm_expect.specs.declared.refusal.Key.{Key}
use Rattle.pm_expect.specs.declared.refusal.Key.TheVariants as key
use Rattle.pm_expect.specs.declared.refusal.Section.{Section}
use Rattle.pm_expect.specs.declared.refusal.Section.TheVariants as section

-- the word of a section; but for the top's, it is the key under which a file has the tables of the section
abbrev pub section_word : Section → List ℕ
section_word section.Top = codes "top"
section_word section.Answer = codes "answer"
section_word section.End = codes "end"
section_word section.Use = codes "use"

abbrev pub key_word : Key → List ℕ
key_word key.Caller = codes "caller"
key_word key.Command = codes "command"
key_word key.Nth = codes "nth"
key_word key.Code = codes "code"
key_word key.Device = codes "device"
key_word key.Status = codes "status"
key_word key.Usage = codes "usage"
