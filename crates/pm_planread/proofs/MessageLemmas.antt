-- The pieces of a message are short.
use Rattle.std.proofs.Common.{ℕ, ◌<◌, ◌≤◌, ◌^◌, length, decimal, arith, lit<}
use Rattle.std.proofs.lemmas.Fmt.{length-decimal-le}
use Rattle.pm_planread.specs.tree.Keys.{section_key}
use Rattle.pm_planread.specs.declared.tree.place.Section.{Section}
use Rattle.pm_planread.specs.declared.tree.place.Section.TheVariants as section
use Rattle.pm_planread.specs.WhyWords.{why_word}
use Rattle.pm_planread.specs.declared.refusal.PlanWhy.{PlanWhy}
use Rattle.pm_planread.specs.declared.refusal.PlanWhy.TheVariants as why

pub word_short : (w : PlanWhy) → length (why_word w) ≤ 24
word_short why.TooLong = omega arith
word_short why.NotToml = omega arith
word_short why.Key = omega arith
word_short why.Kind = omega arith
word_short why.TooMany = omega arith
word_short why.Name = omega arith
word_short why.Repeat = omega arith
word_short why.Unknown = omega arith
word_short why.Later = omega arith
word_short why.NoCallbacksWithDomain = omega arith
word_short why.NoCallbacksWithLink = omega arith
word_short why.Number = omega arith
word_short why.Code = omega arith
word_short why.Script = omega arith

pub section_short : (s : Section) → length (section_key s) ≤ 6
section_short section.Top = omega arith
section_short section.Domain = omega arith
section_short section.Device = omega arith
section_short section.Link = omega arith
section_short section.Caller = omega arith

pub number_short : (n : ℕ) → n < 2 ^ 32 → length (decimal n) ≤ 10
number_short n small = length-decimal-le 10 n (lit< tt) (omega arith) (omega arith)
