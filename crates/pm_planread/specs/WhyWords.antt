-- The words of refusals (this project's own).
use Rattle.std.specs.Prelude.{ℕ, List, codes}
use Rattle.pm_planread.specs.declared.refusal.PlanWhy.{PlanWhy}
use Rattle.pm_planread.specs.declared.refusal.PlanWhy.TheVariants as why

abbrev pub why_word : PlanWhy → List ℕ
why_word why.TooLong = codes "too_long"
why_word why.NotToml = codes "not_toml"
why_word why.Key = codes "key"
why_word why.Kind = codes "kind"
why_word why.TooMany = codes "too_many"
why_word why.Name = codes "name"
why_word why.Repeat = codes "repeat"
why_word why.Unknown = codes "unknown"
why_word why.Later = codes "later"
why_word why.NoCallbacksWithDomain = codes "no_callbacks_with_domain"
why_word why.NoCallbacksWithLink = codes "no_callbacks_with_link"
why_word why.Number = codes "number"
why_word why.Code = codes "code"
why_word why.Script = codes "script"
