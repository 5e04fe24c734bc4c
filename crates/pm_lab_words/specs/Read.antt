-- What is read from the words, in bytes (this project's own).
use Rattle.std.specs.Prelude.{map, option_map}
use Rattle.pm_lab_words.specs.declared.given.Given.{Given as Read}
use Rattle.pm_lab_words.specs.declared.options.Options.{Options as ReadOptions}
use Rattle.pm_lab_words.specs.declared.options.Valued.{Valued as ReadValued}
use Rattle.pm_lab_words.specs.Given.{Given}
use Rattle.pm_lab_words.specs.Options.{Options, Valued}

abbrev pub options_of : ReadOptions → Options
options_of o = record {
  notes = o.notes;
  ktap = o.ktap;
  json = o.json;
  late = o.late;
  eager = o.eager;
  differ = o.differ;
  expect = option_map (λ word. word.now) o.expect;
  most = option_map (λ word. word.now) o.most;
  fail = option_map (λ word. word.now) o.fail;
  states = option_map (λ word. word.now) o.states;
  seen = option_map (λ word. word.now) o.seen;
  plan = o.plan;
}

abbrev pub valued_of : ReadValued → Valued
valued_of v = record { name = v.name; value = v.value.now }

abbrev pub given_of : Read → Given
given_of g = record {
  plain = map (λ word. word.now) g.plain.items;
  options = options_of g.options;
  waiting = g.waiting;
  behind = g.behind;
}
