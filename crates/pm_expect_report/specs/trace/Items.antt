-- What is told of each expectation in a run (this project's own). Lists of lines have the newest line first.
use Rattle.std.specs.Prelude.{List, ◌++◌, map}
use Rattle.pm_expect.specs.declared.expectation.Expectations.{Expectations}
use Rattle.pm_expect.specs.verdicts.Verdicts.{answer_verdict, end_verdict, judged}
use Rattle.pm_expect.specs.text.Items.{answer_item, end_item, use_item}
use Rattle.pm_expect.specs.declared.text.items.Item.{Item}
use Rattle.pm_model.specs.declared.plan.Plan.{Plan}
use Rattle.pm_model.specs.History.{History}
use Rattle.pm_model.specs.Text.{names_of}
use Rattle.pm_expect.specs.uses.Uses.{use_verdict}

abbrev pub answers_in : Plan → History → Expectations → List Item
answers_in plan h all = map (answer_item (names_of plan)) (map (judged (answer_verdict plan h)) all.answers)

abbrev pub ends_in : Plan → History → Expectations → List Item
ends_in plan h all = map (end_item (names_of plan)) (map (judged (end_verdict plan h)) all.ends)

abbrev pub uses_in : Plan → History → Expectations → List Item
uses_in plan h all = map (use_item (names_of plan)) (map (judged (use_verdict plan h)) all.uses)

-- the answers, then the ends, then the uses, each in the order of the file
abbrev pub items_in : Plan → History → Expectations → List Item
items_in plan h all = answers_in plan h all ++ (ends_in plan h all ++ uses_in plan h all)
