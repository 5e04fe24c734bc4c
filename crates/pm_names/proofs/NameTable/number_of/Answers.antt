-- The answer is the place in the list that callers see; what the other clauses say follows from that.
use Rattle.std.proofs.Common.{◌≡◌, true, bytes_eq, ◌∙◌, ap, subst}
use Rattle.pm_names.specs.Table.{place_of, all_distinct}
use Rattle.pm_names.proofs.TableLemmas.{position-map, answer_found, answer_missing, place_of_only}
use Rattle.pm_names.proofs.NameTable.number_of.Goals as goal

pub returns-clause-value : goal.returns-clause-value
returns-clause-value g c =
    c.place_in.ensures
    ∙ position-map (bytes_eq c.args.word.now) (λ name. name.now) c.self.inside.words.now
    ∙ ap (λ words. place_of words c.args.word.now) c.self.view_is

pub returns-clause-found : goal.returns-clause-found
returns-clause-found g c = answer_found _ _ _ (returns-clause-value g c)

pub returns-clause-missing : goal.returns-clause-missing
returns-clause-missing g c = answer_missing _ _ _ (returns-clause-value g c)

pub returns-clause-only : goal.returns-clause-only
returns-clause-only g c place here =
    let distinct = subst (λ words. all_distinct words ≡ true) c.self.view_is c.self.invariant.1 in
    returns-clause-value g c ∙ place_of_only _ _ place distinct here
