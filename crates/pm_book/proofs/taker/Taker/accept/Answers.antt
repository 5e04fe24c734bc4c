-- By what the judge says, for each list for which it stands.
use Rattle.std.proofs.Common.{List, ◌∷◌, subst}
use Rattle.pm_model.specs.declared.event.Line.{Line}
use Rattle.pm_model.specs.Lawful.{IsLawful}
use Rattle.pm_book.specs.Offering.{line_by}
use Rattle.pm_laws.specs.counts.Sums.{one}
use Rattle.pm_book.specs.Sheets.{begins_callback}
use Rattle.pm_book.specs.Takings.{TakerStandsFor, Takings}
use Rattle.pm_book.proofs.TakerLemmas.{kept_of, lists_one, stands_one}
use Rattle.pm_book.proofs.taker.Taker.accept.Goals as goal

pub invariant_of-self : goal.invariant_of-self
invariant_of-self c =
    let d = c.self.inside in
    lists_one d.judge c.accept.new.self d.lines c.keep.new.lines (line_by c.args.actor c.args.time c.args.event.now) c.self.invariant c.keep.ensures c.accept.ensures.plan c.requires.in_time c.accept.ensures.answer c.accept.ensures.taken

pub returns-clause-taken : goal.returns-clause-taken
returns-clause-taken c =
    let d = c.self.inside in
    let line = line_by c.args.actor c.args.time c.args.event.now in
    let Taken : Takings → Type 0 = λ (old : Takings). (h : List Line) → IsLawful old.judge.plan h → TakerStandsFor old h
    → TakerStandsFor (record { judge = c.accept.new.self; kept = kept_of c.keep.new.lines }) (line ∷ h) in
    subst Taken c.self.view_is (λ h lawful stands.
    stands_one d.judge c.accept.new.self d.lines c.keep.new.lines line (one (begins_callback line.event)) h c.keep.ensures (c.accept.ensures.taken h lawful stands.judged) stands)
