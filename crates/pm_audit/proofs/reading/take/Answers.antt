-- By the format that the lines before tell.
use Rattle.std.proofs.Common.{◌≡◌, ◌∙◌, ℕ, List, subst, sym, true}
use Rattle.std.proofs.lemmas.Slice.Eq.{bytes_eq-Decides}
use Rattle.pm_model.specs.declared.event.Line.{Line}
use Rattle.pm_model.specs.NoWhy.{is_within_line}
use Rattle.pm_audit.specs.Auditing.{IsGood, IsTaken}
use Rattle.pm_audit.specs.declared.reading.Format.{Format}
use Rattle.pm_audit.proofs.Taking.{take_first, take_header, take_one, take_two, word}
use Rattle.pm_audit.proofs.reading.take.Goals as goal

pub returns-then-eq-clause-taken : goal.returns-then-eq-clause-taken
returns-then-eq-clause-taken g c = λ whole h within good.
    let a = c.args in
    let same : a.text.now ≡ word = (bytes_eq-Decides _ _).0 (sym c.eq.ensures ∙ c.if-eq.true) in
    take_header g.T.LineTaker.StandsFor a.reader.now.judge.plan whole a.text.now h a.reader.now (subst (λ (f : Format). IsGood g.T.LineTaker.StandsFor a.reader.now.judge.plan a.reader.now f whole h) c.in-Untold.is good) same

pub returns-else-eq-clause-taken : goal.returns-else-eq-clause-taken
returns-else-eq-clause-taken g c = λ whole h within good.
    let a = c.args in
    let other : a.text.now ≡ word → ⊥ = λ same. let told = c.eq.ensures ∙ (bytes_eq-Decides _ _).1 same in cc (told, c.if-eq.false) in
    take_first g.T.LineTaker.StandsFor a.reader.now.judge.plan whole a.text.now h a.reader.now c.read.new.self c.read.result (subst (λ (f : Format). IsGood g.T.LineTaker.StandsFor a.reader.now.judge.plan a.reader.now f whole h) c.in-Untold.is good) within other
    (c.read.ensures.read h good.lawful good.taken)

pub returns-in-One-clause-taken : goal.returns-in-One-clause-taken
returns-in-One-clause-taken g c =
    let a = c.args in
    let Takes : Format → Type 0 = λ f. (whole : List ℕ) (h : List Line) → is_within_line a.text.now ≡ true → IsGood g.T.LineTaker.StandsFor a.reader.now.judge.plan a.reader.now f whole h
    → IsTaken g.T.LineTaker.StandsFor a.reader.now.judge.plan whole h a.text.now f c.read-in-One.new.self c.read-in-One.result in
    subst Takes (sym c.in-One.is) (λ whole h within good.
    take_one g.T.LineTaker.StandsFor a.reader.now.judge.plan whole a.text.now h a.reader.now c.read-in-One.new.self c.read-in-One.result good within (c.read-in-One.ensures.read h good.lawful good.taken))

pub returns-in-Two-clause-taken : goal.returns-in-Two-clause-taken
returns-in-Two-clause-taken g c =
    let a = c.args in
    let Takes : Format → Type 0 = λ f. (whole : List ℕ) (h : List Line) → is_within_line a.text.now ≡ true → IsGood g.T.LineTaker.StandsFor a.reader.now.judge.plan a.reader.now f whole h
    → IsTaken g.T.LineTaker.StandsFor a.reader.now.judge.plan whole h a.text.now f c.read-in-Two.new.self c.read-in-Two.result in
    subst Takes (sym c.in-Two.is) (λ whole h within good.
    take_two g.T.LineTaker.StandsFor a.reader.now.judge.plan whole a.text.now h a.reader.now c.read-in-Two.new.self c.read-in-Two.result good within (c.read-in-Two.ensures.read h good.lawful good.taken))
