-- By what is said of the line.
use Rattle.std.proofs.Common.{◌≡◌, ◌∙◌, ◌+◌, ℕ, Some, ap, refl, sym}
use Rattle.pm_audit.specs.declared.auditor.BadLine.{BadLine}
use Rattle.pm_audit.proofs.Telling.{line_bad, line_good, says_on}
use Rattle.pm_audit.proofs.auditor.Auditor.end_line.Goals as goal

pub returns-then-is_some-clause-stands : goal.returns-then-is_some-clause-stands
returns-then-is_some-clause-stands g c = λ b says. says_on g.T.LineTaker.StandsFor c.args.self.now b _ (sym c.is_some.ensures ∙ c.if-is_some.true) says

pub returns-in-Some-clause-stands : goal.returns-in-Some-clause-stands
returns-in-Some-clause-stands g c = λ b says.
    let a = c.args.self.now in
    let found : ℕ → BadLine = λ (n : ℕ). record { line = n; why = c.in-Some.why } in
    let bad : Some (found (c.from-line.result + 1)) ≡ Some (found (a.reader.judge.lines + 1)) = ap (λ n. Some (found (n + 1))) (c.from-line.ensures ∙ c.lines.ensures) in
    line_bad g.T.LineTaker.StandsFor a (record { reader = c.end_line.new.reader; format = c.end_line.new.format; rest = c.end_line.new.rest; bad = Some (found (c.from-line.result + 1)) }) b c.args.piece.now c.in-Some.why (sym c.is_some.ensures ∙ c.if-is_some.false) c.in-Some.ensures.taken c.in-Some.ensures.plan bad says

pub returns-in_default-clause-stands : goal.returns-in_default-clause-stands
returns-in_default-clause-stands g c = λ b says.
    let a = c.args.self.now in
    line_good g.T.LineTaker.StandsFor a (record { reader = c.end_line.new.reader; format = c.end_line.new.format; rest = c.end_line.new.rest; bad = a.bad }) b c.args.piece.now (sym c.is_some.ensures ∙ c.if-is_some.false) c.in_default.ensures.taken c.in_default.ensures.rest c.in_default.ensures.plan refl says
