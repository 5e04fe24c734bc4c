-- By the line that is offered, or the first newline.
use Rattle.std.proofs.Common.{◌≡◌, ◌∙◌, ◌++◌, ◌∷◌, ℕ, List, true, ap, drop, subst, sym}
use Rattle.pm_model.specs.NoWhy.{is_within_line}
use Rattle.pm_audit.proofs.Newlines.{no_newline, splits}
use Rattle.pm_audit.proofs.Telling.{reads_line}
use Rattle.pm_audit.proofs.auditor.Auditor.take_first.Goals as goal

pub end_line-requires : goal.end_line-requires
end_line-requires g c =
    subst (λ (l : List ℕ). is_within_line l ≡ true) (sym c.split_at.ensures.front) (splits c.args.bytes.now c.in-Some.at c.in-Some.ensures).within

pub returns-in_default-clause-none : goal.returns-in_default-clause-none
returns-in_default-clause-none g c = no_newline c.args.bytes.now c.in_default.ensures

pub returns-clause-read : goal.returns-clause-read
returns-clause-read g c =
    let bytes = c.args.bytes.now in
    let line = c.split_at.result.0.now in
    let behind = c.split_at-2.result.1.now in
    let at = c.in-Some.at in
    let s = splits bytes at c.in-Some.ensures in
    let rest : behind ≡ drop 1 (drop at bytes) = c.split_at-2.ensures.back ∙ ap (λ (l : List ℕ). drop 1 l) c.split_at.ensures.back in
    let is : bytes ≡ line ++ (10 ∷ behind) =
    s.all ∙ (ap (λ (l : List ℕ). l ++ (10 ∷ drop 1 (drop at bytes))) (sym c.split_at.ensures.front) ∙ ap (λ (l : List ℕ). line ++ (10 ∷ l)) (sym rest)) in
    reads_line g.T.LineTaker.StandsFor bytes line behind c.args.self.now c.end_line.new.self is c.end_line.ensures.stands c.end_line.ensures.plan c.end_line.ensures.same
