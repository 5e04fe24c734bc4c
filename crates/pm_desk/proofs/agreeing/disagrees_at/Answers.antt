use Rattle.std.proofs.Common.{◌≡◌, ◌≢◌, ◌<◌, ◌∙◌, List, ap, length, slice_get, subst}
use Rattle.pm_desk.proofs.AgreeLemmas.{agrees_by, differs_by, if_none, place_within}
use Rattle.pm_desk.specs.Agreeing.{Agrees, AreSameBelow, compared}
use Rattle.pm_desk.specs.Slips.{kept_by, pass_of, stopped_of}
use Rattle.pm_desk.specs.declared.pass.Receipt.{Receipt}
use Rattle.pm_desk.proofs.agreeing.disagrees_at.Goals as goal

pub returns-in_err-place-clause-agrees : goal.returns-in_err-place-clause-agrees
returns-in_err-place-clause-agrees c =
    let o = pass_of c.args.passes.now c.args.caller in
    let found = c.args.found.now in
    let kept : c.kept_by-kept.result.now ≡ kept_by o = c.kept_by-kept.ensures in
    let most : c.compared-most.result ≡ compared (stopped_of o) (length (kept_by o)) (length found) =
    c.compared-most.ensures ∙ ap (λ s. compared s (length c.kept_by-kept.result.now) (length found)) c.stopped_of.ensures ∙ ap (λ (l : List Receipt). compared (stopped_of o) (length l) (length found)) kept in
    let same = subst (AreSameBelow (kept_by o) found) most (subst (λ (l : List Receipt). AreSameBelow l found c.compared-most.result) kept c.in_err-place.ensures.none) in
    if_none c.from_residual.result (Agrees o found) (agrees_by o found same)

pub returns-clause-differs : goal.returns-clause-differs
returns-clause-differs c =
    let o = pass_of c.args.passes.now c.args.caller in
    let found = c.args.found.now in
    let place = c.in_ok-place.place in
    let kept : c.kept_by-kept.result.now ≡ kept_by o = c.kept_by-kept.ensures in
    let most : c.compared-most.result ≡ compared (stopped_of o) (length (kept_by o)) (length found) =
    c.compared-most.ensures ∙ ap (λ s. compared s (length c.kept_by-kept.result.now) (length found)) c.stopped_of.ensures ∙ ap (λ (l : List Receipt). compared (stopped_of o) (length l) (length found)) kept in
    differs_by o found place (subst (λ n. place < n) most c.in_ok-place.ensures.below)
    (subst (λ (l : List Receipt). slice_get l place ≢ slice_get found place) kept c.in_ok-place.ensures.differs)

pub returns-clause-in_range : goal.returns-clause-in_range
returns-clause-in_range c = place_within c.kept_by-kept.result.now c.args.found.now c.in_ok-place.place c.in_ok-place.ensures.before c.in_ok-place.ensures.differs
