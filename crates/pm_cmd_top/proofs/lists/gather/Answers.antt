use Rattle.std.proofs.Common.{◌≡◌, arith, length, subst, sym}
use Rattle.std.proofs.lemmas.Option.{MatchOption-at_none, MatchOption-at_some}
use Rattle.pm_model.specs.Islands.{Numbering}
use Rattle.pm_cmd_top.specs.Gathering.{AllFinish, SomeIsCut, not_one_each, one_is_cut}
use Rattle.pm_cmd_top.proofs.ComesLemmas.{each_whole, gathered_by}
use Rattle.pm_cmd_top.proofs.lists.gather.Goals as goal

pub returns-then-len-count-clause-gathered : goal.returns-then-len-count-clause-gathered
returns-then-len-count-clause-gathered c = not_one_each c.islands-count.result c.islands-count.ensures (λ same. c.if-len-count.true (omega (arith, c.len.ensures, c.args.books.ok.0, same)))

pub returns-in_default-clause-gathered : goal.returns-in_default-clause-gathered
returns-in_default-clause-gathered c =
    one_is_cut (MatchOption-at_none (SomeIsCut c.args.plan.now c.args.books.items) (λ done. AllFinish c.args.plan.now c.args.books.items done.items) c.in_default.is c.in_ok-done.ensures)

pub gather_whole-requires-clause-each : goal.gather_whole-requires-clause-each
gather_whole-requires-clause-each c =
    let plan = c.args.plan.now in
    let books = c.args.books.items in
    let all = MatchOption-at_some (SomeIsCut plan books) (λ done. AllFinish plan books done.items) c.in-Some.done c.in-Some.is c.in_ok-done.ensures in
    each_whole plan books c.as_slice.result.now (subst (AllFinish plan books) (sym c.as_slice.ensures.value) all).each

pub returns-clause-gathered : goal.returns-clause-gathered
returns-clause-gathered c =
    let plan = c.args.plan.now in
    let books = c.args.books.items in
    let all = MatchOption-at_some (SomeIsCut plan books) (λ done. AllFinish plan books done.items) c.in-Some.done c.in-Some.is c.in_ok-done.ensures in
    let as_many : c.islands-count.result ≡ length books = omega (arith, c.if-len-count.false, c.len.ensures, c.args.books.ok.0) in
    let whole = c.gather_whole.ensures in
    gathered_by (λ v. v.items) plan books c.as_slice.result.now c.gather_whole.result (subst (Numbering plan) as_many c.islands-count.ensures) (subst (AllFinish plan books) (sym c.as_slice.ensures.value) all) whole.few whole.merged whole.more
