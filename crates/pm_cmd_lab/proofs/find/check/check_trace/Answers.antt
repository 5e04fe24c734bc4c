use Rattle.std.proofs.Common.{ℕ, List, subst, rules}
use Rattle.pm_expect_report.specs.trace.Checks.{IsToldOf}
use Rattle.pm_find.specs.trace.Texts.{files_of}
use Rattle.pm_cmd_lab.proofs.find.check.check_trace.Goals as goal

pub returns-in-Ok-clause-told : goal.returns-in-Ok-clause-told
returns-in-Ok-clause-told g c =
    let plan = c.args.plan in
    let expected = c.args.read.now.expected in
    let one = subst (λ (name : List ℕ). IsToldOf plan name c.as_slice.result.now expected (files_of c.as_bytes-2.result.now c.args.file) c.deref.result.now c.args.ktap c.args.notes c.in-Ok.found) c.as_bytes.ensures.value c.in-Ok.ensures in
    let two = subst (λ (text : List ℕ). IsToldOf plan c.args.expect.now text expected (files_of c.as_bytes-2.result.now c.args.file) c.deref.result.now c.args.ktap c.args.notes c.in-Ok.found) c.as_slice.ensures.value one in
    let three = subst (λ (name : List ℕ). IsToldOf plan c.args.expect.now c.args.read.now.text.items expected (files_of name c.args.file) c.deref.result.now c.args.ktap c.args.notes c.in-Ok.found) c.as_bytes-2.ensures.value two in
    record {
      bytes = c.in_ok-bytes.bytes.items;
      holds = record { told_so = c.in_ok-bytes.ensures.bytes; is_there = c.in_ok-bytes.ensures.there; within = search rules };
      told = subst (λ (b : List ℕ). IsToldOf plan c.args.expect.now c.args.read.now.text.items expected (files_of c.args.trace.now c.args.file) b c.args.ktap c.args.notes c.in-Ok.found) c.deref.ensures.value three;
    }
