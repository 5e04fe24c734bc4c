use Rattle.std.proofs.Common.{ℕ, List, subst, rules}
use Rattle.pm_find.specs.trace.Telling.{IsToldOf}
use Rattle.pm_find.specs.trace.Texts.{files_of}
use Rattle.pm_find.proofs.trace.trace.find.Goals as goal

pub returns-in-Ok-clause-told : goal.returns-in-Ok-clause-told
returns-in-Ok-clause-told g c =
    let told_of_file =
    subst (λ (name : List ℕ). IsToldOf c.args.plan (files_of name c.args.file) c.deref.result.now c.args.notes c.in-Ok.found) c.as_bytes.ensures.value c.in-Ok.ensures in
    record {
      bytes = c.in_ok-bytes.bytes.items;
      holds = record { told_so = c.in_ok-bytes.ensures.bytes; is_there = c.in_ok-bytes.ensures.there; within = search rules };
      told = subst (λ (b : List ℕ). IsToldOf c.args.plan (files_of c.args.trace.now c.args.file) b c.args.notes c.in-Ok.found) c.deref.ensures.value told_of_file;
    }
