use Rattle.std.proofs.Common.{ℕ, List, subst, rules}
use Rattle.pm_cmd_lab.specs.picture.Drawing.{IsDrawnOf}
use Rattle.pm_cmd_lab.proofs.picture.telling.draw_file.Goals as goal

pub returns-in-Ok-clause-drawn : goal.returns-in-Ok-clause-drawn
returns-in-Ok-clause-drawn g c =
    let of_file = subst (λ (name : List ℕ). IsDrawnOf c.args.plan name c.deref.result.now c.args.json c.in-Ok.drawn) c.as_bytes.ensures.value c.in-Ok.ensures in
    record {
      bytes = c.in_ok-bytes.bytes.items;
      holds = record { told_so = c.in_ok-bytes.ensures.bytes; is_there = c.in_ok-bytes.ensures.there; within = search rules };
      drawn_of = subst (λ (b : List ℕ). IsDrawnOf c.args.plan c.args.trace.now b c.args.json c.in-Ok.drawn) c.deref.ensures.value of_file;
    }
