use Rattle.std.proofs.Common.{◌≡◌, ◌∙◌, ◌++◌, List, ℕ, ap}
use Rattle.pm_expect.specs.text.Texts.{counts_text}
use Rattle.pm_expect_report.specs.trace.Plain.{failed_lines}
use Rattle.pm_expect_report.proofs.trace.plain.plain_text.Goals as goal

pub returns : goal.returns
returns c =
    let file = c.args.file.now in
    let trace = c.args.trace.now in
    let items = c.args.items.now in
    let lines : c.push_lines.new.text.items ≡ failed_lines file trace c.in_ok-places.places.items items =
    c.in_ok-push_lines.ensures ∙ ap (λ (x : List ℕ). x ++ failed_lines file trace c.deref.result.now items) c.new-text.ensures.items
    ∙ ap (λ (places : List ℕ). failed_lines file trace places items) c.deref.ensures.value in
    record {
      places = c.in_ok-places.places.items;
      entries = c.in_ok-places.ensures.entries;
      lines = c.in_ok-places.ensures.lines;
      is = c.in_ok-push_counts.ensures ∙ ap (λ (x : List ℕ). x ++ counts_text items) lines;
    }
