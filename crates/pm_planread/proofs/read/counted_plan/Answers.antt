-- The rows are those of a plan, and the plan that the text is has these rows.
use Rattle.std.proofs.Common.{sym, ap, ◌∙◌, Ok}
use Rattle.pm_planread.proofs.LawLemmas.{callers_are, contents_are, counted_ok, devices_differ, law_of, script_none}
use Rattle.pm_planread.proofs.read.counted_plan.Goals as goal

pub caller_rows-requires-clause-distinct : goal.caller_rows-requires-clause-distinct
caller_rows-requires-clause-distinct c = devices_differ c.args.raw.now c.args.devices c.requires.named c.requires.devices

pub invariant_of-result : goal.invariant_of-result
invariant_of-result c =
    let callers = callers_are c.args.raw.now c.args.devices c.in_ok-callers.callers c.as_slice.result.now c.requires.devices c.as_slice.ensures c.in_ok-callers.ensures.rows in
    record {
      law = law_of c.args.raw.now c.lines_of.result c.trace_of.result c.args.domains c.args.devices c.args.links c.in_ok-callers.callers
          c.lines_of.ensures c.trace_of.ensures c.requires.domains c.requires.devices c.requires.links callers
          c.requires.named c.requires.ordered c.in_ok-callers.ensures.valid;
    }

pub returns-clause-ok : goal.returns-clause-ok
returns-clause-ok c =
    let callers = callers_are c.args.raw.now c.args.devices c.in_ok-callers.callers c.as_slice.result.now c.requires.devices c.as_slice.ensures c.in_ok-callers.ensures.rows in
    let numbers = sym c.number_fault.ensures ∙ c.in_ok-refuse.ensures.none in
    let codes = sym c.code_fault.ensures ∙ c.in_ok-refuse-2.ensures.none in
    let scripts = script_none c.args.raw.now c.args.devices c.as_slice.result.now c.requires.devices c.as_slice.ensures c.in_ok-callers.ensures.none in
    counted_ok c.args.raw.now numbers codes scripts
    ∙ ap Ok (contents_are c.args.raw.now c.lines_of.result c.trace_of.result c.args.domains c.args.devices c.args.links c.in_ok-callers.callers
    c.lines_of.ensures c.trace_of.ensures c.requires.domains c.requires.devices c.requires.links callers)
