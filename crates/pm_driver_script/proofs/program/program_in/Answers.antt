use Rattle.pm_driver_script.proofs.FitLemmas.{few_split}
use Rattle.pm_driver_script.proofs.program.program_in.Goals as goal

pub rows_of-requires-clause-few : goal.rows_of-requires-clause-few
rows_of-requires-clause-few c =
    let few = few_split c.args.found.now c.in_ok-places_in.field-0.items c.in_ok-ends_in.field-0.items c.requires.few c.in_ok-places_in.ensures c.in_ok-ends_in.ensures in
    record { places = few.0; ends = few.1 }
