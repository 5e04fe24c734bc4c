-- Each field is a law of the folders.
use Rattle.std.proofs.Common.{arith}
use Rattle.pm_base.specs.declared.Cb.{Cb}
use Rattle.pm_laws.proofs.bounds.Begun.{begins_counted}
use Rattle.pm_laws.proofs.bounds.Bounded.{rooms}
use Rattle.pm_laws.proofs.bounds.Called.{called_room}
use Rattle.pm_laws.proofs.bounds.Due.{armed_soon}
use Rattle.pm_laws.proofs.bounds.Limits.{lines_bounded}
use Rattle.pm_laws.proofs.bounds.OfPlan.{all_short}
use Rattle.pm_laws.proofs.bounds.Rising.{within_lines}
use Rattle.pm_laws.proofs.counts.Held.{held_taken}
use Rattle.pm_laws.proofs.counts.Runs.{lawful_holds}
use Rattle.pm_laws.proofs.counts.Said as said
use Rattle.pm_laws.proofs.gets.Calling as calling
use Rattle.pm_laws.proofs.gets.Keeping as keeping
use Rattle.pm_laws.proofs.gets.Succeeding as succeeding
use Rattle.pm_laws.proofs.invariant.invariant_holds.Goals as goal
use Rattle.pm_laws.proofs.safe.Domains as domain
use Rattle.pm_laws.proofs.safe.Exclusive.{exclusive}
use Rattle.pm_laws.proofs.safe.Links.{links_hold}
use Rattle.pm_laws.proofs.safe.Nests as nest
use Rattle.pm_laws.proofs.safe.Parents as parents
use Rattle.pm_laws.proofs.safe.Safe.{safe}
use Rattle.pm_laws.proofs.safe.Suppliers as suppliers
use Rattle.pm_laws.proofs.stacks.Bottoms.{stacks_shallow}
use Rattle.pm_laws.proofs.stacks.Fitting.{delays_kept, stages_fit}
use Rattle.pm_laws.proofs.stacks.Stacks.{stacks_nest}
use Rattle.pm_laws.proofs.turns.Ending.{never_stuck}
use Rattle.pm_laws.proofs.turns.Idling.{one_idle}

pub returns : goal.returns
returns c = λ plan h lawful.
    let all = lawful_holds plan h lawful in
    record {
      entries = all.entries;
      places = all.places;
      status = λ d within. said.status_said plan h d lawful within;
      error = λ d within. said.error_said plan h d lawful within;
      allowed = λ d within. said.auto_said plan h d lawful within;
      idle = λ d within. said.idle_said plan h d lawful within;
      held = λ l row is. said.held_said plan h l row lawful is;
      domains = λ o within. said.on_said plan h o lawful within;
      usage = λ d within. omega (arith, said.usage_counted plan h d lawful within);
      usage_taken = λ d within. said.usage_counted plan h d lawful within;
      share = λ d within. omega (arith, said.share_counted plan h d lawful within);
      share_taken = λ d within. said.share_counted plan h d lawful within;
      begins = λ k d within. begins_counted plan h k d lawful within;
      sums = all.counts;
      links_counted = λ d s. held_taken plan h d s lawful;
      owners = all.owners;
      idles = one_idle plan h lawful;
      quiet = λ d is. all.settled d is;
      fit = λ a. stages_fit plan h a lawful;
      nested = stacks_nest plan h lawful;
      shallow = stacks_shallow plan h lawful;
      lines = lines_bounded plan h lawful;
      short = all_short plan h lawful;
      calls = λ c. called_room plan h c lawful;
      rooms = λ d. rooms plan h d lawful;
      delays = delays_kept plan h lawful;
      timers = λ d armed is. armed_soon plan h d armed lawful is;
      busy = λ d. (within_lines plan h lawful d).1;
      held_taken = λ l row is held. (links_hold plan h l row lawful is).runtime held;
      held_none = λ l row is suspended. (links_hold plan h l row lawful is).none suspended;
      domains_nest = λ o p above on. (nest.domains_nest plan h lawful).parents o.0 p on above;
      domain_stays = λ d. domain.domain_stays plan h d lawful;
      parent_stays = λ d p has. parents.parent_stays plan h d p lawful has;
      supplier_stays = λ l row is. suppliers.supplier_stays plan h l row lawful is;
      exclusive = exclusive plan h lawful;
      safe = safe plan h lawful;
      kept = keeping.kept plan h lawful;
      succeed = succeeding.succeed plan h lawful;
      alone = calling.one_call_alone plan h lawful;
      never_stuck = never_stuck plan h lawful;
    }
