use Rattle.std.proofs.Common.{arith}
use Rattle.std.proofs.lemmas.List.Sums.{count_by-le-length}
use Rattle.pm_model.specs.Counted.{takes}
use Rattle.pm_laws.specs.bounds.Rooms.{begins}
use Rattle.pm_laws.proofs.bounds.counts_are_bounded.Goals as goal
use Rattle.pm_laws.proofs.bounds.Bounded as proof

pub returns-clause-depth : goal.returns-clause-depth
returns-clause-depth c = λ plan h d lawful. omega (arith, proof.depth_bounded plan h d lawful)

pub returns-clause-usage : goal.returns-clause-usage
returns-clause-usage c = proof.usage_bounded

pub returns-clause-share : goal.returns-clause-share
returns-clause-share c = proof.share_bounded

pub returns-clause-begun : goal.returns-clause-begun
returns-clause-begun c = proof.begun_bounded

pub returns-clause-gets : goal.returns-clause-gets
returns-clause-gets c = λ reason h d. count_by-le-length (λ line. takes reason d line.event) h

pub returns-clause-begins : goal.returns-clause-begins
returns-clause-begins c = λ k h d. count_by-le-length (λ line. begins k d line.event) h
