use Rattle.pm_driver_search.proofs.places.all_after.Goals as goal

pub returns-in-Caller : goal.returns-in-Caller
returns-in-Caller c = λ v same. rw c.in-Caller.is (c.in_ok-all.ensures v same)
