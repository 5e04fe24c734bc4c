-- The lines of two books are in time.
use Rattle.std.proofs.Common.{List, [], ◌∷◌, reverse, arith}
use Rattle.std.proofs.lemmas.List.Elements.{All-cons}
use Rattle.pm_model.specs.declared.event.Line.{Line}
use Rattle.pm_model.specs.declared.plan.Plan.{Plan}
use Rattle.pm_model.specs.History.{History}
use Rattle.pm_model.specs.Lawful.{IsLawful}
use Rattle.pm_laws.specs.islands.Apart.{IsInTime}
use Rattle.pm_islands.specs.Next.{AreInTime}

lawful_in_time : (plan : Plan) (h : History) → IsLawful plan h → IsInTime h
lawful_in_time plan [] lawful = tt
lawful_in_time plan (line ∷ h) lawful = (lawful.0.in_time, lawful_in_time plan h lawful.2)

pub two_in_time : (p q : Plan) (a b : List Line) → IsLawful p (reverse a) → IsLawful q (reverse b) → AreInTime (a ∷ b ∷ [])
two_in_time p q a b first second =
    All-cons (λ l. IsInTime (reverse l)) a (b ∷ []) (lawful_in_time p (reverse a) first)
    (All-cons (λ l. IsInTime (reverse l)) b [] (lawful_in_time q (reverse b) second) (λ k d below. absurd (omega (arith, below))))
