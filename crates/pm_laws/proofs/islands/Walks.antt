-- Walks from node to node: they go on, they go back, and they keep every number that touching nodes share.
use Rattle.std.proofs.Common.{ℕ, ◌≡◌, ◌∙◌, refl, sym}
use Rattle.pm_model.specs.declared.plan.Plan.{Plan}
use Rattle.pm_model.specs.Islands.{Connected, IsLabelling, Node, against, along, here}

pub goes_further : (plan : Plan) (a b c : Node) → Connected plan a b → Connected plan b c → Connected plan a c
goes_further plan _ _ c (here a) further = further
goes_further plan _ _ c (along a b d t rest) further = along a b c t (goes_further plan b d c rest further)
goes_further plan _ _ c (against a b d t rest) further = against a b c t (goes_further plan b d c rest further)

pub goes_back : (plan : Plan) (a b : Node) → Connected plan a b → Connected plan b a
goes_back plan _ _ (here a) = here a
goes_back plan _ _ (along a b c t rest) = goes_further plan c b a (goes_back plan b c rest) (against b a a t (here a))
goes_back plan _ _ (against a b c t rest) = goes_further plan c b a (goes_back plan b c rest) (along b a a t (here a))

pub keeps_number : (plan : Plan) (f : Node → ℕ) → IsLabelling plan f → (a b : Node) → Connected plan a b → f a ≡ f b
keeps_number plan f shared _ _ (here a) = refl
keeps_number plan f shared _ _ (along a b c t rest) = shared a b t ∙ keeps_number plan f shared b c rest
keeps_number plan f shared _ _ (against a b c t rest) = sym (shared b a t) ∙ keeps_number plan f shared b c rest
