-- The nodes of a plan stand in one row, in their order.
use Rattle.std.proofs.Common.{ℕ, ◌≡◌, ◌+◌, ◌-◌, ◌<◌, ◌≤◌, Bool, true, false, length, nat_lt, if◌then◌else◌, refl, ap, arith, ◌∙◌}
use Rattle.std.proofs.lemmas.Bool.{cond-true, cond-false, false≢true, le-ltb, lt-ltb, ltb-true}
use Rattle.pm_model.specs.declared.plan.Plan.{Plan}
use Rattle.pm_model.specs.Islands.{Node, comes_before, the_caller, the_device, the_domain}
use Rattle.pm_islands.specs.Places.{has_node, node_at, nodes, place}

-- a node's place is in the row
pub is_placed : (plan : Plan) (a : Node) → has_node plan a ≡ true → place plan a < nodes plan
is_placed plan (the_device d) has = let below = ltb-true d (length plan.devices) has in omega arith
is_placed plan (the_caller c) has = let below = ltb-true c (length plan.callers) has in omega arith
is_placed plan (the_domain o) has = let below = ltb-true o (length plan.domains) has in omega arith

plus_less : (a b : ℕ) → (a + b) - a ≡ b
plus_less a b = omega arith

less_plus : (a i : ℕ) → a ≤ i → a + (i - a) ≡ i
less_plus a i within = omega arith

-- and it stands there
pub stands_there : (plan : Plan) (a : Node) → has_node plan a ≡ true → node_at plan (place plan a) ≡ a
stands_there plan (the_device d) has = cond-true _ _ _ has
stands_there plan (the_caller c) has =
    let below = ltb-true c (length plan.callers) has in
    cond-false _ _ _ (le-ltb (length plan.devices + c) (length plan.devices) (omega arith))
    ∙ cond-true _ _ _ (lt-ltb (length plan.devices + c) (length plan.devices + length plan.callers) (omega arith))
    ∙ ap the_caller (plus_less (length plan.devices) c)
stands_there plan (the_domain o) has =
    let i = length plan.devices + length plan.callers + o in
    cond-false _ _ _ (le-ltb (length plan.devices + length plan.callers + o) (length plan.devices) (omega arith))
    ∙ cond-false _ _ _ (le-ltb (length plan.devices + length plan.callers + o) (length plan.devices + length plan.callers) (omega arith))
    ∙ ap the_domain (plus_less (length plan.devices + length plan.callers) o)

-- what stands at a place
pub record StandsAt (plan : Plan) (i : ℕ) (a : Node) : Type 0 where
  pub has : has_node plan a ≡ true
  pub at : place plan a ≡ i

pub stands_at : (plan : Plan) (i : ℕ) → i < nodes plan → StandsAt plan i (node_at plan i)
stands_at plan i below = go (nat_lt i (length plan.devices)) refl (nat_lt i (length plan.devices + length plan.callers)) refl
  where
    go : (is_device : Bool) → nat_lt i (length plan.devices) ≡ is_device → (is_caller : Bool) → nat_lt i (length plan.devices + length plan.callers) ≡ is_caller
        → StandsAt plan i (if is_device then the_device i else if is_caller then the_caller (i - length plan.devices) else the_domain (i - (length plan.devices + length plan.callers)))
    go true is is_caller others = record { has = is; at = refl }
    go false is true others =
        record {
          has = lt-ltb (i - length plan.devices) (length plan.callers) (grind arith);
          at = less_plus (length plan.devices) i (grind arith);
        }
    go false is false others =
        record {
          has = lt-ltb (i - (length plan.devices + length plan.callers)) (length plan.domains) (grind arith);
          at = less_plus (length plan.devices + length plan.callers) i (grind arith);
        }

-- their order is that of their places
pub order_is : (plan : Plan) (a b : Node) → has_node plan a ≡ true → has_node plan b ≡ true → place plan a < place plan b → comes_before a b ≡ true
order_is plan (the_device a) (the_device b) here there less = lt-ltb a b less
order_is plan (the_caller a) (the_caller b) here there less = lt-ltb a b (omega arith)
order_is plan (the_domain a) (the_domain b) here there less = lt-ltb a b (omega arith)
order_is plan (the_device a) (the_caller b) here there less = refl
order_is plan (the_device a) (the_domain b) here there less = refl
order_is plan (the_caller a) (the_domain b) here there less = refl
order_is plan (the_caller a) (the_device b) here there less = let below = ltb-true b (length plan.devices) there in absurd (omega arith)
order_is plan (the_domain a) (the_device b) here there less = let below = ltb-true b (length plan.devices) there in absurd (omega arith)
order_is plan (the_domain a) (the_caller b) here there less = let below = ltb-true b (length plan.callers) there in absurd (omega arith)

pub is_order : (plan : Plan) (a b : Node) → has_node plan a ≡ true → has_node plan b ≡ true → comes_before a b ≡ true → place plan a < place plan b
is_order plan (the_device a) (the_device b) here there before = ltb-true a b before
is_order plan (the_caller a) (the_caller b) here there before = let less = ltb-true a b before in omega arith
is_order plan (the_domain a) (the_domain b) here there before = let less = ltb-true a b before in omega arith
is_order plan (the_device a) (the_caller b) here there before = let below = ltb-true a (length plan.devices) here in omega arith
is_order plan (the_device a) (the_domain b) here there before = let below = ltb-true a (length plan.devices) here in omega arith
is_order plan (the_caller a) (the_domain b) here there before = let below = ltb-true a (length plan.callers) here in omega arith
is_order plan (the_caller a) (the_device b) here there before = absurd (false≢true before)
is_order plan (the_domain a) (the_device b) here there before = absurd (false≢true before)
is_order plan (the_domain a) (the_caller b) here there before = absurd (false≢true before)
