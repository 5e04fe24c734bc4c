-- What a state is filled with.
use Rattle.std.proofs.Common.{ℕ, zero, suc, ◌≡◌, ◌+◌, ◌<◌, ◌≤◌, ◌^◌, lit<, List, [], ◌∷◌, ◌++◌, length, map, take, option_map, Option, Some, None, slice_get, Bool, ℤ, refl, sym, ◌∙◌, ap, arith}
use Rattle.std.proofs.lemmas.List.{take_all}
use Rattle.std.proofs.lemmas.Option.{slice_get-map}
use Rattle.std.specs.Option.{option_and_then, option_map_or}
use Rattle.pm_laws.proofs.bounds.Limits.{few_commands}
use Rattle.pm_model.specs.declared.plan.Plan.{Plan}
use Rattle.pm_model.specs.declared.rows.CallerRow.{CallerRow}
use Rattle.pm_model.specs.declared.views.Device.{Device}
use Rattle.pm_model.specs.Views.{Views}
use Rattle.pm_driver_flat.specs.Flat.{begun_so}
use Rattle.pm_driver_orders.specs.declared.Position.{Position}
use Rattle.pm_driver_orders.specs.declared.Position.TheVariants.{At}
use Rattle.pm_driver_orders.specs.Drivers.{Driver, next_place, places_from, ways_at}
use Rattle.pm_driver_orders.specs.Programs.{goes_on_at}
use Rattle.pm_model.specs.World.{World}
use Rattle.pm_driver_rules.specs.declared.node.DriverNode.{DriverNode}
use Rattle.pm_driver_rules.specs.Nodes.{driver_snapshot_of}
use Rattle.pm_driver_search.specs.declared.pose.Pose.{Pose}
use Rattle.pm_driver_search.specs.Poses.{IsPose, world_by}
use Rattle.pm_driver_search.specs.Standing.{world_posed}
use Rattle.pm_driver_orders.specs.Programs.{Ways}
use Rattle.pm_driver_script.specs.declared.program.ProgramPlace.{ProgramPlace}
use Rattle.pm_driver_rules.specs.declared.rules.CallerRules.{CallerRules}
use Rattle.pm_driver_rules.specs.declared.rules.DriverRules.{DriverRules}
use Rattle.pm_driver_rules.specs.GoingOn.{driver_of, ways_of}

pub behind_few : (plan : Plan) (c : ℕ) → option_map_or (λ row. length row.script) (slice_get plan.callers c) 0 < 2 ^ 32
behind_few plan c = go (slice_get plan.callers c) refl
  where
    go : (o : Option CallerRow) → slice_get plan.callers c ≡ o → option_map_or (λ row. length row.script) o 0 < 2 ^ 32
    go None is = lit< tt
    go (Some row) is = let few = few_commands plan c row is in let end : 1000 < 2 ^ 32 = lit< tt in omega (arith, few, end)

places_next : (f : ℕ → ℕ) (n : ℕ) (xs : List ℕ) (i : ℕ) → i < length xs → places_from f n (take (suc i) xs) ≡ places_from f n (take i xs) ++ f (n + i) ∷ []
places_next f n [] i lt = absurd (omega (arith, lt))
places_next f n (x ∷ xs) zero lt = let e : n ≡ n + 0 = omega arith in ap (λ k. f k ∷ []) e
places_next f n (x ∷ xs) (suc i) lt =
    let e : n + 1 + i ≡ n + suc i = omega arith in
    ap (λ l. f n ∷ l) (places_next f (n + 1) xs i (omega (arith, lt)) ∙ ap (λ k. places_from f (n + 1) (take i xs) ++ f k ∷ []) e)

pub called_more : (f : ℕ → ℕ) (xs : List ℕ) (i n : ℕ) (out pushed : List ℕ) → i < length xs → out ≡ places_from f 0 (take i xs) → pushed ≡ out ++ n ∷ [] → n ≡ f i → pushed ≡ places_from f 0 (take (i + 1) xs)
called_more f xs i n out pushed lt is more next =
    let up : suc i ≡ i + 1 = omega arith in
    let none : 0 + i ≡ i = omega arith in
    more ∙ ap (λ l. l ++ n ∷ []) is ∙ ap (λ k. places_from f 0 (take i xs) ++ k ∷ []) next ∙ ap (λ k. places_from f 0 (take i xs) ++ f k ∷ []) (sym none) ∙ sym (places_next f 0 xs i lt) ∙ ap (λ k. places_from f 0 (take k xs)) up

pub called_whole : (f : ℕ → ℕ) (xs : List ℕ) (i : ℕ) (out : List ℕ) → length xs ≤ i → out ≡ places_from f 0 (take i xs) → out ≡ places_from f 0 xs
called_whole f xs i out le is = is ∙ ap (places_from f 0) (take_all i xs le)

-- where a program goes on from a place of a caller
pub ways_found : (rules : DriverRules) (c k : ℕ) → ways_at (driver_of rules) c k ≡ option_map (ways_of rules.plan.now) (option_and_then (λ caller. slice_get caller.program.now.places k) (slice_get rules.callers.now c))
ways_found rules c k = ap (option_and_then (λ (program : List Ways). slice_get program k)) (slice_get-map (λ caller. map (ways_of rules.plan.now) caller.program.now.places) rules.callers.now c) ∙ go (slice_get rules.callers.now c)
  where
    go : (o : Option CallerRules) → option_and_then (λ (program : List Ways). slice_get program k) (option_map (λ caller. map (ways_of rules.plan.now) caller.program.now.places) o) ≡ option_map (ways_of rules.plan.now) (option_and_then (λ caller. slice_get caller.program.now.places k) o)
    go None = refl
    go (Some caller) = slice_get-map (ways_of rules.plan.now) caller.program.now.places k

-- so a call returns
pub returns_is : (rules : DriverRules) (c k : ℕ) (place : ProgramPlace) (v : Views) (code : ℤ) (to : List ℕ) → Some place ≡ option_and_then (λ caller. slice_get caller.program.now.places k) (slice_get rules.callers.now c) → to ≡ goes_on_at (ways_of rules.plan.now place) v code
    → map At to ≡ option_map_or (λ ways. map At (goes_on_at ways v code)) (ways_at (driver_of rules) c k) []
returns_is rules c k place v code to found is =
    ap (map At) is ∙ sym (ap (λ o. option_map_or (λ ways. map At (goes_on_at ways v code)) o []) (ways_found rules c k ∙ ap (option_map (ways_of rules.plan.now)) (sym found)))

pub begun_is : (n m : ℕ) (xs ys out : List Device) → out ≡ map (begun_so n) xs → n ≡ m → xs ≡ ys → out ≡ map (begun_so m) ys
begun_is n m xs ys out is same all = is ∙ ap (λ k. map (begun_so k) xs) same ∙ ap (map (begun_so m)) all

pub called_is : (D : Driver) (ps qs : List Position) (v : Views) (xs ys out : List ℕ) → ps ≡ qs → xs ≡ ys → out ≡ places_from (next_place D ps v) 0 xs → out ≡ places_from (next_place D qs v) 0 ys
called_is D ps qs v xs ys out p x is = is ∙ ap (λ l. places_from (next_place D l v) 0 xs) p ∙ ap (places_from (next_place D qs v) 0) x

-- a pose of a snapshot gives the world as it goes on
pub posed_by : (D : Driver) (n : DriverNode) (failing : Bool) (p : Pose) → IsPose D (driver_snapshot_of n) failing p → world_by n p ≡ world_posed D (driver_snapshot_of n) failing
posed_by D n failing p is =
    let w : World = (driver_snapshot_of n).snapshot.world in
    λ i. record w { views = record w.views { devices = is.devices i }; called = is.called i }
