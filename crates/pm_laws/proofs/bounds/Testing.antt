-- The test of the three moments is exact.
use Rattle.std.proofs.Common.{ℕ, ◌≡◌, ◌≤◌, ◌⊎◌, inl, inr, Bool, true, false, ◌&&◌, ◌||◌, List, [], ◌∷◌, Option, Some, None, nat_le, refl, arith}
use Rattle.std.specs.List.{list_any}
use Rattle.std.specs.Option.{option_map_or}
use Rattle.std.proofs.lemmas.Bool.{and_parts}
use Rattle.std.proofs.lemmas.Bool.Decides.{nat_tests}
use Rattle.pm_model.specs.declared.event.Event.{Event}
use Rattle.pm_model.specs.declared.event.Line.{Line}
use Rattle.pm_model.specs.declared.plan.Plan.{Plan}
use Rattle.pm_model.specs.declared.stage.Stage.{Stage}
use Rattle.pm_model.specs.Lawful.{Permits, last_time}
use Rattle.pm_model.specs.NoWhy.{IsPermittedSometime, at_time}
use Rattle.pm_model.specs.World.{due, row, stage_at, world}
use Rattle.pm_laws.specs.bounds.Times.{IsPermittedAt, IsSame, event_at, is_permitted_at, moments_at, permitted_some_time}
use Rattle.pm_laws.proofs.bounds.Deciding.{event_move, found_at, move_event}

some_same : (same : Event → Event → Bool) → IsSame same → (e : Event) (x : Option Event) → option_map_or (same e) x false ≡ true → x ≡ Some e
some_same same is e None p = cc
some_same same is e (Some e') p = let one = is.alike e e' p in rw one refl

told : (same : Event → Event → Bool) → IsSame same → (plan : Plan) (h : List Line) (line : Line) (s : Stage) (u : ℕ)
    → stage_at plan (world plan h) line.actor ≡ Some s
    → is_permitted_at same plan (world plan h).views (last_time h) line.event s u ≡ true → Permits plan h (at_time line u)
told same is plan h line s u stands p =
    let v = (world plan h).views in
    let a = and_parts (nat_le (last_time h) u) (nat_le (due plan v s) u && option_map_or (same line.event) (event_at plan v s u) false) p in
    let b = and_parts (nat_le (due plan v s) u) (option_map_or (same line.event) (event_at plan v s u) false) a.1 in
    let is_due : due plan v s ≤ u = grind (arith, nat_tests) in
    let m = event_move (row plan v s u) (due plan v s) u line.event (some_same same is line.event (event_at plan v s u) b.1) is_due in
    record { stage = s; stands = stands; change = m.0; next = m.1; gives = m.2; in_time = grind (arith, nat_tests) }

tells : (same : Event → Event → Bool) → IsSame same → (plan : Plan) (h : List Line) (line : Line) (s : Stage) (u : ℕ)
    → stage_at plan (world plan h) line.actor ≡ Some s → Permits plan h (at_time line u)
    → is_permitted_at same plan (world plan h).views (last_time h) line.event s u ≡ true
tells same is plan h line s u stands p =
    let v = (world plan h).views in
    let stood : stage_at plan (world plan h) line.actor ≡ Some p.stage = p.stands in
    let one : s ≡ p.stage = cc in
    let m = move_event (row plan v p.stage u) (due plan v p.stage) u line.event p.change p.next p.gives in
    let is_due : nat_le (due plan v p.stage) u ≡ true = grind (arith, nat_tests) in
    let after : last_time h ≤ u = p.in_time in
    let late : nat_le (last_time h) u ≡ true = grind (arith, nat_tests) in
    let event : event_at plan v p.stage u ≡ Some line.event = m.0 in
    rw (one, late, is_due, event) (is.itself line.event)

or_case : (b c : Bool) → (b || c) ≡ true → (b ≡ true) ⊎ (c ≡ true)
or_case true c p = inl refl
or_case false c p = inr p

or_last : (b c : Bool) → c ≡ true → (b || c) ≡ true
or_last true c p = refl
or_last false c p = p

any_told : (same : Event → Event → Bool) → IsSame same → (plan : Plan) (h : List Line) (line : Line) (s : Stage)
    → stage_at plan (world plan h) line.actor ≡ Some s → (l : List ℕ)
    → list_any (is_permitted_at same plan (world plan h).views (last_time h) line.event s) l ≡ true → IsPermittedSometime plan h line
any_told same is plan h line s stands [] p = cc
any_told same is plan h line s stands (u ∷ l) p =
    let test = is_permitted_at same plan (world plan h).views (last_time h) line.event s in
    elim (or_case (test u) (list_any test l) p) [
      | inl e ↦ (u, told same is plan h line s u stands e)
      | inr e ↦ any_told same is plan h line s stands l e
    ]

any_tells : (same : Event → Event → Bool) → IsSame same → (plan : Plan) (h : List Line) (line : Line) (s : Stage) (t : ℕ)
    → stage_at plan (world plan h) line.actor ≡ Some s → (l : List ℕ) → IsPermittedAt plan h line t l
    → list_any (is_permitted_at same plan (world plan h).views (last_time h) line.event s) l ≡ true
any_tells same is plan h line s t stands [] p = elim p [ ]
any_tells same is plan h line s t stands (u ∷ l) (inl p) = rw (tells same is plan h line s u stands p.1) refl
any_tells same is plan h line s t stands (u ∷ l) (inr p) =
    let test = is_permitted_at same plan (world plan h).views (last_time h) line.event s in
    or_last (test u) (list_any test l) (any_tells same is plan h line s t stands l p)

pub test_sound : (same : Event → Event → Bool) → IsSame same → (plan : Plan) (h : List Line) (line : Line)
    → permitted_some_time same plan h line ≡ true → IsPermittedSometime plan h line
test_sound same is plan h line p = go (stage_at plan (world plan h) line.actor) refl p
  where
    go : (x : Option Stage) → stage_at plan (world plan h) line.actor ≡ x
        → option_map_or (λ s. list_any (is_permitted_at same plan (world plan h).views (last_time h) line.event s) (moments_at plan (world plan h).views (last_time h) line.event s)) x false ≡ true
        → IsPermittedSometime plan h line
    go None e q = cc
    go (Some s) e q = any_told same is plan h line s e (moments_at plan (world plan h).views (last_time h) line.event s) q

pub test_complete : (same : Event → Event → Bool) → IsSame same → (plan : Plan) (h : List Line) (line : Line)
    → IsPermittedSometime plan h line → permitted_some_time same plan h line ≡ true
test_complete same is plan h line (t, p) =
    let stands : stage_at plan (world plan h) line.actor ≡ Some p.stage = p.stands in
    rw stands (any_tells same is plan h line p.stage t stands (moments_at plan (world plan h).views (last_time h) line.event p.stage) (found_at plan h line t p))
