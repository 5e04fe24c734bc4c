-- How many stages stand in a place once its upper one has given way.
use Rattle.std.proofs.Common.{ℕ, zero, suc, ◌≡◌, ◌+◌, ◌-◌, ◌<◌, ◌≤◌, ◌&&◌, true, List, [], ◌∷◌, length, map, max, get_or, is_some, ℤ, Option, Some, None, if◌then◌else◌, refl, ap, arith, nat_eq}
use Rattle.std.proofs.lemmas.List.{length-append}
use Rattle.std.specs.List.{All}
use Rattle.std.specs.Option.{option_map_or}
use Rattle.pm_base.specs.declared.DevId.{DevId}
use Rattle.pm_laws.specs.stacks.Depth.{greatest, longest_chain, longest_of, of_supplier}
use Rattle.pm_model.specs.declared.plan.Plan.{Plan}
use Rattle.pm_model.specs.declared.rows.LinkRow.{LinkRow}
use Rattle.pm_model.specs.declared.stage.Then.{Then}
use Rattle.pm_model.specs.PlanRows.{parent}
use Rattle.pm_state.specs.Places.{HasRoom}
use Rattle.pm_laws.proofs.stacks.Tests.{same_self}
use Rattle.pm_model.specs.declared.stage.Await.TheVariants as await
use Rattle.pm_model.specs.declared.stage.Handed.{Handed}
use Rattle.pm_model.specs.declared.stage.Handed.TheVariants as handed
use Rattle.pm_model.specs.declared.stage.Stage.{Stage}
use Rattle.pm_model.specs.declared.stage.Stage.TheVariants as stage
use Rattle.pm_model.specs.Handing.{after_back, after_code, after_then, gone_on, take_code, with_code}

gone_short : (h : Handed) (rest : List Stage) → length (gone_on h rest) ≤ suc (length rest)
gone_short (handed.Goes s) rest = omega arith
gone_short (handed.Back c) rest = omega arith

with_short : (stack : List Stage) (c : ℤ) → length (with_code stack c) ≤ length stack
with_short [] c = omega arith
with_short (stage.Await a ∷ rest) c = gone_short (take_code a c) rest
with_short (stage.Idle s ∷ rest) c = omega arith
with_short (stage.Suspend s ∷ rest) c = omega arith
with_short (stage.Resume s ∷ rest) c = omega arith
with_short (stage.Helper s ∷ rest) c = omega arith
with_short (stage.Control s ∷ rest) c = omega arith

pub code_short : (rest : List Stage) (c : ℤ) → length (after_code rest c) ≤ length rest
code_short [] c = omega arith
code_short (stage.Await (await.ResumePut r kept) ∷ rest) c = let less = code_short rest kept in omega (arith, less)
code_short (s ∷ rest) c = with_short (s ∷ rest) c

after_short : (back : Option ℤ) (push rest : List Stage) → length (after_back back push rest) ≤ (if is_some back then 0 else length push) + length rest
after_short None push rest = omega (arith, length-append push rest)
after_short (Some c) push rest = omega (arith, code_short rest c)

pub after_length : (next : Then) (rest : List Stage) → length (after_then next rest) ≤ (if is_some next.back then 0 else length next.push) + length rest
after_length next rest = after_short next.back next.push rest

-- there is room for the stages of each place
pub room_of : {V : Type 0} (f : V → List Stage) (room : ℕ) (xs : List V) → All (λ v. length (f v) ≤ room) xs → HasRoom room (map f xs)
room_of f room [] all i = omega arith
room_of f room (x ∷ xs) all zero = all 0 x (omega arith)
room_of f room (x ∷ xs) all (suc i) = room_of f room xs (λ j d lt. all (suc j) d (omega (arith, lt))) i

-- a chain is one longer than that of a parent, and of a supplier
greatest_in : {A : Type 0} (f : A → ℕ) (xs : List A) (i : ℕ) (d : A) → i < length xs → f (get_or xs i d) ≤ greatest f xs
greatest_in f [] i d lt = absurd (omega (arith, lt))
greatest_in f (x ∷ xs) zero d lt = omega arith
greatest_in f (x ∷ xs) (suc i) d lt = let rest = greatest_in f xs i d (omega (arith, lt)) in omega (arith, rest)

one_step : (plan : Plan) (steps : ℕ) (d : DevId) → 0 < steps → longest_of plan steps d ≡ 1 + max (option_map_or (longest_of plan (steps - 1)) (parent plan d) 0) (greatest (of_supplier d (longest_of plan (steps - 1))) plan.links)
one_step plan zero d some = absurd (omega (arith, some))
one_step plan (suc n) d some = let e : n ≡ suc n - 1 = omega arith in ap (λ m. 1 + max (option_map_or (longest_of plan m) (parent plan d) 0) (greatest (of_supplier d (longest_of plan m)) plan.links)) e

pub by_none : (plan : Plan) (steps : ℕ) (d : DevId) → 0 < steps → 0 + 1 ≤ longest_of plan steps d
by_none plan steps d some = omega (arith, one_step plan steps d some)

pub by_parent : (plan : Plan) (steps : ℕ) (d p : DevId) (n : ℕ) → 0 < steps → parent plan d ≡ Some p → n ≤ longest_of plan (steps - 1) p → n + 1 ≤ longest_of plan steps d
by_parent plan steps d p n some is le =
    let up : option_map_or (longest_of plan (steps - 1)) (parent plan d) 0 ≡ longest_of plan (steps - 1) p = ap (λ o. option_map_or (longest_of plan (steps - 1)) o 0) is in
    omega (arith, one_step plan steps d some, up, le)

pub by_link : (plan : Plan) (steps i : ℕ) (d : DevId) (row : LinkRow) (n : ℕ) → 0 < steps → i < length plan.links → (get_or plan.links i row).consumer ≡ d → (get_or plan.links i row).pm_runtime ≡ true → n ≤ longest_of plan (steps - 1) (get_or plan.links i row).supplier → n + 1 ≤ longest_of plan steps d
by_link plan steps i d row n some lt its runs le =
    let link = get_or plan.links i row in
    let f = longest_of plan (steps - 1) in
    let test : (nat_eq link.consumer.0 d.0 && link.pm_runtime) ≡ true = rw (its, runs, same_self d.0) refl in
    let here : of_supplier d f link ≡ f link.supplier = ap (λ b. if b then f link.supplier else 0) test in
    let most = greatest_in (of_supplier d f) plan.links i row lt in
    omega (arith, one_step plan steps d some, here, most, le)

-- the greatest of rooms that fit
pub room_step : (plan : Plan) (dev : DevId) (a n m room : ℕ) → a ≤ room → n ≤ longest_chain plan dev + 3 → ((d : DevId) → longest_chain plan d + 3 ≤ room) → m ≡ max a n → m ≤ room
room_step plan dev a n m room fits low each is = omega (arith, fits, low, each dev, is)
