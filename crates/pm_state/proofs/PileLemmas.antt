-- One stage more or less in a block of piles.
use Rattle.std.proofs.Common.{ℕ, zero, suc, ◌≡◌, ◌≢◌, ◌∙◌, ◌<◌, ◌≤◌, ◌+◌, ◌*◌, ◌-◌, List, [], ◌∷◌, Option, Some, None, IsSome, IsSomeAnd, count_by, drop, is_some, length, replicate, map, slice_index_or, slice_set, ap, refl, subst, sym, inl, inr, arith}
use Rattle.std.specs.List.{sum_by}
use Rattle.std.specs.Option.{option_map_or}
use Rattle.std.proofs.Math.ListN.{get_or-map}
use Rattle.std.proofs.Math.Nat.{mul-zero, suc-mul}
use Rattle.std.proofs.lemmas.Bool.{cases_eq}
use Rattle.std.proofs.lemmas.List.{get_or-set_same, get_or-set_other, get_or_default, length-map, length-replicate, length-set}
use Rattle.std.proofs.lemmas.List.Folds.{sum_by-replicate}
use Rattle.std.proofs.lemmas.List.Sums.{sum_by-cons, sum_by-set}
use Rattle.slab.specs.Slab.{Slab, Updates, get, slab_len}
use Rattle.pm_model.specs.declared.stage.Stage.{Stage}
use Rattle.pm_model.specs.World.{top}
use Rattle.pm_state.specs.declared.cell.Cell.{Cell}
use Rattle.pm_state.specs.declared.cell.Pile.{Pile}
use Rattle.pm_state.specs.Places.{Stacks}
use Rattle.pm_state.specs.Piles.{AreKept, ArePiled, pile_at, stages_from, stages_of_pile}

-- no cell at this key is one of so many of an owner: each of its has as many under it at least
abbrev pub IsApart : Slab Cell → ℕ → ℕ → ℕ → Type 0
IsApart cells key owner n = (c : Cell) → get cells key ≡ Some c → c.owner ≡ owner → n ≤ c.under

-- so many stages of an owner stay as they are
pub record Stay (old new : Slab Cell) (owner n at : ℕ) : Type 0 where
  pub kept : AreKept new owner n at
  pub same : stages_from new n at ≡ stages_from old n at

stay_under : (old new : Slab Cell) (key : ℕ) (slot : Option Cell) (owner n at : ℕ) → Updates old new key slot → IsApart old key owner (suc n) → (o : Option Cell) → get old at ≡ o
    → IsSomeAnd o (λ (c : Cell). (c.owner ≡ owner) × (c.under ≡ n) × AreKept old owner n c.below)
    → ((below : ℕ) → AreKept old owner n below → Stay old new owner n below) → Stay old new owner (suc n) at
stay_under old new key slot owner n at updates apart None is kept again = elim kept [ ]
stay_under old new key slot owner n at updates apart (Some c) is (owned, under, rest) again =
    let differs : at ≢ key = λ e. let less : suc n ≤ c.under = apart c (ap (get old) (sym e) ∙ is) owned in omega (arith, less, under) in
    let here : get new at ≡ Some c = updates.others at differs ∙ is in
    let later : Stay old new owner n c.below = again c.below rest in
    record {
      kept = subst (λ o. IsSomeAnd o (λ (x : Cell). (x.owner ≡ owner) × (x.under ≡ n) × AreKept new owner n x.below)) (sym here) (owned, under, later.kept);
      same =
          ap (λ o. option_map_or (λ (x : Cell). x.stage ∷ stages_from new n x.below) o []) here ∙ ap (λ (l : List Stage). c.stage ∷ l) later.same
          ∙ sym (ap (λ o. option_map_or (λ (x : Cell). x.stage ∷ stages_from old n x.below) o []) is);
    }

-- a write elsewhere leaves them
pub stay : (old new : Slab Cell) (key : ℕ) (slot : Option Cell) (owner n at : ℕ) → Updates old new key slot → IsApart old key owner n → AreKept old owner n at → Stay old new owner n at
stay old new key slot owner zero at updates apart kept = record { kept = tt; same = refl }
stay old new key slot owner (suc n) at updates apart kept =
    stay_under old new key slot owner n at updates apart (get old at) refl kept
    (λ below rest. stay old new key slot owner n below updates (λ c is mine. let less : suc n ≤ c.under = apart c is mine in omega (arith, less)) rest)

-- the upper one of so many stages
pub record IsUpper (cells : Slab Cell) (owner n at : ℕ) (c : Cell) : Type 0 where
  pub owned : c.owner ≡ owner
  pub under : c.under + 1 ≡ n
  pub rest : AreKept cells owner (n - 1) c.below
  pub stages : stages_from cells n at ≡ c.stage ∷ stages_from cells (n - 1) c.below

pub upper_is : (cells : Slab Cell) (owner n at : ℕ) (c : Cell) → AreKept cells owner n at → n ≢ 0 → get cells at ≡ Some c → IsUpper cells owner n at c
upper_is cells owner zero at c kept some is = elim (some refl) [ ]
upper_is cells owner (suc n) at c kept some is =
    let (owned, under, rest) : (c.owner ≡ owner) × (c.under ≡ n) × AreKept cells owner n c.below = subst (λ o. IsSomeAnd o (λ (x : Cell). (x.owner ≡ owner) × (x.under ≡ n) × AreKept cells owner n x.below)) is kept in
    let less : suc n - 1 ≡ n = omega arith in
    record {
      owned = owned;
      under = omega (arith, under);
      rest = subst (λ m. AreKept cells owner m c.below) (sym less) rest;
      stages = ap (λ o. option_map_or (λ (x : Cell). x.stage ∷ stages_from cells n x.below) o []) is ∙ ap (λ m. c.stage ∷ stages_from cells m c.below) (sym less);
    }

some_there : (P : Cell → Type 0) (o : Option Cell) → IsSomeAnd o P → IsSome o
some_there P None kept = elim kept [ ]
some_there P (Some c) kept = refl

-- where a pile has stages its upper one is there
pub upper_there : (cells : Slab Cell) (owner n at : ℕ) → AreKept cells owner n at → n ≢ 0 → IsSome (get cells at)
upper_there cells owner zero at kept some = elim (some refl) [ ]
upper_there cells owner (suc n) at kept some = some_there (λ (x : Cell). (x.owner ≡ owner) × (x.under ≡ n) × AreKept cells owner n x.below) (get cells at) kept

many_under : (cells : Slab Cell) (owner n : ℕ) (o : Option Cell) → IsSomeAnd o (λ (c : Cell). (c.owner ≡ owner) × (c.under ≡ n) × AreKept cells owner n c.below)
    → ((below : ℕ) → AreKept cells owner n below → length (stages_from cells n below) ≡ n) → length (option_map_or (λ (c : Cell). c.stage ∷ stages_from cells n c.below) o []) ≡ suc n
many_under cells owner n None kept again = elim kept [ ]
many_under cells owner n (Some c) (owned, under, rest) again = let e = again c.below rest in omega (arith, e)

-- a pile has as many stages as it says
pub many_kept : (cells : Slab Cell) (owner n at : ℕ) → AreKept cells owner n at → length (stages_from cells n at) ≡ n
many_kept cells owner zero at kept = refl
many_kept cells owner (suc n) at kept = many_under cells owner n (get cells at) kept (λ below rest. many_kept cells owner n below rest)

-- what one pile that is replaced makes of the stages of all
maps_same : (f g : Pile → List Stage) (piles : List Pile) → ((j : ℕ) → g (pile_at piles j) ≡ f (pile_at piles j)) → map g piles ≡ map f piles
maps_same f g [] same = refl
maps_same f g (x ∷ xs) same = ap (λ (s : List Stage). s ∷ map g xs) (same 0) ∙ ap (λ (l : List (List Stage)). f x ∷ l) (maps_same f g xs (λ j. same (suc j)))

piles_but : (f g : Pile → List Stage) (piles : List Pile) (i : ℕ) (p : Pile) → ((j : ℕ) → j ≢ i → g (pile_at piles j) ≡ f (pile_at piles j)) → map g (slice_set piles i p) ≡ slice_set (map f piles) i (g p)
piles_but f g [] i p same = refl
piles_but f g (x ∷ xs) zero p same = ap (λ (l : List (List Stage)). g p ∷ l) (maps_same f g xs (λ j. same (suc j) (λ e. omega (arith, e))))
piles_but f g (x ∷ xs) (suc i) p same =
    ap (λ (s : List Stage). s ∷ map g (slice_set xs i p)) (same 0 (λ e. omega (arith, e)))
    ∙ ap (λ (l : List (List Stage)). f x ∷ l) (piles_but f g xs i p (λ j differs. same (suc j) (λ e. differs (omega (arith, e)))))

-- where no pile has more than there is room for and one has less, one more stage fits
sum_fits : (piles : List Pile) (room : ℕ) → ((i : ℕ) → (let p = pile_at piles i in p.many) ≤ room) → sum_by (λ (p : Pile). p.many) piles ≤ length piles * room
sum_fits [] room within = omega arith
sum_fits (x ∷ xs) room within =
    let here : x.many ≤ room = within 0 in
    let rest = sum_fits xs room (λ i. within (suc i)) in
    omega (arith, here, rest, sum_by-cons (λ (p : Pile). p.many) x xs, suc-mul (length xs) room)

one_fits : (piles : List Pile) (room i : ℕ) → ((j : ℕ) → (let p = pile_at piles j in p.many) ≤ room) → i < length piles → (let p = pile_at piles i in p.many) < room
    → sum_by (λ (p : Pile). p.many) piles + 1 ≤ length piles * room
one_fits [] room i within lt less = omega (arith, lt)
one_fits (x ∷ xs) room zero within lt less =
    let here : x.many < room = less in
    let rest = sum_fits xs room (λ j. within (suc j)) in
    omega (arith, here, rest, sum_by-cons (λ (p : Pile). p.many) x xs, suc-mul (length xs) room)
one_fits (x ∷ xs) room (suc i) within lt less =
    let here : x.many ≤ room = within 0 in
    let rest = one_fits xs room i (λ j. within (suc j)) (omega (arith, lt)) less in
    omega (arith, here, rest, sum_by-cons (λ (p : Pile). p.many) x xs, suc-mul (length xs) room)

-- a block in which one pile is replaced, and what it makes of the stages
pub record Replaced (room : ℕ) (piles : List Pile) (old new : Slab Cell) (i : ℕ) (p : Pile) : Type 0 where
  pub piled : ArePiled room (slice_set piles i p) new
  pub stages : map (stages_of_pile new) (slice_set piles i p) ≡ slice_set (map (stages_of_pile old) piles) i (stages_of_pile new p)

pub replaced : (room : ℕ) (piles : List Pile) (old new : Slab Cell) (i key : ℕ) (slot : Option Cell) (p : Pile) → ArePiled room piles old → i < length piles → Updates old new key slot
    → ((j : ℕ) → j ≢ i → IsApart old key j (let q = pile_at piles j in q.many)) → AreKept new i p.many p.upper → p.many ≤ room
    → slab_len new + (let q = pile_at piles i in q.many) ≡ slab_len old + p.many → new.capacity ≡ old.capacity → Replaced room piles old new i p
replaced room piles old new i key slot p piled lt updates apart kept within many capacity = record {
  piled = record {
    kept = λ j. elim (cases_eq j i) [
      | inl e ↦ subst (λ k. AreKept new k (let q = pile_at (slice_set piles i p) k in q.many) (let q = pile_at (slice_set piles i p) k in q.upper)) (sym e)
          (subst (λ (q : Pile). AreKept new i q.many q.upper) (sym (get_or-set_same piles i p _ lt)) kept)
      | inr differs ↦ subst (λ (q : Pile). AreKept new j q.many q.upper) (sym (get_or-set_other piles i j p _ differs)) (others j differs).kept
    ];
    within = λ j. elim (cases_eq j i) [
      | inl e ↦ subst (λ k. (let q = pile_at (slice_set piles i p) k in q.many) ≤ room) (sym e) (subst (λ (q : Pile). q.many ≤ room) (sym (get_or-set_same piles i p _ lt)) within)
      | inr differs ↦ subst (λ (q : Pile). q.many ≤ room) (sym (get_or-set_other piles i j p _ differs)) (piled.within j)
    ];
    many = let sums = sum_by-set (λ (q : Pile). q.many) piles i p (record { many = 0; upper = 0 }) lt in let was = piled.many in omega (arith, sums, many, was);
    fits = subst (λ n. n * room ≤ new.capacity) (sym (length-set piles i p)) (subst (λ n. length piles * room ≤ n) (sym capacity) piled.fits);
  };
  stages = piles_but (stages_of_pile old) (stages_of_pile new) piles i p (λ j differs. (others j differs).same);
}
  where
    others : (j : ℕ) → j ≢ i → Stay old new j (let q = pile_at piles j in q.many) (let q = pile_at piles j in q.upper)
    others j differs = stay old new key slot j _ _ updates (apart j differs) (piled.kept j)

-- the stages of a pile, as callers see them
seen_at : (cells : Slab Cell) (piles : List Pile) (i : ℕ) (p : Pile) → pile_at piles i ≡ p → slice_index_or (map (stages_of_pile cells) piles) i [] ≡ stages_of_pile cells p
seen_at cells piles i p is = get_or-map (stages_of_pile cells) piles i (record { many = 0; upper = 0 }) ∙ ap (stages_of_pile cells) is

-- what taking the upper stage off a pile makes of the block
pub record Popped (room : ℕ) (piles : List Pile) (old new : Slab Cell) (i : ℕ) (p : Pile) (c : Cell) : Type 0 where
  pub piled : ArePiled room (slice_set piles i (record { many = p.many - 1; upper = c.below })) new
  pub upper : Some c.stage ≡ top None (slice_index_or (map (stages_of_pile old) piles) i [])
  pub rest : map (stages_of_pile new) (slice_set piles i (record { many = p.many - 1; upper = c.below })) ≡ slice_set (map (stages_of_pile old) piles) i (drop 1 (slice_index_or (map (stages_of_pile old) piles) i []))

same_cell : (a b : Cell) (o : Option Cell) → o ≡ Some a → o ≡ Some b → a ≡ b
same_cell a b o is was = cc

pub popped : (room : ℕ) (piles : List Pile) (old new : Slab Cell) (i : ℕ) (p : Pile) (c : Cell) → ArePiled room piles old → i < length piles → pile_at piles i ≡ p → p.many ≢ 0 → get old p.upper ≡ Some c
    → Updates old new p.upper None → slab_len new + 1 ≡ slab_len old → new.capacity ≡ old.capacity → Popped room piles old new i p c
popped room piles old new i p c piled lt at some is updates less capacity =
    let kept : AreKept old i p.many p.upper = subst (λ (q : Pile). AreKept old i q.many q.upper) at (piled.kept i) in
    let it = upper_is old i p.many p.upper c kept some is in
    let many : p.many - 1 ≤ c.under = let under = it.under in omega (arith, under) in
    let own : IsApart old p.upper i (p.many - 1) = λ d found mine. subst (λ (z : Cell). p.many - 1 ≤ z.under) (same_cell c d (get old p.upper) is found) many in
    let later = stay old new p.upper None i (p.many - 1) c.below updates own it.rest in
    let within : p.many ≤ room = subst (λ (q : Pile). q.many ≤ room) at (piled.within i) in
    let owned : (d : Cell) → get old p.upper ≡ Some d → d.owner ≡ i = λ d found. subst (λ (z : Cell). z.owner ≡ i) (same_cell c d (get old p.upper) is found) it.owned in
    let counts : slab_len new + (let q = pile_at piles i in q.many) ≡ slab_len old + (p.many - 1) = subst (λ (q : Pile). slab_len new + q.many ≡ slab_len old + (p.many - 1)) (sym at) (omega (arith, less, some)) in
    let all =
    replaced room piles old new i p.upper None (record { many = p.many - 1; upper = c.below }) piled lt updates (λ j differs d found mine. elim (differs (sym mine ∙ owned d found)) [ ]) later.kept (omega (arith, within)) counts capacity in
    let seen = seen_at old piles i p at ∙ it.stages in
    record {
      piled = all.piled;
      upper = sym (ap (top None) seen);
      rest = all.stages ∙ ap (λ (l : List Stage). slice_set (map (stages_of_pile old) piles) i l) (later.same ∙ sym (ap (λ (l : List Stage). drop 1 l) seen));
    }

-- what putting a stage on a pile makes of the block
pub record Pushed (room : ℕ) (piles : List Pile) (old new : Slab Cell) (i key : ℕ) (p : Pile) (s : Stage) : Type 0 where
  pub piled : ArePiled room (slice_set piles i (record { many = p.many + 1; upper = key })) new
  pub stages : map (stages_of_pile new) (slice_set piles i (record { many = p.many + 1; upper = key })) ≡ slice_set (map (stages_of_pile old) piles) i (s ∷ slice_index_or (map (stages_of_pile old) piles) i [])

none_there : (o : Option Cell) (c : Cell) → o ≡ None → o ≡ Some c → ⊥
none_there o c is was = cc

pub pushed : (room : ℕ) (piles : List Pile) (old new : Slab Cell) (i key : ℕ) (p : Pile) (s : Stage) → ArePiled room piles old → i < length piles → pile_at piles i ≡ p → p.many < room → get old key ≡ None
    → Updates old new key (Some (record { stage = s; owner = i; under = p.many; below = p.upper })) → slab_len new ≡ slab_len old + 1 → new.capacity ≡ old.capacity → Pushed room piles old new i key p s
pushed room piles old new i key p s piled lt at less vacant updates more capacity =
    let apart : (j n : ℕ) → IsApart old key j n = λ j n d found mine. elim (none_there (get old key) d vacant found) [ ] in
    let kept : AreKept old i p.many p.upper = subst (λ (q : Pile). AreKept old i q.many q.upper) at (piled.kept i) in
    let c : Cell = record { stage = s; owner = i; under = p.many; below = p.upper } in
    let under = stay old new key (Some c) i p.many p.upper updates (apart i p.many) kept in
    let upper : AreKept new i (suc p.many) key = subst (λ o. IsSomeAnd o (λ (x : Cell). (x.owner ≡ i) × (x.under ≡ p.many) × AreKept new i p.many x.below)) (sym updates.changed) (refl, refl, under.kept) in
    let count : suc p.many ≡ p.many + 1 = omega arith in
    let counts : slab_len new + (let q = pile_at piles i in q.many) ≡ slab_len old + (p.many + 1) = subst (λ (q : Pile). slab_len new + q.many ≡ slab_len old + (p.many + 1)) (sym at) (omega (arith, more)) in
    let all =
    replaced room piles old new i key (Some c) (record { many = p.many + 1; upper = key }) piled lt updates (λ j differs. apart j (let q = pile_at piles j in q.many)) (subst (λ n. AreKept new i n key) count upper) (omega (arith, less)) counts capacity in
    let here : stages_from new (p.many + 1) key ≡ s ∷ stages_from old p.many p.upper =
    ap (λ n. stages_from new n key) (sym count) ∙ ap (λ o. option_map_or (λ (x : Cell). x.stage ∷ stages_from new p.many x.below) o []) updates.changed ∙ ap (λ (l : List Stage). s ∷ l) under.same in
    record {
      piled = all.piled;
      stages = all.stages ∙ ap (λ (l : List Stage). slice_set (map (stages_of_pile old) piles) i l) (here ∙ sym (ap (λ (l : List Stage). s ∷ l) (seen_at old piles i p at)));
    }

-- where a pile has room for one more stage, so has the block
pub has_room : (room : ℕ) (piles : List Pile) (cells : Slab Cell) (i : ℕ) (p : Pile) → ArePiled room piles cells → i < length piles → pile_at piles i ≡ p → p.many < room → slab_len cells + 1 ≤ cells.capacity
has_room room piles cells i p piled lt at less =
    let fits = one_fits piles room i piled.within lt (subst (λ (q : Pile). q.many < room) (sym at) less) in
    let many = piled.many in
    let all = piled.fits in
    omega (arith, fits, many, all)

-- a pile is as high as it says
pub high_as : (room : ℕ) (piles : List Pile) (cells : Slab Cell) (i : ℕ) (p : Pile) → ArePiled room piles cells → pile_at piles i ≡ p → length (slice_index_or (map (stages_of_pile cells) piles) i []) ≡ p.many
high_as room piles cells i p piled at =
    ap (λ (l : List Stage). length l) (seen_at cells piles i p at) ∙ many_kept cells i p.many p.upper (subst (λ (q : Pile). AreKept cells i q.many q.upper) at (piled.kept i))

-- the pile that code reads, and that it is one of the block's
pub record IsRead (piles : List Pile) (i : ℕ) (p : Pile) : Type 0 where
  pub within : i < length piles
  pub is : pile_at piles i ≡ p

pub pile_read : (cells : Slab Cell) (piles : List Pile) (room i : ℕ) (p : Pile) (seen : Stacks) → record { stages = map (stages_of_pile cells) piles; room = room } ≡ seen → i < length seen.stages
    → p ≡ slice_index_or piles i p → IsRead piles i p
pile_read cells piles room i p seen view lt read =
    let within : i < length piles = subst (λ n. i < n) (length-map piles (stages_of_pile cells)) (subst (λ (s : Stacks). i < length s.stages) (sym view) lt) in
    record { within = within; is = get_or_default piles i (record { many = 0; upper = 0 }) p within ∙ sym read }

-- a pile that has room for one more says so
pub less_than : (room : ℕ) (piles : List Pile) (cells : Slab Cell) (i : ℕ) (p : Pile) (seen : Stacks) → ArePiled room piles cells → pile_at piles i ≡ p → record { stages = map (stages_of_pile cells) piles; room = room } ≡ seen
    → length (slice_index_or seen.stages i []) < seen.room → p.many < room
less_than room piles cells i p seen piled is view less =
    let here : length (slice_index_or (map (stages_of_pile cells) piles) i []) < room = subst (λ (s : Stacks). length (slice_index_or s.stages i []) < s.room) (sym view) less in
    let high = high_as room piles cells i p piled is in
    omega (arith, here, high)

-- empty piles, in an empty block with room for all
pub empty_piled : (count room : ℕ) (piles : List Pile) (cells : Slab Cell) → piles ≡ replicate count (record { many = 0; upper = 0 }) → cells.slots ≡ [] → count * room ≤ cells.capacity → ArePiled room piles cells
empty_piled count room piles cells is none fits = record {
  kept = λ i. subst (λ (q : Pile). AreKept cells i q.many q.upper) (sym (at i)) tt;
  within = λ i. subst (λ (q : Pile). q.many ≤ room) (sym (at i)) (omega arith);
  many = ap (λ l. count_by is_some l) none ∙ sym (ap (λ (l : List Pile). sum_by (λ (p : Pile). p.many) l) is ∙ sum_by-replicate (λ (p : Pile). p.many) count (record { many = 0; upper = 0 }) ∙ mul-zero count);
  fits = subst (λ n. n * room ≤ cells.capacity) (sym (ap (λ (l : List Pile). length l) is ∙ length-replicate count (record { many = 0; upper = 0 }))) fits;
}
  where
    same : (n i : ℕ) → pile_at (replicate n (record { many = 0; upper = 0 })) i ≡ record { many = 0; upper = 0 }
    same zero i = refl
    same (suc n) zero = refl
    same (suc n) (suc i) = same n i

    at : (i : ℕ) → pile_at piles i ≡ record { many = 0; upper = 0 }
    at i = ap (λ (l : List Pile). pile_at l i) is ∙ same count i

pub empty_seen : (count : ℕ) (cells : Slab Cell) → map (stages_of_pile cells) (replicate count (record { many = 0; upper = 0 })) ≡ replicate count []
empty_seen zero cells = refl
empty_seen (suc n) cells = ap (λ (l : List (List Stage)). [] ∷ l) (empty_seen n cells)
