-- Trees of points, to which one more is put, and ways back in them.
use Rattle.std.proofs.Common.{◌≡◌, ◌||◌, ◌&&◌, ℕ, zero, suc, ◌<◌, ◌≤◌, ◌+◌, Bool, true, false, List, [], ◌∷◌, ◌++◌, Some, length, map, max, nat_le, not, option_map, slice_get, if◌then◌else◌, refl, sym, ◌∙◌, ap, subst, inl, inr, arith, length-append, append_assoc}
use Rattle.std.specs.List.{list_any}
use Rattle.std.proofs.lemmas.Bool.{false≢true}
use Rattle.std.proofs.lemmas.List.{append-nil, map-append}
use Rattle.std.proofs.lemmas.Option.{slice_get-map, slice_get_within}
use Rattle.indexmap.specs.IndexSet.{insert_key}
use Rattle.pm_explore.specs.search.Exact.{IsAmong}
use Rattle.pm_explore.specs.search.Growing.{Adds, CanFollow, Grows, IsKept, IsStored}
use Rattle.pm_explore.specs.search.Growing.Adds.{is_there, is_new}
use Rattle.pm_explore.specs.search.Trees.{AreCounted, HasPath, IsStep, IsTree, IsPath}
use Rattle.pm_explore.specs.search.Trees.IsPath.{begins, leads_on}
use Rattle.pm_explore.proofs.search.Lists.{Grows-push, Grows-refl, slice_get-left, slice_get-mid, slice_get-push, some_within}

some_is : {A : Type 0} (x y : A) → Some x ≡ Some y → x ≡ y
some_is x y is = cc is

right_false : (b c : Bool) → (b || c) ≡ false → c ≡ false
right_false true c is = absurd (false≢true (sym is))
right_false false c is = is

module _ {P : Type 0} (Follows : Bool → P → P → Type 0) where
  pub step_kept : (b : Bool) (old new : List P) (from to : ℕ) → IsKept old new → IsStep Follows b old from to → IsStep Follows b new from to
  step_kept b old new from to g s = record { point = s.point; next = s.next; at = g.kept from s.point s.at; next_at = g.kept to s.next s.next_at; follows = s.follows }

  -- where a list has a point the first stays
  first_stays : (points : List P) (x p q : P) (at : ℕ) → slice_get points at ≡ Some p → slice_get (points ++ x ∷ []) 0 ≡ Some q → slice_get points 0 ≡ Some q
  first_stays [] x p q at there h = cc there
  first_stays (y ∷ points) x p q at there h = h

  pushed : (start : P) (points : List P) (parents : List ℕ) (x : P) (at : ℕ) (p : P) (b : Bool) → IsTree Follows start points parents → slice_get points at ≡ Some p → Follows b p x
      → ¬ IsAmong points (length points) x → IsTree Follows start (points ++ x ∷ []) (parents ++ at ∷ [])
  pushed start points parents x at p b t there f fresh = record {
    first = λ q h. t.first q (first_stays points x p q at there h);
    each = omega (arith, length-append points (x ∷ []), length-append parents (at ∷ []), t.each);
    down = λ i parent pos e. elim (slice_get-push parents at i parent e) [ inl old ↦ t.down i parent pos old | inr new ↦ omega (arith, slice_get_within points at p there, new.0, new.1, t.each) ];
    leads = λ i parent pos e. elim (slice_get-push parents at i parent e) [
      | inl old ↦ let l = t.leads i parent pos old in (l.0, step_kept l.0 points (points ++ x ∷ []) parent i grown l.1)
      | inr new ↦ (b, by i parent new.0 new.1)
    ];
    once = λ i j q one other. elim (slice_get-push points x i q one) [
      | inl old ↦ elim (slice_get-push points x j q other) [ inl old' ↦ t.once i j q old old' | inr new ↦ absurd (not_there i q old new.1) ]
      | inr new ↦ elim (slice_get-push points x j q other) [ inl old ↦ absurd (not_there j q old new.1) | inr new' ↦ new.0 ∙ sym new'.0 ]
    ];
  }
    where
      not_there : (i : ℕ) (q : P) → slice_get points i ≡ Some q → q ≡ x → ⊥
      not_there i q there same = fresh (record { place = i; below = slice_get_within points i q there; there = there ∙ ap Some same })

      grown : IsKept points (points ++ x ∷ [])
      grown = Grows-push (λ y. Unit {0}) points points x (Grows-refl (λ y. Unit {0}) points) tt

      by : (i parent : ℕ) → i ≡ length parents → parent ≡ at → IsStep Follows b (points ++ x ∷ []) parent i
      by i parent ie pe = record {
        point = p;
        next = x;
        at = subst (λ j. slice_get (points ++ x ∷ []) j ≡ Some p) (sym pe) (slice_get-left points (x ∷ []) at p there);
        next_at = subst (λ j. slice_get (points ++ x ∷ []) j ≡ Some x) (sym (ie ∙ t.each)) (slice_get-mid points [] x);
        follows = f;
      }

  -- a point is put that follows one
  pub tree_adds : (start : P) (points : List P) (parents : List ℕ) (x : P) (at : ℕ) (p : P) (b : Bool) (points' : List P) (parents' : List ℕ) → IsTree Follows start points parents → slice_get points at ≡ Some p → Follows b p x
      → Adds x at points parents points' parents' → IsTree Follows start points' parents'
  tree_adds start points parents x at p b points' parents' t there f (is_there a) = t
  tree_adds start points parents x at p b points' parents' t there f (is_new fresh) = pushed start points parents x at p b t there f fresh

  -- the points of the same nodes, with the same parents
  pub tree_same : {N : Type 0} (start : P) (f : N → P) (nodes nodes' : List N) (parents parents' : List ℕ) → nodes' ≡ nodes → parents' ≡ parents → IsTree Follows start (map f nodes) parents → IsTree Follows start (map f nodes') parents'
  tree_same {N = N} start f nodes nodes' parents parents' e h t =
      let A : List N → Type 0 = λ l. IsTree Follows start (map f l) parents in
      let B : List ℕ → Type 0 = IsTree Follows start (map f nodes') in
      subst B (sym h) (subst A (sym e) t)

  -- no point
  pub tree_none : (start : P) (points : List P) (parents : List ℕ) → points ≡ [] → parents ≡ [] → IsTree Follows start points parents
  tree_none start points parents e f = record {
    first = λ p h. absurd (nothing p 0 (subst (λ l. slice_get l 0 ≡ Some p) e h));
    each = ap length f ∙ sym (ap length e);
    down = λ i parent pos h. absurd (nowhere i parent (subst (λ l. slice_get l i ≡ Some parent) f h));
    leads = λ i parent pos h. absurd (nowhere i parent (subst (λ l. slice_get l i ≡ Some parent) f h));
    once = λ i j p one other. absurd (nothing p i (subst (λ l. slice_get l i ≡ Some p) e one));
  }
    where
      nothing : (p : P) (i : ℕ) → slice_get [] i ≡ Some p → ⊥
      nothing p i h = cc h

      nowhere : (i parent : ℕ) → slice_get [] i ≡ Some parent → ⊥
      nowhere i parent h = cc h

  -- the start alone
  tree_first : (start : P) → IsTree Follows start (start ∷ []) (0 ∷ [])
  tree_first start = record {
    first = λ p h. cc h;
    each = refl;
    down = λ i parent pos h. absurd (alone i parent pos h);
    leads = λ i parent pos h. absurd (alone i parent pos h);
    once = λ i j p one other. omega (arith, slice_get_within (start ∷ []) i p one, slice_get_within (start ∷ []) j p other);
  }
    where
      alone : (i parent : ℕ) → 0 < i → slice_get (0 ∷ []) i ≡ Some parent → ⊥
      alone i parent pos h = let w : i < 1 = slice_get_within (0 ∷ []) i parent h in omega (arith, w, pos)

  pub tree_begins : (start : P) (points : List P) (parents : List ℕ) → points ≡ start ∷ [] → parents ≡ 0 ∷ [] → IsTree Follows start points parents
  tree_begins start points parents e f =
      let A : List P → Type 0 = λ l. IsTree Follows start l parents in
      let B : List ℕ → Type 0 = IsTree Follows start (start ∷ []) in
      subst A (sym e) (subst B (sym f) (tree_first start))

-- no node stands for a point that no equal one stands for
apart : {N P : Type 0} (eq : N → N → Bool) (f : N → P) → ((n m : N) → f n ≡ f m → eq n m ≡ true) → (nodes : List N) (x : N) (i : ℕ) → list_any (eq x) nodes ≡ false → slice_get (map f nodes) i ≡ Some (f x) → ⊥
apart eq f alike [] x i none there = cc there
apart eq f alike (n ∷ nodes) x zero none there = absurd (false≢true (sym none ∙ ap (λ b. b || list_any (eq x) nodes) (alike x n (some_is (f x) (f n) (sym there)))))
apart eq f alike (n ∷ nodes) x (suc i) none there = apart eq f alike nodes x i (right_false (eq x n) (list_any (eq x) nodes) none) there

-- a node is put where no equal one is, so a point where it isn't there
pub adds : {N P : Type 0} (eq : N → N → Bool) (f : N → P) → ((n m : N) → eq n m ≡ true → f n ≡ f m) → ((n m : N) → f n ≡ f m → eq n m ≡ true) → (nodes nodes' : List N) (parents parents' : List ℕ) (x : N) (at : ℕ) → nodes' ≡ insert_key eq nodes x
    → parents' ≡ (if list_any (eq x) nodes then parents else parents ++ at ∷ []) → IsStored eq nodes' x → Adds (f x) at (map f nodes) parents (map f nodes') parents'
adds {N = N} {P = P} eq f same alike nodes nodes' parents parents' x at ns ps stored = go (list_any (eq x) nodes) refl ns ps
  where
    go : (b : Bool) → list_any (eq x) nodes ≡ b → nodes' ≡ (if b then nodes else nodes ++ x ∷ []) → parents' ≡ (if b then parents else parents ++ at ∷ []) → Adds (f x) at (map f nodes) parents (map f nodes') parents'
    go true any n p =
        let there : slice_get (map f nodes) stored.place ≡ Some (f x) =
        slice_get-map f nodes stored.place ∙ ap (option_map f) (subst (λ l. slice_get l stored.place ≡ Some stored.stored) n stored.there) ∙ ap Some (sym (same x stored.stored stored.same)) in
        let A : List N → Type 0 = λ l. Adds (f x) at (map f nodes) parents (map f l) parents' in
        let B : List ℕ → Type 0 = λ l. Adds (f x) at (map f nodes) parents (map f nodes) l in
        subst A (sym n) (subst B (sym p) (is_there (record { place = stored.place; below = slice_get_within (map f nodes) stored.place (f x) there; there = there })))
    go false none n p =
        let A : List P → Type 0 = λ l. Adds (f x) at (map f nodes) parents l parents' in
        let B : List ℕ → Type 0 = λ l. Adds (f x) at (map f nodes) parents (map f nodes ++ f x ∷ []) l in
        subst A (sym (ap (map f) n ∙ map-append f nodes (x ∷ []))) (subst B (sym p) (is_new (λ a. apart eq f alike nodes x a.place none a.there)))

-- the first point that is put
pub first_adds : {P : Type 0} (points : List P) (parents : List ℕ) (x : P) (points' : List P) (parents' : List ℕ) → Adds x 0 points parents points' parents' → points ≡ [] → parents ≡ []
    → (points' ≡ x ∷ []) × (parents' ≡ 0 ∷ [])
first_adds points parents x points' parents' (is_there a) e f = absurd (nothing (subst (λ l. slice_get l a.place ≡ Some x) e a.there))
  where
    nothing : slice_get [] a.place ≡ Some x → ⊥
    nothing h = cc h
first_adds points parents x points' parents' (is_new fresh) e f = (ap (λ l. l ++ x ∷ []) e, ap (λ l. l ++ 0 ∷ []) f)

pub parents_adds : {P : Type 0} (first : List ℕ) (points : List P) (parents : List ℕ) (x : P) (at : ℕ) (points' : List P) (parents' : List ℕ) → Grows (λ y. y ≡ at) first parents → Adds x at points parents points' parents' → Grows (λ y. y ≡ at) first parents'
parents_adds first points parents x at points' parents' g (is_there a) = g
parents_adds first points parents x at points' parents' g (is_new fresh) = Grows-push (λ y. y ≡ at) first parents at g refl

-- the path back has as many steps as are counted, no more than places before it
counted_path : (parents steps : List ℕ) → AreCounted parents steps → (k at n : ℕ) → at < k → slice_get steps at ≡ Some n → HasPath parents at n × (n ≤ at)
counted_path parents steps c zero at n lt there = absurd (omega (arith, lt))
counted_path parents steps c (suc k) zero n lt there =
    let none = c.first n there in
    (subst (HasPath parents 0) (sym none) (record { path = 0 ∷ []; leads = begins; many = refl }), omega (arith, none))
counted_path parents steps c (suc k) (suc i) n lt there =
    let within = slice_get_within steps (suc i) n there in
    let each = c.each in
    let later : 0 < suc i = omega arith in
    let p = some_within parents (suc i) (omega (arith, within, each)) in
    let down = c.down (suc i) p.0 later p.1 in
    let m = some_within steps p.0 (omega (arith, within, down)) in
    let is = c.next (suc i) p.0 m.0 n later p.1 m.1 there in
    let before = counted_path parents steps c k p.0 m.0 (omega (arith, lt, down)) m.1 in
    let many = before.0.many in
    let few = before.1 in (
      record { path = suc i ∷ before.0.path; leads = leads_on (suc i) later p.1 before.0.leads; many = omega (arith, many, is) },
      omega (arith, few, is, down),
    )

pub has_path : (parents steps : List ℕ) (at n : ℕ) → AreCounted parents steps → slice_get steps at ≡ Some n → HasPath parents at n
has_path parents steps at n c there = (counted_path parents steps c (suc at) at n (omega arith) there).0

pub few_steps : (parents steps : List ℕ) (at n : ℕ) → AreCounted parents steps → slice_get steps at ≡ Some n → n ≤ at
few_steps parents steps at n c there = (counted_path parents steps c (suc at) at n (omega arith) there).1

nowhere : {A : Type 0} (i : ℕ) (x : A) → slice_get [] i ≡ Some x → ⊥
nowhere i x there = cc there

pub none_counted : AreCounted [] []
none_counted = record { each = refl; down = λ i p pos there. absurd (nowhere i p there); first = λ n there. absurd (nowhere 0 n there); next = λ i p m n pos there. absurd (nowhere i p there) }

-- one more place, with its steps
pub counted_more : (parents steps : List ℕ) (parent n : ℕ) → AreCounted parents steps → CanFollow parents parent → (parents ≡ [] → n ≡ 0) → ((m : ℕ) → slice_get steps parent ≡ Some m → n ≡ m + 1)
    → AreCounted (parents ++ parent ∷ []) (steps ++ n ∷ [])
counted_more parents steps parent n c can begin follow = record {
  each = omega (arith, length-append parents (parent ∷ []), length-append steps (n ∷ []), c.each);
  down = λ i p pos there. elim (slice_get-push parents parent i p there) [
    | inl old ↦ c.down i p pos old
    | inr new ↦ let at = new.0 in let is = new.1 in let lt = before i pos at in omega (arith, is, lt)
  ];
  first = λ m there. elim (slice_get-push steps n 0 m there) [
    | inl old ↦ c.first m old
    | inr new ↦ let is = new.1 in let none = start new.0 in omega (arith, is, none)
  ];
  next = λ i p m q pos parent_is there last. elim (slice_get-push steps n i q last) [
    | inl old ↦
        let within = slice_get_within steps i q old in
        elim (slice_get-push parents parent i p parent_is) [
          | inl known ↦ let lt = c.down i p pos known in c.next i p m q pos known (earlier p m there (omega (arith, lt, within))) old
          | inr new ↦ let at = new.0 in let each = c.each in absurd (omega (arith, at, each, within))
        ]
    | inr new ↦
        let at = new.0 in
        let is = new.1 in
        let each = c.each in
        elim (slice_get-push parents parent i p parent_is) [
          | inl known ↦ let within = slice_get_within parents i p known in absurd (omega (arith, at, each, within))
          | inr also ↦
              let here : i ≡ length parents = also.0 in
              let lt = before i pos here in
              let steps_are = follow m (subst (λ (j : ℕ). slice_get steps j ≡ Some m) also.1 (earlier p m there (let same = also.1 in omega (arith, same, lt, here, each)))) in
              omega (arith, is, steps_are)
        ]
  ];
}
  where
    -- what is put has its parent before it
    before : (i : ℕ) → 0 < i → i ≡ length parents → parent < i
    before i pos at = elim can [
      | inl none ↦ let empty = ap length none in absurd (omega (arith, pos, at, empty))
      | inr lt ↦ omega (arith, lt, at)
    ]

    start : 0 ≡ length steps → n ≡ 0
    start at = elim can [
      | inl none ↦ begin none
      | inr lt ↦ let each = c.each in absurd (omega (arith, at, each, lt))
    ]

    -- what is there before the end was there
    earlier : (i m : ℕ) → slice_get (steps ++ n ∷ []) i ≡ Some m → i < length steps → slice_get steps i ≡ Some m
    earlier i m there lt = elim (slice_get-push steps n i m there) [ inl old ↦ old | inr new ↦ let at = new.0 in absurd (omega (arith, at, lt)) ]

-- there is room for one more, or it is there
pub room_kept : {N : Type 0} (limit : ℕ) (old new : List N) (x : N) (b : Bool) → (nat_le limit (length old) && not b) ≡ false → length old ≤ max limit 1 → new ≡ (if b then old else old ++ x ∷ []) → length new ≤ max limit 1
room_kept limit old new x true full room is = omega (arith, room, ap length is)
room_kept limit old new x false full room is = let lt : length old < limit = below limit (length old) full in omega (arith, lt, ap length is, length-append old (x ∷ []))
  where
    below : (a n : ℕ) → (nat_le a n && true) ≡ false → n < a
    below a n e = grind arith

-- the places so far lead from one back to this one, and this one's path completes them
abbrev pub LeadsTo : List ℕ → ℕ → ℕ → List ℕ → Type 0
LeadsTo parents at here path = (rest : List ℕ) → IsPath parents here (here ∷ rest) → IsPath parents at (path ++ rest)

pub leads_next : (parents : List ℕ) (at here p : ℕ) (path path' : List ℕ) → LeadsTo parents at here path → 0 < here → slice_get parents here ≡ Some p → path' ≡ path ++ p ∷ [] → LeadsTo parents at p path'
leads_next parents at here p path path' l pos is e rest w =
    let longer : IsPath parents at (path ++ p ∷ rest) = l (p ∷ rest) (leads_on here pos is w) in
    subst (λ x. IsPath parents at (x ++ rest)) (sym e) (subst (IsPath parents at) (sym (append_assoc path (p ∷ []) rest)) longer)

pub leads_last : (parents : List ℕ) (at here : ℕ) (path : List ℕ) → LeadsTo parents at here path → here ≡ 0 → IsPath parents at path
leads_last parents at here path l e =
    let at_first : LeadsTo parents at 0 path = subst (λ n. LeadsTo parents at n path) e l in
    subst (IsPath parents at) (append-nil path) (at_first [] begins)
