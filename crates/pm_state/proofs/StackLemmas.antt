-- The stages of many places, by the place of one.
use Rattle.std.proofs.Common.{ℕ, zero, suc, ◌≡◌, ◌∙◌, ◌<◌, ◌≤◌, ◌+◌, ◌-◌, ◌++◌, ℤ, List, [], ◌∷◌, Option, Some, None, drop, is_none, length, map, replicate, slice_index_or, slice_set, take, ap, refl, subst, sym, inl, inr, arith}
use Rattle.std.specs.List.{list_all}
use Rattle.std.proofs.lemmas.Bool.{cases_eq}
use Rattle.std.proofs.lemmas.List.{append-nil, drop_more, get_or-map, get_or-set_other, get_or-set_same, length-map, length-set, set-get_or, set-set, take_all, take_more, take_more_set}
use Rattle.pm_model.specs.declared.stage.Await.{Await}
use Rattle.pm_model.specs.declared.stage.Handed.{Handed}
use Rattle.pm_model.specs.declared.stage.Handed.TheVariants as handed
use Rattle.pm_model.specs.declared.stage.Stage.{Stage}
use Rattle.pm_model.specs.declared.stage.Stage.TheVariants as stage
use Rattle.pm_model.specs.declared.stage.StageRow.{StageRow}
use Rattle.pm_model.specs.Handing.{take_code, after_code}
use Rattle.pm_model.proofs.Arrivals.{after_goes, after_hands}
use Rattle.pm_model.specs.Lawful.{is_empty_place}
use Rattle.pm_model.specs.StageRows.{stages_of}
use Rattle.pm_model.specs.World.{top}
use Rattle.pm_state.specs.Places.{AreTopped, HasRoom, IsStack, Stacks, all_over, are_none, stages_over}

-- under the top stand those below it
pub below_top : (t : Option Stage) (below : List Stage) → IsStack t below → drop 1 (stages_over t below) ≡ below
below_top None below is = sym is
below_top (Some s) below is = refl

-- a stack is its top and those below it
pub top_over : (l : List Stage) → stages_over (top None l) (drop 1 l) ≡ l
top_over [] = refl
top_over (s ∷ rest) = refl

pub stack_over : (l : List Stage) → IsStack (top None l) (drop 1 l)
stack_over [] = refl
stack_over (s ∷ rest) = tt

pub over_top : (t : Option Stage) (below : List Stage) → top None (stages_over t below) ≡ t
over_top None below = refl
over_top (Some s) below = refl

-- the stages of one of many places
pub over_at : (tops : List (Option Stage)) (below : List (List Stage)) (i : ℕ) → length below ≡ length tops → slice_index_or (all_over tops below) i [] ≡ stages_over (slice_index_or tops i None) (slice_index_or below i [])
over_at [] below i each = refl
over_at (t ∷ tops) [] i each = let no : ⊥ = omega (arith, each) in elim no [ ]
over_at (t ∷ tops) (b ∷ below) zero each = refl
over_at (t ∷ tops) (b ∷ below) (suc i) each = over_at tops below i (omega (arith, each))

pub over_set : (tops : List (Option Stage)) (below : List (List Stage)) (i : ℕ) (t : Option Stage) (b : List Stage) → length below ≡ length tops
    → all_over (slice_set tops i t) (slice_set below i b) ≡ slice_set (all_over tops below) i (stages_over t b)
over_set [] below i t b each = refl
over_set (x ∷ tops) [] i t b each = let no : ⊥ = omega (arith, each) in elim no [ ]
over_set (x ∷ tops) (y ∷ below) zero t b each = refl
over_set (x ∷ tops) (y ∷ below) (suc i) t b each = ap (λ (l : List (List Stage)). stages_over x y ∷ l) (over_set tops below i t b (omega (arith, each)))

pub length_over : (tops : List (Option Stage)) (below : List (List Stage)) → length below ≡ length tops → length (all_over tops below) ≡ length tops
length_over [] below each = refl
length_over (t ∷ tops) [] each = let no : ⊥ = omega (arith, each) in elim no [ ]
length_over (t ∷ tops) (b ∷ below) each = let more = length_over tops below (omega (arith, each)) in omega (arith, more)

none_empty : (t : Option Stage) (b : List Stage) → is_empty_place (stages_over t b) ≡ is_none t
none_empty None b = refl
none_empty (Some s) b = refl

pub empty_none : (tops : List (Option Stage)) (below : List (List Stage)) → length below ≡ length tops → list_all is_empty_place (all_over tops below) ≡ are_none tops
empty_none [] below each = refl
empty_none (t ∷ tops) [] each = let no : ⊥ = omega (arith, each) in elim no [ ]
empty_none (t ∷ tops) (b ∷ below) each = grind (arith, none_empty t b, empty_none tops below (omega (arith, each)))

pub empty_over : (n : ℕ) → all_over (replicate n None) (replicate n []) ≡ replicate n []
empty_over zero = refl
empty_over (suc n) = ap (λ (l : List (List Stage)). [] ∷ l) (empty_over n)

-- a place that is replaced is a stack again
pub topped_set : (tops : List (Option Stage)) (below : List (List Stage)) (i : ℕ) (t : Option Stage) (b : List Stage) → AreTopped tops below → i < length tops → IsStack t b
    → AreTopped (slice_set tops i t) (slice_set below i b)
topped_set tops below i t b are lt stack = record {
  each = length-set below i b ∙ are.each ∙ sym (length-set tops i t);
  stacks = λ j. elim (cases_eq j i) [
    | inl e ↦ subst (λ k. IsStack (slice_index_or (slice_set tops i t) k None) (slice_index_or (slice_set below i b) k [])) (sym e)
        (subst (λ x. IsStack x (slice_index_or (slice_set below i b) i [])) (sym (get_or-set_same tops i t None lt)) (subst (λ l. IsStack t l) (sym (get_or-set_same below i b [] (subst (λ n. i < n) (sym are.each) lt))) stack))
    | inr differs ↦ subst (λ x. IsStack x (slice_index_or (slice_set below i b) j [])) (sym (get_or-set_other tops i j t None differs)) (subst (λ l. IsStack (slice_index_or tops j None) l) (sym (get_or-set_other below i j b [] differs)) (are.stacks j))
  ];
}

-- a list of stages has room where all have
pub room_at : {V : Type 0} (f : V → List Stage) (all : List V) (i room : ℕ) (x : V) → i < length all → x ≡ slice_index_or all i x → HasRoom room (map f all) → length (f x) ≤ room
room_at f all i room x lt is fits = subst (λ (l : List Stage). length l ≤ room) (get_or-map f all i x [] lt ∙ ap f (sym is)) (fits i)

-- one more place is as it is to be
pub placed_more : {V : Type 0} (f : V → List Stage) (all : List V) (stages : List (List Stage)) (i : ℕ) (x : V) → i < length all → length all ≤ length stages → x ≡ slice_index_or all i x → take i stages ≡ take i (map f all)
    → take (i + 1) (slice_set stages i (f x)) ≡ take (i + 1) (map f all)
placed_more f all stages i x lt long is so_far =
    take_more_set stages i (f x) (omega (arith, lt, long)) ∙ ap (λ l. l ++ f x ∷ []) so_far ∙ ap (λ z. take i (map f all) ++ z ∷ []) (ap f is ∙ sym (get_or-map f all i x [] lt))
    ∙ sym (take_more (map f all) i [] (omega (arith, lt, length-map all f)))

-- the piles below the tops of places that callers see so
pub record IsSeen (tops : List (Option Stage)) (below : Stacks) (i : ℕ) (seen : Stacks) : Type 0 where
  pub top_within : i < length tops
  pub pile_within : i < length below.stages
  pub under : drop 1 (slice_index_or seen.stages i []) ≡ slice_index_or below.stages i []
  pub writes : top None (slice_index_or seen.stages i []) ≡ slice_index_or tops i None
  pub all : slice_index_or seen.stages i [] ≡ stages_over (slice_index_or tops i None) (slice_index_or below.stages i [])

pub is_seen : (tops : List (Option Stage)) (below : Stacks) (i : ℕ) (seen : Stacks) → AreTopped tops below.stages → record { stages = all_over tops below.stages; room = below.room } ≡ seen → i < length seen.stages → IsSeen tops below i seen
is_seen tops below i seen are view lt =
    let within : i < length tops = subst (λ n. i < n) (length_over tops below.stages are.each) (subst (λ (s : Stacks). i < length s.stages) (sym view) lt) in
    let here : slice_index_or seen.stages i [] ≡ stages_over (slice_index_or tops i None) (slice_index_or below.stages i []) =
    ap (λ (s : Stacks). slice_index_or s.stages i []) (sym view) ∙ over_at tops below.stages i are.each in
    record {
      top_within = within;
      pile_within = subst (λ n. i < n) (sym are.each) within;
      under = ap (λ (l : List Stage). drop 1 l) here ∙ below_top (slice_index_or tops i None) (slice_index_or below.stages i []) (are.stacks i);
      writes = ap (top None) here ∙ over_top (slice_index_or tops i None) (slice_index_or below.stages i []);
      all = here;
    }

-- what a place that is replaced makes of the stages of all
pub gone : (tops : List (Option Stage)) (below new : Stacks) (i : ℕ) (t : Option Stage) (l : List Stage) (seen : Stacks) → AreTopped tops below.stages → record { stages = all_over tops below.stages; room = below.room } ≡ seen
    → t ≡ top None l → new ≡ record below { stages = slice_set below.stages i (drop 1 l) } → record { stages = all_over (slice_set tops i t) new.stages; room = new.room } ≡ record seen { stages = slice_set seen.stages i l }
gone tops below new i t l seen are view is goes =
    let shown : List (List Stage) → Stacks = λ m. record { stages = m; room = below.room } in
    ap (λ x. record { stages = all_over (slice_set tops i x) new.stages; room = new.room }) is ∙ ap (λ (s : Stacks). record { stages = all_over (slice_set tops i (top None l)) s.stages; room = s.room }) goes
    ∙ ap shown (over_set tops below.stages i (top None l) (drop 1 l) are.each ∙ ap (λ (m : List Stage). slice_set (all_over tops below.stages) i m) (top_over l))
    ∙ ap (λ (s : Stacks). record s { stages = slice_set s.stages i l }) view

-- a row that is put over a pile, where an actor had another top or none
pub row_put : (tops : List (Option Stage)) (below new : Stacks) (i : ℕ) (t : Option Stage) (given row : StageRow) (seen : Stacks) → AreTopped tops below.stages → record { stages = all_over tops below.stages; room = below.room } ≡ seen → i < length seen.stages
    → given ≡ row → t ≡ top None (stages_of row ++ slice_index_or below.stages i []) → new ≡ record below { stages = slice_set below.stages i (drop 1 (stages_of row ++ slice_index_or below.stages i [])) }
    → record { stages = all_over (slice_set tops i t) new.stages; room = new.room } ≡ record seen { stages = slice_set seen.stages i (stages_of given ++ drop 1 (slice_index_or seen.stages i [])) }
row_put tops below new i t given row seen are view lt same is goes =
    let it = is_seen tops below i seen are view lt in
    gone tops below new i t (stages_of row ++ slice_index_or below.stages i []) seen are view is goes
    ∙ ap (λ (l : List Stage). record seen { stages = slice_set seen.stages i (stages_of row ++ l) }) (sym it.under)
    ∙ ap (λ (r : StageRow). record seen { stages = slice_set seen.stages i (stages_of r ++ drop 1 (slice_index_or seen.stages i [])) }) (sym same)

pub gone_topped : (tops : List (Option Stage)) (below new : Stacks) (i : ℕ) (t : Option Stage) (l : List Stage) → AreTopped tops below.stages → i < length tops → t ≡ top None l → new ≡ record below { stages = slice_set below.stages i (drop 1 l) }
    → AreTopped (slice_set tops i t) new.stages
gone_topped tops below new i t l are lt is goes =
    subst (λ x. AreTopped (slice_set tops i x) new.stages) (sym is) (subst (λ (s : Stacks). AreTopped (slice_set tops i (top None l)) s.stages) (sym goes) (topped_set tops below.stages i (top None l) (drop 1 l) are lt (stack_over l)))

-- one pile that changes twice
pub twice : (old mid new : Stacks) (i : ℕ) (x y : List Stage) → mid ≡ record old { stages = slice_set old.stages i x } → new ≡ record mid { stages = slice_set mid.stages i y } → new ≡ record old { stages = slice_set old.stages i y }
twice old mid new i x y was is =
    is ∙ ap (λ (s : Stacks). record s { stages = slice_set s.stages i y }) was ∙ ap (λ (l : List (List Stage)). record old { stages = l }) (set-set old.stages i x y)

pub pile_now : (old new : Stacks) (i : ℕ) (x : List Stage) → i < length old.stages → new ≡ record old { stages = slice_set old.stages i x } → slice_index_or new.stages i [] ≡ x
pile_now old new i x lt is = ap (λ (s : Stacks). slice_index_or s.stages i []) is ∙ get_or-set_same old.stages i x [] lt

pub still_within : (old new : Stacks) (i : ℕ) (x : List Stage) → i < length old.stages → new ≡ record old { stages = slice_set old.stages i x } → i < length new.stages
still_within old new i x lt is = subst (λ n. i < n) (sym (ap (λ (s : Stacks). length s.stages) is ∙ length-set old.stages i x)) lt

-- a pile that is as it was
pub pile_stays : (s : Stacks) (i : ℕ) → s ≡ record s { stages = slice_set s.stages i (slice_index_or s.stages i []) }
pile_stays s i = ap (λ (l : List (List Stage)). record s { stages = l }) (sym (set-get_or s.stages i []))

-- what a pop that gives this leaves
pub record IsOff (l : List Stage) (s : Stage) : Type 0 where
  pub is : l ≡ s ∷ drop 1 l
  pub less : length (drop 1 l) < length l

pub off : (l : List Stage) (s : Stage) → Some s ≡ top None l → IsOff l s
off [] s is = elim (none_some s is) [ ]
  where
    none_some : (s : Stage) → Some s ≡ None → ⊥
    none_some s is = cc
off (x ∷ rest) s is = record { is = ap (λ (y : Stage). y ∷ rest) (same is); less = omega arith }
  where
    same : Some s ≡ Some x → x ≡ s
    same is = cc

pub none_off : (l : List Stage) → None ≡ top None l → l ≡ []
none_off [] is = refl
none_off (x ∷ rest) is = elim (some_none x is) [ ]
  where
    some_none : (x : Stage) → None ≡ Some x → ⊥
    some_none x is = cc

-- a code that comes to a stage of a pile, or goes further down
pub code_ends : (l all : List Stage) (s : Stage) (c : ℤ) → IsOff l s → ((a : Await) → s ≡ stage.Await a → ⊥) → after_code l c ≡ all → all ≡ s ∷ drop 1 l
code_ends l all s c taken never same = sym same ∙ ap (λ (m : List Stage). after_code m c) taken.is ∙ stays s never
  where
    stays : (x : Stage) → ((a : Await) → x ≡ stage.Await a → ⊥) → after_code (x ∷ drop 1 l) c ≡ x ∷ drop 1 l
    stays (stage.Await a) never = elim (never a refl) [ ]
    stays (stage.Idle x) never = refl
    stays (stage.Suspend x) never = refl
    stays (stage.Resume x) never = refl
    stays (stage.Helper x) never = refl
    stays (stage.Control x) never = refl

pub code_goes : (l all : List Stage) (s next : Stage) (a : Await) (c : ℤ) (h : Handed) → IsOff l s → s ≡ stage.Await a → h ≡ take_code a c → h ≡ handed.Goes next → after_code l c ≡ all → all ≡ next ∷ drop 1 l
code_goes l all s next a c h taken is takes goes same =
    sym same ∙ ap (λ (m : List Stage). after_code m c) (taken.is ∙ ap (λ (x : Stage). x ∷ drop 1 l) is) ∙ after_goes a c next (drop 1 l) (sym takes ∙ goes)

pub code_hands : (l all : List Stage) (s : Stage) (a : Await) (c kept : ℤ) (h : Handed) → IsOff l s → s ≡ stage.Await a → h ≡ take_code a c → h ≡ handed.Back kept → after_code l c ≡ all → after_code (drop 1 l) kept ≡ all
code_hands l all s a c kept h taken is takes hands same =
    sym (after_hands a c kept (drop 1 l) (sym takes ∙ hands)) ∙ sym (ap (λ (m : List Stage). after_code m c) (taken.is ∙ ap (λ (x : Stage). x ∷ drop 1 l) is)) ∙ same

-- no other pile changes, where one gives way twice
pub only : (old mid new : Stacks) (i : ℕ) (y : List Stage) → i < length old.stages → mid ≡ record old { stages = slice_set old.stages i (slice_index_or mid.stages i []) } → new ≡ record mid { stages = slice_set mid.stages i y }
    → new ≡ record old { stages = slice_set old.stages i (slice_index_or new.stages i []) }
only old mid new i y lt was is =
    let within = still_within old mid i (slice_index_or mid.stages i []) lt was in
    twice old mid new i (slice_index_or mid.stages i []) y was is ∙ ap (λ (l : List Stage). record old { stages = slice_set old.stages i l }) (sym (pile_now mid new i y within is))

pub not_some : (t : Option Stage) → ((s : Stage) → t ≡ Some s → ⊥) → t ≡ None
not_some None never = refl
not_some (Some s) never = elim (never s refl) [ ]

-- one more of those that are put, from the last
pub one_more : (more here l : List Stage) (left : ℕ) (d : Stage) → 0 < left → left ≤ length more → here ≡ drop left more ++ l → slice_index_or more (left - 1) d ∷ here ≡ drop (left - 1) more ++ l
one_more more here l left d some within is =
    let e : left - 1 + 1 ≡ left = omega (arith, some) in
    let lt : left - 1 < length more = omega (arith, some, within) in
    ap (λ (m : List Stage). slice_index_or more (left - 1) d ∷ m) (is ∙ ap (λ k. drop k more ++ l) (sym e)) ∙ ap (λ (m : List Stage). m ++ l) (sym (drop_more more (left - 1) d lt))

all_but_first : (stages : List Stage) → take (length stages - 1) (drop 1 stages) ++ [] ≡ drop 1 stages
all_but_first [] = refl
all_but_first (x ∷ xs) = let e : length (x ∷ xs) - 1 ≡ length xs = omega arith in append-nil (take (length (x ∷ xs) - 1) xs) ∙ ap (λ n. take n xs) e ∙ take_all (length xs) xs (omega arith)

-- a pile that is cleared, and then filled
pub filled : (old mid new : Stacks) (i : ℕ) (stages : List Stage) → i < length old.stages → mid ≡ record old { stages = slice_set old.stages i [] }
    → new ≡ record mid { stages = slice_set mid.stages i (take (length stages - 1) (drop 1 stages) ++ slice_index_or mid.stages i []) } → new ≡ record old { stages = slice_set old.stages i (drop 1 stages) }
filled old mid new i stages lt was is =
    twice old mid new i [] (take (length stages - 1) (drop 1 stages) ++ slice_index_or mid.stages i []) was is
    ∙ ap (λ (l : List Stage). record old { stages = slice_set old.stages i l }) (ap (λ (l : List Stage). take (length stages - 1) (drop 1 stages) ++ l) (pile_now old mid i [] lt was) ∙ all_but_first stages)
