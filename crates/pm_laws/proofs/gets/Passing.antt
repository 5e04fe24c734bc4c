-- A test of stages, over a stack whose top has given way.
use Rattle.std.proofs.Common.{◌≡◌, ◌⊎◌, inl, inr, Bool, true, false, List, [], ◌∷◌, ◌++◌, Option, Some, None, ℤ, drop, if◌then◌else◌, ap, refl, sym, ◌∙◌}
use Rattle.std.specs.Prelude.{◌||◌}
use Rattle.pm_model.specs.declared.plan.Plan.{Plan}
use Rattle.pm_model.specs.declared.stage.Await.{Await}
use Rattle.pm_model.specs.declared.stage.Handed.{Handed}
use Rattle.pm_model.specs.declared.stage.Handed.TheVariants as handed
use Rattle.pm_model.specs.declared.stage.Stage.{Stage}
use Rattle.pm_model.specs.declared.stage.Stage.TheVariants as stage
use Rattle.pm_model.specs.declared.stage.Then.{Then}
use Rattle.pm_model.specs.Handing.{take_code, after_code, after_back, after_then}
use Rattle.pm_model.proofs.Arrivals.{on_handed, after_await}
use Rattle.pm_laws.specs.stacks.Shape.{Call, call_of, May, Fits, Nested}
use Rattle.pm_laws.proofs.stacks.Standing.{IsStart, Stands}
use Rattle.pm_laws.specs.gets.Answered.{some_of}

pub either_of : (a b : Bool) → a || b ≡ true → (a ≡ true) ⊎ (b ≡ true)
either_of true b e = inl refl
either_of false b e = inr e

pub or_front : (a b : Bool) → a ≡ true → a || b ≡ true
or_front true b e = refl
or_front false b e = cc

pub or_rear : (a b : Bool) → b ≡ true → a || b ≡ true
or_rear true b e = refl
or_rear false b e = e

-- of a few stages, so that it computes
abbrev pub few : (Stage → Bool) → List Stage → Bool
few test [] = false
few test (x ∷ []) = test x
few test (x ∷ y ∷ rest) = test x || few test (y ∷ rest)

-- the stages that take the place of a stage of this call pass the test, or the call ends with a code that passes another
abbrev pub tells_of : (Stage → Bool) → (Call → ℤ → Bool) → Call → Option ℤ → List Stage → Bool
tells_of test ends k None push = few test push
tells_of test ends k (Some c) push = ends k c

abbrev pub tells : (Stage → Bool) → (Call → ℤ → Bool) → Stage → Then → Bool
tells test ends s next = tells_of test ends (call_of s) next.back next.push

or_false : (b : Bool) → b || false ≡ b
or_false true = refl
or_false false = refl

few_is : (test : Stage → Bool) (push : List Stage) → some_of test push ≡ few test push
few_is test [] = refl
few_is test (x ∷ []) = or_false (test x)
few_is test (x ∷ y ∷ rest) = rw (few_is test (y ∷ rest)) refl

some_append : (test : Stage → Bool) (push rest : List Stage) → some_of test (push ++ rest) ≡ true → (some_of test push ≡ true) ⊎ (some_of test rest ≡ true)
some_append test [] rest e = inr e
some_append test (x ∷ push) rest e = elim (either_of (test x) (some_of test (push ++ rest)) e) [
  | inl a ↦ inl (or_front (test x) (some_of test push) a)
  | inr b ↦ elim (some_append test push rest b) [
    | inl c ↦ inl (or_rear (test x) (some_of test push) c)
    | inr c ↦ inr c
  ]
]

-- a stage that takes a code passes only where it did before, or where the code does
abbrev pub Passes : (Stage → Bool) → (Call → ℤ → Bool) → Await → ℤ → Call → Handed → Type 0
Passes test ends a c k (handed.Goes s) = test s ≡ true → (test (stage.Await a) ≡ true) ⊎ (ends k c ≡ true)
Passes test ends a c k (handed.Back kept) = ends (call_of (stage.Await a)) kept ≡ true → test (stage.Await a) ≡ true

pub silent : (test : Stage → Bool) (ends : Call → ℤ → Bool) (a : Await) (c : ℤ) (k : Call) (b : Bool) (s t : Stage) → test s ≡ false → test t ≡ false
    → Passes test ends a c k (if b then handed.Goes s else handed.Goes t)
silent test ends a c k true s t p q = λ e. let z : true ≡ false = sym e ∙ p in cc
silent test ends a c k false s t p q = λ e. let z : true ≡ false = sym e ∙ q in cc

abbrev pub AllPass : Plan → (Stage → Bool) → (Call → ℤ → Bool) → Type 0
AllPass plan test ends = (a : Await) (c : ℤ) (k : Call) → Fits plan (stage.Await a) → May plan a k → Passes test ends a c k (take_code a c)

abbrev Below : (Stage → Bool) → (Call → ℤ → Bool) → Call → ℤ → List Stage → List Stage → Type 0
Below test ends k c rest new = some_of test new ≡ true → (some_of test rest ≡ true) ⊎ (ends k c ≡ true)

handed_below : (test : Stage → Bool) (ends : Call → ℤ → Bool) (a : Await) (c : ℤ) (k : Call) (h : Handed) (rest : List Stage) → Passes test ends a c k h
    → ((kept : ℤ) → Below test ends (call_of (stage.Await a)) kept rest (after_code rest kept)) → Below test ends k c (stage.Await a ∷ rest) (on_handed h rest (after_code rest))
handed_below test ends a c k (handed.Goes s) rest pass below = λ e. elim (either_of (test s) (some_of test rest) e) [
  | inl good ↦ elim (pass good) [ inl was ↦ inl (or_front (test (stage.Await a)) (some_of test rest) was) | inr it ↦ inr it ]
  | inr rests ↦ inl (or_rear (test (stage.Await a)) (some_of test rest) rests)
]
handed_below test ends a c k (handed.Back kept) rest pass below = λ e. elim (below kept e) [
  | inl rests ↦ inl (or_rear (test (stage.Await a)) (some_of test rest) rests)
  | inr it ↦ inl (or_front (test (stage.Await a)) (some_of test rest) (pass it))
]

code_below : (plan : Plan) (test : Stage → Bool) (ends : Call → ℤ → Bool) → AllPass plan test ends → (k : Call) (rest : List Stage) (c : ℤ) → Nested plan k rest
    → Below test ends k c rest (after_code rest c)
code_below plan test ends pass k [] c n = λ e. cc
code_below plan test ends pass k (stage.Await a ∷ rest) c n =
    λ e. handed_below test ends a c k (take_code a c) rest (pass a c k n.1 n.0) (λ kept. code_below plan test ends pass (call_of (stage.Await a)) rest kept n.2) (sym (ap (some_of test) (after_await a c rest)) ∙ e)
code_below plan test ends pass k (s ∷ rest) c n = elim n.0 [ ]

pub then_below : (plan : Plan) (test : Stage → Bool) (ends : Call → ℤ → Bool) → AllPass plan test ends → (k : Call) (next : Then) (rest : List Stage) → Nested plan k rest
    → some_of test (after_then next rest) ≡ true → (some_of test rest ≡ true) ⊎ (tells_of test ends k next.back next.push ≡ true)
then_below plan test ends pass k next rest n e = go next.back next.push e
  where
    go : (back : Option ℤ) (push : List Stage) → some_of test (after_back back push rest) ≡ true → (some_of test rest ≡ true) ⊎ (tells_of test ends k back push ≡ true)
    go None push e = elim (some_append test push rest e) [ inl new ↦ inr (sym (few_is test push) ∙ new) | inr old ↦ inl old ]
    go (Some c) push e = code_below plan test ends pass k rest c n e

-- a stage at which an actor stands passes a test where its stack does
abbrev pub IsLight : (Stage → Bool) → Type 0
IsLight test = (s : Stage) → IsStart s → test s ≡ false

pub stands_some : (test : Stage → Bool) → IsLight test → (s : Stage) (stack : List Stage) → Stands s stack → some_of test (s ∷ drop 1 stack) ≡ some_of test stack
stands_some test light s stack st = elim st.either [
  | inl p ↦ rw (p.0, light s p.1) refl
  | inr is ↦ sym (ap (some_of test) is)
]
