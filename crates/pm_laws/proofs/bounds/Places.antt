-- The places of actors after a line: no stage in them calls a command.
use Rattle.std.proofs.Common.{◌≡◌, Bool, true, false, List, [], ◌∷◌, ◌++◌, Option, Some, None, ℤ, drop, if◌then◌else◌, refl, sym, subst, inl, inr}
use Rattle.pm_model.specs.declared.stage.Await.{Await}
use Rattle.pm_model.specs.declared.stage.Await.TheVariants as await
use Rattle.pm_model.specs.declared.stage.Handed.{Handed}
use Rattle.pm_model.specs.declared.stage.Handed.TheVariants as handed
use Rattle.pm_model.specs.declared.stage.HelperStage.TheVariants as at
use Rattle.pm_model.specs.declared.stage.Stage.{Stage}
use Rattle.pm_model.specs.declared.stage.Stage.TheVariants as stage
use Rattle.pm_model.specs.declared.stage.Then.{Then}
use Rattle.pm_model.specs.Handing.{after_back, after_code, after_then, take_code}
use Rattle.pm_model.specs.ResumeTable.{is_supplied}
use Rattle.pm_model.proofs.Arrivals.{after_await, on_handed}
use Rattle.pm_laws.proofs.stacks.Standing.{IsStart, Stands}
use Rattle.pm_laws.proofs.bounds.Saying.{AreLater, IsLater, is_ret, zero_ret}

abbrev HandsLater : Handed → Type 0
HandsLater (handed.Goes s) = IsLater s
HandsLater (handed.Back k) = Unit {0}

either_later : (b : Bool) (x y : Handed) → HandsLater x → HandsLater y → HandsLater (if b then x else y)
either_later true x y p q = p
either_later false x y p q = q

hands_later : (a : Await) (c : ℤ) → IsLater (stage.Await a) → HandsLater (take_code a c)
unfolding take_code
hands_later (await.Return h d) c takes = rw takes refl
hands_later (await.ReturnZero h d) c is = zero_ret h
hands_later (await.ActiveSupplier d link) c is = either_later (is_supplied c) _ _ tt tt
hands_later _ c is = tt

handed_later : (h : Handed) (rest : List Stage) → HandsLater h → AreLater rest → ((k : ℤ) → AreLater (after_code rest k)) → AreLater (on_handed h rest (after_code rest))
handed_later (handed.Goes s) rest is all below = (is, all)
handed_later (handed.Back k) rest is all below = below k

code_later : (rest : List Stage) (c : ℤ) → AreLater rest → AreLater (after_code rest c)
code_later [] c all = tt
code_later (stage.Await a ∷ rest) c all =
    subst AreLater (sym (after_await a c rest)) (handed_later (take_code a c) rest (hands_later a c all.0) all.1 (λ k. code_later rest k all.1))
code_later (s ∷ rest) c all = all

pushed_later : (push rest : List Stage) → AreLater push → AreLater rest → AreLater (push ++ rest)
pushed_later [] rest new all = all
pushed_later (s ∷ push) rest new all = (new.0, pushed_later push rest new.1 all)

pub then_later : (next : Then) (rest : List Stage) → AreLater next.push → AreLater rest → AreLater (after_then next rest)
then_later next rest new all = go next.back next.push new
  where
    go : (back : Option ℤ) (push : List Stage) → AreLater push → AreLater (after_back back push rest)
    go None push new = pushed_later push rest new all
    go (Some c) push new = code_later rest c all

pub rest_later : (stack : List Stage) → AreLater stack → AreLater (drop 1 stack)
rest_later [] all = tt
rest_later (s ∷ rest) all = all.1

-- the stage at which an actor stands returns 0 where there is no device
abbrev pub IsRet : Stage → Type 0
IsRet (stage.Helper (at.Ret h d c)) = is_ret h c ≡ true
IsRet _ = Unit {0}

start_ret : (s : Stage) → IsStart s → IsRet s
start_ret (stage.Helper (at.Ret h d c)) is = elim is [ ]
start_ret _ is = tt

later_ret : (s : Stage) → IsLater s → IsRet s
later_ret (stage.Helper (at.Ret h d c)) is = is
later_ret _ is = tt

pub stands_ret : (s : Stage) (stack : List Stage) → AreLater stack → Stands s stack → IsRet s
stands_ret s stack all st = elim st.either [
  | inl p ↦ start_ret s p.1
  | inr is ↦ let both : AreLater (s ∷ drop 1 stack) = subst AreLater is all in later_ret s both.0
]
