-- Of each trace exactly one thing is said.
use Rattle.std.proofs.Common.{ℕ, ◌≡◌, inl, inr, Bool, true, false, List, refl, sym, subst}
use Rattle.pm_model.specs.declared.event.Line.{Line}
use Rattle.pm_model.specs.declared.plan.Plan.{Plan}
use Rattle.pm_model.specs.FirstBad.{IsFirstBad, IsLawfulText, StandsFor}
use Rattle.pm_model.specs.Lawful.{IsFinished, is_finished}
use Rattle.pm_model.specs.NoWhy.{IsWhy, NoWhy}
use Rattle.pm_model.specs.Verdict.{IsVerdict, No, Verdict, YesFinished, YesOpen}
use Rattle.pm_model.specs.World.{world}
use Rattle.pm_law_texts.proofs.Formats.{only_list}
use Rattle.pm_law_texts.proofs.Walk.{decided, not_both, only_bad}
use Rattle.pm_law_texts.proofs.WhyBad.{only_reason, some_reason}

yes : (plan : Plan) (bytes : List ℕ) → IsLawfulText plan bytes → (v : Verdict) × IsVerdict plan bytes v
yes plan bytes (h, lawful, stands) = go (is_finished plan (world plan h)) refl
  where
    go : (b : Bool) → is_finished plan (world plan h) ≡ b → (v : Verdict) × IsVerdict plan bytes v
    go true e = (YesFinished, (h, lawful, stands, e))
    go false e = (YesOpen, (h, lawful, stands, λ finished. cc (e, finished)))

no : (plan : Plan) (bytes : List ℕ) (n : ℕ) → IsFirstBad plan bytes n → (v : Verdict) × IsVerdict plan bytes v
no plan bytes n bad = let found = some_reason plan bytes n bad in (No n found.0, (bad, found.1))

pub some_verdict : (plan : Plan) (bytes : List ℕ) → (v : Verdict) × IsVerdict plan bytes v
some_verdict plan bytes =
    elim (decided plan bytes) as (λ _. (v : Verdict) × IsVerdict plan bytes v) [
      | inl lawful ↦ yes plan bytes lawful
      | inr found ↦ no plan bytes found.0 found.1
    ]

finished_open :
    (plan : Plan) (bytes : List ℕ) (h k : List Line) → StandsFor plan bytes h → StandsFor plan bytes k → IsFinished plan h → (IsFinished plan k → ⊥) → ⊥
finished_open plan bytes h k of_h of_k finished unfinished =
    let P : List Line → Type 0 = λ l. IsFinished plan l in
    unfinished (subst P (only_list plan bytes h k of_h of_k) finished)

same_reason : (plan : Plan) (bytes : List ℕ) (n m : ℕ) (a b : NoWhy) → n ≡ m → IsWhy plan bytes n a → IsWhy plan bytes m b → a ≡ b
same_reason plan bytes n m a b same x y =
    let P : ℕ → Type 0 = λ k. IsWhy plan bytes k b in
    only_reason plan bytes n a b x (subst P (sym same) y)

pub only_verdict : (plan : Plan) (bytes : List ℕ) (a b : Verdict) → IsVerdict plan bytes a → IsVerdict plan bytes b → a ≡ b
only_verdict plan bytes YesFinished YesFinished x y = refl
only_verdict plan bytes YesFinished YesOpen (h, lawful, stands, finished) (k, also, its, unfinished) = absurd (finished_open plan bytes h k stands its finished unfinished)
only_verdict plan bytes YesFinished (No n why) (h, lawful, stands, finished) y = absurd (not_both plan bytes n (h, lawful, stands) y.0)
only_verdict plan bytes YesOpen YesFinished (h, lawful, stands, unfinished) (k, also, its, finished) = absurd (finished_open plan bytes k h its stands finished unfinished)
only_verdict plan bytes YesOpen YesOpen x y = refl
only_verdict plan bytes YesOpen (No n why) (h, lawful, stands, unfinished) y = absurd (not_both plan bytes n (h, lawful, stands) y.0)
only_verdict plan bytes (No n why) YesFinished x (h, lawful, stands, finished) = absurd (not_both plan bytes n (h, lawful, stands) x.0)
only_verdict plan bytes (No n why) YesOpen x (h, lawful, stands, unfinished) = absurd (not_both plan bytes n (h, lawful, stands) x.0)
only_verdict plan bytes (No n a) (No m b) x y =
    let same : n ≡ m = only_bad plan bytes n m x.0 y.0 in
    let reasons : a ≡ b = same_reason plan bytes n m a b same x.1 y.1 in
    cc
