-- The derived test of two events is exact.
use Rattle.std.proofs.Common.{◌≡◌, true, arith, subst}
use Rattle.std.proofs.lemmas.Grind.{common_steps}
use Rattle.pm_model.specs.declared.event.Event.{Event}
use Rattle.pm_model.specs.declared.event.Event.TheVariants as event
use Rattle.pm_model.specs.contracts.event.EventEq.TheImpl.Laws.{laws-law}
use Rattle.pm_model.specs.contracts.event.EventPartialEq.TheImpl.{eq-value}

pub alike : (a b : Event) → eq-value.it a b ≡ true → a ≡ b
alike (event.Call c) (event.Call c') is = grind (arith, common_steps)
alike (event.Call c) _ is = cc is
alike (event.Ret h d c) (event.Ret h' d' c') is = grind (arith, common_steps)
alike (event.Ret h d c) _ is = cc is
alike (event.Get d w) (event.Get d' w') is = grind (arith, common_steps)
alike (event.Get d w) _ is = cc is
alike (event.Put d w) (event.Put d' w') is = grind (arith, common_steps)
alike (event.Put d w) _ is = cc is
alike (event.Usage d f) (event.Usage d' f') is = grind (arith, common_steps)
alike (event.Usage d f) _ is = cc is
alike (event.Idle d f) (event.Idle d' f') is = grind (arith, common_steps)
alike (event.Idle d f) _ is = cc is
alike (event.Suspend d f) (event.Suspend d' f') is = grind (arith, common_steps)
alike (event.Suspend d f) _ is = cc is
alike (event.Resume d f) (event.Resume d' f') is = grind (arith, common_steps)
alike (event.Resume d f) _ is = cc is
alike (event.Return k d c) (event.Return k' d' c') is = grind (arith, common_steps)
alike (event.Return k d c) _ is = cc is
alike (event.Wait d) (event.Wait d') is = grind (arith, common_steps)
alike (event.Wait d) _ is = cc is
alike (event.State d w) (event.State d' w') is = grind (arith, common_steps)
alike (event.State d w) _ is = cc is
alike (event.Begin d k) (event.Begin d' k') is = grind (arith, common_steps)
alike (event.Begin d k) _ is = cc is
alike (event.End d k c) (event.End d' k' c') is = grind (arith, common_steps)
alike (event.End d k c) _ is = cc is
alike (event.Domain d up n) (event.Domain d' up' n') is = grind (arith, common_steps)
alike (event.Domain d up n) _ is = cc is
alike (event.Work d act) (event.Work d' act') is = grind (arith, common_steps)
alike (event.Work d act) _ is = cc is
alike (event.Timer d act) (event.Timer d' act') is = grind (arith, common_steps)
alike (event.Timer d act) _ is = cc is

pub itself : (a b : Event) → a ≡ b → eq-value.it a b ≡ true
itself a b is = let P : Event → Type 0 = λ x. eq-value.it a x ≡ true in subst P is (laws-law.refl a)
