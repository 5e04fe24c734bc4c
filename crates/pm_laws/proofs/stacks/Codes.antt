-- A callback's code is one of the plan's, or 0.
use Rattle.std.proofs.Common.{ℕ, ◌≡◌, Bool, true, false, List, [], Option, Some, None, ℤ, pos, int_le, length, slice_get, unwrap_or, refl}
use Rattle.std.specs.Option.{option_map_or}
use Rattle.std.specs.Ordering.{int_eq}
use Rattle.std.proofs.lemmas.Bool.{false≢true}
use Rattle.std.proofs.lemmas.Bool.Decides.{Decides-int_eq}
use Rattle.pm_base.specs.declared.Cb.{Cb}
use Rattle.pm_base.specs.declared.Cb.TheVariants as cb
use Rattle.pm_base.specs.declared.DevId.{DevId}
use Rattle.pm_model.specs.declared.plan.Plan.{Plan}
use Rattle.pm_model.specs.declared.rows.DeviceRow.{DeviceRow}
use Rattle.pm_model.specs.Derived.{callback_code}
use Rattle.pm_model.specs.IsPlan.{is_device, is_code, are_codes}
use Rattle.pm_model.specs.PlanRows.{codes_of, codes_of_row}
use Rattle.pm_model.specs.Views.{Views}
use Rattle.pm_laws.specs.stacks.Shape.{IsEndCode}
use Rattle.pm_laws.proofs.stacks.PlanLaw.{all_get, device_lawful}
use Rattle.pm_laws.proofs.stacks.Tests.{front, rear, not_true}

not_one : (c : ℤ) → int_le c (pos 0) ≡ true → int_eq c (pos 1) ≡ false
not_one c le = go (int_eq c (pos 1)) refl
  where
    go : (b : Bool) → int_eq c (pos 1) ≡ b → int_eq c (pos 1) ≡ false
    go false e = e
    go true e = let one : c ≡ pos 1 = (Decides-int_eq c (pos 1)).0 e in let k : false ≡ true = rw one at le in absurd (false≢true k)

code_ends : (c : ℤ) → is_code c ≡ true → IsEndCode c
code_ends c is = (not_one c (rear _ _ (front _ _ is)), not_true _ (rear _ _ is))

picked : (codes : List ℤ) (n : ℕ) → are_codes codes ≡ true → is_code (unwrap_or (slice_get codes n) (pos 0)) ≡ true
picked codes n are = go (slice_get codes n) refl
  where
    go : (o : Option ℤ) → slice_get codes n ≡ o → is_code (unwrap_or o (pos 0)) ≡ true
    go None e = refl
    go (Some c) e = all_get is_code codes n c (rear _ _ are) e

row_codes : (k : Cb) (domains i : ℕ) (row : DeviceRow) → is_device domains i row ≡ true → are_codes (codes_of_row k row) ≡ true
row_codes cb.Suspend domains i row is = rear _ _ (front _ _ is)
row_codes cb.Resume domains i row is = rear _ _ is
row_codes cb.Idle domains i row is = go row.idle (rear _ _ (front _ _ (front _ _ is)))
  where
    go : (o : Option (List ℤ)) → option_map_or are_codes o true ≡ true → are_codes (unwrap_or o []) ≡ true
    go None e = refl
    go (Some codes) e = e

are_codes_of : (plan : Plan) (k : Cb) (d : DevId) → are_codes (codes_of plan k d) ≡ true
unfolding codes_of
are_codes_of plan k d = go (slice_get plan.devices d.0) refl
  where
    go : (o : Option DeviceRow) → slice_get plan.devices d.0 ≡ o → are_codes (option_map_or (codes_of_row k) o []) ≡ true
    go None e = refl
    go (Some row) e = row_codes k (length plan.domains) d.0 row (device_lawful plan d.0 row e)

pub callback_is_code : (plan : Plan) (v : Views) (k : Cb) (d : DevId) → is_code (callback_code plan v k d) ≡ true
unfolding callback_code
callback_is_code plan v k d = picked (codes_of plan k d) _ (are_codes_of plan k d)

pub callback_ends : (plan : Plan) (v : Views) (k : Cb) (d : DevId) → IsEndCode (callback_code plan v k d)
callback_ends plan v k d = code_ends (callback_code plan v k d) (callback_is_code plan v k d)
