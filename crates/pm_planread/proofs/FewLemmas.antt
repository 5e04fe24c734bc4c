-- A plan that isn't refused for too many items has few, and no list of codes or commands that is too long.
use Rattle.std.proofs.Common.{◌≡◌, ℕ, ◌+◌, ◌<◌, ◌≤◌, Bool, true, false, not, List, [], ◌∷◌, length, Option, None, refl, arith}
use Rattle.std.proofs.lemmas.Bool.Decides.{nat_tests}
use Rattle.pm_base.specs.declared.limits.TheConstants.{MAX_CALLERS, MAX_CODES, MAX_COMMANDS, MAX_DEVICES, MAX_DOMAINS, MAX_LINKS}
use Rattle.pm_model.specs.IsPlan.{each_at}
use Rattle.pm_planread.specs.tree.Places.{first_fault}
use Rattle.pm_planread.specs.declared.tree.place.Place.{Place}
use Rattle.pm_planread.specs.declared.tree.place.Section.{Section}
use Rattle.pm_planread.specs.declared.tree.place.Section.TheVariants.{Domain, Device, Link, Caller}
use Rattle.pm_planread.specs.declared.tree.raw.RawDevice.{RawDevice}
use Rattle.pm_planread.specs.declared.tree.raw.RawCaller.{RawCaller}
use Rattle.pm_planread.specs.declared.tree.raw.RawPlan.{RawPlan}
use Rattle.pm_planread.proofs.rows.FaultLemmas.{each_of, neither}
use Rattle.pm_planread.specs.rows.Few.{AreFew}
use Rattle.pm_planread.specs.rows.TooMany.{caller_too_many, device_too_many, has_many_codes, has_many_commands, item_too_many, past_limit, too_many_fault}

within_limit : (section : Section) (limit count : ℕ) → past_limit section limit count ≡ None → count ≤ limit
within_limit section limit count none = grind (arith, nat_tests)

-- an item without this fault is not past the limit, and has no list that is too long
early_item : (section : Section) (limit part i : ℕ) (is_long : Bool) → item_too_many section limit part i is_long ≡ None → i < limit
early_item section limit part i is_long none = grind (arith, nat_tests)

short_item : (section : Section) (limit part i : ℕ) (is_long : Bool) → item_too_many section limit part i is_long ≡ None → not is_long ≡ true
short_item section limit part i false none = refl
short_item section limit part i true none = grind (arith, nat_tests)

-- where no item is past the limit, they are not too many
counted : {A : Type 0} (f : ℕ → A → Option Place) (limit : ℕ) → ((i : ℕ) (x : A) → f i x ≡ None → i < limit) → (i : ℕ) (xs : List A) → i ≤ limit → first_fault f i xs ≡ None → i + length xs ≤ limit
counted f limit early i [] within none = omega arith
counted f limit early i (x ∷ xs) within none =
    let (here, after) = neither (f i x) (first_fault f (i + 1) xs) none in
    let below : i < limit = early i x here in
    let rest : (i + 1) + length xs ≤ limit = counted f limit early (i + 1) xs (omega arith) after in
    omega arith

pub record Short (raw : RawPlan) : Type 0 where
  pub few : AreFew raw
  pub codes : each_at (λ i row. not (has_many_codes row)) 0 raw.devices ≡ true
  pub commands : each_at (λ i row. not (has_many_commands row)) 0 raw.callers ≡ true

pub short_of : (raw : RawPlan) → too_many_fault raw ≡ None → Short raw
unfolding too_many_fault
short_of raw none =
    let (domains, rest) = neither (past_limit Domain MAX_DOMAINS (length raw.domains)) _ none in
    let (devices, more) = neither (first_fault device_too_many 0 raw.devices) _ rest in
    let (links, callers) = neither (past_limit Link MAX_LINKS (length raw.links)) (first_fault caller_too_many 0 raw.callers) more in
    let early_device : (i : ℕ) (row : RawDevice) → device_too_many i row ≡ None → i < MAX_DEVICES = λ i row none. early_item Device MAX_DEVICES MAX_CODES i (has_many_codes row) none in
    let early_caller : (i : ℕ) (row : RawCaller) → caller_too_many i row ≡ None → i < MAX_CALLERS = λ i row none. early_item Caller MAX_CALLERS MAX_COMMANDS i (has_many_commands row) none in
    let device_count : 0 + length raw.devices ≤ MAX_DEVICES = counted device_too_many MAX_DEVICES early_device 0 raw.devices (omega arith) devices in
    let caller_count : 0 + length raw.callers ≤ MAX_CALLERS = counted caller_too_many MAX_CALLERS early_caller 0 raw.callers (omega arith) callers in
    record {
      few = record {
        domains = within_limit Domain MAX_DOMAINS (length raw.domains) domains;
        devices = omega arith;
        links = within_limit Link MAX_LINKS (length raw.links) links;
        callers = omega arith;
      };
      codes = each_of device_too_many (λ i row. not (has_many_codes row)) (λ i row none. short_item Device MAX_DEVICES MAX_CODES i (has_many_codes row) none) 0 raw.devices devices;
      commands = each_of caller_too_many (λ i row. not (has_many_commands row)) (λ i row none. short_item Caller MAX_CALLERS MAX_COMMANDS i (has_many_commands row) none) 0 raw.callers callers;
    }

pub few_of : (raw : RawPlan) → too_many_fault raw ≡ None → AreFew raw
few_of raw none = (short_of raw none).few
