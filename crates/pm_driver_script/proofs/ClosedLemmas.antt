-- Places that follow one another.
use Rattle.std.proofs.Common.{◌≡◌, ℕ, suc, ◌+◌, ◌-◌, ◌<◌, ◌≤◌, ◌⊎◌, inl, inr, List, Option, Some, None, get_or, length, slice_get, ap, sym, ◌∙◌, arith}
use Rattle.std.proofs.lemmas.Option.{slice_get_cases}
use Rattle.std.proofs.lemmas.Bool.Decides.{nat_tests}
use Rattle.std.specs.Option.{option_map_or}
use Rattle.pm_driver_script.specs.Programs.{closed, followed_by}
use Rattle.pm_driver_script.specs.declared.names.ScriptNames.{ScriptNames}
use Rattle.pm_driver_script.specs.declared.places.Standing.{Standing}
use Rattle.pm_driver_text.specs.declared.steps.ScriptStep.{ScriptStep}

-- one more place is looked at
pub one_more : (steps : List ScriptStep) (names : ScriptNames) (turns at : ℕ) (found next : List Standing) (s : Standing) (all : Option (List Standing)) → at < 1000
    → Some s ≡ slice_get found at → next ≡ followed_by steps names turns found s
    → closed steps names turns (1000 - at) at found ≡ all → closed steps names turns (1000 - (at + 1)) (at + 1) next ≡ all
unfolding closed
one_more steps names turns at found next s all below here is was =
    let e : 1000 - at ≡ suc (1000 - (at + 1)) = omega arith in
    ap (closed steps names turns (1000 - (at + 1)) (at + 1)) is
    ∙ ap (λ o. option_map_or (λ s. closed steps names turns (1000 - (at + 1)) (at + 1) (followed_by steps names turns found s)) o (Some found)) here
    ∙ sym (ap (λ n. closed steps names turns n at found) e) ∙ was

-- none is left
pub none_left : (steps : List ScriptStep) (names : ScriptNames) (turns at : ℕ) (found : List Standing) (all : Option (List Standing)) → at < 1000
    → None ≡ slice_get found at → closed steps names turns (1000 - at) at found ≡ all → Some found ≡ all
unfolding closed
none_left steps names turns at found all below here was =
    let e : 1000 - at ≡ suc (1000 - (at + 1)) = omega arith in
    ap (λ o. option_map_or (λ s. closed steps names turns (1000 - (at + 1)) (at + 1) (followed_by steps names turns found s)) o (Some found)) here
    ∙ sym (ap (λ n. closed steps names turns n at found) e) ∙ was

-- all that may be were looked at
pub many_left : (steps : List ScriptStep) (names : ScriptNames) (turns at : ℕ) (found : List Standing) (all : Option (List Standing)) → 1000 ≤ at → at ≤ 1000
    → 1000 < length found → closed steps names turns (1000 - at) at found ≡ all → None ≡ all
unfolding closed
many_left steps names turns at found all low high more was =
    let e : 1000 - at ≡ 0 = omega arith in
    let same : at ≡ 1000 = omega arith in
    let done : closed steps names turns 0 at found ≡ None = grind (arith, nat_tests) in
    sym done ∙ sym (ap (λ n. closed steps names turns n at found) e) ∙ was

pub few_left : (steps : List ScriptStep) (names : ScriptNames) (turns at : ℕ) (found : List Standing) (all : Option (List Standing)) → 1000 ≤ at → at ≤ 1000
    → length found ≤ 1000 → closed steps names turns (1000 - at) at found ≡ all → Some found ≡ all
unfolding closed
few_left steps names turns at found all low high few was =
    let e : 1000 - at ≡ 0 = omega arith in
    let done : closed steps names turns 0 at found ≡ Some found = grind (arith, nat_tests) in
    sym done ∙ sym (ap (λ n. closed steps names turns n at found) e) ∙ was

behind_of : (found : List Standing) (at : ℕ) → ((x : Standing) × (at < length found) × (slice_get found at ≡ Some x) × (get_or found at x ≡ x)) ⊎ ((length found ≤ at) × (slice_get found at ≡ None)) → None ≡ slice_get found at → length found ≤ at
behind_of found at (inl here) none = cc (none, here.2)
behind_of found at (inr past) none = past.0

-- none stands at a place behind the last
pub none_behind : (found : List Standing) (at : ℕ) → None ≡ slice_get found at → length found ≤ at
none_behind found at none = behind_of found at (slice_get_cases found at).1 none
