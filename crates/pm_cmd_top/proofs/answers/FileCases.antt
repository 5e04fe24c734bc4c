-- Of files that are told, a command has all that it needs, is refused, or lacks a file.
use Rattle.std.proofs.Common.{◌≡◌, ℕ, ◌⊎◌, Bool, true, false, List, Err, None, Ok, Some, inl, inr, length, map, refl}
use Rattle.std.specs.Prelude.{Contains, IsErr, IsNone, IsOk, IsOkAnd}
use Rattle.std.specs.List.{list_any}
use Rattle.std.specs.Str.{bytes_eq}
use Rattle.std.specs.declared.option.Option.{Option}
use Rattle.std.specs.declared.result.Result.{Result}
use Rattle.std.proofs.lemmas.Bool.{cases_lt}
use Rattle.std.proofs.lemmas.Cmp.{nat_list_eq_equiv}
use Rattle.std.proofs.lemmas.Map.Views.{Contains-from_any, list_any-from_Contains}
use Rattle.std.proofs.lemmas.Slice.Eq.{bytes_eq-Decides}
use Rattle.pm_base.specs.declared.limits.TheConstants.{TRACE_BYTES}
use Rattle.pm_planread.specs.PlanOf.{Contents, plan_of}
use Rattle.pm_planread.specs.declared.refusal.PlanFault.{PlanFault}
use Rattle.pm_cmd_ends.specs.Request.{Asked, Audit, Check, Convert, Desk, Make, Run, Serial, Times, Why}
use Rattle.pm_cmd_ends.specs.Told.{HasDevice, IsNoPlan, IsPlan, LacksDevice, Names}
use Rattle.pm_cmd_top.specs.answers.Complete.{HasAll, IsLong, IsMissing, IsRefused, IsShort}

-- a name is among others or isn't
decided : (name : List ℕ) (names : List (List ℕ)) (found : Bool) → list_any (bytes_eq name) names ≡ found → Contains names name ⊎ (¬ Contains names name)
decided name names true is = inl (Contains-from_any (λ x y same. (bytes_eq-Decides x y).0 same) name names is)
decided name names false is = inr (λ has. let there = list_any-from_Contains nat_list_eq_equiv name names has in cc)

-- the bytes are a plan or none
read_cases : (read : Result Contents PlanFault) → IsOk read ⊎ IsErr read
read_cases (Ok plan) = inl refl
read_cases (Err fault) = inr refl

plan_cases : (told : Option (List ℕ)) → IsPlan told ⊎ (IsNoPlan told ⊎ IsNone told)
plan_cases None = inr (inr refl)
plan_cases (Some bytes) = elim (read_cases (plan_of bytes)) [ inl is ↦ inl is | inr bad ↦ inr (inl bad) ]

read_device : (read : Result Contents PlanFault) (name : List ℕ) → IsOkAnd read (Names name) ⊎ (IsErr read ⊎ IsOkAnd read (λ plan. ¬ Names name plan))
read_device (Err fault) name = inr (inl refl)
read_device (Ok plan) name =
    let names = map (λ row. row.name) plan.devices in
    elim (decided name names (list_any (bytes_eq name) names) refl) [ inl has ↦ inl has | inr none ↦ inr (inr none) ]

device_cases : (told : Option (List ℕ)) (name : List ℕ) → HasDevice told name ⊎ ((IsNoPlan told ⊎ LacksDevice told name) ⊎ IsNone told)
device_cases None name = inr (inr refl)
device_cases (Some bytes) name = elim (read_device (plan_of bytes) name) [ inl has ↦ inl has | inr lacks ↦ inr (inl lacks) ]

trace_cases : (told : Option (List ℕ)) → IsShort told ⊎ (IsLong told ⊎ IsNone told)
trace_cases None = inr (inr refl)
trace_cases (Some bytes) = elim (cases_lt TRACE_BYTES (length bytes)) [ inl long ↦ inr (inl long) | inr short ↦ inl short ]

-- a plan and a trace
beside : {A B C D E F : Type 0} → A ⊎ (B ⊎ C) → D ⊎ (E ⊎ F) → (A × D) ⊎ ((B ⊎ E) ⊎ (C ⊎ F))
beside (inl a) (inl d) = inl (a, d)
beside (inr (inl b)) there = inr (inl (inl b))
beside (inr (inr c)) there = inr (inr (inl c))
beside (inl a) (inr (inl e)) = inr (inl (inr e))
beside (inl a) (inr (inr f)) = inr (inr (inr f))

beside_device : {A B C D E F G : Type 0} → A ⊎ ((B ⊎ G) ⊎ C) → D ⊎ (E ⊎ F) → (A × D) ⊎ (((B ⊎ E) ⊎ G) ⊎ (C ⊎ F))
beside_device (inl a) (inl d) = inl (a, d)
beside_device (inr (inl (inl b))) there = inr (inl (inl (inl b)))
beside_device (inr (inl (inr g))) there = inr (inl (inr g))
beside_device (inr (inr c)) there = inr (inr (inl c))
beside_device (inl a) (inr (inl e)) = inr (inl (inl (inr e)))
beside_device (inl a) (inr (inr f)) = inr (inr (inr f))

both : (plan trace : Option (List ℕ)) → (IsPlan plan × IsShort trace) ⊎ ((IsNoPlan plan ⊎ IsLong trace) ⊎ (IsNone plan ⊎ IsNone trace))
both plan trace = beside (plan_cases plan) (trace_cases trace)

with_device : (plan trace : Option (List ℕ)) (name : List ℕ) → (HasDevice plan name × IsShort trace) ⊎ (((IsNoPlan plan ⊎ IsLong trace) ⊎ LacksDevice plan name) ⊎ (IsNone plan ⊎ IsNone trace))
with_device plan trace name = beside_device (device_cases plan name) (trace_cases trace)

pub all_cases : (told : List ℕ → Option (List ℕ)) (asked : Asked) → HasAll told asked ⊎ (IsRefused told asked ⊎ IsMissing told asked)
all_cases told (Serial plan) = plan_cases (told plan)
all_cases told (Run plan hands) = plan_cases (told plan)
all_cases told (Desk plan) = plan_cases (told plan)
all_cases told (Make number devices) = inl tt
all_cases told (Check plan) = plan_cases (told plan)
all_cases told (Audit plan trace) = both (told plan) (told trace)
all_cases told (Convert plan trace) = both (told plan) (told trace)
all_cases told (Times plan trace) = both (told plan) (told trace)
all_cases told (Why plan trace device) = with_device (told plan) (told trace) device
