-- What disabling a device dropped, line by line.
use Rattle.std.proofs.Common.{ℕ, ◌≡◌, ◌<◌, Bool, true, false, not, ◌&&◌, List, [], ◌∷◌, ◌++◌, take, Option, Some, None, get_or, length, nat_eq, nat_lt, replicate, set, if◌then◌else◌, ap, refl, sym, subst, ◌∙◌, arith}
use Rattle.std.proofs.lemmas.Bool.{eqb-false, lt-ltb}
use Rattle.std.proofs.lemmas.List.{get_or-replicate, get_or-set_other, get_or-set_same, length-replicate, length-set, take-append-le, take_all}
use Rattle.pm_base.specs.declared.DevId.{DevId}
use Rattle.pm_model.specs.declared.event.Line.{Line}
use Rattle.pm_model.specs.declared.plan.Plan.{Plan}
use Rattle.pm_model.specs.Counted.{is_same, only_if}
use Rattle.pm_model.specs.Derived.{is_disabled}
use Rattle.pm_model.specs.History.{History}
use Rattle.pm_model.specs.Views.{Views}
use Rattle.pm_model.specs.World.{world}
use Rattle.pm_find.specs.findings.Ending.{AreDropped, awaits_suspend, dropped, drops_after, may_drop}
use Rattle.pm_find.specs.findings.OpenCounts.{device_of}
use Rattle.pm_find.proofs.findings.TableLemmas.{same_device}

abbrev either : Option Bool → Bool → Bool
either said was = elim said as (λ _. Bool) [ Some x ↦ x | None ↦ was ]

-- of the device that the line is of
own : (drops : List Bool) (d : DevId) (inside off awaits now was : Bool) → inside ≡ true → d.0 < length drops → get_or drops d.0 false ≡ was
    → get_or (drops_after (if inside then only_if (not off) awaits else None) now d drops) d.0 false ≡ either (only_if (not off && now) awaits) was
own drops d true true awaits now was in_plan within is = is
own drops d true false awaits true was in_plan within is = get_or-set_same drops d.0 awaits false within
own drops d true false awaits false was in_plan within is = is
own drops d false off awaits now was in_plan within is = cc

-- of another one
other : (drops : List Bool) (of d : DevId) (may : Option Bool) (now : Bool) → nat_eq of.0 d.0 ≡ false → get_or (drops_after may now of drops) d.0 false ≡ get_or drops d.0 false
other drops of d (Some awaits) true apart = get_or-set_other drops of.0 d.0 awaits false (λ e. eqb-false of.0 d.0 apart (sym e))
other drops of d (Some awaits) false apart = refl
other drops of d None true apart = refl
other drops of d None false apart = refl

each : (n : ℕ) (drops : List Bool) (of d : DevId) (off awaits now : DevId → Bool) (was : Bool) → d.0 < n → d.0 < length drops → get_or drops d.0 false ≡ was
    → get_or (drops_after (if nat_lt of.0 n then only_if (not (off of)) (awaits of) else None) (now of) of drops) d.0 false
    ≡ either (only_if (is_same d of && not (off d) && now d) (awaits d)) was
each n drops of d off awaits now was inside within is = go (nat_eq of.0 d.0) refl
  where
    go : (b : Bool) → nat_eq of.0 d.0 ≡ b → get_or (drops_after (if nat_lt of.0 n then only_if (not (off of)) (awaits of) else None) (now of) of drops) d.0 false
        ≡ either (only_if (b && not (off d) && now d) (awaits d)) was
    go true same =
        subst (λ (x : DevId). get_or (drops_after (if nat_lt x.0 n then only_if (not (off x)) (awaits x) else None) (now x) x drops) d.0 false ≡ either (only_if (not (off d) && now d) (awaits d)) was)
        (sym (same_device of d same)) (own drops d (nat_lt d.0 n) (off d) (awaits d) (now d) was (lt-ltb d.0 n inside) within is)
    go false apart = other drops of d (if nat_lt of.0 n then only_if (not (off of)) (awaits of) else None) (now of) apart ∙ is

entries : (may : Option Bool) (now : Bool) (of : DevId) (drops : List Bool) → length (drops_after may now of drops) ≡ length drops
entries (Some awaits) true of drops = length-set drops of.0 awaits
entries (Some awaits) false of drops = refl
entries None true of drops = refl
entries None false of drops = refl

pub drops_step : (plan : Plan) (h : History) (line : Line) (v w : Views) (drops after : List Bool) → v ≡ (world plan h).views → w ≡ (world plan (line ∷ h)).views
    → after ≡ drops_after (may_drop (length plan.devices) v (device_of line.event)) (is_disabled w (device_of line.event)) (device_of line.event) drops
    → AreDropped plan h drops → AreDropped plan (line ∷ h) after
drops_step plan h line v w drops after before behind is was = record {
  entries = ap length made ∙ entries (may_drop (length plan.devices) (world plan h).views of) (is_disabled (world plan (line ∷ h)).views of) of drops ∙ was.entries;
  each = λ d within.
      ap (λ l. get_or l d.0 false) made
      ∙ each (length plan.devices) drops of d (is_disabled (world plan h).views) (awaits_suspend (world plan h).views) (is_disabled (world plan (line ∷ h)).views) (dropped plan h d) within
      (omega (arith, was.entries)) (was.each d within);
}
  where
    of : DevId
    of = device_of line.event

    made : after ≡ drops_after (may_drop (length plan.devices) (world plan h).views of) (is_disabled (world plan (line ∷ h)).views of) of drops
    made = is ∙ ap (λ x. drops_after (may_drop (length plan.devices) x of) (is_disabled w of) of drops) before ∙ ap (λ x. drops_after (may_drop (length plan.devices) (world plan h).views of) (is_disabled x of) of drops) behind

-- what is written through a slice of a vector is the whole of it
pub written : (n : ℕ) (now rest : List Bool) → n ≡ length now → take n (now ++ rest) ≡ now
written n now rest same = take-append-le n now rest (omega arith) ∙ take_all n now (omega arith)

-- before any line
pub drops_start : (plan : Plan) (drops : List Bool) (n : ℕ) → n ≡ length plan.devices → drops ≡ replicate n false → AreDropped plan [] drops
drops_start plan drops n same is = record {
  entries = ap length is ∙ length-replicate n false ∙ same;
  each = λ d within. ap (λ l. get_or l d.0 false) is ∙ get_or-replicate n d.0 false false (omega arith);
}
