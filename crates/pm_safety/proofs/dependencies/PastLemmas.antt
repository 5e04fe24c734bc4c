-- What is kept of a device's past is what its excuses ask for.
use Rattle.std.proofs.Common.{ℕ, ◌≡◌, ◌+◌, ◌<◌, ◌≤◌, Bool, true, false, not, ◌&&◌, List, [], ◌∷◌, Option, Some, None, get_or, length, nat_eq, nat_le, set, if◌then◌else◌, ap, refl, sym, ◌∙◌, arith, subst}
use Rattle.std.specs.Prelude.{◌||◌}
use Rattle.std.specs.Option.{unwrap_or}
use Rattle.std.proofs.lemmas.Bool.{eqb-false, eqb-true}
use Rattle.std.proofs.lemmas.Grind.{common_steps}
use Rattle.std.proofs.lemmas.List.{get_or-set_other, get_or-set_same, length-set}
use Rattle.pm_base.specs.declared.DevId.{DevId}
use Rattle.pm_model.specs.declared.event.Event.{Event}
use Rattle.pm_model.specs.declared.event.Event.TheVariants as event
use Rattle.pm_model.specs.declared.event.Line.{Line}
use Rattle.pm_model.specs.declared.plan.Plan.{Plan}
use Rattle.pm_model.specs.Counted.{is_forced, is_same, only_if}
use Rattle.pm_model.specs.Derived.{is_disabled, is_suspended, is_suspended_status}
use Rattle.pm_model.specs.Excuse.{forces, is_entry, is_entry_word, was_disabled_at_entry, was_forced}
use Rattle.pm_model.specs.History.{History}
use Rattle.pm_model.specs.Lawful.{IsLawful}
use Rattle.pm_model.specs.PlanRows.{parent_of}
use Rattle.pm_model.specs.Views.{Views}
use Rattle.pm_model.specs.World.{world}
use Rattle.pm_laws.proofs.counts.Runs.{start_status}
use Rattle.pm_safety.specs.declared.dependencies.past.Past.{Past}
use Rattle.pm_safety.specs.dependencies.Excuses.{forced_line, parent_excuse, supplier_excuse}
use Rattle.pm_safety.specs.dependencies.Past.{ArePasts, before_of, no_past, parent_excuse_by, past_after, past_at, past_of, supplier_excuse_by, woke_line}
use Rattle.pm_safety.specs.dependencies.Turning.{IsApart, turned_by}
use Rattle.pm_safety.proofs.dependencies.StatusFrames.{status_frame}

said : {X : Type 0} (o : Option X) (before : X) → (elim o [ Some x ↦ x | None ↦ before ]) ≡ unwrap_or o before
said (Some x) before = refl
said None before = refl

chosen : {X : Type 0} (b : Bool) (x before : X) → unwrap_or (only_if b x) before ≡ (if b then x else before)
chosen true x before = refl
chosen false x before = refl

forced_now : (line : Line) (h : History) (d : DevId) → forced_line (line ∷ h) d ≡ (if forces d line.event then length h + 1 else forced_line h d)
forced_now line h d = said (only_if (forces d line.event) (length h + 1)) (forced_line h d) ∙ chosen (forces d line.event) (length h + 1) (forced_line h d)

abbrev wakes : Plan → Line → History → DevId → Bool
wakes plan line h d = is_suspended (world plan h).views d && not (is_suspended (world plan (line ∷ h)).views d)

woke_now : (plan : Plan) (line : Line) (h : History) (d : DevId) → woke_line plan (line ∷ h) d ≡ (if wakes plan line h d then length h + 1 else woke_line plan h d)
woke_now plan line h d = said (only_if (wakes plan line h d) (length h + 1)) (woke_line plan h d) ∙ chosen (wakes plan line h d) (length h + 1) (woke_line plan h d)

entry_now : (plan : Plan) (line : Line) (h : History) (d p : DevId)
    → was_disabled_at_entry plan (line ∷ h) d p ≡ (if is_entry plan (world plan h).views d line.event then is_disabled (world plan h).views p else was_disabled_at_entry plan h d p)
entry_now plan line h d p =
    said (only_if (is_entry plan (world plan h).views d line.event) (is_disabled (world plan h).views p)) (was_disabled_at_entry plan h d p)
    ∙ chosen (is_entry plan (world plan h).views d line.event) (is_disabled (world plan h).views p) (was_disabled_at_entry plan h d p)

forced_most : (h : History) (d : DevId) → forced_line h d ≤ length h
forced_most [] d = omega arith
forced_most (line ∷ h) d = go (forces d line.event) (forced_now line h d) (forced_most h d)
  where
    go : (b : Bool) → forced_line (line ∷ h) d ≡ (if b then length h + 1 else forced_line h d) → forced_line h d ≤ length h → forced_line (line ∷ h) d ≤ length (line ∷ h)
    go true is le = omega (arith, is)
    go false is le = omega (arith, is, le)

-- a device that isn't Suspended has woken, and the other's status was forced since exactly where that line came no earlier
pub record Wakes (plan : Plan) (h : History) (d x : DevId) : Type 0 where
  pub some : 0 < woke_line plan h d
  pub most : woke_line plan h d ≤ length h
  pub forced : was_forced plan h d x ≡ nat_le (woke_line plan h d) (forced_line h x)

-- and of a Suspended device it never was
abbrev Told : Plan → History → DevId → DevId → Bool → Type 0
Told plan h d x true = was_forced plan h d x ≡ false
Told plan h d x false = Wakes plan h d x

le_true : (a b : ℕ) → a ≤ b → nat_le a b ≡ true
le_true a b le = grind (arith, common_steps)

le_false : (a b : ℕ) → b < a → nat_le a b ≡ false
le_false a b lt = grind (arith, common_steps)

woken : (plan : Plan) (h : History) (d x : DevId) → Told plan h d x (is_suspended (world plan h).views d)
woken plan [] d x = subst (Told plan [] d x) (sym (ap is_suspended_status (start_status plan.devices d.0))) refl
woken plan (line ∷ h) d x = go (is_suspended (world plan (line ∷ h)).views d) (is_suspended (world plan h).views d) (forces x line.event) refl refl refl (woken plan h d x)
  where
    was : Bool
    was = was_forced plan h d x

    go : (s' s f : Bool) → is_suspended (world plan (line ∷ h)).views d ≡ s' → is_suspended (world plan h).views d ≡ s → forces x line.event ≡ f
        → Told plan h d x (is_suspended (world plan h).views d) → Told plan (line ∷ h) d x s'
    go true s f p q r before = rw p refl
    go false true f p q r before =
        let none : was ≡ false = subst (Told plan h d x) q before in
        let here : woke_line plan (line ∷ h) d ≡ length h + 1 = woke_now plan line h d ∙ rw (q, p) refl in
        let there : forced_line (line ∷ h) x ≡ (if f then length h + 1 else forced_line h x) = forced_now line h x ∙ ap (λ b. if b then length h + 1 else forced_line h x) r in
        record {
          some = omega (arith, here);
          most = omega (arith, here);
          forced = rw (p, r, none, here, there) (fresh f);
        }
      where
        fresh : (f : Bool) → f || false ≡ nat_le (length h + 1) (if f then length h + 1 else forced_line h x)
        fresh true = sym (le_true (length h + 1) (length h + 1) (omega arith))
        fresh false = sym (le_false (length h + 1) (forced_line h x) (omega (arith, forced_most h x)))
    go false false f p q r before =
        let w : Wakes plan h d x = subst (Told plan h d x) q before in
        let here : woke_line plan (line ∷ h) d ≡ woke_line plan h d = woke_now plan line h d ∙ rw q refl in
        let there : forced_line (line ∷ h) x ≡ (if f then length h + 1 else forced_line h x) = forced_now line h x ∙ ap (λ b. if b then length h + 1 else forced_line h x) r in
        record {
          some = omega (arith, here, w.some);
          most = omega (arith, here, w.most);
          forced = rw (p, r, here, there) (later f w);
        }
      where
        later : (f : Bool) → Wakes plan h d x → f || was_forced plan h d x ≡ nat_le (woke_line plan h d) (if f then length h + 1 else forced_line h x)
        later true w = sym (le_true (woke_line plan h d) (length h + 1) (omega (arith, w.most)))
        later false w = w.forced

forced_is : (plan : Plan) (h : History) (d x : DevId) → is_suspended (world plan h).views d ≡ false → was_forced plan h d x ≡ nat_le (woke_line plan h d) (forced_line h x)
forced_is plan h d x up = let w : Wakes plan h d x = subst (Told plan h d x) up (woken plan h d x) in w.forced

-- the excuses by the pasts
pub parent_excuse_is : (plan : Plan) (h : History) (d p : DevId) → is_suspended (world plan h).views d ≡ false → parent_of plan d ≡ p
    → parent_excuse plan h d p ≡ parent_excuse_by (past_of plan h d) (past_of plan h p)
parent_excuse_is plan h d p up is = rw (forced_is plan h d p up, is) refl

pub supplier_excuse_is : (plan : Plan) (h : History) (d s : DevId) → is_suspended (world plan h).views d ≡ false
    → supplier_excuse plan h d s ≡ supplier_excuse_by (past_of plan h d) (past_of plan h s)
supplier_excuse_is plan h d s up = rw (forced_is plan h d s up) refl

-- a line more
of_three : ℕ → ℕ → Bool → Past
of_three a b c = record { forced = a; woke = b; disabled = c }

same_past : (x y : Past) → x.forced ≡ y.forced → x.woke ≡ y.woke → x.disabled ≡ y.disabled → x ≡ y
unfolding of_three
same_past x y a b c = ap (λ n. of_three n x.woke x.disabled) a ∙ ap (λ n. of_three y.forced n x.disabled) b ∙ ap (λ n. of_three y.forced y.woke n) c

past_own : (plan : Plan) (h : History) (line : Line) (d : DevId)
    → past_of plan (line ∷ h) d ≡ past_after d (length h + 1) line.event (before_of plan (world plan h).views d line.event) (is_suspended (world plan (line ∷ h)).views d) (past_of plan h d)
past_own plan h line d = same_past _ _ (forced_now line h d) (woke_now plan line h d) (entry_now plan line h d (parent_of plan d))

not_forced : (x : DevId) (e : Event) → IsApart x (turned_by e) → forces x e ≡ false
not_forced x (event.State d w) a = go (is_forced w) (is_same x d) a
  where
    go : (b s : Bool) → not s ≡ true → b && s ≡ false
    go true true k = cc
    go true false k = refl
    go false s k = refl
not_forced x _ a = refl

not_entered : (plan : Plan) (v : Views) (x : DevId) (e : Event) → IsApart x (turned_by e) → is_entry plan v x e ≡ false
not_entered plan v x (event.State d w) a = go (is_same x d) (is_entry_word plan v x w) a
  where
    go : (s b : Bool) → not s ≡ true → s && b ≡ false
    go true b k = cc
    go false b k = refl
not_entered plan v x _ a = refl

still : (s : Bool) → s && not s ≡ false
still true = refl
still false = refl

past_other : (plan : Plan) (h : History) (line : Line) (x : DevId) → IsLawful plan (line ∷ h) → x.0 < length plan.devices → IsApart x (turned_by line.event)
    → past_of plan (line ∷ h) x ≡ past_of plan h x
past_other plan h line x lawful within a =
    same_past _ _ (forced_now line h x ∙ ap (λ b. if b then length h + 1 else forced_line h x) (not_forced x line.event a))
    (woke_now plan line h x ∙ ap (λ b. if b then length h + 1 else woke_line plan h x) (ap (λ s. is_suspended (world plan h).views x && not (is_suspended_status s)) (status_frame plan h line x lawful within a) ∙ still (is_suspended (world plan h).views x)))
    (entry_now plan line h x (parent_of plan x) ∙ ap (λ b. if b then is_disabled (world plan h).views (parent_of plan x) else was_disabled_at_entry plan h x (parent_of plan x)) (not_entered plan (world plan h).views x line.event a))

pub pasts_start : (plan : Plan) (pasts : List Past) → length pasts ≡ length plan.devices → ((n : ℕ) → n < length plan.devices → get_or pasts n no_past ≡ no_past) → ArePasts plan [] pasts
pasts_start plan pasts long each = record { entries = long; each = λ d within. each d.0 within }

pub pasts_still : (plan : Plan) (h : History) (line : Line) (pasts : List Past) → IsLawful plan (line ∷ h) → turned_by line.event ≡ None → ArePasts plan h pasts
    → ArePasts plan (line ∷ h) pasts
pasts_still plan h line pasts lawful turned before = record {
  entries = before.entries;
  each = λ d within. before.each d within ∙ sym (past_other plan h line d lawful within (subst (IsApart d) (sym turned) refl));
}

pub pasts_turned : (plan : Plan) (h : History) (line : Line) (d : DevId) (pasts after : List Past) (x : Past) → IsLawful plan (line ∷ h) → turned_by line.event ≡ Some d → d.0 < length plan.devices
    → ArePasts plan h pasts → after ≡ set pasts d.0 x
    → x ≡ past_after d (length h + 1) line.event (before_of plan (world plan h).views d line.event) (is_suspended (world plan (line ∷ h)).views d) (past_at pasts d)
    → ArePasts plan (line ∷ h) after
pasts_turned plan h line d pasts after x lawful turned inside before is x_is = record { entries = ap length is ∙ length-set pasts d.0 x ∙ before.entries; each = each }
  where
    own : x ≡ past_of plan (line ∷ h) d
    own =
        x_is
        ∙ ap (past_after d (length h + 1) line.event (before_of plan (world plan h).views d line.event) (is_suspended (world plan (line ∷ h)).views d)) (before.each d inside)
        ∙ sym (past_own plan h line d)

    go : (y : DevId) → y.0 < length plan.devices → (b : Bool) → nat_eq d.0 y.0 ≡ b → get_or (set pasts d.0 x) y.0 no_past ≡ past_of plan (line ∷ h) y
    go y within true same =
        let one : d ≡ y = ap (λ n. let z : DevId = record { 0 = n } in z) (eqb-true d.0 y.0 same) in
        let inside_list : d.0 < length pasts = omega (arith, before.entries, inside) in
        ap (λ k. get_or (set pasts d.0 x) k no_past) (sym (eqb-true d.0 y.0 same)) ∙ get_or-set_same pasts d.0 x no_past inside_list ∙ own ∙ ap (past_of plan (line ∷ h)) one
    go y within false other =
        get_or-set_other pasts d.0 y.0 x no_past (λ e. eqb-false d.0 y.0 other (sym e)) ∙ before.each y within
        ∙ sym (past_other plan h line y lawful within (subst (IsApart y) (sym turned) (ap not other)))

    each : (y : DevId) → y.0 < length plan.devices → past_at after y ≡ past_of plan (line ∷ h) y
    each y within = ap (λ l. get_or l y.0 no_past) is ∙ go y within (nat_eq d.0 y.0) refl
