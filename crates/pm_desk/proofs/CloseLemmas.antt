-- A desk's book, drained and compared.
use Rattle.std.proofs.Common.{ℕ, suc, ◌≡◌, ◌<◌, ◌≤◌, ◌^◌, ◌∙◌, Bool, true, false, List, [], ◌∷◌, length, map, nat_eq, reverse, if◌then◌else◌, ap, arith, refl, sym}
use Rattle.std.proofs.lemmas.Grind.{common_steps}
use Rattle.std.proofs.lemmas.List.{length-reverse}
use Rattle.pm_model.specs.declared.event.Line.{Line}
use Rattle.pm_model.specs.declared.plan.Plan.{Plan}
use Rattle.pm_model.specs.declared.rows.CallerRow.{CallerRow}
use Rattle.pm_model.specs.Islands.{with_scripts}
use Rattle.pm_model.specs.Lawful.{IsLawful}
use Rattle.pm_islands.specs.Blank.{IsBlank}
use Rattle.pm_desk.specs.Closing.{AreAlike}

same_names : (own : ℕ → Bool) (rows : List CallerRow) → map (λ row. row.name) rows ≡ map (λ row. row.name) (with_scripts own rows)
same_names own [] = refl
same_names own (row ∷ rows) = rw (named (own 0), same_names (λ c. own (suc c)) rows) refl
  where
    named : (b : Bool) → (if b then row else record row { script = [] }).name ≡ row.name
    named true = refl
    named false = refl

-- a plan with every script empty differs from the plan in scripts at most
pub blank_alike : (plan empty : Plan) → IsBlank plan empty → AreAlike plan empty
blank_alike plan empty is = record {
  lines = sym is.lines;
  trace = sym is.trace;
  domains = sym is.domains;
  devices = sym is.devices;
  links = sym is.links;
  names = same_names (λ c. nat_eq 1 0) plan.callers ∙ ap (map (λ row. row.name)) (sym is.callers);
}

pub alike_back : (a b : Plan) → AreAlike a b → AreAlike b a
alike_back a b is = record {
  lines = sym is.lines;
  trace = sym is.trace;
  domains = sym is.domains;
  devices = sym is.devices;
  links = sym is.links;
  names = sym is.names;
}

-- a lawful list has few lines
lawful_len : (plan : Plan) (h : List Line) → IsLawful plan h → length h ≤ plan.lines
lawful_len plan [] lawful = omega arith
lawful_len plan (line ∷ h) lawful = let more : length h < plan.lines = lawful.1 in omega arith

few : (lines : ℕ) (plan : Plan) → lines ≡ plan.lines → lines ≤ 200000
few lines plan is = let law = plan.law in grind (arith, common_steps, law)

pub few_lines : (plan : Plan) (h : List Line) → IsLawful plan h → length h < 2 ^ 31
few_lines plan h lawful = let most = lawful_len plan h lawful in let some = few plan.lines plan refl in omega (arith, most, some)

pub few_shown : (plan : Plan) (h lines : List Line) → IsLawful plan h → reverse lines ≡ h → length lines < 2 ^ 31
few_shown plan h lines lawful shown =
    let some = few_lines plan h lawful in
    let same : length lines ≡ length h = sym (length-reverse lines) ∙ ap length shown in
    omega (arith, some, same)
