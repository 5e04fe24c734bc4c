-- What is kept of uses, with one line more.
use Rattle.std.proofs.Common.{ℕ, ◌≡◌, ◌+◌, ◌<◌, ◌≤◌, Bool, false, ◌++◌, List, [], ◌∷◌, Option, Some, None, drop, get_or, length, map, reverse, take, ap, refl, sym, subst, ◌∙◌, arith}
use Rattle.std.specs.Prelude.{◌||◌, All}
use Rattle.std.specs.Option.{option_map_or}
use Rattle.std.proofs.lemmas.List.{length-reverse, length-take-le, reverse-append, take-append-drop, take_all}
use Rattle.std.proofs.lemmas.Simd.{map-map}
use Rattle.std.proofs.lemmas.List.Elements.{All-map, All-tail}
use Rattle.pm_base.specs.declared.DevId.{DevId}
use Rattle.pm_expect.specs.Same.{is_same_command}
use Rattle.pm_expect.specs.declared.expectation.Use.{Use}
use Rattle.pm_expect.specs.verdicts.Calls.{is_in_call, open_call, returns}
use Rattle.pm_expect.specs.verdicts.Verdicts.{judged}
use Rattle.pm_expect.specs.declared.verdicts.calls.Return.{Return}
use Rattle.pm_expect.specs.declared.verdicts.verdict.Judged.{Judged}
use Rattle.pm_expect.specs.declared.verdicts.verdict.Lack.{Lack}
use Rattle.pm_expect.proofs.verdicts.CallLemmas.{reverse_more}
use Rattle.pm_model.specs.declared.event.Command.{Command}
use Rattle.pm_model.specs.declared.event.Line.{Line}
use Rattle.pm_model.specs.declared.plan.Plan.{Plan}
use Rattle.pm_model.specs.History.{History}
use Rattle.pm_model.specs.Lawful.{IsLawful}
use Rattle.pm_model.specs.Views.{Views}
use Rattle.pm_model.specs.World.{world}
use Rattle.pm_expect.specs.uses.Lacks.{lack_now, lack_of}
use Rattle.pm_expect.specs.uses.Uses.{first_missed, use_by, use_verdict}
use Rattle.pm_expect.specs.uses.Watching.{is_inside, missed_with, said_of, watch_after, watch_of}
use Rattle.pm_expect.specs.declared.uses.watching.Watch.{Watch}

-- whether a caller is in a call
inside_more : (h : History) (line : Line) (c : ℕ) (command : Command) → is_inside command (is_in_call h c command) (said_of c line) ≡ is_in_call (line ∷ h) c command
inside_more h line c command = go (said_of c line)
  where
    go : (o : Option (Option Command)) → is_inside command (is_in_call h c command) o
        ≡ option_map_or (is_same_command command) (elim o as (λ _. Option Command) [ Some x ↦ x | None ↦ open_call h c ]) false
    go (Some x) = refl
    go None = refl

-- a use
watch_more : (plan : Plan) (h : History) (line : Line) (number : ℕ) (v : Views) (u : Use) → v ≡ (world plan (line ∷ h)).views → number ≡ length h + 1
    → lack_of plan (line ∷ h) u.dev ≡ lack_now plan (world plan (line ∷ h)).views u.dev
    → watch_after plan v number line (watch_of plan h u) ≡ watch_of plan (line ∷ h) u
watch_more plan h line number v u views numbered lacks =
    ap with_inside (inside_more h line u.caller u.command)
    ∙ ap (λ (w : Views). with_missed number (lack_now plan w u.dev)) views
    ∙ ap (λ n. with_missed n (lack_now plan (world plan (line ∷ h)).views u.dev)) numbered
    ∙ ap (with_missed (length h + 1)) (sym lacks)
  where
    before : Bool
    before = is_in_call h u.caller u.command

    with_inside : Bool → Watch
    with_inside b = record { expected = u; inside = b; missed = missed_with number (before || b) (lack_now plan v u.dev) (first_missed plan u h) }

    with_missed : ℕ → Option Lack → Watch
    with_missed n l = record {
      expected = u;
      inside = is_in_call (line ∷ h) u.caller u.command;
      missed = missed_with n (before || is_in_call (line ∷ h) u.caller u.command) l (first_missed plan u h);
    }

-- all uses
pub watches_more : (plan : Plan) (h : History) (line : Line) (number : ℕ) (v : Views) (expected : List Use) → v ≡ (world plan (line ∷ h)).views → number ≡ length h + 1
    → ((d : DevId) → d.0 < length plan.devices → lack_of plan (line ∷ h) d ≡ lack_now plan (world plan (line ∷ h)).views d)
    → All (λ (u : Use). u.dev.0 < length plan.devices) expected
    → map (watch_after plan v number line) (map (watch_of plan h) expected) ≡ map (watch_of plan (line ∷ h)) expected
watches_more plan h line number v [] views numbered lacks over = refl
watches_more plan h line number v (u ∷ expected) views numbered lacks over =
    ap (λ (w : Watch). w ∷ map (watch_after plan v number line) (map (watch_of plan h) expected)) (watch_more plan h line number v u views numbered (lacks u.dev (over 0 u (omega arith))))
    ∙ ap (λ (l : List Watch). watch_of plan (line ∷ h) u ∷ l)
    (watches_more plan h line number v expected views numbered lacks (All-tail (λ (x : Use). x.dev.0 < length plan.devices) u expected over))

lawful_rest : (plan : Plan) (more h : List Line) → IsLawful plan (more ++ h) → IsLawful plan h
lawful_rest plan [] h lawful = lawful
lawful_rest plan (line ∷ more) h lawful = lawful_rest plan more h lawful.2

-- the lines up to a place may come
pub lawful_take : (plan : Plan) (lines : List Line) (i : ℕ) → IsLawful plan (reverse lines) → IsLawful plan (reverse (take i lines))
lawful_take plan lines i lawful =
    let parts = ap reverse (sym (take-append-drop i lines)) ∙ reverse-append (take i lines) (drop i lines) in
    lawful_rest plan (reverse (drop i lines)) (reverse (take i lines)) (subst (λ h. IsLawful plan h) parts lawful)

pub lawful_at : (plan : Plan) (lines : List Line) (i : ℕ) (e : Line) → i < length lines → IsLawful plan (reverse lines) → IsLawful plan (get_or lines i e ∷ reverse (take i lines))
lawful_at plan lines i e within lawful = subst (λ h. IsLawful plan h) (reverse_more lines i e within) (lawful_take plan lines (i + 1) lawful)

pub numbered : (lines : List Line) (i : ℕ) → i < length lines → length (reverse (take i lines)) ≡ i
numbered lines i within = length-reverse (take i lines) ∙ length-take-le i lines (omega arith)

-- the uses are of the plan's devices, also with what is kept of them
pub over_watches : (plan : Plan) (h : History) (expected : List Use) (watches : List Watch) → watches ≡ map (watch_of plan h) expected
    → All (λ (u : Use). u.dev.0 < length plan.devices) expected → All (λ (w : Watch). w.expected.dev.0 < length plan.devices) watches
over_watches plan h expected watches is over =
    subst (λ l. All (λ (w : Watch). w.expected.dev.0 < length plan.devices) l) (sym is)
    (All-map (λ (w : Watch). w.expected.dev.0 < length plan.devices) (watch_of plan h) expected over)

-- one line more is read
pub known_more : (plan : Plan) (lines : List Line) (i : ℕ) (e : Line) (number : ℕ) (v : Views) (expected : List Use) (before after : List Watch) → i < length lines → number ≡ i
    → v ≡ (world plan (get_or lines i e ∷ reverse (take i lines))).views
    → ((p : Plan) (h : History) (d : DevId) → IsLawful p h → d.0 < length p.devices → lack_of p h d ≡ lack_now p (world p h).views d)
    → IsLawful plan (reverse lines) → All (λ (u : Use). u.dev.0 < length plan.devices) expected → before ≡ map (watch_of plan (reverse (take i lines))) expected
    → after ≡ map (watch_after plan v (number + 1) (get_or lines i e)) before → after ≡ map (watch_of plan (reverse (take (i + 1) lines))) expected
known_more plan lines i e number v expected before after within same views excused lawful over was is =
    let h : History = reverse (take i lines) in
    let line : Line = get_or lines i e in
    let may : IsLawful plan (line ∷ h) = lawful_at plan lines i e within lawful in
    let long : length h ≡ i = numbered lines i within in
    is ∙ ap (map (watch_after plan v (number + 1) line)) was
    ∙ watches_more plan h line (number + 1) v expected views (omega (arith, same, long)) (λ d inside. excused plan (line ∷ h) d may inside) over
    ∙ ap (λ (g : History). map (watch_of plan g) expected) (sym (reverse_more lines i e within))

-- what becomes of each use
pub judged_all : (plan : Plan) (h : History) (all : List Return) (expected : List Use) (watches : List Watch) (verdicts : List (Judged Use Lack)) (n : ℕ) → length watches ≤ n
    → verdicts ≡ map (λ (w : Watch). judged (use_by plan all w.missed) w.expected) (take n watches) → watches ≡ map (watch_of plan h) expected → all ≡ returns h
    → verdicts ≡ map (judged (use_verdict plan h)) expected
judged_all plan h all expected watches verdicts n every is known returned =
    is ∙ ap (map (verdict_of all)) (take_all n watches every) ∙ ap (map (verdict_of all)) known
    ∙ ap (λ (a : List Return). map (verdict_of a) (map (watch_of plan h) expected)) returned
    ∙ map-map (verdict_of (returns h)) (watch_of plan h) expected
  where
    verdict_of : List Return → Watch → Judged Use Lack
    verdict_of a w = judged (use_by plan a w.missed) w.expected
