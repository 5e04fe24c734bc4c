-- Names of a plan, of which none is longer than what it is padded to.
use Rattle.std.proofs.Common.{◌≡◌, ℕ, ◌≤◌, zero, suc, List, [], ◌∷◌, ◌++◌, true, map, min, length, take, slice_index_or, refl, ap, ◌∙◌, sym, subst, arith, append_assoc, length-append}
use Rattle.std.proofs.lemmas.Grind.{common_steps}
use Rattle.std.proofs.lemmas.List.{length-map, length-take, take_all, take-append-le}
use Rattle.pm_model.specs.LineOf.{is_event_of}
use Rattle.pm_model.specs.declared.event.Event.{Event}
use Rattle.pm_model.specs.declared.plan.Plan.{Plan}
use Rattle.pm_model.specs.Spelling.{Names, space}
use Rattle.pm_model.specs.Text.{names_of}
use Rattle.pm_linetext.specs.NamesFit.{NamesFit}
use Rattle.pm_linetext.proofs.Lengths.{names_fit}

-- as much of a text as is kept is what stands before the padding
pub cut_text : (text rest : List ℕ) (most len : ℕ) → len ≡ min (length text) most → take len (take len text ++ rest) ≡ take most text
cut_text text rest most len least =
    grind (arith, common_steps, take-append-le len (take len text) rest, length-take len text, take_all len (take len text), take_all len text, take_all most text)

-- names that fit are kept whole
pub kept_whole : {X : Type 0} (name : X → List ℕ) (rows : List X) → ((i : ℕ) → length (slice_index_or (map name rows) i []) ≤ 32) → map (λ row. take 32 (name row)) rows ≡ map name rows
kept_whole name [] fits = refl
kept_whole name (row ∷ rows) fits =
    let first = take_all 32 (name row) (fits zero) in
    let others = kept_whole name rows (λ i. fits (suc i)) in
    cc (first, others)

pub devices_whole : (plan : Plan) → map (λ row. take 32 row.name) plan.devices ≡ (names_of plan).devices
devices_whole plan = kept_whole (λ row. row.name) plan.devices (names_fit plan).devices

pub callers_whole : (plan : Plan) → map (λ row. take 32 row.name) plan.callers ≡ (names_of plan).callers
callers_whole plan = kept_whole (λ row. row.name) plan.callers (names_fit plan).callers

-- what leads to a name, the name and a space, each put behind the other
pub actor_spelled : (lead name b1 b2 b3 : List ℕ) (at1 at2 end : ℕ) → take at1 b1 ≡ lead → take at2 b2 ≡ take at1 b1 ++ name → take end b3 ≡ take at2 b2 ++ space → take end b3 ≡ lead ++ (name ++ space)
actor_spelled lead name b1 b2 b3 at1 at2 end e1 e2 e3 =
    e3 ∙ ap (λ t. t ++ space) (e2 ∙ ap (λ t. t ++ name) e1) ∙ append_assoc lead name space

pub actor_short : (lead name : List ℕ) → length lead ≤ 6 → length name ≤ 32 → length (lead ++ (name ++ space)) ≤ 39
actor_short lead name lead_fits name_fits = simp length-append (omega arith)

-- an event of a plan is one over its names
pub event_of_names : (plan : Plan) (names : Names) (event : Event) → names ≡ names_of plan → is_event_of (length plan.devices) event ≡ true → is_event_of (length names.devices) event ≡ true
event_of_names plan names event e h =
    rw (e, length-map plan.devices (λ row. row.name)) h

abbrev names_of_both : List (List ℕ) → List (List ℕ) → Names
names_of_both devices callers = record { devices = devices; callers = callers }

-- the names that are at hand of a plan are its names, and they fit
pub names_at_hand : (plan : Plan) (devices callers : List (List ℕ)) → devices ≡ (names_of plan).devices → callers ≡ (names_of plan).callers → names_of_both devices callers ≡ names_of plan
names_at_hand plan devices callers d c = rw (d, c) refl

pub at_hand_fit : (plan : Plan) (devices callers : List (List ℕ)) → devices ≡ (names_of plan).devices → callers ≡ (names_of plan).callers → NamesFit (names_of_both devices callers)
at_hand_fit plan devices callers d c = subst NamesFit (sym (names_at_hand plan devices callers d c)) (names_fit plan)
