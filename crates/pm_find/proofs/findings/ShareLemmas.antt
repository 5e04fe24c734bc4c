-- The open counts of a device are as many as its share.
use Rattle.std.proofs.Common.{ℕ, ◌≡◌, ◌+◌, ◌<◌, ◌≤◌, Bool, true, false, cond, ◌&&◌, List, [], ◌∷◌, Option, Some, None, length, map, remove, unwrap_or, if◌then◌else◌, ap, refl, ◌∙◌, arith}
use Rattle.std.specs.List.{position}
use Rattle.std.proofs.lemmas.Bool.{eq-eqb}
use Rattle.std.proofs.lemmas.List.{length-map}
use Rattle.std.proofs.lemmas.List.Edits.{length-remove}
use Rattle.std.proofs.lemmas.List.Quantifiers.{position-Some}
use Rattle.std.proofs.lemmas.List.Sums.{sum_by-cons}
use Rattle.pm_base.specs.declared.ActorId.{ActorId}
use Rattle.pm_base.specs.declared.ActorId.TheVariants.{Caller}
use Rattle.pm_base.specs.declared.DevId.{DevId}
use Rattle.pm_base.specs.declared.Why.TheVariants as why
use Rattle.pm_model.specs.declared.event.Event.{Event}
use Rattle.pm_model.specs.declared.event.Event.TheVariants as event
use Rattle.pm_model.specs.declared.event.Line.{Line}
use Rattle.pm_model.specs.declared.plan.Plan.{Plan}
use Rattle.pm_model.specs.Counted.{gets, gives_back, is_callers, is_same, puts, share, takes}
use Rattle.pm_model.specs.History.{History}
use Rattle.pm_model.specs.Lawful.{IsLawful}
use Rattle.pm_laws.proofs.counts.Said.{share_counted}
use Rattle.pm_find.specs.declared.findings.watched.Called.{Called}
use Rattle.pm_find.specs.declared.findings.watched.Count.{Count}
use Rattle.pm_find.specs.findings.Codes.{is_error}
use Rattle.pm_find.specs.findings.OpenCounts.{counts_after, device_of, is_of, new_count, open_counts, taken_place, with_another, with_error}
use Rattle.pm_find.specs.findings.Said.{call_by}

-- where there is a count, one is taken away
place_below : (actor : ActorId) (counts : List Count) → 0 < length counts → taken_place actor counts < length counts
place_below actor counts some = go (position (is_of actor) counts) refl
  where
    go : (o : Option ℕ) → position (is_of actor) counts ≡ o → unwrap_or o 0 < length counts
    go None is = some
    go (Some i) is = (position-Some (is_of actor) counts i (record { actor = Caller 0; line = 0; asks = false; failed = false; again = false }) is).0

taken_away : (actor : ActorId) (counts : List Count) → 0 < length counts → length (remove counts (taken_place actor counts)) + 1 ≡ length counts
taken_away actor counts some = length-remove counts (taken_place actor counts) (place_below actor counts some)

abbrev one : Bool → ℕ
one b = cond b 1 0

other_get : (b : Bool) (counts : List Count) (p g : ℕ) → length counts + p ≡ g → length (if b then counts else counts) + (0 + p) ≡ one (b && false) + g
other_get true counts p g was = omega arith
other_get false counts p g was = omega arith

other_put : (b : Bool) (counts : List Count) (p g : ℕ) → length counts + p ≡ g → length (if b then counts else counts) + (one (b && false) + p) ≡ 0 + g
other_put true counts p g was = omega arith
other_put false counts p g was = omega arith

other_line : (b : Bool) (counts : List Count) (p g : ℕ) → length counts + p ≡ g → length (if b then counts else counts) + (0 + p) ≡ 0 + g
other_line true counts p g was = omega arith
other_line false counts p g was = omega arith

other_ret : (actor : ActorId) (b e : Bool) (counts : List Count) (p g : ℕ) → length counts + p ≡ g
    → length (if b then (if e then map (with_error actor) counts else counts) else counts) + (0 + p) ≡ 0 + g
other_ret actor true true counts p g was = omega (arith, length-map counts (with_error actor))
other_ret actor true false counts p g was = omega arith
other_ret actor false e counts p g was = omega arith

-- one event more: counts are taken and given back
step : (d : DevId) (actor : ActorId) (n : ℕ) (called : Option Called) (e : Event) (counts : List Count) (p g : ℕ) → length counts + p ≡ g
    → one (gives_back is_callers d e) + p ≤ one (takes is_callers d e) + g
    → length (if is_same d (device_of e) then counts_after actor n called e counts else counts) + (one (gives_back is_callers d e) + p) ≡ one (takes is_callers d e) + g
step d actor n called (event.Get x why.Caller) counts p g was more = go (is_same d x) more
  where
    go : (b : Bool) → 0 + p ≤ one (b && true) + g → length (if b then new_count actor n called ∷ map (with_another actor) counts else counts) + (0 + p) ≡ one (b && true) + g
    go true more = omega (arith, length-map counts (with_another actor))
    go false more = omega arith
step d actor n called (event.Get x w) counts p g was more = other_get (is_same d x) counts p g was
step d actor n called (event.Put x why.Caller) counts p g was more = go (is_same d x) more
  where
    go : (b : Bool) → one (b && true) + p ≤ 0 + g → length (if b then remove counts (taken_place actor counts) else counts) + (one (b && true) + p) ≡ 0 + g
    go true more = let some : 0 < length counts = omega arith in omega (arith, taken_away actor counts some)
    go false more = omega arith
step d actor n called (event.Put x w) counts p g was more = other_put (is_same d x) counts p g was
step d actor n called (event.Ret h x code) counts p g was more = other_ret actor (is_same d x) (is_error code) counts p g was
step d actor n called e counts p g was more = other_line (is_same d (device_of e)) counts p g was

balance : (plan : Plan) (h : History) (d : DevId) → IsLawful plan h → d.0 < length plan.devices → length (open_counts h d) + puts is_callers h d ≡ gets is_callers h d
balance plan [] d lawful within = refl
balance plan (line ∷ h) d lawful within =
    let was = balance plan h d lawful.2 within in
    let more_puts : puts is_callers (line ∷ h) d ≡ one (gives_back is_callers d line.event) + puts is_callers h d = sum_by-cons (λ (l : Line). cond (gives_back is_callers d l.event) 1 0) line h in
    let more_gets : gets is_callers (line ∷ h) d ≡ one (takes is_callers d line.event) + gets is_callers h d = sum_by-cons (λ (l : Line). cond (takes is_callers d l.event) 1 0) line h in
    let fits : one (gives_back is_callers d line.event) + puts is_callers h d ≤ one (takes is_callers d line.event) + gets is_callers h d =
    omega (arith, share_counted plan (line ∷ h) d lawful within) in
    omega (arith, step d line.actor (length h + 1) (call_by h line.actor) line.event (open_counts h d) (puts is_callers h d) (gets is_callers h d) was fits)

pub counted : (plan : Plan) (h : History) (d : DevId) → IsLawful plan h → d.0 < length plan.devices → length (open_counts h d) ≡ share h d
counted plan h d lawful within = omega (arith, balance plan h d lawful within)

pub put_finds : (plan : Plan) (h : History) (line : Line) (d : DevId) → IsLawful plan (line ∷ h) → line.event ≡ event.Put d why.Caller → d.0 < length plan.devices → 0 < length (open_counts h d)
put_finds plan h line d lawful is within =
    let more_puts : puts is_callers (line ∷ h) d ≡ one (gives_back is_callers d line.event) + puts is_callers h d = sum_by-cons (λ (l : Line). cond (gives_back is_callers d l.event) 1 0) line h in
    let more_gets : gets is_callers (line ∷ h) d ≡ one (takes is_callers d line.event) + gets is_callers h d = sum_by-cons (λ (l : Line). cond (takes is_callers d l.event) 1 0) line h in
    let given : one (gives_back is_callers d line.event) ≡ 1 = ap (λ e. one (gives_back is_callers d e)) is ∙ ap (λ b. one (b && true)) (eq-eqb d.0 d.0 refl) in
    let taken : one (takes is_callers d line.event) ≡ 0 = ap (λ e. one (takes is_callers d e)) is in
    omega (arith, share_counted plan (line ∷ h) d lawful within, balance plan h d lawful.2 within)
