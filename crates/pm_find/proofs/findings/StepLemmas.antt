-- The loops over lines and over devices, one turn on.
use Rattle.std.proofs.Common.{ℕ, ◌≡◌, ◌+◌, ◌^◌, ◌<◌, Bool, true, false, ◌&&◌, ◌++◌, List, [], ◌∷◌, Option, drop, get_or, length, nat_eq, nat_lt, reverse, take, if◌then◌else◌, ap, refl, sym, subst, ◌∙◌, append_assoc, arith}
use Rattle.std.specs.List.{flat_map, list_all, range_with_len}
use Rattle.std.proofs.lemmas.Bool.{eqb-true}
use Rattle.std.proofs.lemmas.List.{flat_map_more, length-reverse, length-take-le, map-id, reverse-append, take_more}
use Rattle.std.proofs.lemmas.List.FromFn.{map-range_with_len_more}
use borrow.Author.Tests.{ltb-true}
use Rattle.pm_base.specs.declared.ActorId.{ActorId}
use Rattle.pm_base.specs.declared.ActorId.TheVariants.{Caller, Work, Timer}
use Rattle.pm_base.specs.declared.DevId.{DevId}
use Rattle.pm_model.specs.declared.event.Event.{Event}
use Rattle.pm_model.specs.declared.event.Event.TheVariants as event
use Rattle.pm_model.specs.declared.event.Line.{Line}
use Rattle.pm_model.specs.declared.plan.Plan.{Plan}
use Rattle.pm_safety.specs.dependencies.Kept.{IsKept, Kept}
use Rattle.pm_model.specs.History.{History}
use Rattle.pm_model.specs.Lawful.{IsLawful}
use Rattle.pm_model.specs.LineOf.{is_actor_of, is_device_of, is_event_of, is_line_of, is_number_of}
use Rattle.pm_model.specs.Spelling.{operand_of, takes_device}
use Rattle.pm_find.specs.declared.findings.Finding.{Finding}
use Rattle.pm_find.specs.declared.findings.watched.Called.{Called}
use Rattle.pm_find.specs.declared.findings.watched.Count.{Count}
use Rattle.pm_find.specs.findings.AllFound.{found_at, found_in, placed_at}
use Rattle.pm_find.specs.findings.Ending.{AreDropped}
use Rattle.pm_find.specs.findings.Kept.{AreCalled, Known, known}
use Rattle.pm_find.specs.findings.OpenCounts.{device_of, open_counts}
use Rattle.pm_find.specs.findings.Said.{call_by}
use Rattle.pm_find.specs.findings.WatchTable.{IsTable, Table, called_at, counts_in, given_at, later_in, table_after, told, told_at}
use Rattle.pm_find.proofs.findings.CountLemmas.{reverse_parts}
use Rattle.pm_find.proofs.findings.TableLemmas.{table_step}

pub front : (a b : Bool) → a && b ≡ true → a ≡ true
front true b both = refl
front false b both = both

pub rear : (a b : Bool) → a && b ≡ true → b ≡ true
rear true b both = both
rear false b both = cc

device_inside : (b : Bool) (n d : ℕ) → (if b then nat_lt d n else nat_eq d 0) ≡ true → d < n + 1
device_inside true n d is = omega (arith, ltb-true d n is)
device_inside false n d is = omega (arith, eqb-true d 0 is)

below : (n d : ℕ) (b : Bool) → nat_lt d n && b ≡ true → d < n + 1
below n d b both = omega (arith, ltb-true d n (front (nat_lt d n) b both))

event_inside : (n : ℕ) (e : Event) → is_event_of n e ≡ true → (let d : DevId = device_of e in d.0 < n + 1)
event_inside n (event.Call c) is = device_inside (takes_device c.helper) n (let d : DevId = c.dev in d.0) (front (is_device_of n c.helper c.dev) (is_number_of n (operand_of c.helper) c.number) is)
event_inside n (event.Ret h d c) is = device_inside (takes_device h) n d.0 (front (is_device_of n h d) _ is)
event_inside n (event.Get d w) is = below n d.0 _ is
event_inside n (event.Put d w) is = below n d.0 _ is
event_inside n (event.Usage d f) is = below n d.0 _ is
event_inside n (event.Idle d f) is = below n d.0 _ is
event_inside n (event.Suspend d f) is = below n d.0 _ is
event_inside n (event.Resume d f) is = below n d.0 _ is
event_inside n (event.Return func d c) is = below n d.0 _ is
event_inside n (event.Wait d) is = omega (arith, ltb-true d.0 n is)
event_inside n (event.State d w) is = omega (arith, ltb-true d.0 n is)
event_inside n (event.Begin d k) is = omega (arith, ltb-true d.0 n is)
event_inside n (event.End d k c) is = below n d.0 _ is
event_inside n (event.Domain d up m) is = below n d.0 _ is
event_inside n (event.Work d act) is = below n d.0 _ is
event_inside n (event.Timer d act) is = below n d.0 _ is

among : {X : Type 0} (p : X → Bool) (xs ys : List X) (y : X) → list_all p (xs ++ y ∷ ys) ≡ true → p y ≡ true
among p [] ys y all = front (p y) (list_all p ys) all
among p (x ∷ xs) ys y all = among p xs ys y (rear (p x) (list_all p (xs ++ y ∷ ys)) all)

-- each line is one of the plan's
pub line_at : (plan : Plan) (lines : List Line) (i : ℕ) (e : Line) → i < length lines → list_all (is_line_of plan) (reverse lines) ≡ true → is_line_of plan (get_or lines i e) ≡ true
line_at plan lines i e within all =
    among (is_line_of plan) (reverse (drop (i + 1) lines)) (reverse (take i lines)) (get_or lines i e)
    (ap (list_all (is_line_of plan)) (sym (reverse_parts lines i e within)) ∙ all)

actor_of_plan : (plan : Plan) (line : Line) → is_line_of plan line ≡ true → is_actor_of (length plan.devices) (length plan.callers) line.actor ≡ true
actor_of_plan plan line is =
    rear (nat_lt line.time (2 ^ 63)) (is_actor_of (length plan.devices) (length plan.callers) line.actor)
    (front (nat_lt line.time (2 ^ 63) && is_actor_of (length plan.devices) (length plan.callers) line.actor) (is_event_of (length plan.devices) line.event) is)

-- the device of a line has a row
pub line_inside : (plan : Plan) (line : Line) → is_line_of plan line ≡ true → (let d : DevId = device_of line.event in d.0 < length plan.devices + 1)
line_inside plan line is =
    event_inside (length plan.devices) line.event
    (rear (nat_lt line.time (2 ^ 63) && is_actor_of (length plan.devices) (length plan.callers) line.actor) (is_event_of (length plan.devices) line.event) is)

pub inside_at : (plan : Plan) (lines : List Line) (i n : ℕ) (e : Line) → i < length lines → n ≡ length plan.devices + 1 → list_all (is_line_of plan) (reverse lines) ≡ true
    → (let line : Line = get_or lines i e in let d : DevId = device_of line.event in d.0 < n)
inside_at plan lines i n e within is all = omega (arith, line_inside plan (get_or lines i e) (line_at plan lines i e within all))

pub inside_by : (plan : Plan) (lines : List Line) (i n : ℕ) (e : Line) (d : DevId) → (let line : Line = get_or lines i e in d ≡ device_of line.event) → i < length lines → n ≡ length plan.devices + 1
    → list_all (is_line_of plan) (reverse lines) ≡ true → d.0 < n
inside_by plan lines i n e d by within is all = subst (λ (x : DevId). x.0 < n) (sym by) (inside_at plan lines i n e within is all)

-- one line more is read
reverse_more : (lines : List Line) (i : ℕ) (e : Line) → i < length lines → reverse (take (i + 1) lines) ≡ get_or lines i e ∷ reverse (take i lines)
reverse_more lines i e within = ap reverse (take_more lines i e within) ∙ reverse-append (take i lines) (get_or lines i e ∷ [])

numbered : (lines : List Line) (i : ℕ) → i < length lines → length (reverse (take i lines)) ≡ i
numbered lines i within = length-reverse (take i lines) ∙ length-take-le i lines (omega arith)

-- the last call of an actor of the plan is kept
called_is : (plan : Plan) (h : History) (calls : List (Option Called)) (actor : ActorId) → AreCalled (length plan.callers) h calls
    → is_actor_of (length plan.devices) (length plan.callers) actor ≡ true → called_at calls actor ≡ call_by h actor
called_is plan h calls (Caller c) called is = called.each c (ltb-true c (length plan.callers) is)
called_is plan h calls (Work d) called is = refl
called_is plan h calls (Timer d) called is = refl

pub kept_more : (plan : Plan) (lines : List Line) (i number : ℕ) (e : Line) (before after : Table) → i < length lines → list_all (is_line_of plan) (reverse lines) ≡ true → number ≡ i
    → IsTable (length plan.devices + 1) (length plan.callers) (reverse (take i lines)) before
    → after ≡ table_after (number + 1) (get_or lines i e) before
    → IsTable (length plan.devices + 1) (length plan.callers) (reverse (take (i + 1) lines)) after
kept_more plan lines i number e before after within all same kept is =
    subst (λ h. IsTable (length plan.devices + 1) (length plan.callers) h after) (sym (reverse_more lines i e within))
    (subst (λ t. IsTable (length plan.devices + 1) (length plan.callers) (get_or lines i e ∷ reverse (take i lines)) t)
    (ap (λ m. table_after (m + 1) (get_or lines i e) before) (numbered lines i within ∙ sym same) ∙ sym is)
    (table_step (length plan.devices + 1) (length plan.callers) (get_or lines i e) (reverse (take i lines)) before
    (let line : Line = get_or lines i e in called_is plan (reverse (take i lines)) before.calls line.actor kept.called (actor_of_plan plan line (line_at plan lines i e within all)))
    (inside_at plan lines i (length plan.devices + 1) e within refl all) kept))

-- what is told at a line is what stands out there
told_is : (plan : Plan) (line : Line) (h : History) (left ends t : Table) → is_line_of plan line ≡ true → (let d : DevId = device_of line.event in d.0 < length plan.devices + 1)
    → IsTable (length plan.devices + 1) (length plan.callers) h t → told_at left ends t (length h + 1) line ≡ found_at (later_in left ends) h line
told_is plan line h left ends t of_plan inside kept =
    ap (λ x. told (counts_in left (device_of line.event)) (given_at ends.given) x (called_at t.calls line.actor) (length h + 1) line) (kept.known.each (device_of line.event) inside)
    ∙ ap (λ called. told (counts_in left (device_of line.event)) (given_at ends.given) (known h (device_of line.event)) called (length h + 1) line)
    (called_is plan h t.calls line.actor kept.called (actor_of_plan plan line of_plan))

-- the line at a place may come behind those before it
lawful_rest : (plan : Plan) (more h : History) → IsLawful plan (more ++ h) → IsLawful plan h
lawful_rest plan [] h lawful = lawful
lawful_rest plan (line ∷ more) h lawful = lawful_rest plan more h lawful.2

pub lawful_at : (plan : Plan) (lines : List Line) (i : ℕ) (e : Line) → i < length lines → IsLawful plan (reverse lines) → IsLawful plan (get_or lines i e ∷ reverse (take i lines))
lawful_at plan lines i e within lawful =
    lawful_rest plan (reverse (drop (i + 1) lines)) (get_or lines i e ∷ reverse (take i lines)) (subst (λ h. IsLawful plan h) (reverse_parts lines i e within) lawful)

-- where the lines before it stand, and what its number is
pub stands_at : (plan : Plan) (lines : List Line) (i number : ℕ) (e : Line) (k : Kept) (drops : List Bool) → i < length lines → IsLawful plan (reverse lines) → number ≡ i
    → IsKept plan k (reverse (take i lines)) → AreDropped plan (reverse (take i lines)) drops
    → (h : History) × IsLawful plan (get_or lines i e ∷ h) × IsKept plan k h × AreDropped plan h drops × (number + 1 ≡ length h + 1)
stands_at plan lines i number e k drops within lawful same kept dropped =
    (reverse (take i lines), lawful_at plan lines i e within lawful, kept, dropped, ap (λ m. m + 1) (same ∙ sym (numbered lines i within)))

pub drops_more : (plan : Plan) (lines : List Line) (i number : ℕ) (e : Line) (k : Kept) (before after : List Bool) → i < length lines → IsLawful plan (reverse lines) → number ≡ i
    → IsKept plan k (reverse (take i lines)) → AreDropped plan (reverse (take i lines)) before
    → ((h : History) → IsLawful plan (get_or lines i e ∷ h) → IsKept plan k h → number + 1 ≡ length h + 1 → AreDropped plan h before → AreDropped plan (get_or lines i e ∷ h) after)
    → AreDropped plan (reverse (take (i + 1) lines)) after
drops_more plan lines i number e k before after within lawful same kept dropped more =
    subst (λ h. AreDropped plan h after) (sym (reverse_more lines i e within))
    (more (reverse (take i lines)) (lawful_at plan lines i e within lawful) kept (ap (λ m. m + 1) (same ∙ sym (numbered lines i within))) dropped)

pub bonds_more : (plan : Plan) (lines : List Line) (i number : ℕ) (e : Line) (before after : Kept) → i < length lines → IsLawful plan (reverse lines) → number ≡ i
    → IsKept plan before (reverse (take i lines))
    → ((h : History) → IsLawful plan (get_or lines i e ∷ h) → IsKept plan before h → number + 1 ≡ length h + 1 → IsKept plan after (get_or lines i e ∷ h))
    → IsKept plan after (reverse (take (i + 1) lines))
bonds_more plan lines i number e before after within lawful same kept more =
    subst (λ h. IsKept plan after h) (sym (reverse_more lines i e within))
    (more (reverse (take i lines)) (lawful_at plan lines i e within lawful) kept (ap (λ m. m + 1) (same ∙ sym (numbered lines i within))))

-- what is kept of the device of the line at a place
pub row_at_line : (plan : Plan) (lines : List Line) (i : ℕ) (e : Line) (t : Table) (counts : List Count) → i < length lines → list_all (is_line_of plan) (reverse lines) ≡ true
    → IsTable (length plan.devices + 1) (length plan.callers) (reverse (take i lines)) t
    → (let line : Line = get_or lines i e in counts ≡ counts_in t (device_of line.event)) → (let line : Line = get_or lines i e in counts ≡ open_counts (reverse (take i lines)) (device_of line.event))
row_at_line plan lines i e t counts within all kept is =
    let line = get_or lines i e in
    is ∙ ap (λ (x : Known). x.counts) (kept.known.each (device_of line.event) (inside_at plan lines i (length plan.devices + 1) e within refl all))

pub found_more : (plan : Plan) (lines : List Line) (i number : ℕ) (e : Line) (left ends t : Table) (k : Kept) (called : Option Called) (counts : List Count) (before told after : List Finding) → i < length lines
    → IsLawful plan (reverse lines) → list_all (is_line_of plan) (reverse lines) ≡ true → number ≡ i
    → IsTable (length plan.devices + 1) (length plan.callers) (reverse (take i lines)) t → IsKept plan k (reverse (take i lines))
    → before ≡ found_in plan (later_in left ends) (reverse (take i lines))
    → told ≡ before ++ told_at left ends t (number + 1) (get_or lines i e)
    → (let line : Line = get_or lines i e in called ≡ called_at t.calls line.actor)
    → (let line : Line = get_or lines i e in counts ≡ counts_in t (device_of line.event))
    → ((h : History) → IsLawful plan (get_or lines i e ∷ h) → IsKept plan k h → number + 1 ≡ length h + 1 → (let line : Line = get_or lines i e in called ≡ call_by h line.actor)
    → (let line : Line = get_or lines i e in counts ≡ open_counts h (device_of line.event)) → after ≡ told ++ placed_at plan h (get_or lines i e))
    → after ≡ found_in plan (later_in left ends) (reverse (take (i + 1) lines))
found_more plan lines i number e left ends t k called counts before told after within lawful all same kept bonds was is was_called counted more =
    let line = get_or lines i e in
    let h = reverse (take i lines) in
    let placed = placed_at plan h line in
    let later = later_in left ends in
    more h (lawful_at plan lines i e within lawful) bonds (ap (λ m. m + 1) (same ∙ sym (numbered lines i within)))
    (was_called ∙ called_is plan h t.calls line.actor kept.called (actor_of_plan plan line (line_at plan lines i e within all)))
    (row_at_line plan lines i e t counts within all kept counted)
    ∙ ap (λ l. l ++ placed) (is ∙ ap (λ l. l ++ told_at left ends t (number + 1) line) was
    ∙ ap (λ m. found_in plan later h ++ told_at left ends t (m + 1) line) (same ∙ sym (numbered lines i within))
    ∙ ap (λ l. found_in plan later h ++ l)
    (told_is plan line h left ends t (line_at plan lines i e within all) (inside_at plan lines i (length plan.devices + 1) e within refl all) kept))
    ∙ append_assoc (found_in plan later h) (found_at later h line) placed
    ∙ ap (found_in plan later) (sym (reverse_more lines i e within))

-- one device more is looked at
range_more : (i : ℕ) → range_with_len 0 (i + 1) ≡ range_with_len 0 i ++ i ∷ []
range_more i =
    sym (map-id (range_with_len 0 (i + 1))) ∙ map-range_with_len_more (λ x. x) 0 i i (omega arith) ∙ ap (λ l. l ++ i ∷ []) (map-id (range_with_len 0 i))

pub end_more : (f : ℕ → List Finding) (i : ℕ) (before all after : List Finding) → all ≡ before ++ flat_map f (range_with_len 0 i) → after ≡ all ++ f i
    → after ≡ before ++ flat_map f (range_with_len 0 (i + 1))
end_more f i before all after was is =
    is ∙ ap (λ l. l ++ f i) was ∙ flat_map_more f before (range_with_len 0 i) i ∙ ap (λ l. before ++ flat_map f l) (sym (range_more i))
