-- Where each island is finished, so is the whole.
use Rattle.std.proofs.Common.{ℕ, zero, suc, ◌≡◌, ◌+◌, Bool, true, false, not, ◌&&◌, List, [], ◌∷◌, Option, Some, None, map, drop, length, nat_le, is_none, refl, sym, ◌∙◌, arith}
use Rattle.std.specs.Prelude.{slice_get}
use Rattle.std.specs.List.{list_all, enumerate_from}
use Rattle.std.proofs.lemmas.Bool.{and_from, and_parts, false≢true}
use Rattle.pm_base.specs.declared.ActorId.TheVariants.{Caller, Work, Timer}
use Rattle.pm_base.specs.declared.Armed.{Armed}
use Rattle.pm_model.specs.declared.event.Command.{Command}
use Rattle.pm_model.specs.declared.event.Line.{Line}
use Rattle.pm_model.specs.declared.plan.Plan.{Plan}
use Rattle.pm_model.specs.declared.rows.CallerRow.{CallerRow}
use Rattle.pm_model.specs.Lawful.{IsFinished, is_finished, is_empty_place}
use Rattle.pm_model.specs.World.{World, called_by, start, world}
use Rattle.pm_model.specs.Views.{fresh_pending}
use Rattle.pm_laws.proofs.islands.Region.{Alike}
use Rattle.pm_laws.proofs.islands.Isles.{Labelled, at_home, callers_in, home, isle, own_of, part, same_scripts}
use Rattle.pm_laws.proofs.islands.Whole.{Meets}
use Rattle.pm_laws.proofs.islands.AlikeLists.{alike_at, alike_get}

-- each entry is one of a list whose entries all pass
all_of : {A : Type 0} (test : A → Bool) (xs : List A) (home : ℕ → ℕ) (inside : ℕ → ℕ → Bool) (ys : ℕ → List A) → ((n : ℕ) → inside (home n) n ≡ true)
    → ((i : ℕ) → Alike (inside i) xs (ys i)) → ((i : ℕ) → list_all test (ys i) ≡ true) → list_all test xs ≡ true
all_of test [] home inside ys homes alike all = refl
all_of {A} test (x ∷ xs) home inside ys homes alike all =
    and_from (test x) (list_all test xs) (head (ys (home 0)) (alike (home 0)) (all (home 0)))
    (all_of test xs (λ n. home (suc n)) (λ i n. inside i (suc n)) (λ i. drop 1 (ys i)) (λ n. homes (suc n)) (λ i. tail i (ys i) (alike i)) (λ i. rest (ys i) (all i)))
  where
    head : (zs : List A) → Alike (inside (home 0)) (x ∷ xs) zs → list_all test zs ≡ true → test x ≡ true
    head [] a e = absurd a
    head (z ∷ zs) a e = rw (a.0 (homes 0)) (and_parts _ _ e).0

    tail : (i : ℕ) (zs : List A) → Alike (inside i) (x ∷ xs) zs → Alike (λ n. inside i (suc n)) xs (drop 1 zs)
    tail i [] a = absurd a
    tail i (z ∷ zs) a = a.1

    rest : (zs : List A) → list_all test zs ≡ true → list_all test (drop 1 zs) ≡ true
    rest [] e = refl
    rest (z ∷ zs) e = (and_parts _ _ e).1

numbered_all : {A : Type 0} (test : ℕ × A → Bool) (n : ℕ) (rows : List A) → ((i m : ℕ) (row : A) → m ≡ n + i → slice_get rows i ≡ Some row → test (m, row) ≡ true)
    → list_all test (enumerate_from n rows) ≡ true
numbered_all test n [] each = refl
numbered_all test n (row ∷ rows) each =
    and_from (test (n, row)) _ (each 0 n row (omega arith) refl) (numbered_all test (n + 1) rows (λ i m r at. each (suc i) m r (omega (arith, at))))

all_numbered : {A : Type 0} (test : ℕ × A → Bool) (n i m : ℕ) (rows : List A) (row : A) → m ≡ n + i → list_all test (enumerate_from n rows) ≡ true
    → slice_get rows i ≡ Some row → test (m, row) ≡ true
all_numbered test n i m [] row at all is = absurd (cc)
all_numbered test n zero m (x ∷ rows) row at all is =
    let same : x ≡ row = cc in
    let here : m ≡ n = omega (arith, at) in rw (here, sym same) (and_parts _ _ all).0
all_numbered test n (suc i) m (x ∷ rows) row at all is = all_numbered test (n + 1) i m rows row (omega (arith, at)) (and_parts _ _ all).1 is

split : (a b c d e f : Bool) → (a && b && c && d && e && f) ≡ true → (a ≡ true) × (b ≡ true) × (c ≡ true) × (d ≡ true) × (e ≡ true) × (f ≡ true)
split true true true true true true x = (refl, refl, refl, refl, refl, refl)
split true true true true true false x = absurd (false≢true x)
split true true true true false f x = absurd (false≢true x)
split true true true false e f x = absurd (false≢true x)
split true true false d e f x = absurd (false≢true x)
split true false c d e f x = absurd (false≢true x)
split false b c d e f x = absurd (false≢true x)

pub record IsDone (plan : Plan) (w : World) : Type 0 where
  pub scripts : list_all (λ q. nat_le (length q.1.script) (called_by w q.0)) (enumerate_from 0 plan.callers) ≡ true
  pub caller_places : list_all is_empty_place w.caller_places ≡ true
  pub work_places : list_all is_empty_place w.work_places ≡ true
  pub timer_places : list_all is_empty_place w.timer_places ≡ true
  pub pending : list_all (λ x. not x.queued) w.views.pending ≡ true
  pub armed : list_all is_none w.views.timers ≡ true

is_done : (plan : Plan) (w : World) → is_finished plan w ≡ true → IsDone plan w
is_done plan w e =
    let x = split _ _ _ _ _ _ e in record { scripts = x.0; caller_places = x.1; work_places = x.2; timer_places = x.3; pending = x.4; armed = x.5 }

pub finishes : (plan : Plan) (p : Labelled plan) (h : List Line) → Meets p h → ((i : ℕ) → IsFinished (part p i) (own_of p i h)) → IsFinished plan h
finishes plan p h meets done =
    let w : ℕ → World = λ i. world (part p i) (own_of p i h) in
    let scripts = numbered_all (λ q. nat_le (length q.1.script) (called_by (world plan h) q.0)) 0 plan.callers
    (λ c m row at is. script c m row at is) in
    and_from _ _ (and_from _ _ (and_from _ _ (and_from _ _ (and_from _ _ scripts
    (all_of is_empty_place (world plan h).caller_places (λ c. home p (Caller c)) (λ i. (isle p i).callers) (λ i. (w i).caller_places) (λ c. at_home p (Caller c)) (λ i. (meets i).0.caller_places) (λ i. (is_done (part p i) (world (part p i) (own_of p i h)) (done i)).caller_places)))
    (all_of is_empty_place (world plan h).work_places (λ d. home p (Work d)) (λ i. (isle p i).region.inside) (λ i. (w i).work_places) (λ d. at_home p (Work d)) (λ i. (meets i).0.work_places) (λ i. (is_done (part p i) (world (part p i) (own_of p i h)) (done i)).work_places)))
    (all_of is_empty_place (world plan h).timer_places (λ d. home p (Timer d)) (λ i. (isle p i).region.inside) (λ i. (w i).timer_places) (λ d. at_home p (Timer d)) (λ i. (meets i).0.timer_places) (λ i. (is_done (part p i) (world (part p i) (own_of p i h)) (done i)).timer_places)))
    (all_of (λ x. not x.queued) (world plan h).views.pending (λ d. home p (Work d)) (λ i. (isle p i).region.inside) (λ i. (w i).views.pending) (λ d. at_home p (Work d)) (λ i. (meets i).0.views.pending) (λ i. (is_done (part p i) (world (part p i) (own_of p i h)) (done i)).pending)))
    (all_of is_none (world plan h).views.timers (λ d. home p (Timer d)) (λ i. (isle p i).region.inside) (λ i. (w i).views.timers) (λ d. at_home p (Timer d)) (λ i. (meets i).0.views.timers) (λ i. (is_done (part p i) (world (part p i) (own_of p i h)) (done i)).armed))
  where
    script : (c m : ℕ) (row : CallerRow) → m ≡ 0 + c → slice_get plan.callers c ≡ Some row → nat_le (length row.script) (called_by (world plan h) m) ≡ true
    script c m row at is =
        let i = home p (Caller c) in
        let his = at_home p (Caller c) in
        let here : m ≡ c = omega (arith, at) in
        let found = alike_get (isle p i).callers (callers_in p i) plan.callers c (same_scripts p i) his ∙ is in
        let told = alike_at (isle p i).callers (world plan h).called (world (part p i) (own_of p i h)).called c 0 (meets i).0.called his in
        rw (here, told) (all_numbered (λ q. nat_le (length q.1.script) (called_by (world (part p i) (own_of p i h)) q.0)) 0 c c (callers_in p i) row (omega arith) (is_done (part p i) (world (part p i) (own_of p i h)) (done i)).scripts found)

-- a plan of which no caller has a script is finished before any line
all_map : {A B : Type 0} (test : B → Bool) (x : B) (rows : List A) → test x ≡ true → list_all test (map (λ _. x) rows) ≡ true
all_map test x [] e = refl
all_map test x (row ∷ rows) e = and_from (test x) _ e (all_map test x rows e)

no_armed : Option Armed
no_armed = None

zero_le : (n : ℕ) → nat_le 0 n ≡ true
zero_le n = grind arith

no_length : (script : List Command) (n : ℕ) → script ≡ [] → nat_le (length script) n ≡ true
no_length script n e = rw e (zero_le n)

pub starts_finished : (plan : Plan) → ((c : ℕ) (row : CallerRow) → slice_get plan.callers c ≡ Some row → row.script ≡ []) → IsFinished plan []
unfolding no_armed
starts_finished plan none =
    and_from _ _ (and_from _ _ (and_from _ _ (and_from _ _ (and_from _ _
    (numbered_all (λ q. nat_le (length q.1.script) (called_by (start plan) q.0)) 0 plan.callers (λ c m row at is. no_length row.script (called_by (start plan) m) (none c row is)))
    (all_map is_empty_place [] plan.callers refl))
    (all_map is_empty_place [] plan.devices refl))
    (all_map is_empty_place [] plan.devices refl))
    (all_map (λ x. not x.queued) fresh_pending plan.devices refl))
    (all_map is_none no_armed plan.devices refl)
