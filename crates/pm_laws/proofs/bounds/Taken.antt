-- The counters can take each line that may come next.
use Rattle.std.proofs.Common.{ℕ, zero, suc, ◌≡◌, ◌+◌, ◌<◌, Bool, true, false, List, [], ◌∷◌, length, nat_eq, slice_index_or, refl, sym, arith}
use Rattle.std.specs.List.{enumerate_from, list_all}
use Rattle.std.proofs.lemmas.Bool.{and_from, le-leb, lt-ltb, ltb-true, false≢true}
use Rattle.pm_base.specs.declared.DevId.{DevId}
use Rattle.pm_base.specs.declared.Why.{Why}
use Rattle.pm_base.specs.declared.Why.TheVariants as why
use Rattle.pm_model.specs.declared.event.Event.{Event}
use Rattle.pm_model.specs.declared.event.Event.TheVariants as event
use Rattle.pm_model.specs.declared.event.Line.{Line}
use Rattle.pm_model.specs.declared.event.Word.{Word}
use Rattle.pm_model.specs.declared.event.Word.TheVariants as word
use Rattle.pm_model.specs.declared.plan.Plan.{Plan}
use Rattle.pm_model.specs.CanTake.{can_free, can_get, can_happen, can_put, can_say, can_take}
use Rattle.pm_model.specs.Counted.{frees, gives_back, is_callers, takes}
use Rattle.pm_model.specs.Lawful.{IsLawful, Permits}
use Rattle.pm_model.specs.Views.{Views, device, fresh_device}
use Rattle.pm_model.specs.World.{world}
use Rattle.pm_laws.specs.counts.Sums.{one}
use Rattle.pm_laws.specs.counts.Counts.{holds}
use Rattle.pm_laws.proofs.counts.Held.{held_taken}
use Rattle.pm_laws.proofs.counts.Runs.{held_top, lawful_holds, others, permitted}
use Rattle.pm_laws.proofs.stacks.Fitting.{line_told, lines_change}
use Rattle.pm_laws.proofs.stacks.Telling.{IsTelling}
use Rattle.pm_laws.proofs.stacks.Tests.{same_self}
use Rattle.pm_laws.specs.bounds.Rooms.{HasRooms}
use Rattle.pm_laws.proofs.bounds.Bounded.{rooms}

-- an event that gives a count back finds one, and a caller's finds one of a caller
record FindsCounts (plan : Plan) (v : Views) (e : Event) : Type 0 where
  usage : (d : DevId) → d.0 < length plan.devices → gives_back (λ w. true) d e ≡ true → 0 < (device v d).usage
  share : (d : DevId) → gives_back is_callers d e ≡ true → 0 < (device v d).share

no_get : (d : DevId) (e : Event) → gives_back (λ w. true) d e ≡ true → takes (λ w. true) d e ≡ false
no_get d (event.Put x w) is = refl
no_get d _ is = absurd (false≢true is)

-- a count is given back: it was there
given : (after usage freed : ℕ) (g t : Bool) → g ≡ true → t ≡ false → after + (one g + freed) ≡ usage + one t → 0 < usage
given after usage freed true false e f is = omega (arith, is)
given after usage freed false t e f is = absurd (false≢true e)
given after usage freed true true e f is = absurd (false≢true (sym f))

above : (n : ℕ) → nat_eq n 0 ≡ false → 0 < n
above zero e = absurd (false≢true (sym e))
above (suc n) e = omega arith

finds : (plan : Plan) (h : List Line) (line : Line) → IsLawful plan h → Permits plan h line → FindsCounts plan (world plan h).views line.event
finds plan h line lawful permits =
    let w = world plan h in
    let before = lawful_holds plan h lawful in
    let p = permitted plan h line permits before in
    record {
      usage = λ d within is. given _ _ (frees plan w.views d line.event) (gives_back (λ w. true) d line.event) (takes (λ w. true) d line.event) is (no_get d line.event is) (p.keeps.counting.moves d (others (holds plan d) w line.actor) within (held_top plan w line.actor p.stage d before p.stands within));
      share = λ d is. above _ (p.keeps.spends d is);
    }

-- what holds of each entry and its place
all_from : {A : Type 0} (test : ℕ × A → Bool) (i : ℕ) (l : List A) (x : A) → ((n k : ℕ) → n ≡ i + k → k < length l → test (n, slice_index_or l k x) ≡ true)
    → list_all test (enumerate_from i l) ≡ true
all_from test i [] x each = refl
all_from test i (y ∷ l) x each =
    and_from _ _ (each i 0 (omega arith) (omega arith)) (all_from test (i + 1) l x (λ n k is within. each n (suc k) (omega (arith, is)) (omega (arith, within))))

freed : (plan : Plan) (h : List Line) (d : DevId) → IsLawful plan h → can_free plan (world plan h).views d ≡ true
freed plan h d lawful =
    let v = (world plan h).views in
    all_from _ 0 v.devices fresh_device (λ n k is within. let same : n ≡ k = omega (arith, is) in rw same (le-leb _ _ (held_taken plan h d k lawful)))

get_taken : (v : Views) (d : DevId) (w : Why) → HasRooms v d → can_get v d w ≡ true
get_taken v d why.Caller has = and_from _ _ has.usage has.share
get_taken v d _ has = has.usage

put_taken : (v : Views) (d : DevId) (w : Why) → 0 < (device v d).usage → (is_callers w ≡ true → 0 < (device v d).share) → can_put v d w ≡ true
put_taken v d why.Caller some shared = and_from _ _ (lt-ltb _ _ some) (lt-ltb _ _ (shared refl))
put_taken v d _ some shared = lt-ltb _ _ some

say_taken : (plan : Plan) (v : Views) (d : DevId) (w : Word) → can_free plan v d ≡ true → can_say plan v d w ≡ true
say_taken plan v d word.ForcedSuspended free = free
say_taken plan v d _ free = refl

-- over an event of the plan's devices
happens : (plan : Plan) (v : Views) (e : Event) → ((d : DevId) → HasRooms v d) → ((d : DevId) → can_free plan v d ≡ true) → IsTelling plan e
    → FindsCounts plan v e → can_happen plan v e ≡ true
happens plan v (event.Get d w) has free told some = and_from _ _ told.0 (get_taken v d w (has d))
happens plan v (event.Put d w) has free told some =
    and_from _ _ told.0 (put_taken v d w (some.usage d (ltb-true _ _ told.0) (rw (same_self d.0) refl)) (λ is. some.share d (rw (same_self d.0, is) refl)))
happens plan v (event.State d w) has free told some = and_from _ _ told (say_taken plan v d w (free d))
happens plan v (event.Begin d k) has free told some = and_from _ _ told (let it = has d in it.begun k)
happens plan v (event.End d k c) has free told some = told.0
happens plan v (event.Domain d is_up n) has free told some = told
happens plan v (event.Work d act) has free told some = told.0
happens plan v (event.Timer d act) has free told some = told
happens plan v _ has free told some = refl

pub lines_taken : (plan : Plan) (h : List Line) (line : Line) → IsLawful plan h → (p : Permits plan h line)
    → can_take plan (world plan h).views p.change line.event ≡ true
lines_taken plan h line lawful p =
    and_from _ _ (lines_change plan h line lawful p (λ d. let it = rooms plan h d lawful in it.depth)) (happens plan (world plan h).views line.event (λ d. rooms plan h d lawful) (λ d. freed plan h d lawful) (line_told plan h line lawful p).0 (finds plan h line lawful p))
