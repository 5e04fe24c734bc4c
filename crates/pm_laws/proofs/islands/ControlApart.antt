-- The rows of the control functions: alike on views that agree, and in the region.
use Rattle.std.proofs.Common.{ℕ, suc, ◌≡◌, Bool, true, false, ◌&&◌, ◌||◌, List, [], ◌∷◌, Option, Some, None, ℤ, pos, nat_abs, nat_eq, refl, sym, ◌∙◌, ap}
use Rattle.std.specs.Prelude.{slice_get}
use Rattle.std.specs.List.{zip, list_any}
use Rattle.std.proofs.lemmas.Bool.{eqb-true, false≢true}
use Rattle.pm_base.specs.declared.codes.TheConstants.{EBUSY}
use Rattle.pm_base.specs.declared.DevId.{DevId}
use Rattle.pm_model.specs.declared.event.Command.{Command}
use Rattle.pm_model.specs.declared.event.Helper.{Helper}
use Rattle.pm_model.specs.declared.event.Helper.TheVariants as helper
use Rattle.pm_model.specs.declared.plan.Plan.{Plan}
use Rattle.pm_model.specs.declared.rows.LinkRow.{LinkRow}
use Rattle.pm_model.specs.declared.stage.ControlStage.{ControlStage}
use Rattle.pm_model.specs.declared.stage.ControlStage.TheVariants as control
use Rattle.pm_model.specs.ControlTable.{control_row, control_starts, disabling, disable_starts, disable_ends, barrier_idles, barrier_resumes, barrier_ends, active_starts, active_unwinds, active_takes, active_gives, active_links, suspended_starts, tells_supplier, suppliers_idle, sets, enabling, forbidding, allowing, schedules, link_adds, link_dels, is_pair_in}
use Rattle.pm_model.specs.Derived.{first_held, first_free, next_supplier}
use Rattle.pm_model.specs.PlanRows.{parent_of, is_of_pair}
use Rattle.pm_model.specs.Row.{Row}
use Rattle.pm_model.specs.Views.{Views, device}
use Rattle.pm_model.specs.WellFormed.{control_device}
use Rattle.pm_laws.proofs.islands.Region.{AlikeBy, AreBound, Region, Agree, StaysIn, is_own_link}
use Rattle.pm_laws.proofs.islands.ViewsAlike.{device_agrees, pending_agrees, refusal_agrees, busy_agrees, minds_agrees, fields_agree, held_agrees, free_agrees, next_agrees, has_link_agrees, parent_inside}
use Rattle.pm_laws.proofs.islands.FoundLinks.{held_in, free_runtime, free_in, next_in}
use Rattle.pm_laws.proofs.islands.Staying.{ok, waiting, either, both, called_in}

abbrev Same : Row → Row → Type 0
Same x y = x ≡ y

-- links of a pair whose consumer is inside
pair_alike : (k : ℕ → Bool) (c s : DevId) (rows : List LinkRow) (xs ys : List Bool) → k c.0 ≡ true → AlikeBy (λ row. k row.consumer.0) rows xs ys
    → list_any (λ p. is_of_pair c s p.0 && p.1) (zip rows xs) ≡ list_any (λ p. is_of_pair c s p.0 && p.1) (zip rows ys)
pair_alike k c s [] xs ys i a = refl
pair_alike k c s (row ∷ rows) [] [] i a = refl
pair_alike k c s (row ∷ rows) [] (y ∷ ys) i a = absurd a
pair_alike k c s (row ∷ rows) (x ∷ xs) [] i a = absurd a
pair_alike k c s (row ∷ rows) (x ∷ xs) (y ∷ ys) i a = rw (go (nat_eq row.consumer.0 c.0) refl, pair_alike k c s rows xs ys i a.1) refl
  where
    go : (b : Bool) → nat_eq row.consumer.0 c.0 ≡ b → (is_of_pair c s row && x) ≡ (is_of_pair c s row && y)
    go true e = rw (a.0 (ap k (eqb-true row.consumer.0 c.0 e) ∙ i)) refl
    go false e = rw e refl

pair_agrees : (plan : Plan) (k : Region plan) (c s : DevId) (xs ys : List Bool) → k.inside c.0 ≡ true → AlikeBy (is_own_link k) plan.links xs ys
    → is_pair_in plan c s xs ≡ is_pair_in plan c s ys
pair_agrees plan k c s xs ys i a = pair_alike k.inside c s plan.links xs ys i a

-- a held link of the pair has its supplier inside too
pair_bound : (k : ℕ → Bool) (c s : DevId) (rows : List LinkRow) (hs : List Bool) → k c.0 ≡ true
    → ((l : ℕ) (row : LinkRow) → slice_get rows l ≡ Some row → row.pm_runtime ≡ true → k row.consumer.0 ≡ k row.supplier.0) → AreBound (λ row. k row.consumer.0) rows hs
    → list_any (λ p. is_of_pair c s p.0 && p.1) (zip rows hs) ≡ true → k s.0 ≡ true
pair_bound k c s [] hs i linked bound e = absurd (false≢true e)
pair_bound k c s (row ∷ rows) [] i linked bound e = absurd (false≢true e)
pair_bound k c s (row ∷ rows) (h ∷ hs) i linked bound e =
    go (nat_eq row.consumer.0 c.0) (nat_eq row.supplier.0 s.0) h refl refl bound.0 e (λ rest. pair_bound k c s rows hs i (λ l. linked (suc l)) bound.1 rest)
  where
    go : (a b h : Bool) → nat_eq row.consumer.0 c.0 ≡ a → nat_eq row.supplier.0 s.0 ≡ b → (k row.consumer.0 ≡ true → h ≡ true → row.pm_runtime ≡ true)
        → ((a && b && h) || list_any (λ p. is_of_pair c s p.0 && p.1) (zip rows hs)) ≡ true
        → (list_any (λ p. is_of_pair c s p.0 && p.1) (zip rows hs) ≡ true → k s.0 ≡ true) → k s.0 ≡ true
    go true true true x y own e rest =
        let consumer : k row.consumer.0 ≡ true = ap k (eqb-true row.consumer.0 c.0 x) ∙ i in
        sym (ap k (eqb-true row.supplier.0 s.0 y)) ∙ sym (linked 0 row refl (own consumer refl)) ∙ consumer
    go true true false x y own e rest = rest e
    go true false h x y own e rest = rest e
    go false b h x y own e rest = rest e

disabling_alike : {plan : Plan} {k : Region plan} {v w : Views} (d : DevId) → Agree plan k v w → k.inside d.0 ≡ true → Same (disabling v d) (disabling w d)
unfolding disabling
disabling_alike d a i = rw (device_agrees d a i, busy_agrees d a i) refl

disable_starts_alike : {plan : Plan} {k : Region plan} {v w : Views} (d : DevId) → Agree plan k v w → k.inside d.0 ≡ true → Same (disable_starts v d) (disable_starts w d)
unfolding disable_starts
disable_starts_alike d a i = rw (device_agrees d a i, pending_agrees d a i, disabling_alike d a i) refl

disable_ends_alike : {plan : Plan} {k : Region plan} {v w : Views} (d : DevId) → Agree plan k v w → k.inside d.0 ≡ true → Same (disable_ends v d) (disable_ends w d)
unfolding disable_ends
disable_ends_alike d a i = rw (device_agrees d a i, busy_agrees d a i) refl

barrier_idles_alike : {plan : Plan} {k : Region plan} {v w : Views} (d : DevId) (c : ℤ) → Agree plan k v w → k.inside d.0 ≡ true → Same (barrier_idles v d c) (barrier_idles w d c)
unfolding barrier_idles
barrier_idles_alike d c a i = rw (busy_agrees d a i) refl

barrier_resumes_alike : {plan : Plan} {k : Region plan} {v w : Views} (d : DevId) → Agree plan k v w → k.inside d.0 ≡ true → Same (barrier_resumes plan v d) (barrier_resumes plan w d)
unfolding barrier_resumes
barrier_resumes_alike d a i = rw (pending_agrees d a i, fields_agree d 0 a i, barrier_idles_alike d (pos 0) a i) refl

barrier_ends_alike : {plan : Plan} {k : Region plan} {v w : Views} (d : DevId) (c : ℤ) → Agree plan k v w → k.inside d.0 ≡ true → Same (barrier_ends v d c) (barrier_ends w d c)
unfolding barrier_ends
barrier_ends_alike d c a i = rw (busy_agrees d a i) refl

active_starts_alike : {plan : Plan} {k : Region plan} {v w : Views} (d : DevId) → Agree plan k v w → k.inside d.0 ≡ true → Same (active_starts plan v d) (active_starts plan w d)
unfolding active_starts
active_starts_alike {plan} {k} {v} {w} d a i =
    let p = parent_inside plan k d i in
    rw (has_link_agrees d a i, busy_agrees d a i, minds_agrees d a i, device_agrees d a i, device_agrees (parent_of plan d) a p) refl

active_unwinds_alike : {plan : Plan} {k : Region plan} {v w : Views} (d : DevId) (c : ℤ) → Agree plan k v w → k.inside d.0 ≡ true → Same (active_unwinds plan v d c) (active_unwinds plan w d c)
unfolding active_unwinds
active_unwinds_alike d c a i = rw (held_agrees d a i) refl

active_takes_alike : {plan : Plan} {k : Region plan} {v w : Views} (d : DevId) (x : Option (ℕ × DevId)) → Agree plan k v w → k.inside d.0 ≡ true
    → Same (active_takes plan v d x) (active_takes plan w d x)
active_takes_alike d (Some link) a i = refl
active_takes_alike {plan} {k} {v} {w} d None a i =
    let p = parent_inside plan k d i in
    rw (minds_agrees d a i, device_agrees (parent_of plan d) a p, active_unwinds_alike d EBUSY a i) refl

active_links_alike : {plan : Plan} {k : Region plan} {v w : Views} (d : DevId) → Agree plan k v w → k.inside d.0 ≡ true → Same (active_links plan v d) (active_links plan w d)
unfolding active_links
active_links_alike {plan} {k} {v} {w} d a i = rw (free_agrees d a i) (active_takes_alike d (first_free plan w d) a i)

suspended_starts_alike : {plan : Plan} {k : Region plan} {v w : Views} (d : DevId) → Agree plan k v w → k.inside d.0 ≡ true → Same (suspended_starts v d) (suspended_starts w d)
unfolding suspended_starts
suspended_starts_alike d a i = rw (busy_agrees d a i, device_agrees d a i) refl

tells_alike : {plan : Plan} {k : Region plan} {v w : Views} (d : DevId) (last : Option DevId) (x : Option (ℕ × DevId)) → Agree plan k v w → k.inside d.0 ≡ true
    → next_supplier plan w d last ≡ x → Same (tells_supplier plan v d x) (tells_supplier plan w d x)
tells_alike {plan} {k} {v} {w} d last (Some link) a i e = rw (fields_agree link.1 1 a (next_in plan k w d last link i e)) refl
tells_alike {plan} {k} {v} {w} d last None a i e =
    let p = parent_inside plan k d i in
    rw (device_agrees (parent_of plan d) a p, fields_agree (parent_of plan d) 1 a p) refl

suppliers_alike : {plan : Plan} {k : Region plan} {v w : Views} (d : DevId) (last : Option DevId) → Agree plan k v w → k.inside d.0 ≡ true
    → Same (suppliers_idle plan v d last) (suppliers_idle plan w d last)
unfolding suppliers_idle
suppliers_alike {plan} {k} {v} {w} d last a i = rw (next_agrees d last a i) (tells_alike d last (next_supplier plan w d last) a i refl)

sets_alike : {plan : Plan} {k : Region plan} {v w : Views} (h : Helper) (d : DevId) (b : Bool) (n : ℤ) → Agree plan k v w → k.inside d.0 ≡ true
    → Same (sets plan v h d b n) (sets plan w h d b n)
unfolding sets
sets_alike h d b n a i = rw (device_agrees d a i, fields_agree d 8 a i) refl

starts_alike : {plan : Plan} {k : Region plan} {v w : Views} (c : Command) (t : ℕ) → Agree plan k v w → k.inside c.dev.0 ≡ true
    → Same (control_starts plan v c t) (control_starts plan w c t)
unfolding control_starts enabling forbidding allowing schedules link_adds link_dels
starts_alike {plan} {k} {v} {w} c t a i = go c.helper
  where
    same : device v c.dev ≡ device w c.dev
    same = device_agrees c.dev a i

    go : (h : Helper) → Same (control_starts plan v (record c { helper = h }) t) (control_starts plan w (record c { helper = h }) t)
    go helper.ScheduleSuspend = rw (refusal_agrees c.dev a i, fields_agree c.dev 1 a i) refl
    go helper.Enable = rw same refl
    go helper.Disable = disable_starts_alike c.dev a i
    go helper.SetActive = active_starts_alike c.dev a i
    go helper.SetSuspended = suspended_starts_alike c.dev a i
    go helper.Allow = rw same refl
    go helper.Forbid = rw same refl
    go helper.UseAutosuspend = rw same (sets_alike _ c.dev _ _ a i)
    go helper.DontUseAutosuspend = rw same (sets_alike _ c.dev _ _ a i)
    go helper.SetAutosuspendDelay = rw same (sets_alike _ c.dev _ _ a i)
    go helper.LinkAdd = rw (same, busy_agrees c.dev a i, pair_agrees plan k c.dev (record { 0 = nat_abs c.number }) v.present w.present i a.present) refl
    go helper.LinkDel =
        rw (
          busy_agrees c.dev a i,
          pair_agrees plan k c.dev (record { 0 = nat_abs c.number }) v.present w.present i a.present,
          pair_agrees plan k c.dev (record { 0 = nat_abs c.number }) v.held w.held i a.held,
        ) refl
    go _ = refl

pub control_alike : {plan : Plan} {k : Region plan} {v w : Views} (t : ℕ) (s : ControlStage) → Agree plan k v w → k.inside (control_device s).0 ≡ true
    → control_row plan v s t ≡ control_row plan w s t
control_alike t (control.Start c) a i = starts_alike c t a i
control_alike t (control.DisablePut d) a i = refl
control_alike t (control.Disable d) a i = disabling_alike d a i
control_alike t (control.Disabled d) a i = disable_ends_alike d a i
control_alike t (control.BarrierResume d) a i = barrier_resumes_alike d a i
control_alike t (control.BarrierIdle d c) a i = barrier_idles_alike d c a i
control_alike t (control.BarrierWait d c) a i = barrier_ends_alike d c a i
control_alike t (control.ActiveLinks d) a i = active_links_alike d a i
control_alike t (control.ActiveUnwind d c) a i = active_unwinds_alike d c a i
control_alike t (control.SuppliersIdle d last) a i = suppliers_alike d last a i

-- and in the region
disabling_stays : (plan : Plan) (k : Region plan) (v : Views) (d : DevId) → k.inside d.0 ≡ true → StaysIn plan k (disabling v d)
unfolding disabling
disabling_stays plan k v d i = search (both, ok) depth 20

disable_ends_stay : (plan : Plan) (k : Region plan) (v : Views) (d : DevId) → k.inside d.0 ≡ true → StaysIn plan k (disable_ends v d)
unfolding disable_ends
disable_ends_stay plan k v d i = search (both, ok, waiting) depth 20

barrier_idles_stay : (plan : Plan) (k : Region plan) (v : Views) (d : DevId) (c : ℤ) → k.inside d.0 ≡ true → StaysIn plan k (barrier_idles v d c)
unfolding barrier_idles
barrier_idles_stay plan k v d c i = search (both, ok) depth 20

barrier_resumes_stay : (plan : Plan) (k : Region plan) (v : Views) (d : DevId) → k.inside d.0 ≡ true → StaysIn plan k (barrier_resumes plan v d)
unfolding barrier_resumes
barrier_resumes_stay plan k v d i = search (both, ok, barrier_idles_stay) depth 20

barrier_ends_stay : (plan : Plan) (k : Region plan) (v : Views) (d : DevId) (c : ℤ) → k.inside d.0 ≡ true → StaysIn plan k (barrier_ends v d c)
unfolding barrier_ends
barrier_ends_stay plan k v d c i = search (both, ok, waiting) depth 20

active_gives_stay : (plan : Plan) (k : Region plan) (v : Views) (d : DevId) (c : ℤ) (x : Option (ℕ × DevId)) → k.inside d.0 ≡ true → first_held plan v d ≡ x
    → StaysIn plan k (active_gives d c x)
active_gives_stay plan k v d c (Some link) i e = let s = held_in plan k v d link i e in search ok depth 20
active_gives_stay plan k v d c None i e = search ok depth 20

active_unwinds_stay : (plan : Plan) (k : Region plan) (v : Views) (d : DevId) (c : ℤ) → k.inside d.0 ≡ true → StaysIn plan k (active_unwinds plan v d c)
unfolding active_unwinds
active_unwinds_stay plan k v d c i = active_gives_stay plan k v d c (first_held plan v d) i refl

active_takes_stay : (plan : Plan) (k : Region plan) (v : Views) (d : DevId) (x : Option (ℕ × DevId)) → k.inside d.0 ≡ true → first_free plan v d ≡ x
    → StaysIn plan k (active_takes plan v d x)
active_takes_stay plan k v d (Some link) i e = let s = free_in plan k v d link i e in let q = free_runtime plan v d link e in search ok depth 20
active_takes_stay plan k v d None i e = search (both, ok, active_unwinds_stay) depth 20

active_links_stay : (plan : Plan) (k : Region plan) (v : Views) (d : DevId) → k.inside d.0 ≡ true → StaysIn plan k (active_links plan v d)
unfolding active_links
active_links_stay plan k v d i = active_takes_stay plan k v d (first_free plan v d) i refl

tells_stay : (plan : Plan) (k : Region plan) (v : Views) (d : DevId) (last : Option DevId) (x : Option (ℕ × DevId)) → k.inside d.0 ≡ true
    → next_supplier plan v d last ≡ x → StaysIn plan k (tells_supplier plan v d x)
tells_stay plan k v d last (Some link) i e = let s = next_in plan k v d last link i e in search ok depth 20
tells_stay plan k v d last None i e = let p = parent_inside plan k d i in search (both, ok) depth 20

suppliers_stay : (plan : Plan) (k : Region plan) (v : Views) (d : DevId) (last : Option DevId) → k.inside d.0 ≡ true → StaysIn plan k (suppliers_idle plan v d last)
unfolding suppliers_idle
suppliers_stay plan k v d last i = tells_stay plan k v d last (next_supplier plan v d last) i refl

sets_stay : (plan : Plan) (k : Region plan) (v : Views) (h : Helper) (d : DevId) (b : Bool) (n : ℤ) → k.inside d.0 ≡ true → StaysIn plan k (sets plan v h d b n)
unfolding sets
sets_stay plan k v h d b n i = let its = called_in k h d i in search (both, ok, its) depth 20

-- the supplier of a deleted link gets its count back only where the link was held
dels_stay : (plan : Plan) (k : Region plan) (v : Views) (c s : DevId) → k.inside c.0 ≡ true → AreBound (is_own_link k) plan.links v.held
    → StaysIn plan k (link_dels plan v c s)
unfolding link_dels
dels_stay plan k v c s i bound =
    let own : is_pair_in plan c s v.held ≡ true → k.inside s.0 ≡ true = λ held. pair_bound k.inside c s plan.links v.held i k.linked bound held in
    search (either, ok, own) depth 20

starts_stay : (plan : Plan) (k : Region plan) (v : Views) (c : Command) (t : ℕ) → k.inside c.dev.0 ≡ true → AreBound (is_own_link k) plan.links v.held
    → StaysIn plan k (control_starts plan v c t)
unfolding control_starts schedules enabling disable_starts disabling active_starts suspended_starts allowing forbidding link_adds
starts_stay plan k v c t i bound = go c.helper
  where
    go : (h : Helper) → StaysIn plan k (control_starts plan v (record c { helper = h }) t)
    go helper.Barrier = search ok depth 20
    go _ = search (both, ok, sets_stay, dels_stay) depth 20

pub control_stays : (plan : Plan) (k : Region plan) (v : Views) (t : ℕ) (s : ControlStage) → k.inside (control_device s).0 ≡ true → AreBound (is_own_link k) plan.links v.held
    → StaysIn plan k (control_row plan v s t)
control_stays plan k v t (control.Start c) i bound = starts_stay plan k v c t i bound
control_stays plan k v t (control.DisablePut d) i bound = search ok depth 20
control_stays plan k v t (control.Disable d) i bound = disabling_stays plan k v d i
control_stays plan k v t (control.Disabled d) i bound = disable_ends_stay plan k v d i
control_stays plan k v t (control.BarrierResume d) i bound = barrier_resumes_stay plan k v d i
control_stays plan k v t (control.BarrierIdle d c) i bound = barrier_idles_stay plan k v d c i
control_stays plan k v t (control.BarrierWait d c) i bound = barrier_ends_stay plan k v d c i
control_stays plan k v t (control.ActiveLinks d) i bound = active_links_stay plan k v d i
control_stays plan k v t (control.ActiveUnwind d c) i bound = active_unwinds_stay plan k v d c i
control_stays plan k v t (control.SuppliersIdle d last) i bound = suppliers_stay plan k v d last i
