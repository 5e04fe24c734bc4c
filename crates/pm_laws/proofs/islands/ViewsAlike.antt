-- What follows from views that agree on a region is the same on it.
use Rattle.std.proofs.Common.{ℕ, suc, ◌≡◌, ◌+◌, Bool, true, false, cond, not, ◌&&◌, ◌||◌, List, [], ◌∷◌, Option, Some, None, nat_eq, ap, refl, sym, ◌∙◌}
use Rattle.std.specs.Prelude.{slice_get, unwrap_or}
use Rattle.std.specs.List.{zip, count_by}
use Rattle.std.specs.Option.{option_map_or}
use Rattle.std.proofs.lemmas.Bool.{eqb-true, false≢true}
use Rattle.std.proofs.lemmas.List.Sums.{sum_by-cons}
use Rattle.pm_base.specs.declared.Cb.{Cb}
use Rattle.pm_base.specs.declared.Cb.TheVariants as cb
use Rattle.pm_base.specs.declared.DevId.{DevId}
use Rattle.pm_model.specs.declared.plan.Plan.{Plan}
use Rattle.pm_model.specs.declared.rows.DeviceRow.{DeviceRow}
use Rattle.pm_model.specs.declared.rows.LinkRow.{LinkRow}
use Rattle.pm_model.specs.declared.views.Device.{Device}
use Rattle.pm_model.specs.Derived.{is_active_status, is_suspending_status, is_counted_child, children, refusal, expiry, busy, fields, minds_parent, is_link_of, is_above, least_link, first_held, first_free, next_supplier, has_link, callback_code, begun}
use Rattle.pm_model.specs.PlanRows.{parent, parent_of}
use Rattle.pm_model.specs.Views.{Views, device, pending_of, timer, fresh_device, fresh_pending}
use Rattle.pm_laws.proofs.islands.Region.{Alike, AlikeBy, Region, Agree, is_own_link}
use Rattle.pm_laws.proofs.islands.AlikeLists.{alike_at}

pub device_agrees : {plan : Plan} {k : Region plan} {v w : Views} (d : DevId) → Agree plan k v w → k.inside d.0 ≡ true → device v d ≡ device w d
device_agrees {plan} {k} {v} {w} d a i = alike_at k.inside v.devices w.devices d.0 fresh_device a.devices i

pub pending_agrees : {plan : Plan} {k : Region plan} {v w : Views} (d : DevId) → Agree plan k v w → k.inside d.0 ≡ true → pending_of v d ≡ pending_of w d
pending_agrees {plan} {k} {v} {w} d a i = alike_at k.inside v.pending w.pending d.0 fresh_pending a.pending i

pub timer_agrees : {plan : Plan} {k : Region plan} {v w : Views} (d : DevId) → Agree plan k v w → k.inside d.0 ≡ true → timer v d ≡ timer w d
timer_agrees {plan} {k} {v} {w} d a i = alike_at k.inside v.timers w.timers d.0 None a.timers i

-- children
abbrev names_parent : DevId → DeviceRow → Bool
names_parent d row = option_map_or (λ p. nat_eq p.0 d.0) row.parent false

child_alike : (d : DevId) (row : DeviceRow) (x y : Device) → (names_parent d row ≡ true → x ≡ y) → is_counted_child d row x ≡ is_counted_child d row y
child_alike d row x y same = go (names_parent d row) same
  where
    go : (b : Bool) → (b ≡ true → x ≡ y)
        → (b && (is_active_status x.status || is_suspending_status x.status)) ≡ (b && (is_active_status y.status || is_suspending_status y.status))
    go true same = rw (same refl) refl
    go false same = refl

children_alike : (d : DevId) (inside : ℕ → Bool) (rows : List DeviceRow) (xs ys : List Device)
    → ((i : ℕ) (row : DeviceRow) → slice_get rows i ≡ Some row → names_parent d row ≡ true → inside i ≡ true) → Alike inside xs ys
    → count_by (λ p. is_counted_child d p.0 p.1) (zip rows xs) ≡ count_by (λ p. is_counted_child d p.0 p.1) (zip rows ys)
children_alike d inside [] xs ys closed a = refl
children_alike d inside (row ∷ rows) [] [] closed a = refl
children_alike d inside (row ∷ rows) [] (y ∷ ys) closed a = absurd a
children_alike d inside (row ∷ rows) (x ∷ xs) [] closed a = absurd a
children_alike d inside (row ∷ rows) (x ∷ xs) (y ∷ ys) closed a =
    let count : DeviceRow × Device → ℕ = λ p. cond (is_counted_child d p.0 p.1) 1 0 in
    let e = child_alike d row x y (λ names. a.0 (closed 0 row refl names)) in
    let rest = children_alike d (λ n. inside (suc n)) rows xs ys (λ i. closed (suc i)) a.1 in
    sum_by-cons count (row, x) (zip rows xs) ∙ rw (e, rest) (sym (sum_by-cons count (row, y) (zip rows ys)))

names_is : (d : DevId) (row : DeviceRow) → names_parent d row ≡ true → (p : DevId) × (row.parent ≡ Some p) × (p.0 ≡ d.0)
names_is d row e = go row.parent refl e
  where
    go : (x : Option DevId) → row.parent ≡ x → option_map_or (λ p. nat_eq p.0 d.0) x false ≡ true → (p : DevId) × (row.parent ≡ Some p) × (p.0 ≡ d.0)
    go None is e = absurd (cc)
    go (Some p) is e = (p, is, eqb-true p.0 d.0 e)

pub children_agree : {plan : Plan} {k : Region plan} {v w : Views} (d : DevId) → Agree plan k v w → k.inside d.0 ≡ true → children plan v d ≡ children plan w d
unfolding children
children_agree {plan} {k} {v} {w} d a inside =
    children_alike d k.inside plan.devices v.devices w.devices
    (λ i row at names. let p = names_is d row names in k.parents i row p.0 at p.1 ∙ ap k.inside p.2 ∙ inside) a.devices

-- the parent is inside, and so is a device that stands as its own
pub parent_inside : (plan : Plan) (k : Region plan) (d : DevId) → k.inside d.0 ≡ true → k.inside (parent_of plan d).0 ≡ true
unfolding parent_of parent
parent_inside plan k d inside = go (slice_get plan.devices d.0) refl
  where
    by_row : (row : DeviceRow) (x : Option DevId) → slice_get plan.devices d.0 ≡ Some row → row.parent ≡ x → k.inside (unwrap_or x d).0 ≡ true
    by_row row None at is = inside
    by_row row (Some p) at is = sym (k.parents d.0 row p at is) ∙ inside

    go : (x : Option DeviceRow) → slice_get plan.devices d.0 ≡ x → k.inside (unwrap_or (option_map_or (λ row. row.parent) x None) d).0 ≡ true
    go None at = inside
    go (Some row) at = by_row row row.parent at refl

-- readers of a device and its children
pub refusal_agrees : {plan : Plan} {k : Region plan} {v w : Views} (d : DevId) → Agree plan k v w → k.inside d.0 ≡ true → refusal plan v d ≡ refusal plan w d
unfolding refusal
refusal_agrees d a i = rw (device_agrees d a i, pending_agrees d a i, children_agree d a i) refl

pub expiry_agrees : {plan : Plan} {k : Region plan} {v w : Views} (d : DevId) → Agree plan k v w → k.inside d.0 ≡ true → expiry v d ≡ expiry w d
unfolding expiry
expiry_agrees d a i = rw (device_agrees d a i) refl

pub busy_agrees : {plan : Plan} {k : Region plan} {v w : Views} (d : DevId) → Agree plan k v w → k.inside d.0 ≡ true → busy v d ≡ busy w d
unfolding busy
busy_agrees d a i = rw (device_agrees d a i) refl

pub fields_agree : {plan : Plan} {k : Region plan} {v w : Views} (d : DevId) (f : ℕ) → Agree plan k v w → k.inside d.0 ≡ true → fields plan v d f ≡ fields plan w d f
unfolding fields
fields_agree d f a i = rw (device_agrees d a i, pending_agrees d a i, children_agree d a i) refl

pub minds_agrees : {plan : Plan} {k : Region plan} {v w : Views} (d : DevId) → Agree plan k v w → k.inside d.0 ≡ true → minds_parent plan v d ≡ minds_parent plan w d
unfolding minds_parent
minds_agrees {plan} {k} {v} {w} d a i = rw (device_agrees (parent_of plan d) a (parent_inside plan k d i)) refl

begun_agrees : (v w : Views) (k : Cb) (d : DevId) → device v d ≡ device w d → begun v k d ≡ begun w k d
begun_agrees v w cb.Idle d e = ap (λ x. x.begun_idle) e
begun_agrees v w cb.Suspend d e = ap (λ x. x.begun_suspend) e
begun_agrees v w cb.Resume d e = ap (λ x. x.begun_resume) e

pub code_agrees : {plan : Plan} {k : Region plan} {v w : Views} (c : Cb) (d : DevId) → Agree plan k v w → k.inside d.0 ≡ true
    → callback_code plan v c d ≡ callback_code plan w c d
unfolding callback_code
code_agrees {plan} {k} {v} {w} c d a i = rw (begun_agrees v w c d (device_agrees d a i)) refl

-- links
least_alike : (test : LinkRow → Bool → Bool → Bool) (own : LinkRow → Bool) → ((row : LinkRow) (h p : Bool) → own row ≡ false → test row h p ≡ false)
    → (i : ℕ) (rows : List LinkRow) (hs hs' ps ps' : List Bool) → AlikeBy own rows hs hs' → AlikeBy own rows ps ps'
    → least_link test i rows hs ps ≡ least_link test i rows hs' ps'
least_alike test own only i [] hs hs' ps ps' a b = refl
least_alike test own only i (row ∷ rows) [] [] ps ps' a b = refl
least_alike test own only i (row ∷ rows) [] (h' ∷ hs') ps ps' a b = absurd a
least_alike test own only i (row ∷ rows) (h ∷ hs) [] ps ps' a b = absurd a
least_alike test own only i (row ∷ rows) (h ∷ hs) (h' ∷ hs') [] [] a b = refl
least_alike test own only i (row ∷ rows) (h ∷ hs) (h' ∷ hs') [] (p' ∷ ps') a b = absurd b
least_alike test own only i (row ∷ rows) (h ∷ hs) (h' ∷ hs') (p ∷ ps) [] a b = absurd b
least_alike test own only i (row ∷ rows) (h ∷ hs) (h' ∷ hs') (p ∷ ps) (p' ∷ ps') a b =
    let rest = least_alike test own only (i + 1) rows hs hs' ps ps' a.1 b.1 in
    rw (same (own row) refl, rest) refl
  where
    same : (o : Bool) → own row ≡ o → test row h p ≡ test row h' p'
    same true e = rw (a.0 e, b.0 e) refl
    same false e = only row h p e ∙ sym (only row h' p' e)

not_of : (k : ℕ → Bool) (a d : ℕ) → k d ≡ true → k a ≡ false → nat_eq a d ≡ false
not_of k a d i o = go (nat_eq a d) refl
  where
    go : (b : Bool) → nat_eq a d ≡ b → nat_eq a d ≡ false
    go false e = e
    go true e = let same = eqb-true a d e in absurd (false≢true (sym o ∙ ap k same ∙ i))

foreign : (plan : Plan) (k : Region plan) (d : DevId) → k.inside d.0 ≡ true → (row : LinkRow) (p : Bool) → is_own_link k row ≡ false → is_link_of d row p ≡ false
foreign plan k d i row p o = rw (not_of k.inside row.consumer.0 d.0 i o) refl

-- a test that only links of d pass
link_alike : {plan : Plan} {k : Region plan} {v w : Views} (d : DevId) (test : LinkRow → Bool → Bool) → Agree plan k v w → k.inside d.0 ≡ true
    → least_link (λ row h p. is_link_of d row p && test row h) 0 plan.links v.held v.present
    ≡ least_link (λ row h p. is_link_of d row p && test row h) 0 plan.links w.held w.present
link_alike {plan} {k} {v} {w} d test a i =
    least_alike (λ row h p. is_link_of d row p && test row h) (is_own_link k) (λ row h p o. rw (foreign plan k d i row p o) refl) 0 plan.links
    v.held w.held v.present w.present a.held a.present

pub held_agrees : {plan : Plan} {k : Region plan} {v w : Views} (d : DevId) → Agree plan k v w → k.inside d.0 ≡ true → first_held plan v d ≡ first_held plan w d
unfolding first_held
held_agrees d a i = link_alike d (λ row h. h) a i

pub free_agrees : {plan : Plan} {k : Region plan} {v w : Views} (d : DevId) → Agree plan k v w → k.inside d.0 ≡ true → first_free plan v d ≡ first_free plan w d
unfolding first_free
free_agrees d a i = link_alike d (λ row h. not h) a i

pub next_agrees : {plan : Plan} {k : Region plan} {v w : Views} (d : DevId) (last : Option DevId) → Agree plan k v w → k.inside d.0 ≡ true
    → next_supplier plan v d last ≡ next_supplier plan w d last
unfolding next_supplier
next_agrees d last a i = link_alike d (λ row h. is_above last row.supplier) a i

pub has_link_agrees : {plan : Plan} {k : Region plan} {v w : Views} (d : DevId) → Agree plan k v w → k.inside d.0 ≡ true → has_link plan v d ≡ has_link plan w d
unfolding has_link
has_link_agrees d a i = rw (next_agrees d None a i) refl
