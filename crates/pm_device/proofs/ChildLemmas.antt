-- What the counters keep, once the views of one device change, and what a parent's tally says.
use Rattle.std.proofs.Common.{ℕ, ◌<◌, ◌≡◌, ◌+◌, Bool, false, not, ◌&&◌, List, [], ◌∷◌, Option, None, Some, map, length, slice_index_or, slice_set, nat_eq, cond, refl, ap, sym, ◌∙◌}
use Rattle.std.specs.List.{count_by, zip}
use Rattle.std.specs.Option.{option_map_or}
use Rattle.std.proofs.lemmas.List.{get_or-map, length-set, map-set, set-get_or}
use Rattle.std.proofs.lemmas.List.Elements.{All-set}
use Rattle.std.proofs.lemmas.List.Sums.{sum_by-cons}
use Rattle.pm_base.specs.declared.Armed.{Armed}
use Rattle.pm_base.specs.declared.DevId.{DevId}
use Rattle.pm_base.specs.declared.Pending.{Pending}
use Rattle.pm_base.specs.declared.Status.{Status}
use Rattle.pm_model.specs.declared.plan.Plan.{Plan}
use Rattle.pm_model.specs.declared.rows.DeviceRow.{DeviceRow}
use Rattle.pm_model.specs.declared.views.Device.{Device}
use Rattle.pm_model.specs.Derived.{children, is_counted_child, is_suspended_status}
use Rattle.pm_model.specs.Views.{Views, fresh_device}
use Rattle.pm_index.specs.OwnMarks.{is_of, marked_of}
use Rattle.pm_device.specs.Children.{counts, parents, place_of}
use Rattle.pm_device.specs.Parts.{IsInTime, IsKept, is_quiet}

-- one device's views change, and with them whether it counts as a child and whether it keeps its domain on
pub kept_with_device : (owners : List (Option ℕ)) (devices : List Device) (pending : List Pending) (timers : List (Option Armed)) (homes : List (Option ℕ)) (awake : List Bool) (above : List (Option ℕ)) (on counting : List Bool)
    → IsKept owners devices pending timers homes awake above on counting → (i : ℕ) (x : Device) → IsInTime x
    → IsKept owners (slice_set devices i x) pending timers homes (slice_set awake i (not (is_quiet x))) above on (slice_set counting i (counts x.status))
kept_with_device owners devices pending timers homes awake above on counting kept i x in_time = record {
  devices_len = length-set devices i x ∙ kept.devices_len;
  pending_len = kept.pending_len;
  timers_len = kept.timers_len;
  homes_len = kept.homes_len;
  on_len = kept.on_len;
  counting_is = ap (λ bits. slice_set bits i (counts x.status)) kept.counting_is ∙ sym (map-set (λ y. counts y.status) devices i x);
  awake_is = ap (λ bits. slice_set bits i (not (is_quiet x))) kept.awake_is ∙ sym (map-set (λ y. not (is_quiet y)) devices i x);
  in_time = All-set IsInTime devices i x in_time kept.in_time;
}

same_marks : (f : Device → Bool) (xs : List Device) (i : ℕ) (x : Device) → i < length xs → f x ≡ f (slice_index_or xs i fresh_device) → map f (slice_set xs i x) ≡ map f xs
same_marks f xs i x within same = map-set f xs i x ∙ ap (slice_set (map f xs) i) (same ∙ sym (get_or-map f xs i fresh_device false within)) ∙ set-get_or (map f xs) i false

-- one whose status and depth stay counts as before
pub kept_alike : (owners : List (Option ℕ)) (devices : List Device) (pending : List Pending) (timers : List (Option Armed)) (homes : List (Option ℕ)) (awake : List Bool) (above : List (Option ℕ)) (on counting : List Bool)
    → IsKept owners devices pending timers homes awake above on counting → (i : ℕ) (x : Device) → i < length devices → IsInTime x
    → x.status ≡ (slice_index_or devices i fresh_device).status → x.depth ≡ (slice_index_or devices i fresh_device).depth
    → IsKept owners (slice_set devices i x) pending timers homes awake above on counting
kept_alike owners devices pending timers homes awake above on counting kept i x within in_time status depth = record {
  devices_len = length-set devices i x ∙ kept.devices_len;
  pending_len = kept.pending_len;
  timers_len = kept.timers_len;
  homes_len = kept.homes_len;
  on_len = kept.on_len;
  counting_is = kept.counting_is ∙ sym (same_marks (λ y. counts y.status) devices i x within (ap counts status));
  awake_is = kept.awake_is ∙ sym (same_marks (λ y. not (is_quiet y)) devices i x within (alike x.status (slice_index_or devices i fresh_device).status x.depth (slice_index_or devices i fresh_device).depth status depth));
  in_time = All-set IsInTime devices i x in_time kept.in_time;
}
  where
    alike : (s t : Status) (m n : ℕ) → s ≡ t → m ≡ n → not (is_suspended_status s && nat_eq m 0) ≡ not (is_suspended_status t && nat_eq n 0)
    alike s t m n same_status same_depth = cc

counted_child : (d : DevId) (row : DeviceRow) (x : Device) → (is_of d.0 (place_of row.parent) && counts x.status) ≡ is_counted_child d row x
counted_child d row x = go row.parent
  where
    go : (p : Option DevId) → (is_of d.0 (place_of p) && counts x.status) ≡ (option_map_or (λ q. nat_eq q.0 d.0) p false && counts x.status)
    go None = refl
    go (Some p) = refl

counted_rows : (rows : List DeviceRow) (devices : List Device) (d : DevId) → marked_of (map (λ row. place_of row.parent) rows) (map (λ x. counts x.status) devices) d.0 ≡ count_by (λ p. is_counted_child d p.0 p.1) (zip rows devices)
counted_rows [] devices d = refl
counted_rows (row ∷ rows) [] d = refl
counted_rows (row ∷ rows) (x ∷ devices) d =
    sum_by-cons (λ q. cond (is_of d.0 q.0 && q.1) 1 0) (place_of row.parent, counts x.status) (zip (map (λ r. place_of r.parent) rows) (map (λ y. counts y.status) devices))
    ∙ ap (λ n. cond (is_of d.0 (place_of row.parent) && counts x.status) 1 0 + n) (counted_rows rows devices d)
    ∙ ap (λ b. cond b 1 0 + count_by (λ p. is_counted_child d p.0 p.1) (zip rows devices)) (counted_child d row x)
    ∙ sym (sum_by-cons (λ q. cond (is_counted_child d q.0 q.1) 1 0) (row, x) (zip rows devices))

-- the tally of a device is the number of its children in the plan
pub children_is : (plan : Plan) (v : Views) (owners : List (Option ℕ)) (counting : List Bool) (d : DevId) → owners ≡ parents plan → counting ≡ map (λ x. counts x.status) v.devices → marked_of owners counting d.0 ≡ children plan v d
unfolding children
children_is plan v owners counting d same marks = rw (same, marks) (counted_rows plan.devices v.devices d)
