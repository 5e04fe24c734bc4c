-- The open gets and the children, as they are gathered.
use Rattle.std.proofs.Common.{ℕ, zero, suc, ◌≡◌, ◌+◌, ◌<◌, ◌≤◌, Bool, true, false, not, List, [], ◌∷◌, ◌++◌, Option, Some, None, IfSome, length, map, nat_lt, slice_index_or, take, append_assoc, if◌then◌else◌, ap, refl, sym, ◌∙◌, arith}
use Rattle.std.specs.List.{enumerate_from, filter, position, position_or_len, remove}
use Rattle.std.proofs.lemmas.Bool.{ltb-false}
use Rattle.std.proofs.lemmas.List.{length-map, map-append, take_all, take_more}
use Rattle.std.proofs.lemmas.List.Elements.{filter-append}
use Rattle.std.proofs.lemmas.List.FromFn.{length-enumerate_from}
use Rattle.pm_base.specs.declared.DevId.{DevId}
use Rattle.pm_base.specs.declared.Why.{Why}
use Rattle.pm_model.specs.declared.event.Line.{Line}
use Rattle.pm_model.specs.declared.plan.Plan.{Plan}
use Rattle.pm_model.specs.declared.rows.DeviceRow.{DeviceRow}
use Rattle.pm_model.specs.Counted.{only_if}
use Rattle.pm_model.specs.History.{History}
use Rattle.pm_model.specs.Views.{Views, device}
use Rattle.pm_why.specs.declared.gets.Count.{Count}
use Rattle.pm_why.specs.declared.gets.Found.{Found}
use Rattle.pm_why.specs.declared.Reason.{Reason}
use Rattle.pm_why.specs.declared.Reason.TheVariants as reason
use Rattle.pm_why.specs.Kept.{GoesOn, IsTold}
use Rattle.pm_why.specs.OpenGets.{is_for, open_after, open_gets, without_earliest}
use Rattle.pm_why.specs.Reasons.{child_reasons, counted_children, devices_of, error_line, is_child, stores_error, when}

-- the earliest stands at the first place that passes
removed : (r : Why) (counts : List Count) → remove counts (position_or_len (is_for r) counts) ≡ without_earliest r counts
removed r [] = refl
removed r (count ∷ counts) = go (is_for r count) (removed r counts)
  where
    go : (b : Bool) → remove counts (position_or_len (is_for r) counts) ≡ without_earliest r counts
        → remove (count ∷ counts) (if not b then 1 + position_or_len (is_for r) counts else 0) ≡ (if b then counts else count ∷ without_earliest r counts)
    go true rest = refl
    go false rest =
        let next : 1 + position_or_len (is_for r) counts ≡ suc (position_or_len (is_for r) counts) = omega arith in
        rw next (ap (λ l. count ∷ l) rest)

none_removed : (r : Why) (counts : List Count) → length counts ≤ position_or_len (is_for r) counts → without_earliest r counts ≡ counts
none_removed r [] past = refl
none_removed r (count ∷ counts) past = go (is_for r count) past (none_removed r counts)
  where
    go : (b : Bool) → length (count ∷ counts) ≤ (if not b then 1 + position_or_len (is_for r) counts else 0)
        → (length counts ≤ position_or_len (is_for r) counts → without_earliest r counts ≡ counts) → (if b then counts else count ∷ without_earliest r counts) ≡ count ∷ counts
    go true past rest = absurd (omega arith)
    go false past rest = ap (λ l. count ∷ l) (rest (omega arith))

pub closed_at : (r : Why) (counts : List Count) (place : ℕ) → Some place ≡ position (is_for r) counts → remove counts place ≡ without_earliest r counts
closed_at r counts place is = go (nat_lt (position_or_len (is_for r) counts) (length counts)) is
  where
    go : (b : Bool) → Some place ≡ (if b then Some (position_or_len (is_for r) counts) else None) → remove counts place ≡ without_earliest r counts
    go true is = let same : place ≡ position_or_len (is_for r) counts = cc in rw same (removed r counts)
    go false is = cc

pub closed_none : (r : Why) (counts : List Count) → None ≡ position (is_for r) counts → counts ≡ without_earliest r counts
closed_none r counts is = go (nat_lt (position_or_len (is_for r) counts) (length counts)) refl is
  where
    go : (b : Bool) → nat_lt (position_or_len (is_for r) counts) (length counts) ≡ b → None ≡ (if b then Some (position_or_len (is_for r) counts) else None)
        → counts ≡ without_earliest r counts
    go true e is = cc
    go false e is = sym (none_removed r counts (ltb-false (position_or_len (is_for r) counts) (length counts) e))

-- the devices of the plan
devices_len : (plan : Plan) → length (devices_of plan) ≡ length plan.devices
devices_len plan = length-map (enumerate_from 0 plan.devices) _ ∙ length-enumerate_from 0 plan.devices

numbered : (rows : List DeviceRow) (i k : ℕ) (d : DevId) → k < length rows
    → slice_index_or (map (λ p. record { 0 = p.0 }) (enumerate_from i rows)) k d ≡ record { 0 = i + k }
numbered [] i k d within = absurd (omega arith)
numbered (row ∷ rows) i zero d within = ap (λ n. let x : DevId = record { 0 = n } in x) (omega arith)
numbered (row ∷ rows) i (suc k) d within = numbered rows (i + 1) k d (omega arith) ∙ ap (λ n. let x : DevId = record { 0 = n } in x) (omega arith)

device_at : (plan : Plan) (i : ℕ) (d : DevId) → i < length plan.devices → slice_index_or (devices_of plan) i d ≡ record { 0 = i }
device_at plan i d within = numbered plan.devices 0 i d within ∙ ap (λ n. let x : DevId = record { 0 = n } in x) (omega arith)

single : (b : Bool) (child : DevId) → map reason.Child (if b then child ∷ [] else []) ≡ when b (reason.Child child)
single true child = refl
single false child = refl

-- one device more is looked at
pub children_more : (plan : Plan) (test : DevId → Bool) (i : ℕ) → i < length plan.devices
    → map reason.Child (filter test (take (i + 1) (devices_of plan))) ≡ map reason.Child (filter test (take i (devices_of plan))) ++ when (test (record { 0 = i })) (reason.Child (record { 0 = i }))
children_more plan test i within =
    let more = take_more (devices_of plan) i (record { 0 = i }) (omega (arith, devices_len plan)) ∙ ap (λ c. take i (devices_of plan) ++ c ∷ []) (device_at plan i (record { 0 = i }) within) in
    ap (λ l. map reason.Child (filter test l)) more
    ∙ ap (map reason.Child) (filter-append test (take i (devices_of plan)) ((record { 0 = i }) ∷ []))
    ∙ map-append reason.Child (filter test (take i (devices_of plan))) (filter test ((record { 0 = i }) ∷ []))
    ∙ ap (λ l. map reason.Child (filter test (take i (devices_of plan))) ++ l) (single (test (record { 0 = i })) (record { 0 = i }))

pub children_step : (plan : Plan) (test : DevId → Bool) (i : ℕ) (b : Bool) (before all after : List Reason) → i < length plan.devices
    → all ≡ before ++ map reason.Child (filter test (take i (devices_of plan))) → b ≡ test (record { 0 = i }) → after ≡ all ++ when b (reason.Child (record { 0 = i }))
    → after ≡ before ++ map reason.Child (filter test (take (i + 1) (devices_of plan)))
children_step plan test i b before all after within so_far holds more =
    more
    ∙ ap (λ x. all ++ when x (reason.Child (record { 0 = i }))) holds
    ∙ ap (λ l. l ++ when (test (record { 0 = i })) (reason.Child (record { 0 = i }))) so_far
    ∙ append_assoc before (map reason.Child (filter test (take i (devices_of plan)))) (when (test (record { 0 = i })) (reason.Child (record { 0 = i })))
    ∙ ap (λ l. before ++ l) (sym (children_more plan test i within))

pub children_end : (plan : Plan) (v : Views) (d : DevId) (n : ℕ) (before all : List Reason) → length plan.devices ≤ n → (device v d).ignores ≡ false
    → all ≡ before ++ map reason.Child (filter (is_child plan v d) (take n (devices_of plan))) → all ≡ before ++ child_reasons plan v d
children_end plan v d n before all past heeds is =
    is
    ∙ ap (λ l. before ++ map reason.Child (filter (is_child plan v d) l)) (take_all n (devices_of plan) (omega (arith, devices_len plan)))
    ∙ ap (λ b. before ++ (if b then [] else map reason.Child (counted_children plan v d))) (sym heeds)

-- one line more is read
gets_more : (d : DevId) (n : ℕ) (line : Line) (h : History) (old new : List Count) → n ≡ length h + 1 → old ≡ open_gets h d → new ≡ open_after d n line.event old → new ≡ open_gets (line ∷ h) d
gets_more d n line h old new number was is = is ∙ ap (open_after d n line.event) was ∙ ap (λ k. open_after d k line.event (open_gets h d)) number

error_more : (d : DevId) (n : ℕ) (line : Line) (h : History) (old new : ℕ) → n ≡ length h + 1 → old ≡ error_line h d → new ≡ (if stores_error d line.event then n else old) → new ≡ error_line (line ∷ h) d
error_more d n line h old new number was is = is ∙ chosen (stores_error d line.event)
  where
    chosen : (s : Bool) → (if s then n else old) ≡ (elim (only_if s (length h + 1)) as (λ _. ℕ) [ Some n ↦ n | None ↦ error_line h d ])
    chosen true = number
    chosen false = was

pub tells_more : (d : DevId) (n : ℕ) (line : Line) (h : History) (old new : Option Found) → n ≡ length h + 1 → GoesOn d n line.event old new → IfSome old (IsTold h d) → IfSome new (IsTold (line ∷ h) d)
tells_more d n line h None None number more told = tt
tells_more d n line h (Some old) None number more told = tt
tells_more d n line h None (Some new) number more told = absurd more
tells_more d n line h (Some old) (Some new) number more told = record {
  gets = gets_more d n line h old.gets.items new.gets.items number told.gets more.gets;
  error = error_more d n line h old.error_line new.error_line number told.error more.error;
}
