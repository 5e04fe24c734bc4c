-- The links of each device, and the longest of the chains from their suppliers.
use Rattle.std.proofs.Common.{ℕ, zero, suc, ◌≡◌, ◌≢◌, ◌∙◌, ◌+◌, ◌-◌, ◌<◌, ◌≤◌, false, ◌&&◌, List, [], ◌∷◌, ◌++◌, Some, length, max, replicate, slice_get, slice_index_or, slice_set, take, if◌then◌else◌, ap, arith, inl, inr, refl, subst, sym}
use Rattle.std.proofs.lemmas.Bool.{cases_lt, ltb-true}
use Rattle.std.proofs.lemmas.Bool.Decides.{eqb_tells}
use Rattle.std.proofs.lemmas.List.{get_or-set_other, get_or-set_same, get_or_append_left, length-append, length-set, take_all}
use Rattle.std.proofs.lemmas.Option.{same_Some, slice_get-get_or}
use Rattle.pm_base.specs.declared.DevId.{DevId}
use Rattle.pm_model.specs.declared.plan.Plan.{Plan}
use Rattle.pm_model.specs.declared.rows.LinkRow.{LinkRow}
use Rattle.pm_model.specs.IsPlan.{is_link}
use Rattle.pm_laws.proofs.counts.Links.{lawful_links}
use Rattle.pm_laws.specs.stacks.Depth.{greatest, of_supplier}
use Rattle.pm_laws.proofs.stacks.PlanLaw.{all_get}
use Rattle.pm_laws.proofs.stacks.Tests.{front, same_device}
use Rattle.pm_state.specs.Chains.{AreOwn, IsLastOf}
use Rattle.pm_state.proofs.ChainLemmas.{greatest_more}

-- the consumer of a link is one of the devices
consumer_within : (plan : Plan) (i : ℕ) (row : LinkRow) → slice_get plan.links i ≡ Some row → row.consumer.0 < length plan.devices
consumer_within plan i row is = ltb-true _ _ (front _ _ (front _ _ (all_get (is_link plan.devices) plan.links i row (lawful_links plan) is)))

-- of no links none is a device's
nothing : (n i : ℕ) → slice_index_or (replicate n zero) i zero ≡ zero
nothing zero i = refl
nothing (suc n) zero = refl
nothing (suc n) (suc i) = nothing n i

last_none : (links : List LinkRow) (d : DevId) (k : ℕ) → k ≡ 0 → IsLastOf links d 0 k
last_none links d k is = record {
  within = omega (arith, is);
  its = λ i row e. absurd (omega (arith, is, e));
  past = λ i row le lt. absurd (omega (arith, lt));
}

pub own_none : (links : List LinkRow) (devices : ℕ) (last before : List ℕ) → last ≡ replicate devices 0 → before ≡ [] → AreOwn links 0 last before
own_none links devices last before is none = record {
  each = λ d lt. last_none links d (slice_index_or last d.0 0) (ap (λ (l : List ℕ). slice_index_or l d.0 0) is ∙ nothing devices d.0);
  earlier = λ i row lt. absurd (omega (arith, lt));
  all = ap (λ (l : List ℕ). length l) none;
}

high_is : (i n : ℕ) → i < n + 1 → n ≤ i → n ≡ i
high_is i n lt high = omega (arith, lt, high)

below_is : (i n : ℕ) → suc i ≡ n + 1 → i ≡ n
below_is i n e = omega (arith, e)

-- what is known of the first n stays, where the next link is of another device
last_stays : (links : List LinkRow) (d : DevId) (n k : ℕ) (row : LinkRow) → slice_get links n ≡ Some row → row.consumer ≢ d → IsLastOf links d n k → IsLastOf links d (n + 1) k
last_stays links d n k row is other last = record {
  within = let w = last.within in omega (arith, w);
  its = last.its;
  past = λ i x le lt at. elim (cases_lt i n) [
    | inl low ↦ last.past i x le low at
    | inr high ↦ (λ same. other (ap (λ (r : LinkRow). r.consumer) (same_Some _ _ (sym is ∙ ap (slice_get links) (high_is i n lt high) ∙ at)) ∙ same))
  ];
}

-- and the next link is the last of its device
last_here : (links : List LinkRow) (n : ℕ) (row : LinkRow) → slice_get links n ≡ Some row → IsLastOf links row.consumer (n + 1) (n + 1)
last_here links n row is = record {
  within = omega arith;
  its = λ i x e at. ap (λ (r : LinkRow). r.consumer) (same_Some _ _ (sym at ∙ ap (slice_get links) (below_is i n e) ∙ is));
  past = λ i x le lt. absurd (omega (arith, le, lt));
}

own_more : (links : List LinkRow) (n : ℕ) (row : LinkRow) (last before last2 before2 : List ℕ) → slice_get links n ≡ Some row → row.consumer.0 < length last → AreOwn links n last before
    → last2 ≡ slice_set last row.consumer.0 (n + 1) → before2 ≡ before ++ slice_index_or last row.consumer.0 0 ∷ [] → AreOwn links (n + 1) last2 before2
own_more links n row last before last2 before2 is within own put pushed = record {
  each = λ d lt. subst (λ (l : List ℕ). IsLastOf links d (n + 1) (slice_index_or l d.0 0)) (sym put)
      (each d (omega (arith, lt, ap (λ (l : List ℕ). length l) put, length-set last row.consumer.0 (n + 1))));
  earlier = λ i x lt at. subst (λ (l : List ℕ). IsLastOf links x.consumer i (slice_index_or l i 0)) (sym pushed) (earlier i x lt at);
  all = omega (arith, ap (λ (l : List ℕ). length l) pushed, length-append before (slice_index_or last row.consumer.0 0 ∷ []), own.all);
}
  where
    each : (d : DevId) → d.0 < length last → IsLastOf links d (n + 1) (slice_index_or (slice_set last row.consumer.0 (n + 1)) d.0 0)
    each d lt = elim (eqb_tells row.consumer.0 d.0) [
      | inl same ↦
          let at : row.consumer ≡ d = same_device row.consumer d same.0 in
          subst (λ (x : DevId). IsLastOf links x (n + 1) (slice_index_or (slice_set last row.consumer.0 (n + 1)) x.0 0)) at
          (subst (IsLastOf links row.consumer (n + 1)) (sym (get_or-set_same last row.consumer.0 (n + 1) 0 within)) (last_here links n row is))
      | inr other ↦
          subst (IsLastOf links d (n + 1)) (sym (get_or-set_other last row.consumer.0 d.0 (n + 1) 0 (λ e. other.1 (sym e))))
          (last_stays links d n _ row is (λ e. other.1 (ap (λ (x : DevId). x.0) e)) (own.each d lt))
    ]

    earlier : (i : ℕ) (x : LinkRow) → i < n + 1 → slice_get links i ≡ Some x → IsLastOf links x.consumer i (slice_index_or (before ++ slice_index_or last row.consumer.0 0 ∷ []) i 0)
    earlier i x lt at = elim (cases_lt i n) [
      | inl low ↦ subst (IsLastOf links x.consumer i) (sym (get_or_append_left before _ 0 i (omega (arith, low, own.all)))) (own.earlier i x low at)
      | inr high ↦
          let here : i ≡ n = omega (arith, lt, high) in
          let same : row ≡ x = same_Some _ _ (sym is ∙ ap (slice_get links) (sym here) ∙ at) in
          let behind : i ≡ length before = omega (arith, here, own.all) in
          let value : slice_index_or (before ++ slice_index_or last row.consumer.0 0 ∷ []) i 0 ≡ slice_index_or last row.consumer.0 0 =
          ap (λ m. slice_index_or (before ++ slice_index_or last row.consumer.0 0 ∷ []) m 0) behind ∙ end_of before _ in
          subst (IsLastOf links x.consumer i) (sym value)
          (subst (λ m. IsLastOf links x.consumer m (slice_index_or last row.consumer.0 0)) (sym here)
          (subst (λ (r : LinkRow). IsLastOf links r.consumer n (slice_index_or last row.consumer.0 0)) same (own.each row.consumer within)))
    ]
      where
        end_of : (xs : List ℕ) (y : ℕ) → slice_index_or (xs ++ y ∷ []) (length xs) 0 ≡ y
        end_of [] y = refl
        end_of (z ∷ xs) y = end_of xs y

-- links of others add nothing
of_other : (d : DevId) (f : DevId → ℕ) (row : LinkRow) → row.consumer ≢ d → of_supplier d f row ≡ 0
of_other d f row other = elim (eqb_tells row.consumer.0 d.0) [
  | inl same ↦ absurd (other (same_device row.consumer d same.0))
  | inr apart ↦ ap (λ b. if b && row.pm_runtime then f row.supplier else 0) apart.0
]

-- the link at a place
record RowAt (links : List LinkRow) (i : ℕ) : Type 0 where
  row : LinkRow
  is : slice_get links i ≡ Some row

row_at : (links : List LinkRow) (i : ℕ) → i < length links → RowAt links i
row_at [] i lt = absurd (omega (arith, lt))
row_at (row ∷ links) zero lt = record { row = row; is = refl }
row_at (row ∷ links) (suc i) lt = let it = row_at links i (omega (arith, lt)) in record { row = it.row; is = it.is }

skips : (links : List LinkRow) (d : DevId) (f : DevId → ℕ) (k m : ℕ) → k + m ≤ length links
    → ((i : ℕ) (row : LinkRow) → k ≤ i → i < k + m → slice_get links i ≡ Some row → row.consumer ≢ d) → greatest (of_supplier d f) (take (k + m) links) ≡ greatest (of_supplier d f) (take k links)
skips links d f k zero le past = let on : k + zero ≡ k = omega arith in ap (λ n. greatest (of_supplier d f) (take n links)) on
skips links d f k (suc m) le past =
    let lt : k + m < length links = omega (arith, le) in
    let any = (row_at links (k + m) lt).row in
    let at = slice_get-get_or links (k + m) any lt in
    let nothing_more = of_other d f (slice_index_or links (k + m) any) (past (k + m) _ (omega arith) (omega arith) at) in
    let more = greatest_more (of_supplier d f) links (k + m) any lt in
    let behind = skips links d f k m (omega (arith, le)) (λ i row low below. past i row low (omega (arith, below))) in
    let on : k + suc m ≡ k + m + 1 = omega arith in
    let all : greatest (of_supplier d f) (take (k + m + 1) links) ≡ greatest (of_supplier d f) (take k links) = omega (arith, more, nothing_more, behind) in
    ap (λ n. greatest (of_supplier d f) (take n links)) on ∙ all

pub last_greatest : (links : List LinkRow) (d : DevId) (f : DevId → ℕ) (n k : ℕ) → n ≤ length links → IsLastOf links d n k → greatest (of_supplier d f) (take n links) ≡ greatest (of_supplier d f) (take k links)
last_greatest links d f n k le last =
    let w = last.within in
    let split : n ≡ k + (n - k) = omega (arith, w) in
    ap (λ m. greatest (of_supplier d f) (take m links)) split
    ∙ skips links d f k (n - k) (omega (arith, le, w)) (λ i row low lt at. last.past i row low (omega (arith, lt, w)) at)

-- a step from a device's link to the one before it
pub record Walked (links : List LinkRow) (d : DevId) (f : DevId → ℕ) (longest left : ℕ) : Type 0 where
  pub within : left ≤ length links
  pub its : (i : ℕ) (row : LinkRow) → suc i ≡ left → slice_get links i ≡ Some row → row.consumer ≡ d
  pub rest : max longest (greatest (of_supplier d f) (take left links)) ≡ greatest (of_supplier d f) links

pub walk_begins : (links : List LinkRow) (d : DevId) (f : DevId → ℕ) (last before : List ℕ) (left : ℕ) → AreOwn links (length links) last before → d.0 < length last → left ≡ slice_index_or last d.0 0
    → Walked links d f 0 left
walk_begins links d f last before left own within is =
    let its = subst (IsLastOf links d (length links)) (sym is) (own.each d within) in
    let same = last_greatest links d f (length links) left (omega arith) its in
    let all = ap (greatest (of_supplier d f)) (take_all (length links) links (omega arith)) in
    record { within = its.within; its = its.its; rest = omega (arith, same, all) }

-- the link before one of a device's own
pub before_is : (links : List LinkRow) (d : DevId) (last before : List ℕ) (left next : ℕ) → AreOwn links (length links) last before → 0 < left → left ≤ length links
    → ((i : ℕ) (row : LinkRow) → suc i ≡ left → slice_get links i ≡ Some row → row.consumer ≡ d) → next ≡ slice_index_or before (left - 1) 0 → IsLastOf links d (left - 1) next
before_is links d last before left next own some within its is =
    let at = (row_at links (left - 1) (omega (arith, some, within))).is in
    let consumer = its (left - 1) _ (omega (arith, some)) at in
    subst (IsLastOf links d (left - 1)) (sym is)
    (subst (λ (x : DevId). IsLastOf links x (left - 1) (slice_index_or before (left - 1) 0)) consumer (own.earlier (left - 1) _ (omega (arith, some, within)) at))

pub walk_more : (links : List LinkRow) (d : DevId) (f : DevId → ℕ) (longest left value now next : ℕ) (any : LinkRow) → 0 < left → Walked links d f longest left → IsLastOf links d (left - 1) next
    → value ≡ of_supplier d f (slice_index_or links (left - 1) any) → now ≡ max longest value → Walked links d f now next
walk_more links d f longest left value now next any some walked prior value_is now_is =
    let within = walked.within in
    let below = prior.within in
    let more = greatest_more (of_supplier d f) links (left - 1) any (omega (arith, some, within)) in
    let skip = last_greatest links d f (left - 1) next (omega (arith, within)) prior in
    let on : left ≡ left - 1 + 1 = omega (arith, some) in
    let here = ap (λ n. greatest (of_supplier d f) (take n links)) on in
    let was = walked.rest in
    record { within = omega (arith, below, within); its = prior.its; rest = omega (arith, now_is, value_is, more, skip, here, was) }

pub walk_ends : (links : List LinkRow) (d : DevId) (f : DevId → ℕ) (longest left : ℕ) → Walked links d f longest left → left ≤ 0 → longest ≡ greatest (of_supplier d f) links
walk_ends links d f longest left walked none =
    let at : left ≡ 0 = omega (arith, none) in
    let here = ap (λ n. greatest (of_supplier d f) (take n links)) at in
    let was = walked.rest in
    omega (arith, here, was)

-- what the code reads past the last link
abbrev pub no_row : LinkRow
no_row = record { consumer = record { 0 = 0 }; supplier = record { 0 = 0 }; pm_runtime = false; later = false }

pub row_within : (plan : Plan) (links : List LinkRow) (i : ℕ) → links ≡ plan.links → i < length links → (slice_index_or links i no_row).consumer.0 < length plan.devices
row_within plan links i is lt = consumer_within plan i _ (subst (λ (l : List LinkRow). slice_get l i ≡ Some (slice_index_or links i no_row)) is (slice_get-get_or links i no_row lt))

same_within : (xs : List ℕ) (i a b : ℕ) → i < length xs → slice_index_or xs i a ≡ slice_index_or xs i b
same_within [] i a b lt = absurd (omega (arith, lt))
same_within (x ∷ xs) zero a b lt = refl
same_within (x ∷ xs) (suc i) a b lt = same_within xs i a b (omega (arith, lt))

pub own_next : (links : List LinkRow) (n any : ℕ) (last before last2 before2 : List ℕ) → n < length links → (slice_index_or links n no_row).consumer.0 < length last → AreOwn links n last before
    → last2 ≡ slice_set last (slice_index_or links n no_row).consumer.0 (n + 1) → before2 ≡ before ++ slice_index_or last (slice_index_or links n no_row).consumer.0 any ∷ [] → AreOwn links (n + 1) last2 before2
own_next links n any last before last2 before2 lt within own put pushed =
    own_more links n (slice_index_or links n no_row) last before last2 before2 (slice_get-get_or links n no_row lt) within own put
    (pushed ∙ ap (λ m. before ++ m ∷ []) (same_within last (slice_index_or links n no_row).consumer.0 any 0 within))
