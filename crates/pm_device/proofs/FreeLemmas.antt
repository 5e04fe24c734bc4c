-- The held links of a consumer, given back one by one.
use Rattle.std.proofs.Common.{ℕ, zero, suc, ◌≡◌, ◌+◌, ◌-◌, ◌<◌, ◌≤◌, Bool, true, false, ◌&&◌, List, [], ◌∷◌, length, map, slice_set, slice_index_or, nat_eq, nat_le, cond, if◌then◌else◌, refl, ap, sym, subst, ◌∙◌, inl, inr, arith}
use Rattle.std.specs.List.{count_by, enumerate_from, list_all, zip}
use Rattle.std.proofs.lemmas.Bool.{and_parts, cases_eq, eq-eqb, le-leb, leb-true, ne_eqb, true≢false}
use Rattle.std.proofs.lemmas.Grind.{get_or-set_at}
use Rattle.std.proofs.lemmas.List.{get_or-set_other, length-set}
use Rattle.std.proofs.lemmas.List.Sums.{sum_by-cons, sum_by-set}
use Rattle.pm_base.specs.declared.DevId.{DevId}
use Rattle.pm_model.specs.declared.plan.Plan.{Plan}
use Rattle.pm_model.specs.declared.rows.LinkRow.{LinkRow}
use Rattle.pm_model.specs.declared.views.Device.{Device}
use Rattle.pm_model.specs.CanTake.{can_free}
use Rattle.pm_model.specs.Events.{frees_links, held_from}
use Rattle.pm_model.specs.Views.{Views, fresh_device}
use Rattle.pm_link.specs.LinkOrder.{supplier_at}
use Rattle.pm_link.specs.Links.{bit_at}
use Rattle.pm_link.specs.Wanted.{is_taken_at}
use Rattle.pm_device.specs.Giving.{gives_link}

abbrev bit : Bool → ℕ
bit b = cond b 1 0

bit_same : (m n : ℕ) → m ≡ n → bit (nat_eq m n) ≡ 1
bit_same m n same = ap bit (eq-eqb m n same)

bit_other : (m n : ℕ) → (m ≡ n → ⊥) → bit (nat_eq m n) ≡ 0
bit_other m n other = ap bit (ne_eqb m n other)

-- a link is held from d to s
abbrev is_held_of : DevId → ℕ → LinkRow → Bool → Bool
is_held_of d s row held = nat_eq row.consumer.0 d.0 && nat_eq row.supplier.0 s && held

-- how many of these are
abbrev held_of : List LinkRow → List Bool → DevId → ℕ → ℕ
held_of links held d s = count_by (λ p. is_held_of d s p.0 p.1) (zip links held)

held_of-cons : (d : DevId) (s : ℕ) (row : LinkRow) (links : List LinkRow) (h : Bool) (held : List Bool)
    → held_of (row ∷ links) (h ∷ held) d s ≡ bit (is_held_of d s row h) + held_of links held d s
held_of-cons d s row links h held = sum_by-cons (λ (p : LinkRow × Bool). cond (is_held_of d s p.0 p.1) 1 0) (row, h) (zip links held)

-- one link, held and freed
one_given : (c s h : Bool) → c && h ≡ true → bit (c && s && false) + bit s ≡ bit (c && s && h)
one_given true true true taken = refl
one_given true false true taken = refl
one_given true s false taken = absurd (true≢false (sym taken))
one_given false s h taken = absurd (true≢false (sym taken))

-- the bits of no links
none_taken : (c : Bool) → c && false ≡ true → ⊥
none_taken c taken = true≢false (sym (and_parts c false taken).1)

-- a held link of the consumer is freed: one less to its supplier, and as many to each other device
held_of-given : (d : DevId) (s : ℕ) (links : List LinkRow) (held : List Bool) (l : ℕ) → l < length links → is_taken_at d links held l ≡ true
    → held_of links (slice_set held l false) d s + bit (nat_eq (supplier_at links l) s) ≡ held_of links held d s
held_of-given d s [] held l below taken = absurd (omega arith)
held_of-given d s (row ∷ links) [] l below taken = absurd (none_taken _ taken)
held_of-given d s (row ∷ links) (h ∷ held) zero below taken =
    omega (arith, one_given (nat_eq row.consumer.0 d.0) (nat_eq row.supplier.0 s) h taken, held_of-cons d s row links false held, held_of-cons d s row links h held)
held_of-given d s (row ∷ links) (h ∷ held) (suc l) below taken =
    omega (arith, held_of-given d s links held l (omega arith) taken, held_of-cons d s row links h (slice_set held l false), held_of-cons d s row links h held)

-- no link of the consumer is held: none to any supplier
held_of-none : (d : DevId) (s : ℕ) (links : List LinkRow) (held : List Bool) → ((l : ℕ) → l < length links → is_taken_at d links held l ≡ false) → held_of links held d s ≡ 0
held_of-none d s [] held none = refl
held_of-none d s (row ∷ links) [] none = refl
held_of-none d s (row ∷ links) (h ∷ held) none =
    omega (arith, one_none (nat_eq row.consumer.0 d.0) (nat_eq row.supplier.0 s) h (none 0 (omega arith)), held_of-none d s links held (λ l below. none (suc l) (omega arith)), held_of-cons d s row links h held)
  where
    one_none : (c s h : Bool) → c && h ≡ false → bit (c && s && h) ≡ 0
    one_none true s true free = absurd (true≢false free)
    one_none true true false free = refl
    one_none true false false free = refl
    one_none false s h free = refl

-- the usage of each device is lower by a number
abbrev lowered : (ℕ → ℕ) → ℕ → List Device → List Device
lowered less i devices = map (λ p. record p.1 { usage = p.1.usage - less p.0 }) (enumerate_from i devices)

-- by the same numbers
lowered_as : (f g : ℕ → ℕ) (i : ℕ) (devices : List Device) → ((k : ℕ) → i ≤ k → f k ≡ g k) → lowered f i devices ≡ lowered g i devices
lowered_as f g i [] same = refl
lowered_as f g i (x ∷ devices) same =
    ap (λ n. record x { usage = x.usage - n } ∷ lowered f (i + 1) devices) (same i (omega arith))
    ∙ ap (λ rest. record x { usage = x.usage - g i } ∷ rest) (lowered_as f g (i + 1) devices (λ k le. same k (omega arith)))

-- by no number
lowered_none : (f : ℕ → ℕ) (i : ℕ) (devices : List Device) → ((k : ℕ) → f k ≡ 0) → lowered f i devices ≡ devices
lowered_none f i [] none = refl
lowered_none f i (x ∷ devices) none =
    let here : x.usage - f i ≡ x.usage = omega (arith, none i) in
    ap (λ n. record x { usage = n } ∷ lowered f (i + 1) devices) here
    ∙ ap (λ rest. x ∷ rest) (lowered_none f (i + 1) devices none)

abbrev one_less : Device → Device
one_less x = record x { usage = x.usage - 1 }

-- one device's usage is lower by one already
lowered-given : (f g : ℕ → ℕ) (i s at : ℕ) (devices : List Device) → at ≡ i + s → s < length devices → ((k : ℕ) → f k + bit (nat_eq at k) ≡ g k)
    → lowered f i (slice_set devices s (one_less (slice_index_or devices s fresh_device))) ≡ lowered g i devices
lowered-given f g i s at [] is below each = absurd (omega arith)
lowered-given f g i zero at (x ∷ devices) is below each =
    let here : x.usage - 1 - f i ≡ x.usage - g i = omega (arith, each i, bit_same at i (omega arith)) in
    ap (λ n. record x { usage = n } ∷ lowered f (i + 1) devices) here
    ∙ ap (λ rest. record x { usage = x.usage - g i } ∷ rest) (lowered_as f g (i + 1) devices (λ k le. omega (arith, each k, bit_other at k (λ same. omega arith))))
lowered-given f g i (suc s) at (x ∷ devices) is below each =
    let here : f i ≡ g i = omega (arith, each i, bit_other at i (λ same. omega arith)) in
    ap (λ n. record x { usage = x.usage - n } ∷ lowered f (i + 1) (slice_set devices s (one_less (slice_index_or devices s fresh_device)))) here
    ∙ ap (λ rest. record x { usage = x.usage - g i } ∷ rest) (lowered-given f g (i + 1) s at devices (omega arith) (omega arith) each)

-- the links of the consumer are free
abbrev loosed : DevId → List LinkRow → List Bool → List Bool
loosed d links held = map (λ p. if nat_eq p.0.consumer.0 d.0 then false else p.1) (zip links held)

-- one of them is free already
loosed-given : (d : DevId) (links : List LinkRow) (held : List Bool) (l : ℕ) → is_taken_at d links held l ≡ true → loosed d links (slice_set held l false) ≡ loosed d links held
loosed-given d [] held l taken = refl
loosed-given d (row ∷ links) [] l taken = absurd (none_taken _ taken)
loosed-given d (row ∷ links) (h ∷ held) zero taken = ap (λ b. b ∷ loosed d links held) (one (nat_eq row.consumer.0 d.0) h taken)
  where
    one : (c h : Bool) → c && h ≡ true → cond c false false ≡ cond c false h
    one true h taken = refl
    one false h taken = absurd (true≢false (sym taken))
loosed-given d (row ∷ links) (h ∷ held) (suc l) taken = ap (λ rest. cond (nat_eq row.consumer.0 d.0) false h ∷ rest) (loosed-given d links held l taken)

-- all of them are free already
loosed-none : (d : DevId) (links : List LinkRow) (held : List Bool) → length held ≡ length links → ((l : ℕ) → l < length links → is_taken_at d links held l ≡ false) → loosed d links held ≡ held
loosed-none d [] [] long none = refl
loosed-none d [] (h ∷ held) long none = absurd (omega arith)
loosed-none d (row ∷ links) [] long none = refl
loosed-none d (row ∷ links) (h ∷ held) long none =
    ap (λ b. b ∷ loosed d links held) (one (nat_eq row.consumer.0 d.0) h (none 0 (omega arith)))
    ∙ ap (λ rest. h ∷ rest) (loosed-none d links held (omega arith) (λ l below. none (suc l) (omega arith)))
  where
    one : (c h : Bool) → c && h ≡ false → cond c false h ≡ h
    one true h free = sym free
    one false h free = refl

-- to give back a held link of the consumer leaves what it is to free them all
pub frees_links-given : (plan : Plan) (d : DevId) (v : Views) (l : ℕ) → l < length plan.links → is_taken_at d plan.links v.held l ≡ true → supplier_at plan.links l < length v.devices
    → frees_links plan d (gives_link plan l v) ≡ frees_links plan d v
unfolding frees_links
frees_links-given plan d v l below taken within =
    let s = supplier_at plan.links l in
    let held = slice_set v.held l false in
    let devices = lowered-given (held_of plan.links held d) (held_of plan.links v.held d) 0 s s v.devices (omega arith) within (λ k. held_of-given d k plan.links v.held l below taken) in
    ap (λ xs. record v { devices = xs; held = loosed d plan.links held }) devices
    ∙ ap (λ bits. record v { devices = lowered (held_of plan.links v.held d) 0 v.devices; held = bits }) (loosed-given d plan.links v.held l taken)

-- where none is held, nothing is freed
pub frees_links-none : (plan : Plan) (d : DevId) (v : Views) → length v.held ≡ length plan.links → ((l : ℕ) → l < length plan.links → is_taken_at d plan.links v.held l ≡ false) → frees_links plan d v ≡ v
unfolding frees_links
frees_links-none plan d v long none =
    ap (λ xs. record v { devices = xs; held = loosed d plan.links v.held }) (lowered_none (held_of plan.links v.held d) 0 v.devices (λ k. held_of-none d k plan.links v.held none))
    ∙ ap (λ bits. record v { held = bits }) (loosed-none d plan.links v.held long none)

-- devices, counted from i, that have as many counts as these
abbrev has_counts : (ℕ → ℕ) → ℕ → List Device → Bool
has_counts counts i devices = list_all (λ p. nat_le (counts p.0) p.1.usage) (enumerate_from i devices)

-- each of them has
count_at : (counts : ℕ → ℕ) (i s at : ℕ) (devices : List Device) → at ≡ i + s → s < length devices → has_counts counts i devices ≡ true → counts at ≤ (slice_index_or devices s fresh_device).usage
count_at counts i s at [] is below all = absurd (omega arith)
count_at counts i zero at (x ∷ devices) is below all =
    let here : at ≡ i = omega (arith, is) in
    rw here (leb-true (counts i) x.usage (and_parts (nat_le (counts i) x.usage) (has_counts counts (i + 1) devices) all).0)
count_at counts i (suc s) at (x ∷ devices) is below all =
    count_at counts (i + 1) s at devices (omega (arith, is)) (omega arith) (and_parts (nat_le (counts i) x.usage) (has_counts counts (i + 1) devices) all).1

counts_from : (counts : ℕ → ℕ) (i : ℕ) (devices : List Device) → ((s at : ℕ) → at ≡ i + s → s < length devices → counts at ≤ (slice_index_or devices s fresh_device).usage) → has_counts counts i devices ≡ true
counts_from counts i [] each = refl
counts_from counts i (x ∷ devices) each =
    ap (λ b. b && has_counts counts (i + 1) devices) (le-leb (counts i) x.usage (each 0 i (omega arith) (omega arith)))
    ∙ counts_from counts (i + 1) devices (λ s at is below. each (suc s) at (omega (arith, is)) (omega arith))

-- a supplier has the counts that its held links to the consumer took
held_count_at : (plan : Plan) (v : Views) (d : DevId) (s : ℕ) → s < length v.devices → can_free plan v d ≡ true → held_from plan v.held d s ≤ (slice_index_or v.devices s fresh_device).usage
held_count_at plan v d s within can = count_at (held_from plan v.held d) 0 s s v.devices (omega arith) within can

-- where each has them, they can be freed
pub can_free_all : (plan : Plan) (v : Views) (d : DevId) → ((s : ℕ) → s < length v.devices → held_from plan v.held d s ≤ (slice_index_or v.devices s fresh_device).usage) → can_free plan v d ≡ true
can_free_all plan v d each = counts_from (held_from plan v.held d) 0 v.devices (λ s at is below. subst (λ k. held_from plan v.held d k ≤ (slice_index_or v.devices s fresh_device).usage) (omega (arith, is)) (each s below))

-- the supplier of a held link has a count to give back
pub can_give : (plan : Plan) (d : DevId) (v : Views) (l : ℕ) → l < length plan.links → is_taken_at d plan.links v.held l ≡ true → supplier_at plan.links l < length v.devices
    → can_free plan v d ≡ true → 0 < (slice_index_or v.devices (supplier_at plan.links l) fresh_device).usage
can_give plan d v l below taken within can =
    let s = supplier_at plan.links l in
    omega (arith, held_of-given d s plan.links v.held l below taken, bit_same s s refl, held_count_at plan v d s within can)

-- and the others can still be freed
pub can_free-given : (plan : Plan) (d : DevId) (v : Views) (l : ℕ) → l < length plan.links → is_taken_at d plan.links v.held l ≡ true → supplier_at plan.links l < length v.devices
    → can_free plan v d ≡ true → can_free plan (gives_link plan l v) d ≡ true
can_free-given plan d v l below taken within can = can_free_all plan (gives_link plan l v) d (λ k among.
    let s = supplier_at plan.links l in
    let x : Device = one_less (slice_index_or v.devices s fresh_device) in
    let given = held_of-given d k plan.links v.held l below taken in
    let had = held_count_at plan v d k (omega (arith, among, length-set v.devices s x)) can in
    elim (cases_eq k s) [
      | inl same ↦
          let at = ap (λ (y : Device). y.usage) (get_or-set_at v.devices s k x fresh_device same within) in
          let was = ap (λ n. (slice_index_or v.devices n fresh_device).usage) same in
          omega (arith, given, at, was, bit_same s k (sym same), had)
      | inr other ↦
          let at = ap (λ (y : Device). y.usage) (get_or-set_other v.devices s k x fresh_device other) in
          omega (arith, given, at, bit_other s k (λ same. other (sym same)), had)
    ])

-- how many links are held
abbrev pub held_count : List Bool → ℕ
held_count held = count_by (λ b. b) held

pub held_count-given : (held : List Bool) (l : ℕ) → l < length held → bit_at held l ≡ true → held_count (slice_set held l false) < held_count held
held_count-given held l below is = omega (arith, sum_by-set bit held l false false below, ap bit is)
