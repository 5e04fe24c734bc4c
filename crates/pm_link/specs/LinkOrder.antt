-- The order of links by which those of a consumer stand together, that of the least supplier first.
use Rattle.std.specs.Prelude.{◌≡◌, ◌+◌, ◌<◌, ◌≤◌, ◌^◌, ◌⊎◌, ℕ, Bool, true, false, List, Option, All, Contains, IfNone, IfSome, length, slice_index, slice_index_or}
use Rattle.std.specs.declared.cmp.Ordering.{Ordering}
use Rattle.std.specs.List.{range_with_len}
use Rattle.std.specs.List.Sorted.{IsPermutation, IsSorted}
use Rattle.std.specs.Ordering.{nat_cmp, ordering_then}
use Rattle.pm_base.specs.declared.DevId.{DevId}
use Rattle.pm_model.specs.declared.rows.LinkRow.{LinkRow}
use Rattle.pm_link.specs.Links.{row_at}

abbrev pub consumer_at : List LinkRow → ℕ → ℕ
consumer_at rows link = (row_at rows link).consumer.0

abbrev pub supplier_at : List LinkRow → ℕ → ℕ
supplier_at rows link = (row_at rows link).supplier.0

-- two links compared by their consumers, then by their suppliers, and where both are one by their places
abbrev pub by_pair : List LinkRow → ℕ → ℕ → Ordering
by_pair rows a b =
    ordering_then (ordering_then (nat_cmp (consumer_at rows a) (consumer_at rows b)) (nat_cmp (supplier_at rows a) (supplier_at rows b))) (nat_cmp a b)

-- order has the place of each link, sorted by consumer and supplier
pub record IsLinkOrder (rows : List LinkRow) (order : List ℕ) : Type 0 where
  pub few : length rows < 2 ^ 32
  pub places : IsPermutation (range_with_len 0 (length rows)) order
  pub sorted : IsSorted (by_pair rows) order

-- this number of the links does not fall along a list
abbrev pub IsRisingBy : (ℕ → ℕ) → List ℕ → Type 0
IsRisingBy key links =
    (i j : ℕ) (d : ℕ) → i ≤ j → j < length links → key (slice_index_or links i d) ≤ key (slice_index_or links j d)

-- exactly the first n links of a list have a lesser number than this one
pub record IsCountBelow (key : ℕ → ℕ) (links : List ℕ) (bound n : ℕ) : Type 0 where
  pub in_range : n ≤ length links
  pub before : (k : ℕ) (d : ℕ) → k < n → key (slice_index_or links k d) < bound
  pub after : (k : ℕ) (d : ℕ) → n ≤ k → k < length links → bound ≤ key (slice_index_or links k d)

-- where the links of each of the first devices begin in the order
pub record AreFirstStarts (rows : List LinkRow) (order : List ℕ) (count : ℕ) (starts : List ℕ) : Type 0 where
  pub count_is : length starts ≡ count
  pub each : (device : ℕ) → device < count → IsCountBelow (consumer_at rows) order device (slice_index starts device)

-- where those of each device begin; behind the last one, at the end of the order
abbrev pub AreStarts : List LinkRow → List ℕ → List ℕ → Type 0
AreStarts rows order starts =
    (device : ℕ) → IsCountBelow (consumer_at rows) order device (slice_index_or starts device (length order))

-- the place of each link in the order
pub record AreRanks (order ranks : List ℕ) : Type 0 where
  pub count_is : length ranks ≡ length order
  pub each : (rank : ℕ) → rank < length order → slice_index ranks (slice_index order rank) ≡ rank

-- of two links of one consumer, the first has the lesser supplier, or the same and the lesser place
abbrev pub IsNoFurther : List LinkRow → ℕ → ℕ → Type 0
IsNoFurther rows a b = (supplier_at rows a < supplier_at rows b) ⊎ ((supplier_at rows a ≡ supplier_at rows b) × (a ≤ b))

-- a list has exactly the links of a consumer, that of the least supplier first
pub record IsOwn (rows : List LinkRow) (consumer : DevId) (own : List ℕ) : Type 0 where
  pub each : All (λ link. (link < length rows) × (consumer_at rows link ≡ consumer.0)) own
  pub every : (link : ℕ) → link < length rows → consumer_at rows link ≡ consumer.0 → Contains own link
  pub rising : (i j : ℕ) (d : ℕ) → i ≤ j → j < length own → IsNoFurther rows (slice_index_or own i d) (slice_index_or own j d)

-- of the links that pass, by place, the first of a consumer's
pub record IsFirst (passes : ℕ → Bool) (rows : List LinkRow) (first : Option ℕ) : Type 0 where
  pub found : IfSome first (λ link. (link < length rows) × (passes link ≡ true) × ((k : ℕ) → k < length rows → passes k ≡ true → IsNoFurther rows link k))
  pub missing : IfNone first ((k : ℕ) → k < length rows → passes k ≡ false)

-- a list has exactly the links of a consumer, which stand together in the order from this place on
pub record IsOwnAt (rows : List LinkRow) (order : List ℕ) (consumer : DevId) (from : ℕ) (own : List ℕ) : Type 0 where
  pub links : IsOwn rows consumer own
  pub in_range : from + length own ≤ length order
  pub at : (k : ℕ) (d : ℕ) → k < length own → slice_index_or own k d ≡ slice_index_or order (from + k) d

-- the first of a list of links whose place in the list passes
pub record IsFirstIn (passes : ℕ → Bool) (own : List ℕ) (first : Option ℕ) : Type 0 where
  pub found : IfSome first (λ link. (q : ℕ) × (q < length own) × (link ≡ slice_index own q) × (passes q ≡ true) × ((k : ℕ) → k < q → passes k ≡ false))
  pub missing : IfNone first ((k : ℕ) → k < length own → passes k ≡ false)
