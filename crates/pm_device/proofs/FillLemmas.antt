-- Entries that are set one after another.
use Rattle.std.proofs.Common.{ℕ, ◌≡◌, ◌<◌, Bool, false, List, length, take, slice_index_or, slice_set, ap, sym, ◌∙◌, arith}
use Rattle.std.proofs.lemmas.List.{get_or-set_same, set-get_or, set-set, take_all}

-- a bit is set that is so already
pub bit_kept : (bits : List Bool) (i : ℕ) (b : Bool) → slice_index_or bits i false ≡ b → slice_set bits i b ≡ bits
bit_kept bits i b is = ap (slice_set bits i) (sym is) ∙ set-get_or bits i false

-- one that was set is so, and is set again
pub bit_freed : (bits : List Bool) (i : ℕ) → i < length bits → slice_index_or (slice_set bits i false) i false ≡ false
bit_freed bits i lt = get_or-set_same bits i false false lt

pub set_again : (bits : List Bool) (i : ℕ) (one other : Bool) → slice_set (slice_set bits i one) i other ≡ slice_set bits i other
set_again bits i one other = set-set bits i one other

-- all entries are as they are to be once so many are
pub filled_all : {X : Type 0} (xs ys : List X) (n : ℕ) → length xs ≡ length ys → n ≡ length ys → take n xs ≡ take n ys → xs ≡ ys
filled_all xs ys n long end same = sym (take_all n xs (omega (arith, long, end))) ∙ same ∙ take_all n ys (omega (arith, end))
