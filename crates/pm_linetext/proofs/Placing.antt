-- What stands before a place of a line's bytes.
use Rattle.std.proofs.Common.{◌≡◌, ℕ, ◌+◌, ◌-◌, ◌<◌, ◌≤◌, List, ◌++◌, length, take, min, slice_set, arith, ap, length-append}
use Rattle.std.proofs.lemmas.List.{length-take, length-take-le, take-append-le, set-append_right}
use Rattle.std.proofs.Math.Seq.{take-append-add, take-set-lt}
use borrow.Rule.Slice.PartMut.{put_mid, post_of}
use Rattle.pm_linetext.specs.Room.{HasRoom}

-- a place behind which there is room lies in the bytes
pub within : (at : ℕ) (bytes piece : List ℕ) → length bytes ≡ 256 → HasRoom (take at bytes) piece → at ≤ length bytes
within at bytes piece len room =
    let taken : length (take at bytes) ≡ min at (length bytes) = length-take at bytes in
    omega (arith, taken)

-- where a piece ends
pub piece_end : (at end : ℕ) (old new piece : List ℕ) → length old ≡ 256 → length new ≡ 256 → HasRoom (take at old) piece → take end new ≡ take at old ++ piece → at + length piece ≡ end
piece_end at end old new piece old_len new_len room put =
    let before : length (take at old) ≡ min at (length old) = length-take at old in
    let after : length (take end new) ≡ min end (length new) = length-take end new in
    let sum : length (take at old ++ piece) ≡ length (take at old) + length piece = length-append (take at old) piece in
    let same : length (take end new) ≡ length (take at old ++ piece) = ap length put in
    omega (arith, before, after, sum, same)

pub end_inside : (end : ℕ) (bytes text : List ℕ) → length bytes ≡ 256 → take end bytes ≡ text → length text < 256 → end ≤ 256
end_inside end bytes text len is short =
    let taken : length (take end bytes) ≡ min end (length bytes) = length-take end bytes in
    let same : length (take end bytes) ≡ length text = ap length is in
    omega (arith, taken, same)

-- a text that is copied with what pads it to n bytes
pub whole_put : (n at len : ℕ) (bytes padded text : List ℕ) → at ≤ length bytes → len ≤ length padded → len ≡ length text → take (length text) padded ≡ text → take (at + len) (put_mid at (at + n - at) bytes padded) ≡ take at bytes ++ text
whole_put n at len bytes padded text inside fits is_len is_text =
    let front : length (take at bytes) ≡ at = length-take-le at bytes inside in
    let whole : take (length (take at bytes) + len) (take at bytes ++ (padded ++ post_of at (at + n - at) bytes)) ≡ take at bytes ++ take len (padded ++ post_of at (at + n - at) bytes) = take-append-add (take at bytes) (padded ++ post_of at (at + n - at) bytes) len in
    let part : take len (padded ++ post_of at (at + n - at) bytes) ≡ take len padded = take-append-le len padded (post_of at (at + n - at) bytes) fits in
    cc

-- a byte that is set in the last piece
pub set_behind : (at k end v : ℕ) (bytes front piece : List ℕ) → length front ≡ at → at + length piece ≡ end → k < length piece → take end bytes ≡ front ++ piece → take end (slice_set bytes (at + k) v) ≡ front ++ slice_set piece k v
set_behind at k end v bytes front piece is_at is_end below put =
    let cut : take end (slice_set bytes (at + k) v) ≡ slice_set (take end bytes) (at + k) v = take-set-lt end bytes (at + k) v (omega arith) in
    let behind : slice_set (front ++ piece) (at + k) v ≡ front ++ slice_set piece (at + k - at) v = set-append_right front piece at (at + k) v is_at (omega arith) in
    let place : at + k - at ≡ k = omega arith in
    cc
