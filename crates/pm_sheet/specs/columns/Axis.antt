-- Where the lines of a run stand on the x axis of a picture (this project's own). Places are in pixels from the left end of
-- the lanes.
use Rattle.std.specs.Prelude.{ℕ, Bool, ◌&&◌, List, [], ◌∷◌, ◌*◌, ◌/◌, get_or, min, nat_le}

-- each line stands no further left than the one before it, the first no further left than a place, and the run ends no
-- further left than its last line
abbrev pub rises : ℕ → List ℕ → ℕ → Bool
rises from [] width = nat_le from width
rises from (x ∷ xs) width = nat_le from x && rises x xs width

-- where a line stands, counted from 1: line 0 at the left end, and each past the last where the run ends
abbrev pub x_of : List ℕ → ℕ → ℕ → ℕ
x_of xs width line = get_or (0 ∷ xs) line width

-- a place on an axis of some width, on one that is made to fit 1,200 pixels
abbrev pub fitted : ℕ → ℕ → ℕ
fitted width x = min (x * 1200 / width) 1200
