-- The line that names a place: FILE:LINE:COLUMN, as editors read it (this project's own).
use Rattle.std.specs.Prelude.{ℕ, List, ◌++◌, codes, decimal}
use Rattle.pm_spans.specs.source.Places.{line_of, column_of}

unfoldable pub place_text : List ℕ → List ℕ → ℕ → List ℕ
place_text file text at = file ++ codes ":" ++ decimal (line_of text at) ++ codes ":" ++ decimal (column_of text at)
