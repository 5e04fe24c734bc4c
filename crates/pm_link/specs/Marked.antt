-- The links by their places in the order, and what a list of links is kept with.
use Rattle.std.specs.Prelude.{◌≡◌, ℕ, Bool, not, ◌&&◌, List, length, map, slice_set}
use Rattle.pm_model.specs.declared.rows.LinkRow.{LinkRow}
use Rattle.pm_link.specs.declared.marks.Marks.{Marks}
use Rattle.pm_link.specs.LinkOrder.{AreRanks, AreStarts, IsLinkOrder}
use Rattle.pm_link.specs.Links.{bit_at, row_at}

-- a link that is present and has DL_FLAG_PM_RUNTIME
abbrev pub is_live : LinkRow → Bool → Bool
is_live row present = row.pm_runtime && present

abbrev pub is_live_at : List LinkRow → List Bool → ℕ → Bool
is_live_at rows present link = is_live (row_at rows link) (bit_at present link)

-- one that is so before any line
abbrev pub starts_live : List LinkRow → ℕ → Bool
starts_live rows link = is_live (row_at rows link) (not (row_at rows link).later)

-- a mark at each place of the order whose link passes
pub record AreMarks (rows : List LinkRow) (order : List ℕ) (held present : List Bool) (marks : Marks) : Type 0 where
  pub of_held : marks.held ≡ map (bit_at held) order
  pub of_live : marks.live ≡ map (is_live_at rows present) order
  pub of_live_held : marks.live_held ≡ map (λ link. is_live_at rows present link && bit_at held link) order
  pub of_live_free : marks.live_free ≡ map (λ link. is_live_at rows present link && not (bit_at held link)) order

-- there are marks for so many links
pub record IsSized (n : ℕ) (marks : Marks) : Type 0 where
  pub held : length marks.held ≡ n
  pub live : length marks.live ≡ n
  pub live_held : length marks.live_held ≡ n
  pub live_free : length marks.live_free ≡ n

-- the marks after the link at one place became live or not, and held or free
abbrev pub noted : Marks → ℕ → Bool → Bool → Marks
noted marks rank live held = record {
  held = slice_set marks.held rank held;
  live = slice_set marks.live rank live;
  live_held = slice_set marks.live_held rank (live && held);
  live_free = slice_set marks.live_free rank (live && not held);
}

-- what a list of links is kept with
pub record IsKept (rows : List LinkRow) (order starts ranks : List ℕ) (held present : List Bool) (marks : Marks) : Type 0 where
  pub ordered : IsLinkOrder rows order
  pub started : AreStarts rows order starts
  pub ranked : AreRanks order ranks
  pub held_len : length held ≡ length rows
  pub present_len : length present ≡ length rows
  pub marked : AreMarks rows order held present marks
