-- Files in memory as contracts see them, and what their calls do.
use Rattle.std.specs.Prelude.{ℕ, ◌≢◌, List, Bool, not, ◌&&◌, if◌then◌else◌, None, option_map, is_some, drop, AllPairs, String, Vec, string_bytes, slice_get}
use Rattle.std.specs.declared.option.Option.{Option}
use Rattle.std.specs.Option.{option_and_then}
use Rattle.std.specs.Map.{lookup}
use Rattle.std.specs.Str.{bytes_eq}
use Rattle.pm_io.specs.Asks.{Asks}
use Rattle.pm_io.specs.Faults.{counted, fails_next}

-- what a `MemFiles` is
pub record Shelf : Type 0 where
  -- the names with their bytes
  pub files : List (List ℕ × List ℕ)
  -- the numbers of the calls that fail
  pub fail : List ℕ
  -- how many calls were made, and how often one failed
  pub calls : ℕ
  pub faults : ℕ
  -- which files were asked for
  pub asked : Asks
  -- the bytes of the file that is started, and how many of them were read
  pub started : Option (List ℕ)
  pub place : ℕ

-- a name and its bytes, out of what holds them
abbrev pub file_entry : {A B : Type 0} → String A × Vec ℕ B → List ℕ × List ℕ
file_entry file = (string_bytes file.0, file.1.items)

-- the bytes of the file at an index
abbrev pub bytes_at : {A B : Type 0} → List (String A × Vec ℕ B) → Option ℕ → Option (List ℕ)
bytes_at files at = option_and_then (λ i. option_map (λ file. file.1.items) (slice_get files i)) at

-- the name of the file at an index
abbrev pub name_at : {A B : Type 0} → List (String A × Vec ℕ B) → Option ℕ → Option (List ℕ)
name_at files at = option_and_then (λ i. option_map (λ file. string_bytes file.0) (slice_get files i)) at

-- the bytes of the file of that name
abbrev pub bytes_under : List (List ℕ × List ℕ) → List ℕ → Option (List ℕ)
bytes_under files name = lookup (bytes_eq name) files

-- whether the next call starts the file of that name
abbrev pub starts : Shelf → List ℕ → Bool
starts shelf name = not (fails_next shelf.fail shelf.calls) && is_some (bytes_under shelf.files name)

-- the shelf after a start, which succeeds or fails
abbrev pub after_start : Shelf → List ℕ → Shelf
after_start shelf name = record shelf {
  calls = counted shelf.calls;
  faults = if starts shelf name then shelf.faults else counted shelf.faults;
  asked = record { count = counted shelf.asked.count; last = option_map (λ _. name) (bytes_under shelf.files name) };
  started = if starts shelf name then bytes_under shelf.files name else None;
  place = 0;
}

-- the bytes of the started file that were not read yet
abbrev pub unread_bytes : Shelf → Option (List ℕ)
unread_bytes shelf = option_map (drop shelf.place) shelf.started

-- no two files have one name
abbrev pub HasDistinctNames : List (List ℕ × List ℕ) → Type 0
HasDistinctNames files = AllPairs (λ a b. a.0 ≢ b.0) files
