-- What the bytes of a file expect of a plan's runs, or its first refusal (this project's own).
use Rattle.std.specs.Prelude.{◌≡◌, ⊤, ℕ, ◌+◌, List, [], ◌∷◌, Option, Some, None, Result, Ok, Err, is_none, is_some, length, nat_lt, option_and_then, option_map, if◌then◌else◌}
use Rattle.std.specs.Option.{option_map_or}
use Rattle.toml.specs.Data.{Data, Members, as_array, as_table, get_member}
use Rattle.pm_model.specs.declared.plan.Plan.{Plan}
use Rattle.pm_planread.specs.tree.Places.{capped}
use Rattle.pm_planread.specs.tree.Tree.{document, items_list}
use Rattle.pm_expect.specs.Rows.{answer_in, end_in, use_in}
use Rattle.pm_expect.specs.Tables.{◌>>=◌, known_keys}
use Rattle.pm_expect.specs.Words.{section_word}
use Rattle.pm_expect.specs.declared.expectation.Answer.{Answer}
use Rattle.pm_expect.specs.declared.expectation.End.{End}
use Rattle.pm_expect.specs.declared.expectation.Expectations.{Expectations}
use Rattle.pm_expect.specs.declared.expectation.Use.{Use}
use Rattle.pm_expect.specs.declared.refusal.Fault.{Fault}
use Rattle.pm_expect.specs.declared.refusal.Fault.TheVariants as fault
use Rattle.pm_expect.specs.declared.refusal.Refusal.{Refusal}
use Rattle.pm_expect.specs.declared.refusal.Section.{Section}
use Rattle.pm_expect.specs.declared.refusal.Section.TheVariants as section
use Rattle.pm_expect.specs.declared.refusal.Why.{Why}
use Rattle.pm_expect.specs.declared.refusal.Why.TheVariants as why

abbrev pub refused : Section → ℕ → Why → Refusal
refused s item w = record { section = s; item = capped item; why = w }

-- the place of a refusal
abbrev pub located : {A : Type 0} → Section → ℕ → Result A Why → Result A Refusal
located s item (Ok x) = Ok x
located s item (Err w) = Err (refused s item w)

-- NoTable: an item is no table
abbrev pub row_in : {A : Type 0} → (Members → Result A Why) → Option Members → Result A Why
row_in row (Some members) = row members
row_in row None = Err why.NoTable

-- what each item expects, the first of which has this number; or the first refusal
abbrev pub rows_in : {A : Type 0} → (Members → Result A Why) → Section → ℕ → List Data → Result (List A) Refusal
rows_in row s i [] = Ok []
rows_in row s i (d ∷ items) = located s i (row_in row (as_table d)) >>= λ x. rows_in row s (i + 1) items >>= λ xs. Ok (x ∷ xs)

-- NoList: what stands under the section's key is no array; no items where nothing does
abbrev pub items_of : Option Data → Result (List Data) Why
items_of None = Ok []
items_of (Some d) = option_map_or (λ items. Ok (items_list items)) (as_array d) (Err why.NoList)

-- TooMany: it has more than 1,000 items
abbrev pub few_of : List Data → Result (List Data) Why
few_of items = if nat_lt 1000 (length items) then Err why.TooMany else Ok items

abbrev pub items_in : Section → Members → Result (List Data) Refusal
items_in s tree = located s 0 (items_of (get_member (section_word s) tree) >>= few_of)

-- the rows of a section
abbrev pub section_in : {A : Type 0} → (Members → Result A Why) → Section → Members → Result (List A) Refusal
section_in row s tree = items_in s tree >>= rows_in row s 0

-- what a tree expects: its answers, its ends and its uses
unfoldable pub tree_expects : Plan → Members → Result Expectations Refusal
tree_expects plan tree = do
  known ← located section.Top 0 (known_keys section.Top tree)
  answers ← section_in (answer_in plan) section.Answer tree
  ends ← section_in (end_in plan) section.End tree
  uses ← section_in (use_in plan) section.Use tree
  Ok (record { answers = answers; ends = ends; uses = uses })

abbrev pub document_expects : Plan → Option Members → Result Expectations Refusal
document_expects plan None = Err (refused section.Top 0 why.NotToml)
document_expects plan (Some tree) = tree_expects plan tree

-- what the bytes expect, or their first refusal
unfoldable pub expected_in : Plan → List ℕ → Result Expectations Refusal
expected_in plan bytes = if nat_lt 262144 (length bytes) then Err (refused section.Top 0 why.TooLong) else document_expects plan (document bytes)

-- the fault is the first refusal, or want of memory, which says nothing of the bytes
abbrev pub IsFaultOf : {A : Type 0} → Result A Refusal → Fault → Type 0
IsFaultOf read fault.NoMemory = ⊤
IsFaultOf read (fault.Refused refusal) = read ≡ Err refusal
