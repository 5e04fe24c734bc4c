-- The texts of expectations: KTAP version 1, as the kernel's own tests write it (dev-tools/ktap.rst), and lines for those that
-- fail (this project's own).
use Rattle.std.specs.Prelude.{ℕ, ◌+◌, Bool, true, false, List, [], ◌∷◌, ◌++◌, codes, count_by, decimal, length}
use Rattle.pm_model.specs.Spelling.{newline}
use Rattle.pm_expect.specs.text.Items.{is_broken}
use Rattle.pm_expect.specs.declared.text.items.Item.{Item}
use Rattle.pm_expect.specs.declared.text.items.Outcome.{Outcome}
use Rattle.pm_expect.specs.declared.text.items.Outcome.TheVariants as outcome

-- a place in the trace and what is so there
abbrev pub place_text : List ℕ → ℕ → List ℕ → List ℕ
place_text trace line told = trace ++ codes ":" ++ decimal line ++ codes ": " ++ told ++ newline

abbrev pub ktap_line : List ℕ → ℕ → List ℕ → Outcome → List ℕ
ktap_line trace n name outcome.Held = codes "ok " ++ decimal n ++ codes " " ++ name ++ newline
ktap_line trace n name outcome.Skipped = codes "ok " ++ decimal n ++ codes " " ++ name ++ codes " # SKIP open\n"
ktap_line trace n name (outcome.Broke line told) = codes "not ok " ++ decimal n ++ codes " " ++ name ++ codes "\n# " ++ place_text trace line told

-- the lines of items, numbered from n on
abbrev pub ktap_lines : List ℕ → ℕ → List Item → List ℕ
ktap_lines trace n [] = []
ktap_lines trace n (item ∷ items) = ktap_line trace n item.name item.outcome ++ ktap_lines trace (n + 1) items

abbrev pub ktap_text : List ℕ → List Item → List ℕ
ktap_text trace items = codes "KTAP version 1\n1.." ++ (decimal (length items) ++ (newline ++ ktap_lines trace 1 items))

-- an expectation that fails, at this line of its file
abbrev pub failed_line : List ℕ → List ℕ → ℕ → List ℕ → Outcome → List ℕ
failed_line file trace at name (outcome.Broke line told) = file ++ codes ":" ++ decimal at ++ codes ": failed: " ++ name ++ codes ": " ++ place_text trace line told
failed_line file trace at name _ = []

abbrev pub is_open : Outcome → Bool
is_open outcome.Skipped = true
is_open _ = false

abbrev pub counted : List ℕ → ℕ → List ℕ
counted word n = word ++ decimal n

-- how many there are, and how many of them fail and are open
abbrev pub counts_text : List Item → List ℕ
counts_text items =
    counted (codes "expectations ") (length items)
    ++ (counted (codes " failed ") (count_by (λ item. is_broken item.outcome) items) ++ (counted (codes " open ") (count_by (λ item. is_open item.outcome) items) ++ newline))
