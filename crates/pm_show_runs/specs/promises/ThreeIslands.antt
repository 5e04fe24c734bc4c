-- A plan of three islands, what its islands are, and how the lists of their runs are merged.
use Rattle.std.specs.Prelude.{ℕ, false, List, [], ◌∷◌, Some, refl, slice_index_or}
use Rattle.pm_model.specs.declared.event.Command.{Command}
use Rattle.pm_model.specs.declared.event.Helper.TheVariants.{Enable, GetNoresume}
use Rattle.pm_model.specs.declared.event.Line.{Line}
use Rattle.pm_model.specs.declared.plan.Plan.{Plan}
use Rattle.pm_model.specs.declared.rows.CallerRow.{CallerRow}
use Rattle.pm_model.specs.Islands.{Node, the_caller, the_device, the_domain}
use Rattle.pm_model.specs.Serial.{serial}
use Rattle.pm_show_runs.specs.Words.{empty_plan, dev, dom, device, domain, link, caller, call, delay, text}

-- caller n asks for no device, e for a, c for k, and f for p
abbrev pub n_script : List Command
n_script = delay 1 ∷ []

abbrev pub e_script : List Command
e_script = call Enable (dev 4) ∷ delay 3 ∷ call GetNoresume (dev 4) ∷ []

abbrev pub c_script : List Command
c_script = delay 2 ∷ call Enable (dev 3) ∷ []

abbrev pub f_script : List Command
f_script = call GetNoresume (dev 1) ∷ []

abbrev pub with_callers : List Command → List Command → List Command → List Command → List CallerRow
with_callers n e c f = caller "n" n ∷ caller "e" e ∷ caller "c" c ∷ caller "f" f ∷ []

-- k has the parent p, the supplier s and the domain o; nobody asks for x; the link from a to p is no runtime link
abbrev pub three_islands : Plan
three_islands =
    record empty_plan {
      domains = domain "o" ∷ [];
      devices =
          device "x"
          ∷ device "p"
          ∷ device "s"
          ∷ record (device "k") { parent = Some (dev 1); domain = Some (dom 0) }
          ∷ device "a"
          ∷ [];
      links = link (dev 3) (dev 2) ∷ record (link (dev 4) (dev 1)) { pm_runtime = false } ∷ [];
      callers = with_callers n_script e_script c_script f_script;
      law = refl;
    }

-- 0 is the island of p, s, k, o, c and f, 1 that of a and e, 2 that of n; 3 is no island
abbrev pub numbers : Node → ℕ
numbers (the_device d) = slice_index_or (3 ∷ 0 ∷ 0 ∷ 0 ∷ 1 ∷ []) d 3
numbers (the_domain o) = slice_index_or (0 ∷ []) o 3
numbers (the_caller c) = slice_index_or (2 ∷ 1 ∷ 0 ∷ 0 ∷ []) c 3

-- p, a and n
abbrev pub firsts : ℕ → Node
firsts n = slice_index_or (the_device 1 ∷ the_device 4 ∷ the_caller 0 ∷ []) n (the_domain 0)

-- the parts of the three islands
abbrev pub first_part : Plan
first_part = record three_islands { callers = with_callers [] [] c_script f_script; law = refl }

abbrev pub second_part : Plan
second_part = record three_islands { callers = with_callers [] e_script [] []; law = refl }

abbrev pub third_part : Plan
third_part = record three_islands { callers = with_callers n_script [] [] []; law = refl }

-- a run of each part, each in order
abbrev pub lists : List (List Line)
lists = serial first_part ∷ serial second_part ∷ serial third_part ∷ []

abbrev pub merged_text : List ℕ
merged_text =
    text (
    "0 c pm_call: delay 2"
    ∷ "0 f pm_call: get_noresume p"
    ∷ "0 f pm_get: p caller"
    ∷ "0 f pm_ret: get_noresume p 0"
    ∷ "0 e pm_call: enable a"
    ∷ "0 e pm_ret: enable a 0"
    ∷ "0 e pm_call: delay 3"
    ∷ "0 n pm_call: delay 1"
    ∷ "1 n pm_ret: delay 0"
    ∷ "2 c pm_ret: delay 0"
    ∷ "2 c pm_call: enable k"
    ∷ "2 c pm_ret: enable k 0"
    ∷ "3 e pm_ret: delay 0"
    ∷ "3 e pm_call: get_noresume a"
    ∷ "3 e pm_get: a caller"
    ∷ "3 e pm_ret: get_noresume a 0"
    ∷ [])
