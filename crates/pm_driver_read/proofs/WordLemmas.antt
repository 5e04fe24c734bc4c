-- A file that isn't refused for too many items has few callers, and no script that is too long.
use Rattle.std.proofs.Common.{◌≡◌, ℕ, suc, ◌+◌, ◌<◌, ◌≤◌, Bool, true, false, not, ◌&&◌, All, List, [], ◌∷◌, Option, Some, None, codes, length, map, nat_lt, option_map, refl, ap, subst, sym, ◌∙◌, arith}
use Rattle.std.specs.List.{cons_option, filter_map}
use Rattle.std.proofs.lemmas.Bool.{and_parts}
use Rattle.std.proofs.lemmas.Bool.Decides.{nat_tests}
use Rattle.std.proofs.lemmas.List.Elements.{All-cons, All-nil}
use Rattle.toml.specs.Data.{Data, Members, as_table}
use Rattle.pm_model.specs.IsPlan.{each_at}
use Rattle.pm_planread.proofs.FewLemmas.{short_of}
use Rattle.pm_planread.specs.rows.TooMany.{has_many_commands, too_many_fault}
use Rattle.pm_planread.specs.tree.Raw.{raw_caller, raw_plan, row_in, rows_in}
use Rattle.pm_planread.specs.tree.Tree.{list_at}
use Rattle.pm_planread.specs.declared.tree.raw.RawCaller.{RawCaller}
use Rattle.pm_planread.specs.declared.tree.raw.RawPlan.{RawPlan}
use Rattle.pm_driver_read.specs.Words.{all_words, caller_words}
use Rattle.pm_driver_read.specs.declared.words.CallerWords.{CallerWords}

abbrev pub Short : CallerWords → Type 0
Short c = length c.script ≤ 1000

abbrev pub is_short : ℕ → RawCaller → Bool
is_short i row = not (has_many_commands row)

short_one : (members : Members) → not (has_many_commands (raw_caller members)) ≡ true → length (caller_words members).script ≤ 1000
unfolding raw_caller
short_one members e = grind (arith, nat_tests)

short_row : (t : Option Members) (i : ℕ) (items : List Data) → ((j : ℕ) → each_at is_short j (rows_in raw_caller items) ≡ true → All Short (all_words items))
    → each_at is_short i (cons_option (option_map raw_caller t) (rows_in raw_caller items)) ≡ true → All Short (cons_option (option_map caller_words t) (all_words items))
short_row None i items rest e = rest i e
short_row (Some members) i items rest e =
    let (here, after) = and_parts (is_short i (raw_caller members)) (each_at is_short (i + 1) (rows_in raw_caller items)) e in
    All-cons Short (caller_words members) (all_words items) (short_one members here) (rest (i + 1) after)

short_rows : (i : ℕ) (items : List Data) → each_at is_short i (rows_in raw_caller items) ≡ true → All Short (all_words items)
short_rows i [] e = All-nil Short
short_rows i (d ∷ items) e = short_row (as_table d) i items (λ j more. short_rows j items more) e

same_row : (t : Option Members) (items : List Data) → length (all_words items) ≡ length (rows_in raw_caller items)
    → length (cons_option (option_map caller_words t) (all_words items)) ≡ length (cons_option (option_map raw_caller t) (rows_in raw_caller items))
same_row None items rest = rest
same_row (Some members) items rest = ap suc rest

same_count : (items : List Data) → length (all_words items) ≡ length (rows_in raw_caller items)
same_count [] = refl
same_count (d ∷ items) = same_row (as_table d) items (same_count items)

rows_are : (tree : Members) → (raw_plan tree).callers ≡ rows_in raw_caller (list_at (codes "caller") tree)
unfolding raw_plan
rows_are tree = refl

pub few_words : (tree : Members) (raw : RawPlan) (words : List CallerWords) → words ≡ all_words (list_at (codes "caller") tree) → raw ≡ raw_plan tree → too_many_fault raw ≡ None → length words ≤ 16
few_words tree raw words is of none =
    let short = short_of raw none in
    let same : length words ≡ length raw.callers = ap length is ∙ same_count (list_at (codes "caller") tree) ∙ ap length (sym (rows_are tree)) ∙ ap (λ (r : RawPlan). length r.callers) (sym of) in
    rw same short.few.callers

pub short_words : (tree : Members) (raw : RawPlan) (words : List CallerWords) → words ≡ all_words (list_at (codes "caller") tree) → raw ≡ raw_plan tree → too_many_fault raw ≡ None → All Short words
short_words tree raw words is of none =
    let short = short_of raw none in
    let rows : raw.callers ≡ rows_in raw_caller (list_at (codes "caller") tree) = ap (λ (r : RawPlan). r.callers) of ∙ rows_are tree in
    subst (All Short) (sym is) (short_rows 0 (list_at (codes "caller") tree) (subst (λ l. each_at is_short 0 l ≡ true) rows short.commands))
