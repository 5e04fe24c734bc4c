-- A command at the end of one caller's script: which rows there are then, and that their names stay.
use Rattle.std.proofs.Common.{ℕ, zero, suc, ◌≡◌, ◌∙◌, List, [], ◌∷◌, Some, map, slice_get, slice_set, ap, sym}
use Rattle.pm_model.specs.declared.event.Command.{Command}
use Rattle.pm_model.specs.declared.rows.CallerRow.{CallerRow}
use Rattle.pm_model.specs.Scripts.{longer, with_command}

-- a row of the same name in a row's place
pub names_stay : (rows : List CallerRow) (c : ℕ) (row other : CallerRow) → slice_get rows c ≡ Some row → other.name ≡ row.name
    → map (λ r. r.name) rows ≡ map (λ (r : CallerRow). r.name) (slice_set rows c other)
names_stay [] c row other is named = cc is
names_stay (x ∷ rows) zero row other is named = let same : x ≡ row = cc is in ap (λ n. n ∷ map (λ (r : CallerRow). r.name) rows) (ap (λ (r : CallerRow). r.name) same ∙ sym named)
names_stay (x ∷ rows) (suc c) row other is named = ap (λ names. x.name ∷ names) (names_stay rows c row other is named)

-- the row is put in place of the caller's
pub set_longer : (command : Command) (c : ℕ) (rows : List CallerRow) (row : CallerRow) → slice_get rows c ≡ Some row → slice_set rows c (longer command row) ≡ with_command command c rows
set_longer command c [] row is = cc is
set_longer command zero (x ∷ rows) row is = let same : x ≡ row = cc is in ap (λ r. longer command r ∷ rows) (sym same)
set_longer command (suc c) (x ∷ rows) row is = ap (λ l. x ∷ l) (set_longer command c rows row is)
