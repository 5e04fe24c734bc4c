-- Rows, one after the other.
use Rattle.std.proofs.Common.{◌≡◌, ℕ, ◌+◌, ◌<◌, List, [], ◌∷◌, ◌++◌, Option, Result, Ok, Err, drop, get_or, length, map, refl, ap, sym, ◌∙◌, append_assoc, arith}
use Rattle.std.proofs.lemmas.List.{append-nil, drop_more}
use Rattle.toml.specs.Data.{Data, Members, as_table}
use Rattle.pm_expect.specs.Expected.{located, row_in, rows_in}
use Rattle.pm_expect.specs.Tables.{◌>>=◌}
use Rattle.pm_expect.specs.declared.refusal.Refusal.{Refusal}
use Rattle.pm_expect.specs.declared.refusal.Section.{Section}
use Rattle.pm_expect.specs.declared.refusal.Why.{Why}

-- behind rows that are there already
abbrev pub behind : {A : Type 0} → List A → Result (List A) Refusal → Result (List A) Refusal
behind xs read = read >>= λ ys. Ok (xs ++ ys)

behind_nothing : {A : Type 0} (read : Result (List A) Refusal) → read ≡ behind [] read
behind_nothing (Ok xs) = refl
behind_nothing (Err e) = refl

pub begin : {A : Type 0} (row : Members → Result A Why) (s : Section) (items : List Data) → rows_in row s 0 items ≡ behind [] (rows_in row s 0 items)
begin row s items = behind_nothing (rows_in row s 0 items)

one_more : {A : Type 0} (xs : List A) (x : A) (read : Result (List A) Refusal) → behind xs (read >>= λ ys. Ok (x ∷ ys)) ≡ behind (xs ++ x ∷ []) read
one_more xs x (Ok ys) = ap Ok (sym (append_assoc xs (x ∷ []) ys))
one_more xs x (Err e) = refl

-- an item that is read
pub read_more : {A : Type 0} (row : Members → Result A Why) (s : Section) (i : ℕ) (d : Data) (items : List Data) (xs : List A) (x : A) (all : Result (List A) Refusal)
    → located s i (row_in row (as_table d)) ≡ Ok x → all ≡ behind xs (rows_in row s i (d ∷ items)) → all ≡ behind (xs ++ x ∷ []) (rows_in row s (i + 1) items)
read_more row s i d items xs x all is was =
    was ∙ ap (λ r. behind xs (r >>= λ y. rows_in row s (i + 1) items >>= λ ys. Ok (y ∷ ys))) is ∙ one_more xs x (rows_in row s (i + 1) items)

-- and one that is refused
pub read_refused : {A : Type 0} (row : Members → Result A Why) (s : Section) (i : ℕ) (d : Data) (items : List Data) (xs : List A) (e : Refusal) (all : Result (List A) Refusal)
    → located s i (row_in row (as_table d)) ≡ Err e → all ≡ behind xs (rows_in row s i (d ∷ items)) → all ≡ Err e
read_refused row s i d items xs e all is was = was ∙ ap (λ r. behind xs (r >>= λ y. rows_in row s (i + 1) items >>= λ ys. Ok (y ∷ ys))) is

pub read_all : {A : Type 0} (row : Members → Result A Why) (s : Section) (i : ℕ) (xs : List A) (all : Result (List A) Refusal)
    → all ≡ behind xs (rows_in row s i []) → all ≡ Ok xs
read_all row s i xs all was = was ∙ ap Ok (append-nil xs)
