-- Files in memory: which one has a name, and what of it is not read yet.
use Rattle.std.proofs.Common.{◌≡◌, ℕ, ◌+◌, ◌<◌, zero, suc, arith, true, false, cond, List, [], ◌∷◌, ◌++◌, length, take, drop, map, Some, get_or, option_map, String, Vec, string_bytes, sym, ap, ◌∙◌, refl}
use Rattle.std.proofs.lemmas.List.{at_drop_more, drop-drop, take-append-drop}
use Rattle.std.proofs.lemmas.Option.{slice_get_read}
use Rattle.std.proofs.lemmas.Slice.Eq.{bytes_eq-Decides}
use Rattle.std.proofs.lemmas.Bool.{false_from_ne_true}
use Rattle.std.specs.Str.{bytes_eq}
use Rattle.std.specs.Io.KnownBytes.{prepend_known}
use Rattle.pm_io.specs.MemFiles.{bytes_at, bytes_under, file_entry, name_at, HasDistinctNames}

-- the file at an index
pub bytes_at_read : {A B : Type 0} (files : List (String A × Vec ℕ B)) (i : ℕ) (file : String A × Vec ℕ B)
    → i < length files → file ≡ get_or files i file → bytes_at files (Some i) ≡ Some file.1.items
bytes_at_read files i file within is =
    ap (option_map (λ f. f.1.items)) (slice_get_read files (length files) i file refl within is)

-- the first of the files from i on has the name
pub bytes_under_here : {A B : Type 0} (files : List (String A × Vec ℕ B)) (name : List ℕ) (i : ℕ) (file : String A × Vec ℕ B)
    → i < length files → file ≡ get_or files i file → bytes_eq name (string_bytes file.0) ≡ true
    → bytes_at files (Some i) ≡ bytes_under (map file_entry (drop i files)) name
bytes_under_here {A} {B} files name i file within is same =
    let Files : Type 0 = List (String A × Vec ℕ B) in
    let under = λ (fs : Files). bytes_under (map file_entry fs) name in
    let head : under (drop i files) ≡ under (file ∷ drop (i + 1) files) =
    at_drop_more under files i file within ∙ ap (λ f. under (f ∷ drop (i + 1) files)) (sym is) in
    let found : under (file ∷ drop (i + 1) files) ≡ Some file.1.items =
    ap (λ b. cond b (Some file.1.items) (under (drop (i + 1) files))) same in
    bytes_at_read files i file within is ∙ sym (head ∙ found)

-- and it is the name of that file
pub name_here : {A B : Type 0} (files : List (String A × Vec ℕ B)) (name : List ℕ) (i : ℕ) (file : String A × Vec ℕ B)
    → i < length files → file ≡ get_or files i file → bytes_eq name (string_bytes file.0) ≡ true → bytes_at files (Some i) ≡ bytes_under (map file_entry files) name
    → name_at files (Some i) ≡ option_map (λ _. name) (bytes_under (map file_entry files) name)
name_here files name i file within is same found =
    ap (option_map (λ f. string_bytes f.0)) (slice_get_read files (length files) i file refl within is)
    ∙ ap Some (sym ((bytes_eq-Decides name (string_bytes file.0)).0 same))
    ∙ ap (option_map (λ (bytes : List ℕ). name)) (sym (bytes_at_read files i file within is) ∙ found)

-- what is unread of the file at an index, behind n more bytes of it
pub unread_behind : {A B : Type 0} (files : List (String A × Vec ℕ B)) (i : ℕ) (file : String A × Vec ℕ B) (place n : ℕ) (piece : List ℕ)
    → i < length files → file ≡ get_or files i file → piece ≡ take n (drop place file.1.items)
    → option_map (drop place) (bytes_at files (Some i)) ≡ prepend_known piece (option_map (drop (place + n)) (bytes_at files (Some i)))
unread_behind files i file place n piece within is front =
    let bytes = file.1.items in
    let moved : drop place bytes ≡ piece ++ drop (place + n) bytes =
    rw (front, ← drop-drop n place bytes) (sym (take-append-drop n (drop place bytes))) in
    rw (bytes_at_read files i file within is) (ap Some moved)

-- with distinct names each file is found under its own
pub bytes_under_own : (files : List (List ℕ × List ℕ)) → HasDistinctNames files → (k : ℕ) (d : List ℕ × List ℕ)
    → k < length files → bytes_under files (get_or files k d).0 ≡ Some (get_or files k d).1
bytes_under_own [] distinct k d h = absurd (omega (arith, h))
bytes_under_own (file ∷ files) distinct zero d h =
    ap (λ b. cond b (Some file.1) (bytes_under files file.0)) ((bytes_eq-Decides file.0 file.0).1 refl)
bytes_under_own (file ∷ files) distinct (suc k) d h =
    let within : k < length files = omega (arith, h) in
    let name = (get_or files k d).0 in
    let other : bytes_eq name file.0 ≡ false =
    false_from_ne_true _ (λ same. distinct 0 (suc k) d (omega arith) h (sym ((bytes_eq-Decides name file.0).0 same))) in
    let rest : HasDistinctNames files =
    λ i j e before inside. distinct (suc i) (suc j) e (omega (arith, before)) (omega (arith, inside)) in
    ap (λ b. cond b (Some file.1) (bytes_under files name)) other ∙ bytes_under_own files rest k d within
