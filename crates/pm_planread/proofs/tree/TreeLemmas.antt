-- The tree of a plan in the words of its values.
use Rattle.std.proofs.Common.{◌≡◌, ℕ, Bool, ◌&&◌, Option, Some, None, Ordering, Less, Equal, Greater, is_eq, is_some, List, [], ◌∷◌, ◌+◌, ◌<◌, drop, get_or, length, map, String, Global, string_bytes, nat_eq, nat_cmp, if◌then◌else◌, refl, ap, sym, ◌∙◌, arith}
use Rattle.std.proofs.lemmas.Bool.Decides.{nat_tests}
use Rattle.std.proofs.lemmas.Grind.{common_steps}
use Rattle.std.specs.Cmp.Lexicographic.{slice_cmp}
use Rattle.std.specs.Ordering.{match_ordering}
use Rattle.std.proofs.lemmas.Map.Text.{is_eq-slice_cmp}
use Rattle.std.specs.Str.{bytes_eq}
use Rattle.std.proofs.lemmas.Bool.{false_from_ne_true}
use Rattle.std.proofs.lemmas.List.{drop_more, length-map}
use Rattle.std.proofs.lemmas.Str.{IsUtf8-from_is_utf8, is_utf8-from_IsUtf8}
use Rattle.std.specs.List.{list_all}
use Rattle.std.specs.Str.{IsUtf8, is_utf8}
use Rattle.toml.specs.Data.{Data, Members, member, get_member, as_integer, as_str}
use Rattle.toml.specs.Parse.{parse_document}
use Rattle.toml.specs.declared.value.Value.{Value}
use Rattle.toml.specs.View.{items_view, members_view, view}
use Rattle.std.specs.Map.Iter.{deref_pair}
use denote.Ref.{Bor}
use Rattle.pm_planread.specs.tree.Tree.{document, entries_view, items_list, member_keys, member_list}

pub items_list_view : (values : List Value) → items_list (items_view values) ≡ map view values
items_list_view [] = refl
items_list_view (value ∷ values) = ap (λ rest. view value ∷ rest) (items_list_view values)

-- the keys of a map, as bytes
pub member_keys_view : (entries : List (String Global × Value)) → member_keys (members_view entries) ≡ map string_bytes (map (λ entry. entry.0) entries)
member_keys_view [] = refl
member_keys_view (entry ∷ entries) = ap (λ rest. string_bytes entry.0 ∷ rest) (member_keys_view entries)

-- a map's keys and values
pub member_list_view : (entries : List (String Global × Value)) → member_list (members_view entries) ≡ map (λ entry. (string_bytes entry.0, view entry.1)) entries
member_list_view [] = refl
member_list_view (entry ∷ entries) = ap (λ rest. (string_bytes entry.0, view entry.1) ∷ rest) (member_list_view entries)

pub keys_counted : (entries : List (String Global × Value)) → length (member_keys (members_view entries)) ≡ length entries
keys_counted entries = ap length (member_keys_view entries) ∙ length-map (map (λ entry. entry.0) entries) string_bytes ∙ length-map entries (λ entry. entry.0)

-- bytes that are UTF-8 have the tree of their text, and others have none
pub document_of_text : (bytes : List ℕ) → IsUtf8 bytes → document bytes ≡ parse_document bytes
unfolding document
document_of_text bytes text = rw (is_utf8-from_IsUtf8 bytes text)

pub document_of_other : (bytes : List ℕ) → ¬ (IsUtf8 bytes) → document bytes ≡ None
unfolding document
document_of_other bytes other = rw (false_from_ne_true (is_utf8 bytes) (λ text. other (IsUtf8-from_is_utf8 bytes text)))

-- all items of an array pass
pub all_of_view : (p : Data → Bool) (values : List Value) → list_all p (items_list (items_view values)) ≡ list_all (λ value. p (view value)) values
all_of_view p [] = refl
all_of_view p (value ∷ values) = ap (λ rest. p (view value) && rest) (all_of_view p values)

pub integers_of_view : (values : List Value) → list_all (λ d. is_some (as_integer d)) (items_list (items_view values)) ≡ list_all (λ value. is_some (as_integer (view value))) values
integers_of_view values = all_of_view (λ d. is_some (as_integer d)) values

pub strings_of_view : (values : List Value) → list_all (λ d. is_some (as_str d)) (items_list (items_view values)) ≡ list_all (λ value. is_some (as_str (view value))) values
strings_of_view values = all_of_view (λ d. is_some (as_str d)) values

-- texts that are the same have one length
pub same_of_one_length : (a b : List ℕ) → (nat_eq (length a) (length b) && bytes_eq a b) ≡ bytes_eq a b
same_of_one_length [] [] = refl
same_of_one_length [] (y ∷ b) = grind (arith, nat_tests, common_steps)
same_of_one_length (x ∷ a) [] = grind (arith, nat_tests, common_steps)
same_of_one_length (x ∷ a) (y ∷ b) = grind (arith, nat_tests, common_steps, same_of_one_length a b)

-- a key is found at the first member with this name
first_of : (o : Ordering) (x y : Option Data) → match_ordering o y x y ≡ (if is_eq o then x else y)
first_of Less x y = refl
first_of Equal x y = refl
first_of Greater x y = refl

pub member_first : (key name : List ℕ) (d : Data) (rest : Members) → get_member key (member name d rest) ≡ (if bytes_eq key name then Some d else get_member key rest)
member_first key name d rest = first_of (slice_cmp nat_cmp key name) (Some d) (get_member key rest) ∙ ap (λ b. if b then Some d else get_member key rest) (is_eq-slice_cmp key name)

pub member_at : (key : List ℕ) (entry : String Global × Value) (rest : List (String Global × Value))
    → get_member key (members_view (entry ∷ rest)) ≡ (if bytes_eq key (string_bytes entry.0) then Some (view entry.1) else get_member key (members_view rest))
member_at key entry rest = member_first key (string_bytes entry.0) (view entry.1) (members_view rest)

-- the same in a list of entries
entry_at : (key : List ℕ) (entry : Bor (String Global) × Bor Value) (rest : List (Bor (String Global) × Bor Value))
    → get_member key (entries_view (entry ∷ rest)) ≡ (if bytes_eq key (string_bytes entry.0.now) then Some (view entry.1.now) else get_member key (entries_view rest))
entry_at key entry rest = member_at key (deref_pair entry) (map deref_pair rest)

-- the same from an entry of the list on
pub entry_in : (key : List ℕ) (entries : List (Bor (String Global) × Bor Value)) (i : ℕ) (entry : Bor (String Global) × Bor Value) → i < length entries → entry ≡ get_or entries i entry
    → get_member key (entries_view (drop i entries)) ≡ (if bytes_eq key (string_bytes entry.0.now) then Some (view entry.1.now) else get_member key (entries_view (drop (i + 1) entries)))
entry_in key entries i entry within at =
    let rest = drop (i + 1) entries in
    let cut : drop i entries ≡ entry ∷ rest = drop_more entries i entry within ∙ ap (λ first. first ∷ rest) (sym at) in
    ap (λ left. get_member key (entries_view left)) cut ∙ entry_at key entry rest
