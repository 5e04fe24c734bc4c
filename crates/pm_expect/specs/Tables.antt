-- The tables of a file of expectations: which keys they have, and what stands under a key (this project's own).
use Rattle.std.specs.Prelude.{ℕ, ℤ, Bool, true, false, not, ◌||◌, List, Option, Some, None, Result, Ok, Err, codes, ok_or, is_some, is_none, option_map}
use Rattle.std.specs.Str.{bytes_eq}
use Rattle.toml.specs.Data.{Data, Members, as_array, as_integer, as_str, as_table, get_member}
use Rattle.pm_planread.specs.tree.Places.{capped, first_place}
use Rattle.pm_planread.specs.tree.Tree.{items_list, member_keys}
use Rattle.pm_expect.specs.Words.{key_word, section_word}
use Rattle.pm_expect.specs.declared.refusal.Key.{Key}
use Rattle.pm_expect.specs.declared.refusal.Key.TheVariants as key
use Rattle.pm_expect.specs.declared.refusal.Refusal.{Refusal}
use Rattle.pm_expect.specs.declared.refusal.Section.{Section}
use Rattle.pm_expect.specs.declared.refusal.Section.TheVariants as section
use Rattle.pm_expect.specs.declared.refusal.Why.{Why}
use Rattle.pm_expect.specs.declared.refusal.Why.TheVariants as why

-- what follows, where there is no refusal
infixl 10 ◌>>=◌
abbrev pub ◌>>=◌ : {A B E : Type 0} → Result A E → (A → Result B E) → Result B E
(Ok x) >>= next = next x
(Err e) >>= next = Err e

abbrev pub is_word : List ℕ → Key → Bool
is_word name k = bytes_eq name (key_word k)

-- whether tables of the section have the key
abbrev pub is_key_of : Section → List ℕ → Bool
is_key_of section.Top name =
    bytes_eq name (section_word section.Answer) || bytes_eq name (section_word section.End) || bytes_eq name (section_word section.Use)
is_key_of section.Answer name = is_word name key.Caller || is_word name key.Command || is_word name key.Nth || is_word name key.Code
is_key_of section.End name = is_word name key.Device || is_word name key.Status || is_word name key.Usage
is_key_of section.Use name = is_word name key.Device || is_word name key.Caller || is_word name key.Command

abbrev pub is_unknown_key : Section → List ℕ → Bool
is_unknown_key s name = not (is_key_of s name)

-- the first key, in byte order, that tables of the section don't have
abbrev pub unknown_key : Section → Members → Option ℕ
unknown_key s members = first_place (is_unknown_key s) 0 (member_keys members)

-- a fault, where there is a place for it
abbrev pub refuse_at : Option ℕ → Result (Unit {0}) Why
refuse_at (Some place) = Err (why.NoKey (capped place))
refuse_at None = Ok tt

-- NoKey: a key that the table doesn't have
unfoldable pub known_keys : Section → Members → Result (Unit {0}) Why
known_keys s members = refuse_at (unknown_key s members)

-- Missing: the key is required, and isn't there
abbrev pub value_at : Key → Members → Result Data Why
value_at k members = ok_or (get_member (key_word k) members) (why.Missing k)

-- Kind: the value under the key is no string, or no integer
abbrev pub text_at : Key → Members → Result (List ℕ) Why
text_at k members = value_at k members >>= λ d. ok_or (as_str d) (why.Kind k)

abbrev pub number_at : Key → Members → Result ℤ Why
number_at k members = value_at k members >>= λ d. ok_or (as_integer d) (why.Kind k)

-- of a key that may be left out
abbrev pub optional_in : Key → Option Data → Result (Option ℤ) Why
optional_in k None = Ok None
optional_in k (Some d) = ok_or (option_map (λ n. Some n) (as_integer d)) (why.Kind k)

abbrev pub optional_at : Key → Members → Result (Option ℤ) Why
optional_at k members = optional_in k (get_member (key_word k) members)
