-- How bytes of the user's are written among markup (XML 1.0, sections 2.2 and 2.4).
use Rattle.std.specs.Prelude.{ℕ, Bool, not, ◌&&◌, List, [], ◌∷◌, codes, nat_eq, nat_lt}
use Rattle.std.specs.List.{flat_map}
use Rattle.pm_model.specs.Derived.{first_of}

-- an entity for each character of markup, a question mark for each control character, and every other byte itself
abbrev pub escaped_byte : ℕ → List ℕ
escaped_byte b =
    first_of (
    (nat_eq b 60, codes "&lt;")
    ∷ (nat_eq b 62, codes "&gt;")
    ∷ (nat_eq b 38, codes "&amp;")
    ∷ (nat_eq b 34, codes "&quot;")
    ∷ (nat_lt b 32, codes "?")
    ∷ []) (b ∷ [])

abbrev pub escaped : List ℕ → List ℕ
escaped bytes = flat_map escaped_byte bytes

-- a byte that stands for itself
abbrev pub is_itself : ℕ → Bool
is_itself b = not (nat_eq b 60) && not (nat_eq b 62) && not (nat_eq b 38) && not (nat_eq b 34) && not (nat_lt b 32)

-- a byte that is neither an angle bracket nor a quote nor a control character
abbrev pub is_no_markup : ℕ → Bool
is_no_markup b = not (nat_eq b 60) && not (nat_eq b 62) && not (nat_eq b 34) && not (nat_lt b 32)
