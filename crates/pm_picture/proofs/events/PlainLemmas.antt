-- What is written for the user's bytes is no markup.
use Rattle.std.proofs.Common.{ℕ, ◌≡◌, Bool, true, false, ◌&&◌, List, [], ◌∷◌, map, nat_eq, nat_lt, not, if◌then◌else◌, refl}
use Rattle.std.specs.List.{list_all}
use Rattle.pm_picture.specs.events.Plain.{is_plain, plain_byte}

byte_is : (b : ℕ) → is_plain (plain_byte b) ≡ true
byte_is b = go (is_plain b) refl
  where
    go : (plain : Bool) → is_plain b ≡ plain → is_plain (if plain then b else 63) ≡ true
    go true is = is
    go false is = refl

pub is_plain_all : (bytes : List ℕ) → list_all is_plain (map plain_byte bytes) ≡ true
is_plain_all [] = refl
is_plain_all (b ∷ bytes) = rw (byte_is b) (is_plain_all bytes)
