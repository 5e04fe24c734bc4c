-- Whether a word begins with a text.
use Rattle.std.proofs.Common.{◌≡◌, ◌≢◌, ◌++◌, ℕ, true, List, Option, Some, None, MatchOption, IfSome, IfNone, Bor, length, drop, nat_eq, refl, arith}
use Rattle.std.specs.List.{starts_with}
use Rattle.std.specs.Str.Pattern.{FindsTextPrefix, StripsPrefix}
use Rattle.std.proofs.lemmas.Slice.Eq.{starts_is}
use Rattle.std.proofs.lemmas.Bool.Decides.{Decides-eqb}

pub begins : (s p rest : List ℕ) → s ≡ p ++ rest → starts_with nat_eq s p ≡ true
begins s p rest is = (starts_is Decides-eqb s p (starts_with nat_eq s p) refl).1 rest is

pub begins_not : (s p : List ℕ) → ((rest : List ℕ) → s ≢ p ++ rest) → starts_with nat_eq s p ≢ true
begins_not s p lacks is = lacks (drop (length p) s) ((starts_is Decides-eqb s p (starts_with nat_eq s p) refl).0 is)

pub what_is_behind : (s p : List ℕ) (r : Option (Bor (List ℕ))) → MatchOption r (FindsTextPrefix p s None) (λ x. StripsPrefix (FindsTextPrefix p) s x.now)
    → IfSome r (λ rest. (starts_with nat_eq s p ≡ true) × (rest.now ≡ drop (length p) s))
what_is_behind s p (Some x) (n, found, is, fits) = (begins s p (drop n s) found.1, grind (arith))
what_is_behind s p None lacks = tt

pub nothing_is_behind : (s p : List ℕ) (r : Option (Bor (List ℕ))) → MatchOption r (FindsTextPrefix p s None) (λ x. StripsPrefix (FindsTextPrefix p) s x.now)
    → IfNone r (starts_with nat_eq s p ≢ true)
nothing_is_behind s p (Some x) found = tt
nothing_is_behind s p None lacks = begins_not s p lacks
