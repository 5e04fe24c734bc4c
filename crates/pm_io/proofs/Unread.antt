-- What a read takes off the bytes of a file that are not read yet.
use Rattle.std.proofs.Common.{◌≡◌, ℕ, List, ◌++◌, None, Some, refl, ap, sym, append_assoc}
use Rattle.std.specs.declared.option.Option.{Option}
use Rattle.std.specs.Io.KnownBytes.{prepend_known}

-- bytes before others before the rest
pub prepend_known_append : (unread : Option (List ℕ)) (a b : List ℕ)
    → prepend_known a (prepend_known b unread) ≡ prepend_known (a ++ b) unread
prepend_known_append None a b = refl
prepend_known_append (Some bytes) a b = ap Some (sym (append_assoc a b bytes))
