-- Where no entry is wrong, no key and no kind is.
use Rattle.std.proofs.Common.{◌≡◌, ℕ, ◌+◌, false, None, refl}
use Rattle.std.proofs.lemmas.Bool.{or_parts}
use Rattle.std.specs.List.{list_any}
use Rattle.toml.specs.Data.{Members, member, no_members}
use Rattle.pm_planread.specs.tree.KeyFault.{is_unknown_key, lacks_key, unknown_key, wrong_key}
use Rattle.pm_planread.specs.tree.KindFault.{is_misfit, wrong_kind}
use Rattle.pm_planread.specs.tree.Places.{first_place}
use Rattle.pm_planread.specs.tree.Sound.{is_wrong_entry}
use Rattle.pm_planread.specs.tree.Tree.{member_keys, member_list}
use Rattle.pm_planread.specs.declared.tree.keys.Format.{Format}
use Rattle.pm_planread.specs.declared.tree.place.Section.{Section}

keys_from : (f : Format) (section : Section) (at : ℕ) (members : Members) → list_any (is_wrong_entry f section) (member_list members) ≡ false → first_place (is_unknown_key f section) at (member_keys members) ≡ None
keys_from f section at no_members right = refl
keys_from f section at (member key d more) right =
    let (here, after) = or_parts (is_wrong_entry f section (key, d)) (list_any (is_wrong_entry f section) (member_list more)) right in
    rw ((or_parts (is_unknown_key f section key) (is_misfit f section (key, d)) here).0) (keys_from f section (at + 1) more after)

kinds_from : (f : Format) (section : Section) (at : ℕ) (members : Members) → list_any (is_wrong_entry f section) (member_list members) ≡ false → first_place (is_misfit f section) at (member_list members) ≡ None
kinds_from f section at no_members right = refl
kinds_from f section at (member key d more) right =
    let (here, after) = or_parts (is_wrong_entry f section (key, d)) (list_any (is_wrong_entry f section) (member_list more)) right in
    rw ((or_parts (is_unknown_key f section key) (is_misfit f section (key, d)) here).1) (kinds_from f section (at + 1) more after)

pub no_unknown_key : (f : Format) (section : Section) (members : Members) → list_any (is_wrong_entry f section) (member_list members) ≡ false → unknown_key f section members ≡ None
unfolding unknown_key
no_unknown_key f section members right = keys_from f section 0 members right

pub no_wrong_key : (f : Format) (section : Section) (members : Members) → list_any (is_wrong_entry f section) (member_list members) ≡ false → lacks_key section members ≡ false → wrong_key f section members ≡ None
unfolding wrong_key
no_wrong_key f section members right whole = rw (no_unknown_key f section members right, whole) refl

pub no_wrong_kind : (f : Format) (section : Section) (members : Members) → list_any (is_wrong_entry f section) (member_list members) ≡ false → wrong_kind f section members ≡ None
unfolding wrong_kind
no_wrong_kind f section members right = kinds_from f section 0 members right
