-- Helpers of one word are one.
use Rattle.std.proofs.Common.{◌≡◌, ℕ, Bool, true, nat_eq, List, Option, Some, Decides, slice_get, refl, ap, sym, ◌∙◌, arith}
use Rattle.std.proofs.lemmas.Bool.Decides.{same_from_decides, Decides-eqb}
use Rattle.std.proofs.lemmas.Slice.Eq.{bytes_eq-Decides}
use Rattle.std.specs.Str.{bytes_eq}
use Rattle.pm_linetext.specs.Words.{all_helpers}
use Rattle.pm_model.specs.Spelling.{helper_word}
use Rattle.pm_model.specs.declared.event.Helper.{Helper}
use Rattle.pm_names.specs.Table.{place_of}

same_place : (a b : Helper) (p q : ℕ) → slice_get all_helpers p ≡ Some a → slice_get all_helpers q ≡ Some b → p ≡ q → helper_word a ≡ helper_word b
same_place a b p q here there same =
    let e : Some a ≡ Some b = sym here ∙ ap (slice_get all_helpers) same ∙ there in
    let f : a ≡ b = cc in
    ap helper_word f

same_word : (words : List (List ℕ)) (a b : Helper) (p q : ℕ) → place_of words (helper_word a) ≡ Some p → place_of words (helper_word b) ≡ Some q → helper_word a ≡ helper_word b → p ≡ q
same_word words a b p q here there same =
    let e : Some p ≡ Some q = sym here ∙ ap (place_of words) same ∙ there in
    cc

pub helper_by_place : (words : List (List ℕ)) (a b : Helper) (p q : ℕ) → slice_get all_helpers p ≡ Some a → slice_get all_helpers q ≡ Some b
    → place_of words (helper_word a) ≡ Some p → place_of words (helper_word b) ≡ Some q → nat_eq p q ≡ bytes_eq (helper_word a) (helper_word b)
helper_by_place words a b p q here there first second =
    same_from_decides (nat_eq p q) (bytes_eq (helper_word a) (helper_word b))
    (λ e. same_place a b p q here there ((Decides-eqb p q).0 e), λ e. (Decides-eqb p q).1 (same_word words a b p q first second e))
    (bytes_eq-Decides (helper_word a) (helper_word b))
