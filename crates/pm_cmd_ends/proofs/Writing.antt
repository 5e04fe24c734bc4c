-- A text that a sink takes piece by piece.
use Rattle.std.proofs.Common.{◌≡◌, ◌∙◌, ℕ, List, [], ◌++◌, Option, refl, ap, subst, sym, append_assoc, append-nil}
use Rattle.std.specs.Io.KnownBytes.{append_known}
use Rattle.pm_io.specs.Sink.{TookPrefix}
use Rattle.pm_io.proofs.Taken.{append_known_append, append_known_nil, took_prefix_amid}

-- of the whole text a front was taken, and this rest is to come
pub record IsUnderWay (old now : Option (List ℕ)) (whole rest : List ℕ) : Type 0 where
  pub front : List ℕ
  pub took : now ≡ append_known old front
  pub all : whole ≡ front ++ rest

pub under_way_first : (old : Option (List ℕ)) (whole : List ℕ) → IsUnderWay old old whole whole
under_way_first old whole = record { front = []; took = sym (append_known_nil old); all = refl }

-- the next piece was taken
pub under_way_more : (old mid new : Option (List ℕ)) (whole rest piece more : List ℕ) → IsUnderWay old mid whole rest → rest ≡ piece ++ more → new ≡ append_known mid piece → IsUnderWay old new whole more
under_way_more old mid new whole rest piece more way is took = record {
  front = way.front ++ piece;
  took = took ∙ ap (λ m. append_known m piece) way.took ∙ append_known_append old way.front piece;
  all = way.all ∙ ap (λ r. way.front ++ r) is ∙ sym (append_assoc way.front piece more);
}

-- or a prefix of it
pub under_way_part : (old mid new : Option (List ℕ)) (whole rest piece more : List ℕ) → IsUnderWay old mid whole rest → rest ≡ piece ++ more → TookPrefix mid new piece → TookPrefix old new whole
under_way_part old mid new whole rest piece more way is part =
    took_prefix_amid old mid new way.front piece more whole way.took part (way.all ∙ ap (λ r. way.front ++ r) is ∙ sym (append_assoc way.front piece more))

-- nothing is to come
pub under_way_last : (old new : Option (List ℕ)) (whole rest : List ℕ) → IsUnderWay old new whole rest → rest ≡ [] → new ≡ append_known old whole
under_way_last old new whole rest way none =
    way.took ∙ ap (append_known old) (sym (append-nil way.front) ∙ ap (λ r. way.front ++ r) (sym none) ∙ sym way.all)
