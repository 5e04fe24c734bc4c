-- How far a merge has come.
use Rattle.std.proofs.Common.{ℕ, suc, ◌≡◌, ◌+◌, ◌-◌, ◌<◌, ◌≤◌, List, [], ◌∷◌, ◌++◌, length, take, sym, ◌∙◌, ap, arith}
use Rattle.std.proofs.lemmas.Grind.{common_steps}
use Rattle.std.proofs.lemmas.List.{append_assoc}
use Rattle.pm_model.specs.declared.event.Line.{Line}
use Rattle.pm_model.specs.Islands.{merged}
use Rattle.pm_islands.specs.Next.{AreInTime}

-- these lines are the first of the merge of all the lists, and those of the merge of the rests come after them
pub record Going (all rests : List (List Line)) (limit : ℕ) (lines : List Line) : Type 0 where
  pub in_time : AreInTime rests
  pub room : length lines ≤ limit
  pub rest : take limit (merged all) ≡ lines ++ take (limit - length lines) (merged rests)

pub goes : (all rests others : List (List Line)) (limit : ℕ) (lines : List Line) (line : Line) → Going all rests limit lines → length lines < limit → AreInTime others
    → merged rests ≡ line ∷ merged others → Going all others limit (lines ++ line ∷ [])
goes all rests others limit lines line going more timely next = record {
  in_time = timely;
  room = grind (arith, common_steps, more);
  rest = going.rest ∙ ap (λ m. lines ++ take (limit - length lines) m) next ∙ one_more (limit - length lines) (limit - length (lines ++ line ∷ [])) lines line (merged others) (grind (arith, common_steps, more));
}
  where
    plus_one : (m : ℕ) → m + 1 ≡ suc m
    plus_one m = omega arith

    one_more : (n m : ℕ) (xs : List Line) (x : Line) (ys : List Line) → n ≡ m + 1 → xs ++ take n (x ∷ ys) ≡ (xs ++ x ∷ []) ++ take m ys
    one_more n m xs x ys is = rw (is, plus_one m) (sym (append_assoc xs (x ∷ []) (take m ys)))
