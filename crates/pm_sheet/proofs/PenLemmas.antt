-- What is drawn, where it is.
use Rattle.std.proofs.Common.{ℕ, ◌≡◌, ◌++◌, List, [], ◌∷◌, Result, Ok, Err, OnOk}
use Rattle.pm_sheet.proofs.svg.DrawLemmas.{draws_block}
use Rattle.pm_sheet.specs.declared.svg.shapes.Block.{Block}
use Rattle.pm_sheet.specs.svg.Shapes.{Draws, block_text}

pub block_ok : {T E : Type 0} (r : Result T E) (old new : List ℕ) (b : Block) (title : List ℕ) → OnOk r (new ≡ old ++ block_text b title) → OnOk r (Draws (record { x = b.x; width = b.width } ∷ []) old new)
block_ok (Ok x) old new b title is = draws_block old new b title is
block_ok (Err e) old new b title is = tt
