-- A picture with one shape more.
use Rattle.std.proofs.Common.{◌≡◌, ◌∙◌, ℕ, List, [], ◌∷◌, ◌++◌, Result, Ok, Err, OnErr, OnOk, append-nil, append_assoc, ap, refl, subst, sym}
use Rattle.std.proofs.lemmas.Grind.{flat_map-append}
use Rattle.std.proofs.lemmas.List.{flat_map_more}
use Rattle.std.specs.List.{flat_map}
use Rattle.pm_sheet.specs.declared.svg.shapes.Block.{Block}
use Rattle.pm_sheet.specs.declared.svg.shapes.Label.{Label}
use Rattle.pm_sheet.specs.svg.Shapes.{AreShapes, Draws, Extent, OfBlock, OfLabel, Shape, block_text, extents, label_text, shape_text}

-- nothing is drawn
pub no_shapes : (text : List ℕ) → text ≡ [] → AreShapes text
no_shapes text is = record { shapes = []; text_is = is }

-- one shape more
pub shapes_more : (old new : List ℕ) (s : Shape) → AreShapes old → new ≡ old ++ shape_text s → AreShapes new
shapes_more old new s is more = record {
  shapes = is.shapes ++ s ∷ [];
  text_is = more ∙ ap (λ l. l ++ shape_text s) is.text_is ∙ flat_map_more shape_text [] is.shapes s;
}

-- a shape that was appended, or wasn't
pub shapes_either : {T E : Type 0} (r : Result T E) (old new piece : List ℕ) (s : Shape) → AreShapes old → piece ≡ shape_text s → OnOk r (new ≡ old ++ piece) → OnErr r (new ≡ old) → AreShapes new
shapes_either (Ok x) old new piece s is same more none = shapes_more old new s is (more ∙ ap (λ l. old ++ l) same)
shapes_either (Err e) old new piece s is same more none = subst AreShapes (sym none) is

-- nothing more is drawn, a block, or words
pub draws_none : (text : List ℕ) → Draws [] text text
draws_none text = record { shapes = []; blocks_are = refl; text_is = sym (append-nil text) }

pub draws_block : (old new : List ℕ) (b : Block) (title : List ℕ) → new ≡ old ++ block_text b title → Draws (record { x = b.x; width = b.width } ∷ []) old new
draws_block old new b title is = record { shapes = OfBlock b title ∷ []; blocks_are = refl; text_is = is ∙ ap (λ l. old ++ l) (sym (append-nil (block_text b title))) }

pub draws_label : (old new : List ℕ) (l : Label) (words title : List ℕ) → new ≡ old ++ label_text l words title → Draws [] old new
draws_label old new l words title is = record { shapes = OfLabel l words title ∷ []; blocks_are = refl; text_is = is ∙ ap (λ t. old ++ t) (sym (append-nil (label_text l words title))) }

-- one after the other
pub draws_both : (a b : List Extent) (old mid new : List ℕ) → Draws a old mid → Draws b mid new → Draws (a ++ b) old new
draws_both a b old mid new one two = record {
  shapes = one.shapes ++ two.shapes;
  blocks_are = flat_map-append extents one.shapes two.shapes ∙ ap (λ l. l ++ flat_map extents two.shapes) one.blocks_are ∙ ap (λ l. a ++ l) two.blocks_are;
  text_is =
      two.text_is
      ∙ ap (λ l. l ++ flat_map shape_text two.shapes) one.text_is
      ∙ append_assoc old (flat_map shape_text one.shapes) (flat_map shape_text two.shapes)
      ∙ ap (λ l. old ++ l) (sym (flat_map-append shape_text one.shapes two.shapes));
}

-- five pieces that were appended in turn
pub five : {T E : Type 0} (r : Result T E) (t p q u v w a b c d e : List ℕ) → p ≡ t ++ a → q ≡ p ++ b → u ≡ q ++ c → v ≡ u ++ d → OnOk r (w ≡ v ++ e) → OnOk r (w ≡ t ++ (a ++ b ++ c ++ d ++ e))
five (Err x) t p q u v w a b c d e one two three four last = tt
five (Ok x) t p q u v w a b c d e one two three four last =
    let second : q ≡ t ++ (a ++ b) = two ∙ ap (λ l. l ++ b) one ∙ append_assoc t a b in
    let third : u ≡ t ++ (a ++ b ++ c) = three ∙ ap (λ l. l ++ c) second ∙ append_assoc t (a ++ b) c in
    let fourth : v ≡ t ++ (a ++ b ++ c ++ d) = four ∙ ap (λ l. l ++ d) third ∙ append_assoc t (a ++ b ++ c) d in
    last ∙ ap (λ l. l ++ e) fourth ∙ append_assoc t (a ++ b ++ c ++ d) e

-- and three
pub three : {T E : Type 0} (r : Result T E) (t p q w a b c : List ℕ) → p ≡ t ++ a → q ≡ p ++ b → OnOk r (w ≡ q ++ c) → OnOk r (w ≡ t ++ (a ++ b ++ c))
three (Err x) t p q w a b c one two last = tt
three (Ok x) t p q w a b c one two last =
    let second : q ≡ t ++ (a ++ b) = two ∙ ap (λ l. l ++ b) one ∙ append_assoc t a b in
    last ∙ ap (λ l. l ++ c) second ∙ append_assoc t (a ++ b) c
