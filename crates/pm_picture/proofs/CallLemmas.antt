-- The bars of calls, and the picture that has them.
use Rattle.std.proofs.Common.{ℕ, ◌≡◌, ◌≤◌, ◌<◌, ◌+◌, ◌-◌, Bool, true, false, Result, Ok, Err, IfOk, OnOk, Vec, Global, List, [], ◌∷◌, ◌++◌, append-nil, append_assoc, codes, get_or, length, map, max, min, take, ap, refl, sym, subst, ◌∙◌, arith}
use Rattle.std.specs.List.{flat_map}
use Rattle.std.proofs.lemmas.Grind.{flat_map-append}
use Rattle.std.proofs.lemmas.List.{map-append, take_more}
use Rattle.pm_lanes.specs.declared.calls.call.Call.{Call}
use Rattle.pm_lanes.specs.calls.Calls.{calls_from}
use Rattle.pm_sheet.specs.columns.Axis.{rises, x_of}
use Rattle.pm_sheet.specs.declared.columns.axis.Span.{Span}
use Rattle.pm_model.specs.declared.event.Line.{Line}
use Rattle.pm_sheet.proofs.svg.DrawLemmas.{draws_both}
use Rattle.pm_sheet.specs.svg.Shapes.{AreShapes, Draws, Extent, IsPicture, extents, head_text, shape_text}
use Rattle.pm_picture.specs.Calls.{IsPictureOf, Reaches, bar_of, end_of}

-- the bar of a call with its words
bar_is : (left : ℕ) (call : Call) (span : Span) (old mid new : List ℕ) (xs : List ℕ) (width : ℕ) → Reaches xs width call.line call.answer span
    → Draws (record { x = min (left + span.x) 4294967295; width = max (span.width - 2) 1 } ∷ []) old mid → Draws [] mid new → Draws (bar_of left xs width call ∷ []) old new
bar_is left call span old mid new xs width reaches bar words =
    subst (λ n. Draws (record { x = min (left + n) 4294967295; width = max (end_of xs width call.answer - x_of xs width call.line - 2) 1 } ∷ []) old new) reaches.0
    (subst (λ n. Draws (record { x = min (left + span.x) 4294967295; width = max (n - 2) 1 } ∷ []) old new) reaches.1
    (draws_both (record { x = min (left + span.x) 4294967295; width = max (span.width - 2) 1 } ∷ []) [] old mid new bar words))

-- so it is on each axis on which it reaches so far
pub bars_are : {T E : Type 0} (r : Result T E) (left : ℕ) (call : Call) (span : Span) (w : ℕ) (old start mid new : List ℕ) → start ≡ old → w ≡ span.width - 2
    → Draws (record { x = min (left + span.x) 4294967295; width = max w 1 } ∷ []) start mid → OnOk r (Draws [] mid new)
    → OnOk r ((xs : List ℕ) (width : ℕ) → Reaches xs width call.line call.answer span → Draws (bar_of left xs width call ∷ []) old new)
bars_are (Err e) left call span w old start mid new same less bar words = tt
bars_are (Ok x) left call span w old start mid new same less bar words = λ xs width reaches.
    bar_is left call span old mid new xs width reaches
    (subst (λ n. Draws (record { x = min (left + span.x) 4294967295; width = max n 1 } ∷ []) old mid) less
    (subst (λ t. Draws (record { x = min (left + span.x) 4294967295; width = max w 1 } ∷ []) t mid) same bar)) words

-- one call more, with what is written before it
pub call_more : (f : Call → Extent) (calls : List Call) (i : ℕ) (e made : Call) (old cur mid new : List ℕ) → i < length calls → made ≡ get_or calls i e → Draws (map f (take i calls)) old cur → Draws [] cur mid
    → Draws (f made ∷ []) mid new → Draws (map f (take (i + 1) calls)) old new
call_more f calls i e made old cur mid new within is so_far none one =
    subst (λ l. Draws l old new)
    (sym (ap (map f) (take_more calls i e within) ∙ map-append f (take i calls) (get_or calls i e ∷ [])))
    (subst (λ (x : Call). Draws (map f (take i calls) ++ f x ∷ []) old new) is
    (draws_both (map f (take i calls)) (f made ∷ []) old cur new so_far (draws_both [] (f made ∷ []) cur mid new none one)))

-- nothing but words behind the last
pub words_more : {T E : Type 0} (r : Result T E) (a : List Extent) (old mid new : List ℕ) → Draws a old mid → OnOk r (Draws [] mid new) → OnOk r (Draws a old new)
words_more (Err e) a old mid new one two = tt
words_more (Ok x) a old mid new one two = subst (λ l. Draws l old new) (append-nil a) (draws_both a [] old mid new one two)

layers : (head under calls over end u c o : List ℕ) (text : List ℕ) → text ≡ head ++ under ++ calls ++ over ++ end → under ≡ u → calls ≡ c → over ≡ o → text ≡ head ++ u ++ c ++ o ++ end
layers head under calls over end u c o text is a b d =
    is
    ∙ ap (λ l. head ++ l ++ calls ++ over ++ end) a
    ∙ ap (λ l. head ++ u ++ l ++ over ++ end) b
    ∙ ap (λ l. head ++ u ++ c ++ l ++ end) d

-- a picture of three layers
pub picture_is : (lines : List Line) (text : List ℕ) (w h : ℕ) (under calls over : List ℕ) (left : ℕ) (xs : List ℕ) (end : ℕ) (whole : Bool) (made : List Call)
    → text ≡ head_text w h ++ under ++ calls ++ over ++ codes "</svg>\n" → AreShapes under → AreShapes calls → AreShapes over
    → length xs ≡ length lines → rises 0 xs end ≡ true → (length lines ≤ 400 → whole ≡ true) → made ≡ calls_from 1 lines
    → (whole ≡ true → Draws (map (bar_of left xs end) made) [] calls) → IsPictureOf lines text
picture_is lines text w h under calls over left xs end true made is a b d each_line in_order few made_is drawn =
    let draws = drawn refl in
    record {
      width = w;
      height = h;
      under = a.shapes;
      calls = draws.shapes;
      over = d.shapes;
      text_is = layers (head_text w h) under calls over (codes "</svg>\n") (flat_map shape_text a.shapes) (flat_map shape_text draws.shapes) (flat_map shape_text d.shapes) text is a.text_is draws.text_is d.text_is;
      left = left;
      places = xs;
      end = end;
      each_line = each_line;
      in_order = in_order;
      each_call = λ _. draws.blocks_are ∙ ap (map (bar_of left xs end)) made_is;
    }
picture_is lines text w h under calls over left xs end false made is a b d each_line in_order few made_is drawn = record {
  width = w;
  height = h;
  under = a.shapes;
  calls = b.shapes;
  over = d.shapes;
  text_is = layers (head_text w h) under calls over (codes "</svg>\n") (flat_map shape_text a.shapes) (flat_map shape_text b.shapes) (flat_map shape_text d.shapes) text is a.text_is b.text_is d.text_is;
  left = left;
  places = xs;
  end = end;
  each_line = each_line;
  in_order = in_order;
  each_call = λ at_most. let no = few at_most in cc no;
}

-- it is a picture
joined : (head u c o e whole : List ℕ) (text : List ℕ) → text ≡ head ++ u ++ c ++ o ++ e → whole ≡ u ++ c ++ o → text ≡ head ++ whole ++ e
joined head u c o e whole text is same = is ∙ ap (λ l. l ++ e) (ap (λ l. l ++ o) (append_assoc head u c) ∙ append_assoc head (u ++ c) o ∙ ap (λ l. head ++ l) (sym same))

pub picture_of : (lines : List Line) (text : List ℕ) → IsPictureOf lines text → IsPicture text
picture_of lines text is = record {
  width = is.width;
  height = is.height;
  shapes = is.under ++ is.calls ++ is.over;
  text_is =
      joined (head_text is.width is.height) (flat_map shape_text is.under) (flat_map shape_text is.calls) (flat_map shape_text is.over) (codes "</svg>\n") (flat_map shape_text (is.under ++ is.calls ++ is.over)) text is.text_is
      (flat_map-append shape_text (is.under ++ is.calls) is.over ∙ ap (λ l. l ++ flat_map shape_text is.over) (flat_map-append shape_text is.under is.calls));
}

pub picture_ok : {E : Type 0} (r : Result (Vec ℕ Global) E) (lines : List Line) → IfOk r (λ text. IsPictureOf lines text.items) → IfOk r (λ text. IsPicture text.items)
picture_ok (Ok text) lines is = picture_of lines text.items is
picture_ok (Err e) lines is = tt

-- and of one that is made
pub picture_made : {E : Type 0} (r : Result (Vec ℕ Global) E) (lines : List Line) (w h : ℕ) (under calls over : List ℕ) (left : ℕ) (xs : List ℕ) (end : ℕ) (whole : Bool) (made : List Call)
    → IfOk r (λ text. text.items ≡ head_text w h ++ under ++ calls ++ over ++ codes "</svg>\n") → AreShapes under → AreShapes calls → AreShapes over
    → length xs ≡ length lines → rises 0 xs end ≡ true → (length lines ≤ 400 → whole ≡ true) → made ≡ calls_from 1 lines
    → (whole ≡ true → Draws (map (bar_of left xs end) made) [] calls) → IfOk r (λ text. IsPictureOf lines text.items)
picture_made (Ok text) lines w h under calls over left xs end whole made is a b d each_line in_order few made_is drawn =
    picture_is lines text.items w h under calls over left xs end whole made is a b d each_line in_order few made_is drawn
picture_made (Err e) lines w h under calls over left xs end whole made is a b d each_line in_order few made_is drawn = tt
