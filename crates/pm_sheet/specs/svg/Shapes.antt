-- The shapes of a picture and their text, as elements of SVG (SVG 1.1; what stands in them is this project's own).
use Rattle.std.specs.Prelude.{ℕ, List, [], ◌∷◌, ◌++◌, ◌≡◌, codes, decimal, if◌then◌else◌}
use Rattle.std.specs.List.{flat_map}
use Rattle.pm_sheet.specs.declared.svg.shapes.Block.{Block}
use Rattle.pm_sheet.specs.declared.svg.shapes.Label.{Label}
use Rattle.pm_sheet.specs.declared.svg.shapes.Rule.{Rule}
use Rattle.pm_sheet.specs.declared.svg.sheet.TheConstants.{SHEET}
use Rattle.pm_sheet.specs.declared.svg.style.Style.{Style}
use Rattle.pm_sheet.specs.declared.svg.style.Style.TheVariants as style
use Rattle.pm_sheet.specs.svg.Escape.{escaped}

abbrev pub class_word : Style → List ℕ
class_word style.Suspended = codes "s"
class_word style.Resuming = codes "r"
class_word style.Active = codes "a"
class_word style.Suspending = codes "u"
class_word style.Disabled = codes "d"
class_word style.Callback = codes "k"
class_word style.CallbackFailed = codes "kf"
class_word style.Call = codes "c"
class_word style.CallFailed = codes "cf"
class_word style.CallRefused = codes "cr"
class_word style.Delay = codes "cd"
class_word style.CallOpen = codes "co"
class_word style.On = codes "o"
class_word style.Held = codes "h"
class_word style.Queued = codes "q"
class_word style.Runs = codes "w"
class_word style.Heading = codes "tt"
class_word style.Note = codes "tn"
class_word style.Name = codes "tl"
class_word style.Minor = codes "tm"
class_word style.Moment = codes "ms"
class_word style.Number = codes "no"
class_word style.Word = codes "tw"
class_word style.WordFailed = codes "tf"
class_word style.WordRefused = codes "tr"
class_word style.WordDelay = codes "td"
class_word style.OnDark = codes "tk"
class_word style.Count = codes "tc"
class_word style.Left = codes "le"
class_word style.LeftOdd = codes "lo"
class_word style.LeftHeld = codes "lh"

-- a number as the value of an attribute that this begins
abbrev pub attribute : List ℕ → ℕ → List ℕ
attribute begin n = begin ++ decimal n

-- the begin of an element, with its class and its place
unfoldable pub opened : List ℕ → Style → ℕ → ℕ → List ℕ
opened begin look x y = begin ++ class_word look ++ attribute (codes "\" x=\"") x ++ attribute (codes "\" y=\"") y

-- the words that are shown where the mouse points at it
unfoldable pub titled : List ℕ → List ℕ
titled title = codes "\"><title>" ++ escaped title ++ codes "</title>"

-- a block
unfoldable pub block_text : Block → List ℕ → List ℕ
block_text b title =
    opened (codes "<rect class=\"") b.style b.x b.y ++ attribute (codes "\" width=\"") b.width ++ attribute (codes "\" height=\"") b.height ++ titled title ++ codes "</rect>\n"

-- words that lean around their place
unfoldable pub leaning : ℕ → ℕ → List ℕ
leaning x y = attribute (codes "\" transform=\"rotate(-32 ") x ++ attribute (codes " ") y ++ codes ")"

-- how far words lean
abbrev pub lean_text : Label → List ℕ
lean_text l = if l.leans then leaning l.x l.y else []

-- words
unfoldable pub label_text : Label → List ℕ → List ℕ → List ℕ
label_text l words title = opened (codes "<text class=\"") l.style l.x l.y ++ lean_text l ++ titled title ++ escaped words ++ codes "</text>\n"

-- a thin line from one point to another
unfoldable pub rule_text : Rule → List ℕ
rule_text r =
    attribute (codes "<line x1=\"") r.x ++ attribute (codes "\" y1=\"") r.y ++ attribute (codes "\" x2=\"") r.to_x ++ attribute (codes "\" y2=\"") r.to_y ++ codes "\"/>\n"

-- a shape, with its words and those that are shown where the mouse points at it
pub data Shape : Type 0 where
  OfBlock : Block → List ℕ → Shape
  OfLabel : Label → List ℕ → List ℕ → Shape
  OfRule : Rule → Shape

abbrev pub shape_text : Shape → List ℕ
shape_text (OfBlock b title) = block_text b title
shape_text (OfLabel l words title) = label_text l words title
shape_text (OfRule r) = rule_text r

-- the style sheet
unfoldable pub sheet : List ℕ
sheet = SHEET.now

-- the head of a picture of this width and height, with its style sheet
unfoldable pub head_text : ℕ → ℕ → List ℕ
head_text width height =
    codes "<svg xmlns=\"http://www.w3.org/2000/svg\"" ++ attribute (codes " width=\"") width ++ attribute (codes "\" height=\"") height ++ codes "\">\n" ++ sheet

-- the text of some shapes and nothing else
pub record AreShapes (text : List ℕ) : Type 0 where
  pub shapes : List Shape
  pub text_is : text ≡ flat_map shape_text shapes

-- a whole picture: a head, and behind it some shapes and nothing else
pub record IsPicture (text : List ℕ) : Type 0 where
  pub width : ℕ
  pub height : ℕ
  pub shapes : List Shape
  pub text_is : text ≡ head_text width height ++ flat_map shape_text shapes ++ codes "</svg>\n"

-- where a block lies from left to right
pub record Extent : Type 0 where
  pub x : ℕ
  pub width : ℕ

abbrev pub extents : Shape → List Extent
extents (OfBlock b title) = record { x = b.x; width = b.width } ∷ []
extents (OfLabel l words title) = []
extents (OfRule r) = []

-- some shapes are appended, whose blocks lie so, in this order
pub record Draws (blocks : List Extent) (old new : List ℕ) : Type 0 where
  pub shapes : List Shape
  pub blocks_are : flat_map extents shapes ≡ blocks
  pub text_is : new ≡ old ++ flat_map shape_text shapes
