-- Where the calls of a run stand on its picture (this project's own). Places are in pixels; lines are counted from 1.
use Rattle.std.specs.Prelude.{ℕ, ◌≡◌, ◌≤◌, ◌+◌, ◌-◌, List, ◌++◌, Option, Some, None, true, codes, length, map, max, min}
use Rattle.std.specs.List.{flat_map}
use Rattle.pm_lanes.specs.declared.calls.call.Answer.{Answer}
use Rattle.pm_lanes.specs.declared.calls.call.Call.{Call}
use Rattle.pm_lanes.specs.calls.Calls.{calls_from}
use Rattle.pm_sheet.specs.columns.Axis.{rises, x_of}
use Rattle.pm_sheet.specs.declared.columns.axis.Span.{Span}
use Rattle.pm_model.specs.declared.event.Line.{Line}
use Rattle.pm_sheet.specs.svg.Shapes.{Extent, Shape, extents, head_text, shape_text}

-- where a call ends on the axis: at the line of its return, or where the run ends
abbrev pub end_of : List ℕ → ℕ → Option Answer → ℕ
end_of xs width (Some answer) = x_of xs width answer.line
end_of xs width None = width

-- it reaches from its line to its end
abbrev pub Reaches : List ℕ → ℕ → ℕ → Option Answer → Span → Type 0
Reaches xs width line answer span = (span.x ≡ x_of xs width line) × (span.width ≡ end_of xs width answer - x_of xs width line)

-- where its bar lies: from its line to its end, less a gap of two pixels, and at least one pixel wide
abbrev pub bar_of : ℕ → List ℕ → ℕ → Call → Extent
bar_of left xs width call = record {
  x = min (left + x_of xs width call.line) 4294967295;
  width = max (end_of xs width call.answer - x_of xs width call.line - 2) 1;
}

-- a picture of a run of these lines, the oldest first: shapes in three layers, and an axis on which each line has its place, none left
-- of the line before it. Of a run of at most 400 lines the blocks of the middle layer are the bars of the calls, one for each, in
-- their order.
pub record IsPictureOf (lines : List Line) (text : List ℕ) : Type 0 where
  pub width : ℕ
  pub height : ℕ
  pub under : List Shape
  pub calls : List Shape
  pub over : List Shape
  pub text_is : text ≡ head_text width height ++ flat_map shape_text under ++ flat_map shape_text calls ++ flat_map shape_text over ++ codes "</svg>\n"
  pub left : ℕ
  pub places : List ℕ
  pub end : ℕ
  pub each_line : length places ≡ length lines
  pub in_order : rises 0 places end ≡ true
  pub each_call : length lines ≤ 400 → flat_map extents calls ≡ map (bar_of left places end) (calls_from 1 lines)
