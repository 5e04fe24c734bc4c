-- What the walk through a text makes of one line (this project's own).
use Rattle.std.specs.Prelude.{◌≡◌, ℕ, List, ◌∷◌, Option, Some, None, Result, IfOk, MatchOption, option_map}
use Rattle.pm_base.specs.declared.errors.NoMemory.{NoMemory}
use Rattle.pm_spans.specs.declared.keys.lookup.Before.{Before}
use Rattle.pm_spans.specs.declared.keys.lookup.Looked.{Looked}
use Rattle.pm_spans.specs.declared.keys.lookup.Path.{Path}
use Rattle.pm_spans.specs.keys.Lines.{TextLine, begun, in_line, in_member, line_at, whose}
use Rattle.pm_spans.specs.keys.Values.{Member, member_at}
use Rattle.pm_spans.specs.keys.Within.{standing, taken_for}

-- the lines before say so much
pub record IsSaid (path : Path) (lines : List TextLine) (before : Before) : Type 0 where
  pub seen : before.seen ≡ begun path lines
  pub inside : taken_for before.inside ≡ whose path lines

-- the line at the front, by lines before it
pub record IsLooked (path : Path) (text : List ℕ) (lines : List TextLine) (k : Looked) : Type 0 where
  pub line : TextLine
  pub is_line : line_at text ≡ Some (line, k.rest.now)
  pub found : option_map standing k.found ≡ in_line path lines line
  pub said : IsSaid path (line ∷ lines) k.before

-- it is looked at as that line, whichever lines before it say so much; or there is none
abbrev pub LooksAt : Path → List ℕ → Before → Result (Option Looked) NoMemory → Type 0
LooksAt path text before r = IfOk r (λ looked. MatchOption looked (line_at text ≡ None) (λ k. (lines : List TextLine) → IsSaid path lines before → IsLooked path text lines k))

-- the member at the front
pub record LooksAtMember (path : Path) (text : List ℕ) (before : Before) (k : Looked) : Type 0 where
  pub m : Member
  pub is_member : member_at text ≡ Some m
  pub found : option_map standing k.found ≡ in_member path (taken_for before.inside) m
  pub same : k.before ≡ before
  pub rest : k.rest.now ≡ m.rest
