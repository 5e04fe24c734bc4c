-- Why the first bad line of a trace is bad (this project's own). Lines are counted from 1, behind the header where there
-- is one; lists have the newest line first.
use Rattle.std.specs.Prelude.{ℕ, zero, suc, ◌≡◌, ◌≢◌, ◌<◌, ◌≤◌, Bool, true, not, List, [], ◌++◌, nat_eq}
use Rattle.std.specs.List.{list_all}
use Rattle.pm_model.specs.declared.event.Line.{Line}
use Rattle.pm_model.specs.declared.plan.Plan.{Plan}
use Rattle.pm_model.specs.FirstBad.{StandsFor, front, is_format2}
use Rattle.pm_model.specs.Lawful.{IsLawful, Permits, last_time}
use Rattle.pm_model.specs.Spelling.{newline}
use Rattle.pm_model.specs.Text.{IsTextBehind}

-- no byte is a newline
abbrev pub is_within_line : List ℕ → Bool
is_within_line bytes = list_all (λ b. not (nat_eq b 10)) bytes

-- the n-th line is this piece between newlines: the first n lines are those before it, the piece and a newline
abbrev pub IsPiece : List ℕ → ℕ → List ℕ → Type 0
IsPiece bytes zero piece = ⊥
IsPiece bytes (suc k) piece = (is_within_line piece ≡ true) × (front (suc k) bytes ≡ front k bytes ++ (piece ++ newline))

-- the n-th line is cut: this rest, which isn't empty, follows the lines before it, and no newline follows the rest
abbrev pub IsCut : List ℕ → ℕ → List ℕ → Type 0
IsCut bytes zero rest = ⊥
IsCut bytes (suc k) rest = (is_within_line rest ≡ true) × (rest ≢ []) × (front (suc k) bytes ≡ front k bytes ++ rest)

-- the lines before the n-th are the text of this lawful list
abbrev pub AreBefore : Plan → List ℕ → ℕ → List Line → Type 0
AreBefore plan bytes zero h = ⊥
AreBefore plan bytes (suc k) h = IsLawful plan h × StandsFor plan (front k bytes) h

-- in the format of the bytes, the n-th line is the text of a line behind this lawful list
pub record IsLineBehind (plan : Plan) (bytes : List ℕ) (n : ℕ) (h : List Line) (line : Line) : Type 0 where
  pub before : AreBefore plan bytes n h
  pub piece : List ℕ
  pub is_piece : IsPiece bytes n piece
  pub spelled : IsTextBehind (is_format2 bytes) plan (last_time h) line piece

-- the n-th line is a piece behind a lawful list and no line's text there; so too in format 2 where the sum of the times
-- isn't below 2^63
pub record IsNoText (plan : Plan) (bytes : List ℕ) (n : ℕ) : Type 0 where
  pub h : List Line
  pub before : AreBefore plan bytes n h
  pub piece : List ℕ
  pub is_piece : IsPiece bytes n piece
  pub no_text : (line : Line) → IsTextBehind (is_format2 bytes) plan (last_time h) line piece → ⊥

-- the line at another time
abbrev pub at_time : Line → ℕ → Line
at_time line t = record line { time = t }

-- some time there is, however late, at which the line may come next
abbrev pub IsPermittedSometime : Plan → List Line → Line → Type 0
IsPermittedSometime plan h line = (t : ℕ) × Permits plan h (at_time line t)

abbrev pub IsNeverPermitted : Plan → List Line → Line → Type 0
IsNeverPermitted plan h line = (t : ℕ) → Permits plan h (at_time line t) → ⊥

-- what is wrong with a line: it lacks its newline, it is no line's text, the plan has no room for it, at no time may it
-- come next, or it may at another time
pub data NoWhy : Type 0 where
  Cut Text Limit Step Time : NoWhy

-- The first of these that holds of the n-th line, behind lines that are lawful text. A line that is cut is that alone,
-- even if it is no line's text.
abbrev pub IsWhy : Plan → List ℕ → ℕ → NoWhy → Type 0
IsWhy plan bytes n Cut = (h : List Line) × (rest : List ℕ) × AreBefore plan bytes n h × IsCut bytes n rest
IsWhy plan bytes n Text = IsNoText plan bytes n
IsWhy plan bytes n Limit = (h : List Line) × (line : Line) × IsLineBehind plan bytes n h line × (plan.lines < n)
IsWhy plan bytes n Step = (h : List Line) × (line : Line) × IsLineBehind plan bytes n h line × (n ≤ plan.lines) × IsNeverPermitted plan h line
IsWhy plan bytes n Time =
    (h : List Line) × (line : Line) × IsLineBehind plan bytes n h line × (n ≤ plan.lines) × IsPermittedSometime plan h line × (Permits plan h line → ⊥)
