-- What a reader of lines shows, and for which lines it stands (this project's own). Lists have the newest line first.
use Rattle.std.specs.Prelude.{ℕ, List}
use Rattle.pm_model.specs.declared.event.Line.{Line}
use Rattle.pm_book.specs.Judging.{JudgeStandsFor, Judged}

-- what takes its lines, with the judge of that, and with what no line changes of it
pub record Reading (A : Type 0) : Type 0 where
  pub judge : Judged
  pub subject : ℕ
  pub taker : A

abbrev pub reading_of : {A : Type 0} → (A → Judged) → (A → ℕ) → A → Reading A
reading_of judged subject taker = record { judge = judged taker; subject = subject taker; taker = taker }

-- it stands for these lines: its judge does, and so does what takes them
pub record ReaderStandsFor {A : Type 0} (Stands : A → List Line → Type 0) (r : Reading A) (h : List Line) : Type 0 where
  pub judged : JudgeStandsFor r.judge h
  pub taken : Stands r.taker h

-- a judge stands for these lines, and a keeper has what is to be kept of them
pub record IsFollowing {A : Type 0} (Keeps : A → List Line → Type 0) (judge : Judged) (keeper : A) (h : List Line) : Type 0 where
  pub judged : JudgeStandsFor judge h
  pub kept : Keeps keeper h
