-- What a summary counts, and its text (this project's own).
use Rattle.std.specs.Prelude.{◌≡◌, ℕ, Bool, true, false, List, ◌++◌, codes, count_by, decimal, length}
use Rattle.pm_base.specs.declared.Cb.{Cb}
use Rattle.pm_base.specs.declared.Cb.TheVariants as cb
use Rattle.pm_model.specs.declared.event.Event.{Event}
use Rattle.pm_model.specs.declared.event.Event.TheVariants.{Begin}
use Rattle.pm_model.specs.declared.event.Line.{Line}
use Rattle.pm_model.specs.declared.plan.Plan.{Plan}
use Rattle.pm_model.specs.Counted.{is_cb}
use Rattle.pm_model.specs.Spelling.{newline, space}
use Rattle.pm_report.specs.declared.counts.Summary.{Summary}

-- such a callback begins, of any device
abbrev pub is_begin : Cb → Event → Bool
is_begin k (Begin d j) = is_cb k j
is_begin k _ = false

-- the line says that such a callback begins, of any device
abbrev pub begins : Cb → Line → Bool
begins k line = is_begin k line.event

abbrev pub begin_lines : Cb → List Line → ℕ
begin_lines k lines = count_by (begins k) lines

abbrev pub summary : Plan → List Line → Bool → Summary
summary plan lines finished = record {
  devices = length plan.devices;
  lines = length lines;
  resumes = begin_lines cb.Resume lines;
  suspends = begin_lines cb.Suspend lines;
  idles = begin_lines cb.Idle lines;
  finished = finished;
}

-- they are the counts of some lines
pub record AreCounts (sum : Summary) : Type 0 where
  pub plan : Plan
  pub lines : List Line
  pub finished : Bool
  pub is : sum ≡ summary plan lines finished

-- how a run ended: it is finished, or cut at the plan's limit
abbrev pub ending_word : Bool → List ℕ
ending_word true = codes "finished"
ending_word false = codes "limit"

-- one line, with its newline
abbrev pub summary_text : Summary → List ℕ
summary_text sum =
    codes "devices " ++ decimal sum.devices ++ codes " lines " ++ decimal sum.lines
    ++ codes " resumes " ++ decimal sum.resumes ++ codes " suspends " ++ decimal sum.suspends ++ codes " idles " ++ decimal sum.idles
    ++ space ++ ending_word sum.finished ++ newline
