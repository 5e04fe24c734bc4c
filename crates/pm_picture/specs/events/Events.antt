-- The events of a timeline and their text, in the trace-event format (what stands in them is this project's own).
use Rattle.std.specs.Prelude.{ℕ, List, [], ◌++◌, ◌≡◌, codes, decimal, map}
use Rattle.std.specs.List.{flat_map}
use Rattle.pm_picture.specs.declared.events.events.Bar.{Bar}
use Rattle.pm_picture.specs.declared.events.events.Thread.{Thread}
use Rattle.pm_picture.specs.events.Plain.{plain_byte}

-- a number as the value of a field that this begins
abbrev pub field : List ℕ → ℕ → List ℕ
field begin n = begin ++ decimal n

-- a name as the value of a field that this begins
unfoldable pub named : List ℕ → List ℕ → List ℕ
named begin name = begin ++ map plain_byte name ++ codes "\""

-- how a process is called
unfoldable pub process_text : ℕ → List ℕ → List ℕ
process_text process name = field (codes ",\n{\"ph\":\"M\",\"name\":\"process_name\",\"pid\":") process ++ named (codes ",\"args\":{\"name\":\"") name ++ codes "}}"

-- how a thread is called
unfoldable pub thread_text : Thread → List ℕ → List ℕ
thread_text t name =
    field (codes ",\n{\"ph\":\"M\",\"name\":\"thread_name\",\"pid\":") t.process ++ field (codes ",\"tid\":") t.thread ++ named (codes ",\"args\":{\"name\":\"") name ++ codes "}}"

-- something that lasts
unfoldable pub bar_text : Bar → List ℕ → List ℕ
bar_text b name =
    field (codes ",\n{\"ph\":\"X\",\"pid\":") b.on.process ++ field (codes ",\"tid\":") b.on.thread ++ field (codes ",\"ts\":") b.start ++ field (codes ",\"dur\":") b.length
    ++ named (codes ",\"name\":\"") name ++ field (codes ",\"args\":{\"line\":") b.line ++ codes "}}"

-- something that happens at a moment
unfoldable pub instant_text : Thread → ℕ → ℕ → List ℕ → List ℕ
instant_text t time line name =
    field (codes ",\n{\"ph\":\"i\",\"s\":\"t\",\"pid\":") t.process ++ field (codes ",\"tid\":") t.thread ++ field (codes ",\"ts\":") time
    ++ named (codes ",\"name\":\"") name ++ field (codes ",\"args\":{\"line\":") line ++ codes "}}"

-- a count from a moment on
unfoldable pub count_text : ℕ → ℕ → ℕ → List ℕ → List ℕ
count_text process time count name =
    field (codes ",\n{\"ph\":\"C\",\"pid\":") process ++ field (codes ",\"ts\":") time ++ named (codes ",\"name\":\"") name ++ field (codes ",\"args\":{\"count\":") count ++ codes "}}"

-- an event
pub data Event : Type 0 where
  OfProcess : ℕ → List ℕ → Event
  OfThread : Thread → List ℕ → Event
  OfBar : Bar → List ℕ → Event
  OfInstant : Thread → ℕ → ℕ → List ℕ → Event
  OfCount : ℕ → ℕ → ℕ → List ℕ → Event

abbrev pub event_text : Event → List ℕ
event_text (OfProcess process name) = process_text process name
event_text (OfThread t name) = thread_text t name
event_text (OfBar b name) = bar_text b name
event_text (OfInstant t time line name) = instant_text t time line name
event_text (OfCount process time count name) = count_text process time count name

-- the begin of a timeline, with a first event
unfoldable pub begin_text : List ℕ
begin_text = codes "{\"displayTimeUnit\":\"ms\",\"traceEvents\":[\n{\"ph\":\"M\",\"name\":\"process_name\",\"pid\":1,\"args\":{\"name\":\"callers\"}}"

-- a timeline that isn't ended: its begin, and behind it some events and nothing else
pub record IsBegun (text : List ℕ) : Type 0 where
  pub events : List Event
  pub text_is : text ≡ begin_text ++ flat_map event_text events

-- a whole timeline
pub record IsTimeline (text : List ℕ) : Type 0 where
  pub begun : List ℕ
  pub is_begun : IsBegun begun
  pub text_is : text ≡ begun ++ codes "\n]}\n"
