-- Texts of a few lines: what they stand for, and why the line after them is bad.
use Rattle.std.proofs.Common.{ℕ, ◌≡◌, ◌∙◌, ◌≤◌, Bool, true, false, List, [], ◌∷◌, codes, nat_lt, pos, Option, Some, ap, refl, inl, inr, arith, if◌then◌else◌}
use Rattle.std.specs.Fmt.{digits}
use Rattle.std.specs.Option.{option_and_then}
use Rattle.pm_lineread.specs.Pieces.{digit_value, number_at}
use Rattle.pm_lineread.specs.Reading.{line_at, some_line_at}
use Rattle.pm_lineread.proofs.Answered.{from_text1, not_text2}
use Rattle.pm_base.specs.declared.ActorId.TheVariants.{Caller}
use Rattle.pm_model.specs.declared.event.Command.{Command}
use Rattle.pm_model.specs.declared.event.Event.{Event}
use Rattle.pm_model.specs.declared.event.Event.TheVariants as event
use Rattle.pm_model.specs.declared.event.Helper.TheVariants.{Enable, GetSync, PutNoidle}
use Rattle.pm_model.specs.declared.event.Line.{Line}
use Rattle.pm_model.specs.declared.plan.Plan.{Plan}
use Rattle.pm_model.specs.declared.stage.Change.{Change}
use Rattle.pm_model.specs.declared.stage.Move.TheVariants.{Late, Write}
use Rattle.pm_model.specs.declared.stage.Stage.{Stage}
use Rattle.pm_model.specs.declared.stage.Then.{Then}
use Rattle.pm_model.specs.FirstBad.{IsLawfulText, IsText2}
use Rattle.pm_model.specs.Lawful.{IsLawful, Permits, last_time}
use Rattle.pm_model.specs.NoWhy.{Cut, IsNeverPermitted, IsPermittedSometime, IsWhy, Limit, NoWhy, Step, Text, Time, at_time}
use Rattle.pm_model.specs.Serial.{move_at, written}
use Rattle.pm_model.specs.Text.{IsText2Of, IsTextOf}
use Rattle.pm_model.specs.Verdict.{IsVerdict, YesFinished, YesOpen}
use Rattle.pm_model.specs.World.{move, stage_at, world}
use Rattle.pm_show_runs.proofs.CallTable.{call_table}
use Rattle.pm_model.proofs.SerialLemmas.{permits_written, serial_lawful}
use Rattle.pm_show_runs.specs.Counts.{first_plan, first_text}
use Rattle.pm_show_runs.specs.Refusals.{line}
use Rattle.pm_show_runs.specs.Words.{call, dev, run_of}
use Rattle.pm_show_runs.specs.promises.BadTexts.{IsBadFor, cut_at_end, cut_header, cut_within, early, enabled, enables, falling, latest, puts, short_plan, third_is_wrong, too_late, too_late2, two_headers, wrong_and_early}
use Rattle.pm_show_runs.specs.promises.Pieces.{three_lines, two_lines}
use Rattle.pm_law_texts.proofs.WhyBad.{reason_first}

bad_for : (plan : Plan) (bytes : List ℕ) (n : ℕ) (why : NoWhy) → IsWhy plan bytes n why → IsBadFor plan bytes n why
bad_for plan bytes n why reason = record { first = reason_first plan bytes n why reason; reason = reason }

-- the line that an actor writes may come next
may_come :
    (plan : Plan) (h : List Line) (line : Line) → last_time h ≤ line.time
    → option_and_then (written line.actor line.time) (move_at plan (world plan h) line.time line.actor) ≡ Some line → Permits plan h line
may_come plan h line late e = permits_written plan h line.actor line.time line late (stage_at plan (world plan h) line.actor) refl e

-- lists of the first lines: one line at 5 or at the last moment, two at 0
one_at_5 : IsLawful first_plan (enables 5 ∷ [])
unfolding call_table
one_at_5 = (may_come first_plan [] (enables 5) (omega arith) refl, omega arith, tt)

one_at_end : IsLawful first_plan (enables 9223372036854775807 ∷ [])
unfolding call_table
one_at_end = (may_come first_plan [] (enables 9223372036854775807) (omega arith) refl, omega arith, tt)

two_at_0 : IsLawful first_plan (enabled 0 ∷ enables 0 ∷ [])
unfolding call_table
two_at_0 = (
  may_come first_plan (enables 0 ∷ []) (enabled 0) (omega arith) refl,
  omega arith,
  (may_come first_plan [] (enables 0) (omega arith) refl, omega arith, tt),
)

short_two : IsLawful short_plan (enabled 0 ∷ enables 0 ∷ [])
unfolding call_table
short_two = (
  may_come short_plan (enables 0 ∷ []) (enabled 0) (omega arith) refl,
  omega arith,
  (may_come short_plan [] (enables 0) (omega arith) refl, omega arith, tt),
)

-- the times
pub latest_is_lawful : IsLawfulText first_plan latest
unfolding digits
latest_is_lawful = (enables 9223372036854775807 ∷ [], one_at_end, inl (refl, refl))

no_time1 : (line : Line) → IsTextOf first_plan line (codes "9223372036854775808 c pm_call: enable a") → ⊥
unfolding line_at some_line_at number_at digit_value
no_time1 line spelled =
    not_text2 first_plan 0 (omega arith) (codes "9223372036854775808 c pm_call: enable a") _ refl line
    (from_text1 first_plan line (codes "9223372036854775808 c pm_call: enable a") spelled)

no_time2 : (line : Line) → IsText2Of first_plan 9223372036854775807 line (codes "1 c pm_ret: enable a 0") → ⊥
unfolding line_at some_line_at number_at digit_value
no_time2 line spelled = not_text2 first_plan 9223372036854775807 (omega arith) (codes "1 c pm_ret: enable a 0") _ refl line spelled

pub too_late_is_bad : IsBadFor first_plan too_late 1 Text
too_late_is_bad =
    bad_for first_plan too_late 1 Text
    (record { h = []; before = (tt, inl (refl, refl)); piece = codes "9223372036854775808 c pm_call: enable a"; is_piece = (refl, refl); no_text = no_time1 })

pub too_late2_is_bad : IsBadFor first_plan too_late2 2 Text
unfolding digits
too_late2_is_bad =
    bad_for first_plan too_late2 2 Text
    (record {
      h = enables 9223372036854775807 ∷ [];
      before = (one_at_end, inr (refl, (omega arith, tt), refl));
      piece = codes "1 c pm_ret: enable a 0";
      is_piece = (refl, refl);
      no_text = no_time2;
    })

pub falling_has_none : (bytes : List ℕ) → IsText2 first_plan bytes falling → ⊥
falling_has_none bytes text = let rise : 5 ≤ 3 = text.1.0 in absurd (omega (arith, rise))

-- what an actor writes at a time, where it may be early, is one event
one_event :
    (early : Bool) (at : ℕ) (x e : Event) (c d : Change) (n m : Then) → Some (if early then Late at else Write x c n) ≡ Some (Write e d m) → x ≡ e
one_event true at x e c d n m same = cc
one_event false at x e c d n m same = cc

moves :
    (plan : Plan) (h : List Line) (line : Line) (t : ℕ) (p : Permits plan h (at_time line t))
    → move_at plan (world plan h) t line.actor ≡ Some (Write line.event p.change p.next)
moves plan h line t p = ap (λ (s : Option Stage). option_and_then (λ x. move plan (world plan h).views x t) s) p.stands ∙ p.gives

not_call : (x y : Command) → event.Call x ≡ event.Call y → x ≡ y
not_call x y e = cc

get_is_next : IsNeverPermitted first_plan (enabled 0 ∷ enables 0 ∷ []) (puts 0)
unfolding call_table
get_is_next t p =
    let gives = moves first_plan (enabled 0 ∷ enables 0 ∷ []) (puts 0) t p in
    let same = not_call _ _ (one_event (nat_lt t 0) _ _ _ _ _ _ _ gives) in
    let helpers : GetSync ≡ PutNoidle = ap (λ (c : Command). c.helper) same in
    cc

return_is_next : IsNeverPermitted first_plan (enables 5 ∷ []) (puts 3)
unfolding call_table
return_is_next t p =
    let gives = moves first_plan (enables 5 ∷ []) (puts 3) t p in
    let same : event.Ret Enable (dev 0) (pos 0) ≡ (puts 3).event = one_event (nat_lt t 0) _ _ _ _ _ _ _ gives in
    cc

pub third_is_bad : IsBadFor first_plan third_is_wrong 3 Step
unfolding digits
third_is_bad =
    bad_for first_plan third_is_wrong 3 Step
    (enabled 0 ∷ enables 0 ∷ [], puts 0, record { before = (two_at_0, inl (refl, refl)); piece = codes "0 c pm_call: put_noidle a"; is_piece = (refl, refl); spelled = (refl, refl) }, omega arith, get_is_next)

pub wrong_and_early_is_bad : IsBadFor first_plan wrong_and_early 2 Step
unfolding digits
wrong_and_early_is_bad =
    bad_for first_plan wrong_and_early 2 Step
    (enables 5 ∷ [], puts 3, record { before = (one_at_5, inl (refl, refl)); piece = codes "3 c pm_call: put_noidle a"; is_piece = (refl, refl); spelled = (refl, refl) }, omega arith, return_is_next)

later : IsPermittedSometime first_plan (enables 5 ∷ []) (enabled 3)
unfolding call_table
later = (5, may_come first_plan (enables 5 ∷ []) (enabled 5) (omega arith) refl)

not_now : Permits first_plan (enables 5 ∷ []) (enabled 3) → ⊥
not_now p = let in_time : 5 ≤ 3 = p.in_time in absurd (omega (arith, in_time))

pub early_is_bad : IsBadFor first_plan early 2 Time
unfolding digits
early_is_bad =
    bad_for first_plan early 2 Time
    (enables 5 ∷ [], enabled 3, record { before = (one_at_5, inl (refl, refl)); piece = codes "3 c pm_ret: enable a 0"; is_piece = (refl, refl); spelled = (refl, refl) }, omega arith, later, not_now)

-- what is cut
pub cut_within_is_bad : IsBadFor first_plan cut_within 3 Cut
unfolding digits
cut_within_is_bad = bad_for first_plan cut_within 3 Cut (enabled 0 ∷ enables 0 ∷ [], codes "0 c pm_ca", (two_at_0, inl (refl, refl)), (refl, λ no. cc, refl))

pub cut_at_end_is_bad : IsBadFor first_plan cut_at_end 3 Cut
unfolding digits
cut_at_end_is_bad =
    bad_for first_plan cut_at_end 3 Cut (enabled 0 ∷ enables 0 ∷ [], codes "0 c pm_call: get_sync a", (two_at_0, inl (refl, refl)), (refl, λ no. cc, refl))

pub cut_past_limit_is_bad : IsBadFor short_plan cut_within 3 Cut
unfolding digits
cut_past_limit_is_bad = bad_for short_plan cut_within 3 Cut (enabled 0 ∷ enables 0 ∷ [], codes "0 c pm_ca", (short_two, inl (refl, refl)), (refl, λ no. cc, refl))

pub cut_header_is_bad : IsBadFor first_plan cut_header 1 Cut
cut_header_is_bad = bad_for first_plan cut_header 1 Cut ([], codes "pm_trace 2", (tt, inl (refl, refl)), (refl, λ no. cc, refl))

no_line : (line : Line) → IsText2Of first_plan 0 line (codes "pm_trace 2") → ⊥
unfolding line_at some_line_at number_at digit_value
no_line line spelled = not_text2 first_plan 0 (omega arith) (codes "pm_trace 2") _ refl line spelled

pub two_headers_are_bad : IsBadFor first_plan two_headers 1 Text
two_headers_are_bad =
    bad_for first_plan two_headers 1 Text
    (record { h = []; before = (tt, inr (refl, tt, refl)); piece = codes "pm_trace 2"; is_piece = (refl, refl); no_text = no_line })

-- past the limit
pub two_are_lawful : IsLawfulText short_plan two_lines
unfolding digits
two_are_lawful = (enabled 0 ∷ enables 0 ∷ [], short_two, inl (refl, refl))

pub third_is_past : IsBadFor short_plan three_lines 3 Limit
unfolding digits
third_is_past =
    bad_for short_plan three_lines 3 Limit (
      enabled 0 ∷ enables 0 ∷ [],
      line 0 (Caller 0) (event.Call (call GetSync (dev 0))),
      record { before = (short_two, inl (refl, refl)); piece = codes "0 c pm_call: get_sync a"; is_piece = (refl, refl); spelled = (refl, refl) },
      omega arith,
    )

-- finished, and not
pub run_is_finished : IsVerdict first_plan first_text YesFinished
unfolding call_table
run_is_finished = (run_of first_plan, serial_lawful first_plan, inl (refl, refl), refl)

pub two_are_open : IsVerdict first_plan two_lines YesOpen
unfolding call_table
two_are_open = (enabled 0 ∷ enables 0 ∷ [], two_at_0, inl (refl, refl), λ finished. let no : false ≡ true = finished in cc)
