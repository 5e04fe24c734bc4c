-- The whole run to which one thread goes on stays the same as it goes on, and it has time for it.
use Rattle.std.proofs.Common.{◌≡◌, ◌∙◌, ◌+◌, ◌++◌, ◌*◌, ◌-◌, ◌<◌, ◌≤◌, ◌^◌, ◌⊎◌, ℕ, zero, suc, Bool, true, false, ◌&&◌, List, [], ◌∷◌, None, Some, length, reverse, ap, append_assoc, arith, inl, inr, refl, subst, sym}
use Rattle.std.specs.Option.{option_map_or}
use Rattle.std.proofs.lemmas.Bool.{and_parts, both_ways, leb-true}
use Rattle.std.proofs.lemmas.Bool.Decides.{nat_tests}
use Rattle.std.proofs.lemmas.List.{reverse-reverse}
use Rattle.pm_base.specs.declared.limits.TheConstants.{MAX_LINES}
use Rattle.pm_model.specs.declared.event.Line.{Line}
use Rattle.pm_model.specs.declared.plan.Plan.{Plan}
use Rattle.pm_model.specs.History.{History}
use Rattle.pm_model.specs.IsPlan.{is_plan}
use Rattle.pm_model.specs.Lawful.{IsFinished, is_finished, last_time}
use Rattle.pm_model.specs.Serial.{goes_on, next_line, serial}
use Rattle.pm_model.specs.World.{world}
use Rattle.pm_book.specs.Pages.{Pages, is_full}
use Rattle.pm_serial.specs.declared.running.End.{End}
use Rattle.pm_serial.specs.declared.running.End.TheVariants as end
use Rattle.pm_book.proofs.TurnLemmas.{has_room}
use Rattle.pm_book.specs.Turn.{HasTime, Writes}
use Rattle.pm_serial.specs.Ends.{GoesOn, HasMemory, IsEnd, IsSerialEnd, whole}

-- a line more
less_by_one : (a b : ℕ) → b < a → a - b ≡ suc (a - suc b)
less_by_one a b lt = omega (arith, lt)

one_more : (plan : Plan) (n : ℕ) (h : History) (line : Line) → next_line plan h ≡ Some line → goes_on plan (suc n) h ≡ goes_on plan n (line ∷ h)
one_more plan n h line is = ap (λ o. option_map_or (λ line. goes_on plan n (line ∷ h)) o h) is

pub whole_one : (plan : Plan) (h : History) (line : Line) → length h < plan.lines → next_line plan h ≡ Some line → whole plan (line ∷ h) ≡ whole plan h
whole_one plan h line room is = sym (ap (λ n. goes_on plan n h) (less_by_one plan.lines (length h) room) ∙ one_more plan (plan.lines - suc (length h)) h line is)

pub time_less : (last t len most : ℕ) → t ≤ last + 1000000 → len < most → last + 1000000 * (most - len) ≤ 2 ^ 62 → t + 1000000 * (most - suc len) ≤ 2 ^ 62
time_less last t len most soon room in_time = omega (arith, soon, room, in_time)

-- a plan allows few enough lines
front : (a b : Bool) → (a && b) ≡ true → a ≡ true
front a b both = (and_parts a b both).0

few_lines : (plan : Plan) → plan.lines ≤ MAX_LINES
few_lines plan =
    let law : is_plan plan.lines plan.trace plan.domains plan.devices plan.links plan.callers ≡ true = plan.law in
    let limits = front _ _ (front _ _ (front _ _ (front _ _ (front _ _ (front _ _ (front _ _ (front _ _ (front _ _ (front _ _ (front _ _ (front _ _ (front _ _ (front _ _ law))))))))))))) in
    leb-true _ _ (and_parts _ _ limits).1

pub fresh_time : (plan : Plan) → HasTime plan []
fresh_time plan = omega (arith, few_lines plan)

-- what holds of a plan and its lines holds of the same pages
on_pages : (P : Plan → History → Type 0) (p : Pages) (plan : Plan) (h : History) → p.plan ≡ plan → p.lines ≡ h → P plan h → P p.plan p.lines
on_pages P p plan h plan_is lines_are holds = subst (λ (q : Plan). P q p.lines) (sym plan_is) (subst (λ (l : History). P plan l) (sym lines_are) holds)

pub goes_nowhere : (old new : Pages) → HasTime old.plan old.lines → new.plan ≡ old.plan → new.lines ≡ old.lines → GoesOn old new
goes_nowhere old new in_time plan_is lines_are = record {
  plan_is = plan_is;
  more = [];
  lines_are = lines_are;
  whole_is = on_pages (λ q l. whole q l ≡ whole old.plan old.lines) new old.plan old.lines plan_is lines_are refl;
  in_time = on_pages HasTime new old.plan old.lines plan_is lines_are in_time;
}

goes_one : (old new : Pages) → is_full old ≡ false → HasTime old.plan old.lines → Writes old new → GoesOn old new
goes_one old new free in_time wrote =
    let line = wrote.line in
    let room = has_room old free in
    let less = time_less (last_time old.lines) line.time (length old.lines) old.plan.lines wrote.soon room in_time in
    record {
      plan_is = wrote.added.plan;
      more = line ∷ [];
      lines_are = wrote.added.lines;
      whole_is = on_pages (λ q l. whole q l ≡ whole old.plan old.lines) new old.plan (line ∷ old.lines) wrote.added.plan wrote.added.lines (whole_one old.plan old.lines line room wrote.next);
      in_time = on_pages HasTime new old.plan (line ∷ old.lines) wrote.added.plan wrote.added.lines less;
    }

pub goes_further : (a b c : Pages) → GoesOn a b → GoesOn b c → GoesOn a c
goes_further a b c first second = record {
  plan_is = second.plan_is ∙ first.plan_is;
  more = second.more ++ first.more;
  lines_are = second.lines_are ∙ ap (λ (l : List Line). second.more ++ l) first.lines_are ∙ sym (append_assoc second.more first.more a.lines);
  whole_is = second.whole_is ∙ first.whole_is;
  in_time = second.in_time;
}

pub writes_further : (a b c : Pages) → GoesOn a b → is_full b ≡ false → Writes b c → GoesOn a c
writes_further a b c first free wrote = goes_further a b c first (goes_one b c free first.in_time wrote)

-- and fewer lines are free
pub writes_nearer : (old new : Pages) → is_full old ≡ false → Writes old new → new.plan.lines - length new.lines < old.plan.lines - length old.lines
writes_nearer old new free wrote =
    let room = has_room old free in
    let most : new.plan.lines ≡ old.plan.lines = ap (λ (q : Plan). q.lines) wrote.added.plan in
    let more : length new.lines ≡ suc (length old.lines) = ap (λ (l : List Line). length l) wrote.added.lines in
    omega (arith, room, most, more)

-- where memory is kept for all lines there is some for the next one, and after it for all others
pub spare_next : (p : Pages) → HasMemory p → is_full p ≡ false → 0 < p.spare
spare_next p memory free = let room = has_room p free in omega (arith, room, memory)

pub keeps_memory : (old new : Pages) → HasMemory old → Writes old new → HasMemory new
keeps_memory old new memory wrote =
    let most : new.plan.lines ≡ old.plan.lines = ap (λ (q : Plan). q.lines) wrote.added.plan in
    let more : length new.lines ≡ suc (length old.lines) = ap (λ (l : List Line). length l) wrote.added.lines in
    let spare = wrote.added.spare in
    omega (arith, memory, most, more, spare)

-- where it goes no further
pub nowhere : (plan : Plan) (n : ℕ) (h : History) → next_line plan h ≡ None → goes_on plan n h ≡ h
nowhere plan zero h none = refl
nowhere plan (suc n) h none = ap (λ o. option_map_or (λ line. goes_on plan n (line ∷ h)) o h) none

none_left : (p : Pages) → is_full p ≡ true → p.plan.lines - length p.lines ≡ 0
none_left p full = let le : p.plan.lines ≤ length p.lines = grind (arith, nat_tests) in omega (arith, le)

pub finished_whole : (old new : Pages) → GoesOn old new → next_line new.plan new.lines ≡ None → new.lines ≡ whole old.plan old.lines
finished_whole old new goes none = sym (nowhere new.plan (new.plan.lines - length new.lines) new.lines none) ∙ goes.whole_is

pub full_whole : (old new : Pages) → GoesOn old new → is_full new ≡ true → new.lines ≡ whole old.plan old.lines
full_whole old new goes full = sym (ap (λ n. goes_on new.plan n new.lines) (none_left new full)) ∙ goes.whole_is

-- from no lines the whole run is what serial writes
pub serial_is : (plan : Plan) (h : History) → h ≡ [] → whole plan h ≡ reverse (serial plan)
serial_is plan h is =
    let all : plan.lines - 0 ≡ plan.lines = omega arith in
    ap (whole plan) is ∙ ap (λ n. goes_on plan n []) all ∙ sym (reverse-reverse (goes_on plan plan.lines []))

pub serial_lines : (old new : Pages) → old.lines ≡ [] → new.lines ≡ whole old.plan old.lines → reverse new.lines ≡ serial old.plan
serial_lines old new fresh same = ap (λ (l : List Line). reverse l) (same ∙ serial_is old.plan old.lines fresh) ∙ reverse-reverse (serial old.plan)

-- and it ends as the book
ends_as : (old new : Pages) → GoesOn old new → old.lines ≡ [] → new.lines ≡ whole old.plan old.lines → is_finished old.plan (world old.plan (reverse (serial old.plan))) ≡ is_finished new.plan (world new.plan new.lines)
ends_as old new goes fresh same = on_pages (λ q l. is_finished old.plan (world old.plan (reverse (serial old.plan))) ≡ is_finished q (world q l)) new old.plan (reverse (serial old.plan)) goes.plan_is (same ∙ serial_is old.plan old.lines fresh) refl

pub has_all : (plan : Plan) → IsFinished plan (goes_on plan plan.lines []) ⊎ (length (serial plan) ≡ plan.lines) → is_finished plan (world plan (reverse (serial plan))) ≡ false → length (serial plan) ≡ plan.lines
has_all plan (inl done) unfinished = absurd (both_ways _ unfinished (ap (λ (l : History). is_finished plan (world plan l)) (reverse-reverse (goes_on plan plan.lines [])) ∙ done))
has_all plan (inr full) unfinished = full

pub serial_ends_as : (old new : Pages) (e : End) → GoesOn old new → new.lines ≡ whole old.plan old.lines → IsEnd new e
    → IsFinished old.plan (goes_on old.plan old.plan.lines []) ⊎ (length (serial old.plan) ≡ old.plan.lines) → old.lines ≡ [] → IsSerialEnd old.plan e
serial_ends_as old new end.Finished goes same done ends fresh = ends_as old new goes fresh same ∙ done
serial_ends_as old new end.AtLimit goes same at ends fresh =
    let unfinished = ends_as old new goes fresh same ∙ at.1 in (has_all old.plan ends unfinished, unfinished)
