-- What a taker keeps, as it takes a line.
use Rattle.std.proofs.Common.{ℕ, ◌≡◌, ◌<◌, ◌≤◌, ◌+◌, ◌^◌, List, [], ◌∷◌, Option, Some, None, IfSome, Ok, length, reverse, refl, sym, subst, ap, ◌∙◌, arith}
use Rattle.std.specs.Option.{option_map}
use Rattle.std.proofs.lemmas.List.{length-reverse}
use Rattle.pm_model.specs.declared.event.Line.{Line}
use Rattle.pm_model.specs.declared.plan.Plan.{Plan}
use Rattle.pm_model.specs.History.{History}
use Rattle.pm_model.specs.Lawful.{IsLawful, Permits}
use Rattle.pm_model.specs.World.{World, world}
use Rattle.pm_book.specs.Judging.{IsAnswer, JudgeStandsFor, Judged}
use Rattle.pm_laws.specs.counts.Sums.{one}
use Rattle.pm_state.specs.Standing.{IsOf, Standing}
use Rattle.pm_turns.specs.Turning.{Index, IsIndex}
use Rattle.pm_book.specs.Pages.{IsKept, MayWrite, running}
use Rattle.pm_book.specs.Sheets.{KeepsLine, Sheet, begins_callback}
use Rattle.pm_book.specs.Takings.{IsListOf, TakerStandsFor}
use Rattle.pm_book.proofs.PageLemmas.{leads, reverse-push}
use Rattle.pm_book.proofs.RunningLemmas.{room_goes, start_running}

-- before any line
pub lists_none : (j : Judged) (plan : Plan) (sheet : Sheet) → j.plan ≡ plan → JudgeStandsFor j [] → sheet.lines ≡ [] → sheet.limit ≡ plan.lines → IsListOf j sheet
lists_none j plan sheet same stands none most = record {
  lawful = subst (λ (l : List Line). IsLawful j.plan (reverse l)) (sym none) tt;
  judged = subst (λ (l : List Line). JudgeStandsFor j (reverse l)) (sym none) stands;
  limit_is = most ∙ ap (λ (p : Plan). p.lines) (sym same);
  each = subst (λ (w : World). running w ≤ sheet.ends) (sym stands.world_is) (omega (arith, start_running j.plan));
}

-- there may be one line more
pub has_room : (j : Judged) (o : Option Sheet) → IfSome o (IsListOf j) → j.lines < j.plan.lines → IfSome o (λ sheet. length sheet.lines < sheet.limit)
has_room j None is room = tt
has_room j (Some sheet) is room = omega (arith, room, is.limit_is, is.judged.lines_are, length-reverse sheet.lines)

pub answer_room : (j : Judged) (o : Option Sheet) (line : Line) → IfSome o (IsListOf j)
    → ((h : List Line) → IsLawful j.plan h → JudgeStandsFor j h → IsAnswer j.plan h line (Ok tt)) → IfSome o (λ sheet. length sheet.lines < sheet.limit)
answer_room j None line is answer = tt
answer_room j (Some sheet) line is answer = let room = (answer (reverse sheet.lines) is.lawful is.judged).0 in omega (arith, room, is.limit_is, length-reverse sheet.lines)

may_write : (plan : Plan) (h : History) (line : Line) (p : Permits plan h line) → line.time < 2 ^ 63 → length h < plan.lines → MayWrite plan h p.stage line p.change p.next
may_write plan h line p in_time room = record { may = record { stands = p.stands; later = p.in_time; in_time = in_time; room = room }; gives = p.gives }

-- places are kept for the callbacks that run after a line
each_after : (j j' : Judged) (ends : ℕ) (h : List Line) (line : Line) → IsLawful j.plan h → j.world ≡ world j.plan h → running j.world ≤ ends → j'.plan ≡ j.plan → line.time < 2 ^ 63
    → IsAnswer j.plan h line (Ok tt) → JudgeStandsFor j' (line ∷ h) → running j'.world ≤ ends + one (begins_callback line.event)
each_after j j' ends h line lawful same each plan in_time answer stands =
    let p = answer.1 in
    let may = may_write j.plan h line p in_time answer.0 in
    let room = room_goes j.plan h j.world p.stage line p.change p.next ends lawful same may each in
    let there : j'.world ≡ world j.plan (line ∷ h) = subst (λ (x : Plan). j'.world ≡ world x (line ∷ h)) plan stands.world_is in
    let after = (leads j.plan h (world j.plan h) p.stage line p.change p.next lawful refl may).world_is in
    subst (λ (w : World). running w ≤ ends + one (begins_callback line.event)) (after ∙ sym there) room

-- the lines that are kept are those with one more
pub lists_one : (j j' : Judged) (old new : Option Sheet) (line : Line) → IfSome old (IsListOf j) → KeepsLine old new line (one (begins_callback line.event)) → j'.plan ≡ j.plan → line.time < 2 ^ 63
    → ((h : List Line) → IsLawful j.plan h → JudgeStandsFor j h → IsAnswer j.plan h line (Ok tt))
    → ((h : List Line) → IsLawful j.plan h → JudgeStandsFor j h → JudgeStandsFor j' (line ∷ h)) → IfSome new (IsListOf j')
lists_one j j' None None line is keeps plan in_time answer taken = tt
lists_one j j' (Some old) None line is keeps plan in_time answer taken = tt
lists_one j j' None (Some new) line is keeps plan in_time answer taken = absurd keeps
lists_one j j' (Some old) (Some new) line is keeps plan in_time answer taken =
    let h = reverse old.lines in
    let lines : reverse new.lines ≡ line ∷ h = reverse-push old.lines new.lines line keeps.lines in
    let said = answer h is.lawful is.judged in
    let stands = taken h is.lawful is.judged in
    let each = each_after j j' old.ends h line is.lawful is.judged.world_is is.each plan in_time said stands in
    record {
      lawful = subst (λ (l : List Line). IsLawful j'.plan l) (sym lines) (subst (λ (p : Plan). IsLawful p (line ∷ h)) (sym plan) (said.1, said.0, is.lawful));
      judged = subst (λ (l : List Line). JudgeStandsFor j' l) (sym lines) stands;
      limit_is = keeps.limit ∙ (is.limit_is ∙ ap (λ (p : Plan). p.lines) (sym plan));
      each = subst (λ n. running j'.world ≤ n) (sym keeps.ends) each;
    }

abbrev pub kept_of : Option Sheet → Option (List Line)
kept_of o = option_map (λ (sheet : Sheet). reverse sheet.lines) o

-- and the taker stands for them
pub stands_one : (j j' : Judged) (old new : Option Sheet) (line : Line) (n : ℕ) (h : List Line) → KeepsLine old new line n → JudgeStandsFor j' (line ∷ h)
    → TakerStandsFor (record { judge = j; kept = kept_of old }) h → TakerStandsFor (record { judge = j'; kept = kept_of new }) (line ∷ h)
stands_one j j' None None line n h keeps judged stands = record { judged = judged; kept = tt }
stands_one j j' (Some old) None line n h keeps judged stands = record { judged = judged; kept = tt }
stands_one j j' None (Some new) line n h keeps judged stands = absurd keeps
stands_one j j' (Some old) (Some new) line n h keeps judged stands =
    record { judged = judged; kept = reverse-push old.lines new.lines line keeps.lines ∙ ap (λ (l : List Line). line ∷ l) stands.kept }

pub stays_unkept : (old new : Option Sheet) (line : Line) (n : ℕ) → KeepsLine old new line n → kept_of old ≡ None → kept_of new ≡ None
stays_unkept None None line n keeps none = refl
stays_unkept (Some old) None line n keeps none = refl
stays_unkept None (Some new) line n keeps none = absurd keeps
stays_unkept (Some old) (Some new) line n keeps none = cc none

-- a book of them
pub keeps_all : (j : Judged) (plan : Plan) (state : Standing) (turns : Index) (sheet : Sheet) → IsListOf j sheet → plan ≡ j.plan → state.world ≡ j.world → IsOf plan state → j.last < 2 ^ 63
    → IsIndex plan (reverse sheet.lines) turns → IsKept plan state turns sheet.ends sheet.limit (reverse sheet.lines)
keeps_all j plan state turns sheet is same at is_of early turns_are =
    let h = reverse sheet.lines in
    record {
      lawful = subst (λ (p : Plan). IsLawful p h) (sym same) is.lawful;
      world_is = at ∙ (is.judged.world_is ∙ ap (λ (p : Plan). world p h) (sym same));
      is_of = is_of;
      turns_are = turns_are;
      in_time = subst (λ n. n < 2 ^ 63) is.judged.last_is early;
      limit_is = is.limit_is ∙ ap (λ (p : Plan). p.lines) (sym same);
      each = subst (λ (w : World). running w ≤ sheet.ends) (sym at) is.each;
    }
