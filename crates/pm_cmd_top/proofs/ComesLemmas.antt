-- What the books of islands come to.
use Rattle.std.proofs.Common.{◌≡◌, ◌∙◌, ◌++◌, ◌<◌, ◌≤◌, ◌^◌, ℕ, zero, suc, List, [], ◌∷◌, Option, Some, None, Result, Ok, Err, IfOk, IfSome, ap, arith, drop, false, length, option_map, slice_get, subst, sym, ⊎_elim}
use Rattle.std.specs.Prelude.{IfNone, MatchOption}
use Rattle.std.proofs.lemmas.List.{length_push}
use Rattle.pm_model.specs.declared.event.Line.{Line}
use Rattle.pm_model.specs.declared.plan.Plan.{Plan}
use Rattle.pm_model.specs.Islands.{IsPart, Numbering, merged}
use Rattle.pm_model.specs.Lawful.{IsFinished, IsLawful, is_finished, last_time}
use Rattle.pm_model.specs.World.{world}
use Rattle.pm_book.specs.Pages.{Pages, world_of}
use Rattle.pm_book.specs.Turn.{HasTime}
use Rattle.pm_serial.specs.Ends.{whole}
use Rattle.pm_cmd_top.specs.Gathering.{AllFinish, ComesTo, EachFinishes, EachIsWhole, Finishes, Gathered, IsCut, IsCutOn, IsKeptOf, IsPartOf, SomeIsCut, all_lines, lists, merges, no_lines, too_many_lines}
use Rattle.pm_cmd_top.proofs.GatherLemmas.{get_more}

-- what is kept of a book, and the run that it comes to
pub kept_whole : (plan : Plan) (book : Pages) → book.plan ≡ plan → HasTime book.plan book.lines → IsKeptOf plan book book.lines
kept_whole plan book of_plan in_time = all_lines of_plan in_time

pub kept_nothing : {E : Type 0} (plan : Plan) (book : Pages) (r : Result Pages E) → IfOk r (λ fresh. fresh.lines ≡ []) → ¬ ((book.plan ≡ plan) × HasTime book.plan book.lines) → IfOk r (λ fresh. IsKeptOf plan book fresh.lines)
kept_nothing plan book (Ok fresh) none bad = subst (IsKeptOf plan book) (sym none) (no_lines bad)
kept_nothing plan book (Err e) none bad = tt

pub comes_to : (plan : Plan) (book m new : Pages) → m.plan ≡ plan → IsKeptOf plan book m.lines → new.lines ≡ whole m.plan m.lines → ComesTo plan book new.lines
comes_to plan book m new same kept is = record { kept = m.lines; is_kept = kept; goes_on = is ∙ ap (λ (q : Plan). whole q m.lines) same }

pub is_cut : (plan : Plan) (book m new : Pages) → m.plan ≡ plan → IsKeptOf plan book m.lines → new.lines ≡ whole m.plan m.lines → new.plan ≡ m.plan → is_finished new.plan (world_of new) ≡ false → IsCut plan book
is_cut plan book m new same kept is still unfinished = record {
  run = new.lines;
  comes = comes_to plan book m new same kept is;
  unfinished = subst (λ (q : Plan). is_finished q (world q new.lines) ≡ false) (still ∙ same) unfinished;
}

-- what the book of an island comes to
pub island_comes : {E : Type 0} (plan part : Plan) (n : ℕ) (book : Pages) (r : Result (Option Pages) E) → IsPartOf plan n part
    → IfOk r (λ o. IfSome o (λ p. p.plan ≡ part)) → IfOk r (λ o. IfSome o (λ p. IsLawful p.plan p.lines)) → IfOk r (λ o. IfSome o (λ p. IsFinished p.plan p.lines))
    → IfOk r (λ o. IfSome o (λ p. last_time p.lines ≤ 2 ^ 62)) → IfOk r (λ o. IfSome o (λ p. ComesTo part book p.lines)) → IfOk r (λ o. IfNone o (IsCut part book))
    → IfOk r (λ o. MatchOption o (IsCutOn plan n book) (Finishes plan n book))
island_comes plan part n book (Ok (Some p)) parts same lawful ends in_time comes cut = record {
  is_whole = record {
    part = λ count k. subst (λ (q : Plan). IsPart plan k.island n q) (sym same) (parts count k);
    lawful = lawful;
    finished = ends;
    in_time = in_time;
  };
  comes = subst (λ (q : Plan). ComesTo q book p.lines) (sym same) comes;
}
island_comes plan part n book (Ok None) parts same lawful ends in_time comes cut = record { part = part; is_part = parts; cut = cut }
island_comes plan part n book (Err e) parts same lawful ends in_time comes cut = tt

-- the first of the books that are left
next_left : (xs rest : List Pages) (x : Pages) (n : ℕ) → drop n xs ≡ x ∷ rest → (slice_get xs n ≡ Some x) × (n < length xs) × (drop (suc n) xs ≡ rest)
next_left [] rest x zero e = cc e
next_left [] rest x (suc n) e = cc e
next_left (y ∷ ys) rest x zero e = (ap (λ l. slice_get l 0) e, omega arith, ap (λ l. drop 1 l) e)
next_left (y ∷ ys) rest x (suc n) e = let next = next_left ys rest x n e in (next.0, omega (arith, next.1), next.2)

none_left : (xs rest : List Pages) (n : ℕ) → drop n xs ≡ rest → length rest ≡ 0 → length xs ≤ n
none_left [] rest n is none = omega arith
none_left (y ∷ ys) rest zero is none = absurd (omega (arith, ap length is, none))
none_left (y ∷ ys) rest (suc n) is none = let le = none_left ys rest n is none in omega (arith, le)

-- one more is finished
finishes_more : (plan : Plan) (books done new : List Pages) (n : ℕ) (book p : Pages) → EachFinishes plan books done → new ≡ done ++ p ∷ [] → n ≡ length done → slice_get books n ≡ Some book → Finishes plan n book p
    → EachFinishes plan books new
finishes_more plan books done new n book p each is at_end there finishes m q at =
    ⊎_elim (λ old. each m q old)
    (λ (last : (m ≡ length done) × (p ≡ q)). subst (λ (y : ℕ × Pages). (b : Pages) × (slice_get books y.0 ≡ Some b) × Finishes plan y.0 b y.1) (λ i. ((at_end ∙ sym last.0) i, last.1 i)) (book, there, finishes))
    (get_more done p m q (ap (λ l. slice_get l m) (sym is) ∙ at))

-- where the books are gone over: those that are done are those to which the first of them come, and the rest is left
pub record AreDone (plan : Plan) (books rest done : List Pages) : Type 0 where
  pub within : length done ≤ length books
  pub left : drop (length done) books ≡ rest
  pub each : EachFinishes plan books done

pub none_done : (plan : Plan) (books rest done : List Pages) → rest ≡ books → done ≡ [] → AreDone plan books rest done
none_done plan books rest done is none = subst (λ d. AreDone plan books rest d) (sym none) (record { within = omega arith; left = sym is; each = λ n p at. cc at })

pub next_is_there : (plan : Plan) (books rest more done : List Pages) (book : Pages) → AreDone plan books rest done → rest ≡ book ∷ more → length done < length books
next_is_there plan books rest more done book are is = (next_left books more book (length done) (are.left ∙ is)).1

pub one_more_done : (plan : Plan) (books rest more done new : List Pages) (n : ℕ) (book p : Pages) → AreDone plan books rest done → rest ≡ book ∷ more → n ≡ length done → Finishes plan n book p
    → new ≡ done ++ p ∷ [] → AreDone plan books more new
one_more_done plan books rest more done new n book p are is at_end finishes grown =
    let next = next_left books more book (length done) (are.left ∙ is) in
    let longer : length new ≡ suc (length done) = omega (arith, ap length grown, length_push done p) in
    record {
      within = omega (arith, longer, next.1);
      left = ap (λ m. drop m books) longer ∙ next.2;
      each = finishes_more plan books done new n book p are.each grown at_end (ap (λ m. slice_get books m) at_end ∙ next.0) finishes;
    }

pub one_cut : (plan : Plan) (books rest more done : List Pages) (n : ℕ) (book : Pages) → AreDone plan books rest done → rest ≡ book ∷ more → n ≡ length done → IsCutOn plan n book → SomeIsCut plan books
one_cut plan books rest more done n book are is at_end cut =
    record { island = n; book = book; is_there = ap (λ m. slice_get books m) at_end ∙ (next_left books more book (length done) (are.left ∙ is)).0; cut = cut }

pub all_done : (plan : Plan) (books rest done : List Pages) → AreDone plan books rest done → length rest ≡ 0 → AllFinish plan books done
all_done plan books rest done are none =
    let none_more = none_left books rest (length done) are.left none in
    record { one_each = omega (arith, none_more, are.within); each = are.each }

pub each_whole : (plan : Plan) (books done : List Pages) → EachFinishes plan books done → EachIsWhole plan done
each_whole plan books done each n p at = (each n p at).2.is_whole

-- the answer
pub gathered_by : {V E : Type 0} (items : V → List Line) (plan : Plan) (books done : List Pages) (r : Result (Option V) E) → Numbering plan (length books) → AllFinish plan books done
    → IfOk r (λ o. IfSome o (λ v. length (items v) ≤ plan.lines)) → IfOk r (λ o. IfSome o (λ v. items v ≡ merged (lists done))) → IfOk r (λ o. IfNone o (plan.lines < length (merged (lists done))))
    → IfOk r (λ o. Gathered plan books (option_map items o))
gathered_by items plan books done (Ok (Some v)) k all few is more = subst (λ l. Gathered plan books (Some l)) (sym is) (merges done k all (subst (λ l. length l ≤ plan.lines) is few))
gathered_by items plan books done (Ok None) k all few is more = too_many_lines done all more
gathered_by items plan books done (Err e) k all few is more = tt
