-- Books come to one run of their plan, or to none.
use Rattle.std.proofs.Common.{◌≡◌, ◌∙◌, ◌<◌, ◌≤◌, ℕ, suc, false, List, [], ◌∷◌, Option, Some, None, length, reverse, slice_get, refl, sym, ap, subst, arith}
use Rattle.std.proofs.Math.ListN.{get_or}
use Rattle.std.proofs.lemmas.Bool.{false≢true}
use Rattle.std.proofs.lemmas.Option.{same_Some, slice_get-get_or, slice_get_within}
use Rattle.pm_model.specs.declared.event.Line.{Line}
use Rattle.pm_model.specs.declared.plan.Plan.{Plan}
use Rattle.pm_model.specs.History.{History}
use Rattle.pm_model.specs.Islands.{Numbering, merged}
use Rattle.pm_model.specs.Lawful.{is_finished}
use Rattle.pm_model.specs.World.{world}
use Rattle.pm_laws.proofs.islands.OneNumbering.{one_count}
use Rattle.pm_laws.proofs.islands.OnePart.{one_part}
use Rattle.pm_book.specs.Pages.{Pages}
use Rattle.pm_serial.specs.Ends.{whole}
use Rattle.pm_cmd_top.specs.Gathering.{AllFinish, ComesTo, Finishes, Gathered, IsKeptOf, IsPartOf, SomeIsCut, all_lines, lists, merges, no_lines, not_one_each, one_is_cut, too_many_lines}

-- one list is kept of a book
one_kept : (plan : Plan) (book : Pages) (a b : History) → IsKeptOf plan book a → IsKeptOf plan book b → a ≡ b
one_kept plan book _ _ (all_lines same time) (all_lines again later) = refl
one_kept plan book _ _ (no_lines none) (no_lines neither) = refl
one_kept plan book _ _ (all_lines same time) (no_lines none) = absurd (none (same, time))
one_kept plan book _ _ (no_lines none) (all_lines same time) = absurd (none (same, time))

-- so it comes to one run
one_run : (plan : Plan) (book : Pages) (a b : History) → ComesTo plan book a → ComesTo plan book b → a ≡ b
one_run plan book a b one other =
    one.goes_on ∙ ap (whole plan) (one_kept plan book one.kept other.kept one.is_kept other.is_kept) ∙ sym other.goes_on

-- an island has one part, since the plan has a numbering
the_part : (plan : Plan) (count : ℕ) (k : Numbering plan count) (n : ℕ) (a b : Plan) → IsPartOf plan n a → IsPartOf plan n b → a ≡ b
the_part plan count k n a b one other = one_part plan k.island n a b (one count k) (other count k)

one_finish : (plan : Plan) (count : ℕ) (k : Numbering plan count) (n : ℕ) (book done other : Pages) → Finishes plan n book done → Finishes plan n book other
    → done.lines ≡ other.lines
one_finish plan count k n book done other one two =
    let same : other.plan ≡ done.plan = the_part plan count k n other.plan done.plan two.is_whole.part one.is_whole.part in
    one_run done.plan book done.lines other.lines one.comes (subst (λ part. ComesTo part book other.lines) same two.comes)

same_lists : (xs ys : List Pages) → length xs ≡ length ys → ((n : ℕ) (p q : Pages) → slice_get xs n ≡ Some p → slice_get ys n ≡ Some q → p.lines ≡ q.lines) → lists xs ≡ lists ys
same_lists [] [] long same = refl
same_lists [] (y ∷ ys) long same = absurd (omega (arith, long))
same_lists (x ∷ xs) [] long same = absurd (omega (arith, long))
same_lists (x ∷ xs) (y ∷ ys) long same =
    let rest : lists xs ≡ lists ys = same_lists xs ys (omega (arith, long)) (λ n p q at there. same (suc n) p q at there) in
    (λ i. reverse (same 0 x y refl refl i) ∷ rest i)

-- what the books come to, island for island
one_lists : (plan : Plan) (count : ℕ) (k : Numbering plan count) (books done other : List Pages) → AllFinish plan books done → AllFinish plan books other → lists done ≡ lists other
one_lists plan count k books done other one two =
    same_lists done other (one.one_each ∙ sym two.one_each) (λ n p q at there.
    let a = one.each n p at in
    let b = two.each n q there in
    let same : b.0 ≡ a.0 = same_Some b.0 a.0 (sym b.1 ∙ a.1) in
    one_finish plan count k n a.0 p q a.2 (subst (λ book. Finishes plan n book q) same b.2))

-- where all finish, none is cut
none_cut : (plan : Plan) (count : ℕ) (k : Numbering plan count) (books done : List Pages) → AllFinish plan books done → SomeIsCut plan books → ⊥
none_cut plan count k books done all some = false≢true (sym unfinished ∙ a.2.is_whole.finished)
  where
    n : ℕ
    n = some.island

    p : Pages
    p = get_or done n some.book

    there : slice_get done n ≡ Some p
    there = slice_get-get_or done n some.book (subst (λ l. n < l) (sym all.one_each) (slice_get_within books n some.book some.is_there))

    a : (book : Pages) × (slice_get books n ≡ Some book) × Finishes plan n book p
    a = all.each n p there

    same_book : a.0 ≡ some.book
    same_book = same_Some a.0 some.book (sym a.1 ∙ some.is_there)

    same_plan : some.cut.part ≡ p.plan
    same_plan = the_part plan count k n some.cut.part p.plan some.cut.is_part a.2.is_whole.part

    same_run : some.cut.cut.run ≡ p.lines
    same_run =
        one_run p.plan some.book some.cut.cut.run p.lines (subst (λ part. ComesTo part some.book some.cut.cut.run) same_plan some.cut.cut.comes)
        (subst (λ book. ComesTo p.plan book p.lines) same_book a.2.comes)

    unfinished : is_finished p.plan (world p.plan p.lines) ≡ false
    unfinished = sym (λ i. is_finished (same_plan i) (world (same_plan i) (same_run i))) ∙ some.cut.cut.unfinished

-- where the merge is what they come to, nothing else is
merge_alone : (plan : Plan) (books done : List Pages) → Numbering plan (length books) → AllFinish plan books done → length (merged (lists done)) ≤ plan.lines
    → (other : Option (List Line)) → Gathered plan books other → other ≡ Some (merged (lists done))
merge_alone plan books done k all few _ (merges again l every small) = ap (λ ls. Some (merged ls)) (one_lists plan (length books) k books again done every all)
merge_alone plan books done k all few _ (too_many_lines again every more) =
    absurd (omega (arith, few, more, ap (λ ls. length (merged ls)) (one_lists plan (length books) k books again done every all)))
merge_alone plan books done k all few _ (one_is_cut some) = absurd (none_cut plan (length books) k books done all some)
merge_alone plan books done k all few _ (not_one_each count l differs) = absurd (differs (one_count plan (length books) count k l))

pub one_gathered : (plan : Plan) (books : List Pages) (a b : Option (List Line)) → Gathered plan books a → Gathered plan books b → a ≡ b
one_gathered plan books _ b (merges done k all few) two = sym (merge_alone plan books done k all few b two)
one_gathered plan books a _ (too_many_lines done all more) (merges again k every few) = merge_alone plan books again k every few None (too_many_lines done all more)
one_gathered plan books a _ (one_is_cut some) (merges again k every few) = merge_alone plan books again k every few None (one_is_cut some)
one_gathered plan books a _ (not_one_each count l differs) (merges again k every few) = merge_alone plan books again k every few None (not_one_each count l differs)
one_gathered plan books _ _ (too_many_lines done all more) (too_many_lines again every larger) = refl
one_gathered plan books _ _ (too_many_lines done all more) (one_is_cut other) = refl
one_gathered plan books _ _ (too_many_lines done all more) (not_one_each count l differs) = refl
one_gathered plan books _ _ (one_is_cut some) (too_many_lines again every larger) = refl
one_gathered plan books _ _ (one_is_cut some) (one_is_cut other) = refl
one_gathered plan books _ _ (one_is_cut some) (not_one_each count l differs) = refl
one_gathered plan books _ _ (not_one_each count l differs) (too_many_lines again every larger) = refl
one_gathered plan books _ _ (not_one_each count l differs) (one_is_cut other) = refl
one_gathered plan books _ _ (not_one_each count l differs) (not_one_each number m unlike) = refl
