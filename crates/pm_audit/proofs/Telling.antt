-- What an auditor says of bytes, as they go on and at their end.
use Rattle.std.proofs.Common.{ℕ, suc, ◌≡◌, ◌≢◌, ◌+◌, ◌<◌, ◌≤◌, Bool, true, false, List, [], ◌∷◌, ◌++◌, Option, Some, None, Result, Ok, Err, IfErr, IfOk, IfSome, OnErr, is_some, length, length-append, inl, refl, sym, subst, ap, ◌∙◌, arith}
use Rattle.std.proofs.lemmas.List.{append_assoc}
use Rattle.pm_model.specs.declared.event.Line.{Line}
use Rattle.pm_model.specs.declared.plan.Plan.{Plan}
use Rattle.pm_model.specs.FirstBad.{StandsFor, is_format2}
use Rattle.pm_model.specs.Lawful.{IsLawful, is_finished}
use Rattle.pm_model.specs.NoWhy as model
use Rattle.pm_model.specs.NoWhy.{IsWhy, is_within_line}
use Rattle.pm_model.specs.Spelling.{newline}
use Rattle.pm_model.specs.Verdict.{IsVerdict, No, YesFinished, YesOpen}
use Rattle.pm_model.specs.World.{world}
use Rattle.pm_law_texts.proofs.Behind.{cut_behind, format_kept, no_header}
use Rattle.pm_law_texts.proofs.Bytes.{append_none}
use Rattle.pm_law_texts.proofs.WhyBad.{reason_first}
use Rattle.pm_book.specs.Judging.{JudgeStandsFor, Judged}
use Rattle.pm_book.specs.Takings.{TakerStandsFor, Takings}
use Rattle.pm_audit.specs.Readings.{ReaderStandsFor, Reading, reading_of}
use Rattle.pm_audit.specs.Auditing.{AuditorStandsFor, HasRead, IsGood, IsGoodSoFar, IsRead, IsRest, IsTaken, IsToldBy, IsWhole, SaysOf, reason_of, rest_with, told_of}
use Rattle.pm_book.specs.Pages.{Pages}
use Rattle.pm_audit.specs.Loading.{AreLoaded, IsRefused}
use Rattle.pm_audit.specs.declared.loading.LoadFault.{LoadFault}
use Rattle.pm_audit.specs.declared.loading.LoadFault.TheVariants as fault
use Rattle.pm_audit.specs.Offers.{HasTakenFirst}
use Rattle.pm_audit.specs.declared.auditor.Auditor.{Auditor}
use Rattle.pm_audit.specs.declared.auditor.BadLine.{BadLine}
use Rattle.pm_audit.specs.declared.reading.Format.{Format}
use Rattle.pm_audit.specs.declared.reading.Format.TheVariants as format
use Rattle.pm_audit.specs.declared.reading.NoWhy.{NoWhy}
use Rattle.pm_audit.proofs.Taking.{rest_on, take_one, take_two, within_on}

-- while no line is bad, and once one is
good_of : {A : Type 0} (S : A → List Line → Type 0) (a : Auditor A) (b : List ℕ) → is_some a.bad ≡ false → AuditorStandsFor S a b → IsGoodSoFar S a b
good_of S a b none says = go a.bad none says
  where
    go : (o : Option BadLine) → is_some o ≡ false → SaysOf S a o b → IsGoodSoFar S a b
    go None is good = good
    go (Some bad) is says_it = cc is

says_good : {A : Type 0} (S : A → List Line → Type 0) (a : Auditor A) (b : List ℕ) → is_some a.bad ≡ false → IsGoodSoFar S a b → AuditorStandsFor S a b
says_good S a b none good = go a.bad none
  where
    go : (o : Option BadLine) → is_some o ≡ false → SaysOf S a o b
    go None is = good
    go (Some bad) is = cc is

more_says : {A : Type 0} (S : A → List Line → Type 0) (a : Auditor A) (b x : List ℕ) (bad : BadLine) → SaysOf S a (Some bad) b → SaysOf S a (Some bad) (b ++ x)
more_says S a b x bad says = λ more. subst (λ (bytes : List ℕ). IsWhy a.reader.judge.plan bytes bad.line (reason_of bad.why)) (sym (append_assoc b x more)) (says (x ++ more))

pub says_on : {A : Type 0} (S : A → List Line → Type 0) (a : Auditor A) (b x : List ℕ) → is_some a.bad ≡ true → AuditorStandsFor S a b → AuditorStandsFor S a (b ++ x)
says_on S a b x some says = go a.bad some says
  where
    go : (o : Option BadLine) → is_some o ≡ true → SaysOf S a o b → SaysOf S a o (b ++ x)
    go None is says_it = cc is
    go (Some bad) is says_it = more_says S a b x bad says_it

-- the rest goes on
keep_good : {A : Type 0} (S : A → List Line → Type 0) (a : Auditor A) (b piece : List ℕ) → is_within_line piece ≡ true → IsGoodSoFar S a b → IsGoodSoFar S (record a { rest = rest_with a.rest piece }) (b ++ piece)
keep_good S a b piece within g = record {
  whole = g.whole;
  list = g.list;
  rest = g.rest ++ piece;
  bytes_are = ap (λ x. x ++ piece) g.bytes_are ∙ append_assoc g.whole g.rest piece;
  good = g.good;
  within = within_on g.rest piece g.within within;
  kept = rest_on a.rest g.rest piece g.kept;
}

pub keep_says : {A : Type 0} (S : A → List Line → Type 0) (a : Auditor A) (b piece : List ℕ) → is_within_line piece ≡ true → AuditorStandsFor S a b → AuditorStandsFor S (record a { rest = rest_with a.rest piece }) (b ++ piece)
keep_says S a b piece within says = go a.bad says
  where
    go : (o : Option BadLine) → SaysOf S a o b → SaysOf S (record a { rest = rest_with a.rest piece }) o (b ++ piece)
    go None good = keep_good S a b piece within good
    go (Some bad) says_it = more_says S a b piece bad says_it

-- a line ends
abbrev pub Takes : {A : Type 0} → (A → List Line → Type 0) → Auditor A → Auditor A → List ℕ → Option NoWhy → Type 0
Takes S a new piece r =
    (whole begun : List ℕ) (h : List Line) → IsRest a.rest begun → is_within_line begun ≡ true → IsGood S a.reader.judge.plan a.reader a.format whole h
    → IsTaken S a.reader.judge.plan whole h (begun ++ piece) new.format new.reader r

joined : (whole rest piece b : List ℕ) → b ≡ whole ++ rest → b ++ (piece ++ newline) ≡ whole ++ ((rest ++ piece) ++ newline)
joined whole rest piece b is =
    ap (λ x. x ++ (piece ++ newline)) is ∙ (append_assoc whole rest (piece ++ newline) ∙ ap (λ x. whole ++ x) (sym (append_assoc rest piece newline)))

pub line_good : {A : Type 0} (S : A → List Line → Type 0) (a new : Auditor A) (b piece : List ℕ) → is_some a.bad ≡ false → Takes S a new piece None → new.rest ≡ Some [] → new.reader.judge.plan ≡ a.reader.judge.plan → new.bad ≡ a.bad
    → AuditorStandsFor S a b → AuditorStandsFor S new (b ++ (piece ++ newline))
line_good S a new b piece none takes empty plan same says =
    let g = good_of S a b none says in
    let taken = takes g.whole g.rest g.list g.kept g.within g.good in
    let whole = g.whole ++ ((g.rest ++ piece) ++ newline) in
    says_good S new (b ++ (piece ++ newline)) (ap (λ o. is_some o) same ∙ none) (record {
      whole = whole;
      list = taken.0;
      rest = [];
      bytes_are = joined g.whole g.rest piece b g.bytes_are ∙ sym (append_none whole);
      good = subst (λ (p : Plan). IsGood S p new.reader new.format whole taken.0) (sym plan) taken.1;
      within = refl;
      kept = subst (λ (o : Option (List ℕ)). IsRest o []) (sym empty) refl;
    })

pub line_bad : {A : Type 0} (S : A → List Line → Type 0) (a new : Auditor A) (b piece : List ℕ) (w : NoWhy) → is_some a.bad ≡ false → Takes S a new piece (Some w) → new.reader.judge.plan ≡ a.reader.judge.plan
    → new.bad ≡ Some (record { line = a.reader.judge.lines + 1; why = w }) → AuditorStandsFor S a b → AuditorStandsFor S new (b ++ (piece ++ newline))
line_bad S a new b piece w none takes plan bad says =
    let g = good_of S a b none says in
    let taken = takes g.whole g.rest g.list g.kept g.within g.good in
    let lines : a.reader.judge.lines ≡ length g.list = g.good.taken.judged.lines_are in
    let number : suc (length g.list) ≡ a.reader.judge.lines + 1 = omega (arith, lines) in
    let whole = g.whole ++ ((g.rest ++ piece) ++ newline) in
    let bytes : (more : List ℕ) → g.whole ++ ((g.rest ++ piece) ++ (newline ++ more)) ≡ (b ++ (piece ++ newline)) ++ more = λ more.
    sym (ap (λ x. x ++ more) (joined g.whole g.rest piece b g.bytes_are)
    ∙ (append_assoc g.whole ((g.rest ++ piece) ++ newline) more ∙ ap (λ x. g.whole ++ x) (append_assoc (g.rest ++ piece) newline more))) in
    let says_it : SaysOf S new (Some (record { line = a.reader.judge.lines + 1; why = w })) (b ++ (piece ++ newline)) = λ more.
    subst (λ (p : Plan). IsWhy p ((b ++ (piece ++ newline)) ++ more) (a.reader.judge.lines + 1) (reason_of w)) (sym plan)
    (subst (λ n. IsWhy a.reader.judge.plan ((b ++ (piece ++ newline)) ++ more) n (reason_of w)) number
    (subst (λ (x : List ℕ). IsWhy a.reader.judge.plan x (suc (length g.list)) (reason_of w)) (bytes more) (taken more))) in
    subst (λ (o : Option BadLine). SaysOf S new o (b ++ (piece ++ newline))) (sym bad) says_it

-- at the end
pub end_bad : {A : Type 0} (S : A → List Line → Type 0) (a : Auditor A) (b : List ℕ) (bad : BadLine) → Some bad ≡ a.bad → AuditorStandsFor S a b → IsVerdict a.reader.judge.plan b (No bad.line (reason_of bad.why))
end_bad S a b bad is says =
    let here : SaysOf S a (Some bad) b = subst (λ (o : Option BadLine). SaysOf S a o b) (sym is) says in
    let reason = subst (λ (x : List ℕ). IsWhy a.reader.judge.plan x bad.line (reason_of bad.why)) (append_none b) (here []) in
    (reason_first a.reader.judge.plan b bad.line (reason_of bad.why) reason, reason)

none_kept : (kept : Option (List ℕ)) → IsRest kept [] → kept ≡ Some []
none_kept None is = absurd (omega (arith, is))
none_kept (Some k) is = ap (λ x. Some x) (sym is)

format_at_end : (plan : Plan) (whole rest : List ℕ) (h : List Line) (f : Format) → StandsFor plan whole h → IsToldBy f whole → is_within_line rest ≡ true → is_format2 (whole ++ rest) ≡ is_format2 whole
format_at_end plan whole rest h format.Untold stands told within = subst (λ (w : List ℕ). is_format2 (w ++ rest) ≡ is_format2 w) (sym told) (no_header rest within)
format_at_end plan whole rest h format.One stands told within = format_kept plan whole rest h stands told.0
format_at_end plan whole rest h format.Two stands told within = format_kept plan whole rest h stands told.0

-- a rest behind whole lines is cut, and so the first bad line
pub cut_bad : (plan : Plan) (whole rest b : List ℕ) (h : List Line) (n : ℕ) → IsLawful plan h → StandsFor plan whole h → is_format2 (whole ++ rest) ≡ is_format2 whole
    → is_within_line rest ≡ true → rest ≢ [] → b ≡ whole ++ rest → n ≡ suc (length h) → IsVerdict plan b (No n model.Cut)
cut_bad plan whole rest b h n lawful stands told within some is number =
    let cut = cut_behind plan whole rest h lawful stands told within some in
    let there : IsWhy plan (whole ++ rest) (suc (length h)) model.Cut = (h, rest, cut.0, cut.1) in
    let reason = subst (λ k. IsWhy plan b k model.Cut) (sym number) (subst (λ (x : List ℕ). IsWhy plan x (suc (length h)) model.Cut) (sym is) there) in
    (reason_first plan b n model.Cut reason, reason)

pub end_cut : {A : Type 0} (S : A → List Line → Type 0) (a : Auditor A) (b : List ℕ) → is_some a.bad ≡ false → (a.rest ≡ Some [] → ⊥) → AuditorStandsFor S a b → IsVerdict a.reader.judge.plan b (No (a.reader.judge.lines + 1) model.Cut)
end_cut S a b none some says =
    let g = good_of S a b none says in
    let left : g.rest ≢ [] = λ empty. some (none_kept a.rest (subst (λ (x : List ℕ). IsRest a.rest x) empty g.kept)) in
    let lines : a.reader.judge.lines ≡ length g.list = g.good.taken.judged.lines_are in
    cut_bad a.reader.judge.plan g.whole g.rest b g.list (a.reader.judge.lines + 1) g.good.lawful g.good.stands (format_at_end a.reader.judge.plan g.whole g.rest g.list a.format g.good.stands g.good.told g.within) g.within left
    g.bytes_are (omega (arith, lines))

pub not_empty : (kept : Option (List ℕ)) (b : Bool) → (b ≡ true → kept ≡ Some []) × (kept ≡ Some [] → b ≡ true) → b ≡ false → kept ≡ Some [] → ⊥
not_empty kept b told some is = let empty = told.1 is in cc (empty, some)

-- the whole bytes are the text of the list
pub whole_of : {A : Type 0} (S : A → List Line → Type 0) (a : Auditor A) (b : List ℕ) → is_some a.bad ≡ false → a.rest ≡ Some [] → AuditorStandsFor S a b → IsWhole a.reader.judge.plan (ReaderStandsFor S a.reader) b
whole_of S a b none empty says =
    let g = good_of S a b none says in
    let rest : g.rest ≡ [] = subst (λ (o : Option (List ℕ)). IsRest o g.rest) empty g.kept in
    let same : b ≡ g.whole = g.bytes_are ∙ (ap (λ x. g.whole ++ x) rest ∙ append_none g.whole) in
    record { list = g.list; lawful = g.good.lawful; stands = subst (λ (x : List ℕ). StandsFor a.reader.judge.plan x g.list) (sym same) g.good.stands; taken = g.good.taken }

pub end_finished : {A : Type 0} (S : A → List Line → Type 0) (t : Reading A) (b : List ℕ) → IsWhole t.judge.plan (ReaderStandsFor S t) b
    → ((h : List Line) → JudgeStandsFor t.judge h → true ≡ is_finished t.judge.plan (world t.judge.plan h)) → IsVerdict t.judge.plan b YesFinished
end_finished S t b whole finished = (whole.list, whole.lawful, whole.stands, sym (finished whole.list whole.taken.judged))

pub end_open : {A : Type 0} (S : A → List Line → Type 0) (t : Reading A) (b : List ℕ) → IsWhole t.judge.plan (ReaderStandsFor S t) b
    → ((h : List Line) → JudgeStandsFor t.judge h → false ≡ is_finished t.judge.plan (world t.judge.plan h)) → IsVerdict t.judge.plan b YesOpen
end_open S t b whole open_still =
    let still = open_still whole.list whole.taken.judged in
    (whole.list, whole.lawful, whole.stands, λ finished. cc (still, finished))

-- what took the lines of whole bytes
pub taken_whole : {A : Type 0} (S : A → List Line → Type 0) (judged : A → Judged) (subject : A → ℕ) (r : Reading A) (taker : A) (b : List ℕ) → r ≡ reading_of judged subject taker
    → IsWhole r.judge.plan (ReaderStandsFor S r) b → IsWhole r.judge.plan (S taker) b
taken_whole {A} S judged subject r taker b same whole =
    record { list = whole.list; lawful = whole.lawful; stands = whole.stands; taken = subst (λ (x : Reading A). S x.taker whole.list) same whole.taken.taken }

-- a book of the lines that are kept
pub loaded_as : (plan : Plan) (t : Takings) (b : List ℕ) (p : Pages) → IsWhole plan (TakerStandsFor t) b → p.plan ≡ plan → t.kept ≡ Some p.lines → AreLoaded plan b p
loaded_as plan t b p whole plan_is kept =
    let same : p.lines ≡ whole.list = subst (λ (o : Option (List Line)). IfSome o (λ lines. lines ≡ whole.list)) kept whole.taken.kept in
    record {
      plan_is = plan_is;
      lawful = subst (λ (l : List Line). IsLawful plan l) (sym same) whole.lawful;
      stands = subst (λ (l : List Line). StandsFor plan b l) (sym same) whole.stands;
    }

-- an auditor that was fed nothing
pub starts : {A : Type 0} (S : A → List Line → Type 0) (a : Auditor A) → a.bad ≡ None → a.rest ≡ Some [] → a.format ≡ format.Untold → ReaderStandsFor S a.reader [] → AuditorStandsFor S a []
starts S a none empty untold taken =
    says_good S a [] (ap (λ o. is_some o) none) (record {
      whole = [];
      list = [];
      rest = [];
      bytes_are = refl;
      good = record { lawful = tt; taken = taken; stands = inl (refl, refl); told = subst (λ (f : Format). IsToldBy f []) (sym untold) refl };
      within = refl;
      kept = subst (λ (o : Option (List ℕ)). IsRest o []) (sym empty) refl;
    })

-- a piece is read line by line: so much of it is done
pub reads_none : {A : Type 0} (S : A → List Line → Type 0) (piece : List ℕ) (a : Auditor A) → HasRead S piece piece a a
reads_none S piece a = record { done = []; split = refl; stands = λ b says. subst (λ (x : List ℕ). AuditorStandsFor S a x) (sym (append_none b)) says; plan = refl; same = refl }

pub shorter : (left line left' : List ℕ) → left ≡ line ++ (10 ∷ left') → length left' < length left
shorter left line left' is = let all = ap length is ∙ length-append line (10 ∷ left') in omega (arith, all)

-- a line, of this piece and a newline
pub reads_line : {A : Type 0} (S : A → List Line → Type 0) (left line left' : List ℕ) (old new : Auditor A) → left ≡ line ++ (10 ∷ left') → ((b : List ℕ) → AuditorStandsFor S old b → AuditorStandsFor S new (b ++ (line ++ newline)))
    → new.reader.judge.plan ≡ old.reader.judge.plan → new.reader.subject ≡ old.reader.subject → HasRead S left left' old new
reads_line S left line left' old new is ends plan same = record { done = line ++ newline; split = is ∙ sym (append_assoc line newline left'); stands = ends; plan = plan; same = same }

-- the first line of the bytes is the one that may come next: no rest is before it, and the format is told
told_takes : {A : Type 0} (S : A → List Line → Type 0) (a : Auditor A) (taker : Reading A) (f : Bool) (piece : List ℕ) → a.rest ≡ Some [] → Some f ≡ told_of a.format → is_within_line piece ≡ true
    → ((h : List Line) → IsLawful a.reader.judge.plan h → ReaderStandsFor S a.reader h → IsRead f a.reader.judge.plan h piece (ReaderStandsFor S taker) None) → Takes S a (record a { reader = taker }) piece None
told_takes S a taker f piece empty told within read = λ whole begun h kept inside good.
    let none : begun ≡ [] = subst (λ (o : Option (List ℕ)). IsRest o begun) empty kept in
    subst (λ (l : List ℕ). IsTaken S a.reader.judge.plan whole h (l ++ piece) a.format taker None) (sym none) (go whole h a.format refl told good)
  where
    go : (whole : List ℕ) (h : List Line) (fm : Format) → a.format ≡ fm → Some f ≡ told_of fm → IsGood S a.reader.judge.plan a.reader a.format whole h → IsTaken S a.reader.judge.plan whole h piece a.format taker None
    go whole h format.Untold is says good = cc says
    go whole h format.One is says good =
        let one : f ≡ false = cc says in
        let its = subst (λ (x : Bool). IsRead x a.reader.judge.plan h piece (ReaderStandsFor S taker) None) one (read h good.lawful good.taken) in
        subst (λ (x : Format). IsTaken S a.reader.judge.plan whole h piece x taker None) (sym is)
        (take_one S a.reader.judge.plan whole piece h a.reader taker None (subst (λ (x : Format). IsGood S a.reader.judge.plan a.reader x whole h) is good) within its)
    go whole h format.Two is says good =
        let two : f ≡ true = cc says in
        let its = subst (λ (x : Bool). IsRead x a.reader.judge.plan h piece (ReaderStandsFor S taker) None) two (read h good.lawful good.taken) in
        subst (λ (x : Format). IsTaken S a.reader.judge.plan whole h piece x taker None) (sym is)
        (take_two S a.reader.judge.plan whole piece h a.reader taker None (subst (λ (x : Format). IsGood S a.reader.judge.plan a.reader x whole h) is good) within its)

pub reads_offered : {A : Type 0} (S : A → List Line → Type 0) (a : Auditor A) (taker : Reading A) (f : Bool) (bytes behind : List ℕ) → is_some a.bad ≡ false → a.rest ≡ Some [] → Some f ≡ told_of a.format → HasTakenFirst S f a.reader taker bytes behind
    → HasRead S bytes behind a (record a { reader = taker })
reads_offered S a taker f bytes behind none empty told first =
    let new = record a { reader = taker } in
    let takes = told_takes S a taker f first.piece empty told first.begins.within first.read in
    reads_line S bytes first.piece behind a new first.begins.split (λ b says. line_good S a new b first.piece none takes empty first.plan refl says) first.plan first.same

-- what is left is no longer than the piece
pub no_longer : {A : Type 0} (S : A → List Line → Type 0) (piece left : List ℕ) (old new : Auditor A) → HasRead S piece left old new → length left ≤ length piece
no_longer S piece left old new has = let all = ap length has.split ∙ length-append has.done left in omega (arith, all)

pub reads_on : {A : Type 0} (S : A → List Line → Type 0) (piece left left' : List ℕ) (old mid new : Auditor A) → HasRead S piece left old mid → HasRead S left left' mid new → HasRead S piece left' old new
reads_on S piece left left' old mid new has more = record {
  done = has.done ++ more.done;
  split = has.split ∙ (ap (λ x. has.done ++ x) more.split ∙ sym (append_assoc has.done more.done left'));
  stands = λ b says. subst (λ (x : List ℕ). AuditorStandsFor S new x) (append_assoc b has.done more.done) (more.stands (b ++ has.done) (has.stands b says));
  plan = more.plan ∙ has.plan;
  same = more.same ∙ has.same;
}

pub reads_all : {A : Type 0} (S : A → List Line → Type 0) (piece left : List ℕ) (old mid new : Auditor A) → HasRead S piece left old mid → ((b : List ℕ) → AuditorStandsFor S mid b → AuditorStandsFor S new (b ++ left))
    → (b : List ℕ) → AuditorStandsFor S old b → AuditorStandsFor S new (b ++ piece)
reads_all S piece left old mid new has keeps b says =
    subst (λ (x : List ℕ). AuditorStandsFor S new x) (append_assoc b has.done left ∙ ap (λ x. b ++ x) (sym has.split)) (keeps (b ++ has.done) (has.stands b says))

-- with a reader that is equal
pub read_as : {A : Type 0} (S : A → List Line → Type 0) (piece left : List ℕ) (old new : Auditor A) (r : Reading A) → r ≡ new.reader → HasRead S piece left old new → HasRead S piece left old (record new { reader = r })
read_as {A} S piece left old new r same has = subst (λ (x : Reading A). HasRead S piece left old (record new { reader = x })) (sym same) has

-- what goes on from an auditor does from one that is equal
pub goes_from : {A : Type 0} (S : A → List Line → Type 0) (x y new : Auditor A) (left : List ℕ) → x ≡ y → ((b : List ℕ) → AuditorStandsFor S x b → AuditorStandsFor S new (b ++ left))
    → (b : List ℕ) → AuditorStandsFor S y b → AuditorStandsFor S new (b ++ left)
goes_from {A} S x y new left same goes = subst (λ (z : Auditor A). (b : List ℕ) → AuditorStandsFor S z b → AuditorStandsFor S new (b ++ left)) same goes

-- a reader that has taken nothing
pub starts_of : {A : Type 0} (S : A → List Line → Type 0) (judged : A → Judged) (subject : A → ℕ) (r : Reading A) (taker : A) → ((t : A) (h : List Line) → S t h → JudgeStandsFor (judged t) h)
    → r ≡ reading_of judged subject taker → S taker [] → ReaderStandsFor S r []
starts_of {A} S judged subject r taker judges same none = subst (λ (x : Reading A). ReaderStandsFor S x []) (sym same) (record { judged = judges taker [] none; taken = none })

-- the book of what took the lines
pub loaded_books : (plan : Plan) (t : Takings) (Says : List ℕ → Type 0) (r : Result Pages LoadFault) → t.judge.plan ≡ plan → ((b : List ℕ) → Says b → IsWhole plan (TakerStandsFor t) b)
    → IfOk r (λ p. p.plan ≡ t.judge.plan) → IfOk r (λ p. t.kept ≡ Some p.lines) → IfOk r (λ p. (b : List ℕ) → Says b → AreLoaded plan b p)
loaded_books plan t Says (Ok p) same whole plan_is kept = λ b says. loaded_as plan t b p (whole b says) (plan_is ∙ same) kept
loaded_books plan t Says (Err f) same whole plan_is kept = tt

pub no_book : (plan : Plan) (Says : List ℕ → Type 0) (r : Result Pages LoadFault) → OnErr r (r ≡ Err fault.NoMemory) → IfErr r (λ f. (b : List ℕ) → Says b → IsRefused plan b f)
no_book plan Says (Ok p) none = tt
no_book plan Says (Err f) none = subst (λ (r : Result Pages LoadFault). IfErr r (λ x. (b : List ℕ) → Says b → IsRefused plan b x)) (sym none) (λ b says. tt)
