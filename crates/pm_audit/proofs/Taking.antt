-- What becomes of whole lines with one more.
use Rattle.std.proofs.Common.{ℕ, suc, ◌≡◌, ◌≢◌, ◌<◌, ◌≤◌, ◌-◌, Bool, true, false, List, [], ◌∷◌, ◌++◌, codes, Option, Some, None, length, nat_le, if◌then◌else◌, inl, inr, refl, sym, subst, ap, ◌∙◌, arith, length-append}
use Rattle.std.proofs.lemmas.Bool.{and_from, false_from_ne_true}
use Rattle.std.proofs.lemmas.Bool.Decides.{nat_tests}
use Rattle.std.proofs.lemmas.List.{append_cancel_right}
use Rattle.std.proofs.lemmas.List.Folds.{list_all-append}
use Rattle.pm_base.specs.declared.limits.TheConstants.{TEXT_BYTES}
use Rattle.pm_linetext.proofs.Lengths.{text_len}
use Rattle.pm_model.specs.declared.event.Line.{Line}
use Rattle.pm_model.specs.declared.plan.Plan.{Plan}
use Rattle.pm_model.specs.FirstBad.{StandsFor, is_format2}
use Rattle.pm_model.specs.Lawful.{IsLawful, last_time}
use Rattle.pm_model.specs.NoWhy.{IsLineBehind, IsWhy, is_within_line}
use Rattle.pm_model.specs.Spelling.{newline}
use Rattle.pm_model.specs.Text.{IsTextBehind}
use Rattle.pm_law_texts.proofs.Behind.{format_kept, header_line, piece_behind}
use Rattle.pm_law_texts.proofs.Bytes.{none_empty}
use Rattle.pm_law_texts.proofs.Formats.{IsTextIn, only_list, stands_for, text_by_format, text_more}
use Rattle.pm_audit.specs.Readings.{ReaderStandsFor, Reading}
use Rattle.pm_audit.specs.Auditing.{IsBad, IsGood, IsRead, IsRest, IsTaken, IsToldBy, reason_of, rest_with}
use Rattle.pm_audit.specs.declared.reading.Format.{Format}
use Rattle.pm_audit.specs.declared.reading.Format.TheVariants as format
use Rattle.pm_audit.specs.declared.reading.NoWhy.{NoWhy}
use Rattle.pm_audit.specs.declared.reading.NoWhy.TheVariants as why
use Rattle.pm_audit.specs.declared.rest.TheConstants.{REST_BYTES}

abbrev pub word : List ℕ
word = codes "pm_trace 2"

-- the format is that of the whole lines, whatever follows the next one
abbrev StaysTold : List ℕ → List ℕ → Bool → Type 0
StaysTold whole piece two = (is_format2 whole ≡ two) × ((more : List ℕ) → is_format2 (whole ++ (piece ++ (newline ++ more))) ≡ two)

some_told : (plan : Plan) (whole piece : List ℕ) (h : List Line) (two : Bool) → StandsFor plan whole h → whole ≢ [] → is_format2 whole ≡ two → StaysTold whole piece two
some_told plan whole piece h two stands some is = (is, λ more. format_kept plan whole (piece ++ (newline ++ more)) h stands some ∙ is)

none_told : (whole piece : List ℕ) → whole ≡ [] → is_within_line piece ≡ true → piece ≢ word → StaysTold whole piece false
none_told whole piece none within other =
    subst (λ (w : List ℕ). StaysTold w piece false) (sym none)
    (refl, λ more. false_from_ne_true (is_format2 (piece ++ (newline ++ more))) (λ is. other (append_cancel_right piece word newline (header_line piece more within is))))

abbrev pub is_two : Format → Bool
is_two format.Two = true
is_two _ = false

stays_told : (plan : Plan) (whole piece : List ℕ) (h : List Line) (f : Format) → StandsFor plan whole h → IsToldBy f whole → is_within_line piece ≡ true → piece ≢ word → StaysTold whole piece (is_two f)
stays_told plan whole piece h format.Untold stands told within other = none_told whole piece told within other
stays_told plan whole piece h format.One stands told within other = some_told plan whole piece h false stands told.0 told.1
stays_told plan whole piece h format.Two stands told within other = some_told plan whole piece h true stands told.0 told.1

-- the next line is behind those, in their format
line_behind : (plan : Plan) (whole piece more : List ℕ) (h : List Line) (two : Bool) (line : Line) → IsLawful plan h → StandsFor plan whole h → is_within_line piece ≡ true → is_format2 whole ≡ two
    → is_format2 (whole ++ (piece ++ (newline ++ more))) ≡ two → IsTextBehind two plan (last_time h) line piece → IsLineBehind plan (whole ++ (piece ++ (newline ++ more))) (suc (length h)) h line
line_behind plan whole piece more h two line lawful stands within here there spelled =
    let behind = piece_behind plan whole piece more h lawful stands (there ∙ sym here) within in
    record { before = behind.0; piece = piece; is_piece = behind.1; spelled = subst (λ b. IsTextBehind b plan (last_time h) line piece) (sym there) spelled }

-- so what is wrong with it is why it is the first bad one
pub why_bad : (plan : Plan) (whole piece more : List ℕ) (h : List Line) (two : Bool) (w : NoWhy) → IsLawful plan h → StandsFor plan whole h → is_within_line piece ≡ true → is_format2 whole ≡ two
    → is_format2 (whole ++ (piece ++ (newline ++ more))) ≡ two → IsBad two plan h piece w → IsWhy plan (whole ++ (piece ++ (newline ++ more))) (suc (length h)) (reason_of w)
why_bad plan whole piece more h two why.Cut lawful stands within here there bad = absurd bad
why_bad plan whole piece more h two why.Text lawful stands within here there none =
    let behind = piece_behind plan whole piece more h lawful stands (there ∙ sym here) within in
    record {
      h = h;
      before = behind.0;
      piece = piece;
      is_piece = behind.1;
      no_text = λ line spelled. none line (subst (λ b. IsTextBehind b plan (last_time h) line piece) there spelled);
    }
why_bad plan whole piece more h two why.Limit lawful stands within here there (line, spelled, full) =
    (h, line, line_behind plan whole piece more h two line lawful stands within here there spelled, omega (arith, full))
why_bad plan whole piece more h two why.Step lawful stands within here there (line, spelled, room, never) =
    (h, line, line_behind plan whole piece more h two line lawful stands within here there spelled, omega (arith, room), never)
why_bad plan whole piece more h two why.Time lawful stands within here there (line, spelled, room, sometime, not_now) =
    (h, line, line_behind plan whole piece more h two line lawful stands within here there spelled, omega (arith, room), sometime, not_now)

told_after : (f : Format) (whole piece : List ℕ) → is_format2 (whole ++ (piece ++ newline)) ≡ is_two f → (f ≡ format.Untold → ⊥) → IsToldBy f (whole ++ (piece ++ newline))
told_after format.Untold whole piece is told = absurd (told refl)
told_after format.One whole piece is told = (λ none. none_empty whole piece none, is)
told_after format.Two whole piece is told = (λ none. none_empty whole piece none, is)

taken_by : {A : Type 0} (S : A → List Line → Type 0) (plan : Plan) (whole piece : List ℕ) (h : List Line) (f : Format) (two : Bool) (taker after : Reading A) (f' : Format) (r : Option NoWhy) → IsGood S plan taker f whole h → is_within_line piece ≡ true
    → StaysTold whole piece two → two ≡ is_two f' → (f' ≡ format.Untold → ⊥) → IsRead two plan h piece (ReaderStandsFor S after) r → IsTaken S plan whole h piece f' after r
taken_by S plan whole piece h f two taker after f' None good within told same some (next, judged) =
    let text = text_more two plan whole piece next.line h (subst (λ b. IsTextIn b plan whole h) told.0 (text_by_format plan whole h good.stands)) next.spelled in (
      next.line ∷ h,
      record {
        lawful = (next.permits, next.room, good.lawful);
        taken = judged;
        stands = stands_for two plan (whole ++ (piece ++ newline)) (next.line ∷ h) text;
        told = told_after f' whole piece (told.1 [] ∙ same) some;
      },
    )
taken_by S plan whole piece h f two taker after f' (Some w) good within told same some bad = λ more.
    why_bad plan whole piece more h two w good.lawful good.stands within told.0 (told.1 more) bad

-- by what is read, in each format
pub take_first : {A : Type 0} (S : A → List Line → Type 0) (plan : Plan) (whole piece : List ℕ) (h : List Line) (taker after : Reading A) (r : Option NoWhy) → IsGood S plan taker format.Untold whole h → is_within_line piece ≡ true → piece ≢ word
    → IsRead false plan h piece (ReaderStandsFor S after) r → IsTaken S plan whole h piece format.One after r
take_first S plan whole piece h taker after r good within other read =
    taken_by S plan whole piece h format.Untold false taker after format.One r good within (none_told whole piece good.told within other) refl (λ e. cc e) read

pub take_one : {A : Type 0} (S : A → List Line → Type 0) (plan : Plan) (whole piece : List ℕ) (h : List Line) (taker after : Reading A) (r : Option NoWhy) → IsGood S plan taker format.One whole h → is_within_line piece ≡ true
    → IsRead false plan h piece (ReaderStandsFor S after) r → IsTaken S plan whole h piece format.One after r
take_one S plan whole piece h taker after r good within read =
    taken_by S plan whole piece h format.One false taker after format.One r good within (some_told plan whole piece h false good.stands good.told.0 good.told.1) refl (λ e. cc e) read

pub take_two : {A : Type 0} (S : A → List Line → Type 0) (plan : Plan) (whole piece : List ℕ) (h : List Line) (taker after : Reading A) (r : Option NoWhy) → IsGood S plan taker format.Two whole h → is_within_line piece ≡ true
    → IsRead true plan h piece (ReaderStandsFor S after) r → IsTaken S plan whole h piece format.Two after r
take_two S plan whole piece h taker after r good within read =
    taken_by S plan whole piece h format.Two true taker after format.Two r good within (some_told plan whole piece h true good.stands good.told.0 good.told.1) refl (λ e. cc e) read

-- the header
took_header : {A : Type 0} (S : A → List Line → Type 0) (plan : Plan) (taker : Reading A) → ReaderStandsFor S taker [] → IsGood S plan taker format.Two (word ++ newline) []
took_header S plan taker judged = record { lawful = tt; taken = judged; stands = inr (refl, tt, refl); told = (λ none. cc none, refl) }

pub take_header : {A : Type 0} (S : A → List Line → Type 0) (plan : Plan) (whole piece : List ℕ) (h : List Line) (taker : Reading A) → IsGood S plan taker format.Untold whole h → piece ≡ word → IsTaken S plan whole h piece format.Two taker None
take_header S plan whole piece h taker good is =
    let none : whole ≡ [] = good.told in
    let empty : h ≡ [] = only_list plan [] h [] (subst (λ (w : List ℕ). StandsFor plan w h) none good.stands) (inl (refl, refl)) in
    let Good : List ℕ → List ℕ → Type 0 = λ w p. IsGood S plan taker format.Two (w ++ (p ++ newline)) [] in
    let at_none : Good [] word = took_header S plan taker (subst (λ (l : List Line). ReaderStandsFor S taker l) empty good.taken) in
    ([], subst (λ w. Good w piece) (sym none) (subst (λ p. Good [] p) (sym is) at_none))

-- a line that is longer than a rest that is kept
text_within : (two : Bool) (plan : Plan) (base : ℕ) (line : Line) (piece : List ℕ) → IsTextBehind two plan base line piece → length piece ≤ TEXT_BYTES
text_within true plan base line piece (is, later, same) = subst (λ (p : List ℕ). length p ≤ TEXT_BYTES) same (text_len plan line (line.time - base) is (omega arith))
text_within false plan base line piece (is, same) = subst (λ (p : List ℕ). length p ≤ TEXT_BYTES) same (text_len plan line line.time is (omega arith))

pub take_long : {A : Type 0} (S : A → List Line → Type 0) (plan : Plan) (whole line : List ℕ) (h : List Line) (f f' : Format) (taker after : Reading A) → IsGood S plan taker f whole h → is_within_line line ≡ true → REST_BYTES < length line
    → IsTaken S plan whole h line f' after (Some why.Text)
take_long S plan whole line h f f' taker after good within long =
    let other : line ≢ word = λ is. let same = ap length is in absurd (omega (arith, same, long)) in
    let told = stays_told plan whole line h f good.stands good.told within other in
    λ more.
    why_bad plan whole line more h (is_two f) why.Text good.lawful good.stands within told.0 (told.1 more)
    (λ l spelled. let short = text_within (is_two f) plan (last_time h) l line spelled in absurd (omega (arith, short, long)))

-- a rest goes on
pub rest_on : (kept : Option (List ℕ)) (begun piece : List ℕ) → IsRest kept begun → IsRest (rest_with kept piece) (begun ++ piece)
rest_on None begun piece is = omega (arith, is, length-append begun piece)
rest_on (Some k) begun piece is = subst (λ (b : List ℕ). IsRest (rest_with (Some k) piece) (b ++ piece)) (sym is) (go (nat_le (length (k ++ piece)) REST_BYTES) refl)
  where
    go : (fits : Bool) → nat_le (length (k ++ piece)) REST_BYTES ≡ fits → IsRest (if fits then Some (k ++ piece) else None) (k ++ piece)
    go true e = refl
    go false e = grind (arith, nat_tests)

pub within_on : (begun piece : List ℕ) → is_within_line begun ≡ true → is_within_line piece ≡ true → is_within_line (begun ++ piece) ≡ true
within_on begun piece a b = list_all-append _ begun piece ∙ and_from (is_within_line begun) (is_within_line piece) a b
