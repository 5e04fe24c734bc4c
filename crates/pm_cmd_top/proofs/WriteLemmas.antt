-- What the commands write of a book.
use Rattle.std.proofs.Common.{◌≡◌, ◌∙◌, ℕ, ◌+◌, ◌<◌, ◌≤◌, List, [], ◌++◌, ap, arith, drop, get_or, length, refl, reverse, sym}
use Rattle.std.specs.List.{flat_map}
use Rattle.std.proofs.lemmas.List.{drop_all, drop_more, get_or-map, length-map, reverse-reverse}
use Rattle.pm_account.specs.declared.Times.{Times}
use Rattle.pm_account.specs.declared.stay.Stay.{Stay}
use Rattle.pm_account.specs.Account.{IsAccount, no_times}
use Rattle.pm_account.specs.AllKept.{Stayed, account_of}
use Rattle.pm_account.specs.Kept.{stay_at, unsaid, until}
use Rattle.pm_account.specs.Times.{active, moving, suspended}
use Rattle.pm_account.specs.Texts.{account_text, lines_from, times_line}
use Rattle.pm_base.specs.declared.DevId.{DevId}
use Rattle.pm_model.specs.declared.event.Line.{Line}
use Rattle.pm_model.specs.declared.plan.Plan.{Plan}
use Rattle.pm_model.specs.History.{History}
use Rattle.pm_model.specs.Lawful.{IsLawful, last_time}
use Rattle.pm_model.specs.Spelling.{Names, device_name}
use Rattle.pm_model.specs.Text.{names_of, text2}
use Rattle.pm_cmd_ends.specs.Ending.{Done}
use Rattle.pm_why.specs.declared.Reason.{Reason}
use Rattle.pm_model.specs.Views.{Views}
use Rattle.pm_model.specs.World.{world}
use Rattle.pm_why.specs.Reasons.{reasons, reasons_on}
use Rattle.pm_why.specs.Texts.{reasons_text}
use Rattle.pm_cmd_top.specs.TraceCommands.{TimesEnds}

-- the text of a book's lines is that of the lines as they are shown
pub converted : (spelled shown plan : Plan) (lines : List Line) (h : History) → spelled ≡ shown → shown ≡ plan → reverse lines ≡ h → text2 spelled lines ≡ text2 plan (reverse h)
converted spelled shown plan lines h spelled_is shown_is lines_are =
    ap (λ (q : Plan). text2 q lines) (spelled_is ∙ shown_is) ∙ ap (text2 plan) (sym (reverse-reverse lines) ∙ ap (λ (l : List Line). reverse l) lines_are)

-- the next line of times, and those behind it
pub times_more : (names : Names) (account : List Times) (i : ℕ) (d : Times) (piece : List ℕ) → i < length account → piece ≡ times_line (device_name names i) (get_or account i d)
    → lines_from names i (drop i account) ≡ piece ++ lines_from names (i + 1) (drop (i + 1) account)
times_more names account i d piece within is =
    ap (lines_from names i) (drop_more account i d within) ∙ ap (λ p. p ++ lines_from names (i + 1) (drop (i + 1) account)) (sym is)

-- the next of lines, each of an item of a list, and those behind it
pub items_more : {X : Type 0} (f : X → List ℕ) (xs : List X) (i : ℕ) (d : X) (piece : List ℕ) → i < length xs → piece ≡ f (get_or xs i d) → flat_map f (drop i xs) ≡ piece ++ flat_map f (drop (i + 1) xs)
items_more f xs i d piece within is = ap (flat_map f) (drop_more xs i d within) ∙ ap (λ p. p ++ flat_map f (drop (i + 1) xs)) (sym is)

-- the line of the next device, by what is kept of it, and those behind it
pub stays_more : (names : Names) (s : Stayed) (i : ℕ) (t : Times) (piece : List ℕ) → i < length s.stays → t ≡ until (stay_at s.stays (record { 0 = i })) s.last → piece ≡ times_line (device_name names i) t
    → lines_from names i (drop i (account_of s)) ≡ piece ++ lines_from names (i + 1) (drop (i + 1) (account_of s))
stays_more names s i t piece within is spelled =
    times_more names (account_of s) i no_times piece (omega (arith, within, length-map s.stays (λ (stay : Stay). until stay s.last)))
    (spelled ∙ ap (times_line (device_name names i)) (is ∙ sym (get_or-map (λ (stay : Stay). until stay s.last) s.stays i unsaid no_times within)))

-- behind the last device there is none
pub stays_end : (names : Names) (s : Stayed) (n : ℕ) → length s.stays ≤ n → lines_from names n (drop n (account_of s)) ≡ []
stays_end names s n past = ap (lines_from names n) (drop_all n (account_of s) (omega (arith, past, length-map s.stays (λ (stay : Stay). until stay s.last))))

-- the times that are told are those of the list
pub times_ends : (plan : Plan) (h : History) (account : List Times) → IsLawful plan h → IsAccount plan h account
    → ((p : Plan) (g : History) (d : DevId) → IsLawful p g → active g d + suspended g d + moving g d ≡ last_time g) → TimesEnds plan h (Done (account_text (names_of plan) account))
times_ends plan h account lawful is adds = record { account = account; is_account = is; adds_up = λ d. adds plan h d lawful; is = refl }

pub same_account : (shown plan : Plan) (found account : List Times) → shown ≡ plan → found ≡ account → account_text (names_of shown) found ≡ account_text (names_of plan) account
same_account shown plan found account shown_is is = ap (λ (q : Plan). account_text (names_of q) found) shown_is ∙ ap (account_text (names_of plan)) is

-- what keeps a device of a book from suspending, by the plan as it is shown
pub same_reasons : (shown plan : Plan) (h : History) (d : DevId) (found : List Reason) → shown ≡ plan → found ≡ reasons plan h d → reasons_text (names_of shown) found ≡ reasons_text (names_of plan) (reasons plan h d)
same_reasons shown plan h d found shown_is is = ap (λ (q : Plan). reasons_text (names_of q) found) shown_is ∙ ap (reasons_text (names_of plan)) is

-- what was found of a device is what keeps it from suspending after the list
pub reasons_found : (shown plan : Plan) (v : Views) (h : History) (d e : DevId) (found : List Reason) → shown ≡ plan → v ≡ (world plan h).views → e ≡ d → found ≡ reasons_on shown v h e → found ≡ reasons plan h d
reasons_found shown plan v h d e found shown_is views same is =
    is ∙ ap (λ (q : Plan). reasons_on q v h e) shown_is ∙ ap (λ (x : Views). reasons_on plan x h e) views ∙ ap (λ (x : DevId). reasons_on plan (world plan h).views h x) same
