-- What is kept of devices, line by line.
use Rattle.std.proofs.Common.{ℕ, ◌≡◌, ◌+◌, ◌-◌, ◌<◌, ◌≤◌, ◌++◌, All, List, [], ◌∷◌, Option, Some, None, drop, get_or, length, reverse, take, ap, refl, sym, subst, ◌∙◌, arith}
use Rattle.std.specs.Option.{option_map_or}
use Rattle.std.proofs.lemmas.List.{reverse-append, take-append-drop, take_more}
use Rattle.std.proofs.lemmas.List.Elements.{All-from_get_or}
use Rattle.pm_base.specs.declared.DevId.{DevId}
use Rattle.pm_base.specs.declared.Status.{Status}
use Rattle.pm_model.specs.declared.event.Line.{Line}
use Rattle.pm_model.specs.declared.plan.Plan.{Plan}
use Rattle.pm_model.specs.Counted.{says_status, status_of}
use Rattle.pm_model.specs.History.{History}
use Rattle.pm_model.specs.Lawful.{IsLawful, last_time}
use Rattle.pm_account.specs.declared.stay.Stay.{Stay}
use Rattle.pm_account.specs.Kept.{AreKept, IsKept, IsReady, behind, longer, stay_at, turned, unsaid, until}
use Rattle.pm_account.specs.Times.{times_of}
use Rattle.pm_account.proofs.TimesLemmas.{longer_more, longer_none, one_more, total_longer}

until_later : (stay : Stay) (from to : ℕ) → stay.since ≤ from → from ≤ to → until stay to ≡ longer stay.status (to - from) (until stay from)
until_later stay from to past later =
    let parts : to - stay.since ≡ (from - stay.since) + (to - from) = omega arith in
    ap (λ ms. longer stay.status ms stay.before) parts ∙ longer_more stay.status (from - stay.since) (to - from) stay.before

pub turned_is_ready : (stay : Stay) (s : Status) (t : ℕ) → IsReady t stay → IsReady t (turned stay s t)
turned_is_ready stay s t ready = record {
  past = omega arith;
  whole =
      let longer_total = total_longer stay.status (t - stay.since) stay.before in
      omega (arith, longer_total, ready.whole, ready.past);
}

pub ready_later : (stay : Stay) (from to : ℕ) → from ≤ to → IsReady from stay → IsReady to stay
ready_later stay from to later ready = record { past = omega (arith, ready.past); whole = ready.whole }

said_or : Option Status → Status → Status
said_or (Some s) before = s
said_or None before = before

status_now : (line : Line) (h : History) (d : DevId) → status_of (line ∷ h) d ≡ said_or (says_status d line.event) (status_of h d)
unfolding said_or
status_now line h d = go (says_status d line.event)
  where
    go : (o : Option Status) → (elim o [ Some s ↦ s | None ↦ status_of h d ]) ≡ said_or o (status_of h d)
    go (Some s) = refl
    go None = refl

-- one line more
kept_behind : (line : Line) (h : History) (d : DevId) (stay : Stay) → last_time h ≤ line.time → IsKept h d stay → IsKept (line ∷ h) d (behind line d stay)
unfolding said_or
kept_behind line h d stay late kept = go (says_status d line.event) (status_now line h d)
  where
    ready : IsReady line.time stay
    ready = ready_later stay (last_time h) line.time late kept.ready

    times : until stay line.time ≡ times_of (line ∷ h) d
    times =
        until_later stay (last_time h) line.time kept.ready.past late
        ∙ ap (λ s. longer s (line.time - last_time h) (until stay (last_time h))) kept.status
        ∙ ap (λ x. longer (status_of h d) (line.time - last_time h) x) kept.times
        ∙ sym (one_more line h d)

    go : (o : Option Status) → status_of (line ∷ h) d ≡ said_or o (status_of h d)
        → IsKept (line ∷ h) d (option_map_or (λ s. turned stay s line.time) o stay)
    go (Some s) is = record {
      status = sym is;
      ready = turned_is_ready stay s line.time ready;
      times = longer_none s (line.time - line.time) (until stay line.time) (omega arith) ∙ times;
    }
    go None is = record { status = kept.status ∙ sym is; ready = ready; times = times }

pub all_kept_behind : (devices : ℕ) (line : Line) (h : History) (stays after : List Stay) → last_time h ≤ line.time → AreKept devices h stays
    → length after ≡ length stays → ((d : DevId) → d.0 < length stays → stay_at after d ≡ behind line d (stay_at stays d))
    → AreKept devices (line ∷ h) after
all_kept_behind devices line h stays after late kept same each = record {
  entries = same ∙ kept.entries;
  each = λ d within.
      subst (λ stay. IsKept (line ∷ h) d stay) (sym (each d (omega (arith, kept.entries)))) (kept_behind line h d (stay_at stays d) late (kept.each d within));
}

pub all_ready : (devices : ℕ) (h : History) (stays : List Stay) (t : ℕ) → last_time h ≤ t → AreKept devices h stays → All (IsReady t) stays
all_ready devices h stays t late kept =
    All-from_get_or (IsReady t) stays unsaid (λ i within.
    let d : DevId = record { 0 = i } in
    ready_later (stay_at stays d) (last_time h) t late (kept.each d (omega (arith, kept.entries))).ready)

-- the lines up to one, in order
reverse_more : (lines : List Line) (i : ℕ) (e : Line) → i < length lines → reverse (take (i + 1) lines) ≡ get_or lines i e ∷ reverse (take i lines)
reverse_more lines i e within = ap reverse (take_more lines i e within) ∙ reverse-append (take i lines) (get_or lines i e ∷ [])

lawful_rest : (plan : Plan) (more h : List Line) → IsLawful plan (more ++ h) → IsLawful plan h
lawful_rest plan [] h lawful = lawful
lawful_rest plan (line ∷ more) h lawful = lawful_rest plan more h lawful.2

lawful_take : (plan : Plan) (lines : List Line) (i : ℕ) → IsLawful plan (reverse lines) → IsLawful plan (reverse (take i lines))
lawful_take plan lines i lawful =
    let parts = ap reverse (sym (take-append-drop i lines)) ∙ reverse-append (take i lines) (drop i lines) in
    lawful_rest plan (reverse (drop i lines)) (reverse (take i lines)) (subst (λ h. IsLawful plan h) parts lawful)

pub in_time_at : (plan : Plan) (lines : List Line) (i : ℕ) (e : Line) → i < length lines → IsLawful plan (reverse lines)
    → last_time (reverse (take i lines)) ≤ (get_or lines i e).time
in_time_at plan lines i e within lawful =
    (subst (λ h. IsLawful plan h) (reverse_more lines i e within) (lawful_take plan lines (i + 1) lawful)).0.in_time

-- one turn of the loop
pub kept_more : (plan : Plan) (lines : List Line) (i : ℕ) (e : Line) (stays after items : List Stay) → i < length lines → IsLawful plan (reverse lines)
    → AreKept (length plan.devices) (reverse (take i lines)) stays → length after ≡ length stays
    → ((d : DevId) → d.0 < length stays → stay_at after d ≡ behind (get_or lines i e) d (stay_at stays d)) → items ≡ after
    → AreKept (length plan.devices) (reverse (take (i + 1) lines)) items
kept_more plan lines i e stays after items within lawful kept same each is =
    let more = all_kept_behind (length plan.devices) (get_or lines i e) (reverse (take i lines)) stays after (in_time_at plan lines i e within lawful) kept same each in
    subst (λ x. AreKept (length plan.devices) (reverse (take (i + 1) lines)) x) (sym is)
    (subst (λ h. AreKept (length plan.devices) h after) (sym (reverse_more lines i e within)) more)
