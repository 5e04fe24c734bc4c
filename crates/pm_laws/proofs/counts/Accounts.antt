-- The counts after a line that takes, gives back or frees some, and after one that doesn't.
use Rattle.std.proofs.Common.{ℕ, ◌≡◌, Bool, true, false, ℤ, pos, if◌then◌else◌, ap, refl, sym, ◌∙◌, arith}
use Rattle.std.specs.Ordering.{int_eq}
use Rattle.std.proofs.lemmas.Bool.{false≢true}
use Rattle.pm_base.specs.declared.Cb.TheVariants as cb
use Rattle.pm_base.specs.declared.DevId.{DevId}
use Rattle.pm_base.specs.declared.Status.TheVariants as status
use Rattle.pm_model.specs.declared.event.Event.{Event}
use Rattle.pm_model.specs.declared.event.Event.TheVariants as event
use Rattle.pm_model.specs.declared.event.Word.{Word}
use Rattle.pm_model.specs.declared.event.Word.TheVariants as word
use Rattle.pm_model.specs.declared.plan.Plan.{Plan}
use Rattle.pm_model.specs.declared.stage.Change.{Change}
use Rattle.pm_model.specs.declared.stage.Change.TheVariants as change
use Rattle.pm_model.specs.declared.stage.Stage.{Stage}
use Rattle.pm_model.specs.declared.stage.Then.{Then}
use Rattle.pm_model.specs.ChangeViews.{change_views}
use Rattle.pm_model.specs.Counted.{takes, gives_back, frees, is_same, is_callers, says_on}
use Rattle.pm_model.specs.Events.{by_event, by_word, by_end, set_status, set_error, is_try_again}
use Rattle.pm_model.specs.Row.{writes}
use Rattle.pm_model.specs.Views.{Views, device}
use Rattle.pm_laws.specs.counts.Sums.{one}
use Rattle.pm_laws.specs.counts.Counts.{told, lent}
use Rattle.pm_laws.proofs.counts.Links.{both}
use Rattle.pm_laws.proofs.counts.Named.{IsCalm, change_calm}
use Rattle.pm_laws.proofs.counts.Owning.{unturned, quiet_says}
use Rattle.pm_laws.proofs.counts.Rows.{Known, Owning, Counting, Keeps, Owes, SameOwners, SameHolds}
use Rattle.pm_laws.proofs.counts.Seen.{core, core_seen, Account, account_of, account_core, account_seen, held_core, held_seen}
use Rattle.pm_laws.proofs.counts.Turns.{IsQuiet, quiet_event, entry_kept}

-- the counts stay, and the stages that take the place hold what the stage held
pub uncounted : {plan : Plan} {v after : Views} {s : Stage} {e : Event} {next : Then}
    → ((d : DevId) → account_of (device after d) ≡ account_of (device v d)) → after.held ≡ v.held → ((d : DevId) → gives_back (λ w. true) d e ≡ false)
    → ((d : DevId) → frees plan v d e ≡ 0) → ((d : DevId) → takes (λ w. true) d e ≡ false) → SameHolds plan s next → Counting plan v after s e next
uncounted {plan} {v} {after} {s} {e} {next} same held g f t h = record {
  adds = λ d x within was.
      let u : (device after d).usage ≡ (device v d).usage = ap (λ (a : Account). a.usage) (same d) in
      let o : told (device after d) ≡ told (device v d) = ap (λ (a : Account). a.told) (same d) in
      let l : lent plan after.held d ≡ lent plan v.held d = ap (λ k. lent plan k d) held in
      omega (arith, h d);
  moves = λ d x within was.
      let u : (device after d).usage ≡ (device v d).usage = ap (λ (a : Account). a.usage) (same d) in
      let a : one (gives_back (λ w. true) d e) ≡ 0 = rw (g d) refl in
      let b : one (takes (λ w. true) d e) ≡ 0 = rw (t d) refl in
      omega (arith, f d);
}

quiet_counts : (plan : Plan) (v : Views) (e : Event) → IsQuiet e → (d : DevId)
    → (gives_back (λ w. true) d e ≡ false) × (frees plan v d e ≡ 0) × (takes (λ w. true) d e ≡ false)
quiet_counts plan v (event.Get x w) q d = elim q [ ]
quiet_counts plan v (event.Put x w) q d = elim q [ ]
quiet_counts plan v (event.State x w) q d = elim q [ ]
quiet_counts plan v (event.Begin x cb.Suspend) q d = elim q [ ]
quiet_counts plan v (event.End x cb.Suspend c) q d = elim q [ ]
quiet_counts plan v _ q d = (refl, refl, refl)

-- a put by a caller is a put, so an event that puts nothing spends no share
caller_gives : (d : DevId) (e : Event) → gives_back is_callers d e ≡ true → gives_back (λ w. true) d e ≡ true
caller_gives d (event.Put x w) c = rw (both (is_same d x) (is_callers w) c).0 refl
caller_gives d _ c = absurd (false≢true c)

spends_none : {A : Type 0} (d : DevId) (e : Event) → gives_back (λ w. true) d e ≡ false → gives_back is_callers d e ≡ true → A
spends_none d e none c = absurd (false≢true (sym none ∙ caller_gives d e c))

-- a quiet event; where it is a pm_domain line, its row names no change
abbrev pub IsApart : Event → Change → Type 0
IsApart (event.Domain d is_up n) c = c ≡ change.Same
IsApart e c = IsQuiet e

apart_quiet : (e : Event) (c : Change) → IsApart e c → IsQuiet e
apart_quiet (event.Domain d is_up n) c q = tt
apart_quiet (event.Get x w) c q = q
apart_quiet (event.Put x w) c q = q
apart_quiet (event.State x w) c q = q
apart_quiet (event.Begin x cb.Suspend) c q = q
apart_quiet (event.End x cb.Suspend k) c q = q
apart_quiet _ c q = tt

apart_switches : (plan : Plan) (t : ℕ) (e : Event) (c : Change) (v : Views) → IsApart e c → (o : ℕ)
    → says_on plan (change_views plan t c v) o e ≡ says_on plan v o e
apart_switches plan t (event.Domain d is_up n) c v q o = ap (λ x. says_on plan (change_views plan t x v) o (event.Domain d is_up n)) q
apart_switches plan t _ c v q o = refl

-- a line that changes nothing of the statuses and the counts
pub quiet : {plan : Plan} {v : Views} {t : ℕ} {s : Stage} {e : Event} {c : Change} {next : Then} → Known plan v → IsApart e c → IsCalm v c
    → SameOwners s next → SameHolds plan s next → Owes plan v t s (writes e c next)
quiet {plan} {v} {t} {s} {e} {c} {next} k apart is o h =
    let q = apart_quiet e c apart in
    let v' = change_views plan t c v in
    let all : core (by_event plan t e v') ≡ core v = quiet_event plan t e v' q ∙ core_seen v v' (change_calm plan t c v k.entries is) in
    let kept : Keeps plan v t s e c next = record {
      owning = unturned (quiet_says e q) o;
      counting = uncounted (λ d. account_core v (by_event plan t e v') d all) (held_core v (by_event plan t e v') all) (λ d. (quiet_counts plan v e q d).0) (λ d. (quiet_counts plan v e q d).1) (λ d. (quiet_counts plan v e q d).2) h;
      spends = λ d g. spends_none d e (quiet_counts plan v e q d).0 g;
      switching = apart_switches plan t e c v apart;
    } in
    record { paid = kept }

-- events that turn a status, and count nothing
abbrev pub IsTurn : Event → Type 0
IsTurn (event.State d word.ForcedSuspended) = ⊥
IsTurn (event.State d w) = Unit {0}
IsTurn (event.Begin d cb.Suspend) = Unit {0}
IsTurn (event.End d cb.Suspend c) = Unit {0}
IsTurn _ = ⊥

word_account : (plan : Plan) (t : ℕ) (e d : DevId) (w : Word) (v : Views) → IsTurn (event.State e w)
    → account_of (device (by_word plan t e w v) d) ≡ account_of (device v d)
word_account plan t e d word.Active v is = entry_kept account_of (set_status status.Active e v) e d _ refl ∙ entry_kept account_of v e d _ refl
word_account plan t e d word.Resuming v is = entry_kept account_of v e d _ refl
word_account plan t e d word.Suspended v is = entry_kept account_of v e d _ refl
word_account plan t e d word.Deferred v is = entry_kept account_of v e d _ refl
word_account plan t e d word.ForcedActive v is = entry_kept account_of (set_status status.Active e v) e d _ refl ∙ entry_kept account_of v e d _ refl
word_account plan t e d word.ForcedSuspended v is = elim is [ ]

ended_account : (e d : DevId) (c : ℤ) (v : Views) → account_of (device (by_end e cb.Suspend c v) d) ≡ account_of (device v d)
ended_account e d c v = go (int_eq c (pos 0)) (is_try_again c)
  where
    go : (b again : Bool)
        → account_of (device (if b then v else (if again then set_status status.Active e v else set_error c e (set_status status.Active e v))) d) ≡ account_of (device v d)
    go true again = refl
    go false true = entry_kept account_of v e d _ refl
    go false false = entry_kept account_of (set_status status.Active e v) e d _ refl ∙ entry_kept account_of v e d _ refl

turn_account : (plan : Plan) (t : ℕ) (e : Event) (v : Views) (d : DevId) → IsTurn e
    → account_of (device (by_event plan t e v) d) ≡ account_of (device v d)
unfolding by_event
turn_account plan t (event.State x w) v d is = word_account plan t x d w v is
turn_account plan t (event.Begin x cb.Suspend) v d is = entry_kept account_of v x d _ refl
turn_account plan t (event.End x cb.Suspend c) v d is = ended_account x d c v
turn_account plan t (event.Begin x cb.Idle) v d is = elim is [ ]
turn_account plan t (event.Begin x cb.Resume) v d is = elim is [ ]
turn_account plan t (event.End x cb.Idle c) v d is = elim is [ ]
turn_account plan t (event.End x cb.Resume c) v d is = elim is [ ]
turn_account plan t _ v d is = elim is [ ]

word_held : (plan : Plan) (t : ℕ) (e : DevId) (w : Word) (v : Views) → IsTurn (event.State e w) → (by_word plan t e w v).held ≡ v.held
word_held plan t e word.ForcedSuspended v is = elim is [ ]
word_held plan t e word.Active v is = refl
word_held plan t e word.Resuming v is = refl
word_held plan t e word.Suspended v is = refl
word_held plan t e word.Deferred v is = refl
word_held plan t e word.ForcedActive v is = refl

pub ended_held : (e : DevId) (c : ℤ) (v : Views) → (by_end e cb.Suspend c v).held ≡ v.held
ended_held e c v = go (int_eq c (pos 0)) (is_try_again c)
  where
    go : (b again : Bool)
        → (let x : Views = if b then v else (if again then set_status status.Active e v else set_error c e (set_status status.Active e v)) in x.held ≡ v.held)
    go true again = refl
    go false true = refl
    go false false = refl

turn_held : (plan : Plan) (t : ℕ) (e : Event) (v : Views) → IsTurn e → (by_event plan t e v).held ≡ v.held
unfolding by_event
turn_held plan t (event.State x w) v is = word_held plan t x w v is
turn_held plan t (event.Begin x cb.Suspend) v is = refl
turn_held plan t (event.End x cb.Suspend c) v is = ended_held x c v
turn_held plan t (event.Begin x cb.Idle) v is = elim is [ ]
turn_held plan t (event.Begin x cb.Resume) v is = elim is [ ]
turn_held plan t (event.End x cb.Idle c) v is = elim is [ ]
turn_held plan t (event.End x cb.Resume c) v is = elim is [ ]
turn_held plan t _ v is = elim is [ ]

word_frees : (plan : Plan) (v : Views) (e : DevId) (w : Word) (d : DevId) → IsTurn (event.State e w) → frees plan v d (event.State e w) ≡ 0
word_frees plan v e word.ForcedSuspended d is = elim is [ ]
word_frees plan v e _ d is = refl

turn_counts : (plan : Plan) (v : Views) (e : Event) → IsTurn e → (d : DevId)
    → (gives_back (λ w. true) d e ≡ false) × (frees plan v d e ≡ 0) × (takes (λ w. true) d e ≡ false)
turn_counts plan v (event.State x w) is d = (refl, word_frees plan v x w d is, refl)
turn_counts plan v (event.Get x w) is d = elim is [ ]
turn_counts plan v (event.Put x w) is d = elim is [ ]
turn_counts plan v _ is d = (refl, refl, refl)

turn_switches : (plan : Plan) (v v' : Views) (e : Event) → IsTurn e → (o : ℕ) → says_on plan v' o e ≡ says_on plan v o e
turn_switches plan v v' (event.Domain d is_up n) is o = elim is [ ]
turn_switches plan v v' _ is o = refl

-- a line that turns a status
pub turn : {plan : Plan} {v : Views} {t : ℕ} {s : Stage} {e : Event} {c : Change} {next : Then} → Known plan v → IsTurn e → IsCalm v c
    → Owning plan v s e next → SameHolds plan s next → Owes plan v t s (writes e c next)
turn {plan} {v} {t} {s} {e} {c} {next} k is calm o h =
    let v' = change_views plan t c v in
    let same = change_calm plan t c v k.entries calm in
    let kept : Keeps plan v t s e c next = record {
      owning = o;
      counting = uncounted (λ d. turn_account plan t e v' d is ∙ account_seen v v' d same) (turn_held plan t e v' is ∙ held_seen v v' same) (λ d. (turn_counts plan v e is d).0) (λ d. (turn_counts plan v e is d).1) (λ d. (turn_counts plan v e is d).2) h;
      spends = λ d g. spends_none d e (turn_counts plan v e is d).0 g;
      switching = turn_switches plan v v' e is;
    } in
    record { paid = kept }
