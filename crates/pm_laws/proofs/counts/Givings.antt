-- The counts after a line that takes one, gives one back or frees some.
use Rattle.std.proofs.Common.{ℕ, zero, suc, ◌≡◌, ◌+◌, ◌-◌, ◌<◌, ◌≤◌, Bool, true, false, not, ◌&&◌, ℤ, pos, length, nat_eq, if◌then◌else◌, ap, refl, sym, ◌∙◌, arith}
use Rattle.std.specs.List.{enumerate_from}
use Rattle.std.proofs.lemmas.Bool.{false≢true}
use Rattle.std.proofs.lemmas.List.{get_or-map, length-set}
use Rattle.std.proofs.lemmas.List.FromFn.{get_or-enumerate_from, length-enumerate_from}
use Rattle.pm_base.specs.declared.DevId.{DevId}
use Rattle.pm_base.specs.declared.Status.TheVariants as status
use Rattle.pm_base.specs.declared.Why.{Why}
use Rattle.pm_base.specs.declared.Why.TheVariants as why
use Rattle.pm_model.specs.declared.event.Event.TheVariants as event
use Rattle.pm_model.specs.declared.event.Word.TheVariants as word
use Rattle.pm_model.specs.declared.plan.Plan.{Plan}
use Rattle.pm_model.specs.declared.stage.Change.{Change}
use Rattle.pm_model.specs.declared.stage.Change.TheVariants as change
use Rattle.pm_model.specs.declared.stage.Stage.{Stage}
use Rattle.pm_model.specs.declared.stage.Then.{Then}
use Rattle.pm_model.specs.declared.views.Device.{Device}
use Rattle.pm_model.specs.Changes.{set_held, set_setting, disarm}
use Rattle.pm_model.specs.ChangeViews.{change_views}
use Rattle.pm_model.specs.Counted.{is_same, is_callers, gives_back}
use Rattle.pm_model.specs.Derived.{prevented, is_moving}
use Rattle.pm_model.specs.Events.{by_event, got, gave, set_usage, set_share, set_auto, set_status, set_error, frees_links, held_from}
use Rattle.pm_model.specs.Row.{writes}
use Rattle.pm_model.specs.Views.{Views, fresh_device, device, with_device}
use Rattle.pm_laws.specs.counts.Sums.{one, weigh}
use Rattle.pm_laws.specs.counts.Counts.{holds, owed, told, lent}
use Rattle.pm_laws.proofs.counts.Links.{both, has_pair, lent_taken, lent_given, lent_loosed, held_of, distinct_links}
use Rattle.pm_laws.proofs.counts.Named.{IsCalm, beside, change_calm}
use Rattle.pm_laws.proofs.counts.Owning.{unturned, same_is, stays_still, Owns, OwnsNext, none}
use Rattle.pm_laws.proofs.counts.Places.{shown}
use Rattle.pm_laws.proofs.counts.Rows.{Known, Counting, Keeps, Owes, SameOwners, SameHolds}
use Rattle.pm_laws.proofs.counts.Seen.{seen, usage_of, Account, account_seen, held_seen}
use Rattle.pm_laws.proofs.counts.Turns.{within_set, entry_is, entry_kept, freed_kept}

-- a number in one entry rises or falls by one
pub raised : (f : Device → ℕ) (v : Views) (e d : DevId) (x : Device) → d.0 < length v.devices → (is_same d e ≡ true → f x ≡ f (device v e) + 1)
    → f (device (with_device v e x) d) ≡ f (device v d) + one (is_same d e)
raised f v e d x within up = ap f (entry_is v e d x within) ∙ go (is_same d e) refl
  where
    go : (b : Bool) → is_same d e ≡ b → f (if b then x else device v d) ≡ f (device v d) + one b
    go true b = up b ∙ ap (λ z. f (device v z) + 1) (same_is d e b)
    go false b = omega arith

pub lowered : (f : Device → ℕ) (v : Views) (e d : DevId) (x : Device) → d.0 < length v.devices → (is_same d e ≡ true → f x + 1 ≡ f (device v e))
    → f (device (with_device v e x) d) + one (is_same d e) ≡ f (device v d)
lowered f v e d x within low = ap (λ n. n + one (is_same d e)) (ap f (entry_is v e d x within)) ∙ go (is_same d e) refl
  where
    go : (b : Bool) → is_same d e ≡ b → f (if b then x else device v d) + one b ≡ f (device v d)
    go true b = low b ∙ ap (λ z. f (device v z)) (same_is d e b)
    go false b = omega arith

-- at the device itself
pub at_self : (f : Device → ℕ) (v : Views) (d e : DevId) → is_same d e ≡ true → f (device v e) ≡ f (device v d)
at_self f v d e b = ap (λ z. f (device v z)) (same_is d e b)

is_one : (b : Bool) → b ≡ true → one b ≡ 1
is_one b e = rw e refl

less_one : (n : ℕ) → 0 < n → n - 1 + 1 ≡ n
less_one n p = omega arith

-- usage after a get and after a put
got_usage : (plan : Plan) (e d : DevId) (w : Why) (v : Views) → d.0 < length v.devices
    → usage_of (device (got plan e w (set_usage ((device v e).usage + 1) e v)) d) ≡ usage_of (device v d) + one (is_same d e)
unfolding set_held
got_usage plan e d why.Caller v within = entry_kept usage_of (set_usage ((device v e).usage + 1) e v) e d _ refl ∙ raised usage_of v e d _ within (λ _. refl)
got_usage plan e d why.Forbid v within = entry_kept usage_of (set_usage ((device v e).usage + 1) e v) e d _ refl ∙ raised usage_of v e d _ within (λ _. refl)
got_usage plan e d (why.Link c) v within = raised usage_of v e d _ within (λ _. refl)
got_usage plan e d _ v within = raised usage_of v e d _ within (λ _. refl)

gave_usage : (plan : Plan) (e d : DevId) (w : Why) (v : Views) → d.0 < length v.devices → one (is_same d e) ≤ usage_of (device v d)
    → usage_of (device (gave plan e w (set_usage ((device v e).usage - 1) e v)) d) + one (is_same d e) ≡ usage_of (device v d)
unfolding set_held
gave_usage plan e d w v within some = go w
  where
    low : is_same d e ≡ true → (device v e).usage - 1 + 1 ≡ (device v e).usage
    low b = let one_is = is_one (is_same d e) b in let here = at_self usage_of v d e b in less_one (device v e).usage (omega arith)

    base : usage_of (device (set_usage ((device v e).usage - 1) e v) d) + one (is_same d e) ≡ usage_of (device v d)
    base = lowered usage_of v e d _ within low

    go : (w : Why) → usage_of (device (gave plan e w (set_usage ((device v e).usage - 1) e v)) d) + one (is_same d e) ≡ usage_of (device v d)
    go why.Caller = ap (λ n. n + one (is_same d e)) (entry_kept usage_of (set_usage ((device v e).usage - 1) e v) e d _ refl) ∙ base
    go why.Forbid = ap (λ n. n + one (is_same d e)) (entry_kept usage_of (set_usage ((device v e).usage - 1) e v) e d _ refl) ∙ base
    go (why.Link c) = base
    go _ = base

-- what the views tell of after a get and after a put, by the reason
abbrev pub OwedGot : Plan → Views → ℕ → DevId → Why → ℕ → DevId → Type 0
OwedGot plan v t e w n d = owed plan (by_event plan t (event.Get e w) v) d ≡ owed plan v d + n

abbrev pub OwedGave : Plan → Views → ℕ → DevId → Why → ℕ → DevId → Type 0
OwedGave plan v t e w n d = owed plan (by_event plan t (event.Put e w) v) d + n ≡ owed plan v d

-- a count that a stage holds
abbrev pub IsStages : Why → Type 0
IsStages why.Control = Unit {0}
IsStages (why.Child c) = Unit {0}
IsStages _ = ⊥

owed_parts : (plan : Plan) (v v' : Views) (d : DevId) (n : ℕ) → told (device v' d) ≡ told (device v d) + n → v'.held ≡ v.held
    → owed plan v' d ≡ owed plan v d + n
owed_parts plan v v' d n a b = let l : lent plan v'.held d ≡ lent plan v.held d = ap (λ k. lent plan k d) b in omega arith

owed_parts_less : (plan : Plan) (v v' : Views) (d : DevId) (n : ℕ) → told (device v' d) + n ≡ told (device v d) → v'.held ≡ v.held
    → owed plan v' d + n ≡ owed plan v d
owed_parts_less plan v v' d n a b = let l : lent plan v'.held d ≡ lent plan v.held d = ap (λ k. lent plan k d) b in omega arith

plus_none : (n : ℕ) → n ≡ n + 0
plus_none n = omega arith

owed_stages_got : (plan : Plan) (v : Views) (t : ℕ) (e : DevId) (w : Why) (d : DevId) → IsStages w → OwedGot plan v t e w 0 d
unfolding by_event
owed_stages_got plan v t e why.Control d is = owed_parts plan v (set_usage ((device v e).usage + 1) e v) d 0 (entry_kept told v e d _ refl ∙ plus_none _) refl
owed_stages_got plan v t e (why.Child c) d is = owed_parts plan v (set_usage ((device v e).usage + 1) e v) d 0 (entry_kept told v e d _ refl ∙ plus_none _) refl
owed_stages_got plan v t e why.Caller d is = elim is [ ]
owed_stages_got plan v t e why.Forbid d is = elim is [ ]
owed_stages_got plan v t e why.Delay d is = elim is [ ]
owed_stages_got plan v t e (why.Link c) d is = elim is [ ]

owed_stages_gave : (plan : Plan) (v : Views) (t : ℕ) (e : DevId) (w : Why) (d : DevId) → IsStages w → OwedGave plan v t e w 0 d
unfolding by_event
owed_stages_gave plan v t e why.Control d is = owed_parts_less plan v (set_usage ((device v e).usage - 1) e v) d 0 (sym (plus_none _) ∙ entry_kept told v e d _ refl) refl
owed_stages_gave plan v t e (why.Child c) d is = owed_parts_less plan v (set_usage ((device v e).usage - 1) e v) d 0 (sym (plus_none _) ∙ entry_kept told v e d _ refl) refl
owed_stages_gave plan v t e why.Caller d is = elim is [ ]
owed_stages_gave plan v t e why.Forbid d is = elim is [ ]
owed_stages_gave plan v t e why.Delay d is = elim is [ ]
owed_stages_gave plan v t e (why.Link c) d is = elim is [ ]

-- a negative delay's count: what is told of it changes with the setting, before the event
owed_delay_got : (plan : Plan) (v : Views) (t : ℕ) (e d : DevId) → OwedGot plan v t e why.Delay 0 d
unfolding by_event
owed_delay_got plan v t e d = owed_parts plan v (set_usage ((device v e).usage + 1) e v) d 0 (entry_kept told v e d _ refl ∙ plus_none _) refl

owed_delay_gave : (plan : Plan) (v : Views) (t : ℕ) (e d : DevId) → OwedGave plan v t e why.Delay 0 d
unfolding by_event
owed_delay_gave plan v t e d = owed_parts_less plan v (set_usage ((device v e).usage - 1) e v) d 0 (sym (plus_none _) ∙ entry_kept told v e d _ refl) refl

-- a caller's share
one_more : (a b c : ℕ) → a + 1 + b + c ≡ a + b + c + 1
one_more a b c = omega arith

owed_share_got : (plan : Plan) (v : Views) (t : ℕ) (e d : DevId) → d.0 < length v.devices → OwedGot plan v t e why.Caller (one (is_same d e)) d
unfolding by_event
owed_share_got plan v t e d within =
    let v2 : Views = set_usage ((device v e).usage + 1) e v in
    owed_parts plan v (set_share ((device v2 e).share + 1) e v2) d (one (is_same d e))
    (raised told v2 e d _ (within_set v e d _ within) (λ _. one_more _ _ _) ∙ ap (λ n. n + one (is_same d e)) (entry_kept told v e d _ refl)) refl

share_less : (s a b : ℕ) → nat_eq s 0 ≡ false → s - 1 + a + b + 1 ≡ s + a + b
share_less zero a b e = absurd (false≢true (sym e))
share_less (suc s) a b e = omega arith

owed_share_gave : (plan : Plan) (v : Views) (t : ℕ) (e d : DevId) → d.0 < length v.devices → nat_eq (device v e).share 0 ≡ false
    → OwedGave plan v t e why.Caller (one (is_same d e)) d
unfolding by_event
owed_share_gave plan v t e d within some =
    let v2 : Views = set_usage ((device v e).usage - 1) e v in
    let kept : (device v2 e).share ≡ (device v e).share = entry_kept (λ (x : Device). x.share) v e e _ refl in
    owed_parts_less plan v (set_share ((device v2 e).share - 1) e v2) d (one (is_same d e))
    (lowered told v2 e d _ (within_set v e d _ within) (λ _. share_less _ _ _ (ap (λ n. nat_eq n 0) kept ∙ some)) ∙ entry_kept told v e d _ refl) refl

-- forbid's count
forbid_more : (a c : ℕ) (b : Bool) → b ≡ true → a + 1 + c ≡ a + one (not b) + c + 1
forbid_more a c b e = rw e (omega arith)

forbid_less : (a c : ℕ) (b : Bool) → b ≡ false → a + 0 + c + 1 ≡ a + one (not b) + c
forbid_less a c b e = rw e (omega arith)

owed_forbid_got : (plan : Plan) (v : Views) (t : ℕ) (e d : DevId) → d.0 < length v.devices → (device v e).auto_on ≡ true
    → OwedGot plan v t e why.Forbid (one (is_same d e)) d
unfolding by_event
owed_forbid_got plan v t e d within on =
    let v2 : Views = set_usage ((device v e).usage + 1) e v in
    let kept : (device v2 e).auto_on ≡ (device v e).auto_on = entry_kept (λ (x : Device). x.auto_on) v e e _ refl in
    owed_parts plan v (set_auto false e v2) d (one (is_same d e))
    (raised told v2 e d _ (within_set v e d _ within) (λ _. forbid_more _ _ _ (kept ∙ on)) ∙ ap (λ n. n + one (is_same d e)) (entry_kept told v e d _ refl)) refl

owed_forbid_gave : (plan : Plan) (v : Views) (t : ℕ) (e d : DevId) → d.0 < length v.devices → (device v e).auto_on ≡ false
    → OwedGave plan v t e why.Forbid (one (is_same d e)) d
unfolding by_event
owed_forbid_gave plan v t e d within off =
    let v2 : Views = set_usage ((device v e).usage - 1) e v in
    let kept : (device v2 e).auto_on ≡ (device v e).auto_on = entry_kept (λ (x : Device). x.auto_on) v e e _ refl in
    owed_parts_less plan v (set_auto true e v2) d (one (is_same d e))
    (lowered told v2 e d _ (within_set v e d _ within) (λ _. forbid_less _ _ _ (kept ∙ off)) ∙ entry_kept told v e d _ refl) refl

-- a link's count
owed_link_got : (plan : Plan) (v : Views) (t : ℕ) (c e d : DevId) → has_pair c e false plan.links v.held ≡ true
    → OwedGot plan v t e (why.Link c) (one (is_same d e)) d
unfolding by_event set_held
owed_link_got plan v t c e d has =
    let l = lent_taken c e d plan.links v.held (distinct_links plan) has in
    let o : told (device (set_usage ((device v e).usage + 1) e v) d) ≡ told (device v d) = entry_kept told v e d _ refl in omega arith

owed_link_gave : (plan : Plan) (v : Views) (t : ℕ) (c e d : DevId) → has_pair c e true plan.links v.held ≡ true
    → OwedGave plan v t e (why.Link c) (one (is_same d e)) d
unfolding by_event set_held
owed_link_gave plan v t c e d has =
    let l = lent_given c e d plan.links v.held (distinct_links plan) has in
    let o : told (device (set_usage ((device v e).usage - 1) e v) d) ≡ told (device v d) = entry_kept told v e d _ refl in omega arith

pub counts_true : (b : Bool) → one (b && true) ≡ one b
counts_true true = refl
counts_true false = refl

owed_seen : (plan : Plan) (v v' : Views) (d : DevId) → seen v' ≡ seen v → owed plan v' d ≡ owed plan v d
owed_seen plan v v' d c =
    let told_same : told (device v' d) ≡ told (device v d) = ap (λ (z : Account). z.told) (account_seen v v' d c) in
    let l : lent plan v'.held d ≡ lent plan v.held d = ap (λ h. lent plan h d) (held_seen v v' c) in
    omega arith

-- a row that takes a count
took : {plan : Plan} {v : Views} {t : ℕ} {s : Stage} {c : Change} {next : Then} (e : DevId) (w : Why) → Known plan v → SameOwners s next
    → ((d : DevId) → d.0 < length (change_views plan t c v).devices → owed plan (by_event plan t (event.Get e w) (change_views plan t c v)) d + weigh (holds plan d) (shown next) ≡ owed plan v d + (holds plan d s + one (is_same d e)))
    → Owes plan v t s (writes (event.Get e w) c next)
unfolding by_event
took {plan} {v} {t} {s} {c} {next} e w k a owes =
    let v' = change_views plan t c v in
    let b = beside plan t c v k.entries in
    let now = got plan e w (set_usage ((device v' e).usage + 1) e v') in
    let counting : Counting plan v now s (event.Get e w) next = record {
      adds = λ d x within was.
          let here : d.0 < length v'.devices = omega (arith, b.entries.devices) in
          let u = got_usage plan e d w v' here in
          omega (arith, owes d here, b.usages d);
      moves = λ d x within was.
          let here : d.0 < length v'.devices = omega (arith, b.entries.devices) in
          let u = got_usage plan e d w v' here in
          omega (arith, counts_true (is_same d e), b.usages d);
    } in
    let kept : Keeps plan v t s (event.Get e w) c next = record {
      owning = unturned (λ _. refl) a;
      counting = counting;
      spends = λ d g. absurd (false≢true g);
      switching = λ _. refl;
    } in
    record { paid = kept }

-- which puts spend a caller's share: those that find one
abbrev Spends : Views → DevId → Why → Type 0
Spends v e w = (d : DevId) → gives_back is_callers d (event.Put e w) ≡ true → nat_eq (device v d).share 0 ≡ false

no_caller : (v : Views) (e : DevId) (w : Why) → is_callers w ≡ false → Spends v e w
no_caller v e w none d g = absurd (false≢true (sym none ∙ (both (is_same d e) (is_callers w) g).1))

stages_spend : (w : Why) → IsStages w → is_callers w ≡ false
stages_spend why.Caller is = elim is [ ]
stages_spend _ is = refl

-- a row that gives one back
gave_back : {plan : Plan} {v : Views} {t : ℕ} {s : Stage} {c : Change} {next : Then} (e : DevId) (w : Why) → Known plan v → Spends v e w
    → SameOwners s next
    → ((d : DevId) → d.0 < length (change_views plan t c v).devices → owed plan (by_event plan t (event.Put e w) (change_views plan t c v)) d + (weigh (holds plan d) (shown next) + one (is_same d e)) ≡ owed plan v d + holds plan d s)
    → Owes plan v t s (writes (event.Put e w) c next)
unfolding by_event
gave_back {plan} {v} {t} {s} {c} {next} e w k spends a owes =
    let v' = change_views plan t c v in
    let b = beside plan t c v k.entries in
    let now = gave plan e w (set_usage ((device v' e).usage - 1) e v') in
    let fell : (d : DevId) (x : ℕ) → d.0 < length plan.devices → (device v d).usage ≡ owed plan v d + (holds plan d s + x) → usage_of (device now d) + one (is_same d e) ≡ (device v d).usage =
    λ d x within was.
    let here : d.0 < length v'.devices = omega (arith, b.entries.devices) in
    let some : one (is_same d e) ≤ usage_of (device v' d) = omega (arith, owes d here, b.usages d) in
    gave_usage plan e d w v' here some ∙ b.usages d
    in
    let counting : Counting plan v now s (event.Put e w) next = record {
      adds = λ d x within was.
          let here : d.0 < length v'.devices = omega (arith, b.entries.devices) in
          omega (arith, owes d here, fell d x within was);
      moves = λ d x within was. omega (arith, counts_true (is_same d e), fell d x within was);
    } in
    let kept : Keeps plan v t s (event.Put e w) c next = record {
      owning = unturned (λ _. refl) a;
      counting = counting;
      spends = spends;
      switching = λ _. refl;
    } in
    record { paid = kept }

-- the count is the stage's, a caller's, forbid's or a link's
pub took_stages : {plan : Plan} {v : Views} {t : ℕ} {s : Stage} {c : Change} {next : Then} (e : DevId) (w : Why) → Known plan v
    → IsStages w → IsCalm v c → SameOwners s next
    → ((d : DevId) → weigh (holds plan d) (shown next) ≡ holds plan d s + one (is_same d e)) → Owes plan v t s (writes (event.Get e w) c next)
took_stages {plan} {v} {t} {s} {c} e w k is calm o h =
    let v' = change_views plan t c v in
    took e w k o (λ d within. let told_now = owed_stages_got plan v' t e w d is in omega (arith, h d, owed_seen plan v v' d (change_calm plan t c v k.entries calm)))

pub gave_stages : {plan : Plan} {v : Views} {t : ℕ} {s : Stage} {c : Change} {next : Then} (e : DevId) (w : Why) → Known plan v
    → IsStages w → IsCalm v c → SameOwners s next
    → ((d : DevId) → weigh (holds plan d) (shown next) + one (is_same d e) ≡ holds plan d s) → Owes plan v t s (writes (event.Put e w) c next)
gave_stages {plan} {v} {t} {s} {c} e w k is calm o h =
    let v' = change_views plan t c v in
    gave_back e w k (no_caller v e w (stages_spend w is)) o (λ d within. let told_now = owed_stages_gave plan v' t e w d is in omega (arith, h d, owed_seen plan v v' d (change_calm plan t c v k.entries calm)))

pub took_share : {plan : Plan} {v : Views} {t : ℕ} {s : Stage} {next : Then} (e : DevId) → Known plan v → SameOwners s next → SameHolds plan s next
    → Owes plan v t s (writes (event.Get e why.Caller) change.Same next)
took_share {plan} {v} {t} e k o h = took e why.Caller k o (λ d within. let told_now = owed_share_got plan v t e d within in omega (arith, h d))

pub gave_share : {plan : Plan} {v : Views} {t : ℕ} {s : Stage} {next : Then} (e : DevId) → Known plan v → nat_eq (device v e).share 0 ≡ false
    → SameOwners s next → SameHolds plan s next → Owes plan v t s (writes (event.Put e why.Caller) change.Same next)
gave_share {plan} {v} {t} e k some o h = gave_back e why.Caller k (λ d g. ap (λ z. nat_eq (device v z).share 0) (sym (same_is d e (both (is_same d e) true g).0)) ∙ some) o (λ d within. let told_now = owed_share_gave plan v t e d within some in omega (arith, h d))

pub took_forbid : {plan : Plan} {v : Views} {t : ℕ} {s : Stage} {next : Then} (e : DevId) → Known plan v → (device v e).auto_on ≡ true
    → SameOwners s next → SameHolds plan s next → Owes plan v t s (writes (event.Get e why.Forbid) change.Same next)
took_forbid {plan} {v} {t} e k on o h = took e why.Forbid k o (λ d within. let told_now = owed_forbid_got plan v t e d within on in omega (arith, h d))

pub gave_forbid : {plan : Plan} {v : Views} {t : ℕ} {s : Stage} {next : Then} (e : DevId) → Known plan v → (device v e).auto_on ≡ false
    → SameOwners s next → SameHolds plan s next → Owes plan v t s (writes (event.Put e why.Forbid) change.Same next)
gave_forbid {plan} {v} {t} e k off o h = gave_back e why.Forbid k (no_caller v e why.Forbid refl) o (λ d within. let told_now = owed_forbid_gave plan v t e d within off in omega (arith, h d))

pub took_link : {plan : Plan} {v : Views} {t : ℕ} {s : Stage} {next : Then} (c e : DevId) → Known plan v → has_pair c e false plan.links v.held ≡ true
    → SameOwners s next → SameHolds plan s next → Owes plan v t s (writes (event.Get e (why.Link c)) change.Same next)
took_link {plan} {v} {t} c e k has o h = took e (why.Link c) k o (λ d within. let told_now = owed_link_got plan v t c e d has in omega (arith, h d))

pub gave_link : {plan : Plan} {v : Views} {t : ℕ} {s : Stage} {x : Change} {next : Then} (c e : DevId) → Known plan v
    → IsCalm v x → has_pair c e true plan.links v.held ≡ true → SameOwners s next → SameHolds plan s next
    → Owes plan v t s (writes (event.Put e (why.Link c)) x next)
gave_link {plan} {v} {t} {s} {x} c e k calm has o h =
    let v' = change_views plan t x v in
    let same = change_calm plan t x v k.entries calm in
    gave_back e (why.Link c) k (no_caller v e (why.Link c) refl) o (λ d within. let told_now = owed_link_gave plan v' t c e d (ap (has_pair c e true plan.links) (held_seen v v' same) ∙ has) in omega (arith, h d, owed_seen plan v v' d same))

prevented_more : (a : ℕ) (was is : Bool) → not was && is ≡ true → a + one is ≡ a + one was + 1
prevented_more a true is e = absurd (false≢true e)
prevented_more a false false e = absurd (false≢true e)
prevented_more a false true e = omega arith

prevented_less : (a : ℕ) (was is : Bool) → was && not is ≡ true → a + one is + 1 ≡ a + one was
prevented_less a false is e = absurd (false≢true e)
prevented_less a true true e = absurd (false≢true e)
prevented_less a true false e = omega arith

pub took_delay : {plan : Plan} {v : Views} {t : ℕ} {s : Stage} {next : Then} (e : DevId) (u : Bool) (n : ℤ) → Known plan v
    → not (prevented (device v e).use_auto (device v e).delay) && prevented u n ≡ true → SameOwners s next → SameHolds plan s next
    → Owes plan v t s (writes (event.Get e why.Delay) (change.Set e u n) next)
took_delay {plan} {v} {t} e u n k more o h =
    took e why.Delay k o (λ d within.
    let here : d.0 < length v.devices = omega (arith, k.entries.devices, (beside plan t (change.Set e u n) v k.entries).entries.devices) in
    let told_now = owed_delay_got plan (set_setting u n e v) t e d in
    let p = owed_parts plan v (set_setting u n e v) d (one (is_same d e)) (raised told v e d _ here (λ _. prevented_more _ _ _ more)) refl in
    omega (arith, h d))

pub gave_delay : {plan : Plan} {v : Views} {t : ℕ} {s : Stage} {next : Then} (e : DevId) (u : Bool) (n : ℤ) → Known plan v
    → prevented (device v e).use_auto (device v e).delay && not (prevented u n) ≡ true → SameOwners s next → SameHolds plan s next
    → Owes plan v t s (writes (event.Put e why.Delay) (change.Set e u n) next)
gave_delay {plan} {v} {t} e u n k less o h =
    gave_back e why.Delay k (no_caller v e why.Delay refl) o (λ d within.
    let here : d.0 < length v.devices = omega (arith, k.entries.devices, (beside plan t (change.Set e u n) v k.entries).entries.devices) in
    let told_now = owed_delay_gave plan (set_setting u n e v) t e d in
    let p = owed_parts_less plan v (set_setting u n e v) d (one (is_same d e)) (lowered told v e d _ here (λ _. prevented_less _ _ _ less)) refl in
    omega (arith, h d))

-- a forced status gives back the counts of the device's held links
abbrev forced_views : DevId → Views → Views
forced_views e v = disarm e (set_error (pos 0) e (set_status status.Suspended e v))

freed_usage : (plan : Plan) (e d : DevId) (v : Views) → d.0 < length v.devices
    → usage_of (device (frees_links plan e v) d) ≡ usage_of (device v d) - held_of e d.0 plan.links v.held
unfolding frees_links
freed_usage plan e d v within =
    ap usage_of (get_or-map (λ (p : ℕ × Device). record p.1 { usage = p.1.usage - held_from plan v.held e p.0 }) (enumerate_from 0 v.devices) d.0 (0, fresh_device) fresh_device (omega (arith, length-enumerate_from 0 v.devices)))
    ∙ ap (λ (p : ℕ × Device). p.1.usage - held_from plan v.held e p.0) (get_or-enumerate_from 0 v.devices d.0 (0, fresh_device) within) ∙ ap (λ n. usage_of (device v d) - held_from plan v.held e n) (omega arith)

pub forced : {plan : Plan} {v : Views} {t : ℕ} {s : Stage} {next : Then} (e : DevId) → Known plan v → is_moving v e ≡ false → Owns s none none
    → OwnsNext next none none → SameHolds plan s next → Owes plan v t s (writes (event.State e word.ForcedSuspended) change.Same next)
unfolding by_event frees_links
forced {plan} {v} {t} {s} {next} e k still o o' h =
    let between = forced_views e v in
    let now = frees_links plan e between in
    let usage_kept : (d : DevId) → usage_of (device between d) ≡ usage_of (device v d) = λ d. entry_kept usage_of (set_status status.Suspended e v) e d _ refl ∙ entry_kept usage_of v e d _ refl in
    let told_kept : (d : DevId) → told (device now d) ≡ told (device v d) = λ d. freed_kept told (λ _ _. refl) plan e d between ∙ entry_kept told (set_status status.Suspended e v) e d _ refl ∙ entry_kept told v e d _ refl in
    let here : (d : DevId) → d.0 < length plan.devices → d.0 < length between.devices = λ d within. rw (length-set (set_status status.Suspended e v).devices e.0 _, length-set v.devices e.0 _) (omega (arith, k.entries.devices)) in
    let counting : Counting plan v now s (event.State e word.ForcedSuspended) next = record {
      adds = λ d x within was.
          let l = lent_loosed e d plan.links v.held in
          let u = freed_usage plan e d between (here d within) in
          omega (arith, told_kept d, usage_kept d, h d);
      moves = λ d x within was.
          let l = lent_loosed e d plan.links v.held in
          let u = freed_usage plan e d between (here d within) in
          omega (arith, told_kept d, usage_kept d, h d);
    } in
    let kept : Keeps plan v t s (event.State e word.ForcedSuspended) change.Same next = record {
      owning = stays_still e status.Suspended still refl (λ _. refl) o o';
      counting = counting;
      spends = λ d g. absurd (false≢true g);
      switching = λ _. refl;
    } in
    record { paid = kept }
