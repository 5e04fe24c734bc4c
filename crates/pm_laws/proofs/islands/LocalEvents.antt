-- An event of a region's devices stays in the region.
use Rattle.std.proofs.Common.{ℕ, suc, ◌≡◌, ◌+◌, ◌-◌, Bool, true, false, cond, ◌&&◌, List, [], ◌∷◌, Some, ℤ, pos, map, nat_eq, slice_set, fold, if◌then◌else◌, ap, refl, sym, subst, ◌∙◌, arith}
use Rattle.std.specs.Prelude.{slice_get}
use Rattle.std.specs.List.{zip, enumerate_from, list_all, count_by}
use Rattle.std.specs.Ordering.{int_eq}
use Rattle.std.proofs.lemmas.Bool.{and_parts, eqb-true, false≢true}
use Rattle.std.proofs.lemmas.List.Sums.{sum_by-cons}
use Rattle.pm_base.specs.declared.Cb.TheVariants as cb
use Rattle.pm_base.specs.declared.DevId.{DevId}
use Rattle.pm_base.specs.declared.Req.TheVariants.{Nothing}
use Rattle.pm_base.specs.declared.Status.{Status}
use Rattle.pm_base.specs.declared.Status.TheVariants as status
use Rattle.pm_base.specs.declared.Why.{Why}
use Rattle.pm_base.specs.declared.Why.TheVariants as why
use Rattle.pm_model.specs.declared.event.Event.{Event}
use Rattle.pm_model.specs.declared.event.Event.TheVariants as event
use Rattle.pm_model.specs.declared.event.TimerAct.TheVariants.{Arm, Fire}
use Rattle.pm_model.specs.declared.event.Word.{Word}
use Rattle.pm_model.specs.declared.event.Word.TheVariants as word
use Rattle.pm_model.specs.declared.event.WorkAct.TheVariants.{Queue, Defer, Run}
use Rattle.pm_model.specs.declared.plan.Plan.{Plan}
use Rattle.pm_model.specs.declared.rows.LinkRow.{LinkRow}
use Rattle.pm_model.specs.declared.views.Device.{Device}
use Rattle.pm_model.specs.Changes.{set_request, set_queued, set_deferred, disarm, set_last_busy, set_held}
use Rattle.pm_model.specs.Derived.{up, down}
use Rattle.pm_model.specs.Events.{by_event, by_word, got, gave, set_status, set_error, set_usage, held_from, frees_links, is_try_again, suspend_failed, switches}
use Rattle.pm_model.specs.PlanRows.{is_of_pair}
use Rattle.pm_model.specs.Views.{Views, device}
use Rattle.pm_laws.proofs.islands.Region.{Alike, AlikeBy, Region, Agree, Apart, AreBound, IsLocal, Moves, EventIn, GetIn, WhyIn, is_own_link}
use Rattle.pm_laws.proofs.islands.AlikeLists.{alike_refl, alike_set, alike_aside, alike_trans, by_map, by_aside}
use Rattle.pm_laws.proofs.islands.DomainsAlike.{up_agrees, down_agrees, up_own, down_own}
use Rattle.pm_laws.proofs.islands.LocalChanges.{agree_refl, agree_trans, devices_anew, held_anew, on_anew, local_same, local_then, local_device, local_request, local_queued, local_deferred, local_disarm, local_timer, local_busy, local_if, not_pair}

pub moves : {plan : Plan} {k : Region plan} {c : Views → Views} → IsLocal plan k c → Moves plan k c
moves x = record { keeps = λ v w a. x.keeps v w a; spares = λ l v apart _. x.spares l v apart }

-- a local change, and then one that moves
pub moves_then : {plan : Plan} {k : Region plan} (b c : Views → Views) → IsLocal plan k b → Moves plan k c → Moves plan k (λ v. c (b v))
moves_then {plan} {k} b c x y = record {
  keeps = λ v w a. y.keeps (b v) (b w) (x.keeps v w a);
  spares = λ l v apart bound.
      agree_trans (x.spares l v apart) (y.spares l (b v) apart (subst (λ hs. AreBound (is_own_link k) plan.links hs) (sym (x.same_held v)) bound));
}

moves_held : {plan : Plan} {k : Region plan} (c s : DevId) (b : Bool) → k.inside c.0 ≡ true → Moves plan k (set_held plan c s b)
unfolding set_held
moves_held {plan} {k} c s b i = record {
  keeps = λ v w a. held_anew _ _ a (by_map (is_own_link k) (λ p. if is_of_pair c s p.0 then b else p.1) plan.links v.held w.held a.held);
  spares = λ l v apart _. held_anew _ _ (agree_refl plan l v) (by_aside (is_own_link l) (λ p. if is_of_pair c s p.0 then b else p.1) plan.links v.held (λ row x own. rw (not_pair k l c s row apart i own) refl));
}

got_moves : {plan : Plan} {k : Region plan} (d : DevId) (w : Why) → k.inside d.0 ≡ true → GetIn k d w → Moves plan k (got plan d w)
got_moves d why.Caller i x = moves (local_device d (λ x. record x { share = x.share + 1 }) i)
got_moves d why.Forbid i x = moves (local_device d (λ x. record x { auto_on = false }) i)
got_moves d (why.Link c) i x = moves_held c d true x.0
got_moves d _ i x = moves local_same

gave_moves : {plan : Plan} {k : Region plan} (d : DevId) (w : Why) → k.inside d.0 ≡ true → WhyIn k w → Moves plan k (gave plan d w)
gave_moves d why.Caller i x = moves (local_device d (λ x. record x { share = x.share - 1 }) i)
gave_moves d why.Forbid i x = moves (local_device d (λ x. record x { auto_on = true }) i)
gave_moves d (why.Link c) i x = moves_held c d false x
gave_moves d _ i x = moves local_same

status_local : {plan : Plan} {k : Region plan} (s : Status) (d : DevId) → k.inside d.0 ≡ true → IsLocal plan k (set_status s d)
status_local s d i = local_device d (λ x. record x { status = s }) i

error_local : {plan : Plan} {k : Region plan} (c : ℤ) (d : DevId) → k.inside d.0 ≡ true → IsLocal plan k (set_error c d)
error_local c d i = local_device d (λ x. record x { error = c }) i

-- freeing the links of a device
held_from_alike : (k : ℕ → Bool) (links : List LinkRow) (d : DevId) (s : ℕ) (xs ys : List Bool) → k d.0 ≡ true → AlikeBy (λ row. k row.consumer.0) links xs ys
    → count_by (λ p. nat_eq p.0.consumer.0 d.0 && nat_eq p.0.supplier.0 s && p.1) (zip links xs)
    ≡ count_by (λ p. nat_eq p.0.consumer.0 d.0 && nat_eq p.0.supplier.0 s && p.1) (zip links ys)
held_from_alike k [] d s xs ys i a = refl
held_from_alike k (row ∷ links) d s [] [] i a = refl
held_from_alike k (row ∷ links) d s [] (y ∷ ys) i a = absurd a
held_from_alike k (row ∷ links) d s (x ∷ xs) [] i a = absurd a
held_from_alike k (row ∷ links) d s (x ∷ xs) (y ∷ ys) i a =
    let count : LinkRow × Bool → ℕ = λ p. cond (nat_eq p.0.consumer.0 d.0 && nat_eq p.0.supplier.0 s && p.1) 1 0 in
    let rest = held_from_alike k links d s xs ys i a.1 in
    let one = go (nat_eq row.consumer.0 d.0) refl in
    sum_by-cons count (row, x) (zip links xs) ∙ rw (one, rest) (sym (sum_by-cons count (row, y) (zip links ys)))
  where
    go : (b : Bool) → nat_eq row.consumer.0 d.0 ≡ b
        → (nat_eq row.consumer.0 d.0 && nat_eq row.supplier.0 s && x) ≡ (nat_eq row.consumer.0 d.0 && nat_eq row.supplier.0 s && y)
    go true e = rw (a.0 (ap k (eqb-true row.consumer.0 d.0 e) ∙ i)) refl
    go false e = rw e refl

-- entries made anew by their places
numbered_alike : (f g : ℕ → Device → Device) (inside : ℕ → Bool) (n : ℕ) (xs ys : List Device) → ((m : ℕ) (x : Device) → f m x ≡ g m x) → Alike inside xs ys
    → Alike inside (map (λ p. f p.0 p.1) (enumerate_from n xs)) (map (λ p. g p.0 p.1) (enumerate_from n ys))
numbered_alike f g inside n [] [] same a = tt
numbered_alike f g inside n [] (y ∷ ys) same a = absurd a
numbered_alike f g inside n (x ∷ xs) [] same a = absurd a
numbered_alike f g inside n (x ∷ xs) (y ∷ ys) same a =
    (λ i. ap (f n) (a.0 i) ∙ same n y, numbered_alike f g (λ m. inside (suc m)) (n + 1) xs ys same a.1)

-- entries made anew outside
numbered_aside : (f : ℕ → Device → Device) (inside : ℕ → Bool) (n : ℕ) (xs : List Device) → ((i m : ℕ) (x : Device) → m ≡ n + i → inside i ≡ true → x ≡ f m x)
    → Alike inside xs (map (λ p. f p.0 p.1) (enumerate_from n xs))
numbered_aside f inside n [] same = tt
numbered_aside f inside n (x ∷ xs) same =
    (λ i. same 0 n x (omega arith) i, numbered_aside f (λ m. inside (suc m)) (n + 1) xs (λ i m y at. same (suc i) m y (omega (arith, at))))

-- no held link of d has a supplier elsewhere
held_from_none : (k : ℕ → Bool) (links : List LinkRow) (d : DevId) (s : ℕ) (hs : List Bool) → k d.0 ≡ true → k s ≡ false
    → ((l : ℕ) (row : LinkRow) → slice_get links l ≡ Some row → row.pm_runtime ≡ true → k row.consumer.0 ≡ k row.supplier.0) → AreBound (λ row. k row.consumer.0) links hs
    → count_by (λ p. nat_eq p.0.consumer.0 d.0 && nat_eq p.0.supplier.0 s && p.1) (zip links hs) ≡ 0
held_from_none k [] d s hs i o linked bound = refl
held_from_none k (row ∷ links) d s [] i o linked bound = refl
held_from_none k (row ∷ links) d s (h ∷ hs) i o linked bound =
    let count : LinkRow × Bool → ℕ = λ p. cond (nat_eq p.0.consumer.0 d.0 && nat_eq p.0.supplier.0 s && p.1) 1 0 in
    let rest = held_from_none k links d s hs i o (λ l. linked (suc l)) bound.1 in
    let one = go (nat_eq row.consumer.0 d.0) (nat_eq row.supplier.0 s) h refl refl bound.0 in
    sum_by-cons count (row, h) (zip links hs) ∙ rw (one, rest) refl
  where
    go : (b c h : Bool) → nat_eq row.consumer.0 d.0 ≡ b → nat_eq row.supplier.0 s ≡ c → (k row.consumer.0 ≡ true → h ≡ true → row.pm_runtime ≡ true)
        → (nat_eq row.consumer.0 d.0 && nat_eq row.supplier.0 s && h) ≡ false
    go false c h e g own = rw e refl
    go true false h e g own = rw (e, g) refl
    go true true false e g own = rw (e, g) refl
    go true true true e g own =
        let c : k row.consumer.0 ≡ true = ap k (eqb-true row.consumer.0 d.0 e) ∙ i in
        let both = linked 0 row refl (own c refl) in
        absurd (false≢true (sym o ∙ sym (ap k (eqb-true row.supplier.0 s g)) ∙ sym both ∙ c))

minus : (n : ℕ) → n - 0 ≡ n
minus n = omega arith

frees_moves : {plan : Plan} {k : Region plan} (d : DevId) → k.inside d.0 ≡ true → Moves plan k (frees_links plan d)
unfolding frees_links
frees_moves {plan} {k} d i = record {
  keeps = λ v w a. held_anew _ _ (devices_anew _ _ a (numbered_alike (λ m x. record x { usage = x.usage - held_from plan v.held d m }) (λ m x. record x { usage = x.usage - held_from plan w.held d m }) k.inside 0 v.devices w.devices (λ m x. ap (λ n. record x { usage = x.usage - n }) (held_from_alike k.inside plan.links d m v.held w.held i a.held)) a.devices)) (by_map (is_own_link k) (λ p. if nat_eq p.0.consumer.0 d.0 then false else p.1) plan.links v.held w.held a.held);
  spares = λ l v apart bound. held_anew _ _ (devices_anew _ _ (agree_refl plan l v) (numbered_aside (λ m x. record x { usage = x.usage - held_from plan v.held d m }) l.inside 0 v.devices (λ j m x at own. spared l v apart bound j m x at own))) (by_aside (is_own_link l) (λ p. if nat_eq p.0.consumer.0 d.0 then false else p.1) plan.links v.held (λ row x own. other l apart row x own));
}
  where
    outside : (l : Region plan) → Apart plan k l → (m : ℕ) → l.inside m ≡ true → k.inside m ≡ false
    outside l apart m own = go (k.inside m) refl
      where
        go : (b : Bool) → k.inside m ≡ b → k.inside m ≡ false
        go false e = e
        go true e = absurd (false≢true (sym (apart.devices m e) ∙ own))

    spared : (l : Region plan) (v : Views) → Apart plan k l → AreBound (is_own_link k) plan.links v.held
        → (j m : ℕ) (x : Device) → m ≡ 0 + j → l.inside j ≡ true → x ≡ record x { usage = x.usage - held_from plan v.held d m }
    spared l v apart bound j m x at own =
        let is : m ≡ j = omega (arith, at) in
        let none : held_from plan v.held d m ≡ 0 = held_from_none k.inside plan.links d m v.held i (outside l apart m (ap l.inside is ∙ own)) k.linked bound in
        rw (none, minus x.usage) refl

    other : (l : Region plan) → Apart plan k l → (row : LinkRow) (x : Bool) → is_own_link l row ≡ true → x ≡ (if nat_eq row.consumer.0 d.0 then false else x)
    other l apart row x own = go (nat_eq row.consumer.0 d.0) refl
      where
        go : (b : Bool) → nat_eq row.consumer.0 d.0 ≡ b → x ≡ (if b then false else x)
        go false e = refl
        go true e = absurd (false≢true (sym (apart.devices row.consumer.0 (ap k.inside (eqb-true row.consumer.0 d.0 e) ∙ i)) ∙ own))

word_moves : {plan : Plan} {k : Region plan} (t : ℕ) (d : DevId) (w : Word) → k.inside d.0 ≡ true → Moves plan k (by_word plan t d w)
word_moves t d word.Active i = moves (local_then (set_status status.Active d) (set_last_busy t d) (status_local status.Active d i) (local_busy t d i))
word_moves t d word.Resuming i = moves (status_local status.Resuming d i)
word_moves t d word.Suspended i = moves (local_then (set_status status.Suspended d) (disarm d) (status_local status.Suspended d i) (local_disarm d i))
word_moves t d word.Deferred i =
    moves (local_then (set_status status.Suspended d) (λ v. set_deferred false d (disarm d v)) (status_local status.Suspended d i)
    (local_then (disarm d) (set_deferred false d) (local_disarm d i) (local_deferred false d i)))
word_moves t d word.ForcedActive i =
    moves (local_then (set_status status.Active d) (set_error (pos 0) d) (status_local status.Active d i) (error_local (pos 0) d i))
word_moves {plan} t d word.ForcedSuspended i =
    moves_then (set_status status.Suspended d) (λ v. frees_links plan d (disarm d (set_error (pos 0) d v))) (status_local status.Suspended d i)
    (moves_then (set_error (pos 0) d) (λ v. frees_links plan d (disarm d v)) (error_local (pos 0) d i)
    (moves_then (disarm d) (frees_links plan d) (local_disarm d i) (frees_moves d i)))

-- domains are switched
switched_alike : (b : Bool) (inside : ℕ → Bool) (os : List ℕ) (xs ys : List Bool) → Alike inside xs ys
    → Alike inside (fold (λ on o. slice_set on o b) xs os) (fold (λ on o. slice_set on o b) ys os)
switched_alike b inside [] xs ys a = a
switched_alike b inside (o ∷ os) xs ys a = switched_alike b inside os (slice_set xs o b) (slice_set ys o b) (alike_set inside xs ys o b b a (λ _. refl))

switched_aside : (b : Bool) (k l : ℕ → Bool) → ((i : ℕ) → k i ≡ true → l i ≡ false) → (os : List ℕ) (xs : List Bool) → list_all k os ≡ true
    → Alike l xs (fold (λ on o. slice_set on o b) xs os)
switched_aside b k l apart [] xs i = alike_refl l xs
switched_aside b k l apart (o ∷ os) xs i =
    let h = and_parts _ _ i in
    alike_trans l xs (slice_set xs o b) (fold (λ on o. slice_set on o b) (slice_set xs o b) os) (alike_aside l xs o b (apart o h.0))
    (switched_aside b k l apart os (slice_set xs o b) h.1)

switches_move : {plan : Plan} {k : Region plan} (b : Bool) (f : Views → List ℕ) → ((v w : Views) → Agree plan k v w → f v ≡ f w) → ((v : Views) → list_all k.domains (f v) ≡ true)
    → Moves plan k (λ v. switches b (f v) v)
switches_move {plan} {k} b f same own = record {
  keeps = λ v w a. on_anew _ _ a (rw (same v w a) (switched_alike b k.domains (f w) v.on w.on a.on));
  spares = λ l v apart _. on_anew _ _ (agree_refl plan l v) (switched_aside b k.domains l.domains apart.domains (f v) v.on (own v));
}

pub event_moves : {plan : Plan} {k : Region plan} (t : ℕ) (e : Event) → EventIn k e → Moves plan k (by_event plan t e)
unfolding by_event
event_moves t (event.Get d w) i =
    moves_then (λ v. set_usage ((device v d).usage + 1) d v) _ (local_device d (λ x. record x { usage = x.usage + 1 }) i.0) (got_moves d w i.0 i.1)
event_moves t (event.Put d w) i =
    moves_then (λ v. set_usage ((device v d).usage - 1) d v) _ (local_device d (λ x. record x { usage = x.usage - 1 }) i.0) (gave_moves d w i.0 i.1)
event_moves t (event.State d w) i = word_moves t d w i
event_moves t (event.Begin d cb.Idle) i = moves (local_device d (λ x. record x { idle_running = true; begun_idle = x.begun_idle + 1 }) i)
event_moves t (event.Begin d cb.Suspend) i = moves (local_device d (λ x. record x { status = status.Suspending; begun_suspend = x.begun_suspend + 1 }) i)
event_moves t (event.Begin d cb.Resume) i = moves (local_device d (λ x. record x { begun_resume = x.begun_resume + 1 }) i)
event_moves t (event.End d cb.Idle c) i = moves (local_device d (λ x. record x { idle_running = false }) i)
event_moves t (event.End d cb.Suspend c) i =
    moves (local_if (λ v. int_eq c (pos 0)) (λ v. v) (suspend_failed d c) (λ v w a. refl) local_same
    (local_if (λ v. is_try_again c) (set_status status.Active d) (λ v. set_error c d (set_status status.Active d v)) (λ v w a. refl) (status_local status.Active d i)
    (local_then (set_status status.Active d) (set_error c d) (status_local status.Active d i) (error_local c d i))))
event_moves t (event.End d cb.Resume c) i = moves (local_if (λ v. int_eq c (pos 0)) (λ v. v) (set_error c d) (λ v w a. refl) local_same (error_local c d i))
event_moves {plan} {k} t (event.Domain d true n) i = switches_move true (λ v. up plan v d) (λ v w a. up_agrees d a i) (λ v. up_own plan k v d i)
event_moves {plan} {k} t (event.Domain d false n) i = switches_move false (λ v. down plan v d) (λ v w a. down_agrees d a i) (λ v. down_own plan k v d i)
event_moves t (event.Work d (Queue r)) i = moves (local_then (set_request r d) (set_queued true d) (local_request r d i) (local_queued true d i))
event_moves t (event.Work d Defer) i = moves (local_deferred true d i)
event_moves t (event.Work d (Run r)) i = moves (local_then (set_request Nothing d) (set_queued false d) (local_request Nothing d i) (local_queued false d i))
event_moves t (event.Timer d (Arm at autosuspends)) i = moves (local_timer d (Some (record { deadline = at; autosuspends = autosuspends })) i)
event_moves t (event.Timer d (Fire autosuspends)) i = moves (local_disarm d i)
event_moves t _ i = moves local_same
