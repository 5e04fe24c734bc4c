-- Devices hold their links, after every lawful list of lines.
use Rattle.std.proofs.Common.{ℕ, ◌≡◌, ◌+◌, ◌<◌, ◌≤◌, Bool, true, false, ◌&&◌, [], ◌∷◌, Option, Some, None, length, slice_get, ap, refl, sym, ◌∙◌, arith, subst}
use Rattle.std.specs.Prelude.{◌||◌}
use Rattle.std.specs.Option.{unwrap_or}
use Rattle.std.proofs.lemmas.Bool.{ltb-true}
use Rattle.std.proofs.lemmas.Option.{slice_get_within}
use Rattle.pm_base.specs.declared.DevId.{DevId}
use Rattle.pm_base.specs.declared.Status.{Status}
use Rattle.pm_base.specs.declared.Status.TheVariants as status
use Rattle.pm_model.specs.declared.event.Line.{Line}
use Rattle.pm_model.specs.declared.plan.Plan.{Plan}
use Rattle.pm_model.specs.declared.rows.LinkRow.{LinkRow}
use Rattle.pm_model.specs.Counted.{is_same, only_if}
use Rattle.pm_model.specs.Derived.{is_suspended, is_moving, is_active_status, is_suspended_status, is_suspending_status, is_resuming_status}
use Rattle.pm_model.specs.History.{History}
use Rattle.pm_model.specs.IsPlan.{is_link}
use Rattle.pm_model.specs.Lawful.{IsLawful}
use Rattle.pm_model.specs.Views.{Views, device, is_held, is_present}
use Rattle.pm_model.specs.World.{World, world}
use Rattle.pm_laws.specs.counts.Sums.{one, tally}
use Rattle.pm_laws.proofs.counts.Links.{both, lawful_links}
use Rattle.pm_laws.proofs.counts.Runs.{Holds, lawful_holds}
use Rattle.pm_laws.proofs.counts.Said.{start_held}
use Rattle.pm_laws.specs.safe.Parts.{Phase, giving, falling, unsetting, counts, at_part, any_phase}
use Rattle.pm_laws.specs.safe.Kinds.{Kind, gives_link, suspends, suspends_quiet, resumes_quiet, takes_link, raises_domain, begins_at_once, forces_bare, forces_held, forces_off, adds_link, drops_link, drops_held, dev_of, old, new, turn, turned, says, holds, shows, Guard, lets_go}
use Rattle.pm_laws.specs.safe.LineKind.{HasKind}
use Rattle.pm_laws.proofs.safe.Lines.{line_kind}
use Rattle.pm_laws.proofs.safe.Owners.{some_parts}
use Rattle.pm_laws.specs.safe.Bonds.{is_taken}
use Rattle.pm_laws.specs.safe.Needs.{needs_links, Needs}
use Rattle.pm_laws.proofs.safe.LinkRows.{LinkAt, all_at, none_held, none_free, no_link, not_runtime, found_free, not_in}
use Rattle.pm_laws.proofs.safe.Steps.{differ, same_is, need, Least, least_at, IsNeed, least_own, Owned, alone, nobody, owned_at, own_one, need_now, need_then, start_need, needs_some}

links_need : IsNeed needs_links
links_need = record { suspending = refl; ready = refl; resuming = refl; resumed = refl; lets_go = apart; falls = record { refuses = omega arith; unsets = omega arith } }
  where
    apart : (x : Phase) → lets_go x ≡ true → needs_links x ≡ false
    apart giving e = refl
    apart falling e = refl
    apart unsetting e = refl
    apart _ e = cc

-- a link by its consumer's status, whether it is held and whether it is one to take, and what the consumer needs: a held
-- link is one to take, a Suspended consumer holds none, and one that needs its links holds all
record Link (st : Status) (h : Bool) (takes : Bool) (n : ℕ) : Type 0 where
  runtime : h ≡ true → takes ≡ true
  none : is_suspended_status st ≡ true → h ≡ false
  all : takes ≡ true → h ≡ false → one (is_active_status st) + n ≡ 0

-- before a line: with what the stage that writes owns of the consumer, and all others
record Before (st : Status) (h takes : Bool) (n x o y : ℕ) : Type 0 where
  link : Link st h takes (n + x)
  owns : Owned st o y
  fewer : x ≤ y

-- a line that says nothing of the link
same : (k : Kind) (c : DevId) (st : Status) (h takes : Bool) (x : ℕ) → Link st h takes (counts needs_links c (old k) + x)
    → (is_suspended_status (unwrap_or (says k c) st) ≡ true → h ≡ false) → (takes ≡ true → h ≡ false → is_same c (dev_of k) ≡ true → Least needs_links k st)
    → Link (unwrap_or (says k c) st) h takes (counts needs_links c (new k) + x)
same k c st h takes x b none least = record {
  runtime = b.runtime;
  none = none;
  all = λ q r. let was = b.all q r in let le = least_at needs_links k c st x (least q r) in omega arith;
}

abbrev turns_down : Option Status → Bool
turns_down (Some s) = is_suspended_status s
turns_down None = false

-- a device that a line doesn't turn Suspended was so before
was_asleep : (o : Option Status) (m : Bool) (st : Status) → turns_down o ≡ false → is_suspended_status (unwrap_or (turned o m) st) ≡ true → is_suspended_status st ≡ true
was_asleep None m st e s = s
was_asleep (Some status.Suspended) m st e s = cc
was_asleep (Some t) true st e s = differ s e
was_asleep (Some t) false st e s = s

-- a consumer that turns Suspended, or was so
asleep_free : (m : Bool) (st : Status) (h : Bool) → (is_suspended_status st ≡ true → h ≡ false) → (m ≡ true → h ≡ false)
    → is_suspended_status (unwrap_or (only_if m status.Suspended) st) ≡ true → h ≡ false
asleep_free true st h was now s = now refl
asleep_free false st h was now s = was s

-- a link that isn't one to take is free
free_if : (h takes : Bool) → (h ≡ true → takes ≡ true) → (takes ≡ true → h ≡ false) → h ≡ false
free_if true takes a b = b (a refl)
free_if false takes a b = refl

pub not_both : (p rt : Bool) → rt ≡ false → p && rt ≡ false
not_both true rt e = e
not_both false rt e = refl

-- an owner gives this link back
given : (m : Bool) (st : Status) (h takes : Bool) (n n' x o y : ℕ) → Before st h takes n x o y → (m ≡ true → (o ≡ 1) × (n' ≡ 0)) → n' ≤ n
    → Link st (unwrap_or (only_if m false) h) takes (n' + x)
given true st h takes n n' x o y b own less =
    let a = alone st o x y (own refl).0 b.owns b.fewer in
    record {
      runtime = λ e. cc;
      none = λ _. refl;
      all = λ _ _. omega (arith, a.others, ap one a.inactive, (own refl).1);
    }
given false st h takes n n' x o y b own less = record { runtime = b.link.runtime; none = b.link.none; all = λ q r. let was = b.link.all q r in omega arith }

-- and takes one that is free
taken : (m : Bool) (st : Status) (h takes : Bool) (n x o y : ℕ) → Before st h takes n x o y → (m ≡ true → (o ≡ 1) × (takes ≡ true))
    → Link st (unwrap_or (only_if m true) h) takes (n + x)
taken true st h takes n x o y b own = record { runtime = λ _. (own refl).1; none = λ s. differ s (alone st o x y (own refl).0 b.owns b.fewer).awake; all = λ q r. cc }
taken false st h takes n x o y b own = b.link

-- a consumer that stands is forced to Suspended, and its links are freed
loosed : (m : Bool) (st : Status) (h takes : Bool) (n x o y : ℕ) → n ≡ 0 → Before st h takes n x o y → (m ≡ true → is_suspending_status st || is_resuming_status st ≡ false)
    → Link (unwrap_or (only_if m status.Suspended) st) (unwrap_or (only_if m false) h) takes (0 + x)
loosed true st h takes n x o y light b stands = record { runtime = λ e. cc; none = λ _. refl; all = λ _ _. omega (arith, nobody st o x y (stands refl) b.owns b.fewer) }
loosed false st h takes n x o y light b stands = record { runtime = b.link.runtime; none = b.link.none; all = λ q r. let was = b.link.all q r in omega arith }

-- a link of a Suspended consumer appears
added : (m : Bool) (st : Status) (h p rt : Bool) (n x o y : ℕ) → Before st h (p && rt) n x o y → (m ≡ true → is_suspended_status st ≡ true)
    → n ≡ 0 → Link st h (unwrap_or (only_if m true) p && rt) (n + x)
added true st h p rt n x o y b s light = go st (s refl) b
  where
    go : (st : Status) → is_suspended_status st ≡ true → Before st h (p && rt) n x o y → Link st h (true && rt) (n + x)
    go status.Suspended e b = record { runtime = λ e. differ e (b.link.none refl); none = b.link.none; all = λ _ _. omega (arith, light, b.owns, b.fewer) }
    go status.Active e b = cc
    go status.Suspending e b = cc
    go status.Resuming e b = cc
added false st h p rt n x o y b s light = b.link

-- a link that is free goes
dropped : (m : Bool) (st : Status) (h p rt : Bool) (n : ℕ) → Link st h (p && rt) n → (m ≡ true → h ≡ false) → Link st h (unwrap_or (only_if m false) p && rt) n
dropped true st h p rt n b free = record { runtime = λ e. differ e (free refl); none = b.none; all = λ e. cc }
dropped false st h p rt n b free = b

-- or one that is held, and it is given back
dropped_held : (m : Bool) (st : Status) (h p rt : Bool) (n : ℕ) → Link st h (p && rt) n
    → Link st (unwrap_or (only_if m false) h) (unwrap_or (only_if m false) p && rt) n
dropped_held true st h p rt n b = record { runtime = λ e. cc; none = λ _. refl; all = λ e. cc }
dropped_held false st h p rt n b = b

light_at : (m a : Bool) → a ≡ false → one (m && a) ≡ 0
light_at true a e = ap one e
light_at false a e = refl

link_kind : (plan : Plan) (v : Views) (l : ℕ) (row : LinkRow) (at : LinkAt plan v l row) (k : Kind) (x y : ℕ) → Guard plan v k
    → Before (device v row.consumer).status (is_held v l) (is_taken v l row) (counts needs_links row.consumer (old k)) x (counts any_phase row.consumer (old k)) y
    → Link (unwrap_or (says k row.consumer) (device v row.consumer).status) (unwrap_or (holds k row.consumer row.supplier) (is_held v l))
    (unwrap_or (shows k row.consumer row.supplier) (is_present v l) && row.pm_runtime) (counts needs_links row.consumer (new k) + x)
link_kind plan v l row at (suspends d w z) x y g b =
    same (suspends d w z) row.consumer _ _ _ x b.link
    (asleep_free (is_same row.consumer d) _ _ b.link.none (λ m. free_if _ _ b.link.runtime (none_held plan v d l row at g.0 m))) (λ _ _. least_own plan v needs_links (suspends d w z) row.consumer links_need g refl)
link_kind plan v l row at (suspends_quiet d) x y g b =
    same (suspends_quiet d) row.consumer _ _ _ x b.link
    (asleep_free (is_same row.consumer d) _ _ b.link.none (λ m. free_if _ _ b.link.runtime (λ q. differ q (not_both (is_present v l) row.pm_runtime (not_runtime plan d l row at.is g.0 m)))))
    (λ _ _. least_own plan v needs_links (suspends_quiet d) row.consumer links_need g refl)
link_kind plan v l row at (resumes_quiet d) x y g b =
    same (resumes_quiet d) row.consumer _ _ _ x b.link (λ s. b.link.none (was_asleep (Some status.Active) (is_same row.consumer d) _ refl s))
    (λ q _ m. differ q (not_both (is_present v l) row.pm_runtime (not_runtime plan d l row at.is g.0 m)))
link_kind plan v l row at (raises_domain d n) x y g b =
    same (raises_domain d n) row.consumer _ _ _ x b.link b.link.none (λ q r m. differ (none_free plan v d l row at g.0 m q) r)
link_kind plan v l row at (begins_at_once d) x y g b =
    same (begins_at_once d) row.consumer _ _ _ x b.link b.link.none (λ q r m. differ (none_free plan v d l row at g.0 m q) r)
link_kind plan v l row at (forces_bare d) x y g b =
    same (forces_bare d) row.consumer _ _ _ x b.link (λ s. b.link.none (was_asleep (Some status.Active) (is_same row.consumer d) _ refl s)) (λ q _ m. differ q (no_link plan v d l row at g.0 m))
link_kind plan v l row at (forces_held d) x y g b =
    same (forces_held d) row.consumer _ _ _ x b.link (λ s. b.link.none (was_asleep (Some status.Active) (is_same row.consumer d) _ refl s)) (λ q r m. differ (none_free plan v d l row at g.0 m q) r)
link_kind plan v l row at (gives_link d s z t) x y g b =
    given (is_same row.supplier s && is_same row.consumer d) _ _ _ _ _ x _ y b
    (λ m. let own = (both _ _ m).1 in (own_one (gives_link d s z t) row.consumer z refl own, light_at (is_same row.consumer d) (needs_links t) (links_need.lets_go t g.1)))
    (let none = light_at (is_same row.consumer d) (needs_links t) (links_need.lets_go t g.1) in omega arith)
link_kind plan v l row at (takes_link d link z) x y g b =
    taken (is_same row.supplier link.1 && is_same row.consumer d) _ _ _ _ x _ y b (λ m. let own = (both _ _ m).1 in (own_one (takes_link d link z) row.consumer z refl own, found_free plan v d link l row at g.0 m))
link_kind plan v l row at (forces_off d) x y g b =
    loosed (is_same row.consumer d) (device v row.consumer).status (is_held v l) (is_taken v l row) 0 x 0 y refl b (λ m. subst (λ c. is_moving v c ≡ false) (same_is row.consumer d m) g)
link_kind plan v l row at (adds_link d s) x y g b =
    added (is_same row.supplier s && is_same row.consumer d) (device v row.consumer).status (is_held v l) (is_present v l) row.pm_runtime 0 x 0 y b (λ m. subst (λ c. is_suspended v c ≡ true) (same_is row.consumer d (both _ _ m).1) g.0) refl
link_kind plan v l row at (drops_link d s) x y g b = dropped (is_same row.supplier s && is_same row.consumer d) _ _ _ _ _ b.link (λ m. not_in plan d s v.held l row at.is g m)
link_kind plan v l row at (drops_held d s) x y g b = dropped_held (is_same row.supplier s && is_same row.consumer d) _ _ _ _ _ b.link
link_kind plan v l row at k x y g b =
    same k row.consumer _ _ _ x b.link (λ s. b.link.none (was_asleep (turn k) (is_same row.consumer (dev_of k)) _ refl s)) (λ _ _. least_own plan v needs_links k row.consumer links_need g refl)

-- the consumer of a link is one of the devices
pub consumer_within : (plan : Plan) (l : ℕ) (row : LinkRow) → slice_get plan.links l ≡ Some row → row.consumer.0 < length plan.devices
consumer_within plan l row is =
    let lawful = all_at (is_link plan.devices) plan.links l row is (lawful_links plan) in
    ltb-true row.consumer.0 (length plan.devices) (both _ _ (both _ _ lawful).0).0

pub record HoldsLink (plan : Plan) (w : World) (l : ℕ) (row : LinkRow) : Type 0 where
  pub runtime : is_held w.views l ≡ true → is_taken w.views l row ≡ true
  pub none : is_suspended w.views row.consumer ≡ true → is_held w.views l ≡ false
  pub all : is_taken w.views l row ≡ true → is_held w.views l ≡ false → need needs_links w row.consumer ≡ 0

links_line : (plan : Plan) (h : History) (line : Line) → IsLawful plan (line ∷ h) → (l : ℕ) (row : LinkRow) → slice_get plan.links l ≡ Some row
    → HoldsLink plan (world plan h) l row → HoldsLink plan (world plan (line ∷ h)) l row
links_line plan h line lawful l row is before = record {
  runtime = λ e. rw present_now (now.runtime (sym held_now ∙ e));
  none = λ s. held_now ∙ now.none (sym (ap is_suspended_status (k.status c within)) ∙ s);
  all = λ q r. let none = now.all (rw present_now at q) (sym held_now ∙ r) in let le = need_now plan h line k needs_links c links_need.falls within in omega arith;
}
  where
    c : DevId
    c = row.consumer

    v : Views
    v = (world plan h).views

    known : Holds plan (world plan h)
    known = lawful_holds plan h lawful.2

    k : HasKind plan h line
    k = line_kind plan h line lawful

    within : c.0 < length plan.devices
    within = consumer_within plan l row is

    at : LinkAt plan v l row
    at = let here = slice_get_within plan.links l row is in record { is = is; held = omega (arith, known.entries.held); present = omega (arith, known.entries.present) }

    held_now : is_held (world plan (line ∷ h)).views l ≡ unwrap_or (holds k.kind c row.supplier) (is_held v l)
    held_now = k.held l row is

    present_now : is_present (world plan (line ∷ h)).views l ≡ unwrap_or (shows k.kind c row.supplier) (is_present v l)
    present_now = k.present l row is

    earlier : Before (device v c).status (is_held v l) (is_taken v l row) (counts needs_links c (old k.kind)) (tally (at_part needs_links c) k.others) (counts any_phase c (old k.kind)) (tally (at_part any_phase c) k.others)
    earlier = record {
      link = record { runtime = before.runtime; none = before.none; all = λ q r. sym (need_then plan h line k needs_links c) ∙ before.all q r };
      owns = owned_at plan h line k c known within;
      fewer = some_parts needs_links c k.others;
    }

    now : Link (unwrap_or (says k.kind c) (device v c).status) (unwrap_or (holds k.kind c row.supplier) (is_held v l))
        (unwrap_or (shows k.kind c row.supplier) (is_present v l) && row.pm_runtime) (counts needs_links c (new k.kind) + tally (at_part needs_links c) k.others)
    now = link_kind plan v l row at k.kind _ _ k.guard earlier

pub links_hold : (plan : Plan) (h : History) (l : ℕ) (row : LinkRow) → IsLawful plan h → slice_get plan.links l ≡ Some row → HoldsLink plan (world plan h) l row
links_hold plan [] l row lawful is = record {
  runtime = λ e. differ e (start_held plan.links l);
  none = λ _. start_held plan.links l;
  all = λ _ _. start_need plan needs_links row.consumer;
}
links_hold plan (line ∷ h) l row lawful is = links_line plan h line lawful l row is (links_hold plan h l row lawful.2 is)

pub needed_held : (plan : Plan) (h : History) (l : ℕ) (row : LinkRow) → IsLawful plan h → slice_get plan.links l ≡ Some row → is_taken (world plan h).views l row ≡ true
    → Needs (world plan h) needs_links row.consumer → is_held (world plan h).views l ≡ true
needed_held plan h l row lawful is takes needs = go (is_held (world plan h).views l) refl
  where
    go : (b : Bool) → is_held (world plan h).views l ≡ b → is_held (world plan h).views l ≡ true
    go true e = e
    go false e = absurd (needs_some (world plan h) needs_links row.consumer needs ((links_hold plan h l row lawful is).all takes e))
