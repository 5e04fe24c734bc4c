-- Devices that hold a link have its supplier Active, after every lawful list of lines.
use Rattle.std.proofs.Common.{ℕ, zero, suc, ◌≡◌, ◌<◌, ◌≤◌, ◌⊎◌, inl, inr, Bool, true, false, ◌&&◌, List, [], ◌∷◌, Some, length, nat_eq, nat_lt, slice_get, slice_index_or, ap, refl, sym, ◌∙◌, arith, subst}
use Rattle.std.specs.Prelude.{◌||◌}
use Rattle.std.proofs.lemmas.Bool.{ltb-true, ltb-false}
use Rattle.std.proofs.lemmas.Option.{slice_get_within}
use Rattle.pm_base.specs.declared.DevId.{DevId}
use Rattle.pm_base.specs.declared.Status.{Status}
use Rattle.pm_base.specs.declared.Status.TheVariants as status
use Rattle.pm_model.specs.declared.event.Line.{Line}
use Rattle.pm_model.specs.declared.plan.Plan.{Plan}
use Rattle.pm_model.specs.declared.rows.LinkRow.{LinkRow}
use Rattle.pm_model.specs.Counted.{is_same}
use Rattle.pm_model.specs.Derived.{is_active, is_suspended, is_active_status, is_suspended_status, is_suspending_status, is_resuming_status}
use Rattle.pm_model.specs.Excuse.{forces}
use Rattle.pm_model.specs.History.{History}
use Rattle.pm_model.specs.IsPlan.{is_link}
use Rattle.pm_model.specs.Lawful.{IsLawful}
use Rattle.pm_model.specs.Views.{Views, device, is_held, is_present}
use Rattle.pm_model.specs.World.{World, world}
use Rattle.pm_laws.specs.counts.Sums.{one, tally}
use Rattle.pm_laws.proofs.counts.Links.{both, lent_of, lent_cons, lawful_links}
use Rattle.pm_laws.proofs.counts.Runs.{Holds, lawful_holds, permitted}
use Rattle.pm_laws.proofs.counts.Said.{start_held}
use Rattle.pm_laws.proofs.stacks.Tests.{same_self}
use Rattle.pm_laws.specs.safe.Kinds.{Kind, enters, sets_active, resumes_quiet, forces_bare, dev_of, Guard, lets_go}
use Rattle.pm_laws.specs.safe.LineKind.{HasKind}
use Rattle.pm_laws.specs.safe.Needs.{needs_supplier, Needs}
use Rattle.pm_laws.specs.safe.Parts.{Phase, giving, falling, unsetting, at_part}
use Rattle.pm_laws.proofs.safe.Lines.{line_kind}
use Rattle.pm_laws.specs.safe.Supplied.{Bonds, Supplied}
use Rattle.pm_laws.proofs.safe.Supplying.{supplier_step}
use Rattle.pm_laws.specs.safe.Bonds.{is_taken}
use Rattle.pm_laws.proofs.safe.Entries.{leaves}
use Rattle.pm_laws.proofs.safe.LinkRows.{LinkAt, all_at, no_link, not_runtime, some_row}
use Rattle.pm_laws.proofs.safe.Links.{HoldsLink, links_hold, consumer_within, not_both}
use Rattle.pm_laws.proofs.safe.Refusals.{rests_so}
use Rattle.pm_laws.proofs.safe.Steps.{differ, same_is, need, Least, least_at, IsNeed, least_own, owned_at, need_now, need_then}

supplier_needs : IsNeed needs_supplier
supplier_needs = record { suspending = refl; ready = refl; resuming = refl; resumed = refl; lets_go = apart; falls = record { refuses = omega arith; unsets = omega arith } }
  where
    apart : (x : Phase) → lets_go x ≡ true → needs_supplier x ≡ false
    apart giving e = refl
    apart falling e = refl
    apart unsetting e = refl
    apart _ e = cc

-- a status is one of four
nowhere : {A : Type 0} (st : Status) → is_suspending_status st || is_resuming_status st ≡ false → is_active_status st ≡ false → is_suspended_status st ≡ false → A
nowhere status.Active a b c = cc
nowhere status.Suspended a b c = cc
nowhere status.Suspending a b c = cc
nowhere status.Resuming a b c = cc

-- the consumer of a held link doesn't begin to need its suppliers: it isn't Suspended
supplier_least : (plan : Plan) (v : Views) (l : ℕ) (row : LinkRow) (at : LinkAt plan v l row) (k : Kind) → is_taken v l row ≡ true → is_suspended v row.consumer ≡ false → Guard plan v k
    → is_same row.consumer (dev_of k) ≡ true → Least needs_supplier k (device v row.consumer).status
supplier_least plan v l row at (resumes_quiet d) takes awake g m = differ takes (not_both (is_present v l) row.pm_runtime (not_runtime plan d l row at.is g.0 m))
supplier_least plan v l row at (forces_bare d) takes awake g m = differ takes (no_link plan v d l row at g.0 m)
supplier_least plan v l row at (enters d) takes awake g m =
    nowhere (device v d).status g.0 g.2 (subst (λ c. is_suspended v c ≡ false) (sym (same_is row.consumer d m)) awake)
supplier_least plan v l row at (sets_active d) takes awake g m =
    nowhere (device v d).status g.0 g.1 (subst (λ c. is_suspended v c ≡ false) (sym (same_is row.consumer d m)) awake)
supplier_least plan v l row at k takes awake g m = least_own plan v needs_supplier k row.consumer supplier_needs g refl m

-- the supplier of a held link is in use
lent_some : (rows : List LinkRow) (held : List Bool) (l : ℕ) (row : LinkRow) → slice_get rows l ≡ Some row → slice_index_or held l false ≡ true → 1 ≤ lent_of rows held row.supplier
lent_some [] held l row is e = cc
lent_some (x ∷ rows) [] l row is e = empty l e
  where
    empty : (l : ℕ) → slice_index_or [] l false ≡ true → 1 ≤ lent_of (x ∷ rows) [] row.supplier
    empty l e = cc
lent_some (x ∷ rows) (h ∷ held) zero row is e =
    let same : x ≡ row = some_row x row is in
    let here : one (nat_eq x.supplier.0 row.supplier.0 && h) ≡ 1 = rw (same, same_self row.supplier.0, e) refl in
    omega (arith, lent_cons x rows h held row.supplier)
lent_some (x ∷ rows) (h ∷ held) (suc l) row is e = omega (arith, lent_cons x rows h held row.supplier, lent_some rows held l row is e)

unused : (n : ℕ) → nat_lt 0 n ≡ false → n ≡ 0
unused n e = let le : n ≤ 0 = ltb-false 0 n e in omega arith

supplier_within : (plan : Plan) (l : ℕ) (row : LinkRow) → slice_get plan.links l ≡ Some row → row.supplier.0 < length plan.devices
supplier_within plan l row is =
    let lawful = both _ _ (all_at (is_link plan.devices) plan.links l row is (lawful_links plan)) in
    let before : row.supplier.0 < row.consumer.0 = ltb-true row.supplier.0 row.consumer.0 (both _ _ lawful.0).1 in
    omega (arith, before, consumer_within plan l row is)

-- a need, and what makes one
needs_count : (w : World) (test : Phase → Bool) (d : DevId) → Needs w test d → 0 < need test w d
needs_count w test d (inl up) = omega (arith, ap one up)
needs_count w test d (inr some) = omega arith

needs_of : (w : World) (test : Phase → Bool) (d : DevId) → 0 < need test w d → Needs w test d
needs_of w test d some = go (is_active w.views d) refl
  where
    go : (b : Bool) → is_active w.views d ≡ b → Needs w test d
    go true e = inl e
    go false e = inr (omega (arith, ap one e))

bonds : (plan : Plan) (h : History) (line : Line) (l : ℕ) (row : LinkRow) → IsLawful plan (line ∷ h) → slice_get plan.links l ≡ Some row → Bonds plan h line l row.consumer row.supplier
bonds plan h line l row lawful is = record { needed = needed; stays = stays }
  where
    c : DevId
    c = row.consumer

    s : DevId
    s = row.supplier

    v : Views
    v = (world plan h).views

    known : Holds plan (world plan h)
    known = lawful_holds plan h lawful.2

    k : HasKind plan h line
    k = line_kind plan h line lawful

    link : HoldsLink plan (world plan h) l row
    link = links_hold plan h l row lawful.2 is

    at : LinkAt plan v l row
    at = let here = slice_get_within plan.links l row is in record { is = is; held = omega (arith, known.entries.held); present = omega (arith, known.entries.present) }

    awake : is_held v l ≡ true → is_suspended v c ≡ false
    awake held = go (is_suspended v c) refl
      where
        go : (b : Bool) → is_suspended v c ≡ b → is_suspended v c ≡ false
        go true e = differ held (link.none e)
        go false e = e

    needed : is_held v l ≡ true → Needs (world plan (line ∷ h)) needs_supplier c → Needs (world plan h) needs_supplier c
    needed held needs =
        let some = needs_count (world plan (line ∷ h)) needs_supplier c needs in
        let now = need_now plan h line k needs_supplier c supplier_needs.falls (consumer_within plan l row is) in
        let le = least_at needs_supplier k.kind c (device v c).status (tally (at_part needs_supplier c) k.others) (supplier_least plan v l row at k.kind (link.runtime held) (awake held) k.guard) in
        let was = need_then plan h line k needs_supplier c in
        needs_of (world plan h) needs_supplier c (omega arith)

    stays : is_held v l ≡ true → is_active v s ≡ true → (is_active (world plan (line ∷ h)).views s ≡ true) ⊎ (forces s line.event ≡ true)
    stays held up = go (is_active (world plan (line ∷ h)).views s) refl
      where
        within : s.0 < length plan.devices
        within = supplier_within plan l row is

        go : (b : Bool) → is_active (world plan (line ∷ h)).views s ≡ b → (is_active (world plan (line ∷ h)).views s ≡ true) ⊎ (forces s line.event ≡ true)
        go true e = inl e
        go false e = elim (leaves plan v s k.kind line.event _ k.event k.guard (owned_at plan h line k s known within) up (ap is_active_status (sym (k.status s within)) ∙ e)) [
          | inl rest ↦ absurd (let none = unused (device v s).usage (rests_so plan v s rest).unused in omega (arith, known.counts s within, lent_some plan.links v.held l row is held))
          | inr force ↦ inr force
        ]

supplied : (plan : Plan) (h : History) (l : ℕ) (row : LinkRow) → IsLawful plan h → slice_get plan.links l ≡ Some row → row.pm_runtime ≡ true → Supplied plan h l row.consumer row.supplier
supplied plan [] l row lawful is runs = λ held needs. differ held (start_held plan.links l)
supplied plan (line ∷ h) l row lawful is runs =
    supplier_step plan h line l row.consumer row.supplier lawful (consumer_within plan l row is) (supplier_within plan l row is)
    (record { row = row; is = is; consumer = refl; supplier = refl; runtime = runs }) (permitted plan h line lawful.0 (lawful_holds plan h lawful.2))
    (bonds plan h line l row lawful is) (supplied plan h l row lawful.2 is runs)

pub supplier_stays : (plan : Plan) (h : History) (l : ℕ) (row : LinkRow) → IsLawful plan h → slice_get plan.links l ≡ Some row → Supplied plan h l row.consumer row.supplier
supplier_stays plan h l row lawful is held needs =
    supplied plan h l row lawful is (both _ _ ((links_hold plan h l row lawful is).runtime held)).1 held needs
