-- The lines that may come next from a snapshot as it goes on, of one kind, lead to exactly what follows it by turns of that kind.
use Rattle.std.proofs.Common.{ℕ, ◌≡◌, ◌≤◌, ◌<◌, inl, inr, Bool, true, false, not, List, [], ◌++◌, length, Some, slice_get, refl, sym, subst, ap, arith, if◌then◌else◌}
use Rattle.std.specs.List.{Contains}
use Rattle.pm_model.specs.declared.event.Event.{Event}
use Rattle.pm_model.specs.declared.event.Line.{Line}
use Rattle.pm_explore.specs.declared.schedule.Pace.{Pace}
use Rattle.pm_explore.specs.schedule.Schedules.{one_more_if}
use Rattle.pm_explore.specs.schedule.Snapshots.{Snapshot}
use Rattle.pm_explore.specs.search.Exact.{HasExactly, IsAmong}
use Rattle.pm_explore.specs.successors.Lines.{IsNext}
use Rattle.pm_explore.proofs.successors.Places.{IsIn, in_left, in_right}
use Rattle.pm_driver_orders.specs.declared.Position.{Position}
use Rattle.pm_driver_orders.specs.Drivers.{Driver}
use Rattle.pm_driver_orders.specs.DriverSnapshots.{DriverFollows, DriverSnapshot, after_turn, all_after, is_failure, posed_snapshot}
use Rattle.pm_driver_search.specs.Standing.{snapshot_posed}
use Rattle.pm_driver_search.specs.Turns.{FollowsBy, is_of_kind, kept_by, snapshots_after, snapshots_by}
use Rattle.pm_driver_search.proofs.Among.{among, contained, contains, in_append, in_flat, in_map, to_flat, to_map}

of_kind : (failing : Bool) (e : Event) → is_of_kind failing e ≡ true → is_failure e ≡ failing
of_kind true e is = is
of_kind false e is = go (is_failure e) is
  where
    go : (b : Bool) → not b ≡ true → b ≡ false
    go true is = cc is
    go false is = refl

pub is_kind : (failing : Bool) (e : Event) → is_failure e ≡ failing → is_of_kind failing e ≡ true
is_kind true e is = is
is_kind false e is = ap not is

module _ (pace : Pace) (D : Driver) (most : ℕ) (spends failing : Bool) (s : DriverSnapshot) where
  -- a snapshot as it goes on with a line of this kind
  posed_is : (line : Line) → is_failure line.event ≡ failing → posed_snapshot D s line ≡ snapshot_posed D s failing
  posed_is line kind = ap (snapshot_posed D s) kind

  follows_by : (line : Line) (ps : List Position) → one_more_if failing s.failures ≤ most → IsNext pace D.plan (snapshot_posed D s failing) spends line → is_failure line.event ≡ failing
      → Contains (all_after D s.snapshot.world.views line.actor line.event s.positions) ps → FollowsBy pace D most spends failing s (after_turn D s (record { line = line; positions = ps }))
  follows_by line ps few next kind goes =
      let here : IsNext pace D.plan (posed_snapshot D s line) spends line = subst (λ (x : Snapshot). IsNext pace D.plan x spends line) (sym (posed_is line kind)) next in
      record {
        follows = record {
          turn = record { line = line; positions = ps };
          may = record { may = here.may; timely = here.timely; goes = goes; few = subst (λ b. one_more_if b s.failures ≤ most) (sym kind) few };
          preempts_is = here.kind;
          leads = refl;
        };
        kind = kind;
      }

  kept : (line : Line) (q : DriverSnapshot) → IsIn (kept_by D s failing line) q → (is_failure line.event ≡ failing) × IsIn (snapshots_by D s line) q
  kept line q there = go (is_of_kind failing line.event) refl there
    where
      go : (b : Bool) → is_of_kind failing line.event ≡ b → IsIn (if b then snapshots_by D s line else []) q → (is_failure line.event ≡ failing) × IsIn (snapshots_by D s line) q
      go true is there = (of_kind failing line.event is, there)
      go false is there = let none = there.1 in cc none

  pub each_follows : (lines : List Line) → one_more_if failing s.failures ≤ most → HasExactly (IsNext pace D.plan (snapshot_posed D s failing) spends) lines
      → (i : ℕ) (q : DriverSnapshot) → slice_get (snapshots_after D s failing lines) i ≡ Some q → FollowsBy pace D most spends failing s q
  each_follows lines few exact i q is =
      let from = in_flat (kept_by D s failing) lines i q is in
      let line = from.0 in
      let here = kept line q from.2 in
      let turn = in_map (λ ps. after_turn D s (record { line = line; positions = ps })) (all_after D s.snapshot.world.views line.actor line.event s.positions) here.1.0 q here.1.1 in
      subst (FollowsBy pace D most spends failing s) turn.2
      (follows_by line turn.0 few (exact.sound from.1.0 line from.1.1) here.0 (contains (all_after D s.snapshot.world.views line.actor line.event s.positions) here.1.0 turn.0 turn.1))

  pub all_follow : (lines : List Line) → HasExactly (IsNext pace D.plan (snapshot_posed D s failing) spends) lines
      → (q : DriverSnapshot) → FollowsBy pace D most spends failing s q → IsAmong (snapshots_after D s failing lines) (length (snapshots_after D s failing lines)) q
  all_follow lines exact q f =
      let turn = f.follows.turn in
      let line = turn.line in
      let may = f.follows.may in
      let next : IsNext pace D.plan (posed_snapshot D s line) spends line = record { may = may.may; timely = may.timely; kind = f.follows.preempts_is } in
      let there = exact.complete line (subst (λ (x : Snapshot). IsNext pace D.plan x spends line) (posed_is line f.kind) next) in
      let by = to_map (λ ps. after_turn D s (record { line = line; positions = ps })) (all_after D s.snapshot.world.views line.actor line.event s.positions) turn.positions (contained _ turn.positions may.goes) in
      let here : IsIn (kept_by D s failing line) (after_turn D s turn) = subst (λ (b : Bool). IsIn (if b then snapshots_by D s line else []) (after_turn D s turn)) (sym (is_kind failing line.event f.kind)) by in
      let all = to_flat (kept_by D s failing) lines there.place line (after_turn D s turn) there.there here in
      among (snapshots_after D s failing lines) q (subst (IsIn (snapshots_after D s failing lines)) (sym f.follows.leads) all)

  pub exact_by : (lines : List Line) → one_more_if failing s.failures ≤ most → HasExactly (IsNext pace D.plan (snapshot_posed D s failing) spends) lines
      → HasExactly (FollowsBy pace D most spends failing s) (snapshots_after D s failing lines)
  exact_by lines few exact = record { sound = each_follows lines few exact; complete = all_follow lines exact }

  -- where one more failure would be too many, none follows
  pub none_by : most < one_more_if failing s.failures → HasExactly (FollowsBy pace D most spends failing s) []
  none_by far = record {
    sound = λ i q is. cc is;
    complete = λ q f. absurd (let few = subst (λ b. one_more_if b s.failures ≤ most) f.kind f.follows.may.few in omega (arith, far, few));
  }

module _ (pace : Pace) (D : Driver) (most : ℕ) (spends : Bool) (s : DriverSnapshot) where
  -- turns of both kinds
  pub both_kinds : (plain failed : List DriverSnapshot) → HasExactly (FollowsBy pace D most spends false s) plain → HasExactly (FollowsBy pace D most spends true s) failed → HasExactly (DriverFollows pace D most spends s) (plain ++ failed)
  both_kinds plain failed p f = record {
    sound = λ i q is. elim (in_append plain failed i q is) [ inl there ↦ (p.sound there.0 q there.1).follows | inr there ↦ (f.sound there.0 q there.1).follows ];
    complete = λ q follows. go q follows (is_failure follows.turn.line.event) refl;
  }
    where
      go : (q : DriverSnapshot) (follows : DriverFollows pace D most spends s q) (b : Bool) → is_failure follows.turn.line.event ≡ b → IsAmong (plain ++ failed) (length (plain ++ failed)) q
      go q follows false kind = let there = p.complete q (record { follows = follows; kind = kind }) in among (plain ++ failed) q (there.place, in_left plain failed there.place q there.there)
      go q follows true kind = let there = f.complete q (record { follows = follows; kind = kind }) in among (plain ++ failed) q (in_right plain failed q (there.place, there.there))
