-- What is kept of all devices, as a line comes, and the times that come of it.
use Rattle.std.proofs.Common.{ℕ, ◌≡◌, ◌<◌, ◌≤◌, All, List, ◌∷◌, Option, Some, None, length, refl, subst, sym, ap, ◌∙◌, arith}
use Rattle.std.specs.Option.{option_map_or}
use Rattle.std.proofs.lemmas.List.{get_or-map, length-map}
use Rattle.std.proofs.lemmas.List.Elements.{All-from_get_or}
use Rattle.pm_base.specs.declared.DevId.{DevId}
use Rattle.pm_base.specs.declared.Status.{Status}
use Rattle.pm_model.specs.declared.event.Line.{Line}
use Rattle.pm_model.specs.declared.plan.Plan.{Plan}
use Rattle.pm_model.specs.Counted.{says_status}
use Rattle.pm_model.specs.History.{History}
use Rattle.pm_model.specs.Lawful.{last_time}
use Rattle.pm_account.specs.Account.{IsAccount, no_times}
use Rattle.pm_account.specs.AllKept.{AreTimes, Stayed, account_of}
use Rattle.pm_account.specs.declared.stay.Stay.{Stay}
use Rattle.pm_account.specs.Kept.{AreKept, IsReady, behind, stay_at, turned, unsaid, until}
use Rattle.pm_account.proofs.KeptLemmas.{all_kept_behind, ready_later, turned_is_ready}

-- what is kept by a moment is ready at each later one
pub all_later : (stays : List Stay) (from to : ℕ) → from ≤ to → All (IsReady from) stays → All (IsReady to) stays
all_later stays from to later ready = λ k d within. ready_later _ from to later (ready k d within)

behind_is_ready : (line : Line) (d : DevId) (stay : Stay) → IsReady line.time stay → IsReady line.time (behind line d stay)
behind_is_ready line d stay ready = go (says_status d line.event)
  where
    go : (o : Option Status) → IsReady line.time (option_map_or (λ s. turned stay s line.time) o stay)
    go (Some s) = turned_is_ready stay s line.time ready
    go None = ready

-- also behind the line of that moment
pub all_behind : (line : Line) (stays after : List Stay) → All (IsReady line.time) stays → length after ≡ length stays
    → ((d : DevId) → d.0 < length stays → stay_at after d ≡ behind line d (stay_at stays d)) → All (IsReady line.time) after
all_behind line stays after ready same each =
    All-from_get_or (IsReady line.time) after unsaid (λ i within.
    let d : DevId = record { 0 = i } in
    let there : i < length stays = omega (arith, within, same) in
    subst (λ stay. IsReady line.time stay) (sym (each d there)) (behind_is_ready line d (stay_at stays d) (ready i unsaid there)))

-- one line more
pub times_behind : (line : Line) (h : History) (old : Stayed) (after : List Stay) → last_time h ≤ line.time → AreTimes old h → length after ≡ length old.stays
    → ((d : DevId) → d.0 < length old.stays → stay_at after d ≡ behind line d (stay_at old.stays d)) → AreTimes (record { stays = after; last = line.time }) (line ∷ h)
times_behind line h old after late is same each = record {
  last_is = refl;
  kept = subst (λ n. AreKept n (line ∷ h) after) (sym same) (all_kept_behind (length old.stays) line h old.stays after late is.kept same each);
}

-- and at the end
pub account_is : (plan : Plan) (h : History) (s : Stayed) → AreTimes s h → length s.stays ≡ length plan.devices → IsAccount plan h (account_of s)
account_is plan h s is same = record {
  entries = length-map s.stays _ ∙ same;
  each = λ d within.
      get_or-map (λ stay. until stay s.last) s.stays d.0 unsaid no_times (omega (arith, within, same))
      ∙ ap (until (stay_at s.stays d)) is.last_is
      ∙ (is.kept.each d (omega (arith, within, same))).times;
}
