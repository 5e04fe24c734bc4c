-- What actors write in turn is lawful.
use Rattle.std.proofs.Common.{ℕ, ◌≡◌, ◌<◌, ◌≤◌, Bool, true, false, List, [], ◌∷◌, Option, Some, None, length, nat_le, nat_lt, refl, if◌then◌else◌}
use Rattle.std.specs.Option.{option_and_then, option_map_or}
use Rattle.std.proofs.lemmas.Bool.{leb-true, ltb-true}
use Rattle.pm_base.specs.declared.ActorId.{ActorId}
use Rattle.pm_model.specs.declared.event.Line.{Line}
use Rattle.pm_model.specs.declared.plan.Plan.{Plan}
use Rattle.pm_model.specs.Lawful.{IsLawful, last_time}
use Rattle.pm_model.specs.Serial.{move_at, written}
use Rattle.pm_model.specs.World.{stage_at, world}
use Rattle.pm_model.proofs.SerialLemmas.{permits_written}

abbrev line_at : Plan → List Line → ActorId × ℕ → Option Line
line_at plan h turn = option_and_then (written turn.0 turn.1) (move_at plan (world plan h) turn.1 turn.0)

-- the lines that these actors write at these times, up to one that may not come
abbrev pub in_turn : Plan → List Line → List (ActorId × ℕ) → List Line
in_turn plan h [] = h
in_turn plan h (turn ∷ turns) =
    if nat_le (last_time h) turn.1
    then if nat_lt (length h) plan.lines then option_map_or (λ line. in_turn plan (line ∷ h) turns) (line_at plan h turn) h else h
    else h

pub lawful_in_turn : (plan : Plan) (h : List Line) (turns : List (ActorId × ℕ)) → IsLawful plan h → IsLawful plan (in_turn plan h turns)
lawful_in_turn plan h [] lawful = lawful
lawful_in_turn plan h (turn ∷ turns) lawful =
    in_time (λ line longer. lawful_in_turn plan (line ∷ h) turns longer) (nat_le (last_time h) turn.1) refl
  where
    comes :
        ((line : Line) → IsLawful plan (line ∷ h) → IsLawful plan (in_turn plan (line ∷ h) turns))
        → last_time h ≤ turn.1 → length h < plan.lines → (o : Option Line) → line_at plan h turn ≡ o
        → IsLawful plan (option_map_or (λ line. in_turn plan (line ∷ h) turns) o h)
    comes further late room None is = lawful
    comes further late room (Some line) is =
        further line (permits_written plan h turn.0 turn.1 line late (stage_at plan (world plan h) turn.0) refl is, room, lawful)

    fits :
        ((line : Line) → IsLawful plan (line ∷ h) → IsLawful plan (in_turn plan (line ∷ h) turns))
        → last_time h ≤ turn.1 → (b : Bool) → nat_lt (length h) plan.lines ≡ b
        → IsLawful plan (if b then option_map_or (λ line. in_turn plan (line ∷ h) turns) (line_at plan h turn) h else h)
    fits further late true is = comes further late (ltb-true (length h) plan.lines is) (line_at plan h turn) refl
    fits further late false is = lawful

    in_time :
        ((line : Line) → IsLawful plan (line ∷ h) → IsLawful plan (in_turn plan (line ∷ h) turns))
        → (b : Bool) → nat_le (last_time h) turn.1 ≡ b
        → IsLawful plan
        (if b
        then if nat_lt (length h) plan.lines then option_map_or (λ line. in_turn plan (line ∷ h) turns) (line_at plan h turn) h else h
        else h)
    in_time further true is = fits further (leb-true (last_time h) turn.1 is) (nat_lt (length h) plan.lines) refl
    in_time further false is = lawful
