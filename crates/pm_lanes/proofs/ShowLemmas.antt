-- What is shown of a run, one line on.
use Rattle.std.proofs.Common.{ℕ, ◌≡◌, ◌+◌, ◌<◌, Bool, Option, Some, Result, Ok, Err, OnOk, ◌++◌, List, [], ◌∷◌, get_or, length, reverse, take, pos, ap, sym, ◌∙◌, arith}
use Rattle.std.proofs.lemmas.List.{length-reverse, length-take-le}
use Rattle.std.proofs.lemmas.Option.{get_or_from_slice_get, slice_get-get_or}
use Rattle.pm_base.specs.declared.ActorId.TheVariants.{Caller}
use Rattle.pm_model.specs.declared.event.Event.TheVariants as event
use Rattle.pm_model.specs.declared.event.Helper.TheVariants as helper
use Rattle.pm_model.specs.declared.event.Line.{Line}
use Rattle.pm_model.specs.declared.plan.Plan.{Plan}
use Rattle.pm_model.specs.World.{place, world}
use Rattle.pm_book.specs.Replayed.{IsAfter, Replayed}
use Rattle.pm_book.proofs.InOrder.{reverse_more}
use Rattle.pm_lanes.specs.declared.seen.Seen.{Seen}
use Rattle.pm_lanes.specs.declared.shown.Piece.{Piece}
use Rattle.pm_lanes.specs.Pieces.{at_line, device_of, is_open, pieces, seen_of_plan, shown_before, shown_behind, shown_by}
use Rattle.pm_lanes.specs.Showing.{IsStep}
use Rattle.pm_lanes.proofs.PushLemmas.{at_line_more}

-- the line that stands for one past the end
abbrev pub no_line : Line
no_line = record { time = 0; actor = Caller 0; event = event.Call (record { helper = helper.GetSync; dev = record { 0 = 0 }; number = pos 0 }) }

numbered : (lines : List Line) (i : ℕ) → i < length lines → length (reverse (take i lines)) ≡ i
numbered lines i within = length-reverse (take i lines) ∙ length-take-le i lines (omega arith)

-- what is shown with one line more
pub shown_more : (plan : Plan) (lines : List Line) (i : ℕ) (e : Line) (before after : Replayed) (old new : List Piece) → i < length lines
    → IsAfter plan before (reverse (take i lines)) → IsAfter plan after (reverse (take (i + 1) lines))
    → old ≡ pieces plan (reverse (take i lines)) → IsStep plan lines i before after old new → new ≡ pieces plan (reverse (take (i + 1) lines))
shown_more plan lines i e before after old new within stands on was step =
    let h = reverse (take i lines) in
    let line = get_or lines i e in
    let more = reverse_more lines i e within in
    step line (slice_get-get_or lines i e within)
    ∙ ap (λ l. l ++ at_line (i + 1) (shown_by plan before.standing.world line after.standing.world)) was
    ∙ ap (λ w. pieces plan h ++ at_line (i + 1) (shown_by plan w line after.standing.world)) stands.world_is
    ∙ ap (λ w. pieces plan h ++ at_line (i + 1) (shown_by plan (world plan h) line w)) (on.world_is ∙ ap (world plan) more)
    ∙ ap (λ n. pieces plan h ++ at_line (n + 1) (shown_by plan (world plan h) line (world plan (line ∷ h)))) (sym (numbered lines i within))
    ∙ ap (pieces plan) (sym more)

-- it is appended in two parts
pub shown_parts : (plan : Plan) (lines : List Line) (i : ℕ) (d : Line) (before after : Replayed) (seen : Option Seen) (was_open : Bool) (old now new : List Piece)
    → seen ≡ seen_of_plan plan before.standing.world.views (device_of (get_or lines i d).event) → was_open ≡ is_open (place before.standing.world (get_or lines i d).actor)
    → now ≡ old ++ at_line (i + 1) (shown_before plan before.standing.world (get_or lines i d))
    → new ≡ now ++ at_line (i + 1) (shown_behind plan (get_or lines i d) seen was_open after.standing.world)
    → IsStep plan lines i before after old new
shown_parts plan lines i d before after seen was_open old now new seen_is open_is was is = λ line at.
    at_line_more old now new (i + 1) (shown_before plan before.standing.world (get_or lines i d)) _ was
    (is ∙ ap (λ o. now ++ at_line (i + 1) (shown_behind plan (get_or lines i d) o was_open after.standing.world)) seen_is
    ∙ ap (λ b. now ++ at_line (i + 1) (shown_behind plan (get_or lines i d) (seen_of_plan plan before.standing.world.views (device_of (get_or lines i d).event)) b after.standing.world)) open_is)
    ∙ ap (λ x. old ++ at_line (i + 1) (shown_by plan before.standing.world x after.standing.world)) (get_or_from_slice_get lines i line d at)

pub on_ok : {T E P Q : Type 0} (r : Result T E) → (P → Q) → OnOk r P → OnOk r Q
on_ok (Ok x) f is = f is
on_ok (Err e) f is = tt
