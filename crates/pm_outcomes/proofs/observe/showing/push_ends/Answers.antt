use Rattle.std.proofs.Common.{◌≡◌, ◌+◌, ◌++◌, ◌∷◌, [], ℕ, List, map, sym, ap, ◌∙◌, append_assoc, zero-add}
use Rattle.std.proofs.lemmas.List.FromFn.{map-range_with_len_more}
use Rattle.std.specs.List.{range_with_len}
use Rattle.pm_outcomes.specs.declared.list.observations.Observation.TheVariants.{End}
use Rattle.pm_outcomes.specs.observe.Shows.{end_at}
use Rattle.pm_explore.specs.state.SnapshotOf.{views_of}
use Rattle.pm_outcomes.proofs.observe.showing.push_ends.Goals as goal

one_more : {A : Type 0} (f : ℕ → A) (start out pushed : List A) (i : ℕ) (x : A) → out ≡ start ++ map f (range_with_len 0 i) → pushed ≡ out ++ x ∷ [] → x ≡ f i → pushed ≡ start ++ map f (range_with_len 0 (i + 1))
one_more f start out pushed i x so_far more is =
    more ∙ ap (λ l. l ++ x ∷ []) so_far ∙ append_assoc start (map f (range_with_len 0 i)) (x ∷ []) ∙ ap (λ y. start ++ (map f (range_with_len 0 i) ++ y ∷ [])) is
    ∙ ap (λ l. start ++ l) (sym (map-range_with_len_more f 0 i i (zero-add i)))

pub loop-device-preserved : goal.loop-device-preserved
loop-device-preserved c = one_more (end_at (views_of c.args.snapshot.now)) c.args.out.now.items c.loop-device.out.items c.push.new.self.items c.loop-device.device _ c.loop-device.invariant c.in_ok-push.ensures.items (ap End c.end_of.ensures)
