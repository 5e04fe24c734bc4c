use Rattle.std.proofs.Common.{◌≡◌, ◌++◌, ◌∷◌, [], ℕ, Option, Some, None, false, true, sym, subst, refl, ◌∙◌}
use Rattle.std.specs.Option.{is_some}
use Rattle.indexmap.proofs.CallerLemmas.{insert_entry-new}
use Rattle.pm_outcomes.specs.contracts.list.observations.ObservationPartialEq.TheImpl.{eq-value}
use Rattle.pm_outcomes.specs.list.Firsts.{AreFirsts}
use Rattle.pm_outcomes.proofs.list.FirstLemmas.{note_again, note_new}
use Rattle.pm_outcomes.proofs.list.ObservationAlike.{alike, itself}
use Rattle.pm_outcomes.proofs.list.firsts.note.Goals as goal

none_is : (o : Option ℕ) → is_some o ≡ false → o ≡ None
none_is None is = refl
none_is (Some x) is = cc is

some_is : (o : Option ℕ) → is_some o ≡ true → (x : ℕ) × (o ≡ Some x)
some_is None is = absurd (cc is)
some_is (Some x) is = (x, refl)

pub returns-in_ok-insert : goal.returns-in_ok-insert
returns-in_ok-insert c = λ seen up_to firsts.
    let none = none_is _ (sym c.if-not-contains_key.ensures) in
    let grown = c.in_ok-insert.ensures.entries ∙ insert_entry-new eq-value.it c.args.firsts.now.entries c.args.observation c.args.place none in
    subst (AreFirsts (seen ++ (c.args.observation, c.args.place) ∷ [])) (sym grown)
    (note_new eq-value.it alike itself seen c.args.firsts.now.entries.entries c.args.observation c.args.place none firsts)

pub returns-else-not-contains_key : goal.returns-else-not-contains_key
returns-else-not-contains_key c = λ seen up_to firsts.
    let found = some_is _ (sym c.if-not-contains_key.ensures) in
    note_again eq-value.it alike itself seen c.args.firsts.now.entries.entries c.args.observation c.args.place found.0 found.1 up_to firsts
