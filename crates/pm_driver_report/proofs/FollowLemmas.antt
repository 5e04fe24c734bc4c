-- Lines as they are weighed.
use Rattle.std.proofs.Common.{ℕ, ◌≡◌, ◌+◌, ◌<◌, List, [], ◌∷◌, ◌++◌, get_or, length, map, refl, subst, sym, take}
use Rattle.std.proofs.lemmas.List.{take_more}
use Rattle.pm_driver_find.specs.Following.{IsBefore, ShowsBefore, ShowsNoneAt}
use Rattle.pm_driver_find.specs.declared.examined.ExaminedDriver.{ExaminedDriver}
use Rattle.pm_driver_find.specs.declared.firsts.DriverFinding.{DriverFinding}
use Rattle.pm_driver_read.specs.declared.driver.Driver.{Driver}
use Rattle.pm_driver_rules.specs.Nodes.{driver_snapshot_of}
use Rattle.pm_driver_report.specs.Follows.{AreWeighed, IsWeighed, IsWeighedIn, as_note, follows, graves, own, pass_of}
use Rattle.pm_driver_report.specs.declared.lines.DriverLine.{DriverLine}
use Rattle.pm_driver_report.specs.declared.passes.DriverPass.{DriverPass}

pub weighed_own : (d : Driver) (E : ExaminedDriver) (pass : DriverPass) (line : DriverLine)
    → ((q : ℕ) → IsBefore pass.all.found.tree.parents.items line.place q → ShowsNoneAt E (map driver_snapshot_of pass.all.found.tree.nodes.keys) (graves d pass) q) → IsWeighed d E pass line line
weighed_own d E pass line none = own none refl

pub weighed_after : (d : Driver) (E : ExaminedDriver) (pass : DriverPass) (line made : DriverLine) (number : ℕ) (told : List DriverFinding) → told ≡ graves d pass
    → ShowsBefore E (map driver_snapshot_of pass.all.found.tree.nodes.keys) pass.all.found.tree.parents.items told line.place number → made ≡ as_note line → IsWeighed d E pass line made
weighed_after d E pass line made number told are shown is =
    follows number (subst (λ (l : List DriverFinding). ShowsBefore E (map driver_snapshot_of pass.all.found.tree.nodes.keys) pass.all.found.tree.parents.items l line.place number) are shown) is

-- one more behind
weighed_behind : (d : Driver) (E : ExaminedDriver) (passes : List DriverPass) (lines weighed : List DriverLine) (line made : DriverLine) → AreWeighed d E passes lines weighed → IsWeighedIn d E (pass_of passes line.pace line.allowed) line made
    → AreWeighed d E passes (lines ++ line ∷ []) (weighed ++ made ∷ [])
weighed_behind d E passes [] [] line made none is = (is, tt)
weighed_behind d E passes (first ∷ lines) (kept ∷ weighed) line made more is = (more.0, weighed_behind d E passes lines weighed line made more.1 is)
weighed_behind d E passes [] (kept ∷ weighed) line made none is = absurd none
weighed_behind d E passes (first ∷ lines) [] line made none is = absurd none

pub weighed_next : (d : Driver) (E : ExaminedDriver) (passes : List DriverPass) (lines out later : List DriverLine) (i : ℕ) (other made : DriverLine) → i < length lines
    → IsWeighedIn d E (pass_of passes (get_or lines i other).pace (get_or lines i other).allowed) (get_or lines i other) made → later ≡ out ++ made ∷ [] → AreWeighed d E passes (take i lines) out → AreWeighed d E passes (take (i + 1) lines) later
weighed_next d E passes lines out later i other made within weighs pushed before =
    let all = weighed_behind d E passes (take i lines) out (get_or lines i other) made before weighs in
    subst (λ (l : List DriverLine). AreWeighed d E passes (take (i + 1) lines) l) (sym pushed)
    (subst (λ (l : List DriverLine). AreWeighed d E passes l (out ++ made ∷ [])) (sym (take_more lines i other within)) all)

pub weighed_none : (d : Driver) (E : ExaminedDriver) (passes : List DriverPass) (out : List DriverLine) → out ≡ [] → AreWeighed d E passes [] out
weighed_none d E passes out none = subst (λ (l : List DriverLine). AreWeighed d E passes [] l) (sym none) tt
