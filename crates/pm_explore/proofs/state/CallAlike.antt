-- The derived test of two calls of a resume is exact.
use Rattle.std.proofs.Common.{◌≡◌, true}
use Rattle.std.proofs.lemmas.Bool.{eqb-true}
use Rattle.std.specs.Cmp.{booleans_Decides}
use Rattle.pm_model.specs.declared.stage.ResumeCall.{ResumeCall}
use Rattle.pm_model.specs.contracts.stage.ResumeCallPartialEq.TheImpl.{eq-value}
use Rattle.pm_explore.proofs.state.FieldsAlike.{dev_alike}
use Rattle.pm_explore.proofs.state.Lists.{first, second}
use Rattle.pm_explore.proofs.state.PurposeAlike.{alike as purpose_alike}

pub alike : (a b : ResumeCall) → eq-value.it a b ≡ true → a ≡ b
alike a b is =
    let r1 = second _ _ is in
    let r2 = second _ _ r1 in
    let p0 : a.dev ≡ b.dev = dev_alike a.dev b.dev (first _ _ is) in
    let p1 : a.flags ≡ b.flags = eqb-true a.flags b.flags (first _ _ r1) in
    let p2 : a.held ≡ b.held = (booleans_Decides a.held b.held).0 (first _ _ r2) in
    let p3 : a.purpose ≡ b.purpose = purpose_alike a.purpose b.purpose (second _ _ r2) in
    λ i. record { dev = p0 i; flags = p1 i; held = p2 i; purpose = p3 i }
