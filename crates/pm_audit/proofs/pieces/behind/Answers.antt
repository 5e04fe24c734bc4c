-- By the prefix.
use Rattle.std.proofs.Common.{◌∙◌, ◌++◌, ap, length, sym}
use Rattle.std.proofs.lemmas.Bool.Decides.{Decides-eqb}
use Rattle.std.proofs.lemmas.List.{take_rest}
use Rattle.std.proofs.lemmas.Slice.Eq.{starts_is}
use Rattle.pm_audit.proofs.pieces.behind.Goals as goal

pub returns : goal.returns
returns c =
    let s = c.args.bytes.now in
    let p = c.args.piece.now in
    (starts_is Decides-eqb s p c.starts_with.result c.starts_with.ensures.value).0 c.if-not-starts_with.false ∙ ap (λ l. p ++ l) (sym (take_rest s (length p)))
