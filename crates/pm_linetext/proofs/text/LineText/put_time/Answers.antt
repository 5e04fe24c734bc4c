-- A time has at most 19 digits.
use Rattle.std.proofs.Common.{◌≤◌, arith, decimal, length, lit<, length-append}
use Rattle.std.proofs.lemmas.Fmt.{length-decimal-le}
use Rattle.pm_linetext.proofs.Placing.{end_inside}
use Rattle.pm_linetext.proofs.text.LineText.put_time.Goals as goal

pub put_number-at-requires : goal.put_number-at-requires
put_number-at-requires c =
    let short : length (decimal c.args.time) ≤ 19 = length-decimal-le 19 c.args.time (lit< tt) (omega (arith, c.requires)) (omega (arith, c.requires)) in
    omega (arith, short)

pub put-self-inside-requires : goal.put-self-inside-requires
put-self-inside-requires c =
    let short : length (decimal c.args.time) ≤ 19 = length-decimal-le 19 c.args.time (lit< tt) (omega (arith, c.requires)) (omega (arith, c.requires)) in
    (lit< tt, rw c.put_number-at.ensures (omega (arith, short)))

pub invariant_of-self : goal.invariant_of-self
invariant_of-self c =
    let short : length (decimal c.args.time) ≤ 19 = length-decimal-le 19 c.args.time (lit< tt) (omega (arith, c.requires)) (omega (arith, c.requires)) in
    end_inside c.put-self-inside.result c.put-self-inside.new.bytes _ (omega arith) c.put-self-inside.ensures (rw c.put_number-at.ensures (simp length-append (omega (arith, short))))
