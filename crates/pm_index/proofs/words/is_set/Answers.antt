use Rattle.std.proofs.Common.{◌/◌, ◌%◌, eqb, get_or, ap, sym, ◌∙◌}
use Rattle.std.proofs.lemmas.Nat.Bits.{shr_and_one}
use Rattle.pm_index.proofs.WordLemmas.{bit_of-at}
use Rattle.pm_index.proofs.words.is_set.Goals as goal

pub returns : goal.returns
returns c =
    ap (λ x. eqb x 1) (shr_and_one (get_or c.args.words.now (c.args.bit / 64) 0) (c.args.bit % 64)) ∙ sym (bit_of-at c.args.words.now c.args.bit)
