-- The bounds on the pieces, added up.
use Rattle.std.proofs.Common.{◌-◌, arith}
use Rattle.pm_linetext.proofs.Lengths.{short_text_len, text_len}
use Rattle.pm_linetext.proofs.texts_are_bounded.Goals as goal

pub returns-clause-text : goal.returns-clause-text
returns-clause-text c plan line h = text_len plan line line.time h (omega arith)

pub returns-clause-short : goal.returns-clause-short
returns-clause-short c plan line h short = short_text_len plan line line.time h short (omega arith)

pub returns-clause-text2 : goal.returns-clause-text2
returns-clause-text2 c plan base line h = text_len plan line (line.time - base) h (omega arith)

pub returns-clause-short2 : goal.returns-clause-short2
returns-clause-short2 c plan base line h short = short_text_len plan line (line.time - base) h short (omega arith)
