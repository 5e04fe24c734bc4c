-- The form with the digits is the text of the fields.
use Rattle.std.proofs.Common.{◌≡◌, [], ◌∷◌, false, sym, ap, ◌∙◌, arith, lit<}
use Rattle.std.proofs.lemmas.Fmt.{hex_one_digit}
use Rattle.std.specs.Fmt.{digits}
use Rattle.pm_linetext.proofs.Forms.{digits_are, form_fits, form_set}
use Rattle.pm_linetext.proofs.fields.put_form.Goals as goal

pub put-end-requires : goal.put-end-requires
put-end-requires c = (lit< tt, form_fits c.args.fields.now _ c.requires.one_digit c.requires.room)

pub returns : goal.returns
returns c =
    let flags : digits 16 false c.args.fields.now.flags ≡ c.hex_digit.result ∷ [] = hex_one_digit false c.args.fields.now.flags (digits_are c.args.fields.now c.requires.one_digit).0 ∙ ap (λ d. d ∷ []) (sym c.hex_digit.ensures) in
    form_set c.args.fields.now c.args.at c.put-end.result c.hex_digit.result c.digit.result c.digit-2.result c.bit.result c.bit-2.result c.digit-3.result c.args.bytes.now c.put-end.new.bytes c.requires.one_digit (omega arith) (omega arith) (form_fits c.args.fields.now _ c.requires.one_digit c.requires.room) c.put-end.ensures flags c.digit.ensures c.digit-2.ensures c.bit.ensures c.bit-2.ensures c.digit-3.ensures
