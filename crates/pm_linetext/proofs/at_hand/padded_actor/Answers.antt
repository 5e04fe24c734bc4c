-- What leads to a name, the name and a space have room, and are kept whole.
use Rattle.std.proofs.Common.{◌≡◌, ◌++◌, ◌∙◌, ap, arith, length-append, lit<, sym, take}
use Rattle.std.proofs.lemmas.List.{length-take-le, take_all}
use Rattle.pm_model.specs.Spelling.{space}
use Rattle.pm_linetext.proofs.Padding.{actor_short, actor_spelled}
use Rattle.pm_linetext.proofs.Placing.{end_inside}
use Rattle.pm_linetext.proofs.at_hand.padded_actor.Goals as goal

pub put_whole-at-requires : goal.put_whole-at-requires
put_whole-at-requires c =
    let led : take c.put_bytes-at.result c.put_bytes-at.new.bytes ≡ c.args.lead.now = c.put_bytes-at.ensures in
    (lit< tt, (omega arith, rw led (omega (arith, c.requires, c.len.ensures.len, c.len.ensures.fits))))

pub put-len-requires : goal.put-len-requires
put-len-requires c =
    let led : take c.put_bytes-at.result c.put_bytes-at.new.bytes ≡ c.args.lead.now = c.put_bytes-at.ensures in
    (lit< tt, rw (c.put_whole-at.ensures.put, led) (simp length-append (omega (arith, c.requires, c.len.ensures.len, c.len.ensures.fits))))

pub slice_bounds-bytes-end : goal.slice_bounds-bytes-end
slice_bounds-bytes-end c =
    let text = actor_spelled c.args.lead.now c.args.name.now c.put_bytes-at.new.bytes c.put_whole-at.new.bytes c.put-len.new.bytes c.put_bytes-at.result c.put_whole-at.result c.put-len.result c.put_bytes-at.ensures c.put_whole-at.ensures.put c.put-len.ensures in
    let short = actor_short c.args.lead.now c.args.name.now c.requires (omega (arith, c.len.ensures.len, c.len.ensures.fits)) in
    let inside = end_inside c.put-len.result c.put-len.new.bytes _ (omega arith) text (omega (arith, short)) in
    omega (arith, inside)

pub slice_bounds-new-end : goal.slice_bounds-new-end
slice_bounds-new-end c =
    let text = actor_spelled c.args.lead.now c.args.name.now c.put_bytes-at.new.bytes c.put_whole-at.new.bytes c.put-len.new.bytes c.put_bytes-at.result c.put_whole-at.result c.put-len.result c.put_bytes-at.ensures c.put_whole-at.ensures.put c.put-len.ensures in
    let short = actor_short c.args.lead.now c.args.name.now c.requires (omega (arith, c.len.ensures.len, c.len.ensures.fits)) in
    let inside = end_inside c.put-len.result c.put-len.new.bytes _ (omega arith) text (omega (arith, short)) in
    sym (length-take-le c.put-len.result c.put-len.new.bytes (omega (arith, inside)))

pub returns : goal.returns
returns c =
    let text = actor_spelled c.args.lead.now c.args.name.now c.put_bytes-at.new.bytes c.put_whole-at.new.bytes c.put-len.new.bytes c.put_bytes-at.result c.put_whole-at.result c.put-len.result c.put_bytes-at.ensures c.put_whole-at.ensures.put c.put-len.ensures in
    let short = actor_short c.args.lead.now c.args.name.now c.requires (omega (arith, c.len.ensures.len, c.len.ensures.fits)) in
    c.new.ensures ∙ (ap (λ t. take 48 t) text ∙ take_all 48 (c.args.lead.now ++ (c.args.name.now ++ space)) (omega (arith, short)))
