-- The fields stand behind the device's name.
use Rattle.std.proofs.Common.{codes, decimal, false, take}
use Rattle.std.specs.Fmt.{digits}
use Rattle.pm_model.specs.Spelling.{bit, device_name, padded, payload}
use Rattle.pm_linetext.specs.Payload.{fields_text}
use Rattle.pm_linetext.proofs.Forms.{payload_split, placed}
use Rattle.pm_linetext.proofs.events.put_payload.Goals as goal

pub returns : goal.returns
returns g c =
    let name = device_name (g.S.NameSource.names c.args.names.now) c.args.dev.0 in
    let f = c.args.fields.now in
    rw (c.put_fields.ensures, c.put_device-at.ensures)
    (placed (take c.args.at c.args.bytes.now) c.args.lead.now name (fields_text f) (payload (g.S.NameSource.names c.args.names.now) c.args.dev f)
    (payload_split name (codes " flags-") (digits 16 false f.flags) (codes " cnt-") (padded (decimal f.cnt)) (codes " dep-") (padded (decimal f.dep)) (codes " auto-") (bit f.auto_on) (codes " p-") (bit f.pending) (codes " irq-0 child-") (decimal f.child)))
