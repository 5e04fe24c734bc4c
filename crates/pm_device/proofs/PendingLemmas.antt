-- Two changes of what is pending for one device, made as one.
use Rattle.std.proofs.Common.{◌≡◌, ◌<◌, Bool, length, slice_set, slice_index_or, ap, ◌∙◌}
use Rattle.std.proofs.lemmas.List.{get_or-set_same, set-set}
use Rattle.pm_base.specs.declared.DevId.{DevId}
use Rattle.pm_base.specs.declared.Pending.{Pending}
use Rattle.pm_base.specs.declared.Req.{Req}
use Rattle.pm_model.specs.Changes.{set_queued, set_request}
use Rattle.pm_model.specs.Views.{Views, fresh_pending, pending_of, with_pending}

-- a request that is queued, or taken out of the queue
pub placed : (v : Views) (d : DevId) (r : Req) (b : Bool) → d.0 < length v.pending
    → set_queued b d (set_request r d v) ≡ with_pending v d (record (pending_of v d) { request = r; queued = b })
placed v d r b within =
    let x : Pending = record (pending_of v d) { request = r } in
    let at : slice_index_or (slice_set v.pending d.0 x) d.0 fresh_pending ≡ x = get_or-set_same v.pending d.0 x fresh_pending within in
    ap (λ y. record v { pending = slice_set (slice_set v.pending d.0 x) d.0 (record y { queued = b }) }) at
    ∙ ap (λ l. record v { pending = l }) (set-set v.pending d.0 x (record x { queued = b }))
