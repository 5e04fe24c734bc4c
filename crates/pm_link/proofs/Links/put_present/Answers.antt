use Rattle.std.proofs.Common.{◌<◌, ◌∙◌, false, ap, get_or, length, refl, set, sym, arith}
use Rattle.std.proofs.lemmas.List.{get_or_default, get_or-set_other, get_or-set_same, length-set}
use Rattle.pm_link.specs.Links.{LinkViews, no_link}
use Rattle.pm_link.specs.Marked.{is_live}
use Rattle.pm_link.proofs.MarkLemmas.{noted_as, noted_marks, rank_in_marks}
use Rattle.pm_link.proofs.OrderLemmas.{length_order}
use Rattle.pm_link.proofs.Links.put_present.Goals as goal

pub index-requires-2 : goal.index-requires-2
index-requires-2 c =
    let s = c.self.inside in
    let k = c.self.invariant in
    omega (arith, c.requires, ap (λ (l : LinkViews). length l.present) c.self.view_is, k.present_len, k.ranked.count_is, length_order s.rows.items s.order.items k.ordered, s.ranks.ok.0)

pub note-requires-clause-in_range : goal.note-requires-clause-in_range
note-requires-clause-in_range c =
    let s = c.self.inside in
    let k = c.self.invariant in
    let below : c.args.link < length s.rows.items = omega (arith, c.requires, ap (λ (l : LinkViews). length l.present) c.self.view_is, k.present_len) in
    let within : c.args.link < length s.ranks.items = omega (arith, below, k.ranked.count_is, length_order s.rows.items s.order.items k.ordered) in
    let rank = c.index-2.ensures ∙ get_or_default s.ranks.items c.args.link c.index-2.result.now 0 within in
    rw rank (rank_in_marks s.rows.items s.order.items s.ranks.items s.held.items s.present.items s.marks c.args.link k.ordered k.ranked below k.marked)

pub invariant_of-self : goal.invariant_of-self
invariant_of-self c =
    let s = c.self.inside in
    let k = c.self.invariant in
    let link = c.args.link in
    let present = set s.present.items link c.args.present in
    let below_present : link < length s.present.items = omega (arith, c.requires, ap (λ (l : LinkViews). length l.present) c.self.view_is) in
    let below : link < length s.rows.items = omega (arith, below_present, k.present_len) in
    let within : link < length s.ranks.items = omega (arith, below, k.ranked.count_is, length_order s.rows.items s.order.items k.ordered) in
    let rank = c.index-2.ensures ∙ get_or_default s.ranks.items link c.index-2.result.now 0 within in
    let row = c.index.ensures ∙ get_or_default s.rows.items link c.index.result.now no_link below in
    let held = c.index-3.ensures ∙ get_or_default s.held.items link c.index-3.result.now false (omega (arith, below, k.held_len)) in
    let live =
    c.is_live-live.ensures ∙ ap (λ r. is_live r c.args.present) row
    ∙ ap (is_live (get_or s.rows.items link no_link)) (sym (get_or-set_same s.present.items link c.args.present false below_present))
    in
    record {
      ordered = k.ordered;
      started = k.started;
      ranked = k.ranked;
      held_len = k.held_len;
      present_len = length-set s.present.items link c.args.present ∙ k.present_len;
      marked =
          noted_as s.rows.items s.order.items s.held.items present s.marks c.note.new.self _ _ _ _ _ _ c.note.ensures rank live held
          (noted_marks s.rows.items s.order.items s.ranks.items s.held.items s.present.items s.held.items present s.marks link k.ordered k.ranked below (λ i other. refl) (λ i other. get_or-set_other s.present.items link i c.args.present false other) k.marked);
    }
