use Rattle.std.proofs.Common.{◌≡◌, ◌∙◌, List, [], ◌∷◌, ◌++◌, length, ◌+◌, ℕ, ap, arith, refl, subst}
use Rattle.std.proofs.lemmas.List.{length-replicate, length-set}
use Rattle.pm_model.specs.declared.rows.LinkRow.{LinkRow}
use Rattle.pm_state.specs.Chains.{AreOwn}
use Rattle.pm_state.proofs.OwnLemmas.{own_next, own_none, row_within}
use Rattle.pm_state.proofs.own.OwnLinks.of.Goals as goal

pub loop-link-init : goal.loop-link-init
loop-link-init c = record {
  own = own_none c.as_slice-links.result.now c.len.result c.in_ok-last.last.items c.in_ok-before.before.items c.in_ok-last.ensures c.in_ok-before.ensures.items;
  each = ap (λ (l : List ℕ). length l) c.in_ok-last.ensures ∙ length-replicate c.len.result 0 ∙ c.len.ensures;
}

pub index-requires : goal.index-requires
index-requires c =
    let row = row_within c.args.plan.now c.as_slice-links.result.now c.loop-link.link c.as_slice-links.ensures c.loop-link-test.true in
    let last = c.loop-link.last in
    omega (arith, row, c.loop-link.invariant.each, last.ok.0)

pub index_mut-requires : goal.index_mut-requires
index_mut-requires c =
    let row = row_within c.args.plan.now c.as_slice-links.result.now c.loop-link.link c.as_slice-links.ensures c.loop-link-test.true in
    let last = c.loop-link.last in
    omega (arith, row, c.loop-link.invariant.each, last.ok.0)

pub loop-link-preserved : goal.loop-link-preserved
loop-link-preserved c =
    let row = row_within c.args.plan.now c.as_slice-links.result.now c.loop-link.link c.as_slice-links.ensures c.loop-link-test.true in
    record {
      own = own_next c.as_slice-links.result.now c.loop-link.link c.index.result.now c.loop-link.last.items c.loop-link.before.items _ c.push.new.self.items c.loop-link-test.true
          (omega (arith, row, c.loop-link.invariant.each)) c.loop-link.invariant.own refl (c.in_ok-push.ensures.items ∙ ap (λ n. c.loop-link.before.items ++ n ∷ []) c.index.ensures);
      each = length-set c.loop-link.last.items _ (c.loop-link.link + 1) ∙ c.loop-link.invariant.each;
    }

pub returns-clause-own : goal.returns-clause-own
returns-clause-own c =
    let at : c.loop-link.link ≡ length c.as_slice-links.result.now = omega (arith, c.loop-link-test.false, c.loop-link.auto.link-end) in
    subst (λ (l : List LinkRow). AreOwn l (length l) c.loop-link.last.items c.loop-link.before.items) c.as_slice-links.ensures
    (subst (λ n. AreOwn c.as_slice-links.result.now n c.loop-link.last.items c.loop-link.before.items) at c.loop-link.invariant.own)
