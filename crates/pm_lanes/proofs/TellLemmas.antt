-- The domains that a line switches.
use Rattle.std.proofs.Common.{ℕ, zero, suc, ◌≡◌, ◌∙◌, ◌++◌, append-nil, append_assoc, ◌+◌, Option, Some, None, arith, Bool, true, false, List, [], ◌∷◌, length, map, set, take, ap, refl, sym, if◌then◌else◌}
use Rattle.pm_base.specs.declared.DevId.{DevId}
use Rattle.pm_model.specs.declared.event.Event.{Event}
use Rattle.pm_model.specs.declared.event.Event.TheVariants as event
use Rattle.pm_model.specs.declared.plan.Plan.{Plan}
use Rattle.pm_model.specs.Derived.{down, goes_off, going_off, up}
use Rattle.pm_model.specs.declared.rows.DomainRow.{DomainRow}
use Rattle.pm_base.specs.declared.DomId.{DomId}
use Rattle.pm_model.specs.PlanRows.{chain, domain_parent, domains_of}
use Rattle.pm_model.specs.Views.{Views}
use Rattle.pm_lanes.specs.Pieces.{going_off_now, going_on, switched}

going_first : (plan : Plan) (v : Views) (d : DevId) (on : List Bool) (chain : List ℕ) → take (length (going_off plan v d on chain)) chain ≡ going_off plan v d on chain
going_first plan v d on [] = refl
going_first plan v d on (o ∷ above) = go (goes_off plan v d on o) (going_first plan v d (set on o false) above)
  where
    go : (b : Bool) → take (length (going_off plan v d (set on o false) above)) above ≡ going_off plan v d (set on o false) above → take (length (if b then o ∷ going_off plan v d (set on o false) above else [])) (o ∷ above) ≡ (if b then o ∷ going_off plan v d (set on o false) above else [])
    go true rest = ap (λ l. o ∷ l) rest
    go false rest = refl

-- those that go off stand first in the chain of the device's domains
pub down_is_first : (plan : Plan) (v : Views) (d : DevId) → take (length (down plan v d)) (domains_of plan d) ≡ down plan v d
unfolding down
down_is_first plan v d = going_first plan v d v.on (domains_of plan d)

-- they are what the line shows
pub down_shown : (plan : Plan) (v : Views) (e : Event) (d : DevId) (is_up : Bool) (n : ℕ) → e ≡ event.Domain d is_up n → is_up ≡ false → map going_off_now (down plan v d) ≡ switched plan v e
down_shown plan v e d is_up n is off = sym (ap (switched plan v) is ∙ ap (λ b. if b then map going_on (up plan v d) else map going_off_now (down plan v d)) off)

-- a chain from no domain has none
pub chain_none : (rows : List DomainRow) (k : ℕ) → chain rows k None ≡ []
chain_none rows zero = refl
chain_none rows (suc k) = refl

-- a chain is walked: at the start, at its end, and at one domain more
pub chain_begun : (items : List ℕ) (rows : List DomainRow) (k most : ℕ) (first : Option DomId) → items ≡ [] → 0 + k ≡ most → items ++ chain rows k first ≡ chain rows most first
chain_begun items rows k most first is same = ap (λ l. l ++ chain rows k first) is ∙ ap (λ n. chain rows n first) (let one : k ≡ most = omega (arith, same) in one)

pub chain_stop : (items whole : List ℕ) (rows : List DomainRow) (k : ℕ) (next : Option DomId) → next ≡ None → items ++ chain rows k next ≡ whole → items ≡ whole
chain_stop items whole rows k next is all = sym (append-nil items) ∙ ap (λ l. items ++ l) (sym (ap (chain rows k) is ∙ chain_none rows k)) ∙ all

pub chain_on : (items more whole : List ℕ) (rows : List DomainRow) (k : ℕ) (next above : Option DomId) (dom : DomId) → next ≡ Some dom → more ≡ items ++ dom.0 ∷ [] → above ≡ domain_parent rows dom
    → items ++ chain rows (suc k) next ≡ whole → more ++ chain rows k above ≡ whole
chain_on items more whole rows k next above dom is pushed parent all =
    ap (λ l. l ++ chain rows k above) pushed
    ∙ append_assoc items (dom.0 ∷ []) (chain rows k above)
    ∙ ap (λ (o : Option DomId). items ++ (dom.0 ∷ chain rows k o)) parent
    ∙ ap (λ (o : Option DomId). items ++ chain rows (suc k) o) (sym is)
    ∙ all
