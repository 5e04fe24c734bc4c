-- What is kept goes on with a line, and tells which bonds it breaks.
use Rattle.std.proofs.Common.{ℕ, zero, suc, ◌≡◌, ◌+◌, ◌<◌, Bool, true, false, not, ◌&&◌, ◌++◌, List, [], ◌∷◌, Option, Some, None, get_or, length, map, nat_eq, option_map, set, slice_get, if◌then◌else◌, replicate, ap, refl, sym, ◌∙◌, arith, subst}
use Rattle.std.specs.List.{filter, flat_map, range_with_len}
use Rattle.std.specs.Option.{option_and_then, option_map_or, option_to_list}
use Rattle.std.proofs.lemmas.List.{get_or-replicate, length-map, length-replicate}
use Rattle.pm_base.specs.declared.DevId.{DevId}
use Rattle.pm_base.specs.declared.Status.{Status}
use Rattle.pm_base.specs.declared.Status.TheVariants as status
use Rattle.pm_device.specs.Children.{parents, place_of}
use Rattle.pm_model.specs.declared.event.Event.{Event}
use Rattle.pm_model.specs.declared.event.Line.{Line}
use Rattle.pm_model.specs.declared.plan.Plan.{Plan}
use Rattle.pm_model.specs.declared.rows.DeviceRow.{DeviceRow}
use Rattle.pm_model.specs.declared.rows.LinkRow.{LinkRow}
use Rattle.pm_model.specs.Counted.{only_if}
use Rattle.pm_model.specs.Derived.{is_active, is_active_status, is_suspended, is_suspended_status}
use Rattle.pm_model.specs.History.{History}
use Rattle.pm_model.specs.Lawful.{IsLawful}
use Rattle.pm_model.specs.PlanRows.{parent, parent_of}
use Rattle.pm_model.specs.Views.{Views, device, is_present}
use Rattle.pm_model.specs.World.{World, world}
use Rattle.pm_laws.proofs.counts.Links.{both, eq_sym}
use Rattle.pm_laws.specs.stacks.Shape.{IsLink}
use Rattle.pm_laws.proofs.stacks.PlanLaw.{HasEarlier, supplier_earlier}
use Rattle.pm_safety.specs.declared.dependencies.bond.Bond.{Bond}
use Rattle.pm_safety.specs.declared.dependencies.bond.Bond.TheVariants as bond
use Rattle.pm_safety.specs.declared.dependencies.past.Before.{Before}
use Rattle.pm_safety.specs.declared.dependencies.past.Past.{Past}
use Rattle.pm_safety.specs.dependencies.Broken.{broken_at}
use Rattle.pm_safety.specs.dependencies.Excuses.{parent_excuse, supplier_excuse}
use Rattle.pm_safety.specs.dependencies.Grouped.{AreGroups, belongs, places_of}
use Rattle.pm_safety.specs.dependencies.Kept.{IsKept, Kept, consumers, excuses_by, suppliers}
use Rattle.pm_safety.specs.dependencies.Looked.{broken_by, children_of, is_child, is_from, is_to, links_from, links_to}
use Rattle.pm_safety.specs.dependencies.Past.{ArePasts, before_of, no_past, parent_excuse_by, past_after, past_at, past_of, supplier_excuse_by}
use Rattle.pm_book.specs.Replayed.{IsAfter, Replayed}
use Rattle.pm_safety.specs.dependencies.Told.{broken_near, domain_bond, parent_bond, parent_bonds, supplier_bond, supplier_bonds}
use Rattle.pm_safety.specs.dependencies.Turning.{turned_by}
use Rattle.pm_safety.proofs.dependencies.Breaking.{at, link_test, parent_less, parent_test}
use Rattle.pm_safety.proofs.dependencies.BrokenBy.{broken_is}
use Rattle.pm_safety.proofs.dependencies.PastLemmas.{parent_excuse_is, pasts_start, pasts_still, pasts_turned, supplier_excuse_is}

-- places below a bound
picked_below : (p : ℕ → Bool) (a n k d : ℕ) → k < length (filter p (range_with_len a n)) → get_or (filter p (range_with_len a n)) k d < a + n
picked_below p a zero k d lt = absurd (omega arith)
picked_below p a (suc n) k d lt = go (p a) k lt (λ j less. picked_below p (a + 1) n j d less)
  where
    rest : List ℕ
    rest = filter p (range_with_len (a + 1) n)

    go : (b : Bool) (k : ℕ) → k < length (if b then a ∷ rest else rest) → ((j : ℕ) → j < length rest → get_or rest j d < a + 1 + n) → get_or (if b then a ∷ rest else rest) k d < a + suc n
    go true zero less below = omega arith
    go true (suc j) less below = omega (arith, below j (omega (arith, less)))
    go false k less below = omega (arith, below k less)

pub group_below : (count n m o : ℕ) (owners : List (Option ℕ)) (groups : List (List ℕ)) (places : List ℕ) → AreGroups count n owners groups → o < count → n ≡ m → places ≡ get_or groups o []
    → (k d : ℕ) → k < length places → get_or places k d < m
group_below count n m o owners groups places are within same is k d less =
    let list : places ≡ places_of owners n o = is ∙ are.each o within in
    let lt : k < length (places_of owners n o) = subst (λ (l : List ℕ). k < length l) list less in
    let here : get_or places k d ≡ get_or (places_of owners n o) k d = ap (λ l. get_or l k d) list in
    omega (arith, picked_below (belongs owners o) 0 n k d lt, here, same)

-- the groups are those that the plan names
same_filter : (p q : ℕ → Bool) (l : List ℕ) → ((x : ℕ) → p x ≡ q x) → filter p l ≡ filter q l
same_filter p q [] same = refl
same_filter p q (x ∷ l) same = rw (same x, same_filter p q l same) refl

parent_at : (rows : List DeviceRow) (c : ℕ) → get_or (map (λ row. place_of row.parent) rows) c None ≡ place_of (option_map_or (λ (row : DeviceRow). row.parent) (slice_get rows c) None)
parent_at [] c = refl
parent_at (x ∷ rows) zero = refl
parent_at (x ∷ rows) (suc c) = parent_at rows c

turned_place : (d : ℕ) (o : Option DevId) → option_map_or (nat_eq d) (place_of o) false ≡ option_map_or (λ (q : DevId). nat_eq q.0 d) o false
turned_place d None = refl
turned_place d (Some q) = eq_sym d q.0

pub children_are : (plan : Plan) (d : ℕ) → places_of (parents plan) (length (parents plan)) d ≡ children_of plan (at d)
unfolding parent
children_are plan d =
    ap (λ n. places_of (parents plan) n d) (length-map plan.devices (λ row. place_of row.parent))
    ∙ same_filter (belongs (parents plan) d) (is_child plan (at d)) (range_with_len 0 (length plan.devices))
    (λ c. ap (λ o. option_map_or (nat_eq d) o false) (parent_at plan.devices c) ∙ turned_place d (option_map_or (λ (row : DeviceRow). row.parent) (slice_get plan.devices c) None))

end_at : (end : LinkRow → DevId) (rows : List LinkRow) (l : ℕ) → get_or (map (λ row. let x : DevId = end row in Some x.0) rows) l None ≡ option_map (λ row. let x : DevId = end row in x.0) (slice_get rows l)
end_at end [] l = refl
end_at end (x ∷ rows) zero = refl
end_at end (x ∷ rows) (suc l) = end_at end rows l

turned_end : (end : LinkRow → DevId) (d : ℕ) (o : Option LinkRow)
    → option_map_or (nat_eq d) (option_map (λ row. let x : DevId = end row in x.0) o) false ≡ option_map_or (λ row. let x : DevId = end row in nat_eq x.0 d) o false
turned_end end d None = refl
turned_end end d (Some row) = eq_sym d (let x : DevId = end row in x.0)

pub from_are : (plan : Plan) (d : ℕ) → places_of (consumers plan) (length (consumers plan)) d ≡ links_from plan (at d)
from_are plan d =
    ap (λ n. places_of (consumers plan) n d) (length-map plan.links (λ (row : LinkRow). Some row.consumer.0))
    ∙ same_filter (belongs (consumers plan) d) (is_from plan (at d)) (range_with_len 0 (length plan.links))
    (λ l. ap (λ o. option_map_or (nat_eq d) o false) (end_at (λ (row : LinkRow). row.consumer) plan.links l) ∙ turned_end (λ (row : LinkRow). row.consumer) d (slice_get plan.links l))

pub to_are : (plan : Plan) (d : ℕ) → places_of (suppliers plan) (length (suppliers plan)) d ≡ links_to plan (at d)
to_are plan d =
    ap (λ n. places_of (suppliers plan) n d) (length-map plan.links (λ (row : LinkRow). Some row.supplier.0))
    ∙ same_filter (belongs (suppliers plan) d) (is_to plan (at d)) (range_with_len 0 (length plan.links))
    (λ l. ap (λ o. option_map_or (nat_eq d) o false) (end_at (λ (row : LinkRow). row.supplier) plan.links l) ∙ turned_end (λ (row : LinkRow). row.supplier) d (slice_get plan.links l))

-- the excuses by the pasts are the excuses
up_awake : (s : Status) → is_active_status s ≡ true → is_suspended_status s ≡ false
up_awake status.Active e = refl
up_awake status.Suspended e = cc
up_awake status.Suspending e = refl
up_awake status.Resuming e = refl

same_if : {X Y : Type 0} (f g : X → Y) (b : Bool) (x : X) → (b ≡ true → f x ≡ g x) → option_map f (only_if b x) ≡ option_map g (only_if b x)
same_if f g true x same = ap (λ y. Some y) (same refl)
same_if f g false x same = refl

parent_in : (plan : Plan) (c p : DevId) → parent plan c ≡ Some p → parent_of plan c ≡ p
unfolding parent_of
parent_in plan c p is = rw is refl

parent_same : (plan : Plan) (h : History) (pasts : List Past) (c : DevId) → ArePasts plan h pasts → c.0 < length plan.devices
    → parent_bond plan (world plan h).views (excuses_by pasts).parent c ≡ parent_bond plan (world plan h).views (parent_excuse plan h) c
parent_same plan h pasts c are within = go (parent plan c) refl
  where
    v : Views
    v = (world plan h).views

    by : DevId → Bond
    by p = bond.Parent c p (parent_excuse_by (past_at pasts c) (past_at pasts p))

    is : DevId → Bond
    is p = bond.Parent c p (parent_excuse plan h c p)

    go : (o : Option DevId) → parent plan c ≡ o
        → option_map by (option_and_then (λ p. only_if (parent_test v c p) p) o) ≡ option_map is (option_and_then (λ p. only_if (parent_test v c p) p) o)
    go None e = refl
    go (Some p) e = same_if by is (parent_test v c p) p same
      where
        same : parent_test v c p ≡ true → by p ≡ is p
        same test =
            let up : is_active v c ≡ true = (both (is_active v c) (not (is_active v p)) (both (is_active v c && not (is_active v p)) (not (device v p).ignores) test).0).0 in
            let less = parent_less plan c p e in
            ap (bond.Parent c p)
            (ap (λ x. parent_excuse_by x (past_at pasts p)) (are.each c within) ∙ ap (λ y. parent_excuse_by (past_of plan h c) y) (are.each p (omega (arith, less, within)))
            ∙ sym (parent_excuse_is plan h c p (up_awake (device v c).status up) (parent_in plan c p e)))

supplier_same : (plan : Plan) (h : History) (pasts : List Past) (l : ℕ) → ArePasts plan h pasts
    → supplier_bond plan (world plan h).views (excuses_by pasts).supplier l ≡ supplier_bond plan (world plan h).views (supplier_excuse plan h) l
supplier_same plan h pasts l are = go (slice_get plan.links l) refl
  where
    v : Views
    v = (world plan h).views

    by : LinkRow → Bond
    by row = bond.Supplier row.consumer row.supplier (supplier_excuse_by (past_at pasts row.consumer) (past_at pasts row.supplier))

    is : LinkRow → Bond
    is row = bond.Supplier row.consumer row.supplier (supplier_excuse plan h row.consumer row.supplier)

    go : (o : Option LinkRow) → slice_get plan.links l ≡ o
        → option_map by (option_and_then (λ row. only_if (link_test v l row) row) o) ≡ option_map is (option_and_then (λ row. only_if (link_test v l row) row) o)
    go None e = refl
    go (Some row) e = same_if by is (link_test v l row) row same
      where
        same : link_test v l row ≡ true → by row ≡ is row
        same test =
            let a = both (row.pm_runtime && is_present v l && is_active v row.consumer) (not (is_active v row.supplier)) test in
            let b = both (row.pm_runtime && is_present v l) (is_active v row.consumer) a.0 in
            let link : IsLink plan l row.consumer row.supplier = record { row = row; is = e; consumer = refl; supplier = refl; runtime = (both row.pm_runtime (is_present v l) b.0).0 } in
            let early : HasEarlier plan row.consumer row.supplier = supplier_earlier plan l row.consumer row.supplier link in
            let inside : row.supplier.0 < length plan.devices = omega (arith, early.within, early.earlier) in
            ap (bond.Supplier row.consumer row.supplier)
            (ap (λ x. supplier_excuse_by x (past_at pasts row.supplier)) (are.each row.consumer early.within) ∙ ap (λ y. supplier_excuse_by (past_of plan h row.consumer) y) (are.each row.supplier inside)
            ∙ sym (supplier_excuse_is plan h row.consumer row.supplier (up_awake (device v row.consumer).status b.1)))

same_told : (f g : ℕ → List Bond) (p : ℕ → Bool) (a n : ℕ) → ((x : ℕ) → x < a + n → f x ≡ g x) → flat_map f (filter p (range_with_len a n)) ≡ flat_map g (filter p (range_with_len a n))
same_told f g p a zero same = refl
same_told f g p a (suc n) same = go (p a) (same_told f g p (a + 1) n (λ x lt. same x (omega arith)))
  where
    rest : List ℕ
    rest = filter p (range_with_len (a + 1) n)

    go : (b : Bool) → flat_map f rest ≡ flat_map g rest → flat_map f (if b then a ∷ rest else rest) ≡ flat_map g (if b then a ∷ rest else rest)
    go true later = rw (same a (omega arith), later) refl
    go false later = later

-- what is told of a device that was turned
near_is : (plan : Plan) (h : History) (pasts : List Past) (d : DevId) (was ignored active ignores : Bool) → ArePasts plan h pasts → d.0 < length plan.devices
    → broken_near plan (world plan h).views (excuses_by pasts) d (children_of plan d) (links_from plan d) (links_to plan d) was ignored active ignores ≡ broken_by plan h d was ignored active ignores
near_is plan h pasts d was ignored active ignores are within = go active was
  where
    v : Views
    v = (world plan h).views

    kids : parent_bonds plan v (excuses_by pasts).parent (children_of plan d) ≡ parent_bonds plan v (parent_excuse plan h) (children_of plan d)
    kids = same_told _ _ (is_child plan d) 0 (length plan.devices) (λ x lt. ap option_to_list (parent_same plan h pasts (at x) are (omega arith)))

    links : (p : ℕ → Bool) → supplier_bonds plan v (excuses_by pasts).supplier (filter p (range_with_len 0 (length plan.links))) ≡ supplier_bonds plan v (supplier_excuse plan h) (filter p (range_with_len 0 (length plan.links)))
    links p = same_told _ _ p 0 (length plan.links) (λ x lt. ap option_to_list (supplier_same plan h pasts x are))

    minded : (b : Bool) → (if b then parent_bonds plan v (excuses_by pasts).parent (children_of plan d) else []) ≡ (if b then parent_bonds plan v (parent_excuse plan h) (children_of plan d) else [])
    minded true = kids
    minded false = refl

    go : (active was : Bool)
        → broken_near plan v (excuses_by pasts) d (children_of plan d) (links_from plan d) (links_to plan d) was ignored active ignores ≡ broken_by plan h d was ignored active ignores
    go true true = refl
    go true false =
        ap (λ x. option_to_list (domain_bond plan v d) ++ option_to_list x ++ supplier_bonds plan v (excuses_by pasts).supplier (links_from plan d)) (parent_same plan h pasts d are within)
        ∙ ap (λ l. option_to_list (domain_bond plan v d) ++ option_to_list (parent_bond plan v (parent_excuse plan h) d) ++ l) (links (is_from plan d))
    go false true = ap (λ l. l ++ supplier_bonds plan v (excuses_by pasts).supplier (links_to plan d)) kids ∙ ap (λ l. parent_bonds plan v (parent_excuse plan h) (children_of plan d) ++ l) (links (is_to plan d))
    go false false = minded (ignored && not ignores)

-- a line that turns nothing
pub kept_still : (plan : Plan) (h : History) (line : Line) (k : Kept) (r : Replayed) → IsLawful plan (line ∷ h) → turned_by line.event ≡ None → IsKept plan k h → IsAfter plan r (line ∷ h)
    → IsKept plan (record k { replay = r }) (line ∷ h)
kept_still plan h line k r lawful turned kept after = record {
  replay = after;
  pasts = pasts_still plan h line k.pasts lawful turned kept.pasts;
  children = kept.children;
  from = kept.from;
  to = kept.to;
}

-- and one that turns d
pub kept_turned : (plan : Plan) (h : History) (line : Line) (d : DevId) (k : Kept) (r : Replayed) (n : ℕ) (pasts : List Past) → IsLawful plan (line ∷ h) → turned_by line.event ≡ Some d
    → d.0 < length plan.devices → IsKept plan k h → IsAfter plan r (line ∷ h) → n ≡ length h + 1
    → (v : Views) → v ≡ (world plan h).views
    → pasts ≡ set k.pasts d.0 (past_after d n line.event (before_of plan v d line.event) (is_suspended r.standing.world.views d) (past_at k.pasts d))
    → IsKept plan (record k { replay = r; pasts = pasts }) (line ∷ h)
kept_turned plan h line d k r n pasts lawful turned inside kept after same v view is = record {
  replay = after;
  pasts =
      pasts_turned plan h line d k.pasts pasts _ lawful turned inside kept.pasts is
      (ap (λ m. past_after d m line.event (before_of plan v d line.event) (is_suspended r.standing.world.views d) (past_at k.pasts d)) same
      ∙ ap (λ u. past_after d (length h + 1) line.event (before_of plan u d line.event) (is_suspended r.standing.world.views d) (past_at k.pasts d)) view
      ∙ ap (λ w. past_after d (length h + 1) line.event (before_of plan (world plan h).views d line.event) (is_suspended w d) (past_at k.pasts d)) (ap (λ (w : World). w.views) after.world_is));
  children = kept.children;
  from = kept.from;
  to = kept.to;
}

pub broken_told : (plan : Plan) (h : History) (line : Line) (d : DevId) (gc gf gt : List (List ℕ)) (r : Replayed) (pasts : List Past) (kids from to : List ℕ) (bonds : List Bond) (was ignored : Bool)
    → IsLawful plan (line ∷ h) → turned_by line.event ≡ Some d → d.0 < length plan.devices → IsKept plan (record { replay = r; pasts = pasts; children = gc; from = gf; to = gt }) (line ∷ h)
    → kids ≡ get_or gc d.0 [] → from ≡ get_or gf d.0 [] → to ≡ get_or gt d.0 []
    → (v : Views) → v ≡ (world plan h).views → was ≡ is_active v d → ignored ≡ (device v d).ignores
    → bonds ≡ broken_near plan r.standing.world.views (excuses_by pasts) d kids from to was ignored (is_active r.standing.world.views d) (device r.standing.world.views d).ignores
    → bonds ≡ broken_at plan h line
broken_told plan h line d gc gf gt r pasts kids from to bonds was ignored lawful turned inside kept kids_are from_is to_is v view was_is ignored_is is =
    is
    ∙ ap (λ (u : Views). broken_near plan u (excuses_by pasts) d kids from to was ignored (is_active u d) (device u d).ignores) (ap (λ (w : World). w.views) kept.replay.world_is)
    ∙ ap (λ l. near l from to was ignored) (kids_are ∙ kept.children.each d.0 inside ∙ children_are plan d.0)
    ∙ ap (λ l. near (children_of plan d) l to was ignored) (from_is ∙ kept.from.each d.0 inside ∙ from_are plan d.0)
    ∙ ap (λ l. near (children_of plan d) (links_from plan d) l was ignored) (to_is ∙ kept.to.each d.0 inside ∙ to_are plan d.0)
    ∙ ap (λ b. near (children_of plan d) (links_from plan d) (links_to plan d) b ignored) (was_is ∙ ap (λ u. is_active u d) view)
    ∙ ap (λ b. near (children_of plan d) (links_from plan d) (links_to plan d) (is_active (world plan h).views d) b) (ignored_is ∙ ap (λ (u : Views). (device u d).ignores) view)
    ∙ near_is plan (line ∷ h) pasts d (is_active (world plan h).views d) (device (world plan h).views d).ignores (is_active v' d) (device v' d).ignores kept.pasts inside
    ∙ sym (broken_is plan h line lawful d turned inside)
  where
    v' : Views
    v' = (world plan (line ∷ h)).views

    near : List ℕ → List ℕ → List ℕ → Bool → Bool → List Bond
    near a b c was ignored = broken_near plan v' (excuses_by pasts) d a b c was ignored (is_active v' d) (device v' d).ignores

-- what is known of the parts of a step, put together
pub noted : (pasts after : List Past) (d : DevId) (n : ℕ) (e : Event) (b b' : Before) (u u' : Views) → after ≡ set pasts d.0 (past_after d n e b (is_suspended u d) (past_at pasts d)) → b ≡ b' → u ≡ u'
    → after ≡ set pasts d.0 (past_after d n e b' (is_suspended u' d) (past_at pasts d))
noted pasts after d n e b b' u u' is p q =
    is ∙ ap (λ x. set pasts d.0 (past_after d n e x (is_suspended u d) (past_at pasts d))) p ∙ ap (λ x. set pasts d.0 (past_after d n e b' (is_suspended x d) (past_at pasts d))) q

pub told_by : (plan : Plan) (u u' : Views) (ps ps' : List Past) (d : DevId) (kids from to : List ℕ) (was ignored : Bool) (bonds : List Bond)
    → bonds ≡ broken_near plan u (excuses_by ps) d kids from to was ignored (is_active u d) (device u d).ignores → u ≡ u' → ps ≡ ps'
    → bonds ≡ broken_near plan u' (excuses_by ps') d kids from to was ignored (is_active u' d) (device u' d).ignores
told_by plan u u' ps ps' d kids from to was ignored bonds is p q =
    is ∙ ap (λ (x : Views). broken_near plan x (excuses_by ps) d kids from to was ignored (is_active x d) (device x d).ignores) p
    ∙ ap (λ x. broken_near plan u' (excuses_by x) d kids from to was ignored (is_active u' d) (device u' d).ignores) q

pub parents_long : (plan : Plan) → length (parents plan) ≡ length plan.devices
parents_long plan = length-map plan.devices (λ row. place_of row.parent)

pub consumers_long : (plan : Plan) → length (consumers plan) ≡ length plan.links
consumers_long plan = length-map plan.links (λ (row : LinkRow). Some row.consumer.0)

pub suppliers_long : (plan : Plan) → length (suppliers plan) ≡ length plan.links
suppliers_long plan = length-map plan.links (λ (row : LinkRow). Some row.supplier.0)

-- what is kept before any line
pub kept_start : (plan : Plan) (k : Kept) (count : ℕ) (up from to : List (Option ℕ)) → count ≡ length plan.devices → up ≡ parents plan → from ≡ consumers plan → to ≡ suppliers plan
    → IsAfter plan k.replay [] → k.pasts ≡ replicate count no_past → AreGroups count (length up) up k.children → AreGroups count (length from) from k.from → AreGroups count (length to) to k.to → IsKept plan k []
kept_start plan k count up from to many up_is from_is to_is replay none children of_consumers of_suppliers =
    record {
      replay = replay;
      pasts = pasts_start plan k.pasts (ap length none ∙ length-replicate count no_past ∙ many) (λ n within. ap (λ (l : List Past). get_or l n no_past) none ∙ get_or-replicate count n no_past no_past (omega (arith, within, many)));
      children = groups up (parents plan) k.children up_is children;
      from = groups from (consumers plan) k.from from_is of_consumers;
      to = groups to (suppliers plan) k.to to_is of_suppliers;
    }
  where
    groups : (owners owned : List (Option ℕ)) (g : List (List ℕ)) → owners ≡ owned → AreGroups count (length owners) owners g → AreGroups (length plan.devices) (length owned) owned g
    groups owners owned g is are = subst (λ n. AreGroups n (length owned) owned g) many (subst (λ (l : List (Option ℕ)). AreGroups count (length l) l g) is are)
