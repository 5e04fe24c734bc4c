-- How many held links a consumer has to a supplier, where a link is taken, given back or freed.
use Rattle.std.proofs.Common.{ℕ, ◌≡◌, ◌+◌, Bool, true, false, cond, not, ◌&&◌, List, [], ◌∷◌, nat_eq, if◌then◌else◌, ap, refl, sym, ◌∙◌, arith}
use Rattle.std.specs.List.{zip}
use Rattle.std.proofs.lemmas.Bool.{eqb-true}
use Rattle.std.proofs.lemmas.List.Sums.{sum_by-cons}
use Rattle.pm_base.specs.declared.DevId.{DevId}
use Rattle.pm_model.specs.declared.rows.LinkRow.{LinkRow}
use Rattle.pm_model.specs.Counted.{is_same}
use Rattle.pm_model.specs.IsPlan.{are_distinct, is_same_pair}
use Rattle.pm_model.specs.PlanRows.{is_of_pair}
use Rattle.pm_laws.specs.counts.Sums.{one}
use Rattle.pm_laws.proofs.counts.Links.{eq_sym, has_pair, held_of, lent_given, lent_loosed, lent_of, lent_taken, loosed, one_and_false, paired}
use Rattle.pm_why.proofs.Counts.{same_device}

one_and_true : (b : Bool) → one (b && true) ≡ one b
one_and_true true = refl
one_and_true false = refl

-- a link of one consumer is none of another
apart : (row : LinkRow) (c x : DevId) → is_same c x ≡ false → nat_eq row.consumer.0 c.0 ≡ true → nat_eq row.consumer.0 x.0 ≡ false
apart row c x other is = ap (λ n. nat_eq n x.0) (eqb-true row.consumer.0 c.0 is) ∙ eq_sym c.0 x.0 ∙ other

-- where all links of a consumer are freed, it doesn't matter that one of them was taken or given back
loosed_paired : (c s : DevId) (b : Bool) (links : List LinkRow) (held : List Bool) → loosed c links (paired c s b links held) ≡ loosed c links held
loosed_paired c s b [] held = refl
loosed_paired c s b (row ∷ links) [] = refl
loosed_paired c s b (row ∷ links) (h ∷ held) =
    let head = freed (nat_eq row.consumer.0 c.0) (nat_eq row.supplier.0 s.0) h in
    ap (λ x. x ∷ loosed c links (paired c s b links held)) head ∙ ap (λ l. (if nat_eq row.consumer.0 c.0 then false else h) ∷ l) (loosed_paired c s b links held)
  where
    freed : (k m h : Bool) → (if k then false else (if k && m then b else h)) ≡ (if k then false else h)
    freed true m h = refl
    freed false m h = refl

-- it is the same to free the links of another consumer before or after
loosed_other : (c x s : DevId) (b : Bool) → is_same c x ≡ false → (links : List LinkRow) (held : List Bool)
    → loosed c links (paired x s b links held) ≡ paired x s b links (loosed c links held)
loosed_other c x s b other [] held = refl
loosed_other c x s b other (row ∷ links) [] = refl
loosed_other c x s b other (row ∷ links) (h ∷ held) =
    let head = turned (nat_eq row.consumer.0 c.0) (nat_eq row.consumer.0 x.0) (nat_eq row.supplier.0 s.0) h (apart row c x other) in
    ap (λ y. y ∷ loosed c links (paired x s b links held)) head
    ∙ ap (λ l. (if is_of_pair x s row then b else (if nat_eq row.consumer.0 c.0 then false else h)) ∷ l) (loosed_other c x s b other links held)
  where
    turned : (k j m h : Bool) → (k ≡ true → j ≡ false) → (if k then false else (if j && m then b else h)) ≡ (if j && m then b else (if k then false else h))
    turned true j m h none = rw (none refl) refl
    turned false j m h none = refl

-- and a link of the pair has its value still
has_other : (c x s : DevId) (b : Bool) → is_same c x ≡ false → (links : List LinkRow) (held : List Bool)
    → has_pair x s b links (loosed c links held) ≡ has_pair x s b links held
has_other c x s b other [] held = refl
has_other c x s b other (row ∷ links) [] = refl
has_other c x s b other (row ∷ links) (h ∷ held) =
    let head = seen (nat_eq row.consumer.0 c.0) (nat_eq row.consumer.0 x.0) (nat_eq row.supplier.0 s.0) h b (apart row c x other) in
    rw (head, has_other c x s b other links held) refl
  where
    seen : (k j m h b : Bool) → (k ≡ true → j ≡ false)
        → (j && m) && (if b then (if k then false else h) else not (if k then false else h)) ≡ (j && m) && (if b then h else not h)
    seen true j m h b none = rw (none refl) refl
    seen false j m h b none = refl

-- the link from x to s is taken
pub held_taken : (c x s d : DevId) (links : List LinkRow) (held : List Bool) → are_distinct is_same_pair links ≡ true → has_pair x s false links held ≡ true
    → held_of c d.0 links (paired x s true links held) ≡ held_of c d.0 links held + one (is_same d s && is_same c x)
held_taken c x s d links held distinct has = go (is_same c x) refl
  where
    all : lent_of links (paired x s true links held) d ≡ lent_of links held d + one (is_same d s)
    all = lent_taken x s d links held distinct has

    go : (b : Bool) → is_same c x ≡ b → held_of c d.0 links (paired x s true links held) ≡ held_of c d.0 links held + one (is_same d s && b)
    go true e =
        let same : lent_of links (loosed c links (paired x s true links held)) d ≡ lent_of links (loosed c links held) d = ap (λ z. lent_of links (loosed c links (paired z s true links held)) d) (sym (same_device c x e)) ∙ ap (λ l. lent_of links l d) (loosed_paired c s true links held) in
        omega (arith, lent_loosed c d links (paired x s true links held), lent_loosed c d links held, all, one_and_true (is_same d s))
    go false e =
        let more : lent_of links (loosed c links (paired x s true links held)) d ≡ lent_of links (loosed c links held) d + one (is_same d s) = ap (λ l. lent_of links l d) (loosed_other c x s true e links held) ∙ lent_taken x s d links (loosed c links held) distinct (has_other c x s false e links held ∙ has) in
        omega (arith, lent_loosed c d links (paired x s true links held), lent_loosed c d links held, all, one_and_false (is_same d s))

-- and given back
pub held_given : (c x s d : DevId) (links : List LinkRow) (held : List Bool) → are_distinct is_same_pair links ≡ true → has_pair x s true links held ≡ true
    → held_of c d.0 links (paired x s false links held) + one (is_same d s && is_same c x) ≡ held_of c d.0 links held
held_given c x s d links held distinct has = go (is_same c x) refl
  where
    all : lent_of links (paired x s false links held) d + one (is_same d s) ≡ lent_of links held d
    all = lent_given x s d links held distinct has

    go : (b : Bool) → is_same c x ≡ b → held_of c d.0 links (paired x s false links held) + one (is_same d s && b) ≡ held_of c d.0 links held
    go true e =
        let same : lent_of links (loosed c links (paired x s false links held)) d ≡ lent_of links (loosed c links held) d = ap (λ z. lent_of links (loosed c links (paired z s false links held)) d) (sym (same_device c x e)) ∙ ap (λ l. lent_of links l d) (loosed_paired c s false links held) in
        omega (arith, lent_loosed c d links (paired x s false links held), lent_loosed c d links held, all, one_and_true (is_same d s))
    go false e =
        let less : lent_of links (loosed c links (paired x s false links held)) d + one (is_same d s) ≡ lent_of links (loosed c links held) d = ap (λ l. lent_of links l d + one (is_same d s)) (loosed_other c x s false e links held) ∙ lent_given x s d links (loosed c links held) distinct (has_other c x s true e links held ∙ has) in
        omega (arith, lent_loosed c d links (paired x s false links held), lent_loosed c d links held, all, one_and_false (is_same d s))

pub held_cons : (c : DevId) (s : ℕ) (row : LinkRow) (links : List LinkRow) (h : Bool) (held : List Bool)
    → held_of c s (row ∷ links) (h ∷ held) ≡ one (nat_eq row.consumer.0 c.0 && nat_eq row.supplier.0 s && h) + held_of c s links held
held_cons c s row links h held = sum_by-cons (λ (p : LinkRow × Bool). cond (nat_eq p.0.consumer.0 c.0 && nat_eq p.0.supplier.0 s && p.1) 1 0) (row, h) (zip links held)

-- all links of x are freed: those of c where it is x
pub held_loosed : (c x : DevId) (s : ℕ) (b : Bool) → is_same c x ≡ b → (links : List LinkRow) (held : List Bool)
    → held_of c s links (loosed x links held) ≡ (if b then 0 else held_of c s links held)
held_loosed c x s true e [] held = refl
held_loosed c x s false e [] held = refl
held_loosed c x s true e (row ∷ links) [] = refl
held_loosed c x s false e (row ∷ links) [] = refl
held_loosed c x s true e (row ∷ links) (h ∷ held) =
    let same : nat_eq row.consumer.0 x.0 ≡ nat_eq row.consumer.0 c.0 = ap (λ (y : DevId). nat_eq row.consumer.0 y.0) (sym (same_device c x e)) in
    let none = freed (nat_eq row.consumer.0 c.0) (nat_eq row.consumer.0 x.0) (nat_eq row.supplier.0 s) h same in
    omega (arith, held_cons c s row links (if nat_eq row.consumer.0 x.0 then false else h) (loosed x links held), held_loosed c x s true e links held)
  where
    freed : (k j m h : Bool) → j ≡ k → one (k && m && (if j then false else h)) ≡ 0
    freed true j true h same = rw same refl
    freed true j false h same = refl
    freed false j m h same = refl
held_loosed c x s false e (row ∷ links) (h ∷ held) =
    let same = kept (nat_eq row.consumer.0 c.0) (nat_eq row.consumer.0 x.0) (nat_eq row.supplier.0 s) h (apart row c x e) in
    omega (arith, held_cons c s row links (if nat_eq row.consumer.0 x.0 then false else h) (loosed x links held), held_cons c s row links h held, held_loosed c x s false e links held)
  where
    kept : (k j m h : Bool) → (k ≡ true → j ≡ false) → one (k && m && (if j then false else h)) ≡ one (k && m && h)
    kept true j true h none = rw (none refl) refl
    kept true j false h none = refl
    kept false j m h none = refl
