-- A hint told or answered keeps the order of hints.
use Rattle.std.proofs.Common.{◌≡◌, ◌≢◌, ◌≤◌, ◌<◌, ◌⊎◌, ℕ, zero, suc, true, false, List, [], ◌∷◌, ◌++◌, length, nat_eq, set, refl, sym, ap, subst, arith, ◌∙◌, inl, inr, ⊎_elim, append_assoc}
use Rattle.std.specs.List.{filter}
use Rattle.std.proofs.lemmas.Bool.{cond-false, cond-true, eq-eqb, eqb-true, false_from_ne_true}
use Rattle.std.proofs.lemmas.List.{map-append}
use Rattle.std.proofs.lemmas.List.Elements.{filter-append}
use mathlib.Core.Option.{some, some-injective, some-ne-none}
use lib.ListN.{get_elem?}
use Rattle.crossbeam_queue.specs.Fifo.{Admits, Learns, Pops, Pushes}
use Rattle.crossbeam_queue.proofs.Lists.{at_set}
use Rattle.pm_wq.specs.declared.rule.Log.{Log}
use Rattle.pm_wq.specs.Order.{Fits, IsInOrder, Knows, Passed, islands, nothing, of_pass, with_answer, with_told}

islands_more : (all : Passed) (p x : ℕ) → islands (all ++ (p, x) ∷ []) ≡ islands all ++ x ∷ []
islands_more all p x = map-append (λ (y : ℕ × ℕ). y.1) all ((p, x) ∷ [])

of_more : (all : Passed) (q p x : ℕ) (one : Passed) → filter (λ (y : ℕ × ℕ). nat_eq y.0 q) ((p, x) ∷ []) ≡ one → of_pass q (all ++ (p, x) ∷ []) ≡ of_pass q all ++ islands one
of_more all q p x one is =
    ap islands (filter-append (λ (y : ℕ × ℕ). nat_eq y.0 q) all ((p, x) ∷ []))
    ∙ map-append (λ (y : ℕ × ℕ). y.1) (filter (λ (y : ℕ × ℕ). nat_eq y.0 q) all) (filter (λ (y : ℕ × ℕ). nat_eq y.0 q) ((p, x) ∷ []))
    ∙ ap (λ l. of_pass q all ++ islands l) is

own_more : (all : Passed) (p x : ℕ) → of_pass p (all ++ (p, x) ∷ []) ≡ of_pass p all ++ x ∷ []
own_more all p x = of_more all p p x ((p, x) ∷ []) (cond-true _ _ _ (eq-eqb p p refl))

append_none : (l : List ℕ) → l ++ [] ≡ l
append_none [] = refl
append_none (x ∷ xs) = ap (λ l. x ∷ l) (append_none xs)

others_same : (all : Passed) (p q x : ℕ) → q ≢ p → of_pass q (all ++ (p, x) ∷ []) ≡ of_pass q all
others_same all p q x apart =
    of_more all q p x [] (cond-false _ _ _ (false_from_ne_true (nat_eq p q) (λ same. apart (sym (eqb-true p q same))))) ∙ append_none (of_pass q all)

-- views by their number
get_below : (l : List Log) (i : ℕ) (a : Log) → get_elem? l i ≡ some a → i < length l
get_below [] i a e = absurd (some-ne-none a (sym e))
get_below (x ∷ xs) zero a e = omega arith
get_below (x ∷ xs) (suc i) a e = let below = get_below xs i a e in omega arith

set_length : (l : List Log) (i : ℕ) (a : Log) → length (set l i a) ≡ length l
set_length [] i a = refl
set_length (x ∷ xs) zero a = refl
set_length (x ∷ xs) (suc i) a = ap suc (set_length xs i a)

more_length : (l : List Log) (a : Log) → length (l ++ a ∷ []) ≡ suc (length l)
more_length [] a = refl
more_length (x ∷ xs) a = ap suc (more_length xs a)

at_more : (l : List Log) (a b : Log) (j : ℕ) → get_elem? (l ++ a ∷ []) j ≡ some b → (get_elem? l j ≡ some b) ⊎ ((j ≡ length l) × (a ≡ b))
at_more [] a b zero e = inr (refl, some-injective a b e)
at_more [] a b (suc j) e = absurd (some-ne-none b (sym e))
at_more (x ∷ xs) a b zero e = inl e
at_more (x ∷ xs) a b (suc j) e = ⊎_elim (λ there. inl there) (λ (last : (j ≡ length xs) × (a ≡ b)). inr (ap suc last.0, last.1)) (at_more xs a b j e)

all_set : (F : ℕ → Log → Type 0) (views : List Log) (port : ℕ) (w : Log) → F port w → ((j : ℕ) (u : Log) → j ≢ port → get_elem? views j ≡ some u → F j u)
    → (j : ℕ) (u : Log) → get_elem? (set views port w) j ≡ some u → F j u
all_set F views port w mine others j u e =
    ⊎_elim (λ (x : (j ≡ port) × (w ≡ u)). subst (λ (y : ℕ × Log). F y.0 y.1) (λ i. (sym x.0 i, x.1 i)) mine)
    (λ (x : (j ≢ port) × (get_elem? views j ≡ some u)). others j u x.0 x.1) (at_set views port j w u e)

-- a number past all views isn't that of a pass
past_apart : (views : List Log) (port q : ℕ) (v w : Log) → get_elem? views port ≡ some v → length (set views port w) ≤ q → (q ≢ port) × (length views ≤ q)
past_apart views port q v w at past =
    let below = get_below views port v at in let same = set_length views port w in ((λ is. absurd (omega (arith, below, same, past, is))), omega (arith, same, past))

pub pushes : (n port : ℕ) (v : Log) (x : ℕ) → Pushes IsInOrder n port v x (λ w. w ≡ with_told v x)
pushes n port v x items views room h at =
    let mine = h.each port v at in
    let told = h.told ++ (port, x) ∷ [] in (
      with_told v x,
      record {
        told = told;
        answered = h.answered;
        waiting = islands_more h.told port x ∙ (ap (λ l. l ++ x ∷ []) h.waiting ∙ append_assoc (islands h.answered) items (x ∷ []));
        each = all_set (λ q u. Knows q u told h.answered) views port (with_told v x) (ap (λ l. l ++ x ∷ []) mine.0 ∙ sym (own_more h.told port x), mine.1)
            (λ q u apart e. let k = h.each q u e in (k.0 ∙ sym (others_same h.told port q x apart), k.1));
        others = λ q past.
            let out = past_apart views port q v (with_told v x) at past in let k = h.others q out.1 in (k.0 ∙ sym (others_same h.told port q x out.0), k.1);
      },
      refl,
    )

pub pops : (port : ℕ) (v : Log) → Pops IsInOrder port v (λ x w. w ≡ with_answer v x)
pops port v x items views h at =
    let mine = h.each port v at in
    let answered = h.answered ++ (port, x) ∷ [] in (
      with_answer v x,
      record {
        told = h.told;
        answered = answered;
        waiting = h.waiting ∙ (sym (append_assoc (islands h.answered) (x ∷ []) items) ∙ ap (λ l. l ++ items) (sym (islands_more h.answered port x)));
        each = all_set (λ q u. Knows q u h.told answered) views port (with_answer v x) (mine.0, ap (λ l. l ++ x ∷ []) mine.1 ∙ sym (own_more h.answered port x))
            (λ q u apart e. let k = h.each q u e in (k.0, k.1 ∙ sym (others_same h.answered port q x apart)));
        others = λ q past.
            let out = past_apart views port q v (with_answer v x) at past in let k = h.others q out.1 in (k.0, k.1 ∙ sym (others_same h.answered port q x out.0));
      },
      refl,
    )

pub admits : Admits IsInOrder nothing
admits items views h = record {
  told = h.told;
  answered = h.answered;
  waiting = h.waiting;
  each = λ q u e.
      ⊎_elim (λ there. h.each q u there)
      (λ (last : (q ≡ length views) × (nothing ≡ u)). subst (λ w. Knows q w h.told h.answered) last.1 (h.others q (let is = last.0 in omega (arith, is))))
      (at_more views nothing u q e);
  others = λ q past. h.others q (let more = more_length views nothing in omega (arith, more, past));
}

pub learns : (port : ℕ) (v : Log) → Learns IsInOrder port v (Fits v)
learns port v items views h at = (port, h.told, h.answered, h.waiting, h.each port v at)

pub begins : IsInOrder [] (nothing ∷ [])
begins = record {
  told = [];
  answered = [];
  waiting = refl;
  each = each;
  others = λ q past. (refl, refl);
}
  where
    each : (q : ℕ) (u : Log) → get_elem? (nothing ∷ []) q ≡ some u → Knows q u [] []
    each zero u e = subst (λ w. Knows zero w [] []) (some-injective nothing u e) (refl, refl)
    each (suc q) u e = absurd (some-ne-none u (sym e))
