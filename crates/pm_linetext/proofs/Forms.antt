-- Fields of one digit each, as a form in which the digits are set.
use Rattle.std.proofs.Common.{◌≡◌, ℕ, ◌+◌, ◌<◌, Bool, true, false, List, [], ◌∷◌, ◌++◌, length, take, slice_set, codes, decimal, refl, ap, append_assoc, sym, ◌∙◌, arith, lit<, length-append}
use Rattle.std.specs.Fmt.{digits}
use Rattle.std.proofs.lemmas.Bool.Decides.{nat_tests}
use Rattle.std.proofs.lemmas.Fmt.{decimal_digit, hex_one_digit}
use Rattle.std.proofs.lemmas.Grind.{common_steps}
use Rattle.std.proofs.lemmas.List.{length-take-le}
use Rattle.pm_model.specs.Spelling.{bit, padded}
use Rattle.pm_model.specs.declared.event.Fields.{Fields}
use Rattle.pm_linetext.specs.Payload.{are_digits, fields_text}
use Rattle.pm_linetext.specs.Room.{HasRoom}
use Rattle.pm_linetext.proofs.PieceLemmas.{padded_digit}
use Rattle.pm_linetext.proofs.Placing.{piece_end, set_behind, within}

abbrev form : List ℕ
form = codes " flags-0 cnt-0  dep-0  auto-0 p-0 irq-0 child-0"

pub digits_are : (f : Fields) → are_digits f ≡ true → (f.flags < 16) × (f.cnt < 10) × (f.dep < 10) × (f.child < 10)
digits_are f h =
    (grind (arith, common_steps, nat_tests), grind (arith, common_steps, nat_tests), grind (arith, common_steps, nat_tests), grind (arith, common_steps, nat_tests))

-- the pieces of the form
pieces : (g c d a p k : ℕ) (flags cnt dep auto pending child : List ℕ) → flags ≡ g ∷ [] → cnt ≡ c ∷ 32 ∷ [] → dep ≡ d ∷ 32 ∷ [] → auto ≡ a ∷ [] → pending ≡ p ∷ [] → child ≡ k ∷ [] → slice_set (slice_set (slice_set (slice_set (slice_set (slice_set form 7 g) 13 c) 20 d) 28 a) 32 p) 46 k ≡ codes " flags-" ++ flags ++ codes " cnt-" ++ cnt ++ codes " dep-" ++ dep ++ (codes " auto-" ++ auto ++ codes " p-" ++ pending ++ codes " irq-0 child-" ++ child)
pieces g c d a p k flags cnt dep auto pending child is_g is_c is_d is_a is_p is_k =
    rw (is_g, is_c, is_d, is_a, is_p, is_k) refl

bit_len : (b : Bool) → length (bit b) ≡ 1
bit_len true = refl
bit_len false = refl

padded_len : (n : ℕ) → n < 10 → length (padded (decimal n)) ≡ 2
padded_len n small = rw (padded_digit n small, decimal_digit n small) refl

-- there is room for the form where there is room for the fields
pub form_fits : (f : Fields) (front : List ℕ) → are_digits f ≡ true → HasRoom front (fields_text f) → HasRoom front form
form_fits f front h room =
    let small = digits_are f h in
    let flags : length (digits 16 false f.flags) ≡ 1 = ap length (hex_one_digit false f.flags small.0) in
    let child : length (decimal f.child) ≡ 1 = ap length (decimal_digit f.child small.3) in
    let all : length (fields_text f) ≡ 47 = simp length-append (omega (arith, flags, padded_len f.cnt small.1, padded_len f.dep small.2, bit_len f.auto_on, bit_len f.pending, child)) in
    omega (arith, all)

counted : (n c : ℕ) → n < 10 → c ∷ [] ≡ decimal n → padded (decimal n) ≡ c ∷ 32 ∷ []
counted n c small is = rw (padded_digit n small, ← is) refl

-- the form with the digits is the text of the fields
pub form_set : (f : Fields) (at end g c d a p k : ℕ) (old new : List ℕ) → are_digits f ≡ true → length old ≡ 256 → length new ≡ 256 → HasRoom (take at old) form → take end new ≡ take at old ++ form → digits 16 false f.flags ≡ g ∷ [] → c ∷ [] ≡ decimal f.cnt → d ∷ [] ≡ decimal f.dep → a ∷ [] ≡ bit f.auto_on → p ∷ [] ≡ bit f.pending → k ∷ [] ≡ decimal f.child → take end (slice_set (slice_set (slice_set (slice_set (slice_set (slice_set new (at + 7) g) (at + 13) c) (at + 20) d) (at + 28) a) (at + 32) p) (at + 46) k) ≡ take at old ++ fields_text f
form_set f at end g c d a p k old new h old_len new_len room put is_g is_c is_d is_a is_p is_k =
    let small = digits_are f h in
    let front = length-take-le at old (within at old form old_len room) in
    let ends = piece_end at end old new form old_len new_len room put in
    let e1 = set_behind at 7 end g new (take at old) form front ends (lit< tt) put in
    let e2 = set_behind at 13 end c (slice_set new (at + 7) g) (take at old) (slice_set form 7 g) front ends (lit< tt) e1 in
    let e3 = set_behind at 20 end d (slice_set (slice_set new (at + 7) g) (at + 13) c) (take at old) (slice_set (slice_set form 7 g) 13 c) front ends (lit< tt) e2 in
    let e4 = set_behind at 28 end a (slice_set (slice_set (slice_set new (at + 7) g) (at + 13) c) (at + 20) d) (take at old) (slice_set (slice_set (slice_set form 7 g) 13 c) 20 d) front ends (lit< tt) e3 in
    let e5 = set_behind at 32 end p (slice_set (slice_set (slice_set (slice_set new (at + 7) g) (at + 13) c) (at + 20) d) (at + 28) a) (take at old) (slice_set (slice_set (slice_set (slice_set form 7 g) 13 c) 20 d) 28 a) front ends (lit< tt) e4 in
    let e6 = set_behind at 46 end k (slice_set (slice_set (slice_set (slice_set (slice_set new (at + 7) g) (at + 13) c) (at + 20) d) (at + 28) a) (at + 32) p) (take at old) (slice_set (slice_set (slice_set (slice_set (slice_set form 7 g) 13 c) 20 d) 28 a) 32 p) front ends (lit< tt) e5 in
    let text = pieces g c d a p k (digits 16 false f.flags) (padded (decimal f.cnt)) (padded (decimal f.dep)) (bit f.auto_on) (bit f.pending) (decimal f.child) is_g (counted f.cnt c small.1 is_c) (counted f.dep d small.2 is_d) (sym is_a) (sym is_p) (sym is_k) in
    e6 ∙ ap (λ t. take at old ++ t) text

-- a payload, as the device's name and the fields behind it
pub payload_split : (device f1 f2 c1 c2 d1 d2 a1 a2 b1 b2 e1 e2 : List ℕ)
    → device ++ f1 ++ f2 ++ c1 ++ c2 ++ d1 ++ d2 ++ a1 ++ a2 ++ b1 ++ b2 ++ e1 ++ e2 ≡ device ++ ((f1 ++ f2 ++ c1 ++ c2 ++ d1 ++ d2) ++ (a1 ++ a2 ++ b1 ++ b2 ++ e1 ++ e2))
payload_split device f1 f2 c1 c2 d1 d2 a1 a2 b1 b2 e1 e2 = simp append_assoc

pub placed : (front lead device fields whole : List ℕ) → whole ≡ device ++ fields → front ++ (lead ++ device) ++ fields ≡ front ++ (lead ++ whole)
placed front lead device fields whole is = rw is (simp append_assoc)
