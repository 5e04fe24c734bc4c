-- What a reader is to a language of texts, and how readers are put together.
use Rattle.std.proofs.Common.{◌≡◌, ℕ, ◌+◌, ◌≤◌, min, Bool, true, List, [], ◌∷◌, ◌++◌, length, Result, Ok, Err, refl, ap, sym, subst, ◌∙◌, ◌⊎◌, inl, inr, arith, length-append}
use Rattle.std.proofs.lemmas.Bool.{eq-eqb, ne_eqb, cases_eq, cases_lt}
use Rattle.std.proofs.lemmas.Bool.Decides.{nat_tests}
use Rattle.std.proofs.lemmas.Grind.{common_steps}
use Rattle.pm_lineread.specs.Pieces.{◌>>=◌, either_of, ended, ends, literal_at}
use Rattle.pm_lineread.proofs.Shared.{is_clean, shared, shared-append, shared-longer, words_part}

-- It reads each text of the language whole, and nothing else. Where it fails, what isn't left is the most that
-- the bytes have in common with a text.
pub record Reads {C : Type 0} (read : List ℕ → Result C ℕ) (Spells : List ℕ → C → Type 0) : Type 0 where
  pub sound : (bytes : List ℕ) (c : C) → read bytes ≡ Ok c → Spells bytes c
  pub complete : (bytes : List ℕ) (c : C) → Spells bytes c → read bytes ≡ Ok c
  pub most : (bytes : List ℕ) (left : ℕ) → read bytes ≡ Err left → (t : List ℕ) (c : C) → Spells t c → shared bytes t + left ≤ length bytes
  pub reached : (bytes : List ℕ) (left : ℕ) → read bytes ≡ Err left → (t : List ℕ) × (c : C) × Spells t c × (length bytes ≤ shared bytes t + left)
  pub some : (t : List ℕ) × (c : C) × Spells t c

-- The same of a word with a stop behind it.
pub record ReadsWord {A : Type 0} (stop : ℕ) (read : List ℕ → Result (A × List ℕ) ℕ) (valid : A → Bool) (text : A → List ℕ) : Type 0 where
  pub clean : (a : A) → valid a ≡ true → is_clean stop (text a) ≡ true
  pub sound : (bytes : List ℕ) (a : A) (rest : List ℕ) → read bytes ≡ Ok (a, rest) → (valid a ≡ true) × (bytes ≡ text a ++ rest) × (ends stop rest ≡ true)
  pub complete : (a : A) (rest : List ℕ) → valid a ≡ true → ends stop rest ≡ true → read (text a ++ rest) ≡ Ok (a, rest)
  pub most : (bytes : List ℕ) (left : ℕ) → read bytes ≡ Err left → (a : A) (rest : List ℕ) → valid a ≡ true → ends stop rest ≡ true → shared bytes (text a ++ rest) + left ≤ length bytes
  pub reached : (bytes : List ℕ) (left : ℕ) → read bytes ≡ Err left → (a : A) × (valid a ≡ true) × (length bytes ≤ shared bytes (text a) + left)
  pub some : (a : A) × (valid a ≡ true)

pub one_answer : {A : Type 0} (r : Result A ℕ) (x y : A) → r ≡ Ok x → r ≡ Ok y → x ≡ y
one_answer r x y h k = cc

pub answer_parts : {A B : Type 0} (a a' : A) (b b' : B) (r : Result (A × B) ℕ) → r ≡ Ok (a, b) → r ≡ Ok (a', b') → (a ≡ a') × (b ≡ b')
answer_parts a a' b b' r h k = let pairs = one_answer r (a, b) (a', b') h k in (ap (λ x. x.0) pairs, ap (λ x. x.1) pairs)

-- what a chain of two answers
pub chain_ok : {A B : Type 0} (r : Result A ℕ) (f : A → Result B ℕ) (y : B) → (r >>= f) ≡ Ok y → (x : A) × (r ≡ Ok x) × (f x ≡ Ok y)
chain_ok (Ok x) f y h = (x, refl, h)
chain_ok (Err left) f y h = (cc)

pub chain_err : {A B : Type 0} (r : Result A ℕ) (f : A → Result B ℕ) (left : ℕ) → (r >>= f) ≡ Err left → (r ≡ Err left) ⊎ ((x : A) × (r ≡ Ok x) × (f x ≡ Err left))
chain_err (Ok x) f left h = inr (x, refl, h)
chain_err (Err e) f left h = inl (cc)

pub chain_from : {A B : Type 0} (r : Result A ℕ) (f : A → Result B ℕ) (x : A) (y : B) → r ≡ Ok x → f x ≡ Ok y → (r >>= f) ≡ Ok y
chain_from (Ok w) f x y h k = ap f (cc) ∙ k
chain_from (Err e) f x y h k = (cc)

-- the end

pub ended_reads : {C : Type 0} (x : C) → Reads (ended x) (λ t c. (t ≡ []) × (c ≡ x))
unfolding ended
ended_reads x = record {
  sound = λ bytes c h. ended_sound x bytes c h;
  complete = λ bytes c h. ended_complete x bytes c h.0 h.1;
  most = λ bytes left h t c s. ended_most x bytes left h t s.0;
  reached = λ bytes left h. ([], x, (refl, refl), ended_reached x bytes left h);
  some = ([], x, (refl, refl));
}
  where
    ended_sound : {C : Type 0} (x : C) (bytes : List ℕ) (c : C) → ended x bytes ≡ Ok c → (bytes ≡ []) × (c ≡ x)
    ended_sound x [] c h = (refl, cc)
    ended_sound x (b ∷ bytes) c h = (cc)

    ended_complete : {C : Type 0} (x : C) (bytes : List ℕ) (c : C) → bytes ≡ [] → c ≡ x → ended x bytes ≡ Ok c
    ended_complete x [] c h k = ap Ok (sym k)
    ended_complete x (b ∷ bytes) c h k = (cc)

    ended_most : {C : Type 0} (x : C) (bytes : List ℕ) (left : ℕ) → ended x bytes ≡ Err left → (t : List ℕ) → t ≡ [] → shared bytes t + left ≤ length bytes
    ended_most x [] left h t s = (cc)
    ended_most x (b ∷ bytes) left h [] s = grind (arith, common_steps)
    ended_most x (b ∷ bytes) left h (c ∷ t) s = (cc)

    ended_reached : {C : Type 0} (x : C) (bytes : List ℕ) (left : ℕ) → ended x bytes ≡ Err left → length bytes ≤ shared bytes [] + left
    ended_reached x [] left h = (cc)
    ended_reached x (b ∷ bytes) left h = grind (arith, common_steps)

-- a word that is always the same

literal_sound : (word bytes rest : List ℕ) → literal_at word bytes ≡ Ok rest → bytes ≡ word ++ rest
unfolding literal_at
literal_sound [] bytes rest h = cc
literal_sound (c ∷ word) [] rest h = (cc)
literal_sound (c ∷ word) (b ∷ bytes) rest h = elim (cases_eq b c) [
  | inl same ↦ let tail = literal_sound word bytes rest (grind (arith, eq-eqb b c same)) in cc
  | inr differ ↦ absurd (grind (arith, ne_eqb b c differ))
]

literal_complete : (word rest : List ℕ) → literal_at word (word ++ rest) ≡ Ok rest
unfolding literal_at
literal_complete [] rest = refl
literal_complete (c ∷ word) rest = grind (arith, eq-eqb c c refl, literal_complete word rest)

literal_most : (word bytes : List ℕ) (left : ℕ) → literal_at word bytes ≡ Err left → (rest : List ℕ) → shared bytes (word ++ rest) + left ≤ length bytes
unfolding literal_at
literal_most [] bytes left h rest = (cc)
literal_most (c ∷ word) [] left h rest = let none : left ≡ 0 = cc in omega arith
literal_most (c ∷ word) (b ∷ bytes) left h rest = elim (cases_eq b c) [
  | inl same ↦ grind (arith, nat_tests, common_steps, eq-eqb b c same, literal_most word bytes left)
  | inr differ ↦ grind (arith, nat_tests, common_steps, ne_eqb b c differ)
]

literal_reached : (word bytes : List ℕ) (left : ℕ) → literal_at word bytes ≡ Err left → length bytes ≤ shared bytes word + left
unfolding literal_at
literal_reached [] bytes left h = (cc)
literal_reached (c ∷ word) [] left h = omega arith
literal_reached (c ∷ word) (b ∷ bytes) left h = elim (cases_eq b c) [
  | inl same ↦ grind (arith, nat_tests, common_steps, eq-eqb b c same, literal_reached word bytes left)
  | inr differ ↦ grind (arith, nat_tests, common_steps, ne_eqb b c differ)
]

abbrev pub AfterLiteral : {C : Type 0} → List ℕ → (List ℕ → C → Type 0) → List ℕ → C → Type 0
AfterLiteral word Spells t c = (rest : List ℕ) × (t ≡ word ++ rest) × Spells rest c

module _ {C : Type 0} (word : List ℕ) (next : List ℕ → Result C ℕ) (Spells : List ℕ → C → Type 0) (reads : Reads next Spells) where
  after_literal_most : (bytes : List ℕ) (left : ℕ) → (literal_at word bytes >>= next) ≡ Err left → (rest : List ℕ) (c : C) → Spells rest c → shared bytes (word ++ rest) + left ≤ length bytes
  after_literal_most bytes left h rest c spelled = elim (chain_err (literal_at word bytes) next left h) [
    | inl none ↦ literal_most word bytes left none rest
    | inr found ↦
        let here : bytes ≡ word ++ found.0 = literal_sound word bytes found.0 found.1 in
        let most : shared found.0 rest + left ≤ length found.0 = reads.most found.0 left found.2 rest c spelled in
        rw here (omega (arith, shared-append word found.0 rest, length-append word found.0))
  ]

  after_literal_reached : (bytes : List ℕ) (left : ℕ) → (literal_at word bytes >>= next) ≡ Err left → (t : List ℕ) × (c : C) × AfterLiteral word Spells t c × (length bytes ≤ shared bytes t + left)
  after_literal_reached bytes left h = elim (chain_err (literal_at word bytes) next left h) [
    | inl none ↦
        let (rest, c, spelled) = reads.some in
        (word ++ rest, c, (rest, refl, spelled), omega (arith, literal_reached word bytes left none, shared-longer bytes word rest))
    | inr found ↦
        let here : bytes ≡ word ++ found.0 = literal_sound word bytes found.0 found.1 in
        let (t, c, spelled, near) = reads.reached found.0 left found.2 in
        (word ++ t, c, (t, refl, spelled), rw here (omega (arith, near, shared-append word found.0 t, length-append word found.0)))
  ]

  pub literal_reads : Reads (λ bytes. literal_at word bytes >>= next) (AfterLiteral word Spells)
  literal_reads = record {
    sound = λ bytes c h.
        let (rest, here, tail) = chain_ok (literal_at word bytes) next c h in
        (rest, literal_sound word bytes rest here, reads.sound rest c tail);
    complete = λ bytes c s. rw s.1 (chain_from (literal_at word (word ++ s.0)) next s.0 c (literal_complete word s.0) (reads.complete s.0 c s.2));
    most = λ bytes left h t c s. rw s.1 (after_literal_most bytes left h s.0 c s.2);
    reached = after_literal_reached;
    some = let (rest, c, spelled) = reads.some in (word ++ rest, c, (rest, refl, spelled));
  }

-- a word that is one of several, which says how the text goes on

abbrev pub AfterWord : {A C : Type 0} → (A → Bool) → (A → List ℕ) → (A → List ℕ → C → Type 0) → List ℕ → C → Type 0
AfterWord {A} valid text Spells t c = (a : A) × (rest : List ℕ) × (valid a ≡ true) × (t ≡ text a ++ rest) × Spells a rest c

module _ {A C : Type 0} (stop : ℕ) (read : List ℕ → Result (A × List ℕ) ℕ) (valid : A → Bool) (text : A → List ℕ) (word : ReadsWord stop read valid text) (next : A → List ℕ → Result C ℕ) (Spells : A → List ℕ → C → Type 0) (reads : (a : A) → valid a ≡ true → Reads (next a) (Spells a)) (stops : (a : A) (t : List ℕ) (c : C) → Spells a t c → ends stop t ≡ true) where
  abbrev rest_of : A × List ℕ → Result C ℕ
  rest_of x = next x.0 x.1

  -- where the first word is this one, and the rest isn't read
  after_this_most : (a : A) (rest : List ℕ) (left : ℕ) → valid a ≡ true → ends stop rest ≡ true → next a rest ≡ Err left → (a' : A) (rest' : List ℕ) (c : C) → valid a' ≡ true → Spells a' rest' c → shared (text a ++ rest) (text a' ++ rest') + left ≤ length (text a ++ rest)
  after_this_most a rest left is stop_here h a' rest' c is' spelled =
      let tail = reads a is in
      elim (words_part stop (text a) (text a') rest rest' (word.clean a is) (word.clean a' is') stop_here (stops a' rest' c spelled)) [
        | inl same ↦
            let alike : a' ≡ a = ap (λ x. x.0) (one_answer (read (text a ++ rest)) (a', rest) (a, rest) (ap (λ w. read (w ++ rest)) same ∙ word.complete a' rest is' stop_here) (word.complete a rest is stop_here)) in
            let most : shared rest rest' + left ≤ length rest = tail.most rest left h rest' c (subst (λ v. Spells v rest' c) alike spelled) in
            rw (← same) (omega (arith, shared-append (text a) rest rest', length-append (text a) rest))
        | inr less ↦
            let (t, c', s, near) = tail.reached rest left h in
            let most = tail.most rest left h t c' s in
            omega (arith, less, near, most, length-append (text a) rest)
      ]

  after_word_most : (bytes : List ℕ) (left : ℕ) → (read bytes >>= rest_of) ≡ Err left → (t : List ℕ) (c : C) → AfterWord valid text Spells t c → shared bytes t + left ≤ length bytes
  after_word_most bytes left h t c (a', rest', is', here', spelled) = rw here' (elim (chain_err (read bytes) rest_of left h) [
    | inl none ↦ word.most bytes left none a' rest' is' (stops a' rest' c spelled)
    | inr found ↦
        let parts = word.sound bytes found.0.0 found.0.1 found.1 in
        rw parts.1 (after_this_most found.0.0 found.0.1 left parts.0 parts.2 found.2 a' rest' c is' spelled)
  ])

  after_this_reached : (a : A) (rest : List ℕ) (left : ℕ) → valid a ≡ true → next a rest ≡ Err left → (t : List ℕ) × (c : C) × AfterWord valid text Spells t c × (length (text a ++ rest) ≤ shared (text a ++ rest) t + left)
  after_this_reached a rest left is h =
      let (t, c, spelled, near) = (reads a is).reached rest left h in
      (text a ++ t, c, (a, t, is, refl, spelled), omega (arith, near, shared-append (text a) rest t, length-append (text a) rest))

  after_word_reached : (bytes : List ℕ) (left : ℕ) → (read bytes >>= rest_of) ≡ Err left → (t : List ℕ) × (c : C) × AfterWord valid text Spells t c × (length bytes ≤ shared bytes t + left)
  after_word_reached bytes left h = elim (chain_err (read bytes) rest_of left h) [
    | inl none ↦
        let (a, is, near) = word.reached bytes left none in
        let (rest, c, spelled) = (reads a is).some in
        (text a ++ rest, c, (a, rest, is, refl, spelled), omega (arith, near, shared-longer bytes (text a) rest))
    | inr found ↦
        let parts = word.sound bytes found.0.0 found.0.1 found.1 in
        rw parts.1 (after_this_reached found.0.0 found.0.1 left parts.0 found.2)
  ]

  pub word_reads : Reads (λ bytes. read bytes >>= (λ x. next x.0 x.1)) (AfterWord valid text Spells)
  word_reads = record {
    sound = λ bytes c h.
        let (x, here, tail) = chain_ok (read bytes) rest_of c h in
        let parts = word.sound bytes x.0 x.1 here in
        (x.0, x.1, parts.0, parts.1, (reads x.0 parts.0).sound x.1 c tail);
    complete = λ bytes c s.
        let (a, rest, is, here, spelled) = s in
        rw here (chain_from (read (text a ++ rest)) rest_of (a, rest) c (word.complete a rest is (stops a rest c spelled)) ((reads a is).complete rest c spelled));
    most = after_word_most;
    reached = after_word_reached;
    some =
        let (a, is) = word.some in
        let (rest, c, spelled) = (reads a is).some in
        (text a ++ rest, c, (a, rest, is, refl, spelled));
  }

-- a part that reads to the end, of which something is made

module _ {B C : Type 0} (read : List ℕ → Result B ℕ) (Spells : List ℕ → B → Type 0) (reads : Reads read Spells) (make : B → C) where
  pub made_reads : Reads (λ bytes. read bytes >>= (λ b. Ok (make b))) (λ t c. (b : B) × Spells t b × (c ≡ make b))
  made_reads = record {
    sound = λ bytes c h.
        let (b, here, is) = chain_ok (read bytes) (λ b. Ok (make b)) c h in
        (b, reads.sound bytes b here, cc);
    complete = λ bytes c s. let (b, spelled, is) = s in chain_from (read bytes) (λ b. Ok (make b)) b c (reads.complete bytes b spelled) (ap Ok (sym is));
    most = λ bytes left h t c s. reads.most bytes left (made_err bytes left h) t s.0 s.1;
    reached = λ bytes left h.
        let (t, b, spelled, near) = reads.reached bytes left (made_err bytes left h) in
        (t, make b, (b, spelled, refl), near);
    some = let (t, b, spelled) = reads.some in (t, make b, (b, spelled, refl));
  }
    where
      made_err : (bytes : List ℕ) (left : ℕ) → (read bytes >>= (λ b. Ok (make b))) ≡ Err left → read bytes ≡ Err left
      made_err bytes left h = elim (chain_err (read bytes) (λ b. Ok (make b)) left h) [
        | inl none ↦ none
        | inr found ↦ let no = found.2 in cc
      ]

-- one of two languages that have no text in common

either_ok : {C : Type 0} (r q : Result C ℕ) (c : C) → either_of r q ≡ Ok c → (r ≡ Ok c) ⊎ (q ≡ Ok c)
either_ok (Ok x) q c h = inl h
either_ok (Err m) (Ok x) c h = inr h
either_ok (Err m) (Err n) c h = (cc)

either_err : {C : Type 0} (r q : Result C ℕ) (left : ℕ) → either_of r q ≡ Err left → (m n : ℕ) × (r ≡ Err m) × (q ≡ Err n) × (left ≡ min m n)
either_err (Ok x) q left h = (cc)
either_err (Err m) (Ok x) left h = (cc)
either_err (Err m) (Err n) left h = (m, n, refl, refl, cc)

either_second : {C : Type 0} (r q : Result C ℕ) (c : C) → q ≡ Ok c → ((x : C) → r ≡ Ok x → ⊥) → either_of r q ≡ Ok c
either_second (Ok x) q c h none = absurd (none x refl)
either_second (Err m) (Ok x) c h none = h
either_second (Err m) (Err n) c h none = (cc)

either_first : {C : Type 0} (r q : Result C ℕ) (c : C) → r ≡ Ok c → either_of r q ≡ Ok c
either_first (Ok x) q c h = h
either_first (Err m) q c h = (cc)

module _ {C : Type 0} (read other : List ℕ → Result C ℕ) (Spells Others : List ℕ → C → Type 0) (reads : Reads read Spells) (others : Reads other Others) (apart : (t : List ℕ) (c d : C) → Spells t c → Others t d → ⊥) where
  either_most : (bytes : List ℕ) (left : ℕ) → either_of (read bytes) (other bytes) ≡ Err left → (t : List ℕ) (c : C) → Spells t c ⊎ Others t c → shared bytes t + left ≤ length bytes
  either_most bytes left h t c spelled =
      let (m, n, first, second, is) = either_err (read bytes) (other bytes) left h in
      elim spelled [
        | inl s ↦ omega (arith, reads.most bytes m first t c s, is)
        | inr s ↦ omega (arith, others.most bytes n second t c s, is)
      ]

  either_reached : (bytes : List ℕ) (left : ℕ) → either_of (read bytes) (other bytes) ≡ Err left → (t : List ℕ) × (c : C) × (Spells t c ⊎ Others t c) × (length bytes ≤ shared bytes t + left)
  either_reached bytes left h =
      let (m, n, first, second, is) = either_err (read bytes) (other bytes) left h in
      elim (cases_lt m n) [
        | inl less ↦ let (t, c, s, near) = reads.reached bytes m first in (t, c, inl s, omega (arith, near, is, less))
        | inr more ↦ let (t, c, s, near) = others.reached bytes n second in (t, c, inr s, omega (arith, near, is, more))
      ]

  pub either_reads : Reads (λ bytes. either_of (read bytes) (other bytes)) (λ t c. Spells t c ⊎ Others t c)
  either_reads = record {
    sound = λ bytes c h. elim (either_ok (read bytes) (other bytes) c h) [
      | inl first ↦ inl (reads.sound bytes c first)
      | inr second ↦ inr (others.sound bytes c second)
    ];
    complete = λ bytes c spelled. elim spelled [
      | inl s ↦ either_first (read bytes) (other bytes) c (reads.complete bytes c s)
      | inr s ↦ either_second (read bytes) (other bytes) c (others.complete bytes c s) (λ x h. apart bytes x c (reads.sound bytes x h) s)
    ];
    most = either_most;
    reached = either_reached;
    some = let (t, c, s) = reads.some in (t, c, inl s);
  }

-- the same language in other words
pub reads-along : {C : Type 0} (read : List ℕ → Result C ℕ) (Spells Others : List ℕ → C → Type 0) → ((t : List ℕ) (c : C) → Spells t c → Others t c) → ((t : List ℕ) (c : C) → Others t c → Spells t c) → Reads read Spells → Reads read Others
reads-along read Spells Others to from reads = record {
  sound = λ bytes c h. to bytes c (reads.sound bytes c h);
  complete = λ bytes c s. reads.complete bytes c (from bytes c s);
  most = λ bytes left h t c s. reads.most bytes left h t c (from t c s);
  reached = λ bytes left h. let (t, c, s, near) = reads.reached bytes left h in (t, c, to t c s, near);
  some = let (t, c, s) = reads.some in (t, c, to t c s);
}

-- the same reader in other words
pub reads-same : {C : Type 0} (read other : List ℕ → Result C ℕ) (Spells : List ℕ → C → Type 0) → ((bytes : List ℕ) → other bytes ≡ read bytes) → Reads read Spells → Reads other Spells
reads-same read other Spells same reads = record {
  sound = λ bytes c h. reads.sound bytes c (sym (same bytes) ∙ h);
  complete = λ bytes c s. same bytes ∙ reads.complete bytes c s;
  most = λ bytes left h t c s. reads.most bytes left (sym (same bytes) ∙ h) t c s;
  reached = λ bytes left h. reads.reached bytes left (sym (same bytes) ∙ h);
  some = reads.some;
}
