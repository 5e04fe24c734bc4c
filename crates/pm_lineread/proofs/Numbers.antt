-- Numbers in a base: no other text is one, and a text that goes on as one is one.
use Rattle.std.proofs.Common.{◌≡◌, ℕ, ◌+◌, ◌-◌, ◌*◌, ◌/◌, ◌%◌, ◌^◌, ◌<◌, ◌≤◌, zero, suc, Bool, true, false, ◌&&◌, List, [], ◌∷◌, ◌++◌, length, nat_eq, nat_le, nat_lt, Result, Ok, Err, refl, ap, sym, subst, ◌∙◌, ◌⊎◌, inl, inr, arith, decimal, length-append, append_assoc}
use Rattle.std.specs.Fmt.{digit_glyph, digits}
use Rattle.std.proofs.Math.Nat.{mul-le-mul_left}
use Rattle.std.proofs.lemmas.Bool.{and_from, and_parts, cases_Bool, cases_eq, cases_lt, eq-eqb, ltb-true, leb-true, lt-ltb, le-leb, ne_eqb}
use Rattle.std.proofs.lemmas.Bool.Decides.{nat_tests}
use Rattle.std.proofs.lemmas.Fmt.{decimal_digit, decimal_step, hex_one_digit, hex_two_digits}
use Rattle.std.proofs.lemmas.Grind.{common_steps}
use Rattle.std.proofs.lemmas.List.Folds.{list_all-append}
use Rattle.std.proofs.lemmas.Nat.{div-add-mod', le-div, mod_below}
use Rattle.pm_lineread.specs.Pieces.{closed, digit_starts, digit_value, ends, goes_on, longer_at, number_at}
use Rattle.pm_lineread.proofs.Readers.{ReadsWord, answer_parts}
use Rattle.pm_lineread.proofs.Shared.{clean_front, is_clean, shared, shared_front, shared_itself, words_alike}

-- the digits of each number up to the limit, in one base
pub record IsNumeral (base limit : ℕ) (text : ℕ → List ℕ) : Type 0 where
  pub low : 2 ≤ base
  pub high : base ≤ 16
  pub one : (d : ℕ) → d < base → text d ≡ digit_glyph false d ∷ []
  pub more : (n d : ℕ) → 0 < n → d < base → n * base + d ≤ limit → text (n * base + d) ≡ text n ++ digit_glyph false d ∷ []

pub decimal_is_numeral : IsNumeral 10 (2 ^ 64 - 1) decimal
decimal_is_numeral = record {
  low = omega arith;
  high = omega arith;
  one = λ d small. decimal_digit d small ∙ grind (arith, nat_tests);
  more = λ n d some small fits. decimal_more n d some small fits;
}
  where
    decimal_more : (n d : ℕ) → 0 < n → d < 10 → n * 10 + d ≤ 2 ^ 64 - 1 → decimal (n * 10 + d) ≡ decimal n ++ digit_glyph false d ∷ []
    decimal_more n d some small fits =
        let front : (n * 10 + d) / 10 ≡ n = omega arith in
        let last : (n * 10 + d) % 10 ≡ d = omega arith in
        let glyph : 48 + d ≡ digit_glyph false d = grind (arith, nat_tests) in
        decimal_step (n * 10 + d) (omega arith) (omega arith) ∙ rw (front, last) (ap (λ g. decimal n ++ g ∷ []) glyph)

pub hex_is_numeral : IsNumeral 16 255 (digits 16 false)
hex_is_numeral = record {
  low = omega arith;
  high = omega arith;
  one = λ d small. hex_one_digit false d small;
  more = λ n d some small fits. hex_more n d some small fits;
}
  where
    hex_more : (n d : ℕ) → 0 < n → d < 16 → n * 16 + d ≤ 255 → digits 16 false (n * 16 + d) ≡ digits 16 false n ++ digit_glyph false d ∷ []
    hex_more n d some small fits =
        let front : (n * 16 + d) / 16 ≡ n = omega arith in
        let last : (n * 16 + d) % 16 ≡ d = omega arith in
        hex_two_digits false (n * 16 + d) (omega arith) (omega arith) ∙ rw (front, last, hex_one_digit false n (omega arith)) refl

-- digits

pub value_of_glyph : (d : ℕ) → d < 16 → digit_value (digit_glyph false d) ≡ d
unfolding digit_value
value_of_glyph d small = grind (arith, nat_tests)

pub glyph_of_value : (b : ℕ) → digit_value b < 16 → digit_glyph false (digit_value b) ≡ b
unfolding digit_value
glyph_of_value b small = grind (arith, nat_tests)

glyph_high : (d : ℕ) → 48 ≤ digit_glyph false d
glyph_high d = grind (arith, nat_tests)

-- the last item of a list

ends_as : (q : List ℕ) → (q ≡ []) ⊎ ((front : List ℕ) × (g : ℕ) × (q ≡ front ++ g ∷ []))
ends_as [] = inl refl
ends_as (b ∷ q) = elim (ends_as q) [
  | inl none ↦ inr ([], b, ap (λ r. b ∷ r) none)
  | inr some ↦ inr (b ∷ some.0, some.1, ap (λ r. b ∷ r) some.2)
]

last_alike : (x y : List ℕ) (a b : ℕ) → x ++ a ∷ [] ≡ y ++ b ∷ [] → (x ≡ y) × (a ≡ b)
last_alike [] [] a b h = (refl, cc)
last_alike [] (d ∷ []) a b h = (cc)
last_alike [] (d ∷ e ∷ y) a b h = (cc)
last_alike (c ∷ []) [] a b h = (cc)
last_alike (c ∷ d ∷ x) [] a b h = (cc)
last_alike (c ∷ x) (d ∷ y) a b h = let (rest, last) = last_alike x y a b (cc) in (cc, last)

front_is : (x : List ℕ) (b : ℕ) (r y : List ℕ) → 0 < length x → x ++ r ≡ b ∷ y → (q : List ℕ) × (x ≡ b ∷ q)
front_is [] b r y h same = absurd (omega arith)
front_is (c ∷ q) b r y h same = (q, cc)

module _ (base limit : ℕ) (text : ℕ → List ℕ) (is : IsNumeral base limit text) where
  -- a number is one digit, or digits and one more
  parts_of : (n : ℕ) → (n < base) ⊎ ((front : ℕ) × (d : ℕ) × (0 < front) × (d < base) × (n ≡ front * base + d) × (front < n))
  parts_of n = elim (cases_lt n base) [
    | inl small ↦ inl small
    | inr large ↦
        let some : 0 < n / base = le-div 1 n base (omega (arith, is.low)) (omega arith) in
        let whole : n / base * base + n % base ≡ n = div-add-mod' n base in
        let twice : n / base * 2 ≤ n / base * base = mul-le-mul_left (n / base) is.low in
        inr (n / base, n % base, some, mod_below n base (omega (arith, is.low)), sym whole, omega arith)
  ]

  -- what holds of one digit and of one digit more holds of all
  by_digits : (P : ℕ → Type 0) → ((d : ℕ) → d < base → P d) → ((n d : ℕ) → 0 < n → d < base → n * base + d ≤ limit → n < n * base + d → P n → P (n * base + d)) → (k n : ℕ) → n ≤ k → n ≤ limit → P n
  by_digits P one more zero n fuel fits = one n (omega (arith, is.low))
  by_digits P one more (suc k) n fuel fits = elim (parts_of n) [
    | inl small ↦ one n small
    | inr parts ↦
        let (front, d, some, small, whole, less) = parts in
        subst P (sym whole) (more front d some small (omega arith) (omega arith) (by_digits P one more k front (omega arith) (omega arith)))
  ]

  abbrev HasDigits : ℕ → Type 0
  HasDigits n = 0 < length (text n)

  has_digits : (n : ℕ) → n ≤ limit → HasDigits n
  has_digits n fits = by_digits HasDigits (λ d small. rw (is.one d small) (omega arith)) (λ m d some small in_limit less h. rw (is.more m d some small in_limit) (omega (arith, length-append (text m) (digit_glyph false d ∷ [])))) n n (omega arith) fits

  -- the first digit of a number is no larger than the number, and 0 only where it is 0
  abbrev FirstDigit : ℕ → Type 0
  FirstDigit n = (b : ℕ) (q : List ℕ) → text n ≡ b ∷ q → (digit_value b < base) × (digit_value b ≤ n) × (0 < n → 0 < digit_value b)

  first_one : (d : ℕ) → d < base → FirstDigit d
  first_one d small b q h =
      let glyph : digit_glyph false d ≡ b = cc (is.one d small) in
      let value : digit_value b ≡ d = sym (ap digit_value glyph) ∙ value_of_glyph d (omega (arith, is.high)) in
      (omega arith, omega arith, λ some. omega arith)

  first_more : (n d : ℕ) → 0 < n → d < base → n * base + d ≤ limit → n < n * base + d → FirstDigit n → FirstDigit (n * base + d)
  first_more n d some small fits less first b q h = elim (ends_as q) [
    | inl none ↦
        let alone : text n ++ digit_glyph false d ∷ [] ≡ b ∷ [] = sym (is.more n d some small fits) ∙ (h ∙ ap (λ r. b ∷ r) none) in
        let empty : length (text n) + 1 ≡ 1 = sym (length-append (text n) (digit_glyph false d ∷ [])) ∙ ap length alone in
        absurd (omega (arith, has_digits n (omega arith), empty))
    | inr ending ↦
        let (front, g, there) = ending in
        let both : text n ++ digit_glyph false d ∷ [] ≡ (b ∷ front) ++ g ∷ [] = sym (is.more n d some small fits) ∙ (h ∙ ap (λ r. b ∷ r) there) in
        let (same, _) = last_alike (text n) (b ∷ front) (digit_glyph false d) g both in
        let (value, below, above) = first b front same in
        (value, omega arith, λ _. above some)
  ]

  first_digit : (n : ℕ) → n ≤ limit → FirstDigit n
  first_digit n fits = by_digits FirstDigit first_one first_more n n (omega arith) fits

  -- which is no sign and no space
  pub first_high : (n b : ℕ) (r y : List ℕ) → n ≤ limit → text n ++ r ≡ b ∷ y → 48 ≤ b
  first_high n b r y fits same =
      let (q, there) = front_is (text n) b r y (has_digits n fits) same in
      let (small, _, _) = first_digit n fits b q there in
      let high : 48 ≤ digit_glyph false (digit_value b) = glyph_high (digit_value b) in
      omega (arith, high, glyph_of_value b (omega (arith, is.high)))

  -- two numbers have one text only where they are equal
  abbrev OneText : ℕ → Type 0
  OneText m = (n : ℕ) → n ≤ limit → text m ≡ text n → m ≡ n

  text_of_one : (d : ℕ) → d < base → OneText d
  text_of_one d small n fits same = elim (parts_of n) [
    | inl low ↦
        let glyphs : digit_glyph false d ≡ digit_glyph false n = cc (is.one d small, is.one n low) in
        sym (value_of_glyph d (omega (arith, is.high))) ∙ (ap digit_value glyphs ∙ value_of_glyph n (omega (arith, is.high)))
    | inr parts ↦
        let (front, e, some, low, whole, less) = parts in
        let long : text d ≡ text front ++ digit_glyph false e ∷ [] = same ∙ (ap text whole ∙ is.more front e some low (omega arith)) in
        let lengths : 1 ≡ length (text front) + 1 = sym (ap length (is.one d small)) ∙ (ap length long ∙ length-append (text front) (digit_glyph false e ∷ [])) in
        absurd (omega (arith, has_digits front (omega arith), lengths))
  ]

  text_of_more : (m d : ℕ) → 0 < m → d < base → m * base + d ≤ limit → m < m * base + d → OneText m → OneText (m * base + d)
  text_of_more m d some small fits less one n in_limit same = elim (parts_of n) [
    | inl low ↦
        let long : text n ≡ text m ++ digit_glyph false d ∷ [] = sym same ∙ is.more m d some small fits in
        let lengths : 1 ≡ length (text m) + 1 = sym (ap length (is.one n low)) ∙ (ap length long ∙ length-append (text m) (digit_glyph false d ∷ [])) in
        absurd (omega (arith, has_digits m (omega arith), lengths))
    | inr parts ↦
        let (front, e, some', low, whole, less') = parts in
        let both : text m ++ digit_glyph false d ∷ [] ≡ text front ++ digit_glyph false e ∷ [] = sym (is.more m d some small fits) ∙ (same ∙ (ap text whole ∙ is.more front e some' low (omega arith))) in
        let (fronts, lasts) = last_alike (text m) (text front) (digit_glyph false d) (digit_glyph false e) both in
        let alike : m ≡ front = one front (omega arith) fronts in
        let digit : d ≡ e = sym (value_of_glyph d (omega (arith, is.high))) ∙ (ap digit_value lasts ∙ value_of_glyph e (omega (arith, is.high))) in
        sym (rw whole (rw (alike, digit) refl))
  ]

  pub one_text : (m n : ℕ) → m ≤ limit → n ≤ limit → text m ≡ text n → m ≡ n
  one_text m n m_fits n_fits same = by_digits OneText text_of_one text_of_more m m (omega arith) m_fits n n_fits same

  -- a number whose text begins with the digits of another and a byte goes on with that digit
  abbrev GoesOn : ℕ → Type 0
  GoesOn n = (v b : ℕ) (q : List ℕ) → v ≤ limit → text n ≡ text v ++ b ∷ q → (0 < v) × (digit_value b < base) × (v * base + digit_value b ≤ n)

  goes_on_one : (d : ℕ) → d < base → GoesOn d
  goes_on_one d small v b q v_fits h =
      let lengths : 1 ≡ length (text v) + suc (length q) = sym (ap length (is.one d small)) ∙ (ap length h ∙ length-append (text v) (b ∷ q)) in
      absurd (omega (arith, has_digits v v_fits, lengths))

  goes_on_more : (n d : ℕ) → 0 < n → d < base → n * base + d ≤ limit → n < n * base + d → GoesOn n → GoesOn (n * base + d)
  goes_on_more n d some small fits less front v b q v_fits h = elim (ends_as q) [
    | inl none ↦
        let both : text n ++ digit_glyph false d ∷ [] ≡ text v ++ b ∷ [] = sym (is.more n d some small fits) ∙ (h ∙ ap (λ r. text v ++ b ∷ r) none) in
        let (fronts, lasts) = last_alike (text n) (text v) (digit_glyph false d) b both in
        let alike : n ≡ v = one_text n v (omega arith) v_fits fronts in
        let value : digit_value b ≡ d = sym (ap digit_value lasts) ∙ value_of_glyph d (omega (arith, is.high)) in
        let products : v * base ≡ n * base = ap (λ m. m * base) (sym alike) in
        (omega arith, omega arith, omega (arith, products, value))
    | inr ending ↦
        let (start, g, there) = ending in
        let regrouped : text v ++ b ∷ (start ++ g ∷ []) ≡ (text v ++ b ∷ start) ++ g ∷ [] = sym (append_assoc (text v) (b ∷ start) (g ∷ [])) in
        let both : text n ++ digit_glyph false d ∷ [] ≡ (text v ++ b ∷ start) ++ g ∷ [] = sym (is.more n d some small fits) ∙ (h ∙ (ap (λ r. text v ++ b ∷ r) there ∙ regrouped)) in
        let (fronts, _) = last_alike (text n) (text v ++ b ∷ start) (digit_glyph false d) g both in
        let (positive, digit, below) = front v b start v_fits fronts in
        (positive, digit, omega arith)
  ]

  goes_on_lem : (n : ℕ) → n ≤ limit → GoesOn n
  goes_on_lem n fits = by_digits GoesOn goes_on_one goes_on_more n n (omega arith) fits

  -- reading

  module _ (least most stop : ℕ) (least_low : least ≤ 1) (in_order : least ≤ most) (in_limit : most ≤ limit) (stop_low : stop < 48) where
    abbrev IsClean : ℕ → Type 0
    IsClean n = is_clean stop (text n) ≡ true

    glyph_clean : (d : ℕ) → is_clean stop (digit_glyph false d ∷ []) ≡ true
    glyph_clean d = let high = glyph_high d in grind (arith, nat_tests, common_steps)

    clean_text : (n : ℕ) → n ≤ limit → is_clean stop (text n) ≡ true
    clean_text n fits =
        by_digits IsClean (λ d small. rw (is.one d small) (glyph_clean d)) (λ m d some small within less h. rw (is.more m d some small within) (list_all-append _ (text m) (digit_glyph false d ∷ []) ∙ and_from _ _ h (glyph_clean d))) n n (omega arith) fits

    -- what it says that a number goes on
    goes_on_parts : (n d : ℕ) → goes_on base most n d ≡ true → (0 < n) × (d < base) × (n * base + d ≤ most)
    goes_on_parts n d holds =
        let (first, fits) = and_parts (nat_lt 0 n && nat_lt d base) (nat_le (n * base + d) most) holds in
        let (some, small) = and_parts (nat_lt 0 n) (nat_lt d base) first in
        (ltb-true 0 n some, ltb-true d base small, leb-true (n * base + d) most fits)

    longer_step : (n b : ℕ) (bytes : List ℕ) → goes_on base most n (digit_value b) ≡ true → text n ++ b ∷ bytes ≡ text (n * base + digit_value b) ++ bytes
    longer_step n b bytes holds =
        let (some, small, fits) = goes_on_parts n (digit_value b) holds in
        let whole : text (n * base + digit_value b) ≡ text n ++ b ∷ [] = is.more n (digit_value b) some small (omega arith) ∙ ap (λ g. text n ++ g ∷ []) (glyph_of_value b (omega (arith, is.high))) in
        rw whole (sym (append_assoc (text n) (b ∷ []) bytes))

    grows : (n d : ℕ) → goes_on base most n d ≡ true → n ≤ n * base + d
    grows n d holds =
        let twice : n * 2 ≤ n * base = mul-le-mul_left n is.low in
        omega arith

    -- the digits that are read, and what is left
    longer_text : (n : ℕ) (bytes : List ℕ) → n ≤ most → (text n ++ bytes ≡ text (longer_at base most n bytes).0 ++ (longer_at base most n bytes).1) × ((longer_at base most n bytes).0 ≤ most) × (n ≤ (longer_at base most n bytes).0)
    longer_text n [] fits = (refl, fits, omega arith)
    longer_text n (b ∷ bytes) fits = elim (cases_Bool (goes_on base most n (digit_value b))) [
      | inl holds ↦
          let next : n * base + digit_value b ≤ most = (goes_on_parts n (digit_value b) holds).2 in
          let (same, small, above) = longer_text (n * base + digit_value b) bytes next in
          rw holds (longer_step n b bytes holds ∙ same, small, omega (arith, above, grows n (digit_value b) holds))
      | inr fails ↦ rw fails (refl, fits, omega arith)
    ]

    longer_len : (n : ℕ) (bytes : List ℕ) → length (longer_at base most n bytes).1 ≤ length bytes
    longer_len n [] = omega arith
    longer_len n (b ∷ bytes) = elim (cases_Bool (goes_on base most n (digit_value b))) [
      | inl holds ↦ rw holds (omega (arith, longer_len (n * base + digit_value b) bytes))
      | inr fails ↦ rw fails (omega arith)
    ]

    -- a byte that isn't the stop, behind the digits of a number and within the text of another, goes on
    does_go_on : (m n b : ℕ) (y r : List ℕ) → m ≤ most → n ≤ most → ends stop r ≡ true → nat_eq b stop ≡ false → text m ++ r ≡ text n ++ b ∷ y → goes_on base most n (digit_value b) ≡ true
    does_go_on m n b y r m_fits n_fits stops other same =
        let clean : is_clean stop (text n ++ b ∷ []) ≡ true = list_all-append _ (text n) (b ∷ []) ∙ and_from _ _ (clean_text n (omega arith)) (grind (arith, nat_tests)) in
        let regrouped : (text n ++ b ∷ []) ++ y ≡ text m ++ r = append_assoc (text n) (b ∷ []) y ∙ sym same in
        let (q, front) = clean_front stop (text n ++ b ∷ []) y (text m) r clean stops regrouped in
        let (some, small, fits) = goes_on_lem m (omega arith) n b q (omega arith) (front ∙ append_assoc (text n) (b ∷ []) q) in
        and_from _ _ (and_from _ _ (lt-ltb 0 n some) (lt-ltb (digit_value b) base small)) (le-leb (n * base + digit_value b) most (omega arith))

    -- what is read is the most that the bytes have in common with a number
    longer_most : (n : ℕ) (bytes : List ℕ) → n ≤ most → ends stop (longer_at base most n bytes).1 ≡ false → (m : ℕ) (r y : List ℕ) → m ≤ most → ends stop r ≡ true → text m ++ r ≡ text n ++ y → shared bytes y + length (longer_at base most n bytes).1 ≤ length bytes
    longer_most n [] fits unread m r y m_fits stops same = (cc)
    longer_most n (b ∷ bytes) fits unread m r [] m_fits stops same = omega (arith, longer_len n (b ∷ bytes))
    longer_most n (b ∷ bytes) fits unread m r (c ∷ y) m_fits stops same = elim (cases_eq b c) [
      | inl alike ↦ elim (cases_Bool (goes_on base most n (digit_value b))) [
        | inl holds ↦
            let next : n * base + digit_value b ≤ most = (goes_on_parts n (digit_value b) holds).2 in
            let still : ends stop (longer_at base most (n * base + digit_value b) bytes).1 ≡ false = rw holds at unread in
            let there : text m ++ r ≡ text (n * base + digit_value b) ++ y = same ∙ (ap (λ g. text n ++ g ∷ y) (sym alike) ∙ longer_step n b y holds) in
            let rest : shared bytes y + length (longer_at base most (n * base + digit_value b) bytes).1 ≤ length bytes = longer_most (n * base + digit_value b) bytes next still m r y m_fits stops there in
            let equal : nat_eq b c ≡ true = eq-eqb b c alike in
            rw (holds, equal) (omega arith)
        | inr fails ↦
            let other : nat_eq b stop ≡ false = rw fails at unread in
            let holds = does_go_on m n b y r m_fits fits stops other (same ∙ ap (λ g. text n ++ g ∷ y) (sym alike)) in
            absurd (cc (holds, fails))
      ]
      | inr differ ↦
          let unequal : nat_eq b c ≡ false = ne_eqb b c differ in
          rw unequal (omega (arith, longer_len n (b ∷ bytes)))
    ]

    abbrev IsInRange : ℕ → Bool
    IsInRange n = nat_le least n && nat_le n most

    range_parts : (n : ℕ) → IsInRange n ≡ true → (least ≤ n) × (n ≤ most)
    range_parts n h = let (low, high) = and_parts (nat_le least n) (nat_le n most) h in (leb-true least n low, leb-true n most high)

    in_range : (n : ℕ) → least ≤ n → n ≤ most → IsInRange n ≡ true
    in_range n low high = and_from _ _ (le-leb least n low) (le-leb n most high)

    starts_parts : (d : ℕ) → digit_starts base least most d ≡ true → (d < base) × (least ≤ d) × (d ≤ most)
    starts_parts d holds =
        let (first, high) = and_parts (nat_lt d base && nat_le least d) (nat_le d most) holds in
        let (small, low) = and_parts (nat_lt d base) (nat_le least d) first in
        (ltb-true d base small, leb-true least d low, leb-true d most high)

    -- the first byte of a number in the range starts one
    does_start : (m b : ℕ) (y r : List ℕ) → IsInRange m ≡ true → text m ++ r ≡ b ∷ y → digit_starts base least most (digit_value b) ≡ true
    does_start m b y r range same =
        let (low, high) = range_parts m range in
        let (q, there) = front_is (text m) b r y (has_digits m (omega arith)) same in
        let (small, below, above) = first_digit m (omega arith) b q there in
        let digit : least ≤ digit_value b = elim (cases_lt 0 m) [ inl some ↦ omega (arith, above some) | inr none ↦ omega arith ] in
        and_from _ _ (and_from _ _ (lt-ltb (digit_value b) base small) (le-leb least (digit_value b) digit)) (le-leb (digit_value b) most (omega arith))

    first_text : (b : ℕ) (bytes : List ℕ) → digit_starts base least most (digit_value b) ≡ true → b ∷ bytes ≡ text (digit_value b) ++ bytes
    first_text b bytes holds =
        let (small, _, _) = starts_parts (digit_value b) holds in
        rw (is.one (digit_value b) small, glyph_of_value b (omega (arith, is.high))) refl

    closed_cases : (n : ℕ) (rest : List ℕ) (r : Result (ℕ × List ℕ) ℕ) → closed stop n rest ≡ r → ((ends stop rest ≡ true) × (r ≡ Ok (n, rest))) ⊎ ((ends stop rest ≡ false) × (r ≡ Err (length rest)))
    closed_cases n rest r h = elim (cases_Bool (ends stop rest)) [
      | inl holds ↦ inl (holds, sym h ∙ rw holds refl)
      | inr fails ↦ inr (fails, sym h ∙ rw fails refl)
    ]

    abbrev read : List ℕ → Result (ℕ × List ℕ) ℕ
    read bytes = number_at base least most stop bytes

    abbrev Read : List ℕ → ℕ → List ℕ → Type 0
    Read bytes n rest = (IsInRange n ≡ true) × (bytes ≡ text n ++ rest) × (ends stop rest ≡ true)

    number_sound : (bytes : List ℕ) (n : ℕ) (rest : List ℕ) → read bytes ≡ Ok (n, rest) → Read bytes n rest
    unfolding number_at
    number_sound [] n rest h = (cc)
    number_sound (b ∷ bytes) n rest h = elim (cases_Bool (digit_starts base least most (digit_value b))) [
      | inl holds ↦
          let (small, low, high) = starts_parts (digit_value b) holds in
          let (same, fits, above) = longer_text (digit_value b) bytes high in
          let answer : closed stop (longer_at base most (digit_value b) bytes).0 (longer_at base most (digit_value b) bytes).1 ≡ Ok (n, rest) = rw holds at h in
          elim (closed_cases _ _ _ answer) [
            | inl found ↦
                let (stops, is_it) = found in
                let (number, tail) = answer_parts n _ rest _ _ refl is_it in
                rw (number, tail) (in_range _ (omega arith) fits, first_text b bytes holds ∙ same, stops)
            | inr found ↦ let (_, is_it) = found in cc
          ]
      | inr fails ↦ let answer = rw fails at h in cc
    ]

    -- where it fails, it stopped at a byte that is no stop, or the first starts no number
    Failed : ℕ → List ℕ → ℕ → Type 0
    Failed b bytes left = ((digit_starts base least most (digit_value b) ≡ false) × (left ≡ length (b ∷ bytes)))
        ⊎ ((digit_starts base least most (digit_value b) ≡ true) × (ends stop (longer_at base most (digit_value b) bytes).1 ≡ false) × (left ≡ length (longer_at base most (digit_value b) bytes).1))

    number_failed : (b : ℕ) (bytes : List ℕ) (left : ℕ) → read (b ∷ bytes) ≡ Err left → Failed b bytes left
    unfolding number_at Failed
    number_failed b bytes left h = elim (cases_Bool (digit_starts base least most (digit_value b))) [
      | inl holds ↦
          let answer : closed stop (longer_at base most (digit_value b) bytes).0 (longer_at base most (digit_value b) bytes).1 ≡ Err left = rw holds at h in
          elim (closed_cases _ _ _ answer) [
            | inl found ↦ let (_, is_it) = found in cc
            | inr found ↦ let (unread, is_it) = found in inr (holds, unread, cc)
          ]
      | inr fails ↦ let answer = rw fails at h in inl (fails, cc)
    ]

    number_most : (bytes : List ℕ) (left : ℕ) → read bytes ≡ Err left → (m : ℕ) (r : List ℕ) → IsInRange m ≡ true → ends stop r ≡ true → shared bytes (text m ++ r) + left ≤ length bytes
    unfolding number_at Failed
    number_most [] left h m r range stops = let none : left ≡ 0 = cc in omega arith
    number_most (b ∷ bytes) left h m r range stops = by_first (text m ++ r) refl
      where
        by_first : (t : List ℕ) → text m ++ r ≡ t → shared (b ∷ bytes) t + left ≤ length (b ∷ bytes)
        by_first [] same = elim (number_failed b bytes left h) [
          | inl none ↦ omega (arith, none.1)
          | inr some ↦ omega (arith, some.2, longer_len (digit_value b) bytes)
        ]
        by_first (c ∷ y) same = elim (cases_eq b c) [
          | inl alike ↦
              let there : text m ++ r ≡ b ∷ y = same ∙ ap (λ g. g ∷ y) (sym alike) in
              let starts = does_start m b y r range there in
              let equal : nat_eq b c ≡ true = eq-eqb b c alike in
              elim (number_failed b bytes left h) [
                | inl none ↦ let fails = none.0 in absurd (cc (starts, fails))
                | inr some ↦
                    let (holds, unread, is_it) = some in
                    let (small, low, high) = starts_parts (digit_value b) holds in
                    let (m_low, m_high) = range_parts m range in
                    let rest = longer_most (digit_value b) bytes high unread m r y m_high stops (there ∙ first_text b y holds) in
                    rw equal (omega (arith, rest, is_it))
              ]
          | inr differ ↦
              let unequal : nat_eq b c ≡ false = ne_eqb b c differ in
              elim (number_failed b bytes left h) [
                | inl none ↦ rw unequal (omega (arith, none.1))
                | inr some ↦ rw unequal (omega (arith, some.2, longer_len (digit_value b) bytes))
              ]
        ]

    number_reached : (bytes : List ℕ) (left : ℕ) → read bytes ≡ Err left → (n : ℕ) × (IsInRange n ≡ true) × (length bytes ≤ shared bytes (text n) + left)
    unfolding Failed
    number_reached [] left h = (least, in_range least (omega arith) in_order, omega arith)
    number_reached (b ∷ bytes) left h = elim (number_failed b bytes left h) [
      | inl none ↦ (least, in_range least (omega arith) in_order, omega (arith, none.1))
      | inr some ↦
          let (holds, unread, is_it) = some in
          let (small, low, high) = starts_parts (digit_value b) holds in
          let (same, fits, above) = longer_text (digit_value b) bytes high in
          let n : ℕ = (longer_at base most (digit_value b) bytes).0 in
          let rest : List ℕ = (longer_at base most (digit_value b) bytes).1 in
          (n, in_range n (omega arith) fits, whole_text b bytes n rest left (first_text b bytes holds ∙ same) is_it)
    ]
      where
        whole_text : (b : ℕ) (bytes : List ℕ) (n : ℕ) (rest : List ℕ) (left : ℕ) → b ∷ bytes ≡ text n ++ rest → left ≡ length rest → length (b ∷ bytes) ≤ shared (b ∷ bytes) (text n) + left
        whole_text b bytes n rest left same is_it =
            omega (arith, is_it, ap length same, ap (λ t. shared t (text n)) same, length-append (text n) rest, shared_front (text n) rest)

    some_left : (rest : List ℕ) → ends stop rest ≡ false → length rest ≤ 0 → ⊥
    some_left [] unread none = cc
    some_left (b ∷ rest) unread none = omega arith

    -- it fails at no number with a stop behind it
    number_missing : (m : ℕ) (r : List ℕ) (left : ℕ) → IsInRange m ≡ true → ends stop r ≡ true → read (text m ++ r) ≡ Err left → ⊥
    unfolding Failed
    number_missing m r left range stops h = by_first (text m ++ r) refl h
      where
        by_first : (t : List ℕ) → text m ++ r ≡ t → read t ≡ Err left → ⊥
        by_first [] same h =
            let (low, high) = range_parts m range in
            omega (arith, has_digits m (omega arith), length-append (text m) r, ap length same)
        by_first (b ∷ y) same h = elim (number_failed b y left h) [
          | inl none ↦
              let starts = does_start m b y r range same in
              let fails = none.0 in
              cc (starts, fails)
          | inr some ↦
              let (holds, unread, is_it) = some in
              let (small, low, high) = starts_parts (digit_value b) holds in
              let (m_low, m_high) = range_parts m range in
              let rest = longer_most (digit_value b) y high unread m r y m_high stops (same ∙ first_text b y holds) in
              some_left _ unread (omega (arith, rest, shared_itself y))
        ]

    number_complete : (n : ℕ) (rest : List ℕ) → IsInRange n ≡ true → ends stop rest ≡ true → read (text n ++ rest) ≡ Ok (n, rest)
    number_complete n rest range stops = by_answer (read (text n ++ rest)) refl
      where
        by_answer : (r : Result (ℕ × List ℕ) ℕ) → read (text n ++ rest) ≡ r → r ≡ Ok (n, rest)
        by_answer (Err left) h = absurd (number_missing n rest left range stops h)
        by_answer (Ok x) h =
            let (m_range, same, m_stops) = number_sound (text n ++ rest) x.0 x.1 h in
            let (m_low, m_high) = range_parts x.0 m_range in
            let (n_low, n_high) = range_parts n range in
            let (texts, rests) = words_alike stop (text n) (text x.0) rest x.1 (clean_text n (omega arith)) (clean_text x.0 (omega arith)) stops m_stops same in
            let alike = one_text n x.0 (omega arith) (omega arith) texts in
            rw (alike, rests) refl

    pub number_reads : ReadsWord stop (number_at base least most stop) IsInRange text
    number_reads = record {
      clean = λ n range. let (low, high) = range_parts n range in clean_text n (omega arith);
      sound = number_sound;
      complete = number_complete;
      most = number_most;
      reached = number_reached;
      some = (least, in_range least (omega arith) in_order);
    }
