-- One step of each search through a text.
use Rattle.std.proofs.Common.{ℕ, zero, suc, ◌≡◌, ◌+◌, ◌-◌, ◌≤◌, ◌<◌, Bool, true, false, List, [], ◌∷◌, Option, Some, None, drop, length, nat_eq, ◌==◌, option_map, Bor, ◌∙◌, IfSome, ap, subst, sym, arith, refl}
use Rattle.std.proofs.lemmas.Bool.Decides.{nat_tests}
use Rattle.std.proofs.lemmas.Grind.{common_steps}
use Rattle.std.specs.Str.{bytes_eq}
use Rattle.toml_parser.specs.Lexical.{first, skip_blank}
use Rattle.toml_parser.specs.Strings.{key, key_after, simple_key, starts_string}
use Rattle.pm_spans.specs.declared.keys.lookup.Path.{Path}
use Rattle.pm_spans.specs.keys.Lines.{Heading, OfHeading, OfMember, TextLine, begun, first_in, heading_at, in_heading, in_line, in_member, is_begin, line_at, text_lines, whose, whose_behind}
use Rattle.pm_spans.specs.keys.Values.{Member, Standing, behind_values, brackets_end, byte_end, comma_end, depth_behind, first_name, member_at, member_named, piece_end, string_end, value_end, within_member}

-- what a step that found nothing, and one that found something, say of what was looked for
pub came_none : {A B : Type 0} (f : A → B) (found : Option A) (place : Option B) → found ≡ None → option_map f found ≡ place → place ≡ None
came_none f found place none is = sym is ∙ ap (option_map f) none

pub came_some : {A B : Type 0} (f : A → B) (found : Option A) (place : Option B) (x : A) → found ≡ Some x → option_map f found ≡ place → place ≡ Some (f x)
came_some f found place x some is = sym is ∙ ap (option_map f) some

pub in_some : {A : Type 0} (P : A → Type 0) (found : Option A) (x : A) → found ≡ Some x → IfSome found P → P x
in_some P found x is holds = subst (λ o. IfSome o P) is holds

-- a text that is left is looked at while it has a byte
pub at_end : (n : ℕ) → true ≡ (n == 0) → n ≡ 0
at_end n is = grind (arith, nat_tests, is)

pub not_at_end : (n : ℕ) → false ≡ (n == 0) → 0 < n
not_at_end n is = grind (arith, nat_tests, is)

not_zero : (n : ℕ) → (n ≡ 0 → ⊥) → (n == 0) ≡ false
not_zero n other = grind (arith, nat_tests, other)

-- no bracket closes where no piece stands
pub no_piece : (n depth : ℕ) (s : List ℕ) → piece_end s ≡ None → brackets_end n depth s ≡ None
unfolding brackets_end
no_piece zero depth s none = refl
no_piece (suc n) depth s none = rw none refl

pub last_piece : (n depth deep b : ℕ) (s after : List ℕ) → 0 < n → piece_end s ≡ Some after → b ≡ first s → deep ≡ depth_behind depth b → deep ≡ 0 → brackets_end n depth s ≡ Some after
unfolding brackets_end
last_piece zero depth deep b s after some is byte behind closed = absurd (omega (arith, some))
last_piece (suc n) depth deep b s after some is byte behind closed =
    let none : depth_behind depth (first s) ≡ 0 = sym (behind ∙ ap (depth_behind depth) byte) ∙ closed in
    rw is (rw none refl)

pub next_piece : (n depth deep b : ℕ) (s after next : List ℕ) → 0 < n → piece_end s ≡ Some after → b ≡ first s → deep ≡ depth_behind depth b → (deep ≡ 0 → ⊥) → next ≡ skip_blank after
    → brackets_end (n - 1) deep next ≡ brackets_end n depth s
unfolding brackets_end
next_piece zero depth deep b s after next some is byte behind more blank = absurd (omega (arith, some))
next_piece (suc n) depth deep b s after next some is byte behind more blank =
    let less : suc n - 1 ≡ n = omega arith in
    let deeper : depth_behind depth (first s) ≡ deep = sym (behind ∙ ap (depth_behind depth) byte) in
    rw less (rw blank (rw is (rw deeper (rw (not_zero deep more) refl))))

pub depth_grows : (depth b : ℕ) → depth_behind depth b ≤ depth + 1
unfolding depth_behind
depth_grows depth b = grind (arith, nat_tests, common_steps)

-- none stands at the end
pub empty_piece : (s : List ℕ) → length s ≡ 0 → piece_end s ≡ None
unfolding piece_end byte_end
empty_piece [] none = refl
empty_piece (b ∷ s) none = absurd (omega (arith, none))

pub no_value : (n : ℕ) (s : List ℕ) → 0 < n → value_end s ≡ None → behind_values n s ≡ None
unfolding behind_values
no_value zero s some none = absurd (omega (arith, some))
no_value (suc n) s some none = rw none refl

pub no_comma : (n : ℕ) (s after : List ℕ) → 0 < n → value_end s ≡ Some after → comma_end after ≡ None → behind_values n s ≡ None
unfolding behind_values
no_comma zero s after some is none = absurd (omega (arith, some))
no_comma (suc n) s after some is none = rw is (rw none refl)

pub next_value : (n : ℕ) (s after next : List ℕ) → 0 < n → value_end s ≡ Some after → comma_end after ≡ Some next → behind_values (n - 1) next ≡ behind_values n s
unfolding behind_values
next_value zero s after next some is comma = absurd (omega (arith, some))
next_value (suc n) s after next some is comma = let less : suc n - 1 ≡ n = omega arith in rw less (rw is (rw comma refl))

pub all_values : (n : ℕ) (s : List ℕ) → n ≡ 0 → behind_values n s ≡ Some s
unfolding behind_values
all_values n s none = rw none refl

-- a test of a name that was read is one of the name in the text
pub named_so : (read name wanted : List ℕ) {test : Bool} → read ≡ name → test ≡ bytes_eq read wanted → bytes_eq name wanted ≡ test
named_so read name wanted is tested = ap (λ n. bytes_eq n wanted) (sym is) ∙ sym tested

-- no member stands at the end
pub empty_key : (s : List ℕ) → length s ≡ 0 → key s ≡ None
unfolding key_after simple_key
empty_key [] none = refl
empty_key (b ∷ s) none = absurd (omega (arith, none))

pub empty_member : (s : List ℕ) → length s ≡ 0 → member_at s ≡ None
unfolding member_at
empty_member s none = rw (empty_key s none) refl

pub no_member : (n : ℕ) (name : List ℕ) (element : Option ℕ) (s : List ℕ) → member_at s ≡ None → member_named n name element s ≡ None
unfolding member_named
no_member zero name element s none = refl
no_member (suc n) name element s none = rw none refl

pub this_member : (n : ℕ) (name : List ℕ) (element : Option ℕ) (s : List ℕ) (m : Member) → 0 < n → member_at s ≡ Some m → bytes_eq (first_name m.name) name ≡ true
    → member_named n name element s ≡ within_member element m
unfolding member_named
this_member zero name element s m some is same = absurd (omega (arith, some))
this_member (suc n) name element s m some is same = rw is (rw same refl)

pub last_member : (n : ℕ) (name : List ℕ) (element : Option ℕ) (s : List ℕ) (m : Member) → 0 < n → member_at s ≡ Some m → bytes_eq (first_name m.name) name ≡ false → comma_end m.rest ≡ None
    → member_named n name element s ≡ None
unfolding member_named
last_member zero name element s m some is other none = absurd (omega (arith, some))
last_member (suc n) name element s m some is other none = rw is (rw other (rw none refl))

pub next_member : (n : ℕ) (name : List ℕ) (element : Option ℕ) (s next : List ℕ) (m : Member) → 0 < n → member_at s ≡ Some m → bytes_eq (first_name m.name) name ≡ false → comma_end m.rest ≡ Some next
    → member_named (n - 1) name element next ≡ member_named n name element s
unfolding member_named
next_member zero name element s next m some is other comma = absurd (omega (arith, some))
next_member (suc n) name element s next m some is other comma = let less : suc n - 1 ≡ n = omega arith in rw less (rw is (rw other (rw comma refl)))

-- a line that isn't there, one that is what is looked for, and one that isn't
pub no_line : (path : Path) (before : List TextLine) (n : ℕ) (s : List ℕ) → line_at s ≡ None → first_in path before (text_lines n s) ≡ None
unfolding first_in text_lines
no_line path before zero s none = refl
no_line path before (suc n) s none = rw none refl

pub this_line : (path : Path) (before : List TextLine) (n : ℕ) (s rest : List ℕ) (line : TextLine) (p : Standing) → 0 < n → line_at s ≡ Some (line, rest) → in_line path before line ≡ Some p
    → first_in path before (text_lines n s) ≡ Some p
unfolding first_in text_lines
this_line path before zero s rest line p some is this = absurd (omega (arith, some))
this_line path before (suc n) s rest line p some is this = rw is (rw this refl)

pub next_line : (path : Path) (before : List TextLine) (n : ℕ) (s rest : List ℕ) (line : TextLine) → 0 < n → line_at s ≡ Some (line, rest) → in_line path before line ≡ None
    → first_in path (line ∷ before) (text_lines (n - 1) (skip_blank rest)) ≡ first_in path before (text_lines n s)
unfolding first_in text_lines
next_line path before zero s rest line some is other = absurd (omega (arith, some))
next_line path before (suc n) s rest line some is other = let less : suc n - 1 ≡ n = omega arith in rw less (rw is (rw other refl))

pub no_heading_line : (s : List ℕ) → first s ≡ 91 → heading_at s ≡ None → line_at s ≡ None
unfolding line_at
no_heading_line s bracket none = rw bracket (rw none refl)

pub heading_line : (s : List ℕ) (h : Heading) → first s ≡ 91 → heading_at s ≡ Some h → line_at s ≡ Some (OfHeading h, h.rest)
unfolding line_at
heading_line s h bracket is = rw bracket (rw is refl)

not_bracket : (b : ℕ) → (b ≡ 91 → ⊥) → (b == 91) ≡ false
not_bracket b other = grind (arith, nat_tests, other)

pub no_member_line : (s : List ℕ) → (first s ≡ 91 → ⊥) → member_at s ≡ None → line_at s ≡ None
unfolding line_at
no_member_line s other none = rw (not_bracket (first s) other) (rw none refl)

pub member_line : (s : List ℕ) (m : Member) → (first s ≡ 91 → ⊥) → member_at s ≡ Some m → line_at s ≡ Some (OfMember m, m.rest)
unfolding line_at
member_line s m other is = rw (not_bracket (first s) other) (rw is refl)

pub empty_line : (s : List ℕ) → length s ≡ 0 → line_at s ≡ None
unfolding line_at
empty_line [] none = rw (empty_member [] refl) refl
empty_line (b ∷ s) none = absurd (omega (arith, none))
