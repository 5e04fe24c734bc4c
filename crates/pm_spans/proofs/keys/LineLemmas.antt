-- One line of the walk through a text.
use Rattle.std.proofs.Common.{ℕ, zero, suc, ◌≡◌, ◌∙◌, ◌+◌, ◌-◌, ◌≤◌, ◌<◌, Bool, true, false, List, [], ◌∷◌, Option, Some, None, Result, Ok, Err, IfOk, MatchOption, length, is_some, option_map, if◌then◌else◌, ap, arith, refl, subst, sym}
use Rattle.pm_base.specs.declared.errors.NoMemory.{NoMemory}
use Rattle.toml_parser.specs.Lexical.{first, skip_blank}
use Rattle.pm_spans.specs.declared.keys.cuts.Tokens.{Tokens}
use Rattle.pm_spans.specs.declared.keys.lookup.Before.{Before}
use Rattle.pm_spans.specs.declared.keys.lookup.Looked.{Looked}
use Rattle.pm_spans.specs.declared.keys.lookup.Path.{Path}
use Rattle.pm_spans.specs.keys.Lines.{Heading, OfHeading, OfMember, TextLine, begins_element, begun, first_in, heading_at, in_heading, in_line, in_member, is_begin, line_at, text_lines, whose, whose_behind}
use Rattle.pm_spans.specs.keys.Looking.{IsLooked, IsSaid, LooksAt, LooksAtMember}
use Rattle.pm_spans.specs.keys.Values.{Member, Standing, member_at}
use Rattle.pm_spans.specs.keys.Within.{standing, taken_for}
use Rattle.pm_spans.proofs.keys.StepLemmas.{heading_line, member_line, next_line, no_member_line, this_line}

begun_more : (path : Path) (lines : List TextLine) (h : Heading) → begun path (OfHeading h ∷ lines) ≡ (if begins_element path h then begun path lines + 1 else begun path lines)
unfolding begun is_begin
begun_more path lines h = refl

whose_more : (path : Path) (lines : List TextLine) (h : Heading) → whose path (OfHeading h ∷ lines) ≡ whose_behind path h (begun path (OfHeading h ∷ lines))
unfolding whose
whose_more path lines h = refl

in_line_heading : (path : Path) (lines : List TextLine) (h : Heading) → in_line path lines (OfHeading h) ≡ in_heading path (begun path (OfHeading h ∷ lines)) h
unfolding in_line
in_line_heading path lines h = refl

in_line_member : (path : Path) (lines : List TextLine) (m : Member) → in_line path lines (OfMember m) ≡ in_member path (whose path lines) m
unfolding in_line
in_line_member path lines m = refl

begun_same : (path : Path) (lines : List TextLine) (m : Member) → begun path (OfMember m ∷ lines) ≡ begun path lines
unfolding begun is_begin
begun_same path lines m = refl

whose_same : (path : Path) (lines : List TextLine) (m : Member) → whose path (OfMember m ∷ lines) ≡ whose path lines
unfolding whose
whose_same path lines m = refl

pub looked_heading : (path : Path) (text : List ℕ) (before : Before) (k : Looked) (h : Heading)
    → first text ≡ 91 → heading_at text ≡ Some h
    → option_map standing k.found ≡ in_heading path k.before.seen h
    → k.before.seen ≡ (if begins_element path h then before.seen + 1 else before.seen)
    → taken_for k.before.inside ≡ whose_behind path h k.before.seen
    → k.rest.now ≡ h.rest
    → (lines : List TextLine) → IsSaid path lines before → IsLooked path text lines k
looked_heading path text before k h bracket is found seen inside rest lines said =
    let count : k.before.seen ≡ begun path (OfHeading h ∷ lines) =
    seen ∙ ap (λ n. if begins_element path h then n + 1 else n) said.seen ∙ sym (begun_more path lines h) in
    record {
      line = OfHeading h;
      is_line = heading_line text h bracket is ∙ ap (λ r. Some (OfHeading h, r)) (sym rest);
      found = found ∙ ap (λ n. in_heading path n h) count ∙ sym (in_line_heading path lines h);
      said = record { seen = count; inside = inside ∙ ap (whose_behind path h) count ∙ sym (whose_more path lines h) };
    }

looked_member : (path : Path) (text : List ℕ) (before : Before) (k : Looked) → (first text ≡ 91 → ⊥) → LooksAtMember path text before k
    → (lines : List TextLine) → IsSaid path lines before → IsLooked path text lines k
looked_member path text before k other is lines said = record {
  line = OfMember is.m;
  is_line = member_line text is.m other is.is_member ∙ ap (λ r. Some (OfMember is.m, r)) (sym is.rest);
  found = is.found ∙ ap (λ w. in_member path w is.m) said.inside ∙ sym (in_line_member path lines is.m);
  said = record {
    seen = ap (λ b. b.seen) is.same ∙ said.seen ∙ sym (begun_same path lines is.m);
    inside = ap (λ b. taken_for b.inside) is.same ∙ said.inside ∙ sym (whose_same path lines is.m);
  };
}

-- nothing is said before the first line
pub nothing_said : (path : Path) (before : Before) → before.seen ≡ 0 → taken_for before.inside ≡ whose path [] → IsSaid path [] before
unfolding begun
nothing_said path before none tops = record { seen = none; inside = tops }

-- a line that has it, and one that hasn't
pub found_here : (path : Path) (text : List ℕ) (n : ℕ) (lines : List TextLine) (k : Looked) → 0 < n → IsLooked path text lines k → is_some k.found ≡ true
    → option_map standing k.found ≡ first_in path lines (text_lines n text)
found_here path text n lines k some is has = go k.found refl has
  where
    go : (o : Option Tokens) → k.found ≡ o → is_some o ≡ true → option_map standing k.found ≡ first_in path lines (text_lines n text)
    go (Some t) here there =
        let in_it : in_line path lines is.line ≡ Some (standing t) = sym is.found ∙ ap (option_map standing) here in
        ap (option_map standing) here ∙ sym (this_line path lines n text k.rest.now is.line (standing t) some is.is_line in_it)
    go None here there = absurd (clash there)
      where
        clash : false ≡ true → ⊥
        clash bad = cc bad

pub not_here : (path : Path) (text next : List ℕ) (n : ℕ) (lines : List TextLine) (k : Looked) → 0 < n → is_some k.found ≡ false → next ≡ skip_blank k.rest.now
    → (is : IsLooked path text lines k) → first_in path (is.line ∷ lines) (text_lines (n - 1) next) ≡ first_in path lines (text_lines n text)
not_here path text next n lines k some has_none blank is = go k.found refl has_none
  where
    go : (o : Option Tokens) → k.found ≡ o → is_some o ≡ false → first_in path (is.line ∷ lines) (text_lines (n - 1) next) ≡ first_in path lines (text_lines n text)
    go None here there =
        ap (λ t. first_in path (is.line ∷ lines) (text_lines (n - 1) t)) blank
        ∙ next_line path lines n text k.rest.now is.line some is.is_line (sym is.found ∙ ap (option_map standing) here)
    go (Some t) here there = absurd (clash there)
      where
        clash : true ≡ false → ⊥
        clash bad = cc bad

-- what a look at a line says, where there is one and where there is none
pub said_some : (path : Path) (text : List ℕ) (before : Before) (o : Option Looked) (k : Looked) → o ≡ Some k
    → MatchOption o (line_at text ≡ None) (λ k. (lines : List TextLine) → IsSaid path lines before → IsLooked path text lines k)
    → (lines : List TextLine) → IsSaid path lines before → IsLooked path text lines k
said_some path text before o k is says =
    subst (λ p. MatchOption p (line_at text ≡ None) (λ k. (lines : List TextLine) → IsSaid path lines before → IsLooked path text lines k)) is says

pub said_none : (path : Path) (text : List ℕ) (before : Before) (o : Option Looked) → o ≡ None
    → MatchOption o (line_at text ≡ None) (λ k. (lines : List TextLine) → IsSaid path lines before → IsLooked path text lines k)
    → line_at text ≡ None
said_none path text before o is says =
    subst (λ p. MatchOption p (line_at text ≡ None) (λ k. (lines : List TextLine) → IsSaid path lines before → IsLooked path text lines k)) is says

-- a line that is no header
pub looks_at_member : (path : Path) (text : List ℕ) (before : Before) (r : Result (Option Looked) NoMemory) → (first text ≡ 91 → ⊥)
    → IfOk r (λ o. MatchOption o (member_at text ≡ None) (λ k. LooksAtMember path text before k)) → LooksAt path text before r
looks_at_member path text before (Ok (Some k)) other says = looked_member path text before k other says
looks_at_member path text before (Ok None) other says = no_member_line text other says
looks_at_member path text before (Err e) other says = tt
