-- The lines of expectations that fail, one after the other.
use Rattle.std.proofs.Common.{ℕ, ◌≡◌, ◌+◌, ◌<◌, ◌≤◌, ◌++◌, All, List, [], ◌∷◌, get_or, length, length-append, take, ap, sym, ◌∙◌, arith}
use Rattle.std.proofs.lemmas.List.Elements.{All-push, All-same}
use Rattle.std.specs.List.{flat_map, zip}
use Rattle.std.proofs.lemmas.List.{flat_map_more, take_all, take_more}
use Rattle.std.proofs.lemmas.Slice.Zip.{get_or-zip, length-zip}
use Rattle.pm_expect.specs.text.Texts.{failed_line}
use Rattle.pm_expect.specs.declared.text.items.Item.{Item}
use Rattle.pm_expect_report.specs.trace.Plain.{IsLineOf, failed_lines}

-- the line of an expectation with a place
abbrev pub line_of : List ℕ → List ℕ → ℕ × Item → List ℕ
line_of file trace p = failed_line file trace p.0 p.1.name p.1.outcome

-- one more
pub lines_more : (file trace : List ℕ) (places : List ℕ) (items : List Item) (n : ℕ) (x : Item) (begin old new : List ℕ) → n < length places → n < length items → x ≡ get_or items n x
    → old ≡ begin ++ flat_map (line_of file trace) (take n (zip places items))
    → new ≡ old ++ failed_line file trace (get_or places n 0) x.name x.outcome
    → new ≡ begin ++ flat_map (line_of file trace) (take (n + 1) (zip places items))
lines_more file trace places items n x begin old new in_places in_items at was is =
    let f : ℕ × Item → List ℕ = line_of file trace in
    let pairs : List (ℕ × Item) = zip places items in
    let here : ℕ × Item = (get_or places n 0, x) in
    let there : here ≡ get_or pairs n (0, x) = ap (λ (y : Item). (get_or places n 0, y)) at ∙ sym (get_or-zip places items n (0, x) in_places in_items) in
    is ∙ ap (λ l. l ++ f here) was ∙ flat_map_more f begin (take n pairs) here
    ∙ ap (λ (y : ℕ × Item). begin ++ flat_map f (take n pairs ++ y ∷ [])) there
    ∙ ap (λ (xs : List (ℕ × Item)). begin ++ flat_map f xs) (sym (take_more pairs n (0, x) (omega (arith, length-zip places items, in_places, in_items))))

-- a place more
pub entries_more : (old new : List ℕ) (n line : ℕ) → length old ≡ n → new ≡ old ++ line ∷ [] → length new ≡ n + 1
entries_more old new n line same is = ap length is ∙ length-append old (line ∷ []) ∙ ap (λ k. k + 1) same

pub places_more : (bytes old new : List ℕ) (line : ℕ) → All (IsLineOf bytes) old → IsLineOf bytes line → new ≡ old ++ line ∷ [] → All (IsLineOf bytes) new
places_more bytes old new line all one is = All-same (IsLineOf bytes) new (old ++ line ∷ []) is (All-push (IsLineOf bytes) old line all one)

-- all of them
pub lines_all : (file trace : List ℕ) (places : List ℕ) (items : List Item) (n : ℕ) (begin new : List ℕ) → length places ≡ length items → length items ≤ n
    → new ≡ begin ++ flat_map (line_of file trace) (take n (zip places items)) → new ≡ begin ++ failed_lines file trace places items
lines_all file trace places items n begin new same all is =
    is ∙ ap (λ (xs : List (ℕ × Item)). begin ++ flat_map (line_of file trace) xs) (take_all n (zip places items) (omega (arith, length-zip places items, same, all)))
