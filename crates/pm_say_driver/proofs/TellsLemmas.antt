-- What is told, put together.
use Rattle.std.proofs.Common.{◌≡◌, ◌∙◌, ◌≤◌, ℕ, true, false, List, [], ◌∷◌, ◌++◌, All, IfOk, Result, Ok, Err, Vec, Global, ap, codes, flat_map, length, map, refl, sym}
use Rattle.std.proofs.lemmas.List.{length-map}
use Rattle.std.proofs.lemmas.List.Elements.{All-map, All-weaker}
use Rattle.std.proofs.lemmas.List.Folds.{flat_map-map}
use Rattle.pm_base.specs.declared.errors.NoMemory.{NoMemory}
use Rattle.pm_driver_read.specs.Drivers.{contents_in, driver_of}
use Rattle.pm_driver_read.specs.declared.driver.Driver.{Driver}
use Rattle.pm_driver_read.specs.declared.refusal.DriverRefusal.{DriverRefusal}
use Rattle.pm_messages.specs.located.Told.{token_of, told_of}
use Rattle.pm_messages.specs.declared.located.located.Located.{Located}
use Rattle.pm_say.specs.Faults.{IsIn}
use Rattle.pm_say.specs.Says.{Says}
use Rattle.pm_say.specs.declared.told.Said.{Said}
use Rattle.pm_say_driver.specs.Refused.{TellsDriver, refused_told, refusal_line}
use Rattle.pm_say_driver.specs.Told.{SaysFile, TellsOwn, TellsRefusal, kind_told, warned_told, of_driver, of_other, of_plan, of_refusal}

-- a token that is within the text stands in it
token_in : (text : List ℕ) (located : Located) → located.span.end ≤ length text → IsIn text (token_of located)
token_in text located within = record { ordered = located.span.ordered; within = within }

tokens_in : (text : List ℕ) (all : List Located) → All (λ located. located.span.end ≤ length text) all → All (IsIn text) (map token_of all)
tokens_in text all within =
    All-map (IsIn text) token_of all
    (All-weaker (λ located. located.span.end ≤ length text) (λ located. IsIn text (token_of located)) (token_in text) all within)

pub tells_refusal : (file text : List ℕ) (r : DriverRefusal) (located : Located) (others seen : List Located) (work : Result (Vec ℕ Global) NoMemory) → located.span.end ≤ length text
    → All (λ located. located.span.end ≤ length text) others → length others ≤ 19 → seen ≡ others
    → IfOk work (λ told. told.items ≡ refused_told file text r located seen) → IfOk work (λ told. TellsDriver file text r told.items)
tells_refusal file text r located others seen (Ok told) within all few same is =
    record {
      token = token_of located;
      token_in = token_in text located within;
      others = map token_of others;
      others_in = tokens_in text others all;
      few = rw (length-map others token_of) few;
      is = rw (flat_map-map (told_of file text (codes "error")) token_of others) (is ∙ ap (refused_told file text r located) same);
    }
tells_refusal file text r located others seen (Err e) within all few same is = tt

same_kind : (all : List Located) → kind_told (map token_of all) ≡ kind_told all
same_kind [] = refl
same_kind (x ∷ more) = refl

pub tells_own : (file text : List ℕ) (all seen : List Located) (counts : List ℕ) (said : Said) → seen ≡ all → All (λ located. located.span.end ≤ length text) all → length all ≤ 100
    → said.kind ≡ kind_told seen → said.text.items ≡ warned_told file text seen counts → TellsOwn file text said
tells_own file text all seen counts said same within few kind is = record {
  warned = map token_of all;
  warned_in = tokens_in text all within;
  few = rw (length-map all token_of) few;
  kind = kind ∙ ap kind_told same ∙ sym (same_kind all);
  counts = counts;
  is = rw (flat_map-map (told_of file text (codes "warning")) token_of all) (is ∙ ap (λ (l : List Located). warned_told file text l counts) same);
}

pub says_refusal : (file text : List ℕ) (r : DriverRefusal) (told : Result Said NoMemory) → driver_of text ≡ Err r → IfOk told (TellsRefusal file text r) → IfOk told (SaysFile file text)
says_refusal file text r (Ok said) is tells = of_refusal r is tells
says_refusal file text r (Err e) is tells = tt

pub says_own : (file text : List ℕ) (d : Driver) (told : Result Said NoMemory) → driver_of text ≡ Ok (contents_in d) → d.is_plan ≡ false
    → IfOk told (TellsOwn file text) → IfOk told (SaysFile file text)
says_own file text d (Ok said) is own tells = of_driver (contents_in d) is own tells
says_own file text d (Err e) is own tells = tt

pub says_plan : (file text : List ℕ) (d : Driver) (told : Result Said NoMemory) → driver_of text ≡ Ok (contents_in d) → d.is_plan ≡ true
    → IfOk told (Says file text) → IfOk told (SaysFile file text)
says_plan file text d (Ok said) is own says = of_plan (contents_in d) is own says
says_plan file text d (Err e) is own says = tt

pub says_other : (file text : List ℕ) (r : DriverRefusal) (told : Result Said NoMemory) → driver_of text ≡ Err r → IfOk told (Says file text) → IfOk told (SaysFile file text)
says_other file text r (Ok said) is says = of_other r is says
says_other file text r (Err e) is says = tt
