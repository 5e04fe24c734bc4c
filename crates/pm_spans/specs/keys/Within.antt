-- Tokens that stand in a text (this project's own).
use Rattle.std.specs.Prelude.{◌≡◌, ◌⊎◌, ℕ, ◌<◌, ◌≤◌, List, Option, IfSome, Result, IfOk, length, option_map}
use Rattle.std.specs.Borrow.{Bor}
use Rattle.pm_base.specs.declared.errors.NoMemory.{NoMemory}
use Rattle.pm_spans.specs.declared.keys.cuts.Cut.{Cut}
use Rattle.toml_parser.specs.Lexical.{Read}
use Rattle.toml_parser.specs.Reading.{key_view}
use Rattle.toml_parser.specs.Strings.{Key}
use Rattle.pm_spans.specs.declared.keys.cuts.Tokens.{Tokens}
use Rattle.pm_spans.specs.declared.keys.headers.Header.{Header}
use Rattle.pm_spans.specs.declared.keys.pairs.KeyRead.{KeyRead}
use Rattle.pm_spans.specs.declared.keys.pairs.Pair.{Pair}
use Rattle.pm_spans.specs.declared.keys.lookup.Inside.{Inside}
use Rattle.pm_spans.specs.declared.keys.lookup.Inside.TheVariants as inside
use Rattle.pm_spans.specs.keys.Lines.{Heading, Others, TheElements, TheTops, Whose}
use Rattle.pm_spans.specs.keys.Values.{Member, Standing}

-- what is told from the end of a text lies in the text
abbrev pub IsIn : List ℕ → Tokens → Type 0
IsIn text tokens = (tokens.key.from ≤ length text) × (tokens.value.from ≤ length text)

-- the tokens are those of a key and of what is in its value, or both are in its value
abbrev pub IsOf : Cut → List ℕ → Tokens → Type 0
IsOf key value tokens = ((tokens.key ≡ key) ⊎ (tokens.key.from ≤ length value)) × (tokens.value.from ≤ length value)

-- what was found, if anything, lies in the text
abbrev pub FindsIn : List ℕ → Result (Option Tokens) NoMemory → Type 0
FindsIn text r = IfOk r (λ found. IfSome found (IsIn text))

-- what is left of the text, if it was read, is shorter
abbrev pub LeavesLess : List ℕ → Result (Option (Bor (List ℕ))) NoMemory → Type 0
LeavesLess text r = IfOk r (λ left. IfSome left (λ rest. length rest.now < length text))

-- a place of the text, if there is one, with what follows it
abbrev pub StandsIn : List ℕ → Result (Option (Bor (List ℕ))) NoMemory → Type 0
StandsIn text r = IfOk r (λ at. IfSome at (λ rest. length rest.now ≤ length text))

-- what was read, if memory didn't run out, is this place of the text, or there is none
abbrev pub Comes : Result (Option (Bor (List ℕ))) NoMemory → Option (List ℕ) → Type 0
Comes r place = IfOk r (λ left. option_map (λ rest. rest.now) left ≡ place)

-- where tokens stand
abbrev pub standing : Tokens → Standing
standing tokens = (tokens.key.from, tokens.value.from, tokens.value.to)

-- what was found, if memory didn't run out, stands there, or nothing was found
abbrev pub Finds : Result (Option Tokens) NoMemory → Option Standing → Type 0
Finds r place = IfOk r (λ found. option_map standing found ≡ place)

-- a key, a member and a header that were read
abbrev pub read_key : KeyRead → Key × List ℕ
read_key k = (key_view k.key, k.rest.now)

abbrev pub read_member : Pair → Member
read_member p = record { name = key_view p.key; from = p.cut.from; value = p.value.now; rest = p.rest.now }

abbrev pub read_heading : Header → Heading
read_heading h = record { name = key_view h.key; is_array = h.is_array; from = h.whole.from; key_from = h.cut.from; rest = h.rest.now }

abbrev pub ComesKey : Result (Option KeyRead) NoMemory → Read Key → Type 0
ComesKey r read = IfOk r (λ found. option_map read_key found ≡ read)

abbrev pub ComesMember : Result (Option Pair) NoMemory → Option Member → Type 0
ComesMember r read = IfOk r (λ found. option_map read_member found ≡ read)

abbrev pub ComesHeading : Result (Option Header) NoMemory → Option Heading → Type 0
ComesHeading r read = IfOk r (λ found. option_map read_heading found ≡ read)

-- whose keys the walk through a text takes the next lines to say
abbrev pub taken_for : Inside → Whose
taken_for inside.Top = TheTops
taken_for inside.Wanted = TheElements
taken_for inside.Other = Others
