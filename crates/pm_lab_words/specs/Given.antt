-- What the words behind a command's word give: those that are positional, in order, and the options (this project's own).
use Rattle.std.specs.Prelude.{ℕ, Bool, true, false, List, [], ◌∷◌, ◌++◌, Option, Some, None, ◌&&◌, is_none, length, nat_lt, option_and_then, if◌then◌else◌}
use Rattle.pm_cmd_ends.specs.Words.{is_option, is_separator}
use Rattle.pm_lab_words.specs.declared.names.Command.{Command}
use Rattle.pm_lab_words.specs.declared.names.Name.{Name}
use Rattle.pm_lab_words.specs.Numbers.{code_in}
use Rattle.pm_lab_words.specs.Options.{Options, Valued, has_value, joined, may_be_given, name_of, none_given, with_one}

-- what was given so far; the option whose value comes next, if one does; whether -- was given, behind which each word is positional
pub record Given : Type 0 where
  pub plain : List (List ℕ)
  pub options : Options
  pub waiting : Option Name
  pub behind : Bool

abbrev pub nothing_given : Given
nothing_given = record { plain = []; options = none_given; waiting = None; behind = false }

-- a positional word more: no command has more than six
abbrev pub with_plain : Given → List ℕ → Option Given
with_plain given word = if nat_lt (length given.plain) 6 then Some (record given { plain = given.plain ++ word ∷ [] }) else None

-- an option with its value
abbrev pub with_value : Given → List ℕ → Name → Option Given
with_value given value name = Some (record given { options = with_one given.options name value; waiting = None })

-- an option without one, or one whose value comes next
abbrev pub with_name : Given → Name → Option Given
with_name given name = if has_value name then Some (record given { waiting = Some name }) else with_value given [] name

-- where the command takes the option, and it wasn't given before
abbrev pub if_free : Command → Given → Name → Option Given → Option Given
if_free c given name then_given = if may_be_given c given.options name then then_given else None

-- a word that is an option
abbrev pub with_joined : Command → Given → Option Valued → Option Given
with_joined c given None = None
with_joined c given (Some v) = if_free c given v.name (with_value given v.value v.name)

abbrev pub with_option : Command → Given → List ℕ → Option Name → Option Given
with_option c given word (Some name) = if_free c given name (with_name given name)
with_option c given word None = with_joined c given (joined word)

-- a word more, where no option waits for its value: a negative number is no option
abbrev pub with_free_word : Command → Given → List ℕ → Option Given
with_free_word c given word =
    if given.behind then with_plain given word
    else if is_separator word then Some (record given { behind = true })
    else if is_option word && is_none (code_in word) then with_option c given word (name_of word)
    else with_plain given word

abbrev pub with_word_for : Command → Given → List ℕ → Option Name → Option Given
with_word_for c given word (Some name) = with_value given word name
with_word_for c given word None = with_free_word c given word

abbrev pub with_word : Command → Given → List ℕ → Option Given
with_word c given word = with_word_for c given word given.waiting

-- all words, unless the last is an option that lacks its value
abbrev pub ended : Option Name → Given → Option Given
ended None given = Some given
ended (Some name) given = None

abbrev pub goes_on : Command → Given → List (List ℕ) → Option Given
goes_on c given [] = ended given.waiting given
goes_on c given (word ∷ words) = option_and_then (λ more. goes_on c more words) (with_word c given word)

abbrev pub given_by : Command → List (List ℕ) → Option Given
given_by c words = goes_on c nothing_given words
