-- What is told of a token (this project's own).
use Rattle.std.specs.Prelude.{ℕ, List, ◌++◌, codes, flat_map, map}
use Rattle.std.specs.String.{string_bytes}
use Rattle.pm_messages.specs.declared.located.located.Located.{Located}
use Rattle.pm_spans.specs.source.Excerpts.{excerpt_text, hint_text}
use Rattle.pm_spans.specs.source.Lines.{place_text}
use Rattle.pm_spans.specs.source.Visible.{visible}

-- what is told of a token: its place, a word, a message, the line with the token, and lines that help
unfoldable pub token_told : List ℕ → List ℕ → ℕ → ℕ → List ℕ → List ℕ → List (List ℕ) → List ℕ
token_told file text start stop word message hints =
    place_text file text start ++ codes ": " ++ word ++ codes ": " ++ visible message ++ codes "\n" ++ excerpt_text text start stop
    ++ flat_map (hint_text text start) hints

-- a token, from a byte of the text up to another, with what is told of it
pub record Token : Type 0 where
  pub start : ℕ
  pub stop : ℕ
  pub message : List ℕ
  pub hints : List (List ℕ)

abbrev pub token_of : Located → Token
token_of located = record {
  start = located.span.start;
  stop = located.span.end;
  message = string_bytes located.message;
  hints = map string_bytes located.hints.items;
}

abbrev pub told_of : List ℕ → List ℕ → List ℕ → Token → List ℕ
told_of file text word token = token_told file text token.start token.stop word token.message token.hints
