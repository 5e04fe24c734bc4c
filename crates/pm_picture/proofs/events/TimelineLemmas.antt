-- A timeline with one event more.
use Rattle.std.proofs.Common.{◌≡◌, ◌∙◌, ℕ, List, [], ◌∷◌, ◌++◌, Result, Ok, Err, OnErr, OnOk, append-nil, append_assoc, ap, subst, sym}
use Rattle.std.proofs.lemmas.List.{flat_map_more}
use Rattle.pm_picture.specs.events.Events.{Event, IsBegun, begin_text, event_text}

pub begun_more : (old new : List ℕ) (e : Event) → IsBegun old → new ≡ old ++ event_text e → IsBegun new
begun_more old new e is more = record {
  events = is.events ++ e ∷ [];
  text_is = more ∙ ap (λ l. l ++ event_text e) is.text_is ∙ flat_map_more event_text begin_text is.events e;
}

pub begun_now : (text : List ℕ) → text ≡ begin_text → IsBegun text
begun_now text is = record { events = []; text_is = is ∙ sym (append-nil begin_text) }

-- an event that was appended, or wasn't
pub begun_either : {T E : Type 0} (r : Result T E) (old new piece : List ℕ) (e : Event) → IsBegun old → piece ≡ event_text e → OnOk r (new ≡ old ++ piece) → OnErr r (new ≡ old) → IsBegun new
begun_either (Ok x) old new piece e is same more none = begun_more old new e is (more ∙ ap (λ l. old ++ l) same)
begun_either (Err x) old new piece e is same more none = subst IsBegun (sym none) is

-- a piece that was appended behind others, and the last one
pub behind : (t p q a b : List ℕ) → p ≡ t ++ a → q ≡ p ++ b → q ≡ t ++ (a ++ b)
behind t p q a b one two = two ∙ ap (λ l. l ++ b) one ∙ append_assoc t a b

pub last : {T E : Type 0} (r : Result T E) (t p q a b : List ℕ) → p ≡ t ++ a → OnOk r (q ≡ p ++ b) → OnOk r (q ≡ t ++ (a ++ b))
last (Ok x) t p q a b one two = behind t p q a b one two
last (Err e) t p q a b one two = tt
