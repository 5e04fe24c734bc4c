-- What is kept of all devices and callers, line by line.
use Rattle.std.proofs.Common.{ℕ, zero, suc, ◌≡◌, ◌+◌, ◌-◌, ◌<◌, ◌≤◌, Bool, true, false, ◌&&◌, ◌||◌, List, [], ◌∷◌, ◌++◌, Option, Some, None, get_or, length, nat_eq, nat_le, replicate, set, if◌then◌else◌, ap, refl, sym, subst, ◌∙◌, arith}
use Rattle.std.specs.Option.{option_map_or}
use Rattle.std.proofs.lemmas.Bool.{eq-eqb, eqb-false, eqb-true, leb-false, leb-true, lt-leb}
use Rattle.std.proofs.lemmas.List.{get_or-append_right, get_or-replicate, get_or-set_other, get_or-set_same, get_or_append_left, length-replicate, length-set, length_push}
use Rattle.pm_base.specs.declared.ActorId.{ActorId}
use Rattle.pm_base.specs.declared.ActorId.TheVariants.{Caller, Work, Timer}
use Rattle.pm_base.specs.declared.DevId.{DevId}
use Rattle.pm_model.specs.declared.event.Event.{Event}
use Rattle.pm_model.specs.declared.event.Line.{Line}
use Rattle.pm_model.specs.Counted.{is_same}
use Rattle.pm_model.specs.History.{History}
use Rattle.pm_model.specs.Promises.{is_actor}
use Rattle.pm_find.specs.declared.findings.watched.Called.{Called}
use Rattle.pm_find.specs.declared.findings.watched.Count.{Count}
use Rattle.pm_find.specs.findings.Kept.{AreCalled, AreKnown, Known, known, known_after, row_at, unknown}
use Rattle.pm_find.specs.findings.OpenCounts.{device_of, gives, is_given, open_counts}
use Rattle.pm_find.specs.findings.Said.{call_by, call_of, called_after}
use Rattle.pm_find.specs.findings.WatchTable.{AreGiven, IsTable, Table, called_at, calls_after, counts_in, given_after, given_at, rows_after, table_after}
use Rattle.pm_find.proofs.findings.KnownLemmas.{known_other, known_own}

-- behind a list and one more element there is none
pushed : (given : List Bool) (m : ℕ) → length given ≤ m → get_or (given ++ false ∷ []) m false ≡ false
pushed given m past = get_or-append_right given (false ∷ []) (length given) m false refl past ∙ last (m - length given)
  where
    last : (k : ℕ) → get_or (false ∷ []) k false ≡ false
    last zero = refl
    last (suc k) = refl

pub same_device : (d e : DevId) → nat_eq d.0 e.0 ≡ true → d ≡ e
same_device d e same = ap (λ n. let x : DevId = record { 0 = n } in x) (eqb-true d.0 e.0 same)

-- one line more in the rows
known_more : (n : ℕ) (called : Option Called) (line : Line) (h : History) (rows : List Known) (d : DevId) → called ≡ call_by h line.actor → d.0 < n → AreKnown n h rows
    → (let of : DevId = device_of line.event in of.0 < n)
    → row_at (rows_after (length h + 1) called line rows) d ≡ known (line ∷ h) d
known_more n called line h rows d by within known_rows inside = go (device_of line.event) refl (is_same d (device_of line.event)) refl
  where
    inside_of : (of : DevId) → device_of line.event ≡ of → of.0 < n
    inside_of of is = subst (λ (x : DevId). x.0 < n) is inside

    go : (of : DevId) → device_of line.event ≡ of → (b : Bool) → is_same d of ≡ b
        → get_or (set rows of.0 (known_after line.actor (length h + 1) called line.event (row_at rows of))) d.0 unknown ≡ known (line ∷ h) d
    go of is true same =
        let one : of ≡ d = same_device of d same in
        let own : is_same of (device_of line.event) ≡ true = ap (λ (x : DevId). nat_eq x.0 of.0) is ∙ eq-eqb of.0 of.0 refl in
        ap (λ k. get_or (set rows of.0 (known_after line.actor (length h + 1) called line.event (row_at rows of))) k unknown) (sym (eqb-true of.0 d.0 same))
        ∙ get_or-set_same rows of.0 (known_after line.actor (length h + 1) called line.event (row_at rows of)) unknown (omega (arith, known_rows.entries, inside_of of is))
        ∙ ap (known_after line.actor (length h + 1) called line.event) (known_rows.each of (inside_of of is))
        ∙ ap (λ c. known_after line.actor (length h + 1) c line.event (known h of)) by
        ∙ sym (known_own line h of own)
        ∙ ap (λ x. known (line ∷ h) x) one
    go of is false other =
        get_or-set_other rows of.0 d.0 (known_after line.actor (length h + 1) called line.event (row_at rows of)) unknown (λ e. eqb-false of.0 d.0 other (sym e))
        ∙ known_rows.each d within
        ∙ sym (known_other line h d (ap (λ x. is_same d x) is ∙ other))

pub rows_step : (n : ℕ) (called : Option Called) (line : Line) (h : History) (rows : List Known) → called ≡ call_by h line.actor → (let of : DevId = device_of line.event in of.0 < n)
    → AreKnown n h rows → AreKnown n (line ∷ h) (rows_after (length h + 1) called line rows)
rows_step n called line h rows by inside known_rows = record {
  entries = length-set rows (let of : DevId = device_of line.event in of.0) (known_after line.actor (length h + 1) called line.event (row_at rows (device_of line.event))) ∙ known_rows.entries;
  each = λ d within. known_more n called line h rows d by within known_rows inside;
}

-- one line more in the last calls
call_more : (calls : List (Option Called)) (c : ℕ) (before : Option Called) (actor : ActorId) (n time : ℕ) (e : Event) → c < length calls → get_or calls c None ≡ before
    → get_or (calls_after actor n time e calls) c None ≡ (if is_actor (Caller c) actor then called_after n time e before else before)
call_more calls c before (Work d) n time e within was = was
call_more calls c before (Timer d) n time e within was = was
call_more calls c before (Caller k) n time e within was = go (nat_eq c k) refl
  where
    go : (b : Bool) → nat_eq c k ≡ b → get_or (set calls k (called_after n time e (get_or calls k None))) c None ≡ (if b then called_after n time e before else before)
    go true same =
        ap (λ m. get_or (set calls m (called_after n time e (get_or calls m None))) c None) (sym (eqb-true c k same))
        ∙ get_or-set_same calls c (called_after n time e (get_or calls c None)) None within ∙ ap (called_after n time e) was
    go false other = get_or-set_other calls k c (called_after n time e (get_or calls k None)) None (eqb-false c k other) ∙ was

calls_kept : (actor : ActorId) (n time : ℕ) (e : Event) (calls : List (Option Called)) → length (calls_after actor n time e calls) ≡ length calls
calls_kept (Work d) n time e calls = refl
calls_kept (Timer d) n time e calls = refl
calls_kept (Caller k) n time e calls = length-set calls k (called_after n time e (get_or calls k None))

calls_step : (n : ℕ) (line : Line) (h : History) (calls : List (Option Called)) → AreCalled n h calls
    → AreCalled n (line ∷ h) (calls_after line.actor (length h + 1) line.time line.event calls)
calls_step n line h calls called = record {
  entries = calls_kept line.actor (length h + 1) line.time line.event calls ∙ called.entries;
  each = λ c within. call_more calls c (call_of h c) line.actor (length h + 1) line.time line.event (omega (arith, called.entries)) (called.each c within);
}

off : (b w : Bool) → (b && false) || w ≡ w
off true w = refl
off false w = refl

-- no later line has been given back
pub beyond : (h : History) (m : ℕ) → length h < m → is_given h m ≡ false
beyond [] m past = refl
beyond (line ∷ h) m past =
    ap (λ b. (b && option_map_or (nat_eq m) (gives (open_counts h (device_of line.event)) (call_by h line.actor) line.actor line.event) false) || is_given h m)
    (lt-leb m (length h) (omega arith)) ∙ beyond h m (omega arith)

-- one line more in what has been given back
given_more : (o : Option ℕ) (n : ℕ) (given : List Bool) (m : ℕ) (was : Bool) → length given ≡ n + 1 → given_at given m ≡ was → (n < m → was ≡ false)
    → given_at (given_after o given) m ≡ ((nat_le m n && option_map_or (nat_eq m) o false) || was)
given_more None n given m was entries is past = go (nat_le m n) refl
  where
    go : (b : Bool) → nat_le m n ≡ b → get_or (given ++ false ∷ []) m false ≡ ((b && false) || was)
    go true e = get_or_append_left given (false ∷ []) false m (omega (arith, leb-true m n e)) ∙ is ∙ sym (off true was)
    go false e = pushed given m (omega (arith, leb-false m n e)) ∙ sym (past (leb-false m n e))
given_more (Some k) n given m was entries is past = go (nat_le m n) refl
  where
    own : (b : Bool) → nat_eq m k ≡ b → m ≤ n → get_or (set given k true) m false ≡ (b || was)
    own true e inside = ap (λ x. get_or (set given x true) m false) (sym (eqb-true m k e)) ∙ get_or-set_same given m true false (omega arith)
    own false e inside = get_or-set_other given k m true false (eqb-false m k e) ∙ is

    go : (b : Bool) → nat_le m n ≡ b → get_or (set given k true ++ false ∷ []) m false ≡ ((b && nat_eq m k) || was)
    go true e = get_or_append_left (set given k true) (false ∷ []) false m (omega (arith, leb-true m n e, length-set given k true)) ∙ own (nat_eq m k) refl (leb-true m n e)
    go false e = pushed (set given k true) m (omega (arith, leb-false m n e, length-set given k true)) ∙ sym (past (leb-false m n e))

given_entries : (o : Option ℕ) (given : List Bool) → length (given_after o given) ≡ length given + 1
given_entries None given = length_push given false
given_entries (Some k) given = length_push (set given k true) false ∙ ap (λ n. n + 1) (length-set given k true)

given_step : (line : Line) (h : History) (counts : List Count) (called : Option Called) (given : List Bool) → counts ≡ open_counts h (device_of line.event) → called ≡ call_by h line.actor
    → AreGiven h given → AreGiven (line ∷ h) (given_after (gives counts called line.actor line.event) given)
given_step line h counts called given counted by was = record {
  entries = omega (arith, given_entries (gives counts called line.actor line.event) given, was.entries);
  each = λ m.
      ap (λ o. given_at (given_after o given) m) (gives_is)
      ∙ given_more (gives (open_counts h (device_of line.event)) (call_by h line.actor) line.actor line.event) (length h) given m (is_given h m) was.entries (was.each m) (beyond h m);
}
  where
    gives_is : gives counts called line.actor line.event ≡ gives (open_counts h (device_of line.event)) (call_by h line.actor) line.actor line.event
    gives_is = ap (λ x. gives x called line.actor line.event) counted ∙ ap (λ c. gives (open_counts h (device_of line.event)) c line.actor line.event) by

pub table_step : (devices callers : ℕ) (line : Line) (h : History) (t : Table) → called_at t.calls line.actor ≡ call_by h line.actor → (let of : DevId = device_of line.event in of.0 < devices)
    → IsTable devices callers h t → IsTable devices callers (line ∷ h) (table_after (length h + 1) line t)
table_step devices callers line h t by inside is = record {
  known = rows_step devices (called_at t.calls line.actor) line h t.rows by inside is.known;
  called = calls_step callers line h t.calls is.called;
  given = given_step line h (counts_in t (device_of line.event)) (called_at t.calls line.actor) t.given (ap (λ (x : Known). x.counts) (is.known.each (device_of line.event) inside)) by is.given;
}

-- before any line
pub table_start : (devices callers : ℕ) → IsTable devices callers [] (record { rows = replicate devices unknown; calls = replicate callers None; given = false ∷ [] })
table_start devices callers = record {
  known = record {
    entries = length-replicate devices unknown;
    each = λ d within. get_or-replicate devices d.0 unknown unknown within;
  };
  called = record {
    entries = length-replicate callers None;
    each = λ c within. get_or-replicate callers c None None within;
  };
  given = record {
    entries = refl;
    each = none;
  };
}
  where
    none : (m : ℕ) → given_at (false ∷ []) m ≡ is_given [] m
    none zero = refl
    none (suc m) = refl
