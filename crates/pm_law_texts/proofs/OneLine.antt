-- No line's text has a newline in it.
use Rattle.std.proofs.Common.{ℕ, ◌≡◌, ◌+◌, ◌%◌, ◌/◌, zero, suc, Bool, true, false, not, List, [], ◌∷◌, ◌++◌, map, length, ℤ, pos, negsuc, nat_eq, nat_lt, nat_abs, codes, slice_index_or, if◌then◌else◌, refl, ◌∙◌, arith}
use Rattle.std.specs.Fmt.{digits, digits_onto, digit_glyph, signed_decimal}
use Rattle.std.specs.List.{list_all}
use Rattle.std.specs.Ordering.{int_eq}
use Rattle.std.proofs.lemmas.Bool.{and_parts, and_from}
use Rattle.std.proofs.lemmas.Bool.Decides.{nat_tests}
use Rattle.std.proofs.lemmas.Grind.{common_steps}
use Rattle.std.proofs.lemmas.List.Folds.{list_all-append}
use Rattle.pm_base.specs.declared.ActorId.{ActorId}
use Rattle.pm_base.specs.declared.ActorId.TheVariants.{Caller, Work, Timer}
use Rattle.pm_base.specs.declared.Cb.{Cb}
use Rattle.pm_base.specs.declared.Cb.TheVariants as cb
use Rattle.pm_base.specs.declared.DevId.{DevId}
use Rattle.pm_base.specs.declared.Req.{Req}
use Rattle.pm_base.specs.declared.Req.TheVariants as req
use Rattle.pm_base.specs.declared.Why.{Why}
use Rattle.pm_base.specs.declared.Why.TheVariants as why
use Rattle.pm_model.specs.IsPlan.{each_at, is_caller, is_device, is_name_byte, is_name_of, is_plain_byte, is_plan}
use Rattle.pm_model.specs.Spelling.{Names, actor_text, bit, caller_name, cb_word, device_name, device_part, event_text, helper_word, kind_word, line_text, operand_part, padded, payload, req_word, space, status_word, takes_device, timer_text, why_text, work_text}
use Rattle.pm_model.specs.Text.{names_of}
use Rattle.pm_model.specs.declared.event.Event.{Event}
use Rattle.pm_model.specs.declared.event.Event.TheVariants as event
use Rattle.pm_model.specs.declared.event.Fields.{Fields}
use Rattle.pm_model.specs.declared.event.Helper.{Helper}
use Rattle.pm_model.specs.declared.event.Helper.TheVariants as helper
use Rattle.pm_model.specs.declared.event.Line.{Line}
use Rattle.pm_model.specs.declared.event.Operand.{Operand}
use Rattle.pm_model.specs.declared.event.Operand.TheVariants as operand
use Rattle.pm_model.specs.declared.event.TimerAct.{TimerAct}
use Rattle.pm_model.specs.declared.event.TimerAct.TheVariants as timer
use Rattle.pm_model.specs.declared.event.Word.{Word}
use Rattle.pm_model.specs.declared.event.Word.TheVariants as word
use Rattle.pm_model.specs.declared.event.WorkAct.{WorkAct}
use Rattle.pm_model.specs.declared.event.WorkAct.TheVariants as work
use Rattle.pm_model.specs.declared.plan.Plan.{Plan}
use Rattle.pm_model.specs.declared.rows.CallerRow.{CallerRow}
use Rattle.pm_model.specs.declared.rows.DeviceRow.{DeviceRow}
use Rattle.pm_model.specs.declared.rows.DomainRow.{DomainRow}
use Rattle.pm_model.specs.declared.rows.LinkRow.{LinkRow}
use Rattle.pm_model.specs.NoWhy.{is_within_line}

-- a byte that is no newline
abbrev pub is_inside : ℕ → Bool
is_inside b = not (nat_eq b 10)

cat : (x y : List ℕ) → is_within_line x ≡ true → is_within_line y ≡ true → is_within_line (x ++ y) ≡ true
cat x y p q = list_all-append is_inside x y ∙ and_from (is_within_line x) (is_within_line y) p q

either : (b : Bool) (x y : List ℕ) → is_within_line x ≡ true → is_within_line y ≡ true → is_within_line (if b then x else y) ≡ true
either true x y p q = p
either false x y p q = q

-- numbers
glyph_inside : (d : ℕ) → is_inside (digit_glyph false d) ≡ true
glyph_inside d = go (nat_lt d 10) refl
  where
    go : (b : Bool) → nat_lt d 10 ≡ b → is_inside (if nat_lt d 10 then 48 + d else 87 + d) ≡ true
    go true e = let l : nat_eq (48 + d) 10 ≡ false = grind (arith, nat_tests) in rw (e, l) refl
    go false e = let l : nat_eq (87 + d) 10 ≡ false = grind (arith, nat_tests) in rw (e, l) refl

onto_clean : (k base n : ℕ) (acc : List ℕ) → is_within_line acc ≡ true → is_within_line (digits_onto k base false n acc) ≡ true
onto_clean zero base n acc p = p
onto_clean (suc k) base n acc p =
    let q : is_within_line (digit_glyph false (n % base) ∷ acc) ≡ true = and_from _ _ (glyph_inside (n % base)) p in
    either (nat_eq (n / base) 0) (digit_glyph false (n % base) ∷ acc) (digits_onto k base false (n / base) (digit_glyph false (n % base) ∷ acc)) q
    (onto_clean k base (n / base) (digit_glyph false (n % base) ∷ acc) q)

pub digits_clean : (base n : ℕ) → is_within_line (digits base false n) ≡ true
unfolding digits
digits_clean base n = onto_clean 64 base n [] refl

signed_clean : (n : ℤ) → is_within_line (signed_decimal n) ≡ true
signed_clean (pos n) = digits_clean 10 n
signed_clean (negsuc n) = digits_clean 10 (suc n)

padded_clean : (bytes : List ℕ) → is_within_line bytes ≡ true → is_within_line (padded bytes) ≡ true
padded_clean bytes p = either (nat_lt (length bytes) 2) (bytes ++ space) bytes (cat bytes space p refl) p

bit_clean : (b : Bool) → is_within_line (bit b) ≡ true
bit_clean true = refl
bit_clean false = refl

-- words
kind_clean : (b : Bool) → is_within_line (kind_word b) ≡ true
kind_clean true = refl
kind_clean false = refl

helper_clean : (h : Helper) → is_within_line (helper_word h) ≡ true
helper_clean helper.GetSync = refl
helper_clean _ = refl

cb_clean : (k : Cb) → is_within_line (cb_word k) ≡ true
cb_clean cb.Idle = refl
cb_clean _ = refl

req_clean : (r : Req) → is_within_line (req_word r) ≡ true
req_clean req.Nothing = refl
req_clean _ = refl

status_clean : (w : Word) → is_within_line (status_word w) ≡ true
status_clean word.Active = refl
status_clean _ = refl

-- names
pub record CleanNames (names : Names) : Type 0 where
  pub devices : (d : ℕ) → is_within_line (device_name names d) ≡ true
  pub callers : (c : ℕ) → is_within_line (caller_name names c) ≡ true

inside : (is_byte : ℕ → Bool) → is_byte 10 ≡ false → (b : ℕ) → is_byte b ≡ true → is_inside b ≡ true
inside is_byte none b is = go (nat_eq b 10) refl
  where
    go : (x : Bool) → nat_eq b 10 ≡ x → not x ≡ true
    go true e = let same : b ≡ 10 = grind (arith, nat_tests) in absurd (cc (is, none, same))
    go false e = refl

bytes_clean : (is_byte : ℕ → Bool) → is_byte 10 ≡ false → (bytes : List ℕ) → list_all is_byte bytes ≡ true → is_within_line bytes ≡ true
bytes_clean is_byte none [] all = refl
bytes_clean is_byte none (b ∷ bytes) all =
    let p = and_parts (is_byte b) (list_all is_byte bytes) all in
    and_from _ _ (inside is_byte none b p.0) (bytes_clean is_byte none bytes p.1)

name_clean : (is_byte : ℕ → Bool) → is_byte 10 ≡ false → (name : List ℕ) → is_name_of is_byte name ≡ true → is_within_line name ≡ true
name_clean is_byte none name is = bytes_clean is_byte none name (and_parts _ (list_all is_byte name) is).1

device_is : (domains i : ℕ) (row : DeviceRow) → is_device domains i row ≡ true → is_name_of is_name_byte row.name ≡ true
device_is domains i row h = grind (arith, common_steps)

caller_is : (devices : ℕ) (row : CallerRow) → is_caller devices row ≡ true → is_name_of is_plain_byte row.name ≡ true
caller_is devices row h = grind (arith, common_steps)

devices_clean : (domains i : ℕ) (rows : List DeviceRow) → each_at (is_device domains) i rows ≡ true → (d : ℕ) → is_within_line (slice_index_or (map (λ row. row.name) rows) d []) ≡ true
devices_clean domains i [] h d = refl
devices_clean domains i (row ∷ rows) h zero =
    name_clean is_name_byte refl row.name (device_is domains i row (and_parts (is_device domains i row) (each_at (is_device domains) (i + 1) rows) h).0)
devices_clean domains i (row ∷ rows) h (suc d) =
    devices_clean domains (i + 1) rows (and_parts (is_device domains i row) (each_at (is_device domains) (i + 1) rows) h).1 d

callers_clean : (devices : ℕ) (rows : List CallerRow) → list_all (is_caller devices) rows ≡ true → (c : ℕ) → is_within_line (slice_index_or (map (λ row. row.name) rows) c []) ≡ true
callers_clean devices [] h c = refl
callers_clean devices (row ∷ rows) h zero =
    name_clean is_plain_byte refl row.name (caller_is devices row (and_parts (is_caller devices row) (list_all (is_caller devices) rows) h).0)
callers_clean devices (row ∷ rows) h (suc c) = callers_clean devices rows (and_parts (is_caller devices row) (list_all (is_caller devices) rows) h).1 c

law_parts : (lines trace : ℕ) (domains : List DomainRow) (devices : List DeviceRow) (links : List LinkRow) (callers : List CallerRow) → is_plan lines trace domains devices links callers ≡ true → (each_at (is_device (length domains)) 0 devices ≡ true) × (list_all (is_caller (length devices)) callers ≡ true)
law_parts lines trace domains devices links callers h = (grind (arith, common_steps), grind (arith, common_steps))

names_clean : (plan : Plan) → CleanNames (names_of plan)
names_clean plan =
    let parts = law_parts plan.lines plan.trace plan.domains plan.devices plan.links plan.callers plan.law in
    record {
      devices = devices_clean (length plan.domains) 0 plan.devices parts.0;
      callers = callers_clean (length plan.devices) plan.callers parts.1;
    }

-- the pieces of an event
device_part_clean : (names : Names) → CleanNames names → (h : Helper) (d : DevId) → is_within_line (device_part names h d) ≡ true
device_part_clean names n h d = either (takes_device h) (space ++ device_name names d.0) [] (n.devices d.0) refl

operand_part_clean : (names : Names) → CleanNames names → (o : Operand) (z : ℤ) → is_within_line (operand_part names o z) ≡ true
operand_part_clean names n operand.Nothing z = refl
operand_part_clean names n operand.Milliseconds z = signed_clean z
operand_part_clean names n operand.Switch z = either (int_eq z (pos 0)) (codes " off") (codes " on") refl refl
operand_part_clean names n operand.Supplier z = n.devices (nat_abs z)

why_clean : (names : Names) → CleanNames names → (w : Why) → is_within_line (why_text names w) ≡ true
why_clean names n why.Caller = refl
why_clean names n why.Control = refl
why_clean names n why.Forbid = refl
why_clean names n why.Delay = refl
why_clean names n (why.Child d) = n.devices d.0
why_clean names n (why.Link d) = n.devices d.0

work_clean : (w : WorkAct) → is_within_line (work_text w) ≡ true
work_clean (work.Queue r) = req_clean r
work_clean work.Defer = refl
work_clean (work.Run r) = req_clean r

timer_clean : (a : TimerAct) → is_within_line (timer_text a) ≡ true
timer_clean (timer.Arm at autosuspends) = search (cat, digits_clean, kind_clean) depth 20
timer_clean (timer.Fire autosuspends) = kind_clean autosuspends

payload_clean : (names : Names) → CleanNames names → (d : DevId) (f : Fields) → is_within_line (payload names d f) ≡ true
payload_clean names n d f = search (cat, n.devices, digits_clean, padded_clean, bit_clean) depth 60

direction_clean : (up : Bool) → is_within_line (if up then codes " up " else codes " down ") ≡ true
direction_clean true = refl
direction_clean false = refl

event_clean : (names : Names) → CleanNames names → (e : Event) → is_within_line (event_text names e) ≡ true
event_clean names n (event.Call c) = search (cat, helper_clean, device_part_clean, operand_part_clean) depth 20
event_clean names n (event.Ret h d c) = search (cat, helper_clean, device_part_clean, signed_clean) depth 20
event_clean names n (event.Get d w) = search (cat, n.devices, why_clean) depth 20
event_clean names n (event.Put d w) = search (cat, n.devices, why_clean) depth 20
event_clean names n (event.Usage d f) = payload_clean names n d f
event_clean names n (event.Idle d f) = payload_clean names n d f
event_clean names n (event.Suspend d f) = payload_clean names n d f
event_clean names n (event.Resume d f) = payload_clean names n d f
event_clean names n (event.Return func d c) = search (cat, n.devices, cb_clean, signed_clean) depth 20
event_clean names n (event.Wait d) = n.devices d.0
event_clean names n (event.State d w) = search (cat, n.devices, status_clean) depth 20
event_clean names n (event.Begin d k) = search (cat, n.devices, cb_clean) depth 20
event_clean names n (event.End d k c) = search (cat, n.devices, cb_clean, signed_clean) depth 20
event_clean names n (event.Domain d up x) = search (cat, n.devices, direction_clean, digits_clean) depth 20
event_clean names n (event.Work d act) = search (cat, n.devices, work_clean) depth 20
event_clean names n (event.Timer d act) = search (cat, n.devices, timer_clean) depth 20

actor_clean : (names : Names) → CleanNames names → (a : ActorId) → is_within_line (actor_text names a) ≡ true
actor_clean names n (Caller c) = n.callers c
actor_clean names n (Work d) = n.devices d
actor_clean names n (Timer d) = n.devices d

pub line_clean : (plan : Plan) (line : Line) → is_within_line (line_text (names_of plan) line) ≡ true
line_clean plan line =
    let names = names_of plan in
    let n = names_clean plan in
    let actor = actor_clean names n line.actor in
    let e = event_clean names n line.event in
    search (cat, digits_clean, actor, e) depth 20
