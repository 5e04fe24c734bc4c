-- How long the text of a line is at most.
use Rattle.std.proofs.Common.{◌≡◌, ℕ, ◌+◌, ◌<◌, ◌≤◌, ◌^◌, zero, suc, Bool, true, false, ◌&&◌, List, [], ◌∷◌, ◌++◌, map, length, slice_index_or, decimal, codes, nat_lt, nat_abs, ℤ, pos, negsuc, if◌then◌else◌, refl, arith, lit<, length-append}
use lib.Signed.{mag}
use Rattle.std.specs.Fmt.{digits, signed_decimal}
use Rattle.std.specs.List.{list_all}
use Rattle.std.specs.Ordering.{int_eq}
use Rattle.std.proofs.lemmas.Bool.{and_parts, ltb-true}
use Rattle.std.proofs.lemmas.Bool.Decides.{nat_tests}
use Rattle.std.proofs.lemmas.Fmt.{length-decimal-le, length_signed_le, hex_one_digit, hex_two_digits}
use Rattle.std.proofs.lemmas.Grind.{common_steps}
use Rattle.pm_base.specs.declared.limits.TheConstants.{LINE_BYTES, TEXT_BYTES}
use Rattle.pm_base.specs.declared.Cb.{Cb}
use Rattle.pm_base.specs.declared.Cb.TheVariants as cb
use Rattle.pm_base.specs.declared.Req.{Req}
use Rattle.pm_base.specs.declared.Req.TheVariants as req
use Rattle.pm_model.specs.IsPlan.{each_at, is_caller, is_device, is_name_byte, is_name_of, is_plain_byte, is_plan}
use Rattle.pm_base.specs.declared.ActorId.{ActorId}
use Rattle.pm_base.specs.declared.ActorId.TheVariants.{Caller, Work, Timer}
use Rattle.pm_base.specs.declared.DevId.{DevId}
use Rattle.pm_base.specs.declared.Why.{Why}
use Rattle.pm_base.specs.declared.Why.TheVariants as why
use Rattle.pm_model.specs.LineOf.{are_fields, fits_i32, fits_signed, fits_u32, is_actor_of, is_device_of, is_event_of, is_line, is_line_of, is_number_of, is_timer_line}
use Rattle.pm_model.specs.Spelling.{Names, actor_text, bit, cb_word, device_name, device_part, event_text, helper_word, kind_word, line_text, operand_of, operand_part, padded, payload, req_word, space, status_word, takes_device, timer_text, why_text, work_text}
use Rattle.pm_model.specs.declared.event.Command.{Command}
use Rattle.pm_model.specs.declared.event.Event.{Event}
use Rattle.pm_model.specs.declared.event.Event.TheVariants as event
use Rattle.pm_model.specs.declared.event.Fields.{Fields}
use Rattle.pm_model.specs.declared.event.Operand.{Operand}
use Rattle.pm_model.specs.declared.event.Operand.TheVariants as operand
use Rattle.pm_model.specs.declared.event.TimerAct.{TimerAct}
use Rattle.pm_model.specs.declared.event.TimerAct.TheVariants as timer
use Rattle.pm_model.specs.declared.event.WorkAct.{WorkAct}
use Rattle.pm_model.specs.declared.event.WorkAct.TheVariants as work
use Rattle.pm_model.specs.Text.{names_of}
use Rattle.pm_model.specs.declared.event.Helper.{Helper}
use Rattle.pm_model.specs.declared.event.Helper.TheVariants as helper
use Rattle.pm_model.specs.declared.event.Line.{Line}
use Rattle.pm_model.specs.declared.event.Word.{Word}
use Rattle.pm_model.specs.declared.event.Word.TheVariants as word
use Rattle.pm_model.specs.declared.plan.Plan.{Plan}
use Rattle.pm_model.specs.declared.rows.CallerRow.{CallerRow}
use Rattle.pm_model.specs.declared.rows.DeviceRow.{DeviceRow}
use Rattle.pm_model.specs.declared.rows.DomainRow.{DomainRow}
use Rattle.pm_model.specs.declared.rows.LinkRow.{LinkRow}
use Rattle.pm_linetext.specs.Fronts.{front_text}
use Rattle.pm_linetext.specs.NamesFit.{NamesFit}
use Rattle.pm_linetext.specs.Room.{HasRoom}
use Rattle.pm_linetext.specs.ShortLine.{are_short_fields, is_short_event, is_short_line}

name_fits : (is_byte : ℕ → Bool) (name : List ℕ) → is_name_of is_byte name ≡ true → length name ≤ 32
name_fits is_byte name h = grind (arith, common_steps, nat_tests)

device_fits : (domains i : ℕ) (row : DeviceRow) → is_device domains i row ≡ true → length row.name ≤ 32
device_fits domains i row h = name_fits is_name_byte row.name (grind (arith, common_steps))

caller_fits : (devices : ℕ) (row : CallerRow) → is_caller devices row ≡ true → length row.name ≤ 32
caller_fits devices row h = name_fits is_plain_byte row.name (grind (arith, common_steps))

devices_fit : (domains i : ℕ) (rows : List DeviceRow) → each_at (is_device domains) i rows ≡ true → (d : ℕ) → length (slice_index_or (map (λ row. row.name) rows) d []) ≤ 32
devices_fit domains i [] h d = omega arith
devices_fit domains i (row ∷ rows) h zero = device_fits domains i row (and_parts (is_device domains i row) (each_at (is_device domains) (i + 1) rows) h).0
devices_fit domains i (row ∷ rows) h (suc d) =
    devices_fit domains (i + 1) rows (and_parts (is_device domains i row) (each_at (is_device domains) (i + 1) rows) h).1 d

callers_fit : (devices : ℕ) (rows : List CallerRow) → list_all (is_caller devices) rows ≡ true → (c : ℕ) → length (slice_index_or (map (λ row. row.name) rows) c []) ≤ 32
callers_fit devices [] h c = omega arith
callers_fit devices (row ∷ rows) h zero = caller_fits devices row (and_parts (is_caller devices row) (list_all (is_caller devices) rows) h).0
callers_fit devices (row ∷ rows) h (suc c) = callers_fit devices rows (and_parts (is_caller devices row) (list_all (is_caller devices) rows) h).1 c

law_parts : (lines trace : ℕ) (domains : List DomainRow) (devices : List DeviceRow) (links : List LinkRow) (callers : List CallerRow) → is_plan lines trace domains devices links callers ≡ true → (each_at (is_device (length domains)) 0 devices ≡ true) × (list_all (is_caller (length devices)) callers ≡ true)
law_parts lines trace domains devices links callers h = (grind (arith, common_steps), grind (arith, common_steps))

pub names_fit : (plan : Plan) → NamesFit (names_of plan)
names_fit plan =
    let parts = law_parts plan.lines plan.trace plan.domains plan.devices plan.links plan.callers plan.law in
    record {
      devices = devices_fit (length plan.domains) 0 plan.devices parts.0;
      callers = callers_fit (length plan.devices) plan.callers parts.1;
    }

-- the words

helper_word_len : (h : Helper) → length (helper_word h) ≤ 21
helper_word_len helper.GetSync = omega arith
helper_word_len _ = omega arith

cb_word_len : (k : Cb) → length (cb_word k) ≤ 7
cb_word_len cb.Idle = omega arith
cb_word_len _ = omega arith

req_word_len : (r : Req) → length (req_word r) ≤ 11
req_word_len req.Nothing = omega arith
req_word_len _ = omega arith

status_word_len : (w : Word) → length (status_word w) ≤ 16
status_word_len word.Active = omega arith
status_word_len _ = omega arith

kind_word_len : (autosuspends : Bool) → length (kind_word autosuspends) ≤ 5
kind_word_len true = omega arith
kind_word_len false = omega arith

bit_len : (b : Bool) → length (bit b) ≤ 1
bit_len true = omega arith
bit_len false = omega arith

-- the numbers

mag_fits : (n : ℤ) → fits_signed (2 ^ 63) n ≡ true → mag n < 2 ^ 63
mag_fits (pos k) h = grind (arith, common_steps, nat_tests)
mag_fits (negsuc k) h = grind (arith, common_steps, nat_tests)

mag_fits32 : (n : ℤ) → fits_i32 n ≡ true → mag n < 2 ^ 63
mag_fits32 (pos k) h = grind (arith, common_steps, nat_tests)
mag_fits32 (negsuc k) h = grind (arith, common_steps, nat_tests)

signed_len : (n : ℤ) → mag n < 2 ^ 63 → length (signed_decimal n) ≤ 20
signed_len n small = length_signed_le 19 n (omega arith) small

decimal_len : (k n : ℕ) → 0 < k → n < 10 ^ k → n < 2 ^ 64 → length (decimal n) ≤ k
decimal_len k n one fits small = length-decimal-le k n one fits small

count_len : (n : ℕ) → n < 2 ^ 32 → length (decimal n) ≤ 10
count_len n small = length-decimal-le 10 n (lit< tt) (omega arith) (omega arith)

short_flags_len : (n : ℕ) → n < 16 → length (digits 16 false n) ≤ 1
short_flags_len n small = grind (arith, common_steps, hex_one_digit false n)

flags_len : (n : ℕ) → n < 2 ^ 8 → length (digits 16 false n) ≤ 2
flags_len n small = grind (arith, common_steps, hex_one_digit false n, hex_two_digits false n)

-- the pieces of an event

padded_len : (bytes : List ℕ) (most : ℕ) → length bytes ≤ most → 2 ≤ most → length (padded bytes) ≤ most
padded_len bytes most fits two = grind (arith, common_steps, nat_tests)

or_none_len : (b : Bool) (bytes : List ℕ) (most : ℕ) → length bytes ≤ most → length (if b then bytes else []) ≤ most
or_none_len true bytes most fits = fits
or_none_len false bytes most fits = omega arith

device_part_len : (names : Names) → NamesFit names → (h : Helper) (d : DevId) → length (device_part names h d) ≤ 33
device_part_len names fit h d = or_none_len (takes_device h) (space ++ device_name names d.0) 33 (omega (arith, fit.devices d.0))

operand_part_len : (names : Names) → NamesFit names → (devices : ℕ) (operand : Operand) (n : ℤ) → is_number_of devices operand n ≡ true → length (operand_part names operand n) ≤ 33
operand_part_len names fit devices operand.Nothing n h = omega arith
operand_part_len names fit devices operand.Milliseconds n h = omega (arith, signed_len n (mag_fits n h))
operand_part_len names fit devices operand.Switch n h = grind (arith, common_steps)
operand_part_len names fit devices operand.Supplier n h = omega (arith, fit.devices (nat_abs n))

why_len : (names : Names) → NamesFit names → (why : Why) → length (why_text names why) ≤ 38
why_len names fit why.Caller = omega arith
why_len names fit why.Control = omega arith
why_len names fit why.Forbid = omega arith
why_len names fit why.Delay = omega arith
why_len names fit (why.Child d) = omega (arith, fit.devices d.0)
why_len names fit (why.Link d) = omega (arith, fit.devices d.0)

work_len : (act : WorkAct) → length (work_text act) ≤ 17
work_len (work.Queue r) = omega (arith, req_word_len r)
work_len work.Defer = omega arith
work_len (work.Run r) = omega (arith, req_word_len r)

timer_len : (act : TimerAct) → is_timer_line act ≡ true → length (timer_text act) ≤ 30
timer_len (timer.Arm at autosuspends) h =
    let small : at < 2 ^ 64 = ltb-true _ _ h in
    simp length-append (omega (arith, length-decimal-le 20 at (lit< tt) (omega arith) small, kind_word_len autosuspends))
timer_len (timer.Fire autosuspends) h = omega (arith, kind_word_len autosuspends)

payload_len : (names : Names) → NamesFit names → (d : DevId) (f : Fields) (flags count child : ℕ)
    → length (digits 16 false f.flags) ≤ flags → length (decimal f.cnt) ≤ count → length (decimal f.dep) ≤ count → length (decimal f.child) ≤ child → 2 ≤ count
    → length (payload names d f) ≤ 73 + flags + count + count + child
payload_len names fit d f flags count child flags_fit cnt_fits dep_fits child_fits two =
    simp length-append (omega (arith, fit.devices d.0, padded_len (decimal f.cnt) count cnt_fits two, padded_len (decimal f.dep) count dep_fits two, bit_len f.auto_on, bit_len f.pending))

-- every payload of a plan, and a short one
wide_len : (names : Names) → NamesFit names → (d : DevId) (f : Fields) → are_fields f ≡ true → length (payload names d f) ≤ 105
wide_len names fit d f h =
    let flags : f.flags < 2 ^ 8 = grind (arith, common_steps, nat_tests) in
    let cnt : f.cnt < 2 ^ 32 = grind (arith, common_steps, nat_tests) in
    let dep : f.dep < 2 ^ 32 = grind (arith, common_steps, nat_tests) in
    let child : f.child < 2 ^ 32 = grind (arith, common_steps, nat_tests) in
    payload_len names fit d f 2 10 10 (flags_len f.flags flags) (count_len f.cnt cnt) (count_len f.dep dep) (count_len f.child child) (omega arith)

short_len : (names : Names) → NamesFit names → (d : DevId) (f : Fields) → are_short_fields f ≡ true → length (payload names d f) ≤ 90
short_len names fit d f h =
    let flags : f.flags < 16 = grind (arith, common_steps, nat_tests) in
    let cnt : f.cnt < 1000000 = grind (arith, common_steps, nat_tests) in
    let dep : f.dep < 1000000 = grind (arith, common_steps, nat_tests) in
    let child : f.child ≤ 1024 = grind (arith, common_steps, nat_tests) in
    payload_len names fit d f 1 6 4 (short_flags_len f.flags flags) (decimal_len 6 f.cnt (lit< tt) cnt (omega arith)) (decimal_len 6 f.dep (lit< tt) dep (omega arith)) (decimal_len 4 f.child (lit< tt) (omega arith) (omega arith)) (omega arith)

choose : (b : Bool) (n low high : ℕ) → (b ≡ true → n ≤ low) → n ≤ high → n ≤ (if b then low else high)
choose true n low high fits_low fits_high = fits_low refl
choose false n low high fits_low fits_high = fits_high

payload_event_len : (names : Names) → NamesFit names → (name : List ℕ) (d : DevId) (f : Fields) → length name ≤ 13 → are_fields f ≡ true → length (name ++ payload names d f) ≤ (if are_short_fields f then 103 else 118)
payload_event_len names fit name d f fits h =
    let sum = length-append name (payload names d f) in
    choose (are_short_fields f) _ 103 118 (λ short. omega (arith, sum, short_len names fit d f short)) (omega (arith, sum, wide_len names fit d f h))

call_len : (names : Names) → NamesFit names → (devices : ℕ) (c : Command) → is_number_of devices (operand_of c.helper) c.number ≡ true → length (event_text names (event.Call c)) ≤ 103
call_len names fit devices c h =
    simp length-append (omega (arith, helper_word_len c.helper, device_part_len names fit c.helper c.dev, operand_part_len names fit devices (operand_of c.helper) c.number h))

ret_mag_fits : (b : Bool) (c : ℤ) → (if b then fits_i32 c else int_eq c (pos 0)) ≡ true → mag c < 2 ^ 63
ret_mag_fits true c h = mag_fits32 c h
ret_mag_fits false (pos k) h = grind (arith, common_steps, nat_tests)
ret_mag_fits false (negsuc k) h = grind (arith, common_steps, nat_tests)

ret_len : (names : Names) → NamesFit names → (h : Helper) (d : DevId) (c : ℤ) → mag c < 2 ^ 63 → length (event_text names (event.Ret h d c)) ≤ 103
ret_len names fit h d c small = simp length-append (omega (arith, helper_word_len h, device_part_len names fit h d, signed_len c small))

domain_len : (names : Names) → NamesFit names → (d : DevId) (up : Bool) (n : ℕ) → n < 2 ^ 32 → length (event_text names (event.Domain d up n)) ≤ 103
domain_len names fit d true n small = simp length-append (omega (arith, fit.devices d.0, count_len n small))
domain_len names fit d false n small = simp length-append (omega (arith, fit.devices d.0, count_len n small))

-- where an event is short, and where it isn't
event_len : (names : Names) → NamesFit names → (devices : ℕ) (e : Event) → is_event_of devices e ≡ true → length (event_text names e) ≤ (if is_short_event e then 103 else 118)
event_len names fit devices (event.Call c) h =
    let number = (and_parts (is_device_of devices c.helper c.dev) (is_number_of devices (operand_of c.helper) c.number) h).1 in
    call_len names fit devices c number
event_len names fit devices (event.Ret h d c) v =
    let code = (and_parts (is_device_of devices h d) (if takes_device h then fits_i32 c else int_eq c (pos 0)) v).1 in
    ret_len names fit h d c (ret_mag_fits (takes_device h) c code)
event_len names fit devices (event.Get d w) h = simp length-append (omega (arith, fit.devices d.0, why_len names fit w))
event_len names fit devices (event.Put d w) h = simp length-append (omega (arith, fit.devices d.0, why_len names fit w))
event_len names fit devices (event.Usage d f) h =
    payload_event_len names fit (codes "rpm_usage: ") d f (omega arith) (and_parts (nat_lt d.0 devices) (are_fields f) h).1
event_len names fit devices (event.Idle d f) h =
    payload_event_len names fit (codes "rpm_idle: ") d f (omega arith) (and_parts (nat_lt d.0 devices) (are_fields f) h).1
event_len names fit devices (event.Suspend d f) h =
    payload_event_len names fit (codes "rpm_suspend: ") d f (omega arith) (and_parts (nat_lt d.0 devices) (are_fields f) h).1
event_len names fit devices (event.Resume d f) h =
    payload_event_len names fit (codes "rpm_resume: ") d f (omega arith) (and_parts (nat_lt d.0 devices) (are_fields f) h).1
event_len names fit devices (event.Return func d c) h =
    let code = mag_fits32 c (and_parts (nat_lt d.0 devices) (fits_i32 c) h).1 in
    simp length-append (omega (arith, cb_word_len func, fit.devices d.0, signed_len c code))
event_len names fit devices (event.Wait d) h = omega (arith, fit.devices d.0)
event_len names fit devices (event.State d w) h = simp length-append (omega (arith, fit.devices d.0, status_word_len w))
event_len names fit devices (event.Begin d k) h = simp length-append (omega (arith, fit.devices d.0, cb_word_len k))
event_len names fit devices (event.End d k c) h =
    let code = mag_fits32 c (and_parts (nat_lt d.0 devices) (fits_i32 c) h).1 in
    simp length-append (omega (arith, fit.devices d.0, cb_word_len k, signed_len c code))
event_len names fit devices (event.Domain d up n) h =
    let count = ltb-true n (2 ^ 32) (and_parts (nat_lt d.0 devices) (fits_u32 n) h).1 in
    domain_len names fit d up n count
event_len names fit devices (event.Work d act) h = simp length-append (omega (arith, fit.devices d.0, work_len act))
event_len names fit devices (event.Timer d act) h =
    let line = (and_parts (nat_lt d.0 devices) (is_timer_line act) h).1 in
    simp length-append (omega (arith, fit.devices d.0, timer_len act line))

actor_len : (names : Names) → NamesFit names → (a : ActorId) → length (actor_text names a) ≤ 38
actor_len names fit (Caller c) = omega (arith, fit.callers c)
actor_len names fit (Work d) = omega (arith, fit.devices d)
actor_len names fit (Timer d) = omega (arith, fit.devices d)

line_len : (names : Names) → NamesFit names → (line : Line) (most : ℕ) → line.time < 2 ^ 63 → length (event_text names line.event) ≤ most → length (line_text names line) ≤ 59 + most
line_len names fit line most time fits =
    simp length-append (omega (arith, length-decimal-le 19 line.time (lit< tt) (omega arith) (omega arith), actor_len names fit line.actor, fits))

either_len : (b : Bool) (n low high : ℕ) → low ≤ high → n ≤ (if b then low else high) → n ≤ high
either_len true n low high order fits = omega arith
either_len false n low high order fits = fits

low_len : (b : Bool) (n low high : ℕ) → b ≡ true → n ≤ (if b then low else high) → n ≤ low
low_len true n low high chosen fits = fits
low_len false n low high chosen fits = cc

-- what is_line says of the time and of the event
pub line_parts : (devices callers : ℕ) (line : Line) → is_line devices callers line ≡ true → (line.time < 2 ^ 63) × (is_event_of devices line.event ≡ true)
line_parts devices callers line h =
    let parts = and_parts (nat_lt line.time (2 ^ 63) && is_actor_of devices callers line.actor) (is_event_of devices line.event) h in
    (ltb-true line.time (2 ^ 63) (and_parts (nat_lt line.time (2 ^ 63)) (is_actor_of devices callers line.actor) parts.0).0, parts.1)

-- the text of an event over names that fit
pub named_event_len : (names : Names) → NamesFit names → (devices : ℕ) (e : Event) → is_event_of devices e ≡ true → length (event_text names e) ≤ 118
named_event_len names fit devices e h = either_len (is_short_event e) _ 103 118 (omega arith) (event_len names fit devices e h)

-- the front of a line over names that fit, as far as its time and its actor
named_start_len : (names : Names) → NamesFit names → (time : ℕ) (a : ActorId) → time < 2 ^ 63 → length ((decimal time ++ space) ++ actor_text names a) ≤ 58
named_start_len names fit time a small =
    simp length-append (omega (arith, length-decimal-le 19 time (lit< tt) (omega arith) (omega arith), actor_len names fit a))

-- so an actor and a space have room behind a time
pub actor_room : (names : Names) → NamesFit names → (time : ℕ) (a : ActorId) → time < 2 ^ 63 → HasRoom (decimal time ++ space) (actor_text names a ++ space)
actor_room names fit time a small =
    let sum = length-append (decimal time ++ space) (actor_text names a) in
    let behind = length-append (actor_text names a) space in
    omega (arith, sum, behind, named_start_len names fit time a small)

pub named_front_len : (names : Names) → NamesFit names → (time : ℕ) (a : ActorId) → time < 2 ^ 63 → length (front_text names time a) ≤ 59
named_front_len names fit time a small =
    simp length-append (omega (arith, length-decimal-le 19 time (lit< tt) (omega arith) (omega arith), actor_len names fit a))

-- the text of a line over names that fit, with an earlier time in its place
pub named_text_len : (names : Names) → NamesFit names → (devices callers : ℕ) (line : Line) (time : ℕ) → is_line devices callers line ≡ true → time ≤ line.time → length (line_text names (record line { time = time })) ≤ TEXT_BYTES
named_text_len names fit devices callers line time h earlier =
    let parts = line_parts devices callers line h in
    let event = event_len names fit devices line.event parts.1 in
    line_len names fit (record line { time = time }) 118 (omega (arith, parts.0)) (either_len (is_short_event line.event) _ 103 118 (omega arith) event)

-- the text of a line of a plan, and of the same line with an earlier time in its place
pub text_len : (plan : Plan) (line : Line) (time : ℕ) → is_line_of plan line ≡ true → time ≤ line.time → length (line_text (names_of plan) (record line { time = time })) ≤ TEXT_BYTES
text_len plan line time h earlier = named_text_len (names_of plan) (names_fit plan) (length plan.devices) (length plan.callers) line time h earlier

pub short_text_len : (plan : Plan) (line : Line) (time : ℕ) → is_line_of plan line ≡ true → is_short_line line ≡ true → time ≤ line.time → length (line_text (names_of plan) (record line { time = time })) ≤ LINE_BYTES
short_text_len plan line time h short earlier =
    let parts = line_parts (length plan.devices) (length plan.callers) line h in
    let event = event_len (names_of plan) (names_fit plan) (length plan.devices) line.event parts.1 in
    line_len (names_of plan) (names_fit plan) (record line { time = time }) 103 (omega (arith, parts.0)) (low_len (is_short_event line.event) _ 103 118 short event)

-- so there is room for each piece of it
pub text_fits : (plan : Plan) (line : Line) → is_line_of plan line ≡ true → length (line_text (names_of plan) line) ≤ TEXT_BYTES
text_fits plan line h = text_len plan line line.time h (omega arith)
