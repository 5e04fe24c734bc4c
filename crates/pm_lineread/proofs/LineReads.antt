-- Lines: each is read exactly, and from its own texts.
use Rattle.std.proofs.Common.{◌≡◌, ℕ, ◌+◌, ◌-◌, ◌^◌, ◌<◌, ◌≤◌, Bool, true, false, ◌&&◌, List, [], ◌∷◌, ◌++◌, length, min, codes, decimal, nat_eq, nat_lt, nat_le, ℤ, pos, if◌then◌else◌, Result, Ok, Err, refl, ap, sym, ◌∙◌, ◌⊎◌, inl, inr, arith, lit<, lit≤, append_assoc}
use Rattle.std.specs.Fmt.{signed_decimal}
use Rattle.std.specs.List.{list_all}
use Rattle.std.specs.Ordering.{int_eq}
use Rattle.std.proofs.lemmas.Bool.{and_from, and_parts, cases_Bool, eqb-true, leb-true, le-leb, lt-ltb, ltb-true}
use Rattle.std.proofs.lemmas.Bool.Decides.{Decides-int_eq, nat_tests}
use Rattle.std.proofs.lemmas.Fmt.{decimal_digit}
use Rattle.std.proofs.lemmas.List.Folds.{list_all-append}
use Rattle.pm_base.specs.declared.ActorId.{ActorId}
use Rattle.pm_base.specs.declared.ActorId.TheVariants.{Caller, Work, Timer}
use Rattle.pm_base.specs.declared.DevId.{DevId}
use Rattle.pm_model.specs.LineOf.{fits_signed, is_actor_of, is_command_line, is_device_of, is_event_of, is_line, is_number_of, is_ret_line, is_why_of, are_fields, fits_i32, fits_u32, is_work_line, is_timer_line}
use Rattle.pm_model.specs.Spelling.{Names, actor_text, caller_name, device_name, event_text, line_text2, operand_of, space, takes_device}
use Rattle.pm_model.specs.declared.event.Command.{Command}
use Rattle.pm_model.specs.declared.event.Event.{Event}
use Rattle.pm_model.specs.declared.event.Event.TheVariants as event
use Rattle.pm_model.specs.declared.event.Helper.{Helper}
use Rattle.pm_model.specs.declared.event.Helper.TheVariants as helper
use Rattle.pm_model.specs.declared.event.Line.{Line}
use Rattle.pm_linetext.proofs.Passing.{list_all_get_or}
use Rattle.pm_names.specs.Table.{all_distinct}
use Rattle.pm_lineread.specs.Pieces.{either_of, place_at}
use Rattle.pm_lineread.specs.Reading.{any_event_at, caller_at, caller_step_at, delay_at, delay_call_at, device_at, device_step_at, event_at, line_at, signed_at, some_line_at, step_at, step_of, word_at}
use Rattle.pm_lineread.proofs.EventReads.{any_event_reads}
use Rattle.pm_lineread.proofs.Parts.{Begins, IsWord, Spelled, clash, decimal_reads, one_word_reads, signed_reads, word_begins}
use Rattle.pm_lineread.proofs.Places.{no_word, place_reads}
use Rattle.pm_lineread.proofs.Readers.{AfterLiteral, AfterWord, Reads, ReadsWord, either_reads, literal_reads, made_reads, reads-along, reads-same, word_reads}
use Rattle.pm_lineread.proofs.Shared.{clean_front, is_clean, shared}

-- over no device

only_delay : (h : Helper) → takes_device h ≡ false → h ≡ helper.Delay
only_delay helper.Delay lacks = refl
only_delay _ lacks = (cc)

no_device : (d : ℕ) → nat_lt d 0 ≡ true → ⊥
no_device d h = omega (arith, ltb-true d 0 h)

no_device_first : (d : ℕ) (b : Bool) → (nat_lt d 0 && b) ≡ true → ⊥
no_device_first d b h = no_device d (and_parts (nat_lt d 0) b h).0

-- a helper of no device is delay
lacks_device : (h : Helper) (d : DevId) → is_device_of 0 h d ≡ true → (h ≡ helper.Delay) × (d ≡ record { 0 = 0 })
lacks_device h d is = elim (cases_Bool (takes_device h)) [
  | inl takes ↦ let none = rw takes at is in absurd (no_device d.0 none)
  | inr lacks ↦ let none = rw lacks at is in let zero_device : d.0 ≡ 0 = eqb-true d.0 0 none in (only_delay h lacks, ap (λ n. record { 0 = n }) zero_device)
]

abbrev IsDelayCall : List ℕ → Event → Type 0
IsDelayCall = AfterLiteral (codes "pm_call: delay ") (λ t e. (n : ℤ) × Spelled (fits_signed (2 ^ 63)) signed_decimal t n × (e ≡ event.Call (record { helper = helper.Delay; dev = record { 0 = 0 }; number = n })))

abbrev delay_ret : Event
delay_ret = event.Ret helper.Delay (record { 0 = 0 }) (pos 0)

abbrev IsDelayRet : List ℕ → Event → Type 0
IsDelayRet = IsWord (codes "pm_ret: delay 0") delay_ret

delay_call_reads : Reads delay_call_at IsDelayCall
unfolding delay_call_at
delay_call_reads =
    literal_reads (codes "pm_call: delay ") _ _ (made_reads (signed_at (2 ^ 63)) _ (signed_reads (2 ^ 63) (lit< tt) (lit≤ tt)) (λ n. event.Call (record { helper = helper.Delay; dev = record { 0 = 0 }; number = n })))

delay_ret_text : (names : Names) → codes "pm_ret: delay 0" ≡ event_text names delay_ret
delay_ret_text names = ap (λ x. codes "pm_ret: delay " ++ x) (sym (decimal_digit 0 (lit< tt)))

to_delay : (names : Names) (t : List ℕ) (e : Event) → IsDelayCall t e ⊎ IsDelayRet t e → Spelled (is_event_of 0) (event_text names) t e
to_delay names t e (inl (r, whole, (n, (fits, number), made_of))) = rw made_of (fits, whole ∙ ap (λ x. codes "pm_call: delay " ++ x) number)
to_delay names t e (inr (whole, is)) = rw is (refl, whole ∙ delay_ret_text names)

delay_command : (c : Command) → is_command_line 0 c ≡ true → (n : ℤ) × (fits_signed (2 ^ 63) n ≡ true) × (c ≡ record { helper = helper.Delay; dev = record { 0 = 0 }; number = n })
delay_command c valid =
    let (device, fits) = and_parts (is_device_of 0 c.helper c.dev) (is_number_of 0 (operand_of c.helper) c.number) valid in
    let (is_delay, none) = lacks_device c.helper c.dev device in
    (c.number, ap (λ h. is_number_of 0 (operand_of h) c.number) (sym is_delay) ∙ fits, ap (λ h. record { helper = h; dev = c.dev; number = c.number }) is_delay ∙ ap (λ d. record { helper = helper.Delay; dev = d; number = c.number }) none)

delay_return : (h : Helper) (d : DevId) (c : ℤ) → is_ret_line 0 h d c ≡ true → event.Ret h d c ≡ delay_ret
delay_return h d c valid =
    let (device, fits) = and_parts (is_device_of 0 h d) (if takes_device h then fits_i32 c else int_eq c (pos 0)) valid in
    let (is_delay, none) = lacks_device h d device in
    let no_code : int_eq c (pos 0) ≡ true = ap (λ g. if takes_device g then fits_i32 c else int_eq c (pos 0)) (sym is_delay) ∙ fits in
    ap (λ g. event.Ret g d c) is_delay ∙ (ap (λ d. event.Ret helper.Delay d c) none ∙ ap (λ n. event.Ret helper.Delay (record { 0 = 0 }) n) ((Decides-int_eq c (pos 0)).0 no_code))

from_delay : (names : Names) (t : List ℕ) (e : Event) → Spelled (is_event_of 0) (event_text names) t e → IsDelayCall t e ⊎ IsDelayRet t e
from_delay names t (event.Call c) (valid, whole) =
    let (n, fits, is) = delay_command c valid in
    inl (signed_decimal n, whole ∙ ap (λ c. event_text names (event.Call c)) is, (n, (fits, refl), ap event.Call is))
from_delay names t (event.Ret h d c) (valid, whole) =
    let is = delay_return h d c valid in
    inr (whole ∙ (ap (event_text names) is ∙ sym (delay_ret_text names)), is)
from_delay names t (event.Get d w) (valid, whole) = absurd (no_device_first d.0 (is_why_of 0 w) valid)
from_delay names t (event.Put d w) (valid, whole) = absurd (no_device_first d.0 (is_why_of 0 w) valid)
from_delay names t (event.Usage d f) (valid, whole) = absurd (no_device_first d.0 (are_fields f) valid)
from_delay names t (event.Idle d f) (valid, whole) = absurd (no_device_first d.0 (are_fields f) valid)
from_delay names t (event.Suspend d f) (valid, whole) = absurd (no_device_first d.0 (are_fields f) valid)
from_delay names t (event.Resume d f) (valid, whole) = absurd (no_device_first d.0 (are_fields f) valid)
from_delay names t (event.Return func d c) (valid, whole) = absurd (no_device_first d.0 (fits_i32 c) valid)
from_delay names t (event.Wait d) (valid, whole) = absurd (no_device d.0 valid)
from_delay names t (event.State d w) (valid, whole) = absurd (no_device d.0 valid)
from_delay names t (event.Begin d k) (valid, whole) = absurd (no_device d.0 valid)
from_delay names t (event.End d k c) (valid, whole) = absurd (no_device_first d.0 (fits_i32 c) valid)
from_delay names t (event.Domain d up n) (valid, whole) = absurd (no_device_first d.0 (fits_u32 n) valid)
from_delay names t (event.Work d act) (valid, whole) = absurd (no_device_first d.0 (is_work_line act) valid)
from_delay names t (event.Timer d act) (valid, whole) = absurd (no_device_first d.0 (is_timer_line act) valid)

delay_reads : (names : Names) → Reads delay_at (Spelled (is_event_of 0) (event_text names))
unfolding delay_at
delay_reads names =
    reads-along _ _ _ (to_delay names) (from_delay names)
    (either_reads delay_call_at (word_at (codes "pm_ret: delay 0") delay_ret) IsDelayCall IsDelayRet delay_call_reads (one_word_reads (codes "pm_ret: delay 0") delay_ret)
    (λ t c d a b. clash (codes "pm_call: delay ") (codes "pm_ret: delay 0") t refl (a.0, a.1) (word_begins (codes "pm_ret: delay 0") delay_ret t d b)))

-- It reads each text of a language that may be empty, and nothing else. Where it fails, what isn't left is the
-- most that the bytes have in common with a text, and nothing where there is no text.
pub record Answers {C : Type 0} (read : List ℕ → Result C ℕ) (Spells : List ℕ → C → Type 0) : Type 0 where
  pub sound : (bytes : List ℕ) (c : C) → read bytes ≡ Ok c → Spells bytes c
  pub complete : (bytes : List ℕ) (c : C) → Spells bytes c → read bytes ≡ Ok c
  pub most : (bytes : List ℕ) (left : ℕ) → read bytes ≡ Err left → (t : List ℕ) (c : C) → Spells t c → shared bytes t + left ≤ length bytes
  pub reached : (bytes : List ℕ) (left : ℕ) → read bytes ≡ Err left → (left ≡ length bytes) ⊎ ((t : List ℕ) × (c : C) × Spells t c × (length bytes ≤ shared bytes t + left))
  pub within : (bytes : List ℕ) (left : ℕ) → read bytes ≡ Err left → left ≤ length bytes

answers : {C : Type 0} (read : List ℕ → Result C ℕ) (Spells : List ℕ → C → Type 0) → Reads read Spells → Answers read Spells
answers read Spells reads = record {
  sound = reads.sound;
  complete = reads.complete;
  most = reads.most;
  reached = λ bytes left h. inr (reads.reached bytes left h);
  within = λ bytes left h. let (t, c, s) = reads.some in omega (arith, reads.most bytes left h t c s);
}

answers-same : {C : Type 0} (read other : List ℕ → Result C ℕ) (Spells : List ℕ → C → Type 0) → ((bytes : List ℕ) → other bytes ≡ read bytes) → Answers read Spells → Answers other Spells
answers-same read other Spells same reads = record {
  sound = λ bytes c h. reads.sound bytes c (sym (same bytes) ∙ h);
  complete = λ bytes c s. same bytes ∙ reads.complete bytes c s;
  most = λ bytes left h t c s. reads.most bytes left (sym (same bytes) ∙ h) t c s;
  reached = λ bytes left h. reads.reached bytes left (sym (same bytes) ∙ h);
  within = λ bytes left h. reads.within bytes left (sym (same bytes) ∙ h);
}

-- what the names of a plan are like
pub record AreNames (names : Names) : Type 0 where
  pub devices_clean : list_all (is_clean 32) names.devices ≡ true
  pub callers_clean : list_all (is_clean 32) names.callers ≡ true
  pub callers_plain : list_all (is_clean 46) names.callers ≡ true
  pub devices_distinct : all_distinct names.devices ≡ true
  pub callers_distinct : all_distinct names.callers ≡ true

-- a reader of no text adds nothing
either_none : {C : Type 0} (read other : List ℕ → Result C ℕ) (Spells : List ℕ → C → Type 0) → Reads read Spells → ((bytes : List ℕ) → other bytes ≡ Err (length bytes)) → Reads (λ bytes. either_of (read bytes) (other bytes)) Spells
either_none {C} read other Spells reads fails = reads-same read _ Spells (λ bytes. by_answer bytes (read bytes) refl) reads
  where
    by_answer : (bytes : List ℕ) (r : Result C ℕ) → read bytes ≡ r → either_of (read bytes) (other bytes) ≡ read bytes
    by_answer bytes (Ok c) h = rw h refl
    by_answer bytes (Err left) h =
        let (t, c, spelled) = reads.some in
        let few : left ≤ length bytes = omega (arith, reads.most bytes left h t c spelled) in
        let least : min left (length bytes) ≡ left = omega arith in
        rw (h, fails bytes) (ap Err least)

module _ (names : Names) (are : AreNames names) where
  abbrev device_count : ℕ
  device_count = length names.devices

  abbrev caller_count : ℕ
  caller_count = length names.callers

  devices_read : 0 < device_count → ReadsWord 32 (device_at names) (λ d. nat_lt d device_count) (device_name names)
  unfolding device_at
  devices_read some = place_reads names.devices 32 are.devices_distinct are.devices_clean some

  callers_read : 0 < caller_count → ReadsWord 32 (caller_at names) (λ c. nat_lt c caller_count) (caller_name names)
  unfolding caller_at
  callers_read some = place_reads names.callers 32 are.callers_distinct are.callers_clean some

  abbrev IsEvent : List ℕ → Event → Type 0
  IsEvent = Spelled (is_event_of device_count) (event_text names)

  event_reads : Reads (event_at names) IsEvent
  unfolding event_at
  event_reads = elim (cases_Bool (nat_eq device_count 0)) [
    | inl none ↦
        let zero_count : device_count ≡ 0 = eqb-true device_count 0 none in
        reads-same delay_at _ _ (λ bytes. rw none refl)
        (reads-along _ _ _ (λ t e s. (ap (λ n. is_event_of n e) zero_count ∙ s.0, s.1)) (λ t e s. (ap (λ n. is_event_of n e) (sym zero_count) ∙ s.0, s.1)) (delay_reads names))
    | inr some ↦
        let positive : 0 < device_count = nonzero device_count some in
        reads-same (any_event_at names) _ _ (λ bytes. rw some refl) (any_event_reads names (devices_read positive))
  ]
    where
      nonzero : (n : ℕ) → nat_eq n 0 ≡ false → 0 < n
      nonzero n h = grind (arith, nat_tests)

  -- an actor and an event

  abbrev StepTo : ActorId → List ℕ → ActorId × Event → Type 0
  StepTo actor = AfterLiteral (codes " ") (λ t s. (e : Event) × IsEvent t e × (s ≡ (actor, e)))

  step_of_reads : (actor : ActorId) → Reads (step_of names actor) (StepTo actor)
  unfolding step_of
  step_of_reads actor = literal_reads (codes " ") _ _ (made_reads (event_at names) _ event_reads (λ e. (actor, e)))

  abbrev IsCaller : ℕ → Bool
  IsCaller c = nat_lt c caller_count

  abbrev IsDevice : ℕ → Bool
  IsDevice d = nat_lt d device_count

  abbrev CallerStep : List ℕ → ActorId × Event → Type 0
  CallerStep = AfterWord IsCaller (caller_name names) (λ c. StepTo (Caller c))

  abbrev DeviceStep : List ℕ → (ℕ → ActorId) → List ℕ → ActorId × Event → Type 0
  DeviceStep word make = AfterLiteral word (AfterWord IsDevice (device_name names) (λ d. StepTo (make d)))

  caller_step_reads : 0 < caller_count → Reads (caller_step_at names) CallerStep
  unfolding caller_step_at
  caller_step_reads some = word_reads 32 _ _ _ (callers_read some) _ (λ c. StepTo (Caller c)) (λ c is. step_of_reads (Caller c)) (λ c t s h. rw h.1 refl)

  device_step_reads : 0 < device_count → (word : List ℕ) (make : ℕ → ActorId) → Reads (device_step_at names word make) (DeviceStep word make)
  unfolding device_step_at
  device_step_reads some word make =
      literal_reads word _ _ (word_reads 32 _ _ _ (devices_read some) _ (λ d. StepTo (make d)) (λ d is. step_of_reads (make d)) (λ d t s h. rw h.1 refl))

  -- the texts of steps
  abbrev IsStep : List ℕ → ActorId × Event → Type 0
  IsStep t s = (is_actor_of device_count caller_count s.0 ≡ true) × (is_event_of device_count s.1 ≡ true) × (t ≡ actor_text names s.0 ++ (space ++ event_text names s.1))

  caller_step_text : (t : List ℕ) (s : ActorId × Event) → CallerStep t s → IsStep t s
  caller_step_text t s (c, r, is, name, (r', gap, (e, (valid, text), made_of))) = rw made_of (is, valid, rw (name, gap, text) refl)

  work_step_text : (t : List ℕ) (s : ActorId × Event) → DeviceStep (codes "work.") Work t s → IsStep t s
  work_step_text t s (r0, lead, (d, r, is, name, (r', gap, (e, (valid, text), made_of)))) = rw made_of (is, valid, rw (lead, name, gap, text) refl)

  timer_step_text : (t : List ℕ) (s : ActorId × Event) → DeviceStep (codes "timer.") Timer t s → IsStep t s
  timer_step_text t s (r0, lead, (d, r, is, name, (r', gap, (e, (valid, text), made_of)))) = rw made_of (is, valid, rw (lead, name, gap, text) refl)

  abbrev AnyStep : List ℕ → ActorId × Event → Type 0
  AnyStep t s = DeviceStep (codes "work.") Work t s ⊎ (DeviceStep (codes "timer.") Timer t s ⊎ CallerStep t s)

  any_step_text : (t : List ℕ) (s : ActorId × Event) → AnyStep t s → IsStep t s
  any_step_text t s (inl h) = work_step_text t s h
  any_step_text t s (inr (inl h)) = timer_step_text t s h
  any_step_text t s (inr (inr h)) = caller_step_text t s h

  step_from_text : (t : List ℕ) (s : ActorId × Event) → IsStep t s → AnyStep t s
  step_from_text t (Caller c, e) (is, valid, whole) = inr (inr (c, _, is, whole, (event_text names e, refl, (e, (valid, refl), refl))))
  step_from_text t (Work d, e) (is, valid, whole) = inl (_, whole, (d, _, is, refl, (event_text names e, refl, (e, (valid, refl), refl))))
  step_from_text t (Timer d, e) (is, valid, whole) = inr (inl (_, whole, (d, _, is, refl, (event_text names e, refl, (e, (valid, refl), refl)))))

  -- a caller's name has no dot, so it is no work item and no timer
  has_space : (name q : List ℕ) → is_clean 32 ((name ++ 32 ∷ []) ++ q) ≡ true → ⊥
  has_space name q clean =
      let (front, _) = and_parts (is_clean 32 (name ++ 32 ∷ [])) (is_clean 32 q) (sym (list_all-append _ (name ++ 32 ∷ []) q) ∙ clean) in
      let (_, last) = and_parts (is_clean 32 name) (is_clean 32 (32 ∷ [])) (sym (list_all-append _ name (32 ∷ [])) ∙ front) in
      cc

  no_dot : (w : List ℕ) → is_clean 32 w ≡ true → (t : List ℕ) (s : ActorId × Event) → Begins (w ++ 46 ∷ []) t → CallerStep t s → ⊥
  no_dot w w_clean t s (z, lead) (c, r, is, name, (r', gap, _)) =
      let plain : is_clean 46 (caller_name names c) ≡ true = list_all_get_or (is_clean 46) names.callers c [] are.callers_plain (ltb-true c caller_count is) in
      let clean : is_clean 46 (caller_name names c ++ 32 ∷ []) ≡ true = list_all-append _ (caller_name names c) (32 ∷ []) ∙ and_from _ _ plain refl in
      let same : (caller_name names c ++ 32 ∷ []) ++ r' ≡ w ++ 46 ∷ z = append_assoc (caller_name names c) (32 ∷ []) r' ∙ (ap (λ x. caller_name names c ++ x) (sym gap) ∙ (sym name ∙ (lead ∙ append_assoc w (46 ∷ []) z))) in
      let (q, front) = clean_front 46 (caller_name names c ++ 32 ∷ []) r' w (46 ∷ z) clean refl same in
      has_space (caller_name names c) q (ap (is_clean 32) (sym front) ∙ w_clean)

  work_or_timer : (t : List ℕ) (c d : ActorId × Event) → DeviceStep (codes "work.") Work t c → DeviceStep (codes "timer.") Timer t d → ⊥
  work_or_timer t c d a b = clash (codes "work.") (codes "timer.") t refl (a.0, a.1) (b.0, b.1)

  -- the three kinds of actors, where there are callers and where there are none
  all_steps : 0 < device_count → 0 < caller_count → Reads (λ bytes. either_of (device_step_at names (codes "work.") Work bytes) (either_of (device_step_at names (codes "timer.") Timer bytes) (caller_step_at names bytes))) AnyStep
  all_steps some callers =
      either_reads (device_step_at names (codes "work.") Work) _ (DeviceStep (codes "work.") Work) (λ t s. DeviceStep (codes "timer.") Timer t s ⊎ CallerStep t s) (device_step_reads some (codes "work.") Work)
      (either_reads (device_step_at names (codes "timer.") Timer) (caller_step_at names) (DeviceStep (codes "timer.") Timer) CallerStep (device_step_reads some (codes "timer.") Timer) (caller_step_reads callers)
      (λ t c d a b. no_dot (codes "timer") refl t d (a.0, a.1) b))
      (λ t c d a b. elim b [
        | inl timed ↦ work_or_timer t c d a timed
        | inr called ↦ no_dot (codes "work") refl t d (a.0, a.1) called
      ])

  no_caller : caller_count ≡ 0 → (bytes : List ℕ) → caller_step_at names bytes ≡ Err (length bytes)
  unfolding caller_step_at caller_at
  no_caller none bytes =
      let empty : names.callers ≡ [] = empty_list names.callers none in
      let fails : place_at names.callers 32 bytes ≡ Err (length bytes) = ap (λ words. place_at words 32 bytes) empty ∙ no_word 32 bytes in
      rw fails refl
    where
      empty_list : (words : List (List ℕ)) → length words ≡ 0 → words ≡ []
      empty_list [] h = refl
      empty_list (w ∷ words) h = absurd (omega (arith, h))

  device_steps : 0 < device_count → caller_count ≡ 0 → Reads (λ bytes. either_of (device_step_at names (codes "work.") Work bytes) (either_of (device_step_at names (codes "timer.") Timer bytes) (caller_step_at names bytes))) AnyStep
  device_steps some none =
      reads-along _ (λ t s. DeviceStep (codes "work.") Work t s ⊎ DeviceStep (codes "timer.") Timer t s) _ to from
      (either_reads (device_step_at names (codes "work.") Work) _ (DeviceStep (codes "work.") Work) (DeviceStep (codes "timer.") Timer) (device_step_reads some (codes "work.") Work)
      (either_none (device_step_at names (codes "timer.") Timer) (caller_step_at names) _ (device_step_reads some (codes "timer.") Timer) (no_caller none))
      work_or_timer)
    where
      to : (t : List ℕ) (s : ActorId × Event) → DeviceStep (codes "work.") Work t s ⊎ DeviceStep (codes "timer.") Timer t s → AnyStep t s
      to t s (inl h) = inl h
      to t s (inr h) = inr (inl h)

      from : (t : List ℕ) (s : ActorId × Event) → AnyStep t s → DeviceStep (codes "work.") Work t s ⊎ DeviceStep (codes "timer.") Timer t s
      from t s (inl h) = inl h
      from t s (inr (inl h)) = inr h
      from t s (inr (inr (c, r, is, name, rest))) = absurd (omega (arith, ltb-true c caller_count is))

  nonzero : (n : ℕ) → nat_eq n 0 ≡ false → 0 < n
  nonzero n h = grind (arith, nat_tests)

  step_reads : 0 < device_count + caller_count → Reads (step_at names) IsStep
  unfolding step_at
  step_reads some = elim (cases_Bool (nat_eq device_count 0)) [
    | inl none ↦
        let zero_count : device_count ≡ 0 = eqb-true device_count 0 none in
        reads-same (caller_step_at names) _ _ (λ bytes. rw none refl) (reads-along _ _ _ caller_step_text (only_callers zero_count) (caller_step_reads (omega arith)))
    | inr devices ↦
        let positive : 0 < device_count = nonzero device_count devices in
        elim (cases_Bool (nat_eq caller_count 0)) [
          | inl none ↦ reads-same _ _ _ (λ bytes. rw devices refl) (reads-along _ _ _ any_step_text step_from_text (device_steps positive (eqb-true caller_count 0 none)))
          | inr callers ↦ reads-same _ _ _ (λ bytes. rw devices refl) (reads-along _ _ _ any_step_text step_from_text (all_steps positive (nonzero caller_count callers)))
        ]
  ]
    where
      only_callers : device_count ≡ 0 → (t : List ℕ) (s : ActorId × Event) → IsStep t s → CallerStep t s
      only_callers none t (Caller c, e) (is, valid, whole) = (c, _, is, whole, (event_text names e, refl, (e, (valid, refl), refl)))
      only_callers none t (Work d, e) (is, valid, whole) = absurd (omega (arith, ltb-true d device_count is))
      only_callers none t (Timer d, e) (is, valid, whole) = absurd (omega (arith, ltb-true d device_count is))

  -- lines

  module _ (base : ℕ) (early : base < 2 ^ 63) where
    -- the texts of lines behind one of that time
    abbrev pub IsLineText : List ℕ → Line → Type 0
    IsLineText t line = (is_line device_count caller_count line ≡ true) × (base ≤ line.time) × (t ≡ line_text2 names base line)

    abbrev IsSince : ℕ → Bool
    IsSince n = nat_le 0 n && nat_le n (2 ^ 63 - 1 - base)

    abbrev line_of : ℕ → ActorId × Event → Line
    line_of since s = record { time = base + since; actor = s.0; event = s.1 }

    abbrev IsRead : List ℕ → Line → Type 0
    IsRead = AfterWord IsSince decimal (λ n. AfterLiteral (codes " ") (λ t line. (s : ActorId × Event) × IsStep t s × (line ≡ line_of n s)))

    some_line_reads : 0 < device_count + caller_count → Reads (some_line_at names base) IsRead
    unfolding some_line_at
    some_line_reads some =
        word_reads 32 _ _ _ (decimal_reads 0 (2 ^ 63 - 1 - base) (lit≤ tt) (omega arith) (omega arith)) _ (λ n. AfterLiteral (codes " ") (λ t line. (s : ActorId × Event) × IsStep t s × (line ≡ line_of n s)))
        (λ n is. literal_reads (codes " ") _ _ (made_reads (step_at names) _ (step_reads some) (line_of n)))
        (λ n t line h. rw h.1 refl)

    regroup_line : (w a b c d : List ℕ) → w ++ a ++ b ++ c ++ d ≡ w ++ (a ++ (b ++ (c ++ d)))
    regroup_line w a b c d = simp append_assoc

    line_parts : (line : Line) → line_text2 names base line ≡ decimal (line.time - base) ++ (space ++ (actor_text names line.actor ++ (space ++ event_text names line.event)))
    line_parts line = regroup_line (decimal (line.time - base)) space (actor_text names line.actor) space (event_text names line.event)

    to_line : (t : List ℕ) (line : Line) → IsRead t line → IsLineText t line
    to_line t line (n, r, since, number, (r', gap, (s, (is, valid, text), made_of))) =
        let most : n ≤ 2 ^ 63 - 1 - base = leb-true n (2 ^ 63 - 1 - base) (and_parts (nat_le 0 n) (nat_le n (2 ^ 63 - 1 - base)) since).1 in
        let back : base + n - base ≡ n = omega arith in
        let whole : t ≡ decimal n ++ (space ++ (actor_text names s.0 ++ (space ++ event_text names s.1))) = rw (number, gap, text) refl in
        let spelled : t ≡ line_text2 names base (line_of n s) = whole ∙ (ap (λ m. decimal m ++ (space ++ (actor_text names s.0 ++ (space ++ event_text names s.1)))) (sym back) ∙ sym (line_parts (line_of n s))) in
        rw made_of (and_from _ _ (and_from _ _ (lt-ltb (base + n) (2 ^ 63) (omega arith)) is) valid, omega arith, spelled)

    from_line : (t : List ℕ) (line : Line) → IsLineText t line → IsRead t line
    from_line t line (is, later, whole) =
        let (first, valid) = and_parts (nat_lt line.time (2 ^ 63) && is_actor_of device_count caller_count line.actor) (is_event_of device_count line.event) is in
        let (time, actor) = and_parts (nat_lt line.time (2 ^ 63)) (is_actor_of device_count caller_count line.actor) first in
        let within : line.time < 2 ^ 63 = ltb-true line.time (2 ^ 63) time in
        let since : IsSince (line.time - base) ≡ true = and_from _ _ (le-leb 0 (line.time - base) (omega arith)) (le-leb (line.time - base) (2 ^ 63 - 1 - base) (omega arith)) in
        let forth : base + (line.time - base) ≡ line.time = omega arith in
        (line.time - base, _, since, whole ∙ line_parts line, (_, refl, ((line.actor, line.event), (actor, valid, refl), ap (λ n. record { time = n; actor = line.actor; event = line.event }) (sym forth))))

    line_reads : 0 < device_count + caller_count → Reads (some_line_at names base) IsLineText
    line_reads some = reads-along _ _ _ to_line from_line (some_line_reads some)

    some_answers : 0 < device_count + caller_count → Answers (some_line_at names base) IsLineText
    some_answers some = answers (some_line_at names base) IsLineText (line_reads some)

    -- over no actor there is no line
    none_answers : device_count ≡ 0 → caller_count ≡ 0 → Answers (λ bytes. Err (length bytes)) IsLineText
    none_answers no_devices no_callers = record {
      sound = λ bytes line h. (cc);
      complete = λ bytes line h. absurd (no_actor line h);
      most = λ bytes left h t line s. absurd (no_actor line s);
      reached = λ bytes left h. inl (cc);
      within = λ bytes left h. let same : left ≡ length bytes = cc in omega arith;
    }
      where
        no_step : (a : ActorId) → is_actor_of device_count caller_count a ≡ true → ⊥
        no_step (Caller c) is = omega (arith, ltb-true c caller_count is)
        no_step (Work d) is = omega (arith, ltb-true d device_count is)
        no_step (Timer d) is = omega (arith, ltb-true d device_count is)

        no_actor : {t : List ℕ} (line : Line) → IsLineText t line → ⊥
        no_actor line (is, later, whole) =
            let (first, valid) = and_parts (nat_lt line.time (2 ^ 63) && is_actor_of device_count caller_count line.actor) (is_event_of device_count line.event) is in
            let (time, actor) = and_parts (nat_lt line.time (2 ^ 63)) (is_actor_of device_count caller_count line.actor) first in
            no_step line.actor actor

    -- reading a line answers exactly, and says how far the bytes are those of some line
    pub line_answers : Answers (line_at names base) IsLineText
    unfolding line_at
    line_answers = elim (cases_Bool (nat_eq device_count 0)) [
      | inl no_devices ↦ elim (cases_Bool (nat_eq caller_count 0)) [
        | inl no_callers ↦ answers-same _ _ _ (λ bytes. rw (no_devices, no_callers) refl) (none_answers (eqb-true device_count 0 no_devices) (eqb-true caller_count 0 no_callers))
        | inr callers ↦ answers-same _ _ _ (λ bytes. rw (no_devices, callers) refl) (some_answers (omega (arith, nonzero caller_count callers)))
      ]
      | inr devices ↦ answers-same _ _ _ (λ bytes. rw devices refl) (some_answers (omega (arith, nonzero device_count devices)))
    ]
