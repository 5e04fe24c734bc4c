-- What reading a line over a plan answers, in the words of the contracts.
use Rattle.std.proofs.Common.{◌≡◌, ℕ, ◌-◌, ◌+◌, ◌<◌, ◌≤◌, ◌^◌, true, ◌&&◌, nat_lt, List, length, Result, Ok, Err, IfErr, IfOk, refl, ap, sym, ◌∙◌, ◌⊎◌, inl, inr, arith}
use Rattle.std.proofs.lemmas.Bool.{and_parts, ltb-true}
use Rattle.std.proofs.lemmas.List.{length-map}
use Rattle.pm_model.specs.LineOf.{is_actor_of, is_event_of, is_line, is_line_of}
use Rattle.pm_model.specs.Spelling.{line_text, line_text2}
use Rattle.pm_model.specs.Text.{IsText2Of, IsTextOf, names_of}
use Rattle.pm_model.specs.declared.event.Line.{Line}
use Rattle.pm_model.specs.declared.plan.Plan.{Plan}
use Rattle.pm_lineread.specs.declared.TextFault.{TextFault}
use Rattle.pm_lineread.specs.Reading.{line_at}
use Rattle.pm_lineread.specs.Texts.{IsLongest}
use Rattle.pm_lineread.proofs.LineReads.{Answers, IsLineText, line_answers}
use Rattle.pm_lineread.proofs.PlanNames.{are_names}
use Rattle.pm_lineread.proofs.Readers.{one_answer}
use Rattle.pm_lineread.proofs.Shared.{shared}

-- a line of the plan is one over as many names
counts_alike : (plan : Plan) (line : Line) → is_line (length (names_of plan).devices) (length (names_of plan).callers) line ≡ is_line_of plan line
counts_alike plan line =
    ap (λ n. is_line n (length (names_of plan).callers) line) (length-map plan.devices (λ row. row.name)) ∙ ap (λ n. is_line (length plan.devices) n line) (length-map plan.callers (λ row. row.name))

module _ (plan : Plan) (base : ℕ) (early : base < 2 ^ 63) where
  answers_of : Answers (line_at (names_of plan) base) (IsLineText (names_of plan) (are_names plan) base early)
  answers_of = line_answers (names_of plan) (are_names plan) base early

  to_text2 : (t : List ℕ) (line : Line) → IsLineText (names_of plan) (are_names plan) base early t line → IsText2Of plan base line t
  to_text2 t line (is, later, whole) = (sym (counts_alike plan line) ∙ is, later, sym whole)

  from_text2 : (t : List ℕ) (line : Line) → IsText2Of plan base line t → IsLineText (names_of plan) (are_names plan) base early t line
  from_text2 t line (is, later, whole) = (counts_alike plan line ∙ is, later, sym whole)

  pub read_text2 : (bytes : List ℕ) (line : Line) → line_at (names_of plan) base bytes ≡ Ok line → IsText2Of plan base line bytes
  read_text2 bytes line h = to_text2 bytes line (answers_of.sound bytes line h)

  pub text2_read : (bytes : List ℕ) (line : Line) → IsText2Of plan base line bytes → line_at (names_of plan) base bytes ≡ Ok line
  text2_read bytes line spelled = answers_of.complete bytes line (from_text2 bytes line spelled)

  pub left_fits : (bytes : List ℕ) (left : ℕ) → line_at (names_of plan) base bytes ≡ Err left → left ≤ length bytes
  left_fits bytes left h = answers_of.within bytes left h

  pub fault_longest : (bytes : List ℕ) (left : ℕ) → line_at (names_of plan) base bytes ≡ Err left → IsLongest (IsText2Of plan base) bytes (length bytes - left)
  fault_longest bytes left h = record {
    within = omega arith;
    reached = near (answers_of.reached bytes left h);
    most = λ line text spelled. omega (arith, answers_of.most bytes left h text line (from_text2 text line spelled), left_fits bytes left h);
  }
    where
      near : (left ≡ length bytes) ⊎ ((t : List ℕ) × (line : Line) × IsLineText (names_of plan) (are_names plan) base early t line × (length bytes ≤ shared bytes t + left)) → (length bytes - left ≡ 0) ⊎ ((line : Line) × (text : List ℕ) × IsText2Of plan base line text × (length bytes - left ≤ shared bytes text))
      near (inl all) = inl (omega arith)
      near (inr (t, line, spelled, most)) = inr (line, t, to_text2 t line spelled, omega (arith, most))

  pub not_text2 : (bytes : List ℕ) (left : ℕ) → line_at (names_of plan) base bytes ≡ Err left → (line : Line) → IsText2Of plan base line bytes → ⊥
  not_text2 bytes left h line spelled = let read = text2_read bytes line spelled in cc (h, read)

-- format 1 is format 2 behind a line of time 0

text2_from_0 : (plan : Plan) (line : Line) → line_text2 (names_of plan) 0 line ≡ line_text (names_of plan) line
text2_from_0 plan line = let same : line.time - 0 ≡ line.time = omega arith in ap (λ n. line_text (names_of plan) (record line { time = n })) same

pub from_text1 : (plan : Plan) (line : Line) (bytes : List ℕ) → IsTextOf plan line bytes → IsText2Of plan 0 line bytes
from_text1 plan line bytes (is, whole) = (is, omega arith, text2_from_0 plan line ∙ whole)

pub to_text1 : (plan : Plan) (line : Line) (bytes : List ℕ) → IsText2Of plan 0 line bytes → IsTextOf plan line bytes
to_text1 plan line bytes (is, later, whole) = (is, sym (text2_from_0 plan line) ∙ whole)

longest_text1 : (plan : Plan) (bytes : List ℕ) (at : ℕ) → IsLongest (IsText2Of plan 0) bytes at → IsLongest (IsTextOf plan) bytes at
longest_text1 plan bytes at h = record {
  within = h.within;
  reached = near h.reached;
  most = λ line text spelled. h.most line text (from_text1 plan line text spelled);
}
  where
    near : (at ≡ 0) ⊎ ((line : Line) × (text : List ℕ) × IsText2Of plan 0 line text × (at ≤ shared bytes text)) → (at ≡ 0) ⊎ ((line : Line) × (text : List ℕ) × IsTextOf plan line text × (at ≤ shared bytes text))
    near (inl none) = inl none
    near (inr (line, text, spelled, most)) = inr (line, text, to_text1 plan line text spelled, most)

pub text1 : (plan : Plan) (bytes : List ℕ) (r : Result Line TextFault) → IfOk r (λ line. IsText2Of plan 0 line bytes) → IfOk r (λ line. IsTextOf plan line bytes)
text1 plan bytes (Ok line) h = to_text1 plan line bytes h
text1 plan bytes (Err fault) h = tt

pub fault1 : (plan : Plan) (bytes : List ℕ) (r : Result Line TextFault) → IfErr r (λ _. (line : Line) → IsText2Of plan 0 line bytes → ⊥) → IfErr r (λ _. (line : Line) → IsTextOf plan line bytes → ⊥)
fault1 plan bytes (Ok line) h = tt
fault1 plan bytes (Err fault) h = λ line spelled. h line (from_text1 plan line bytes spelled)

pub at1 : (plan : Plan) (bytes : List ℕ) (r : Result Line TextFault) → IfErr r (λ fault. IsLongest (IsText2Of plan 0) bytes fault.at) → IfErr r (λ fault. IsLongest (IsTextOf plan) bytes fault.at)
at1 plan bytes (Ok line) h = tt
at1 plan bytes (Err fault) h = longest_text1 plan bytes fault.at h

-- the law

early_base : (plan : Plan) (base : ℕ) (line : Line) → is_line_of plan line ≡ true → base ≤ line.time → base < 2 ^ 63
early_base plan base line is later =
    let (first, _) = and_parts (nat_lt line.time (2 ^ 63) && is_actor_of (length plan.devices) (length plan.callers) line.actor) (is_event_of (length plan.devices) line.event) is in
    let (time, _) = and_parts (nat_lt line.time (2 ^ 63)) (is_actor_of (length plan.devices) (length plan.callers) line.actor) first in
    omega (arith, ltb-true line.time (2 ^ 63) time)

pub distinct2 : (plan : Plan) (base : ℕ) (a b : Line) → is_line_of plan a ≡ true → is_line_of plan b ≡ true → base ≤ a.time → base ≤ b.time → line_text2 (names_of plan) base a ≡ line_text2 (names_of plan) base b → a ≡ b
distinct2 plan base a b a_is b_is a_later b_later same =
    let early = early_base plan base a a_is a_later in
    let text = line_text2 (names_of plan) base a in
    one_answer (line_at (names_of plan) base text) a b (text2_read plan base early text a (a_is, a_later, refl)) (text2_read plan base early text b (b_is, b_later, sym same))

pub distinct1 : (plan : Plan) (a b : Line) → is_line_of plan a ≡ true → is_line_of plan b ≡ true → line_text (names_of plan) a ≡ line_text (names_of plan) b → a ≡ b
distinct1 plan a b a_is b_is same = distinct2 plan 0 a b a_is b_is (omega arith) (omega arith) (text2_from_0 plan a ∙ (same ∙ sym (text2_from_0 plan b)))
