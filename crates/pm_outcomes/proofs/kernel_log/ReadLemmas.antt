-- What was read of a log, from its beginning, by one line more, and at its end.
use Rattle.std.proofs.Common.{◌≡◌, ℕ, ◌++◌, List, [], ◌∷◌, Option, Some, None, option_map, reverse, refl, ap, ◌∙◌, sym, subst, append_assoc}
use Rattle.std.specs.List.{cons_option, filter_map}
use Rattle.std.proofs.lemmas.List.{append-nil, reverse-append}
use Rattle.pm_model.specs.declared.plan.Plan.{Plan}
use Rattle.pm_outcomes.specs.declared.kernel_log.reading.Read.{Read}
use Rattle.pm_outcomes.specs.declared.kernel_log.tells.Told.{Told}
use Rattle.pm_outcomes.specs.kernel_log.Lines.{lines_in, lines_of}
use Rattle.pm_outcomes.specs.kernel_log.Rest.{IsReadTo, told_rest}
use Rattle.pm_outcomes.specs.kernel_log.Runs.{IsReadOf, last_run, outcome_of}
use Rattle.pm_outcomes.specs.kernel_log.Tells.{told_line}

pub starts : (plan : Plan) (log : List ℕ) (r : Read) → IsReadOf [] r → IsReadTo plan log (Some log) r
starts plan log r is = record { before = []; split = refl; is_read = is }

-- what the first line of a rest tells, and the others
rest_told : (plan : Plan) (text line : List ℕ) (rest : Option (List ℕ)) (o : Option Told) → lines_of text ≡ line ∷ lines_in rest → told_line plan line ≡ o
    → told_rest plan (Some text) ≡ cons_option o (told_rest plan rest)
rest_told plan text line rest o lines tells =
    ap (filter_map (told_line plan)) lines ∙ ap (λ (t : Option Told). cons_option t (told_rest plan rest)) tells

pub skips : (plan : Plan) (log text line : List ℕ) (rest : Option (List ℕ)) (r : Read) → lines_of text ≡ line ∷ lines_in rest → told_line plan line ≡ None
    → IsReadTo plan log (Some text) r → IsReadTo plan log rest r
skips plan log text line rest r lines tells is = record {
  before = is.before;
  split = is.split ∙ ap (λ l. is.before ++ l) (rest_told plan text line rest None lines tells);
  is_read = is.is_read;
}

pub takes : (plan : Plan) (log text line : List ℕ) (rest : Option (List ℕ)) (told : Told) (r s : Read) → lines_of text ≡ line ∷ lines_in rest
    → told_line plan line ≡ Some told → ((ts : List Told) → IsReadOf ts r → IsReadOf (told ∷ ts) s) → IsReadTo plan log (Some text) r → IsReadTo plan log rest s
takes plan log text line rest told r s lines tells step is = record {
  before = is.before ++ told ∷ [];
  split = is.split ∙ (ap (λ l. is.before ++ l) (rest_told plan text line rest (Some told) lines tells) ∙ sym (append_assoc is.before (told ∷ []) (told_rest plan rest)));
  is_read = subst (λ ts. IsReadOf ts s) (sym (reverse-append is.before (told ∷ []))) (step (reverse is.before) is.is_read);
}

pub ends : (plan : Plan) (log : List ℕ) (r : Read) → IsReadTo plan log None r → option_map (λ tells. reverse tells.items) r.last ≡ outcome_of plan log
ends plan log r is = is.is_read.last ∙ ap (λ ts. last_run (reverse ts)) (sym (is.split ∙ append-nil is.before))
