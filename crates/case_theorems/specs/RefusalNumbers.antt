-- "A refusal is its number alone", so two of them may not have the same.
use Rattle.std.specs.Prelude.{List, [], ◌∷◌, ◌≡◌, refl, ◌-◌, get_or}
use Rattle.std.proofs.Common.{sym, ap, ◌∙◌}
use Rattle.calls.specs.Refusals.{Refusal, refusal_number}
use Rattle.calls.specs.Refusals.{length_refused, head_refused, code_refused, contents_refused, body_refused, weight_refused}
use Rattle.calls.specs.Refusals.{option_refused, full_refused, rule_refused, step_refused, sheet_refused, output_refused}
use Rattle.calls.specs.Refusals.{line_refused, list_refused, text_refused, size_refused}

-- The refusals as they are numbered, from 1 on.
in_order : List Refusal
in_order =
    length_refused
    ∷ head_refused
    ∷ code_refused
    ∷ contents_refused
    ∷ body_refused
    ∷ weight_refused
    ∷ option_refused
    ∷ full_refused
    ∷ rule_refused
    ∷ step_refused
    ∷ sheet_refused
    ∷ output_refused
    ∷ line_refused
    ∷ list_refused
    ∷ text_refused
    ∷ size_refused
    ∷ []

numbered : (r : Refusal) → get_or in_order (refusal_number r - 1) length_refused ≡ r
unfolding in_order refusal_number
numbered length_refused = refl
numbered head_refused = refl
numbered code_refused = refl
numbered contents_refused = refl
numbered body_refused = refl
numbered weight_refused = refl
numbered option_refused = refl
numbered full_refused = refl
numbered rule_refused = refl
numbered step_refused = refl
numbered sheet_refused = refl
numbered output_refused = refl
numbered line_refused = refl
numbered list_refused = refl
numbered text_refused = refl
numbered size_refused = refl

-- No two refusals share a number.
pub no_two_share : (r s : Refusal) → refusal_number r ≡ refusal_number s → r ≡ s
no_two_share r s e = sym (numbered r) ∙ ap (λ n. get_or in_order (n - 1) length_refused) e ∙ numbered s
