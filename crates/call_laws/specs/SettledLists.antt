-- A list of calls that ends in a settled run leaves a sheet in normal form.
use Rattle.std.specs.Prelude.{true, false, List, [], ◌∷◌, ◌++◌, ◌⊎◌, ◌↔◌, ◌≡◌, refl, ℕ, suc, ◌≤◌}
use Rattle.std.proofs.Common.{inl, inr, ⊎_elim, sym, ap, subst, arith}
use Rattle.model.specs.Literal.{Literal}
use Rattle.model.specs.Forest.{root, or, Forest, nil, node, constant, kids, has_unit}
use Rattle.model.specs.Code.{Node, encode}
use Rattle.model.specs.Clauses.{Derived, Contradictory, clauses}
use Rattle.model.specs.Rules.{NoRule}
use Rattle.model.specs.Strategy as strategy
use Rattle.model.specs.Sheet.{options_in, nodes_in, is_sheet, clauses_in, is_unit, Falsum}
use Rattle.model.specs.Results.{run_through}
use Rattle.calls.specs.Outcomes.{if_accepted, Outcome}
use Rattle.calls.specs.Lines.{State}
use Rattle.calls.specs.Index.{Indexed}
use Rattle.calls.specs.Chains.{run_refusal}
use Rattle.calls.specs.Calls.{Ran, run_of, run_with}
use Rattle.calls.specs.History.{Call, key, withdraw, step, run, after_call, after_calls, Account, account_call, says_settled, ends_settled}
use Rattle.theory_forms.specs.Logic.{true_false, either}
use Rattle.theory_meaning.specs.Clauses.{clauses_root}
use Rattle.theory_forms.specs.Shape.{shaped_decode}
use Rattle.call_laws.specs.Normal.{normal_form, falsum_contradictory}
use Rattle.theory_rewriting.specs.Runs.{run_steps, run_settled, run_stopped, run_is}
use Rattle.theory_forms.specs.Sheets.{sheet_shaped}
use Rattle.theory_index.specs.WithIndex.{with_cases}
use Rattle.call_laws.specs.Effects.{Agrees, call_effect, run_leaves}

-- A run that says settled leaves a sheet to which no rule applies.
settled_call :
    (c : Call) (t : State) →
    is_sheet t.sheet ≡ true →
    says_settled c t ≡ true →
    NoRule (nodes_in (after_call c t).sheet)
unfolding says_settled after_call if_accepted run_with run_of run_through
settled_call (key index v negative) t h e = true_false (sym e)
settled_call (withdraw b index k) t h e = true_false (sym e)
settled_call (step index r p i j) t h e = true_false (sym e)
settled_call (run index b) t h e =
    with_cases (λ u. u) s index _ _ (run_refusal s) Settled
    (λ r said. true_false (sym said))
    (λ none right said. subst NoRule (sym (run_leaves s b h)) ((run_settled b (nodes_in s)).0 said))
    e
  where
    s : List ℕ
    s = t.sheet

    Settled : Outcome (Indexed (List ℕ)) Ran → Type 0
    Settled o = if_accepted o.answer false (λ r. r.settled) ≡ true → NoRule (nodes_in o.lent.own)

pub ends_no_rule :
    (cs : List Call) (t : State) (a : Account) →
    Agrees a t →
    ends_settled cs t ≡ true →
    NoRule (nodes_in (after_calls cs t).sheet)
unfolding ends_settled after_calls
ends_no_rule [] t a h e = true_false (sym e)
ends_no_rule (c ∷ []) t a h e = settled_call c t h.keeps.sheet e
ends_no_rule (c ∷ (d ∷ cs)) t a h e =
    ends_no_rule (d ∷ cs) (after_call c t) (account_call c t a) (call_effect c t a h).agrees e

-- A list says settled where its last call does.
pub ends_last : (cs : List Call) (c : Call) (t : State) → ends_settled (cs ++ (c ∷ [])) t ≡ says_settled c (after_calls cs t)
unfolding ends_settled after_calls
ends_last [] c t = refl
ends_last (x ∷ []) c t = refl
ends_last (x ∷ (y ∷ cs)) c t = ends_last (y ∷ cs) c (after_call x t)

-- A run whose budget of one more would not be spent is settled.
pub run_enough : (b : ℕ) (ns : List Node) → (strategy.run (suc b) ns).count ≤ b → (strategy.run b ns).settled ≡ true
run_enough b ns few =
    let said = either (strategy.run (suc b) ns).settled in
    let settled : (strategy.run (suc b) ns).settled ≡ true = ⊎_elim (λ e. e) (λ e. absurd (omega (arith, run_stopped (suc b) ns e))) said in
    ap (λ r. r.settled) (run_is b (run_steps (suc b) ns) few ((run_settled (suc b) ns).0 settled))

-- A root in normal form is the falsum exactly if it is contradictory, and otherwise its units are the derived literals.
abbrev Normal : Forest → Type 0
Normal f =
    ((f ≡ node root (constant or) nil) ↔ Contradictory (clauses root f))
    × ((Contradictory (clauses root f) → ⊥) → (l : Literal) → (has_unit l (kids f) ≡ true) ↔ Derived (clauses root f) l)

falsum_normal : Contradictory (clauses root (node root (constant or) nil))
falsum_normal = rw (clauses_root (constant or)) falsum_contradictory

root_normal :
    (k : Forest) →
    (k ≡ constant or) ⊎ ((Contradictory (clauses root k) → ⊥) × ((l : Literal) → (has_unit l k ≡ true) ↔ Derived (clauses root k) l)) →
    Normal (node root k nil)
unfolding kids
root_normal k (inl e) =
    let conflict : Contradictory (clauses root (node root k nil)) = rw e falsum_normal in
    (((λ q. conflict), λ c. ap (λ x. node root x nil) e), λ no. absurd (no conflict))
root_normal k (inr w) =
    rw (clauses_root k)
    (((λ q. subst (λ x. Contradictory (clauses root x)) (sym (ap kids q)) falsum_contradictory), λ c. absurd (w.0 c)), λ no. w.1)

-- Where no rule applies to a sheet, it is the falsum exactly if contradictory, and otherwise its units are the derived literals.
pub sheet_normal :
    (s : List ℕ) →
    is_sheet s ≡ true →
    NoRule (nodes_in s) →
    (Falsum s ↔ Contradictory (clauses_in s))
    × ((Contradictory (clauses_in s) → ⊥) → (l : Literal) → (is_unit l s ≡ true) ↔ Derived (clauses_in s) l)
unfolding clauses_in is_unit
sheet_normal s h calm =
    let form = sheet_shaped s h in
    let here : NoRule (encode (node root form.kids nil)) = subst NoRule form.spelled calm in
    subst Normal (sym (shaped_decode form)) (root_normal form.kids (normal_form (options_in s) form.kids form.fine here))
