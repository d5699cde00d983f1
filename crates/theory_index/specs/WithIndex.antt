-- Calls with an index, by the calls without one: what an index changes of a refusal, and of what a call leaves.
use Rattle.std.specs.Prelude.{Bool, true, false, List, ◌≡◌, ℕ}
use Rattle.std.proofs.Math.Option.{Option, none, some}
use Rattle.std.proofs.Math.Path.{refl, ap, subst}
use Rattle.std.proofs.Common.{sym, ◌∙◌, arith}
use Rattle.model.specs.Base.{only_if, first_of, then, placed}
use Rattle.calls.specs.Refusals.{Refusal, sheet_refused, output_refused}
use Rattle.calls.specs.Outcomes.{refused, accepted, Outcome, outcome, refusal_in, unless}
use Rattle.calls.specs.Index.{fresh_count, Indexed}
use Rattle.calls.specs.Conditions.{has_short_index, has_stale_index}
use Rattle.calls.specs.Chains.{key_refusal, withdraw_refusal, step_refusal, run_refusal, is_early, early, index_refusal}
use Rattle.calls.specs.Lines.{State}
use Rattle.calls.specs.Calls.{key_of, withdraw_of, step_of, run_of, with_index, key_with, withdraw_with, step_with, run_with}
use Rattle.theory_forms.specs.Logic.{none_some, first_none, only_none}
use Rattle.theory_index.specs.Right.{Right, right_tests, tests_right, placed_same}

-- What is refused with an index.

-- Nothing, exactly if nothing is without one and the index is right.
pub index_none :
    (s index : List ℕ) (own : Option Refusal) →
    index_refusal s index own ≡ none →
    (own ≡ none) × (has_stale_index s index ≡ false) × (has_short_index s index ≡ false)
unfolding index_refusal
index_none s index own e =
    let p = first_none (early own) _ e in
    let q = first_none (only_if (has_stale_index s index) sheet_refused) _ p.1 in
    let r = first_none own _ q.1 in
    (r.0, only_none (has_stale_index s index) sheet_refused q.0, only_none (has_short_index s index) output_refused r.1)

pub none_right : (s index : List ℕ) (own : Option Refusal) → index_refusal s index own ≡ none → (own ≡ none) × Right s index
none_right s index own e = let w = index_none s index own e in (w.0, tests_right s index w.1 w.2)

-- What is refused without one: a right index changes nothing.
pub right_same : (s index : List ℕ) (own : Option Refusal) → Right s index → index_refusal s index own ≡ own
unfolding index_refusal early then only_if first_of
right_same s index own h = rw ((right_tests s index h).0, (right_tests s index h).1) (go own)
  where
    again : (b : Bool) (r : Refusal) → first_of (only_if b r) (some r) ≡ some r
    again true r = refl
    again false r = refl

    go : (o : Option Refusal) → first_of (early o) (first_of o none) ≡ o
    go none = refl
    go (some r) = again (is_early r) r

-- An outcome, with an index beside it that has the fresh count of the sheet left at its start.
abbrev pub beside : {L A : Type 0} → (L → List ℕ) → List ℕ → Outcome L A → Outcome (Indexed L) A
beside sheet index o =
    record { answer = o.answer; lent = record { own = o.lent; index = placed (fresh_count (sheet o.lent)) index } }

-- What a call with an index does, where the call without one is an outcome: it is one too.
module _ {L A : Type 0} (sheet : L → List ℕ) (held : L) (index : List ℕ) (a : A) (filled : L) where
  abbrev held_with : Indexed L
  held_with = record { own = held; index = index }

  abbrev filled_with : Indexed L
  filled_with = record { own = filled; index = placed (fresh_count (sheet filled)) index }

  pub with_index_is :
      (own : Option Refusal) →
      with_index sheet held index (outcome own a held filled)
      ≡ outcome (index_refusal (sheet held) index own) a held_with filled_with
  unfolding with_index outcome refusal_in unless
  with_index_is none = go (index_refusal (sheet held) index none)
    where
      go :
          (o : Option Refusal) →
          unless o held_with (record { answer = accepted a; lent = filled_with }) ≡ outcome o a held_with filled_with
      go none = refl
      go (some r) = refl
  with_index_is (some r) = go (index_refusal (sheet held) index (some r)) refl _
    where
      go :
          (o : Option Refusal) →
          index_refusal (sheet held) index (some r) ≡ o →
          (other : Outcome (Indexed L) A) →
          unless o held_with other ≡ outcome o a held_with filled_with
      go none e other = none_some (sym (index_none (sheet held) index (some r) e).0)
      go (some x) e other = refl

  -- It refuses and leaves all that it held; or it does what the call without one does, where the index was right.
  pub with_cases :
      (own : Option Refusal) (P : Outcome (Indexed L) A → Type 0) →
      ((r : Refusal) → P (record { answer = refused r; lent = held_with })) →
      (own ≡ none → Right (sheet held) index → P (record { answer = accepted a; lent = filled_with })) →
      P (with_index sheet held index (outcome own a held filled))
  unfolding outcome
  with_cases own P kept done = subst P (sym (with_index_is own)) (go (index_refusal (sheet held) index own) refl)
    where
      go : (o : Option Refusal) → index_refusal (sheet held) index own ≡ o → P (outcome o a held_with filled_with)
      go none e = let w = none_right (sheet held) index own e in done w.0 w.1
      go (some r) e = kept r

  -- So where it gives a result, nothing is refused without an index, and this one had been right.
  pub with_accepted :
      (own : Option Refusal) {x : A} →
      (with_index sheet held index (outcome own a held filled)).answer ≡ accepted x →
      (own ≡ none) × Right (sheet held) index × ((with_index sheet held index (outcome own a held filled)).lent ≡ filled_with)
  with_accepted own {x} =
      with_cases own (λ o. o.answer ≡ accepted x → (own ≡ none) × Right (sheet held) index × (o.lent ≡ filled_with))
      (λ r e. let z : ◌≡◌ {A = ℕ} 0 1 = cc in absurd (omega arith))
      (λ e h q. (e, h, refl))

  -- With a right index it answers what it answers without one, and leaves the same of its own; the index is then right again.
  pub with_right :
      (own : Option Refusal) →
      Right (sheet held) index →
      with_index sheet held index (outcome own a held filled) ≡ beside sheet index (outcome own a held filled)
  unfolding outcome
  with_right own h = with_index_is own ∙ ap (λ o. outcome o a held_with filled_with) (right_same (sheet held) index own h) ∙ go own
    where
      go : (o : Option Refusal) → outcome o a held_with filled_with ≡ beside sheet index (outcome o a held filled)
      go none = refl
      go (some r) = rw (placed_same (sheet held) index h)

-- So it is with each of the four calls.
module _ (t : State) (index : List ℕ) (h : Right t.sheet index) where
  pub key_right : (v : ℕ) (negative : Bool) → key_with t index v negative ≡ beside (λ u. u.sheet) index (key_of t v negative)
  unfolding key_with key_of
  key_right v negative = with_right (λ u. u.sheet) t index tt _ (key_refusal t v) h

  pub withdraw_right : (book : List ℕ) (k : ℕ) → withdraw_with t book index k ≡ beside (λ u. u.sheet) index (withdraw_of t book k)
  unfolding withdraw_with withdraw_of
  withdraw_right book k = with_right (λ u. u.sheet) t index tt _ (withdraw_refusal t book k) h

module _ (s index : List ℕ) (h : Right s index) where
  pub step_right : (r p i j : ℕ) → step_with s index r p i j ≡ beside (λ u. u) index (step_of s r p i j)
  unfolding step_with step_of
  step_right r p i j = with_right (λ u. u) s index tt _ (step_refusal s r p i j) h

  pub run_right : (budget : ℕ) → run_with s index budget ≡ beside (λ u. u) index (run_of s budget)
  unfolding run_with run_of
  run_right budget = with_right (λ u. u) s index _ _ (run_refusal s) h
