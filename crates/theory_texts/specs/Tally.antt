-- Words counted from the left: the clauses that are closed, the marks, and whether a clause is open.
use Rattle.std.specs.Prelude.{Bool, true, false, not, ◌≡◌, ℕ, suc, ◌+◌, eqb, length}
use mathlib.Core.List.{List, [], ◌∷◌, flatten}
use Rattle.std.proofs.Common.{◌∙◌, arith}
use Rattle.std.proofs.Math.Option.{Option, none, some}
use Rattle.std.proofs.Math.Path.{refl, ap₂}
use Rattle.std.proofs.Math.ListN.{length-append}
use Rattle.model.specs.Base.{pick, only_if, then, is_some}
use Rattle.model.specs.Literal.{Literal}
use Rattle.model.specs.Clauses.{Clause}
use Rattle.texts.specs.ClauseFile.{mark_of_word, closes, with_mark, clauses_of_words}
use Rattle.theory_texts.specs.WordKinds.{kind_of_word}

pub record Tally : Type 0 where
  pub clauses : ℕ
  pub marks : ℕ

abbrev pub tallied : ℕ → ℕ → Tally
tallied k m = record { clauses = k; marks = m }

-- The count of the words to come, after so many clauses and marks, with a clause pending or not.
unfoldable pub tally : ℕ → ℕ → ℕ → Bool → List (List ℕ) → Option Tally
tally n k m pending [] = only_if (not pending) (tallied k m)
tally n k m pending (w ∷ ws) =
    pick (eqb (kind_of_word n w) 1) (tally n (suc k) m false ws)
    (pick (eqb (kind_of_word n w) 2) (tally n k (suc m) true ws) none)

-- What is to be said where clauses were read: none, if one is pending and no other follows.
unfoldable pub counted : ℕ → ℕ → Bool → List Clause → Option Tally
counted k m pending [] = only_if (not pending) (tallied k m)
counted k m pending (c ∷ cs) = some (tallied (k + length (c ∷ cs)) (m + length (flatten (c ∷ cs))))

-- One word more, by what was read of the words after it: a closing one, a mark, another.
module _ (k m : ℕ) (pending : Bool) where
  closed_more : (o : Option (List Clause)) → then o (counted (suc k) m false) ≡ then (then o (λ cs. some ([] ∷ cs))) (counted k m pending)
  unfolding then counted only_if flatten
  closed_more none = refl
  closed_more (some []) = ap₂ (λ a b. some (tallied a b)) (omega arith) (omega arith)
  closed_more (some (c ∷ cs)) = ap₂ (λ a b. some (tallied a b)) (omega arith) refl

  marked_more : (l : Literal) (o : Option (List Clause)) → then o (counted k (suc m) true) ≡ then (then o (with_mark l)) (counted k m pending)
  unfolding then counted only_if flatten with_mark
  marked_more l none = refl
  marked_more l (some []) = refl
  marked_more l (some (c ∷ cs)) = ap₂ (λ a b. some (tallied a b)) refl (omega (arith, length-append (l ∷ c) (flatten cs), length-append c (flatten cs)))

  other_more : (o : Option (List Clause)) → none ≡ then (then o (λ cs. none)) (counted k m pending)
  unfolding then
  other_more none = refl
  other_more (some cs) = refl

pub tally_counts : (n k m : ℕ) (pending : Bool) (ws : List (List ℕ)) → tally n k m pending ws ≡ then (clauses_of_words n ws) (counted k m pending)
unfolding tally clauses_of_words then counted kind_of_word pick is_some
tally_counts n k m pending [] = refl
tally_counts n k m pending (w ∷ ws) =
    go (closes w) (mark_of_word n w) (tally_counts n (suc k) m false ws) (tally_counts n k (suc m) true ws)
  where
    go :
        (c : Bool) (l : Option Literal) →
        tally n (suc k) m false ws ≡ then (clauses_of_words n ws) (counted (suc k) m false) →
        tally n k (suc m) true ws ≡ then (clauses_of_words n ws) (counted k (suc m) true) →
        pick (eqb (pick c 1 (pick (is_some l) 2 0)) 1) (tally n (suc k) m false ws)
        (pick (eqb (pick c 1 (pick (is_some l) 2 0)) 2) (tally n k (suc m) true ws) none)
        ≡ then (then (clauses_of_words n ws) (λ cs. pick c (some ([] ∷ cs)) (then l (λ x. with_mark x cs)))) (counted k m pending)
    go true l e f = e ∙ closed_more k m pending (clauses_of_words n ws)
    go false (some x) e f = f ∙ marked_more k m pending x (clauses_of_words n ws)
    go false none e f = other_more k m pending (clauses_of_words n ws)
