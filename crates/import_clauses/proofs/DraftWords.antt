-- What is left to write, by the words that are left to read.
use mathlib.Core.Bool.{Bool, true, false}
use mathlib.Core.List.{List, [], ◌∷◌, flatten}
use mathlib.Core.Option.{Option, none, some}
use mathlib.Core.Path.{◌≡◌, refl, sym, ap, ◌∙◌}
use Prim.Native.Nat.{ℕ, ◌+◌, ◌≤◌, ◌<◌}
use native.Mathlib.Omega.{arith}
use lib.ListN.{length}
use Rattle.model.specs.Base.{pick, then}
use Rattle.model.specs.Literal.{Literal}
use Rattle.model.specs.Clauses.{Clause}
use Rattle.model.specs.Code.{leaf}
use Rattle.texts.specs.ClauseFile.{mark_of_word, closes, with_mark, clauses_of_words}
use Rattle.theory_forms.specs.Logic.{true_false, none_some, some_inj}
use Rattle.import_clauses.specs.Drafts.{with_nodes, closed, drafted}
use Rattle.import_clauses.proofs.DraftLaws.{mark_drafted, close_drafted, none_drafted}

-- The clauses that are left, where the next one begins at node `first` and goes on at `next`: with them the book gets its `rules` and
-- `nodes`, and the list `made`.
pub record Left (n contents bodies rules nodes : ℕ) (made : List ℕ) (ws : List (List ℕ)) (k first next : ℕ) (l : List ℕ) : Type 0 where
  pub clauses : List Clause
  pub read : clauses_of_words n ws ≡ some clauses
  pub due : drafted contents bodies k first next clauses l ≡ made
  pub rules_due : k + length clauses ≡ rules
  pub nodes_due : next + (length clauses + length (flatten clauses)) ≡ nodes + 1

-- The words that are left without the first one: whether it closes a clause, what was read of those after it, and the mark that it is.
close_read :
    (c : Bool) (o : Option (List Clause)) (m : Option Literal) {all : List Clause} →
    c ≡ true →
    then o (λ cs. pick c (some ([] ∷ cs)) (then m (λ l. with_mark l cs))) ≡ some all →
    (cs : List Clause) × (o ≡ some cs) × ([] ∷ cs ≡ all)
unfolding then pick
close_read c none m e r = none_some r
close_read true (some cs) m e r = (cs, refl, some_inj r)
close_read false (some cs) m e r = true_false (sym e)

pub record Marked (o : Option (List Clause)) (m : Option Literal) (all : List Clause) : Type 0 where
  pub mark : Literal
  pub clause : Clause
  pub later : List Clause
  pub is_mark : m ≡ some mark
  pub before : o ≡ some (clause ∷ later)
  pub after : (mark ∷ clause) ∷ later ≡ all

mark_read :
    (c : Bool) (o : Option (List Clause)) (m : Option Literal) {all : List Clause} →
    c ≡ false →
    then o (λ cs. pick c (some ([] ∷ cs)) (then m (λ l. with_mark l cs))) ≡ some all →
    Marked o m all
unfolding then pick with_mark
mark_read c none m e r = none_some r
mark_read true (some cs) m e r = true_false e
mark_read false (some cs) none e r = none_some r
mark_read false (some []) (some l) e r = none_some r
mark_read false (some (c ∷ cs)) (some l) e r =
    record { mark = l; clause = c; later = cs; is_mark = refl; before = refl; after = some_inj r }

module _ (n contents bodies rules nodes : ℕ) (made : List ℕ) where
  -- From the first word on.
  pub left_first :
      (ws : List (List ℕ)) (cs : List Clause) (l : List ℕ) →
      clauses_of_words n ws ≡ some cs →
      drafted contents bodies 0 0 1 cs l ≡ made →
      length cs ≡ rules →
      length cs + length (flatten cs) ≡ nodes →
      Left n contents bodies rules nodes made ws 0 0 1 l
  left_first ws cs l e f r t = record { clauses = cs; read = e; due = f; rules_due = omega arith; nodes_due = omega arith }

  -- With no word left, all is made.
  pub left_none : {k first next : ℕ} {l : List ℕ} → Left n contents bodies rules nodes made [] k first next l → l ≡ made
  unfolding clauses_of_words
  left_none {k} {first} {next} {l} s =
      sym (none_drafted contents bodies k first next l)
      ∙ ap (λ cs. drafted contents bodies k first next cs l) (some_inj s.read)
      ∙ s.due

  -- A word that closes the clause.
  pub left_close :
      (w : List ℕ) {ws : List (List ℕ)} {k first next : ℕ} {l : List ℕ} →
      closes w ≡ true →
      Left n contents bodies rules nodes made (w ∷ ws) k first next l →
      (k < rules)
      × (next ≤ nodes)
      × Left n contents bodies rules nodes made ws (k + 1) next (next + 1) (closed contents bodies k first next l)
  unfolding clauses_of_words flatten
  left_close w {ws} {k} {first} {next} {l} e s =
      let (cs, f, g) = close_read (closes w) (clauses_of_words n ws) (mark_of_word n w) e s.read in
      let r = ap length g in
      let m = ap (λ cs. length (flatten cs)) g in (
        omega arith,
        omega arith,
        record {
          clauses = cs;
          read = f;
          due = sym (close_drafted contents bodies k first next cs l) ∙ ap (λ cs. drafted contents bodies k first next cs l) g ∙ s.due;
          rules_due = omega arith;
          nodes_due = omega arith;
        },
      )

  -- A word that is a mark.
  pub left_mark :
      (w : List ℕ) {ws : List (List ℕ)} {k first next : ℕ} {l : List ℕ} →
      closes w ≡ false →
      Left n contents bodies rules nodes made (w ∷ ws) k first next l →
      (m : Literal)
      × (mark_of_word n w ≡ some m)
      × (next < nodes)
      × Left n contents bodies rules nodes made ws k first (next + 1) (with_nodes bodies next (leaf m ∷ []) l)
  unfolding clauses_of_words flatten
  left_mark w {ws} {k} {first} {next} {l} e s =
      let d = mark_read (closes w) (clauses_of_words n ws) (mark_of_word n w) e s.read in
      let r = ap length d.after in
      let m = ap (λ cs. length (flatten cs)) d.after in
      let cs : List Clause = d.clause ∷ d.later in (
        d.mark,
        d.is_mark,
        omega arith,
        record {
          clauses = cs;
          read = d.before;
          due = sym (mark_drafted contents bodies k first next d.mark d.clause d.later l)
              ∙ ap (λ cs. drafted contents bodies k first next cs l) d.after ∙ s.due;
          rules_due = omega arith;
          nodes_due = omega arith;
        },
      )
