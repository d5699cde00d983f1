-- How large a clause file is, and the book that it gives: nodes, marks, weight, bytes.
use mathlib.Core.List.{List, [], ◌∷◌, map, flatten}
use Rattle.std.specs.Prelude.{◌≡◌, refl, suc, ◌+◌, ◌*◌, length}
use Rattle.std.proofs.Common.{ap, arith, length-append}
use Rattle.std.proofs.lemmas.List.{length-map}
use Rattle.model.specs.Forest.{root}
use Rattle.model.specs.Code.{leaf, head, literals, weight}
use Rattle.model.specs.Clauses.{Clause}
use Rattle.texts.specs.ClauseFile.{File}
use Rattle.texts.specs.ClauseBook.{nodes_of_clause, nodes_of_file}
use Rattle.theory_forms.specs.Codes.{literals_append}

pub length_clause : (c : Clause) → length (nodes_of_clause c) ≡ suc (length c)
unfolding nodes_of_clause
length_clause c = ap suc (length-map c leaf)

literals_marks : (c : Clause) → literals (map leaf c) ≡ length c
unfolding literals
literals_marks [] = refl
literals_marks (l ∷ c) = ap suc (literals_marks c)

pub literals_clause : (c : Clause) → literals (nodes_of_clause c) ≡ length c
unfolding nodes_of_clause literals
literals_clause c = literals_marks c

-- The nodes of clauses one after another: an any-of for each clause, and the marks.
pub length_clauses : (cs : List Clause) → length (flatten (map nodes_of_clause cs)) ≡ length cs + length (flatten cs)
unfolding flatten
length_clauses [] = refl
length_clauses (c ∷ cs) =
    let nodes = length-append (nodes_of_clause c) (flatten (map nodes_of_clause cs)) in
    omega (arith, length_clause c, length_clauses cs, length-append c (flatten cs))

literals_clauses : (cs : List Clause) → literals (flatten (map nodes_of_clause cs)) ≡ length (flatten cs)
unfolding flatten literals
literals_clauses [] = refl
literals_clauses (c ∷ cs) =
    let marks = literals_append (nodes_of_clause c) (flatten (map nodes_of_clause cs)) in
    omega (arith, literals_clause c, literals_clauses cs, length-append c (flatten cs))

module _ (f : File) where
  pub length_nodes : length (nodes_of_file f) ≡ length f.clauses + length (flatten f.clauses)
  unfolding nodes_of_file
  length_nodes = length_clauses f.clauses

  pub literals_nodes : literals (nodes_of_file f) ≡ length (flatten f.clauses)
  unfolding nodes_of_file
  literals_nodes = literals_clauses f.clauses

  -- "The weight is nodes plus marks (root counted)."
  pub weight_nodes :
      weight (head root (length f.clauses) ∷ nodes_of_file f) ≡ 1 + length f.clauses + 2 * length (flatten f.clauses)
  unfolding weight literals
  weight_nodes = omega (arith, length_nodes, literals_nodes)
