-- The clauses of a file as trees: an any-of of marks for each. Their code is the nodes of the file, and they mean the clauses again.
use Rattle.std.specs.Prelude.{Bool, true, ◌≡◌, refl, ℕ, suc, ltb, length}
use mathlib.Core.List.{List, [], ◌∷◌, ◌++◌, map, flatten}
use Rattle.std.proofs.Common.{ap, ap₂, ◌∙◌}
use Rattle.std.proofs.lemmas.List.{length-map}
use Rattle.model.specs.Base.{all}
use Rattle.model.specs.Literal.{option}
use Rattle.model.specs.Forest.{or, root, Forest, nil, lit, node, size, seated, all_seated}
use Rattle.model.specs.Code.{leaf, encode}
use Rattle.model.specs.Clauses.{Clause, clauses, unions}
use Rattle.model.specs.Book.{counts}
use Rattle.texts.specs.ClauseBook.{nodes_of_clause}
use Rattle.theory_forms.specs.Logic.{and_split, and_join}
use Rattle.theory_forms.specs.Lists.{all_append, all_map}
use Rattle.theory_forms.specs.Numbers.{plain, inner}
use Rattle.theory_forms.specs.Fine.{fine}
use Rattle.theory_forms.specs.Shape.{plain_encode}
use Rattle.theory_meaning.specs.Clauses.{root_node, root_nil, or_nil, or_lit}

-- The marks of a clause as trees side by side.
unfoldable pub marks : Clause → Forest
marks [] = nil
marks (l ∷ c) = lit l (marks c)

size_marks : (c : Clause) → size (marks c) ≡ length c
unfolding marks size
size_marks [] = refl
size_marks (l ∷ c) = ap suc (size_marks c)

encode_marks : (c : Clause) → encode (marks c) ≡ map leaf c
unfolding marks encode
encode_marks [] = refl
encode_marks (l ∷ c) = ap (λ ns. leaf l ∷ ns) (encode_marks c)

seated_marks : (c : Clause) → all_seated (marks c) ≡ true
unfolding marks all_seated
seated_marks [] = refl
seated_marks (l ∷ c) = seated_marks c

-- "Every union that takes one clause from each child": of marks, the clause of them all.
clauses_marks : (c : Clause) → clauses or (marks c) ≡ c ∷ []
unfolding marks unions
clauses_marks [] = or_nil
clauses_marks (l ∷ c) = or_lit l (marks c) ∙ ap (unions ((l ∷ []) ∷ [])) (clauses_marks c)

-- "Each clause becomes one any-of."
unfoldable pub trees : List Clause → Forest
trees [] = nil
trees (c ∷ cs) = node or (marks c) (trees cs)

pub size_trees : (cs : List Clause) → size (trees cs) ≡ length cs
unfolding trees size
size_trees [] = refl
size_trees (c ∷ cs) = ap suc (size_trees cs)

pub encode_trees : (cs : List Clause) → encode (trees cs) ≡ flatten (map nodes_of_clause cs)
unfolding trees encode flatten nodes_of_clause
encode_trees [] = refl
encode_trees (c ∷ cs) = rw (size_marks c, encode_marks c, encode_trees cs)

pub counts_trees : (cs : List Clause) → counts (trees cs) ≡ map (λ c. suc (length c)) cs
unfolding trees counts
counts_trees [] = refl
counts_trees (c ∷ cs) = ap₂ (λ k ks. suc k ∷ ks) (ap length (encode_marks c) ∙ length-map c leaf) (counts_trees cs)

pub seated_trees : (cs : List Clause) → all_seated (trees cs) ≡ true
unfolding trees all_seated seated
seated_trees [] = refl
seated_trees (c ∷ cs) = and_join (seated_marks c) (seated_trees cs)

pub clauses_trees : (cs : List Clause) → clauses root (trees cs) ≡ cs
unfolding trees
clauses_trees [] = root_nil
clauses_trees (c ∷ cs) = root_node or (marks c) (trees cs) ∙ ap₂ ◌++◌ (clauses_marks c) (clauses_trees cs)

-- Every mark names one of n options.
unfoldable pub named_in : ℕ → List Clause → Bool
named_in n cs = all (all (λ l. ltb (option l) n)) cs

-- Such clauses are trees that may stand below the root of a sheet.
plain_clause : (n : ℕ) (c : Clause) → all (λ l. ltb (option l) n) c ≡ true → all (plain n) (nodes_of_clause c) ≡ true
unfolding nodes_of_clause all plain inner
plain_clause n c h = all_map leaf (plain n) c ∙ h

plain_clauses : (n : ℕ) (cs : List Clause) → named_in n cs ≡ true → all (plain n) (flatten (map nodes_of_clause cs)) ≡ true
unfolding flatten all named_in
plain_clauses n [] h = refl
plain_clauses n (c ∷ cs) h =
    let s = and_split (all (λ l. ltb (option l) n) c) (named_in n cs) h in
    all_append (plain n) (nodes_of_clause c) (flatten (map nodes_of_clause cs))
    ∙ and_join (plain_clause n c s.0) (plain_clauses n cs s.1)

pub fine_trees : (n : ℕ) (cs : List Clause) → named_in n cs ≡ true → fine n (trees cs) ≡ true
fine_trees n cs h =
    plain_encode n (trees cs)
    ∙ and_join (ap (all (plain n)) (encode_trees cs) ∙ plain_clauses n cs h) (seated_trees cs)
