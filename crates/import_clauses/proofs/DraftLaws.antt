-- Clauses written from the left: a mark more, a clause closed; and what stands when all are written.
use mathlib.Core.List.{List, [], ◌∷◌, ◌++◌, map, flatten, map-append}
use mathlib.Core.Path.{◌≡◌, refl, sym, ap, ◌∙◌}
use Prim.Native.Nat.{ℕ, suc, ◌+◌, ◌-◌, ◌*◌, ◌≤◌}
use native.Mathlib.Nat.{add-zero}
use native.Mathlib.Numerals.{add-one}
use native.Mathlib.Omega.{arith}
use lib.ListN.{length, length-map}
use lib.Seq.{sets}
use Rattle.model.specs.Forest.{or}
use Rattle.model.specs.Code.{Node, leaf, head, number_of}
use Rattle.model.specs.Clauses.{Clause}
use Rattle.model.specs.Literal.{Literal}
use Rattle.model.specs.Book.{bytes_of, lined_up}
use Rattle.texts.specs.ClauseBook.{nodes_of_clause}
use Rattle.theory_formats.specs.Bytes.{length_bytes}
use Rattle.theory_imports.specs.Sizes.{length_clause}
use Rattle.book_bytes.proofs.NumberBytes.{bytes_append}
use Rattle.book_bytes.proofs.TreeContents.{length_lined}
use Rattle.import_clauses.specs.Drafts.{with_nodes, closed, drafted}
use Rattle.import_clauses.proofs.Stores.{sets_append, sets_apart, sets_before}

abbrev node_bytes : List Node → List ℕ
node_bytes ns = bytes_of (map number_of ns)

length_nodes : (ns : List Node) → length (node_bytes ns) ≡ 2 * length ns
length_nodes ns = length_bytes (map number_of ns) ∙ ap (λ n. 2 * n) (length-map ns number_of)

nodes_append : (ms ns : List Node) → node_bytes (ms ++ ns) ≡ node_bytes ms ++ node_bytes ns
nodes_append ms ns = ap bytes_of (map-append number_of ms ns) ∙ bytes_append (map number_of ms) (map number_of ns)

module _ (bodies : ℕ) where
  -- Nodes after others, and nodes before others.
  past : (first : ℕ) (ms : List Node) → bodies + 2 * first + length (node_bytes ms) ≡ bodies + 2 * (first + length ms)
  past first ms = omega (arith, length_nodes ms)

  pub nodes_after :
      (first : ℕ) (ms ns : List Node) (l : List ℕ) →
      with_nodes bodies (first + length ms) ns (with_nodes bodies first ms l) ≡ with_nodes bodies first (ms ++ ns) l
  unfolding with_nodes
  nodes_after first ms ns l =
      rw (← past first ms, nodes_append ms ns) (sym (sets_append l (bodies + 2 * first) (node_bytes ms) (node_bytes ns)))

  pub nodes_before :
      (first : ℕ) (ms ns : List Node) (l : List ℕ) →
      with_nodes bodies first ms (with_nodes bodies (first + length ms) ns l) ≡ with_nodes bodies first (ms ++ ns) l
  unfolding with_nodes
  nodes_before first ms ns l =
      rw (← past first ms, nodes_append ms ns) (sets_before l (bodies + 2 * first) (node_bytes ms) (node_bytes ns))

  -- Contents and nodes do not meet.
  pair_apart :
      (at first : ℕ) (xs : List ℕ) (ns : List Node) (l : List ℕ) →
      at + length xs ≤ bodies →
      sets (with_nodes bodies first ns l) at xs ≡ with_nodes bodies first ns (sets l at xs)
  unfolding with_nodes
  pair_apart at first xs ns l h = sym (sets_apart l at (bodies + 2 * first) xs (node_bytes ns) (omega arith))

module _ (contents bodies : ℕ) where
  -- A mark more of the clause that is written, its end, and the end of all.
  pub mark_drafted :
      (k first next : ℕ) (m : Literal) (c : Clause) (cs : List Clause) (l : List ℕ) →
      drafted contents bodies k first next ((m ∷ c) ∷ cs) l
      ≡ drafted contents bodies k first (next + 1) (c ∷ cs) (with_nodes bodies next (leaf m ∷ []) l)
  unfolding drafted
  mark_drafted k first next m c cs l =
      let longer : next + suc (length c) ≡ next + 1 + length c = omega arith in
      rw (longer, ← nodes_after bodies next (leaf m ∷ []) (map leaf c) l)

  pub close_drafted :
      (k first next : ℕ) (cs : List Clause) (l : List ℕ) →
      drafted contents bodies k first next ([] ∷ cs) l
      ≡ drafted contents bodies (k + 1) next (next + 1) cs (closed contents bodies k first next l)
  unfolding drafted with_nodes bytes_of
  close_drafted k first next cs l = rw (add-zero next, add-one k, add-one next)

  pub none_drafted : (k first next : ℕ) (l : List ℕ) → drafted contents bodies k first next [] l ≡ l
  unfolding drafted
  none_drafted k first next l = refl

  -- A clause that is written whole.
  clause_closed :
      (k first : ℕ) (c : Clause) (l : List ℕ) →
      contents + 4 * (k + 1) ≤ bodies →
      closed contents bodies k first (first + 1 + length c) (with_nodes bodies (first + 1) (map leaf c) l)
      ≡ with_nodes bodies first (nodes_of_clause c) (sets l (contents + 4 * k) (bytes_of (first ∷ suc (length c) ∷ [])))
  unfolding closed nodes_of_clause
  clause_closed k first c l h =
      let marks : first + 1 + length c - suc first ≡ length c = omega arith in
      let long : first + 1 + length c - first ≡ suc (length c) = omega arith in
      rw (marks, long, nodes_before bodies first (head or (length c) ∷ []) (map leaf c) l)
      (pair_apart bodies (contents + 4 * k) first (bytes_of (first ∷ suc (length c) ∷ [])) (nodes_of_clause c) l
      (omega (arith, length_bytes (first ∷ suc (length c) ∷ []))))

  -- It, and what is written of those after it.
  clause_more :
      (k first : ℕ) (c : Clause) (more : List ℕ) (ns : List Node) (l : List ℕ) →
      contents + 4 * (k + 1) + length more ≤ bodies →
      let end = first + 1 + length c in
      with_nodes bodies end ns
      (sets (closed contents bodies k first end (with_nodes bodies (first + 1) (map leaf c) l)) (contents + 4 * (k + 1)) more)
      ≡ with_nodes bodies first (nodes_of_clause c ++ ns)
      (sets l (contents + 4 * k) (bytes_of (first ∷ suc (length c) ∷ []) ++ more))
  clause_more k first c more ns l h =
      let pair : List ℕ = bytes_of (first ∷ suc (length c) ∷ []) in
      let nodes : List Node = nodes_of_clause c in
      let end : first + 1 + length c ≡ first + length nodes = omega (arith, length_clause c) in
      let next : contents + 4 * (k + 1) ≡ contents + 4 * k + length pair =
      omega (arith, length_bytes (first ∷ suc (length c) ∷ [])) in
      rw (
        clause_closed k first c l (omega arith),
        end,
        sets_append l (contents + 4 * k) pair more,
        ← next,
        pair_apart bodies (contents + 4 * (k + 1)) first more nodes (sets l (contents + 4 * k) pair) h,
      )
      (nodes_after bodies first nodes ns (sets (sets l (contents + 4 * k) pair) (contents + 4 * (k + 1)) more))

  -- All clauses: their contents, and their nodes.
  pub all_drafted :
      (k first : ℕ) (cs : List Clause) (l : List ℕ) →
      contents + 4 * (k + length cs) ≤ bodies →
      drafted contents bodies k first (first + 1) cs l
      ≡ with_nodes bodies first (flatten (map nodes_of_clause cs))
      (sets l (contents + 4 * k) (bytes_of (lined_up first (map (λ c. suc (length c)) cs))))
  unfolding drafted with_nodes bytes_of lined_up flatten
  all_drafted k first [] l h = refl
  all_drafted k first (c ∷ cs) l h =
      let end : ℕ = first + 1 + length c in
      let ks : List ℕ = map (λ c. suc (length c)) cs in
      let sum : first + suc (length c) ≡ end = omega arith in
      let this = closed contents bodies k first end (with_nodes bodies (first + 1) (map leaf c) l) in
      let rest = all_drafted (k + 1) end cs this (omega arith) in
      let more : List ℕ = bytes_of (lined_up end ks) in
      let room : contents + 4 * (k + 1) + length more ≤ bodies =
      omega (arith, length_bytes (lined_up end ks), length_lined end ks, length-map cs (λ c. suc (length c))) in
      rw (sum, ← add-one k, ← add-one end)
      (rest ∙ clause_more k first c more (flatten (map nodes_of_clause cs)) l room)
