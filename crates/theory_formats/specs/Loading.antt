-- Loading: what an accepted book holds, and that the sheet which it fills is a sheet and means what its bodies mean.
use Rattle.std.specs.Prelude.{true, ◌&&◌, ◌≡◌, ℕ, ◌≤◌, length, drop}
use mathlib.Core.List.{List, [], ◌∷◌, ◌++◌, map, flatten, map-append}
use Rattle.std.proofs.Math.Option.{some}
use Rattle.std.proofs.Math.Path.{refl, sym, ap, ap₂}
use Rattle.std.proofs.Common.{◌∙◌, arith}
use Rattle.model.specs.Base.{all}
use Rattle.model.specs.Forest.{root, Forest, nil, ◌⊕◌, size, all_seated}
use Rattle.model.specs.Code.{encode, decode, trees, one_tree, weight, node_of}
use Rattle.model.specs.Clauses.{clauses, need, no_tree, some_of}
use Rattle.model.specs.Limits.{most_options, most_rules, most_nodes, most_weight, head_length}
use Rattle.model.specs.Sheet.{body_node, is_sheet, sheet_of, clauses_in}
use Rattle.model.specs.Book.{word, options_of, rules_of, size_of, length_due, codes_of, contents_of, numbers_of, codes_ok, in_line, bodies_of, body_ok, book_nodes, clauses_of_body, clauses_of_book, contents_end}
use Rattle.theory_forms.specs.Logic.{and_split, and_join}
use Rattle.theory_forms.specs.Lists.{all_weaken, all_flatten}
use Rattle.theory_forms.specs.Forests.{size-⊕}
use Rattle.theory_forms.specs.Codes.{encode-⊕, decode_encode, encode_decode, trees_code, one_tree_is}
use Rattle.theory_forms.specs.Numbers.{plain_nodes}
use Rattle.theory_forms.specs.Seats.{seated-⊕}
use Rattle.theory_meaning.specs.Clauses.{clauses-⊕, clauses_root}
use Rattle.theory_forms.specs.Shape.{Shaped, shaped, shaped_decode, shaped_kids}
use Rattle.theory_forms.specs.Sheets.{nodes_made, sheet_made}
use Rattle.theory_formats.specs.Bytes.{length_words, length_entries}
use Rattle.theory_formats.specs.Contents.{in_line_means, flatten_cut, length_cut}

-- What is known of an accepted book: none of the conditions of 1 to 6 is against it.
pub record Accepted (b : List ℕ) : Type 0 where
  pub head : head_length ≤ length b
  pub options : options_of b ≤ most_options
  pub rules : rules_of b ≤ most_rules
  pub nodes : size_of b ≤ most_nodes
  pub fourth : word b 6 ≡ 0
  pub long : length b ≡ length_due b
  pub codes : codes_ok (codes_of b) ≡ true
  pub contents : in_line (size_of b) 0 (contents_of b) ≡ true
  pub bodies : all (body_ok (options_of b)) (bodies_of b) ≡ true
  pub weight : weight (book_nodes b) ≤ most_weight

-- The bodies, one after another, are the book's numbers, and there are as many as the book has rules.
pub bodies_flat : (b : List ℕ) → Accepted b → flatten (bodies_of b) ≡ numbers_of b
unfolding bodies_of numbers_of
bodies_flat b a =
    let sum = (in_line_means (size_of b) 0 (contents_of b) a.contents).2 in
    flatten_cut (contents_of b) (numbers_of b) (omega (arith, length_words (size_of b) (drop (contents_end b) b)))

pub bodies_count : (b : List ℕ) → length (bodies_of b) ≡ rules_of b
unfolding bodies_of contents_of
bodies_count b = length_cut (contents_of b) (numbers_of b) ∙ length_entries (rules_of b) _

-- The trees of the bodies, side by side.
unfoldable pub forest_of : List (List ℕ) → Forest
forest_of [] = nil
forest_of (x ∷ xs) = decode (map node_of x) ⊕ forest_of xs

module _ (n : ℕ) where
  -- What a body is: nodes of bodies, one tree, members in their seats.
  pub body_parts :
      (xs : List ℕ) →
      body_ok n xs ≡ true →
      (all (body_node n) xs ≡ true) × (one_tree (map node_of xs) ≡ true) × (all_seated (decode (map node_of xs)) ≡ true)
  unfolding body_ok
  body_parts xs h =
      let s = and_split (all (body_node n) xs && one_tree (map node_of xs)) (all_seated (decode (map node_of xs))) h in
      let t = and_split (all (body_node n) xs) (one_tree (map node_of xs)) s.0 in
      (t.0, t.1, s.1)

  -- A body is the code of one tree.
  pub body_tree :
      (xs : List ℕ) →
      body_ok n xs ≡ true →
      (encode (decode (map node_of xs)) ≡ map node_of xs) × (size (decode (map node_of xs)) ≡ 1)
  body_tree xs h = encode_decode (map node_of xs) 1 (one_tree_is (map node_of xs) (body_parts xs h).1)

  -- The bodies, one after another, are the code of their trees.
  pub bodies_code :
      (xss : List (List ℕ)) →
      all (body_ok n) xss ≡ true →
      (encode (forest_of xss) ≡ map node_of (flatten xss)) × (size (forest_of xss) ≡ length xss)
  unfolding all flatten forest_of encode size
  bodies_code [] h = (refl, refl)
  bodies_code (xs ∷ xss) h =
      let s = and_split (body_ok n xs) _ h in
      let tree = body_tree xs s.0 in
      let rest = bodies_code xss s.1 in
      let t = decode (map node_of xs) in (
        encode-⊕ t (forest_of xss) ∙ ap₂ ◌++◌ tree.0 rest.0 ∙ sym (map-append node_of xs (flatten xss)),
        omega (arith, size-⊕ t (forest_of xss)),
      )

  -- Their numbers are nodes of bodies.
  bodies_numbers : (xss : List (List ℕ)) → all (body_ok n) xss ≡ true → all (body_node n) (flatten xss) ≡ true
  bodies_numbers xss h =
      all_flatten (body_node n) xss
      ∙ all_weaken (body_ok n) (all (body_node n)) (λ xs k. (body_parts xs k).0) xss h

  -- Their members are in their seats.
  bodies_seated : (xss : List (List ℕ)) → all (body_ok n) xss ≡ true → all_seated (forest_of xss) ≡ true
  unfolding all forest_of all_seated
  bodies_seated [] h = refl
  bodies_seated (xs ∷ xss) h =
      let s = and_split (body_ok n xs) (all (body_ok n) xss) h in
      seated-⊕ (decode (map node_of xs)) (forest_of xss) ∙ and_join (body_parts xs s.0).2 (bodies_seated xss s.1)

-- The clauses of the bodies' trees side by side are those of every body.
clauses_forest : (xss : List (List ℕ)) → clauses root (forest_of xss) ≡ flatten (map clauses_of_body xss)
unfolding forest_of clauses need some_of no_tree flatten clauses_of_body
clauses_forest [] = refl
clauses_forest (xs ∷ xss) =
    clauses-⊕ (decode (map node_of xs)) (forest_of xss)
    ∙ ap (λ cs. clauses root (decode (map node_of xs)) ++ cs) (clauses_forest xss)

module _ (b : List ℕ) (a : Accepted b) where
  -- Every number of an accepted book's bodies passes the test of bodies.
  pub book_numbers : all (body_node (options_of b)) (numbers_of b) ≡ true
  book_numbers =
      ap (all (body_node (options_of b))) (sym (bodies_flat b a))
      ∙ bodies_numbers (options_of b) (bodies_of b) a.bodies

  -- The numbers of an accepted book spell its bodies' trees side by side, as many as the book has rules.
  pub book_forest : decode (map node_of (numbers_of b)) ≡ forest_of (bodies_of b)
  book_forest =
      ap (λ xs. decode (map node_of xs)) (sym (bodies_flat b a))
      ∙ ap decode (sym (bodies_code (options_of b) (bodies_of b) a.bodies).0)
      ∙ decode_encode (forest_of (bodies_of b))

  book_trees : trees (map node_of (numbers_of b)) ≡ some (rules_of b)
  book_trees =
      let code = bodies_code (options_of b) (bodies_of b) a.bodies in
      ap (λ xs. trees (map node_of xs)) (sym (bodies_flat b a))
      ∙ ap trees (sym code.0)
      ∙ trees_code (forest_of (bodies_of b))
      ∙ ap some (code.1 ∙ bodies_count b)

  book_seated : all_seated (decode (map node_of (numbers_of b))) ≡ true
  book_seated = ap all_seated book_forest ∙ bodies_seated (options_of b) (bodies_of b) a.bodies

  -- What an accepted book fills is a sheet.
  pub loaded_shaped : Shaped (options_of b) (book_nodes b)
  unfolding book_nodes
  loaded_shaped =
      shaped (options_of b) (rules_of b) (map node_of (numbers_of b)) book_trees (plain_nodes (options_of b) (numbers_of b) book_numbers) book_seated

  pub loaded_kids : loaded_shaped.kids ≡ decode (map node_of (numbers_of b))
  unfolding book_nodes
  loaded_kids = shaped_kids loaded_shaped

  pub loaded_sheet : is_sheet (sheet_of (options_of b) (book_nodes b)) ≡ true
  loaded_sheet = sheet_made a.options loaded_shaped a.weight

  -- It means what the bodies mean.
  pub loaded_clauses : clauses root (decode (book_nodes b)) ≡ clauses_of_book b
  unfolding clauses_of_book
  loaded_clauses =
      ap (clauses root) (shaped_decode loaded_shaped)
      ∙ clauses_root loaded_shaped.kids
      ∙ ap (clauses root) (loaded_kids ∙ book_forest)
      ∙ clauses_forest (bodies_of b)

  pub loaded_meaning : clauses_in (sheet_of (options_of b) (book_nodes b)) ≡ clauses_of_book b
  unfolding clauses_in
  loaded_meaning =
      ap (λ ns. clauses root (decode ns)) (nodes_made a.options loaded_shaped a.weight) ∙ loaded_clauses
