-- The two round trips: a sheet that is written loads as that sheet, and a book that is loaded is written as that book.
use Rattle.std.specs.Prelude.{true, ◌≡◌, eqb, leb, take}
use mathlib.Core.List.{List, [], ◌∷◌, map}
use Rattle.std.proofs.Math.Path.{sym, ap, ap₂}
use Rattle.std.proofs.Common.{◌∙◌, arith, eq-eqb, leb-true, take-append-drop}
use Prim.Native.Nat.{ℕ, ◌+◌, ◌*◌, ◌<◌}
use Rattle.std.proofs.Math.ListN.{length, drop, length-map, length-drop}
use Rattle.std.proofs.Math.Seq.{length-take-le}
use Rattle.model.specs.Base.{all}
use Rattle.model.specs.Forest.{root, Forest, nil, node, size, kids, all_seated}
use Rattle.model.specs.Code.{number_of, kind, head, encode, decode, weight, node_of}
use Rattle.model.specs.Limits.{head_length, code_length, sheet_room}
use Rattle.model.specs.Sheet.{body_node, options_in, numbers_in, nodes_in, rooted, sheet_of}
use Rattle.model.specs.Book.{size_of, bodies_of, pieces, codes_end, contents_end, length_due, options_of, codes_of, contents_of, numbers_of, book_nodes, counts, written_rules, written}
use Rattle.theory_forms.specs.Logic.{true_false, and_split, and_join}
use Rattle.theory_forms.specs.Lists.{map_back, map_drop}
use Rattle.theory_forms.specs.Codes.{decode_encode, size_length}
use Rattle.theory_forms.specs.Numbers.{number_node, known, known_body}
use Rattle.theory_forms.specs.Shape.{shaped_flat, plain_parts}
use Rattle.theory_forms.specs.Sheets.{Formed, formed_made, options_made, nodes_made, sheet_is}
use Rattle.theory_formats.specs.Bytes.{length_words, Bytes, below_all, pieces_part}
use Rattle.theory_formats.specs.Contents.{node_counts, total, places, flat_places, length_places, in_line_places, in_line_means, below_places, lengths_cut}
use Rattle.theory_formats.specs.Loading.{Accepted, forest_of, book_forest, loaded_shaped, loaded_kids, book_numbers}
use Rattle.theory_formats.specs.Counts.{length_counts, total_counts, counts_some, bodies_ok, counts_bodies}
use Rattle.theory_formats.specs.BookParts.{book_of, Fit, Reads, book_reads, book_parts}

-- What is written of a sheet whose root has these children: a book of the sheet's options, the other book's codes, the
-- contents that the node counts of the children give, and their numbers.
written_parts :
    (s b : List ℕ) (f : Forest) →
    nodes_in s ≡ encode (node root f nil) →
    written s b ≡ book_of (options_in s) (take (code_length * options_in s) (drop head_length b)) (places 0 (counts f)) (drop 1 (numbers_in s))
unfolding written written_rules book_of kids
written_parts s b f e =
    let whole : decode (nodes_in s) ≡ node root f nil = ap decode e ∙ decode_encode (node root f nil) in
    rw (whole, length_places 0 (counts f), length_counts f, flat_places 0 (counts f))

-- A number of a body has 16 bits.
pub body_small : (n x : ℕ) → body_node n x ≡ true → x < 65536
unfolding known kind
body_small n x h = omega (arith, leb-true (kind x) 6 (and_split (leb 1 (kind x)) (leb (kind x) 6) (known_body n x h)).1)

rooted_below : (n : ℕ) (xs : List ℕ) → rooted n xs ≡ true → all (body_node n) (drop 1 xs) ≡ true
unfolding rooted
rooted_below n [] h = true_false (sym h)
rooted_below n (x ∷ xs) h = (and_split (eqb (kind x) 5) (all (body_node n) xs) h).1

-- The rules of a sheet, and the numbers of their nodes.
module _ (s : List ℕ) (sheet : Formed s) where
  rules : Forest
  rules = sheet.shaped.kids

  rules_spelled : nodes_in s ≡ head root (size rules) ∷ encode rules
  unfolding rules
  rules_spelled = shaped_flat sheet.shaped

  numbers_nodes : map node_of (drop 1 (numbers_in s)) ≡ encode rules
  unfolding nodes_in
  numbers_nodes = map_drop node_of 1 (numbers_in s) ∙ ap (drop 1) rules_spelled

  numbers_plain : all (body_node (options_in s)) (drop 1 (numbers_in s)) ≡ true
  numbers_plain = rooted_below (options_in s) (numbers_in s) sheet.rooted

  rules_seated : all_seated rules ≡ true
  unfolding rules
  rules_seated = (plain_parts (options_in s) sheet.shaped.kids sheet.shaped.fine).1

  rules_short : length (encode rules) < sheet_room
  unfolding weight
  rules_short = omega (arith, sheet.weight, ap length rules_spelled)

module _ (s b : List ℕ) (sheet : Formed s) (book : Accepted b) (same : options_of b ≡ options_in s) where
  parts_fit : Fit (options_in s) (take (code_length * options_in s) (drop head_length b)) (places 0 (counts (rules s sheet))) (drop 1 (numbers_in s))
  unfolding length_due contents_end codes_end
  parts_fit =
      let n : ℕ = options_in s in
      let f : Forest = rules s sheet in
      let xs : List ℕ = drop 1 (numbers_in s) in
      let small = rules_short s sheet in
      let long = book.long in
      record {
        options = omega (arith, sheet.options);
        rules = omega (arith, size_length f, length_places 0 (counts f), length_counts f);
        nodes = omega (arith, ap length (numbers_nodes s sheet), length-map xs node_of);
        codes_long = length-take-le (code_length * n) (drop head_length b) (omega (arith, length-drop head_length b));
        pairs = rw (flat_places 0 (counts f)) (below_places 65536 0 (counts f) (omega (arith, total_counts f)));
        numbers = below_all (body_node n) xs (omega arith) (body_small n) (numbers_plain s sheet);
      }

  written_reads : Reads (written s b) (options_in s) (take (code_length * options_in s) (drop head_length b)) (places 0 (counts (rules s sheet))) (drop 1 (numbers_in s))
  unfolding rules
  written_reads = rw (written_parts s b (rules s sheet) sheet.shaped.spelled) (book_reads _ _ _ _ parts_fit)

  -- The codes of what is written are the lent book's, and its nodes the sheet's.
  pub written_codes : codes_of (written s b) ≡ codes_of b
  unfolding codes_of
  written_codes =
      let n : ℕ = options_in s in
      let part = pieces_part code_length n (take (code_length * n) (drop head_length b)) (drop (code_length * n) (drop head_length b)) (omega (arith, parts_fit)) in
      written_reads.codes_read ∙ sym part ∙ ap₂ (pieces code_length) (sym same) (take-append-drop (code_length * n) (drop head_length b))

  pub written_nodes : book_nodes (written s b) ≡ nodes_in s
  unfolding book_nodes
  written_nodes =
      let f : Forest = rules s sheet in
      ap₂ (λ k ns. head root k ∷ ns)
      (written_reads.rules ∙ length_places 0 (counts f) ∙ length_counts f)
      (ap (map node_of) written_reads.numbers ∙ numbers_nodes s sheet)
      ∙ sym (rules_spelled s sheet)

  -- What is written of a sheet is an accepted book.
  pub written_accepted : Accepted (written s b)
  unfolding bodies_of length_due contents_end codes_end
  written_accepted =
      let n : ℕ = options_in s in
      let f : Forest = rules s sheet in
      let xs : List ℕ = drop 1 (numbers_in s) in
      let small = rules_short s sheet in
      let r = written_reads in
      let long : length xs ≡ total (counts f) = sym (length-map xs node_of) ∙ ap length (numbers_nodes s sheet) ∙ sym (total_counts f) in
      let many : length (places 0 (counts f)) ≡ size f = length_places 0 (counts f) ∙ length_counts f in
      record {
        head = omega (arith, r.long);
        options = omega (arith, sheet.options);
        rules = omega (arith, size_length f);
        nodes = omega (arith, total_counts f);
        fourth = r.fourth;
        long = r.long;
        codes = rw written_codes book.codes;
        contents = rw (r.contents, r.nodes, in_line_places (length xs) 0 (counts f)) (and_join (counts_some f) (eq-eqb (0 + total (counts f)) (length xs) (omega arith)));
        bodies = rw (r.contents, r.numbers, r.options) (bodies_ok n 0 f xs (numbers_nodes s sheet) (numbers_plain s sheet) (rules_seated s sheet));
        weight = rw written_nodes sheet.weight;
      }

  -- And it loads as that sheet.
  pub written_loads : sheet_of (options_of (written s b)) (book_nodes (written s b)) ≡ s
  written_loads = ap₂ sheet_of written_reads.options written_nodes ∙ sym (sheet_is s sheet)

module _ (b : List ℕ) (a : Accepted b) where
  -- Every number of an accepted book's bodies is the number of its node.
  pub numbers_again : map number_of (map node_of (numbers_of b)) ≡ numbers_of b
  numbers_again =
      let n : ℕ = options_of b in
      map_back node_of number_of (body_node n) (λ x h. number_node x (known_body n x h)) (numbers_of b) (book_numbers b a)

  loaded_nodes : nodes_in (sheet_of (options_of b) (book_nodes b)) ≡ book_nodes b
  loaded_nodes = nodes_made a.options (loaded_shaped b a) a.weight

  loaded_numbers : drop 1 (numbers_in (sheet_of (options_of b) (book_nodes b))) ≡ numbers_of b
  unfolding book_nodes
  loaded_numbers =
      ap (drop 1) ((formed_made a.options (loaded_shaped b a) a.weight).numbers ∙ ap (map number_of) loaded_nodes) ∙ numbers_again

  -- The node counts of the bodies' trees are those of the contents, and the contents are the places that they give.
  loaded_counts : counts (forest_of (bodies_of b)) ≡ node_counts (contents_of b)
  unfolding bodies_of numbers_of
  loaded_counts =
      let sum = (in_line_means (size_of b) 0 (contents_of b) a.contents).2 in
      counts_bodies (options_of b) (bodies_of b) a.bodies
      ∙ lengths_cut (contents_of b) (numbers_of b) (omega (arith, length_words (size_of b) (drop (contents_end b) b)))

  loaded_contents : places 0 (counts (forest_of (bodies_of b))) ≡ contents_of b
  loaded_contents =
      ap (places 0) loaded_counts ∙ sym (in_line_means (size_of b) 0 (contents_of b) a.contents).0

-- A book that is loaded into a sheet is written as that book.
pub loaded_writes : (b : List ℕ) → Accepted b → Bytes b → written (sheet_of (options_of b) (book_nodes b)) b ≡ b
loaded_writes b a bytes =
    let tree = loaded_nodes b a ∙ (loaded_shaped b a).spelled ∙ ap (λ f. encode (node root f nil)) (loaded_kids b a ∙ book_forest b a) in
    written_parts (sheet_of (options_of b) (book_nodes b)) b (forest_of (bodies_of b)) tree
    ∙ rw (options_made (options_of b) (book_nodes b), loaded_contents b a, loaded_numbers b a) (book_parts b bytes a.fourth a.long)
