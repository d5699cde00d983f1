-- The book that a clause file gives, where the file is not too large: it is accepted, it has the file's options and codes, its bodies are
-- the file's clauses, and it means exactly these.
use Rattle.std.proofs.Math.Bool.{true}
use Rattle.std.specs.Prelude.{false, ◌||◌, ◌≡◌, refl, ℕ, suc, ◌+◌, ◌*◌, ◌≤◌, eqb, leb, ltb, drop}
use mathlib.Core.List.{List, [], ◌∷◌, ◌++◌, map, flatten, append-nil, map-append}
use Rattle.std.proofs.Math.Path.{sym, ap, ap₂}
use Rattle.std.proofs.Common.{◌∙◌, arith, ltb-false, eq-eqb, take_at, drop_at}
use Rattle.std.proofs.Math.ListN.{length}
use Rattle.std.proofs.lemmas.List.{length-map}
use Rattle.model.specs.Base.{all}
use Rattle.model.specs.Limits.{usual, most_options, most_rules, most_nodes, most_weight}
use Rattle.model.specs.Forest.{root}
use Rattle.model.specs.Code.{Node, head, encode, decode, kind, weight, number_of, node_of}
use Rattle.model.specs.Sheet.{body_node, numbers_in, nodes_in, options_in, rooted, sheet_of}
use Rattle.model.specs.Clauses.{Clause, clauses}
use Rattle.model.specs.Book.{cut, options_of, rules_of, size_of, length_due, contents_end, codes_end, codes_of, codes_ok, in_line, body_ok, bodies_of, book_nodes, clauses_of_book}
use Rattle.texts.specs.ClauseFile.{File}
use Rattle.texts.specs.ClauseBook.{nodes_of_clause, nodes_of_file, codes_to, book_of_file, is_too_large}
use Rattle.theory_forms.specs.Logic.{and_split, and_join, or_neither}
use Rattle.theory_forms.specs.Shape.{Shaped, shaped_decode}
use Rattle.theory_forms.specs.Sheets.{Formed, formed_made, nodes_made}
use Rattle.theory_meaning.specs.Clauses.{clauses_root}
use Rattle.theory_formats.specs.Bytes.{below_all}
use Rattle.theory_formats.specs.Contents.{total, places, flat_places, length_places, in_line_places, below_places}
use Rattle.theory_formats.specs.Counts.{counts_some, total_counts, bodies_ok}
use Rattle.theory_formats.specs.BookParts.{book_of, Fit, Reads, book_reads}
use Rattle.theory_formats.specs.Loading.{Accepted, loaded_clauses}
use Rattle.theory_formats.specs.Writing.{body_small}
use Rattle.theory_imports.specs.Sizes.{length_clause}
use Rattle.theory_imports.specs.Codes.{codes_to_ok, length_codes, pieces_codes}
use Rattle.theory_imports.specs.Trees.{trees, named_in, size_trees, encode_trees, counts_trees, seated_trees, clauses_trees, fine_trees}

-- A file whose marks name its options, and that is not "16 V over 512, C or the body nodes over 4,095, or weight over 4,096".
pub record Usable (f : File) : Type 0 where
  pub named : named_in f.options f.clauses ≡ true
  pub options : f.options ≤ most_options
  pub rules : length f.clauses ≤ most_rules
  pub nodes : length (nodes_of_file f) ≤ most_nodes
  pub weight : weight (head root (length f.clauses) ∷ nodes_of_file f) ≤ most_weight

pub usable : (f : File) → named_in f.options f.clauses ≡ true → is_too_large f ≡ false → Usable f
unfolding is_too_large
usable f named small =
    let v = ltb most_options f.options in
    let c = ltb most_rules (length f.clauses) in
    let t = ltb most_nodes (length (nodes_of_file f)) in
    let s = or_neither (v || c || t) (ltb usual.weight (weight (head root (length f.clauses) ∷ nodes_of_file f))) small in
    let r = or_neither (v || c) t s.0 in
    let q = or_neither v c r.0 in
    record {
      named = named;
      options = ltb-false most_options f.options q.0;
      rules = ltb-false most_rules (length f.clauses) q.1;
      nodes = ltb-false most_nodes (length (nodes_of_file f)) r.1;
      weight = ltb-false most_weight (weight (head root (length f.clauses) ∷ nodes_of_file f)) s.1;
    }

-- The counts of the bodies, their numbers, and all nodes of the sheet that the book fills.
abbrev pub body_counts : File → List ℕ
body_counts f = map (λ c. suc (length c)) f.clauses

abbrev pub body_numbers : File → List ℕ
body_numbers f = map number_of (nodes_of_file f)

abbrev pub file_nodes : File → List Node
file_nodes f = head root (length f.clauses) ∷ nodes_of_file f

module _ (f : File) where
  numbers_total : total (body_counts f) ≡ length (nodes_of_file f)
  unfolding nodes_of_file
  numbers_total =
      let cs : List Clause = f.clauses in
      ap total (sym (counts_trees cs)) ∙ total_counts (trees cs) ∙ ap length (encode_trees cs)

  many : length (places 0 (body_counts f)) ≡ length f.clauses
  many = length_places 0 (body_counts f) ∙ length-map f.clauses (λ c. suc (length c))

  long : length (body_numbers f) ≡ length (nodes_of_file f)
  long = length-map (nodes_of_file f) number_of

  -- The book is made of these parts.
  pub file_parts : book_of_file f ≡ book_of f.options (flatten (codes_to f.options)) (places 0 (body_counts f)) (body_numbers f)
  unfolding book_of_file book_of
  file_parts = rw (many, long, flat_places 0 (body_counts f))

-- The contents cut the numbers into the clauses: each body is the any-of of one clause.
clause_bodies :
    (sum : ℕ) (cs : List Clause) →
    cut (places sum (map (λ c. suc (length c)) cs)) (map number_of (flatten (map nodes_of_clause cs)))
    ≡ map (λ c. map number_of (nodes_of_clause c)) cs
unfolding cut places flatten
clause_bodies sum [] = refl
clause_bodies sum (c ∷ cs) =
    let one : List ℕ = map number_of (nodes_of_clause c) in
    let rest : List ℕ = map number_of (flatten (map nodes_of_clause cs)) in
    let wide : length one ≡ suc (length c) = length-map (nodes_of_clause c) number_of ∙ length_clause c in
    rw (map-append number_of (nodes_of_clause c) (flatten (map nodes_of_clause cs)))
    (ap₂ ◌∷◌ (take_at one rest (suc (length c)) wide)
    (ap (cut (places (sum + suc (length c)) (map (λ c. suc (length c)) cs))) (drop_at one rest (suc (length c)) wide)
    ∙ clause_bodies (sum + suc (length c)) cs))

module _ (f : File) (ok : Usable f) where
  -- Its nodes under a root are a sheet's.
  shape : Shaped f.options (file_nodes f)
  unfolding encode nodes_of_file
  shape =
      let cs : List Clause = f.clauses in
      let code : encode (trees cs) ++ [] ≡ nodes_of_file f = append-nil (encode (trees cs)) ∙ encode_trees cs in
      record {
        kids = trees cs;
        spelled = ap₂ (λ k ns. head root k ∷ ns) (sym (size_trees cs)) (sym code);
        fine = fine_trees f.options cs ok.named;
      }

  sheet : Formed (sheet_of f.options (file_nodes f))
  sheet = formed_made ok.options shape ok.weight

  nodes_read : nodes_in (sheet_of f.options (file_nodes f)) ≡ file_nodes f
  nodes_read = nodes_made ok.options shape ok.weight

  numbers_read : numbers_in (sheet_of f.options (file_nodes f)) ≡ map number_of (file_nodes f)
  numbers_read = sheet.numbers ∙ ap (map number_of) nodes_read

  -- So each of its nodes has a number, which may stand in a body.
  numbers_nodes : map node_of (body_numbers f) ≡ nodes_of_file f
  unfolding nodes_in
  numbers_nodes = ap (drop 1) (ap (map node_of) (sym numbers_read) ∙ nodes_read)

  numbers_plain : all (body_node f.options) (body_numbers f) ≡ true
  unfolding rooted options_in sheet_of
  numbers_plain =
      let whole : rooted f.options (map number_of (file_nodes f)) ≡ true = ap (rooted f.options) (sym numbers_read) ∙ sheet.rooted in
      (and_split (eqb (kind (number_of (head root (length f.clauses)))) 5) (all (body_node f.options) (body_numbers f)) whole).1

  fit : Fit f.options (flatten (codes_to f.options)) (places 0 (body_counts f)) (body_numbers f)
  fit =
      record {
        options = omega (arith, ok.options);
        rules = omega (arith, ok.rules, many f);
        nodes = omega (arith, ok.nodes, long f);
        codes_long = length_codes f.options (omega (arith, ok.options));
        pairs = rw (flat_places 0 (body_counts f)) (below_places 65536 0 (body_counts f) (omega (arith, ok.nodes, numbers_total f)));
        numbers = below_all (body_node f.options) (body_numbers f) (omega arith) (body_small f.options) numbers_plain;
      }

  -- What is read from the book.
  pub file_reads : Reads (book_of_file f) f.options (flatten (codes_to f.options)) (places 0 (body_counts f)) (body_numbers f)
  file_reads = rw (file_parts f) (book_reads _ _ _ _ fit)

  pub file_options : options_of (book_of_file f) ≡ f.options
  file_options = file_reads.options

  pub file_rules : rules_of (book_of_file f) ≡ length f.clauses
  file_rules = file_reads.rules ∙ many f

  pub file_size : size_of (book_of_file f) ≡ length (nodes_of_file f)
  file_size = file_reads.nodes ∙ long f

  pub file_codes : codes_of (book_of_file f) ≡ codes_to f.options
  file_codes = file_reads.codes_read ∙ pieces_codes f.options (omega (arith, ok.options))

  pub file_book_nodes : book_nodes (book_of_file f) ≡ file_nodes f
  unfolding book_nodes
  file_book_nodes = ap₂ (λ k ns. head root k ∷ ns) file_rules (ap (map node_of) file_reads.numbers ∙ numbers_nodes)

  -- "Each clause becomes one any-of, a lone mark too, clauses and marks in file order."
  pub file_bodies : bodies_of (book_of_file f) ≡ map (λ c. map number_of (nodes_of_clause c)) f.clauses
  unfolding bodies_of nodes_of_file
  file_bodies = rw (file_reads.contents, file_reads.numbers) (clause_bodies 0 f.clauses)

  -- "8 + 13N + 4M + 2T."
  pub file_length :
      length (book_of_file f) ≡ 8 + (13 * f.options + (4 * length f.clauses + 2 * length (nodes_of_file f)))
  unfolding length_due contents_end codes_end
  file_length = omega (arith, file_reads.long, file_options, file_rules, file_size)

  file_bodies_ok : all (body_ok f.options) (cut (places 0 (body_counts f)) (body_numbers f)) ≡ true
  unfolding nodes_of_file
  file_bodies_ok =
      let cs : List Clause = f.clauses in
      let code : map node_of (body_numbers f) ≡ encode (trees cs) = numbers_nodes ∙ sym (encode_trees cs) in
      ap (λ ks. all (body_ok f.options) (cut (places 0 ks) (body_numbers f))) (sym (counts_trees cs))
      ∙ bodies_ok f.options 0 (trees cs) (body_numbers f) code numbers_plain (seated_trees cs)

  file_in_line : in_line (length (body_numbers f)) 0 (places 0 (body_counts f)) ≡ true
  file_in_line =
      let ks : List ℕ = body_counts f in
      let some_each : all (leb 1) ks ≡ true = ap (all (leb 1)) (sym (counts_trees f.clauses)) ∙ counts_some (trees f.clauses) in
      in_line_places (length (body_numbers f)) 0 ks
      ∙ and_join some_each (eq-eqb (0 + total ks) (length (body_numbers f)) (omega (arith, numbers_total f, long f)))

  -- None of the conditions of 1 to 6 is against it.
  pub file_accepted : Accepted (book_of_file f)
  unfolding bodies_of length_due contents_end codes_end
  file_accepted =
      let r = file_reads in
      record {
        head = omega (arith, r.long);
        options = omega (arith, r.options, ok.options);
        rules = omega (arith, file_rules, ok.rules);
        nodes = omega (arith, file_size, ok.nodes);
        fourth = r.fourth;
        long = r.long;
        codes = ap codes_ok file_codes ∙ codes_to_ok f.options;
        contents = rw (r.contents, r.nodes) file_in_line;
        bodies = rw (r.contents, r.numbers, r.options) file_bodies_ok;
        weight = rw file_book_nodes ok.weight;
      }

  -- It means exactly the file's clauses, in file order.
  pub file_clauses : clauses_of_book (book_of_file f) ≡ f.clauses
  unfolding shape
  file_clauses =
      sym (loaded_clauses (book_of_file f) file_accepted)
      ∙ ap (λ ns. clauses root (decode ns)) file_book_nodes
      ∙ ap (clauses root) (shaped_decode shape)
      ∙ clauses_root (trees f.clauses)
      ∙ clauses_trees f.clauses
