-- What is written of a sheet, from the sheet's own numbers: its options, its count of nodes, the root's children, the numbers below it.
use mathlib.Core.Bool.{true}
use mathlib.Core.List.{List, [], ◌∷◌, ◌++◌, map, append-nil}
use mathlib.Core.Logic.{⊎_elim}
use mathlib.Core.Path.{◌≡◌, sym, ap, ◌∙◌}
use Prim.Native.Nat.{ℕ, suc, ◌+◌, ◌-◌, ◌*◌, ◌≤◌}
use native.Mathlib.Omega.{arith}
use lib.ListN.{length, get_or, take, drop, length-append, length-drop}
use lib.Seq.{drop-cons, length-take-le}
use Rattle.model.specs.Base.{placed, all}
use Rattle.model.specs.Literal.{Literal}
use Rattle.model.specs.Forest.{Conn, root, Forest, size, kids}
use Rattle.model.specs.Code.{leaf, head, encode, node_of, number_of, children}
use Rattle.model.specs.Limits.{sheet_length, sheet_room, most_options, most_rules}
use Rattle.model.specs.Sheet.{options_in, used_in, numbers_in, nodes_in}
use Rattle.model.specs.Book.{bytes_of, options_of, lined_up, counts, written_rules, written}
use Rattle.theory_formats.specs.Loading.{Accepted}
use Rattle.theory_forms.specs.Numbers.{fits, children_small}
use Rattle.theory_forms.specs.Logic.{either}
use Rattle.theory_forms.specs.Scan.{is_literal, literal_node, inner_node}
use Rattle.theory_formats.specs.Bytes.{length_bytes}
use Rattle.theory_forms.specs.Sheets.{Formed}
use Rattle.theory_reading.specs.Stretches.{all_fit}
use Rattle.theory_forms.specs.Shape.{shaped_flat, shaped_decode}
use Rattle.theory_reading.specs.Spans.{spans, spans_counts}
use Rattle.book_bytes.proofs.TreeContents.{length_contents}
use Rattle.book_load.proofs.Loaded.{head_of}

-- The children of a node that a number is.
leaf_head : {l : Literal} {c : Conn} {k m : ℕ} → leaf l ≡ head c m → k ≡ m
leaf_head e = cc

head_inj : {c d : Conn} {k m : ℕ} → head c k ≡ head d m → k ≡ m
head_inj e = cc

node_children : (x : ℕ) {c : Conn} {m : ℕ} → node_of x ≡ head c m → children x ≡ m
node_children x e =
    ⊎_elim
    (λ l. leaf_head (sym (literal_node x l).1 ∙ e))
    (λ l. head_inj (sym (inner_node x l).1 ∙ e))
    (either (is_literal x))

-- The rules of a sheet: the numbers below the root, as many as the count of nodes without the root, and the root's children.
module _ (s : List ℕ) (sheet : Formed s) where
  abbrev below : List ℕ
  below = take (get_or s 1 0 - 1) (drop 3 s)

  rules : Forest
  rules = sheet.shaped.kids

  rules_are : written_rules s ≡ rules
  unfolding written_rules kids rules
  rules_are = ap kids (shaped_decode sheet.shaped)

  nodes_are : nodes_in s ≡ head root (size rules) ∷ encode rules
  unfolding rules
  nodes_are = shaped_flat sheet.shaped

  used_some : 1 ≤ get_or s 1 0
  unfolding used_in
  used_some = omega (arith, sheet.count, ap length nodes_are)

  numbers_are : numbers_in s ≡ get_or s 2 0 ∷ below
  unfolding numbers_in used_in
  numbers_are =
      let t : ℕ = get_or s 1 0 - 1 in
      let used : get_or s 1 0 ≡ suc t = omega (arith, used_some) in
      ap (λ k. take k (drop 2 s)) used ∙ ap (take (suc t)) (drop-cons s 2 0 (omega (arith, sheet.whole)))

  nodes_below : node_of (get_or s 2 0) ∷ map node_of below ≡ head root (size rules) ∷ encode rules
  unfolding nodes_in
  nodes_below = ap (map node_of) (sym numbers_are) ∙ nodes_are

  size_is : size rules ≡ children (get_or s 2 0)
  size_is =
      let e : node_of (get_or s 2 0) ≡ head root (size rules) = cc nodes_below in
      sym (node_children (get_or s 2 0) e)

  code_below : encode rules ≡ map node_of below
  code_below = cc nodes_below

  numbers_below : map number_of (encode rules) ≡ below
  numbers_below =
      sym (ap (drop 1) (sym numbers_are ∙ sheet.numbers ∙ ap (map number_of) nodes_are))

  spans_are : spans (children (get_or s 2 0)) below ≡ counts rules
  spans_are =
      let fit : all fits (encode rules) ≡ true = rw code_below (all_fit below) in
      rw (← size_is, ← numbers_below, ← append-nil (map number_of (encode rules))) (spans_counts rules [] fit)

  length_below : length below ≡ get_or s 1 0 - 1
  unfolding used_in
  length_below =
      let k = sheet in length-take-le (get_or s 1 0 - 1) (drop 3 s) (omega (arith, length-drop 3 s))

  -- What is written, part by part.
  written_is :
      (b : List ℕ) →
      written s b
      ≡ bytes_of (get_or s 0 0 ∷ children (get_or s 2 0) ∷ (get_or s 1 0 - 1) ∷ 0 ∷ [])
      ++ (take (13 * get_or s 0 0) (drop 8 b) ++ (bytes_of (lined_up 0 (spans (children (get_or s 2 0)) below)) ++ bytes_of below))
  unfolding written options_in
  written_is b = rw (rules_are, numbers_are, size_is, spans_are, length_below)

-- The sizes of a sheet.
pub record Sizes (s : List ℕ) : Type 0 where
  pub whole : length s ≡ sheet_length
  pub options : get_or s 0 0 ≤ most_options
  pub some : 1 ≤ get_or s 1 0
  pub used : get_or s 1 0 ≤ sheet_room
  pub rules : children (get_or s 2 0) ≤ most_rules

pub sizes_of : (s : List ℕ) → Formed s → Sizes s
unfolding options_in used_in
sizes_of s sheet =
    let k = sheet in
    record {
      whole = k.whole;
      options = k.options;
      some = used_some s sheet;
      used = k.used;
      rules = omega (arith, children_small (get_or s 2 0));
    }

module _ (s b : List ℕ) (sheet : Formed s) (book : Accepted b) (same : options_of b ≡ options_in s) where
  pub codes_room : 8 + 13 * options_in s ≤ length b
  unfolding options_of
  codes_room = omega (arith, head_of b book)

  length_codes : length (take (13 * get_or s 0 0) (drop 8 b)) ≡ 13 * get_or s 0 0
  unfolding options_in
  length_codes = length-take-le (13 * get_or s 0 0) (drop 8 b) (omega (arith, length-drop 8 b, codes_room))

  pub length_written : length (written s b) ≡ 8 + (13 * options_in s + (4 * children (get_or s 2 0) + 2 * (used_in s - 1)))
  unfolding bytes_of options_in used_in
  length_written =
      let m : ℕ = children (get_or s 2 0) in
      let xs : List ℕ = below s sheet in
      let codes : List ℕ = take (13 * get_or s 0 0) (drop 8 b) in
      let contents : List ℕ = bytes_of (lined_up 0 (spans m xs)) in
      ap length (written_is s sheet b)
      ∙ omega (
        arith,
        length-append codes (contents ++ bytes_of xs),
        length-append contents (bytes_of xs),
        length_codes,
        length_contents m xs,
        length_bytes xs,
        length_below s sheet,
      )

  -- What is written, from what is read of the sheet and of the other book.
  pub written_from :
      (codes xs old : List ℕ) {n m t : ℕ} →
      n ≡ options_in s →
      m ≡ children (get_or s 2 0) →
      t ≡ used_in s - 1 →
      codes ≡ take (13 * n) (drop 8 b) →
      xs ≡ take t (drop 3 s) →
      (bytes_of (n ∷ m ∷ t ∷ 0 ∷ []) ++ (codes ++ (bytes_of (lined_up 0 (spans m xs)) ++ bytes_of xs)))
      ++ drop (8 + (length codes + (4 * m + 2 * length xs))) old
      ≡ placed (written s b) old
  unfolding placed options_in used_in
  written_from codes xs old e f g p q =
      rw (p, q, e, f, g, length_codes, length_below s sheet, ← length_written, ← written_is s sheet b)
