-- A literal appended on the sheet: three numbers change.
use mathlib.Core.List.{List, [], ◌∷◌, ◌++◌, map, map-append, append_assoc}
use mathlib.Core.Path.{◌≡◌, sym, ap, ap₂, ◌∙◌}
use Prim.Native.Nat.{ℕ, suc, ◌+◌, ◌-◌, ◌*◌, ◌≤◌, ◌<◌}
use native.Mathlib.Omega.{arith}
use lib.ListN.{length, get_or, set, replicate, length-append, length-map}
use lib.Seq.{set_at}
use Rattle.model.specs.Literal.{Literal}
use Rattle.model.specs.Forest.{root, size}
use Rattle.model.specs.Code.{Node, leaf, head, encode, weight, number, conn_kind, conn_value, number_of}
use Rattle.model.specs.Limits.{most_weight, literal_weight, kind_factor, sheet_length, sheet_room, most_options}
use Rattle.model.specs.Sheet.{options_in, used_in, nodes_in, sheet_of, chosen}
use Rattle.model.specs.Results as M
use Rattle.theory_forms.specs.Shape.{Shaped, shaped_flat}
use Rattle.theory_forms.specs.Sheets.{Formed, sheet_is}
use Rattle.theory_forms.specs.Codes.{size_length}
use Rattle.theory_forms.specs.Choice.{chosen_flat}

-- The second and third numbers one more, and a number in place of the first zero.
three_set :
    (n u r x z : ℕ) (t : List ℕ) →
    length t + 1 ≡ u →
    set (set (set (n ∷ u ∷ r ∷ t ++ replicate (suc z) 0) 1 (u + 1)) 2 (r + 1)) (2 + u) x ≡ n ∷ (u + 1) ∷ (r + 1) ∷ t ++ (x ∷ replicate z 0)
three_set n u r x z t e = set_at (n ∷ (u + 1) ∷ (r + 1) ∷ t) 0 (replicate z 0) x (2 + u) (omega arith)

-- On a sheet's own numbers.
pub appended :
    (n k : ℕ) (ns : List Node) (l : Literal) →
    Shaped n (head root k ∷ ns) →
    suc (length ns) < sheet_room →
    let s = sheet_of n (head root k ∷ ns) in
    set (set (set s 1 (suc (length ns) + 1)) 2 (number_of (head root k) + 1)) (2 + suc (length ns)) (number_of (leaf l))
    ≡ sheet_of n (chosen l (head root k ∷ ns))
unfolding sheet_of number_of number conn_value
appended n k ns l form room =
    let z = sheet_room - suc (suc (length ns)) in
    let zeros : sheet_room - suc (length ns) ≡ suc z = omega arith in
    let more : suc (length (ns ++ (leaf l ∷ []))) ≡ suc (length ns) + 1 = omega (arith, length-append ns (leaf l ∷ [])) in
    let left : sheet_room - suc (length (ns ++ (leaf l ∷ []))) ≡ z = omega (arith, length-append ns (leaf l ∷ [])) in
    let wide : length (map number_of ns) + 1 ≡ suc (length ns) = omega (arith, length-map ns number_of) in
    let written = three_set n (suc (length ns)) (conn_kind root * kind_factor + k) (number_of (leaf l)) z (map number_of ns) wide in
    let tail : map number_of (ns ++ (leaf l ∷ [])) ++ replicate z 0 ≡ map number_of ns ++ (number_of (leaf l) ∷ replicate z 0) =
    ap (λ xs. xs ++ replicate z 0) (map-append number_of ns (leaf l ∷ []))
    ∙ append_assoc (map number_of ns) (number_of (leaf l) ∷ []) (replicate z 0) in
    let head_more : conn_kind root * kind_factor + suc k ≡ conn_kind root * kind_factor + k + 1 = omega arith in
    rw zeros
    (written
    ∙ sym
    (ap (sheet_of n) (chosen_flat l form)
    ∙ ap₂ (λ m xs. n ∷ m ∷ (conn_kind root * kind_factor + suc k) ∷ xs) more
    (ap (λ w. map number_of (ns ++ (leaf l ∷ [])) ++ replicate w 0) left ∙ tail)
    ∙ ap (λ r. n ∷ (suc (length ns) + 1) ∷ r ∷ map number_of ns ++ (number_of (leaf l) ∷ replicate z 0)) head_more))

-- What a sheet with room for a literal has at its first places.
pub record Room (s : List ℕ) : Type 0 where
  pub whole : length s ≡ sheet_length
  pub options : options_in s ≤ most_options
  pub used : get_or s 1 0 ≤ 4094
  pub root_small : get_or s 2 0 ≤ 24575

module _ (s : List ℕ) (h : Formed s) where
  -- The sheet, written out to its root.
  root_first : let form = h.shaped in s ≡ sheet_of (options_in s) (head root (size form.kids) ∷ encode form.kids)
  root_first = let form = h.shaped in sheet_is s h ∙ ap (sheet_of (options_in s)) (shaped_flat form)

  pub has_room : weight (nodes_in s) + literal_weight ≤ most_weight → Room s
  unfolding sheet_of number_of number conn_kind conn_value used_in weight
  has_room w =
      let facts = h in
      let form = facts.shaped in
      let third : get_or s 2 0 ≡ 5 * kind_factor + size form.kids = ap (λ xs. get_or xs 2 0) root_first in
      let nodes = ap length (shaped_flat form) in
      record {
        whole = facts.whole;
        options = facts.options;
        used = omega (arith, facts.count);
        root_small = omega (arith, size_length form.kids);
      }

  pub append_sheet :
      (l : Literal) →
      weight (nodes_in s) + literal_weight ≤ most_weight →
      set (set (set s 1 (get_or s 1 0 + 1)) 2 (get_or s 2 0 + 1)) (2 + get_or s 1 0) (number_of (leaf l)) ≡ M.appended s l
  unfolding sheet_of weight M.appended
  append_sheet l w =
      let facts = h in
      let form = facts.shaped in
      let k = size form.kids in
      let ns = encode form.kids in
      let nodes = shaped_flat form in
      let short : suc (length ns) < sheet_room = omega (arith, ap length nodes) in
      let same = appended (options_in s) k ns l (rw nodes at form) short in
      rw nodes (ap (λ xs. set (set (set xs 1 (get_or xs 1 0 + 1)) 2 (get_or xs 2 0 + 1)) (2 + get_or xs 1 0) (number_of (leaf l))) root_first ∙ same)
