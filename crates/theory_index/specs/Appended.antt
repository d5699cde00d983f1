-- The index after a mark was appended: one entry of it changes.
use Rattle.std.specs.Prelude.{true, List, [], ◌∷◌, ◌++◌, ◌≡◌}
use Rattle.std.proofs.Math.Path.{sym, ap, ap₂}
use Rattle.std.proofs.Common.{◌∙◌, zero-add, arith}
use Prim.Native.Nat.{ℕ, suc, ◌+◌, ◌*◌, ◌≤◌, ◌<◌}
use Rattle.std.proofs.Math.ListN.{length, get_or}
use Rattle.model.specs.Base.{placed}
use Rattle.model.specs.Literal.{Literal, option}
use Rattle.model.specs.Forest.{root, size}
use Rattle.model.specs.Code.{Node, leaf, head, encode, weight}
use Rattle.model.specs.Limits.{literal_weight, most_weight}
use Rattle.model.specs.Sheet.{options_in, used_in, nodes_in, is_sheet, chosen}
use Rattle.model.specs.Results.{appended}
use Rattle.calls.specs.Index.{no_place, entries, fresh_count}
use Rattle.theory_forms.specs.Shape.{shaped_flat}
use Rattle.theory_forms.specs.Sheets.{sheet_formed, sheet_shaped, sheet_options, options_made, nodes_made}
use Rattle.theory_forms.specs.Choice.{chosen_flat, chosen_shaped, chosen_weight}
use Rattle.theory_forms.specs.Placed.{placed_at}
use Rattle.theory_index.specs.Entries.{from_root, fresh_length, count_at, count_within, head_before, leaf_after, mentioned_last, last_placed}
use Rattle.theory_index.specs.Right.{Right, right_long, placed_same}

-- In a right index the numbers of an option stand, and the count may rise by one.
module _ (s index : List ℕ) (right : Right s index) (h : is_sheet s ≡ true) {v : ℕ} (known : v < options_in s) where
  pub entry_within : 2 * v + 1 < length index
  entry_within = omega (arith, right_long s index right)

  pub count_fits : get_or index (2 * v) 0 < no_place
  unfolding fresh_count
  count_fits =
      let ns = nodes_in s in
      let form = sheet_formed s h in
      let new = fresh_count s in
      let read =
      ap (λ xs. get_or xs (2 * v) 0) (sym (placed_same s index right)) ∙ placed_at new index (fresh_length s) (2 * v) (omega arith) in
      let count = ap (λ xs. get_or xs (2 * v) 0) (from_root 0 (options_in s) ns) ∙ count_at 0 0 (options_in s) ns v known in
      omega (arith, read, count, count_within (0 + v) ns, form.count, form.used)

-- The fresh count after a mark was appended: the root's own node is no mark, and the mark stands after all others.
after_root :
    (n m : ℕ) (ns : List Node) (l : Literal) →
    option l < n →
    suc (length ns) ≤ no_place →
    entries 0 n (head root (suc m) ∷ ns ++ (leaf l ∷ []))
    ≡ mentioned_last (option l) (suc (length ns)) (entries 0 n (head root m ∷ ns))
after_root n m ns l known fits =
    let e : 1 + length ns ≡ suc (length ns) = omega arith in
    from_root 0 n _
    ∙ head_before 0 0 n root (suc m) (ns ++ (leaf l ∷ []))
    ∙ leaf_after l 1 ns (omega arith) 0 n (option l) (zero-add (option l)) known
    ∙ ap₂ (mentioned_last (option l)) e (sym (from_root 0 n (head root m ∷ ns) ∙ head_before 0 0 n root m ns))

module _ (s : List ℕ) (h : is_sheet s ≡ true) (l : Literal) (known : option l < options_in s) where
  appended_count :
      weight (nodes_in s) + literal_weight ≤ most_weight →
      fresh_count (appended s l) ≡ mentioned_last (option l) (used_in s) (fresh_count s)
  unfolding fresh_count appended
  appended_count room =
      let n = options_in s in
      let form = sheet_shaped s h in
      let facts = sheet_formed s h in
      let flat = shaped_flat form in
      let below = encode form.kids in
      let put = ap (chosen l) flat ∙ chosen_flat l (rw flat at form) in
      let made = nodes_made (sheet_options s h) (chosen_shaped l form known) (omega (arith, chosen_weight l form)) in
      let used : suc (length below) ≡ used_in s = sym (ap length flat) ∙ facts.count in
      ap₂ (entries 0) (options_made n (chosen l (nodes_in s))) (made ∙ put)
      ∙ after_root n (size form.kids) below l known (omega (arith, used, facts.used))
      ∙ ap₂ (λ k ns. mentioned_last (option l) k (entries 0 n ns)) used (sym flat)

  pub appended_index :
      weight (nodes_in s) + literal_weight ≤ most_weight →
      (index : List ℕ) →
      Right s index →
      placed (fresh_count (appended s l)) index ≡ mentioned_last (option l) (used_in s) index
  appended_index room index right =
      ap (λ new. placed new index) (appended_count room)
      ∙ sym (last_placed (fresh_count s) index (option l) (omega (arith, fresh_length s)) (used_in s))
      ∙ ap (mentioned_last (option l) (used_in s)) (placed_same s index right)
