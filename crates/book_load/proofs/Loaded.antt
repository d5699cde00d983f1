-- The sheet that an accepted book fills, number by number.
use mathlib.Core.List.{List, ◌∷◌, ◌++◌, map}
use mathlib.Core.Path.{◌≡◌, sym, ◌∙◌}
use Prim.Native.Nat.{ℕ, suc, ◌+◌, ◌-◌, ◌*◌, ◌≤◌}
use native.Mathlib.Numerals.{add-one}
use native.Mathlib.Omega.{arith}
use lib.ListN.{length, drop, replicate, length-map}
use Rattle.model.specs.Code.{number, conn_kind, number_of, node_of, conn_value}
use Rattle.model.specs.Limits.{most_options, most_rules, most_nodes, sheet_room}
use Rattle.model.specs.Sheet.{sheet_of}
use Rattle.model.specs.Book.{word, words, options_of, rules_of, size_of, codes_end, contents_end, length_due, numbers_of, book_nodes}
use Rattle.theory_formats.specs.Bytes.{length_words}
use Rattle.theory_formats.specs.Loading.{Accepted}
use Rattle.theory_formats.specs.Writing.{numbers_again}

-- The numbers of an accepted book's head, by their places.
pub record Head (b : List ℕ) : Type 0 where
  pub options : word b 0 ≤ most_options
  pub rules : word b 2 ≤ most_rules
  pub nodes : word b 4 ≤ most_nodes
  pub long : length b ≡ 8 + 13 * word b 0 + 4 * word b 2 + 2 * word b 4

module _ (b : List ℕ) (accepted : Accepted b) where
  pub head_of : Head b
  unfolding options_of rules_of size_of codes_end contents_end length_due
  head_of = record { options = accepted.options; rules = accepted.rules; nodes = accepted.nodes; long = accepted.long }

  pub loaded_is :
      let bodies = drop (8 + 13 * word b 0 + 4 * word b 2) b in
      sheet_of (options_of b) (book_nodes b)
      ≡ word b 0 ∷ (word b 4 + 1) ∷ (20480 + word b 2) ∷ words (word b 4) bodies ++ replicate (most_nodes - word b 4) 0
  unfolding sheet_of book_nodes numbers_of options_of rules_of size_of codes_end contents_end number_of number conn_kind conn_value
  loaded_is =
      let xs : List ℕ = words (word b 4) (drop (8 + 13 * word b 0 + 4 * word b 2) b) in
      let count : length (map node_of xs) ≡ word b 4 = length-map xs node_of ∙ length_words (word b 4) _ in
      let again : map number_of (map node_of xs) ≡ xs = numbers_again b accepted in
      let zeros : sheet_room - suc (word b 4) ≡ most_nodes - word b 4 = omega arith in
      rw (again, count, zeros, add-one)

  -- The same from what is read of the head, of the bodies and of the room for them.
  pub loaded_from :
      (s : List ℕ) {n m t room : ℕ} →
      n ≡ word b 0 →
      m ≡ word b 2 →
      t ≡ word b 4 →
      s ≡ drop (8 + 13 * n + 4 * m) b →
      room ≡ most_nodes →
      n ∷ (t + 1) ∷ (20480 + m) ∷ words t s ++ replicate (room - t) 0 ≡ sheet_of (options_of b) (book_nodes b)
  loaded_from s e f g p q = rw (p, q, e, f, g) (sym loaded_is)
