-- `sheet_index::mention_last` meets its contract, by the definition: the place is read after the count is written, and is another number.
use mathlib.Core.List.{List}
use mathlib.Core.Path.{◌≡◌, sym, ap, ◌∙◌}
use Prim.Native.Nat.{ℕ, ◌+◌, ◌*◌}
use native.Mathlib.Omega.{arith}
use borrow.Author.Tests.{eq-eqb, ne_eqb}
use lib.ListN.{get_or, set}
use lib.Seq.{get_or-set_other, set-get_or}
use Rattle.model.specs.Base.{pick}
use Rattle.calls.specs.Index.{no_place}
use Rattle.theory_index.specs.Entries.{entry_set, mentioned_last}
use Rattle.sheet_index.proofs.mention_last.Goals as goal

module _ (index : List ℕ) (v place : ℕ) where
  abbrev counted : List ℕ
  counted = set index (2 * v) (get_or index (2 * v) 0 + 1)

  first_kept : get_or counted (2 * v + 1) 0 ≡ get_or index (2 * v + 1) 0
  first_kept = get_or-set_other index (2 * v) (2 * v + 1) (get_or index (2 * v) 0 + 1) 0 (λ e. omega arith)

  none_before : get_or counted (2 * v + 1) 0 ≡ no_place → set counted (2 * v + 1) place ≡ mentioned_last v place index
  unfolding mentioned_last entry_set pick
  none_before e = rw (eq-eqb (get_or index (2 * v + 1) 0) no_place (sym first_kept ∙ e))

  one_before : (get_or counted (2 * v + 1) 0 ≡ no_place → ⊥) → counted ≡ mentioned_last v place index
  unfolding mentioned_last entry_set pick
  one_before d =
      rw (ne_eqb (get_or index (2 * v + 1) 0) no_place (λ e. d (first_kept ∙ e)))
      (sym (set-get_or counted (2 * v + 1) 0) ∙ ap (set counted (2 * v + 1)) first_kept)

pub returns-then-index-at : goal.returns-then-index-at
returns-then-index-at c = let a = c.args in none_before a.index.now a.option a.place c.if-index-at.true

pub returns-else-index-at : goal.returns-else-index-at
returns-else-index-at c = let a = c.args in one_before a.index.now a.option a.place c.if-index-at.false
