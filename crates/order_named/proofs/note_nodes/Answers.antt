use mathlib.Core.List.{List}
use mathlib.Core.Path.{◌≡◌, sym, ap, ◌∙◌}
use Prim.Native.Nat.{ℕ, ◌≤◌, ◌<◌}
use native.Mathlib.Omega.{arith}
use borrow.Author.Tests.{leb-true}
use lib.Dec.{leb}
use lib.ListN.{length, get_or}
use Rattle.model.specs.Limits.{most_options}
use Rattle.model.specs.Book.{words}
use Rattle.theory_forms.specs.Lists.{all_index}
use Rattle.theory_formats.specs.Bytes.{length_words, word_among}
use Rattle.order_named.specs.Noting.{place_named}
use Rattle.order_named.proofs.Passes.{begun, one_more, ended, named_so}
use Rattle.order_named.proofs.note_nodes.Goals as goal
use Rattle.order_named.proofs.note_nodes.Goals.{After-place_named-place}

-- The node is that of the list, and has its place in the table.
module _ (c : goal.After-place_named-place) where
  abbrev numbers : List ℕ
  numbers = words c.args.count c.args.s.now

  within : c.loop-i.i < length numbers
  within =
      let a = c.args in
      omega (arith, length_words a.count a.s.now, c.loop-i-test.true)

  place : c.place_named-place.result ≡ place_named (get_or numbers c.loop-i.i 0)
  place =
      let a = c.args in
      c.place_named-place.ensures
      ∙ ap place_named
      (c.word_at.ensures ∙ sym (word_among a.count c.loop-i.i a.s.now c.loop-i-test.true))

  in_table : c.place_named-place.result < 513
  in_table =
      let i = c.loop-i.i in
      let l = all_index (λ x. leb (place_named x) most_options) numbers i 0 c.requires.s_value within in
      omega (arith, place, leb-true (place_named (get_or numbers i 0)) most_options l)

pub loop-i-init : goal.loop-i-init
loop-i-init c = let a = c.args in begun place_named (words a.count a.s.now) a.named.now

pub bounds-named-place : goal.bounds-named-place
bounds-named-place c = in_table (goal.at.bounds-named-place c).After-place_named-place

pub loop-i-preserved : goal.loop-i-preserved
loop-i-preserved c =
    let k = (goal.at.loop-i-preserved c).After-place_named-place in
    let l = c.loop-i in
    let long = l.invariant.long ∙ c.requires.count_le_most_nodes.2 in
    one_more place_named (numbers k) _ l.named l.i 0 (within k) (place k) (omega (arith, in_table k, long)) l.invariant

pub returns : goal.returns
returns c =
    let a = c.args in
    let l = c.loop-i in
    let all : length (words a.count a.s.now) ≤ l.i = omega (arith, length_words a.count a.s.now, c.loop-i-test.false) in
    named_so _ _ _ (ended place_named (words a.count a.s.now) _ _ l.i all l.invariant)
