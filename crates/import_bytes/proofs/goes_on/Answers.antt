use mathlib.Core.Bool.{Bool, true, false, ◌&&◌, and-true}
use mathlib.Core.List.{List}
use mathlib.Core.Path.{◌≡◌, refl, sym, ap, ◌∙◌}
use Prim.Native.Nat.{ℕ, ◌+◌, ◌≤◌, ◌<◌}
use native.Mathlib.Numerals.{add-one}
use native.Mathlib.Omega.{arith}
use lib.ListN.{length, get_or, drop_of_length-le}
use lib.Seq.{drop-cons}
use Rattle.model.specs.Base.{all}
use Rattle.theory_texts.specs.Comments.{no_end}
use Rattle.import_bytes.proofs.goes_on.Invariants.{on_from}
use Rattle.import_bytes.proofs.goes_on.Goals as goal

and_assoc : (a b c : Bool) → (a && (b && c)) ≡ ((a && b) && c)
and_assoc true b c = refl
and_assoc false b c = refl

-- That, by the first byte, and where none is left.
module _ (i : ℕ) (s : List ℕ) where
  on_more : i < length s → on_from i s ≡ (no_end (get_or s i 0) && on_from (i + 1) s)
  unfolding all
  on_more h = rw (drop-cons s i 0, add-one)

  on_end : length s ≤ i → on_from i s ≡ true
  unfolding all
  on_end h = rw (drop_of_length-le s h)

pub loop-b-init : goal.loop-b-init
loop-b-init c = refl

pub loop-b-preserved : goal.loop-b-preserved
loop-b-preserved c =
    let l = c.loop-b in
    let s = c.args.s.now in
    l.invariant ∙ ap (λ b. l.on && b) (on_more l.b-index s (omega arith)) ∙ and_assoc l.on _ _

pub returns : goal.returns
returns c =
    let l = c.loop-b in
    let s = c.args.s.now in
    sym (l.invariant ∙ rw (on_end l.b-index s (omega arith), and-true))
