-- How many numbers the trees before the first conjunction take.
use mathlib.Core.Bool.{true}
use mathlib.Core.Path.{◌≡◌, refl, sym, ap}
use Prim.Native.Nat.{ℕ, zero, suc, ◌≤◌}
use native.Mathlib.Omega.{arith}
use lib.ListN.{length, length-append}
use Rattle.model.specs.Literal.{Literal}
use Rattle.model.specs.Forest.{and, or, root, at_least, Forest, nil, lit, node, size, first, literals_only, has_unit}
use Rattle.model.specs.Code.{encode}
use Rattle.model.specs.Rules.{shares}
use Rattle.theory_forms.specs.Logic.{true_false, and_split}
use Rattle.theory_forms.specs.Forests.{size_first}
use Rattle.theory_forms.specs.Codes.{size_length}

-- Trees that are literals take a number each; and where trees share a literal, only literals do.
pub literals_short : (f : Forest) → literals_only f ≡ true → length (encode f) ≡ size f
unfolding literals_only encode size
literals_short nil h = refl
literals_short (lit x f) h = ap suc (literals_short f h)
literals_short (node c k f) h = true_false (sym h)

unit_some : (a : Literal) (f : Forest) → has_unit a f ≡ true → 1 ≤ size f
unfolding has_unit size
unit_some a nil h = true_false (sym h)
unit_some a (lit x f) h = omega arith
unit_some a (node c k f) h = omega arith

pub short_literals :
    (a : Literal) (i : ℕ) (f : Forest) →
    i ≤ size f →
    shares a f ≡ true →
    length (encode (first i f)) ≡ i →
    literals_only (first i f) ≡ true
unfolding shares first encode literals_only size
short_literals a zero f n s e = refl
short_literals a (suc i) nil n s e = refl
short_literals a (suc i) (lit x f) n s e = short_literals a i f (omega arith) s (omega arith)
short_literals a (suc i) (node and k f) n s e =
    let t = and_split (has_unit a k) (shares a f) s in
    absurd (omega (arith, length-append (encode k) (encode (first i f)), unit_some a k t.0, size_length k, size_length (first i f), size_first i f (omega arith)))
short_literals a (suc i) (node or k f) n s e = true_false (sym s)
short_literals a (suc i) (node root k f) n s e = true_false (sym s)
short_literals a (suc i) (node (at_least b) k f) n s e = true_false (sym s)
