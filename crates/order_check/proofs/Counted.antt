-- The counted lines: what the option of one is, how many there are, and what they all say.
use mathlib.Core.Bool.{◌&&◌}
use mathlib.Core.List.{List, [], ◌∷◌}
use mathlib.Core.Path.{◌≡◌, refl, ap, ap₂, ◌∙◌}
use Prim.Native.Nat.{ℕ, zero, suc, ◌≤◌, ◌<◌}
use native.Mathlib.Omega.{arith}
use lib.Dec.{leb, ltb}
use lib.ListN.{length, get_or, take, length-map, get_or-map}
use lib.Seq.{length-take-le, get_or-take}
use Rattle.std.specs.List.{list_all}
use Rattle.model.specs.Base.{all}
use Rattle.model.specs.Literal.{option}
use Rattle.model.specs.Sheet.{options_in}
use Rattle.calls.specs.Lines.{most_lines}
use Rattle.calls.specs.Conditions.{has_lines_in_order}
use Rattle.call_laws.specs.OrderLines.{option_literal}
use Rattle.order_lines.specs.declared.Line.{Line}
use Rattle.order_lines.specs.LineMeaning.{blank, line_of, lines_of, order}

-- The option of a counted line.
pub counted_option :
    (c : ℕ) (ls : List Line) (i : ℕ) →
    i < c →
    option (get_or (take c (lines_of ls)) i (line_of blank)) ≡ (get_or ls i blank).option
counted_option c ls i h =
    let d = get_or ls i blank in
    ap option (get_or-take c (lines_of ls) i (line_of blank) h ∙ get_or-map line_of ls i blank)
    ∙ option_literal d.option d.negative

pub counted_length : (c : ℕ) (ls : List Line) → c ≤ length ls → length (take c (lines_of ls)) ≡ c
counted_length c ls few = length-take-le c (lines_of ls) (omega (arith, length-map ls line_of))

-- What all counted lines say, of the lines as they are lent.
pub counted_all :
    (n c : ℕ) (ls : List Line) →
    all (λ l. ltb (option l) n) (take c (lines_of ls)) ≡ list_all (λ d. ltb d.option n) (take c ls)
unfolding all
counted_all n zero ls = refl
counted_all n (suc c) [] = refl
counted_all n (suc c) (d ∷ ls) = ap₂ ◌&&◌ (ap (λ v. ltb v n) (option_literal d.option d.negative)) (counted_all n c ls)

-- The lines are in order by their slots, their count and their options.
pub in_order_by :
    (s : List ℕ) (ls : List Line) (c n : ℕ) →
    length ls ≡ most_lines →
    n ≡ options_in s →
    has_lines_in_order (order s ls c) ≡ (leb c most_lines && all (λ l. ltb (option l) n) (take c (lines_of ls)))
in_order_by s ls c n long e = rw (length-map ls line_of ∙ long, ← e)
