-- The lines whose marks are put so far: what the sheet is then, and the next one; and the two parts of the lines that stand.
use mathlib.Core.Bool.{true}
use mathlib.Core.List.{List, [], ◌∷◌, ◌++◌}
use mathlib.Core.Path.{◌≡◌, sym, ap, subst, ◌∙◌}
use Prim.Native.Nat.{ℕ, suc, ◌+◌, ◌-◌, ◌*◌, ◌≤◌, ◌<◌}
use native.Mathlib.Numerals.{add-one}
use native.Mathlib.Omega.{arith}
use lib.Dec.{ltb}
use lib.ListN.{length, get_or, take, drop, length-map, get_or-map}
use lib.Seq.{length-take-le, take-suc, take-take}
use Rattle.std.proofs.lemmas.List.{take-map, drop-map}
use Rattle.std.proofs.lemmas.Slice.{between_is}
use Rattle.model.specs.Base.{all}
use Rattle.model.specs.Literal.{option}
use Rattle.model.specs.Code.{weight}
use Rattle.model.specs.Limits.{most_weight, literal_weight}
use Rattle.model.specs.Sheet.{options_in, nodes_in, is_sheet}
use Rattle.model.specs.Results.{appended}
use Rattle.calls.specs.Lines.{without, with_marks}
use Rattle.call_laws.specs.OrderLines.{Marked, marks_put, marks_append, marks_last, known_take, known_at, option_literal}
use Rattle.order_lines.specs.declared.Line.{Line}
use Rattle.order_lines.specs.LineMeaning.{blank, line_of, lines_of}

module _
    (s : List ℕ)
    (ls : List Line)
    (sheet : is_sheet s ≡ true)
    (known : all (λ l. ltb (option l) (options_in s)) (lines_of ls) ≡ true)
    (room : weight (nodes_in s) + literal_weight * length ls ≤ most_weight)
    (i : ℕ)
  where
    -- The sheet with the marks of the first i lines.
    pub marked : i ≤ length ls → Marked s i (with_marks s (take i (lines_of ls)))
    marked h =
        let long = length-take-le i (lines_of ls) (omega (arith, length-map ls line_of)) in
        let put = marks_put (take i (lines_of ls)) s sheet (known_take (options_in s) i (lines_of ls) known) (omega (arith, long)) in
        subst (λ n. Marked s n (with_marks s (take i (lines_of ls)))) long put

    -- The next line names an option, and its mark is the last of one more.
    pub next_known : i < length ls → (get_or ls i blank).option < options_in s
    next_known h =
        let d = get_or ls i blank in
        let below = known_at (options_in s) i (lines_of ls) (line_of blank) (omega (arith, length-map ls line_of)) known in
        let same : option (get_or (lines_of ls) i (line_of blank)) ≡ d.option = ap option (get_or-map line_of ls i blank) ∙ option_literal d.option d.negative in
        omega (arith, same, below)

    pub next_marked :
        i < length ls →
        appended (with_marks s (take i (lines_of ls))) (line_of (get_or ls i blank)) ≡ with_marks s (take (i + 1) (lines_of ls))
    next_marked h =
        let l = line_of (get_or ls i blank) in
        let one : take (i + 1) (lines_of ls) ≡ take i (lines_of ls) ++ (l ∷ []) =
        ap (λ n. take n (lines_of ls)) (add-one i)
        ∙ take-suc (lines_of ls) i (line_of blank) (omega (arith, length-map ls line_of))
        ∙ ap (λ x. take i (lines_of ls) ++ (x ∷ [])) (get_or-map line_of ls i blank) in
        sym (marks_last (take i (lines_of ls)) l s) ∙ ap (with_marks s) (sym one)

-- Of c lines those before line k, and those after it.
module _ (k c : ℕ) (ls : List Line) (h : k < c) where
  pub before : lines_of (take k ls) ≡ take k (take c (lines_of ls))
  before = sym (take-map line_of k ls) ∙ sym (take-take k c (lines_of ls) (omega arith))

  pub after : lines_of (take (c - (k + 1)) (drop (k + 1) ls)) ≡ drop (suc k) (take c (lines_of ls))
  after =
      ap lines_of (between_is ls (k + 1) c)
      ∙ sym (drop-map line_of (k + 1) (take c ls))
      ∙ ap (drop (k + 1)) (sym (take-map line_of c ls))
      ∙ ap (λ n. drop n (take c (lines_of ls))) (add-one k)

  -- The marks of those, one part after the other, are those of the lines without line k.
  pub both_parts :
      (s u : List ℕ) →
      u ≡ with_marks s (lines_of (take k ls)) →
      with_marks u (lines_of (take (c - (k + 1)) (drop (k + 1) ls))) ≡ with_marks s (without k (take c (lines_of ls)))
  unfolding without
  both_parts s u e =
      rw (e, before, after) (sym (marks_append (take k (take c (lines_of ls))) (drop (suc k) (take c (lines_of ls))) s))
