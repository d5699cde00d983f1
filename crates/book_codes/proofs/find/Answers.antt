use Prim.Native.Nat.{ℕ, ◌+◌, ◌≤◌, ◌<◌}
use mathlib.Core.List.{List}
use mathlib.Core.Option.{Option, none, some}
use mathlib.Core.Path.{◌≡◌, sym, ◌∙◌}
use native.Mathlib.Numerals.{add-one}
use native.Mathlib.Omega.{arith}
use Rattle.model.specs.Base.{pick}
use Rattle.model.specs.Limits.{code_length}
use Rattle.model.specs.Book.{same_code, characters, option_of_code, pieces}
use Rattle.book_codes.specs.CodePlaces.{code_at}
use Rattle.book_codes.proofs.CodesFrom.{from_first, from_cons, from_next, from_past}
use Rattle.book_codes.proofs.find.Invariants.{found_from}
use Rattle.book_codes.proofs.find.Goals as goal
use Rattle.book_codes.proofs.find.Goals.{In-loop-i}

-- The same, told by code i and those after it.
abbrev found_by : List ℕ → ℕ → List ℕ → ℕ → Option ℕ
found_by wanted n s i = pick (same_code wanted (characters (code_at s i))) (some i) (found_from wanted n s (i + 1))

more : (wanted : List ℕ) (n : ℕ) (s : List ℕ) (i : ℕ) → i < n → found_from wanted n s i ≡ found_by wanted n s i
unfolding option_of_code
more wanted n s i h = rw (from_cons n s i h, from_next n s i, add-one i)

nowhere : (wanted : List ℕ) (n : ℕ) (s : List ℕ) (i : ℕ) → n ≤ i → found_from wanted n s i ≡ none
unfolding option_of_code
nowhere wanted n s i h = rw (from_past n s i h)

turn :
    (c : goal.In-loop-i) →
    let a = c.args in
    option_of_code a.wanted.now 0 (pieces code_length a.n a.s.now)
    ≡ found_by a.wanted.now a.n a.s.now c.loop-i.i
turn c = let n = c in let a = n.args in n.loop-i.invariant ∙ more a.wanted.now a.n a.s.now n.loop-i.i (omega arith)

pub loop-i-init : goal.loop-i-init
loop-i-init c =
    let a = c.args in
    rw (from_first a.n a.s.now)

pub returns-then-is_spelled : goal.returns-then-is_spelled
unfolding pick
returns-then-is_spelled c = let m = c in sym (turn (goal.at.returns-then-is_spelled c).In-loop-i ∙ rw (← m.is_spelled.ensures, c.if-is_spelled.true))

pub loop-i-preserved : goal.loop-i-preserved
unfolding pick
loop-i-preserved c = let m = c in turn (goal.at.loop-i-preserved c).In-loop-i ∙ rw (← m.is_spelled.ensures, c.if-is_spelled.false)

pub returns : goal.returns
returns c =
    let n = c in
    let a = n.args in
    sym (n.loop-i.invariant ∙ nowhere a.wanted.now a.n a.s.now n.loop-i.i (omega arith))
