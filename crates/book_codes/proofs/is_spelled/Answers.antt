use Prim.Native.Nat.{ℕ, ◌+◌, ◌≤◌, ◌<◌}
use mathlib.Core.Bool.{Bool, true, false, ◌&&◌}
use mathlib.Core.List.{List, [], ◌∷◌}
use mathlib.Core.Path.{◌≡◌, refl, sym, ◌∙◌}
use native.Mathlib.Numerals.{add-one}
use native.Mathlib.Omega.{arith}
use borrow.Author.Tests.{eq-eqb, ne_eqb}
use lib.ListN.{length, take, get_or}
use lib.Seq.{slice_empty, drop-cons, drop-length, length-take-le}
use lib.Dec.{eqb}
use Rattle.model.specs.Base.{pick, same_list}
use Rattle.model.specs.Limits.{code_length}
use Rattle.model.specs.Book.{characters, same_code}
use Rattle.book_codes.proofs.CodesFrom.{byte_more}
use Rattle.book_codes.proofs.is_spelled.Invariants.{agree_from}
use Rattle.book_codes.proofs.is_spelled.Goals as goal
use Rattle.book_codes.proofs.is_spelled.Goals.{In-loop-j, then-s-j-eq0-via-then-s-j-eq0, then-s-j-eq0-via-else-s-j-eq0+then-wanted-j}

-- Characters that end at a zero byte, or go on with another byte, beside some characters and beside none.
beside_some :
    (zero? : Bool) (x y : ℕ) (a l : List ℕ) →
    same_list (x ∷ a) (pick zero? [] (y ∷ l)) ≡ pick zero? false (eqb x y && same_list a l)
unfolding same_list pick
beside_some true x y a l = refl
beside_some false x y a l = refl

beside_none : (zero? : Bool) (y : ℕ) (l : List ℕ) → same_list [] (pick zero? [] (y ∷ l)) ≡ zero?
unfolding same_list pick
beside_none true y l = refl
beside_none false y l = refl

fails : (zero? b : Bool) → pick zero? false (b && false) ≡ false
unfolding pick
fails true b = refl
fails false true = refl
fails false false = refl

-- More characters than a code has bytes are not its own.
too_long : (a l : List ℕ) → length l < length a → same_list a (characters l) ≡ false
unfolding same_list characters
too_long [] l h = absurd (omega arith)
too_long (x ∷ a) [] h = refl
too_long (x ∷ a) (y ∷ l) h = rw (beside_some (eqb y 0) x y a (characters l), too_long a l (omega arith)) (fails (eqb y 0) (eqb x y))

-- The same, told by the byte there and those after it.
abbrev agree_by : List ℕ → List ℕ → ℕ → Bool
agree_by s wanted j = pick (eqb (get_or s j 0) 0) false (eqb (get_or wanted j 0) (get_or s j 0) && agree_from s wanted (j + 1))

module _ (s wanted : List ℕ) (l : code_length ≤ length s) where
  more : (j : ℕ) → j < length wanted → j < code_length → agree_from s wanted j ≡ agree_by s wanted j
  unfolding characters
  more j h m = rw (drop-cons wanted j 0 h, byte_more j s m l, ← add-one j) (beside_some (eqb (get_or s j 0) 0) (get_or wanted j 0) (get_or s j 0) _ _)

  none : length wanted ≡ code_length → agree_from s wanted (length wanted) ≡ true
  unfolding characters same_list
  none e = rw (drop-length wanted, e, slice_empty code_length s)

  last : length wanted < code_length → agree_from s wanted (length wanted) ≡ eqb (get_or s (length wanted) 0) 0
  unfolding characters
  last h = rw (drop-length wanted, byte_more (length wanted) s h l) (beside_none (eqb (get_or s (length wanted) 0) 0) _ _)

turn :
    (c : goal.In-loop-j) →
    let n = c in
    let a = n.args in
    same_code a.wanted.now (characters (take code_length a.s.now)) ≡ agree_by a.s.now a.wanted.now n.loop-j.j
turn c = let n = c in let a = n.args in n.loop-j.invariant ∙ more a.s.now a.wanted.now (omega arith) n.loop-j.j (omega arith) (omega arith)

pub returns-then-n-gt-CODE_LENGTH : goal.returns-then-n-gt-CODE_LENGTH
unfolding same_code
returns-then-n-gt-CODE_LENGTH c =
    let s = c.args.s.now in
    sym (too_long c.args.wanted.now (take code_length s) (rw (length-take-le code_length s (omega arith)) (omega arith)))

pub loop-j-init : goal.loop-j-init
unfolding same_code
loop-j-init c = refl

pub returns-then-s-j-eq0 : goal.returns-then-s-j-eq0
unfolding pick
returns-then-s-j-eq0 c =
    let told = turn (goal.at.returns-then-s-j-eq0 c).In-loop-j in
    elim c.then-s-j-eq0.branch [
      | then-s-j-eq0-via-then-s-j-eq0 w ↦ sym (told ∙ rw (eq-eqb _ 0 w.if-s-j-eq0.true))
      | then-s-j-eq0-via-else-s-j-eq0+then-wanted-j w ↦ sym (told ∙ rw (ne_eqb _ 0 w.if-s-j-eq0.false, ne_eqb _ _ w.if-wanted-j.true))
    ]

pub loop-j-preserved : goal.loop-j-preserved
unfolding pick
loop-j-preserved c =
    turn (goal.at.loop-j-preserved c).In-loop-j ∙ rw (ne_eqb _ 0 c.if-s-j-eq0.false, eq-eqb _ _ c.if-wanted-j.false)

pub returns-then-n-eq-CODE_LENGTH : goal.returns-then-n-eq-CODE_LENGTH
returns-then-n-eq-CODE_LENGTH c =
    let a = c.args in
    let e : c.loop-j.j ≡ length a.wanted.now = omega arith in
    let whole = c.if-n-eq-CODE_LENGTH.true in
    eq-eqb _ 13 whole ∙ sym (c.loop-j.invariant ∙ rw e (none a.s.now a.wanted.now (omega arith) whole))

pub returns-else-n-eq-CODE_LENGTH : goal.returns-else-n-eq-CODE_LENGTH
returns-else-n-eq-CODE_LENGTH c =
    let a = c.args in
    let e : c.loop-j.j ≡ length a.wanted.now = omega arith in
    sym (c.loop-j.invariant ∙ rw e (last a.s.now a.wanted.now (omega arith) (omega arith)))
