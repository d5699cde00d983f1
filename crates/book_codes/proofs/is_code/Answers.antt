use Prim.Native.Nat.{ℕ, ◌+◌, ◌-◌, ◌≤◌, ◌<◌}
use mathlib.Core.Bool.{Bool, true, false, ◌&&◌}
use mathlib.Core.List.{List, [], ◌∷◌}
use mathlib.Core.Path.{◌≡◌, refl, sym, ap, ap₂, ◌∙◌}
use native.Mathlib.Omega.{arith}
use lib.ListN.{length, take, drop, get_or}
use lib.Seq.{slice, slice_empty}
use lib.Dec.{eqb}
use Rattle.std.specs.Prelude.{◌==◌}
use Rattle.std.specs.List.{list_all, between}
use Rattle.std.proofs.lemmas.Bool.Decides.{nat_tests}
use Rattle.std.proofs.lemmas.List.{drop-take}
use Rattle.model.specs.Base.{all, pick}
use Rattle.model.specs.Limits.{code_length}
use Rattle.model.specs.Book.{character, then_zeros, code_ok}
use Rattle.book_codes.proofs.CodesFrom.{byte_more}
use Rattle.book_codes.proofs.is_code.Invariants.{ok_from}
use Rattle.book_codes.proofs.is_code.Goals as goal
use Rattle.book_codes.proofs.is_code.Goals.{In-loop-k}

abbrev ok_by : List ℕ → ℕ → Bool
ok_by s k = pick (character (get_or s k 0)) (ok_from s (k + 1)) (all (eqb 0) (slice k code_length s))

more : (s : List ℕ) (k : ℕ) → k < code_length → code_length ≤ length s → ok_from s k ≡ ok_by s k
unfolding then_zeros
more s k h l = rw (byte_more k s h l)

none : (s : List ℕ) → ok_from s code_length ≡ true
unfolding then_zeros
none s = rw (slice_empty code_length s)

-- A test that is asked twice.
twice : (b x y : Bool) → (b && pick b x y) ≡ (b && x)
unfolding pick
twice true x y = refl
twice false x y = refl

first : (s : List ℕ) → code_length ≤ length s → code_ok (take code_length s) ≡ (character (get_or s 0 0) && ok_from s 1)
unfolding code_ok then_zeros
first s l = rw (byte_more 0 s (omega arith) l) (twice (character (get_or s 0 0)) _ _)

turn :
    (c : goal.In-loop-k) →
    let n = c in
    let s = n.args.s.now in
    code_ok (take code_length s) ≡ ok_by s n.loop-k.k
turn c = let n = c in n.loop-k.invariant ∙ more n.args.s.now n.loop-k.k (omega arith) (omega arith)

turned : (x : ℕ) → eqb x 0 ≡ eqb 0 x
turned x = grind (arith, nat_tests)

all_tests : (xs : List ℕ) → list_all (λ x. x == 0) xs ≡ all (eqb 0) xs
unfolding all
all_tests [] = refl
all_tests (x ∷ xs) = ap₂ (λ a b. a && b) (turned x) (all_tests xs)

zeros : (k : ℕ) (s : List ℕ) → k < code_length → list_all (λ x. x == 0) (between k code_length s) ≡ all (eqb 0) (slice k code_length s)
zeros k s h =
    let wide : code_length ≡ k + (code_length - k) = omega arith in
    all_tests (between k code_length s) ∙ ap (all (eqb 0)) (sym (ap (λ n. drop k (take n s)) wide ∙ drop-take k (code_length - k) s))

pub returns-then-not-is_listed : goal.returns-then-not-is_listed
returns-then-not-is_listed c =
    let m = c in
    sym (first m.args.s.now (omega arith) ∙ rw (← m.is_listed.ensures, c.if-not-is_listed.true))

pub loop-k-init : goal.loop-k-init
loop-k-init c =
    let m = c in
    first m.args.s.now (omega arith) ∙ rw (← m.is_listed.ensures, c.if-not-is_listed.false)

pub returns-then-not-is_listed-2 : goal.returns-then-not-is_listed-2
unfolding pick
returns-then-not-is_listed-2 c =
    let m = c in
    c.is_zero_from.ensures
    ∙ zeros m.loop-k.k m.args.s.now (omega arith)
    ∙ sym (turn (goal.at.returns-then-not-is_listed-2 c).In-loop-k ∙ rw (← m.is_listed-in-loop-k.ensures, c.if-not-is_listed-2.true))

pub loop-k-preserved : goal.loop-k-preserved
unfolding pick
loop-k-preserved c =
    let m = c in
    turn (goal.at.loop-k-preserved c).In-loop-k ∙ rw (← m.is_listed-in-loop-k.ensures, c.if-not-is_listed-2.false)

pub returns : goal.returns
returns c =
    let n = c in
    let e : n.loop-k.k ≡ code_length = omega arith in
    sym (n.loop-k.invariant ∙ rw e (none n.args.s.now))

pub is_listed-requires : goal.is_listed-requires
is_listed-requires c = c.requires.1

pub is_listed-requires-in-loop-k : goal.is_listed-requires-in-loop-k
is_listed-requires-in-loop-k c = c.requires.1
