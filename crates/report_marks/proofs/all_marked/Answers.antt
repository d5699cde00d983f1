-- `report_marks::all_marked` meets its contract: what holds of each number below n, or fails of one, is what the definition counts through.
use mathlib.Core.Bool.{Bool, true, false, not, ◌&&◌, ◌||◌, and-false}
use mathlib.Core.List.{List, [], ◌∷◌}
use mathlib.Core.Path.{◌≡◌, refl, sym, ap, ◌∙◌}
use Prim.Native.Nat.{ℕ, zero, suc, ◌<◌}
use native.Mathlib.Numerals.{add-one}
use native.Mathlib.Omega.{arith}
use borrow.Author.Tests.{tests}
use lib.ListN.{length}
use Rattle.std.proofs.Common.{rules}
use Rattle.std.specs.Bool.{MatchBool}
use Rattle.std.specs.List.{range_with_len, AllWithin, HoldsAt}
use Rattle.std.proofs.lemmas.Iterator.{YieldsList-from_range, cases_from_all}
use Rattle.model.specs.Base.{all}
use Rattle.model.specs.Propagation.{count_from}
use Rattle.theory_meaning.specs.FailedLiterals.{is_marked}
use Rattle.report_marks.specs.Noted.{is_noted}
use Rattle.report_marks.proofs.all_marked.Goals as goal

counted : (a n : ℕ) → range_with_len a n ≡ count_from a n
unfolding count_from
counted a zero = refl
counted a (suc n) = ap (λ xs. a ∷ xs) (rw (add-one a) (counted (suc a) n))

module _ (p : ℕ → Bool) where
  all_hold : (xs : List ℕ) → AllWithin (λ v. p v ≡ true) xs 0 (length xs) → all p xs ≡ true
  unfolding all
  all_hold [] h = refl
  all_hold (x ∷ xs) h = rw (h 0 0 (omega arith) (omega arith)) (all_hold xs (λ k d a b. h (suc k) d (omega arith) (omega arith)))

  one_fails : (xs : List ℕ) (k : ℕ) → k < length xs → HoldsAt (λ v. p v ≡ false) xs k → all p xs ≡ false
  unfolding all
  one_fails [] k l h = absurd (omega arith)
  one_fails (x ∷ xs) zero l h = rw (h 0)
  one_fails (x ∷ xs) (suc k) l h = rw (one_fails xs k (omega arith) h) (and-false (p x))

  told : (xs : List ℕ) (r : Bool) →
      MatchBool r (AllWithin (λ v. p v ≡ true) xs 0 (length xs)) ((k : ℕ) × (k < length xs) × HoldsAt (λ v. p v ≡ false) xs k) → r ≡ all p xs
  told xs true h = sym (all_hold xs h)
  told xs false h = sym (one_fails xs h.0 h.1 h.2)

-- An option is not named or is in or out: which is to say that it is not missing.
not_missing : (a b : Bool) → (not a || b) ≡ not (a && not b)
not_missing true true = refl
not_missing true false = refl
not_missing false b = refl

pub returns : goal.returns
returns c =
    let t = c.args.failed.now in
    let named = c.args.named.now in
    let n = c.args.n in
    let settled : ℕ → Bool = λ v. not (is_noted named v) || is_marked t v in
    let h = cases_from_all _ _ _ (λ v. settled v ≡ true) (λ v. settled v ≡ false)
    c.all.ensures.ran (YieldsList-from_range 0 n n refl (omega arith))
    (λ x q k.
    let w : (q ≡ (c.args.failed, c.args.named)) × (not (is_noted named x && not (is_marked t x)) ≡ true) = search (rules, tests) in
    (w.0, not_missing (is_noted named x) (is_marked t x) ∙ w.1))
    (λ x q k.
    let w : not (is_noted named x && not (is_marked t x)) ≡ false = search (rules, tests) in
    not_missing (is_noted named x) (is_marked t x) ∙ w) in
    told settled (range_with_len 0 n) c.all.result h ∙ ap (all settled) (counted 0 n)
