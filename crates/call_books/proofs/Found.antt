-- The option that a lookup finds is small, so that it fits where a caller puts it.
use mathlib.Core.Bool.{Bool, true, false}
use mathlib.Core.List.{List, [], ◌∷◌}
use mathlib.Core.Option.{Option, none, some}
use mathlib.Core.Path.{◌≡◌, refl}
use Prim.Native.Nat.{ℕ, suc, ◌+◌, ◌≤◌, ◌<◌}
use native.Mathlib.Omega.{arith}
use lib.ListN.{length, drop}
use Rattle.model.specs.Base.{pick, maybe}
use Rattle.model.specs.Limits.{most_options}
use Rattle.model.specs.Book.{same_code, characters, option_of_code, codes_of, options_of}
use Rattle.calls.specs.Refusals.{Refusal}
use Rattle.calls.specs.Outcomes.{accepted, answer}
use Rattle.calls.specs.Chains.{book_refusal, lookup_refusal}
use Rattle.calls.specs.Calls.{lookup_of}
use Rattle.theory_forms.specs.Logic.{none_some, some_inj, first_none}
use Rattle.call_laws.specs.Books.{accepted_book}
use Rattle.book_codes.proofs.Pieces.{count_pieces}

option_below : (given : List ℕ) (k : ℕ) (cs : List (List ℕ)) {v : ℕ} → option_of_code given k cs ≡ some v → v < k + length cs
unfolding option_of_code pick
option_below given k [] e = none_some e
option_below given k (c ∷ cs) {v} e = go (same_code given (characters c)) e (option_below given (suc k) cs)
  where
    go :
        (t : Bool) →
        pick t (some k) (option_of_code given (suc k) cs) ≡ some v →
        (option_of_code given (suc k) cs ≡ some v → v < suc k + length cs) →
        v < k + length (c ∷ cs)
    go true q h = omega (arith, some_inj q)
    go false q h = omega (arith, h q)

pub found_small : (b code : List ℕ) (v : ℕ) → accepted v ≡ lookup_of b code → v ≤ most_options
unfolding lookup_of lookup_refusal answer maybe codes_of
found_small b code v e = go _ (option_of_code code 0 (codes_of b)) refl refl e
  where
    go :
        (x : Option Refusal) (o : Option ℕ) →
        lookup_refusal b code ≡ x →
        option_of_code code 0 (codes_of b) ≡ o →
        accepted v ≡ answer x (maybe 0 (λ w. w) o) →
        v ≤ most_options
    go (some r) o p q h = let z : ◌≡◌ {A = ℕ} 0 1 = cc in absurd (omega arith)
    go none none p q h = let z : v ≡ 0 = cc in omega arith
    go none (some w) p q h =
        let same : v ≡ w = cc in
        let good = accepted_book b (first_none (book_refusal b) _ p).0 in
        omega (arith, option_below code 0 (codes_of b) q, count_pieces 13 (options_of b) (drop 8 b), good.options)
