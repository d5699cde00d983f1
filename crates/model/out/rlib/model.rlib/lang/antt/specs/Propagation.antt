-- The report that contracts cite: unit propagation on the rules multiplied out, done literally.
use Rattle.std.specs.Prelude.{Bool, ◌&&◌, ◌||◌, not, ℕ, zero, suc, eqb, length, replicate}
use mathlib.Core.List.{List, [], ◌∷◌, flatten, map}
use Rattle.std.proofs.Math.Option.{Option, none}
use Rattle.model.specs.Base.{pick, only_if, first_of, maybe, all, any}
use Rattle.model.specs.Literal.{Literal, pos, neg, complement, same, has}
use Rattle.model.specs.Clauses.{Clause}

-- The marks of a clause other than a given one. "A clause is a set": every copy of the given one goes.
unfoldable pub others : Literal → Clause → Clause
others l [] = []
others l (x ∷ c) = pick (same l x) (others l c) (x ∷ others l c)

-- Every literal of the clause has its complement among the facts.
unfoldable pub refuted : List Literal → Clause → Bool
refuted facts c = all (λ x. has (complement x) facts) c

-- The first literal of a clause, among those still to be tried, that the clause forces and that is no fact yet.
unfoldable pub forced_in : List Literal → Clause → Clause → Option Literal
forced_in facts c [] = none
forced_in facts c (l ∷ ls) =
    first_of (only_if (not (has l facts) && refuted facts (others l c)) l) (forced_in facts c ls)

unfoldable pub forced : List Literal → List Clause → Option Literal
forced facts [] = none
forced facts (c ∷ cs) = first_of (forced_in facts c c) (forced facts cs)

-- Forced literals become facts, one after another, for a number of rounds.
unfoldable pub propagate : ℕ → List Clause → List Literal → List Literal
propagate zero cs facts = facts
propagate (suc n) cs facts = maybe facts (λ l. propagate n cs (l ∷ facts)) (forced facts cs)

-- The facts: each round adds a literal that stands in the clauses, so as many rounds as literals stand there are enough.
unfoldable pub facts_of : List Clause → List Literal
facts_of cs = propagate (length (flatten cs)) cs []

-- "The sheet is contradictory when some clause has the opposite of every mark among the facts."
unfoldable pub conflict : List Literal → List Clause → Bool
conflict facts cs = any (refuted facts) cs

-- "0 open, 1 in, 2 out."
unfoldable pub mark : List Literal → ℕ → ℕ
mark facts v = pick (has (pos v) facts) 1 (pick (has (neg v) facts) 2 0)

-- The numbers from one on, so many.
unfoldable pub count_from : ℕ → ℕ → List ℕ
count_from v zero = []
count_from v (suc n) = v ∷ count_from (suc v) n

-- "A report writes N bytes: 0 open, 1 in, 2 out; all 3 when contradictory, which its result says too."
pub record Report : Type 0 where
  pub contradictory : Bool
  pub marks : List ℕ

unfoldable pub report_by : ℕ → List Clause → List Literal → Report
report_by n cs facts =
    record {
      contradictory = conflict facts cs;
      marks = pick (conflict facts cs) (replicate n 3) (map (mark facts) (count_from 0 n));
    }

unfoldable pub report : ℕ → List Clause → Report
report n cs = report_by n cs (facts_of cs)

-- "A sheet is complete if it is not contradictory and every option is 1 or 2."
unfoldable pub complete : Report → Bool
complete r = not r.contradictory && all (λ m. eqb m 1 || eqb m 2) r.marks
