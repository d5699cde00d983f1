-- What the numbers of trees become where a literal is assigned.
use Rattle.std.specs.Prelude.{Bool, ◌&&◌, ◌||◌, not, List, ◌∷◌, ◌++◌, map, ℕ, ◌+◌, ◌-◌, ◌*◌, eqb, ltb, get_or, take, drop}
use Rattle.std.proofs.Math.Seq.{slice}
use Rattle.model.specs.Base.{pick, any}
use Rattle.model.specs.Limits.{kind_factor}
use Rattle.model.specs.Code.{value}
use Rattle.theory_forms.specs.Scan.{is_literal}
use Rattle.sheet_shifts.specs.Replaced.{replaced}

-- The number is a literal of the option.
unfoldable pub names : ℕ → ℕ → Bool
names v x = is_literal x && eqb v (value x)

-- The number at a place is a literal, whose option some number names from place 1 up to it, or after it up to an end.
unfoldable pub spreads_from : ℕ → ℕ → List ℕ → Bool
spreads_from a b l =
    let x = get_or l a 0 in
    is_literal x && (any (names (value x)) (slice 1 a l) || any (names (value x)) (slice (a + 1) b l))

-- The number of a literal's complement.
unfoldable pub opposite : ℕ → ℕ
opposite x = pick (ltb x (2 * kind_factor)) (x + kind_factor) (x - kind_factor)

-- The number of an empty group: a disjunction where the test holds, and else a conjunction.
unfoldable pub empty : Bool → ℕ
empty b = pick b 16384 12288

-- What a number becomes where a literal is assigned: by rule 9 where the test holds, and else by rule 10.
unfoldable pub assign : Bool → ℕ → ℕ → ℕ
assign nine x = replaced x (opposite x) (empty nine) (empty (not nine))

-- The numbers from place 1 up to an end changed, but not the one at a place between.
unfoldable pub around : (ℕ → ℕ) → ℕ → ℕ → List ℕ → List ℕ
around g a b l = take 1 l ++ (map g (slice 1 a l) ++ (get_or l a 0 ∷ (map g (slice (a + 1) b l) ++ drop b l)))
