-- The tables that a run begins with, and a run whose budget is spent.
use mathlib.Core.Bool.{Bool, true, false, not}
use mathlib.Core.List.{List}
use mathlib.Core.Option.{Option, none, some}
use mathlib.Core.Path.{◌≡◌, refl, sym}
use Prim.Native.Nat.{ℕ}
use native.Mathlib.Omega.{arith}
use lib.ListN.{replicate, length-replicate, get_or-replicate}
use Rattle.std.specs.Option.{is_some}
use Rattle.std.specs.Prelude as P
use Rattle.model.specs.Base.{maybe}
use Rattle.model.specs.Limits.{sheet_room}
use Rattle.model.specs.Strategy.{Redex, next}
use Rattle.model.specs.Sheet.{nodes_in}
use Rattle.theory_rewriting.specs.Reached.{Reached, Ends, run_done, run_over}
use Rattle.search_place.specs.declared.Redex as R
use Rattle.search_place.specs.Redexes.{next_of}
use Rattle.search_sizes.specs.SizeTables.{Measured}
use Rattle.run_bounds.specs.BoundTables.{ComeTo}

-- Whether the strategy has no step, as the program asks it.
pub none_left : (o : P.Option R.Redex) (b : Bool) → is_some o ≡ not b → b ≡ maybe true (λ x. false) (next_of o)
unfolding maybe
none_left P.None true e = refl
none_left P.None false e = cc
none_left (P.Some x) true e = cc
none_left (P.Some x) false e = refl

pub run_ended :
    {start s : List ℕ} {count : ℕ} →
    Reached start count s →
    (budget : ℕ) →
    count ≡ budget →
    (o : Option Redex) →
    o ≡ next (nodes_in s) →
    Ends start budget (maybe true (λ x. false) o) count s
unfolding maybe
run_ended r budget same none e = run_done r budget (omega arith) (sym e)
run_ended r budget same (some x) e = run_over r budget same (sym e)

-- A table of ones: no bound says anything, and all have come to 1.
pub come_to_start : {s sizes : List ℕ} → Measured s sizes → ComeTo 1 0 s sizes (replicate sheet_room 1)
come_to_start m =
    let h = m.sheet in
    record {
      tables = record {
        measured = m;
        long = length-replicate {A = ℕ} sheet_room 1;
        right = λ q r within one lt. absurd (omega (arith, get_or-replicate {A = ℕ} sheet_room q 1 0 (omega (arith, h.count, h.used))));
      };
      some_rule = omega arith;
      past_all = omega arith;
      high = λ q from to. omega (arith, get_or-replicate {A = ℕ} sheet_room q 1 0 (omega (arith, h.used)));
      within = omega arith;
      past = λ q from to. absurd (omega arith);
    }
