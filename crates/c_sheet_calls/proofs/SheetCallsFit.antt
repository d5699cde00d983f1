-- The bounds by which each value fits beside the refusal.
use mathlib.Core.Bool.{true}
use mathlib.Core.List.{List, [], ◌∷◌}
use mathlib.Core.Option.{none}
use mathlib.Core.Path.{◌≡◌, ap}
use Prim.Native.Nat.{ℕ, ◌*◌, ◌≤◌, ◌<◌}
use native.Mathlib.Nat.{mul-le-mul_right}
use native.Mathlib.Omega.{arith}
use lib.ListN.{length}
use Rattle.model.specs.Forest.{Conn, and, or, root, at_least}
use Rattle.model.specs.Code.{Node, leaf, head, least_count, leasts, weight}
use Rattle.model.specs.Sheet.{options_in, used_in, nodes_in, is_sheet}
use Rattle.model.specs.Book.{options_of, written}
use Rattle.calls.specs.Outcomes.{accepted}
use Rattle.calls.specs.Chains.{book_refusal}
use Rattle.calls.specs.Calls.{write_of, Ran, run_of, run_with}
use Rattle.model.specs.Strategy.{cube}
use Rattle.theory_forms.specs.Sheets.{sheet_weight, sheet_formed}
use Rattle.theory_rewriting.specs.Measure.{bulk}
use Rattle.theory_rewriting.specs.Reached.{run_bounded}
use Rattle.theory_index.specs.IndexedCalls.{result_with}
use Rattle.call_laws.specs.Books.{accepted_book}
use Rattle.call_laws.specs.Accepted.{accepted_due, write_accepted, run_accepted}
use Rattle.book_write.proofs.Written.{sizes_of, length_written}
use Rattle.c_calls.specs.Packed.{Fits}

written_small :
    (s b : List ℕ) →
    is_sheet s ≡ true →
    book_refusal b ≡ none →
    options_of b ≡ options_in s →
    length (written s b) < 72057594037927936
unfolding options_in used_in
written_small s b sheet book same =
    omega (arith, length_written s b (sheet_formed s sheet) (accepted_book b book) same, sizes_of s (sheet_formed s sheet))

pub write_fits : (s b out : List ℕ) → Fits (write_of s b out).answer
unfolding write_of
write_fits s b out v e =
    let a = accepted_due _ (length (written s b)) v _ _ e in
    let w = write_accepted s b out a.0 in
    rw a.1 (written_small s b w.sheet w.book w.same)

-- No list has more nodes of kind 6 than nodes.
least_once : (c : Conn) → least_count c ≤ 1
unfolding least_count
least_once and = omega arith
least_once or = omega arith
least_once root = omega arith
least_once (at_least a) = omega arith

leasts_within : (ns : List Node) → leasts ns ≤ length ns
unfolding leasts
leasts_within [] = omega arith
leasts_within (leaf l ∷ ns) = omega (arith, leasts_within ns)
leasts_within (head c k ∷ ns) = omega (arith, leasts_within ns, least_once c)

-- The cube of a sheet's nodes, those of kind 6 counted twice, and twice its literals, for its weight of at most 4,096.
cube_small : (x : ℕ) → x ≤ 12288 → cube x ≤ 1855425871872
cube_small x h =
    let once : x * x ≤ 12288 * x = mul-le-mul_right x h in
    let twice : x * x * x ≤ 12288 * x * x = mul-le-mul_right x once in
    omega arith

run_fits : (s : List ℕ) (b : ℕ) (v : Ran) → accepted v ≡ (run_of s b).answer → v.count ≤ 1855425871872
unfolding run_of weight
run_fits s b v e =
    let a = accepted_due _ _ v _ _ e in
    let sheet = run_accepted s a.0 in
    let few = run_bounded s b (sheet_formed s sheet) in
    omega (arith, ap (λ r. r.count) a.1, cube_small (bulk 2 (nodes_in s)) (omega (arith, sheet_weight s sheet, leasts_within (nodes_in s))))

pub run_with_fits : (s index : List ℕ) (b : ℕ) (v : Ran) → accepted v ≡ (run_with s index b).answer → v.count ≤ 1855425871872
unfolding run_with
run_with_fits s index b v e = run_fits s b v (result_with (λ u. u) s index (run_of s b) e)
