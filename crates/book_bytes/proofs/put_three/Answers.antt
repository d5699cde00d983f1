-- `book_bytes::put_three` meets its contract: one number more, three times.
use mathlib.Core.List.{◌∷◌, []}
use mathlib.Core.Path.{refl}
use native.Mathlib.Omega.{arith}
use lib.ListN.{length-set}
use Rattle.common_lists.proofs.Starts.{start_more}
use Rattle.book_bytes.proofs.put_three.Goals as goal

pub bounds-out-1 : goal.bounds-out-1
bounds-out-1 c = simp length-set (omega arith)

pub returns : goal.returns
returns c =
    let old = c.args.out.now in
    let x = c.args.x in
    let y = c.args.y in
    let z = c.args.z in
    let one = start_more [] (x ∷ []) old x refl refl (omega arith) refl in
    let two = start_more (x ∷ []) (x ∷ y ∷ []) old y refl refl (omega arith) one in
    start_more (x ∷ y ∷ []) (x ∷ y ∷ z ∷ []) old z refl refl (omega arith) two
