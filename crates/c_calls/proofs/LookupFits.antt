-- The option that a lookup finds fits beside the refusal.
use mathlib.Core.List.{List}
use Prim.Native.Nat.{ℕ}
use native.Mathlib.Omega.{arith}
use Rattle.calls.specs.Calls.{lookup_of}
use Rattle.call_books.proofs.Found.{found_small}
use Rattle.c_calls.specs.Packed.{Fits}

pub lookup_fits : (b code : List ℕ) → Fits (lookup_of b code)
lookup_fits b code v e = omega (arith, found_small b code v e)
