-- The length of an imported book leaves room for the refusal in one number.
use mathlib.Core.List.{List}
use Prim.Native.Nat.{ℕ, ◌<◌}
use native.Mathlib.Omega.{arith}
use lib.ListN.{length}
use Rattle.model.specs.Base.{maybe}
use Rattle.texts.specs.ClauseFile.{File}
use Rattle.texts.specs.ClauseBook.{book_of_file}
use Rattle.calls.specs.Conditions.{imported}
use Rattle.calls.specs.Calls.{import_of}
use Rattle.theory_imports.specs.Reading.{file_named}
use Rattle.theory_imports.specs.Books.{Usable, usable, file_length}
use Rattle.call_laws.specs.Accepted.{accepted_due, import_accepted}
use Rattle.c_calls.specs.Packed.{Fits}

book_small : (f : File) → Usable f → length (book_of_file f) < 72057594037927936
book_small f u = omega (arith, file_length f u, u.options, u.rules, u.nodes)

pub import_fits : (text out : List ℕ) → Fits (import_of text out).answer
unfolding import_of maybe
import_fits text out v e =
    let a = accepted_due _ (length (imported text)) v _ _ e in
    let w = import_accepted text out a.0 in
    rw (a.1, w.read) (book_small w.file (usable w.file (file_named text w.read) w.small))
