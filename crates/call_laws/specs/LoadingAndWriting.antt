-- The loader and the writer where they are accepted, and the first round trip in their terms.
use Rattle.std.specs.Prelude.{true, List, ◌≡◌, ℕ, ◌≤◌, length}
use Rattle.std.proofs.Math.Option.{none}
use Rattle.std.proofs.Common.{sym, ◌∙◌, eq-eqb, le-ltb}
use Rattle.model.specs.Base.{first_of, only_if, placed}
use Rattle.model.specs.Limits.{sheet_length}
use Rattle.model.specs.Sheet.{options_in, is_sheet, sheet_of}
use Rattle.model.specs.Book.{options_of, book_nodes, written}
use Rattle.calls.specs.Outcomes.{accepted, Outcome, outcome}
use Rattle.calls.specs.Chains.{book_refusal, load_refusal, write_refusal}
use Rattle.calls.specs.Calls.{load_of, write_of}
use Rattle.theory_forms.specs.Sheets.{options_made}
use Rattle.theory_formats.specs.Bytes.{Bytes}
use Rattle.theory_formats.specs.Loading.{loaded_sheet}
use Rattle.call_laws.specs.Books.{accepted_book}
use Rattle.theory_formats.specs.Writing.{loaded_writes}

-- An accepted call's answer, and what the buffer holds after it.
abbrev pub done : {A : Type 0} → A → List ℕ → Outcome (List ℕ) A
done a l = record { answer = accepted a; lent = l }

-- The loader on an accepted book, and the writer on a sheet and an accepted book of as many options.
pub load_accepted :
    (b target : List ℕ) →
    book_refusal b ≡ none →
    length target ≡ sheet_length →
    load_of b target ≡ done tt (sheet_of (options_of b) (book_nodes b))
unfolding load_of load_refusal outcome first_of only_if
load_accepted b target book long = rw (eq-eqb (length target) sheet_length long, book)

pub write_accepted :
    (s b out : List ℕ) →
    is_sheet s ≡ true →
    book_refusal b ≡ none →
    options_of b ≡ options_in s →
    length (written s b) ≤ length out →
    write_of s b out ≡ done (length (written s b)) (placed (written s b) out)
unfolding write_of write_refusal outcome first_of only_if
write_accepted s b out sheet book same room =
    rw (sheet, book, eq-eqb (options_of b) (options_in s) same, le-ltb (length out) (length (written s b)) room)

-- A book that is loaded into a sheet, and the sheet written again with that book's codes: the same bytes.
pub load_then_write :
    (b target out : List ℕ) →
    book_refusal b ≡ none →
    Bytes b →
    length target ≡ sheet_length →
    length b ≤ length out →
    write_of (load_of b target).lent b out ≡ done (length b) (placed b out)
load_then_write b target out book bytes long room =
    let same = loaded_writes b (accepted_book b book) bytes in
    rw (load_accepted b target book long)
    (write_accepted (sheet_of (options_of b) (book_nodes b)) b out (loaded_sheet b (accepted_book b book)) book
    (sym (options_made (options_of b) (book_nodes b))) (rw same room)
    ∙ rw same)
