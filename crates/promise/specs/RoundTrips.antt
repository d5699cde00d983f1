-- Demand 2, round trips: "A book loaded and written is the same bytes; a sheet written and loaded is the same sheet."
use Rattle.std.specs.Prelude.{true, List, ◌≡◌, ℕ, ◌≤◌, ◌<◌, length, get_or}
use Rattle.std.proofs.Common.{ap, ◌∙◌}
use Rattle.model.specs.Base.{placed}
use Rattle.model.specs.Sheet.{is_sheet, options_in}
use Rattle.model.specs.Book.{options_of, written}
use Rattle.model.specs.Limits.{sheet_length}
use Rattle.calls.specs.Outcomes.{accepted}
use Rattle.calls.specs.Calls.{check_of, load_of, write_of}
use Rattle.call_laws.specs.Books.{accepted_book, book_accepted}
use Rattle.call_laws.specs.LoadingAndWriting as round
use Rattle.theory_formats.specs.Writing.{written_accepted, written_loads}
use Rattle.theory_forms.specs.Sheets.{sheet_formed}
use Rattle.promise.specs.Refusals.{check_none}

-- "A book loaded and written is the same bytes": the writer gives the book's bytes and its length, and bytes beyond stay. (A slice
-- of bytes holds numbers below 256.)
pub load_then_write :
    (book target out : List ℕ) →
    (book_accepted : check_of book ≡ accepted tt) →
    (book_is_bytes : (i : ℕ) → get_or book i 0 < 256) →
    (target_long_enough : length target ≡ sheet_length) →
    (out_has_room : length book ≤ length out) →
    write_of (load_of book target).lent book out
    ≡ record { answer = accepted (length book); lent = placed book out }
load_then_write book target out ok bytes = round.load_then_write book target out ((check_none book).0 ok) bytes

-- "A sheet written and loaded is the same sheet": for every sheet and every accepted book of its N.
pub record WrittenAndLoaded (sheet book target out : List ℕ) : Type 0 where
  pub length_given : (write_of sheet book out).answer ≡ accepted (length (written sheet book))
  pub is_book : check_of (written sheet book) ≡ accepted tt
  pub bytes_given : (write_of sheet book out).lent ≡ placed (written sheet book) out
  pub same_sheet : load_of (written sheet book) target ≡ record { answer = accepted tt; lent = sheet }

pub write_then_load :
    (sheet book target out : List ℕ) →
    (sheet_is_one : is_sheet sheet ≡ true) →
    (book_accepted : check_of book ≡ accepted tt) →
    (book_of_its_n : options_of book ≡ options_in sheet) →
    (out_has_room : length (written sheet book) ≤ length out) →
    (target_long_enough : length target ≡ sheet_length) →
    WrittenAndLoaded sheet book target out
write_then_load sheet book target out h ok same room long =
    let fine = (check_none book).0 ok in
    let given = round.write_accepted sheet book out h fine same room in
    let form = sheet_formed sheet h in
    let codes = accepted_book book fine in
    let good = book_accepted (written sheet book) (written_accepted sheet book form codes same) in
    record {
      length_given = ap (λ o. o.answer) given;
      is_book = (check_none (written sheet book)).1 good;
      bytes_given = ap (λ o. o.lent) given;
      same_sheet =
          round.load_accepted (written sheet book) target good long ∙ ap (round.done tt) (written_loads sheet book form codes same);
    }
