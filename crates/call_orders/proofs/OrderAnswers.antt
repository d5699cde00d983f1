-- The answers for a sheet with a book and lines beside it, in the order of the tests.
use mathlib.Core.Bool.{true, false}
use mathlib.Core.List.{List}
use mathlib.Core.Option.{none, some}
use mathlib.Core.Path.{◌≡◌, refl, sym}
use Prim.Native.Nat.{ℕ}
use borrow.Author.Tests.{eq-eqb, ne_eqb}
use lib.ListN.{get_or}
use Rattle.model.specs.Base.{first_of, only_if}
use Rattle.model.specs.Sheet.{options_in, is_sheet}
use Rattle.model.specs.Book.{options_of}
use Rattle.calls.specs.Refusals.{Refusal, sheet_refused}
use Rattle.calls.specs.Lines.{State}
use Rattle.calls.specs.Conditions.{has_lines_in_order}
use Rattle.calls.specs.Chains.{book_refusal, order_refusal}

module _ (t : State) (b : List ℕ) where
  pub no_sheet : is_sheet t.sheet ≡ false → some sheet_refused ≡ order_refusal t b
  unfolding order_refusal first_of only_if
  no_sheet h = rw h

  module _ (sheet : is_sheet t.sheet ≡ true) where
    pub not_accepted : {r : Refusal} → book_refusal b ≡ some r → some r ≡ order_refusal t b
    unfolding order_refusal first_of only_if
    not_accepted e = rw (sheet, e)

    module _ (book : book_refusal b ≡ none) where
      pub other_options : (options_of b ≡ options_in t.sheet → ⊥) → some sheet_refused ≡ order_refusal t b
      unfolding order_refusal first_of only_if
      other_options ne = rw (sheet, book, ne_eqb (options_of b) (options_in t.sheet) ne)

      module _ (same : options_of b ≡ options_in t.sheet) where
        pub no_order : has_lines_in_order t ≡ false → some sheet_refused ≡ order_refusal t b
        unfolding order_refusal first_of only_if
        no_order o = rw (sheet, book, eq-eqb (options_of b) (options_in t.sheet) same, o)

        pub in_order : has_lines_in_order t ≡ true → none ≡ order_refusal t b
        unfolding order_refusal first_of only_if
        in_order o = rw (sheet, book, eq-eqb (options_of b) (options_in t.sheet) same, o)

-- The first number of a sheet is N.
pub options_read : (s : List ℕ) → get_or s 0 0 ≡ options_in s
unfolding options_in
options_read s = refl
