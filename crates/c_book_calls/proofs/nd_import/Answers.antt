-- `c_book_calls::nd_import` meets its contract: the import's answer as one number, and the output.
use mathlib.Core.Path.{ap}
use Rattle.c_calls.specs.Packed.{packed_value}
use Rattle.call_answers.proofs.AnswersTold.{told}
use Rattle.c_book_calls.proofs.ImportFits.{import_fits}
use Rattle.c_book_calls.proofs.nd_import.Goals as goal

pub found-requires : goal.found-requires
found-requires c = rw (ap (λ o. o.answer) c.import.ensures) (import_fits _ _)

pub returns : goal.returns
returns c =
    let both = told packed_value c.found.ensures c.import.ensures in
    record { value = both.0; out_after = both.1 }
