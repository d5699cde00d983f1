-- What an import answers, by its tests; and what is known of a judged file that is not too large.
use mathlib.Core.Bool.{true, false, ◌||◌}
use mathlib.Core.List.{List}
use mathlib.Core.Option.{none, some}
use mathlib.Core.Path.{◌≡◌}
use Prim.Native.Nat.{ℕ, ◌+◌, ◌*◌, ◌≤◌, ◌<◌}
use native.Mathlib.Omega.{arith}
use borrow.Author.Tests.{lt-ltb, le-ltb, ltb-false}
use lib.Dec.{ltb}
use lib.ListN.{length}
use Rattle.model.specs.Base.{only_if, first_of, is_some, maybe, placed}
use Rattle.texts.specs.ClauseFile.{File, file_of}
use Rattle.texts.specs.ClauseBook.{nodes_of_file, book_of_file, is_too_large}
use Rattle.calls.specs.Refusals.{text_refused, size_refused, output_refused}
use Rattle.calls.specs.Outcomes.{refused, accepted, outcome}
use Rattle.calls.specs.Chains.{import_refusal}
use Rattle.calls.specs.Calls.{import_of}
use Rattle.call_answers.specs.AnswerMeaning.{after_call}
use Rattle.theory_forms.specs.Logic.{or_neither}
use Rattle.theory_imports.specs.Sizes.{length_nodes}
use Rattle.theory_imports.specs.Reading.{file_named}
use Rattle.theory_imports.specs.Books.{Usable, usable, file_length}
use Rattle.import_judge.specs.declared.Judged.{Judged}
use Rattle.import_judge.specs.Judging.{Gives}
use Rattle.import_clauses.specs.FileFrom.{file_from, JudgedGood}
use Rattle.import_clauses.proofs.Files.{file_is, judged_good}
use Rattle.call_import.specs.Sizes.{over_limits, Small}
use Rattle.call_import.proofs.LimitTests.{file_limits}

module _ (text out : List ℕ) where
  pub no_file_told : file_of text ≡ none → after_call (refused text_refused) out ≡ import_of text out
  unfolding import_of import_refusal only_if first_of outcome is_some
  no_file_told e = rw e

  module _ (f : File) (e : file_of text ≡ some f) where
    pub too_large_told : is_too_large f ≡ true → after_call (refused size_refused) out ≡ import_of text out
    unfolding import_of import_refusal only_if first_of outcome is_some maybe
    too_large_told h = rw (e, h)

    module _ (h : is_too_large f ≡ false) where
      pub no_room_told : length out < length (book_of_file f) → after_call (refused output_refused) out ≡ import_of text out
      unfolding import_of import_refusal only_if first_of outcome is_some maybe
      no_room_told k = rw (e, h, lt-ltb (length out) (length (book_of_file f)) k)

      pub given_told :
          length (book_of_file f) ≤ length out →
          {n : ℕ} {left : List ℕ} →
          n ≡ length (book_of_file f) →
          left ≡ placed (book_of_file f) out →
          after_call (accepted n) left ≡ import_of text out
      unfolding import_of import_refusal only_if first_of outcome is_some maybe
      given_told k p q = rw (e, h, le-ltb (length out) (length (book_of_file f)) k, p, q)

-- The limits of a judged text are those of its file.
pub judged_limits :
    {text : List ℕ} {j : Judged} (g : Gives (file_of text) text j) {v : ℕ} →
    v ≡ g.file.options →
    over_limits v j.clauses j.marks ≡ is_too_large g.file
judged_limits g e = rw (e, g.clauses, g.marks) (file_limits g.file)

module _ {text : List ℕ} {options : ℕ} {j : Judged} (s : Small text options j) where
  abbrev f : File
  f = s.given.file

  small_usable : Usable f
  small_usable = usable f (file_named text s.given.reads) s.fits

  pub file_there : file_from options text j.body ≡ f
  file_there = file_is text j.body options f s.number s.given.words

  pub nodes_there : j.clauses + j.marks ≡ length (nodes_of_file f)
  nodes_there = omega (arith, s.given.clauses, s.given.marks, length_nodes f)

  pub good_there : JudgedGood text j.body options j.clauses
  good_there =
      judged_good text j.body options f s.number s.given.words j.clauses s.given.within.1 s.given.clauses
      (omega (arith, s.number, small_usable.options)) small_usable.nodes

  -- How long the book is, and that the numbers that it is summed from are small.
  pub book_length : 8 + 13 * options + 4 * j.clauses + 2 * (j.clauses + j.marks) ≡ length (book_of_file f)
  book_length = omega (arith, file_length f small_usable, s.number, s.given.clauses, nodes_there)

  pub few_there : (options ≤ 512) × (j.clauses ≤ 4095) × (j.clauses + j.marks ≤ 4095)
  few_there = (
    omega (arith, s.number, small_usable.options),
    omega (arith, s.given.clauses, small_usable.rules),
    omega (arith, nodes_there, small_usable.nodes),
  )

-- A number of options that is within the limits has a small number of digits.
pub few_options : (v c m : ℕ) → over_limits v c m ≡ false → v ≤ 512
unfolding over_limits
few_options v c m e =
    let a = or_neither (ltb 512 v || ltb 4095 c || ltb 4095 (c + m)) (ltb 4096 (1 + (c + m) + m)) e in
    let b = or_neither (ltb 512 v || ltb 4095 c) (ltb 4095 (c + m)) a.0 in
    ltb-false 512 v (or_neither (ltb 512 v) (ltb 4095 c) b.0).0
