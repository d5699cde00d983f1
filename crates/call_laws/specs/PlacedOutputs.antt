-- The desk's lines are read off the first bytes of an output, one an option.
use Rattle.std.specs.Prelude.{List, [], ◌∷◌, ◌++◌, ◌≡◌, refl, ℕ, zero, suc, length, take, drop}
use Rattle.std.proofs.Common.{sym, ap, ◌∙◌}
use Rattle.model.specs.Base.{placed}
use Rattle.model.specs.Limits.{code_length, head_length}
use Rattle.model.specs.Book.{options_of, codes_of, pieces, characters}
use Rattle.calls.specs.Desk.{line, mark_word, option_lines}
use Rattle.theory_forms.specs.Placed.{placed_start}

pub lines_first :
    (k n : ℕ) (b marks : List ℕ) →
    option_lines (pieces k n b) (take n marks) ≡ option_lines (pieces k n b) marks
unfolding option_lines pieces
lines_first k zero b marks = refl
lines_first k (suc n) b [] = refl
lines_first k (suc n) b (m ∷ marks) =
    ap (λ r. line (characters (take k b)) (mark_word m) ++ r) (lines_first k n (drop k b) marks)

pub lines_placed :
    (book new old : List ℕ) →
    length new ≡ options_of book →
    option_lines (codes_of book) (placed new old) ≡ option_lines (codes_of book) new
unfolding codes_of
lines_placed book new old long =
    let n = options_of book in
    let codes = pieces code_length n (drop head_length book) in
    sym (lines_first code_length n (drop head_length book) (placed new old))
    ∙ ap (option_lines codes) (placed_start new old long)
