-- What is known of a text that is a clause file: every mark names one of its options.
use Rattle.std.specs.Prelude.{Bool, true, false, ◌≡◌, refl, ℕ, ◌-◌, ◌<◌, eqb, ltb}
use mathlib.Core.List.{List, [], ◌∷◌, map, flatten}
use Rattle.std.proofs.Math.Option.{some}
use Rattle.std.proofs.Common.{sym, ap, ◌∙◌, arith, lt-ltb}
use Rattle.model.specs.Base.{pick, then, all}
use Rattle.model.specs.Literal.{Literal, literal, option}
use Rattle.model.specs.Clauses.{Clause}
use Rattle.texts.specs.Decimals.{number_in}
use Rattle.texts.specs.ClauseFile.{parts, Stated, stated, words_of_line, mark_by, mark_of_word, closes, with_mark, clauses_of_words, File, file_stated, file_of_lines, past_comments, lines, file_of}
use Rattle.theory_forms.specs.Logic.{none_some, some_inj, and_split, and_join, only_some, then_some}
use Rattle.theory_texts.specs.Marks.{mark_told}
use Rattle.theory_imports.specs.Trees.{named_in}

-- "1 to V": a mark names one of V options.
pub option_literal : (v : ℕ) (b : Bool) → option (literal v b) ≡ v
unfolding option literal pick
option_literal v true = refl
option_literal v false = refl

mark_named : (n : ℕ) (barred : Bool) (ds : List ℕ) {l : Literal} → mark_by n barred ds ≡ some l → option l < n
mark_named n barred ds e =
    let (t, f) = mark_told n barred ds e in
    omega (arith, t.from_one, t.most, sym (option_literal (number_in ds - 1) barred) ∙ ap option f)

pub word_named : (n : ℕ) (w : List ℕ) {l : Literal} → mark_of_word n w ≡ some l → option l < n
unfolding mark_of_word pick
word_named n [] e = none_some e
word_named n (x ∷ xs) {l} e = go (eqb x 45) e
  where
    go : (b : Bool) → pick b (mark_by n true xs) (mark_by n false (x ∷ xs)) ≡ some l → option l < n
    go true h = mark_named n true xs h
    go false h = mark_named n false (x ∷ xs) h

-- Read from the last word on, every clause that was begun holds such marks.
with_mark_named : (n : ℕ) (l : Literal) (cs ds : List Clause) → option l < n → named_in n cs ≡ true → with_mark l cs ≡ some ds → named_in n ds ≡ true
unfolding with_mark named_in all
with_mark_named n l [] ds h k e = none_some e
with_mark_named n l (c ∷ cs) ds h k e =
    let s = and_split (all (λ x. ltb (option x) n) c) (named_in n cs) k in
    ap (named_in n) (sym (some_inj e)) ∙ and_join (and_join (lt-ltb (option l) n h) s.0) s.1

pub words_named : (n : ℕ) (ws : List (List ℕ)) {cs : List Clause} → clauses_of_words n ws ≡ some cs → named_in n cs ≡ true
unfolding clauses_of_words named_in all pick
words_named n [] e = ap (named_in n) (sym (some_inj e))
words_named n (w ∷ ws) {cs} e =
    let r = then_some (clauses_of_words n ws) _ e in
    go (closes w) r.0 (words_named n ws r.1) r.2
  where
    go :
        (b : Bool) (ds : List Clause) →
        named_in n ds ≡ true →
        pick b (some ([] ∷ ds)) (then (mark_of_word n w) (λ l. with_mark l ds)) ≡ some cs →
        named_in n cs ≡ true
    go true ds k h = ap (named_in n) (sym (some_inj h)) ∙ k
    go false ds k h =
        let m = then_some (mark_of_word n w) _ h in
        with_mark_named n m.0 ds cs (word_named n w m.1) k m.2

stated_named : (s : Stated) (ws : List (List ℕ)) {f : File} → file_stated s ws ≡ some f → named_in f.options f.clauses ≡ true
unfolding file_stated
stated_named s ws e =
    let r = then_some (clauses_of_words s.options ws) _ e in
    let o = only_some _ _ r.2 in
    ap (λ g. named_in g.options g.clauses) (sym o.1) ∙ words_named s.options ws r.1

lines_named : (ls : List (List ℕ)) {f : File} → file_of_lines ls ≡ some f → named_in f.options f.clauses ≡ true
unfolding file_of_lines
lines_named [] e = none_some e
lines_named (l ∷ ls) e =
    let r = then_some (stated (parts (λ x. eqb x 32) l)) _ e in
    stated_named r.0 (flatten (map words_of_line ls)) r.2

-- "A clause's numbers are 1 to V."
pub file_named : (text : List ℕ) {f : File} → file_of text ≡ some f → named_in f.options f.clauses ≡ true
unfolding file_of
file_named text e = lines_named (past_comments (lines text)) e
