-- One pass over the words of a file: what is written and what is left at each of them.
use mathlib.Core.Bool.{Bool, true, false}
use mathlib.Core.List.{List, [], ◌∷◌}
use mathlib.Core.Option.{some}
use mathlib.Core.Path.{◌≡◌, refl, sym, ap, ◌∙◌}
use Prim.Native.Nat.{ℕ, ◌+◌, ◌*◌, ◌≤◌, ◌<◌}
use native.Mathlib.Omega.{arith}
use borrow.Author.Tests.{eq-eqb, ne_eqb}
use lib.Dec.{eqb}
use lib.ListN.{length, get_or, drop}
use lib.Seq.{drop-drop}
use Rattle.model.specs.Base.{maybe, is_some}
use Rattle.model.specs.Limits.{most_options, most_nodes, head_length, code_length, sheet_room}
use Rattle.model.specs.Literal.{literal}
use Rattle.model.specs.Code.{leaf}
use Rattle.texts.specs.ClauseFile.{mark_of_word, closes, clauses_of_words}
use Rattle.texts.specs.ClauseBook.{nodes_of_file, book_of_file}
use Rattle.theory_forms.specs.Logic.{some_inj, is_some_of}
use Rattle.theory_texts.specs.Breaks.{breaks, words_after}
use Rattle.theory_texts.specs.Spans.{span}
use Rattle.theory_texts.specs.WordKinds.{word_length, word_at}
use Rattle.theory_texts.specs.FromPlaces.{words_same, word_here, words_ended}
use Rattle.theory_texts.specs.Marks.{mark_wider, word_read, closing, zero_long}
use Rattle.theory_imports.specs.Reading.{option_literal, word_named}
use Rattle.theory_imports.specs.Sizes.{length_nodes}
use Rattle.import_bytes.proofs.Places.{first_here}
use Rattle.import_clauses.specs.Drafts.{with_nodes, closed, drafted}
use Rattle.import_clauses.specs.FileFrom.{clauses_from, file_from, JudgedGood}
use Rattle.import_clauses.proofs.BookDrafts.{length_book}
use Rattle.import_clauses.proofs.DraftWords.{Left, left_first, left_none, left_close, left_mark}

-- Where the pass is: at a word or at the end, in an output of the same length, with the rest of the clauses left to write.
pub record Written (n contents bodies rules nodes : ℕ) (made text : List ℕ) (room : ℕ) (k first next at : ℕ) (l : List ℕ) : Type 0 where
  pub within : at ≤ length text
  pub here : at < length text → breaks (drop at text) ≡ false
  pub in_order : first < next
  pub long : length l ≡ room
  pub left : Left n contents bodies rules nodes made (words_after (drop at text)) k first next l

-- That, for the book of the file that a text is from a place on.
abbrev contents_from : ℕ → ℕ
contents_from n = head_length + code_length * n

abbrev bodies_from : ℕ → ℕ → ℕ
bodies_from n rules = contents_from n + 4 * rules

abbrev nodes_due : List ℕ → ℕ → ℕ → ℕ
nodes_due text body n = length (nodes_of_file (file_from n text body))

abbrev all_made : List ℕ → ℕ → ℕ → ℕ → List ℕ → List ℕ
all_made text body n rules old = drafted (contents_from n) (bodies_from n rules) 0 0 1 (clauses_from n text body) old

abbrev pub State : List ℕ → ℕ → ℕ → ℕ → List ℕ → ℕ → ℕ → ℕ → ℕ → List ℕ → Type 0
State text body n rules old k first next at l =
    Written n (contents_from n) (bodies_from n rules) rules (nodes_due text body n) (all_made text body n rules old) text (length old) k first
    next at l

module _
    {text : List ℕ} {body n rules : ℕ} (old : List ℕ)
    (good : JudgedGood text body n rules)
    (room : length (book_of_file (file_from n text body)) ≤ length old)
  where
    abbrev contents : ℕ
    contents = contents_from n

    abbrev bodies : ℕ
    bodies = bodies_from n rules

    abbrev nodes : ℕ
    nodes = nodes_due text body n

    abbrev made : List ℕ
    made = all_made text body n rules old

    pub wide : bodies + 2 * nodes ≤ length old
    wide = omega (arith, room, length_book (file_from n text body) (omega (arith, good.few_options)), good.counted)

    pub few_rules : rules ≤ most_nodes
    few_rules = omega (arith, good.counted, good.few_nodes, length_nodes (file_from n text body))

    are_read : clauses_of_words n (words_after (drop body text)) ≡ some (clauses_from n text body)
    unfolding clauses_from maybe
    are_read =
        let (cs, e) = is_some_of (clauses_of_words n (words_after (drop body text))) good.reads in
        e ∙ ap (λ o. some (maybe [] (λ cs. cs) o)) (sym e)

    pub begun : (at : ℕ) → at ≡ body + span breaks (drop body text) → at ≤ length text → State text body n rules old 0 0 1 at old
    begun at far h =
        record {
          within = h;
          here = word_here text body at far;
          in_order = omega arith;
          long = refl;
          left =
              left_first n contents bodies rules nodes made (words_after (drop at text)) (clauses_from n text body) old
              (ap (clauses_of_words n) (words_same text body at far) ∙ are_read) refl (sym good.counted)
              (sym (length_nodes (file_from n text body)));
        }

    module _ {k first next at : ℕ} {l : List ℕ} (s : State text body n rules old k first next at l) where
      pub few_written : (k ≤ most_nodes) × (next ≤ sheet_room)
      few_written = (omega (arith, s.left.rules_due, few_rules), omega (arith, s.left.nodes_due, good.few_nodes))

      pub all_written : length text ≤ at → l ≡ made
      all_written h =
          left_none n contents bodies rules nodes made {k = k} {first = first} {next = next} (rw (← words_ended text at h) s.left)

      module _ (h : at < length text) where
        abbrev b : List ℕ
        b = drop at text

        -- The word here, and those after it.
        word_left :
            (end : ℕ) →
            end ≡ at + word_length b →
            Left n contents bodies rules nodes made (word_at b ∷ words_after (drop end text)) k first next l
        word_left end far =
            let rest : drop (word_length b) b ≡ drop end text = drop-drop (word_length b) at text ∙ ap (λ i. drop i text) (sym far) in
            let words : words_after b ≡ word_at b ∷ words_after (drop end text) =
            (word_read n b (s.here h) s.left.read).words ∙ ap (λ r. word_at b ∷ words_after r) rest in
            rw (← words) s.left

        pub goes_on : (end : ℕ) → end ≡ at + word_length b → at < end
        goes_on end far = omega (arith, far, (word_read n b (s.here h) s.left.read).some_byte)

        module _ (zero : get_or text at 0 ≡ 48) where
          closes_here : closes (word_at b) ≡ true
          closes_here = closing n b (s.here h) s.left.read ∙ eq-eqb (get_or b 0 0) 48 (first_here text at ∙ zero)

          ends_here : at + 1 ≡ at + word_length b
          ends_here = ap (λ i. at + i) (sym (zero_long n b (s.here h) s.left.read (first_here text at ∙ zero)))

          -- A clause ends: there is room for its any-of and its pair of contents, and after these the next clause is written.
          pub rule_room :
              ((first < next) × (next ≤ sheet_room) × (contents + 4 * k + 4 ≤ length l)) × (bodies + 2 * first + 2 ≤ length l)
          rule_room =
              let (few, most, after) = left_close n contents bodies rules nodes made (word_at b) closes_here (word_left (at + 1) ends_here) in
              ((s.in_order, omega (arith, most, good.few_nodes), omega (arith, few, wide, s.long)), omega (arith, most, s.in_order, wide, s.long))

          pub rule_more :
              (later : ℕ) (l₁ : List ℕ) →
              l₁ ≡ closed contents bodies k first next l →
              length l₁ ≡ length l →
              later ≡ at + 1 + span breaks (drop (at + 1) text) →
              later ≤ length text →
              State text body n rules old (k + 1) next (next + 1) later l₁
          rule_more later l₁ e same far end =
              let (few, most, after) = left_close n contents bodies rules nodes made (word_at b) closes_here (word_left (at + 1) ends_here) in
              record {
                within = end;
                here = word_here text (at + 1) later far;
                in_order = omega arith;
                long = same ∙ s.long;
                left = rw (e, words_same text (at + 1) later far) after;
              }

        module _ (other : get_or text at 0 ≡ 48 → ⊥) where
          open_here : closes (word_at b) ≡ false
          open_here =
              closing n b (s.here h) s.left.read ∙ ap (λ x. eqb x 48) (first_here text at) ∙ ne_eqb (get_or text at 0) 48 other

          -- A mark: one of the options, with room for its node.
          pub mark_asked : is_some (mark_of_word most_options (word_at b)) ≡ true
          unfolding is_some
          mark_asked =
              let (m, e, room, after) =
              left_mark n contents bodies rules nodes made (word_at b) open_here (word_left (at + word_length b) refl) in
              ap is_some (mark_wider n most_options (word_at b) good.few_options e)

          module _ (v : ℕ) (barred : Bool) (told : mark_of_word most_options (word_at b) ≡ some (literal v barred)) where
            pub mark_room : (v < most_options) × (bodies + 2 * next + 2 ≤ length l)
            mark_room =
                let (m, e, room, after) =
                left_mark n contents bodies rules nodes made (word_at b) open_here (word_left (at + word_length b) refl) in
                (rw (← option_literal v barred) (word_named most_options (word_at b) told), omega (arith, room, wide, s.long))

            pub mark_more :
                (end later : ℕ) (l₁ : List ℕ) →
                end ≡ at + word_length b →
                l₁ ≡ with_nodes bodies next (leaf (literal v barred) ∷ []) l →
                length l₁ ≡ length l →
                later ≡ end + span breaks (drop end text) →
                later ≤ length text →
                State text body n rules old k first (next + 1) later l₁
            mark_more end later l₁ past e same far last =
                let (m, f, room, after) = left_mark n contents bodies rules nodes made (word_at b) open_here (word_left end past) in
                let same_mark : literal v barred ≡ m =
                some_inj (sym told ∙ mark_wider n most_options (word_at b) good.few_options f) in
                record {
                  within = last;
                  here = word_here text end later far;
                  in_order = omega (arith, s.in_order);
                  long = same ∙ s.long;
                  left = rw (e, same_mark, words_same text end later far) after;
                }
