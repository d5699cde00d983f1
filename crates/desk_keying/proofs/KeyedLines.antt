-- A line keyed, case by case; the first line of the input and the lines after it.
use mathlib.Core.List.{List, [], ◌∷◌}
use mathlib.Core.Bool.{Bool, true, false, ◌||◌}
use mathlib.Core.Option.{Option, none, some}
use mathlib.Core.Path.{◌≡◌, refl, sym, ap, ◌∙◌}
use Prim.Native.Nat.{ℕ, suc, ◌+◌, ◌-◌, ◌≤◌, ◌<◌}
use native.Mathlib.Numerals.{add-one}
use native.Mathlib.Omega.{arith}
use borrow.Author.Rules.{part_to_end}
use borrow.Author.Tests.{eqb-true, eq-eqb, ne_eqb}
use lib.Dec.{eqb}
use lib.ListN.{length, take, drop, get_or, set, length-take, drop_of_length-le}
use lib.Seq.{drop-cons, drop-drop, drop-length, get_or-take, get_or-drop}
use Rattle.model.specs.Base.{pick}
use Rattle.model.specs.Literal.{literal}
use Rattle.model.specs.Limits.{most_options}
use Rattle.model.specs.Results.{appended}
use Rattle.calls.specs.Refusals.{Refusal, option_refused, list_refused}
use Rattle.calls.specs.Outcomes.{Answer, refused, accepted, Outcome, outcome}
use Rattle.calls.specs.Lines.{most_lines, State}
use Rattle.calls.specs.Chains.{key_refusal}
use Rattle.calls.specs.Calls.{lookup_of, key_of}
use Rattle.calls.specs.Desk.{before_line, lines, key_found, key_signed, keyed, go_on, all_keyed}
use Rattle.theory_forms.specs.Logic.{true_false}
use Rattle.call_laws.specs.Accepted.{key_accepted}
use Rattle.call_laws.specs.Rekeyed.{keyed_state, key_outcome}
use Rattle.call_answers.specs.AnswerMeaning.{after_call, on_sheet}
use Rattle.call_books.proofs.Found.{found_small}
use Rattle.order_lines.specs.declared.Line.{Line}
use Rattle.order_lines.specs.LineMeaning.{line, lines_of, order}
use Rattle.order_lines.proofs.LineLaws.{lines_set}
use Rattle.desk_keying.specs.Endings.{ending, asked, with_option, line_keyed}

-- The sense of a line, by its first byte.
abbrev pub negative_of : List ℕ → Bool
negative_of l = eqb (get_or l 0 0) 45

-- A line does with its option and its sense what a keying does.
by_sign : (book l : List ℕ) (t : State) → key_signed book l t ≡ key_found (asked book l) (negative_of l) t
unfolding key_signed key_found asked pick
by_sign book [] t = refl
by_sign book (x ∷ code) t = go (eqb x 43) refl (eqb x 45) refl
  where
    none : Outcome State (Unit {0})
    none = record { answer = refused option_refused; lent = t }

    go :
        (plus : Bool) →
        eqb x 43 ≡ plus →
        (minus : Bool) →
        eqb x 45 ≡ minus →
        pick plus (key_found (lookup_of book code) false t) (pick minus (key_found (lookup_of book code) true t) none)
        ≡ key_found (pick (plus || minus) (lookup_of book code) (refused option_refused)) minus t
    go true e true f = absurd (omega (arith, eqb-true x 43 e, eqb-true x 45 f))
    go true e false f = refl
    go false e true f = refl
    go false e false f = refl

-- The option of a line, by its first byte.
module _ (book : List ℕ) where
  pub asked_nothing : (l : List ℕ) → length l ≡ 0 → refused option_refused ≡ asked book l
  unfolding asked
  asked_nothing [] e = refl
  asked_nothing (x ∷ l) e = absurd (omega (arith, e))

  pub asked_unsigned : (l : List ℕ) → (eqb (get_or l 0 0) 43 || eqb (get_or l 0 0) 45) ≡ false → refused option_refused ≡ asked book l
  unfolding asked pick
  asked_unsigned [] e = refl
  asked_unsigned (x ∷ l) e = rw e

  pub asked_code : (l : List ℕ) → (eqb (get_or l 0 0) 43 || eqb (get_or l 0 0) 45) ≡ true → lookup_of book (drop 1 l) ≡ asked book l
  unfolding asked pick
  asked_code [] e = true_false (sym e)
  asked_code (x ∷ l) e = rw e

-- An option that is asked for stands behind a sign, and is small.
pub asked_small : (book l : List ℕ) (v : ℕ) → asked book l ≡ accepted v → (1 ≤ length l) × (v ≤ most_options)
unfolding asked pick
asked_small book [] v e = let z : ◌≡◌ {A = ℕ} 0 1 = cc in absurd (omega arith)
asked_small book (x ∷ code) v e = (omega arith, go (eqb x 43 || eqb x 45) e)
  where
    go : (sign : Bool) → pick sign (lookup_of book code) (refused option_refused) ≡ accepted v → v ≤ most_options
    go true e = found_small book code v (sym e)
    go false e = let z : ◌≡◌ {A = ℕ} 0 1 = cc in absurd (omega arith)

-- A refusal is the same with a number to give and with none.
same_refusal :
    {q r : Refusal} {u w : List ℕ} →
    after_call {A = ℕ} (refused r) u ≡ record { answer = refused q; lent = w } →
    after_call {A = Unit {0}} (refused r) u ≡ record { answer = refused q; lent = w }
same_refusal {q} {r} {u} {w} e =
    let f : ◌≡◌ {A = Answer ℕ} (refused r) (refused q) = ap (λ o. o.answer) e in
    let same : r ≡ q = cc in
    let left : u ≡ w = ap (λ o. o.lent) e in
    λ i. record { answer = refused (same i); lent = left i }

-- A line on its own: where the list is full, where it names no option, and where it is keyed.
module _ (book l s : List ℕ) (ls : List Line) (c : ℕ) where
  abbrev none_taken : Outcome State (Unit {0})
  none_taken = record { answer = refused list_refused; lent = order s ls c }

  keyed_is :
      keyed book l (order s ls c)
      ≡ pick (eqb c most_lines) none_taken (key_found (asked book l) (negative_of l) (order s ls c))
  unfolding keyed
  keyed_is = ap (pick (eqb c most_lines) none_taken) (by_sign book l (order s ls c))

  pub line_full : c ≡ most_lines → after_call (refused list_refused) s ≡ line_keyed book l (order s ls c)
  unfolding line_keyed with_option pick
  line_full e = rw (keyed_is, eq-eqb c most_lines e)

  module _ (free : c ≡ most_lines → ⊥) where
    pub line_unknown : {r : Refusal} → asked book l ≡ refused r → after_call (refused r) s ≡ line_keyed book l (order s ls c)
    unfolding line_keyed with_option key_found pick
    line_unknown e = rw (keyed_is, ne_eqb c most_lines free, e)

    line_key :
        {v : ℕ} {a : Answer (Unit {0})} {u : List ℕ} →
        asked book l ≡ accepted v →
        after_call a u ≡ on_sheet (key_of (order s ls c) v (negative_of l)) →
        after_call (with_option (accepted v) a) u ≡ line_keyed book l (order s ls c)
    unfolding line_keyed key_found pick
    line_key {v} e k =
        rw (keyed_is, ne_eqb c most_lines free, e) (ap (λ o. record { answer = with_option (accepted v) o.answer; lent = o.lent }) k)

    pub key_refused :
        {v : ℕ} {r : Refusal} {u : List ℕ} →
        asked book l ≡ accepted v →
        after_call (refused r) u ≡ on_sheet (key_of (order s ls c) v (negative_of l)) →
        after_call (refused r) u ≡ line_keyed book l (order s ls c)
    unfolding with_option
    key_refused e k = line_key e k

    pub key_taken :
        {v : ℕ} {u : List ℕ} →
        asked book l ≡ accepted v →
        after_call (accepted tt) u ≡ on_sheet (key_of (order s ls c) v (negative_of l)) →
        after_call (accepted v) u ≡ line_keyed book l (order s ls c)
    unfolding with_option
    key_taken e k = line_key e k

  -- What such an answer says of the whole state: a refusal leaves its sheet, an option that was keyed is the last line.
  pub line_stopped :
      {r : Refusal} {u : List ℕ} →
      after_call (refused r) u ≡ line_keyed book l (order s ls c) →
      after_call (refused r) u ≡ on_sheet (keyed book l (order s ls c))
  unfolding line_keyed with_option key_found pick
  line_stopped {r} {u} e = rw keyed_is (go (eqb c most_lines) (asked book l) (rw keyed_is at e))
    where
      by_key :
          (v : ℕ) (x : Answer (Unit {0})) (w : List ℕ) →
          after_call (refused r) u ≡ record { answer = with_option (accepted v) x; lent = w } →
          after_call (refused r) u ≡ record { answer = x; lent = w }
      by_key v (refused q) w e = same_refusal e
      by_key v (accepted y) w e = let f = ap (λ o. o.answer) e in let z : ◌≡◌ {A = ℕ} 0 1 = cc in absurd (omega arith)

      go :
          (full : Bool) (a : Answer ℕ) →
          let done = pick full none_taken (key_found a (negative_of l) (order s ls c)) in
          after_call (refused r) u ≡ record { answer = with_option a done.answer; lent = done.lent.sheet } →
          after_call (refused r) u ≡ on_sheet done
      go true a e = same_refusal e
      go false (refused q) e = same_refusal e
      go false (accepted v) e = by_key v (key_of (order s ls c) v (negative_of l)).answer _ e

  pub record LastKeyed (v : ℕ) (u : List ℕ) : Type 0 where
    pub keyed_so :
        keyed book l (order s ls c)
        ≡ record { answer = accepted tt; lent = order u (set ls c (line v (negative_of l))) (c + 1) }
    pub free : c < most_lines
    pub asked_so : asked book l ≡ accepted v

  pub line_accepted : {v : ℕ} {u : List ℕ} → after_call (accepted v) u ≡ line_keyed book l (order s ls c) → LastKeyed v u
  unfolding line_keyed with_option key_found key_of outcome pick
  line_accepted {v} {u} e = go (eqb c most_lines) refl (asked book l) refl (rw keyed_is at e)
    where
      by_key :
          (w : ℕ) (o : Option Refusal) →
          eqb c most_lines ≡ false →
          asked book l ≡ accepted w →
          key_refusal (order s ls c) w ≡ o →
          let done = outcome {A = Unit {0}} o tt (order s ls c) (keyed_state (order s ls c) (literal w (negative_of l))) in
          after_call (accepted v) u ≡ record { answer = with_option (accepted w) done.answer; lent = done.lent.sheet } →
          LastKeyed v u
      by_key w (some r) p q d e = let f = ap (λ o. o.answer) e in let z : ◌≡◌ {A = ℕ} 0 1 = cc in absurd (omega arith)
      by_key w none p q d e =
          let f : accepted v ≡ accepted w = ap (λ o. o.answer) e in
          let same : v ≡ w = cc in
          let sheet : appended s (literal w (negative_of l)) ≡ u = sym (ap (λ o. o.lent) e) in
          let lines : set (lines_of ls) c (literal w (negative_of l)) ≡ lines_of (set ls c (line v (negative_of l))) =
          ap (λ x. set (lines_of ls) c (literal x (negative_of l))) (sym same) ∙ sym (lines_set ls c (line v (negative_of l))) in
          let state : keyed_state (order s ls c) (literal w (negative_of l)) ≡ order u (set ls c (line v (negative_of l))) (c + 1) =
          λ i. record { sheet = sheet i; lines = lines i; count = c + 1 } in
          record {
            keyed_so =
                keyed_is
                ∙ (λ i. pick (p i) none_taken (key_found (q i) (negative_of l) (order s ls c)))
                ∙ key_outcome (order s ls c) w (negative_of l) d
                ∙ (λ i. record { answer = accepted tt; lent = state i });
            free = (key_accepted (order s ls c) w d).free;
            asked_so = q ∙ ap accepted (sym same);
          }

      go :
          (full : Bool) →
          eqb c most_lines ≡ full →
          (a : Answer ℕ) →
          asked book l ≡ a →
          let done = pick full none_taken (key_found a (negative_of l) (order s ls c)) in
          after_call (accepted v) u ≡ record { answer = with_option a done.answer; lent = done.lent.sheet } →
          LastKeyed v u
      go true p a q e = let f = ap (λ o. o.answer) e in let z : ◌≡◌ {A = ℕ} 0 1 = cc in absurd (omega arith)
      go false p (refused r) q e = let f = ap (λ o. o.answer) e in let z : ◌≡◌ {A = ℕ} 0 1 = cc in absurd (omega arith)
      go false p (accepted w) q e = by_key w (key_refusal (order s ls c) w) p q refl e

-- Where the first line ends.
module _ (s : List ℕ) (i : ℕ) (h : i < length s) where
  pub ending_here : get_or s i 0 ≡ 10 → ending (drop i s) ≡ 0
  unfolding ending pick
  ending_here e = rw (drop-cons s i 0 h, eq-eqb (get_or s i 0) 10 e)

  pub ending_later : (get_or s i 0 ≡ 10 → ⊥) → ending (drop i s) ≡ suc (ending (drop (i + 1) s))
  unfolding ending pick
  ending_later ne = rw (drop-cons s i 0 h, ne_eqb (get_or s i 0) 10 ne, add-one i)

pub ending_none : (s : List ℕ) → ending (drop (length s) s) ≡ 0
unfolding ending
ending_none s = rw (drop-length s)

-- The first line, and the lines after its end.
pub first_of_lines :
    (x : ℕ) (xs : List ℕ) →
    lines (x ∷ xs) ≡ take (ending (x ∷ xs)) (x ∷ xs) ∷ lines (drop (suc (ending (x ∷ xs))) (x ∷ xs))
unfolding lines ending before_line pick
first_of_lines x [] = go (eqb x 10)
  where
    go : (t : Bool) → pick t ([] ∷ []) ((x ∷ []) ∷ []) ≡ take (pick t 0 1) (x ∷ []) ∷ lines (drop (pick t 0 1) [])
    go true = refl
    go false = refl
first_of_lines x (y ∷ ys) = go (eqb x 10) (first_of_lines y ys)
  where
    go :
        (t : Bool) →
        lines (y ∷ ys) ≡ take (ending (y ∷ ys)) (y ∷ ys) ∷ lines (drop (suc (ending (y ∷ ys))) (y ∷ ys)) →
        pick t ([] ∷ lines (y ∷ ys)) (before_line x (lines (y ∷ ys)))
        ≡ take (pick t 0 (suc (ending (y ∷ ys)))) (x ∷ y ∷ ys) ∷ lines (drop (pick t 0 (suc (ending (y ∷ ys)))) (y ∷ ys))
    go true e = refl
    go false e = rw e

-- The line that begins at a place, as it is lent, and the lines after it.
module _
    (book input : List ℕ)
    {from end : ℕ}
    (h : from < length input)
    (e : end ≡ from + ending (take (length input - from) (drop from input)))
  where
    here : ending (drop from input) ≡ end - from
    here = rw (← part_to_end input from) (omega (arith, e))

    lines_from : lines (drop from input) ≡ take (end - from) (drop from input) ∷ lines (drop (end + 1) input)
    lines_from =
        let next : from + suc (end - from) ≡ end + 1 = omega (arith, e) in
        let rest = drop-drop (suc (end - from)) from input ∙ ap (λ k. drop k input) next in
        rw (← rest, ← here) (rw (drop-cons input from 0 h) (first_of_lines (get_or input from 0) (drop (suc from) input)))

    -- Its answer, and the lines after it, give what the lines from there on give.
    abbrev pub here_line : List ℕ
    here_line = take (end - from) (drop from input)

    pub keyed_line :
        (t : State) →
        let done = keyed book here_line t in
        go_on done.answer done.lent (all_keyed book (lines (drop (end + 1) input))) ≡ all_keyed book (lines (drop from input)) t
    unfolding all_keyed
    keyed_line t = rw lines_from

    -- Its first byte is the one at its place.
    pub first_byte : 1 ≤ length here_line → get_or here_line 0 0 ≡ get_or input from 0
    first_byte h =
        let long = length-take (end - from) (drop from input) in
        let same : from + 0 ≡ from = omega arith in
        get_or-take (end - from) (drop from input) 0 0 (omega (arith, e)) ∙ get_or-drop from input 0 0 ∙ ap (λ k. get_or input k 0) same

-- From the end of the input on there is no line, and none after it.
pub past_end :
    (book input : List ℕ) (t : State) {end : ℕ} →
    length input ≤ end →
    all_keyed book (lines (drop end input)) t ≡ all_keyed book (lines (drop (end + 1) input)) t
past_end book input t {end} past =
    rw (drop_of_length-le input past, drop_of_length-le input {i = end + 1} (omega arith))

-- A line that is refused ends it; after one that is accepted the next is looked at.
module _ (book : List ℕ) (rest : List (List ℕ)) (done : Outcome State (Unit {0})) where
  pub stopped_by :
      {r : Refusal} {u : List ℕ} →
      after_call (refused r) u ≡ on_sheet done →
      after_call (refused r) u ≡ on_sheet (go_on done.answer done.lent (all_keyed book rest))
  unfolding go_on
  stopped_by {r} {u} e = go done.answer done.lent e
    where
      go :
          (a : Answer (Unit {0})) (t : State) →
          after_call (refused r) u ≡ record { answer = a; lent = t.sheet } →
          after_call (refused r) u ≡ on_sheet (go_on a t (all_keyed book rest))
      go (refused q) t e = e
      go (accepted y) t e = let f = ap (λ o. o.answer) e in let z : ◌≡◌ {A = ℕ} 0 1 = cc in absurd (omega arith)

  pub gone_on :
      {t : State} →
      done ≡ record { answer = accepted tt; lent = t } →
      all_keyed book rest t ≡ go_on done.answer done.lent (all_keyed book rest)
  unfolding go_on
  gone_on e = rw e
