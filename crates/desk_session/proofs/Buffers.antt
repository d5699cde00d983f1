-- The first 65,536 bytes of a book and the first 961 of the choices decide what is printed, so that a program may read no more.
use mathlib.Core.Bool.{Bool, true, false, not, ◌&&◌}
use mathlib.Core.List.{List, [], ◌∷◌}
use mathlib.Core.Logic.{⊎_elim}
use mathlib.Core.Option.{Option, none, some}
use mathlib.Core.Path.{◌≡◌, refl, sym, ap, ◌∙◌}
use Prim.Native.Nat.{ℕ, zero, suc, ◌+◌, ◌-◌, ◌*◌, ◌≤◌, ◌<◌}
use native.Mathlib.Omega.{arith}
use borrow.Author.Tests.{le-ltb, eq-eqb, ne_eqb, ltb-true, ltb-false}
use lib.Dec.{eqb, ltb}
use lib.ListN.{length, take, drop, get_or, replicate, length-take, length-replicate}
use lib.Seq.{take_all, take-nil, take-take, get_or-take, length-take-le}
use Rattle.model.specs.Base.{pick, same_list, first_of, only_if, is_some, maybe}
use Rattle.model.specs.Book.{word, options_of, rules_of, size_of, head_in_limits, length_due, same_code, characters, pieces}
use Rattle.model.specs.Book.{codes_of, option_of_code}
use Rattle.model.specs.Limits.{sheet_length}
use Rattle.calls.specs.Refusals.{Refusal, length_refused, head_refused, option_refused, list_refused}
use Rattle.calls.specs.Outcomes.{Answer, refused, accepted, answer, Outcome, outcome}
use Rattle.calls.specs.Lines.{Line, most_lines, State}
use Rattle.calls.specs.Conditions.{has_full_list}
use Rattle.calls.specs.Chains.{book_refusal, lookup_refusal, key_refusal}
use Rattle.calls.specs.Calls.{lookup_of, load_of, key_of}
use Rattle.calls.specs.Desk.{lines, key_found, key_signed, keyed, go_on, all_keyed, with_no_lines, printed, desk_of}
use Rattle.theory_forms.specs.Logic.{either}
use Rattle.theory_forms.specs.Lists.{drop_take}
use Rattle.theory_reading.specs.Stretches.{live_short}
use Rattle.call_answers.specs.AnswerMeaning.{after_call, on_sheet}
use Rattle.call_books.proofs.BookTests.{head_limits, length_is}
use Rattle.call_transfer.proofs.TransferAnswers as transfer
use Rattle.desk_keying.specs.Endings.{ending}
use Rattle.desk_keying.proofs.KeyedLines.{first_of_lines}
use Rattle.desk_session.proofs.PrintedAnswers.{chosen_lines, loaded_lines, desk_is, load_refused}

-- A code of more than 13 characters is no option's.
longer : (a b : List ℕ) → length b < length a → same_list a b ≡ false
unfolding same_list
longer [] b h = absurd (omega arith)
longer (x ∷ a) [] h = refl
longer (x ∷ a) (y ∷ b) h = rw (longer a b (omega arith)) (go (eqb x y))
  where
    go : (t : Bool) → (t && false) ≡ false
    go true = refl
    go false = refl

none_spelled : (given : List ℕ) (n v : ℕ) (b : List ℕ) → 13 < length given → option_of_code given v (pieces 13 n b) ≡ none
unfolding option_of_code pieces pick same_code
none_spelled given zero v b h = refl
none_spelled given (suc n) v b h =
    let short : length (characters (take 13 b)) < length given = omega (arith, live_short (take 13 b), length-take 13 b) in
    rw (longer given (characters (take 13 b)) short) (none_spelled given n (suc v) (drop 13 b) h)

-- What a line with such a code is refused for: its first byte, the book and the count say it alone.
unfoldable unknown_due : List ℕ → Refusal
unknown_due book = maybe option_refused (λ r. r) (book_refusal book)

unfoldable long_due : List ℕ → State → ℕ → Refusal
long_due book t x =
    pick (has_full_list t) list_refused (pick (eqb x 43) (unknown_due book) (pick (eqb x 45) (unknown_due book) option_refused))

lookup_long : (book code : List ℕ) → 13 < length code → lookup_of book code ≡ refused (unknown_due book)
unfolding lookup_of lookup_refusal unknown_due codes_of is_some only_if maybe answer first_of
lookup_long book code h = rw (none_spelled code (options_of book) 0 (drop 8 book) h) (go (book_refusal book))
  where
    go : (o : Option Refusal) → answer {A = ℕ} (first_of o (some option_refused)) 0 ≡ refused (maybe option_refused (λ r. r) o)
    go none = refl
    go (some r) = refl

keyed_long :
    (book code : List ℕ) (t : State) (x : ℕ) →
    13 < length code →
    keyed book (x ∷ code) t ≡ after_call (refused (long_due book t x)) t
unfolding keyed key_signed key_found long_due pick
keyed_long book code t x h = rw (lookup_long book code h) (go (has_full_list t) (eqb x 43) (eqb x 45))
  where
    go :
        (full plus minus : Bool) →
        pick full (after_call {A = Unit {0}} (refused list_refused) t)
        (pick plus (after_call (refused (unknown_due book)) t)
        (pick minus (after_call (refused (unknown_due book)) t) (after_call (refused option_refused) t)))
        ≡ after_call (refused (pick full list_refused (pick plus (unknown_due book) (pick minus (unknown_due book) option_refused)))) t
    go true plus minus = refl
    go false true minus = refl
    go false false true = refl
    go false false false = refl

-- A line that is accepted is counted.
key_counts : (t : State) (v : ℕ) (negative : Bool) → (key_of t v negative).answer ≡ accepted tt → (key_of t v negative).lent.count ≡ t.count + 1
unfolding key_of outcome
key_counts t v negative = go (key_refusal t v) _
  where
    go :
        (o : Option Refusal) (filled : List ℕ × List Line) →
        let done = outcome {A = Unit {0}} o tt t (record { sheet = filled.0; lines = filled.1; count = t.count + 1 }) in
        done.answer ≡ accepted tt →
        done.lent.count ≡ t.count + 1
    go none filled e = refl
    go (some r) filled e = let z : ◌≡◌ {A = ℕ} 0 1 = cc in absurd (omega arith)

found_counts :
    (x : Answer ℕ) (negative : Bool) (t : State) →
    (key_found x negative t).answer ≡ accepted tt →
    (key_found x negative t).lent.count ≡ t.count + 1
unfolding key_found
found_counts (refused r) negative t e = let z : ◌≡◌ {A = ℕ} 0 1 = cc in absurd (omega arith)
found_counts (accepted v) negative t e = key_counts t v negative e

signed_counts : (book l : List ℕ) (t : State) → (key_signed book l t).answer ≡ accepted tt → (key_signed book l t).lent.count ≡ t.count + 1
unfolding key_signed pick
signed_counts book [] t e = let z : ◌≡◌ {A = ℕ} 0 1 = cc in absurd (omega arith)
signed_counts book (x ∷ code) t e = go (eqb x 43) (eqb x 45) e
  where
    go :
        (plus minus : Bool) →
        let done =
        pick plus (key_found (lookup_of book code) false t)
        (pick minus (key_found (lookup_of book code) true t) (record { answer = refused option_refused; lent = t })) in
        done.answer ≡ accepted tt →
        done.lent.count ≡ t.count + 1
    go true minus f = found_counts (lookup_of book code) false t f
    go false true f = found_counts (lookup_of book code) true t f
    go false false f = let z : ◌≡◌ {A = ℕ} 0 1 = cc in absurd (omega arith)

keyed_counts : (book l : List ℕ) (t : State) → (keyed book l t).answer ≡ accepted tt → (keyed book l t).lent.count ≡ t.count + 1
unfolding keyed pick
keyed_counts book l t e = go (has_full_list t) e
  where
    go :
        (full : Bool) →
        let done = pick full (record { answer = refused list_refused; lent = t }) (key_signed book l t) in
        done.answer ≡ accepted tt →
        done.lent.count ≡ t.count + 1
    go true f = let z : ◌≡◌ {A = ℕ} 0 1 = cc in absurd (omega arith)
    go false f = signed_counts book l t f

-- Where the first line of cut input ends: where it did before, if the cut is behind that, and never before the cut otherwise.
ending_cut : (n : ℕ) (xs : List ℕ) → ending xs < n → ending (take n xs) ≡ ending xs
unfolding ending pick
ending_cut n [] h = ap ending (take-nil n)
ending_cut zero (x ∷ xs) h = absurd (omega arith)
ending_cut (suc n) (x ∷ xs) h = go (eqb x 10) h (ending_cut n xs)
  where
    go :
        (t : Bool) →
        pick t 0 (suc (ending xs)) < suc n →
        (ending xs < n → ending (take n xs) ≡ ending xs) →
        pick t 0 (suc (ending (take n xs))) ≡ pick t 0 (suc (ending xs))
    go true g ih = refl
    go false g ih = ap suc (ih (omega arith))

ending_least : (k n : ℕ) (xs : List ℕ) → k ≤ n → k ≤ ending xs → k ≤ ending (take n xs)
unfolding ending pick
ending_least k n [] h e = rw (take-nil n) e
ending_least k zero (x ∷ xs) h e = omega arith
ending_least zero (suc n) (x ∷ xs) h e = omega arith
ending_least (suc k) (suc n) (x ∷ xs) h e = go (eqb x 10) e (ending_least k n xs (omega arith))
  where
    go :
        (t : Bool) →
        suc k ≤ pick t 0 (suc (ending xs)) →
        (k ≤ ending xs → k ≤ ending (take n xs)) →
        suc k ≤ pick t 0 (suc (ending (take n xs)))
    go true g ih = absurd (omega arith)
    go false g ih = omega (arith, ih (omega arith))

ending_within : (xs : List ℕ) → ending xs ≤ length xs
unfolding ending pick
ending_within [] = omega arith
ending_within (x ∷ xs) = go (eqb x 10) (ending_within xs)
  where
    go : (t : Bool) → ending xs ≤ length xs → pick t 0 (suc (ending xs)) ≤ suc (length xs)
    go true h = omega arith
    go false h = omega arith

-- A first line of more than 14 bytes is refused, whatever stands after its first byte.
long_line :
    (book ys : List ℕ) (t : State) (x : ℕ) →
    15 ≤ ending (x ∷ ys) →
    all_keyed book (lines (x ∷ ys)) t ≡ after_call (refused (long_due book t x)) t
unfolding all_keyed go_on
long_line book ys t x h = rw (first_of_lines x ys) (go (ending (x ∷ ys)) h (ending_within (x ∷ ys)))
  where
    go :
        (e : ℕ) →
        15 ≤ e →
        e ≤ length (x ∷ ys) →
        go_on (keyed book (take e (x ∷ ys)) t).answer (keyed book (take e (x ∷ ys)) t).lent
        (all_keyed book (lines (drop (suc e) (x ∷ ys))))
        ≡ after_call (refused (long_due book t x)) t
    go zero g w = absurd (omega arith)
    go (suc e) g w = rw (keyed_long book (take e ys) t x (omega (arith, length-take-le e ys (omega arith))))

-- A shorter one is the same in the cut input, whose later lines are those of later bytes, cut too.
lines_cut :
    (x m : ℕ) (ys : List ℕ) →
    ending (x ∷ ys) < suc m →
    lines (take (suc m) (x ∷ ys))
    ≡ take (ending (x ∷ ys)) (x ∷ ys) ∷ lines (take (suc m - suc (ending (x ∷ ys))) (drop (suc (ending (x ∷ ys))) (x ∷ ys)))
lines_cut x m ys h =
    let end = ending (x ∷ ys) in
    first_of_lines x (take m ys)
    ∙ rw (ending_cut (suc m) (x ∷ ys) h, take-take end (suc m) (x ∷ ys) (omega arith), drop_take (suc end) (suc m) (x ∷ ys))

go_on_same :
    (a : Answer (Unit {0})) (t : State) (f g : State → Outcome State (Unit {0})) →
    (a ≡ accepted tt → f t ≡ g t) →
    go_on a t f ≡ go_on a t g
unfolding go_on
go_on_same (refused r) t f g h = refl
go_on_same (accepted u) t f g h = h refl

-- One line of cut input: what is left to show is shown of what comes after it, where it is accepted.
one_line :
    (book xs : List ℕ) (t : State) (n : ℕ) →
    15 ≤ n →
    ((m : ℕ) (ys : List ℕ) (u : State) →
    n ≤ m + 15 →
    u.count ≡ t.count + 1 →
    all_keyed book (lines (take m ys)) u ≡ all_keyed book (lines ys) u) →
    all_keyed book (lines (take n xs)) t ≡ all_keyed book (lines xs) t
unfolding all_keyed
one_line book [] t n h later = ap (λ l. all_keyed book (lines l) t) (take-nil n)
one_line book (x ∷ ys) t zero h later = absurd (omega arith)
one_line book (x ∷ ys) t (suc m) h later =
    ⊎_elim
    (λ b. short (ltb-true (ending (x ∷ ys)) 15 b))
    (λ b.
    let e = ltb-false (ending (x ∷ ys)) 15 b in
    long_line book (take m ys) t x (ending_least 15 (suc m) (x ∷ ys) h e) ∙ sym (long_line book ys t x e))
    (either (ltb (ending (x ∷ ys)) 15))
  where
    short : ending (x ∷ ys) < 15 → all_keyed book (lines (take (suc m) (x ∷ ys))) t ≡ all_keyed book (lines (x ∷ ys)) t
    short e =
        let end = ending (x ∷ ys) in
        let l = take end (x ∷ ys) in
        rw (lines_cut x m ys (omega arith), first_of_lines x ys)
        (go_on_same (keyed book l t).answer (keyed book l t).lent _ _
        (λ a. later (suc m - suc end) (drop (suc end) (x ∷ ys)) (keyed book l t).lent (omega arith) (keyed_counts book l t a)))

-- With a full list any line is refused, whatever it holds.
full_line : (book ys : List ℕ) (t : State) (x : ℕ) → t.count ≡ most_lines → all_keyed book (lines (x ∷ ys)) t ≡ after_call (refused list_refused) t
unfolding all_keyed keyed go_on pick
full_line book ys t x e = rw (first_of_lines x ys, eq-eqb t.count most_lines e)

full_cut :
    (book xs : List ℕ) (t : State) (n : ℕ) →
    1 ≤ n →
    t.count ≡ most_lines →
    all_keyed book (lines (take n xs)) t ≡ all_keyed book (lines xs) t
full_cut book [] t n h e = ap (λ l. all_keyed book (lines l) t) (take-nil n)
full_cut book (x ∷ ys) t zero h e = absurd (omega arith)
full_cut book (x ∷ ys) t (suc m) h e = full_line book (take m ys) t x e ∙ sym (full_line book ys t x e)

-- So the first bytes decide, fifteen for each line that the list has room for, and one more.
keys_cut :
    (book : List ℕ) (k n : ℕ) (xs : List ℕ) (t : State) →
    15 * k + 1 ≤ n →
    t.count + k ≡ most_lines →
    all_keyed book (lines (take n xs)) t ≡ all_keyed book (lines xs) t
keys_cut book zero n xs t h w = full_cut book xs t n (omega arith) (omega arith)
keys_cut book (suc k) n xs t h w =
    one_line book xs t n (omega arith) (λ m ys u a b. keys_cut book k m ys u (omega arith) (omega (arith, b)))

-- All lines that a list takes, each of 15 bytes with its end, and a byte more.
abbrev pub most_input : ℕ
most_input = 15 * most_lines + 1

input_cut :
    (book input : List ℕ) (n : ℕ) (loaded : Outcome (List ℕ) (Unit {0})) →
    most_input ≤ n →
    loaded_lines book (take n input) loaded ≡ loaded_lines book input loaded
unfolding loaded_lines with_no_lines
input_cut book input n loaded h =
    ap (λ c. printed loaded.answer (λ u. chosen_lines book (on_sheet c)))
    (keys_cut book most_lines n input (with_no_lines loaded.lent) h (omega arith))

-- A book that is longer than any due length is refused by its head, or for its length.
unfoldable too_long_due : List ℕ → Refusal
too_long_due b = pick (head_in_limits b) length_refused head_refused

head_or_length :
    (t u : Bool) (rest : Option Refusal) →
    (t ≡ true → u ≡ false) →
    first_of (only_if (not t) head_refused) (first_of (only_if (not u) length_refused) rest) ≡ some (pick t length_refused head_refused)
unfolding first_of only_if pick
head_or_length false u rest h = refl
head_or_length true u rest h = rw (h refl)

too_long : (b : List ℕ) → 31234 < length b → book_refusal b ≡ some (too_long_due b)
unfolding book_refusal too_long_due first_of only_if
too_long b h =
    let short : head_in_limits b ≡ true → length_due b ≤ 31234 =
    λ t.
    omega (
      arith,
      head_limits b (word b 0) (word b 2) (word b 4) refl refl refl t,
      length_is b (word b 0) (word b 2) (word b 4) refl refl refl,
    ) in
    rw (le-ltb (length b) 8 (omega arith))
    (head_or_length (head_in_limits b) (eqb (length b) (length_due b)) _
    (λ t. ne_eqb (length b) (length_due b) (λ e. omega (arith, short t))))

-- Its head is in its first eight bytes.
head_cut : (n : ℕ) (b : List ℕ) → 8 ≤ n → head_in_limits (take n b) ≡ head_in_limits b
unfolding head_in_limits options_of rules_of size_of word
head_cut n b h =
    let byte : (k : ℕ) → k < 8 → get_or (take n b) k 0 ≡ get_or b k 0 = λ k l. get_or-take n b k 0 (omega arith) in
    rw (
      byte 0 (omega arith),
      byte 1 (omega arith),
      byte 2 (omega arith),
      byte 3 (omega arith),
      byte 4 (omega arith),
      byte 5 (omega arith),
      byte 6 (omega arith),
      byte 7 (omega arith),
    )

book_cut : (book input : List ℕ) → desk_of (take 65536 book) input ≡ desk_of book input
unfolding too_long_due
book_cut book input =
    ⊎_elim
    (λ t. cut (ltb-true 65536 (length book) t))
    (λ t. ap (λ b. desk_of b input) (take_all 65536 book (ltb-false 65536 (length book) t)))
    (either (ltb 65536 (length book)))
  where
    desk_refused : (b : List ℕ) (r : Refusal) → book_refusal b ≡ some r → printed {A = Unit {0}} (refused r) (λ u. []) ≡ desk_of b input
    desk_refused b r e =
        load_refused b input (replicate sheet_length 0) (refused r)
        (transfer.load_refused b (replicate sheet_length 0) (length-replicate {A = ℕ} sheet_length 0) e) r refl

    cut : 65536 < length book → desk_of (take 65536 book) input ≡ desk_of book input
    cut h =
        let long : length (take 65536 book) ≡ 65536 = length-take-le 65536 book (omega arith) in
        let same : too_long_due (take 65536 book) ≡ too_long_due book =
        ap (λ t. pick t length_refused head_refused) (head_cut 65536 book (omega arith)) in
        sym (desk_refused (take 65536 book) (too_long_due book) (too_long (take 65536 book) (omega arith) ∙ ap some same))
        ∙ desk_refused book (too_long_due book) (too_long book (omega arith))

-- The first 65,536 bytes of the book, and as many of the input or fewer, decide what is printed.
pub desk_cut : (book input : List ℕ) (n : ℕ) → most_input ≤ n → desk_of (take 65536 book) (take n input) ≡ desk_of book input
desk_cut book input n h =
    sym (desk_is (take 65536 book) (take n input))
    ∙ input_cut (take 65536 book) input n (load_of (take 65536 book) (replicate sheet_length 0)) h
    ∙ desk_is (take 65536 book) input
    ∙ book_cut book input
