-- What a call does to the state and the account, and what a list of calls does: one invariant through the whole list.
use Rattle.std.specs.Prelude.{Bool, true, false, not, ◌&&◌, List, [], ◌∷◌, ◌++◌, ◌≡◌, refl, ℕ, ◌+◌, ◌-◌, ◌*◌, ◌≤◌, ◌<◌, ltb, length, set}
use Rattle.std.proofs.lemmas.List.{map-append}
use Rattle.std.proofs.Common.{append-nil, append_assoc, sym, ap, ◌∙◌, arith, ltb-true, length-take-le}
use mathlib.Core.Logic.Iff
use Rattle.std.proofs.Math.Option.{Option, none}
use Rattle.model.specs.Base.{only_if, maybe, all}
use Rattle.model.specs.Literal.{Literal, option, literal}
use Rattle.model.specs.Forest.{root, nil, lit, node, ◌⊕◌}
use Rattle.model.specs.Code.{Node, decode, weight}
use Rattle.model.specs.Clauses.{clauses}
use Rattle.model.specs.Rules as rules
use Rattle.model.specs.Strategy as strategy
use Rattle.model.specs.Limits.{most_weight, literal_weight}
use Rattle.model.specs.Sheet.{options_in, nodes_in, is_sheet, sheet_of, clauses_in, chosen}
use Rattle.model.specs.Results.{appended, stepped, run_through}
use Rattle.model.specs.Book.{options_of, book_nodes, clauses_of_book}
use Rattle.calls.specs.Refusals.{Refusal}
use Rattle.calls.specs.Outcomes.{accepted, if_accepted, Outcome, outcome}
use Rattle.calls.specs.Lines.{Line, State, counted, without, moved_up, with_marks}
use Rattle.calls.specs.Index.{mark_count, Indexed}
use Rattle.calls.specs.Chains.{key_refusal, withdraw_refusal, step_refusal, run_refusal}
use Rattle.calls.specs.Calls.{key_of, withdraw_of, step_of, run_of, with_index, key_with, withdraw_with, step_with, run_with}
use Rattle.calls.specs.History.{Call, key, withdraw, step, run, with_sheet, after_call, after_calls, Account, with_choice, without_line}
use Rattle.calls.specs.History.{account_call, account_calls, choice_clauses, meaning, rekeys, is_stretch, steps_of_call, steps_of}
use Rattle.theory_forms.specs.Logic.{true_false, and_split, is_some_of}
use Rattle.theory_forms.specs.Codes.{decode_encode}
use Rattle.theory_meaning.specs.Clauses.{clauses-⊕, clauses_root, clauses_lit}
use Rattle.call_laws.specs.Valuations.{SameModels, model_holds, same_of, same_trans, same_append}
use Rattle.call_laws.specs.Soundness.{step_holds}
use Rattle.theory_forms.specs.Shape.{Shaped, shaped_rooted, shaped_decode}
use Rattle.theory_rewriting.specs.ShapeKept.{step_shaped}
use Rattle.theory_rewriting.specs.Steps.{Steps, done, more, steps_append, steps_weight}
use Rattle.theory_rewriting.specs.Runs.{run_steps}
use Rattle.theory_rewriting.specs.Reached.{strategy_steps}
use Rattle.theory_forms.specs.Sheets.{sheet_shaped, sheet_options, nodes_made, options_made}
use Rattle.theory_index.specs.Mentions.{steps_mentions}
use Rattle.theory_index.specs.Left.{steps_left, steps_nodes}
use Rattle.theory_index.specs.WithIndex.{with_cases}
use Rattle.theory_formats.specs.Loading.{Accepted, loaded_shaped, loaded_sheet, loaded_meaning}
use Rattle.call_laws.specs.Books.{accepted_book}
use Rattle.call_laws.specs.Accepted.{Keyable, key_accepted, Withdrawable, withdraw_accepted, step_accepted, run_accepted}
use Rattle.call_laws.specs.OrderLines.{option_literal, keyed_counted, withdrawn_counted, without_length, known_without, mark_put}
use Rattle.theory_forms.specs.Choice.{chosen_is, chosen_shaped, chosen_weight}

-- Steps keep the models of the rules.
pub steps_models :
    {n k : ℕ} {ns ms : List Node} →
    Shaped n ns →
    Steps k ns ms →
    SameModels (clauses root (decode ms)) (clauses root (decode ns))
steps_models s done u = Iff.rfl
steps_models {ns = ns} s (more {ms = ms} r p i j e t) u =
    Iff.trans
    (steps_models (step_shaped r p i j s e) t u)
    (Iff.trans
    (model_holds u root (decode ms))
    (Iff.trans
    (Iff.symm (step_holds u r p i j ns (shaped_rooted s) e))
    (Iff.symm (model_holds u root (decode ns)))))

-- The account's choices, one more.
pub choice_append : (ls ms : List Literal) → choice_clauses (ls ++ ms) ≡ choice_clauses ls ++ choice_clauses ms
unfolding choice_clauses
choice_append ls ms = map-append (λ l. l ∷ []) ls ms

chosen_meaning : (a : Account) (l : Literal) → meaning (with_choice a l) ≡ meaning a ++ ((l ∷ []) ∷ [])
unfolding meaning choice_clauses
chosen_meaning a l =
    ap (λ cs. clauses_of_book a.book ++ cs) (choice_append a.choices (l ∷ []))
    ∙ sym (append_assoc (clauses_of_book a.book) (choice_clauses a.choices) ((l ∷ []) ∷ []))

-- The sheet keeps the account: it is a sheet of the book's options, and its rules have the models of what the account means.
pub record Keeps (a : Account) (s : List ℕ) : Type 0 where
  pub sheet : is_sheet s ≡ true
  pub options : options_in s ≡ options_of a.book
  pub models : SameModels (clauses_in s) (meaning a)

-- The state agrees with the account: the sheet keeps it, and the counted lines are its ledger.
pub record Agrees (a : Account) (t : State) : Type 0 where
  pub keeps : Keeps a t.sheet
  pub ledger : counted t ≡ a.ledger

-- From one state to another, which agrees with this account; and where it is a part of a stretch, so many steps lead there.
pub record Effect (t u : State) (a : Account) (quiet : Bool) (k : ℕ) : Type 0 where
  pub agrees : Agrees a u
  pub steps : quiet ≡ true → Steps k (nodes_in t.sheet) (nodes_in u.sheet)

-- Nothing done.
pub still : (t : State) (a : Account) (quiet : Bool) → Agrees a t → Effect t t a quiet 0
still t a quiet h = record { agrees = h; steps = λ e. done }

-- What steps leave is no heavier than the sheet that they were done on, and names no option more often.
pub steps_lighter :
    (s : List ℕ) {k : ℕ} {ms : List Node} →
    is_sheet s ≡ true →
    Steps k (nodes_in s) ms →
    weight (nodes_in (sheet_of (options_in s) ms)) ≤ weight (nodes_in s)
steps_lighter s h t = rw (steps_nodes s h t) (steps_weight (sheet_shaped s h) t)

pub steps_name :
    (v : ℕ) (s : List ℕ) {k : ℕ} {ms : List Node} →
    is_sheet s ≡ true →
    Steps k (nodes_in s) ms →
    mark_count v (nodes_in (sheet_of (options_in s) ms)) ≤ mark_count v (nodes_in s)
steps_name v s h t = rw (steps_nodes s h t) (steps_mentions v (sheet_shaped s h) t)

-- Steps done on a sheet.
stepped_effect :
    (t : State) (a : Account) {k : ℕ} {ms : List Node} →
    Agrees a t →
    Steps k (nodes_in t.sheet) ms →
    Effect t (with_sheet t (sheet_of (options_in t.sheet) ms)) a true k
unfolding clauses_in
stepped_effect t a {k} {ms} g w =
    let s = t.sheet in
    let h = g.keeps in
    let form = sheet_shaped s h.sheet in
    let left = steps_left s h.sheet w in
    let back = steps_nodes s h.sheet w in
    record {
      agrees =
          record {
            keeps =
                record {
                  sheet = left.sheet;
                  options = left.options ∙ h.options;
                  models =
                      same_trans (same_of (ap (λ ns. clauses root (decode ns)) back))
                      (same_trans (steps_models form w) h.models);
                };
            ledger = g.ledger;
          };
      steps = λ e. rw back w;
    }

-- The clauses after a choice are those before it, and the clause of its literal alone.
chosen_clauses :
    (l : Literal) {n : ℕ} {ns : List Node} →
    Shaped n ns →
    clauses root (decode (chosen l ns)) ≡ clauses root (decode ns) ++ ((l ∷ []) ∷ [])
chosen_clauses l {ns = ns} form =
    let k = form.kids in
    let whole : decode (chosen l ns) ≡ node root (k ⊕ lit l nil) nil =
    ap decode (chosen_is l form) ∙ decode_encode (node root (k ⊕ lit l nil) nil) in
    ap (clauses root) whole
    ∙ clauses_root (k ⊕ lit l nil)
    ∙ clauses-⊕ k (lit l nil)
    ∙ ap (λ cs. cs ++ clauses root (lit l nil)) (sym (ap (clauses root) (shaped_decode form) ∙ clauses_root k))
    ∙ ap (λ cs. clauses root (decode ns) ++ cs) (clauses_lit l)

-- A literal chosen on a sheet that has room for it.
chosen_keeps :
    (a : Account) (l : Literal) (s : List ℕ) →
    Keeps a s →
    option l < options_in s →
    weight (nodes_in s) + literal_weight ≤ most_weight →
    Keeps (with_choice a l) (appended s l)
unfolding clauses_in appended
chosen_keeps a l s h known room =
    let form = sheet_shaped s h.sheet in
    let light : weight (chosen l (nodes_in s)) ≤ most_weight = omega (arith, chosen_weight l form) in
    let back = nodes_made (sheet_options s h.sheet) (chosen_shaped l form known) light in
    let marked = mark_put s l h.sheet known room in
    record {
      sheet = marked.sheet;
      options = marked.options ∙ h.options;
      models =
          same_trans (same_of (ap (λ ns. clauses root (decode ns)) back ∙ chosen_clauses l form))
          (same_trans (same_append ((l ∷ []) ∷ []) h.models) (same_of (sym (chosen_meaning a l))));
    }

-- The lines of an account all chosen, one after another.
unfoldable with_choices : Account → List Line → Account
with_choices a [] = a
with_choices a (l ∷ ls) = with_choices (with_choice a l) ls

marks_keep :
    (ls : List Line) (a : Account) (s : List ℕ) →
    Keeps a s →
    all (λ l. ltb (option l) (options_in s)) ls ≡ true →
    weight (nodes_in s) + literal_weight * length ls ≤ most_weight →
    Keeps (with_choices a ls) (with_marks s ls)
unfolding with_choices with_marks all
marks_keep [] a s h known room = h
marks_keep (l ∷ ls) a s h known room =
    let w = and_split (ltb (option l) (options_in s)) _ known in
    let here = ltb-true (option l) (options_in s) w.0 in
    let one = mark_put s l h.sheet here (omega arith) in
    marks_keep ls (with_choice a l) (appended s l) (chosen_keeps a l s h here (omega arith)) (rw one.options w.1)
    (omega (arith, one.weight))

choices_made : (ls : List Line) (a : Account) → (with_choices a ls).choices ≡ a.choices ++ ls
unfolding with_choices
choices_made [] a = sym (append-nil a.choices)
choices_made (l ∷ ls) a = choices_made ls (with_choice a l) ∙ append_assoc a.choices (l ∷ []) ls

book_made : (ls : List Line) (a : Account) → (with_choices a ls).book ≡ a.book
unfolding with_choices
book_made [] a = refl
book_made (l ∷ ls) a = book_made ls (with_choice a l)

-- What a book loads keeps its rules, whatever lines are lent.
pub loaded_keeps :
    (book : List ℕ) (ledger : List Line) →
    Accepted book →
    Keeps (record { book = book; choices = []; ledger = ledger }) (sheet_of (options_of book) (book_nodes book))
unfolding meaning choice_clauses
loaded_keeps book ledger good =
    record {
      sheet = loaded_sheet book good;
      options = options_made (options_of book) (book_nodes book);
      models = same_of (loaded_meaning book good ∙ sym (append-nil (clauses_of_book book)));
    }

-- A sheet keeps an account by its book and its choices alone.
keeps_as :
    {a b : Account} {s : List ℕ} →
    a.book ≡ b.book →
    a.choices ≡ b.choices →
    Keeps a s →
    Keeps b s
unfolding meaning
keeps_as {a} {b} e f h =
    record {
      sheet = h.sheet;
      options = h.options ∙ ap options_of e;
      models = same_trans h.models (same_of (λ i. clauses_of_book (e i) ++ choice_clauses (f i)));
    }

-- A keying, where it is accepted.
keyed_effect :
    (t : State) (a : Account) (v : ℕ) (negative : Bool) →
    Agrees a t →
    Keyable t v →
    let l = literal v negative in
    Effect t
    (record { sheet = appended t.sheet l; lines = set t.lines t.count l; count = t.count + 1 })
    (with_choice a l) false 0
keyed_effect t a v negative h w =
    let l = literal v negative in
    let first = w.lines in
    record {
      agrees =
          record {
            keeps = chosen_keeps a l t.sheet h.keeps (rw (option_literal v negative) w.known) w.room;
            ledger =
                keyed_counted t.lines t.count l (omega (arith, first.slots, w.free))
                ∙ ap (λ ls. ls ++ (l ∷ [])) h.ledger;
          };
      steps = λ e. true_false (sym e);
    }

-- A withdrawal, where it is accepted: the marks of the standing lines find room on the sheet of the book.
withdrawn_effect :
    (t : State) (a : Account) (b : List ℕ) (k : ℕ) →
    Agrees a t →
    Withdrawable t b k →
    Effect t
    (record {
      sheet = with_marks (sheet_of (options_of b) (book_nodes b)) (without k (counted t));
      lines = moved_up k t.count t.lines;
      count = t.count - 1;
    })
    (without_line a b k) false 0
withdrawn_effect t a b k h w =
    let first = w.order.lines in
    let few : t.count ≤ length t.lines = omega (arith, first.slots, first.few) in
    let standing = without k (counted t) in
    let fresh : Account = record { book = b; choices = []; ledger = [] } in
    let good = accepted_book b w.order.book in
    let here = loaded_keeps b [] good in
    let n : options_in (sheet_of (options_of b) (book_nodes b)) ≡ options_in t.sheet = here.options ∙ w.order.same in
    let known = known_without (options_in t.sheet) k (counted t) first.known in
    let many = without_length k (counted t) (omega (arith, length-take-le t.count t.lines few, w.line)) in
    let nodes = nodes_made good.options (loaded_shaped b good) good.weight in
    let light : weight (nodes_in (sheet_of (options_of b) (book_nodes b))) + literal_weight * length standing ≤ most_weight =
    rw nodes (omega (arith, w.room, many, length-take-le t.count t.lines few)) in
    let all_kept = marks_keep standing fresh (sheet_of (options_of b) (book_nodes b)) here (rw n known) light in
    record {
      agrees =
          record {
            keeps = keeps_as (book_made standing fresh) (choices_made standing fresh ∙ ap (without k) h.ledger) all_kept;
            ledger = withdrawn_counted k t.count t.lines w.line few ∙ ap (without k) h.ledger;
          };
      steps = λ e. true_false (sym e);
    }

-- A keying or a withdrawal, with any index: refused it does nothing, and accepted it does what it does without one.
rekeying_effect :
    (t : State) (a b : Account) (index : List ℕ) (own : Option Refusal) (filled : State) →
    Agrees a t →
    (own ≡ none → Effect t filled b false 0) →
    let o = with_index (λ u. u.sheet) t index (outcome {A = Unit {0}} own tt t filled) in
    Effect t o.lent.own (if_accepted o.answer a (λ _. b)) (not (if_accepted o.answer false (λ _. true))) 0
unfolding if_accepted
rekeying_effect t a b index own filled h effect =
    with_cases (λ u. u.sheet) t index tt filled own Does (λ r. still t a true h) (λ e right. effect e)
  where
    Does : Outcome (Indexed State) (Unit {0}) → Type 0
    Does o = Effect t o.lent.own (if_accepted o.answer a (λ _. b)) (not (if_accepted o.answer false (λ _. true))) 0

key_effect :
    (t : State) (a : Account) (index : List ℕ) (v : ℕ) (negative : Bool) →
    Agrees a t →
    let c = key index v negative in
    Effect t (after_call c t) (account_call c t a) (not (rekeys c t)) (steps_of_call c t)
unfolding after_call account_call rekeys steps_of_call key_with key_of
key_effect t a index v negative h =
    rekeying_effect t a _ index (key_refusal t v) _ h (λ e. keyed_effect t a v negative h (key_accepted t v e))

withdraw_effect :
    (t : State) (a : Account) (b index : List ℕ) (k : ℕ) →
    Agrees a t →
    let c = withdraw b index k in
    Effect t (after_call c t) (account_call c t a) (not (rekeys c t)) (steps_of_call c t)
unfolding after_call account_call rekeys steps_of_call withdraw_with withdraw_of
withdraw_effect t a b index k h =
    rekeying_effect t a _ index (withdraw_refusal t b k) _ h (λ e. withdrawn_effect t a b k h (withdraw_accepted t b k e))

-- A step or a run, with any index: refused it does nothing, and accepted it does the steps that it counts.
stepping_effect :
    {A : Type 0} (t : State) (a : Account) (index : List ℕ) (own : Option Refusal) (x : A) (count : A → ℕ) (ms : List Node) →
    Agrees a t →
    (own ≡ none → Steps (count x) (nodes_in t.sheet) ms) →
    let s = t.sheet in
    let o = with_index (λ u. u) s index (outcome own x s (sheet_of (options_in s) ms)) in
    Effect t (with_sheet t o.lent.own) a true (if_accepted o.answer 0 count)
unfolding if_accepted
stepping_effect {A} t a index own x count ms h steps =
    with_cases (λ u. u) t.sheet index x _ own Does (λ r. still t a true h) (λ e right. stepped_effect t a h (steps e))
  where
    Does : Outcome (Indexed (List ℕ)) A → Type 0
    Does o = Effect t (with_sheet t o.lent.own) a true (if_accepted o.answer 0 count)

step_effect :
    (t : State) (a : Account) (index : List ℕ) (r p i j : ℕ) →
    Agrees a t →
    let c = step index r p i j in
    Effect t (after_call c t) (account_call c t a) (not (rekeys c t)) (steps_of_call c t)
unfolding after_call account_call rekeys steps_of_call step_with step_of stepped maybe
step_effect t a index r p i j h = stepping_effect t a index (step_refusal s r p i j) tt (λ _. 1) _ h one
  where
    s : List ℕ
    s = t.sheet

    one : step_refusal s r p i j ≡ none → Steps 1 (nodes_in s) (maybe (nodes_in s) (λ ns. ns) (rules.step r p i j (nodes_in s)))
    one e =
        let w = is_some_of (rules.step r p i j (nodes_in s)) (step_accepted s r p i j e).there in
        rw w.1 (more r p i j w.1 done)

-- A run on a sheet is accepted, and the sheet then holds the nodes that it leaves.
pub run_outcome :
    (s : List ℕ) (b : ℕ) →
    is_sheet s ≡ true →
    let r = strategy.run b (nodes_in s) in
    run_of s b
    ≡ record {
      answer = accepted (record { settled = r.settled; count = r.count });
      lent = sheet_of (options_in s) r.nodes;
    }
unfolding run_of run_refusal run_through outcome only_if
run_outcome s b h = rw h

pub run_leaves :
    (s : List ℕ) (b : ℕ) →
    is_sheet s ≡ true →
    nodes_in (sheet_of (options_in s) (strategy.run b (nodes_in s)).nodes) ≡ (strategy.run b (nodes_in s)).nodes
run_leaves s b h = steps_nodes s h (strategy_steps (run_steps b (nodes_in s)))

run_effect :
    (t : State) (a : Account) (index : List ℕ) (b : ℕ) →
    Agrees a t →
    let c = run index b in
    Effect t (after_call c t) (account_call c t a) (not (rekeys c t)) (steps_of_call c t)
unfolding after_call account_call rekeys steps_of_call run_with run_of run_through
run_effect t a index b h =
    stepping_effect t a index (run_refusal t.sheet) _ (λ r. r.count) _ h (λ e. strategy_steps (run_steps b (nodes_in t.sheet)))

-- What holds of a sheet, and of all that steps lead to from it, holds of what a step and a run leave, whatever index they are lent.
module _
    (s index : List ℕ)
    (P : List ℕ → Type 0)
    (here : P s)
    (there : is_sheet s ≡ true → (k : ℕ) (ms : List Node) → Steps k (nodes_in s) ms → P (sheet_of (options_in s) ms))
  where
    pub after_step : (r p i j : ℕ) → P (step_with s index r p i j).lent.own
    unfolding step_with step_of stepped maybe
    after_step r p i j =
        with_cases (λ u. u) s index tt _ (step_refusal s r p i j) (λ o. P o.lent.own) (λ x. here) (λ e right.
        let w = step_accepted s r p i j e in
        let t = is_some_of (rules.step r p i j (nodes_in s)) w.there in
        rw t.1 (there w.sheet 1 t.0 (more r p i j t.1 done)))

    pub after_run : (budget : ℕ) → P (run_with s index budget).lent.own
    unfolding run_with run_of run_through
    after_run budget =
        with_cases (λ u. u) s index _ _ (run_refusal s) (λ o. P o.lent.own) (λ x. here) (λ e right.
        there (run_accepted s e) _ _ (strategy_steps (run_steps budget (nodes_in s))))

-- What each call does to the state and the account.
pub call_effect :
    (c : Call) (t : State) (a : Account) →
    Agrees a t →
    Effect t (after_call c t) (account_call c t a) (not (rekeys c t)) (steps_of_call c t)
call_effect (key index v negative) t a h = key_effect t a index v negative h
call_effect (withdraw b index k) t a h = withdraw_effect t a b index k h
call_effect (step index r p i j) t a h = step_effect t a index r p i j h
call_effect (run index b) t a h = run_effect t a index b h

-- One effect after another.
pub effect_then :
    {t u w : State} {a b : Account} {q r : Bool} {j k : ℕ} →
    Effect t u a q j →
    Effect u w b r k →
    Effect t w b (q && r) (j + k)
effect_then {q = q} {r = r} e f =
    record {
      agrees = f.agrees;
      steps = λ both. let w = and_split q r both in steps_append (e.steps w.0) (f.steps w.1);
    }

-- What a list of calls does to the state and the account.
pub calls_effect :
    (cs : List Call) (t : State) (a : Account) →
    Agrees a t →
    Effect t (after_calls cs t) (account_calls cs t a) (is_stretch cs t) (steps_of cs t)
unfolding after_calls account_calls is_stretch steps_of
calls_effect [] t a h = still t a true h
calls_effect (c ∷ cs) t a h =
    let e = call_effect c t a h in
    effect_then e (calls_effect cs (after_call c t) (account_call c t a) e.agrees)

-- No call changes a sheet's N, whatever is lent to it.
marks_options : (ls : List Line) (s : List ℕ) → options_in (with_marks s ls) ≡ options_in s
unfolding with_marks appended
marks_options [] s = refl
marks_options (l ∷ ls) s = marks_options ls (appended s l) ∙ options_made (options_in s) (chosen l (nodes_in s))

pub same_options : (c : Call) (t : State) → options_in (after_call c t).sheet ≡ options_in t.sheet
unfolding after_call key_with key_of withdraw_with withdraw_of step_with step_of run_with run_of appended stepped run_through
same_options (key index v negative) t =
    with_cases (λ u. u.sheet) t index tt _ (key_refusal t v) (λ o. options_in o.lent.own.sheet ≡ options_in t.sheet)
    (λ r. refl)
    (λ e right. options_made (options_in t.sheet) _)
same_options (withdraw b index k) t =
    with_cases (λ u. u.sheet) t index tt _ (withdraw_refusal t b k) (λ o. options_in o.lent.own.sheet ≡ options_in t.sheet)
    (λ r. refl)
    (λ e right.
    marks_options (without k (counted t)) (sheet_of (options_of b) (book_nodes b))
    ∙ options_made (options_of b) (book_nodes b)
    ∙ (withdraw_accepted t b k e).order.same)
same_options (step index r p i j) t =
    let s = t.sheet in
    with_cases (λ u. u) s index tt _ (step_refusal s r p i j) (λ o. options_in o.lent.own ≡ options_in s)
    (λ r. refl)
    (λ e right. options_made (options_in s) _)
same_options (run index b) t =
    let s = t.sheet in
    with_cases (λ u. u) s index _ _ (run_refusal s) (λ o. options_in o.lent.own ≡ options_in s)
    (λ r. refl)
    (λ e right. options_made (options_in s) _)

-- So none changes the options of the account's book.
pub kept_options :
    (cs : List Call) (t : State) (a : Account) →
    Agrees a t →
    options_of (account_calls cs t a).book ≡ options_of a.book
unfolding account_calls
kept_options [] t a h = refl
kept_options (c ∷ cs) t a h =
    let there = (call_effect c t a h).agrees in
    kept_options cs (after_call c t) (account_call c t a) there ∙ sym there.keeps.options ∙ same_options c t ∙ h.keeps.options

-- One list of calls after another.
pub after_append : (cs ds : List Call) (t : State) → after_calls (cs ++ ds) t ≡ after_calls ds (after_calls cs t)
unfolding after_calls
after_append [] ds t = refl
after_append (c ∷ cs) ds t = after_append cs ds (after_call c t)
