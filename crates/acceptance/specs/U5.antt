-- Document 02, U5: "Keep beside the sheet, option after option, two 16-bit numbers each: the count of its marks and the place of the first
-- (65,535 if none). Numbers past twice N stay. One call fills it from any sheet, whatever it held. Every choice, withdrawal, step and run
-- brings the index up to date, and it must then equal a fresh count of the sheet; no step raises any option's count."
use Rattle.std.specs.Prelude.{Bool, List, [], ◌∷◌, ◌≡◌, refl, ℕ, ◌*◌, ◌≤◌, length, take, drop}
use Rattle.model.specs.Sheet.{options_in, nodes_in}
use Rattle.model.specs.Book.{options_of}
use Rattle.calls.specs.Outcomes.{accepted}
use Rattle.calls.specs.Lines.{Line, State}
use Rattle.calls.specs.Index.{mark_count, fresh_count, Indexed}
use Rattle.calls.specs.Calls.{Ran, check_of, load_of, fill_of, key_of, withdraw_of, step_of, run_of, key_with, withdraw_with, step_with, run_with}
use Rattle.calls.specs.History.{Call, key, withdraw, step, run, after_call, after_calls}
use Rattle.promise.specs.Indexes as indexes
use Rattle.promise.specs.Indexes.{lend, index_after, lent_on, as_lent}

-- After each of the five calls, where it is accepted: the first twice N numbers are the fresh count of the sheet that it leaves, the others
-- stay, and there are as many as before.
pub key_brings_it_up_to_date :
    (order : State) (index : List ℕ) (v : ℕ) (negative : Bool) →
    let left = (key_with order index v negative).lent in
    let n = options_in left.own.sheet in
    (is_accepted : (key_with order index v negative).answer ≡ accepted tt) →
    (take (2 * n) left.index ≡ fresh_count left.own.sheet)
    × (drop (2 * n) left.index ≡ drop (2 * n) index)
    × (length left.index ≡ length index)
key_brings_it_up_to_date order index v negative e =
    let u = (indexes.brought_up_to_date).key order index v negative e in
    (u.fresh, u.rest_stays, u.length_stays)

pub withdrawal_brings_it_up_to_date :
    (order : State) (book index : List ℕ) (k : ℕ) →
    let left = (withdraw_with order book index k).lent in
    let n = options_in left.own.sheet in
    (is_accepted : (withdraw_with order book index k).answer ≡ accepted tt) →
    (take (2 * n) left.index ≡ fresh_count left.own.sheet)
    × (drop (2 * n) left.index ≡ drop (2 * n) index)
    × (length left.index ≡ length index)
withdrawal_brings_it_up_to_date order book index k e =
    let u = (indexes.brought_up_to_date).withdraw order book index k e in
    (u.fresh, u.rest_stays, u.length_stays)

pub step_brings_it_up_to_date :
    (sheet index : List ℕ) (r p i j : ℕ) →
    let left = (step_with sheet index r p i j).lent in
    let n = options_in left.own in
    (is_accepted : (step_with sheet index r p i j).answer ≡ accepted tt) →
    (take (2 * n) left.index ≡ fresh_count left.own)
    × (drop (2 * n) left.index ≡ drop (2 * n) index)
    × (length left.index ≡ length index)
step_brings_it_up_to_date sheet index r p i j e =
    let u = (indexes.brought_up_to_date).step sheet index r p i j e in
    (u.fresh, u.rest_stays, u.length_stays)

pub run_brings_it_up_to_date :
    (sheet index : List ℕ) (budget : ℕ) (ran : Ran) →
    let left = (run_with sheet index budget).lent in
    let n = options_in left.own in
    (is_accepted : (run_with sheet index budget).answer ≡ accepted ran) →
    (take (2 * n) left.index ≡ fresh_count left.own)
    × (drop (2 * n) left.index ≡ drop (2 * n) index)
    × (length left.index ≡ length index)
run_brings_it_up_to_date sheet index budget ran e =
    let u = (indexes.brought_up_to_date).run sheet index budget ran e in
    (u.fresh, u.rest_stays, u.length_stays)

-- "One call fills it from any sheet, whatever it held."
pub filled_from_any_sheet :
    (sheet index : List ℕ) →
    let n = options_in sheet in
    (is_accepted : (fill_of sheet index).answer ≡ accepted tt) →
    (take (2 * n) (fill_of sheet index).lent ≡ fresh_count sheet)
    × (drop (2 * n) (fill_of sheet index).lent ≡ drop (2 * n) index)
    × (length (fill_of sheet index).lent ≡ length index)
filled_from_any_sheet sheet index e =
    let u = (indexes.brought_up_to_date).fill sheet index e in
    (u.fresh, u.rest_stays, u.length_stays)

-- "No step raises any option's count": whatever is lent to a single step or to a run, and whatever it answers.
pub no_step_raises_a_count :
    (sheet index : List ℕ) (r p i j v : ℕ) →
    mark_count v (nodes_in (step_with sheet index r p i j).lent.own) ≤ mark_count v (nodes_in sheet)
no_step_raises_a_count = (indexes.no_step_raises_a_count).step

pub no_run_raises_a_count :
    (sheet index : List ℕ) (budget v : ℕ) →
    mark_count v (nodes_in (run_with sheet index budget).lent.own) ≤ mark_count v (nodes_in sheet)
no_run_raises_a_count = (indexes.no_step_raises_a_count).run

-- Calls that are lent the state and the index as the ones before left them: `lend` puts that index in place of a call's own, `index_after`
-- is the index that it leaves, `lent_on` what all of them leave, and `as_lent` the calls with the indexes that they were lent.
pub lent_so :
    (index own book : List ℕ) (v k r p i j budget : ℕ) (negative : Bool) →
    (lend index (key own v negative) ≡ key index v negative)
    × (lend index (withdraw book own k) ≡ withdraw book index k)
    × (lend index (step own r p i j) ≡ step index r p i j)
    × (lend index (run own budget) ≡ run index budget)
unfolding lend
lent_so index own book v k r p i j budget negative = (refl, refl, refl, refl)

pub index_left_so :
    (t : State) (index book : List ℕ) (v k r p i j budget : ℕ) (negative : Bool) →
    (index_after (key index v negative) t ≡ (key_with t index v negative).lent.index)
    × (index_after (withdraw book index k) t ≡ (withdraw_with t book index k).lent.index)
    × (index_after (step index r p i j) t ≡ (step_with t.sheet index r p i j).lent.index)
    × (index_after (run index budget) t ≡ (run_with t.sheet index budget).lent.index)
unfolding index_after
index_left_so t index book v k r p i j budget negative = (refl, refl, refl, refl)

pub lent_on_so :
    (h : Indexed State) (c : Call) (calls : List Call) →
    let lent = lend h.index c in
    let left : Indexed State = record { own = after_call lent h.own; index = index_after lent h.own } in
    (lent_on [] h ≡ h)
    × (lent_on (c ∷ calls) h ≡ lent_on calls left)
    × (as_lent [] h ≡ [])
    × (as_lent (c ∷ calls) h ≡ lent ∷ as_lent calls left)
unfolding lent_on as_lent
lent_on_so h c calls = (refl, refl, refl, refl)

-- From a freshly loaded book, any lines, and an index of at least twice N numbers, whatever they are: the fill is accepted; and after
-- every list of calls lent on from it the index is right, no further call is refused for it, it is as long as it was, and the state is the
-- one that demand 3 speaks of.
pub index_lent_on :
    (book target : List ℕ) (lines : List Line) (count : ℕ) (index : List ℕ) →
    let order : State = record { sheet = (load_of book target).lent; lines = lines; count = count } in
    let filled : Indexed State = record { own = order; index = (fill_of order.sheet index).lent } in
    (book_accepted : check_of book ≡ accepted tt) →
    (target_long_enough : length target ≡ 4098) →
    (index_has_room : 2 * options_of book ≤ length index) →
    ((fill_of order.sheet index).answer ≡ accepted tt)
    × ((calls : List Call) →
    let h = lent_on calls filled in
    let s = h.own.sheet in
    (take (2 * options_in s) h.index ≡ fresh_count s)
    × ((v : ℕ) (negative : Bool) → (key_with h.own h.index v negative).answer ≡ (key_of h.own v negative).answer)
    × ((other : List ℕ) (k : ℕ) → (withdraw_with h.own other h.index k).answer ≡ (withdraw_of h.own other k).answer)
    × ((r p i j : ℕ) → (step_with s h.index r p i j).answer ≡ (step_of s r p i j).answer)
    × ((budget : ℕ) → (run_with s h.index budget).answer ≡ (run_of s budget).answer)
    × (length h.index ≡ length filled.index)
    × (h.own ≡ after_calls (as_lent calls filled) order))
index_lent_on book target lines count index ok long room =
    let w = indexes.index_lent_on book target lines count index ok long room in (
      w.0,
      λ calls.
          let l = w.1 calls in
          let r = l.index_right in
          (r.fresh, r.key, r.withdraw, r.step, r.run, l.length_stays, l.state_is),
    )
