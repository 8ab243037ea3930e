-- What a pass or a note knows, its view: after each step, and between two calls.
use Rattle.std.specs.Prelude.{◌≡◌, ℕ, true, false, ◌+◌, ◌<◌, ◌≤◌, cond, nat_lt, map, List, [], ◌∷◌, ◌++◌, length}
use mathlib.Core.List.{IsPrefix}
use Rattle.one_history.specs.declared.entry.Entry.{Entry}
use Rattle.one_history.specs.declared.journal.TheConstants.{JOURNAL_MAX}
use Rattle.one_history.specs.History.{entries_by, HasSeen}
use Rattle.turn_desk.specs.declared.limits.TheConstants.{PASSES_MAX}
use Rattle.turn_desk.specs.declared.view.View.{View}
use Rattle.turn_desk.specs.declared.view.Kept.{Kept}

module _ {M : Type 0} where
  -- a new pass or note with this number, which has seen this: it has made no calls, drawn no turns and taken nothing in,
  -- and nothing was made from it
  abbrev pub new_view : ℕ → List (Entry M) → View M
  new_view number seen = record {
    number = number;
    seen = seen;
    calls = [];
    draws = 0;
    taken_in = [];
    made_from = [];
    made = 0;
    has_ticket = false;
    ticket = 0;
    has_turn = false;
    handed = [];
    has_read = false;
    seen_before = [];
    spent = false;
  }

  -- what a pass keeps of its own number, and what its taker keeps of it
  abbrev pub own_of : View M → Kept M
  own_of v = record { number = v.number; calls = v.calls; seen = v.seen }

  -- what a pass keeps: of its own number, and of each number that it has taken in
  abbrev pub kept_by : View M → List (Kept M)
  kept_by v = own_of v ∷ v.taken_in

  -- the numbers of which something is kept
  abbrev pub numbers_in : List (Kept M) → List ℕ
  numbers_in kept = map (λ k. k.number) kept

  -- the pass's own number, and those that it has taken in
  abbrev pub numbers_of : View M → List ℕ
  numbers_of v = numbers_in (kept_by v)

  -- what is kept of a number agrees with a history: the calls are the entries with this number, what was seen is a prefix of
  -- the history, and has all these calls
  pub record AgreesWith (history : List (Entry M)) (kept : Kept M) : Type 0 where
    pub calls : entries_by kept.number history ≡ kept.calls
    pub seen : IsPrefix kept.seen history
    pub own : HasSeen kept.seen kept.number kept.calls

  -- pass 0, as long as nothing was made from it and it has taken in nothing
  abbrev pub IsOnlyPass : View M → Type 0
  IsOnlyPass v = (v.number ≡ 0) × (v.made_from ≡ []) × (v.taken_in ≡ [])

  -- a pass or a note between two calls
  pub record IsIdle (v : View M) : Type 0 where
    pub has_ticket : v.has_ticket ≡ false
    pub has_turn : v.has_turn ≡ false
    pub has_read : v.has_read ≡ false
    pub spent : v.spent ≡ false
    pub own : HasSeen v.seen v.number v.calls
    pub seen : length v.seen ≤ JOURNAL_MAX
    pub taken_in : length v.taken_in < PASSES_MAX
    pub only : IsOnlyPass v → v.seen ≡ v.calls

  -- The view after each step.

  abbrev pub after_draw : ℕ → View M → View M
  after_draw ticket v = record v { has_ticket = true; ticket = ticket; draws = v.draws + 1 }

  -- the ticket is served: the pass has the turn, and is handed what the slot holds
  abbrev pub after_look : List (Entry M) → ℕ → View M → View M
  after_look history made v = record v { has_turn = true; handed = history; made = made }

  abbrev pub after_read : View M → View M
  after_read v = record v { has_read = true; seen = v.handed; seen_before = [] }

  -- a pass in its turn, which has read: with its ticket, the history, and the number of passes and notes made
  abbrev pub in_turn : ℕ → List (Entry M) → ℕ → View M → View M
  in_turn ticket history made v = after_read (after_look history made (after_draw ticket v))

  -- the history has an entry more, its own
  abbrev pub after_commit : List (Entry M) → View M → View M
  after_commit history v = record v { seen = history; calls = entries_by v.number history }

  abbrev pub after_leave : View M → View M
  after_leave v = record v { has_ticket = false; has_turn = false; has_read = false }

  -- a holder that has made one pass or note more, and the one that it made
  abbrev pub after_split : View M → View M
  after_split v = record v { made_from = v.made_from ++ v.made ∷ []; made = v.made + 1 }

  abbrev pub split_off : View M → View M
  split_off v = new_view v.made v.seen

  abbrev pub longer : List (Entry M) → List (Entry M) → List (Entry M)
  longer a b = cond (nat_lt (length a) (length b)) b a

  -- a pass that has taken in another: a holder has seen all already, and any other has seen the longer of both histories
  abbrev pub after_join : View M → View M → View M
  after_join v other = record v {
    seen = cond v.has_read v.seen (longer v.seen other.seen);
    seen_before = v.seen;
    taken_in = v.taken_in ++ kept_by other;
    made_from = v.made_from ++ other.made_from;
  }

  -- what is left of a pass that was taken in
  abbrev pub spent_view : View M
  spent_view = record (new_view 0 []) { spent = true }

  -- a pass that has learned that what it keeps agrees with one history
  abbrev pub after_learn : View M → View M
  after_learn v = record v { seen_before = [] }
