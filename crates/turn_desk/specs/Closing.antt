-- What closing a desk says of the passes that are handed to it.
use Rattle.std.specs.Prelude.{◌≡◌, ℕ, ◌+◌, ◌<◌, List, [], ◌∷◌, length, All}
use Rattle.std.specs.List.{flat_map}
use Rattle.atomic_table.specs.Seated.{TableId}
use Rattle.one_history.specs.declared.entry.Entry.{Entry}
use Rattle.turn_desk.specs.declared.view.View.{View}
use Rattle.turn_desk.specs.declared.view.Kept.{Kept}
use Rattle.turn_desk.specs.Numbers.{IsAmong, AreDistinct}
use Rattle.turn_desk.specs.View.{kept_by, numbers_in, numbers_of, AgreesWith}
use Rattle.turn_desk.specs.Calls.{Continues, IsRefused}

-- what contracts see of a pass or a note: which desk made it, and its view
abbrev pub PassValue : Type 0 → Type 0
PassValue M = TableId × View M

module _ {M : Type 0} where
  -- what these passes keep: of their own numbers, and of those that they have taken in
  abbrev pub kept_by_all : List (PassValue M) → List (Kept M)
  kept_by_all passes = flat_map (λ p. kept_by p.1) passes

  abbrev pub numbers_of_all : List (PassValue M) → List ℕ
  numbers_of_all passes = numbers_in (kept_by_all passes)

  -- each number that was made from the pass is among these
  abbrev pub HasAllMadeFrom : List ℕ → View M → Type 0
  HasAllMadeFrom numbers v = (k : ℕ) → IsAmong k v.made_from → IsAmong k numbers

  -- the journal of a desk that was closed with these passes
  pub record Closes (passes : List (PassValue M)) (journal : List (Entry M)) : Type 0 where
    -- all that they keep agrees with the journal
    pub kept : All (AgreesWith journal) (kept_by_all passes)
    -- each entry has a number of theirs
    pub callers : All (λ e. IsAmong e.caller (numbers_of_all passes)) journal
    -- no number is given twice, and 0 and each number that was made from a given pass is given
    pub distinct : AreDistinct (numbers_of_all passes)
    pub first : IsAmong 0 (numbers_of_all passes)
    pub made_from : All (λ p. HasAllMadeFrom (numbers_of_all passes) p.1) passes

  -- the desk stays open, since fewer passes and notes were given than were made: the first pass has taken a turn, and the
  -- others are unchanged
  pub record StaysOpen (passes : List (PassValue M)) (made given : ℕ) (passes_back : List (PassValue M)) : Type 0 where
    pub fewer : given < made
    pub counted : given ≡ length (kept_by_all passes)
    pub first : PassValue M
    pub first_back : PassValue M
    pub others : List (PassValue M)
    pub passes_are : passes ≡ first ∷ others
    pub passes_back_are : passes_back ≡ first_back ∷ others
    pub desk : first_back.0 ≡ first.0
    pub continues : Continues first.1 first_back.1
    pub refused : IsRefused first.1 first_back.1
    pub draws : first_back.1.draws ≡ first.1.draws + 1
    pub made_is : first_back.1.made ≡ made
    -- a single pass that is 0 or has taken in 0, and has taken in each number that was made from it, is never refused
    pub never_alone : others ≡ [] → IsAmong 0 (numbers_of first.1) → HasAllMadeFrom (numbers_of first.1) first.1 → ⊥
