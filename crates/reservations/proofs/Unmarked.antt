-- Lists of reservations with a mark for each.
use Rattle.std.proofs.Common.{◌≡◌, ◌<◌, ◌+◌, ℕ, List, [], ◌∷◌, ◌++◌, length, take, drop, suc, replicate, Bool, true, false, cond, refl, ap, sym, ◌∙◌, arith}
use Rattle.std.specs.Prelude.{All}
use lib.ListN.{get_or, set}
use Rattle.std.proofs.lemmas.List.{take_more, drop_more, take-append-drop, set_split, length-take}
use Rattle.std.proofs.lemmas.List.Elements.{All-cons, All-head, All-tail}
use Rattle.plan_base.specs.Held.{IsGoodReservation}
use Rattle.plan_base.specs.declared.held.Reservation.{Reservation}
use Rattle.reservations.specs.Marks.{unmarked}

pub unmarked_none : (marks : List Bool) → unmarked [] marks ≡ []
unfolding unmarked
unmarked_none marks = refl

unmarked_unknown : (r : Reservation) (rs : List Reservation) → unmarked (r ∷ rs) [] ≡ r ∷ rs
unfolding unmarked
unmarked_unknown r rs = refl

-- one more at the front
pub unmarked_first : (r : Reservation) (rs : List Reservation) (m : Bool) (ms : List Bool) → unmarked (r ∷ rs) (m ∷ ms) ≡ cond m (unmarked rs ms) (r ∷ unmarked rs ms)
unfolding unmarked
unmarked_first r rs m ms = refl

-- two lists one after another
both : (rs : List Reservation) (ms : List Bool) (qs : List Reservation) (ns : List Bool) → length ms ≡ length rs → unmarked (rs ++ qs) (ms ++ ns) ≡ unmarked rs ms ++ unmarked qs ns
both [] [] qs ns same = rw (unmarked_none []) refl
both [] (m ∷ ms) qs ns same = absurd (omega (arith, same))
both (r ∷ rs) [] qs ns same = absurd (omega (arith, same))
both (r ∷ rs) (true ∷ ms) qs ns same =
    unmarked_first r (rs ++ qs) true (ms ++ ns) ∙ both rs ms qs ns (omega (arith, same)) ∙ ap (λ l. l ++ unmarked qs ns) (sym (unmarked_first r rs true ms))
both (r ∷ rs) (false ∷ ms) qs ns same =
    unmarked_first r (rs ++ qs) false (ms ++ ns) ∙ ap (λ l. r ∷ l) (both rs ms qs ns (omega (arith, same))) ∙ ap (λ l. l ++ unmarked qs ns) (sym (unmarked_first r rs false ms))

module _ (list : List Reservation) (marks : List Bool) (i : ℕ) (r : Reservation) (m : Bool) where
  -- what is left of the first i + 1, by the mark of the last of them
  pub unmarked_more : i < length list → length marks ≡ length list → r ≡ get_or list i r → m ≡ get_or marks i false
      → unmarked (take (i + 1) list) (take (i + 1) marks) ≡ unmarked (take i list) (take i marks) ++ cond m [] (r ∷ [])
  unmarked_more within same reads marked =
      let front : take (i + 1) list ≡ take i list ++ r ∷ [] = take_more list i r within ∙ ap (λ x. take i list ++ x ∷ []) (sym reads) in
      let front_marks : take (i + 1) marks ≡ take i marks ++ m ∷ [] = take_more marks i false (omega (arith, same)) ∙ ap (λ x. take i marks ++ x ∷ []) (sym marked) in
      let long : length (take i marks) ≡ length (take i list) = omega (arith, same, within, length-take i marks, length-take i list) in
      let last : unmarked (r ∷ []) (m ∷ []) ≡ cond m [] (r ∷ []) = unmarked_first r [] m [] ∙ ap (λ l. cond m l (r ∷ l)) (unmarked_none []) in
      (λ t. unmarked (front t) (front_marks t)) ∙ both (take i list) (take i marks) (r ∷ []) (m ∷ []) long ∙ ap (λ l. unmarked (take i list) (take i marks) ++ l) last

  -- what is left from the place on, by the mark there
  pub unmarked_rest : i < length list → length marks ≡ length list → r ≡ get_or list i r → m ≡ get_or marks i false
      → unmarked (drop i list) (drop i marks) ≡ cond m (unmarked (drop (i + 1) list) (drop (i + 1) marks)) (r ∷ unmarked (drop (i + 1) list) (drop (i + 1) marks))
  unmarked_rest within same reads marked =
      let rest : drop i list ≡ r ∷ drop (i + 1) list = drop_more list i r within ∙ ap (λ x. x ∷ drop (i + 1) list) (sym reads) in
      let rest_marks : drop i marks ≡ m ∷ drop (i + 1) marks = drop_more marks i false (omega (arith, same)) ∙ ap (λ x. x ∷ drop (i + 1) marks) (sym marked) in
      (λ t. unmarked (rest t) (rest_marks t)) ∙ unmarked_first r (drop (i + 1) list) m (drop (i + 1) marks)

  -- the mark at the place is set
  pub unmarked_set : i < length list → length marks ≡ length list
      → unmarked list (set marks i true) ≡ unmarked (take i list) (take i marks) ++ unmarked (drop (i + 1) list) (drop (i + 1) marks)
  unmarked_set within same =
      let parts : list ≡ take i list ++ get_or list i r ∷ drop (i + 1) list = sym (take-append-drop i list) ∙ ap (λ l. take i list ++ l) (drop_more list i r within) in
      let next : suc i ≡ i + 1 = omega arith in
      let parts_marks : set marks i true ≡ take i marks ++ true ∷ drop (i + 1) marks = set_split marks i true (omega (arith, same)) ∙ ap (λ n. take i marks ++ true ∷ drop n marks) next in
      let long : length (take i marks) ≡ length (take i list) = omega (arith, same, within, length-take i marks, length-take i list) in
      (λ t. unmarked (parts t) (parts_marks t)) ∙ both (take i list) (take i marks) (get_or list i r ∷ drop (i + 1) list) (true ∷ drop (i + 1) marks) long
      ∙ ap (λ l. unmarked (take i list) (take i marks) ++ l) (unmarked_first (get_or list i r) (drop (i + 1) list) true (drop (i + 1) marks))

-- without a mark all are left
pub unmarked_all : (list : List Reservation) → unmarked list (replicate (length list) false) ≡ list
unmarked_all [] = unmarked_none _
unmarked_all (r ∷ rs) = unmarked_first r rs false (replicate (length rs) false) ∙ ap (λ l. r ∷ l) (unmarked_all rs)

-- those that are left are as good as all
pub unmarked_good : (list : List Reservation) (marks : List Bool) → All IsGoodReservation list → All IsGoodReservation (unmarked list marks)
unmarked_good [] marks good = rw (unmarked_none marks) good
unmarked_good (r ∷ rs) [] good = rw (unmarked_unknown r rs) good
unmarked_good (r ∷ rs) (true ∷ ms) good = rw (unmarked_first r rs true ms) (unmarked_good rs ms (All-tail IsGoodReservation r rs good))
unmarked_good (r ∷ rs) (false ∷ ms) good =
    rw (unmarked_first r rs false ms) (All-cons IsGoodReservation r (unmarked rs ms) (All-head IsGoodReservation r rs good) (unmarked_good rs ms (All-tail IsGoodReservation r rs good)))
