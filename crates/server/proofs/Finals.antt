-- From what the places say to what is said of all sessions.
use Rattle.std.proofs.Common.{◌≡◌, ℕ, suc, ◌+◌, ◌<◌, ◌≤◌, ◌⊎◌, inl, inr, map, drop, List, [], ◌∷◌, ◌++◌, length, sym, refl, ap, ◌∙◌, subst, ⊎_elim, arith, All, get_or, length-append}
use Rattle.std.specs.List.{AllZip, flat_map, sum_by}
use Rattle.std.proofs.lemmas.List.{map-append, append_assoc, drop_at}
use Rattle.std.proofs.lemmas.List.Elements.{All-append, All-cons, All-tail, All-nil, All-weaker}
use Rattle.std.proofs.lemmas.List.Sums.{sum_by-cons}
use Rattle.one_history.specs.declared.entry.Entry.{Entry}
use Rattle.turn_desk.specs.Numbers.{times_in, IsAmong}
use Rattle.turn_desk.specs.View.{own_of, kept_by, numbers_in}
use Rattle.turn_desk.specs.declared.view.View.{View}
use Rattle.turn_desk.specs.declared.view.Kept.{Kept}
use Rattle.turn_desk.proofs.Numbers.{times-append, among_first}
use Rattle.server.specs.declared.worker.Session.{Session}
use Rattle.server.specs.Work.{IsSessionOf, HasPass, TakesBack, OthersAreSilent, callers_of}
use Rattle.server.specs.Place.{Serves}

-- equal at each place
pub same_map : {A B : Type 0} (f : A → B) (xs ys : List A) → length ys ≡ length xs → ((i : ℕ) (d : A) → i < length xs → f (get_or ys i d) ≡ f (get_or xs i d)) → map f ys ≡ map f xs
same_map f [] [] e h = refl
same_map f [] (y ∷ ys) e h = absurd (omega arith)
same_map f (x ∷ xs) [] e h = absurd (omega arith)
same_map f (x ∷ xs) (y ∷ ys) e h = λ i. h 0 x (omega arith) i ∷ same_map f xs ys (omega arith) (λ j d lt. h (suc j) d (omega arith)) i

pub length_flat : {A B : Type 0} (f : A → List B) (l : List A) → length (flat_map f l) ≡ sum_by (λ x. length (f x)) l
length_flat f [] = refl
length_flat f (x ∷ l) = length-append (f x) (flat_map f l) ∙ (ap (λ n. length (f x) + n) (length_flat f l) ∙ sym (sum_by-cons (λ x. length (f x)) x l))

callers-append : {E : Type 0} (k : ℕ) (xs ys : List (Session E)) → times_in k (callers_of (xs ++ ys)) ≡ times_in k (callers_of xs) + times_in k (callers_of ys)
callers-append k xs ys = ap (times_in k) (map-append (λ s. s.caller) xs ys) ∙ times-append k (callers_of xs) (callers_of ys)

numbers-append : {M : Type 0} (k : ℕ) (xs ys : List (Kept M)) → times_in k (numbers_in (xs ++ ys)) ≡ times_in k (numbers_in xs) + times_in k (numbers_in ys)
numbers-append k xs ys = ap (times_in k) (map-append (λ z. z.number) xs ys) ∙ times-append k (numbers_in xs) (numbers_in ys)

module _ {E M : Type 0} (relates : E → ℕ → ℕ → List (Entry M) → Type 0) where
  zip_has : (ss : List (Session E)) (ks : List (Kept M)) → AllZip (IsSessionOf relates) ss ks → All (HasPass relates ks) ss
  zip_has [] ks h = All-nil (HasPass relates ks)
  zip_has (s ∷ ss) [] h = absurd h
  zip_has (s ∷ ss) (k ∷ ks) h = All-cons (HasPass relates (k ∷ ks)) s ss (inl h.0) (λ i d lt. inr (zip_has ss ks h.1 i d lt))

  zip_callers : (ss : List (Session E)) (ks : List (Kept M)) → AllZip (IsSessionOf relates) ss ks → callers_of ss ≡ numbers_in ks
  zip_callers [] [] h = refl
  zip_callers [] (k ∷ ks) h = absurd h
  zip_callers (s ∷ ss) [] h = absurd h
  zip_callers (s ∷ ss) (k ∷ ks) h = λ i. sym h.0.caller i ∷ zip_callers ss ks h.1 i

  has_left : (ks rest : List (Kept M)) (s : Session E) → HasPass relates ks s → HasPass relates (ks ++ rest) s
  has_left [] rest s h = absurd h
  has_left (k ∷ ks) rest s h = ⊎_elim (λ x. inl x) (λ (x : HasPass relates ks s). inr (has_left ks rest s x)) h

  has_right : (ks rest : List (Kept M)) (s : Session E) → HasPass relates rest s → HasPass relates (ks ++ rest) s
  has_right [] rest s h = h
  has_right (k ∷ ks) rest s h = inr (has_right ks rest s h)

  silent_right : (first rest : List (Session E)) (ks : List (Kept M)) → OthersAreSilent rest ks → OthersAreSilent (first ++ rest) ks
  silent_right first rest ks h = All-weaker (λ kept. (kept.calls ≡ []) ⊎ IsAmong kept.number (callers_of rest)) (λ kept. (kept.calls ≡ []) ⊎ IsAmong kept.number (callers_of (first ++ rest)))
      (λ kept. ⊎_elim (λ e. inl e) (λ (among : IsAmong kept.number (callers_of rest)). inr (let a = callers-append kept.number first rest in omega arith))) ks h

  silent_left : (first rest : List (Session E)) (ks : List (Kept M)) → OthersAreSilent first ks → OthersAreSilent (first ++ rest) ks
  silent_left first rest ks h = All-weaker (λ kept. (kept.calls ≡ []) ⊎ IsAmong kept.number (callers_of first)) (λ kept. (kept.calls ≡ []) ⊎ IsAmong kept.number (callers_of (first ++ rest)))
      (λ kept. ⊎_elim (λ e. inl e) (λ (among : IsAmong kept.number (callers_of first)). inr (let a = callers-append kept.number first rest in omega arith))) ks h

  -- the numbers of sessions are the callers', so each of them is a session's caller
  zip_silent : (ss : List (Session E)) (ks : List (Kept M)) → AllZip (IsSessionOf relates) ss ks → OthersAreSilent ss ks
  zip_silent [] [] h = All-nil (λ (kept : Kept M). (kept.calls ≡ []) ⊎ IsAmong kept.number (callers_of {E = E} []))
  zip_silent [] (k ∷ ks) h = absurd h
  zip_silent (s ∷ ss) [] h = absurd h
  zip_silent (s ∷ ss) (k ∷ ks) h = All-cons (λ kept. (kept.calls ≡ []) ⊎ IsAmong kept.number (callers_of (s ∷ ss))) k ks
      (inr (subst (λ z. IsAmong z (s.caller ∷ callers_of ss)) (sym h.0.caller) (among_first s.caller (callers_of ss))))
      (silent_right (s ∷ []) ss ks (zip_silent ss ks h.1))

  module _ {A : Type 0} (pass : A → View M) (sessions : A → List (Session E)) (n : ℕ) where
    pub all_have : (l : List A) → All (λ p. Serves relates n (sessions p) (pass p)) l → All (HasPass relates (flat_map (λ p. kept_by (pass p)) l)) (flat_map sessions l)
    all_have [] h = All-nil (HasPass {M = M} relates [])
    all_have (p ∷ l) h = let rest = flat_map (λ p. kept_by (pass p)) l in let mine = zip_has (sessions p) (pass p).taken_in (h 0 p (omega arith)).taken_in in let more = all_have l (All-tail (λ p. Serves relates n (sessions p) (pass p)) p l h) in
        All-append (HasPass relates (kept_by (pass p) ++ rest)) (sessions p) (flat_map sessions l) (λ k d lt. inr (has_left (pass p).taken_in rest _ (mine k d lt))) (λ k d lt. has_right (kept_by (pass p)) rest _ (more k d lt))

    pub callers_taken : (l : List A) → All (λ p. Serves relates n (sessions p) (pass p)) l → (k : ℕ) → times_in k (callers_of (flat_map sessions l)) ≤ times_in k (numbers_in (flat_map (λ p. kept_by (pass p)) l))
    callers_taken [] h k = omega arith
    callers_taken (p ∷ l) h k = let rest = flat_map (λ p. kept_by (pass p)) l in let e = ap (times_in k) (zip_callers (sessions p) (pass p).taken_in (h 0 p (omega arith)).taken_in) in let more = callers_taken l (All-tail (λ p. Serves relates n (sessions p) (pass p)) p l h) k in
        let a = callers-append k (sessions p) (flat_map sessions l) in let b = numbers-append k (kept_by (pass p)) rest in omega arith

    pub all_silent : (l : List A) → All (λ p. Serves relates n (sessions p) (pass p)) l → OthersAreSilent (flat_map sessions l) (flat_map (λ p. kept_by (pass p)) l)
    all_silent [] h = All-nil (λ (kept : Kept M). (kept.calls ≡ []) ⊎ IsAmong kept.number (callers_of {E = E} []))
    all_silent (p ∷ l) h = let served = h 0 p (omega arith) in let ss = sessions p ++ flat_map sessions l in
        All-append (λ kept. (kept.calls ≡ []) ⊎ IsAmong kept.number (callers_of ss)) (kept_by (pass p)) (flat_map (λ p. kept_by (pass p)) l)
        (All-cons (λ kept. (kept.calls ≡ []) ⊎ IsAmong kept.number (callers_of ss)) (own_of (pass p)) (pass p).taken_in (inl served.calls)
        (silent_left (sessions p) (flat_map sessions l) (pass p).taken_in (zip_silent (sessions p) (pass p).taken_in served.taken_in)))
        (silent_right (sessions p) (flat_map sessions l) (flat_map (λ p. kept_by (pass p)) l) (all_silent l (All-tail (λ p. Serves relates n (sessions p) (pass p)) p l h)))

    -- the passes, and what was made from them, are what was taken in
    pub made_taken : (l : List A) → All (λ p. Serves relates n (sessions p) (pass p)) l → (k : ℕ) → times_in k (map (λ p. (pass p).number) l) + times_in k (flat_map (λ p. (pass p).made_from) l) ≡ times_in k (numbers_in (flat_map (λ p. kept_by (pass p)) l))
    made_taken [] h k = refl
    made_taken (p ∷ l) h k = let rest = flat_map (λ p. kept_by (pass p)) l in let e = ap (times_in k) (h 0 p (omega arith)).made_from in let more = made_taken l (All-tail (λ p. Serves relates n (sessions p) (pass p)) p l h) k in
        let a = times-append k (pass p).made_from (flat_map (λ p. (pass p).made_from) l) in let b = numbers-append k (kept_by (pass p)) rest in omega arith

pub since_is : {A : Type 0} (before after more : List A) → after ≡ before ++ more → drop (length before) after ≡ more
since_is before after more e = ap (drop (length before)) e ∙ drop_at before more (length before) refl

module _ {M : Type 0} where
  -- what was made from the pass, in two steps, was taken in
  pub takes_back : (v w : View M) (taken : List (Kept M)) (passes made : List ℕ) → w.taken_in ≡ v.taken_in ++ taken → w.made_from ≡ (v.made_from ++ passes) ++ made
      → ((k : ℕ) → times_in k passes + times_in k made ≡ times_in k (numbers_in taken)) → TakesBack v w
  takes_back v w taken passes made t m same = let all = m ∙ append_assoc v.made_from passes made in record {
    taken_in = (taken, sym t);
    made_from = (passes ++ made, sym all);
    same = λ k. ap (times_in k) (since_is v.made_from w.made_from (passes ++ made) all) ∙ (times-append k passes made ∙ (same k ∙ ap (λ z. times_in k (numbers_in z)) (sym (since_is v.taken_in w.taken_in taken t))));
  }
