-- What grows as places are taken in, and why there is room for all sessions.
use Rattle.std.proofs.Common.{◌≡◌, ℕ, suc, ◌+◌, ◌<◌, ◌≤◌, map, List, [], ◌∷◌, ◌++◌, length, sym, refl, ap, ◌∙◌, subst, arith, All, Option}
use Rattle.std.specs.List.{flat_map}
use Rattle.std.proofs.lemmas.List.{map-append, map_push, append-nil, append_assoc, length-map, length-append, flat_map_more}
use Rattle.std.proofs.lemmas.List.Elements.{All-tail, All-append, All-nil, All-push}
use mathlib.Core.Logic.{dite}
use native.Mathlib.Decide.{ℕ_discrete}
use Rattle.turn_desk.specs.Numbers.{times_in, IsAmong, AreDistinct}
use Rattle.turn_desk.specs.Rule.{total}
use Rattle.turn_desk.proofs.Numbers.{times-append, not_single, no_more}
use Rattle.turn_desk.proofs.Lists.{total-append, all_left}
use Rattle.server.specs.declared.counter.Drawn.{Drawn}
use Rattle.server.specs.declared.place.Stop.{Stop}
use Rattle.server.specs.declared.worker.Session.{Session}
use Rattle.server.specs.declared.worker.WorkFault.{WorkFault}
use Rattle.server.specs.Work.{session_numbers}
use Rattle.server.specs.Gathering.{Drew, fault_of, faults_from}

module _ {A B : Type 0} (f : A → List B) where
  pub more_after : (start xs ys : List B) (l : List A) (x : A) → ys ≡ xs ++ f x → xs ≡ start ++ flat_map f l → ys ≡ start ++ flat_map f (l ++ x ∷ [])
  more_after start xs ys l x e h = e ∙ (ap (λ z. z ++ f x) h ∙ flat_map_more f start l x)

pub more_total : {A : Type 0} (f : A → ℕ) (m n : ℕ) (l : List A) (x : A) → n ≡ m + f x → m ≡ 1 + total f l → n ≡ 1 + total f (l ++ x ∷ [])
more_total f m n l x e h = omega (arith, total-append f l (x ∷ []), e, h)

pub more_map : {A B : Type 0} (f : A → B) (xs ys : List B) (l : List A) (x : A) → ys ≡ xs ++ f x ∷ [] → xs ≡ map f l → ys ≡ map f (l ++ x ∷ [])
more_map f xs ys l x e h = e ∙ (ap (λ z. z ++ f x ∷ []) h ∙ sym (map_push f l x))

faults_push : (n : ℕ) (ss : List (Option Stop)) (s : Option Stop) → faults_from n (ss ++ s ∷ []) ≡ faults_from n ss ++ fault_of (n + length ss) s
faults_push n [] s = append-nil (fault_of n s) ∙ ap (λ k. fault_of k s) (omega arith)
faults_push n (x ∷ ss) s = ap (λ z. fault_of n x ++ z) (faults_push (n + 1) ss s ∙ ap (λ k. faults_from (n + 1) ss ++ fault_of k s) (omega arith)) ∙ sym (append_assoc (fault_of n x) (faults_from (n + 1) ss) (fault_of (n + suc (length ss)) s))

pub more_faults : {A : Type 0} (f : A → Option Stop) (xs ys : List WorkFault) (n : ℕ) (l : List A) (x : A) → ys ≡ xs ++ fault_of n (f x) → n ≡ length l → xs ≡ faults_from 0 (map f l) → ys ≡ faults_from 0 (map f (l ++ x ∷ []))
more_faults f xs ys n l x e count h = let q : length (map f l) ≡ length l = length-map _ _ in let z : n ≡ 0 + length (map f l) = omega arith in
    e ∙ ((λ i. h i ++ fault_of (z i) (f x)) ∙ (sym (faults_push 0 (map f l) (f x)) ∙ ap (faults_from 0) (sym (map_push f l x))))

pub few_more : {A : Type 0} (a b : ℕ) (l : List A) (x : A) → b ≤ a + 1 → a ≤ length l → b ≤ length (l ++ x ∷ [])
few_more a b l x h k = let e = length-append l (x ∷ []) in omega arith

pub one_longer : {A : Type 0} (n : ℕ) (l : List A) (x : A) → n ≡ length l → n + 1 ≡ length (l ++ x ∷ [])
one_longer n l x h = let e = length-append l (x ∷ []) in omega arith

pub le_on : (a b c : ℕ) → a ≤ b → b ≤ c → a ≤ c
le_on a b c h k = omega arith

pub splits_kept : (start a b c : ℕ) → c ≡ a + b → start ≤ a → start ≤ c
splits_kept start a b c e h = omega arith

pub never_full : (connections start cap have more a b : ℕ) → a + b ≤ connections → have ≡ a → more ≡ b → connections ≤ start → start ≤ cap → cap < have + more → ⊥
never_full connections start cap have more a b room h m k s full = omega arith

-- those that were yielded, and one more
pub so_far : {A : Type 0} (P : A → Type 0) (xs ys zs all : List A) (x : A) → All P all → ys ≡ x ∷ zs → xs ++ ys ≡ all → All P (xs ++ x ∷ [])
so_far P xs ys zs all x h e f = all_left P (xs ++ x ∷ []) zs (subst (All P) (sym f ∙ (ap (λ l. xs ++ l) e ∙ sym (append_assoc xs (x ∷ []) zs))) h)

pub all_grows : {A : Type 0} (P : A → Type 0) (xs ys : List A) (x : A) → ys ≡ xs ++ x ∷ [] → All P xs → P x → All P ys
all_grows P xs ys x e h p = subst (All P) (sym e) (All-push P xs x h p)

-- if more is to come, what was yielded is shorter than all
pub yet_shorter : {A : Type 0} (yielded rest all : List A) (x : A) (zs : List A) → rest ≡ x ∷ zs → yielded ++ rest ≡ all → length yielded < length all
yet_shorter yielded rest all x zs e f = let s = ap length f in let t = length-append yielded rest in let u = ap length e in omega arith

pub below_of : {E : Type 0} (n : ℕ) (ss : List (Session E)) → All (λ s. s.number < n) ss → (k : ℕ) → IsAmong k (session_numbers ss) → k < n
below_of n [] h k t = absurd (omega arith)
below_of n (s ∷ ss) h k t = dite (ℕ_discrete k s.number) (λ e. let x = h 0 s (omega arith) in omega arith)
    (λ ne. let z = not_single k s.number ne in below_of n ss (All-tail (λ s. s.number < n) s ss h) k (omega arith))

module _ {A E : Type 0} (drawn : A → Drawn) (sessions : A → List (Session E)) (n : ℕ) where
  pub drew_times : (l : List A) → All (λ p. Drew n (drawn p) (sessions p)) l → (k : ℕ) → times_in k (session_numbers (flat_map sessions l)) ≤ times_in k (flat_map (λ p. (drawn p).numbers) l)
  drew_times [] h k = omega arith
  drew_times (p ∷ l) h k = let d = h 0 p (omega arith) in let more = drew_times l (All-tail (λ p. Drew n (drawn p) (sessions p)) p l h) k in
      let a = ap (times_in k) (map-append (λ (s : Session E). s.number) (sessions p) (flat_map sessions l)) ∙ times-append k (session_numbers (sessions p)) (session_numbers (flat_map sessions l)) in
      let b = times-append k (drawn p).numbers (flat_map (λ p. (drawn p).numbers) l) in let c = ap (times_in k) d.numbers ∙ times-append k (session_numbers (sessions p)) (d.last ∷ []) in omega arith

  pub drew_below : (l : List A) → All (λ p. Drew n (drawn p) (sessions p)) l → All (λ s. s.number < n) (flat_map sessions l)
  drew_below [] h = All-nil (λ s. s.number < n)
  drew_below (p ∷ l) h = All-append (λ s. s.number < n) (sessions p) (flat_map sessions l) (h 0 p (omega arith)).below (drew_below l (All-tail (λ p. Drew n (drawn p) (sessions p)) p l h))

  -- there are at most as many sessions as connections
  few_sessions : (l : List A) → All (λ p. Drew n (drawn p) (sessions p)) l → AreDistinct (flat_map (λ p. (drawn p).numbers) l) → length (flat_map sessions l) ≤ n
  few_sessions l h once = let len : length (session_numbers (flat_map sessions l)) ≡ length (flat_map sessions l) = length-map _ _ in
      let m = no_more n (session_numbers (flat_map sessions l)) (λ k. let a = drew_times l h k in let b = once k in omega arith) (below_of n (flat_map sessions l) (drew_below l h)) in omega arith

  -- so there is room for the next ones
  pub has_room : (l : List A) (p : A) (have : List (Session E)) → All (λ p. Drew n (drawn p) (sessions p)) (l ++ p ∷ []) → (numbers : List ℕ) → AreDistinct numbers → numbers ≡ flat_map (λ p. (drawn p).numbers) (l ++ p ∷ []) → have ≡ flat_map sessions l
      → length have + length (sessions p) ≤ n
  has_room l p have h numbers once is so = let f = few_sessions (l ++ p ∷ []) h (subst AreDistinct is once) in
      let e : length (flat_map sessions (l ++ p ∷ [])) ≡ length have + length (sessions p) = ap length (sym (more_after sessions [] have (have ++ sessions p) l p refl so)) ∙ length-append have (sessions p) in omega arith
